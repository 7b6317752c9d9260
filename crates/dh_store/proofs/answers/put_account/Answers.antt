use Rattle.std.proofs.Common.{◌∙◌, nat_eq, Bool, refl}
use Rattle.std.specs.List.{list_any}
use Rattle.dh_types.specs.declared.client.Client.{Client}
use Rattle.dh_types.specs.declared.lease.Charge.{Charge}
use Rattle.dh_types.specs.declared.lease.Lease.{Lease}
use Rattle.dh_types.specs.declared.lease.Receipt.{Receipt}
use Rattle.dh_model.specs.Checks.{is_same_text}
use Rattle.dh_model.specs.Whole.{rows_where}
use Rattle.dh_laws.proofs.FactLemmas.Asked.{one_more}
use Rattle.dh_store.proofs.answers.put_account.Goals as goal

pub returns-clause-gathered : goal.returns-clause-gathered
returns-clause-gathered g c t b before at clean =
    let it = c.args.lease.now in
    let theirs : Client → Lease → Bool = λ client lease. is_same_text client.number lease.terms.client in
    let charged : Charge → Lease → Bool = λ charge lease. nat_eq charge.lease lease.terms.number in
    let paid : Receipt → Lease → Bool = λ receipt lease. nat_eq receipt.payment.lease lease.terms.number in
    let client = c.in_ok-look.ensures.brought.more t _ (λ row. list_any (theirs row) before) at refl in
    let charges = c.in_ok-look-2.ensures.brought.more t _ (λ row. list_any (charged row) before) client refl in
    let all = c.in_ok-look-3.ensures.brought.more t _ (λ row. list_any (paid row) before) charges refl clean in (
      all.0,
      all.1 ∙ (λ i. record b {
        books = record b.books {
          clients = rows_where (one_more theirs before it i) t.books.clients;
          charges = rows_where (one_more charged before it i) t.books.charges;
          receipts = rows_where (one_more paid before it i) t.books.receipts;
        };
      }),
    )
