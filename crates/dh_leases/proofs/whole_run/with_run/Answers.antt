use Rattle.std.proofs.Common.{◌∙◌, ap, arith, length, rules}
use Rattle.std.specs.FinMap.{values}
use Rattle.dh_model.specs.Leases.{dues}
use Rattle.dh_model.specs.Runs.{batch_size, closed_run}
use Rattle.dh_leases.proofs.PartLemmas.{no_more_dues}
use Rattle.dh_leases.proofs.RunLemmas.{run_made}
use Rattle.dh_leases.proofs.whole_run.with_run.Goals as goal

pub closed-run-requires : goal.closed-run-requires
closed-run-requires c =
    let dues = no_more_dues c.args.books.books.endings (values c.args.books.books.leases) c.month.result in
    omega (arith, ap length (c.deref.ensures.value ∙ c.in_ok-charges.ensures), dues, c.in_ok-parts.ensures.few)

pub returns : goal.returns
returns c =
    let charges = c.in_ok-charges.ensures ∙ ap (dues c.args.books.books) c.month.ensures.value in
    run_made c.args.books batch_size c.args.month c.args.key c.put_charges.new.books c.put_parts.new.books c.put_fees.new.books
    c.put_run.new.self c.set_next.new.self
    c.in_ok-charges.charges.items c.in_ok-parts.parts.items c.in_ok-fees.fees.items c.closed-run.result c.unwrap.result (omega arith)
    c.in_ok-parts.ensures.numbered c.requires
    (record {
      charged = c.in_ok-put_charges.ensures;
      parted = c.in_ok-put_parts.ensures;
      feed = c.in_ok-put_fees.ensures;
      run_put = c.in_ok-put_run.ensures.ok;
      moved = c.set_next.ensures;
    })
    (record {
      charges_are = charges;
      parts_are = c.in_ok-parts.ensures.value;
      fees_are = c.in_ok-fees.ensures;
      run_is = c.closed-run.ensures ∙ ap (closed_run c.args.month c.args.key) (c.deref.ensures.value ∙ charges);
      next_is = search rules;
    })
