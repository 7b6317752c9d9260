-- Books that are put together for a question, one look-up after the other.
use Rattle.std.proofs.Common.{◌≡◌, ◌∙◌, refl, sym, [], inl, Ok, arith}
use Rattle.sqlite.specs.State.{HasCleanDisk, State}
use Rattle.dh_model.specs.Books as machine
use Rattle.dh_model.specs.Books.{Books}
use Rattle.dh_model.proofs.KeyOrders.{nat_ties, nat_total, nats_tie, nats_total, text_ties, text_total}
use Rattle.dh_laws.specs.AskedAbout.{with_accounts}
use Rattle.dh_laws.proofs.FactLemmas.Asked.{none_where}
use Rattle.dh_tables.specs.Calls.{CommitsNothing}
use Rattle.dh_schema.specs.Store.{StaysReady, tables}
use Rattle.dh_schema.proofs.Crashing.{survives_both}
use Rattle.dh_store.specs.AnsweredFrom.{HasNoAccounts}
use Rattle.dh_schema.specs.Looked.{AreBoth}
use Rattle.dh_schema.specs.Reading.{OnlyReads}

-- the tables are as they were, nothing is committed, and this holds
pub record Along (old now : State) (Held : Type 0) : Type 0 where
  pub crash : CommitsNothing old now
  pub ready : HasCleanDisk now → StaysReady old now
  pub held : HasCleanDisk now → Held

pub nothing_yet : (s : State) → CommitsNothing s s
nothing_yet s = record {
  clean = omega arith;
  shield = λ is. is;
  counts = omega arith;
  limit = refl;
  closes = λ clean is. inl is;
  crash = λ clean left may. inl may;
}

pub along_next : {Held Now : Type 0} (old mid new : State) → Along old mid Held → CommitsNothing mid new → (HasCleanDisk new → StaysReady mid new)
    → (HasCleanDisk new → tables mid ≡ tables old → Held → Now) → Along old new Now
along_next old mid new before crash done more =
    let early : HasCleanDisk new → HasCleanDisk mid = λ clean. omega (arith, crash.clean, clean) in
    record {
      crash = survives_both old mid new before.crash crash;
      ready = λ clean. ((done clean).0, (done clean).1 ∙ (before.ready (early clean)).1);
      held = λ clean. more clean (before.ready (early clean)).1 (before.held (early clean));
    }

-- what a call that reads makes of books, it makes of books and tables that are equal
pub both_then : {x : Unit {0}} {old new : State} {t b before after : machine.State} (f : machine.State → machine.State → machine.State)
    → AreBoth t b old before → OnlyReads old new (Ok x) → (HasCleanDisk new → after ≡ f (tables old) before) → AreBoth t (f t b) new after
both_then {old = old} f at reads taken clean =
    let early : HasCleanDisk old = omega (arith, reads.crash.clean, clean) in
    let was = at early in
    ((reads.done clean).1 ∙ was.0, taken clean ∙ (λ i. f (was.0 i) (was.1 i)))

-- no accounts yet
pub no_accounts : (books rows : Books) → HasNoAccounts rows → rows ≡ with_accounts books rows []
no_accounts books rows is = is ∙ (λ i. record rows {
  clients = sym (none_where text_total text_ties books.clients) i;
  charges = sym (none_where nats_total nats_tie books.charges) i;
  receipts = sym (none_where nat_total nat_ties books.receipts) i;
})
