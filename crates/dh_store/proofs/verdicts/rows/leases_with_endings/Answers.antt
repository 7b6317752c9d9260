use Rattle.std.proofs.Common.{◌∙◌, nat_eq, List, ap, subst, Result, Ok, Err, OnOk, arith}
use Rattle.std.specs.FinMap.{values}
use Rattle.std.specs.List.{list_any}
use Rattle.sqlite.specs.State.{HasCleanDisk}
use Rattle.sqlite.specs.Held.{state}
use Rattle.dh_types.specs.declared.lease.Lease.{Lease}
use Rattle.dh_model.specs.Books.{Endings, StandUnder, State}
use Rattle.dh_model.specs.Kinds.{Leases}
use Rattle.dh_model.specs.Whole.{rows_where}
use Rattle.dh_schema.proofs.Keyed.{keyed}
use Rattle.dh_schema.proofs.ReadTables.{on_ok}
use Rattle.dh_store.specs.Gathered.{with_leases}
use Rattle.dh_store.proofs.EndingsBeside.{endings_beside}
use Rattle.dh_schema.proofs.MonthsStay.{version_stays}
use Rattle.dh_schema.proofs.ReadsInTurn.{reads_then}
use Rattle.dh_store.proofs.verdicts.rows.leases_with_endings.Goals as goal

under : {X E : Type 0} (C A B : Type 0) (r : Result X E) → (C → OnOk r A) → (C → OnOk r B) → OnOk r (C → A × B)
under C A B (Ok x) f g = λ c. (f c, g c)
under C A B (Err e) f g = tt

pub look_at_endings_of-requires : goal.look_at_endings_of-requires
look_at_endings_of-requires g c = version_stays c.requires c.in_ok-leases.ensures.reads

pub returns-clause-gathered : goal.returns-clause-gathered
returns-clause-gathered g c t b at leases_none none =
    let terms = c.args.terms.now in
    let mid = state g.S.Store c.leases.new.conn in
    let new = state g.S.Store c.look_at_endings_of.new.conn in
    let here = with_leases terms t b in
    let beside : List Lease → Endings → State → State = λ near all s. record s {
      books = record s.books { endings = rows_where (λ ending. list_any (λ (lease : Lease). nat_eq ending.lease lease.terms.number) near) all };
    } in
    on_ok c.look_at_endings_of.result (λ did clean.
    let half : HasCleanDisk mid = omega (arith, c.look_at_endings_of.ensures.reads.crash.clean, clean) in
    let was = c.in_ok-leases.ensures.gathered t b at leases_none half in
    let near = c.deref.ensures.value ∙ c.in_ok-beside.ensures.leases ∙ ap (λ (s : State). values s.books.leases) was.1 in
    let is_keyed = subst (λ (s : State). StandUnder (λ (l : Lease). l.terms.number) s.books.leases) was.0 (keyed Leases mid.now.trees) in
    let taken = (did clean).0 (ap (λ (s : State). s.books.endings) was.1 ∙ none) in (
      (did clean).1.1 ∙ was.0,
      taken ∙ (λ i. beside (near i) (was.0 i).books.endings (was.1 i))
          ∙ ap (λ (m : Endings). let s : State = record here { books = record here.books { endings = m } } in s)
          (endings_beside terms t.books.leases is_keyed t.books.endings),
    ))
    (under _ _ _ c.look_at_endings_of.result c.look_at_endings_of.ensures.gathered c.look_at_endings_of.ensures.reads.done)

pub returns-clause-reads : goal.returns-clause-reads
returns-clause-reads g c = reads_then c.in_ok-leases.ensures.reads c.look_at_endings_of.ensures.reads
