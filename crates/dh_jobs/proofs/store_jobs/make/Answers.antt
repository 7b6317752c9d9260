use Rattle.std.proofs.Common.{◌≡◌, ◌∙◌, ℕ, ap, subst}
use Rattle.sqlite.specs.Held.{Held, state}
use Rattle.sqlite.specs.Store.{Ghosts}
use Rattle.dh_model.specs.Books.{start}
use Rattle.dh_agency.specs.Store.{Commits, LeavesItsTables, tables}
use Rattle.dh_agency.specs.AgencyView.{AgencyView}
use Rattle.dh_agency.specs.Agency.{IsClean, machine, shown_by}
use Rattle.dh_jobs.specs.OnFile.{IsMade}
use Rattle.dh_jobs.proofs.StoreLemmas.{back, was_clean}
use Rattle.dh_jobs.proofs.store_jobs.make.Goals as goal

-- an agency that was made, in the store that it hands back
module _ {S : Type 0} (g : Ghosts S) (old last : Held S) (after : AgencyView S) (same : last ≡ after.conn) (first t : ℕ) (is : t ≡ first) where
  made : (IsClean g after → machine g after ≡ start t) → (IsClean g after → LeavesItsTables (shown_by g after)) → IsMade first (state g last)
  made stands leaves clean =
      let was = was_clean g after last same clean in
      (back g after last same (λ new. tables new ≡ start first) (stands was ∙ ap start is), back g after last same LeavesItsTables (leaves was))

  left : Commits (state g old) (shown_by g after) (λ s. s ≡ start t) → Commits (state g old) (state g last) (λ s. s ≡ start first)
  left h =
      subst (λ n. Commits (state g old) (state g last) (λ s. s ≡ start n)) is
      (back g after last same (λ new. Commits (state g old) new (λ s. s ≡ start t)) h)

pub returns-clause-made : goal.returns-clause-made
returns-clause-made g c =
    made g.S.Store c.args.conn c.into_store.result c.in_ok-agency.agency c.into_store.ensures c.args.first c.month.result c.month.ensures.value
    c.in_ok-agency.ensures.begun.1
    c.in_ok-agency.ensures.left

pub returns-clause-left : goal.returns-clause-left
returns-clause-left g c =
    left g.S.Store c.args.conn c.into_store.result c.in_ok-agency.agency c.into_store.ensures c.args.first c.month.result c.month.ensures.value
    c.in_ok-agency.ensures.made

pub returns-clause-occupied : goal.returns-clause-occupied
returns-clause-occupied g c wrong = let no = c.in_ok-agency.ensures.occupied wrong in cc
