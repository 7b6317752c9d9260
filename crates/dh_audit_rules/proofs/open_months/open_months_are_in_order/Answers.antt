use Rattle.std.proofs.Common.{◌≡◌, ◌∙◌, refl, sym, subst, map, false, [], ◌∷◌, List}
use Rattle.std.specs.FinMap as fin
use Rattle.std.specs.Map.Iter.{deref}
use Rattle.std.proofs.lemmas.Bool.{false≢true}
use Rattle.std.proofs.lemmas.List.{map-append}
use Rattle.std.proofs.lemmas.Map.Iter.{iter_end, rest_more, rest_so_far}
use Rattle.dh_types.specs.declared.run.Run.{Run}
use Rattle.dh_model.specs.Rules.{MonthIsOpen}
use Rattle.dh_model.specs.Runs.{batch_size}
use Rattle.dh_model.proofs.Among.{Among, among, is_among}
use Rattle.dh_audit_rules.proofs.Rows.{among_rest, each_more}
use Rattle.dh_audit_rules.proofs.open_months.open_months_are_in_order.Goals as goal
use Rattle.dh_audit_rules.proofs.open_months.open_months_are_in_order.Goals.{else-not-run-via-then-not-run+in_ok-open_month_is_in_order+else-not-branch}
use Rattle.dh_audit_rules.proofs.open_months.open_months_are_in_order.Goals.{else-not-run-via-else-not-run}

pub returns-then-not-branch : goal.returns-then-not-branch
returns-then-not-branch c =
    let runs = fin.values c.args.books.now.books.runs in
    let run = c.in-Some.run'.now in
    let all = sym (c.into_iter-run-iterator.ensures.into_iter_gives ∙ c.runs-run-items.ensures)
    ∙ rest_so_far deref c.loop-run.yielded _ _ c.loop-run.yielded_by in
    let in_books = among_rest runs (map deref c.loop-run.yielded) _ _ run all (rest_more deref _ _ _ c.in-Some.run' c.in-Some.is c.next.ensures.steps) in (
      λ yes. absurd (false≢true yes),
      λ each. sym c.if-not-branch.true ∙ c.in_ok-open_month_is_in_order.ensures.1 (each run (is_among runs run in_books) c.if-not-run.true),
    )

pub loop-run-preserved : goal.loop-run-preserved
loop-run-preserved c = λ row a.
    let run = c.in-Some.run'.now in
    let one_more = map-append deref c.loop-run.yielded (c.in-Some.run' ∷ []) in
    let own : run.is_closed ≡ false → MonthIsOpen c.args.books.now.books batch_size run = elim c.else-not-run.branch [
      | else-not-run-via-then-not-run+in_ok-open_month_is_in_order+else-not-branch w ↦ λ open_now. w.in_ok-open_month_is_in_order.ensures.0
          w.if-not-branch.false
      | else-not-run-via-else-not-run w ↦ λ open_now. absurd (false≢true (sym open_now ∙ w.if-not-run.false))
    ] in
    each_more (λ (run : Run). run.is_closed ≡ false → MonthIsOpen c.args.books.now.books batch_size run)
    (map deref c.loop-run.yielded) run c.loop-run.invariant own row
    (subst (λ (rows : List Run). Among rows row) one_more a)

pub returns : goal.returns
returns c =
    let all = (iter_end deref _ _ _ _ _ _ (c.into_iter-run-iterator.ensures.into_iter_gives
    ∙ c.runs-run-items.ensures) c.loop-run.yielded_by c.in-None.is c.next.ensures.steps).0 in (
      λ yes run a. c.loop-run.invariant run (subst (λ (rows : List Run). Among rows run) (sym all) (among (fin.values c.args.books.now.books.runs) run a)),
      λ each. refl,
    )
