use Rattle.std.proofs.Common.{◌∙◌, inl, ap, arith}
use Rattle.dh_model.specs.Books.{start}
use Rattle.dh_agency.proofs.Standing.{begins}
use Rattle.dh_jobs.proofs.StoreLemmas.{lines_end, was_clean}
use Rattle.dh_jobs.proofs.store_jobs.begin.Goals as goal

pub returns-in-Ok-clause-ends : goal.returns-in-Ok-clause-ends
returns-in-Ok-clause-ends g c clean =
    let made = c.in-Ok.agency in
    let after = c.answer_lines-status.new.agency in
    let last = c.into_store.result in
    let now = was_clean g.S.Store after last c.into_store.ensures clean in
    let stands = begins g.S.Store made c.month.result (c.in-Ok.ensures.left (omega (arith, c.answer_lines-status.ensures.was_clean, now)))
    (c.in-Ok.ensures.begun.1 (omega (arith, c.answer_lines-status.ensures.was_clean, now))) in
    inl (
      after.is_stopped,
      lines_end g.S.Store after last c.into_store.ensures _ _ c.answer_lines-status.result (start c.args.first) made
          (stands ∙ ap start c.month.ensures.value) _ (c.answer_lines-status.ensures.ends now),
    )
