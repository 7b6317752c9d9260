use Rattle.dh_arguments.proofs.Complete.{asked, asked_for_one, complete, no_fault}
use Rattle.std.proofs.Common.{◌∙◌, ap, map, string_bytes, sym}
use Rattle.dh_arguments.proofs.Outcomes.{answered, answered_badly, refused_so, taken_as}
use Rattle.dh_arguments.proofs.words.job.Goals as goal

pub returns-in-Err-clause-err : goal.returns-in-Err-clause-err
returns-in-Err-clause-err c typed is =
    refused_so _ typed _ c.in-Err.error c.refused.result (is ∙ ap (map string_bytes) (sym c.as_slice.ensures.value)) c.in_ok-letting.ensures
    c.in-Err.ensures.kinds c.refused.ensures

pub job_of-requires : goal.job_of-requires
job_of-requires c =
    let taken = no_fault _ _ c.in_ok-letting.ensures c.in-Ok.ensures.kinds in
    complete _ taken (c.in-Some.name.now, _)
    (asked _ _ c.in-Ok.matches _ _ c.in_ok-letting.ensures c.in-Ok.ensures.matches c.in-Some.ensures.name c.in-Some.ensures.rows)

pub unreachable-requires : goal.unreachable-requires
unreachable-requires c =
    let taken = no_fault _ _ c.in_ok-letting.ensures c.in-Ok.ensures.kinds in
    asked_for_one _ _ c.in-Ok.matches c.in_ok-letting.ensures c.in-Ok.ensures.matches taken c.in-None.ensures.rows

pub returns-clause-ok : goal.returns-clause-ok
returns-clause-ok c typed is =
    let taken = no_fault _ _ c.in_ok-letting.ensures c.in-Ok.ensures.kinds in
    let sub = asked _ _ c.in-Ok.matches _ _ c.in_ok-letting.ensures c.in-Ok.ensures.matches c.in-Some.ensures.name c.in-Some.ensures.rows in
    let takes = taken_as typed _ _ (is ∙ ap (map string_bytes) (sym c.as_slice.ensures.value)) taken sub in
    answered typed c.in-Some.name.now _ takes c.job_of.result c.job_of.ensures

pub returns-clause-err : goal.returns-clause-err
returns-clause-err c typed is =
    let taken = no_fault _ _ c.in_ok-letting.ensures c.in-Ok.ensures.kinds in
    let sub = asked _ _ c.in-Ok.matches _ _ c.in_ok-letting.ensures c.in-Ok.ensures.matches c.in-Some.ensures.name c.in-Some.ensures.rows in
    let takes = taken_as typed _ _ (is ∙ ap (map string_bytes) (sym c.as_slice.ensures.value)) taken sub in
    answered_badly typed c.in-Some.name.now _ takes c.job_of.result c.job_of.ensures
