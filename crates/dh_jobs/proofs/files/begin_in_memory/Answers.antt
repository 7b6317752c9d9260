use Rattle.std.proofs.Common.{inl}
use Rattle.sqlite.proofs.Callers.{memory_is_clean}
use Rattle.dh_jobs.proofs.files.begin_in_memory.Goals as goal

pub returns-clause-ends : goal.returns-clause-ends
returns-clause-ends g c =
    let left = c.begin-status.result.1 in
    inl (left, c.begin-status.ensures.ends (memory_is_clean left))
