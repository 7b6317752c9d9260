-- What a call that failed leaves.
use Rattle.std.proofs.Common.{◌⊎◌, Result, Ok, Err, OnErr}
use Rattle.sqlite.specs.State.{IsRolledBack, IsUnchanged, State}
use Rattle.dh_tables.specs.Calls.{IsUndone}

pub undone_from : {B E : Type 0} (r : Result B E) (old new : State) → OnErr r (IsUnchanged old new ⊎ IsRolledBack old new) → OnErr r (IsUndone old new)
undone_from (Ok x) old new h = tt
undone_from (Err e) old new h = λ still. h
