-- What an account of lives tells of each of them.
use Rattle.std.specs.Prelude.{◌≡◌, ◌<◌, Bool, is_none, true, false, None, IfSome, length, ⊤, List, [], ◌∷◌}
use Rattle.dh_types.specs.declared.command.Command.{Command}
use Rattle.dh_lives.specs.declared.lives.Life.{Life}
use Rattle.dh_lives.specs.declared.lives.Lived.{Lived}

-- Behind a recovery each command was answered, or each before the one that was interrupted. Without a recovery there is no reply, and no
-- command was interrupted.
pub record FitsCommands (commands : List Command) (lived : Lived) : Type 0 where
  pub answered : lived.recovered ≡ true → lived.cut ≡ None → length lived.replies.items ≡ length commands
  pub cut : IfSome lived.cut (λ place. (length lived.replies.items ≡ place) × (place < length commands))
  pub unrecovered : lived.recovered ≡ false → (lived.replies.items ≡ []) × (lived.cut ≡ None)

-- the recovery returned, and no command was interrupted
pub record IsWhole (lived : Lived) : Type 0 where
  pub recovered : lived.recovered ≡ true
  pub uncut : lived.cut ≡ None

-- What was lived fits the life. A life without a stop is whole.
pub record IsAccountOf (life : Life) (lived : Lived) : Type 0 where
  pub fits : FitsCommands life.commands.items lived
  pub whole : life.stop ≡ None → IsWhole lived

-- one account of each life, in their order
abbrev pub AreAccountsOf : List Life → List Lived → Type 0
AreAccountsOf [] [] = ⊤
AreAccountsOf (life ∷ lives) (lived ∷ accounts) = IsAccountOf life lived × AreAccountsOf lives accounts
AreAccountsOf _ _ = ⊥

-- the last life has no stop, or there is no life
abbrev pub ends_whole : List Life → Bool
ends_whole [] = true
ends_whole (life ∷ []) = is_none life.stop
ends_whole (life ∷ next ∷ rest) = ends_whole (next ∷ rest)
