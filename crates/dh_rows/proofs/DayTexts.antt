-- Days of columns.
use Rattle.std.proofs.Common.{◌≡◌, ◌∙◌, sym, ap, ℕ, Some, None, IfSome, List}
use Rattle.std.specs.Prelude.{Result, Ok, Err, MatchResult}
use Rattle.std.specs.Result.{result_ok}
use Rattle.sqlite_value.specs.declared.value.Value.{Value}
use Rattle.sqlite_value.specs.declared.value.Value.TheVariants.{Text}
use Rattle.dh_days.specs.Days.{day_text, day_until}
use Rattle.dh_days.proofs.ReadDays.{read_day_printed}

-- a column that is read as a day has the text of that day
pub day_of_column : {E : Type 0} (last : ℕ) (v : Value) (bytes : List ℕ) (r : Result ℕ E) → v ≡ Text bytes
    → MatchResult r (λ day. day_until last bytes ≡ Some day) (λ _. day_until last bytes ≡ None) → IfSome (result_ok r) (λ day. v ≡ Text (day_text day))
day_of_column last v bytes (Ok day) e h = e ∙ ap Text (sym (read_day_printed last day bytes h))
day_of_column last v bytes (Err x) e h = tt
