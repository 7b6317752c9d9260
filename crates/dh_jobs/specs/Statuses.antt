-- How the program ends.
use Rattle.std.specs.Prelude.{◌≡◌, ◌⊎◌, ℕ, Bool, true, false, Option, Some, None, ⊤}
use Rattle.dh_model.specs.declared.open_run.OpenRun.{OpenRun}
use Rattle.dh_lines.specs.Session.{Answered}
use Rattle.dh_jobs.specs.declared.status.Status.{Status}
use Rattle.dh_jobs.specs.declared.status.Status.TheVariants.{Done, SomeRefused, BadWords, Failed, RunOpen, FileRefused}

-- the exit statuses
abbrev pub status_code : Status → ℕ
status_code Done = 0
status_code SomeRefused = 1
status_code (BadWords outcome) = 2
status_code (Failed why) = 3
status_code RunOpen = 4
status_code FileRefused = 5

-- what was done ends so: by whether something was refused, and then by whether the tables have an open run
abbrev pub ending : Bool → Option OpenRun → Status
ending true run = SomeRefused
ending false None = Done
ending false (Some run) = RunOpen

abbrev pub status_of : Answered → Status
status_of it = ending it.is_refused it.state.open_run

-- one of these two, where nothing is known of the tables
abbrev pub IsEnding : Bool → Status → Type 0
IsEnding true status = status ≡ SomeRefused
IsEnding false status = (status ≡ Done) ⊎ (status ≡ RunOpen)

-- the words were bad
abbrev pub IsBad : Status → Type 0
IsBad (BadWords outcome) = ⊤
IsBad _ = ⊥

-- a job failed
abbrev pub IsFailed : Status → Type 0
IsFailed (Failed why) = ⊤
IsFailed _ = ⊥

-- the tables were taken, and what was asked of them was answered
abbrev pub IsAnswered : Status → Type 0
IsAnswered Done = ⊤
IsAnswered SomeRefused = ⊤
IsAnswered RunOpen = ⊤
IsAnswered _ = ⊥
