use Rattle.dh_days.specs.Days.{due_day_of}
use Rattle.dh_rows.specs.Utf8.{days_are_utf8, read_is_text}
use Rattle.dh_rows.proofs.DayTexts.{day_of_column}
use Rattle.dh_rows.proofs.word.DayCell.read_cell.Goals as goal

pub returns-in-None-clause-exact : goal.returns-in-None-clause-exact
returns-in-None-clause-exact c = ((λ e. absurd (cc)), λ h. absurd (c.in-None.ensures.none (read_is_text due_day_of (days_are_utf8 26411) _ h)))

pub returns-in-Some-clause-read : goal.returns-in-Some-clause-read
returns-in-Some-clause-read c = rw c.ok.ensures.value (day_of_column 26411 _ c.in-Some.text.now c.read_due.result c.in-Some.ensures.read c.read_due.ensures)
