-- What is printed: each text ends with one line feed.
use Rattle.std.specs.Prelude.{ℕ, List, ◌++◌, codes}
use Rattle.dh_days.specs.Months.{month_text}
use Rattle.dh_types.specs.declared.reply.Refusal.{Refusal}
use Rattle.dh_types.specs.declared.reply.Fault.{Fault}
use Rattle.dh_types.specs.Replies.{fault_text, refusal_text, reply_text}
use Rattle.dh_types.specs.Reports.{NoReport}
use Rattle.dh_agency.specs.Requests.{Said, Replied, Reported}
use Rattle.dh_reports.specs.ReportTexts.{report_text}
use Rattle.dh_reports.specs.Columns.{newline}

abbrev pub refusal_line : Refusal → List ℕ
refusal_line why = refusal_text why ++ newline

abbrev pub fault_line : Fault → List ℕ
fault_line fault = fault_text fault ++ newline

-- a reply's line, or a report, or why there is none
abbrev pub said_lines : Said → List ℕ
said_lines (Replied it) = reply_text it ++ newline
said_lines (Reported (NoReport why)) = refusal_line why
said_lines (Reported it) = report_text it

-- the month that new books begin with
abbrev pub created_line : ℕ → List ℕ
created_line first = codes "created " ++ month_text first ++ newline

abbrev pub recovered_line : List ℕ
recovered_line = codes "recovered" ++ newline

abbrev pub migrated_line : List ℕ
migrated_line = codes "migrated" ++ newline

abbrev pub no_listener_line : List ℕ
no_listener_line = codes "no listener" ++ newline
