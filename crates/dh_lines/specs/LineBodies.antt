-- What a line says behind the number of its record.
use Rattle.std.specs.Prelude.{ℕ, List, ◌++◌, codes}
use Rattle.std.specs.Fmt.{decimal}
use Rattle.dh_types.specs.Replies.{fault_text, reply_text}
use Rattle.dh_reports.specs.Columns.{newline}
use Rattle.dh_lines.specs.declared.replies.LineBody.{LineBody}
use Rattle.dh_lines.specs.declared.replies.LineBody.TheVariants as body
use Rattle.dh_lines.specs.Session.{numbered}

abbrev pub body_text : LineBody → List ℕ
body_text (body.Reply reply) = reply_text reply
body_text (body.Fault fault) = fault_text fault
body_text (body.Shown count) = codes "shown " ++ decimal count

abbrev pub body_line : ℕ → LineBody → List ℕ
body_line number it = numbered number (body_text it ++ newline)
