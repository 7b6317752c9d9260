use Rattle.std.proofs.Common.{◌∙◌, ap}
use Rattle.dh_values.proofs.Ascii.{is_id-IsUtf8}
use Rattle.dh_values.specs.Texts.{is_id}
use Rattle.dh_values.proofs.id.Id.as_str.Goals as goal

pub from_utf8_unchecked-requires : goal.from_utf8_unchecked-requires
from_utf8_unchecked-requires c = is_id-IsUtf8 c.bytes.result.now (ap is_id c.bytes.ensures ∙ c.self.invariant)
