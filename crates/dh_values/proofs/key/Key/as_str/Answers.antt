use Rattle.std.proofs.Common.{◌∙◌, ap}
use Rattle.dh_values.proofs.Ascii.{is_key-IsUtf8}
use Rattle.dh_values.specs.Texts.{is_key}
use Rattle.dh_values.proofs.key.Key.as_str.Goals as goal

pub from_utf8_unchecked-requires : goal.from_utf8_unchecked-requires
from_utf8_unchecked-requires c = is_key-IsUtf8 c.bytes.result.now (ap is_key c.bytes.ensures ∙ c.self.invariant)
