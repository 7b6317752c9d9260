use Rattle.std.proofs.Common.{◌∙◌}
use Rattle.dh_fields.proofs.ReadFields.{numbered, in_slice, in_record}
use Rattle.dh_fields.proofs.line.Line.field.Goals as goal

pub returns-in-Slice : goal.returns-in-Slice
returns-in-Slice c =
    rw (numbered c.args.self.now c.args.number c.requires, ← c.self.view_is, c.in-Slice.is, c.copied.ensures)
    (in_slice c.in-Slice.fields.now _ _ c.get.ensures.lookup)

pub returns-in-Record : goal.returns-in-Record
returns-in-Record c =
    rw (numbered c.args.self.now c.args.number c.requires, ← c.self.view_is, c.in-Record.is) (c.get-in-Record.ensures.value ∙ in_record _ _)
