use Rattle.std.proofs.Common.{drop, map}
use Rattle.std.specs.List.{concat}
use Rattle.dh_types.proofs.WritingLemmas.{Written}
use Rattle.dh_types.proofs.text_writer.put_pieces.Given as goal

abbrev pub invariant-loop-part : goal.invariant-loop-part
invariant-loop-part g l = Written (g.W.Write.contents l.initial.writer) (g.W.Write.contents l.writer) (concat (map (λ p. p.now) l.parts))
    (concat (map (λ p. p.now) (drop l.part-index l.parts)))
