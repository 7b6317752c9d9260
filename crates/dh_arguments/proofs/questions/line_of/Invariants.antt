use Rattle.std.proofs.Common.{◌≡◌, ◌∷◌, map, codes, take}
use Rattle.dh_arguments.proofs.questions.line_of.Given as goal

abbrev pub invariant-loop-word : goal.invariant-loop-word
invariant-loop-word l = map (λ field. field.now) l.fields.items ≡ codes "show" ∷ map (λ word. word.now) (take l.word-index l.words)
