use Rattle.std.proofs.Common.{ℕ, List, [], inl, inr, subst, sym, append-nil}
use Rattle.httparse.specs.Grammar.{RequestHead, ReadsRequest}
use Rattle.httparse.proofs.GrammarLemmas.{request_unique}
use Rattle.dh_requests.specs.Heads.{IsHead, IsBadHead, IsLargeHead}
use Rattle.dh_requests.proofs.head.one_outcome.Goals as goal

not_bad : (input : List ℕ) (h : RequestHead) (rest : List ℕ) → IsHead input h rest → IsBadHead input → ⊥
not_bad input h rest x (some, inl never) = never [] h rest (subst (λ l. ReadsRequest l h rest) (sym (append-nil input)) x.reads)
not_bad input h rest x (some, inr none) = none.0 h rest x.reads

pub returns : goal.returns
returns c input h rest x = (
  not_bad input h rest x,
  λ (large : IsLargeHead input). large.none h rest x,
  λ k q y. request_unique input h k rest q x.reads y.reads,
)
