-- The first lines of answers, by what stands behind them.
use Rattle.std.proofs.Common.{◌≡◌, ◌∙◌, ap, ℕ, List, ◌++◌, length, codes}
use Rattle.std.specs.Fmt.{decimal}
use Rattle.dh_http.specs.declared.answers.Content.{Content}
use Rattle.dh_http.specs.Answers.{content_line, head_text}
use Rattle.dh_http.specs.FirstLines.{BeginsWith}

-- what stands behind the first line
abbrev pub after : Content → ℕ → List ℕ → List ℕ → List ℕ
after content bytes allow body =
    (content_line content ++ (codes "Content-Length: " ++ (decimal bytes ++ (codes "\r\n" ++ (allow ++ codes "Connection: close\r\n\r\n"))))) ++ body

pub begins : (status : ℕ) (first : List ℕ)
    → ((content : Content) (bytes : ℕ) (allow body : List ℕ) → head_text status content bytes allow ++ body ≡ first ++ after content bytes allow body)
    → BeginsWith status first
begins status first same it e = (
  after it.content (length it.body) it.allow it.body,
  ap (λ s. head_text s it.content (length it.body) it.allow ++ it.body) e ∙ same it.content (length it.body) it.allow it.body,
)
