use Rattle.std.proofs.Common.{◌≡◌, [], ◌∷◌, ◌++◌, map, take, get_or, codes, cond, true, false, sym, ap, ◌∙◌, append-nil}
use Rattle.httparse.specs.Spans.{header_bytes}
use Rattle.httparse.specs.declared.spans.HeaderSpan.{HeaderSpan}
use Rattle.dh_requests.specs.HeaderLines.{values_of, body_length, with_value, same_name}
use Rattle.dh_requests.proofs.LineLemmas.{values_more, length_push}
use Rattle.dh_requests.proofs.header_lines.body_length.Goals.{then-is_named, else-is_named}
use Rattle.dh_requests.proofs.header_lines.body_length.Goals as goal

pub loop-header-preserved : goal.loop-header-preserved
loop-header-preserved c =
    let none : HeaderSpan = record { name = record { start = 0; end = 0 }; value = record { start = 0; end = 0 } } in
    let name = codes "content-length" in
    let line = header_bytes c.args.buffer.now (get_or c.args.headers.now c.loop-header.header-index none) in
    let before = values_of name (map (header_bytes c.args.buffer.now) (take c.loop-header.header-index c.args.headers.now)) in
    let more = values_more (header_bytes c.args.buffer.now) name c.args.headers.now c.loop-header.header-index none c.loop-header-test.true in
    elim c.if-is_named.branch [
      | then-is_named w ↦
          let is : same_name line.0 name ≡ true = ap (λ n. same_name n name) (sym c.of.ensures) ∙ sym c.is_named.ensures ∙ w.if-is_named.true in
          w.found-is ∙ w.with_value-found.ensures ∙ ap (λ f. with_value f w.of-then-is_named.result.now) c.loop-header.invariant
          ∙ ap (with_value (body_length before)) w.of-then-is_named.ensures ∙ sym (length_push before line.1)
          ∙ ap body_length (sym (more ∙ ap (λ b. before ++ cond b (line.1 ∷ []) []) is))
      | else-is_named w ↦
          let is : same_name line.0 name ≡ false = ap (λ n. same_name n name) (sym c.of.ensures) ∙ sym c.is_named.ensures ∙ w.if-is_named.false in
          w.found-is ∙ c.loop-header.invariant ∙ ap body_length (sym (more ∙ ap (λ b. before ++ cond b (line.1 ∷ []) []) is ∙ append-nil before))
    ]
