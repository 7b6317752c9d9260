use Rattle.std.proofs.Common.{◌∙◌, ◌++◌, List, ℕ, ap, codes, length, subst}
use Rattle.std.specs.Fmt.{decimal}
use Rattle.dh_types.specs.Output.{Puts}
use Rattle.dh_http.proofs.answers.put_head_in_pieces.Goals as goal

-- the parts between the fixed texts
joined : List ℕ → List ℕ → List ℕ → List ℕ → List ℕ → List ℕ
joined status phrase content digits allow =
    codes "HTTP/1.1 " ++ (status ++ (codes " " ++ (phrase ++ (codes "\r\n"
    ++ (content ++ (codes "Content-Length: " ++ (digits ++ (codes "\r\n" ++ (allow ++ codes "Connection: close\r\n\r\n")))))))))

pub returns : goal.returns
unfolding joined
returns g c =
    let status = c.as_bytes.ensures.value ∙ c.as_str.ensures in
    let phrase = c.as_bytes-2.ensures.value ∙ c.phrase.ensures in
    let content = c.as_bytes-3.ensures.value ∙ c.content_line.ensures in
    let digits = c.as_bytes-4.ensures.value ∙ c.format.ensures.text ∙ ap (λ (l : List ℕ). decimal (length l)) c.bytes_of-length.ensures in
    let allow = c.as_bytes-5.ensures.value in
    subst (Puts (g.W.Write.contents c.args.writer.now) (g.W.Write.contents c.put_pieces.new.writer) c.put_pieces.result)
    (λ i. joined (status i) (phrase i) (content i) (digits i) (allow i)) c.put_pieces.ensures
