-- What the bytes so far say of the whole input.
use Rattle.std.proofs.Common.{◌≡◌, ℕ, ◌+◌, ◌-◌, ◌<◌, ◌≤◌, List, [], ◌++◌, Option, Some, None, length, take, drop, sym, ap, ◌∙◌, subst, arith}
use Rattle.std.proofs.Common.{append_assoc, append-nil, drop_of_length-le, length-append, inl, inr}
use Rattle.std.specs.Io.KnownBytes.{Consumes, IsAtEnd}
use lib.Seq.{take-append_seam, take-append-add}
use Rattle.httparse.specs.Grammar.{RequestHead, print_request, ReadsRequest, HasNoRequest, NeverHasRequest, MayBecomeRequest}
use Rattle.httparse.specs.declared.spans.HeaderSpan.{HeaderSpan}
use Rattle.httparse.specs.declared.spans.RequestSpans.{RequestSpans}
use Rattle.httparse.proofs.GrammarLemmas.{ReadsRequest-append, request_unique}
use Rattle.dh_requests.specs.declared.limits.TheConstants.{HEAD_BYTES, HEADER_LINES, ROOM}
use Rattle.dh_reading.specs.Known.{IfBoth}
use Rattle.dh_requests.specs.Heads.{IsHead, IsLargeHead, IsUnfinished, IsWhole, IsCrowded}

-- ---- from the front to the input

moved : (front after more : List ℕ) {input : List ℕ} → input ≡ front ++ after → input ++ more ≡ front ++ (after ++ more)
moved front after more e = ap (λ l. l ++ more) e ∙ append_assoc front after more

pub crowded_more : (front after : List ℕ) {input : List ℕ} → input ≡ front ++ after → IsCrowded front → IsLargeHead input
crowded_more front after {input} e x = record {
  none = λ h rest y.
      let many : HEADER_LINES < length h.fields = x.over after h rest (subst (λ l. ReadsRequest l h rest) e y.reads) in
      let few : length h.fields ≤ HEADER_LINES = y.few in
      omega arith;
  cause = inl (
    x.lines.0,
    x.lines.1 ++ after,
    e ∙ ap (λ l. l ++ after) x.lines.2 ∙ append_assoc x.lines.0 x.lines.1 after,
    x.lines.3,
    x.lines.4,
    x.lines.5,
  );
}

front_of : (front after : List ℕ) (n : ℕ) {input : List ℕ} → input ≡ front ++ after → length front ≡ n → take n input ≡ front
front_of front after n e len = ap (take n) e ∙ ap (λ m. take m (front ++ after)) (sym len) ∙ take-append_seam front after

-- a head of the input that ends within the front is in the front
shorter : (a b r s : List ℕ) → a ++ r ≡ b ++ s → length a ≤ length b → b ≡ a ++ take (length b - length a) r
shorter a b r s e le =
    let same : length b ≡ length a + (length b - length a) = omega arith in
    sym (take-append_seam b s) ∙ ap (take (length b)) (sym e) ∙ ap (λ n. take n (a ++ r)) same
    ∙ take-append-add a r (length b - length a)

in_front : (front after : List ℕ) {input : List ℕ} → input ≡ front ++ after → HasNoRequest front
    → (h : RequestHead) (rest : List ℕ) → ReadsRequest input h rest → length (print_request h) ≤ length front → ⊥
in_front front after e none h rest x le =
    none h (take (length front - length (print_request h)) rest)
    (x.0, shorter (print_request h) front rest after (sym x.1 ∙ e) le)

longer : (front after : List ℕ) (n : ℕ) {input : List ℕ} → input ≡ front ++ after → length front ≡ n → n ≤ length input
longer front after n e len = omega (arith, ap length e, length-append front after)

-- the buffer is full, and the bytes may still become a head
pub full_more : (front after : List ℕ) {input : List ℕ} → input ≡ front ++ after → length front ≡ ROOM → IsUnfinished front → IsLargeHead input
full_more front after {input} e len x = record {
  none = λ h rest y.
      let small : length (print_request h) ≤ HEAD_BYTES = y.bytes in
      in_front front after e x.none h rest y.reads (omega arith);
  cause = inr (
    longer front after ROOM e len,
    subst MayBecomeRequest (sym (front_of front after ROOM e len)) x.may,
  );
}

-- a head is there whole, and is too long
pub long_more : (front after : List ℕ) {input : List ℕ} → input ≡ front ++ after → length front ≤ ROOM
    → {headers : List HeaderSpan} {spans : RequestSpans} {h : RequestHead} → IsWhole front headers spans h → HEAD_BYTES < spans.len → IsLargeHead input
long_more front after {input} e room {headers} {spans} {h} x big =
    let is : front ≡ print_request h ++ drop spans.len front = x.at.reads.1 in
    let all : length front ≡ spans.len + length (drop spans.len front) =
    ap length is ∙ length-append (print_request h) (drop spans.len front) ∙ ap (λ n. n + length (drop spans.len front)) (sym x.at.len) in
    let len : length front ≡ ROOM = omega arith in
    let read : ReadsRequest input h (drop spans.len front ++ after) =
    subst (λ l. ReadsRequest l h (drop spans.len front ++ after)) (sym e) (ReadsRequest-append front h (drop spans.len front) after x.at.reads) in
    let no_more : drop spans.len front ≡ [] = drop_of_length-le front {i = spans.len} (omega arith) in
    let whole : ReadsRequest (front ++ []) h [] = subst (λ l. ReadsRequest l h []) (sym (append-nil front)) (subst (ReadsRequest front h) no_more x.at.reads) in
    record {
      none = λ k rest y.
          let same : length (print_request k) ≡ length (print_request h) =
          ap (λ z. length (print_request z)) (request_unique input k h rest (drop spans.len front ++ after) y.reads read).0 in
          let small : length (print_request k) ≤ HEAD_BYTES = y.bytes in
          let len_is : spans.len ≡ length (print_request h) = x.at.len in
          omega arith;
      cause = inr (
        longer front after ROOM e len,
        subst MayBecomeRequest (sym (front_of front after ROOM e len)) (inl ([], h, whole)),
      );
    }

-- ---- where the reader's bytes are known

pub lift : (a b : Option (List ℕ)) (front : List ℕ) (P : List ℕ → List ℕ → Type 0) → Consumes a b front
    → ((input after : List ℕ) → input ≡ front ++ after → P input after) → IfBoth a b P
lift None b front P x f = tt
lift (Some xs) None front P x f = absurd x
lift (Some xs) (Some ys) front P x f = f xs ys x
