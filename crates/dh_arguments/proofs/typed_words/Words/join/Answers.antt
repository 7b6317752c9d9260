use Rattle.std.proofs.Common.{◌≡◌, ◌+◌, ◌||◌, ◌∙◌, ◌++◌, Bool, Bor, List, ℕ, [], false}
use Rattle.std.proofs.Common.{true, arith, bytes_eq, codes, drop, get_or, map, rules, string_bytes, subst, sym}
use Rattle.dh_arguments.specs.TypedWords.{joined}
use Rattle.dh_arguments.proofs.Joining.{after_pair, after_word, left, two_left}
use Rattle.dh_arguments.proofs.typed_words.Words.join.Goals as goal
use Rattle.dh_arguments.proofs.typed_words.Words.join.Goals.{then-ended, else-ended}
use Rattle.dh_arguments.proofs.typed_words.Words.join.Goals.{else-not-ended-via-then-not-ended+else-begin_with_pair, else-not-ended-via-else-not-ended}

neither : (now was ends : Bool) → now ≡ (was || ends) → now ≡ false → (was ≡ false) × (ends ≡ false)
neither now false false is h = (search rules, search rules)
neither now false true is h = cc
neither now true ends is h = cc

pub loop-at-preserved-then-begin_with_pair : goal.loop-at-preserved-then-begin_with_pair
loop-at-preserved-then-begin_with_pair c =
    let none : Bor (List ℕ) = record { ref_ptr = (0, 0); now = [] } in
    let word = (get_or c.args.typed.now c.loop-at.at none).now in
    let is : c.if-ended.ended ≡ (c.loop-at.ended || bytes_eq word (codes "--")) =
    elim c.if-ended.branch [ then-ended w ↦ search rules | else-ended w ↦ search rules ] in
    let pair = sym c.begin_with_pair.ensures ∙ c.if-begin_with_pair.true in
    let two = two_left c.args.typed.now none c.loop-at.at pair in
    let goes_on = neither _ _ _ is c.if-not-ended.true in
    let all = map (λ (word : Bor (List ℕ)). word.now) c.args.typed.now in
    record {
      whole = subst (λ b. map string_bytes c.push.new.self.items ++ left b (drop (c.loop-at.at + 2) all) ≡ joined all) (sym c.if-not-ended.true)
          (after_pair c.args.typed.now none string_bytes _ _ _ c.in_ok-in_one_word.field-0 c.loop-at.at c.in_ok-push.ensures.items two
          c.in_ok-in_one_word.ensures (subst (λ b. map string_bytes c.loop-at.texts.items ++ left b (drop c.loop-at.at all) ≡ joined all) goes_on.0
          c.loop-at.invariant.whole) goes_on.1 pair);
      within = omega (arith, two);
    }

pub loop-at-preserved : goal.loop-at-preserved
loop-at-preserved c =
    let none : Bor (List ℕ) = record { ref_ptr = (0, 0); now = [] } in
    let word = (get_or c.args.typed.now c.loop-at.at none).now in
    let is : c.if-ended.ended ≡ (c.loop-at.ended || bytes_eq word (codes "--")) =
    elim c.if-ended.branch [ then-ended w ↦ search rules | else-ended w ↦ search rules ] in
    record {
      whole = after_word c.args.typed.now none string_bytes _ _ _ c.in_ok-from_str.field-0 c.loop-at.at c.in_ok-push-2.ensures.items c.loop-at.ended
          c.if-ended.ended c.loop-at-test.true c.in_ok-from_str.ensures.ok c.loop-at.invariant.whole is
          (λ e. elim c.else-not-ended.branch [
            | else-not-ended-via-then-not-ended+else-begin_with_pair w ↦ sym w.begin_with_pair.ensures ∙ w.if-begin_with_pair.false
            | else-not-ended-via-else-not-ended w ↦ let yes = w.if-not-ended.false in cc
          ]);
      within = search rules;
    }
