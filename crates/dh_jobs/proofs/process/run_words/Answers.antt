use Rattle.std.proofs.Common.{◌≡◌, ◌∙◌, Bor, List, ℕ, ap, inl, map, rules, sym}
use Rattle.std.specs.Prelude.{string_bytes}
use Rattle.dh_jobs.proofs.ProcessLemmas.{behind_names, same_words}
use Rattle.dh_jobs.proofs.process.run_words.Goals as goal

pub returns-in-Ok : goal.returns-in-Ok
returns-in-Ok g c =
    let is : c.deref.result.now ≡ c.in-Ok.texts.items = search rules in
    let named = c.in-Ok.ensures ∙ ap (map string_bytes) c.behind_name.ensures ∙ sym (behind_names string_bytes c.args.words.now) in
    let same = ap (map (λ (word : Bor (List ℕ)). word.now)) is ∙ named in
    inl (same_words _ _ (g.R.Read.remaining c.args.reader.now) _ _ c.desk_from.result _ _ same c.desk_from.ensures.ends)
