use Rattle.std.proofs.Common.{◌≡◌, ◌∙◌, sym, ap, subst, true}
use Rattle.dh_rows.proofs.laws.rows_determine_records.Goals as goal

pub returns : goal.returns
returns g c a b good same =
    sym (g.met.R.Record.decodes a good) ∙ ap g.R.Record.decode same ∙ g.met.R.Record.decodes b (subst (λ row. g.R.Record.is_row row ≡ true) same good)
