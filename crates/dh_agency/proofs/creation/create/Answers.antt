use Rattle.std.proofs.Common.{◌≡◌, sym, subst}
use Rattle.sqlite.specs.Held.{state}
use Rattle.dh_model.specs.Books.{start}
use Rattle.dh_schema.specs.Store.{Commits}
use Rattle.dh_agency.specs.AgencyView.{AgencyView}
use Rattle.dh_agency.specs.Agency.{shown_by}
use Rattle.dh_agency.proofs.creation.create.Goals as goal

pub returns-in-Ok-clause-made : goal.returns-in-Ok-clause-made
returns-in-Ok-clause-made g c =
    subst (λ (a : AgencyView g.row.S.Denot). Commits (state g.S.Store c.args.conn) (shown_by g.S.Store a) (λ t. t ≡ start c.args.first))
    (sym c.over.ensures.made) c.install.ensures.survives
