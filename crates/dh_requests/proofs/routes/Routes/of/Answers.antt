use Rattle.std.proofs.Common.{ap, ◌∙◌, sym, arith}
use Rattle.matchit.specs.Seek.{first}
use Rattle.dh_requests.proofs.Found.{found, missing, bytes_of}
use Rattle.dh_requests.proofs.routes.Routes.of.Goals as goal

pub returns-in-Ok-clause-found : goal.returns-in-Ok-clause-found
returns-in-Ok-clause-found c =
    found c.args.target.now _ (bytes_of c.args.target.now (λ i. omega (arith, c.type_inv.target i)))
    (ap (λ rows. first rows c.args.target.now) (sym c.args.self.now.all) ∙ c.in-Ok.ensures.found)

pub returns-in-Err-clause-none : goal.returns-in-Err-clause-none
returns-in-Err-clause-none c route x =
    missing route c.args.target.now (bytes_of c.args.target.now (λ i. omega (arith, c.type_inv.target i)))
    (ap (λ rows. first rows c.args.target.now) (sym c.args.self.now.all) ∙ c.in-Err.ensures.missing) x
