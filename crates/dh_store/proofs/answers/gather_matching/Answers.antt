use Rattle.std.proofs.Common.{refl}
use Rattle.dh_model.specs.Books.{State}
use Rattle.dh_schema.specs.Looked.{with_lettings}
use Rattle.dh_store.proofs.AskedBooks.{both_then}
use Rattle.dh_store.proofs.answers.gather_matching.Goals as goal

pub returns-clause-gathered : goal.returns-clause-gathered
returns-clause-gathered g c t at =
    let lettings = c.in_ok-look_at_lettings.ensures in
    c.look.ensures.brought.first t _ (both_then (λ (s b : State). with_lettings s.books b) at lettings.reads lettings.gathered) refl
