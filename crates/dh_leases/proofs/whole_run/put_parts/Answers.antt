use Rattle.std.proofs.Common.{◌∙◌, refl, arith}
use Rattle.std.specs.Ordering.{nat_cmp}
use Rattle.std.specs.FinMap.{FinMap}
use Rattle.dh_types.specs.declared.run.Part.{Part}
use Rattle.dh_model.specs.Books.{State, pair_cmp, text_cmp}
use Rattle.dh_model.specs.Runs.{part_key}
use Rattle.dh_model.proofs.KeyOrders.{nat_text_ties, nat_text_total}
use Rattle.dh_leases.proofs.RowLemmas.{last_put, none_put}
use Rattle.dh_leases.proofs.whole_run.put_parts.Goals as goal

abbrev put : FinMap (pair_cmp nat_cmp text_cmp) Part → State → State
put rows s = record s { books = record s.books { parts = rows } }

pub loop-part-preserved : goal.loop-part-preserved
loop-part-preserved c =
    last_put nat_text_total nat_text_ties part_key (λ s. s.books.parts) put (λ m n s. refl) (λ m s. refl)
    c.loop-part.books _ c.pop.new.self.items _ c.in-Some.part
    c.in_ok-put_part.ensures.ok c.in-Some.ensures.items
    ∙ c.loop-part.invariant

pub returns : goal.returns
returns c =
    none_put nat_text_total nat_text_ties part_key (λ s. s.books.parts) put (λ m n s. refl) (λ m s. refl) c.loop-part.books c.loop-part.parts.items refl
    (omega (arith, c.loop-part.parts.ok.0, c.in_default.ensures.cases))
    ∙ c.loop-part.invariant
