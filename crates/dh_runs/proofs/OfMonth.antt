-- What is looked at of a month is all of it.
use Rattle.std.proofs.Common.{◌≡◌, ℕ, nat_eq}
use Rattle.std.specs.FinMap.{values}
use Rattle.dh_types.specs.declared.run.Part.{Part}
use Rattle.dh_model.specs.Books.{Books}
use Rattle.dh_model.specs.Rules.{parts_in}
use Rattle.dh_model.specs.Whole.{rows_where}
use Rattle.dh_model.proofs.KeyOrders.{nat_text_ties, nat_text_total}
use Rattle.dh_laws.proofs.FactLemmas.Narrowed.{values_where}

pub parts_of_month : (books : Books) (month : ℕ) → values (rows_where (λ part. nat_eq part.month month) books.parts) ≡ parts_in books month
parts_of_month books month = values_where nat_text_total nat_text_ties (λ (part : Part). nat_eq part.month month) books.parts
