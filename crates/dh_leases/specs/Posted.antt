-- Books whose rows of a month are others.
use Rattle.std.specs.Prelude.{ℕ, List, not, nat_eq}
use Rattle.dh_types.specs.declared.lease.Charge.{Charge}
use Rattle.dh_types.specs.declared.run.Part.{Part}
use Rattle.dh_types.specs.declared.fee.PartFee.{PartFee}
use Rattle.dh_model.specs.Books.{Books, with_rows}
use Rattle.dh_model.specs.Runs.{charge_key, part_fee_key, part_key}
use Rattle.dh_model.specs.Whole.{rows_where}

-- the books with these charges, part rows and fee rows in the place of what they have of the month
abbrev pub with_month : Books → ℕ → List Charge → List Part → List PartFee → Books
with_month books month charges parts fees = record books {
  charges = with_rows charge_key charges (rows_where (λ charge. not (nat_eq charge.month month)) books.charges);
  parts = with_rows part_key parts (rows_where (λ part. not (nat_eq part.month month)) books.parts);
  part_fees = with_rows part_fee_key fees (rows_where (λ it. not (nat_eq it.month month)) books.part_fees);
}
