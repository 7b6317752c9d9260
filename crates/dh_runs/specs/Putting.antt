-- What the rows of a batch make of the books.
use Rattle.std.specs.Prelude.{List, [], ◌∷◌}
use Rattle.std.specs.FinMap.{insert}
use Rattle.dh_types.specs.declared.lease.Charge.{Charge}
use Rattle.dh_types.specs.declared.run.Part.{Part}
use Rattle.dh_types.specs.declared.fee.PartFee.{PartFee}
use Rattle.dh_model.specs.Books.{Books, with_rows}
use Rattle.dh_model.specs.Runs.{charge_key, part_fee_key, part_key}

-- the books with this charge
abbrev pub with_charge : Charge → Books → Books
with_charge charge books = record books { charges = insert books.charges (charge_key charge) charge }

-- with these charges
abbrev pub with_charges : List Charge → Books → Books
with_charges charges books = record books { charges = with_rows charge_key charges books.charges }

-- with this part row in the place of what its branch had of the run
abbrev pub with_part : Part → Books → Books
with_part part books = record books { parts = with_rows part_key (part ∷ []) books.parts }

-- with these fee rows in the place of what their parts had
abbrev pub with_fees : List PartFee → Books → Books
with_fees fees books = record books { part_fees = with_rows part_fee_key fees books.part_fees }
