-- The tables and indexes of each version, in the order in which they are made. A new table comes behind those that stand, so that no tree
-- of a table or of a key moves, and the indexes for look-ups come behind all tables, where VACUUM puts them too.
use Rattle.std.specs.Prelude.{ℕ, List, [], ◌∷◌, ◌++◌, take}
use Rattle.sqlite_schema.specs.declared.schema.Table.{Table}
use Rattle.sqlite_schema.specs.declared.schema.Index.{Index}
use Rattle.sqlite_schema.specs.declared.schema.Schema.{Schema}
use Rattle.dh_ddl.specs.MetaTable.{meta}
use Rattle.dh_ddl.specs.BranchTable.{branch, branch_key}
use Rattle.dh_ddl.specs.StaffTable.{staff, staff_key}
use Rattle.dh_ddl.specs.OwnerTable.{owner, owner_key}
use Rattle.dh_ddl.specs.PropertyTable.{property, property_key}
use Rattle.dh_ddl.specs.ClientTable.{client, client_key}
use Rattle.dh_ddl.specs.RegistrationTable.{registration, registration_key}
use Rattle.dh_ddl.specs.ViewingTable.{viewing, viewing_key}
use Rattle.dh_ddl.specs.InspectionTable.{inspection, inspection_key}
use Rattle.dh_ddl.specs.LeaseTable.{lease}
use Rattle.dh_ddl.specs.ChargeTable.{charge, charge_key}
use Rattle.dh_ddl.specs.ReceiptTable.{receipt, receipt_key}
use Rattle.dh_ddl.specs.RunTable.{run, run_key}
use Rattle.dh_ddl.specs.PartTable.{part, part_key}
use Rattle.dh_ddl.specs.BranchFeeTable.{branch_fee, branch_fee_key}
use Rattle.dh_ddl.specs.PartFeeTable.{part_fee, part_fee_key}
use Rattle.dh_ddl.specs.EndingTable.{ending}
use Rattle.dh_ddl.specs.LookIndexes.{first_looks, second_looks}

-- those of the first version, and those that came with the second
abbrev pub first_tables : List Table
first_tables =
    meta ∷ branch ∷ staff ∷ owner ∷ property ∷ client ∷ registration ∷ viewing
    ∷ inspection ∷ lease ∷ charge ∷ receipt ∷ run ∷ part ∷ []

abbrev pub later_tables : List Table
later_tables = branch_fee ∷ part_fee ∷ ending ∷ []

abbrev pub our_tables : List Table
our_tables = first_tables ++ later_tables

-- their keys
abbrev pub first_keys : List Index
first_keys =
    branch_key ∷ staff_key ∷ owner_key ∷ property_key ∷ client_key ∷ registration_key ∷ viewing_key ∷ inspection_key
    ∷ charge_key ∷ receipt_key ∷ run_key ∷ part_key ∷ []

abbrev pub later_keys : List Index
later_keys = branch_fee_key ∷ part_fee_key ∷ []

-- the schema of the first version as far as so many tables and so many indexes, and that of the second
abbrev pub first : ℕ → ℕ → Schema
first tables indexes = record { tables = take tables first_tables; indexes = take indexes (first_keys ++ first_looks 26); views = [] }

abbrev pub second : ℕ → ℕ → Schema
second tables indexes = record { tables = take tables our_tables; indexes = take indexes (first_keys ++ later_keys ++ second_looks 31); views = [] }

-- the schema before all, and the whole one of each version
abbrev pub no_schema : Schema
no_schema = first 0 0

abbrev pub first_schema : Schema
first_schema = first 14 18

abbrev pub our_schema : Schema
our_schema = second 17 21
