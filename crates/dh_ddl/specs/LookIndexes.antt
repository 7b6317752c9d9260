-- The indexes for the look-ups that no key serves, each with its tree. Rows may share what they list.
use Rattle.std.specs.Prelude.{ℕ, ◌+◌, List, [], ◌∷◌, codes}
use Rattle.sqlite_schema.specs.declared.schema.Index.{Index}
use Rattle.dh_ddl.specs.Columns.{look_index}

-- the properties that a member of staff manages
abbrev pub property_staff : ℕ → Index
property_staff tree = look_index (codes "property_staff") tree 7 (9 ∷ [])

-- the properties of an owner
abbrev pub property_owner : ℕ → Index
property_owner tree = look_index (codes "property_owner") tree 7 (8 ∷ [])

-- the properties of a branch
abbrev pub property_branch : ℕ → Index
property_branch tree = look_index (codes "property_branch") tree 7 (10 ∷ [])

-- the leases of a property
abbrev pub lease_property : ℕ → Index
lease_property tree = look_index (codes "lease_property") tree 17 (3 ∷ [])

-- the leases of a client, and those of a client that start on a day
abbrev pub lease_client : ℕ → Index
lease_client tree = look_index (codes "lease_client") tree 17 (2 ∷ 4 ∷ [])

-- the charges of a month, in the first version
abbrev pub charge_month : ℕ → Index
charge_month tree = look_index (codes "charge_month") tree 18 (3 ∷ [])

-- the receipts of a lease, and those of a kind
abbrev pub receipt_lease : ℕ → Index
receipt_lease tree = look_index (codes "receipt_lease") tree 20 (3 ∷ 4 ∷ [])

-- the viewings of a property
abbrev pub viewing_property : ℕ → Index
viewing_property tree = look_index (codes "viewing_property") tree 13 (2 ∷ [])

-- those of the first version, and those of the second; the first of them has this tree
abbrev pub first_looks : ℕ → List Index
first_looks tree =
    property_staff tree ∷ lease_property (tree + 1) ∷ lease_client (tree + 2)
    ∷ charge_month (tree + 3) ∷ receipt_lease (tree + 4) ∷ viewing_property (tree + 5) ∷ []

abbrev pub second_looks : ℕ → List Index
second_looks tree =
    property_staff tree ∷ property_owner (tree + 1) ∷ property_branch (tree + 2) ∷ lease_property (tree + 3)
    ∷ lease_client (tree + 4) ∷ receipt_lease (tree + 5) ∷ viewing_property (tree + 6) ∷ []
