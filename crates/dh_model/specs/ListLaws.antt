-- What the lists of dues, of vacant properties and of matching ones have in them, and in which order.
use Rattle.std.specs.Prelude.{◌≡◌, ◌≢◌, ◌≤◌, ◌<◌, ◌↔◌, ◌⊎◌, ℕ, List, Some}
use Rattle.std.specs.declared.cmp.Ordering.TheVariants.{Less}
use Rattle.std.specs.List.{AllPairs, IsAmong}
use Rattle.std.specs.FinMap.{FinMap, get, values}
use Rattle.dh_types.specs.declared.property.Property.{Property}
use Rattle.dh_types.specs.declared.client.Client.{Client}
use Rattle.dh_types.specs.declared.lease.Lease.{Lease}
use Rattle.dh_model.specs.Books.{Books, text_cmp}
use Rattle.dh_model.specs.Leases.{Covers, dues, running}
use Rattle.dh_model.specs.Runs.{charge_key}
use Rattle.dh_model.specs.Answers.{matching, vacant}
use Rattle.dh_model.specs.BatchLaws.{AreNumbered}

-- the dues of a month rise by lease
abbrev pub DuesRiseByLease : Type 0
DuesRiseByLease = (books : Books) (month : ℕ) → AreNumbered books → AllPairs (λ charge other. charge.lease < other.lease) (dues books month)

-- no due is listed twice, and no lease and index are
abbrev pub EachDueIsListedOnce : Type 0
EachDueIsListedOnce = (books : Books) (month : ℕ) → AreNumbered books
    → AllPairs (λ charge other. charge ≢ other) (dues books month) × AllPairs (λ charge other. charge_key charge ≢ charge_key other) (dues books month)

-- each property stands under its number
abbrev pub PropertiesAreNumbered : FinMap text_cmp Property → Type 0
PropertiesAreNumbered properties = (number : List ℕ) (property : Property) → get properties number ≡ Some property → property.number ≡ number

-- no lease of the property covers the day
abbrev pub IsNotLet : Books → ℕ → Property → Type 0
IsNotLet books day property = (lease : Lease) → IsAmong (values books.leases) lease → lease.terms.property ≡ property.number
    → ¬ Covers (running books.endings lease) day

-- vacant are the properties that no lease covers that day, and no others
abbrev pub VacantAreNotLet : Type 0
VacantAreNotLet = (books : Books) (day : ℕ) (property : Property)
    → IsAmong (vacant books day) property ↔ (IsAmong (values books.properties) property × IsNotLet books day property)

-- they rise by number
abbrev pub VacantRiseByNumber : Type 0
VacantRiseByNumber = (books : Books) (day : ℕ) → PropertiesAreNumbered books.properties
    → AllPairs (λ property other. text_cmp property.number other.number ≡ Less) (vacant books day)

-- what the client looks for on that day
pub record Suits (books : Books) (client : Client) (day : ℕ) (property : Property) : Type 0 where
  pub of : IsAmong (values books.properties) property
  pub type_is : property.property_type ≡ client.preferred_type
  pub rent : property.rent ≤ client.greatest_rent
  pub vacant : IsNotLet books day property

-- matching are the properties that suit the client, and no others
abbrev pub MatchingSuitTheClient : Type 0
MatchingSuitTheClient = (books : Books) (client : Client) (day : ℕ) (property : Property) → PropertiesAreNumbered books.properties
    → IsAmong (matching books client day) property ↔ Suits books client day property

-- of lesser rent, or of the same and of lesser number
abbrev pub IsCheaper : Property → Property → Type 0
IsCheaper property other = (property.rent < other.rent) ⊎ ((property.rent ≡ other.rent) × (text_cmp property.number other.number ≡ Less))

-- they rise by rent, and then by number
abbrev pub MatchingRiseByRent : Type 0
MatchingRiseByRent = (books : Books) (client : Client) (day : ℕ) → AllPairs IsCheaper (matching books client day)
