-- What a row names is there after every change.
use Rattle.std.proofs.Common.{◌≡◌, refl, sym, ap, subst, ℕ, ◌+◌, ◌∙◌, List, Option, Some, None}
use Rattle.std.specs.FinMap.{get, insert}
use Rattle.dh_types.specs.declared.property.Property.{Property}
use Rattle.dh_model.specs.declared.open_run.OpenRun.{OpenRun}
use Rattle.dh_model.specs.declared.rows.Change.{Change}
use Rattle.dh_model.specs.declared.rows.Change.TheVariants as change
use Rattle.dh_model.specs.Books.{Books}
use Rattle.dh_model.specs.Kinds.{Kind, key_in, records_of}
use Rattle.dh_model.specs.Edits.{Begin, Edit, Insert, Nothing, Replace, Update, edit_of}
use Rattle.dh_model.specs.Machine.{changed}
use Rattle.dh_model.specs.Rules.{Each, IsThere, NamesWhatIsThere, Refers}
use Rattle.dh_model.proofs.KindOrders.{ties_of, total_of}
use Rattle.dh_laws.proofs.VerdictLemmas.Acceptance.{Accepted, Edits, edits, turned, turned_is, with_edit}
use Rattle.dh_laws.proofs.InvariantLemmas.Growth.{Grows, StayRegistered, names_put, stay_with_property, stay_with_registration, still_refers}
use Rattle.dh_model.proofs.MapRows.{each_got, inside}

-- the next month is no row
module _ (books : Books) (month : ℕ) where
  abbrev at_month : Books
  at_month = record books { next = month }

  same_rows : (kind : Kind) → records_of kind books ≡ records_of kind at_month
  same_rows Kind.Branches = refl
  same_rows kind = refl

  there_next : Grows books at_month
  there_next = record { there = λ kind key. subst (λ rows. IsThere rows key) (same_rows kind); registered = λ c p h. h }

  names_next : NamesWhatIsThere books → NamesWhatIsThere at_month
  names_next names kind =
      subst (λ rows. Each rows (Refers at_month kind)) (same_rows kind) (λ row a. still_refers books at_month there_next kind row (names kind row a))

module _ (books : Books) (run : Option OpenRun) (names : NamesWhatIsThere books) where
  names_edited : (edit : Edit) (a : Edits books run edit) → StayRegistered books (with_edit books run edit a)
      → NamesWhatIsThere (with_edit books run edit a)
  names_edited (Insert kind it) a stay = names_put books kind (key_in kind it) it names stay a.refers
  names_edited (Replace kind it) a stay = names_put books kind (key_in kind it) it names stay a.refers
  names_edited (Update kind key into) a stay =
      names_put books kind key (into a.row) names stay
      (a.refers (each_got (total_of kind) (ties_of kind) (records_of kind books) (Refers books kind) (names kind) key a.row a.is))
  names_edited (Begin it) a stay =
      names_next (record books { runs = insert books.runs it.month it }) (it.month + 1) (names_put books Kind.Runs it.month it names (λ c p r. r) tt)
  names_edited Nothing a stay = names

  -- a row in the place of another, of the same branch
  stay_replaced : (key : List ℕ) (row it : Property) → get books.properties key ≡ Some row → it.branch ≡ row.branch
      → StayRegistered books (record books { properties = insert books.properties key it })
  stay_replaced key row it is branch =
      stay_with_property books key it (λ other e. ap (λ (p : Property). p.branch) (inside other row (sym e ∙ is)) ∙ sym branch)

  stay : (rows : Change) (a : Accepted books run rows) → StayRegistered books (turned books run rows a)
  stay (change.Property it) a =
      stay_with_property books it.number it (λ row is. let none : None ≡ Some row = sym a.known ∙ is in cc)
  stay (change.Assign it) a = stay_replaced it.property a.row (record a.row { staff = it.staff }) a.is refl
  stay (change.Rent it) a = stay_replaced it.property a.row (record a.row { rent = it.rent }) a.is refl
  stay (change.Register it) a = stay_with_registration books (it.client, it.branch) it
  stay rows a = λ c p r. r

  pub keeps_references : (rows : Change) → Accepted books run rows → NamesWhatIsThere (changed rows books)
  keeps_references rows a =
      subst NamesWhatIsThere (turned_is books run rows a) (names_edited (edit_of rows) (edits books run rows a) (stay rows a))
