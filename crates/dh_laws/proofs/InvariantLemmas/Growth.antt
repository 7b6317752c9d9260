-- Where books grow, what a row names is still there.
use Rattle.std.proofs.Common.{◌≡◌, ◌≢◌, ◌∙◌, refl, sym, ap, subst, inl, inr, ℕ, true, List, Option, Some, None, IfSome}
use Rattle.std.specs.FinMap.{get, insert}
use Rattle.dh_types.specs.declared.property.Property.{Property}
use Rattle.dh_types.specs.declared.client.Registration.{Registration}
use Rattle.dh_model.specs.Books.{Books}
use Rattle.dh_model.specs.Checks.{is_registered}
use Rattle.dh_model.specs.Kinds.{Kind, key_of, record_of, records_of, with_records}
use Rattle.dh_model.specs.Rules.{Each, IsThere, NamesWhatIsThere, Refers}
use Rattle.dh_model.proofs.KeyOrders.{text_total, text_ties, texts_total, texts_tie}
use Rattle.dh_model.proofs.KindOrders.{ties_of, total_of}
use Rattle.dh_model.proofs.MapRows.{cases_key, each_put, get_new, get_other, there_after}
use Rattle.dh_laws.proofs.InvariantLemmas.KeyedRows.{each_with}
use Rattle.dh_laws.proofs.VerdictLemmas.Checks.{some_property}

-- who is registered at a property's branch is so after
abbrev pub StayRegistered : (books after : Books) → Type 0
StayRegistered books after = (client property : List ℕ) → is_registered books client (get books.properties property) ≡ true
    → is_registered after client (get after.properties property) ≡ true

-- what is there in the books is there in those after
pub record Grows (books after : Books) : Type 0 where
  pub there : (kind : Kind) (key : key_of kind) → IsThere (records_of kind books) key → IsThere (records_of kind after) key
  pub registered : StayRegistered books after

pub if_some : {X : Type 0} {P Q : X → Type 0} (found : Option X) → ((x : X) → P x → Q x) → IfSome found P → IfSome found Q
if_some None f h = tt
if_some (Some x) f h = f x h

module _ (books after : Books) (g : Grows books after) where
  -- what a row names is there after
  pub still_refers : (kind : Kind) (it : record_of kind) → Refers books kind it → Refers after kind it
  still_refers Kind.Staff it q = g.there Kind.Branches it.branch q
  still_refers Kind.Properties it q =
      record {
        owner = g.there Kind.Owners it.owner q.owner;
        staff = if_some it.staff (g.there Kind.Staff) q.staff;
        branch = g.there Kind.Branches it.branch q.branch;
      }
  still_refers Kind.Registrations it q =
      record {
        client = g.there Kind.Clients it.client q.client;
        branch = g.there Kind.Branches it.branch q.branch;
        staff = g.there Kind.Staff it.staff q.staff;
      }
  still_refers Kind.Viewings it q =
      record { client = g.there Kind.Clients it.client q.client; property = g.there Kind.Properties it.property q.property }
  still_refers Kind.Inspections it q =
      record { property = g.there Kind.Properties it.property q.property; staff = g.there Kind.Staff it.staff q.staff }
  still_refers Kind.Leases it q =
      record {
        client = g.there Kind.Clients it.terms.client q.client;
        property = g.there Kind.Properties it.terms.property q.property;
        registered = g.registered it.terms.client it.terms.property q.registered;
      }
  still_refers Kind.Charges it q = g.there Kind.Leases it.lease q
  still_refers Kind.Receipts it q = g.there Kind.Leases it.payment.lease q
  still_refers Kind.Parts it q = record { run = g.there Kind.Runs it.month q.run; branch = g.there Kind.Branches it.branch q.branch }
  still_refers Kind.BranchFees it q = g.there Kind.Branches it.branch q
  still_refers Kind.PartFees it q = g.there Kind.Parts (it.month, it.branch) q
  still_refers Kind.Endings it q = g.there Kind.Leases it.lease q
  still_refers other it q = q

  pub still : NamesWhatIsThere books → (kind : Kind) → Each (records_of kind books) (Refers after kind)
  still names kind it a = still_refers kind it (names kind it a)

-- a record is put, and names what is there
module _ (books : Books) (kind : Kind) (key : key_of kind) (it : record_of kind) where
  abbrev with_it : Books
  with_it = with_records kind (insert (records_of kind books) key it) books

  pub grows_put : StayRegistered books with_it → Grows books with_it
  grows_put stay =
      record {
        there = each_with books (λ other rows. (q : key_of other) → IsThere (records_of other books) q → IsThere rows q) (λ other q h. h) kind
            (insert (records_of kind books) key it) (there_after (total_of kind) (ties_of kind) (records_of kind books) key it);
        registered = stay;
      }

  pub names_put : NamesWhatIsThere books → StayRegistered books with_it → Refers books kind it → NamesWhatIsThere with_it
  names_put names stay refers =
      let grows = grows_put stay in
      each_with books (λ other rows. Each rows (Refers with_it other)) (still books with_it grows names) kind (insert (records_of kind books) key it)
      (each_put (total_of kind) (ties_of kind) (records_of kind books) key it (Refers with_it kind) (still books with_it grows names kind)
      (still_refers books with_it grows kind it refers))

module _ (books : Books) where
  registered_by : (key : List ℕ × List ℕ) (it : Registration) (client : List ℕ) (found : Option Property) → is_registered books client found ≡ true
      → is_registered (record books { registrations = insert books.registrations key it }) client found ≡ true
  registered_by key it client None h = h
  registered_by key it client (Some row) h = there_after texts_total texts_tie books.registrations key it (client, row.branch) h

  pub stay_with_registration : (key : List ℕ × List ℕ) (it : Registration)
      → StayRegistered books (record books { registrations = insert books.registrations key it })
  stay_with_registration key it c p h = registered_by key it c (get books.properties p) h

  -- a property that is replaced stays with its branch
  module _ (key : List ℕ) (it : Property) (stays : (row : Property) → get books.properties key ≡ Some row → row.branch ≡ it.branch) where
    abbrev with_property : Books
    with_property = record books { properties = insert books.properties key it }

    registered_there : (client property : List ℕ) → property ≡ key → is_registered books client (get books.properties property) ≡ true
        → is_registered books client (get (insert books.properties key it) property) ≡ true
    registered_there client property same h =
        let was = some_property books client (get books.properties property) h in
        let branch = stays was.0 (ap (get books.properties) (sym same) ∙ was.1) in
        ap (λ k. is_registered books client (get (insert books.properties key it) k)) same
        ∙ ap (is_registered books client) (get_new text_total text_ties books.properties key it)
        ∙ subst (λ b. IsThere books.registrations (client, b)) branch was.2

    registered_apart : (client property : List ℕ) → property ≢ key → is_registered books client (get books.properties property) ≡ true
        → is_registered books client (get (insert books.properties key it) property) ≡ true
    registered_apart client property apart h = ap (is_registered books client) (get_other text_total text_ties books.properties key it property apart) ∙ h

    same_registered : (client : List ℕ) (found : Option Property) → is_registered books client found ≡ is_registered with_property client found
    same_registered client None = refl
    same_registered client (Some row) = refl

    pub stay_with_property : StayRegistered books with_property
    stay_with_property client property h =
        sym (same_registered client (get (insert books.properties key it) property)) ∙ elim (cases_key text_total text_ties property key) [
          | inl same ↦ registered_there client property same h
          | inr apart ↦ registered_apart client property apart h
        ]
