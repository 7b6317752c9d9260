-- What a record makes of an agency's tables, in the words of a batch.
use Rattle.std.proofs.Common.{◌≡◌, ◌∙◌, ◌⊎◌, inl, inr, refl, sym, ap, Some, Result, Ok, Err}
use Rattle.std.proofs.Common.{[], ◌∷◌, ◌++◌, arith}
use Rattle.sqlite.specs.Store.{Ghosts}
use Rattle.dh_types.specs.declared.reply.Refusal.{Refusal}
use Rattle.dh_model.specs.Books.{State}
use Rattle.dh_model.specs.Machine.{step}
use Rattle.dh_model.specs.Runs.{batch_size}
use Rattle.dh_agency.specs.AgencyView.{AgencyView}
use Rattle.dh_agency.specs.Agency.{Leaves, LeavesItsTables, machine, stand, stand_of}
use Rattle.dh_agency.specs.Requests.{IsCutIn}
use Rattle.dh_agency.proofs.Standing.{leaves_more, leaves_what_holds}
use Rattle.dh_types.specs.declared.request.Request.{Request}
use Rattle.dh_types.specs.declared.request.Request.TheVariants as request
use Rattle.dh_fields.specs.Lines.{Fields, request_of}
use Rattle.dh_lines.specs.Session.{answered, answered_request}
use Rattle.dh_lines.specs.Batch.{AreAfter, IsWithin, LeavesAnswered, WasAnswered}
use Rattle.dh_lines.proofs.Following.{state-more}

-- what is cut in a request is cut within its record
pub cut_within : (fields : Fields) (request : Result Request Refusal) (s left : State) → request ≡ request_of fields → IsCutIn request s left
    → IsWithin (stand_of s) (Some fields) left
cut_within fields (Ok (request.Command it)) s left asked (inl undone) = inr (fields, it, refl, sym asked, inl (undone.books, undone.run))
cut_within fields (Ok (request.Command it)) s left asked (inr done) =
    let stepped : (answered (stand_of s) fields).state.books ≡ (step batch_size (stand_of s) it).0.books =
    ap (λ (r : Result Request Refusal). (answered_request (stand_of s) r).state.books) (sym asked) in
    inr (fields, it, refl, sym asked, inr (done.books ∙ sym stepped, done.run))
cut_within fields (Ok (request.Question it)) s left asked is = inl (ap stand_of is)
cut_within fields (Err why) s left asked is = inl (ap stand_of is)

module _ {S : Type 0} (g : Ghosts S) where
  pub leaves_cut : (old new : AgencyView S) (fields : Fields) (request : Result Request Refusal) → request ≡ request_of fields
      → Leaves g new (IsCutIn request (machine g old)) → Leaves g new (IsWithin (stand g old) (Some fields))
  leaves_cut old new fields request asked h =
      leaves_more g new (IsCutIn request (machine g old)) (IsWithin (stand g old) (Some fields))
      (λ t cut. cut_within fields request (machine g old) t asked cut) h

  -- ---- one record after the other

  module _ (old mid new : AgencyView S) (f : Fields) (h : WasAnswered g old mid) where
    pub answered_next : stand g new ≡ (answered (stand g mid) f).state → WasAnswered g old new
    answered_next next = record {
      rows = h.rows ++ f ∷ [];
      stands = next ∙ ap (λ s. (answered s f).state) h.stands ∙ sym (state-more (stand g old) h.rows f);
    }

    after : (left : State) → IsWithin (stand g mid) (Some f) left
        → AreAfter (stand g old) h.rows left ⊎ AreAfter (stand g old) (h.rows ++ f ∷ []) left
    after left (inl same) = inl (ap (λ (s : State). s.books) (same ∙ h.stands))
    after left (inr (fields, it, is, asked, inl undone)) = inl (undone.0 ∙ ap (λ (s : State). s.books) h.stands)
    after left (inr (fields, it, is, asked, inr done)) =
        let same : f ≡ fields = cc in
        inr (done.0 ∙ ap (λ r. (answered (stand g mid) r).state.books) (sym same) ∙ ap (λ s. (answered s f).state.books) h.stands
        ∙ ap (λ (s : State). s.books) (sym (state-more (stand g old) h.rows f)))

    pub leaves_within : Leaves g new (IsWithin (stand g mid) (Some f)) → LeavesAnswered g old new
    leaves_within left = record {
      rows = h.rows;
      within = f ∷ [];
      one = omega arith;
      left = leaves_more g new (IsWithin (stand g mid) (Some f)) _ after left;
    }

  pub leaves_between : (old new : AgencyView S) → WasAnswered g old new → LeavesItsTables g new → LeavesAnswered g old new
  leaves_between old new h left = record {
    rows = h.rows;
    within = [];
    one = omega arith;
    left = leaves_what_holds g new (λ left. AreAfter (stand g old) h.rows left ⊎ AreAfter (stand g old) (h.rows ++ []) left) left
        (inl (ap (λ (s : State). s.books) h.stands));
  }
