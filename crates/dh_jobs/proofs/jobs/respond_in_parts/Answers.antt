use Rattle.std.proofs.Common.{◌≡◌, ◌∙◌, Some, ℕ, Ok, Err, Result, ap, arith, inr, subst, sym, true}
use Rattle.std.specs.Prelude.{OnErr}
use Rattle.dh_types.specs.declared.command.Command.TheVariants as command
use Rattle.dh_model.specs.Books.{State}
use Rattle.dh_agency.specs.Agency.{IsClean, Leaves, machine, stand_of}
use Rattle.dh_agency.specs.Requests.{IsCutIn, Said, said_in, said_to}
use Rattle.dh_agency.proofs.Standing.{leaves_more}
use Rattle.dh_types.specs.declared.request.Request.{Request}
use Rattle.dh_types.specs.declared.request.Request.TheVariants.{Command}
use Rattle.dh_jobs.specs.Jobs.{IsAskCut, is_opened}
use Rattle.dh_jobs.proofs.jobs.respond_in_parts.Goals as goal

-- batches were posted behind the opening
cut_behind : (before mid : State) (request : Request) (count : ℕ) (said : Said) → said_to (stand_of before) (Ok request) ≡ (stand_of mid, said)
    → is_opened said ≡ true → (left : State) → IsCutIn (Ok (Command (command.Post count))) mid left → IsAskCut before request (Some count) left
cut_behind before mid request count said told opens left h =
    inr (ap (λ (it : State × Said). is_opened it.1) told ∙ opens, mid, sym (ap (λ (it : State × Said). it.0) told), h)

halted_behind : {X E : Type 0} (P Q : Type 0) (r : Result X E) → (P → Q) → OnErr r P → OnErr r Q
halted_behind P Q (Ok x) f h = h
halted_behind P Q (Err e) f h = f h

pub returns-in-Some-clause-crash : goal.returns-in-Some-clause-crash
returns-in-Some-clause-crash g c clean rests =
    let before = machine g.S.Store c.args.agency.now in
    let mid = c.respond.new.agency in
    let new = c.respond-in-Some.new.agency in
    let at : IsClean g.S.Store mid = omega (arith, c.respond-in-Some.ensures.ends.was_clean, clean) in
    let live = c.in_ok-response.ensures.ends.goes_on ∙ c.requires in
    subst (λ batches. Leaves g.S.Store new (IsAskCut before c.args.request batches)) (sym c.in-Some.is)
    (leaves_more g.S.Store new _ (IsAskCut before c.args.request (Some c.in-Some.count))
    (cut_behind before (machine g.S.Store mid) c.args.request c.in-Some.count (said_in c.in_ok-response.response) (c.in_ok-response.ensures.said at)
    (sym c.is_opened.ensures ∙ c.if-is_opened.true))
    (c.respond-in-Some.ensures.crash clean live (c.in_ok-response.ensures.left at rests live)))

pub returns-in-Some-clause-halted : goal.returns-in-Some-clause-halted
returns-in-Some-clause-halted g c clean is_open =
    let before = machine g.S.Store c.args.agency.now in
    let mid = c.respond.new.agency in
    let new = machine g.S.Store c.respond-in-Some.new.agency in
    let at : IsClean g.S.Store mid = omega (arith, c.respond-in-Some.ensures.ends.was_clean, clean) in
    subst (λ batches. OnErr c.respond-in-Some.result (IsAskCut before c.args.request batches new)) (sym c.in-Some.is)
    (halted_behind _ (IsAskCut before c.args.request (Some c.in-Some.count) new) c.respond-in-Some.result
    (cut_behind before (machine g.S.Store mid) c.args.request c.in-Some.count (said_in c.in_ok-response.response) (c.in_ok-response.ensures.said at)
    (sym c.is_opened.ensures ∙ c.if-is_opened.true) new)
    (c.respond-in-Some.ensures.halted clean is_open))
