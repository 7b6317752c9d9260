-- One read of a source more.
use Rattle.std.proofs.Common.{◌≡◌, ◌∙◌, ◌++◌, ◌+◌, [], ◌∷◌, ℕ, List, Option, Some, None, Result, Err, ap}
use Rattle.std.proofs.Common.{append_assoc, append-nil, arith, length, length-append, refl, sym}
use Rattle.std.proofs.lemmas.List.Elements.{All-nil, All-cons, All-append}
use Rattle.std.specs.Prelude.{All}
use Rattle.std.specs.IoError.{error_kind}
use Rattle.std.specs.declared.io.Error.{Error}
use Rattle.std.specs.declared.io.ErrorKind.TheVariants.{Interrupted}
use Rattle.dh_reading.specs.Reads.{AreOfOneRead, IsGiven, IsInterrupted, Makes}

pub makes_none : (a : Option (List (Result ℕ Error))) → Makes a a []
makes_none None = tt
makes_none (Some reads) = sym (append-nil reads)

pub makes_both : (a m b : Option (List (Result ℕ Error))) (first second : List (Result ℕ Error)) → Makes a m first → Makes m b second
    → Makes a b (first ++ second)
makes_both None m b first second one two = tt
makes_both (Some xs) None b first second one two = absurd one
makes_both (Some xs) (Some ys) None first second one two = absurd two
makes_both (Some xs) (Some ys) (Some zs) first second one two = two ∙ ap (λ l. l ++ second) one ∙ append_assoc xs first second

-- so far so many reads were made, each interrupted
pub record WereInterrupted (a b : Option (List (Result ℕ Error))) (turns : ℕ) : Type 0 where
  pub reads : List (Result ℕ Error)
  pub made : Makes a b reads
  pub all : All IsInterrupted reads
  pub many : length reads ≡ turns

pub interrupted_more : (a m b : Option (List (Result ℕ Error))) (turns : ℕ) (e : Error) → WereInterrupted a m turns → Makes m b (Err e ∷ [])
    → error_kind e ≡ Interrupted → WereInterrupted a b (turns + 1)
interrupted_more a m b turns e so_far made kind = record {
  reads = so_far.reads ++ Err e ∷ [];
  made = makes_both a m b so_far.reads (Err e ∷ []) so_far.made made;
  all = All-append IsInterrupted so_far.reads (Err e ∷ []) so_far.all (All-cons IsInterrupted (Err e) [] kind (All-nil IsInterrupted));
  many = (let many = so_far.many in omega (arith, length-append so_far.reads (Err e ∷ []), many));
}

-- the read that ends it
pub gave : {E : Type 0} (error_of : E → Error) (a m b : Option (List (Result ℕ Error))) (turns : ℕ) (last : Result ℕ Error) (result : Result ℕ E)
    → WereInterrupted a m turns → Makes m b (last ∷ []) → ¬ IsInterrupted last → IsGiven error_of last result
    → (reads : List (Result ℕ Error)) × Makes a b reads × AreOfOneRead error_of reads result
gave error_of a m b turns last result so_far made other given = (
  so_far.reads ++ last ∷ [],
  makes_both a m b so_far.reads (last ∷ []) so_far.made made,
  AreOfOneRead.Gave so_far.reads last refl so_far.all other given,
)
