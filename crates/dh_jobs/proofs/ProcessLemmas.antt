-- The words behind the program's name.
use Rattle.std.proofs.Common.{◌≡◌, List, [], ◌∷◌, Option, ℕ, map, refl, subst}
use Rattle.sqlite_disk.specs.declared.Disk as disk
use Rattle.sqlite_wal.specs.Recovery.{Image}
use Rattle.dh_jobs.specs.declared.status.Status.{Status}
use Rattle.dh_jobs.specs.Desk.{DeskEnds}
use Rattle.dh_jobs.specs.Process.{WordsEnd, behind_name}

pub behind_names : {A B : Type 0} (f : A → B) (words : List A) → behind_name (map f words) ≡ map f (behind_name words)
behind_names f [] = refl
behind_names f (name ∷ words) = refl

module _ {D : Type 0} (g : disk.Ghosts D) (held : Image) (input a b : Option (List ℕ)) (it : Status) where
  pub same_words : (words other : List (List ℕ)) → words ≡ other → DeskEnds g held words input a b it → DeskEnds g held other input a b it
  same_words words other same ends = subst (λ w. DeskEnds g held w input a b it) same ends

  pub words_alike : (words other : List (List ℕ)) → words ≡ other → WordsEnd g held words input a b it → WordsEnd g held other input a b it
  words_alike words other same ends = subst (λ w. WordsEnd g held w input a b it) same ends
