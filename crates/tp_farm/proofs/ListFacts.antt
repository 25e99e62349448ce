-- The names of a list, behind references.
use denote.Ref.{Bor}
use Rattle.std.proofs.Common.{◌≡◌, ℕ, zero, suc, ◌+◌, ◌<◌, List, [], ◌∷◌, length, get_or, refl, subst, sym, take, arith}
use Rattle.std.specs.List.{All}
use Rattle.std.proofs.lemmas.List.{length-map}
use Rattle.std.proofs.lemmas.Option.{slice_get-get_or}
use Rattle.tp_words.specs.Parts.{shown}
use Rattle.tp_farm.specs.Lists.{IsBadAt, IsFileName}

pub get_or-shown : (names : List (Bor (List ℕ))) (i : ℕ) (d : Bor (List ℕ)) → i < length names → (get_or names i d).now ≡ get_or (shown names) i []
get_or-shown [] i d inside = absurd (omega (arith, inside))
get_or-shown (name ∷ names) zero d inside = refl
get_or-shown (name ∷ names) (suc i) d inside = get_or-shown names i d (omega (arith, inside))

-- a name that is no file name is the first such if those before it are file names
pub bad-at : (names : List (Bor (List ℕ))) (i : ℕ) (d : Bor (List ℕ)) → i < length names → All IsFileName (take i (shown names)) → ¬ IsFileName (get_or names i d).now → IsBadAt (shown names) (i + 1)
bad-at names i d inside before bad =
    let there : i < length (shown names) = omega (arith, inside, length-map names (λ text. text.now)) in
    record {
      place = i;
      counted = refl;
      first = record {
        name = get_or (shown names) i [];
        there = slice_get-get_or (shown names) i [] there;
        bad = λ good. bad (subst IsFileName (sym (get_or-shown names i d inside)) good);
        before = before;
      };
    }
