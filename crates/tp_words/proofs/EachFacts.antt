-- Reading each word of a list, by turns and as a whole.
use denote.Ref.{Bor}
use Rattle.std.proofs.Common.{◌≡◌, ℕ, ◌+◌, ◌<◌, ◌≤◌, List, [], ◌∷◌, ◌++◌, length, get_or, drop, Option, Some, None, refl, sym, ap, subst, ◌∙◌, append_assoc}
use Rattle.std.specs.Prelude.{option_map}
use Rattle.std.specs.List.{AllZip}
use Rattle.std.proofs.lemmas.List.{drop_more, drop_all, append-nil}
use Rattle.tp_words.specs.Each.{each_read, with_front}
use Rattle.tp_words.specs.Parts.{shown}
use Rattle.tp_words.proofs.Steps.{and_then_some, map_some}

onward : {X : Type 0} (front : List X) (x : X) (more : Option (List X)) → with_front front (option_map (λ xs. x ∷ xs) more) ≡ with_front (front ++ x ∷ []) more
onward front x None = refl
onward front x (Some xs) = ap (λ ys. Some ys) (sym (append_assoc front (x ∷ []) xs))

-- one turn of a loop that reads
pub each-turn : {W X : Type 0} (read : W → Option X) (words : List W) (front : List X) (i : ℕ) (d : W) (x : X) → i < length words → read (get_or words i d) ≡ Some x → with_front front (each_read read (drop i words)) ≡ with_front (front ++ x ∷ []) (each_read read (drop (i + 1) words))
unfolding each_read
each-turn read words front i d x lt is =
    ap (λ ws. with_front front (each_read read ws)) (drop_more words i d lt) ∙ rw is (onward front x (each_read read (drop (i + 1) words)))

-- a word that can't be read
pub each-stop : {W X : Type 0} (read : W → Option X) (words : List W) (front : List X) (i : ℕ) (d : W) → i < length words → read (get_or words i d) ≡ None → with_front front (each_read read (drop i words)) ≡ None
unfolding each_read
each-stop read words front i d lt is =
    ap (λ ws. with_front front (each_read read ws)) (drop_more words i d lt) ∙ rw is refl

-- all are read
pub each-end : {W X : Type 0} (read : W → Option X) (words : List W) (front : List X) (i : ℕ) → length words ≤ i → with_front front (each_read read (drop i words)) ≡ Some front
unfolding each_read
each-end read words front i le = ap (λ ws. with_front front (each_read read ws)) (drop_all i words le) ∙ ap (λ xs. Some xs) (append-nil front)

-- what is read of references
pub each_read-shown : {X : Type 0} (read : List ℕ → Option X) (words : List (Bor (List ℕ))) → each_read (λ word. read word.now) words ≡ each_read read (shown words)
unfolding each_read
each_read-shown read [] = refl
each_read-shown read (word ∷ words) = rw (each_read-shown read words) refl

-- as a whole: each word gives its value
pub each_takes : {W X : Type 0} (read : W → Option X) (words : List W) (xs : List X) → each_read read words ≡ Some xs → AllZip (λ word x. read word ≡ Some x) words xs
unfolding each_read
each_takes read [] [] e = tt
each_takes read [] (x ∷ xs) e = absurd cc
each_takes read (word ∷ words) xs e =
    let a = and_then_some (read word) (λ x. option_map (λ ys. x ∷ ys) (each_read read words)) xs e in
    let b = map_some (λ ys. a.0 ∷ ys) (each_read read words) xs a.2 in
    subst (λ zs. AllZip (λ word' x. read word' ≡ Some x) (word ∷ words) zs) b.2 (a.1, each_takes read words b.0 b.1)

pub each_again : {W X : Type 0} (read : W → Option X) (words : List W) (xs : List X) → AllZip (λ word x. read word ≡ Some x) words xs → each_read read words ≡ Some xs
unfolding each_read
each_again read [] [] h = refl
each_again read [] (x ∷ xs) h = absurd h
each_again read (word ∷ words) [] h = absurd h
each_again read (word ∷ words) (x ∷ xs) h = rw (h.0, each_again read words xs h.1) refl

pub front-nil : {X : Type 0} (more : Option (List X)) → with_front [] more ≡ more
front-nil None = refl
front-nil (Some xs) = refl
