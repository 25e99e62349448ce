-- One thing more written behind the others.
use Rattle.std.proofs.Common.{◌≡◌, ℕ, ◌+◌, ◌<◌, List, [], ◌∷◌, ◌++◌, length, get_or, map, take, sym, ap, subst, ◌∙◌, append_assoc}
use Rattle.std.specs.List.{All, flat_map}
use Rattle.std.proofs.lemmas.List.{append-nil, take_more}
use Rattle.std.proofs.lemmas.List.Concat.{flat_map-append}
use Rattle.std.proofs.lemmas.List.Elements.{All-more}
use Rattle.std.proofs.lemmas.List.Folds.{flat_map-map}
use Rattle.tp_bounds.specs.Lines.{behind_spaces}

pub text_more : {X : Type 0} (text : X → List ℕ) (xs : List X) (i : ℕ) (d x : X) (start out new : List ℕ) → i < length xs → x ≡ get_or xs i d → out ≡ start ++ flat_map text (take i xs) → new ≡ out ++ text x → new ≡ start ++ flat_map text (take (i + 1) xs)
text_more text xs i d x start out new lt is so_far more =
    let front = flat_map text (take i xs) in
    let grown : flat_map text (take (i + 1) xs) ≡ front ++ text x = ap (flat_map text) (take_more xs i d lt) ∙ flat_map-append text (take i xs) (get_or xs i d ∷ []) ∙ ap (λ t. front ++ t) (append-nil (text (get_or xs i d)) ∙ ap text (sym is)) in
    more ∙ ap (λ o. o ++ text x) so_far ∙ append_assoc start front (text x) ∙ ap (λ t. start ++ t) (sym grown)

pub words_more : {X : Type 0} (text : X → List ℕ) (xs : List X) (i : ℕ) (d x : X) (start out new : List ℕ) → i < length xs → x ≡ get_or xs i d → out ≡ start ++ behind_spaces (map text (take i xs)) → new ≡ out ++ 32 ∷ text x → new ≡ start ++ behind_spaces (map text (take (i + 1) xs))
words_more text xs i d x start out new lt is so_far more =
    text_more (λ x. 32 ∷ text x) xs i d x start out new lt is (so_far ∙ ap (λ t. start ++ t) (flat_map-map (λ word. 32 ∷ word) text (take i xs))) more
    ∙ ap (λ t. start ++ t) (sym (flat_map-map (λ word. 32 ∷ word) text (take (i + 1) xs)))

pub all_more : {X : Type 0} (P : X → Type 0) (xs : List X) (i : ℕ) (d x : X) → i < length xs → x ≡ get_or xs i d → All P (take i xs) → P x → All P (take (i + 1) xs)
all_more P xs i d x lt is h p = All-more P xs i d lt h (subst P is p)
