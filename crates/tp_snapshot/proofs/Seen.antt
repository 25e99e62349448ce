-- Values of the code beside the data that they stand for.
use Rattle.std.proofs.Common.{◌≡◌, ℕ, suc, ◌<◌, ◌≤◌, ◌+◌, List, [], ◌∷◌, ◌++◌, map, length, get_or, drop, Option, Some, None, String, Global, refl, ap, sym, ◌∙◌, append_assoc}
use Rattle.std.specs.Prelude.{option_and_then, option_map}
use Rattle.std.proofs.lemmas.Bool.{le-leb}
use Rattle.std.proofs.lemmas.List.{length-map}
use Rattle.serde_json.specs.Data.{Data}
use Rattle.serde_json.specs.Find.{as_array, get}
use Rattle.serde_json.specs.View.{view, items_of, items_view, members_view}
use Rattle.serde_json.specs.declared.value.Value.{Value}
use Rattle.tp_words.specs.Each.{each_read, with_front}
use Rattle.tp_words.proofs.EachFacts.{each-turn, each-stop, each-end, front-nil}
use Rattle.tp_snapshot.specs.Values.{count_of, few_read, field_of, list_of, values_of}

pub values_of-items : (ds : List Data) → values_of (items_of ds) ≡ ds
values_of-items [] = refl
values_of-items (d ∷ ds) = ap (λ t. d ∷ t) (values_of-items ds)

pub values_seen : (vs : List Value) → values_of (items_view vs) ≡ map view vs
values_seen vs = values_of-items (map view vs)

pub counted : (es : List (String Global × Value)) → count_of (members_view es) ≡ length es
counted [] = refl
counted (e ∷ es) = ap (λ n. suc n) (counted es)

pub each-map : {W V X : Type 0} (read : V → Option X) (see : W → V) (ws : List W) → each_read (λ w. read (see w)) ws ≡ each_read read (map see ws)
unfolding each_read
each-map read see [] = refl
each-map read see (w ∷ ws) = ap (λ more. option_and_then (λ x. option_map (λ xs. x ∷ xs) more) (read (see w))) (each-map read see ws)

pub onward : {X : Type 0} (front : List X) (x : X) (more : Option (List X)) → with_front front (option_map (λ xs. x ∷ xs) more) ≡ with_front (front ++ x ∷ []) more
onward front x None = refl
onward front x (Some xs) = ap (λ ys. Some ys) (sym (append_assoc front (x ∷ []) xs))

-- what a loop over values has read so far, and what is left of it
abbrev pub LeftToRead : {X : Type 0} → (Data → Option X) → List X → ℕ → List Value → Type 0
LeftToRead read front i vs = with_front front (each_read (λ v. read (view v)) (drop i vs)) ≡ each_read read (map view vs)

pub read-none : {X : Type 0} (read : Data → Option X) (vs : List Value) (front : List X) → front ≡ [] → LeftToRead read front 0 vs
read-none read vs front none = ap (λ f. with_front f (each_read (λ v. read (view v)) vs)) none ∙ front-nil (each_read (λ v. read (view v)) vs) ∙ each-map read view vs

pub read-turn : {X : Type 0} (read : Data → Option X) (vs : List Value) (front : List X) (i : ℕ) (v : Value) (x : X) → i < length vs → v ≡ get_or vs i v → read (view v) ≡ Some x
    → LeftToRead read front i vs → LeftToRead read (front ++ x ∷ []) (i + 1) vs
read-turn read vs front i v x lt at is left =
    let here : read (view (get_or vs i v)) ≡ Some x = ap (λ w. read (view w)) (sym at) ∙ is in
    sym (each-turn (λ w. read (view w)) vs front i v x lt here) ∙ left

pub read-stop : {X : Type 0} (read : Data → Option X) (vs : List Value) (front : List X) (i : ℕ) (v : Value) → i < length vs → v ≡ get_or vs i v → read (view v) ≡ None
    → LeftToRead read front i vs → each_read read (map view vs) ≡ None
read-stop read vs front i v lt at is left =
    let here : read (view (get_or vs i v)) ≡ None = ap (λ w. read (view w)) (sym at) ∙ is in
    sym left ∙ each-stop (λ w. read (view w)) vs front i v lt here

pub read-all : {X : Type 0} (read : Data → Option X) (vs : List Value) (front : List X) (i : ℕ) → length vs ≤ i → LeftToRead read front i vs → each_read read (map view vs) ≡ Some front
read-all read vs front i le left = sym left ∙ each-end (λ w. read (view w)) vs front i le

-- at most so many
pub few-all : {X : Type 0} (read : Data → Option X) (most : ℕ) (vs : List Value) (o : Option (List X)) → length vs ≤ most → each_read read (map view vs) ≡ o → few_read most read (map view vs) ≡ o
few-all read most vs o few is = rw (length-map, le-leb (length vs) most few) is

pub array-at : (key : List ℕ) (d : Data) (v : Value) (vs : List Value) → get key d ≡ Some (view v) → as_array (view v) ≡ Some (items_view vs) → field_of key list_of d ≡ Some (map view vs)
array-at key d v vs at is = rw (at, is, values_seen vs) refl

pub map_last : {X Y : Type 0} (f : X → Y) (xs : List X) (y : X) → map f (xs ++ y ∷ []) ≡ map f xs ++ f y ∷ []
map_last f [] y = refl
map_last f (x ∷ xs) y = ap (λ t. f x ∷ t) (map_last f xs y)

pub ruleset seen = (values_seen, counted, map_last)
