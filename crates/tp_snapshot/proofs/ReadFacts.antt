-- What was read had a value, and keeps its range.
use Rattle.std.proofs.Common.{◌≡◌, ℕ, suc, ◌<◌, ◌≤◌, cond, Bool, true, false, List, [], ◌∷◌, length, All, Option, Some, None, refl, ap, subst, arith, option_and_then, option_map, nat_le}
use Rattle.std.proofs.lemmas.Bool.{leb-true}
use Rattle.std.proofs.lemmas.List.Elements.{All-cons}
use Rattle.std.proofs.lemmas.Option.{none-some, same_Some}
use Rattle.serde_json.specs.Data.{Data}
use Rattle.serde_json.specs.Find.{as_number, as_u64, get}
use Rattle.tp_words.proofs.Steps.{and_then_some, map_some}
use Rattle.tp_words.specs.Each.{each_read}
use Rattle.tp_snapshot.specs.Values.{at_most, each_of, few_read, field_of, list_of, whole_of}

pub when_some : {X : Type 0} (b : Bool) (o : Option X) (x : X) → cond b o None ≡ Some x → (b ≡ true) × (o ≡ Some x)
when_some true o x e = (refl, e)
when_some false o x e = absurd (none-some x e)

pub field-value : {X : Type 0} (key : List ℕ) (read : Data → Option X) (d : Data) (x : X) → field_of key read d ≡ Some x → (e : Data) × (read e ≡ Some x)
field-value key read d x e = let (v, at, is) = and_then_some (get key d) read x e in (v, is)

pub whole-most : (most n : ℕ) (d : Data) → whole_of most d ≡ Some n → n ≤ most
whole-most most n d e =
    let (k, at, is) = and_then_some (option_and_then as_u64 (as_number d)) (at_most most) n e in
    let (low, same) = when_some (nat_le k most) (Some k) n is in
    subst (λ i. i ≤ most) (same_Some k n same) (leb-true k most low)

-- it was read of some value
abbrev pub IsRead : {X : Type 0} → (Data → Option X) → X → Type 0
IsRead read x = (d : Data) × (read d ≡ Some x)

each-read : {X : Type 0} (read : Data → Option X) (ds : List Data) (xs : List X) → each_read read ds ≡ Some xs → (length xs ≡ length ds) × All (IsRead read) xs
unfolding each_read
each-read read [] [] e = (refl, λ k d low. absurd (omega (arith, low)))
each-read read [] (x ∷ xs) e = absurd cc
each-read read (d ∷ ds) xs e =
    let (x, here, more) = and_then_some (read d) (λ x. option_map (λ xs. x ∷ xs) (each_read read ds)) xs e in
    let (ys, rest, made) = map_some (λ ys. x ∷ ys) (each_read read ds) xs more in
    let (size, all) = each-read read ds ys rest in
    subst (λ zs. (length zs ≡ suc (length ds)) × All (IsRead read) zs) made (ap (λ n. suc n) size, All-cons (IsRead read) x ys (d, here) all)

-- a list that was read has at most so many, and each was read
pub few-read : {X : Type 0} (most : ℕ) (read : Data → Option X) (ds : List Data) (xs : List X) → few_read most read ds ≡ Some xs → (length xs ≤ most) × All (IsRead read) xs
few-read most read ds xs e =
    let (few, is) = when_some (nat_le (length ds) most) (each_read read ds) xs e in
    let (size, all) = each-read read ds xs is in
    let low = leb-true (length ds) most few in
    (omega (arith, size, low), all)

pub list-read : {X : Type 0} (most : ℕ) (key : List ℕ) (read : Data → Option X) (d : Data) (xs : List X) → each_of most key read d ≡ Some xs → (length xs ≤ most) × All (IsRead read) xs
list-read most key read d xs e =
    let (ds, at, is) = and_then_some (field_of key list_of d) (few_read most read) xs e in
    few-read most read ds xs is
