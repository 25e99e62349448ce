-- The modules that are out and what is free at the feeders, read one by one.
use Rattle.std.proofs.Common.{◌≡◌, ℕ, zero, suc, ◌<◌, ◌≤◌, ◌+◌, true, false, List, [], ◌∷◌, ◌++◌, map, length, drop, get_or, slice_get, Option, Some, None, inl, inr, refl, ap, sym, ◌∙◌, arith, append_assoc}
use Rattle.std.specs.Prelude.{◌≢◌, option_and_then}
use Rattle.std.proofs.lemmas.List.{drop_all, drop_more, append-nil}
use Rattle.std.proofs.lemmas.Option.{slice_get_cases}
use Rattle.serde_json.specs.Data.{Data, string}
use Rattle.serde_json.specs.View.{view}
use Rattle.serde_json.specs.declared.value.Value.{Value}
use Rattle.tp_machine.specs.ModuleUse.{is_out, put_out}
use Rattle.tp_machine.specs.declared.parts.Feeder.{Feeder}
use Rattle.tp_machine.specs.declared.parts.Outs.{Outs}
use Rattle.tp_words.specs.Each.{with_front}
use Rattle.tp_snapshot.proofs.Seen.{map_last, onward}
use Rattle.tp_snapshot.specs.Moments.{free_in, is_text, out_from, stock_from}
use Rattle.tp_snapshot.specs.Written.{out_names}

-- the name at a place stands first of those from there on
pub drop-named : {X : Type 0} (xs : List X) (n : ℕ) (x : X) → slice_get xs n ≡ Some x → drop n xs ≡ x ∷ drop (n + 1) xs
drop-named [] n x at = absurd cc
drop-named (y ∷ ys) zero x at = let e : y ≡ x = cc in ap (λ z. z ∷ ys) e
drop-named (y ∷ ys) (suc n) x at = let e : suc n + 1 ≡ suc (n + 1) = omega arith in rw e (drop-named ys n x at)

-- where no value is left, none is out from there on
pub none-left : (n : ℕ) (names : List (List ℕ)) (outs : Outs) → out_from n names [] outs ≡ Some outs
unfolding out_from
none-left n [] outs = refl
none-left n (m ∷ names) outs = refl

pub passed-none : (n i : ℕ) (names : List (List ℕ)) (vs : List Value) (outs : Outs) → length vs ≤ i → out_from n (drop n names) (map view (drop i vs)) outs ≡ out_from (n + 1) (drop (n + 1) names) (map view (drop i vs)) outs
passed-none n i names vs outs le =
    let none : drop i vs ≡ [] = drop_all i vs le in
    rw (none, none-left n (drop n names) outs, none-left (n + 1) (drop (n + 1) names) outs) refl

pub out-taken : (n i : ℕ) (names : List (List ℕ)) (m : List ℕ) (v : Value) (vs : List Value) (outs : Outs) → slice_get names n ≡ Some m → i < length vs → v ≡ get_or vs i v → is_text m (view v) ≡ true
    → out_from n (drop n names) (map view (drop i vs)) outs ≡ out_from (n + 1) (drop (n + 1) names) (map view (drop (i + 1) vs)) (put_out outs n)
unfolding out_from
out-taken n i names m v vs outs at lt here is =
    let e : suc n ≡ n + 1 = omega arith in
    rw (drop-named names n m at, drop_more vs i v lt, ← here, is, e) refl

pub out-passed : (n i : ℕ) (names : List (List ℕ)) (m : List ℕ) (v : Value) (vs : List Value) (outs : Outs) → slice_get names n ≡ Some m → i < length vs → v ≡ get_or vs i v → is_text m (view v) ≡ false
    → out_from n (drop n names) (map view (drop i vs)) outs ≡ out_from (n + 1) (drop (n + 1) names) (map view (drop i vs)) outs
unfolding out_from
out-passed n i names m v vs outs at lt here is =
    let e : suc n ≡ n + 1 = omega arith in
    rw (drop-named names n m at, drop_more vs i v lt, ← here, is, e) refl

-- all values are taken, or one is left
pub outs-all : (n i : ℕ) (names : List (List ℕ)) (vs : List Value) (outs : Outs) → length vs ≤ i → out_from n (drop n names) (map view (drop i vs)) outs ≡ Some outs
outs-all n i names vs outs le = rw (drop_all i vs le) (none-left n (drop n names) outs)

pub outs-more : (n i : ℕ) (names : List (List ℕ)) (vs : List Value) (outs : Outs) → length names ≤ n → i < length vs → out_from n (drop n names) (map view (drop i vs)) outs ≡ None
unfolding out_from
outs-more n i names vs outs le lt =
    elim ((slice_get_cases vs i).1) [
      | inl w ↦ rw (drop_all n names le, drop_more vs i w.0 lt) refl
      | inr w ↦ absurd (omega (arith, w.0))
    ]

-- ---- written
pub name-out : (outs : Outs) (n : ℕ) (names : List (List ℕ)) (m : List ℕ) → slice_get names n ≡ Some m → is_out outs n ≡ true
    → map string (out_names outs n (drop n names)) ≡ string m ∷ map string (out_names outs (n + 1) (drop (n + 1) names))
name-out outs n names m at is = let e : suc n ≡ n + 1 = omega arith in rw (drop-named names n m at, is, e) refl

name-in : (outs : Outs) (n : ℕ) (names : List (List ℕ)) → n < length names → is_out outs n ≡ false → out_names outs n (drop n names) ≡ out_names outs (n + 1) (drop (n + 1) names)
name-in outs n names lt is = let e : suc n ≡ n + 1 = omega arith in rw (drop_more names n [] lt, is, e) refl

-- one more name is written, or none
pub out-written : (outs : Outs) (n : ℕ) (names : List (List ℕ)) (m : List ℕ) (vs vs' : List Value) (v : Value) (all : List Data) → slice_get names n ≡ Some m → is_out outs n ≡ true → view v ≡ string m → vs' ≡ vs ++ v ∷ []
    → map view vs ++ map string (out_names outs n (drop n names)) ≡ all → map view vs' ++ map string (out_names outs (n + 1) (drop (n + 1) names)) ≡ all
out-written outs n names m vs vs' v all at is seen grown before =
    let rest = map string (out_names outs (n + 1) (drop (n + 1) names)) in
    let shown : map view vs' ≡ map view vs ++ string m ∷ [] = ap (map view) grown ∙ map_last view vs v ∙ ap (λ d. map view vs ++ d ∷ []) seen in
    ap (λ ds. ds ++ rest) shown ∙ append_assoc (map view vs) (string m ∷ []) rest ∙ ap (λ ds. map view vs ++ ds) (sym (name-out outs n names m at is)) ∙ before

pub out-left : (outs : Outs) (n : ℕ) (names : List (List ℕ)) (vs vs' : List Value) (all : List Data) → n < length names → is_out outs n ≡ false → vs' ≡ vs
    → map view vs ++ map string (out_names outs n (drop n names)) ≡ all → map view vs' ++ map string (out_names outs (n + 1) (drop (n + 1) names)) ≡ all
out-left outs n names vs vs' all lt is same before =
    ap (λ xs. map view xs ++ map string (out_names outs (n + 1) (drop (n + 1) names))) same ∙ ap (λ ns. map view vs ++ map string ns) (sym (name-in outs n names lt is)) ∙ before

-- ---- what is free at the feeders
pub stock-turn : (fs : List Feeder) (vs : List Value) (front : List (Option ℕ)) (i : ℕ) (f : Feeder) (v : Value) (x : Option ℕ) → i < length fs → i < length vs → f ≡ get_or fs i f → v ≡ get_or vs i v → free_in f.stock (view v) ≡ Some x
    → with_front front (stock_from (drop i fs) (map view (drop i vs))) ≡ with_front (front ++ x ∷ []) (stock_from (drop (i + 1) fs) (map view (drop (i + 1) vs)))
unfolding stock_from
stock-turn fs vs front i f v x lf lv hf hv is = rw (drop_more fs i f lf, drop_more vs i v lv, ← hf, ← hv, is) (onward front x (stock_from (drop (i + 1) fs) (map view (drop (i + 1) vs))))

pub stock-stop : (fs : List Feeder) (vs : List Value) (front : List (Option ℕ)) (i : ℕ) (f : Feeder) (v : Value) → i < length fs → i < length vs → f ≡ get_or fs i f → v ≡ get_or vs i v → free_in f.stock (view v) ≡ None
    → with_front front (stock_from (drop i fs) (map view (drop i vs))) ≡ None
unfolding stock_from
stock-stop fs vs front i f v lf lv hf hv is = rw (drop_more fs i f lf, drop_more vs i v lv, ← hf, ← hv, is) refl

pub stock-end : (fs : List Feeder) (vs : List Value) (front : List (Option ℕ)) (i : ℕ) → length fs ≤ i → length vs ≤ i → with_front front (stock_from (drop i fs) (map view (drop i vs))) ≡ Some front
unfolding stock_from
stock-end fs vs front i lf lv = rw (drop_all i fs lf, drop_all i vs lv) (ap (λ xs. Some xs) (append-nil front))

none-after : (o : Option (Option ℕ)) (more : Option (List (Option ℕ))) → more ≡ None → option_and_then (λ free. option_and_then (λ rest. Some (free ∷ rest)) more) o ≡ None
none-after None more none = refl
none-after (Some x) more none = rw none refl

pub stock-unequal : (fs : List Feeder) (vs : List Value) → length fs ≢ length vs → stock_from fs (map view vs) ≡ None
unfolding stock_from
stock-unequal [] [] apart = absurd (apart refl)
stock-unequal [] (v ∷ vs) apart = refl
stock-unequal (f ∷ fs) [] apart = refl
stock-unequal (f ∷ fs) (v ∷ vs) apart =
    let more : stock_from fs (map view vs) ≡ None = stock-unequal fs vs (λ same. apart (ap (λ n. suc n) same)) in
    none-after (free_in f.stock (view v)) (stock_from fs (map view vs)) more
