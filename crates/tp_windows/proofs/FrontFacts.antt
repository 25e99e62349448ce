-- Arrivals that are noted, and the labels of those that wait.
use Rattle.std.proofs.Common.{◌≡◌, inl, inr, ℕ, zero, suc, ◌+◌, ◌≤◌, List, [], ◌∷◌, ◌++◌, length, slice_get, Option, Some, refl, sym, subst, ◌∙◌, All}
use Rattle.std.proofs.lemmas.List.Elements.{All-cons, All-contains}
use Rattle.std.proofs.lemmas.List.Sorted.{All-permutation, Contains-permutation}
use Rattle.std.specs.List.Sorted.{IsPermutation}
use Rattle.tp_machine.specs.declared.parts.State.{State}
use Rattle.tp_schedule.proofs.Membership.{All-from_contains, Contains-here, Contains-later}
use Rattle.tp_windows.specs.RestTables.{rest_of}
use Rattle.tp_windows.specs.WaitingLabels.{Grows, IsKeyed, IsReached, IsTaken, Waits}
use Rattle.tp_windows.specs.declared.front.Arrival.{Arrival}
use Rattle.tp_windows.specs.declared.front.Front.{Front}
use Rattle.tp_windows.specs.declared.waiting_heap.Waiting.{Waiting}

pub get-last : {X : Type 0} (xs : List X) (x : X) → slice_get (xs ++ x ∷ []) (length xs) ≡ Some x
get-last [] x = refl
get-last (y ∷ ys) x = get-last ys x

pub get-older : {X : Type 0} (xs ys : List X) (n : ℕ) (x : X) → slice_get xs n ≡ Some x → slice_get (xs ++ ys) n ≡ Some x
get-older [] ys n x e = absurd cc
get-older (z ∷ zs) ys zero x e = e
get-older (z ∷ zs) ys (suc n) x e = get-older zs ys n x e

-- a noted arrival waits
pub noted-waits : (arrivals : List Arrival) (waiting waiting' : List Waiting) (a : Arrival) (one : Waiting) → one.number ≡ length arrivals → IsPermutation (one ∷ waiting) waiting' → (tick : ℕ) → a.from ≤ tick → tick ≤ a.till
    → Waits (arrivals ++ a ∷ []) waiting' a.state tick
noted-waits arrivals waiting waiting' a one number moved tick from till = record {
  one = one;
  in_waiting = Contains-permutation (one ∷ waiting) waiting' one moved (Contains-here one waiting);
  arrival = a;
  there = subst (λ n. slice_get (arrivals ++ a ∷ []) n ≡ Some a) (sym number) (get-last arrivals a);
  state = refl;
  from = from;
  till = till;
}

still-keyed : (rests : List (Option ℕ)) (arrivals ys : List Arrival) (one : Waiting) → IsKeyed rests arrivals one → IsKeyed rests (arrivals ++ ys) one
still-keyed rests arrivals ys one is = record { arrival = is.arrival; there = get-older arrivals ys one.number is.arrival is.there; rest = is.rest; key = is.key }

pub noted-keyed : (rests : List (Option ℕ)) (arrivals : List Arrival) (waiting waiting' : List Waiting) (a : Arrival) (one : Waiting) → one.number ≡ length arrivals → rest_of rests a.state ≡ Some one.rest → one.key ≤ a.from + one.rest
    → IsPermutation (one ∷ waiting) waiting' → All (IsKeyed rests arrivals) waiting → All (IsKeyed rests (arrivals ++ a ∷ [])) waiting'
noted-keyed rests arrivals waiting waiting' a one number rest key moved keyed =
    All-permutation (IsKeyed rests (arrivals ++ a ∷ [])) (one ∷ waiting) waiting' moved
    (All-cons (IsKeyed rests (arrivals ++ a ∷ [])) one waiting
    (record { arrival = a; there = subst (λ n. slice_get (arrivals ++ a ∷ []) n ≡ Some a) (sym number) (get-last arrivals a); rest = rest; key = key })
    (All-from_contains (IsKeyed rests (arrivals ++ a ∷ [])) waiting (λ x in'. still-keyed rests arrivals (a ∷ []) x (All-contains (IsKeyed rests arrivals) waiting x keyed in'))))

pub noted-keys : (rests : List (Option ℕ)) (arrivals arrivals' : List Arrival) (waiting waiting' : List Waiting) (a : Arrival) (one : Waiting) → arrivals' ≡ arrivals ++ a ∷ [] → one.number ≡ length arrivals
    → rest_of rests a.state ≡ Some one.rest → one.key ≤ a.from + one.rest → IsPermutation (one ∷ waiting) waiting' → All (IsKeyed rests arrivals) waiting → All (IsKeyed rests arrivals') waiting'
noted-keys rests arrivals arrivals' waiting waiting' a one pushed number rest key moved keyed =
    subst (λ xs. All (IsKeyed rests xs) waiting') (sym pushed) (noted-keyed rests arrivals waiting waiting' a one number rest key moved keyed)

pub noted-grows : (front front' : Front) (a : Arrival) (one : Waiting) → front'.arrivals.items ≡ front.arrivals.items ++ a ∷ [] → front'.taken.items ≡ front.taken.items → IsPermutation (one ∷ front.waiting.items) front'.waiting.items → Grows front front'
noted-grows front front' a one pushed taken moved = record {
  arrivals = λ n x e. subst (λ xs. slice_get xs n ≡ Some x) (sym pushed) (get-older front.arrivals.items (a ∷ []) n x e);
  waits = λ x in'. Contains-permutation (one ∷ front.waiting.items) front'.waiting.items x moved (Contains-later one front.waiting.items x in');
  taken = taken;
}

pub Grows-then : (one two three : Front) → Grows one two → Grows two three → Grows one three
Grows-then one two three first more = record {
  arrivals = λ n x e. more.arrivals n x (first.arrivals n x e);
  waits = λ x in'. more.waits x (first.waits x in');
  taken = more.taken ∙ first.taken;
}

pub waits-grow : (front front' : Front) (s : State) (tick : ℕ) → Grows front front' → Waits front.arrivals.items front.waiting.items s tick → Waits front'.arrivals.items front'.waiting.items s tick
waits-grow front front' s tick grows waits = record {
  one = waits.one;
  in_waiting = grows.waits waits.one waits.in_waiting;
  arrival = waits.arrival;
  there = grows.arrivals waits.one.number waits.arrival waits.there;
  state = waits.state;
  from = waits.from;
  till = waits.till;
}

pub reached-grow : (front front' : Front) (s : State) (tick : ℕ) → Grows front front' → IsReached front s tick → IsReached front' s tick
reached-grow front front' s tick grows (inl waits) = inl (waits-grow front front' s tick grows waits)
reached-grow front front' s tick grows (inr taken) = inr (subst (λ xs. IsTaken xs s tick) (sym grows.taken) taken)
