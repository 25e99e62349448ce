-- The start states of an ask are in the table.
use Rattle.std.proofs.Common.{◌≡◌, ◌⊎◌, inl, inr, ℕ, zero, suc, ◌+◌, ◌*◌, ◌<◌, ◌≤◌, ltb, List, [], ◌∷◌, length, get_or, slice_get, replicate, Option, Some, None, IsFalse, refl, sym, ap, subst, ◌∙◌, arith}
use Rattle.std.specs.List.{IsDistinct}
use Rattle.std.proofs.lemmas.Bool.{cases_Bool, ltb-true, ltb-false}
use Rattle.std.proofs.lemmas.Option.{same_Some}
use Rattle.tp_machine.specs.declared.parts.Feeder.{Feeder}
use Rattle.tp_machine.specs.declared.parts.State.{State}
use Rattle.tp_machine.specs.declared.machine.Machine.{Machine}
use Rattle.tp_schedule.specs.LocationSets.{has}
use Rattle.tp_schedule.specs.Routes.{fresh, IsStart, IsStartFrom, AreAllowed}
use Rattle.tp_schedule.specs.declared.parts.Ask.{Ask}
use Rattle.tp_schedule.specs.declared.parts.Origin.{Origin}
use Rattle.tp_schedule.specs.declared.parts.Origin.TheVariants.{Feeder as FromFeeder, Front as FromFront}
use Rattle.tp_routes.specs.Numbers.{state_at}
use Rattle.tp_routes.specs.Tables.{sum_at}
use Rattle.tp_routes.specs.FilledRooms.{IsSum, HasAtMost, Waits, IsQueue, IsFilling, IsSpreadTo, IsStepIn, StartsAreIn, StartsUpTo, Lowers}
use Rattle.tp_routes.proofs.RoomFacts.{IsAtRest}

none_allowed : (machine : Machine) (ask : Ask) → AreAllowed machine ask.outs []
none_allowed machine ask act (k, below, at) = absurd (omega arith)

-- a start state has the sum 0
pub start_sum : (machine : Machine) (ask : Ask) (s : State) → IsStart machine ask s → IsSum machine ask s 0
start_sum machine ask s starts = record { acts = []; allowed = none_allowed machine ask; reaches = record { start = s; starts = starts; leads = refl }; sums = refl }

pub fresh_sum : (machine : Machine) (ask : Ask) (k : ℕ) (f : Feeder) → ask.origin ≡ FromFeeder → k < length machine.feeders → f ≡ get_or machine.feeders k f → f.media ≡ ask.want.media → IsFalse (has ask.empty f.loc) → IsSum machine ask (fresh f.loc) 0
fresh_sum machine ask k f origin below at media free = start_sum machine ask (fresh f.loc) (subst (λ o. IsStartFrom machine ask o (fresh f.loc)) (sym origin) ((k, f, below, sym at, (media, refl)), free))

nothing_there : (n m : ℕ) → sum_at (replicate n None) m ≡ None
nothing_there zero m = refl
nothing_there (suc n) zero = refl
nothing_there (suc n) (suc m) = nothing_there n m

no_queue : (states : ℕ) → IsQueue [] states
unfolding IsDistinct
no_queue states = record { different = tt; known = λ m waits. absurd cc }

-- an empty table is being filled
pub filling-empty : (machine : Machine) (ask : Ask) (sums : List (Option ℕ)) (waiting : List ℕ) (n : ℕ) → sums ≡ replicate n None → waiting ≡ [] → length sums ≡ 8 * length machine.locations → IsFilling machine ask sums waiting
filling-empty machine ask sums waiting n empty none states = record {
  states = states;
  queue = subst (λ ws. IsQueue ws (length sums)) (sym none) (no_queue (length sums));
  reached = λ m v known is. absurd (no_sum m v is);
  small = λ m v known is. absurd (no_sum m v is);
}
  where
    no_sum : (m v : ℕ) → sum_at sums m ≡ Some v → ⊥
    no_sum m v is = (let both : None ≡ Some v = sym (nothing_there n m) ∙ ap (λ t. sum_at t m) (sym empty) ∙ is in absurd cc)

pub spread-empty : (machine : Machine) (ask : Ask) (sums : List (Option ℕ)) (waiting : List ℕ) (n : ℕ) → sums ≡ replicate n None → (busy count : ℕ) → IsSpreadTo machine ask sums waiting busy count
spread-empty machine ask sums waiting n empty busy count m v known is = (let both : None ≡ Some v = sym (nothing_there n m) ∙ ap (λ t. sum_at t m) (sym empty) ∙ is in absurd cc)

-- one feeder more
pub starts-more : (feeders : List Feeder) (ask : Ask) (sums sums' : List (Option ℕ)) (count : ℕ) (f : Feeder) → f ≡ get_or feeders count f → count < length feeders → Lowers sums sums'
    → (f.media ≡ ask.want.media → IsFalse (has ask.empty f.loc) → HasAtMost sums' (fresh f.loc) 0) → StartsUpTo feeders ask sums count → StartsUpTo feeders ask sums' (count + 1)
starts-more feeders ask sums sums' count f at within lowers there before k g below at' media free = elim (cases_Bool (ltb k count)) [
  | inl earlier ↦ lowers.falls (fresh g.loc) 0 (before k g (ltb-true k count earlier) at' media free)
  | inr last ↦
      let here : k ≡ count = (let h = ltb-false k count last in omega arith) in
      let same : g ≡ f = (let h : slice_get feeders count ≡ Some g = subst (λ j. slice_get feeders j ≡ Some g) here at' in at_place feeders count f g at h) in
      subst (λ (q : Feeder). HasAtMost sums' (fresh q.loc) 0) (sym same) (there (subst (λ (q : Feeder). q.media ≡ ask.want.media) same media) (subst (λ (q : Feeder). IsFalse (has ask.empty q.loc)) same free))
]
  where
    at_place : (xs : List Feeder) (j : ℕ) (x y : Feeder) → x ≡ get_or xs j x → slice_get xs j ≡ Some y → y ≡ x
    at_place [] j x y at there = absurd cc
    at_place (z ∷ zs) zero x y at there = (let h = same_Some z y there in sym h ∙ sym at)
    at_place (z ∷ zs) (suc j) x y at there = at_place zs j x y at there

slice_get-at : (xs : List Feeder) (k : ℕ) (x : Feeder) → k < length xs → get_or xs k x ≡ x → slice_get xs k ≡ Some x
slice_get-at [] k x below at = absurd (omega arith)
slice_get-at (y ∷ ys) zero x below at = ap Some at
slice_get-at (y ∷ ys) (suc k) x below at = slice_get-at ys k x (omega arith) at

pub starts-all : (machine : Machine) (ask : Ask) (sums : List (Option ℕ)) → ask.origin ≡ FromFeeder → StartsUpTo machine.feeders ask sums (length machine.feeders) → StartsAreIn machine ask sums
starts-all machine ask sums origin upto s starts = go ask.origin origin starts
  where
    go : (o : Origin) → o ≡ FromFeeder → IsStartFrom machine ask o s → HasAtMost sums s 0
    go FromFeeder is ((k, f, below, at, both), free) = subst (λ (q : State). HasAtMost sums q 0) (sym both.1) (upto k f below (slice_get-at machine.feeders k f below at) both.0 (subst (λ (q : State). IsFalse (has ask.empty q.loc)) both.1 free))
    go (FromFront state end count) is starts = absurd cc

-- how far the feeders were gone through
pub record StartedSoFar (machine : Machine) (ask : Ask) (feeders : List Feeder) (sums : List (Option ℕ)) (waiting : List ℕ) (count capacity : ℕ) : Type 0 where
  pub filling : IsFilling machine ask sums waiting
  pub spread : (busy : ℕ) → IsSpreadTo machine ask sums waiting busy (length machine.actions)
  pub starts : StartsUpTo feeders ask sums count
  pub room : length sums ≤ capacity

-- where none waits, the table is at rest
pub rest-from_spread : (machine : Machine) (ask : Ask) (sums : List (Option ℕ)) (waiting : List ℕ) → waiting ≡ [] → ((busy : ℕ) → IsSpreadTo machine ask sums waiting busy (length machine.actions)) → IsAtRest machine ask sums
rest-from_spread machine ask sums waiting none spread n v known is act = go (spread (suc n) n v known is)
  where
    go : Waits waiting n ⊎ ((b : ℕ) → (n ≡ suc n → b < length machine.actions) → IsStepIn machine ask sums (state_at n) v b) → IsStepIn machine ask sums (state_at n) v act
    go (inl waits) = (let k : Waits [] n = subst (λ ws. Waits ws n) none waits in absurd cc)
    go (inr steps) = steps act (λ e. absurd (omega arith))

-- the starts stay in the table
pub starts-falls : (machine : Machine) (ask : Ask) (sums sums' : List (Option ℕ)) → Lowers sums sums' → StartsAreIn machine ask sums → StartsAreIn machine ask sums'
starts-falls machine ask sums sums' lowers there s starts = lowers.falls s 0 (there s starts)
