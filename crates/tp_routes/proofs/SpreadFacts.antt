-- Which steps are in the table: a lower sum keeps them, and each action of the busy state adds its own.
use Rattle.std.proofs.Common.{◌≡◌, ◌⊎◌, inl, inr, ℕ, zero, suc, ◌+◌, ◌*◌, ◌<◌, ◌≤◌, Bool, true, false, eqb, ltb, ◌||◌, List, [], ◌∷◌, ◌++◌, length, get_or, slice_get, length-append, Option, Some, None, refl, sym, ap, subst, ◌∙◌, arith}
use Rattle.std.specs.Prelude.{IfSome}
use Rattle.std.proofs.lemmas.Bool.{cases_Bool, eqb-true, eq-eqb, ltb-true, ltb-false}
use Rattle.std.proofs.lemmas.Option.{same_Some}
use Rattle.std.proofs.lemmas.List.{get_or-set_other}
use Rattle.std.specs.List.{list_any, IsDistinct}
use Rattle.std.proofs.lemmas.Map.Keys.{apart_from_distinct, IsDistinct-from_apart}
use Rattle.std.proofs.Math.ListN.{get_or-append}
use Rattle.std.proofs.lemmas.List.Sums.{sum_by-le}
use Rattle.tp_machine.specs.Steps.{step_of}
use Rattle.tp_machine.specs.ModuleUse.{action_at, is_allowed}
use Rattle.tp_machine.specs.declared.parts.Action.{Action}
use Rattle.tp_machine.specs.declared.parts.Outs.{Outs}
use Rattle.tp_machine.specs.declared.parts.State.{State}
use Rattle.tp_machine.specs.declared.machine.Machine.{Machine}
use Rattle.tp_machine.proofs.MachineFacts.{is_machine}
use Rattle.tp_schedule.specs.Routes.{is_act_allowed}
use Rattle.tp_schedule.specs.declared.parts.Ask.{Ask}
use Rattle.tp_routes.specs.Numbers.{state_at}
use Rattle.tp_routes.specs.Tables.{sum_at}
use Rattle.tp_routes.specs.FilledRooms.{is_lower, lowered, Waits, IsQueue, HasAtMost, IsStepIn, IsSpreadTo, IsFilling, Lowers, filled, one_if_some}
use Rattle.tp_routes.proofs.LowerFacts.{lowered-from, Lowers-lowered, length-lowered}

-- steps that are in the table stay in it
step-falls : (machine : Machine) (ask : Ask) (sums sums' : List (Option ℕ)) (s : State) (sum act : ℕ) → Lowers sums sums' → IsStepIn machine ask sums s sum act → IsStepIn machine ask sums' s sum act
step-falls machine ask sums sums' s sum act lowers step a s' at allow steps = lowers.falls s' (sum + a.least) (step a s' at allow steps)

pub spread-lowered : (machine : Machine) (ask : Ask) (sums : List (Option ℕ)) (waiting waiting' : List ℕ) (n x busy count : ℕ) → n < length sums
    → ((k : ℕ) → Waits waiting k → Waits waiting' k) → (is_lower x (sum_at sums n) ≡ true → Waits waiting' n)
    → IsSpreadTo machine ask sums waiting busy count → IsSpreadTo machine ask (lowered sums n x) waiting' busy count
spread-lowered machine ask sums waiting waiting' n x busy count within kept waits spread m v known is =
    go (subst (λ k. m < k) (length-lowered sums n x) known) (lowered-from sums n x m v within is)
  where
    still : (known : m < length sums) → Waits waiting m ⊎ ((act : ℕ) → (m ≡ busy → act < count) → IsStepIn machine ask sums (state_at m) v act)
        → Waits waiting' m ⊎ ((act : ℕ) → (m ≡ busy → act < count) → IsStepIn machine ask (lowered sums n x) (state_at m) v act)
    still known (inl w) = inl (kept m w)
    still known (inr steps) = inr (λ act limit. step-falls machine ask sums (lowered sums n x) (state_at m) v act (Lowers-lowered sums n x within) (steps act limit))

    go : m < length sums → (sum_at sums m ≡ Some v) ⊎ ((m ≡ n) × (v ≡ x) × (is_lower x (sum_at sums n) ≡ true)) → Waits waiting' m ⊎ ((act : ℕ) → (m ≡ busy → act < count) → IsStepIn machine ask (lowered sums n x) (state_at m) v act)
    go known (inl old) = still known (spread m v known old)
    go known (inr (here, same, lower)) = inl (subst (Waits waiting') (sym here) (waits lower))

-- what is not above the sum stays
pub stays-lowered : (sums : List (Option ℕ)) (n x m v : ℕ) → v ≤ x → sum_at sums m ≡ Some v → sum_at (lowered sums n x) m ≡ Some v
stays-lowered sums n x m v most is = elim (cases_Bool (is_lower x (sum_at sums n))) [
  | inr same ↦ rw same is
  | inl lower ↦ rw lower (get_or-set_other sums n m (Some x) None (λ e. (
      let old : sum_at sums n ≡ Some v = ap (sum_at sums) (sym e) ∙ is in
      let less : is_lower x (Some v) ≡ true = rw old at lower in
      let below = ltb-true x v less in
      absurd (omega arith))) ∙ is)
]

-- one action more of the busy state
pub spread-more : (machine : Machine) (ask : Ask) (sums : List (Option ℕ)) (waiting : List ℕ) (busy count sum : ℕ) → sum_at sums busy ≡ Some sum → IsStepIn machine ask sums (state_at busy) sum count
    → IsSpreadTo machine ask sums waiting busy count → IsSpreadTo machine ask sums waiting busy (count + 1)
spread-more machine ask sums waiting busy count sum stands step spread n v known is = go (spread n v known is)
  where
    last : n ≡ busy → IsStepIn machine ask sums (state_at n) v count
    last e =
        let same : v ≡ sum = same_Some v sum (sym is ∙ ap (sum_at sums) e ∙ stands) in
        subst (λ w. IsStepIn machine ask sums (state_at n) w count) (sym same) (subst (λ k. IsStepIn machine ask sums (state_at k) sum count) (sym e) step)

    each : ((act : ℕ) → (n ≡ busy → act < count) → IsStepIn machine ask sums (state_at n) v act) → (act : ℕ) → (n ≡ busy → act < count + 1) → IsStepIn machine ask sums (state_at n) v act
    each steps act limit = elim (cases_Bool (eqb n busy)) [
      | inr other ↦ steps act (λ e. (let k : eqb n busy ≡ true = eq-eqb n busy e in absurd cc))
      | inl here ↦
          let e = eqb-true n busy here in
          let most = limit e in
          elim (cases_Bool (ltb act count)) [
            | inl below ↦ steps act (λ f. ltb-true act count below)
            | inr reached ↦ (let at : count ≡ act = (let k = ltb-false act count reached in omega arith) in subst (IsStepIn machine ask sums (state_at n) v) at (last e))
          ]
    ]

    go : Waits waiting n ⊎ ((act : ℕ) → (n ≡ busy → act < count) → IsStepIn machine ask sums (state_at n) v act) → Waits waiting n ⊎ ((act : ℕ) → (n ≡ busy → act < count + 1) → IsStepIn machine ask sums (state_at n) v act)
    go (inl w) = inl w
    go (inr steps) = inr (each steps)

-- the test of an action by its number
pub allowed-at : (machine : Machine) (outs : Outs) (act : ℕ) (a : Action) (r : Bool) → action_at machine act ≡ Some a → IfSome (action_at machine act) (λ b. r ≡ is_allowed machine outs b) → is_act_allowed machine outs (record { 0 = act }) ≡ r
allowed-at machine outs act a r at test = (let k : r ≡ is_allowed machine outs a = rw at at test in rw at (sym k))

pub step-barred : (machine : Machine) (ask : Ask) (sums : List (Option ℕ)) (s : State) (sum act : ℕ) → IfSome (action_at machine act) (λ b. false ≡ is_allowed machine ask.outs b) → IsStepIn machine ask sums s sum act
step-barred machine ask sums s sum act test a s' at allow steps = (let k = allowed-at machine ask.outs act a false at test in absurd cc)

pub step-none : (machine : Machine) (ask : Ask) (sums : List (Option ℕ)) (s : State) (sum act : ℕ) (a : Action) → action_at machine act ≡ Some a → step_of a ask.want s ≡ None → IsStepIn machine ask sums s sum act
step-none machine ask sums s sum act a at stuck b s' at' allow steps =
    let same : b ≡ a = same_Some b a (sym at' ∙ at) in
    let both : None ≡ Some s' = sym stuck ∙ ap (λ c. step_of c ask.want s) (sym same) ∙ steps in
    absurd cc

pub step-there : (machine : Machine) (ask : Ask) (sums : List (Option ℕ)) (s : State) (sum act : ℕ) (a : Action) (next : State) → action_at machine act ≡ Some a → step_of a ask.want s ≡ Some next
    → HasAtMost sums next (sum + a.least) → IsStepIn machine ask sums s sum act
step-there machine ask sums s sum act a next at leads there b s' at' allow steps =
    let same : b ≡ a = same_Some b a (sym at' ∙ at) in
    let ends : s' ≡ next = same_Some s' next (sym steps ∙ ap (λ c. step_of c ask.want s) same ∙ leads) in
    subst (λ c. HasAtMost sums s' (sum + c.least)) (sym same) (subst (λ q. HasAtMost sums q (sum + a.least)) (sym ends) there)

one_at_most : (o : Option ℕ) → one_if_some o ≤ 1
one_at_most None = omega arith
one_at_most (Some v) = omega arith

-- sums are far below the greatest number
pub sums-small : (machine : Machine) (ask : Ask) (sums : List (Option ℕ)) (waiting : List ℕ) → IsFilling machine ask sums waiting → (4096 * filled sums ≤ 8388608) × (length sums ≤ 2048)
sums-small machine ask sums waiting filling =
    let count = sum_by-le one_if_some 1 sums (λ k d below. one_at_most _) in
    let locations = (is_machine machine).locations.1 in
    (omega (arith, filling.states), omega (arith, filling.states))

pub least-small : (machine : Machine) (n : ℕ) (a : Action) → action_at machine n ≡ Some a → a.least ≤ 4096
least-small machine n a at = (let k = (is_machine machine).in_range n a at in omega (arith, k.0, k.1))

pub Lowers-refl : (sums : List (Option ℕ)) → Lowers sums sums
Lowers-refl sums = record { same = refl; falls = λ s sum h. h }

pub Lowers-then : (a b c : List (Option ℕ)) → Lowers a b → Lowers b c → Lowers a c
Lowers-then a b c first then = record { same = then.same ∙ first.same; falls = λ s sum h. then.falls s sum (first.falls s sum h) }

-- a table in which each state waits or has its steps in it
pub record SettledSoFar (machine : Machine) (ask : Ask) (before sums : List (Option ℕ)) (waiting : List ℕ) (capacity : ℕ) : Type 0 where
  pub filling : IsFilling machine ask sums waiting
  pub spread : (busy : ℕ) → IsSpreadTo machine ask sums waiting busy (length machine.actions)
  pub lowers : Lowers before sums
  pub room : length sums ≤ capacity

-- the last number that waits is taken out
waits-push : (waiting : List ℕ) (n m : ℕ) → list_any (eqb m) (waiting ++ n ∷ []) ≡ (list_any (eqb m) waiting || eqb m n)
waits-push [] n m = or-false (eqb m n)
  where
    or-false : (b : Bool) → (b || false) ≡ (false || b)
    or-false true = refl
    or-false false = refl
waits-push (w ∷ waiting) n m = rw (waits-push waiting n m) (or-assoc (eqb m w) (list_any (eqb m) waiting) (eqb m n))
  where
    or-assoc : (a b c : Bool) → (a || (b || c)) ≡ ((a || b) || c)
    or-assoc true b c = refl
    or-assoc false b c = refl

still_waits : (waiting : List ℕ) (n m : ℕ) → Waits waiting m → Waits (waiting ++ n ∷ []) m
still_waits waiting n m waits = waits-push waiting n m ∙ rw waits refl

pub last_waits : (waiting : List ℕ) (n : ℕ) → Waits (waiting ++ n ∷ []) n
last_waits waiting n = waits-push waiting n n ∙ rw (eq-eqb n n refl) (true-or (list_any (eqb n) waiting))
  where
    true-or : (b : Bool) → (b || true) ≡ true
    true-or true = refl
    true-or false = refl

pub queue-popped : (waiting : List ℕ) (n states : ℕ) → IsQueue (waiting ++ n ∷ []) states → IsQueue waiting states
queue-popped waiting n states queue = record {
  different = front_distinct waiting queue.different;
  known = λ m waits. queue.known m (still_waits waiting n m waits);
}
  where
    front_distinct : (xs : List ℕ) → IsDistinct eqb (xs ++ n ∷ []) → IsDistinct eqb xs
    front_distinct xs h = IsDistinct-from_apart eqb xs (λ i j d before within. (
        let k = apart_from_distinct eqb (xs ++ n ∷ []) i j d h before (omega (arith, length-append xs (n ∷ []))) in
        let first : get_or (xs ++ n ∷ []) i d ≡ get_or xs i d = get_or-append xs (n ∷ []) d i (omega arith) in
        let second : get_or (xs ++ n ∷ []) j d ≡ get_or xs j d = get_or-append xs (n ∷ []) d j within in
        rw (first, second) at k))

pub filling-popped : (machine : Machine) (ask : Ask) (sums : List (Option ℕ)) (waiting : List ℕ) (n : ℕ) → IsFilling machine ask sums (waiting ++ n ∷ []) → IsFilling machine ask sums waiting
filling-popped machine ask sums waiting n filling = record {
  states = filling.states;
  queue = queue-popped waiting n (length sums) filling.queue;
  reached = filling.reached;
  small = filling.small;
}

-- each other state waits on, or has its steps in the table
popped : (machine : Machine) (ask : Ask) (sums : List (Option ℕ)) (waiting : List ℕ) (n m v busy count : ℕ) → eqb m n ≡ false
    → Waits (waiting ++ n ∷ []) m ⊎ ((act : ℕ) → (m ≡ busy → act < count) → IsStepIn machine ask sums (state_at m) v act)
    → Waits waiting m ⊎ ((act : ℕ) → (m ≡ busy → act < count) → IsStepIn machine ask sums (state_at m) v act)
popped machine ask sums waiting n m v busy count other (inl w) = inl (or-left (list_any (eqb m) waiting) (sym (waits-push waiting n m ∙ ap (λ b. list_any (eqb m) waiting || b) other) ∙ w))
  where
    or-left : (b : Bool) → (b || false) ≡ true → b ≡ true
    or-left true e = refl
    or-left false e = e
popped machine ask sums waiting n m v busy count other (inr steps) = inr steps

pub spread-popped : (machine : Machine) (ask : Ask) (sums : List (Option ℕ)) (waiting : List ℕ) (n : ℕ)
    → ((busy : ℕ) → IsSpreadTo machine ask sums (waiting ++ n ∷ []) busy (length machine.actions)) → IsSpreadTo machine ask sums waiting n 0
spread-popped machine ask sums waiting n spread m v known is = elim (cases_Bool (eqb m n)) [
  | inl here ↦ inr (λ act limit. (let below = limit (eqb-true m n here) in absurd (omega arith)))
  | inr other ↦ weaker (popped machine ask sums waiting n m v n (length machine.actions) other (spread n m v known is)) other
]
  where
    weaker : Waits waiting m ⊎ ((act : ℕ) → (m ≡ n → act < length machine.actions) → IsStepIn machine ask sums (state_at m) v act) → eqb m n ≡ false → Waits waiting m ⊎ ((act : ℕ) → (m ≡ n → act < 0) → IsStepIn machine ask sums (state_at m) v act)
    weaker (inl w) other = inl w
    weaker (inr steps) other = inr (λ act limit. steps act (λ e. (let k : eqb m n ≡ true = eq-eqb m n e in absurd cc)))

pub spread-popped_none : (machine : Machine) (ask : Ask) (sums : List (Option ℕ)) (waiting : List ℕ) (n : ℕ) → sum_at sums n ≡ None
    → ((busy : ℕ) → IsSpreadTo machine ask sums (waiting ++ n ∷ []) busy (length machine.actions)) → (busy : ℕ) → IsSpreadTo machine ask sums waiting busy (length machine.actions)
spread-popped_none machine ask sums waiting n none spread busy m v known is = elim (cases_Bool (eqb m n)) [
  | inl here ↦ (let both : Some v ≡ None = sym is ∙ ap (sum_at sums) (eqb-true m n here) ∙ none in absurd cc)
  | inr other ↦ popped machine ask sums waiting n m v busy (length machine.actions) other (spread busy m v known is)
]

slice_get-in : (xs : List Action) (k : ℕ) (x : Action) → slice_get xs k ≡ Some x → k < length xs
slice_get-in [] k x at = absurd cc
slice_get-in (y ∷ ys) zero x at = omega arith
slice_get-in (y ∷ ys) (suc k) x at = (let below = slice_get-in ys k x at in omega arith)

-- with the steps of all actions no state is busy
pub spread-all : (machine : Machine) (ask : Ask) (sums : List (Option ℕ)) (waiting : List ℕ) (n : ℕ) → IsSpreadTo machine ask sums waiting n (length machine.actions)
    → (busy : ℕ) → IsSpreadTo machine ask sums waiting busy (length machine.actions)
spread-all machine ask sums waiting n spread busy m v known is = go (spread m v known is)
  where
    go : Waits waiting m ⊎ ((act : ℕ) → (m ≡ n → act < length machine.actions) → IsStepIn machine ask sums (state_at m) v act) → Waits waiting m ⊎ ((act : ℕ) → (m ≡ busy → act < length machine.actions) → IsStepIn machine ask sums (state_at m) v act)
    go (inl w) = inl w
    go (inr steps) = inr (λ act limit a s' at allow leads. steps act (λ e. slice_get-in machine.actions act a at) a s' at allow leads)

pub none_there : (o : Option ℕ) → ((x : ℕ) → o ≡ Some x → ⊥) → o ≡ None
none_there None h = refl
none_there (Some x) h = absurd (h x refl)
