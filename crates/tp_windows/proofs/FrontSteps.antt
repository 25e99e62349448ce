-- The front of a way: its labels are those of the arrivals that wait, and going on from one of them leaves a front.
use Rattle.std.proofs.Common.{◌≡◌, ◌⊎◌, inl, inr, ℕ, ◌<◌, ◌≤◌, List, [], ◌∷◌, length, slice_get, Option, Some, None, refl, sym, ap, subst, ◌∙◌, arith, Contains, All}
use Rattle.std.specs.Prelude.{slice_index_or}
use Rattle.std.proofs.lemmas.Bool.{cases_lt}
use Rattle.std.proofs.lemmas.Option.{same_Some, slice_get_within}
use Rattle.std.proofs.lemmas.List.Elements.{All-contains, All-head, All-nil, All-tail}
use Rattle.std.proofs.lemmas.List.Sorted.{All-permutation, Contains-permutation}
use Rattle.std.specs.List.Sorted.{IsPermutation}
use Rattle.tp_machine.specs.declared.parts.State.{State}
use Rattle.tp_routes.specs.Numbers.{number_of}
use Rattle.tp_schedule.proofs.Membership.{All-from_contains, Contains-cons_cases, Contains-here, Contains-later}
use Rattle.tp_schedule.specs.Routes.{IsGoalState}
use Rattle.tp_windows.proofs.Covering.{goals_last}
use Rattle.tp_windows.proofs.FrontFacts.{waits-grow}
use Rattle.tp_windows.proofs.Fronts.{front_begins, front_bounds, front_drops, front_takes}
use Rattle.tp_windows.proofs.RestFacts.{act-within}
use Rattle.tp_windows.proofs.RowFacts.{there_in}
use Rattle.tp_windows.specs.Labels.{IsCovered, Label}
use Rattle.tp_windows.specs.RestTables.{rest_of}
use Rattle.tp_windows.specs.SoughtWays.{AreStartsReached, AreStepsReached, IsFrontFor, NoneBy}
use Rattle.tp_windows.specs.WaitingLabels.{AreKeyed, Grows, IsFrontOf, IsKeyed, IsReached, IsTaken, Takes, Waits, label_of, labels_of, with_label}
use Rattle.tp_windows.specs.declared.front.Arrival.{Arrival}
use Rattle.tp_windows.specs.declared.front.Front.{Front}
use Rattle.tp_windows.specs.declared.front.Stay.{Stay}
use Rattle.tp_windows.specs.declared.sought.Sought.{Sought}
use Rattle.tp_windows.specs.declared.waiting_heap.Waiting.{Waiting}

-- a label of those that wait is of one of them
record IsLabelOf (arrivals : List Arrival) (waiting : List Waiting) (l : Label) : Type 0 where
  one : Waiting
  in_waiting : Contains waiting one
  arrival : Arrival
  there : slice_get arrivals one.number ≡ Some arrival
  label : label_of arrival ≡ l

later-label : (arrivals : List Arrival) (first : Waiting) (waiting : List Waiting) (l : Label) → IsLabelOf arrivals waiting l → IsLabelOf arrivals (first ∷ waiting) l
later-label arrivals first waiting l is = record { one = is.one; in_waiting = Contains-later first waiting is.one is.in_waiting; arrival = is.arrival; there = is.there; label = is.label }

label-in : (arrivals : List Arrival) (waiting : List Waiting) (l : Label) → Contains (labels_of arrivals waiting) l → IsLabelOf arrivals waiting l
label-in arrivals [] l in' = absurd (omega (arith, in'.1))
label-in arrivals (first ∷ waiting) l in' = go (slice_get arrivals first.number) refl in' (label-in arrivals waiting l)
  where
    go : (o : Option Arrival) → slice_get arrivals first.number ≡ o → Contains (with_label o (labels_of arrivals waiting)) l → (Contains (labels_of arrivals waiting) l → IsLabelOf arrivals waiting l) → IsLabelOf arrivals (first ∷ waiting) l
    go None at there more = later-label arrivals first waiting l (more there)
    go (Some a) at there more = elim (Contains-cons_cases (label_of a) (labels_of arrivals waiting) l there) [
      | inl same ↦ record { one = first; in_waiting = Contains-here first waiting; arrival = a; there = at; label = same }
      | inr later ↦ later-label arrivals first waiting l (more later)
    ]

in-labels : (arrivals : List Arrival) (waiting : List Waiting) (one : Waiting) (a : Arrival) → Contains waiting one → slice_get arrivals one.number ≡ Some a → Contains (labels_of arrivals waiting) (label_of a)
in-labels arrivals [] one a in' at = absurd (omega (arith, in'.1))
in-labels arrivals (first ∷ waiting) one a in' at = go (slice_get arrivals first.number) refl (Contains-cons_cases first waiting one in') (λ later. in-labels arrivals waiting one a later at)
  where
    go : (o : Option Arrival) → slice_get arrivals first.number ≡ o → (first ≡ one) ⊎ Contains waiting one → (Contains waiting one → Contains (labels_of arrivals waiting) (label_of a)) → Contains (with_label o (labels_of arrivals waiting)) (label_of a)
    go None there (inl same) more = let both : None ≡ Some a = sym there ∙ subst (λ (x : Waiting). slice_get arrivals x.number ≡ Some a) (sym same) at in absurd cc
    go None there (inr later) more = more later
    go (Some b) there (inl same) more =
        let equal : b ≡ a = same_Some b a (sym there ∙ subst (λ (x : Waiting). slice_get arrivals x.number ≡ Some a) (sym same) at) in
        subst (λ (x : Arrival). Contains (label_of b ∷ labels_of arrivals waiting) (label_of x)) equal (Contains-here (label_of b) (labels_of arrivals waiting))
    go (Some b) there (inr later) more = Contains-later (label_of b) (labels_of arrivals waiting) (label_of a) (more later)

pub waits-covered : (arrivals : List Arrival) (waiting : List Waiting) (s : State) (tick : ℕ) → Waits arrivals waiting s tick → IsCovered (labels_of arrivals waiting) s tick
waits-covered arrivals waiting s tick waits = record {
  label = label_of waits.arrival;
  in_labels = in-labels arrivals waiting waits.one waits.arrival waits.in_waiting waits.there;
  state = waits.state;
  from = waits.from;
  till = waits.till;
}

pub covered-waits : (arrivals : List Arrival) (waiting : List Waiting) (s : State) (tick : ℕ) → IsCovered (labels_of arrivals waiting) s tick → Waits arrivals waiting s tick
covered-waits arrivals waiting s tick covered =
    let is = label-in arrivals waiting covered.label covered.in_labels in
    let state : is.arrival.state ≡ s = ap (λ (l : Label). l.state) is.label ∙ covered.state in
    let from' : is.arrival.from ≡ covered.label.from = ap (λ (l : Label). l.from) is.label in
    let till' : is.arrival.till ≡ covered.label.till = ap (λ (l : Label). l.till) is.label in
    let from = covered.from in
    let till = covered.till in
    record {
      one = is.one;
      in_waiting = is.in_waiting;
      arrival = is.arrival;
      there = is.there;
      state = state;
      from = omega (arith, from, from');
      till = omega (arith, till, till');
    }

-- one that waits is the first, or one of the others
waits-cases : (arrivals : List Arrival) (first : Waiting) (from : Arrival) (waiting : List Waiting) (s : State) (tick : ℕ) → slice_get arrivals first.number ≡ Some from → Waits arrivals (first ∷ waiting) s tick
    → ((from.state ≡ s) × (from.from ≤ tick) × (tick ≤ from.till)) ⊎ Waits arrivals waiting s tick
waits-cases arrivals first from waiting s tick at waits = elim (Contains-cons_cases first waiting waits.one waits.in_waiting) [
  | inl same ↦
      let equal : from ≡ waits.arrival = same_Some from waits.arrival (sym at ∙ subst (λ (x : Waiting). slice_get arrivals x.number ≡ Some waits.arrival) (sym same) waits.there) in
      inl (subst (λ (x : Arrival). (x.state ≡ s) × (x.from ≤ tick) × (tick ≤ x.till)) (sym equal) (waits.state, waits.from, waits.till))
  | inr later ↦ inr (record { one = waits.one; in_waiting = later; arrival = waits.arrival; there = waits.there; state = waits.state; from = waits.from; till = waits.till })
]

module _ (sought : Sought) where
  abbrev rests : List (Option ℕ)
  rests = sought.rests.now.rests.items

  -- nothing is taken at first
  pub front-begins : (front : Front) → ((s : State) (tick : ℕ) → IsTaken front.taken.items s tick → ⊥) → ((s : State) → AreStartsReached sought s front) → IsFrontFor sought front.waiting.items front
  front-begins front none starts plans w is = record {
    taken = [];
    labels = front_begins sought.machine.now plans sought.ask.now w (rest_of rests) sought.limit (labels_of front.arrivals.items front.waiting.items)
        (λ s tick begin. waits-covered front.arrivals.items front.waiting.items s tick (starts s tick begin.needs begin.starts begin.begins begin.rests begin.in_time));
    covers = λ s tick taken. absurd (none s tick taken);
  }

  -- the first is taken off those that wait
  pub front-popped : (front front' : Front) (first : Waiting) → front'.arrivals.items ≡ front.arrivals.items → front'.taken.items ≡ front.taken.items → IsPermutation front.waiting.items (first ∷ front'.waiting.items)
      → IsFrontFor sought front.waiting.items front → IsFrontFor sought (first ∷ front'.waiting.items) front'
  front-popped front front' first same taken moved before plans w is =
      let old = before plans w is in
      record {
        taken = old.taken;
        labels = front_drops sought.machine.now plans sought.ask.now w (rest_of rests) sought.limit old.taken (labels_of front.arrivals.items front.waiting.items) (labels_of front'.arrivals.items (first ∷ front'.waiting.items)) old.labels
            (λ s tick covered.
            let waits = covered-waits front.arrivals.items front.waiting.items s tick covered in
            inr (subst (λ xs. IsCovered (labels_of xs (first ∷ front'.waiting.items)) s tick) (sym same) (waits-covered front.arrivals.items (first ∷ front'.waiting.items) s tick
            (record { one = waits.one; in_waiting = Contains-permutation front.waiting.items (first ∷ front'.waiting.items) waits.one moved waits.in_waiting; arrival = waits.arrival; there = waits.there; state = waits.state; from = waits.from; till = waits.till }))));
        covers = λ s tick is-taken. old.covers s tick (subst (λ xs. IsTaken xs s tick) taken is-taken);
      }

  module _ (front front' : Front) (first : Waiting) (from : Arrival) (at : slice_get front.arrivals.items first.number ≡ Some from) (before : IsFrontFor sought (first ∷ front.waiting.items) front) where
    -- the first one is dropped or cut: what is left of it waits or is taken already
    pub front-cut : (stay : Stay) → slice_index_or front.taken.items (number_of from.state) None ≡ Some stay → stay.from ≤ from.from → Grows front front'
        → ((tick : ℕ) → stay.till < tick → tick ≤ from.till → Waits front'.arrivals.items front'.waiting.items from.state tick) → IsFrontFor sought front'.waiting.items front'
    front-cut stay there begins grows left plans w is =
        let old = before plans w is in
        record {
          taken = old.taken;
          labels = front_drops sought.machine.now plans sought.ask.now w (rest_of rests) sought.limit old.taken (labels_of front.arrivals.items (first ∷ front.waiting.items)) (labels_of front'.arrivals.items front'.waiting.items) old.labels
              (λ s tick covered. elim (waits-cases front.arrivals.items first from front.waiting.items s tick at (covered-waits front.arrivals.items (first ∷ front.waiting.items) s tick covered)) [
                | inl here ↦ elim (cases_lt stay.till tick) [
                  | inl behind ↦ inr (waits-covered front'.arrivals.items front'.waiting.items s tick (subst (λ (x : State). Waits front'.arrivals.items front'.waiting.items x tick) here.0 (left tick behind here.2)))
                  | inr by ↦ inl (subst (λ (x : State). IsCovered old.taken x tick) here.0 (old.covers from.state tick (record { stay = stay; there = there; during = (let f = here.1 in omega (arith, f, begins), omega (arith, by)) })))
                ]
                | inr other ↦ inr (waits-covered front'.arrivals.items front'.waiting.items s tick (waits-grow front front' s tick grows other))
              ]);
          covers = λ s tick is-taken. old.covers s tick (subst (λ xs. IsTaken xs s tick) grows.taken is-taken);
        }

    -- the first one is taken, and each step from it is reached
    pub front-taken : (mid : Front) → Takes from front mid → Grows mid front' → (IsGoalState sought.machine.now sought.ask.now.want sought.ask.now.goal from.state → ⊥)
        → ((act : ℕ) → act < length sought.machine.now.actions → AreStepsReached sought from act front') → IsFrontFor sought front'.waiting.items front'
    front-taken mid takes grows no-goal steps plans w is = record {
      taken = label_of from ∷ old.taken;
      labels = front_takes sought.machine.now plans sought.ask.now w (rest_of rests) sought.limit (label_of from) old.taken (labels_of front.arrivals.items (first ∷ front.waiting.items)) (labels_of front'.arrivals.items front'.waiting.items) old.labels no-goal
          (λ s tick covered. elim (waits-cases front.arrivals.items first from front.waiting.items s tick at (covered-waits front.arrivals.items (first ∷ front.waiting.items) s tick covered)) [
            | inl here ↦ inl (record { label = label_of from; in_labels = Contains-here (label_of from) old.taken; state = here.0; from = here.1; till = here.2 })
            | inr other ↦ inr (waits-covered front'.arrivals.items front'.waiting.items s tick (waits-grow mid front' s tick grows (in-mid s tick other)))
          ])
          (λ next start end more less step. reached next end (steps step.act.0 (act-within sought.machine.now sought.ask.now.outs step.act step.allowed) plans w is next start end more less step refl));
      covers = covers;
    }
      where
        old : IsFrontOf sought.machine.now plans sought.ask.now w rests sought.limit (first ∷ front.waiting.items) front
        old = before plans w is

        in-mid : (s : State) (tick : ℕ) → Waits front.arrivals.items front.waiting.items s tick → Waits mid.arrivals.items mid.waiting.items s tick
        in-mid s tick waits = subst (λ xs. Waits xs mid.waiting.items s tick) (sym takes.arrivals) (subst (λ xs. Waits front.arrivals.items xs s tick) (sym takes.waiting) waits)

        covers : (s : State) (tick : ℕ) → IsTaken front'.taken.items s tick → IsCovered (label_of from ∷ old.taken) s tick
        covers s tick is-taken = elim (takes.taken s tick (subst (λ xs. IsTaken xs s tick) grows.taken is-taken)) [
          | inl earlier ↦ (let c = old.covers s tick earlier in record { label = c.label; in_labels = Contains-later (label_of from) old.taken c.label c.in_labels; state = c.state; from = c.from; till = c.till })
          | inr here ↦ record { label = label_of from; in_labels = Contains-here (label_of from) old.taken; state = sym here.0; from = here.1; till = here.2 }
        ]

        reached : (s : State) (tick : ℕ) → IsReached front' s tick → IsCovered (label_of from ∷ old.taken) s tick ⊎ IsCovered (labels_of front'.arrivals.items front'.waiting.items) s tick
        reached s tick (inl waits) = inr (waits-covered front'.arrivals.items front'.waiting.items s tick waits)
        reached s tick (inr is-taken) = inl (covers s tick is-taken)

  -- where each one that waits ends behind a bound, no complete list ends by it
  pub front-bounds : (front : Front) (waiting : List Waiting) (bound : ℕ) → bound ≤ sought.limit → All (IsKeyed rests front.arrivals.items) waiting → All (λ (one : Waiting). bound < one.key) waiting → IsFrontFor sought waiting front → NoneBy sought bound
  front-bounds front waiting bound le keyed late before plans w is =
      let old = before plans w is in
      front_bounds sought.machine.now plans sought.ask.now w (rest_of rests) sought.limit bound old.taken (labels_of front.arrivals.items waiting) (goals_last sought.machine.now sought.ask.now is.goal) is.rests old.labels le
      (λ l in' n stands.
      let label = label-in front.arrivals.items waiting l in' in
      let key = All-contains (IsKeyed rests front.arrivals.items) waiting label.one keyed label.in_waiting in
      let behind = All-contains (λ (one : Waiting). bound < one.key) waiting label.one late label.in_waiting in
      let equal : key.arrival ≡ label.arrival = same_Some key.arrival label.arrival (sym key.there ∙ label.there) in
      let rest : label.one.rest ≡ n = same_Some label.one.rest n (sym (subst (λ (x : Arrival). rest_of rests x.state ≡ Some label.one.rest) equal key.rest) ∙ ap (rest_of rests) (ap (λ (x : Label). x.state) label.label) ∙ stands) in
      let sum = key.key in
      let same : key.arrival.from ≡ l.from = ap (λ (x : Arrival). x.from) equal ∙ ap (λ (x : Label). x.from) label.label in
      omega (arith, behind, sum, same, rest))

  -- the first one and its arrival
  module _ (front : Front) (waiting : List Waiting) (first : Waiting) (moved : IsPermutation front.waiting.items (first ∷ waiting)) (keyed : AreKeyed rests front) where
    pub all-keyed : All (IsKeyed rests front.arrivals.items) (first ∷ waiting)
    all-keyed = All-permutation (IsKeyed rests front.arrivals.items) front.waiting.items (first ∷ waiting) moved keyed

    pub others-keyed : All (IsKeyed rests front.arrivals.items) waiting
    others-keyed = All-tail (IsKeyed rests front.arrivals.items) first waiting all-keyed

    first-keyed : IsKeyed rests front.arrivals.items first
    first-keyed = All-head (IsKeyed rests front.arrivals.items) first waiting all-keyed

    pub first-within : first.number < length front.arrivals.items
    first-within = slice_get_within front.arrivals.items first.number first-keyed.arrival first-keyed.there

    pub first-there : (from : Arrival) → from ≡ slice_index_or front.arrivals.items first.number from → slice_get front.arrivals.items first.number ≡ Some from
    first-there from e = there_in front.arrivals.items first.number from first-within ∙ ap Some (sym e)

    pub first-rest : (from : Arrival) → from ≡ slice_index_or front.arrivals.items first.number from → rest_of rests from.state ≡ Some first.rest
    first-rest from e =
        let equal : first-keyed.arrival ≡ from = same_Some first-keyed.arrival from (sym first-keyed.there ∙ first-there from e) in
        subst (λ (a : Arrival). rest_of rests a.state ≡ Some first.rest) equal first-keyed.rest

pub later-keys : (waiting : List Waiting) (bound end : ℕ) → bound < end → All (λ (one : Waiting). end ≤ one.key) waiting → All (λ (one : Waiting). bound < one.key) waiting
later-keys waiting bound end less all = All-from_contains (λ (one : Waiting). bound < one.key) waiting (λ one in'. let le = All-contains (λ (x : Waiting). end ≤ x.key) waiting one all in' in omega (arith, less, le))

pub none-keyed : (P : Waiting → Type 0) (waiting : List Waiting) → waiting ≡ [] → All P waiting
none-keyed P waiting none = subst (λ xs. All P xs) (sym none) (All-nil P)
