-- The rows of the states below a number: each is of its state, and has its room.
use Rattle.std.proofs.Common.{◌≡◌, ◌≢◌, inl, inr, ℕ, zero, suc, ◌+◌, ◌*◌, ◌/◌, ◌%◌, ◌<◌, ◌≤◌, Bool, true, false, cond, ◌==◌, List, [], ◌∷◌, ◌++◌, length, refl, sym, ◌∙◌, ap, subst, arith, get_or, All, AllPairs, Contains, Option, Some, None, IsTrue, position}
use Rattle.std.specs.Prelude.{MatchOption, slice_get, option_map}
use Rattle.std.specs.Str.{bytes_eq}
use Rattle.std.specs.List.{position_or_len}
use Rattle.std.proofs.lemmas.List.Elements.{All-append, All-cons, All-nil, All-contains, Contains-append_left, Contains-append_right}
use Rattle.std.proofs.lemmas.Slice.Eq.{bytes_eq-Decides}
use Rattle.tp_bounds.specs.declared.tree.TreeRow.{TreeRow}
use Rattle.tp_machine.specs.Machines.{AreDifferent}
use Rattle.tp_machine.specs.Steps.{step_of}
use Rattle.tp_machine.specs.ModuleUse.{action_at}
use Rattle.tp_machine.specs.declared.parts.Action.{Action}
use Rattle.tp_machine.specs.declared.parts.ActId.{ActId}
use Rattle.tp_machine.specs.declared.parts.LocId.{LocId}
use Rattle.tp_machine.specs.declared.parts.State.{State}
use Rattle.tp_machine.specs.declared.machine.Machine.{Machine}
use Rattle.tp_machine.proofs.MachineFacts.{is_machine}
use Rattle.tp_schedule.specs.Routes.{AreAllowed, HasNoRoom, IsRoom, IsStart, Reaches, is_act_allowed, least_of, step_by}
use Rattle.tp_schedule.specs.declared.parts.Ask.{Ask}
use Rattle.tp_schedule.proofs.Membership.{Contains-cons_cases, Contains-here, Contains-later}
use Rattle.tp_schedule.proofs.Pairs.{AllPairs-append, AllPairs-head, AllPairs-tail}
use Rattle.tp_schedule.proofs.Walks.{AreAllowed-push, walk_on}
use Rattle.tp_constraints.proofs.Lists.{contains-get, get-there}
use Rattle.tp_routes.specs.Numbers.{done_bit, number_of, side_bit, side_from, state_at}
use Rattle.tp_routes.specs.Tables.{AreRooms, IsKnownOrigin, sum_at}
use Rattle.tp_routes.proofs.NumberFacts.{state_of_number}
use Rattle.tp_routes.proofs.RoomFacts.{leads_to, number_within, start_known, steps_keep_room}
use Rattle.tp_bound_laws.specs.Rows.{AreRoomRows, HasRow, is_state, row_of, state_of}
use Rattle.tp_bound_laws.proofs.RowFacts.{state-is, state-refl}
use Rattle.tp_bound_make.specs.RoomRows.{HasRooms, name_in, named, row_by, rows_below}
use Rattle.tp_bound_laws.proofs.AllowedHops.{lt-to}
use Rattle.tp_bound_make.proofs.EndCloses.{nat-cases}
use Rattle.tp_bound_make.proofs.TellFacts.{get-within}

-- ---- numbers
side-back : (m : ℕ) → m < 2 → side_bit (side_from m) ≡ m
side-back zero h = refl
side-back (suc zero) h = refl
side-back (suc (suc m)) h = absurd (omega (arith, h))

done-back : (m : ℕ) → m < 2 → done_bit (m == 1) ≡ m
done-back zero h = refl
done-back (suc zero) h = refl
done-back (suc (suc m)) h = absurd (omega (arith, h))

pub number-back : (n : ℕ) → number_of (state_at n) ≡ n
number-back n =
    let a = side-back (n / 4 % 2) (omega arith) in
    let b = done-back (n / 2 % 2) (omega arith) in
    let c = done-back (n % 2) (omega arith) in
    omega (arith, a, b, c)

-- ---- names
get-past : {X : Type 0} (xs : List X) (i : ℕ) → length xs ≤ i → slice_get xs i ≡ None
get-past [] i h = refl
get-past (x ∷ xs) zero h = absurd (omega (arith, h))
get-past (x ∷ xs) (suc i) h = get-past xs i (omega (arith, h))

first-name : (names : List (List ℕ)) (i : ℕ) (name : List ℕ) → AreDifferent names → slice_get names i ≡ Some name → position_or_len (bytes_eq name) names ≡ i
first-name [] i name differ e = absurd cc
first-name (q ∷ names) zero name differ e = let t : bytes_eq name q ≡ true = (bytes_eq-Decides name q).1 cc in rw t refl
first-name (q ∷ names) (suc i) name differ e = go (bytes_eq name q) refl (first-name names i name (AllPairs-tail (λ a b. a ≢ b) q names differ) e) where
  go : (t : Bool) → bytes_eq name q ≡ t → position_or_len (bytes_eq name) names ≡ i → position_or_len (bytes_eq name) (q ∷ names) ≡ suc i
  go true u rest = absurd (All-contains (λ b. q ≢ b) names name (AllPairs-head (λ a b. a ≢ b) q names differ) (contains-get names i name e) (sym ((bytes_eq-Decides name q).0 u)))
  go false u rest = let more : 1 + position_or_len (bytes_eq name) names ≡ suc i = omega (arith, rest) in rw u more

name-place : (names : List (List ℕ)) (i : ℕ) (name : List ℕ) → AreDifferent names → slice_get names i ≡ Some name → position (bytes_eq name) names ≡ Some i
name-place names i name differ e =
    let p = first-name names i name differ e in
    let t = lt-to i (length names) (get-within names i name e) in
    rw (p, t) refl

-- the row of a state is the one that it has
row-in : (machine : Machine) (rows : List TreeRow) (s : State) (room : ℕ) → AllPairs (λ r q. state_of machine r.state ≢ state_of machine q.state) rows → HasRow machine rows s room → row_of machine rows s ≡ Some room
row-in machine [] s room differ (r, in', e, is) = absurd (omega (arith, in'.1))
row-in machine (q ∷ rows) s room differ (r, in', e, is) = elim (Contains-cons_cases q rows r in') [
  | inl same ↦ let t : is_state s (state_of machine q.state) ≡ true = state-refl s (state_of machine q.state) (ap (λ (k : TreeRow). state_of machine k.state) same ∙ e) in rw t (ap (λ (k : TreeRow). Some k.room) same ∙ ap (λ n. Some n) is)
  | inr later ↦ go (is_state s (state_of machine q.state)) refl later (row-in machine rows s room (AllPairs-tail (λ r k. state_of machine r.state ≢ state_of machine k.state) q rows differ) (r, later, e, is))
] where
  go : (b : Bool) → is_state s (state_of machine q.state) ≡ b → Contains rows r → row_of machine rows s ≡ Some room → cond b (Some q.room) (row_of machine rows s) ≡ Some room
  go true t later rest =
      let here = state-is s (state_of machine q.state) t in
      absurd (All-contains (λ k. state_of machine q.state ≢ state_of machine k.state) rows r (AllPairs-head (λ r k. state_of machine r.state ≢ state_of machine k.state) q rows differ) later (here ∙ sym e))
  go false t later rest = rest

module _ (machine : Machine) where
  -- a state at a location is found by its name
  pub named-state : (s : State) → s.loc.0 < length machine.locations → state_of machine (named machine s) ≡ Some s
  named-state s known =
      let g = get-there machine.locations s.loc.0 known in
      let place = name-place machine.locations s.loc.0 g.0 (is_machine machine).location_names.1 g.1 in
      let found : position (bytes_eq (name_in (slice_get machine.locations s.loc.0))) machine.locations ≡ Some s.loc.0 = rw g.1 place in
      ap (option_map (λ i. record { loc = record { 0 = i }; up = s.up; front_done = s.front_done; back_done = s.back_done })) found

  known-number : (n : ℕ) → n < length machine.locations * 8 → (state_at n).loc.0 < length machine.locations
  known-number n below = omega (arith, below)

  -- ---- rows
  module _ (sums : List (Option ℕ)) where
    -- the row of a number below this one
    pub record IsRowBelow (top : ℕ) (r : TreeRow) : Type 0 where
      pub number : ℕ
      pub below : number < top
      pub state : state_of machine r.state ≡ Some (state_at number)
      pub sum : sum_at sums number ≡ Some r.room

    below-more : (n : ℕ) (r : TreeRow) → IsRowBelow n r → IsRowBelow (suc n) r
    below-more n r b = let h = b.below in record { number = b.number; below = omega (arith, h); state = b.state; sum = b.sum }

    pub all-below : (n : ℕ) → n ≤ length machine.locations * 8 → All (IsRowBelow n) (rows_below machine sums n)
    all-below zero le = All-nil (IsRowBelow 0)
    all-below (suc n) le = go (sum_at sums n) refl (all-below n (omega (arith, le))) where
      go : (o : Option ℕ) → sum_at sums n ≡ o → All (IsRowBelow n) (rows_below machine sums n) → All (IsRowBelow (suc n)) (rows_below machine sums n ++ row_by machine n o)
      go None u all = All-append (IsRowBelow (suc n)) (rows_below machine sums n) [] (λ k d w. below-more n _ (all k d w)) (All-nil (IsRowBelow (suc n)))
      go (Some room) u all =
          All-append (IsRowBelow (suc n)) (rows_below machine sums n) (record { state = named machine (state_at n); room = room } ∷ []) (λ k d w. below-more n _ (all k d w))
          (All-cons (IsRowBelow (suc n)) (record { state = named machine (state_at n); room = room }) [] (record { number = n; below = omega arith; state = named-state (state_at n) (known-number n (omega (arith, le))); sum = u }) (All-nil (IsRowBelow (suc n))))

    abbrev Differ : TreeRow → TreeRow → Type 0
    Differ r q = state_of machine r.state ≢ state_of machine q.state

    state-apart : (m n : ℕ) → m < n → Some (state_at m) ≡ Some (state_at n) → ⊥
    state-apart m n below same =
        let e : state_at m ≡ state_at n = cc in
        let k : m ≡ n = sym (number-back m) ∙ ap number_of e ∙ number-back n in
        omega (arith, below, k)

    one-row : (r : TreeRow) → AllPairs Differ (r ∷ [])
    one-row r = λ i j d below within. absurd (omega (arith, below, within))

    no-rows : AllPairs Differ []
    no-rows = λ i j d below within. absurd (omega (arith, within))

    all-differ : (n : ℕ) → n ≤ length machine.locations * 8 → AllPairs Differ (rows_below machine sums n)
    all-differ zero le = no-rows
    all-differ (suc n) le = go (sum_at sums n) (all-differ n (omega (arith, le))) where
      last : ℕ → TreeRow
      last room = record { state = named machine (state_at n); room = room }

      across : (room : ℕ) (r : TreeRow) → IsRowBelow n r → All (Differ r) (last room ∷ [])
      across room r b = All-cons (Differ r) (last room) [] (λ same. state-apart b.number n b.below (sym b.state ∙ same ∙ named-state (state_at n) (known-number n (omega (arith, le))))) (All-nil (Differ r))

      go : (o : Option ℕ) → AllPairs Differ (rows_below machine sums n) → AllPairs Differ (rows_below machine sums n ++ row_by machine n o)
      go None all = AllPairs-append Differ (rows_below machine sums n) [] all no-rows (λ k d w. All-nil (Differ (get_or (rows_below machine sums n) k d)))
      go (Some room) all = AllPairs-append Differ (rows_below machine sums n) (last room ∷ []) all (one-row (last room)) (λ k d w. across room (get_or (rows_below machine sums n) k d) (all-below n (omega (arith, le)) k d w))

    -- each state with a sum has its row
    pub has-row : (n m room : ℕ) → n ≤ length machine.locations * 8 → m < n → sum_at sums m ≡ Some room → Contains (rows_below machine sums n) (record { state = named machine (state_at m); room = room })
    has-row zero m room le below e = absurd (omega (arith, below))
    has-row (suc n) m room le below e = elim (nat-cases m n) [
      | inl h ↦ Contains-append_left (rows_below machine sums n) (row_by machine n (sum_at sums n)) _ (has-row n m room (omega (arith, le)) h e)
      | inr h ↦
          let same : m ≡ n = omega (arith, h, below) in
          let here : sum_at sums n ≡ Some room = subst (λ k. sum_at sums k ≡ Some room) same e in
          subst (λ k. Contains (rows_below machine sums n ++ row_by machine n (sum_at sums n)) (record { state = named machine (state_at k); room = room })) (sym same)
          (subst (λ o. Contains (rows_below machine sums n ++ row_by machine n o) (record { state = named machine (state_at n); room = room })) (sym here)
          (Contains-append_right (rows_below machine sums n) (record { state = named machine (state_at n); room = room } ∷ []) _ (Contains-here _ [])))
    ]

    abbrev all : List TreeRow
    all = rows_below machine sums (length machine.locations * 8)

    pub row-there : (s : State) (room : ℕ) → s.loc.0 < length machine.locations → sum_at sums (number_of s) ≡ Some room → HasRow machine all s room
    row-there s room known e =
        let below = number_within s (length machine.locations) known in
        let here = has-row (length machine.locations * 8) (number_of s) room (omega arith) (omega (arith, below)) e in
        let same = state_of_number s in
        (record { state = named machine (state_at (number_of s)); room = room }, here, subst (λ q. state_of machine (named machine q) ≡ Some s) (sym same) (named-state s known), refl)

    pub row-sum : (s : State) (room : ℕ) → HasRow machine all s room → (s.loc.0 < length machine.locations) × (sum_at sums (number_of s) ≡ Some room)
    row-sum s room (r, in', state, is) =
        let b = All-contains (IsRowBelow (length machine.locations * 8)) all r (all-below (length machine.locations * 8) (omega arith)) in' in
        let both : Some (state_at b.number) ≡ Some s = sym b.state ∙ state in
        let same : state_at b.number ≡ s = cc in
        let number : b.number ≡ number_of s = sym (number-back b.number) ∙ ap number_of same in
        (subst (λ (q : State). q.loc.0 < length machine.locations) same (known-number b.number b.below), sym (ap (sum_at sums) number) ∙ b.sum ∙ ap (λ k. Some k) is)

    pub has-rooms : HasRooms machine sums all
    has-rooms s known = go (sum_at sums (number_of s)) refl where
      none : (rows : List TreeRow) → ((r : TreeRow) → Contains rows r → state_of machine r.state ≡ Some s → ⊥) → row_of machine rows s ≡ None
      none [] never = refl
      none (r ∷ rows) never = step (is_state s (state_of machine r.state)) refl (none rows (λ q in'. never q (Contains-later r rows q in'))) where
        step : (c : Bool) → is_state s (state_of machine r.state) ≡ c → row_of machine rows s ≡ None → cond c (Some r.room) (row_of machine rows s) ≡ None
        step true u rest = absurd (never r (Contains-here r rows) (state-is s (state_of machine r.state) u))
        step false u rest = rest

      go : (o : Option ℕ) → sum_at sums (number_of s) ≡ o → row_of machine all s ≡ o
      go None u = none all (λ r in' state. let h = (row-sum s r.room (r, in', state, refl)).1 in absurd cc)
      go (Some room) u = row-in machine all s room (all-differ (length machine.locations * 8) (omega arith)) (row-there s room known u)

    module _ (ask : Ask) (origin : IsKnownOrigin machine ask.origin) (are : AreRooms machine ask sums) where
      -- a state that can be reached has room
      reached-room : (s : State) → s.loc.0 < length machine.locations → (acts : List ActId) → AreAllowed machine ask.outs acts → Reaches machine ask acts s → (room : ℕ) × (sum_at sums (number_of s) ≡ Some room) × IsRoom machine ask s room
      reached-room s known acts allowed reaches = go (sum_at sums (number_of s)) refl (are s known) where
        go : (o : Option ℕ) → sum_at sums (number_of s) ≡ o → MatchOption o (HasNoRoom machine ask s) (IsRoom machine ask s) → (room : ℕ) × (sum_at sums (number_of s) ≡ Some room) × IsRoom machine ask s room
        go None u h = absurd (h acts allowed reaches)
        go (Some room) u h = (room, u, h)

      row-room : (s : State) (room : ℕ) → HasRow machine all s room → IsRoom machine ask s room
      row-room s room has =
          let r = row-sum s room has in
          subst (λ o. MatchOption o (HasNoRoom machine ask s) (IsRoom machine ask s)) r.1 (are s r.0)

      row-starts : (s : State) → IsStart machine ask s → HasRow machine all s 0
      row-starts s starts =
          let known = start_known machine ask s origin starts in
          let none : AreAllowed machine ask.outs [] = λ act in'. absurd (omega (arith, in'.1)) in
          let reaches : Reaches machine ask [] s = record { start = s; starts = starts; leads = refl } in
          let r = reached-room s known [] none reaches in
          let least = r.2.least [] none reaches in
          let zero-room : r.0 ≡ 0 = omega (arith, least) in
          row-there s 0 known (r.1 ∙ ap (λ k. Some k) zero-room)

      row-steps : (s s' : State) (act : ActId) (room : ℕ) → HasRow machine all s room → IsTrue (is_act_allowed machine ask.outs act) → step_by machine ask.want act s ≡ Some s'
          → (room' : ℕ) × HasRow machine all s' room' × (room' ≤ room + least_of machine act)
      row-steps s s' act room has allowed steps = go (action_at machine act.0) refl where
        from : IsRoom machine ask s room
        from = row-room s room has

        go : (o : Option Action) → action_at machine act.0 ≡ o → (room' : ℕ) × HasRow machine all s' room' × (room' ≤ room + least_of machine act)
        go None at = let k : None ≡ Some s' = rw at at steps in absurd cc
        go (Some a) at =
            let step : step_of a ask.want s ≡ Some s' = rw at at steps in
            let known : s'.loc.0 < length machine.locations = subst (λ (l : LocId). l.0 < length machine.locations) (sym (leads_to a ask.want s s' step)) ((is_machine machine).ways act.0 a at).to_known in
            let reaches : Reaches machine ask (from.acts ++ act ∷ []) s' = record { start = from.reaches.start; starts = from.reaches.starts; leads = walk_on machine ask.want from.acts act from.reaches.start s s' from.reaches.leads steps } in
            let r = reached-room s' known (from.acts ++ act ∷ []) (AreAllowed-push machine ask.outs from.acts act from.allowed allowed) reaches in
            let most = steps_keep_room machine ask act a s s' room at allowed step from r.0 r.2 in
            let least : least_of machine act ≡ a.least = rw at refl in
            (r.0, row-there s' r.0 known r.1, omega (arith, most, least))

      pub are-rows : AreRoomRows machine ask all
      are-rows = record {
        known = λ k d w. let h = (all-below (length machine.locations * 8) (omega arith) k d w).state in rw h refl;
        differ = all-differ (length machine.locations * 8) (omega arith);
        starts = row-starts;
        steps = row-steps;
      }
