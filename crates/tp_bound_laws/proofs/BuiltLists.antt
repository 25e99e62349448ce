-- The complete list of an alternative is come to by steps from its goal, and its ticks leave each row's number.
use Rattle.std.proofs.Common.{◌≡◌, ◌≢◌, inl, inr, ℕ, zero, suc, ◌+◌, ◌≤◌, Bool, true, false, cond, ◌==◌, List, [], ◌∷◌, ◌++◌, length, insert, refl, sym, ◌∙◌, ap, subst, arith, Some, None}
use Rattle.std.specs.Prelude.{slice_get}
use Rattle.std.proofs.lemmas.Bool.{cases_lt}
use Rattle.std.proofs.lemmas.List.{append_assoc, append-nil}
use Rattle.tp_bounds.specs.declared.tree.TreeRow.{TreeRow}
use Rattle.tp_machine.specs.ModuleUse.{action_at}
use Rattle.tp_machine.specs.declared.parts.ActId.{ActId}
use Rattle.tp_machine.specs.declared.parts.HoldRule.{HoldRule}
use Rattle.tp_machine.specs.declared.parts.State.{State}
use Rattle.tp_machine.specs.declared.machine.Machine.{Machine}
use Rattle.tp_schedule.specs.Answers.{kept_of}
use Rattle.tp_schedule.specs.Choices.{AreWithin, CanStop, Choice, ChoiceList, ChoicesLast, HasTimes, HavePlaces, IsChoiceList, IsComplete, IsCompleteFrom, acts_of, placed, put_places, start_floor}
use Rattle.tp_schedule.specs.Holders.{holds_of_act}
use Rattle.tp_schedule.specs.Routes.{AreAllowed, Reaches, IsStart, least_sum, walk}
use Rattle.tp_schedule.specs.Spots.{Slot, Spot, Ticks, slot_order}
use Rattle.tp_schedule.specs.Spots.Spot.{own}
use Rattle.tp_schedule.specs.declared.parts.Ask.{Ask}
use Rattle.tp_schedule.specs.declared.parts.Origin.{Origin}
use Rattle.tp_schedule.specs.declared.parts.Origin.TheVariants.{Feeder as FromFeeder, Front as FromFront}
use Rattle.tp_schedule.specs.declared.parts.Plan.{Plan}
use Rattle.tp_schedule.proofs.Walks.{AreAllowed-head, AreAllowed-push, AreAllowed-tail, least_sum-push, walk_first, walk_on}
use Rattle.tp_choices.proofs.ShorterLists.{LastsWithin-least}
use Rattle.tp_constraints.specs.Suffixes.{Suffix, SuffixTimes, room_of, with_goal}
use Rattle.tp_constraints.proofs.FirstStates.{first-unique}
use Rattle.tp_constraints.proofs.Rooms.{room-first, room-later}
use Rattle.tp_bound_laws.specs.Places.{has_choice, is_begun, is_front_state, or_zero, room_at, rule_in}
use Rattle.tp_bound_laws.specs.Rows.{AreRoomRows, is_same_state}
use Rattle.tp_bound_laws.proofs.GoalsDue.{start-begun}
use Rattle.tp_bound_laws.proofs.RowFacts.{row-below, same_state-refl}
use Rattle.tp_bound_laws.proofs.Ways.{IsReached, Way}
use Rattle.tp_bound_laws.proofs.Ways.Way.{by_action, by_place, by_stop, there}

-- ---- places

-- a choice with all its places has no hold left
within-full : (orders : ℕ → List Slot) (rules : List HoldRule) (ps : List ℕ) → AreWithin orders rules ps → slice_get rules (length ps) ≡ None
within-full orders [] [] h = refl
within-full orders [] (p ∷ ps) h = absurd h
within-full orders (rule ∷ rules) [] h = absurd h
within-full orders (rule ∷ rules) (p ∷ ps) h = within-full orders rules ps h.1

-- the hold of each place
within-next : (orders : ℕ → List Slot) (rules : List HoldRule) (ps : List ℕ) (p : ℕ) (rest : List ℕ) → AreWithin orders rules (ps ++ p ∷ rest) → (rule : HoldRule) × (slice_get rules (length ps) ≡ Some rule) × (p ≤ length (orders rule.resource.0))
within-next orders [] [] p rest h = absurd h
within-next orders [] (q ∷ ps) p rest h = absurd h
within-next orders (rule ∷ rules) [] p rest h = (rule, refl, h.0)
within-next orders (rule ∷ rules) (q ∷ ps) p rest h = within-next orders rules ps p rest h.1

-- orders grow
clip : (xs : List Slot) (i : ℕ) (s : Slot) → length xs ≤ length (insert xs i s)
clip [] zero s = omega arith
clip [] (suc i) s = omega arith
clip (x ∷ xs) zero s = omega arith
clip (x ∷ xs) (suc i) s = let h = clip xs i s in omega (arith, h)

put_places-long : (resource : ℕ) (from to : Spot) (rules : List HoldRule) (ps : List ℕ) (order : List Slot) → length order ≤ length (put_places resource from to rules ps order)
put_places-long resource from to [] ps order = omega arith
put_places-long resource from to (rule ∷ rules) [] order = omega arith
put_places-long resource from to (rule ∷ rules) (p ∷ ps) order =
    let slot : Slot = record { rule = rule; from = from; to = to } in
    let more = put_places-long resource from to rules ps (cond (rule.resource.0 == resource) (insert order p slot) order) in
    let here = go (rule.resource.0 == resource) in
    omega (arith, more, here) where
      go : (b : Bool) → length order ≤ length (cond b (insert order p (record { rule = rule; from = from; to = to })) order)
      go true = clip order p (record { rule = rule; from = from; to = to })
      go false = omega arith

module _ (machine : Machine) (plans : List Plan) (ask : Ask) (rows : List TreeRow) (are : AreRoomRows machine ask rows) (t : Ticks) (goal : State) where
  abbrev ToX : Suffix → State → Suffix → Type 0
  ToX X s x = Way machine plans ask rows X s x

  abbrev room : State → ℕ
  room s = room_at machine plans ask rows s

  abbrev floor : ℕ
  floor = start_floor machine ask.now ask.origin

  abbrev suffix : List Choice → List ℕ → Suffix
  suffix choices rooms = record { choices = choices; rooms = rooms; stopped = false }

  room-below : (acts : List ActId) (s : State) → AreAllowed machine ask.outs acts → Reaches machine ask acts s → room s ≤ least_sum machine acts
  room-below acts s allowed reaches =
      let r = row-below machine ask rows are acts s allowed reaches in
      let is : room s ≡ r.0 = ap or_zero r.1 in
      omega (arith, is, r.2)

  -- the choices so far, with their rooms, and the steps to them from the goal
  record Built (s : State) (choices : List Choice) : Type 0 where
    rooms : List ℕ
    count : length rooms ≡ suc (length choices)
    lows : (n : ℕ) → n ≤ length choices → floor + room_of rooms n ≤ t (own n)
    back : (X : Suffix) → ToX X s (suffix choices rooms) → ToX X goal (with_goal (room goal))

  full-of : (choices : List Choice) → HavePlaces machine (slot_order machine plans) choices → rule_in machine choices ≡ None
  full-of [] h = refl
  full-of (c ∷ cs) h = within-full (λ r. placed machine r (slot_order machine plans r) cs) (holds_of_act (action_at machine c.act.0)) c.places h.0

  -- the places of a choice, one after another
  place-all : (X : Suffix) (s : State) (c : Choice) (cs : List Choice) (rooms : List ℕ) (rest ps : List ℕ) → AreWithin (λ r. placed machine r (slot_order machine plans r) cs) (holds_of_act (action_at machine c.act.0)) c.places → ps ++ rest ≡ c.places
      → ToX X s (suffix (c ∷ cs) rooms) → ToX X s (suffix (record { act = c.act; places = ps } ∷ cs) rooms)
  place-all X s c cs rooms [] ps within e way =
      let same : c.places ≡ ps = sym e ∙ append-nil ps in
      subst (λ qs. ToX X s (suffix (record { act = c.act; places = qs } ∷ cs) rooms)) same way
  place-all X s c cs rooms (p ∷ rest) ps within e way =
      let rules = holds_of_act (action_at machine c.act.0) in
      let next = within-next (λ r. placed machine r (slot_order machine plans r) cs) (holds_of_act (action_at machine c.act.0)) ps p rest (subst (AreWithin (λ r. placed machine r (slot_order machine plans r) cs) (holds_of_act (action_at machine c.act.0))) (sym e) within) in
      let long = put_places-long next.0.resource.0 (own (suc (length cs))) (own (length cs)) (holds_of_act (action_at machine c.act.0)) ps (placed machine next.0.resource.0 (slot_order machine plans next.0.resource.0) cs) in
      let le = next.2 in
      by_place next.0 p s (suffix (record { act = c.act; places = ps } ∷ cs) rooms) next.1 refl (omega (arith, long, le))
      (place-all X s c cs rooms rest (ps ++ p ∷ []) within (append_assoc ps (p ∷ []) rest ∙ e) way)

  build : (choices : List Choice) (s : State) (acts : List ActId) → walk machine ask.want (acts_of choices) s ≡ Some goal → AreAllowed machine ask.outs (acts_of choices) → HavePlaces machine (slot_order machine plans) choices → kept_of ask + length choices ≤ 64
      → ChoicesLast machine t choices → AreAllowed machine ask.outs acts → Reaches machine ask acts s → floor + least_sum machine acts ≤ t (own (length choices)) → Built s choices
  build [] s acts leads allowed within few last before reaches low =
      let same : s ≡ goal = cc in
      let below = room-below acts s before reaches in
      record {
        rooms = room s ∷ [];
        count = refl;
        lows = λ n le. (let e : n ≡ 0 = omega arith in let r = room-first (room s) [] n e in rw e (omega (arith, low, below, room-first (room s) [] 0 refl)));
        back = λ X way. subst (λ q. ToX X q (with_goal (room q))) same way;
      }
  build (c ∷ cs) s acts leads allowed within few last before reaches low =
      let first = walk_first machine ask.want c.act (acts_of cs) s goal leads in
      let one = AreAllowed-head machine ask.outs c.act (acts_of cs) allowed in
      let least = LastsWithin-least machine c.act (t (own (suc (length cs)))) (t (own (length cs))) last.0 in
      let sum = least_sum-push machine acts c.act in
      let next : Reaches machine ask (acts ++ c.act ∷ []) first.0 = record { start = reaches.start; starts = reaches.starts; leads = walk_on machine ask.want acts c.act reaches.start s first.0 reaches.leads first.1 } in
      let b = build cs first.0 (acts ++ c.act ∷ []) first.2 (AreAllowed-tail machine ask.outs c.act (acts_of cs) allowed) within.1 (omega (arith, few)) last.1 (AreAllowed-push machine ask.outs acts c.act before one) next (omega (arith, low, least, sum)) in
      let below = room-below acts s before reaches in
      let n-rooms = b.count in
      record {
        rooms = room s ∷ b.rooms;
        count = ap suc b.count;
        lows = λ n le. elim (cases_lt n (suc (length cs))) [
          | inl l ↦ let r = room-later (room s) b.rooms n (omega (arith, l, n-rooms)) in rw r (b.lows n (omega arith))
          | inr g ↦ let e : n ≡ suc (length cs) = omega arith in let r = room-first (room s) b.rooms n (e ∙ sym b.count) in rw (r, e) (omega (arith, low, below))
        ];
        back = λ X way. b.back X (by_action c.act s first.0 (suffix cs b.rooms) (full-of cs within.1) refl b.count (omega (arith, few)) one first.1 (place-all X s c cs (room s ∷ b.rooms) c.places [] within.0 refl way));
      }

  -- ---- the whole list

  pub record Target : Type 0 where
    pub X : Suffix
    pub way : ToX X goal (with_goal (room goal))
    pub times : SuffixTimes machine plans ask X t

  suffix-times : (list : ChoiceList) (rooms : List ℕ) (n : ℕ) → HasTimes machine plans ask list n t → ((k : ℕ) → k ≤ length list.choices → floor + room_of rooms k ≤ t (own k)) → SuffixTimes machine plans ask (record { choices = list.choices; rooms = rooms; stopped = list.stopped }) t
  suffix-times list rooms n h lows = record { keeps = h.keeps; lasts = h.lasts; lows = lows; last = h.last; line = h.line; apart = h.apart; stopped = h.stopped }

  -- the first state of a complete list that isn't stopped is a start
  begun-by : (list : ChoiceList) (s : State) (o : Origin) → walk machine ask.want (acts_of list.choices) s ≡ Some list.goal → IsCompleteFrom machine ask list o → ask.origin ≡ o → list.stopped ≡ false → is_begun machine ask o s ≡ true
  begun-by list s FromFeeder leads complete e going =
      let same : complete.0 ≡ s = first-unique machine ask.want (acts_of list.choices) complete.0 s list.goal complete.1 leads in
      let starts : IsStart machine ask s = subst (IsStart machine ask) same complete.2 in
      start-begun machine ask s (rw e at starts)
  begun-by list s (FromFront state end count) leads complete e going = absurd cc

  -- that of a stopped one is the front's
  front-by : (list : ChoiceList) (s : State) (o : Origin) → walk machine ask.want (acts_of list.choices) s ≡ Some list.goal → CanStop machine ask list o → (is_front_state o s ≡ true) × (list.choices ≢ [])
  front-by list s FromFeeder leads can = absurd can
  front-by list s (FromFront state end count) leads can =
      let same : state ≡ s = first-unique machine ask.want (acts_of list.choices) state s list.goal can.1 leads in
      (subst (λ q. is_same_state s q ≡ true) (sym same) (same_state-refl s), can.0)

  some-choice : (choices : List Choice) → choices ≢ [] → has_choice machine plans ask rows choices ≡ true
  some-choice [] some = absurd (some refl)
  some-choice (c ∷ cs) some = refl

  pub target : (list : ChoiceList) → list.goal ≡ goal → IsChoiceList machine plans ask list → IsComplete machine ask list → (s : State) → walk machine ask.want (acts_of list.choices) s ≡ Some goal → (before : List ActId) → AreAllowed machine ask.outs before → Reaches machine ask before s
      → HasTimes machine plans ask list (least_sum machine before) t → Target
  target list is_goal is complete s leads before allowed reaches times = go list.stopped refl where
    b : Built s list.choices
    b = build list.choices s before leads is.allowed is.places is.at_most times.lasts allowed reaches times.first

    whole-list : walk machine ask.want (acts_of list.choices) s ≡ Some list.goal
    whole-list = leads ∙ ap (λ g. Some g) (sym is_goal)

    X-times : (c : Bool) → list.stopped ≡ c → SuffixTimes machine plans ask (record { choices = list.choices; rooms = b.rooms; stopped = c }) t
    X-times c e = subst (λ k. SuffixTimes machine plans ask (record { choices = list.choices; rooms = b.rooms; stopped = k }) t) e (suffix-times list b.rooms (least_sum machine before) times b.lows)

    reached : IsReached machine plans ask rows s
    reached = record { acts = before; allowed = allowed; reaches = reaches }

    go : (c : Bool) → list.stopped ≡ c → Target
    go false e = record {
      X = suffix list.choices b.rooms;
      way = b.back (suffix list.choices b.rooms) (there s (record { reached = reached; full = full-of list.choices is.places; complete = λ _. begun-by list s ask.origin whole-list complete refl e }));
      times = X-times false e;
    }
    go true e =
        let f = front-by list s ask.origin whole-list (is.can_stop e) in
        record {
          X = record { choices = list.choices; rooms = b.rooms; stopped = true };
          way = b.back (record { choices = list.choices; rooms = b.rooms; stopped = true })
              (by_stop s (suffix list.choices b.rooms) (full-of list.choices is.places) refl (some-choice list.choices f.1) f.0 (there s (record { reached = reached; full = full-of list.choices is.places; complete = λ u. absurd cc })));
          times = X-times true e;
        }
