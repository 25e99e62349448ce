-- An alternative gives a complete list: its route read backwards, with the places that its holds have in its orders.
-- The schedule's points are ticks of that list.
use Rattle.std.proofs.Common.{◌≡◌, ℕ, suc, ◌≤◌, ◌<◌, Bool, true, false, not, ◌&&◌, List, [], ◌++◌, map, length, filter, refl, ap, sym, arith, Contains, All, AllPairs, ◌∙◌, subst, Some, IsTrue, nat_lt, append_assoc}
use Rattle.std.specs.Prelude.{IsPermutation}
use Rattle.std.proofs.lemmas.Bool.{le-ltb}
use Rattle.std.proofs.lemmas.List.{length-map, map-append}
use Rattle.std.proofs.lemmas.List.Elements.{All-contains}
use Rattle.std.proofs.lemmas.List.Kept.{AllPairs-filter}
use Rattle.std.proofs.lemmas.List.Sorted.{IsPermutation-sym, IsPermutation-trans, IsPermutation-append_right, IsPermutation-append_left, IsPermutation-append_comm, All-permutation, Contains-permutation}
use Rattle.tp_schedule.proofs.LegalOrders.{LastsBy-plans, IsTimedBy-plans}
use Rattle.tp_machine.proofs.MachineFacts.{is_machine}
use Rattle.tp_choices.proofs.Lists.{map-same, All-map_from, filter-map-length}
use Rattle.tp_choices.proofs.OwnSlots.{settled_slot, slots_from-append, slots-without}
use Rattle.tp_choices.proofs.OwnPlaces.{own_acts, Chosen, chosen}
use Rattle.tp_choices.proofs.TimedSlots.{All-slots}
use Rattle.tp_machine.specs.Modes.{gap_at}
use Rattle.tp_machine.specs.Machines.{IsMachine}
use Rattle.tp_schedule.proofs.CopyFacts.{plan_of-itself, same_copy-is}
use Rattle.tp_schedule.proofs.HeldModes.{slots_spread}
use Rattle.tp_schedule.proofs.CoveredTicks.{covered, AllPairs-from_covered}
use Rattle.tp_schedule.proofs.HeldCount.{length-held}
use Rattle.tp_schedule.proofs.LegalOrders.{sound_plans, legal_apart, length-filter-IsPermutation}
use Rattle.tp_schedule.proofs.Membership.{Contains-map}
use Rattle.tp_schedule.proofs.Pairs.{AllPairs-each}
use Rattle.tp_schedule.proofs.SlotOrder.{IsPermutation-by_begin}
use Rattle.tp_schedule.specs.Answers.{unmoved, kept_of, kept_from, kept_acts, acts_in, IsAlternative, IsAsked, IsAskedFrom, is_new}
use Rattle.tp_schedule.specs.Choices.{Choice, ChoiceList, IsComplete, IsCompleteFrom, CanStop, start_floor, OpensTo}
use Rattle.tp_schedule.specs.Legality.{IsLegal}
use Rattle.tp_schedule.specs.Plans.{plan_of, without, is_same_copy, end_of_plan}
use Rattle.tp_schedule.specs.Routes.{walk, IsStartFrom}
use Rattle.tp_schedule.specs.Spots.{Ticks, Slot, IsApart, slots_from, slots, slot_order, ticks_of, IsSoundSlot, AreApart}
use Rattle.tp_schedule.specs.Times.{at}
use Rattle.tp_machine.specs.declared.parts.ActId.{ActId}
use Rattle.tp_machine.specs.declared.machine.Machine.{Machine}
use Rattle.tp_schedule.specs.declared.parts.Ask.{Ask}
use Rattle.tp_schedule.specs.declared.parts.Origin.{Origin}
use Rattle.tp_schedule.specs.declared.parts.Origin.TheVariants.{Feeder as FromFeeder, Front as FromFront}
use Rattle.tp_schedule.specs.declared.parts.Plan.{Plan}
use Rattle.tp_schedule.specs.Spots.Spot.{kept, own}
use Rattle.tp_choices.proofs.AskedFront.{IsKept, kept-by, map-own_acts}
use Rattle.tp_choices.specs.Alternatives.{AnswerOpens}
use Rattle.tp_choices.proofs.Unmoved.{slots-unmoved}
use Rattle.tp_choices.proofs.AnswerTimes as given

module _ (machine : Machine) (plans new : List Plan) (ask : Ask) (rules : IsMachine machine) (legal : IsLegal machine plans) (is_kept : IsKept machine plans ask) (a : IsAlternative machine plans ask new) where
  abbrev route : List ActId
  route = given.route machine plans new ask rules legal is_kept a

  abbrev total : ℕ
  total = given.total machine plans new ask rules legal is_kept a

  abbrev t'' : Ticks
  t'' = given.t'' machine plans new ask rules legal is_kept a

  abbrev t : Ticks
  t = given.t machine plans new ask rules legal is_kept a

  abbrev rest : List Plan
  rest = given.rest machine plans new ask rules legal is_kept a

  abbrev as_new : Slot → Slot
  as_new = settled_slot ask.sheet total

  abbrev orders : ℕ → List Slot
  orders = slot_order machine plans

  abbrev IsOld : Slot → Type 0
  IsOld s = (as_new s ≡ s) × (is_new ask s ≡ false)

  old-slots : (resource : ℕ) → All IsOld (orders resource)
  old-slots resource = All-permutation IsOld (slots machine resource plans) (orders resource) (IsPermutation-by_begin (ticks_of plans) (slots machine resource plans))
      (All-slots IsOld machine resource plans (λ p in' i within rule. (refl, go p in' (suc i) (omega arith) (is_same_copy p.sheet ask.sheet) refl))) where
        go : (p : Plan) → Contains plans p → (i : ℕ) → i ≤ length p.acts → (b : Bool) → is_same_copy p.sheet ask.sheet ≡ b → (b && nat_lt (kept_of ask) i) ≡ false
        go p in' i le false e = refl
        go p in' i le true e =
            let same : p.sheet ≡ ask.sheet = same_copy-is p.sheet ask.sheet e in
            let is : plan_of ask.sheet plans ≡ Some p = subst (λ c. plan_of c plans ≡ Some p) same (plan_of-itself plans p legal.in_order in') in
            let front = is_kept.front p is in
            le-ltb (kept_of ask) i (omega (arith, front.1))

  -- the kept holds lie apart at these ticks
  orders-apart : (resource : ℕ) → AllPairs (IsApart (gap_at machine resource) t) (orders resource)
  orders-apart resource =
      let all : AllPairs (IsApart (gap_at machine resource) t'') (filter (λ s. not (is_new ask s)) (slot_order machine new resource)) = AllPairs-filter (IsApart (gap_at machine resource) t'') (λ s. not (is_new ask s)) (slot_order machine new resource) (legal_apart machine new rules a.legal resource) in
      AllPairs-each (IsApart (gap_at machine resource) t'') (IsApart (gap_at machine resource) t) (orders resource) (subst (AllPairs (IsApart (gap_at machine resource) t'')) (a.orders resource) all)
      (λ x y in-x in-y e.
      let old-x = All-contains IsOld (orders resource) x (old-slots resource) in-x in
      let old-y = All-contains IsOld (orders resource) y (old-slots resource) in-y in
      both x y (as_new x) (as_new y) old-x.0 old-y.0 refl refl e) where
        both : (x y x' y' : Slot) → as_new x ≡ x → as_new y ≡ y → as_new x ≡ x' → as_new y ≡ y' → IsApart (gap_at machine resource) t'' x y → IsApart (gap_at machine resource) t x y
        both x y x' y' p q _ _ e = subst (λ z. IsApart (gap_at machine resource) t'' z (as_new y)) (sym p) (subst (λ z. IsApart (gap_at machine resource) t'' x z) (sym q) e)

  abbrev list-slots : ℕ → List Slot
  list-slots resource = own_acts machine resource route ++ orders resource

  -- the new schedule's holds are the new and the kept ones
  new-slots : (resource : ℕ) → IsPermutation (slots machine resource new) (map as_new (list-slots resource))
  new-slots resource =
      let olds = slots_from machine resource ask.sheet 0 (kept_acts ask.sheet plans) in
      let news = slots_from machine resource ask.sheet (kept_of ask) route in
      let others = slots machine resource rest in
      let acts-are : kept_acts ask.sheet new ≡ kept_acts ask.sheet plans ++ route = ap acts_in a.planned ∙ a.answers.acts in
      let asked-is : slots_from machine resource ask.sheet 0 (kept_acts ask.sheet new) ≡ olds ++ news =
      ap (slots_from machine resource ask.sheet 0) acts-are ∙ slots_from-append machine resource ask.sheet 0 (kept_acts ask.sheet plans) route ∙ ap (λ k. olds ++ slots_from machine resource ask.sheet k route) (omega (arith, is_kept.count)) in
      let others-are : slots machine resource (without ask.sheet new) ≡ others = slots-unmoved machine resource (without ask.sheet new) rest a.others in
      let apart-from : IsPermutation (slots machine resource new) ((olds ++ news) ++ others) = rw (← asked-is, ← others-are) (slots-without machine resource ask.sheet new a.legal.in_order) in
      let turned : IsPermutation ((olds ++ news) ++ others) (news ++ (olds ++ others)) = rw (← append_assoc news olds others) (IsPermutation-append_left others (olds ++ news) (news ++ olds) (IsPermutation-append_comm olds news)) in
      let sorted : IsPermutation (olds ++ others) (orders resource) = IsPermutation-trans (olds ++ others) (slots machine resource plans) (orders resource)
      (IsPermutation-sym (slots machine resource plans) (olds ++ others) (slots-without machine resource ask.sheet plans legal.in_order)) (IsPermutation-by_begin (ticks_of plans) (slots machine resource plans)) in
      let joined : IsPermutation (news ++ (olds ++ others)) (news ++ orders resource) = IsPermutation-append_right news (olds ++ others) (orders resource) sorted in
      let own-is : map as_new (own_acts machine resource route) ≡ news = map-own_acts machine ask.sheet total resource (kept_of ask) route refl in
      let kept-is : map as_new (orders resource) ≡ orders resource = map-same as_new (orders resource) (λ k d within. (old-slots resource k d within).0) in
      let mapped-is : map as_new (list-slots resource) ≡ news ++ orders resource = map-append as_new (own_acts machine resource route) (orders resource) ∙ rw (own-is, kept-is) refl in
      subst (IsPermutation (slots machine resource new)) (sym mapped-is)
      (IsPermutation-trans (slots machine resource new) ((olds ++ news) ++ others) (news ++ orders resource) apart-from
      (IsPermutation-trans ((olds ++ news) ++ others) (news ++ (olds ++ others)) (news ++ orders resource) turned joined))

  list-sound : (resource : ℕ) → All (IsSoundSlot t) (list-slots resource)
  list-sound resource =
      let sound = sound_plans machine rules t'' resource new (LastsBy-plans machine new a.legal.in_order a.legal.timed) in
      let mapped = All-map_from (IsSoundSlot t'') as_new (list-slots resource) (All-permutation (IsSoundSlot t'') (slots machine resource new) (map as_new (list-slots resource)) (new-slots resource) sound) in
      λ k d within. let one = mapped k d within in record { long = one.long; late = one.late }

  is-new : (resource : ℕ) (x : Slot) → Contains (list-slots resource) x → Contains (slots machine resource new) (as_new x)
  is-new resource x in' = Contains-permutation (map as_new (list-slots resource)) (slots machine resource new) (as_new x) (IsPermutation-sym (slots machine resource new) (map as_new (list-slots resource)) (new-slots resource)) (Contains-map as_new (list-slots resource) x in')

  list-comparable : (resource : ℕ) → AllPairs (AreApart (gap_at machine resource) t) (list-slots resource)
  list-comparable resource = AllPairs-from_covered (gap_at machine resource) t (list-slots resource) (list-sound resource) (λ tick.
      let counted = length-held machine rules t'' resource tick new (IsTimedBy-plans machine new a.legal.in_order a.legal.timed) in
      let moved-count = length-filter-IsPermutation (covered t'' tick) (slots machine resource new) (map as_new (list-slots resource)) (new-slots resource) in
      let mapped-count : length (filter (covered t'' tick) (map as_new (list-slots resource))) ≡ length (filter (covered t tick) (list-slots resource)) = filter-map-length (covered t'' tick) as_new (list-slots resource) in
      omega (arith, a.legal.single resource tick))
      (λ x y in-x in-y. slots_spread machine t'' resource new (IsTimedBy-plans machine new a.legal.in_order a.legal.timed) (a.legal.spread resource) (as_new x) (as_new y) (is-new resource x in-x) (is-new resource y in-y))

  choices-of : Chosen machine orders t route
  choices-of = chosen machine rules orders t route (given.lasts-acts machine plans new ask rules legal is_kept a) orders-apart list-sound list-comparable

  same-length : length choices-of.choices ≡ length route
  same-length = sym (length-map choices-of.choices (λ (c : Choice). c.act)) ∙ ap length choices-of.acts-are

  abbrev list-with : Bool → ChoiceList
  list-with stop = record { goal = a.answers.is_route.goal; choices = choices-of.choices; stopped = stop }

  opens-with : (stop : Bool) → (IsTrue stop → CanStop machine ask (list-with stop) ask.origin) → start_floor machine ask.now ask.origin ≤ t (own (length choices-of.choices))
      → (IsTrue stop → t (own (length choices-of.choices)) ≡ start_floor machine ask.now ask.origin) → OpensTo machine plans ask (list-with stop) (end_of_plan a.plan)
  opens-with stop can first stops = record {
    is_list = record {
      goal = a.answers.is_route.is_goal;
      allowed = rw choices-of.acts-are a.answers.allowed;
      at_most = omega (arith, same-length, given.length-planned machine plans new ask rules legal is_kept a, (given.timed machine plans new ask rules legal is_kept a).at_most);
      places = choices-of.places;
      can_stop = can;
    };
    state = a.answers.is_route.reaches.start;
    first_state = rw choices-of.acts-are a.answers.is_route.reaches.leads;
    before = [];
    allowed = λ act in'. absurd (omega (arith, in'.1));
    reaches = record { start = a.answers.is_route.reaches.start; starts = a.answers.is_route.reaches.starts; leads = refl };
    ticks = t;
    times = record {
      keeps = given.keeps machine plans new ask rules legal is_kept a;
      lasts = choices-of.lasts;
      first = omega (arith, first);
      last = given.last-cap machine plans new ask rules legal is_kept a;
      line = given.keeps-line machine plans new ask rules legal is_kept a;
      apart = choices-of.apart;
      stopped = stops;
    };
    ends = given.asked-end machine plans new ask rules legal is_kept a;
  }

  -- the list, complete, that opens to the plan's end
  pub list_opens : IsAsked machine plans ask → (list : ChoiceList) × IsComplete machine ask list × OpensTo machine plans ask list (end_of_plan a.plan)
  list_opens asked = go ask.origin refl asked where
    starts : (start_floor machine ask.now ask.origin ≤ t (own (length route))) × (0 < kept_of ask → t (own (length route)) ≡ start_floor machine ask.now ask.origin)
    starts = given.starts-at machine plans new ask rules legal is_kept a asked

    first : start_floor machine ask.now ask.origin ≤ t (own (length choices-of.choices))
    first = subst (λ n. start_floor machine ask.now ask.origin ≤ t (own n)) (sym same-length) starts.0

    go : (o : Origin) → ask.origin ≡ o → IsAskedFrom machine plans ask o → (list : ChoiceList) × IsComplete machine ask list × OpensTo machine plans ask list (end_of_plan a.plan)
    go FromFeeder e none = (
      list-with false,
      subst (IsCompleteFrom machine ask (list-with false)) (sym e) (a.answers.is_route.reaches.start, rw choices-of.acts-are a.answers.is_route.reaches.leads, a.answers.is_route.reaches.starts),
      opens-with false (λ no. absurd (cc)) first (λ no. absurd (cc)),
    )
    go (FromFront state end count) e (p, is, front) =
        let kept-is : kept_of ask ≡ count = ap kept_from e in
        let begins : a.answers.is_route.reaches.start ≡ state = subst (λ o. IsStartFrom machine ask o a.answers.is_route.reaches.start) e a.answers.is_route.reaches.starts in (
          list-with true,
          subst (IsCompleteFrom machine ask (list-with true)) (sym e) refl,
          opens-with true
              (λ _. subst (λ o. CanStop machine ask (list-with true) o) (sym e) (
                (λ none. (let some = given.some-route machine plans new ask rules legal is_kept a in let no : length choices-of.choices ≡ 0 = ap length none in omega (arith, same-length))),
                rw choices-of.acts-are (subst (λ s. walk machine ask.want a.answers.route s ≡ Some a.answers.is_route.goal) begins a.answers.is_route.reaches.leads),
              ))
              first (λ _. ap (λ n. t (own n)) same-length ∙ starts.1 (omega (arith, front.some, kept-is))),
        )

pub answer_opens : AnswerOpens
answer_opens machine plans new ask legal asked a = list_opens machine plans new ask (is_machine machine) legal (kept-by machine plans ask asked) a asked
