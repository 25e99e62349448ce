-- Ticks of a complete list make an alternative: the orders are those of the kept holds with the choices placed, less the
-- new holds the old ones.
use Rattle.std.proofs.Common.{◌≡◌, ℕ, suc, ◌-◌, ◌≤◌, ◌<◌, Bool, true, false, cond, not, ◌&&◌, List, [], ◌∷◌, ◌++◌, map, length, filter, refl, ap, sym, arith, Contains, All, AllPairs, ◌∙◌, subst, Some, nat_lt, append_assoc}
use Rattle.std.specs.Prelude.{IsPermutation}
use Rattle.std.proofs.lemmas.Bool.{le-ltb, lt-ltb}
use Rattle.std.proofs.lemmas.List.{length-map, map-append}
use Rattle.std.proofs.lemmas.List.Elements.{All-append}
use Rattle.std.proofs.lemmas.List.Sorted.{IsPermutation-sym, IsPermutation-trans, IsPermutation-append_right, IsPermutation-append_left, IsPermutation-map, IsPermutation-append_comm, All-permutation}
use Rattle.tp_machine.proofs.MachineFacts.{is_machine}
use Rattle.tp_machine.specs.Modes.{gap_at}
use Rattle.tp_machine.specs.declared.machine.Machine.{Machine}
use Rattle.tp_choices.proofs.CompletePlans.{IsPrefix, prefix_of, point-timed_by}
use Rattle.tp_choices.proofs.Lists.{filter-all, map-same}
use Rattle.tp_choices.proofs.OwnSlots.{own_slots, settled_slot, IsPermutation-placed, map-own_slots, slots_from-append, slots-put_plan, slots-without}
use Rattle.tp_choices.proofs.TimedSlots.{All-own_slots, All-slots, slots-timed_by, filter-placed}
use Rattle.tp_machine.specs.Machines.{IsMachine}
use Rattle.tp_schedule.proofs.CopyFacts.{plan_of-itself, same_copy-is, same_copy-refl}
use Rattle.tp_schedule.proofs.LegalOrders.{apart_order}
use Rattle.tp_schedule.proofs.Pairs.{AllPairs-map}
use Rattle.tp_schedule.proofs.PlanOrder.{without-put_plan, All-without}
use Rattle.tp_schedule.proofs.SlotOrder.{IsPermutation-by_begin}
use Rattle.tp_schedule.specs.Answers.{unmoved, kept_of, kept_acts, IsAlternative, is_new}
use Rattle.tp_schedule.specs.Choices.{ChoiceList, acts_of, placed, HasTimes, IsChoiceList}
use Rattle.tp_schedule.specs.Completions.{settled}
use Rattle.tp_schedule.specs.Holders.{held}
use Rattle.tp_schedule.specs.Legality.{IsLegal, IsSpreadAt}
use Rattle.tp_schedule.specs.Plans.{plan_of, without, put_plan, is_same_copy, point, end_of_plan}
use Rattle.tp_schedule.specs.Spots.{Ticks, Slot, IsApart, slots_from, slots_of, slots, slot_order, ticks_of}
use Rattle.tp_schedule.specs.Times.{at, timed_by}
use Rattle.tp_schedule.specs.declared.parts.Ask.{Ask}
use Rattle.tp_schedule.specs.declared.parts.Plan.{Plan}
use Rattle.tp_schedule.specs.Spots.Spot.{kept, own}
use Rattle.tp_choices.specs.Alternatives.{CompleteAnswers}
use Rattle.tp_choices.proofs.CompleteTimes as given

module _ (machine : Machine) (plans : List Plan) (ask : Ask) (list : ChoiceList) (room : ℕ) (t : Ticks) (rules : IsMachine machine) (legal : IsLegal machine plans)
    (is_list : IsChoiceList machine plans ask list) (times : HasTimes machine plans ask list room t) (some : 0 < length list.choices) (prefix : IsPrefix machine plans ask list.goal list.choices t) where
  abbrev count : ℕ
  count = given.count machine plans ask list room t rules legal is_list times some prefix

  abbrev total : ℕ
  total = given.total machine plans ask list room t rules legal is_list times some prefix

  abbrev t' : Ticks
  t' = given.t' machine plans ask list room t rules legal is_list times some prefix

  abbrev asked : Plan
  asked = given.asked machine plans ask list room t rules legal is_list times some prefix

  abbrev rest : List Plan
  rest = given.rest machine plans ask list room t rules legal is_list times some prefix

  abbrev new : List Plan
  new = given.new machine plans ask list room t rules legal is_list times some prefix

  abbrev t'' : Ticks
  t'' = given.t'' machine plans ask list room t rules legal is_list times some prefix

  abbrev as_new : Slot → Slot
  as_new = settled_slot ask.sheet total

  abbrev orders : ℕ → List Slot
  orders = slot_order machine plans

  abbrev placed_on : ℕ → List Slot
  placed_on resource = placed machine resource (orders resource) list.choices

  -- a hold that the choices do not add
  abbrev IsOld : Slot → Type 0
  IsOld s = (as_new s ≡ s) × (is_new ask s ≡ false)

  old-slots : (resource : ℕ) → All IsOld (orders resource)
  old-slots resource = All-permutation IsOld (slots machine resource plans) (orders resource) (IsPermutation-by_begin (ticks_of plans) (slots machine resource plans))
      (All-slots IsOld machine resource plans (λ p in' i within rule. (refl, go p in' (suc i) (omega arith) (is_same_copy p.sheet ask.sheet) refl))) where
        go : (p : Plan) → Contains plans p → (i : ℕ) → i ≤ length p.acts → (b : Bool) → is_same_copy p.sheet ask.sheet ≡ b → (b && nat_lt (kept_of ask) i) ≡ false
        go p in' i le false e = refl
        go p in' i le true e =
            let same : p.sheet ≡ ask.sheet = same_copy-is p.sheet ask.sheet e in
            let is : plan_of ask.sheet plans ≡ Some p = subst (λ c. plan_of c plans ≡ Some p) same (plan_of-itself plans p legal.in_order in') in
            let fixed = prefix.fixed p is i le in
            le-ltb (kept_of ask) i fixed.2

  new-orders : (resource : ℕ) → filter (λ s. not (is_new ask s)) (map as_new (placed_on resource)) ≡ orders resource
  new-orders resource =
      filter-placed (λ s. not (is_new ask s)) as_new machine resource (orders resource) list.choices
      (λ n within rule. let behind : kept_of ask < total - n = omega arith in rw same_copy-refl (rw (lt-ltb (kept_of ask) (total - n) behind) refl))
      ∙ ap (filter (λ s. not (is_new ask s))) (map-same as_new (orders resource) (λ k d within. (old-slots resource k d within).0))
      ∙ filter-all (λ s. not (is_new ask s)) (orders resource) (λ k d within. ap not (old-slots resource k d within).1)

  -- the new schedule's holds are those of the list
  new-slots : (resource : ℕ) → IsPermutation (slots machine resource new) (map as_new (placed_on resource))
  new-slots resource =
      let acts = acts_of list.choices in
      let olds = slots_from machine resource ask.sheet 0 (kept_acts ask.sheet plans) in
      let news = slots_from machine resource ask.sheet (kept_of ask) acts in
      let others = slots machine resource rest in
      let asked-is : slots_of machine resource asked ≡ olds ++ news = slots_from-append machine resource ask.sheet 0 (kept_acts ask.sheet plans) acts ∙ ap (λ k. olds ++ slots_from machine resource ask.sheet k acts) (omega (arith, prefix.count)) in
      let own-is : map as_new (own_slots machine resource list.choices) ≡ news = map-own_slots machine ask.sheet total resource (kept_of ask) list.choices refl in
      let kept-is : map as_new (orders resource) ≡ orders resource = map-same as_new (orders resource) (λ k d within. (old-slots resource k d within).0) in
      let put : IsPermutation (slots machine resource new) ((olds ++ news) ++ others) = rw (slots-timed_by machine resource t' (put_plan asked rest), ← asked-is) (slots-put_plan machine resource asked rest) in
      let turned : IsPermutation ((olds ++ news) ++ others) (news ++ (olds ++ others)) = rw (← append_assoc news olds others) (IsPermutation-append_left others (olds ++ news) (news ++ olds) (IsPermutation-append_comm olds news)) in
      let sorted : IsPermutation (olds ++ others) (orders resource) = IsPermutation-trans (olds ++ others) (slots machine resource plans) (orders resource)
      (IsPermutation-sym (slots machine resource plans) (olds ++ others) (slots-without machine resource ask.sheet plans legal.in_order)) (IsPermutation-by_begin (ticks_of plans) (slots machine resource plans)) in
      let joined : IsPermutation (news ++ (olds ++ others)) (news ++ orders resource) = IsPermutation-append_right news (olds ++ others) (orders resource) sorted in
      let mapped : IsPermutation (map as_new (own_slots machine resource list.choices ++ orders resource)) (map as_new (placed_on resource)) =
      IsPermutation-map as_new (own_slots machine resource list.choices ++ orders resource) (placed_on resource) (IsPermutation-placed machine resource orders list.choices is_list.places) in
      let mapped-is : map as_new (own_slots machine resource list.choices ++ orders resource) ≡ news ++ orders resource = map-append as_new (own_slots machine resource list.choices) (orders resource) ∙ rw (own-is, kept-is) refl in
      IsPermutation-trans (slots machine resource new) ((olds ++ news) ++ others) (map as_new (placed_on resource)) put
      (IsPermutation-trans ((olds ++ news) ++ others) (news ++ (olds ++ others)) (map as_new (placed_on resource)) turned
      (IsPermutation-trans (news ++ (olds ++ others)) (news ++ orders resource) (map as_new (placed_on resource)) joined (subst (λ xs. IsPermutation xs (map as_new (placed_on resource))) mapped-is mapped)))

  -- the new schedule has the list's ticks at both ends of a hold
  abbrev Matches : Slot → Type 0
  Matches s = (t'' (settled ask.sheet total s.from) ≡ t s.from) × (t'' (settled ask.sheet total s.to) ≡ t s.to)

  placed-matches : (resource : ℕ) → All Matches (placed_on resource)
  placed-matches resource = All-permutation Matches (own_slots machine resource list.choices ++ orders resource) (placed_on resource) (IsPermutation-placed machine resource orders list.choices is_list.places)
      (All-append Matches (own_slots machine resource list.choices) (orders resource)
      (All-own_slots Matches machine resource list.choices (λ n within rule. (given.t''-own machine plans ask list room t rules legal is_list times some prefix (suc n) (omega arith), given.t''-own machine plans ask list room t rules legal is_list times some prefix n (omega arith))))
      (All-permutation Matches (slots machine resource plans) (orders resource) (IsPermutation-by_begin (ticks_of plans) (slots machine resource plans))
      (All-slots Matches machine resource plans (λ p in' i within rule. (given.t''-kept machine plans ask list room t rules legal is_list times some prefix p in' i (omega arith), given.t''-kept machine plans ask list room t rules legal is_list times some prefix p in' (suc i) (omega arith))))))

  new-apart : (resource : ℕ) → AllPairs (IsApart (gap_at machine resource) t'') (map as_new (placed_on resource))
  new-apart resource = AllPairs-map (IsApart (gap_at machine resource) t) (IsApart (gap_at machine resource) t'') Matches as_new (placed_on resource) (placed-matches resource) (times.apart resource)
      (λ x y p q e. rw (p.0, p.1, q.0, q.1) e)

  -- the orders of the new schedule are those of the list
  pub new-order : (resource : ℕ) → (slot_order machine new resource ≡ map as_new (placed_on resource)) × ((tick : ℕ) → length (held machine new resource tick) ≤ 1) × ((tick : ℕ) → IsSpreadAt machine new resource tick)
  new-order resource = apart_order machine new rules (given.new-in_order machine plans ask list room t rules legal is_list times some prefix) (given.new-timed machine plans ask list room t rules legal is_list times some prefix) resource (map as_new (placed_on resource)) (new-slots resource) (new-apart resource)

  new-legal : IsLegal machine new
  new-legal = record { in_order = given.new-in_order machine plans ask list room t rules legal is_list times some prefix; timed = given.new-timed machine plans ask list room t rules legal is_list times some prefix; single = λ resource. (new-order resource).1; spread = λ resource. (new-order resource).2; rise = given.new-rise machine plans ask list room t rules legal is_list times some prefix }

  unmoved-others : (ps : List Plan) → map unmoved (map (timed_by t') ps) ≡ map unmoved ps
  unmoved-others [] = refl
  unmoved-others (p ∷ ps) = ap (λ qs. unmoved p ∷ qs) (unmoved-others ps)

  without-map : (ps : List Plan) → without ask.sheet (map (timed_by t') ps) ≡ map (timed_by t') (without ask.sheet ps)
  without-map [] = refl
  without-map (p ∷ ps) = go (is_same_copy p.sheet ask.sheet) (without-map ps) where
    go : (b : Bool) → without ask.sheet (map (timed_by t') ps) ≡ map (timed_by t') (without ask.sheet ps) → cond (not b) (timed_by t' p ∷ without ask.sheet (map (timed_by t') ps)) (without ask.sheet (map (timed_by t') ps)) ≡ map (timed_by t') (cond (not b) (p ∷ without ask.sheet ps) (without ask.sheet ps))
    go true e = e
    go false e = ap (λ qs. timed_by t' p ∷ qs) e

  -- the new schedule is an alternative that ends with the list
  pub complete_alternative : (a : IsAlternative machine plans ask new) × (end_of_plan a.plan ≡ t (own 0)) × (a.answers.route ≡ acts_of list.choices)
  complete_alternative = (
    record {
      legal_before = legal;
      legal = new-legal;
      others = ap (map unmoved) (without-map (put_plan asked rest) ∙ ap (map (timed_by t')) (without-put_plan asked rest (All-without ask.sheet plans) (same_copy-refl ask.sheet))) ∙ unmoved-others rest;
      plan = timed_by t' asked;
      planned = given.new-planned machine plans ask list room t rules legal is_list times some prefix;
      answers = record {
        sheet = refl;
        name = refl;
        want = refl;
        goal = refl;
        whole = refl;
        route = acts_of list.choices;
        acts = refl;
        is_route = record { some = λ none. (let lengths = length-map list.choices (λ c. c.act) in let no : length (acts_of list.choices) ≡ 0 = ap length none in omega arith); goal = list.goal; is_goal = is_list.goal; reaches = prefix.reaches };
        allowed = is_list.allowed;
        released = refl;
      };
      fixed = given.new-fixed machine plans ask list room t rules legal is_list times some prefix;
      orders = λ resource. ap (filter (λ s. not (is_new ask s))) (new-order resource).0 ∙ new-orders resource;
      floors = given.new-floors machine plans ask list room t rules legal is_list times some prefix;
      horizon = given.new-horizon machine plans ask list room t rules legal is_list times some prefix;
    },
    point-timed_by t' asked (length asked.acts) (omega arith) ∙ given.asked-end machine plans ask list room t rules legal is_list times some prefix,
    refl,
  )

pub complete_answers : CompleteAnswers
complete_answers machine plans ask list room t legal asked is_list complete some times =
    let c = complete_alternative machine plans ask list room t (is_machine machine) legal is_list times some (prefix_of machine plans ask list room t asked is_list complete times) in (c.0, c.1)
