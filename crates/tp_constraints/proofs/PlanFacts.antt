-- A schedule with a plan more, and the one without it.
use Rattle.std.proofs.Common.{◌≡◌, ℕ, suc, Bool, true, false, cond, not, ◌==◌, List, [], ◌∷◌, ◌++◌, filter, map, refl, sym, Contains, AllPairs, ◌∙◌, ap, subst, get_or}
use Rattle.std.specs.Prelude.{IsPermutation}
use Rattle.std.proofs.lemmas.List.{append-nil}
use Rattle.std.proofs.lemmas.List.Concat.{flat_map-append}
use Rattle.std.proofs.lemmas.List.Elements.{All-head, Contains-append_left, Contains-get_or, filter-append}
use Rattle.std.proofs.lemmas.List.Kept.{AllPairs-filter}
use Rattle.std.proofs.lemmas.List.Sorted.{All-permutation, IsPermutation-append_comm, IsPermutation-append_right, IsPermutation-trans}
use Rattle.tp_machine.proofs.MachineFacts.{is_machine}
use Rattle.tp_machine.specs.Modes.{gap_at}
use Rattle.tp_machine.specs.ModuleUse.{action_at}
use Rattle.tp_machine.specs.declared.parts.ActId.{ActId}
use Rattle.tp_machine.specs.declared.parts.HoldRule.{HoldRule}
use Rattle.tp_machine.specs.declared.machine.Machine.{Machine}
use Rattle.tp_schedule.specs.Holders.{holds_of_act}
use Rattle.tp_schedule.specs.Plans.{is_before, is_same_copy}
use Rattle.tp_schedule.specs.Spots.{IsApart, IsSoundSlot, Slot, Spot, Ticks, slot_order, slots, slots_by, slots_from, slots_of, ticks_of}
use Rattle.tp_schedule.specs.Spots.Spot.{kept}
use Rattle.tp_schedule.specs.Times.{EndsBeforeAt, KeepsOrders, KeepsTimes}
use Rattle.tp_schedule.specs.declared.parts.Plan.{Plan}
use Rattle.tp_schedule.specs.declared.parts.SheetId.{SheetId}
use Rattle.tp_schedule.proofs.CopyFacts.{before-not_same, same_copy-refl}
use Rattle.tp_schedule.proofs.LegalOrders.{LastsBy-plans, apart_order, legal_apart, sound_plans}
use Rattle.tp_schedule.proofs.Pairs.{AllPairs-cons, AllPairs-head, AllPairs-nil, AllPairs-tail}
use Rattle.tp_schedule.proofs.SlotOrder.{AllPairs-from_row, IsPermutation-by_begin, IsRow-from_AllPairs}
use Rattle.tp_choices.proofs.Lists.{AllPairs-across, filter-all}
use Rattle.tp_choices.proofs.SameTicks.{order-staying}
use Rattle.tp_choices.proofs.PlansLeft.{stays, staying}
use Rattle.tp_constraints.specs.Laws.{IsLoadable, LoadedTimes}
use Rattle.tp_constraints.proofs.Lists.{All-split}
use Rattle.tp_constraints.specs.AddedPlan.{PlanOrder, with_plan}
use Rattle.tp_constraints.specs.Puts.{AreHoldsOf, Put, held_slots, resource_of, rule_slot, with_puts}
use Rattle.tp_constraints.proofs.PutFacts.{put_on, puts-there, rows-put}

pub AllPairs-left : {X : Type 0} (R : X → X → Type 0) (xs ys : List X) → AllPairs R (xs ++ ys) → AllPairs R xs
AllPairs-left R [] ys pairs = AllPairs-nil R
AllPairs-left R (x ∷ xs) ys pairs = AllPairs-cons R x xs (All-split (R x) xs ys (AllPairs-head R x (xs ++ ys) pairs)).0 (AllPairs-left R xs ys (AllPairs-tail R x (xs ++ ys) pairs))

module _ (machine : Machine) (now : ℕ) (plans : List Plan) (p : Plan) (load : IsLoadable machine now (λ _. false) (with_plan plans p)) where
  pub earlier : (q : Plan) → Contains plans q → is_before q.sheet p.sheet ≡ true
  earlier q in' = All-head (λ r. is_before q.sheet r.sheet ≡ true) p [] (AllPairs-across (λ a b. is_before a.sheet b.sheet ≡ true) plans (p ∷ []) q load.legal.in_order in')

  abbrev is_other : SheetId → Bool
  is_other c = not (is_same_copy c p.sheet)

  others : staying is_other (with_plan plans p) ≡ plans
  others =
      let same : is_same_copy p.sheet p.sheet ≡ true = same_copy-refl p.sheet in
      let last : filter (λ q. is_other q.sheet) (p ∷ []) ≡ [] = rw same refl in
      let all = filter-all (λ q. is_other q.sheet) plans (λ k d within. ap not (before-not_same (get_or plans k d).sheet p.sheet (earlier (get_or plans k d) (Contains-get_or plans k d within)))) in
      filter-append (λ q. is_other q.sheet) plans (p ∷ []) ∙ (λ i. all i ++ last i) ∙ append-nil plans

  order-less : (r : ℕ) → slot_order machine plans r ≡ filter (stays true is_other) (slot_order machine (with_plan plans p) r)
  order-less r = ap (λ ps. slot_order machine ps r) (sym others) ∙ order-staying true is_other machine (with_plan plans p) r load.legal

  -- without the plan the orders are kept
  pub orders-less : (t : Ticks) → KeepsOrders machine (with_plan plans p) t → KeepsOrders machine plans t
  orders-less t keeps r =
      subst (AllPairs (IsApart (gap_at machine r) t)) (sym (order-less r))
      (AllPairs-filter (IsApart (gap_at machine r) t) (stays true is_other) (slot_order machine (with_plan plans p) r) (keeps r))

  there : (q : Plan) → Contains plans q → Contains (with_plan plans p) q
  there q in' = Contains-append_left plans (p ∷ []) q in'

  times-less : (t : Ticks) → KeepsTimes machine now (λ _. false) (with_plan plans p) t → KeepsTimes machine now (λ _. false) plans t
  times-less t k = record {
    lasts = λ q in'. k.lasts q (there q in');
    fixed = λ q in'. k.fixed q (there q in');
    floors = λ q in'. k.floors q (there q in');
    horizon = λ q in'. k.horizon q (there q in');
    rise = AllPairs-left (EndsBeforeAt t) plans (p ∷ []) k.rise;
  }

  pub loaded-less : (t : Ticks) → LoadedTimes machine now (λ _. false) (with_plan plans p) t → LoadedTimes machine now (λ _. false) plans t
  loaded-less t h = (times-less t h.0, orders-less t h.1)

-- ---- the holds that are put in are those of the plan
abbrev on : ℕ → List Slot → List Slot
on r ss = filter (λ s. s.rule.resource.0 == r) ss

put_on-map : (r : ℕ) (puts : List Put) → put_on r puts ≡ on r (map (λ x. x.slot) puts)
put_on-map r [] = refl
put_on-map r (x ∷ puts) = ap (λ ss. cond (resource_of x == r) (x.slot ∷ ss) ss) (put_on-map r puts)

on-rules : (r : ℕ) (from to : Spot) (rules : List HoldRule) → on r (map (rule_slot from to) rules) ≡ slots_by r from to rules
on-rules r from to [] = refl
on-rules r from to (h ∷ rules) = ap (λ ss. cond (h.resource.0 == r) (rule_slot from to h ∷ ss) ss) (on-rules r from to rules)

on-held : (machine : Machine) (r : ℕ) (copy : SheetId) (n : ℕ) (acts : List ActId) → on r (held_slots machine copy n acts) ≡ slots_from machine r copy n acts
on-held machine r copy n [] = refl
on-held machine r copy n (act ∷ acts) =
    let here = on-rules r (kept copy n) (kept copy (suc n)) (holds_of_act (action_at machine act.0)) in
    let rest = on-held machine r copy (suc n) acts in
    filter-append (λ s. s.rule.resource.0 == r) (map (rule_slot (kept copy n) (kept copy (suc n))) (holds_of_act (action_at machine act.0))) (held_slots machine copy (suc n) acts)
    ∙ (λ i. here i ++ rest i)

put-slots : (machine : Machine) (p : Plan) (puts : List Put) → AreHoldsOf machine p puts → (r : ℕ) → put_on r puts ≡ slots_of machine r p
put-slots machine p puts are r = put_on-map r puts ∙ ap (on r) are ∙ on-held machine r p.sheet 0 p.acts

slots-more : (machine : Machine) (r : ℕ) (plans : List Plan) (p : Plan) → slots machine r (with_plan plans p) ≡ slots machine r plans ++ slots_of machine r p
slots-more machine r plans p = flat_map-append (slots_of machine r) plans (p ∷ []) ∙ ap (λ ss. slots machine r plans ++ ss) (append-nil (slots_of machine r p))

pub plan_order : PlanOrder
plan_order machine now plans p puts load are within keeps r =
    sym (apart_order machine (with_plan plans p) (is_machine machine) load.legal.in_order load.legal.timed r (with_puts puts (slot_order machine plans) r) moved apart).0 where
      t : Ticks
      t = ticks_of (with_plan plans p)

      moved : IsPermutation (slots machine r (with_plan plans p)) (with_puts puts (slot_order machine plans) r)
      moved =
          let own = put-slots machine p puts are r in
          let kept_order = IsPermutation-by_begin (ticks_of plans) (slots machine r plans) in
          let there' = subst (λ ss. IsPermutation (ss ++ slot_order machine plans r) (with_puts puts (slot_order machine plans) r)) own (puts-there r puts (slot_order machine plans)) in
          subst (λ ss. IsPermutation ss (with_puts puts (slot_order machine plans) r)) (sym (slots-more machine r plans p))
          (IsPermutation-trans (slots machine r plans ++ slots_of machine r p) (slots_of machine r p ++ slots machine r plans) (with_puts puts (slot_order machine plans) r)
          (IsPermutation-append_comm (slots machine r plans) (slots_of machine r p))
          (IsPermutation-trans (slots_of machine r p ++ slots machine r plans) (slots_of machine r p ++ slot_order machine plans r) (with_puts puts (slot_order machine plans) r)
          (IsPermutation-append_right (slots_of machine r p) (slots machine r plans) (slot_order machine plans r) kept_order)
          there'))

      apart : AllPairs (IsApart (gap_at machine r) t) (with_puts puts (slot_order machine plans) r)
      apart =
          let orders = orders-less machine now plans p load t (legal_apart machine (with_plan plans p) (is_machine machine) load.legal) in
          let rows = rows-put machine t puts (slot_order machine plans) within (λ q. IsRow-from_AllPairs (gap_at machine q) t (slot_order machine plans q) (orders q)) keeps in
          let sound = sound_plans machine (is_machine machine) t r (with_plan plans p) (LastsBy-plans machine (with_plan plans p) load.legal.in_order load.legal.timed) in
          AllPairs-from_row (gap_at machine r) t (with_puts puts (slot_order machine plans) r)
          (All-permutation (IsSoundSlot t) (slots machine r (with_plan plans p)) (with_puts puts (slot_order machine plans) r) moved sound) (rows r)
