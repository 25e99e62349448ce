-- Hops of a schedule with a plan more.
use Rattle.std.proofs.Common.{◌≡◌, ◌⊎◌, inl, inr, ℕ, ◌<◌, arith, Bool, true, false, cond, List, [], ◌∷◌, ◌++◌, length, map, refl, sym, Contains, All, subst}
use Rattle.std.specs.Prelude.{pos}
use Rattle.std.proofs.lemmas.List.Concat.{flat_map-append}
use Rattle.std.proofs.lemmas.List.Elements.{All-append, All-cons, All-contains, All-nil, All-weaker, Contains-append_left, Contains-append_right, Contains-push}
use Rattle.tp_machine.specs.declared.machine.Machine.{Machine}
use Rattle.tp_machine.specs.declared.parts.Action.{Action}
use Rattle.tp_schedule.specs.Plans.{is_before}
use Rattle.tp_schedule.specs.Spots.{Slot, Spot, slot_order}
use Rattle.tp_schedule.specs.Spots.Spot.{own}
use Rattle.tp_schedule.specs.declared.parts.Ask.{Ask}
use Rattle.tp_schedule.specs.declared.parts.Plan.{Plan}
use Rattle.tp_constraints.specs.Gaps.{Gap, end_spot, gap, is_in_line}
use Rattle.tp_constraints.specs.Hops.{Hop, IsHop, IsRun, acts_hops, duration_hops, hop, no_choices, slot_hop}
use Rattle.tp_constraints.specs.Hops.HopKind.{line}
use Rattle.tp_constraints.specs.Hops.IsHop.{by_end, by_least, by_line, by_most, by_order, by_stop}
use Rattle.tp_constraints.specs.Hops.IsRun.{kept_run, own_run}
use Rattle.tp_constraints.specs.Laws.{IsLoadable}
use Rattle.tp_constraints.specs.Suffixes.{end_gap, end_gaps}
use Rattle.tp_constraints.proofs.Lists.{All-split}
use Rattle.tp_constraints.proofs.Runs.{durations-hops}
use Rattle.tp_constraints.specs.AddedPlan.{IsLineBefore, OtherAsk, PlanHops, with_plan}
use Rattle.tp_constraints.specs.AddedPlan.IsLineBefore.{behind, first_of_line}
use Rattle.tp_constraints.specs.Puts.{AreWithin, Put, put_hops, with_puts}
use Rattle.tp_constraints.proofs.PlanFacts.{earlier}
use Rattle.tp_constraints.proofs.PutFacts.{StandsBefore, before-puts, puts-hops}

module _ (machine : Machine) (now : ℕ) (plans : List Plan) (p : Plan) (puts : List Put) (ask : Ask) (load : IsLoadable machine now (λ _. false) (with_plan plans p))
    (within : AreWithin puts (slot_order machine plans)) (same : (resource : ℕ) → with_puts puts (slot_order machine plans) resource ≡ slot_order machine (with_plan plans p) resource) where
  abbrev all : List Plan
  all = with_plan plans p

  abbrev IsHere : Hop → Type 0
  IsHere h = IsHop machine all ask no_choices h

  run-more : (a : Action) (from to : Spot) → IsRun machine plans [] a from to → IsRun machine all [] a from to
  run-more a from to (kept_run q i act in' at is) = kept_run q i act (Contains-append_left plans (p ∷ []) q in') at is
  run-more a from to (own_run n c at is) = own_run n c at is

  -- what stands before another in the orders of the schedule
  order-hop : (r : ℕ) (a b : Slot) → StandsBefore (slot_order machine all r) a b → IsHere (slot_hop machine r a b)
  order-hop r a b h = by_order r h.i h.j a b h.less h.first h.second

  put-hop : (r : ℕ) (a b : Slot) → StandsBefore (with_puts puts (slot_order machine plans) r) a b → IsHere (slot_hop machine r a b)
  put-hop r a b h = order-hop r a b (subst (λ xs. StandsBefore xs a b) (same r) h)

  hop-more : (h : Hop) → IsHop machine plans ask no_choices h → IsHere h
  hop-more h (by_least a from to run) = by_least a from to (run-more a from to run)
  hop-more h (by_most a from to run) = by_most a from to (run-more a from to run)
  hop-more h (by_line q r one other before line_is) = by_line q r (Contains-append_left plans (p ∷ []) q one) (Contains-append_left plans (p ∷ []) r other) before line_is
  hop-more h (by_end g c) = by_end g (subst (λ gs. Contains gs g) (sym (flat_map-append (end_gap ask) plans (p ∷ []))) (Contains-append_left (end_gaps ask plans) (end_gaps ask (p ∷ [])) g c))
  hop-more h (by_order r i j a b less e f) = put-hop r a b (before-puts puts (slot_order machine plans) r a b (record { i = i; j = j; less = less; first = e; second = f }))
  hop-more h (by_stop stopped) = by_stop stopped

  own-durations : All IsHere (acts_hops machine p.sheet 0 p.acts)
  own-durations =
      let hops = subst (All IsHere) (flat_map-append (λ (q : Plan). acts_hops machine q.sheet 0 q.acts) plans (p ∷ [])) (durations-hops machine all ask no_choices) in
      let last = (All-split IsHere (duration_hops machine plans) (duration_hops machine (p ∷ [])) hops).1 in
      (All-split IsHere (acts_hops machine p.sheet 0 p.acts) [] last).0

  line-hops : (lines : List Gap) → IsLineBefore plans p lines → All IsHere (map (hop line) lines)
  line-hops lines (first_of_line none) = All-nil IsHere
  line-hops lines (behind before later q is same_line none) =
      let there : Contains plans q = subst (λ ps. Contains ps q) (sym is) (Contains-append_right before (q ∷ later) q (0, length-some, refl)) in
      All-cons IsHere (hop line (gap (end_spot q) (end_spot p) (pos 1))) [] (by_line q p (Contains-append_left plans (p ∷ []) q there) (Contains-push plans p) (earlier machine now plans p load q there) same_line) (All-nil IsHere) where
        length-some : 0 < length (q ∷ later)
        length-some = omega arith

  pub more : (lines : List Gap) (hs : List Hop) → IsLineBefore plans p lines → All (IsHop machine plans ask no_choices) hs
      → All IsHere (hs ++ (acts_hops machine p.sheet 0 p.acts ++ (map (hop line) lines ++ put_hops machine puts (slot_order machine plans))))
  more lines hs line_is old =
      All-append IsHere hs (acts_hops machine p.sheet 0 p.acts ++ (map (hop line) lines ++ put_hops machine puts (slot_order machine plans)))
      (All-weaker (IsHop machine plans ask no_choices) IsHere hop-more hs old)
      (All-append IsHere (acts_hops machine p.sheet 0 p.acts) (map (hop line) lines ++ put_hops machine puts (slot_order machine plans)) own-durations
      (All-append IsHere (map (hop line) lines) (put_hops machine puts (slot_order machine plans)) (line-hops lines line_is) (puts-hops machine IsHere puts (slot_order machine plans) within put-hop)))

pub plan_hops : PlanHops
plan_hops machine now plans p puts lines ask hs load within same line_is old = more machine now plans p puts ask load within same lines hs line_is old

-- ---- another ask
abbrev IsOwnGap : Gap → Type 0
IsOwnGap g = ((n : ℕ) × (g.from ≡ own n)) ⊎ ((n : ℕ) × (g.to ≡ own n))

end-gap-own : (ask : Ask) (q : Plan) → All IsOwnGap (end_gap ask q)
end-gap-own ask q = go (is_in_line ask.goal q) (is_before q.sheet ask.sheet) (is_before ask.sheet q.sheet) where
  go : (a b d : Bool) → All IsOwnGap (cond a (cond b (gap (end_spot q) (own 0) (pos 1) ∷ []) (cond d (gap (own 0) (end_spot q) (pos 1) ∷ []) [])) [])
  go false b d = All-nil IsOwnGap
  go true true d = All-cons IsOwnGap (gap (end_spot q) (own 0) (pos 1)) [] (inr (0, refl)) (All-nil IsOwnGap)
  go true false true = All-cons IsOwnGap (gap (own 0) (end_spot q) (pos 1)) [] (inl (0, refl)) (All-nil IsOwnGap)
  go true false false = All-nil IsOwnGap

end-gaps-own : (ask : Ask) (plans : List Plan) → All IsOwnGap (end_gaps ask plans)
end-gaps-own ask [] = All-nil IsOwnGap
end-gaps-own ask (q ∷ plans) = All-append IsOwnGap (end_gap ask q) (end_gaps ask plans) (end-gap-own ask q) (end-gaps-own ask plans)

pub other_ask : OtherAsk
other_ask machine plans ask other h from to (by_least a f t run) = by_least a f t run
other_ask machine plans ask other h from to (by_most a f t run) = by_most a f t run
other_ask machine plans ask other h from to (by_line q r one two before line_is) = by_line q r one two before line_is
other_ask machine plans ask other h from to (by_end g c) =
    elim (All-contains IsOwnGap (end_gaps ask plans) g (end-gaps-own ask plans) c) [
      | inl o ↦ absurd (from o.0 o.1)
      | inr o ↦ absurd (to o.0 o.1)
    ]
other_ask machine plans ask other h from to (by_order r i j a b less e f) = by_order r i j a b less e f
other_ask machine plans ask other h from to (by_stop stopped) = absurd cc
