-- The network of an opened goal: the gaps to the plans next to it in its line are enough.
use Rattle.std.proofs.Common.{◌≡◌, ◌+◌, ◌≤◌, false, List, [], ◌∷◌, ◌++◌, map, refl, sym, arith, ap, subst, All, Contains, ℕ, get_or}
use Rattle.tp_base.specs.declared.edges.Edge.{Edge}
use Rattle.tp_base.specs.Net.{Net, with_edges, with_point}
use Rattle.tp_machine.specs.declared.machine.Machine.{Machine}
use Rattle.tp_schedule.specs.Choices.{start_floor}
use Rattle.tp_schedule.specs.Spots.{Spot}
use Rattle.tp_schedule.specs.Spots.Spot.{kept, own}
use Rattle.tp_schedule.specs.declared.parts.Ask.{Ask}
use Rattle.tp_schedule.specs.declared.parts.Plan.{Plan}
use Rattle.tp_constraints.specs.Gaps.{IsPoint, KeepsGap, KeepsGaps, low_at}
use Rattle.tp_constraints.specs.Hops.{GoalHops, Hop, IsHop, hop, no_choices}
use Rattle.tp_constraints.specs.Hops.HopKind.{line}
use Rattle.tp_constraints.specs.Laws.{LoadedTimes, no_own}
use Rattle.tp_constraints.specs.Nets.{IsBoardNet, IsLoadedNet}
use Rattle.tp_constraints.specs.Numbers.{IsEdgeOf, gap_by}
use Rattle.tp_constraints.specs.Suffixes.{SuffixTimes, end_gaps, suffix_cap, suffix_low, with_goal}
use Rattle.tp_constraints.proofs.MoreEdges.{edges-step, point-step}
use Rattle.tp_constraints.proofs.Lists.{All-split, all-by}
use Rattle.tp_constraints.proofs.Rooms.{room-first}
use Rattle.tp_constraints.proofs.Steps.{goal_law}
use Rattle.std.proofs.lemmas.List.Elements.{All-append, All-map}
use Rattle.tp_schedule.proofs.Membership.{Contains-map}
use Rattle.tp_placing.proofs.NearFacts.{near-all, near-in, near_gaps}

-- an opened goal adds the end's point and these gaps
pub near-net : (machine : Machine) (plans : List Plan) (ask : Ask) (room : ℕ) (table : List Spot) (net : Net) (es : List Edge) → IsLoadedNet machine ask.now (λ _. false) plans table net
    → All (IsEdgeOf (table ++ own 0 ∷ [])) es → map (gap_by (table ++ own 0 ∷ [])) es ≡ near_gaps ask plans
    → IsBoardNet machine plans ask (with_goal room) (table ++ own 0 ∷ []) (with_edges (with_point net (start_floor machine ask.now ask.origin + room) (ask.now + machine.window)) es)
near-net machine plans ask room table net es is in' gaps =
    let floor = start_floor machine ask.now ask.origin in
    let mid = point-step plans 0 (low_at (ask.now + machine.lead) (λ _. false) plans no_own) (suffix_low machine plans ask (with_goal room)) (suffix_cap machine plans ask) (LoadedTimes machine ask.now (λ _. false) plans)
    (λ t. LoadedTimes machine ask.now (λ _. false) plans t × (floor + room ≤ t (own 0)) × (t (own 0) ≤ ask.now + machine.window)) table net
    (floor + room) (ask.now + machine.window) is agree (ap (λ m. floor + m) (room-first room [] 0 refl)) refl (λ t. (λ h. h, λ h. h)) in
    edges-step (IsPoint plans 1) (suffix_low machine plans ask (with_goal room)) (suffix_cap machine plans ask)
    (λ t. LoadedTimes machine ask.now (λ _. false) plans t × (floor + room ≤ t (own 0)) × (t (own 0) ≤ ask.now + machine.window))
    (SuffixTimes machine plans ask (with_goal room)) (table ++ own 0 ∷ []) (with_point net (floor + room) (ask.now + machine.window)) es mid in'
    (λ t. let g = goal_law machine plans ask room t in (
      λ h. let k = g.0 h in ((k.0, k.1, k.2), subst (KeepsGaps t) (sym gaps) (all-by (KeepsGap t) (near_gaps ask plans) (end_gaps ask plans) (near-in ask plans) k.3)),
      λ k. g.1 (k.0.0, k.0.1, k.0.2, near-all ask t plans k.0.0.0.rise (subst (KeepsGaps t) gaps k.1)),
    )) where
      agree : (s : Spot) → IsPoint plans 0 s → suffix_low machine plans ask (with_goal room) s ≡ low_at (ask.now + machine.lead) (λ _. false) plans no_own s
      agree (kept c i) h = refl
      agree (own n) h = absurd (omega (arith, h))

-- and they are hops
pub near-hops : GoalHops → (machine : Machine) (plans : List Plan) (ask : Ask) (room : ℕ) (hs : List Hop) → All (IsHop machine plans ask no_choices) hs
    → All (IsHop machine plans ask (with_goal room)) (hs ++ map (hop line) (near_gaps ask plans))
near-hops law machine plans ask room hs all =
    let both = All-split (IsHop machine plans ask (with_goal room)) hs (map (hop line) (end_gaps ask plans)) (law machine plans ask room hs all) in
    All-append (IsHop machine plans ask (with_goal room)) hs (map (hop line) (near_gaps ask plans)) both.0
    (all-by (IsHop machine plans ask (with_goal room)) (map (hop line) (near_gaps ask plans)) (map (hop line) (end_gaps ask plans))
    (All-map (Contains (map (hop line) (end_gaps ask plans))) (hop line) (near_gaps ask plans) (λ k d within. Contains-map (hop line) (end_gaps ask plans) (get_or (near_gaps ask plans) k d) (near-in ask plans k d within))) both.1)
