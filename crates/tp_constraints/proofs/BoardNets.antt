-- The network of a schedule, and what each step of a board adds to it.
use Rattle.tp_constraints.proofs.Lists.{all-by}
use Rattle.std.proofs.Common.{◌≡◌, suc, ◌+◌, ◌≤◌, false, List, [], ◌∷◌, ◌++◌, length, map, refl, sym, arith, ap, subst}
use Rattle.tp_base.specs.Net.{with_point, with_edges}
use Rattle.tp_schedule.specs.Spots.{Spot}
use Rattle.tp_schedule.specs.Spots.Spot.{kept, own}
use Rattle.tp_schedule.specs.Choices.{Choice, start_floor}
use Rattle.tp_constraints.specs.Gaps.{KeepsGap, KeepsGaps, IsPoint, low_at}
use Rattle.tp_constraints.specs.Suffixes.{SuffixTimes, IsSuffixPoint, suffix_low, suffix_cap, with_action, with_place, with_stop, with_goal, place_first}
use Rattle.tp_constraints.specs.Numbers.{gap_by, IsNetFor}
use Rattle.tp_constraints.specs.Laws.{no_own, plans_gaps, LoadedTimes}
use Rattle.tp_constraints.specs.Nets.{LoadNet, GoalNet, ActionNet, PlaceNet, StopNet}
use Rattle.tp_choices.proofs.CompletePlans.{ChoicesLast-rise}
use Rattle.tp_constraints.proofs.ScheduleGaps.{gaps_law}
use Rattle.tp_constraints.proofs.Rooms.{room-first, room-later}
use Rattle.tp_constraints.proofs.Steps.{goal_law, action_law, stop_law}
use Rattle.tp_constraints.proofs.PlaceGaps.{place_law}
use Rattle.tp_constraints.proofs.MoreEdges.{edges-step, point-step}

pub load_net : LoadNet
load_net machine now exempt plans table net load is_table lows caps edges needed only = record {
  is_table = is_table;
  lows = lows;
  caps = caps;
  edges = edges;
  says = λ t. let g = gaps_law machine now exempt plans t load in (
    λ h. let k = g.0 h in (k.0, all-by (KeepsGap t) (map (gap_by table) net.edges) (plans_gaps machine plans) only k.1),
    λ k. g.1 (k.0, all-by (KeepsGap t) (plans_gaps machine plans) (map (gap_by table) net.edges) needed k.1),
  );
}

pub goal_net : GoalNet
goal_net machine plans ask room table net es is in' gaps =
    let floor = start_floor machine ask.now ask.origin in
    let mid = point-step plans 0 (low_at (ask.now + machine.lead) (λ _. false) plans no_own) (suffix_low machine plans ask (with_goal room)) (suffix_cap machine plans ask) (LoadedTimes machine ask.now (λ _. false) plans)
    (λ t. LoadedTimes machine ask.now (λ _. false) plans t × (start_floor machine ask.now ask.origin + room ≤ t (own 0)) × (t (own 0) ≤ ask.now + machine.window)) table net
    (start_floor machine ask.now ask.origin + room) (ask.now + machine.window) is agree (ap (λ m. start_floor machine ask.now ask.origin + m) (room-first room [] 0 refl)) refl (λ t. (λ h. h, λ h. h)) in
    edges-step (IsPoint plans 1) (suffix_low machine plans ask (with_goal room)) (suffix_cap machine plans ask)
    (λ t. LoadedTimes machine ask.now (λ _. false) plans t × (start_floor machine ask.now ask.origin + room ≤ t (own 0)) × (t (own 0) ≤ ask.now + machine.window))
    (SuffixTimes machine plans ask (with_goal room)) (table ++ own 0 ∷ []) (with_point net (start_floor machine ask.now ask.origin + room) (ask.now + machine.window)) es mid in'
    (λ t. let g = goal_law machine plans ask room t in (
      λ h. let k = g.0 h in ((k.0, k.1, k.2), subst (KeepsGaps t) (sym gaps) k.3),
      λ k. g.1 (k.0.0, k.0.1, k.0.2, subst (KeepsGaps t) gaps k.1),
    )) where
      agree : (s : Spot) → IsPoint plans 0 s → suffix_low machine plans ask (with_goal room) s ≡ low_at (ask.now + machine.lead) (λ _. false) plans no_own s
      agree (kept c i) h = refl
      agree (own n) h = absurd (omega (arith, h))

pub action_net : ActionNet
action_net machine plans ask x act room table net es lengths going known is in' gaps =
    let mid = point-step plans (suc (length x.choices)) (suffix_low machine plans ask x) (suffix_low machine plans ask (with_action act room x)) (suffix_cap machine plans ask) (SuffixTimes machine plans ask x)
    (λ t. SuffixTimes machine plans ask x t × (start_floor machine ask.now ask.origin + room ≤ t (own (suc (length x.choices)))) × (t (own (suc (length x.choices))) ≤ ask.now + machine.window)) table net
    (start_floor machine ask.now ask.origin + room) (ask.now + machine.window) is agree (ap (λ m. start_floor machine ask.now ask.origin + m) (room-first room x.rooms (suc (length x.choices)) (sym lengths))) refl (λ t. (λ h. h, λ h. h)) in
    edges-step (IsSuffixPoint plans (with_action act room x)) (suffix_low machine plans ask (with_action act room x)) (suffix_cap machine plans ask)
    (λ t. SuffixTimes machine plans ask x t × (start_floor machine ask.now ask.origin + room ≤ t (own (suc (length x.choices)))) × (t (own (suc (length x.choices))) ≤ ask.now + machine.window))
    (SuffixTimes machine plans ask (with_action act room x)) (table ++ own (suc (length x.choices)) ∷ []) (with_point net (start_floor machine ask.now ask.origin + room) (ask.now + machine.window)) es mid in'
    (λ t. let g = action_law machine plans ask x act room t lengths going known in (
      λ h. let k = g.0 h in
          let r = ChoicesLast-rise machine t (with_action act room x).choices h.lasts (suc (length x.choices)) (omega arith) in
          ((k.0, k.1, omega (arith, r.1, h.last)), subst (KeepsGaps t) (sym gaps) k.2),
      λ k. g.1 (k.0.0, k.0.1, subst (KeepsGaps t) gaps k.1),
    )) where
      agree : (s : Spot) → IsSuffixPoint plans x s → suffix_low machine plans ask (with_action act room x) s ≡ suffix_low machine plans ask x s
      agree (kept c i) h = refl
      agree (own n) h = ap (λ m. start_floor machine ask.now ask.origin + m) (room-later room x.rooms n (omega (arith, h, lengths)))

pub stop_net : StopNet
stop_net machine plans ask x table net es asked can going is in' gaps =
    edges-step (IsSuffixPoint plans x) (suffix_low machine plans ask x) (suffix_cap machine plans ask) (SuffixTimes machine plans ask x) (SuffixTimes machine plans ask (with_stop x)) table net es is in'
    (λ t. let g = stop_law machine plans ask x t asked can going in (
      λ h. let k = g.0 h in (k.0, subst (KeepsGaps t) (sym gaps) k.1),
      λ k. g.1 (k.0, subst (KeepsGaps t) gaps k.1),
    ))

pub place_net : PlaceNet
place_net machine plans ask x c choices rule place table net es is next le is_net in' gaps =
    subst (λ n. IsNetFor (IsPoint plans (suc n)) (suffix_low machine plans ask x) (suffix_cap machine plans ask) (SuffixTimes machine plans ask (with_place place x)) table (with_edges net es)) (sym (lengths x.choices))
    (edges-step (IsSuffixPoint plans x) (suffix_low machine plans ask x) (suffix_cap machine plans ask) (SuffixTimes machine plans ask x) (SuffixTimes machine plans ask (with_place place x)) table net es is_net in'
    (λ t. let g = place_law machine plans ask x c choices rule place t is next le in (
      λ h. let k = g.0 h in (k.0, subst (KeepsGaps t) (sym gaps) k.1),
      λ k. g.1 (k.0, subst (KeepsGaps t) gaps k.1),
    ))) where
      lengths : (cs : List Choice) → length (place_first place cs) ≡ length cs
      lengths [] = refl
      lengths (c' ∷ cs) = refl
