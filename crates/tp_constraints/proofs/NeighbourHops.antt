-- The neighbours of a schedule are hops, and stay hops when a goal is opened and when the list grows or stops.
use Rattle.std.proofs.Common.{◌≡◌, ℕ, zero, suc, ◌+◌, ◌<◌, Bool, true, false, cond, List, [], ◌∷◌, ◌++◌, length, map, refl, subst, arith, All, AllPairs, Contains, get_or, Some, IsTrue, find}
use Rattle.std.specs.Prelude.{slice_get, pos}
use Rattle.std.proofs.lemmas.List.Elements.{All-nil, All-cons, All-head, All-tail, All-append, All-map, All-contains_itself, Contains-get_or}
use Rattle.tp_machine.specs.ModuleUse.{action_at}
use Rattle.tp_machine.specs.declared.machine.Machine.{Machine}
use Rattle.tp_schedule.specs.Answers.{kept_of}
use Rattle.tp_schedule.specs.Choices.{Choice}
use Rattle.tp_schedule.specs.Holders.{holds_of_act}
use Rattle.tp_schedule.specs.Plans.{is_before}
use Rattle.tp_schedule.specs.declared.parts.Ask.{Ask}
use Rattle.tp_schedule.specs.declared.parts.Plan.{Plan}
use Rattle.tp_schedule.specs.Spots.{Slot, slot_order}
use Rattle.tp_schedule.specs.Spots.Spot.{kept, own}
use Rattle.tp_schedule.proofs.Pairs.{AllPairs-head, AllPairs-tail}
use Rattle.tp_constraints.specs.Gaps.{Gap, gap, end_spot, line_gap, line_gaps, is_same_line}
use Rattle.tp_constraints.specs.Suffixes.{Suffix, end_gaps, order_in, with_action, with_stop, with_goal}
use Rattle.tp_constraints.specs.Hops.{Hop, hop, IsHop, range_hops, duration_hops, slot_hop, chain_hops, all_chain_hops, no_choices, LoadHops, GoalHops, ActionHops, StopHops}
use Rattle.tp_constraints.specs.Hops.HopKind.{line, stop}
use Rattle.tp_constraints.specs.Hops.IsHop.{by_least, by_most, by_line, by_end, by_order, by_stop}
use Rattle.tp_constraints.specs.Hops.IsRun.{own_run}
use Rattle.tp_constraints.proofs.Runs.{KeepsActs, newest-at, acts-grow, lift-run, range-hops, durations-hops}
use Rattle.tp_constraints.proofs.Steps.{put_places-none}

-- each neighbour in an order stands before the next
chain-hops : (machine : Machine) (plans : List Plan) (ask : Ask) (x : Suffix) (resource k : ℕ) (xs : List Slot) → ((i : ℕ) (a : Slot) → slice_get xs i ≡ Some a → slice_get (order_in machine plans x resource) (k + i) ≡ Some a)
    → All (IsHop machine plans ask x) (chain_hops machine resource xs)
chain-hops machine plans ask x resource k [] at = All-nil (IsHop machine plans ask x)
chain-hops machine plans ask x resource k (a ∷ []) at = All-nil (IsHop machine plans ask x)
chain-hops machine plans ask x resource k (a ∷ b ∷ xs) at =
    All-cons (IsHop machine plans ask x) (slot_hop machine resource a b) (chain_hops machine resource (b ∷ xs)) (by_order resource (k + 0) (k + 1) a b (omega arith) (at 0 a refl) (at 1 b refl))
    (chain-hops machine plans ask x resource (k + 1) (b ∷ xs) (λ i c e. let s : k + 1 + i ≡ k + suc i = omega arith in rw s (at (suc i) c e)))

chains-hops : (machine : Machine) (plans : List Plan) (ask : Ask) (x : Suffix) (n : ℕ) → All (IsHop machine plans ask x) (all_chain_hops machine (order_in machine plans x) n)
chains-hops machine plans ask x zero = All-nil (IsHop machine plans ask x)
chains-hops machine plans ask x (suc n) =
    All-append (IsHop machine plans ask x) (chain_hops machine n (order_in machine plans x n)) (all_chain_hops machine (order_in machine plans x) n)
    (chain-hops machine plans ask x n 0 (order_in machine plans x n) (λ i a e. let z : 0 + i ≡ i = omega arith in rw z e)) (chains-hops machine plans ask x n)

-- lines
module _ (machine : Machine) (plans : List Plan) (ask : Ask) (x : Suffix) where
  abbrev IsLineHop : Gap → Type 0
  IsLineHop g = IsHop machine plans ask x (hop line g)

  line-hop : (p : Plan) (rest : List Plan) → Contains plans p → All (Contains plans) rest → All (λ q. is_before p.sheet q.sheet ≡ true) rest → All IsLineHop (line_gap p (find (is_same_line p) rest))
  line-hop p [] in' all before = All-nil IsLineHop
  line-hop p (q ∷ rest) in' all before = go (is_same_line p q) refl (line-hop p rest in' (All-tail (Contains plans) q rest all) (All-tail (λ r. is_before p.sheet r.sheet ≡ true) q rest before)) where
    go : (b : Bool) → is_same_line p q ≡ b → All IsLineHop (line_gap p (find (is_same_line p) rest)) → All IsLineHop (line_gap p (cond b (Some q) (find (is_same_line p) rest)))
    go true e later = All-cons IsLineHop (gap (end_spot p) (end_spot q) (pos 1)) [] (by_line p q in' (All-head (Contains plans) q rest all) (All-head (λ r. is_before p.sheet r.sheet ≡ true) q rest before) e) (All-nil IsLineHop)
    go false e later = later

  lines-hops : (rest : List Plan) → All (Contains plans) rest → AllPairs (λ p q. IsTrue (is_before p.sheet q.sheet)) rest → All IsLineHop (line_gaps rest)
  lines-hops [] all pairs = All-nil IsLineHop
  lines-hops (p ∷ rest) all pairs =
      All-append IsLineHop (line_gap p (find (is_same_line p) rest)) (line_gaps rest)
      (line-hop p rest (All-head (Contains plans) p rest all) (All-tail (Contains plans) p rest all) (AllPairs-head (λ p q. IsTrue (is_before p.sheet q.sheet)) p rest pairs))
      (lines-hops rest (All-tail (Contains plans) p rest all) (AllPairs-tail (λ p q. IsTrue (is_before p.sheet q.sheet)) p rest pairs))

  ends-hops : All IsLineHop (end_gaps ask plans)
  ends-hops k d within = by_end (get_or (end_gaps ask plans) k d) (Contains-get_or (end_gaps ask plans) k d within)

pub load_hops : LoadHops
load_hops machine plans ask legal =
    All-append Here (duration_hops machine plans) (map (hop line) (line_gaps plans) ++ all_chain_hops machine (slot_order machine plans) (length machine.resources))
    (durations-hops machine plans ask no_choices)
    (All-append Here (map (hop line) (line_gaps plans)) (all_chain_hops machine (slot_order machine plans) (length machine.resources))
    (All-map Here (hop line) (line_gaps plans) (lines-hops machine plans ask no_choices plans (All-contains_itself plans) legal.in_order))
    (chains-hops machine plans ask no_choices (length machine.resources))) where
      Here : Hop → Type 0
      Here h = IsHop machine plans ask no_choices h

-- a hop of one suffix is one of another
pub lift-hop : (machine : Machine) (plans : List Plan) (ask : Ask) (x y : Suffix) → KeepsActs x.choices y.choices → (IsTrue x.stopped → IsTrue y.stopped × (length y.choices ≡ length x.choices))
    → ((r i j : ℕ) (a b : Slot) → i < j → slice_get (order_in machine plans x r) i ≡ Some a → slice_get (order_in machine plans x r) j ≡ Some b → IsHop machine plans ask y (slot_hop machine r a b))
    → (h : Hop) → IsHop machine plans ask x h → IsHop machine plans ask y h
lift-hop machine plans ask x y acts stops orders h (by_least a from to run) = by_least a from to (lift-run machine plans x.choices y.choices acts a from to run)
lift-hop machine plans ask x y acts stops orders h (by_most a from to run) = by_most a from to (lift-run machine plans x.choices y.choices acts a from to run)
lift-hop machine plans ask x y acts stops orders h (by_line p q a b c d) = by_line p q a b c d
lift-hop machine plans ask x y acts stops orders h (by_end g c) = by_end g c
lift-hop machine plans ask x y acts stops orders h (by_order r i j a b less e f) = orders r i j a b less e f
lift-hop machine plans ask x y acts stops orders h (by_stop is) = let s = stops is in subst (λ n. IsHop machine plans ask y (hop stop (gap (own n) (kept ask.sheet (kept_of ask)) (pos 0)))) s.1 (by_stop s.0)

pub lift-hops : (machine : Machine) (plans : List Plan) (ask : Ask) (x y : Suffix) (hs : List Hop) → ((h : Hop) → IsHop machine plans ask x h → IsHop machine plans ask y h) → All (IsHop machine plans ask x) hs → All (IsHop machine plans ask y) hs
lift-hops machine plans ask x y hs lift all k d within = lift (get_or hs k d) (all k d within)

pub goal_hops : GoalHops
goal_hops machine plans ask room hs all =
    All-append (IsHop machine plans ask new) hs (map (hop line) (end_gaps ask plans))
    (lift-hops machine plans ask no_choices new hs (lift-hop machine plans ask no_choices new (λ n c e. (c, e, refl)) (λ is. absurd cc) (λ r i j a b less e f. by_order r i j a b less e f)) all)
    (All-map (IsHop machine plans ask new) (hop line) (end_gaps ask plans) (ends-hops machine plans ask new)) where
      new : Suffix
      new = with_goal room

pub action_hops : ActionHops
action_hops machine plans ask x act room hs going all =
    All-append (IsHop machine plans ask new) hs (range_hops (action_at machine act.0) (own (suc (length x.choices))) (own (length x.choices)))
    (lift-hops machine plans ask x new hs (lift-hop machine plans ask x new (acts-grow first x.choices) (λ is. absurd cc)
    (λ r i j a b less e f. by_order r i j a b less (rw (put_places-none r (own (suc (length x.choices))) (own (length x.choices)) (holds_of_act (action_at machine act.0)) (order_in machine plans x r)) e) (rw (put_places-none r (own (suc (length x.choices))) (own (length x.choices)) (holds_of_act (action_at machine act.0)) (order_in machine plans x r)) f))) all)
    (range-hops machine plans ask new (action_at machine act.0) (own (suc (length x.choices))) (own (length x.choices)) (λ a e. own_run (length x.choices) first (newest-at first x.choices) e)) where
      new : Suffix
      new = with_action act room x

      first : Choice
      first = record { act = act; places = [] }

pub stop_hops : StopHops
stop_hops machine plans ask x hs going all =
    All-append (IsHop machine plans ask (with_stop x)) hs (hop stop (gap (own (length x.choices)) (kept ask.sheet (kept_of ask)) (pos 0)) ∷ [])
    (lift-hops machine plans ask x (with_stop x) hs (lift-hop machine plans ask x (with_stop x) (λ n c e. (c, e, refl)) (λ is. absurd cc) (λ r i j a b less e f. by_order r i j a b less e f)) all)
    (All-cons (IsHop machine plans ask (with_stop x)) (hop stop (gap (own (length x.choices)) (kept ask.sheet (kept_of ask)) (pos 0))) [] (by_stop refl) (All-nil (IsHop machine plans ask (with_stop x))))
