-- What a board tells of its times and orders.
use Rattle.std.proofs.Common.{◌≡◌, ℕ, suc, ◌+◌, ◌<◌, ◌≤◌, List, length, ap, sym, ◌∙◌, subst, arith, Option, Some, None, IsSome, false}
use Rattle.std.specs.List.{slice_get}
use Rattle.std.proofs.lemmas.List.{length-map}
use Rattle.std.proofs.lemmas.Option.{slice_get_within}
use Rattle.tp_base.proofs.SliceFacts.{All-at}
use Rattle.tp_base.specs.Net.{Net, IsEarliest}
use Rattle.tp_machine.specs.declared.machine.Machine.{Machine}
use Rattle.tp_schedule.specs.Spots.{Spot, Ticks}
use Rattle.tp_schedule.specs.Spots.Spot.{own}
use Rattle.tp_schedule.specs.declared.parts.Ask.{Ask}
use Rattle.tp_schedule.specs.declared.parts.Plan.{Plan}
use Rattle.tp_constraints.specs.Gaps.{low_at}
use Rattle.tp_constraints.specs.Laws.{no_own}
use Rattle.tp_constraints.specs.Numbers.{IsNetFor, table_of, ticks_by}
use Rattle.tp_constraints.specs.Suffixes.{Suffix, suffix_low}
use Rattle.tp_constraints.proofs.PointNumbers.{number-at}
use Rattle.tp_constraints.proofs.Solutions.{least, solutions}
use Rattle.tp_placing.specs.declared.parts.Held.{Held}
use Rattle.tp_placing.specs.declared.parts.Step.{Step}
use Rattle.tp_placing.specs.LoadedBoard.{IsAtWith, board_table, table_with}
use Rattle.tp_placing.proofs.TableFacts.{table-own}
use Rattle.tp_placing.specs.Ticks.{IsLeastTick, TimesOf}

least-for : (known : Spot → Type 0) (low cap : Spot → ℕ) (times : Ticks → Type 0) (table : List Spot) (net : Net) → IsNetFor known low cap times table net → (i : ℕ) (p : Spot) → slice_get table i ≡ Some p
    → (tick : ℕ) → IsEarliest net i tick → IsLeastTick times p tick
least-for known low cap times table net is i p at tick e =
    let sol = e.0 in
    let there : ticks_by table sol p ≡ tick = ap sol (number-at table is.is_table.differ i p at) ∙ sym e.2 in
    record {
      ticks = ticks_by table sol;
      are_times = (solutions known low cap times table net is sol).0 e.1.solution;
      there = there;
      least = λ t ok. subst (λ k. k ≤ t p) there (least known low cap times table net is sol e.1 t ok p (All-at known table i p is.is_table.only at));
    }

-- the earliest time of a point of the network is its least tick
pub least-tick : (m : Machine) (plans : List Plan) (ask : Ask) (x : Option Suffix) (steps : List Step) (n : Net) (timelines : List (List ℕ)) (holds : List Held) → IsAtWith m plans ask x steps n timelines holds
    → (i : ℕ) (p : Spot) → slice_get (board_table plans x) i ≡ Some p → (tick : ℕ) → IsEarliest n i tick → IsLeastTick (TimesOf m plans ask x) p tick
least-tick m plans ask None steps n timelines holds at i p there tick e = least-for _ _ _ _ _ n at.net i p there tick e
least-tick m plans ask (Some x) steps n timelines holds at i p there tick e = least-for _ _ _ _ _ n at.net i p there tick e

pub known-point : (m : Machine) (plans : List Plan) (ask : Ask) (x : Option Suffix) (steps : List Step) (n : Net) (timelines : List (List ℕ)) (holds : List Held) → IsAtWith m plans ask x steps n timelines holds
    → (i : ℕ) (p : Spot) → slice_get (board_table plans x) i ≡ Some p → i < length n.lows
known-point m plans ask None steps n timelines holds at i p there =
    let l = ap length at.net.lows ∙ length-map (board_table plans None) (low_at (ask.now + m.lead) (λ _. false) plans no_own) in
    let w = slice_get_within (board_table plans None) i p there in
    omega arith
known-point m plans ask (Some x) steps n timelines holds at i p there =
    let l = ap length at.net.lows ∙ length-map (table_with plans (suc (length x.choices))) (suffix_low m plans ask x) in
    let w = slice_get_within (table_with plans (suc (length x.choices))) i p there in
    omega arith

-- the asked copy's end, once a goal is open
pub end-point : (plans : List Plan) (o : Option Suffix) → IsSome o → (last : ℕ) → last ≡ length (table_of plans) → slice_get (board_table plans o) last ≡ Some (own 0)
end-point plans None h last e = absurd cc
end-point plans (Some x) h last e =
    let at : last ≡ length (table_of plans) + 0 = omega arith in
    ap (λ k. slice_get (table_with plans (suc (length x.choices))) k) at ∙ table-own plans (suc (length x.choices)) 0 (omega arith)
