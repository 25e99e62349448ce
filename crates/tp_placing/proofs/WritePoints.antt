-- The times of the asked plan's points.
use Rattle.std.proofs.Common.{◌≡◌, ℕ, suc, ◌+◌, ◌-◌, ◌<◌, ◌≤◌, true, false, List, ◌++◌, length, refl, ap, sym, ◌∙◌, arith, Some}
use Rattle.std.specs.Prelude.{nat_le}
use Rattle.std.proofs.lemmas.Bool.Decides.{nat_tests}
use Rattle.tp_base.specs.Net.{Net}
use Rattle.tp_schedule.specs.Answers.{kept_of}
use Rattle.tp_schedule.specs.Completions.{settled_ticks, total_of}
use Rattle.tp_schedule.specs.Spots.{Ticks}
use Rattle.tp_schedule.specs.Spots.Spot.{kept, own}
use Rattle.tp_schedule.specs.Times.{ticks_from}
use Rattle.tp_schedule.specs.declared.parts.Ask.{Ask}
use Rattle.tp_schedule.specs.declared.parts.Plan.{Plan}
use Rattle.tp_schedule.proofs.CopyFacts.{same_copy-refl}
use Rattle.tp_constraints.specs.Numbers.{table_of}
use Rattle.tp_constraints.specs.Suffixes.{Suffix}
use Rattle.tp_placing.specs.LoadedBoard.{board_table, own_points}
use Rattle.tp_placing.specs.Commits.{AreLeastTicks, back_from}
use Rattle.tp_placing.proofs.TableFacts.{table-left, table-own}
use Rattle.tp_placing.proofs.WriteTimes.{ticks-append, ticks-same}

-- ticks of a board's table are ticks of the loaded plans'
pub least-of_plans : (net : Net) (plans : List Plan) (x : Suffix) (t : Ticks) → AreLeastTicks net (board_table plans (Some x)) t → AreLeastTicks net (table_of plans) t
least-of_plans net plans x t a = record { solution = a.solution; least = a.least; there = λ i s e. a.there i s (table-left plans (own_points (Some x)) i s e) }

-- the points before the kept ones' end keep their ticks, and those behind it are own points
settled-kept : (ask : Ask) (total : ℕ) (t : Ticks) (i : ℕ) → i < kept_of ask → settled_ticks ask total t (kept ask.sheet i) ≡ t (kept ask.sheet i)
settled-kept ask total t i before =
    let no : nat_le (kept_of ask) i ≡ false = grind (arith, nat_tests) in
    rw (same_copy-refl, no) refl

settled-own : (ask : Ask) (total : ℕ) (t : Ticks) (i : ℕ) → kept_of ask ≤ i → settled_ticks ask total t (kept ask.sheet i) ≡ t (own (total - i))
settled-own ask total t i behind =
    let yes : nat_le (kept_of ask) i ≡ true = grind (arith, nat_tests) in
    rw (same_copy-refl, yes) refl

pub plan-points : (net : Net) (plans : List Plan) (ask : Ask) (x : Suffix) (t : Ticks) (a : AreLeastTicks net (board_table plans (Some x)) t) (first count : ℕ) → first ≡ length (table_of plans) + count → length x.choices ≡ count
    → ticks_from (λ i. t (kept ask.sheet i)) 0 (kept_of ask) ++ ticks_from (back_from a.solution first) 0 (suc count) ≡ ticks_from (λ i. settled_ticks ask (total_of ask x.choices) t (kept ask.sheet i)) 0 (suc (kept_of ask + count))
plan-points net plans ask x t a first count is many =
    let f : ℕ → ℕ = λ i. settled_ticks ask (total_of ask x.choices) t (kept ask.sheet i) in
    let before = ticks-same (λ i. t (kept ask.sheet i)) f 0 0 (kept_of ask) (λ k within. (let within' : 0 + k < kept_of ask = omega arith in sym (settled-kept ask (total_of ask x.choices) t (0 + k) within'))) in
    let behind = ticks-same (back_from a.solution first) f 0 (0 + kept_of ask) (suc count) (λ k within.
    let le : kept_of ask ≤ (0 + kept_of ask) + k = omega arith in
    let n : length (table_of plans) + (total_of ask x.choices - ((0 + kept_of ask) + k)) ≡ first - (0 + k) = omega arith in
    let some = a.there (length (table_of plans) + (total_of ask x.choices - ((0 + kept_of ask) + k))) (own (total_of ask x.choices - ((0 + kept_of ask) + k))) (table-own plans (own_points (Some x)) (total_of ask x.choices - ((0 + kept_of ask) + k)) (omega arith)) in
    ap a.solution (sym n) ∙ sym some ∙ sym (settled-own ask (total_of ask x.choices) t ((0 + kept_of ask) + k) le)) in
    let n : kept_of ask + suc count ≡ suc (kept_of ask + count) = omega arith in
    (λ i. before i ++ behind i) ∙ sym (ticks-append f 0 (kept_of ask) (suc count)) ∙ ap (λ k. ticks_from f 0 k) n
