-- The last action of a plan, and the first.
use Rattle.std.proofs.Common.{◌≡◌, ℕ, zero, suc, ◌+◌, ◌-◌, Bool, true, false, ◌&&◌, ◌||◌, ◌==◌, List, [], ◌∷◌, length, refl, sym, ap, ◌∙◌, arith, nat_le, nat_lt, slice_index, slice_get, Some}
use Rattle.std.specs.List.{list_any}
use Rattle.std.proofs.lemmas.Bool.Decides.{nat_tests}
use Rattle.std.proofs.lemmas.Option.{get_or_from_slice_get}
use Rattle.tp_machine.specs.declared.parts.ActId.{ActId}
use Rattle.tp_schedule.specs.Holders.{runs_from}
use Rattle.tp_schedule.specs.Plans.{IsFormed, point}
use Rattle.tp_schedule.specs.declared.parts.Plan.{Plan}
use Rattle.tp_schedule.specs.declared.parts.SheetId.{SheetId}
use Rattle.tp_event_rules.specs.Moments.{is_entering, is_running, is_tray_plan}

-- only the last of the actions has the last number
last_runs : (now : ℕ) (sheet : SheetId) (n total : ℕ) (acts : List ActId) (points : List ℕ) (i : ℕ) → length acts ≡ suc i → length points ≡ length acts + 1 → n + i ≡ total
    → list_any (λ run. is_running now run && (run.number == total)) (runs_from sheet n acts points) ≡ (nat_le (slice_index points i) now && nat_lt now (slice_index points (i + 1)))
last_runs now sheet n total [] points i some len e = absurd (omega arith)
last_runs now sheet n total (a ∷ acts) [] i some len e = absurd (omega arith)
last_runs now sheet n total (a ∷ acts) (start ∷ []) i some len e = absurd (omega arith)
last_runs now sheet n total (a ∷ []) (start ∷ end ∷ points) zero some len e =
    let here : (n == total) ≡ true = grind (arith, nat_tests) in
    go (nat_le start now && nat_lt now end) (n == total) here where
      go : (b c : Bool) → c ≡ true → ((b && c) || false) ≡ b
      go true c h = rw h refl
      go false c h = refl
last_runs now sheet n total (a ∷ []) (start ∷ end ∷ points) (suc i) some len e = absurd (omega arith)
last_runs now sheet n total (a ∷ b ∷ acts) (start ∷ end ∷ points) zero some len e = absurd (omega arith)
last_runs now sheet n total (a ∷ b ∷ acts) (start ∷ end ∷ points) (suc i) some len e =
    let here : (n == total) ≡ false = grind (arith, nat_tests) in
    let next : suc (i + 1) ≡ suc i + 1 = omega arith in
    go (nat_le start now && nat_lt now end) (n == total) here
    ∙ last_runs now sheet (n + 1) total (b ∷ acts) (end ∷ points) i (omega arith) (omega arith) (omega arith)
    ∙ ap (λ j. nat_le (slice_index (end ∷ points) i) now && nat_lt now (slice_index (start ∷ end ∷ points) j)) next where
      go : (b c : Bool) → c ≡ false → {rest : Bool} → ((b && c) || rest) ≡ rest
      go true c h = rw h refl
      go false c h = refl

entering-is : (now : ℕ) (p : Plan) (i : ℕ) → length p.acts ≡ suc i → IsFormed p
    → is_entering now p ≡ (is_tray_plan p && (nat_le (point p i) now && nat_lt now (point p (i + 1))))
entering-is now p i len formed =
    ap (λ b. is_tray_plan p && b) (last_runs now p.sheet 1 (length p.acts) p.acts p.points i len formed.one_more (omega arith))

-- a plan to its tray is entering while its last action runs
pub entering-by : (now : ℕ) (p : Plan) (count start end : ℕ) (runs : Bool) → IsFormed p → count ≡ length p.acts → slice_get p.points (count - 1) ≡ Some start → slice_get p.points count ≡ Some end
    → true ≡ is_tray_plan p → runs ≡ (nat_le start now && nat_lt now end) → runs ≡ is_entering now p
entering-by now p count start end runs formed same starts ends whole is =
    let some = formed.some in
    let len : length p.acts ≡ suc (count - 1) = omega arith in
    let next : count ≡ count - 1 + 1 = omega arith in
    let s : start ≡ point p (count - 1) = sym (get_or_from_slice_get p.points (count - 1) start 0 starts) in
    let e : end ≡ point p (count - 1 + 1) = sym (get_or_from_slice_get p.points count end 0 ends) ∙ ap (point p) next in
    is ∙ (λ k. nat_le (s k) now && nat_lt now (e k))
    ∙ ap (λ b. b && (nat_le (point p (count - 1)) now && nat_lt now (point p (count - 1 + 1)))) whole
    ∙ sym (entering-is now p (count - 1) len formed)
