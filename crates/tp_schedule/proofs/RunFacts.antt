-- The first of a plan's runs, and how many runs hold a resource with it.
use Rattle.std.proofs.Common.{◌≡◌, ℕ, ◌+◌, ◌≤◌, Bool, true, false, cond, List, [], ◌∷◌, length, filter, drop, get_or, refl, arith}
use Rattle.std.specs.List.{list_any}
use Rattle.tp_machine.specs.declared.parts.ActId.{ActId}
use Rattle.tp_machine.specs.declared.machine.Machine.{Machine}
use Rattle.tp_machine.specs.ModuleUse.{action_at}
use Rattle.tp_schedule.specs.declared.parts.SheetId.{SheetId}
use Rattle.tp_schedule.specs.Holders.{Run, runs_from, holds_at, holds_of_act, is_held_by}

-- whether the first action holds the resource
abbrev pub is_first_holding : Machine → ℕ → ℕ → List ActId → List ℕ → ActId → Bool
is_first_holding machine resource tick acts points d =
    list_any (λ h. is_held_by h resource (get_or points 0 0) (get_or points 1 0) tick) (holds_of_act (action_at machine (get_or acts 0 d).0))

pub count_with_first : (machine : Machine) (resource tick : ℕ) (sheet : SheetId) (number : ℕ) (acts : List ActId) (points : List ℕ) (d : ActId) (held : Bool) (after : ℕ)
    → 1 ≤ length acts → 2 ≤ length points → held ≡ is_first_holding machine resource tick acts points d
    → length (filter (holds_at machine resource tick) (runs_from sheet (number + 1) (drop 1 acts) (drop 1 points))) ≡ after
    → length (filter (holds_at machine resource tick) (runs_from sheet number acts points)) ≡ cond held (after + 1) after
count_with_first machine resource tick sheet number [] points d held after some two is rest = absurd (omega arith)
count_with_first machine resource tick sheet number (act ∷ acts) [] d held after some two is rest = absurd (omega arith)
count_with_first machine resource tick sheet number (act ∷ acts) (start ∷ []) d held after some two is rest = absurd (omega arith)
count_with_first machine resource tick sheet number (act ∷ acts) (start ∷ end ∷ points) d held after some two is rest =
    rw (← is, ← rest) (go held (record { sheet = sheet; number = number; act = act; start = start; end = end }) (filter (holds_at machine resource tick) (runs_from sheet (number + 1) acts (end ∷ points)))) where
      go : (b : Bool) (run : Run) (runs : List Run) → length (cond b (run ∷ runs) runs) ≡ cond b (length runs + 1) (length runs)
      go true run runs = omega arith
      go false run runs = refl
