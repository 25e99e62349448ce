-- Labels taken and labels that wait.
use Rattle.std.proofs.Common.{◌≡◌, ◌⊎◌, inl, inr, ℕ, ◌+◌, ◌≤◌, ◌<◌, List, [], ◌∷◌, sym, arith, Contains, subst, Option, Some}
use Rattle.tp_machine.specs.declared.machine.Machine.{Machine}
use Rattle.tp_machine.specs.declared.parts.State.{State}
use Rattle.tp_schedule.proofs.Membership.{Contains-cons_cases, Contains-later}
use Rattle.tp_schedule.specs.Routes.{IsGoalState}
use Rattle.tp_schedule.specs.declared.parts.Ask.{Ask}
use Rattle.tp_schedule.specs.declared.parts.Plan.{Plan}
use Rattle.tp_windows.proofs.Covering.{none-in}
use Rattle.tp_windows.specs.Labels.{AreBeyond, FrontBegins, FrontBounds, FrontDrops, FrontTakes, IsCovered, IsFront, Label}
use Rattle.tp_windows.specs.Windows.{Windows}
use Rattle.tp_windows.specs.Ways.{IsClosed, IsStep}

none-covered : (s : State) (tick : ℕ) → IsCovered [] s tick → ⊥
none-covered s tick covered = absurd (let in' = covered.in_labels.1 in omega (arith, in'))

also-covered : (l : Label) (labels : List Label) (s : State) (tick : ℕ) → IsCovered labels s tick → IsCovered (l ∷ labels) s tick
also-covered l labels s tick covered = record { label = covered.label; in_labels = Contains-later l labels covered.label covered.in_labels; state = covered.state; from = covered.from; till = covered.till }

pub front_begins : FrontBegins
front_begins machine plans ask w rest limit waiting starts = record {
  starts = λ s tick begin. inr (starts s tick begin);
  steps = λ s next start end covered step. absurd (none-covered s start covered);
  no_goal = λ l in' goal. (let in'' = in'.1 in absurd (omega (arith, in'')));
}

module _ (taken waiting taken' waiting' : List Label) (more : (s : State) (tick : ℕ) → IsCovered taken s tick → IsCovered taken' s tick)
    (kept : (s : State) (tick : ℕ) → IsCovered waiting s tick → IsCovered taken' s tick ⊎ IsCovered waiting' s tick) where
  still : (s : State) (tick : ℕ) → IsCovered taken s tick ⊎ IsCovered waiting s tick → IsCovered taken' s tick ⊎ IsCovered waiting' s tick
  still s tick (inl one) = inl (more s tick one)
  still s tick (inr other) = kept s tick other

pub front_drops : FrontDrops
front_drops machine plans ask w rest limit taken waiting waiting' front kept = record {
  starts = λ s tick begin. still taken waiting taken waiting' (λ _ _ c. c) kept s tick (front.starts s tick begin);
  steps = λ s next start end covered step. still taken waiting taken waiting' (λ _ _ c. c) kept next end (front.steps s next start end covered step);
  no_goal = front.no_goal;
}

pub front_takes : FrontTakes
front_takes machine plans ask w rest limit l taken waiting waiting' front not-goal kept each = record {
  starts = λ s tick begin. still taken waiting (l ∷ taken) waiting' (also-covered l taken) kept s tick (front.starts s tick begin);
  steps = λ s next start end covered step. steps s next start end covered step (Contains-cons_cases l taken covered.label covered.in_labels);
  no_goal = λ k in' goal. goals k goal (Contains-cons_cases l taken k in');
} where
  goals : (k : Label) → IsGoalState machine ask.want ask.goal k.state → (l ≡ k) ⊎ Contains taken k → ⊥
  goals k goal (inl same) = not-goal (subst (λ (x : Label). IsGoalState machine ask.want ask.goal x.state) (sym same) goal)
  goals k goal (inr later) = front.no_goal k later goal

  from-it : (k : Label) (s next : State) (start end : ℕ) → l ≡ k → k.state ≡ s → k.from ≤ start → start ≤ k.till → IsStep machine plans ask w rest limit s start next end → IsCovered (l ∷ taken) next end ⊎ IsCovered waiting' next end
  from-it k s next start end same state from till step =
      each next start end (subst (λ (x : Label). x.from ≤ start) (sym same) from) (subst (λ (x : Label). start ≤ x.till) (sym same) till)
      (subst (λ (x : Label). IsStep machine plans ask w rest limit x.state start next end) (sym same) (subst (λ r. IsStep machine plans ask w rest limit r start next end) (sym state) step))

  steps : (s next : State) (start end : ℕ) → (covered : IsCovered (l ∷ taken) s start) → IsStep machine plans ask w rest limit s start next end → (l ≡ covered.label) ⊎ Contains taken covered.label
      → IsCovered (l ∷ taken) next end ⊎ IsCovered waiting' next end
  steps s next start end covered step (inl same) = from-it covered.label s next start end same covered.state covered.from covered.till step
  steps s next start end covered step (inr later) =
      still taken waiting (l ∷ taken) waiting' (also-covered l taken) kept next end
      (front.steps s next start end (record { label = covered.label; in_labels = later; state = covered.state; from = covered.from; till = covered.till }) step)

module _ (machine : Machine) (plans : List Plan) (ask : Ask) (w : Windows) (rest : State → Option ℕ) (limit bound : ℕ) (taken waiting : List Label)
    (front : IsFront machine plans ask w rest limit taken waiting) (le : bound ≤ limit) (beyond : AreBeyond rest bound waiting) where
  abbrev IsTaken : State → ℕ → Type 0
  IsTaken s tick = IsCovered taken s tick

  not-waiting : (s : State) (tick n : ℕ) → rest s ≡ Some n → tick + n ≤ bound → IsTaken s tick ⊎ IsCovered waiting s tick → IsTaken s tick
  not-waiting s tick n rests in-time (inl one) = one
  not-waiting s tick n rests in-time (inr other) =
      let late = beyond other.label other.in_labels n (subst (λ r. rest r ≡ Some n) (sym other.state) rests) in
      let from = other.from in
      absurd (omega (arith, late, from, in-time))

  closed : IsClosed machine plans ask w rest bound IsTaken
  closed = record {
    starts = λ s tick begin.
        let in-time = begin.in_time in
        not-waiting s tick begin.needs begin.rests begin.in_time
        (front.starts s tick (record { needs = begin.needs; starts = begin.starts; begins = begin.begins; rests = begin.rests; in_time = omega (arith, in-time, le) }));
    steps = λ s next start end covered step.
        let in-time = step.in_time in
        not-waiting next end step.needs step.rests step.in_time
        (front.steps s next start end covered (record { act = step.act; needs = step.needs; allowed = step.allowed; leads = step.leads; runs = step.runs; rests = step.rests; in_time = omega (arith, in-time, le); line = step.line }));
  }

  no-goal : (goal : State) (tick : ℕ) → IsGoalState machine ask.want ask.goal goal → IsTaken goal tick → bound < tick
  no-goal goal tick is covered = absurd (front.no_goal covered.label covered.in_labels (subst (λ s. IsGoalState machine ask.want ask.goal s) (sym covered.state) is))

pub front_bounds : FrontBounds
front_bounds machine plans ask w rest limit bound taken waiting last needs front le beyond =
    none-in machine plans ask w rest bound (IsCovered taken) last needs (closed machine plans ask w rest limit bound taken waiting front le beyond) (no-goal machine plans ask w rest limit bound taken waiting front le beyond)
