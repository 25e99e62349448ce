-- Plans of two schedules that are the same but for points that may move.
use Rattle.std.specs.Prelude.{◌≡◌, ◌≢◌, ℕ, ◌≤◌, not, List, [], ◌∷◌, length, filter, Option, Contains, IsTrue}
use Rattle.tp_schedule.specs.Answers.{unmoved}
use Rattle.tp_schedule.specs.Plans.{is_fixed, point}
use Rattle.tp_schedule.specs.declared.parts.Plan.{Plan}
use Rattle.tp_schedule.specs.declared.parts.SheetId.{SheetId}
use Rattle.tp_schedule_check.specs.Early.{is_exempt}
use Rattle.tp_schedule_check.specs.declared.unlike.Unlike.{Unlike}
use Rattle.tp_schedule_check.specs.declared.unlike.Unlike.TheVariants.{Changed, Moved}

-- the plans of all copies but the asked one, if one is asked
abbrev pub others : Option SheetId → List Plan → List Plan
others asked plans = filter (λ p. not (is_exempt asked p)) plans

-- each fixed point of the plan is a point of the other one
abbrev pub KeepsPoints : Plan → Plan → Type 0
KeepsPoints p q = (i : ℕ) → IsTrue (is_fixed p i) → i ≤ length p.acts → point q i ≡ point p i

-- of the same copy, as it is wanted
pub record IsSameCopy (p q : Plan) : Type 0 where
  pub sheet : q.sheet ≡ p.sheet
  pub name : q.name ≡ p.name
  pub want : q.want ≡ p.want

-- to the same goal, with as many released actions
pub record IsSameCourse (p q : Plan) : Type 0 where
  pub goal : q.goal ≡ p.goal
  pub kind : q.kind ≡ p.kind
  pub released : q.released ≡ p.released

-- the other is the same plan but for points that are not fixed
abbrev pub IsAlike : Plan → Plan → Type 0
IsAlike p q = (unmoved q ≡ unmoved p) × KeepsPoints p q

-- so are the plans one by one
abbrev pub AreAlike : List Plan → List Plan → Type 0
AreAlike [] [] = Unit {0}
AreAlike [] (q ∷ qs) = ⊥
AreAlike (p ∷ ps) [] = ⊥
AreAlike (p ∷ ps) (q ∷ qs) = IsAlike p q × AreAlike ps qs

-- a fixed point of the plan stands elsewhere in the other
pub record IsMovedIn (p q : Plan) (sheet : SheetId) (at stood stands : ℕ) : Type 0 where
  pub of : sheet ≡ p.sheet
  pub within : at ≤ length p.acts
  pub fixed : IsTrue (is_fixed p at)
  pub stood_is : stood ≡ point p at
  pub stands_is : stands ≡ point q at
  pub differ : stands ≢ stood

abbrev pub IsUnfixed : Plan → Plan → Unlike → Type 0
IsUnfixed p q Changed = ⊥
IsUnfixed p q (Moved sheet at stood stands) = IsMovedIn p q sheet at stood stands

-- why the other is not the same plan
abbrev pub IsUnlikePlan : Plan → Plan → Unlike → Type 0
IsUnlikePlan p q Changed = unmoved q ≢ unmoved p
IsUnlikePlan p q (Moved sheet at stood stands) = (unmoved q ≡ unmoved p) × IsMovedIn p q sheet at stood stands

-- among so many plans a fixed point of one has moved, and one of those
pub record IsMovedAmong (ps qs : List Plan) (sheet : SheetId) (at stood stands : ℕ) : Type 0 where
  pub plan : Plan
  pub other : Plan
  pub planned : Contains ps plan
  pub planned_too : Contains qs other
  pub same : unmoved other ≡ unmoved plan
  pub moved : IsMovedIn plan other sheet at stood stands

-- why they are not alike
abbrev pub IsUnlike : List Plan → List Plan → Unlike → Type 0
IsUnlike ps qs Changed = AreAlike ps qs → ⊥
IsUnlike ps qs (Moved sheet at stood stands) = (AreAlike ps qs → ⊥) × IsMovedAmong ps qs sheet at stood stands
