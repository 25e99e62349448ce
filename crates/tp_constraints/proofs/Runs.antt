-- The runs of actions: those of plans and of choices, that choices keep them when the list grows, and their hops.
use Rattle.std.proofs.Common.{◌≡◌, inl, inr, ℕ, suc, ◌+◌, List, [], ◌∷◌, ◌++◌, length, reverse, refl, sym, subst, ap, ◌∙◌, arith, All, Contains, Option, Some, None}
use Rattle.std.specs.Prelude.{slice_get, pos, neg_ℤ}
use Rattle.std.proofs.lemmas.List.{length-reverse}
use Rattle.std.proofs.lemmas.List.Elements.{All-nil, All-cons, All-head, All-tail, All-append, All-contains_itself}
use Rattle.std.proofs.lemmas.Option.{slice_get_within}
use Rattle.tp_base.proofs.SliceFacts.{slice_get_left, slice_get_last, slice_get_end}
use Rattle.tp_base.proofs.TraceFacts.{reverse-cons}
use Rattle.tp_machine.specs.ModuleUse.{action_at}
use Rattle.tp_machine.specs.declared.parts.ActId.{ActId}
use Rattle.tp_machine.specs.declared.parts.Action.{Action}
use Rattle.tp_machine.specs.declared.machine.Machine.{Machine}
use Rattle.tp_schedule.specs.Choices.{Choice}
use Rattle.tp_schedule.specs.Spots.{Spot}
use Rattle.tp_schedule.specs.Spots.Spot.{kept}
use Rattle.tp_schedule.specs.declared.parts.Ask.{Ask}
use Rattle.tp_schedule.specs.declared.parts.Plan.{Plan}
use Rattle.tp_constraints.specs.Gaps.{gap}
use Rattle.tp_constraints.specs.Suffixes.{Suffix}
use Rattle.tp_constraints.specs.Hops.{hop, IsRun, IsHop, range_hops, acts_hops, duration_hops}
use Rattle.tp_constraints.specs.Hops.HopKind.{forward, back}
use Rattle.tp_constraints.specs.Hops.IsHop.{by_least, by_most}
use Rattle.tp_constraints.specs.Hops.IsRun.{kept_run, own_run}

-- each choice of the one list, counted from the end, has the same action in the other
abbrev pub KeepsActs : List Choice → List Choice → Type 0
KeepsActs old new = (n : ℕ) (c : Choice) → slice_get (reverse old) n ≡ Some c → (d : Choice) × (slice_get (reverse new) n ≡ Some d) × (d.act ≡ c.act)

-- a choice stays where it is, counted from the end, when another is put in front
stays-behind : (c : Choice) (choices : List Choice) (n : ℕ) (d : Choice) → slice_get (reverse choices) n ≡ Some d → slice_get (reverse (c ∷ choices)) n ≡ Some d
stays-behind c choices n d at =
    let left = slice_get_left (reverse choices) (c ∷ []) n (slice_get_within (reverse choices) n d at) in
    ap (λ cs. slice_get cs n) (reverse-cons c choices) ∙ left ∙ at

pub newest-at : (c : Choice) (choices : List Choice) → slice_get (reverse (c ∷ choices)) (length choices) ≡ Some c
newest-at c choices =
    ap (λ cs. slice_get cs (length choices)) (reverse-cons c choices)
    ∙ ap (λ n. slice_get (reverse choices ++ c ∷ []) n) (sym (length-reverse choices))
    ∙ slice_get_last (reverse choices) c

pub acts-grow : (c : Choice) (choices : List Choice) → KeepsActs choices (c ∷ choices)
acts-grow c choices n d at = (d, stays-behind c choices n d at, refl)

-- the newest choice may get other places
pub acts-replaced : (c d : Choice) (choices : List Choice) → d.act ≡ c.act → KeepsActs (c ∷ choices) (d ∷ choices)
acts-replaced c d choices same n e at = elim (slice_get_end (reverse choices) c n e (ap (λ cs. slice_get cs n) (sym (reverse-cons c choices)) ∙ at)) [
  | inl l ↦ (e, stays-behind d choices n e l, refl)
  | inr r ↦ (d, ap (λ k. slice_get (reverse (d ∷ choices)) k) (r.0 ∙ length-reverse choices) ∙ newest-at d choices, same ∙ ap (λ b. b.act) r.1)
]

pub lift-run : (machine : Machine) (plans : List Plan) (old new : List Choice) → KeepsActs old new → (a : Action) (from to : Spot) → IsRun machine plans old a from to → IsRun machine plans new a from to
lift-run machine plans old new keeps a from to (kept_run p i act in' at is) = kept_run p i act in' at is
lift-run machine plans old new keeps a from to (own_run n c at is) =
    let d = keeps n c at in
    own_run n d.0 d.1 (subst (λ act. action_at machine act.0 ≡ Some a) (sym d.2) is)

-- a run gives two hops
pub range-hops : (machine : Machine) (plans : List Plan) (ask : Ask) (x : Suffix) (o : Option Action) (from to : Spot) → ((a : Action) → o ≡ Some a → IsRun machine plans x.choices a from to)
    → All (IsHop machine plans ask x) (range_hops o from to)
range-hops machine plans ask x None from to run = All-nil (IsHop machine plans ask x)
range-hops machine plans ask x (Some a) from to run =
    All-cons (IsHop machine plans ask x) (hop forward (gap from to (pos a.least))) (hop back (gap to from (neg_ℤ (pos a.most))) ∷ []) (by_least a from to (run a refl))
    (All-cons (IsHop machine plans ask x) (hop back (gap to from (neg_ℤ (pos a.most)))) [] (by_most a from to (run a refl)) (All-nil (IsHop machine plans ask x)))

-- the actions of a plan from one on
acts-hops : (machine : Machine) (plans : List Plan) (ask : Ask) (x : Suffix) (p : Plan) → Contains plans p → (n : ℕ) (acts : List ActId)
    → ((i : ℕ) (act : ActId) → slice_get acts i ≡ Some act → slice_get p.acts (n + i) ≡ Some act) → All (IsHop machine plans ask x) (acts_hops machine p.sheet n acts)
acts-hops machine plans ask x p in' n [] at = All-nil (IsHop machine plans ask x)
acts-hops machine plans ask x p in' n (act ∷ acts) at =
    let none : n + 0 ≡ n = omega arith in
    let here = subst (λ k. slice_get p.acts k ≡ Some act) none (at 0 act refl) in
    All-append (IsHop machine plans ask x) (range_hops (action_at machine act.0) (kept p.sheet n) (kept p.sheet (suc n))) (acts_hops machine p.sheet (suc n) acts)
    (range-hops machine plans ask x (action_at machine act.0) (kept p.sheet n) (kept p.sheet (suc n)) (λ a e. kept_run p n act in' here e))
    (acts-hops machine plans ask x p in' (suc n) acts (λ i b e. let s : suc n + i ≡ n + suc i = omega arith in rw s (at (suc i) b e)))

some-hops : (machine : Machine) (plans : List Plan) (ask : Ask) (x : Suffix) (rest : List Plan) → All (Contains plans) rest → All (IsHop machine plans ask x) (duration_hops machine rest)
some-hops machine plans ask x [] all = All-nil (IsHop machine plans ask x)
some-hops machine plans ask x (p ∷ rest) all =
    All-append (IsHop machine plans ask x) (acts_hops machine p.sheet 0 p.acts) (duration_hops machine rest)
    (acts-hops machine plans ask x p (All-head (Contains plans) p rest all) 0 p.acts (λ i act e. let z : 0 + i ≡ i = omega arith in rw z e))
    (some-hops machine plans ask x rest (All-tail (Contains plans) p rest all))

pub durations-hops : (machine : Machine) (plans : List Plan) (ask : Ask) (x : Suffix) → All (IsHop machine plans ask x) (duration_hops machine plans)
durations-hops machine plans ask x = some-hops machine plans ask x plans (All-contains_itself plans)
