-- The plan at the place is written with so many released actions.
use Rattle.std.proofs.Common.{◌≡◌, ◌∙◌, ◌<◌, ◌≤◌, zero, suc, ℕ, List, [], ◌∷◌, get_or, length, set, refl, sym, ap, arith, subst, AllPairs, Option, Some, None, IsSomeAnd}
use Rattle.std.specs.Prelude.{slice_get}
use Rattle.std.proofs.lemmas.List.Elements.{All-set}
use Rattle.std.proofs.lemmas.Option.{get_or_from_slice_get, slice_get-get_or, slice_get_within}
use Rattle.tp_schedule.specs.Plans.{IsEarlier, IsFormed, with_released}
use Rattle.tp_schedule.specs.declared.parts.Plan.{Plan}
use Rattle.tp_schedule.proofs.ChangeFacts.{IsFormed-with_released}
use Rattle.tp_schedule.proofs.Pairs.{AllPairs-head, AllPairs-tail, AllPairs-cons}
use Rattle.tp_schedule.proofs.schedule.Schedule.freeze_at.Goals as goal

-- what is known of an element that is there
there : {X : Type 0} (P : X → Type 0) (o : Option X) → IsSomeAnd o P → (x : X) × (o ≡ Some x) × P x
there P None known = absurd known
there P (Some x) known = (x, refl, known)

-- another plan of the same copy in its place keeps the order of copies
in_order-set : (plans : List Plan) (at : ℕ) (p q : Plan) → at < length plans → p ≡ get_or plans at p → q.sheet ≡ p.sheet → AllPairs IsEarlier plans → AllPairs IsEarlier (set plans at q)
in_order-set [] at p q within is same in_order = absurd (omega arith)
in_order-set (r ∷ plans) zero p q within is same in_order =
    let sheet : r.sheet ≡ q.sheet = ap (λ (s : Plan). s.sheet) (sym is) ∙ sym same in
    AllPairs-cons IsEarlier q plans (λ k d inside. subst (λ s. IsEarlier (record q { sheet = s }) (get_or plans k d)) sheet (AllPairs-head IsEarlier r plans in_order k d inside))
    (AllPairs-tail IsEarlier r plans in_order)
in_order-set (r ∷ plans) (suc at) p q within is same in_order =
    let later = AllPairs-head IsEarlier r plans in_order in
    let before : IsEarlier r p = subst (IsEarlier r) (sym is) (later at p (omega arith)) in
    AllPairs-cons IsEarlier r (set plans at q) (All-set (IsEarlier r) plans at q (subst (λ s. IsEarlier r (record q { sheet = s })) (sym same) before) later)
    (in_order-set plans at p q (omega arith) is same (AllPairs-tail IsEarlier r plans in_order))

pub invariant_of-self : goal.invariant_of-self
invariant_of-self c =
    let plans = c.self.inside.plans.items in
    let found = there (λ p. c.args.count ≤ length p.acts) (slice_get plans c.args.at) (rw (← c.self.view_is) at c.requires.planned) in
    let p = c.index_mut.result.now in
    let within = slice_get_within plans c.args.at found.0 found.1 in
    let same : p ≡ found.0 = c.index_mut.ensures.value ∙ get_or_from_slice_get plans c.args.at found.0 p found.1 in
    let formed : IsFormed p = subst IsFormed (sym c.index_mut.ensures.value) (c.self.invariant.1.formed c.args.at p within) in
    let few : c.args.count ≤ length p.acts = subst (λ (q : Plan). c.args.count ≤ length q.acts) (sym same) found.2 in (
      c.self.invariant.0,
      record {
        formed = All-set IsFormed plans c.args.at (with_released c.args.count p) (IsFormed-with_released p c.args.count formed few) c.self.invariant.1.formed;
        in_order = in_order-set plans c.args.at p (with_released c.args.count p) within c.index_mut.ensures.value refl c.self.invariant.1.in_order;
      },
    )

pub returns-clause-plans : goal.returns-clause-plans
returns-clause-plans c =
    let plans = c.self.inside.plans.items in
    let found = there (λ p. c.args.count ≤ length p.acts) (slice_get plans c.args.at) (rw (← c.self.view_is) at c.requires.planned) in
    let p = c.index_mut.result.now in
    let within = slice_get_within plans c.args.at found.0 found.1 in
    let here : slice_get plans c.args.at ≡ Some p = slice_get-get_or plans c.args.at p within ∙ ap Some (sym c.index_mut.ensures.value) in
    rw (← c.self.view_is) (rw here refl)
