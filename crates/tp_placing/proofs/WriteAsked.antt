-- The asked copy's plan by the steps.
use Rattle.std.proofs.Common.{◌≡◌, ℕ, ◌+◌, ◌<◌, List, [], ◌∷◌, ◌++◌, length, take, reverse, flat_map, refl, ap, sym, ◌∙◌, subst, arith, Some, None, Option, IsSome, position, slice_get}
use Rattle.std.specs.List.{fold}
use Rattle.std.proofs.Math.Seq.{take-append-add, take-append_seam}
use Rattle.std.proofs.lemmas.Grind.{common_steps, flat_map-append}
use Rattle.std.proofs.lemmas.List.{append_assoc, append-nil, length-map}
use Rattle.std.proofs.lemmas.Option.{get_or_from_slice_get, same_Some}
use Rattle.tp_base.proofs.SliceFacts.{found}
use Rattle.tp_base.proofs.TraceFacts.{reverse-cons}
use Rattle.tp_machine.specs.declared.parts.ActId.{ActId}
use Rattle.tp_schedule.specs.Choices.{Choice, acts_of}
use Rattle.tp_constraints.specs.Suffixes.{Suffix, place_first, with_action, with_goal, with_place, with_stop}
use Rattle.tp_placing.specs.Boards.{after_change, suffix_after}
use Rattle.tp_placing.specs.Commits.{opened, opened_by}
use Rattle.tp_placing.specs.declared.parts.Change.{Change}
use Rattle.tp_placing.specs.declared.parts.Change.TheVariants.{Goal, Action, Place, Stop}
use Rattle.tp_placing.specs.declared.parts.Step.{Step}
use Rattle.tp_schedule.specs.Plans.{is_same_copy, plan_of}
use Rattle.tp_schedule.specs.declared.parts.Plan.{Plan}
use Rattle.tp_schedule.specs.declared.parts.SheetId.{SheetId}
use Rattle.tp_schedule.proofs.ChangeFacts.{plan_of-at, planned-has_place}

-- a copy that has no place has no plan
pub none-planned : (copy : SheetId) (plans : List Plan) → None ≡ position (λ p. is_same_copy p.sheet copy) plans → plan_of copy plans ≡ None
none-planned copy plans none = go (plan_of copy plans) refl where
  go : (o : Option Plan) → plan_of copy plans ≡ o → o ≡ None
  go None e = refl
  go (Some p) e = absurd (planned-has_place copy plans (subst IsSome (sym e) refl) none)

-- the plan at a copy's place is its plan
pub planned-at : (copy : SheetId) (plans : List Plan) (k : ℕ) (p : Plan) → Some k ≡ position (λ q. is_same_copy q.sheet copy) plans → slice_get plans k ≡ Some p → plan_of copy plans ≡ Some p
planned-at copy plans k p place there =
    let within : k < length plans = grind (arith, common_steps) in
    plan_of-at copy plans k p place within (sym (get_or_from_slice_get plans k p p there))

-- a copy that has a place has a plan
pub place-planned : (copy : SheetId) (plans : List Plan) (k : ℕ) → Some k ≡ position (λ p. is_same_copy p.sheet copy) plans → IsSome (plan_of copy plans)
place-planned copy plans k place = go (position (λ p. is_same_copy p.sheet copy) plans) refl place where
  go : (o : Option ℕ) → position (λ p. is_same_copy p.sheet copy) plans ≡ o → Some k ≡ o → IsSome (plan_of copy plans)
  go None e f = absurd cc
  go (Some j) e f =
      let within : j < length plans = grind (arith, common_steps) in
      let p = found plans j within in
      rw (plan_of-at copy plans j p.0 (sym e) within (sym (get_or_from_slice_get plans j p.0 p.0 p.1))) refl

-- what the steps opened
opened-cons : (s : Step) (steps : List Step) → opened (s ∷ steps) ≡ opened steps ++ opened_by s.change
opened-cons s steps =
    ap (λ (xs : List Step). flat_map (λ (r : Step). opened_by r.change) xs) (reverse-cons s steps)
    ∙ flat_map-append (λ (r : Step). opened_by r.change) (reverse steps) (s ∷ [])
    ∙ ap (λ ys. opened steps ++ ys) (append-nil (opened_by s.change))

acts-place : (place : ℕ) (choices : List Choice) → acts_of (place_first place choices) ≡ acts_of choices
acts-place place [] = refl
acts-place place (c ∷ choices) = refl

-- of an open list
opened-after : (steps : List Step) (y x : Suffix) → fold (λ z (s : Step). after_change z s.change) (Some y) steps ≡ Some x → acts_of x.choices ≡ opened steps ++ acts_of y.choices
opened-after [] y x e = let is = same_Some y x e in ap (λ (z : Suffix). acts_of z.choices) (sym is)
opened-after (s ∷ steps) y x e = go s.change refl e (opened-after steps) where
  all : (ch : Change) (z : Suffix) → s.change ≡ ch → acts_of z.choices ≡ opened_by ch ++ acts_of y.choices → acts_of x.choices ≡ opened steps ++ acts_of z.choices → acts_of x.choices ≡ opened (s ∷ steps) ++ acts_of y.choices
  all ch z is one rest =
      rest ∙ ap (λ ys. opened steps ++ ys) one ∙ sym (append_assoc (opened steps) (opened_by ch) (acts_of y.choices))
      ∙ ap (λ c. (opened steps ++ opened_by c) ++ acts_of y.choices) (sym is) ∙ ap (λ ys. ys ++ acts_of y.choices) (sym (opened-cons s steps))

  go : (ch : Change) → s.change ≡ ch → fold (λ z (r : Step). after_change z r.change) (after_change (Some y) ch) steps ≡ Some x
      → ((z w : Suffix) → fold (λ v (r : Step). after_change v r.change) (Some z) steps ≡ Some w → acts_of w.choices ≡ opened steps ++ acts_of z.choices) → acts_of x.choices ≡ opened (s ∷ steps) ++ acts_of y.choices
  go (Goal room) is e' rest = all (Goal room) y is refl (rest y x e')
  go (Action act room) is e' rest = all (Action act room) (with_action act room y) is refl (rest (with_action act room y) x e')
  go (Place place) is e' rest = all (Place place) (with_place place y) is (acts-place place y.choices) (rest (with_place place y) x e')
  go Stop is e' rest = all Stop (with_stop y) is refl (rest (with_stop y) x e')

-- the last actions that were opened are those of the suffix
pub opened-suffix : (steps : List Step) (x : Suffix) → suffix_after steps ≡ Some x → (rest : List ActId) × (opened steps ≡ acts_of x.choices ++ rest)
opened-suffix [] x e = absurd cc
opened-suffix (s ∷ steps) x e = go s.change refl e (opened-suffix steps x) where
  more : (ch : Change) → s.change ≡ ch → (rest : List ActId) × (opened steps ≡ acts_of x.choices ++ rest) → (rest : List ActId) × (opened (s ∷ steps) ≡ acts_of x.choices ++ rest)
  more ch is r = (r.0 ++ opened_by s.change, opened-cons s steps ∙ ap (λ ys. ys ++ opened_by s.change) r.1 ∙ append_assoc (acts_of x.choices) r.0 (opened_by s.change))

  go : (ch : Change) → s.change ≡ ch → fold (λ z (r : Step). after_change z r.change) (after_change None ch) steps ≡ Some x → (suffix_after steps ≡ Some x → (rest : List ActId) × (opened steps ≡ acts_of x.choices ++ rest))
      → (rest : List ActId) × (opened (s ∷ steps) ≡ acts_of x.choices ++ rest)
  go (Goal room) is e' rest = ([], opened-cons s steps ∙ ap (λ c. opened steps ++ opened_by c) is ∙ sym (opened-after steps (with_goal room) x e') ∙ sym (append-nil (acts_of x.choices)))
  go (Action act room) is e' rest = more (Action act room) is (rest e')
  go (Place place) is e' rest = more (Place place) is (rest e')
  go Stop is e' rest = more Stop is (rest e')

-- so many of them behind the kept ones
pub acts-taken : (kept : List ActId) (steps : List Step) (x : Suffix) (most : ℕ) → suffix_after steps ≡ Some x → most ≡ length kept + length x.choices → take most (kept ++ opened steps) ≡ kept ++ acts_of x.choices
acts-taken kept steps x most e is =
    let r = opened-suffix steps x e in
    let n : most ≡ length kept + length (acts_of x.choices) = let l = length-map x.choices (λ (c : Choice). c.act) in omega arith in
    (λ i. take (n i) (kept ++ r.1 i)) ∙ take-append-add kept (acts_of x.choices ++ r.0) (length (acts_of x.choices)) ∙ ap (λ ys. kept ++ ys) (take-append_seam (acts_of x.choices) r.0)
