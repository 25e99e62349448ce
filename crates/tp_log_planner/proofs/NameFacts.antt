-- Actions of a machine differ by their names.
use Rattle.std.proofs.Common.{◌≡◌, ◌≢◌, ℕ, ◌-◌, ◌<◌, ◌≤◌, ◌++◌, Bool, true, false, drop, take, append_assoc, zero, suc, List, [], ◌∷◌, map, length, refl, sym, ap, ◌∙◌, arith, All, Some, slice_get, get_or, inl, inr}
use Rattle.std.proofs.lemmas.Bool.{cases_order}
use Rattle.std.proofs.lemmas.List.{length-map}
use Rattle.std.proofs.lemmas.List.Elements.{All-cons, All-head, All-tail}
use Rattle.tp_machine.specs.Machines.{IsMachine}
use Rattle.tp_machine.specs.declared.machine.Machine.{Machine}
use Rattle.tp_machine.specs.declared.parts.ActId.{ActId}
use Rattle.tp_machine.specs.declared.parts.Action.{Action}
use Rattle.tp_constraints.proofs.Lists.{get-there}
use Rattle.tp_event_records.specs.RecordNames.{IsKnown}
use Rattle.std.specs.Bool.{MatchBool}
use Rattle.tp_schedule_check.proofs.ListFacts.{take-whole}
use Rattle.tp_log_planner.specs.ToldPlans.{HaveNames}
use Rattle.tp_event_rules.specs.Labels.{action_name, action_name_in}

name-get : (xs : List Action) (i : ℕ) (a : Action) → slice_get xs i ≡ Some a → get_or (map (λ a. a.name) xs) i [] ≡ a.name
name-get [] i a e = absurd cc
name-get (x ∷ xs) zero a e = let is : x ≡ a = cc in ap (λ (y : Action). y.name) is
name-get (x ∷ xs) (suc i) a e = name-get xs i a e

named-at : (machine : Machine) (act : ActId) → IsKnown machine act → get_or (map (λ a. a.name) machine.actions) act.0 [] ≡ action_name machine act
named-at machine act known =
    let r = get-there machine.actions act.0 known in
    name-get machine.actions act.0 r.0 r.1 ∙ sym (ap action_name_in r.1)

module _ (machine : Machine) (is : IsMachine machine) where
  apart : (a b : ActId) → IsKnown machine a → IsKnown machine b → a.0 < b.0 → action_name machine a ≢ action_name machine b
  apart a b known known' less same =
      is.action_names.1 a.0 b.0 [] less (omega (arith, known', length-map machine.actions (λ (x : Action). x.name))) (named-at machine a known ∙ same ∙ sym (named-at machine b known'))

  one-name : (a b : ActId) → IsKnown machine a → IsKnown machine b → action_name machine a ≡ action_name machine b → a ≡ b
  one-name a b known known' same = elim (cases_order a.0 b.0) [
    | inl e ↦ λ i. record { 0 = e i }
    | inr rest ↦ elim rest [
      | inl less ↦ absurd (apart a b known known' less same)
      | inr more ↦ absurd (apart b a known' known more (sym same))
    ]
  ]

  pub one-names : (xs ys : List ActId) → All (IsKnown machine) xs → All (IsKnown machine) ys → map (action_name machine) xs ≡ map (action_name machine) ys → xs ≡ ys
  one-names [] [] known known' e = refl
  one-names [] (y ∷ ys) known known' e = absurd cc
  one-names (x ∷ xs) [] known known' e = absurd cc
  one-names (x ∷ xs) (y ∷ ys) known known' e =
      let first : action_name machine x ≡ action_name machine y = cc in
      let rest : map (action_name machine) xs ≡ map (action_name machine) ys = cc in
      let is' = one-name x y (All-head (IsKnown machine) x xs known) (All-head (IsKnown machine) y ys known') first in
      let later = one-names xs ys (All-tail (IsKnown machine) x xs known) (All-tail (IsKnown machine) y ys known') rest in
      λ i. is' i ∷ later i

-- ---- names one after another
pub names-whole : (names : List (List ℕ)) (name : List ℕ) → 1 ≤ length names → name ≡ get_or names 0 name → names ≡ name ∷ take (length names - 1) (drop 1 names)
names-whole [] name some is = absurd (omega (arith, some))
names-whole (x ∷ xs) name some is = λ i. sym is i ∷ sym (take-whole xs (length (x ∷ xs) - 1) (omega arith)) i

module _ (machine : Machine) (name : List ℕ) (names rest : List (List ℕ)) (whole : names ≡ name ∷ rest) where
  pub more-named : (act : ActId) (old mid new : List ActId) (r : Bool) → IsKnown machine act × (action_name machine act ≡ name) → mid ≡ old ++ act ∷ []
      → MatchBool r ((ids : List ActId) × (new ≡ mid ++ ids) × HaveNames machine rest ids) ((ids : List ActId) → HaveNames machine rest ids → ⊥)
      → MatchBool r ((ids : List ActId) × (new ≡ old ++ ids) × HaveNames machine names ids) ((ids : List ActId) → HaveNames machine names ids → ⊥)
  more-named act old mid new true one is found = (
    act ∷ found.0,
    found.1 ∙ ap (λ xs. xs ++ found.0) is ∙ append_assoc old (act ∷ []) found.0,
    record { known = All-cons (IsKnown machine) act found.0 one.0 found.2.known; named = (λ i. one.1 i ∷ found.2.named i) ∙ sym whole },
  )
  more-named act old mid new false one is none = none-of where
    none-of : (ids : List ActId) → HaveNames machine names ids → ⊥
    none-of [] have = let e : [] ≡ name ∷ rest = have.named ∙ whole in absurd cc
    none-of (a ∷ ids) have =
        let e : action_name machine a ∷ map (action_name machine) ids ≡ name ∷ rest = have.named ∙ whole in
        none ids (record { known = All-tail (IsKnown machine) a ids have.known; named = cc })

  pub none-named : ((act : ActId) → IsKnown machine act → action_name machine act ≢ name) → (ids : List ActId) → HaveNames machine names ids → ⊥
  none-named none [] have = let e : [] ≡ name ∷ rest = have.named ∙ whole in absurd cc
  none-named none (a ∷ ids) have =
      let e : action_name machine a ∷ map (action_name machine) ids ≡ name ∷ rest = have.named ∙ whole in
      none a (All-head (IsKnown machine) a ids have.known) cc
