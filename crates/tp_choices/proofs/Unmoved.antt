-- Two schedules that are the same but for points: their plans correspond, and so do their slots.
use Rattle.std.proofs.Common.{◌≡◌, inl, inr, ℕ, true, List, [], ◌∷◌, map, refl, ap, sym, arith, Contains, AllPairs, ◌∙◌, subst, IsTrue}
use Rattle.std.proofs.lemmas.Bool.Decides.{nat_tests}
use Rattle.std.proofs.lemmas.List.Elements.{All-contains}
use Rattle.tp_schedule.proofs.CopyFacts.{InOrder, same_copy-refl, before-not_same}
use Rattle.tp_schedule.proofs.Membership.{Contains-map_from, Contains-map, Contains-cons_cases}
use Rattle.tp_schedule.proofs.Pairs.{AllPairs-head, AllPairs-tail}
use Rattle.tp_schedule.specs.Answers.{unmoved}
use Rattle.tp_schedule.specs.Plans.{is_before}
use Rattle.tp_schedule.specs.Spots.{slots_of, slots}
use Rattle.tp_machine.specs.declared.machine.Machine.{Machine}
use Rattle.tp_schedule.specs.declared.parts.Plan.{Plan}

-- a relation of the earlier plans to the later ones holds of two plans whose copies stand so
pub ordered_pair : (R : Plan → Plan → Type 0) (plans : List Plan) (p q : Plan) → InOrder plans → AllPairs R plans → Contains plans p → Contains plans q → is_before p.sheet q.sheet ≡ true → R p q
ordered_pair R [] p q in_order pairs in-p in-q e = absurd (omega (arith, in-p.1))
ordered_pair R (x ∷ plans) p q in_order pairs in-p in-q e =
    elim (Contains-cons_cases x plans p in-p) [
      | inl is-p ↦ elim (Contains-cons_cases x plans q in-q) [
        | inl is-q ↦ let same : p ≡ q = sym is-p ∙ is-q in absurd (not_itself (subst (λ r. is_before p.sheet r.sheet ≡ true) (sym same) e))
        | inr later ↦ subst (λ r. R r q) is-p (All-contains (R x) plans q (AllPairs-head R x plans pairs) later)
      ]
      | inr later-p ↦ elim (Contains-cons_cases x plans q in-q) [
        | inl is-q ↦ absurd (not_both_ways (subst (λ r. is_before r.sheet p.sheet ≡ true) is-q (All-contains (λ r. IsTrue (is_before x.sheet r.sheet)) plans p (AllPairs-head (λ a b. IsTrue (is_before a.sheet b.sheet)) x plans in_order) later-p)))
        | inr later-q ↦ ordered_pair R plans p q (AllPairs-tail (λ a b. IsTrue (is_before a.sheet b.sheet)) x plans in_order) (AllPairs-tail R x plans pairs) later-p later-q e
      ]
    ] where
      not_itself : is_before p.sheet p.sheet ≡ true → ⊥
      not_itself h = let no = before-not_same p.sheet p.sheet h in let yes = same_copy-refl p.sheet in absurd (cc)

      not_both_ways : is_before q.sheet p.sheet ≡ true → ⊥
      not_both_ways h = grind (arith, nat_tests)

-- plans that are alike but for their points
pub unmoved-found : (ps qs : List Plan) (q : Plan) → map unmoved ps ≡ map unmoved qs → Contains qs q → (p : Plan) × Contains ps p × (unmoved p ≡ unmoved q)
unmoved-found ps qs q e in' =
    let mapped : Contains (map unmoved ps) (unmoved q) = subst (λ xs. Contains xs (unmoved q)) (sym e) (Contains-map unmoved qs q in') in
    let from = Contains-map_from unmoved ps (unmoved q) mapped in
    (from.0, from.1, sym from.2)

pub slots-unmoved : (machine : Machine) (resource : ℕ) (ps qs : List Plan) → map unmoved ps ≡ map unmoved qs → slots machine resource ps ≡ slots machine resource qs
slots-unmoved machine resource [] [] e = refl
slots-unmoved machine resource [] (q ∷ qs) e = absurd (cc)
slots-unmoved machine resource (p ∷ ps) [] e = absurd (cc)
slots-unmoved machine resource (p ∷ ps) (q ∷ qs) e =
    let rest : map unmoved ps ≡ map unmoved qs = cc in
    let one : unmoved p ≡ unmoved q = cc in
    let same : slots_of machine resource p ≡ slots_of machine resource q = ap (slots_of machine resource) one in
    rw (same, slots-unmoved machine resource ps qs rest) refl
