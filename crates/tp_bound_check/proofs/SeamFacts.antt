-- A hold's place among the rules of its action, and lists with one more at the end.
use Rattle.std.proofs.Common.{◌≡◌, ◌≢◌, ◌⊎◌, inl, inr, ℕ, zero, suc, ◌≤◌, ◌<◌, ◌==◌, Bool, true, false, cond, List, [], ◌∷◌, ◌++◌, length, insert, take, reverse, refl, sym, ◌∙◌, ap, subst, arith, All, AllPairs, Option, Some, None}
use Rattle.std.specs.List.{slice_get}
use Rattle.std.proofs.lemmas.Bool.{eqb-true}
use Rattle.std.proofs.lemmas.List.{length-reverse, reverse-append}
use Rattle.std.proofs.lemmas.List.Elements.{All-contains, All-head, All-tail}
use Rattle.tp_machine.proofs.MachineFacts.{is_machine}
use Rattle.tp_machine.specs.ModuleUse.{action_at}
use Rattle.tp_machine.specs.declared.parts.Action.{Action}
use Rattle.tp_machine.specs.declared.parts.HoldRule.{HoldRule}
use Rattle.tp_machine.specs.declared.machine.Machine.{Machine}
use Rattle.tp_schedule.proofs.Pairs.{AllPairs-head, AllPairs-nil, AllPairs-tail}
use Rattle.tp_schedule.specs.Choices.{Choice, put_places}
use Rattle.tp_schedule.specs.Holders.{holds_of_act}
use Rattle.tp_schedule.specs.Spots.{Slot, Spot}
use Rattle.tp_constraints.specs.Gaps.{Gap}
use Rattle.tp_bound_laws.proofs.Lists.{number-same}
use Rattle.tp_bound_laws.specs.Chains.{or_else}
use Rattle.tp_constraints.proofs.Lists.{contains-get}

-- ---- an action holds a resource once
abbrev pub Differ : List HoldRule → Type 0
Differ rules = AllPairs (λ h k. h.resource.0 ≢ k.resource.0) rules

pub rules-differ : (machine : Machine) (n : ℕ) → Differ (holds_of_act (action_at machine n))
rules-differ machine n = go (action_at machine n) refl where
  go : (o : Option Action) → action_at machine n ≡ o → Differ (holds_of_act o)
  go None e = AllPairs-nil (λ h k. h.resource.0 ≢ k.resource.0)
  go (Some a) e = (is_machine machine).differ n a e

pub few-rules : (machine : Machine) (n : ℕ) → length (holds_of_act (action_at machine n)) ≤ 4
few-rules machine n = go (action_at machine n) refl where
  go : (o : Option Action) → action_at machine n ≡ o → length (holds_of_act o) ≤ 4
  go None e = omega arith
  go (Some a) e = (is_machine machine).few_holds n a e

pub on-it : (n m : ℕ) → n ≡ m → (n == m) ≡ true
on-it n m e = ap (λ k. k == m) e ∙ number-same m

pub off-it : (n m : ℕ) → n ≢ m → (n == m) ≡ false
off-it n m ne = go (n == m) refl where
  go : (b : Bool) → (n == m) ≡ b → b ≡ false
  go true e = absurd (ne (eqb-true n m e))
  go false e = refl

put-others : (h : HoldRule) (from to : Spot) (rules : List HoldRule) (places : List ℕ) (order : List Slot) → All (λ k. h.resource.0 ≢ k.resource.0) rules → put_places h.resource.0 from to rules places order ≡ order
put-others h from to [] places order all = refl
put-others h from to (k ∷ rules) [] order all = refl
put-others h from to (k ∷ rules) (p ∷ places) order all =
    let off = off-it k.resource.0 h.resource.0 (λ e. All-head (λ k. h.resource.0 ≢ k.resource.0) k rules all (sym e)) in
    ap (λ b. put_places h.resource.0 from to rules places (cond b (insert order p (record { rule = k; from = from; to = to })) order)) off
    ∙ put-others h from to rules places order (All-tail (λ k. h.resource.0 ≢ k.resource.0) k rules all)

first-off : (h rule : HoldRule) (rules : List HoldRule) (j : ℕ) → Differ (h ∷ rules) → slice_get rules j ≡ Some rule → (h.resource.0 == rule.resource.0) ≡ false
first-off h rule rules j differ at =
    off-it h.resource.0 rule.resource.0 (All-contains (λ k. h.resource.0 ≢ k.resource.0) rules rule (AllPairs-head (λ h k. h.resource.0 ≢ k.resource.0) h rules differ) (contains-get rules j rule at))

-- the hold that has a place on the resource is put there
pub put-at : (from to : Spot) (rules : List HoldRule) (places : List ℕ) (order : List Slot) (j place : ℕ) (rule : HoldRule) → Differ rules → slice_get rules j ≡ Some rule → slice_get places j ≡ Some place
    → put_places rule.resource.0 from to rules places order ≡ insert order place (record { rule = rule; from = from; to = to })
put-at from to [] places order j place rule differ at has = absurd cc
put-at from to (h ∷ rules) [] order j place rule differ at has = absurd cc
put-at from to (h ∷ rules) (p ∷ places) order zero place rule differ at has =
    let same : h ≡ rule = cc in
    let here : p ≡ place = cc in
    let P : HoldRule → Type 0 = λ r. put_places r.resource.0 from to (h ∷ rules) (p ∷ places) order ≡ insert order place (record { rule = r; from = from; to = to }) in
    subst P same
    (ap (λ b. put_places h.resource.0 from to rules places (cond b (insert order p (record { rule = h; from = from; to = to })) order)) (number-same h.resource.0)
    ∙ put-others h from to rules places (insert order p (record { rule = h; from = from; to = to })) (AllPairs-head (λ h k. h.resource.0 ≢ k.resource.0) h rules differ)
    ∙ ap (λ k. insert order k (record { rule = h; from = from; to = to })) here)
put-at from to (h ∷ rules) (p ∷ places) order (suc j) place rule differ at has =
    ap (λ b. put_places rule.resource.0 from to rules places (cond b (insert order p (record { rule = h; from = from; to = to })) order)) (first-off h rule rules j differ at)
    ∙ put-at from to rules places order j place rule (AllPairs-tail (λ h k. h.resource.0 ≢ k.resource.0) h rules differ) at has

-- before it has one, the order is the one without the action
pub put-before : (from to : Spot) (rules : List HoldRule) (places : List ℕ) (order : List Slot) (rule : HoldRule) → Differ rules → slice_get rules (length places) ≡ Some rule → put_places rule.resource.0 from to rules places order ≡ order
put-before from to [] places order rule differ at = refl
put-before from to (h ∷ rules) [] order rule differ at = refl
put-before from to (h ∷ rules) (p ∷ places) order rule differ at =
    ap (λ b. put_places rule.resource.0 from to rules places (cond b (insert order p (record { rule = h; from = from; to = to })) order)) (first-off h rule rules (length places) differ at)
    ∙ put-before from to rules places order rule (AllPairs-tail (λ h k. h.resource.0 ≢ k.resource.0) h rules differ) at

-- ---- one more at the end
pub seam : {X : Type 0} (xs : List X) (x c : X) (n : ℕ) → slice_get (xs ++ x ∷ []) n ≡ Some c → ((n < length xs) × (slice_get xs n ≡ Some c)) ⊎ ((n ≡ length xs) × (c ≡ x))
seam [] x c zero e = inr (refl, let same : c ≡ x = cc in same)
seam [] x c (suc n) e = absurd cc
seam (y ∷ xs) x c zero e = inl (omega arith, e)
seam (y ∷ xs) x c (suc n) e = go (seam xs x c n e) where
  go : ((n < length xs) × (slice_get xs n ≡ Some c)) ⊎ ((n ≡ length xs) × (c ≡ x)) → ((suc n < length (y ∷ xs)) × (slice_get xs n ≡ Some c)) ⊎ ((suc n ≡ length (y ∷ xs)) × (c ≡ x))
  go (inl (lt, at)) = inl (omega (arith, lt), at)
  go (inr (is, same)) = inr (ap suc is, same)

pub at-seam : {X : Type 0} (xs : List X) (x : X) → slice_get (xs ++ x ∷ []) (length xs) ≡ Some x
at-seam [] x = refl
at-seam (y ∷ xs) x = at-seam xs x

pub left-seam : {X : Type 0} (xs : List X) (x c : X) (n : ℕ) → slice_get xs n ≡ Some c → slice_get (xs ++ x ∷ []) n ≡ Some c
left-seam [] x c n e = absurd cc
left-seam (y ∷ xs) x c zero e = e
left-seam (y ∷ xs) x c (suc n) e = left-seam xs x c n e

pub reverse-one : {X : Type 0} (x : X) (xs : List X) → reverse (x ∷ xs) ≡ reverse xs ++ x ∷ []
reverse-one x xs = reverse-append (x ∷ []) xs

take-few : (n : ℕ) (cs : List Choice) → length (take n cs) ≤ n
take-few zero cs = omega arith
take-few (suc n) [] = omega arith
take-few (suc n) (c ∷ cs) = let r = take-few n cs in omega (arith, r)

pub few-taken : (n : ℕ) (cs : List Choice) → length (reverse (take n cs)) ≤ n
few-taken n cs = let l = length-reverse (take n cs) in let m = take-few n cs in omega (arith, l, m)

pub or-none : (o : Option Gap) → or_else o None ≡ o
or-none None = refl
or-none (Some g) = refl
