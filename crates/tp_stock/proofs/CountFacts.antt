-- Counts by location grow plan by plan.
use Rattle.std.proofs.Common.{◌≡◌, ◌≢◌, ℕ, zero, suc, ◌+◌, ◌<◌, ◌≤◌, ◌==◌, eqb, add-one, replicate, length-set, inl, inr, false, cond, List, [], ◌∷◌, ◌++◌, length, take, set, get_or, get_or-set_other, get_or-set_same, refl, sym, ap, ◌∙◌, subst, arith, Option, Some, None}
use Rattle.std.specs.Prelude.{option_map, slice_get}
use Rattle.std.proofs.lemmas.Bool.{cases_Bool, eqb-true, eq-eqb}
use Rattle.std.proofs.lemmas.List.{get_or-replicate, length-replicate}
use Rattle.std.proofs.lemmas.List.FromFn.{fill_by_all}
use Rattle.std.proofs.lemmas.List.Sums.{sum_by_push}
use Rattle.std.proofs.lemmas.Option.{same_Some}
use Rattle.tp_machine.specs.declared.parts.Action.{Action}
use Rattle.tp_machine.specs.declared.parts.LocId.{LocId}
use Rattle.tp_machine.specs.declared.machine.Machine.{Machine}
use Rattle.tp_schedule.specs.declared.parts.Plan.{Plan}
use Rattle.tp_stock.specs.Stock.{begins_at, by_location, is_from, taken_at}

-- the numbers are those of the plans
pub record Counted (machine : Machine) (counts : List ℕ) (plans : List Plan) : Type 0 where
  pub all : length counts ≡ 256
  pub each : (loc : ℕ) → loc < 256 → get_or counts loc 0 ≡ taken_at machine plans loc

-- one plan more
taken-push : (machine : Machine) (plans : List Plan) (p : Plan) (loc : ℕ) → taken_at machine (plans ++ p ∷ []) loc ≡ taken_at machine plans loc + cond (begins_at machine loc p) 1 0
taken-push machine plans p loc = sum_by_push (λ q. cond (begins_at machine loc q) 1 0) plans p

pub counted-other : (machine : Machine) (counts : List ℕ) (plans : List Plan) (p : Plan) → ((loc : ℕ) → loc < 256 → begins_at machine loc p ≡ false) → Counted machine counts plans → Counted machine counts (plans ++ p ∷ [])
counted-other machine counts plans p none before = record {
  all = before.all;
  each = λ loc within. (let step = taken-push machine plans p loc ∙ ap (λ b. taken_at machine plans loc + cond b 1 0) (none loc within) in omega (arith, before.each loc within));
}

pub counted-one : (machine : Machine) (counts : List ℕ) (plans : List Plan) (p : Plan) (at : ℕ) → at < 256 → ((loc : ℕ) → begins_at machine loc p ≡ (at == loc)) → Counted machine counts plans
    → Counted machine (set counts at (get_or counts at 0 + 1)) (plans ++ p ∷ [])
counted-one machine counts plans p at inside is before = record {
  all = simp length-set before.all;
  each = λ loc within. elim (cases_Bool (eqb at loc)) [
    | inl same ↦ subst (λ k. get_or (set counts at (get_or counts at 0 + 1)) k 0 ≡ taken_at machine (plans ++ p ∷ []) k) (eqb-true at loc same) here
    | inr other ↦ there loc within other
  ];
}
  where
    lt : at < length counts
    lt = omega (arith, before.all)

    here : get_or (set counts at (get_or counts at 0 + 1)) at 0 ≡ taken_at machine (plans ++ p ∷ []) at
    here =
        let step = taken-push machine plans p at ∙ ap (λ b. taken_at machine plans at + cond b 1 0) (is at ∙ eq-eqb at at refl) in
        let old = before.each at inside in
        let low : at < length counts = lt in
        rw get_or-set_same (omega (arith, step, old))

    there : (loc : ℕ) → loc < 256 → eqb at loc ≡ false → get_or (set counts at (get_or counts at 0 + 1)) loc 0 ≡ taken_at machine (plans ++ p ∷ []) loc
    there loc within other =
        let step = taken-push machine plans p loc ∙ ap (λ b. taken_at machine plans loc + cond b 1 0) (is loc ∙ other) in
        let old = before.each loc within in
        let differ : loc ≢ at = λ e. (let k = eq-eqb at loc (sym e) in absurd cc) in
        rw get_or-set_other (omega (arith, step, old))

-- where no plan was counted
pub counted-none : (machine : Machine) (plans : List Plan) → Counted machine (replicate 256 0) (take 0 plans)
counted-none machine plans = record {
  all = length-replicate {A = ℕ} 256 0;
  each = λ loc within. get_or-replicate {A = ℕ} 256 loc 0 0 within ∙ sym (none plans loc);
}
  where
    none : (plans : List Plan) (loc : ℕ) → taken_at machine (take 0 plans) loc ≡ 0
    none [] loc = refl
    none (p ∷ plans) loc = refl

-- a plan's first action
pub from-some : (o : Option Action) (l : LocId) → Some l ≡ option_map (λ a. a.from) o → (loc : ℕ) → is_from loc o ≡ (l.0 == loc)
from-some None l e loc = absurd cc
from-some (Some a) l e loc = let same : l ≡ a.from = same_Some l a.from e in ap (λ (q : LocId). q.0 == loc) (sym same)

pub from-none : (o : Option Action) → None ≡ option_map (λ (a : Action). a.from) o → (loc : ℕ) → is_from loc o ≡ false
from-none None e loc = refl
from-none (Some a) e loc = absurd cc

pub next-plan : (plans : List Plan) (n : ℕ) (p : Plan) → slice_get plans n ≡ Some p → take (n + 1) plans ≡ take n plans ++ p ∷ []
next-plan plans n p e = rw add-one (go plans n e)
  where
    go : (plans : List Plan) (n : ℕ) → slice_get plans n ≡ Some p → take (suc n) plans ≡ take n plans ++ p ∷ []
    go [] n e = absurd cc
    go (x ∷ xs) zero e = let same : x ≡ p = same_Some x p e in rw same refl
    go (x ∷ xs) (suc n) e = ap (λ l. x ∷ l) (go xs n e)

-- all plans are counted
pub counted-all : (machine : Machine) (counts : List ℕ) (plans : List Plan) (n : ℕ) → length plans ≤ n → Counted machine counts (take n plans) → counts ≡ by_location (taken_at machine plans)
unfolding by_location
counted-all machine counts plans n all counted =
    let whole : take n plans ≡ plans = take_all n plans all in
    fill_by_all (taken_at machine plans) counts 256 0 counted.all (λ loc within. counted.each loc within ∙ ap (λ ps. taken_at machine ps loc) whole)
  where
    take_all : (n : ℕ) (plans : List Plan) → length plans ≤ n → take n plans ≡ plans
    take_all zero [] le = refl
    take_all zero (x ∷ xs) le = absurd (omega arith)
    take_all (suc n) [] le = refl
    take_all (suc n) (x ∷ xs) le = ap (λ l. x ∷ l) (take_all n xs (omega arith))
