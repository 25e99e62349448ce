-- The live plans that a board holds, beside those of a schedule.
use Rattle.std.proofs.Common.{◌≡◌, ◌∙◌, ℕ, ◌+◌, ◌-◌, ◌<◌, Bool, true, false, cond, inl, inr, List, [], ◌∷◌, ◌++◌, drop, filter, get_or, length, take, ap, sym, subst, arith, AllPairs, Contains}
use Rattle.std.proofs.lemmas.Bool.{cases_lt}
use Rattle.std.proofs.lemmas.List.{append-nil, get_or-take, get_or_default, length-take-le, take-append-drop}
use Rattle.std.proofs.lemmas.List.Elements.{filter-append}
use Rattle.std.specs.List.{AllWithin}
use Rattle.tp_schedule.proofs.CopyFacts.{before-trans}
use Rattle.tp_schedule.specs.Plans.{IsEarlier, is_before}
use Rattle.tp_schedule.specs.declared.parts.Plan.{Plan}
use Rattle.tp_schedule.specs.declared.parts.SheetId.{SheetId}
use Rattle.tp_placing.proofs.BehindCopies.{Before}

module _ {X : Type 0} (test : X → Bool) (xs : List X) where
  -- where none behind a place passes, those before it are all that do
  pub passed-before : (at : ℕ) → filter test (drop at xs) ≡ [] → filter test xs ≡ filter test (take at xs)
  passed-before at none =
      ap (filter test) (sym (take-append-drop at xs)) ∙ filter-append test (take at xs) (drop at xs)
      ∙ ap (λ ys. filter test (take at xs) ++ ys) none ∙ append-nil (filter test (take at xs))

  -- one more behind them
  pub passed-behind : (x : X) → test x ≡ true → filter test (xs ++ x ∷ []) ≡ filter test xs ++ x ∷ []
  passed-behind x e = filter-append test xs (x ∷ []) ∙ ap (λ b. filter test xs ++ cond b (x ∷ []) []) e

-- where all behind a plan of an earlier copy pass, those that fail are of earlier copies
pub failed-before : (test : Plan → Bool) (copy : SheetId) (plans : List Plan) (left : ℕ) (x : Plan) → AllPairs IsEarlier plans → left < length plans → x ≡ get_or plans left x → Before copy x
    → AllWithin (λ q. test q ≡ true) plans (left + 1) (length plans) → (p : Plan) → Contains plans p → test p ≡ false → Before copy p
failed-before test copy plans left x in_order within is before live p (k, inside, at) fails = elim (cases_lt left k) [
  | inl behind ↦ (
      let passes : test p ≡ true = subst (λ q. test q ≡ true) at (live k p (omega arith) inside) in
      absurd cc)
  | inr up-to ↦ elim (cases_lt k left) [
    | inl in-front ↦ (
        let first : is_before p.sheet (get_or plans left p).sheet ≡ true = subst (λ (q : Plan). is_before q.sheet (get_or plans left p).sheet ≡ true) at (in_order k left p in-front within) in
        let next : is_before (get_or plans left p).sheet copy ≡ true = subst (Before copy) (is ∙ get_or_default plans left x p within) before in
        before-trans p.sheet (get_or plans left p).sheet copy first next)
    | inr from ↦ (
        let here : left ≡ k = omega arith in
        subst (Before copy) (is ∙ get_or_default plans left x p within ∙ ap (λ i. get_or plans i p) here ∙ at) before)
  ]
]

-- the last of plans behind the one before it, and so behind all
pub last-behind : (plans : List Plan) (last : ℕ) (p q : Plan) → length plans ≡ last + 1 → 0 < last → AllPairs IsEarlier (take last plans) → is_before (get_or plans (last - 1) p).sheet (get_or plans last q).sheet ≡ true → AllPairs IsEarlier plans
last-behind plans last p q len some in_order behind i j d less within =
    let count = length-take-le last plans (omega arith) in
    elim (cases_lt j last) [
      | inl in-front ↦ earlier i j less in-front
      | inr up-to ↦ (
          let here : last ≡ j = omega arith in
          subst (λ k. IsEarlier (get_or plans i d) (get_or plans k d)) here (elim (cases_lt i (last - 1)) [
            | inl early ↦ before-trans (get_or plans i d).sheet (get_or plans (last - 1) d).sheet (get_or plans last d).sheet (earlier i (last - 1) early (omega arith)) next
            | inr late ↦ (let there : last - 1 ≡ i = omega arith in subst (λ k. IsEarlier (get_or plans k d) (get_or plans last d)) there next)
          ]))
    ] where
      next : is_before (get_or plans (last - 1) d).sheet (get_or plans last d).sheet ≡ true
      next =
          let one = get_or_default plans (last - 1) p d (omega arith) in
          let other = get_or_default plans last q d (omega arith) in
          subst (λ (r : Plan). is_before r.sheet (get_or plans last d).sheet ≡ true) one (subst (λ (r : Plan). is_before (get_or plans (last - 1) p).sheet r.sheet ≡ true) other behind)

      earlier : (m n : ℕ) → m < n → n < last → is_before (get_or plans m d).sheet (get_or plans n d).sheet ≡ true
      earlier m n first second =
          let count = length-take-le last plans (omega arith) in
          let pair : IsEarlier (get_or (take last plans) m d) (get_or (take last plans) n d) = in_order m n d first (omega arith) in
          subst (λ (r : Plan). is_before r.sheet (get_or plans n d).sheet ≡ true) (get_or-take last plans m d (omega arith))
          (subst (λ (r : Plan). is_before (get_or (take last plans) m d).sheet r.sheet ≡ true) (get_or-take last plans n d second) pair)
