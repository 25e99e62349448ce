-- Two schedules are gone through side by side, and the asked copy is passed over.
use Rattle.std.proofs.Common.{◌≡◌, ℕ, ◌+◌, ◌<◌, ◌≤◌, ◌⊎◌, inl, inr, Bool, true, false, cond, not, List, [], ◌∷◌, length, drop, refl, sym, ap, subst, ◌∙◌, arith, Contains, Option, Some, slice_get}
use Rattle.std.proofs.lemmas.List.{drop_all}
use Rattle.tp_schedule.specs.declared.parts.Plan.{Plan}
use Rattle.tp_schedule.specs.declared.parts.SheetId.{SheetId}
use Rattle.tp_schedule.proofs.Membership.{Contains-filter}
use Rattle.tp_constraints.proofs.Lists.{contains-get}
use Rattle.tp_schedule_check.specs.Early.{is_exempt}
use Rattle.tp_schedule_check.proofs.ListFacts.{drop-one}
use Rattle.tp_schedule_check.specs.Alike.{AreAlike, IsAlike, IsUnlike, IsUnlikePlan, others}
use Rattle.tp_schedule_check.specs.declared.unlike.Unlike.{Unlike}
use Rattle.tp_schedule_check.specs.declared.unlike.Unlike.TheVariants.{Changed, Moved}

pub passes : (asked : Option SheetId) (plans : List Plan) (n : ℕ) (p : Plan) → slice_get plans n ≡ Some p → is_exempt asked p ≡ true → others asked (drop n plans) ≡ others asked (drop (n + 1) plans)
passes asked plans n p at asks = ap (others asked) (drop-one plans n p at) ∙ go (is_exempt asked p) asks where
  go : (b : Bool) → b ≡ true → cond (not b) (p ∷ others asked (drop (n + 1) plans)) (others asked (drop (n + 1) plans)) ≡ others asked (drop (n + 1) plans)
  go true e = refl
  go false e = absurd cc

pub keeps : (asked : Option SheetId) (plans : List Plan) (n : ℕ) (p : Plan) → slice_get plans n ≡ Some p → is_exempt asked p ≡ false → others asked (drop n plans) ≡ p ∷ others asked (drop (n + 1) plans)
keeps asked plans n p at other = ap (others asked) (drop-one plans n p at) ∙ go (is_exempt asked p) other where
  go : (b : Bool) → b ≡ false → cond (not b) (p ∷ others asked (drop (n + 1) plans)) (others asked (drop (n + 1) plans)) ≡ p ∷ others asked (drop (n + 1) plans)
  go true e = absurd cc
  go false e = refl

pub none-behind : (asked : Option SheetId) (plans : List Plan) (n : ℕ) → length plans ≤ n → others asked (drop n plans) ≡ []
none-behind asked plans n past = ap (others asked) (drop_all n plans past)

pub among-others : (asked : Option SheetId) (plans : List Plan) (n : ℕ) (p : Plan) → slice_get plans n ≡ Some p → is_exempt asked p ≡ false → Contains (others asked plans) p
among-others asked plans n p at other = Contains-filter (λ q. not (is_exempt asked q)) plans p (contains-get plans n p at) (ap not other)

-- what is alike of the plans from these places on is alike of all, and back
pub record StandsFor (asked : Option SheetId) (before after : List Plan) (from to : ℕ) : Type 0 where
  pub from_within : from ≤ length before
  pub to_within : to ≤ length after
  pub all : AreAlike (others asked (drop from before)) (others asked (drop to after)) → AreAlike (others asked before) (others asked after)
  pub rest : AreAlike (others asked before) (others asked after) → AreAlike (others asked (drop from before)) (others asked (drop to after))

module _ (asked : Option SheetId) (before after : List Plan) (from to : ℕ) (stands : StandsFor asked before after from to) where
  pub one-left : (p : Plan) → slice_get before from ≡ Some p → is_exempt asked p ≡ true → from < length before → StandsFor asked before after (from + 1) to
  one-left p at asks less = let e = passes asked before from p at asks in record {
    from_within = omega arith;
    to_within = stands.to_within;
    all = λ alike. stands.all (subst (λ xs. AreAlike xs (others asked (drop to after))) (sym e) alike);
    rest = λ alike. subst (λ xs. AreAlike xs (others asked (drop to after))) e (stands.rest alike);
  }

  pub one-right : (q : Plan) → slice_get after to ≡ Some q → is_exempt asked q ≡ true → to < length after → StandsFor asked before after from (to + 1)
  one-right q at asks less = let e = passes asked after to q at asks in record {
    from_within = stands.from_within;
    to_within = omega arith;
    all = λ alike. stands.all (subst (AreAlike (others asked (drop from before))) (sym e) alike);
    rest = λ alike. subst (AreAlike (others asked (drop from before))) e (stands.rest alike);
  }

  module _ (p q : Plan) (at : slice_get before from ≡ Some p) (at' : slice_get after to ≡ Some q) (other : is_exempt asked p ≡ false) (other' : is_exempt asked q ≡ false) where
    -- of both next plans
    pub next-alike : IsAlike p q → AreAlike (others asked (drop (from + 1) before)) (others asked (drop (to + 1) after)) → AreAlike (others asked before) (others asked after)
    next-alike one rest = stands.all (subst (λ xs. AreAlike xs (others asked (drop to after))) (sym (keeps asked before from p at other))
        (subst (AreAlike (p ∷ others asked (drop (from + 1) before))) (sym (keeps asked after to q at' other')) (one, rest)))

    pub alike-next : AreAlike (others asked before) (others asked after) → IsAlike p q × AreAlike (others asked (drop (from + 1) before)) (others asked (drop (to + 1) after))
    alike-next alike = subst (λ ys. AreAlike (p ∷ others asked (drop (from + 1) before)) ys) (keeps asked after to q at' other')
        (subst (λ xs. AreAlike xs (others asked (drop to after))) (keeps asked before from p at other) (stands.rest alike))

    pub both-next : IsAlike p q → from < length before → to < length after → StandsFor asked before after (from + 1) (to + 1)
    both-next one less less' = record {
      from_within = omega arith;
      to_within = omega arith;
      all = λ rest. next-alike one rest;
      rest = λ alike. (alike-next alike).1;
    }

    pub is-unlike : (u : Unlike) → IsUnlikePlan p q u → IsUnlike (others asked before) (others asked after) u
    is-unlike Changed differ = λ alike. differ (alike-next alike).0.0
    is-unlike (Moved sheet i stood stands') moved = (
      λ alike. moved.1.differ (moved.1.stands_is ∙ (alike-next alike).0.1 i moved.1.fixed moved.1.within ∙ sym moved.1.stood_is),
      record { plan = p; other = q; planned = among-others asked before from p at other; planned_too = among-others asked after to q at' other'; same = moved.0; moved = moved.1 },
    )

pub alike-empty : (xs ys : List Plan) → AreAlike xs ys → (xs ≡ [] → ys ≡ []) × (ys ≡ [] → xs ≡ [])
alike-empty [] [] alike = (λ e. refl, λ e. refl)
alike-empty [] (y ∷ ys) alike = absurd alike
alike-empty (x ∷ xs) [] alike = absurd alike
alike-empty (x ∷ xs) (y ∷ ys) alike = (λ e. absurd cc, λ e. absurd cc)

-- one list has a plan left where the other has none
pub unlike-left : (xs ys : List Plan) (left more : Bool) → (xs ≡ [] → left ≡ true) → (ys ≡ [] → more ≡ true) → (xs ≡ []) ⊎ (ys ≡ []) → ((left ≡ true) × (more ≡ false)) ⊎ (left ≡ false) → AreAlike xs ys → ⊥
unlike-left xs ys left more is is' ended either alike = go ended either where
  both : xs ≡ [] → ys ≡ [] → ((left ≡ true) × (more ≡ false)) ⊎ (left ≡ false) → ⊥
  both e f (inl one) = let t = is' f in let u = one.1 in cc
  both e f (inr one) = let t = is e in cc

  go : (xs ≡ []) ⊎ (ys ≡ []) → ((left ≡ true) × (more ≡ false)) ⊎ (left ≡ false) → ⊥
  go (inl e) o = both e ((alike-empty xs ys alike).0 e) o
  go (inr f) o = both ((alike-empty xs ys alike).1 f) f o
