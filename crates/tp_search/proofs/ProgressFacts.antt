-- How far the children of a list were looked at: from one place, or action, to the next.
use Rattle.std.proofs.Common.{◌≡◌, ◌↔◌, ◌⊎◌, inl, inr, ℕ, suc, ◌+◌, ◌<◌, ◌≤◌, List, [], ◌∷◌, ◌++◌, refl, ap, sym, ◌∙◌, arith, subst}
use Rattle.std.proofs.lemmas.Bool.{cases_lt}
use Rattle.std.proofs.lemmas.List.{append-nil, append_assoc}
use Rattle.tp_schedule.specs.Choices.{Choice, ChoiceList}
use Rattle.tp_search.specs.OpenedLists.{AreTriedBefore, IsAhead, IsLooked, IsUnder}
use Rattle.tp_search.specs.OpenedLists.Progress.{through, up_to}

pub tried-itself : (xs : List ℕ) → AreTriedBefore xs xs → ⊥
tried-itself [] tried = tried
tried-itself (x ∷ xs) (inl less) = omega arith
tried-itself (x ∷ xs) (inr same) = tried-itself xs same.1

pub tried-none : (xs : List ℕ) → AreTriedBefore xs [] → ⊥
tried-none [] tried = tried
tried-none (x ∷ xs) tried = tried

tried-longer : (xs ys more : List ℕ) → AreTriedBefore xs ys → AreTriedBefore xs (ys ++ more)
tried-longer [] ys more tried = absurd tried
tried-longer (x ∷ xs) [] more tried = absurd tried
tried-longer (x ∷ xs) (y ∷ ys) more (inl less) = inl less
tried-longer (x ∷ xs) (y ∷ ys) more (inr same) = inr (same.0, tried-longer xs ys more same.1)

-- with one place more, it is before that place that they differ, or at it
tried-split : (xs ys : List ℕ) (n : ℕ) → AreTriedBefore xs (ys ++ n ∷ []) → AreTriedBefore xs ys ⊎ ((k : ℕ) × (rest : List ℕ) × (n < k) × (xs ≡ ys ++ k ∷ rest))
tried-split [] ys n tried = absurd tried
tried-split (x ∷ xs) [] n (inl less) = inr (x, xs, less, refl)
tried-split (x ∷ xs) [] n (inr same) = absurd (tried-none xs same.1)
tried-split (x ∷ xs) (y ∷ ys) n (inl less) = inl (inl less)
tried-split (x ∷ xs) (y ∷ ys) n (inr same) = elim (tried-split xs ys n same.1) [
  | inl tried ↦ inl (inr (same.0, tried))
  | inr at ↦ inr (at.0, at.1, at.2, ap (λ m. m ∷ xs) same.0 ∙ ap (λ ns. y ∷ ns) at.3)
]

tried-at : (xs ys rest : List ℕ) (k n : ℕ) → n < k → xs ≡ ys ++ k ∷ rest → AreTriedBefore xs (ys ++ n ∷ [])
tried-at [] [] rest k n less is = absurd cc
tried-at [] (y ∷ ys) rest k n less is = absurd (let e : [] ≡ y ∷ (ys ++ k ∷ rest) = is in cc)
tried-at (x ∷ xs) [] rest k n less is = inl (let e : x ≡ k = cc in omega arith)
tried-at (x ∷ xs) (y ∷ ys) rest k n less is =
    let first : x ≡ y = (let e : x ∷ xs ≡ y ∷ (ys ++ k ∷ rest) = is in cc) in
    let later : xs ≡ ys ++ k ∷ rest = (let e : x ∷ xs ≡ y ∷ (ys ++ k ∷ rest) = is in cc) in
    inr (first, tried-at xs ys rest k n less later)

-- the newest choice has this action, and behind these places a next one such as P
pub record IsNext (P : ℕ → Type 0) (act : ℕ) (places : List ℕ) (l : ChoiceList) : Type 0 where
  pub choice : Choice
  pub choices : List Choice
  pub newest : l.choices ≡ choice ∷ choices
  pub same : choice.act.0 ≡ act
  pub place : ℕ
  pub rest : List ℕ
  pub is : P place
  pub starts : choice.places ≡ places ++ place ∷ rest

-- or these places alone
pub record IsAlone (act : ℕ) (places : List ℕ) (l : ChoiceList) : Type 0 where
  pub choice : Choice
  pub choices : List Choice
  pub newest : l.choices ≡ choice ∷ choices
  pub same : choice.act.0 ≡ act
  pub alone : choice.places ≡ places

next-as : (P Q : ℕ → Type 0) (act : ℕ) (places : List ℕ) (l : ChoiceList) (n : IsNext P act places l) → Q n.place → IsNext Q act places l
next-as P Q act places l n q = record { choice = n.choice; choices = n.choices; newest = n.newest; same = n.same; place = n.place; rest = n.rest; is = q; starts = n.starts }

-- what was looked at up to some places was so up to one place more
pub deeper : (act : ℕ) (places : List ℕ) (n : ℕ) (l : ChoiceList) → IsLooked (up_to act places) l → IsLooked (up_to act (places ++ n ∷ [])) l
deeper act places n l (inl stopped) = inl stopped
deeper act places n l (inr ahead) = inr (go l.choices ahead) where
  go : (choices : List Choice) → IsAhead act places choices → IsAhead act (places ++ n ∷ []) choices
  go [] none = none
  go (c ∷ choices) (inl lower) = inl lower
  go (c ∷ choices) (inr same) = inr (same.0, tried-longer c.places places (n ∷ []) same.1)

-- and the rest has a later next place
up-split : (act : ℕ) (places : List ℕ) (n : ℕ) (l : ChoiceList) → IsLooked (up_to act (places ++ n ∷ [])) l → IsLooked (up_to act places) l ⊎ IsNext (λ k. n < k) act places l
up-split act places n l (inl stopped) = inl (inl stopped)
up-split act places n l (inr ahead) = go l.choices refl ahead where
  as-ahead : (choices : List Choice) → l.choices ≡ choices → IsAhead act places choices → IsLooked (up_to act places) l
  as-ahead choices is now = inr (rw is now)

  go : (choices : List Choice) → l.choices ≡ choices → IsAhead act (places ++ n ∷ []) choices → IsLooked (up_to act places) l ⊎ IsNext (λ k. n < k) act places l
  go [] is none = absurd none
  go (c ∷ choices) is (inl lower) = inl (as-ahead (c ∷ choices) is (inl lower))
  go (c ∷ choices) is (inr same) = elim (tried-split c.places places n same.1) [
    | inl tried ↦ inl (as-ahead (c ∷ choices) is (inr (same.0, tried)))
    | inr at ↦ inr (record { choice = c; choices = choices; newest = is; same = same.0; place = at.0; rest = at.1; is = at.2; starts = at.3 })
  ]

up-next : (act : ℕ) (places : List ℕ) (n : ℕ) (l : ChoiceList) → IsNext (λ k. n < k) act places l → IsLooked (up_to act (places ++ n ∷ [])) l
up-next act places n l next =
    let now : IsAhead act (places ++ n ∷ []) (next.choice ∷ next.choices) = inr (next.same, tried-at next.choice.places places next.rest next.place n next.is next.starts) in
    inr (subst (IsAhead act (places ++ n ∷ [])) (sym next.newest) now)

-- what was looked at through some places
through-split : (act : ℕ) (places : List ℕ) (n : ℕ) (l : ChoiceList) → IsLooked (through act (places ++ n ∷ [])) l → IsLooked (up_to act places) l ⊎ IsNext (λ k. n ≤ k) act places l
through-split act places n l (inl stopped) = inl (inl stopped)
through-split act places n l (inr (inl ahead)) = elim (up-split act places n l (inr ahead)) [
  | inl earlier ↦ inl earlier
  | inr next ↦ inr (next-as (λ k. n < k) (λ k. n ≤ k) act places l next (let less = next.is in omega (arith, less)))
]
through-split act places n l (inr (inr under)) = inr (go l.choices refl under) where
  go : (choices : List Choice) → l.choices ≡ choices → IsUnder act (places ++ n ∷ []) choices → IsNext (λ k. n ≤ k) act places l
  go [] is none = absurd none
  go (c ∷ choices) is here =
      record { choice = c; choices = choices; newest = is; same = here.0; place = n; rest = here.1.0; is = omega arith; starts = here.1.1 ∙ append_assoc places (n ∷ []) here.1.0 }

through-up : (act : ℕ) (places : List ℕ) (n : ℕ) (l : ChoiceList) → IsLooked (up_to act (places ++ n ∷ [])) l → IsLooked (through act (places ++ n ∷ [])) l
through-up act places n l (inl stopped) = inl stopped
through-up act places n l (inr ahead) = inr (inl ahead)

through-next : (act : ℕ) (places : List ℕ) (n : ℕ) (l : ChoiceList) → IsNext (λ k. n ≤ k) act places l → IsLooked (through act (places ++ n ∷ [])) l
through-next act places n l next = elim (cases_lt n next.place) [
  | inl less ↦ through-up act places n l (up-next act places n l (next-as (λ k. n ≤ k) (λ k. n < k) act places l next less))
  | inr least ↦ (
      let at : next.place ≡ n = (let w = next.is in omega (arith, least, w)) in
      let starts : next.choice.places ≡ (places ++ n ∷ []) ++ next.rest = next.starts ∙ ap (λ k. places ++ k ∷ next.rest) at ∙ sym (append_assoc places (n ∷ []) next.rest) in
      let now : IsUnder act (places ++ n ∷ []) (next.choice ∷ next.choices) = (next.same, (next.rest, starts)) in
      inr (inr (subst (IsUnder act (places ++ n ∷ [])) (sym next.newest) now)))
]

under-split : (act : ℕ) (places : List ℕ) (l : ChoiceList) → IsLooked (through act places) l → IsLooked (up_to act places) l ⊎ (IsNext (λ k. 0 ≤ k) act places l ⊎ IsAlone act places l)
under-split act places l (inl stopped) = inl (inl stopped)
under-split act places l (inr (inl ahead)) = inl (inr ahead)
under-split act places l (inr (inr under)) = inr (go l.choices refl under) where
  at : (c : Choice) (choices : List Choice) → l.choices ≡ c ∷ choices → c.act.0 ≡ act → (rest : List ℕ) → c.places ≡ places ++ rest → IsNext (λ k. 0 ≤ k) act places l ⊎ IsAlone act places l
  at c choices is same [] starts = inr (record { choice = c; choices = choices; newest = is; same = same; alone = starts ∙ append-nil places })
  at c choices is same (k ∷ rest) starts = inl (record { choice = c; choices = choices; newest = is; same = same; place = k; rest = rest; is = omega arith; starts = starts })

  go : (choices : List Choice) → l.choices ≡ choices → IsUnder act places choices → IsNext (λ k. 0 ≤ k) act places l ⊎ IsAlone act places l
  go [] is none = absurd none
  go (c ∷ choices) is here = at c choices is here.0 here.1.0 here.1.1

-- ---- beyond the last place
pub from-beyond : (act : ℕ) (places : List ℕ) (n : ℕ) (l : ChoiceList) → IsLooked (up_to act places) l → IsLooked (through act (places ++ n ∷ [])) l
from-beyond act places n l looked = through-up act places n l (deeper act places n l looked)

pub to-beyond : (act : ℕ) (places : List ℕ) (n : ℕ) (l : ChoiceList) → IsLooked (through act (places ++ n ∷ [])) l → IsLooked (up_to act places) l ⊎ IsNext (λ k. n ≤ k) act places l
to-beyond act places n l looked = through-split act places n l looked

-- ---- up to a place is through the one behind it
pub next-place : (act : ℕ) (places : List ℕ) (n : ℕ) (l : ChoiceList) → IsLooked (up_to act (places ++ n ∷ [])) l ↔ IsLooked (through act (places ++ suc n ∷ [])) l
next-place act places n l = (
  λ looked. elim (up-split act places n l looked) [
    | inl earlier ↦ from-beyond act places (suc n) l earlier
    | inr next ↦ through-next act places (suc n) l (next-as (λ k. n < k) (λ k. suc n ≤ k) act places l next (let less = next.is in omega (arith, less)))
  ],
  λ looked. elim (through-split act places (suc n) l looked) [
    | inl earlier ↦ deeper act places n l earlier
    | inr next ↦ up-next act places n l (next-as (λ k. suc n ≤ k) (λ k. n < k) act places l next (let less = next.is in omega (arith, less)))
  ],
)

-- ---- from a place to the first
pub from-first : (act : ℕ) (places : List ℕ) (n : ℕ) (l : ChoiceList) → IsLooked (up_to act (places ++ n ∷ [])) l → IsLooked (through act (places ++ 0 ∷ [])) l
from-first act places n l looked = elim (up-split act places n l looked) [
  | inl earlier ↦ from-beyond act places 0 l earlier
  | inr next ↦ through-next act places 0 l (next-as (λ k. n < k) (λ k. 0 ≤ k) act places l next (omega arith))
]

pub to-first : (act : ℕ) (places : List ℕ) (n : ℕ) (l : ChoiceList) → IsLooked (through act (places ++ 0 ∷ [])) l → IsLooked (up_to act (places ++ n ∷ [])) l ⊎ IsNext (λ k. k ≤ n) act places l
to-first act places n l looked = elim (through-split act places 0 l looked) [
  | inl earlier ↦ inl (deeper act places n l earlier)
  | inr next ↦ (elim (cases_lt n next.place) [
    | inl less ↦ inl (up-next act places n l (next-as (λ k. 0 ≤ k) (λ k. n < k) act places l next less))
    | inr within ↦ inr (next-as (λ k. 0 ≤ k) (λ k. k ≤ n) act places l next within)
  ])
]

-- ---- and all of them
pub from-all : (act : ℕ) (places : List ℕ) (l : ChoiceList) → IsLooked (through act (places ++ 0 ∷ [])) l → IsLooked (through act places) l
from-all act places l looked = elim (through-split act places 0 l looked) [
  | inl earlier ↦ (elim earlier [ inl stopped ↦ inl stopped | inr ahead ↦ inr (inl ahead) ])
  | inr next ↦ (
      let now : IsUnder act places (next.choice ∷ next.choices) = (next.same, (next.place ∷ next.rest, next.starts)) in
      inr (inr (subst (IsUnder act places) (sym next.newest) now)))
]

pub to-all : (act : ℕ) (places : List ℕ) (l : ChoiceList) → IsLooked (through act places) l → IsLooked (through act (places ++ 0 ∷ [])) l ⊎ IsAlone act places l
to-all act places l looked = elim (under-split act places l looked) [
  | inl earlier ↦ inl (from-beyond act places 0 l earlier)
  | inr under ↦ (elim under [ inl next ↦ inl (through-next act places 0 l next) | inr alone ↦ inr alone ])
]

-- ---- from an action to the next
below-next : (x k : ℕ) → x < suc k → (x < k) ⊎ (x ≡ k)
below-next x k below = elim (cases_lt x k) [
  | inl less ↦ inl less
  | inr more ↦ inr (omega arith)
]

to-act : (act : ℕ) (choices : List Choice) → IsAhead (act + 1) [] choices → IsAhead act [] choices ⊎ IsUnder act [] choices
to-act act [] none = absurd none
to-act act (c ∷ choices) (inl lower) = elim (below-next c.act.0 act (omega arith)) [
  | inl less ↦ inl (inl less)
  | inr same ↦ inr (same, (c.places, refl))
]
to-act act (c ∷ choices) (inr same) = absurd (tried-none c.places same.1)

from-act : (act : ℕ) (choices : List Choice) → IsAhead act [] choices ⊎ IsUnder act [] choices → IsAhead (act + 1) [] choices
from-act act [] (inl none) = none
from-act act [] (inr none) = none
from-act act (c ∷ choices) (inl (inl lower)) = inl (omega arith)
from-act act (c ∷ choices) (inl (inr same)) = absurd (tried-none c.places same.1)
from-act act (c ∷ choices) (inr under) = inl (omega (arith, under.0))

-- up to the next action is through this one
pub next-act : (act : ℕ) (l : ChoiceList) → IsLooked (up_to (act + 1) []) l ↔ IsLooked (through act []) l
next-act act l = (to, from) where
  to : IsLooked (up_to (act + 1) []) l → IsLooked (through act []) l
  to (inl stopped) = inl stopped
  to (inr ahead) = inr (to-act act l.choices ahead)

  from : IsLooked (through act []) l → IsLooked (up_to (act + 1) []) l
  from (inl stopped) = inl stopped
  from (inr looked) = inr (from-act act l.choices looked)
