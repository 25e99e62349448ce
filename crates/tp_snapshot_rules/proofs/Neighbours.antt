-- Where each stands before the next one, each stands before all later ones.
use Rattle.std.proofs.Common.{◌≡◌, ◌≢◌, ◌+◌, ℕ, zero, suc, ◌<◌, ◌≤◌, true, false, List, [], ◌∷◌, length, get_or, map, All, AllPairs, inl, inr, sym, ◌∙◌, ◌-◌, arith, ◌⊎◌, subst}
use Rattle.std.proofs.lemmas.Bool.{cases_lt}
use Rattle.std.proofs.lemmas.Bool.Decides.{nat_tests}
use Rattle.std.proofs.lemmas.List.{get_or_default}
use Rattle.tp_machine.proofs.Lists.{AllPairs-cons, AllPairs-nil}
use Rattle.tp_schedule.proofs.CopyFacts.{before-trans}
use Rattle.tp_schedule.specs.Plans.{IsEarlier, is_before}
use Rattle.tp_schedule.specs.declared.parts.Plan.{Plan}
use Rattle.tp_schedule.specs.declared.parts.SheetId.{SheetId}
use Rattle.tp_jobs.specs.declared.parts.WaitingCopy.{WaitingCopy}
use Rattle.tp_event_rules.proofs.ListFacts.{AllPairs-map_list}
use Rattle.tp_event_rules.specs.StateInvariants.{is_same_sheet}
use Rattle.tp_snapshot_rules.specs.Rules.{AreInOrder, AreOfOthers, WaitsBefore}

-- each of the first few stands so to the next one
module _ {X : Type 0} (R : X → X → Type 0) where
  abbrev pub AreNext : ℕ → List X → Type 0
  AreNext n xs = (k : ℕ) (d : X) → k + 1 < n → k + 1 < length xs → R (get_or xs k d) (get_or xs (k + 1) d)

module _ {X : Type 0} (R : X → X → Type 0) (trans : (x y z : X) → R x y → R y z → R x z) where
  head-all : (x : X) (xs : List X) → AllPairs R xs → ((d : X) → 0 < length xs → R x (get_or xs 0 d)) → All (R x) xs
  head-all x xs rest next zero d low = next d low
  head-all x xs rest next (suc k) d low = trans x (get_or xs 0 d) (get_or xs (suc k) d) (next d (omega (arith, low))) (rest 0 (suc k) d (omega arith) low)

  from-next : (xs : List X) → ((k : ℕ) (d : X) → suc k < length xs → R (get_or xs k d) (get_or xs (suc k) d)) → AllPairs R xs
  from-next [] next = AllPairs-nil R
  from-next (x ∷ xs) next =
      let rest = from-next xs (λ k d low. next (suc k) d (omega (arith, low))) in
      AllPairs-cons R x xs (head-all x xs rest (λ d low. next 0 d (omega (arith, low)))) rest

  pub all-from-next : (n : ℕ) (xs : List X) → length xs ≤ n → AreNext R n xs → AllPairs R xs
  all-from-next n xs le next = from-next xs (λ k d low. (let e : k + 1 ≡ suc k = omega arith in subst (λ j. R (get_or xs k d) (get_or xs j d)) e (next k d (omega (arith, low, le)) (omega (arith, low)))))

pub plans-from-next : (n : ℕ) (plans : List Plan) → length plans ≤ n → AreNext IsEarlier n plans → AreInOrder plans
plans-from-next n plans le next = all-from-next IsEarlier (λ p q r a b. before-trans p.sheet q.sheet r.sheet a b) n plans le next

pub waiting-from-next : (n : ℕ) (waiting : List WaitingCopy) → length waiting ≤ n → AreNext WaitsBefore n waiting → AllPairs WaitsBefore waiting
waiting-from-next n waiting le next = all-from-next WaitsBefore (λ v w u a b. before-trans v.sheet w.sheet u.sheet a b) n waiting le next

-- ---- copies in order, of which neighbours are of other sheets

same-between : (a b c : SheetId) → is_before a b ≡ true → is_before b c ≡ true → is_same_sheet a b ≡ false → is_same_sheet a c ≡ false
same-between a b c before after other = grind (arith, nat_tests)

-- it stands before, and is of another sheet
pub record IsApart (v w : WaitingCopy) : Type 0 where
  pub before : is_before v.sheet w.sheet ≡ true
  pub other : is_same_sheet v.sheet w.sheet ≡ false

apart-trans : (v w u : WaitingCopy) → IsApart v w → IsApart w u → IsApart v u
apart-trans v w u a b = record { before = before-trans v.sheet w.sheet u.sheet a.before b.before; other = same-between v.sheet w.sheet u.sheet a.before b.before a.other }

abbrev pub IsOfOther : WaitingCopy → WaitingCopy → Type 0
IsOfOther v w = AreOfOthers v.sheet w.sheet

pub apart-from-next : (n : ℕ) (waiting : List WaitingCopy) → length waiting ≤ n → AllPairs WaitsBefore waiting → AreNext IsOfOther n waiting → AllPairs AreOfOthers (map (λ w. w.sheet) waiting)
apart-from-next n waiting le order next =
    let all = all-from-next IsApart apart-trans n waiting le (λ k d low within. record { before = order k (k + 1) d (omega arith) within; other = next k d low within }) in
    AllPairs-map_list AreOfOthers (λ (w : WaitingCopy). w.sheet) waiting (λ i j d low within. (all i j d low within).other)

-- ---- what holds of the first few, and of one more

module _ {X : Type 0} (P : X → Type 0) (xs : List X) where
  -- of the first few
  abbrev pub AreSo : ℕ → Type 0
  AreSo n = (k : ℕ) (d : X) → k < n → k < length xs → P (get_or xs k d)

  at-place : (i : ℕ) (x : X) → i < length xs → x ≡ get_or xs i x → (d : X) → x ≡ get_or xs i d
  at-place i x low is d = is ∙ get_or_default xs i x d low

  pub one-more : (i : ℕ) (x : X) → i < length xs → x ≡ get_or xs i x → P x → AreSo i → AreSo (i + 1)
  one-more i x low is here so k d under within = go (cases_lt k i) where
    go : (k < i) ⊎ (i ≤ k) → P (get_or xs k d)
    go (inl less) = so k d less within
    go (inr from) = let e : i ≡ k = omega (arith, from, under) in subst (λ j. P (get_or xs j d)) e (subst P (at-place i x low is d) here)

-- two neighbours that do not stand so
pub neighbours-fail : {X : Type 0} (R : X → X → Type 0) (xs : List X) (i : ℕ) (x y : X) → 0 < i → i < length xs → x ≡ get_or xs (i - 1) x → y ≡ get_or xs i y → ¬ R x y → ¬ AllPairs R xs
neighbours-fail R xs i x y some low first second never all =
    let before : x ≡ get_or xs (i - 1) y = first ∙ get_or_default xs (i - 1) x y (omega (arith, low)) in
    never (subst (λ z. R z y) (sym before) (subst (R (get_or xs (i - 1) y)) (sym second) (all (i - 1) i y (omega (arith, some)) low)))
