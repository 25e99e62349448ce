-- Copies that are put among those that wait.
use Rattle.std.proofs.Common.{◌≡◌, ℕ, ◌+◌, ◌≤◌, ◌⊎◌, inl, inr, Bool, true, false, cond, List, [], ◌∷◌, refl, sym, arith, AllPairs, Contains, subst}
use Rattle.std.specs.Prelude.{count_by}
use Rattle.std.proofs.lemmas.Bool.Decides.{nat_tests}
use Rattle.std.proofs.lemmas.List.Elements.{All-nil, All-cons, All-contains}
use Rattle.tp_jobs.specs.Backlogs.{WaitsBefore}
use Rattle.tp_jobs.specs.WaitingCopies.{put_waiting}
use Rattle.tp_jobs.specs.declared.parts.WaitingCopy.{WaitingCopy}
use Rattle.tp_schedule.proofs.Membership.{All-from_contains, Contains-cons_cases, Contains-here, Contains-later}
use Rattle.tp_schedule.proofs.Pairs.{AllPairs-cons, AllPairs-head, AllPairs-tail}
use Rattle.tp_schedule.proofs.CopyFacts.{before-trans}
use Rattle.tp_schedule.specs.Plans.{is_before, is_same_copy}
use Rattle.tp_schedule.specs.declared.parts.SheetId.{SheetId}
use Rattle.tp_event_rules.specs.StateInvariants.{is_copy_of}
use Rattle.tp_event_rules.specs.Lines.{put_all_waiting}
use Rattle.tp_outage_laws.proofs.Counts.{count-cons, count-one, count-put}

abbrev pub waiting_of : ℕ → ℕ → WaitingCopy → Bool
waiting_of job number w = is_copy_of job number w.sheet

pub put-from : (w : WaitingCopy) (ws : List WaitingCopy) (v : WaitingCopy) → Contains (put_waiting ws w) v → (v ≡ w) ⊎ Contains ws v
put-from w [] v in' = elim (Contains-cons_cases w [] v in') [
  | inl e ↦ inl (sym e)
  | inr none ↦ absurd (omega (arith, none.1))
]
put-from w (u ∷ ws) v in' = go (is_before w.sheet u.sheet) in' (put-from w ws v) where
  go : (b : Bool) → Contains (cond b (w ∷ u ∷ ws) (u ∷ put_waiting ws w)) v → (Contains (put_waiting ws w) v → (v ≡ w) ⊎ Contains ws v) → (v ≡ w) ⊎ Contains (u ∷ ws) v
  go true i rest = elim (Contains-cons_cases w (u ∷ ws) v i) [
    | inl e ↦ inl (sym e)
    | inr later ↦ inr later
  ]
  go false i rest = elim (Contains-cons_cases u (put_waiting ws w) v i) [
    | inl e ↦ inr (subst (Contains (u ∷ ws)) e (Contains-here u ws))
    | inr later ↦ elim (rest later) [
      | inl e ↦ inl e
      | inr there ↦ inr (Contains-later u ws v there)
    ]
  ]

pub put-all-from : (more ws : List WaitingCopy) (v : WaitingCopy) → Contains (put_all_waiting ws more) v → Contains ws v ⊎ Contains more v
put-all-from [] ws v in' = inl in'
put-all-from (w ∷ more) ws v in' = elim (put-all-from more (put_waiting ws w) v in') [
  | inl put ↦ elim (put-from w ws v put) [
    | inl e ↦ inr (subst (Contains (w ∷ more)) (sym e) (Contains-here w more))
    | inr there ↦ inl there
  ]
  | inr later ↦ inr (Contains-later w more v later)
]

-- in the order of copies
pub put-order : (w : WaitingCopy) (ws : List WaitingCopy) → ((v : WaitingCopy) → Contains ws v → is_same_copy v.sheet w.sheet ≡ false) → AllPairs WaitsBefore ws → AllPairs WaitsBefore (put_waiting ws w)
put-order w [] other pairs = AllPairs-cons WaitsBefore w [] (All-nil (WaitsBefore w)) pairs
put-order w (u ∷ ws) other pairs = go (is_before w.sheet u.sheet) refl (put-order w ws (λ v in'. other v (Contains-later u ws v in')) (AllPairs-tail WaitsBefore u ws pairs)) where
  go : (b : Bool) → is_before w.sheet u.sheet ≡ b → AllPairs WaitsBefore (put_waiting ws w) → AllPairs WaitsBefore (cond b (w ∷ u ∷ ws) (u ∷ put_waiting ws w))
  go true e rest = AllPairs-cons WaitsBefore w (u ∷ ws)
      (All-cons (WaitsBefore w) u ws e (All-from_contains (WaitsBefore w) ws (λ v in'. before-trans w.sheet u.sheet v.sheet e (All-contains (WaitsBefore u) ws v (AllPairs-head WaitsBefore u ws pairs) in')))) pairs
  go false e rest = AllPairs-cons WaitsBefore u (put_waiting ws w)
      (All-from_contains (WaitsBefore u) (put_waiting ws w) (λ v in'. elim (put-from w ws v in') [
        | inl is ↦ subst (λ (x : WaitingCopy). is_before u.sheet x.sheet ≡ true) (sym is) (before u.sheet w.sheet e (other u (Contains-here u ws)))
        | inr there ↦ All-contains (WaitsBefore u) ws v (AllPairs-head WaitsBefore u ws pairs) there
      ])) rest where
        before : (a b : SheetId) → is_before b a ≡ false → is_same_copy a b ≡ false → is_before a b ≡ true
        before a b p q = grind (arith, nat_tests)

pub count-put_all : (test : WaitingCopy → Bool) (more ws : List WaitingCopy) → count_by test (put_all_waiting ws more) ≡ count_by test ws + count_by test more
count-put_all test [] ws = plus-zero (count_by test ws) where
  plus-zero : (n : ℕ) → n ≡ n + 0
  plus-zero n = omega arith
count-put_all test (w ∷ more) ws =
    let rest = count-put_all test more (put_waiting ws w) in
    let put = count-put test w ws in
    let all = count-cons test w more in
    omega arith

own-sheet : (a : SheetId) → is_copy_of a.job a.number a ≡ true
own-sheet a = grind (arith, nat_tests)

pub put-all-order : (more ws : List WaitingCopy) → ((job number : ℕ) → count_by (waiting_of job number) ws + count_by (waiting_of job number) more ≤ 1) → AllPairs WaitsBefore ws → AllPairs WaitsBefore (put_all_waiting ws more)
put-all-order [] ws few pairs = pairs
put-all-order (w ∷ more) ws few pairs =
    put-all-order more (put_waiting ws w)
    (λ job number. let f = few job number in let put = count-put (waiting_of job number) w ws in let all = count-cons (waiting_of job number) w more in omega arith)
    (put-order w ws (λ v in'. other v in' (is_same_copy v.sheet w.sheet) refl) pairs) where
      other : (v : WaitingCopy) → Contains ws v → (b : Bool) → is_same_copy v.sheet w.sheet ≡ b → b ≡ false
      other v in' false e = refl
      other v in' true e = absurd (
          let f = few w.sheet.job w.sheet.number in
          let one = count-one (waiting_of w.sheet.job w.sheet.number) ws v in' (same-sheet v.sheet w.sheet e) in
          let two = count-one (waiting_of w.sheet.job w.sheet.number) (w ∷ more) w (Contains-here w more) (own-sheet w.sheet) in
          omega arith) where
            same-sheet : (a b : SheetId) → is_same_copy a b ≡ true → is_copy_of b.job b.number a ≡ true
            same-sheet a b e = grind (arith, nat_tests)
