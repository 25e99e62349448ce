-- The end of the asked copy on its line, and the end of its front.
use Rattle.std.proofs.Common.{◌≡◌, ℕ, ◌<◌, Bool, true, false, cond, List, [], ◌∷◌, length, refl, arith, ◌∙◌}
use Rattle.std.specs.Prelude.{◌≤ℤ◌, ◌+ℤ◌, pos}
use Rattle.std.proofs.lemmas.List.Elements.{All-nil, All-cons, All-head}
use Rattle.std.proofs.lemmas.Int.{ints}
use Rattle.tp_machine.specs.declared.machine.Machine.{Machine}
use Rattle.tp_schedule.specs.Plans.{is_fixed, point, is_before, is_delivered_to, goes_to}
use Rattle.tp_schedule.specs.Answers.{kept_of, IsAsked, IsFrontOf, IsAskedFrom}
use Rattle.tp_schedule.specs.declared.parts.Ask.{Ask}
use Rattle.tp_schedule.specs.declared.parts.Origin.{Origin}
use Rattle.tp_schedule.specs.declared.parts.Origin.TheVariants.{Feeder as FromFeeder, Front as FromFront}
use Rattle.tp_schedule.specs.declared.parts.Plan.{Plan}
use Rattle.tp_schedule.specs.Spots.{Ticks}
use Rattle.tp_schedule.specs.Spots.Spot.{kept, own}
use Rattle.tp_schedule.specs.Times.{KeepsTimes, at}
use Rattle.tp_schedule.specs.Choices.{start_floor}
use Rattle.tp_constraints.specs.Gaps.{Gap, KeepsGap, KeepsGaps, gap, end_spot, is_in_line}
use Rattle.tp_constraints.specs.Suffixes.{IsInFlight, end_gap}
use Rattle.tp_schedule.proofs.CopyFacts.{same_copy-refl, same_copy-is, before-not_same, before-trans}
use Rattle.tp_choices.proofs.PlansOf.{plan_of-contains}
use Rattle.tp_constraints.proofs.LineGaps.{in-line, line-of}

-- the line of the end
module _ (ask : Ask) (t : Ticks) (p : Plan) where
  abbrev before : Gap
  before = gap (end_spot p) (own 0) (pos 1)

  abbrev after : Gap
  after = gap (own 0) (end_spot p) (pos 1)

  abbrev InLine : Type 0
  InLine = (tray : ℕ) → goes_to ask.goal tray ≡ true → is_delivered_to p tray ≡ true →
      (is_before p.sheet ask.sheet ≡ true → at t p (length p.acts) < t (own 0)) × (is_before ask.sheet p.sheet ≡ true → t (own 0) < at t p (length p.acts))

  not-both : is_before p.sheet ask.sheet ≡ true → is_before ask.sheet p.sheet ≡ true → ⊥
  not-both a b =
      let c = before-not_same p.sheet p.sheet (before-trans p.sheet ask.sheet p.sheet a b) in
      let d = same_copy-refl p.sheet in
      absurd cc

  pub line-from_gap : KeepsGaps t (end_gap ask p) → InLine
  line-from_gap keeps tray to-tray p-to = go (is_in_line ask.goal p) (is_before p.sheet ask.sheet) (is_before ask.sheet p.sheet) refl refl refl keeps where
    go : (a b c : Bool) → is_in_line ask.goal p ≡ a → is_before p.sheet ask.sheet ≡ b → is_before ask.sheet p.sheet ≡ c → KeepsGaps t (cond a (cond b (before ∷ []) (cond c (after ∷ []) [])) [])
        → (is_before p.sheet ask.sheet ≡ true → at t p (length p.acts) < t (own 0)) × (is_before ask.sheet p.sheet ≡ true → t (own 0) < at t p (length p.acts))
    go false b c x y z keeps' = let e = in-line ask.goal p tray to-tray p-to in absurd cc
    go true true c x y z keeps' =
        let h : (pos (t (end_spot p)) +ℤ pos 1) ≤ℤ pos (t (own 0)) = All-head (KeepsGap t) before [] keeps' in
        (λ _. omega (arith, ints), λ q. absurd (not-both y q))
    go true false true x y z keeps' =
        let h : (pos (t (own 0)) +ℤ pos 1) ≤ℤ pos (t (end_spot p)) = All-head (KeepsGap t) after [] keeps' in
        (λ q. absurd cc, λ _. omega (arith, ints))
    go true false false x y z keeps' = (λ q. absurd cc, λ q. absurd cc)

  pub gap-from_line : InLine → KeepsGaps t (end_gap ask p)
  gap-from_line line = go (is_in_line ask.goal p) (is_before p.sheet ask.sheet) (is_before ask.sheet p.sheet) refl refl refl where
    go : (a b c : Bool) → is_in_line ask.goal p ≡ a → is_before p.sheet ask.sheet ≡ b → is_before ask.sheet p.sheet ≡ c → KeepsGaps t (cond a (cond b (before ∷ []) (cond c (after ∷ []) [])) [])
    go false b c x y z = All-nil (KeepsGap t)
    go true true c x y z =
        let o = line-of ask.goal p x in
        let h : t (end_spot p) < t (own 0) = (line o.0 o.1 o.2).0 y in
        All-cons (KeepsGap t) before [] (omega (arith, ints)) (All-nil (KeepsGap t))
    go true false true x y z =
        let o = line-of ask.goal p x in
        let h : t (own 0) < t (end_spot p) = (line o.0 o.1 o.2).1 z in
        All-cons (KeepsGap t) after [] (omega (arith, ints)) (All-nil (KeepsGap t))
    go true false false x y z = All-nil (KeepsGap t)

-- the front's end is where the ask says
pub front-tick : (machine : Machine) (plans : List Plan) (ask : Ask) (t : Ticks) → IsAsked machine plans ask → IsInFlight ask.origin → KeepsTimes machine ask.now (λ _. false) plans t
    → t (kept ask.sheet (kept_of ask)) ≡ start_floor machine ask.now ask.origin
front-tick machine plans ask t asked can keeps = go ask.origin refl asked can where
  go : (o : Origin) → ask.origin ≡ o → IsAskedFrom machine plans ask o → IsInFlight o → t (kept ask.sheet (kept_of ask)) ≡ start_floor machine ask.now ask.origin
  go FromFeeder e asked' can' = absurd can'
  go (FromFront state end count) e asked' can' =
      let p = asked'.0 in
      let front : IsFrontOf machine ask state end count asked'.0 = asked'.2 in
      let found = plan_of-contains ask.sheet plans asked'.0 asked'.1 in
      let same : asked'.0.sheet ≡ ask.sheet = same_copy-is asked'.0.sheet ask.sheet found.1 in
      let fixed : is_fixed asked'.0 (length asked'.0.acts) ≡ true = rw front.front refl in
      let value : t (kept asked'.0.sheet (length asked'.0.acts)) ≡ point asked'.0 (length asked'.0.acts) = keeps.fixed asked'.0 found.0 (length asked'.0.acts) fixed (omega arith) in
      let here : t (kept ask.sheet count) ≡ end = rw (same, front.acts) at (value ∙ front.ends) in
      rw e here
