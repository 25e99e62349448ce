-- A schedule stays least where the actions of the asked copy in flight are released that are due.
use Rattle.std.proofs.Common.{◌≡◌, ℕ, ◌+◌, ◌≤◌, ◌<◌, Bool, true, false, ◌&&◌, ◌||◌, List, [], ◌∷◌, ◌++◌, length, map, refl, sym, arith, ◌∙◌, ap, subst, cond, nat_le, nat_lt, Contains, AllPairs, Some}
use Rattle.std.specs.Prelude.{IsTrue}
use Rattle.std.proofs.lemmas.Bool.Decides.{nat_tests}
use Rattle.std.proofs.lemmas.List.Concat.{flat_map-cons}
use Rattle.std.proofs.lemmas.List.Elements.{All-contains}
use Rattle.tp_machine.specs.Modes.{gap_at}
use Rattle.tp_machine.specs.declared.machine.Machine.{Machine}
use Rattle.tp_schedule.specs.Answers.{IsLeast, IsRetimed, KeepsHorizon, follows_front, kept_of}
use Rattle.tp_schedule.specs.Legality.{IsLegal}
use Rattle.tp_schedule.specs.PlannerAnswers.{none_exempt}
use Rattle.tp_schedule.specs.Plans.{change_plan, is_before, is_fixed, is_front, is_same_copy, plan_of, point}
use Rattle.tp_schedule.specs.Spots.{IsApart, Spot, Ticks, by_begin, point_in, slot_order, slots, slots_of, ticks_of}
use Rattle.tp_schedule.specs.Spots.Spot.{kept, own}
use Rattle.tp_schedule.specs.Times.{EndsBeforeAt, KeepsOrders, KeepsTimes, timed_by}
use Rattle.tp_schedule.specs.declared.parts.Ask.{Ask}
use Rattle.tp_schedule.specs.declared.parts.Plan.{Plan}
use Rattle.tp_schedule.specs.declared.parts.SheetId.{SheetId}
use Rattle.tp_schedule.proofs.CopyFacts.{InOrder, before-not_same', plan_of-itself, same_copy-is}
use Rattle.tp_schedule.proofs.Membership.{Contains-here, Contains-later, Contains-map, Contains-map_from}
use Rattle.tp_schedule.proofs.Pairs.{AllPairs-each, AllPairs-head, AllPairs-tail}
use Rattle.tp_choices.proofs.CompletePlans.{point-timed_by}
use Rattle.tp_choices.proofs.RetimedSchedules.{retimed_ticks, ticks_retime}
use Rattle.tp_choices.proofs.Unmoved.{ordered_pair}
use Rattle.tp_event_rules.specs.Moments.{due_until, release_until}

-- more releases fix more points
fixed-more : (front : Bool) (a b i : ℕ) → a ≤ b → (front || (nat_lt 0 a && nat_le i a)) ≡ true → (front || (nat_lt 0 b && nat_le i b)) ≡ true
fixed-more front a b i more e = grind (arith, nat_tests)

other-copy : (a b : Bool) → (a && b) ≡ false → b ≡ true → a ≡ false
other-copy true b e f = absurd (let both : true ≡ false = sym f ∙ e in cc)
other-copy false b e f = refl

module _ (last : ℕ) (copy : SheetId) where
  -- the plan of the copy with what is due released, and any other one as it is
  abbrev pub released_to : Plan → ℕ
  released_to p = cond (is_same_copy p.sheet copy) (p.released + length (due_until last p)) p.released

  abbrev pub freed : Plan → Plan
  freed p = record p { released = released_to p }

  more-released : (p : Plan) → p.released ≤ released_to p
  more-released p = go (is_same_copy p.sheet copy) where
    go : (b : Bool) → p.released ≤ cond b (p.released + length (due_until last p)) p.released
    go true = omega arith
    go false = omega arith

  others-stay : (plans : List Plan) → ((q : Plan) → Contains plans q → is_same_copy q.sheet copy ≡ false) → map freed plans ≡ plans
  others-stay [] others = refl
  others-stay (p ∷ plans) others = go (is_same_copy p.sheet copy) (others p (Contains-here p plans)) (others-stay plans (λ q in'. others q (Contains-later p plans q in'))) where
    go : (b : Bool) → b ≡ false → map freed plans ≡ plans → record p { released = cond b (p.released + length (due_until last p)) p.released } ∷ map freed plans ≡ p ∷ plans
    go true e rest = absurd (cc)
    go false e rest = ap (λ ps. p ∷ ps) rest

  pub change-is : (plans : List Plan) → InOrder plans → change_plan copy (release_until last) plans ≡ map freed plans
  change-is [] in_order = refl
  change-is (p ∷ plans) in_order =
      go (is_same_copy p.sheet copy) refl (change-is plans (AllPairs-tail (λ p q. IsTrue (is_before p.sheet q.sheet)) p plans in_order)) where
        later : is_same_copy p.sheet copy ≡ true → (q : Plan) → Contains plans q → is_same_copy q.sheet copy ≡ false
        later e q in' =
            let before = All-contains (λ q. IsTrue (is_before p.sheet q.sheet)) plans q (AllPairs-head (λ p q. IsTrue (is_before p.sheet q.sheet)) p plans in_order) in' in
            subst (λ c. is_same_copy q.sheet c ≡ false) (same_copy-is p.sheet copy e) (before-not_same' p.sheet q.sheet before)

        go : (b : Bool) → is_same_copy p.sheet copy ≡ b → change_plan copy (release_until last) plans ≡ map freed plans
            → cond b (release_until last p ∷ plans) (p ∷ change_plan copy (release_until last) plans) ≡ record p { released = cond b (p.released + length (due_until last p)) p.released } ∷ map freed plans
        go true e rest = ap (λ ps. release_until last p ∷ ps) (sym (others-stay plans (later e)))
        go false e rest = ap (λ ps. p ∷ ps) rest

module _ (machine : Machine) (now : ℕ) (ask : Ask) (plans : List Plan) (legal : IsLegal machine plans) (horizon : KeepsHorizon machine now plans) (flies : 0 < kept_of ask) where
  abbrev free : Plan → Plan
  free p = freed (now + machine.lead) ask.sheet p

  slots-same : (r : ℕ) (ps : List Plan) → slots machine r (map free ps) ≡ slots machine r ps
  slots-same r [] = refl
  slots-same r (p ∷ ps) = flat_map-cons (slots_of machine r) (free p) (map free ps) ∙ ap (λ xs. slots_of machine r p ++ xs) (slots-same r ps) ∙ sym (flat_map-cons (slots_of machine r) p ps)

  point-same : (copy : SheetId) (i : ℕ) (ps : List Plan) → point_in (plan_of copy (map free ps)) i ≡ point_in (plan_of copy ps) i
  point-same copy i [] = refl
  point-same copy i (p ∷ ps) = go (is_same_copy p.sheet copy) (point-same copy i ps) where
    go : (b : Bool) → point_in (plan_of copy (map free ps)) i ≡ point_in (plan_of copy ps) i
        → point_in (cond b (Some (free p)) (plan_of copy (map free ps))) i ≡ point_in (cond b (Some p) (plan_of copy ps)) i
    go true same = refl
    go false same = same

  ticks-same : (s : Spot) → ticks_of (map free plans) s ≡ ticks_of plans s
  ticks-same (kept copy i) = point-same copy i plans
  ticks-same (own n) = refl

  order-same : (r : ℕ) → slot_order machine (map free plans) r ≡ slot_order machine plans r
  order-same r = λ k. by_begin (λ s. ticks-same s k) (slots-same r plans k)

  module _ (legal' : IsLegal machine (map free plans)) (other : List Plan) (re : IsRetimed machine now none_exempt (map free plans) other) where
    abbrev t : Ticks
    t = ticks_of other

    will : KeepsTimes machine now none_exempt (map free plans) t × KeepsOrders machine (map free plans) t
    will = retimed_ticks machine now none_exempt (map free plans) other legal' (λ p points. refl) re

    there : (p : Plan) → Contains plans p → Contains (map free plans) (free p)
    there p in' = Contains-map free plans p in'

    stays : (p : Plan) → Contains plans p → (i : ℕ) → is_fixed (free p) i ≡ true → i ≤ length p.acts → t (kept p.sheet i) ≡ point p i
    stays p in' i fixed le = will.0.fixed (free p) (there p in') i fixed le

    keeps : KeepsTimes machine now (follows_front ask) plans t
    keeps = record {
      lasts = λ p in' i act is. will.0.lasts (free p) (there p in') i act is;
      fixed = λ p in' i fixed le. stays p in' i (fixed-more (is_front p.kind) p.released (released_to (now + machine.lead) ask.sheet p) i (more-released (now + machine.lead) ask.sheet p) fixed) le;
      floors = λ p in' exempt i unreleased within. floor p in' exempt i unreleased within;
      horizon = λ p in' i le loose. bound p in' i le loose (is_fixed (free p) i) refl;
      rise = AllPairs-each (λ p q. IsTrue (is_before p.sheet q.sheet)) (EndsBeforeAt t) plans legal.in_order
          (λ p q in-p in-q before tray to-p to-q. ordered_pair (EndsBeforeAt t) (map free plans) (free p) (free q) legal'.in_order will.0.rise (there p in-p) (there q in-q) before tray to-p to-q);
    } where
      floor : (p : Plan) → Contains plans p → follows_front ask p ≡ false → (i : ℕ) → p.released ≤ i → i < length p.acts → now + machine.lead < t (kept p.sheet i)
      floor p in' exempt i unreleased within =
          let above : nat_lt 0 (kept_of ask) ≡ true = grind (arith, nat_tests) in
          let other = other-copy (is_same_copy p.sheet ask.sheet) (nat_lt 0 (kept_of ask)) exempt above in
          let same : released_to (now + machine.lead) ask.sheet p ≡ p.released = ap (λ b. cond b (p.released + length (due_until (now + machine.lead) p)) p.released) other in
          will.0.floors (free p) (there p in') refl i (omega (arith, same, unreleased)) within

      bound : (p : Plan) → Contains plans p → (i : ℕ) → i ≤ length p.acts → is_fixed p i ≡ false → (b : Bool) → is_fixed (free p) i ≡ b → t (kept p.sheet i) ≤ now + machine.window
      bound p in' i le loose true e = let same = stays p in' i e le in let high = horizon p in' i le loose in omega (arith, same, high)
      bound p in' i le loose false e = will.0.horizon (free p) (there p in') i le e

    in-order : KeepsOrders machine plans t
    in-order r = subst (AllPairs (IsApart (gap_at machine r) t)) (order-same r) (will.1 r)

    earliest : IsLeast machine now (follows_front ask) plans → (p : Plan) → Contains plans p → (i : ℕ) → i ≤ length p.acts → point p i ≤ t (kept p.sheet i)
    earliest least p in' i le =
        let new = ticks_retime machine now (follows_front ask) plans t legal (λ p points. refl) keeps in-order in
        let found : plan_of p.sheet (map (timed_by t) plans) ≡ Some (timed_by t p) = plan_of-itself (map (timed_by t) plans) (timed_by t p) new.legal.in_order (Contains-map (timed_by t) plans p in') in
        let at : ticks_of (map (timed_by t) plans) (kept p.sheet i) ≡ t (kept p.sheet i) = rw found (point-timed_by t p i le) in
        let low = least (map (timed_by t) plans) new p in' i le in
        omega (arith, low, at)

  pub least-freed : IsLegal machine (map free plans) → IsLeast machine now (follows_front ask) plans → IsLeast machine now none_exempt (map free plans)
  least-freed legal' least other re q in' i le =
      let c = Contains-map_from free plans q in' in
      subst (λ r. point r i ≤ ticks_of other (kept r.sheet i)) (sym c.2) (earliest legal' other re least c.0 c.1 i (subst (λ r. i ≤ length r.acts) c.2 le))
