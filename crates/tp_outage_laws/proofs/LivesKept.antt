-- A plan that an answer or a settling leaves but for its points stays live, started and clear.
use Rattle.std.proofs.Common.{◌≡◌, ℕ, ◌+◌, ◌<◌, ◌≤◌, Bool, true, false, ◌&&◌, ◌||◌, List, map, length, refl, sym, ap, ◌∙◌, arith, Contains, subst, nat_lt}
use Rattle.std.specs.Prelude.{count_by}
use Rattle.std.proofs.lemmas.Bool.Decides.{nat_tests}
use Rattle.std.specs.List.{list_all}
use Rattle.std.proofs.lemmas.List.Sums.{length-filter}
use Rattle.std.proofs.lemmas.List.{length-map}
use Rattle.tp_machine.specs.declared.parts.ActId.{ActId}
use Rattle.tp_machine.specs.declared.machine.Machine.{Machine}
use Rattle.tp_schedule.specs.Answers.{unmoved}
use Rattle.tp_schedule.specs.Holders.{runs_from}
use Rattle.tp_schedule.specs.Plans.{end_of_plan, is_fixed, is_front}
use Rattle.tp_schedule.specs.Routes.{is_act_allowed}
use Rattle.tp_schedule.specs.declared.parts.Plan.{Plan}
use Rattle.tp_event_rules.specs.StateInvariants.{is_clear}
use Rattle.tp_event_rules.specs.Moments.{is_started}
use Rattle.tp_event_rules.specs.States.{SessionState}
use Rattle.tp_event_rules.proofs.AnsweredPlans.{IsUnmoved, unmoved-sheet}
use Rattle.tp_event_rules.proofs.AskedPlans.{IsRetimedPlan, clear-moved, count-unmoved, live-before}
use Rattle.tp_outage_laws.proofs.Falls.{is_open, open_by}
use Rattle.tp_outage_laws.proofs.KeptPoints.{IsKept, ends-on, low-stays}
use Rattle.tp_outage_laws.proofs.Lives.{IsRiding, is_coming}

module _ (machine : Machine) (now : ℕ) (p q : Plan) (k : IsKept machine now p q) where
  same-acts : length q.acts ≡ length p.acts
  same-acts = ap (λ (x : Plan). length x.acts) k.unmoved.is

  -- the other way round
  back : IsRetimedPlan machine now q p
  back = record {
    unmoved = record { is = sym k.unmoved.is };
    timed = k.timed';
    timed' = k.timed;
    floors = k.above';
    fixed = λ i fixed within. sym (k.fixed i (ap (λ (x : Plan). is_fixed x i) (sym k.unmoved.is) ∙ fixed) (let same = same-acts in omega arith));
  }

  pub riding-kept : (copies : ℕ) → IsRiding machine copies now p → IsRiding machine copies now q
  riding-kept copies r = record {
    live = live-before machine now q p back r.live;
    started = λ front i low.
        let within : i < length p.acts = let same = same-acts in omega arith in
        let was = r.started (ap (λ (x : Plan). is_front x.kind) (sym k.unmoved.is) ∙ front) i within in
        let same = low-stays machine now p q k i within was in
        omega arith;
    number = subst (λ c. c.copy ≤ copies) (sym (unmoved-sheet q p k.unmoved)) r.number;
  }

  pub coming-kept : is_coming now q ≡ true → is_coming now p ≡ true
  coming-kept e = go (nat_lt now (end_of_plan p)) refl where
    go : (b : Bool) → nat_lt now (end_of_plan p) ≡ b → b ≡ true
    go true f = refl
    go false f = absurd (let past = ends-on machine now p q k (grind (arith, nat_tests)) in let later : now < end_of_plan q = grind (arith, nat_tests) in omega arith)

pub clear-kept : (machine : Machine) (s : SessionState) (p q : Plan) → IsKept machine s.now p q → is_clear machine s p ≡ true → is_clear machine s q ≡ true
clear-kept machine s p q k clear =
    let acts : q.acts ≡ p.acts = ap (λ (x : Plan). x.acts) k.unmoved.is in
    let one : length p.points ≡ length p.acts + 1 = k.timed.one_more in
    let many : length q.points ≡ length q.acts + 1 = k.timed'.one_more in
    let long : length q.acts ≡ length p.acts = ap (λ (a : List ActId). length a) acts in
    subst (λ l. list_all (λ run. is_started s.now run || is_act_allowed machine s.outs run.act) (runs_from q.sheet 1 l q.points) ≡ true) (sym acts)
    (clear-moved s.now (is_act_allowed machine s.outs) p.sheet q.sheet 1 1 p.acts p.points q.points one (omega arith)
    (λ i within low. let stays = low-stays machine s.now p q k i within low in omega arith) clear)

-- no more open copies come than before
pub coming-fewer : (machine : Machine) (s : SessionState) (qs ps : List Plan) → map unmoved qs ≡ map unmoved ps
    → ((q p : Plan) → Contains qs q → Contains ps p → IsUnmoved q p → IsKept machine s.now p q) → count_by (open_by s (is_coming s.now)) qs ≤ count_by (open_by s (is_coming s.now)) ps
coming-fewer machine s qs ps same kept =
    let fewer = count-unmoved (open_by s (is_coming s.now)) qs ps same (λ q p in' in'' u e. both q p (kept q p in' in'' u) u e) in
    let one = length-filter (open_by s (is_coming s.now)) qs in
    let other = length-filter (open_by s (is_coming s.now)) ps in
    omega arith where
      both : (q p : Plan) → IsKept machine s.now p q → IsUnmoved q p → open_by s (is_coming s.now) q ≡ true → open_by s (is_coming s.now) p ≡ true
      both q p k u e = go (is_open s q) (is_open s p) (ap (is_open s) u.is) (is_coming s.now q) refl e where
        go : (a b : Bool) → a ≡ b → (c : Bool) → is_coming s.now q ≡ c → (a && c) ≡ true → (b && is_coming s.now p) ≡ true
        go true true same true f e = coming-kept machine s.now p q k f
        go true false same c f e = absurd (cc)
        go true true same false f e = absurd (cc)
        go false b same c f e = absurd (cc)

-- as many plans as before
pub same-number : (qs ps : List Plan) → map unmoved qs ≡ map unmoved ps → length qs ≡ length ps
same-number qs ps e = sym (length-map qs unmoved) ∙ ap (λ (l : List Plan). length l) e ∙ length-map ps unmoved
