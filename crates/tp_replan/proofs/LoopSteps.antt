-- One answer of the loop: it can go on, and less of its work is left.
use Rattle.std.proofs.Common.{◌≡◌, ◌⊎◌, ℕ, ◌+◌, ◌*◌, ◌<◌, ◌≤◌, Bool, true, false, cond, not, ◌&&◌, List, [], ◌∷◌, Some, Contains, refl, sym, ap, ◌∙◌, arith, subst, count_by, inl, inr}
use Rattle.std.specs.List.{list_any}
use Rattle.std.proofs.Math.Nat.{mul-le-mul_right}
use Rattle.tp_machine.specs.ModuleUse.{action_at}
use Rattle.tp_machine.specs.declared.machine.Machine.{Machine}
use Rattle.tp_schedule.specs.Answers.{acts_in}
use Rattle.tp_schedule.specs.PlannerAnswers.{IsAnswer}
use Rattle.tp_schedule.specs.Plans.{change_plan, is_front, is_same_copy}
use Rattle.tp_schedule.specs.declared.parts.Ask.{Ask}
use Rattle.tp_schedule.specs.declared.parts.Goal.{Goal}
use Rattle.tp_schedule.specs.declared.parts.Goal.TheVariants.{Tray, Purge}
use Rattle.tp_schedule.specs.declared.parts.Plan.{Plan}
use Rattle.tp_schedule.specs.declared.parts.Reply.{Reply}
use Rattle.tp_schedule.specs.declared.parts.Reply.TheVariants.{Planned, Never, Spent}
use Rattle.tp_schedule.proofs.CopyFacts.{plan_of-itself}
use Rattle.tp_event_rules.specs.AnswerRecords.{Answer}
use Rattle.tp_event_rules.specs.Fates.{to_purge}
use Rattle.tp_event_rules.specs.FallBacks.{is_copy}
use Rattle.tp_event_rules.specs.Labels.{last_of}
use Rattle.tp_event_rules.specs.Laws.{IsPlannable}
use Rattle.tp_event_rules.specs.Lines.{is_lost}
use Rattle.tp_event_rules.specs.Loops.{after_asked, after_one, after_reply, ask_in_flight, gets_stuck, gives_tray_up, is_loose, module_in, next_ask, not_planned, stuck_module}
use Rattle.tp_event_rules.specs.Moments.{is_running_on, is_to_tray}
use Rattle.tp_event_rules.specs.States.{SessionState}
use Rattle.tp_replan.specs.LooseLoop.{CanLoop, copies_left, loose_left, trays_left}
use Rattle.tp_replan.proofs.GivenUp.{IsFirstLoose, count-change, first-loose, loop-given_up}
use Rattle.tp_replan.proofs.LoopAsks.{stuck-runs}
use Rattle.tp_replan.proofs.LoopFalls.{fewer-fall_back, jam-loses}
use Rattle.tp_replan.proofs.OpenFacts.{and-first, and-second, count-cons}
use Rattle.tp_replan.proofs.PlannedLoose.{counted, loop-planned, plannable-one}
use Rattle.tp_replan.proofs.StillOnWay.{loop-outage}

-- less is left: fewer copies, or as few and fewer that are to go to their trays, or as few of both and fewer loose ones
pub record IsLessWork (s t : SessionState) : Type 0 where
  pub copies : copies_left t ≤ copies_left s
  pub falls : (copies_left t < copies_left s) ⊎ ((trays_left t < trays_left s) ⊎ ((trays_left t ≤ trays_left s) × (loose_left t < loose_left s)))

fewer-than : {X : Type 0} (test other : X → Bool) (xs : List X) → ((x : X) → test x ≡ true → other x ≡ true) → count_by test xs ≤ count_by other xs
fewer-than test other [] each = omega arith
fewer-than test other (x ∷ xs) each =
    let rest = fewer-than test other xs each in
    let one = count-cons test x xs in
    let both = count-cons other x xs in
    let here = go (test x) (other x) (each x) in
    omega arith where
      go : (a b : Bool) → (a ≡ true → b ≡ true) → cond {A = ℕ} a 1 0 ≤ cond b 1 0
      go true true h = omega arith
      go true false h = absurd (let e = h refl in cc)
      go false true h = omega arith
      go false false h = omega arith

trays-few : (s : SessionState) → trays_left s ≤ copies_left s
trays-few s = fewer-than (λ p. is_copy s p && is_to_tray p.goal) (is_copy s) s.plans (λ p e. and-first (is_copy s p) (is_to_tray p.goal) e)

loose-few : (s : SessionState) → loose_left s ≤ copies_left s
loose-few s = fewer-than (is_loose s) (is_copy s) s.plans (λ p e. and-second (is_front p.kind) (not (is_lost s p)) e)

-- how much is left, as a number
abbrev pub work : ℕ → SessionState → ℕ
work most s = (copies_left s * most + trays_left s) * most + loose_left s

less-step : (x y most l m : ℕ) → x + 1 ≤ y → l < most → x * most + l < y * most + m
less-step x y most l m less low =
    let up : (x + 1) * most ≤ y * most = mul-le-mul_right most less in
    let one : (x + 1) * most ≡ x * most + most = grind arith in
    omega arith

same-step : (x y most l m : ℕ) → x ≤ y → l < m → x * most + l < y * most + m
same-step x y most l m less low = let up : x * most ≤ y * most = mul-le-mul_right most less in omega arith

same-step' : (x y most l m : ℕ) → x ≤ y → l ≤ m → x * most + l ≤ y * most + m
same-step' x y most l m less low = let up : x * most ≤ y * most = mul-le-mul_right most less in omega arith

pub less-work : (most : ℕ) (s t : SessionState) → copies_left s < most → IsLessWork s t → work most t < work most s
less-work most s t few less =
    let trays = trays-few t in
    let loose = loose-few t in
    let copies = less.copies in
    elim less.falls [
      | inl one ↦ less-step (copies_left t * most + trays_left t) (copies_left s * most + trays_left s) most (loose_left t) (loose_left s)
          (let up = less-step (copies_left t) (copies_left s) most (trays_left t) (trays_left s) (omega (arith, one)) (omega (arith, trays, copies, few)) in omega (arith, up)) (omega (arith, loose, copies, few))
      | inr more ↦ elim more [
        | inl two ↦ less-step (copies_left t * most + trays_left t) (copies_left s * most + trays_left s) most (loose_left t) (loose_left s)
            (let up = same-step (copies_left t) (copies_left s) most (trays_left t) (trays_left s) copies two in omega (arith, up)) (omega (arith, loose, copies, few))
        | inr three ↦ same-step (copies_left t * most + trays_left t) (copies_left s * most + trays_left s) most (loose_left t) (loose_left s)
            (same-step' (copies_left t) (copies_left s) most (trays_left t) (trays_left s) copies three.0) three.1
      ]
    ]

-- what an answer leads to
pub record IsLoopStep (machine : Machine) (s t : SessionState) : Type 0 where
  pub can : CanLoop machine t
  pub less : IsLessWork s t

step-given_up : (machine : Machine) (s : SessionState) (p : Plan) → CanLoop machine s → Contains s.plans p → is_loose s p ≡ true → is_to_tray p.goal ≡ true
    → IsLoopStep machine s (gives_tray_up (ask_in_flight machine s p) s).state
step-given_up machine s p can in' loose tray =
    let own = plan_of-itself s.plans p can.on_way.plan_on.legal.in_order in' in
    let mine : is_copy s p ≡ true = and-second (is_front p.kind) (not (is_lost s p)) loose in
    let fewer = fewer-fall_back (record s { plans = change_plan p.sheet to_purge s.plans }) (record { sheet = p.sheet; want = p.want; again = true }) in
    let copies = count-change p.sheet to_purge (is_copy s) 0 s.plans p own (omega arith) in
    let trays = count-change p.sheet to_purge (λ q. is_copy s q && is_to_tray q.goal) 1 s.plans p own (tray-goes (is_copy s p) (is_to_tray p.goal) mine tray) in
    let less = fewer.copies in
    let less' = fewer.trays in
    record {
      can = loop-given_up machine s p can in' loose tray;
      less = record { copies = omega arith; falls = inr (inl (omega arith)) };
    } where
      tray-goes : (a b : Bool) → a ≡ true → b ≡ true → cond {A = ℕ} (a && false) 1 0 + 1 ≤ cond (a && b) 1 0
      tray-goes true true e f = omega arith
      tray-goes true false e f = absurd cc
      tray-goes false b e f = absurd cc

step-stuck : (machine : Machine) (s : SessionState) (p : Plan) → CanLoop machine s → Contains s.plans p → is_loose s p ≡ true
    → IsLoopStep machine s (gets_stuck machine (ask_in_flight machine s p) s).state
step-stuck machine s p can in' loose = record {
  can = loop-outage machine m true s can;
  less = let few = jam-loses machine m s p in' (and-second (is_front p.kind) (not (is_lost s p)) loose) runs in record { copies = omega arith; falls = inl (omega arith) };
} where
  m : ℕ
  m = (stuck_module machine s (ask_in_flight machine s p)).0

  runs : is_running_on machine s.now m p ≡ true
  runs = subst (λ acts. is_running_on machine s.now (module_in (action_at machine (last_of acts).0)).0 p ≡ true)
      (sym (ap acts_in (plan_of-itself s.plans p can.on_way.plan_on.legal.in_order in'))) (stuck-runs machine s p can.on_way in' loose)

step-not_planned : (machine : Machine) (s : SessionState) (p : Plan) (g : Goal) → p.goal ≡ g → CanLoop machine s → Contains s.plans p → is_loose s p ≡ true
    → IsLoopStep machine s (not_planned machine (ask_in_flight machine s p) g s).state
step-not_planned machine s p (Tray t) e can in' loose = step-given_up machine s p can in' loose (ap is_to_tray e)
step-not_planned machine s p Purge e can in' loose = step-stuck machine s p can in' loose

pub loop-step : {P : Type 0} (planner : P) (spent : P → Machine → List Plan → Ask → ℕ → Type 0) (machine : Machine) (s : SessionState) (ask : Ask) (a : Answer) → next_ask machine s ≡ Some ask
    → IsAnswer (spent planner) machine s.plans ask a.reply a.plans → CanLoop machine s → IsLoopStep machine s (after_one machine s a).state
loop-step planner spent machine s ask a e answer can =
    subst (λ o. IsLoopStep machine s (after_asked machine s o a).state) (sym e)
    (subst (λ k. IsAnswer (spent planner) machine s.plans k a.reply a.plans → IsPlannable machine (after_reply machine k a.reply a.plans s).state → IsLoopStep machine s (after_reply machine k a.reply a.plans s).state) of.is
    (go a.reply) answer (subst (λ o. IsPlannable machine (after_asked machine s o a).state) e (plannable-one planner spent machine s ask a e answer can.on_way.plan_on))) where
      of : IsFirstLoose machine s ask
      of = first-loose machine s ask e

      p : Plan
      p = of.p

      whole : (b c : Bool) → b ≡ false → cond {A = ℕ} (b && c) 1 0 ≡ 0
      whole true c e = absurd cc
      whole false c e = refl

      go : (reply : Reply) → IsAnswer (spent planner) machine s.plans (ask_in_flight machine s p) reply a.plans
          → IsPlannable machine (after_reply machine (ask_in_flight machine s p) reply a.plans s).state → IsLoopStep machine s (after_reply machine (ask_in_flight machine s p) reply a.plans s).state
      go Planned answer plannable =
          let alt = answer.0.alternative in
          let same-lost : is_lost s alt.plan ≡ is_lost s p = ap (λ c. list_any (is_same_copy c) s.lost) alt.answers.sheet in
          let copies = counted machine s p can of.there of.loose a.plans alt (is_copy s) (λ q o here there u e. sym (ap (is_copy s) u.is) ∙ e) refl in
          let trays = counted machine s p can of.there of.loose a.plans alt (λ q. is_copy s q && is_to_tray q.goal) (λ q o here there u e. sym (ap (λ q. is_copy s q && is_to_tray q.goal) u.is) ∙ e) refl in
          let loose = counted machine s p can of.there of.loose a.plans alt (is_loose s) (λ q o here there u e. sym (ap (is_loose s) u.is) ∙ e) refl in
          let one = ap (λ b. cond {A = ℕ} (not b) 1 0) same-lost in
          let two : cond {A = ℕ} (is_copy s alt.plan && is_to_tray alt.plan.goal) 1 0 ≡ cond (is_copy s p && is_to_tray p.goal) 1 0 = λ k. cond (not (same-lost k) && is_to_tray (alt.answers.goal k)) 1 0 in
          let none = whole (is_front alt.plan.kind) (not (is_lost s alt.plan)) (ap is_front alt.answers.whole) in
          let was = ap (λ b. cond {A = ℕ} b 1 0) of.loose in
          record {
            can = loop-planned machine s p can of.there of.loose a.plans alt plannable;
            less = record { copies = omega arith; falls = inr (inr (omega arith, omega arith)) };
          }
      go Never answer plannable = step-not_planned machine s p p.goal refl can of.there of.loose
      go (Spent bound) answer plannable = step-not_planned machine s p p.goal refl can of.there of.loose
