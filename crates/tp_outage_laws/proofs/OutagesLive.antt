-- A module that goes out leaves a live state in which any event can be taken.
use Rattle.std.proofs.Common.{◌≡◌, ℕ, ◌+◌, ◌≤◌, Bool, true, false, ◌&&◌, List, [], ◌∷◌, length, refl, sym, ap, ◌∙◌, arith, All, Contains, subst, Some}
use Rattle.std.specs.Prelude.{count_by}
use Rattle.std.proofs.lemmas.List.Elements.{All-contains}
use Rattle.tp_machine.specs.declared.machine.Machine.{Machine}
use Rattle.tp_schedule.proofs.Membership.{All-from_contains}
use Rattle.tp_schedule.specs.LivePlans.{is_live, live_count}
use Rattle.tp_schedule.specs.PlannerAnswers.{Deed, IsAnswer, IsSettled}
use Rattle.tp_schedule.specs.PlannerAnswers.Deed.{replied, settled}
use Rattle.tp_schedule.specs.declared.parts.Ask.{Ask}
use Rattle.tp_schedule.specs.declared.parts.Goal.{Goal}
use Rattle.tp_schedule.specs.declared.parts.Goal.TheVariants.{Tray, Purge}
use Rattle.tp_schedule.specs.declared.parts.Plan.{Plan}
use Rattle.tp_schedule.specs.declared.parts.Reply.{Reply}
use Rattle.tp_schedule.specs.declared.parts.Reply.TheVariants.{Planned, Never, Spent}
use Rattle.tp_schedule.specs.declared.records.Record.{Record}
use Rattle.tp_event_rules.specs.AnswerRecords.{Answer}
use Rattle.tp_event_rules.specs.StateInvariants.{IsLeastAt, is_clear, is_to_arrive}
use Rattle.tp_event_rules.specs.Loops.{after_answers, after_asked, after_one, after_reply, next_ask, not_planned, stuck_module}
use Rattle.tp_event_rules.specs.Moments.{is_to_tray, is_tray_plan}
use Rattle.tp_event_rules.specs.Outages.{outage}
use Rattle.tp_event_rules.specs.Planners.{GoesOut, IsRight, PlannerSteps}
use Rattle.tp_event_rules.specs.Ready.{CanTakeEvents, HasStartedWhole, KeepsLive}
use Rattle.tp_event_rules.specs.States.{SessionState}
use Rattle.tp_event_rules.proofs.SameMoment.{now-answers}
use Rattle.tp_event_rules.proofs.TestFacts.{all-of, of-all}
use Rattle.tp_outage_laws.proofs.AnswerFalls.{answers-keep}
use Rattle.tp_outage_laws.proofs.Counts.{count-cons}
use Rattle.tp_outage_laws.proofs.Falls.{Falls, Outset, is_open, none_breaks, open_by}
use Rattle.tp_outage_laws.proofs.GivesUp.{asked-whole, falls-given, given}
use Rattle.tp_outage_laws.proofs.JobFacts.{same-length}
use Rattle.tp_outage_laws.proofs.ListCounts.{count-same}
use Rattle.tp_outage_laws.proofs.Lives.{is_coming}
use Rattle.tp_outage_laws.proofs.LivesAnswers.{living-given, living-planned, living-settled}
use Rattle.tp_outage_laws.proofs.LivesFalls.{IsLiving, living-back, living-outage}
use Rattle.tp_outage_laws.proofs.LooseAsks.{IsAskOf, asked-of, purge_state}
use Rattle.tp_outage_laws.proofs.OutageFalls.{falls-outage}
use Rattle.tp_outage_laws.proofs.OutagesKeep.{any-sheets, any_outset, falls-goes}
use Rattle.tp_outage_laws.proofs.Settles.{open-tray, settles, tray-open}
use Rattle.tp_outage_laws.proofs.Starts.{open-is, starts}
use Rattle.tp_outage_laws.specs.Through.{KeepsThrough}

-- What an answer leads to.
module _ (machine : Machine) (base : Outset) (copies : ℕ) (s : SessionState) (f : Falls machine base none_breaks s []) (ask : Ask) (of : IsAskOf machine s ask) (l : IsLiving machine copies s []) where
  living-not_planned : (goal : Goal) → ask.goal ≡ goal → IsLiving machine copies (not_planned machine ask goal s).state []
  living-not_planned (Tray t) e =
      let tray : is_to_tray of.p.goal ≡ true = ap (λ (x : Ask). is_to_tray x.goal) of.is ∙ ap is_to_tray e in
      living-back machine base copies (purge_state machine s ask f.mid of) (given machine base s f ask of tray) [] (falls-given machine base s f ask of tray) (asked-whole machine base s f ask of tray)
      (living-given machine base copies s f ask of tray l)
  living-not_planned Purge e = living-outage machine base copies (stuck_module machine s ask).0 true s f l

  living-reply : (spent : Machine → List Plan → Ask → ℕ → Type 0) (reply : Reply) (plans : List Plan) → IsAnswer spent machine s.plans ask reply plans → IsLiving machine copies (after_reply machine ask reply plans s).state []
  living-reply spent Planned plans answer = living-planned machine base copies s f ask of plans answer.0.alternative (ap (λ (x : Ask). x.now) (sym of.is)) l
  living-reply spent Never plans answer = living-not_planned ask.goal refl
  living-reply spent (Spent bound) plans answer = living-not_planned ask.goal refl

-- Before the outage.
through-live : (machine : Machine) (copies : ℕ) (s : SessionState) → KeepsLive machine copies s → KeepsThrough machine s
through-live machine copies s k = record {
  jobs = k.jobs;
  plans = record { now_at_most = k.now_at_most; legal = k.plans.legal; floors = k.plans.floors; horizon = k.plans.horizon };
  lines = k.lines;
  broken = k.broken;
  older = k.older;
  purges = k.purges;
}

count-all : {X : Type 0} (xs : List X) → count_by (λ x. true) xs ≡ length xs
count-all [] = refl
count-all (x ∷ xs) = let rest = count-all xs in let one = count-cons (λ x. true) x xs in omega arith

-- where all plans are live, as many count as there are
all-live : (machine : Machine) (now : ℕ) (plans : List Plan) → All (λ p. is_live machine now p ≡ true) plans → live_count machine now plans ≡ length plans
all-live machine now plans all = count-same (is_live machine now) (λ p. true) plans (λ p in'. All-contains (λ p. is_live machine now p ≡ true) plans p all in') ∙ count-all plans

living-before : (machine : Machine) (copies : ℕ) (s : SessionState) → KeepsLive machine copies s → IsLiving machine copies s []
living-before machine copies s k = (
  record {
    plans = λ p in'. record {
      live = All-contains (λ p. is_live machine s.now p ≡ true) s.plans p k.live in';
      started = All-contains (HasStartedWhole s.now) s.plans p k.fronts in';
      number = All-contains (λ p. p.sheet.copy ≤ copies) s.plans p k.numbers.planned in';
    };
    waits = λ w in'. let number = All-contains (λ w. w.sheet.copy ≤ copies) s.waiting w k.numbers.waiting in' in omega arith;
    pends = λ d in'. absurd (omega (arith, in'.1));
    few_live = let few = k.plans.few_live in let all = all-live machine s.now s.plans k.live in omega arith;
    few_open =
        let few = k.plans.few_open in
        let waits = count-all s.waiting in
        let same = count-same (open_by s (is_coming s.now)) (is_to_arrive s.now) s.plans (λ p in'. ap (λ b. b && is_coming s.now p) (open-is machine s (through-live machine copies s k) p in')) in
        omega arith;
  },
  λ p in'. All-contains (λ p. is_clear machine s p ≡ true) s.plans p (all-of (is_clear machine s) s.plans k.plans.clear) in',
)

-- After it.
open-same : (machine : Machine) (base : Outset) (s : SessionState) (f : Falls machine base none_breaks s []) (none_loose : (p : Plan) → Contains s.plans p → is_tray_plan p ≡ true → is_open s p ≡ true) (back : (p : Plan) → Contains s.plans p → is_open s p ≡ true → is_tray_plan p ≡ true)
    → (p : Plan) → Contains s.plans p → is_tray_plan p ≡ is_open s p
open-same machine base s f to back p in' = go (is_tray_plan p) refl (is_open s p) refl where
  go : (a : Bool) → is_tray_plan p ≡ a → (b : Bool) → is_open s p ≡ b → a ≡ b
  go true e true g = refl
  go true e false g = absurd (let o = to p in' e in cc)
  go false e true g = absurd (let o = back p in' g in cc)
  go false e false g = refl

living-after : (machine : Machine) (base : Outset) (copies : ℕ) (s : SessionState) (f : Falls machine base none_breaks s []) (whole : (p : Plan) → Contains s.plans p → is_tray_plan p ≡ is_open s p) → KeepsThrough machine s → IsLiving machine copies s []
    → length base.jobs ≤ copies → KeepsLive machine (copies + 1) s
living-after machine base copies s f whole k l few = record {
  now_at_most = k.plans.now_at_most;
  live = live;
  jobs = k.jobs;
  plans = record {
    legal = k.plans.legal;
    floors = k.plans.floors;
    horizon = k.plans.horizon;
    few_live = let few = l.0.few_live in let all = all-live machine s.now s.plans live in omega arith;
    few_open =
        let few = l.0.few_open in
        let waits = count-all s.waiting in
        let same = count-same (is_to_arrive s.now) (open_by s (is_coming s.now)) s.plans (λ p in'. ap (λ b. b && is_coming s.now p) (whole p in')) in
        omega arith;
    clear = of-all (is_clear machine s) s.plans (All-from_contains (λ p. is_clear machine s p ≡ true) s.plans l.1);
  };
  lines = k.lines;
  broken = k.broken;
  older = k.older;
  purges = k.purges;
  fronts = All-from_contains (HasStartedWhole s.now) s.plans (λ p in'. (l.0.plans p in').started);
  numbers = record {
    jobs = let long = same-length base.jobs s.jobs f.same in omega arith;
    waiting = All-from_contains (λ w. w.sheet.copy ≤ copies + 1) s.waiting l.0.waits;
    planned = All-from_contains (λ p. p.sheet.copy ≤ copies + 1) s.plans (λ p in'. let number = (l.0.plans p in').number in omega arith);
  };
} where
  live : All (λ p. is_live machine s.now p ≡ true) s.plans
  live = All-from_contains (λ p. is_live machine s.now p ≡ true) s.plans (λ p in'. (l.0.plans p in').live)

module _ {P : Type 0} (steps : PlannerSteps P) (machine : Machine) (spent : P → Machine → List Plan → Ask → ℕ → Type 0)
    (right : (p : P) (plans : List Plan) (deed : Deed) (plans' : List Plan) (p' : P) → steps.does p plans deed plans' p' → IsRight (spent p) machine plans deed plans') where
  living-one : (base : Outset) (copies : ℕ) (s : SessionState) (a : Answer) (ask : Ask) (p p' : P) → next_ask machine s ≡ Some ask → steps.does p s.plans (replied ask a.reply) a.plans p' → Falls machine base none_breaks s [] → IsLiving machine copies s []
      → IsLiving machine copies (after_one machine s a).state []
  living-one base copies s a ask p p' e does f l =
      subst (λ o. IsLiving machine copies (after_asked machine s o a).state []) (sym e)
      (living-reply machine base copies s f ask (asked-of machine s ask e) l (spent p) a.reply a.plans (right p s.plans (replied ask a.reply) a.plans p' does))

  living-goes : (base : Outset) (copies : ℕ) (s : SessionState) (m : ℕ) (jam : Bool) (p : P) (records : List Record) (s' : SessionState) (p' : P) → GoesOut steps machine s m jam p records s' p' → Falls machine base none_breaks s [] → IsLiving machine copies s []
      → IsLiving machine copies s' [] × IsLeastAt machine s'
  living-goes base copies s m jam p records s' p' out f l =
      let o = outage machine m jam s in
      let loop = out.loop in
      let t = (after_answers machine loop.answers o.state).state in
      let after = answers-keep steps machine spent right base (λ u. IsLiving machine copies u []) (λ u a ask q q' e does g k. living-one base copies u a ask q q' e does g k) o.state loop.answers p loop.mid loop.in_turn
      (falls-outage machine base m jam s f) (living-outage machine base copies m jam s f l) in
      let settled : IsSettled machine t.now t.plans loop.plans = subst (λ n. IsSettled machine n t.plans loop.plans) (sym (now-answers machine loop.answers o.state)) (right loop.mid t.plans (settled o.state.now) loop.plans p' loop.settles) in
      subst (λ (u : SessionState). IsLiving machine copies u [] × IsLeastAt machine u) (sym loop.state) (living-settled machine base copies t after.0 loop.plans settled.retimed after.1, settled.least)

  -- where a live state is kept before a module goes out, any event can be taken after it
  pub live-goes : (copies : ℕ) (s : SessionState) (m : ℕ) (jam : Bool) (p : P) (records : List Record) (s' : SessionState) (p' : P) → GoesOut steps machine s m jam p records s' p' → KeepsLive machine copies s
      → CanTakeEvents machine (copies + 1) s'
  live-goes copies s m jam p records s' p' out k =
      let through = through-live machine copies s k in
      let begun = starts machine s through (λ job number. true) (λ job. true) (any-sheets s) in
      let g = falls-goes steps machine spent right (any_outset s) s m jam p records s' p' out begun in
      let l = living-goes (any_outset s) copies s m jam p records s' p' out begun (living-before machine copies s k) in
      record {
        kept = living-after machine (any_outset s) copies s' g.0
            (open-same machine (any_outset s) s' g.0 (tray-open machine (any_outset s) s' g.0 g.1) (open-tray machine (any_outset s) s' g.0 g.1))
            (settles machine (any_outset s) s' g.0 g.1 k.jobs) l.0 k.numbers.jobs;
        least = l.1;
      }
