-- A loose copy on the live part and on the whole: its ask.
use Rattle.std.proofs.Common.{◌≡◌, ◌<◌, Bool, true, false, ◌&&◌, not, List, length, filter, find, refl, sym, ap, ◌∙◌, Contains, subst, Option, Some, None, option_map}
use Rattle.std.proofs.lemmas.Bool.{and_parts, not_from_false}
use Rattle.std.proofs.lemmas.List.Elements.{All-contains}
use Rattle.std.proofs.lemmas.List.Folds.{Any-from_list_any}
use Rattle.tp_machine.specs.declared.machine.Machine.{Machine}
use Rattle.tp_choices.specs.LiveParts.{less}
use Rattle.tp_schedule.specs.LivePlans.{is_live}
use Rattle.tp_schedule.specs.Plans.{IsTimedPlan, end_of_plan, is_front, is_same_copy}
use Rattle.tp_schedule.specs.Routes.{walk}
use Rattle.tp_schedule.specs.declared.parts.Ask.{Ask}
use Rattle.tp_schedule.specs.declared.parts.Kind.{Kind}
use Rattle.tp_schedule.specs.declared.parts.Kind.TheVariants.{Whole, Front}
use Rattle.tp_schedule.specs.declared.parts.Plan.{Plan}
use Rattle.tp_schedule.specs.declared.parts.SheetId.{SheetId}
use Rattle.tp_schedule.proofs.CopyFacts.{plan_of-itself, same_copy-is}
use Rattle.tp_schedule.proofs.Membership.{Contains-filter, Contains-filter_from}
use Rattle.tp_event_rules.proofs.ListFacts.{Any-contains, find-Some}
use Rattle.tp_event_rules.specs.StateInvariants.{is_planned_among, live_part}
use Rattle.tp_event_rules.specs.Lines.{is_lost}
use Rattle.tp_event_rules.specs.Loops.{ask_in_flight, is_loose, next_ask, start_of, state_after}
use Rattle.tp_event_rules.specs.States.{SessionState}
use Rattle.tp_event_turn.specs.LiveAnswers.{CanAskLive, live_at, past_at}
use Rattle.tp_event_turn.proofs.LiveAhead.{live-by}
use Rattle.tp_event_turn.proofs.LiveLists.{filter-by}
use Rattle.tp_event_turn.proofs.LivePast.{both-parts}
use Rattle.tp_event_turn.proofs.PartedLists.{gone_from, lost-same, part}
use Rattle.tp_event_turn.proofs.PartedStates.{HasFront, IsParted, planned-there}
use Rattle.tp_event_turn.proofs.PartedChanges.{find-part, not-not, not-yes, starts-there}
use Rattle.tp_stock.specs.Stock.{less_taken}

module _ (machine : Machine) (g : SheetId → Bool) (first : List Plan) (s : SessionState) (parted : IsParted machine g first s) where
  pub timed : (p : Plan) → Contains s.plans p → IsTimedPlan machine p
  timed p in' = All-contains (IsTimedPlan machine) s.plans p parted.can.legal.timed in'

  pub stays-ahead : (p : Plan) → Contains s.plans p → s.now < end_of_plan p → g p.sheet ≡ false
  stays-ahead p in' high = parted.each p in' ∙ ap not (live-by machine s.now p (length p.acts) high)

  -- the live part of the state
  pub less-is : live_at machine s.now s.plans ≡ less g s.plans
  less-is = sym (both-parts machine s.now g s.plans parted.each).0

  -- what is past is what was past at first
  pub past-is : past_at machine s.now s.plans ≡ gone_from g first
  past-is = filter-by (λ p. not (is_live machine s.now p)) (λ p. g p.sheet) s.plans (λ p in'. sym (parted.each p in')) ∙ parted.gone

  pub lost-by_part : (plans : List Plan) → ((c : SheetId) → is_planned_among plans c ≡ is_planned_among (less g s.plans) c) → filter (is_planned_among plans) s.lost ≡ filter (λ c. not (g c)) s.lost
  lost-by_part plans alike = filter-by (is_planned_among plans) (λ c. not (g c)) s.lost (λ c in'. alike c ∙ go c (g c) refl (parted.lost c in')) where
    go : (c : SheetId) (b : Bool) → g c ≡ b → is_planned_among s.plans c ≡ true → is_planned_among (less g s.plans) c ≡ not b
    go c true e there = none (is_planned_among (less g s.plans) c) refl where
      none : (b : Bool) → is_planned_among (less g s.plans) c ≡ b → b ≡ false
      none false f = refl
      none true f = absurd (
          let at = Any-contains (λ q. is_same_copy q.sheet c ≡ true) (less g s.plans) (Any-from_list_any (λ q. is_same_copy q.sheet c) (less g s.plans) f) in
          let stays = not-yes (g at.0.sheet) (Contains-filter_from (λ q. not (g q.sheet)) s.plans at.0 at.1).1 in
          let gone : g at.0.sheet ≡ true = ap g (same_copy-is at.0.sheet c at.2) ∙ e in cc)
    go c false e there =
        let at = Any-contains (λ q. is_same_copy q.sheet c ≡ true) s.plans (Any-from_list_any (λ q. is_same_copy q.sheet c) s.plans there) in
        let sheet = same_copy-is at.0.sheet c at.2 in
        subst (λ d. is_planned_among (less g s.plans) d ≡ true) sheet
        (planned-there (less g s.plans) at.0 (Contains-filter (λ q. not (g q.sheet)) s.plans at.0 at.1 (not_from_false (g at.0.sheet) (ap g sheet ∙ e))))

  pub live-part_is : live_part machine s ≡ part machine g first s
  live-part_is =
      let lost = ap (λ ps. filter (is_planned_among ps) s.lost) less-is ∙ lost-by_part (less g s.plans) (λ c. refl) in
      λ i. record s { plans = less-is i; lost = lost i; refills = less_taken machine (past-is i) s.refills }

  -- the same ask is due
  pub next-same : next_ask machine (part machine g first s) ≡ next_ask machine s
  next-same = ap (option_map (ask_in_flight machine s)) (find-part (λ p. not (g p.sheet)) (is_loose s) (is_loose (part machine g first s)) s.plans
      (λ p in' e. none p in' (not-not (g p.sheet) e)) (λ p in' e. ap (λ l. is_front p.kind && not l) (lost-same machine g first s p (not-yes (g p.sheet) e)))) where
        none : (p : Plan) → Contains s.plans p → g p.sheet ≡ true → is_loose s p ≡ false
        none p in' gone = go (is_front p.kind) refl (is_lost s p) refl where
          go : (b : Bool) → is_front p.kind ≡ b → (l : Bool) → is_lost s p ≡ l → (b && not l) ≡ false
          go false e l f = refl
          go true e true f = refl
          go true e false f = absurd (let stays = stays-ahead p in' (parted.fronts p in' e f).ahead in cc)

  -- a loose copy
  pub record IsLoose (p : Plan) : Type 0 where
    pub there : Contains s.plans p
    pub front : is_front p.kind ≡ true
    pub copy : is_lost s p ≡ false

  pub due-of : (ask : Ask) → next_ask machine s ≡ Some ask → (p : Plan) × IsLoose p × (ask_in_flight machine s p ≡ ask)
  due-of ask e = go (find (is_loose s) s.plans) refl e where
    go : (o : Option Plan) → find (is_loose s) s.plans ≡ o → option_map (ask_in_flight machine s) o ≡ Some ask → (p : Plan) × IsLoose p × (ask_in_flight machine s p ≡ ask)
    go None f e = absurd (cc)
    go (Some p) f e =
        let at = find-Some (is_loose s) s.plans p f in
        let parts = and_parts (is_front p.kind) (not (is_lost s p)) at.1 in
        (p, record { there = at.0; front = parts.0; copy = not-yes (is_lost s p) parts.1 }, (cc))

  front-is : (k : Kind) → is_front k ≡ true → k ≡ Front
  front-is Whole e = absurd (cc)
  front-is Front e = refl

  module _ (p : Plan) (loose : IsLoose p) where
    pub has : HasFront s.now p
    has = parted.fronts p loose.there loose.front loose.copy

    pub stays : g p.sheet ≡ false
    stays = stays-ahead p loose.there has.ahead

    leads : walk machine p.want p.acts (timed p loose.there).start ≡ Some (state_after machine p)
    leads =
        let t = timed p loose.there in
        let from = starts-there machine p t in
        let whole : walk machine p.want p.acts (start_of machine p) ≡ Some t.end = subst (λ st. walk machine p.want p.acts st ≡ Some t.end) (sym from) t.leads in
        let is : state_after machine p ≡ t.end = rw whole refl in
        t.leads ∙ ap Some (sym is)

    pub can-live : CanAskLive machine s.plans (ask_in_flight machine s p)
    can-live = record {
      legal = parted.can.legal;
      floors = parted.can.floors;
      asked = (
        p,
        plan_of-itself s.plans p parted.can.legal.in_order loose.there,
        record {
          front = front-is p.kind loose.front;
          name = refl;
          want = refl;
          acts = refl;
          released = has.released;
          ends = refl;
          some = (timed p loose.there).some;
          start = (timed p loose.there).start;
          starts = (timed p loose.there).starts;
          leads = leads;
        },
      );
      ends_ahead = has.ahead;
      earlier = λ q in' past tray to delivered.
          let gone : g q.sheet ≡ true = parted.each q in' ∙ ap not past in
          parted.last p loose.there loose.copy has.ahead q (parted.past q in' gone) gone tray to delivered;
    }
