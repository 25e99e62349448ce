-- Ways that are laid: what one choice more keeps, and that a way from a start can be committed.
use Rattle.std.proofs.Common.{◌≡◌, ℕ, ◌+◌, ◌<◌, ◌≤◌, Bool, true, false, not, ◌&&◌, inl, inr, List, [], ◌∷◌, ◌++◌, take, length, refl, ap, sym, ◌∙◌, subst, arith, Option, Some, None, IsSomeAnd, IsTrue, IsFalse, Contains, AllPairs, position, nat_lt}
use Rattle.std.specs.List.{slice_get}
use Rattle.std.proofs.lemmas.List.Elements.{All-head}
use Rattle.std.proofs.lemmas.List.Sums.{count_by-le-length, length-filter}
use Rattle.tp_base.specs.Readings.{Reading}
use Rattle.tp_base.proofs.MarkFacts.{last_mark}
use Rattle.tp_machine.specs.ModuleUse.{action_at}
use Rattle.tp_machine.specs.declared.parts.ActId.{ActId}
use Rattle.tp_machine.specs.declared.parts.Action.{Action}
use Rattle.tp_machine.specs.declared.parts.HoldRule.{HoldRule}
use Rattle.tp_machine.specs.declared.parts.State.{State}
use Rattle.tp_machine.specs.declared.machine.Machine.{Machine}
use Rattle.tp_schedule.specs.Answers.{IsAlternative, IsAskedFrom, kept_from, kept_of, follows_front}
use Rattle.tp_schedule.specs.Choices.{AreWithin, acts_of, placed, put_places}
use Rattle.tp_schedule.specs.Holders.{holds_of_act}
use Rattle.tp_schedule.specs.Legality.{IsLegal}
use Rattle.tp_schedule.specs.LivePlans.{is_live}
use Rattle.tp_schedule.specs.PlannerAnswers.{CanAsk, CanPlanOn, CanSettle, HasTimeFrom, IsOpenGoal, last_tick}
use Rattle.tp_schedule.specs.Plans.{IsEarlier, is_before, is_same_copy, put_plan, without}
use Rattle.tp_schedule.specs.Routes.{is_act_allowed}
use Rattle.tp_schedule.specs.Spots.{Slot, Spot, slot_order}
use Rattle.tp_schedule.specs.declared.parts.Ask.{Ask}
use Rattle.tp_schedule.specs.declared.parts.Goal.{Goal}
use Rattle.tp_schedule.specs.declared.parts.Goal.TheVariants.{Tray, Purge}
use Rattle.tp_schedule.specs.declared.parts.Origin.TheVariants.{Feeder as FromFeeder}
use Rattle.tp_schedule.specs.declared.parts.Plan.{Plan}
use Rattle.tp_schedule.specs.declared.parts.SheetId.{SheetId}
use Rattle.tp_schedule.proofs.CopyFacts.{before-not_same, same_copy-refl}
use Rattle.tp_schedule.proofs.LegalFacts.{IsLegal-without}
use Rattle.tp_schedule.proofs.Membership.{Contains-cons_cases}
use Rattle.tp_schedule.proofs.Pairs.{AllPairs-head}
use Rattle.tp_constraints.specs.Suffixes.{Suffix, with_action, with_place}
use Rattle.tp_placing.specs.Boards.{BoardUntouched, BoardContent, BoardValue, untouched_of, content_of, past_of, suffix_after, suffix_of}
use Rattle.tp_placing.specs.Calls.{CanGoOn, CanPlace, IsSameLoad}
use Rattle.tp_placing.specs.Laws.{MarkKeeps, UndoKeeps}
use Rattle.tp_placing.specs.LoadedBoard.{Stands, order_after}
use Rattle.tp_placing.proofs.StandFacts.{and-some, some-and}
use Rattle.tp_placing.proofs.WriteAsked.{none-planned}
use Rattle.tp_constraints.proofs.Lists.{contains-get}
use Rattle.rows_engines.specs.LaidWays.{IsLaid, IsPut, IsStepTo, LeadsFrom}

-- an action of one hold
one-hold : (holds : List HoldRule) (rule : HoldRule) → length holds ≡ 1 → slice_get holds 0 ≡ Some rule → holds ≡ rule ∷ []
one-hold [] rule one at = absurd (omega arith)
one-hold (h ∷ []) rule one at = let same : h ≡ rule = cc in ap (λ r. r ∷ []) same
one-hold (h ∷ i ∷ holds) rule one at = absurd (omega arith)

put-none : (resource : ℕ) (from to : Spot) (rules : List HoldRule) (order : List Slot) → put_places resource from to rules [] order ≡ order
put-none resource from to [] order = refl
put-none resource from to (rule ∷ rules) order = refl

-- what is known of an action before it is put
pub record IsOfOne (machine : Machine) (plans : List Plan) (act : ActId) (place : ℕ) (before : Option Suffix) : Type 0 where
  pub action : Action
  pub rule : HoldRule
  pub at : slice_get machine.actions act.0 ≡ Some action
  pub has : slice_get action.holds 0 ≡ Some rule
  pub one : length action.holds ≡ 1
  pub within : place ≤ length (order_after machine plans before rule.resource.0)

module _ (machine : Machine) (plans : List Plan) (act : ActId) (room place : ℕ) where
  holds-are : (before : Option Suffix) (k : IsOfOne machine plans act place before) → holds_of_act (action_at machine act.0) ≡ k.rule ∷ []
  holds-are before k = ap holds_of_act k.at ∙ one-hold k.action.holds k.rule k.one k.has

  pub can_put : (before after : Option Suffix) → IsSomeAnd before (λ x. after ≡ Some (with_action act room x)) → IsOfOne machine plans act place before → IsSomeAnd after (λ x. CanPlace machine plans x 0 place)
  can_put None after opened k = absurd opened
  can_put (Some x) after opened k = and-some after (with_action act room x) (λ y. CanPlace machine plans y 0 place) opened (record {
    choice = record { act = act; places = [] };
    choices = x.choices;
    newest = refl;
    next = refl;
    rule = k.rule;
    is_rule = ap (λ (o : Option Action). slice_get (holds_of_act o) 0) k.at ∙ k.has;
    within = rw put-none k.within;
  })

  pub is_put : (before mid after : Option Suffix) → IsSomeAnd before (λ x. mid ≡ Some (with_action act room x)) → IsSomeAnd mid (λ x. after ≡ Some (with_place place x)) → IsOfOne machine plans act place before
      → IsSomeAnd before (IsPut machine plans act room place after)
  is_put None mid after opened put k = absurd opened
  is_put (Some x) mid after opened put k = record {
    rule = k.rule;
    holds = holds-are (Some x) k;
    within = k.within;
    suffix = subst (λ (o : Option Suffix). IsSomeAnd o (λ y. after ≡ Some (with_place place y))) opened put;
  }

-- one choice more
leads-more : (machine : Machine) (plans : List Plan) (ask : Ask) (act : ActId) (room place count : ℕ) (state before : State) (x : Suffix) (after : Option Suffix)
    → IsStepTo machine ask act room state before → LeadsFrom machine plans ask state count x → IsPut machine plans act room place after x → IsSomeAnd after (LeadsFrom machine plans ask before (count + 1))
leads-more machine plans ask act room place count state before x after step leads put =
    and-some after (with_place place (with_action act room x)) (LeadsFrom machine plans ask before (count + 1)) put.suffix (record {
      goal = leads.goal;
      is_goal = leads.is_goal;
      rooms = (step.is_room, (state, step.step, leads.rooms));
      walks = rw step.step leads.walks;
      allowed = λ other in'. elim (Contains-cons_cases act (acts_of x.choices) other in') [
        | inl e ↦ subst (λ (a : ActId). IsTrue (is_act_allowed machine ask.outs a)) e step.allowed
        | inr later ↦ leads.allowed other later
      ];
      places = (subst (λ rules. AreWithin (λ r. placed machine r (slot_order machine plans r) x.choices) rules (place ∷ [])) (sym put.holds) (put.within, tt), leads.places);
      going = leads.going;
      many = let many = leads.many in omega arith;
    })

module _ {N : Type 0} (reading : Reading N) where
  pub laid-more : (b b' : BoardValue N) (machine : Machine) (ask : Ask) (act : ActId) (room place count : ℕ) (state before : State) → IsLaid reading b machine ask state count
      → Stands reading b' machine → IsSameLoad b b' → IsStepTo machine ask act room state before → IsSomeAnd (suffix_of b) (IsPut machine b.plans act room place (suffix_of b'))
      → IsLaid reading b' machine ask before (count + 1)
  laid-more b b' machine ask act room place count state before laid stands same step put =
      let x = some-and (suffix_of b) (IsPut machine b.plans act room place (suffix_of b')) put in
      let leads : LeadsFrom machine b.plans ask state count x.0 = subst (λ o. IsSomeAnd o (LeadsFrom machine b.plans ask state count)) x.1 laid.leads in
      record {
        stands = stands;
        asked = same.ask ∙ laid.asked;
        leads = subst (λ ps. IsSomeAnd (suffix_of b') (LeadsFrom machine ps ask before (count + 1))) (sym same.plans) (leads-more machine b.plans ask act room place count state before x.0 (suffix_of b') step leads x.2);
      }

  -- of fewer than 64 choices with the kept actions
  pub can_lay : (b : BoardValue N) (machine : Machine) (ask : Ask) (state : State) (count : ℕ) → IsLaid reading b machine ask state count → kept_of ask + count < 64
      → IsSomeAnd b.ask (λ asked. IsSomeAnd (suffix_of b) (CanGoOn asked))
  can_lay b machine ask state count laid few =
      let x = some-and (suffix_of b) (LeadsFrom machine b.plans ask state count) laid.leads in
      let many = x.2.many in
      and-some b.ask ask (λ asked. IsSomeAnd (suffix_of b) (CanGoOn asked)) laid.asked (and-some (suffix_of b) x.0 (CanGoOn ask) x.1 (record { going = x.2.going; fewer = omega arith }))

-- a new copy may be asked for where there is one live plan or none
pub one-only : (plans : List Plan) → length plans ≤ 1 → (p q : Plan) → Contains plans p → Contains plans q → p ≡ q
one-only [] few p q in' in'' = absurd (omega (arith, in'.1))
one-only (x ∷ []) few p q in' in'' = elim (Contains-cons_cases x [] p in') [
  | inr later ↦ absurd (omega (arith, later.1))
  | inl e ↦ elim (Contains-cons_cases x [] q in'') [
    | inr later ↦ absurd (omega (arith, later.1))
    | inl f ↦ sym e ∙ f
  ]
]
one-only (x ∷ y ∷ plans) few p q in' in'' = absurd (omega arith)

pub open-goal : (machine : Machine) (plans : List Plan) (ask : Ask) (goal : Goal) → ((p : Plan) → Contains plans p → IsTrue (is_live machine ask.now p)) → IsOpenGoal machine [] ask goal → IsOpenGoal machine plans ask goal
open-goal machine plans ask Purge live open' = tt
open-goal machine plans ask (Tray t) live open' = (open'.0, λ p in' delivered later. live p in')

pub length-without : (copy : _) (plans : List Plan) → length (without copy plans) ≤ length plans
length-without copy plans =
    let others : Plan → Bool = λ p. not (is_same_copy p.sheet copy) in
    omega (arith, length-filter others plans, count_by-le-length others plans)

pub can_ask-few : (machine : Machine) (ask : Ask) (plans : List Plan) → CanPlanOn machine ask.now plans → ask.origin ≡ FromFeeder → IsOpenGoal machine [] ask ask.goal → None ≡ position (λ p. is_same_copy p.sheet ask.sheet) plans
    → length plans ≤ 1 → ((p : Plan) → Contains plans p → IsTrue (is_live machine ask.now p)) → CanAsk machine plans ask
can_ask-few machine ask plans plan_on new goal unplanned few live = record {
  plan_on = plan_on;
  few_live = let fewer = length-without ask.sheet plans in omega (arith, count_by-le-length (is_live machine ask.now) (without ask.sheet plans));
  named = λ p q in' in'' name. ap (λ (r : Plan). r.sheet.job) (one-only plans few p q in' in'');
  asked = subst (IsAskedFrom machine plans ask) (sym new) (none-planned ask.sheet plans unplanned);
  has_time = subst (HasTimeFrom plans ask.now) (sym new) (omega arith);
  open_goal = open-goal machine plans ask ask.goal live goal;
}

pub only-live : (machine : Machine) (now : ℕ) (plans : List Plan) (p : Plan) → length plans ≤ 1 → slice_get plans 0 ≡ Some p → IsTrue (is_live machine now p) → (q : Plan) → Contains plans q → IsTrue (is_live machine now q)
only-live machine now plans p few at live q in' = subst (λ (r : Plan). IsTrue (is_live machine now r)) (one-only plans few p q (contains-get plans 0 p at) in') live

-- what was answered can be planned on
and-none : (b : Bool) → (b && false) ≡ false
and-none true = refl
and-none false = refl

pub plan_on-after : (machine : Machine) (ask : Ask) (plans plans' : List Plan) → ask.origin ≡ FromFeeder → ask.now ≤ last_tick → IsAlternative machine plans ask plans' → CanPlanOn machine ask.now plans'
plan_on-after machine ask plans plans' new early a = record {
  now_at_most = early;
  legal = a.legal;
  floors = λ p in' exempt. a.floors p in' (exempt-none p);
  horizon = a.horizon;
} where
  exempt-none : (p : Plan) → IsFalse (follows_front ask p)
  exempt-none p = subst (λ o. IsFalse (is_same_copy p.sheet ask.sheet && nat_lt 0 (kept_from o))) (sym new) (and-none (is_same_copy p.sheet ask.sheet))

pub committed : (asked : Option Ask) (machine : Machine) (ask : Ask) (plans plans' : List Plan) (Also : (a : Ask) → IsAlternative machine plans a plans' → Type 0) → asked ≡ Some ask
    → IsSomeAnd asked (λ a. (x : IsAlternative machine plans a plans') × Also a x) → ask.origin ≡ FromFeeder → ask.now ≤ last_tick → CanPlanOn machine ask.now plans'
committed asked machine ask plans plans' Also is answered new early =
    let h = subst (λ (o : Option Ask). IsSomeAnd o (λ a. (x : IsAlternative machine plans a plans') × Also a x)) is answered in
    plan_on-after machine ask plans plans' new early h.0

-- the first of two plans can be settled alone
without-second : (plans : List Plan) (p : Plan) → AllPairs IsEarlier plans → length plans ≡ 2 → slice_get plans 0 ≡ Some p → (copy : SheetId) × (without copy plans ≡ p ∷ [])
without-second [] p in_order two at = absurd (omega arith)
without-second (x ∷ []) p in_order two at = absurd (omega arith)
without-second (x ∷ y ∷ z ∷ plans) p in_order two at = absurd (omega arith)
without-second (x ∷ y ∷ []) p in_order two at =
    let same : x ≡ p = cc in
    let before : is_before x.sheet y.sheet ≡ true = All-head (λ (q : Plan). is_before x.sheet q.sheet ≡ true) y [] (AllPairs-head IsEarlier x (y ∷ []) in_order) in
    (y.sheet, rw (before-not_same x.sheet y.sheet before, same_copy-refl y.sheet) (ap (λ (q : Plan). q ∷ []) same))

pub can_settle-first : (machine : Machine) (now : ℕ) (plans none plans' : List Plan) (p q : Plan) → CanPlanOn machine now plans → length plans ≡ 2 → slice_get plans 0 ≡ Some p → plans' ≡ put_plan q none → q ≡ p → none ≡ [] → CanSettle machine now plans'
can_settle-first machine now plans none plans' p q plan_on two at put is empty = subst (CanSettle machine now) (sym (put ∙ (λ i. put_plan (is i) (empty i)))) (record {
  plan_on = record {
    now_at_most = plan_on.now_at_most;
    legal = let rest = without-second plans p plan_on.legal.in_order two at in subst (IsLegal machine) rest.1 (IsLegal-without machine rest.0 plans plan_on.legal);
    floors = λ r in'. plan_on.floors r (still r in');
    horizon = λ r in'. plan_on.horizon r (still r in');
  };
  few_live = omega (arith, count_by-le-length (is_live machine now) (p ∷ []));
}) where
  still : (r : Plan) → Contains (p ∷ []) r → Contains plans r
  still r in' = elim (Contains-cons_cases p [] r in') [
    | inl e ↦ subst (Contains plans) e (contains-get plans 0 p at)
    | inr later ↦ absurd (omega (arith, later.1))
  ]

-- a way that is taken back to a mark
module _ {N A : Type 0} (reading : Reading N) (untouched : N → A) where
  laid-kept : (b b' : BoardValue N) (machine : Machine) (ask : Ask) (first : State) (count : ℕ) → content_of reading b' ≡ content_of reading b → b'.plans ≡ b.plans → b'.ask ≡ b.ask → Stands reading b' machine
      → IsLaid reading b machine ask first count → IsLaid reading b' machine ask first count
  laid-kept b b' machine ask first count same plans asked stands laid =
      let steps : b'.steps ≡ b.steps = ap (λ (c : BoardContent). c.steps) same in
      record {
        stands = stands;
        asked = asked ∙ laid.asked;
        leads = subst (λ ss. IsSomeAnd (suffix_after ss) (LeadsFrom machine b'.plans ask first count)) (sym steps) (subst (λ ps. IsSomeAnd (suffix_after b.steps) (LeadsFrom machine ps ask first count)) (sym plans) laid.leads);
      }

  pub laid-marked : MarkKeeps reading untouched → (b b' : BoardValue N) (machine : Machine) (ask : Ask) (first : State) (count : ℕ) → content_of reading b' ≡ content_of reading b → untouched_of untouched b' ≡ untouched_of untouched b
      → past_of reading b' ≡ past_of reading b ++ content_of reading b ∷ [] → IsLaid reading b machine ask first count → IsLaid reading b' machine ask first count
  laid-marked keeps b b' machine ask first count same rest marked laid =
      laid-kept b b' machine ask first count same (ap (λ (a : BoardUntouched A). a.plans) rest) (ap (λ (a : BoardUntouched A). a.ask) rest) (keeps b b' machine same rest marked laid.stands) laid

  -- from b a mark is set, then choices are laid, then the board is taken back to the mark
  pub laid-back : UndoKeeps reading untouched → (b marked laid-on back : BoardValue N) (machine : Machine) (ask : Ask) (first : State) (count k : ℕ) → IsLaid reading b machine ask first count
      → untouched_of untouched marked ≡ untouched_of untouched b → past_of reading marked ≡ past_of reading b ++ content_of reading b ∷ [] → k ≡ length (past_of reading b)
      → past_of reading laid-on ≡ past_of reading marked → IsSameLoad marked laid-on → Stands reading laid-on machine
      → slice_get (past_of reading laid-on) k ≡ Some (content_of reading back) → untouched_of untouched back ≡ untouched_of untouched laid-on → past_of reading back ≡ take k (past_of reading laid-on)
      → IsLaid reading back machine ask first count
  laid-back keeps b marked laid-on back machine ask first count k laid rest set number still same stands got rest' cut =
      let is : content_of reading back ≡ content_of reading b = last_mark (past_of reading b) (past_of reading laid-on) (content_of reading b) (content_of reading back) k (still ∙ set) number got in
      laid-kept b back machine ask first count is
      (ap (λ (a : BoardUntouched A). a.plans) rest' ∙ same.plans ∙ ap (λ (a : BoardUntouched A). a.plans) rest)
      (ap (λ (a : BoardUntouched A). a.ask) rest' ∙ same.ask ∙ ap (λ (a : BoardUntouched A). a.ask) rest)
      (keeps laid-on back machine k got rest' cut stands) laid
