-- A plan and its moves among items: what a right answer that they tell is made of, and that it is one alone.
use Rattle.std.proofs.Common.{◌≡◌, ℕ, ◌+◌, ◌<◌, ◌≤◌, ◌&&◌, Bool, true, false, cond, not, List, [], ◌∷◌, ◌++◌, drop, length, refl, sym, ap, subst, ◌∙◌, arith, inl, inr, Contains, All, Option, Some, None}
use Rattle.std.specs.Prelude.{nat_lt, IsFalse}
use Rattle.std.proofs.lemmas.Option.{same_Some}
use Rattle.std.proofs.lemmas.List.Elements.{All-contains}
use Rattle.tp_bounds.specs.declared.tree.BoundTree.{BoundTree}
use Rattle.tp_log.specs.declared.item.Item.{Item}
use Rattle.tp_log.specs.declared.item.Item.TheVariants.{Note, Tree}
use Rattle.tp_machine.specs.declared.machine.Machine.{Machine}
use Rattle.tp_schedule.specs.Answers.{follows_front, kept_of, KeepsFloors, KeepsHorizon}
use Rattle.tp_schedule.specs.Legality.{IsLegal}
use Rattle.tp_schedule.specs.Plans.{AreNamed, IsFormed, IsTimedPlan, change_plan, end_of_plan, is_fixed, is_same_copy, point, plan_of, put_plan, without}
use Rattle.tp_schedule.specs.declared.parts.Ask.{Ask}
use Rattle.tp_schedule.specs.declared.parts.Plan.{Plan}
use Rattle.tp_schedule.specs.declared.parts.Reply.TheVariants.{Planned}
use Rattle.tp_schedule.specs.declared.parts.SheetId.{SheetId}
use Rattle.tp_schedule.specs.declared.records.Record.{Record}
use Rattle.tp_schedule.proofs.ChangeFacts.{All-plan_of}
use Rattle.tp_schedule.proofs.CopyFacts.{InOrder, plan_of-itself, same_copy-refl}
use Rattle.tp_schedule.proofs.Membership.{All-from_contains, Contains-cons_cases, Contains-filter_from}
use Rattle.tp_schedule.proofs.PlanOrder.{All-without, Contains-put_plan, put-without, without-put_plan}
use Rattle.tp_bound_laws.specs.Claims.{IsTreeFor}
use Rattle.tp_bound_laws.specs.declared.claim.Claim.TheVariants.{Earliest}
use Rattle.tp_event_rules.specs.AnswerRecords.{label_of_asked, label_of_plan, moves, told_of_plan, told_of_planned}
use Rattle.tp_schedule_check.specs.Early.{is_exempt}
use Rattle.tp_schedule_check.proofs.LineFacts.{found-one}
use Rattle.tp_schedule_check.specs.Alike.{others}
use Rattle.tp_schedule_check.specs.Faults.{IsGoodPlan, IsRight, exempt_of}
use Rattle.tp_schedule_check.proofs.AnswerFacts.{exempt-same, plans-of}
use Rattle.tp_log_planner.specs.ToldMoves.{IsKeptPlan, TakesMoves, TellsMoves}
use Rattle.tp_log_planner.specs.ToldPlans.{IsOnlyPlan, IsToldPlan}
use Rattle.tp_log_planner.specs.DueTrees.{BeginsWithTree}
use Rattle.tp_log_planner.specs.ToldAnswers.{Tells, behind_asides, notes}
use Rattle.tp_log_planner.proofs.MoveSteps.{drop-more, drop-next}

-- ---- the plan of a copy
-- a plan that is put where it stands
change-self : (copy : SheetId) (plans : List Plan) (q : Plan) → plan_of copy plans ≡ Some q → change_plan copy (λ _. q) plans ≡ plans
change-self copy [] q e = absurd cc
change-self copy (p ∷ plans) q e = go (is_same_copy p.sheet copy) e (change-self copy plans q) where
  go : (b : Bool) → cond b (Some p) (plan_of copy plans) ≡ Some q → (plan_of copy plans ≡ Some q → change_plan copy (λ _. q) plans ≡ plans) → cond b (q ∷ plans) (p ∷ change_plan copy (λ _. q) plans) ≡ p ∷ plans
  go true is rest = ap (λ x. x ∷ plans) (sym (same_Some p q is))
  go false is rest = ap (λ xs. p ∷ xs) (rest is)

pub put-self : (plans : List Plan) (q : Plan) → InOrder plans → plan_of q.sheet plans ≡ Some q → plans ≡ put_plan q (without q.sheet plans)
put-self plans q order is = sym (change-self q.sheet plans q is) ∙ sym (put-without q plans q order is)

pub put-found : (p : Plan) (plans : List Plan) → InOrder (put_plan p plans) → plan_of p.sheet (put_plan p plans) ≡ Some p
put-found p plans order = plan_of-itself (put_plan p plans) p order (Contains-put_plan p plans)

pub put-left : (p : Plan) (plans : List Plan) → without p.sheet (put_plan p (without p.sheet plans)) ≡ without p.sheet plans
put-left p plans = without-put_plan p (without p.sheet plans) (All-without p.sheet plans) (same_copy-refl p.sheet)

timed-formed : (machine : Machine) (p : Plan) → IsTimedPlan machine p → IsFormed p
timed-formed machine p timed = record { some = timed.some; one_more = timed.one_more; released = timed.released }

-- a plan of a right schedule is one that is kept
pub kept-of : (machine : Machine) (now : ℕ) (plans : List Plan) (exempt : Plan → Bool) (none : Option SheetId) (p : Plan) → Contains plans p → IsTimedPlan machine p
    → KeepsFloors machine now exempt plans → KeepsHorizon machine now plans → (is_exempt none p ≡ false → exempt p ≡ false) → IsKeptPlan machine now none p
kept-of machine now plans exempt none p in' timed floors horizon is = record {
  timed = timed;
  floors = λ q here. at-floor q (one q here);
  horizon = λ q here. at-horizon q (one q here);
} where
  one : (q : Plan) → Contains (p ∷ []) q → p ≡ q
  one q here = elim (Contains-cons_cases p [] q here) [ inl e ↦ e | inr later ↦ absurd (omega (arith, later.1)) ]

  at-floor : (q : Plan) → p ≡ q → IsFalse (is_exempt none q) → (i : ℕ) → q.released ≤ i → i < length q.acts → now + machine.lead < point q i
  at-floor q e bound = floors q (subst (Contains plans) e in') (subst (λ x. exempt x ≡ false) e (is (subst (λ x. is_exempt none x ≡ false) (sym e) bound)))

  at-horizon : (q : Plan) → p ≡ q → (i : ℕ) → i ≤ length q.acts → IsFalse (is_fixed q i) → point q i ≤ now + machine.window
  at-horizon q e = horizon q (subst (Contains plans) e in')

-- ---- what is reported
-- the label of a plan that is the asked copy's
asked-label : (ask : Ask) (p : Plan) → p.name ≡ ask.name → p.sheet ≡ ask.sheet → label_of_plan p ≡ label_of_asked ask
asked-label ask p name sheet = λ i. record { job = name i; number = (sheet i).number; copy = (sheet i).copy }

-- a plan, its moves, and the tree behind them
pub record PlannedSo (machine : Machine) (plans : List Plan) (ask : Ask) (told : Record) (later : List Item) (others' : List Plan) (rest : List Item) : Type 0 where
  pub plan : Plan
  pub planned : plan_of ask.sheet others' ≡ Some plan
  pub timed : IsTimedPlan machine plan
  pub told_plan : IsToldPlan machine plans ask told plan
  pub label : label_of_plan plan ≡ label_of_asked ask
  pub kept : IsKeptPlan machine ask.now (exempt_of ask) plan
  pub right : IsRight machine plans ask others'
  pub tree : BoundTree
  pub shows : IsTreeFor machine plans ask (Earliest (end_of_plan plan)) tree
  pub moved : TellsMoves machine ask.now (others (Some ask.sheet) plans) (others (Some ask.sheet) others') later (Tree tree ∷ rest)

module _ (machine : Machine) (plans : List Plan) (ask : Ask) (legal : IsLegal machine plans) where
  right-kept : (others' : List Plan) → IsRight machine plans ask others' → All (IsKeptPlan machine ask.now None) (others (Some ask.sheet) others')
  right-kept others' right = All-from_contains (IsKeptPlan machine ask.now None) (others (Some ask.sheet) others') one where
    one : (r : Plan) → Contains (others (Some ask.sheet) others') r → IsKeptPlan machine ask.now None r
    one r in' =
        let there = Contains-filter_from (λ p. not (is_same_copy p.sheet ask.sheet)) others' r in' in
        let timed = All-contains (IsTimedPlan machine) others' r right.alternative.legal.timed there.0 in
        kept-of machine ask.now others' (follows_front ask) None r there.0 timed right.alternative.floors right.alternative.horizon (λ none. free (is_same_copy r.sheet ask.sheet) there.1) where
          free : (b : Bool) → not b ≡ true → (b && nat_lt 0 (kept_of ask)) ≡ false
          free true e = absurd cc
          free false e = refl

  -- of the items behind a plan's record, where they tell a right answer
  pub planned-so : (told : Record) (later : List Item) (others' : List Plan) (rest : List Item) → behind_asides (Note told ∷ later) ≡ Note told ∷ later → Tells machine plans ask (Note told ∷ later) Planned others' rest
      → PlannedSo machine plans ask told later others' rest
  planned-so told later others' rest first tells =
      let tree = tells.shows.0 in
      let plan = tells.shows.1.0 in
      let planned = tells.shows.1.1 in
      let right = tells.said in
      let whole : Note told ∷ later ≡ Note (told_of_plan machine (kept_of ask) plan) ∷ (notes (moves (without ask.sheet plans) (without ask.sheet others')) ++ (Tree tree ∷ rest)) =
      sym first ∙ tells.told
      ∙ ap (λ o. notes (told_of_planned machine (kept_of ask) o ++ moves (without ask.sheet plans) (without ask.sheet others')) ++ (tells.shown ++ rest)) planned
      ∙ ap (λ xs. Note (told_of_plan machine (kept_of ask) plan) ∷ (notes (moves (without ask.sheet plans) (without ask.sheet others')) ++ (xs ++ rest))) tells.shows.1.3 in
      let is : told_of_plan machine (kept_of ask) plan ≡ told = cc in
      let behind : later ≡ notes (moves (without ask.sheet plans) (without ask.sheet others')) ++ (Tree tree ∷ rest) = cc in
      let has = plans-of machine plans others' ask legal right.alternative.legal.in_order right in
      let same : has.answered.plan ≡ plan = same_Some has.answered.plan plan (sym has.answered.planned ∙ planned) in
      let good : IsGoodPlan machine plans ask plan = subst (IsGoodPlan machine plans ask) same has.answered.good in
      let timed = All-plan_of (IsTimedPlan machine) ask.sheet others' plan right.alternative.legal.timed planned in
      let there : Contains others' plan = (found-one (λ p. is_same_copy p.sheet ask.sheet) others' plan planned).0 in
      record {
        plan = plan;
        planned = planned;
        timed = timed;
        told_plan = record { formed = timed-formed machine plan timed; good = good; is = is };
        label = asked-label ask plan good.answers.name good.answers.sheet;
        kept = kept-of machine ask.now others' (follows_front ask) (exempt_of ask) plan there timed right.alternative.floors right.alternative.horizon (λ e. ap (λ f. f plan) (sym (exempt-same ask)) ∙ e);
        right = right;
        tree = tree;
        shows = tells.shows.1.2;
        moved = record { told = behind; over = refl; alike = has.alike; kept = right-kept others' right };
      }

  -- ---- what is read
  module _ (named : AreNamed plans) (told : Record) (later : List Item) (first : behind_asides (Note told ∷ later) ≡ Note told ∷ later) (plan : Plan) (only : IsOnlyPlan machine plans ask told plan) where
    sheet : plan.sheet ≡ ask.sheet
    sheet = only.told_plan.good.answers.sheet

    -- what no right plan breaks
    pub kept-or-none : (IsKeptPlan machine ask.now (exempt_of ask) plan → ⊥) → (others' : List Plan) (rest : List Item) → Tells machine plans ask (Note told ∷ later) Planned others' rest → ⊥
    kept-or-none breaks others' rest tells =
        let so = planned-so told later others' rest first tells in
        breaks (subst (IsKeptPlan machine ask.now (exempt_of ask)) (only.only so.plan so.timed so.told_plan) so.kept)

    -- moves are reported too
    pub moves-or-none : (others' : List Plan) (rest : List Item) → Tells machine plans ask (Note told ∷ later) Planned others' rest
        → (qs : List Plan) × ((rest' : List Item) × TellsMoves machine ask.now (others (Some ask.sheet) plans) qs later rest')
    moves-or-none others' rest tells =
        let so = planned-so told later others' rest first tells in
        (others (Some ask.sheet) others', (Tree so.tree ∷ rest, so.moved))

    module _ (mid : List Plan) (taken : ℕ) (takes : TakesMoves machine ask.now (Some ask.sheet) plans mid later taken) (after : List Plan) (is : after ≡ put_plan plan (without plan.sheet mid)) where
      -- a right answer that is reported is this one, and its tree stands here
      pub record IsIt (others' : List Plan) (rest : List Item) : Type 0 where
        pub same : others' ≡ after
        pub right : IsRight machine plans ask others'
        pub tree : BoundTree
        pub shows : IsTreeFor machine plans ask (Earliest (end_of_plan plan)) tree
        pub there : drop taken later ≡ Tree tree ∷ rest

      pub is-it : (others' : List Plan) (rest : List Item) → Tells machine plans ask (Note told ∷ later) Planned others' rest → IsIt others' rest
      is-it others' rest tells =
          let so = planned-so told later others' rest first tells in
          let plan-is : so.plan ≡ plan = only.only so.plan so.timed so.told_plan in
          let both = takes.only named (others (Some ask.sheet) others') (Tree so.tree ∷ rest) so.moved in
          let so-sheet : so.plan.sheet ≡ ask.sheet = so.told_plan.good.answers.sheet in
          let planned : plan_of so.plan.sheet others' ≡ Some so.plan = ap (λ c. plan_of c others') so-sheet ∙ so.planned in
          let left : without so.plan.sheet others' ≡ without plan.sheet mid = ap (λ c. without c others') so-sheet ∙ both.0 ∙ ap (λ c. without c mid) (sym sheet) in
          record {
            same = put-self others' so.plan so.right.alternative.legal.in_order planned ∙ ap (λ xs. put_plan so.plan xs) left ∙ ap (λ p. put_plan p (without plan.sheet mid)) plan-is ∙ sym is;
            right = so.right;
            tree = so.tree;
            shows = subst (λ p. IsTreeFor machine plans ask (Earliest (end_of_plan p)) so.tree) plan-is so.shows;
            there = sym both.1;
          }

      module _ (right : IsRight machine plans ask after) (begins : BeginsWithTree machine plans ask (Earliest (end_of_plan plan)) (drop taken later)) where
        pub found : plan_of ask.sheet after ≡ Some plan
        found = ap (λ c. plan_of c after) (sym sheet) ∙ ap (plan_of plan.sheet) is ∙ put-found plan (without plan.sheet mid) (subst InOrder is right.alternative.legal.in_order)

        left-is : without ask.sheet after ≡ without ask.sheet mid
        left-is = ap (λ c. without c after) (sym sheet) ∙ ap (without plan.sheet) is ∙ put-left plan mid ∙ ap (λ c. without c mid) sheet

        rest-is : drop (taken + 1) later ≡ begins.later
        rest-is = drop-next later taken (Tree begins.tree) begins.later begins.is

        pub enough : taken + 1 ≤ length later
        enough = drop-more later taken (Tree begins.tree) begins.later begins.is

        pub it-tells : Tells machine plans ask (Note told ∷ later) Planned after (drop (taken + 1) later)
        it-tells = record {
          shown = Tree begins.tree ∷ [];
          told = first
              ∙ ap (λ r. Note r ∷ later) (sym only.told_plan.is)
              ∙ ap (λ xs. Note (told_of_plan machine (kept_of ask) plan) ∷ xs) (
              takes.told ∙ ap (λ xs. notes (moves (without ask.sheet plans) xs) ++ drop taken later) (sym left-is)
              ∙ ap (λ xs. notes (moves (without ask.sheet plans) (without ask.sheet after)) ++ xs) (begins.is ∙ ap (λ xs. Tree begins.tree ∷ xs) (sym rest-is)))
              ∙ ap (λ o. notes (told_of_planned machine (kept_of ask) o ++ moves (without ask.sheet plans) (without ask.sheet after)) ++ (Tree begins.tree ∷ drop (taken + 1) later)) (sym found);
          said = right;
          shows = (begins.tree, (plan, found, begins.shows, refl));
        }

        pub it-only : (others' : List Plan) (rest : List Item) → Tells machine plans ask (Note told ∷ later) Planned others' rest → (others' ≡ after) × (rest ≡ drop (taken + 1) later)
        it-only others' rest tells =
            let it = is-it others' rest tells in
            (it.same, sym (drop-next later taken (Tree it.tree) rest it.there))
