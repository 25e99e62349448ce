-- A budget that is spent on the whole schedule is spent on its live part: each stored list is one of the live part with its places
-- further on.
use Rattle.std.proofs.Common.{◌≡◌, ◌≢◌, inl, inr, ℕ, Bool, not, List, [], ◌∷◌, map, length, refl, ap, sym, arith, AllPairs, Contains, ◌∙◌, subst, Some}
use Rattle.std.proofs.lemmas.List.{length-map}
use Rattle.tp_machine.specs.declared.machine.Machine.{Machine}
use Rattle.tp_schedule.specs.LivePlans.{is_live}
use Rattle.tp_schedule.specs.Plans.{end_of_plan}
use Rattle.tp_schedule.specs.declared.parts.Ask.{Ask}
use Rattle.tp_schedule.specs.declared.parts.Origin.{Origin}
use Rattle.tp_schedule.specs.declared.parts.Origin.TheVariants.{Feeder as FromFeeder, Front as FromFront}
use Rattle.tp_schedule.specs.declared.parts.Plan.{Plan}
use Rattle.tp_schedule.specs.declared.parts.SheetId.{SheetId}
use Rattle.tp_schedule.specs.Choices.{Choice, ChoiceList, IsBound, IsChild, IsComplete, IsCompleteFrom, IsOpen}
use Rattle.tp_schedule.specs.Routes.{walk}
use Rattle.tp_schedule.specs.SpentBudget.{IsSpent, IsStoredOrEmpty}
use Rattle.tp_schedule.proofs.Membership.{Contains-here, Contains-later, Contains-map, Contains-map_from}
use Rattle.tp_schedule.proofs.Pairs.{AllPairs-each, AllPairs-map_from}
use Rattle.tp_choices.specs.LiveParts.{MayAskBeside, MayForget, forgotten_on, less, shift_choice, shifted}
use Rattle.tp_choices.proofs.LiveBounds.{live_bounds, shifted-one}
use Rattle.tp_choices.proofs.LiveLists.{live_opens}
use Rattle.tp_choices.proofs.LiveSpent.{child-down, child-up}
use Rattle.tp_choices.proofs.ShiftedLists.{acts-shifted}
use Rattle.tp_choices.proofs.WholeLists.{whole_opens}
use Rattle.tp_event_turn.specs.LiveAnswers.{WholeAnswersHold, WholeBudgetsHold, spent_of}
use Rattle.tp_event_turn.proofs.LivePast.{both-parts, gone-is, gone_at, may-ask, may-forget}
use Rattle.tp_event_turn.proofs.WholeAnswered.{answers-pass_back, on-whole}

-- lists each of which comes from one, come from a list
lists-down : {X Y : Type 0} (f : X → Y) (ys : List Y) → ((y : Y) → Contains ys y → (x : X) × (y ≡ f x)) → (xs : List X) × (ys ≡ map f xs)
lists-down f [] each = ([], refl)
lists-down f (y ∷ ys) each =
    let first = each y (Contains-here y ys) in
    let rest = lists-down f ys (λ z in'. each z (Contains-later y ys z in')) in
    (first.0 ∷ rest.0, λ i. first.1 i ∷ rest.1 i)

module _ (machine : Machine) (plans : List Plan) (ask : Ask) (gone : SheetId → Bool) (f : MayForget machine ask.now plans gone) (b : MayAskBeside machine plans ask gone)
    (each : (p : Plan) → Contains plans p → gone p.sheet ≡ not (is_live machine ask.now p)) where
  abbrev up : ChoiceList → ChoiceList
  up list = shifted machine (forgotten_on machine plans gone) list

  complete-up : (l : ChoiceList) → IsComplete machine ask l → IsComplete machine ask (up l)
  complete-up l = go ask.origin where
    go : (o : Origin) → IsCompleteFrom machine ask l o → IsCompleteFrom machine ask (up l) o
    go FromFeeder (s, first, start) = (s, subst (λ path. walk machine ask.want path s ≡ Some l.goal) (sym (acts-shifted machine (forgotten_on machine plans gone) l.choices)) first, start)
    go (FromFront state end count) h = h

  open-up : (l : ChoiceList) → IsOpen machine (less gone plans) ask l → IsOpen machine plans ask (up l)
  open-up l (end, opens) = (end, live_opens machine plans ask gone l end f b opens)

  one : (x y : ChoiceList) → up x ≡ up y → x ≡ y
  one x y e = shifted-one machine (forgotten_on machine plans gone) x y e

  down : (l : ChoiceList) → IsOpen machine plans ask l → (small : ChoiceList) × (l ≡ up small) × IsOpen machine (less gone plans) ask small
  down l (end, opens) = let small = whole_opens machine plans ask gone l end f b opens in (small.0, small.1, (end, small.2))

  open-down : (l : ChoiceList) → IsOpen machine plans ask (up l) → IsOpen machine (less gone plans) ask l
  open-down l open' = let small = down (up l) open' in subst (IsOpen machine (less gone plans) ask) (sym (one l small.0 small.1)) small.2

  stored-down : (smalls : List ChoiceList) (l : ChoiceList) → Contains (map up smalls) (up l) → Contains smalls l
  stored-down smalls l in' = let from = Contains-map_from up smalls (up l) in' in subst (Contains smalls) (sym (one l from.0 from.2)) from.1

  none-down : (l : ChoiceList) → (up l).choices ≡ [] → l.choices ≡ []
  none-down l = go l.choices where
    go : (cs : List Choice) → map (shift_choice machine (forgotten_on machine plans gone)) cs ≡ [] → cs ≡ []
    go [] e = refl
    go (c ∷ cs) e = absurd (cc)

  known-down : (smalls : List ChoiceList) (l : ChoiceList) → IsStoredOrEmpty (map up smalls) (up l) → IsStoredOrEmpty smalls l
  known-down smalls l (inl in') = inl (stored-down smalls l in')
  known-down smalls l (inr none) = inr (none-down l none)

  spent-down : (budget bound : ℕ) → IsSpent machine plans ask budget bound → IsSpent machine (less gone plans) ask budget bound
  spent-down budget bound s =
      let small = lists-down up s.stored (λ l in'. let d = down l (s.chosen l in').0 in (d.0, d.1)) in
      let last = whole_opens machine plans ask gone s.last bound f b s.last_bound.opens in
      go small.0 small.1 last.0 last.1 where
        go : (smalls : List ChoiceList) → s.stored ≡ map up smalls → (last : ChoiceList) → s.last ≡ up last → IsSpent machine (less gone plans) ask budget bound
        go smalls is last last-is =
            let there : (l : ChoiceList) → Contains smalls l → Contains s.stored (up l) = λ l in'. subst (λ ls. Contains ls (up l)) (sym is) (Contains-map up smalls l in') in
            let back : (l : ChoiceList) → Contains s.stored (up l) → Contains smalls l = λ l in'. stored-down smalls l (subst (λ ls. Contains ls (up l)) is in') in
            let missed = down s.missing.0 s.missing.2 in
            record {
              stored = smalls;
              count = sym (length-map smalls up) ∙ ap length (sym is) ∙ s.count;
              different = AllPairs-each (λ x y. up x ≢ up y) (λ x y. x ≢ y) smalls (AllPairs-map_from (λ x y. x ≢ y) up smalls (subst (AllPairs (λ x y. x ≢ y)) is s.different)) (λ x y in-x in-y differ e. differ (ap up e));
              chosen = λ l in'.
                  let c = s.chosen (up l) (there l in') in
                  (open-down l c.0, λ none. c.1 (ap (map (shift_choice machine (forgotten_on machine plans gone))) none));
              last = last;
              last_bound = (live_bounds machine plans ask gone last bound f b).1 (subst (λ l. IsBound machine plans ask l bound) last-is s.last_bound);
              last_known = known-down smalls last (subst (λ ls. IsStoredOrEmpty ls (up last)) is (subst (IsStoredOrEmpty s.stored) last-is s.last_known));
              parents = λ parent l in' child.
                  let p = s.parents (up parent) (up l) (there l in') (child-up machine ask (forgotten_on machine plans gone) child) in
                  (known-down smalls parent (subst (λ ls. IsStoredOrEmpty ls (up parent)) is p.0), λ end bounds. p.1 end ((live_bounds machine plans ask gone parent end f b).0 bounds));
              below = λ l end bounds less' child is_child open-child.
                  back child (s.below (up l) end ((live_bounds machine plans ask gone l end f b).0 bounds) less' (up child) (child-up machine ask (forgotten_on machine plans gone) is_child) (open-up child open-child));
              missing = (
                missed.0,
                child-down machine ask (forgotten_on machine plans gone) last missed.0 (subst (λ l. IsChild machine ask l (up missed.0)) last-is (subst (IsChild machine ask s.last) missed.1 s.missing.1)),
                missed.2,
                λ in'. s.missing.3 (subst (Contains s.stored) (sym missed.1) (there missed.0 in')),
              );
              none_stored_complete = λ l in' complete bounds. s.none_stored_complete (up l) (there l in') (complete-up l complete) ((live_bounds machine plans ask gone l bound f b).0 bounds);
              no_child_complete = λ child is_child complete bounds.
                  s.no_child_complete (up child) (subst (λ l. IsChild machine ask l (up child)) (sym last-is) (child-up machine ask (forgotten_on machine plans gone) is_child)) (complete-up child complete)
                  ((live_bounds machine plans ask gone child bound f b).0 bounds);
              none_before = λ other c.
                  let on = on-whole machine plans ask gone f b each other c in
                  let sooner = s.none_before on.0 on.1.0 in
                  let same : end_of_plan on.1.0.plan ≡ end_of_plan c.plan = ap end_of_plan on.1.1 in
                  omega arith;
            }

pub whole-budgets_hold : WholeBudgetsHold
whole-budgets_hold nodes machine plans ask bound can spent =
    let each = gone-is machine ask.now plans can.legal.in_order in
    subst (λ ps. IsSpent machine ps ask nodes bound) (both-parts machine ask.now (gone_at machine ask.now plans) plans each).0
    (spent-down machine plans ask (gone_at machine ask.now plans) (may-forget machine ask.now plans can.legal can.floors) (may-ask machine plans ask can) each nodes bound spent)

pub whole-answers_hold : WholeAnswersHold
whole-answers_hold nodes machine plans ask reply whole can answer = answers-pass_back (spent_of nodes) (spent_of nodes) machine plans ask reply whole (whole-budgets_hold nodes machine) can answer
