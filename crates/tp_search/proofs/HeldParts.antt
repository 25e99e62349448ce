-- From a schedule to what is left of it where plans that are over are forgotten: where it has no alternative, or none that ends
-- before a tick, or few open lists, or a spent budget, so it is with what is left; and each complete list is one of what is left
-- with its places further on.
use Rattle.std.proofs.Common.{◌≡◌, ◌≢◌, ◌≤◌, inl, inr, ℕ, Bool, true, false, not, List, [], ◌∷◌, map, length, refl, ap, sym, arith, AllPairs, Contains, ◌∙◌, subst, Some}
use Rattle.std.proofs.lemmas.Bool.{not-true, not_from_false}
use Rattle.std.proofs.lemmas.List.{length-map}
use Rattle.tp_machine.specs.declared.machine.Machine.{Machine}
use Rattle.tp_schedule.specs.Answers.{IsAlternative, NoneBefore, unmoved}
use Rattle.tp_schedule.specs.Choices.{Choice, ChoiceList, IsBound, IsChild, IsComplete, IsCompleteFrom, IsOpen}
use Rattle.tp_schedule.specs.Plans.{end_of_plan, is_same_copy, without}
use Rattle.tp_schedule.specs.Routes.{walk}
use Rattle.tp_schedule.specs.SpentBudget.{FewListsOpen, IsSpent, IsStoredOrEmpty}
use Rattle.tp_schedule.specs.declared.parts.Ask.{Ask}
use Rattle.tp_schedule.specs.declared.parts.Origin.{Origin}
use Rattle.tp_schedule.specs.declared.parts.Origin.TheVariants.{Feeder as FromFeeder, Front as FromFront}
use Rattle.tp_schedule.specs.declared.parts.Plan.{Plan}
use Rattle.tp_schedule.specs.declared.parts.SheetId.{SheetId}
use Rattle.tp_schedule.proofs.CopyFacts.{same_copy-is}
use Rattle.tp_schedule.proofs.Membership.{Contains-filter, Contains-filter_from, Contains-here, Contains-later, Contains-map, Contains-map_from}
use Rattle.tp_schedule.proofs.Pairs.{AllPairs-each, AllPairs-map, AllPairs-map_from}
use Rattle.tp_choices.specs.LiveParts.{MayAskBeside, MayForget, forgotten_on, less, shift_choice, shifted}
use Rattle.tp_choices.proofs.RejoinedPlans.{join_exists}
use Rattle.tp_choices.proofs.LiveAnswers.{live_answers}
use Rattle.tp_choices.proofs.LiveBounds.{live_bounds, shifted-one}
use Rattle.tp_choices.proofs.LiveLists.{live_opens}
use Rattle.tp_choices.proofs.LiveSpent.{child-down, child-up}
use Rattle.tp_choices.proofs.ShiftedLists.{acts-shifted}
use Rattle.tp_choices.proofs.WholeLists.{whole_opens}
use Rattle.tp_search.proofs.TrialFacts.{complete-shifted}

-- lists each of which comes from one, come from a list
lists-down : {X Y : Type 0} (f : X → Y) (ys : List Y) → ((y : Y) → Contains ys y → (x : X) × (y ≡ f x)) → (xs : List X) × (ys ≡ map f xs)
lists-down f [] each = ([], refl)
lists-down f (y ∷ ys) each =
    let first = each y (Contains-here y ys) in
    let rest = lists-down f ys (λ z in'. each z (Contains-later y ys z in')) in
    (first.0 ∷ rest.0, λ i. first.1 i ∷ rest.1 i)

module _ (machine : Machine) (ask : Ask) (counts : ℕ → ℕ) where
  -- a list is complete where it is with its places further on, and has choices where it has them then
  complete-back : (l : ChoiceList) → IsComplete machine ask (shifted machine counts l) → IsComplete machine ask l
  complete-back l = go ask.origin where
    go : (o : Origin) → IsCompleteFrom machine ask (shifted machine counts l) o → IsCompleteFrom machine ask l o
    go FromFeeder (s, first, start) = (s, subst (λ path. walk machine ask.want path s ≡ Some l.goal) (acts-shifted machine counts l.choices) first, start)
    go (FromFront state end count) h = h

  none-back : (cs : List Choice) → map (shift_choice machine counts) cs ≡ [] → cs ≡ []
  none-back [] e = refl
  none-back (c ∷ cs) e = absurd (cc)

module _ (machine : Machine) (plans : List Plan) (ask : Ask) (gone : SheetId → Bool) (f : MayForget machine ask.now plans gone) (b : MayAskBeside machine plans ask gone) where
  -- the plans of an alternative on what is left are of copies that stay
  stays-of : (other : List Plan) → IsAlternative machine (less gone plans) ask other → (q : Plan) → Contains other q → gone q.sheet ≡ false
  stays-of other a q in' = go (is_same_copy q.sheet ask.sheet) refl where
    go : (c : Bool) → is_same_copy q.sheet ask.sheet ≡ c → gone q.sheet ≡ false
    go true e = subst (λ c. gone c ≡ false) (sym (same_copy-is q.sheet ask.sheet e)) b.stays
    go false e =
        let here = Contains-map unmoved (without ask.sheet other) q (Contains-filter (λ p. not (is_same_copy p.sheet ask.sheet)) other q in' (not_from_false (is_same_copy q.sheet ask.sheet) e)) in
        let from = Contains-map_from unmoved (without ask.sheet (less gone plans)) (unmoved q) (subst (λ ps. Contains ps (unmoved q)) a.others here) in
        let left = (Contains-filter_from (λ p. not (is_same_copy p.sheet ask.sheet)) (less gone plans) from.0 from.1).0 in
        let stays = not-true (gone from.0.sheet) (Contains-filter_from (λ p. not (gone p.sheet)) plans from.0 left).1 in
        let sheet : q.sheet ≡ from.0.sheet = ap (λ (p : Plan). p.sheet) from.2 in
        subst (λ c. gone c ≡ false) (sym sheet) stays

  -- an alternative on what is left ends as one on the schedule does
  on-all : (other : List Plan) (c : IsAlternative machine (less gone plans) ask other) → (new : List Plan) × ((d : IsAlternative machine plans ask new) × (d.plan ≡ c.plan))
  on-all other c =
      let join = join_exists gone plans other f.legal.in_order c.legal.in_order (stays-of other c) in
      (join.0, live_answers machine plans other join.0 ask gone f b join.1 c)

  pub never-left : ((other : List Plan) → ¬ IsAlternative machine plans ask other) → (other : List Plan) → ¬ IsAlternative machine (less gone plans) ask other
  never-left none other c = let on = on-all other c in none on.0 on.1.0

  pub none_before-left : (bound : ℕ) → NoneBefore machine plans ask bound → NoneBefore machine (less gone plans) ask bound
  none_before-left bound none other c = let on = on-all other c in subst (λ p. bound ≤ end_of_plan p) on.1.1 (none on.0 on.1.0)

  abbrev up : ChoiceList → ChoiceList
  up list = shifted machine (forgotten_on machine plans gone) list

  one : (x y : ChoiceList) → up x ≡ up y → x ≡ y
  one x y e = shifted-one machine (forgotten_on machine plans gone) x y e

  open-up : (l : ChoiceList) → IsOpen machine (less gone plans) ask l → IsOpen machine plans ask (up l)
  open-up l (end, opens) = (end, live_opens machine plans ask gone l end f b opens)

  down : (l : ChoiceList) → IsOpen machine plans ask l → (small : ChoiceList) × (l ≡ up small) × IsOpen machine (less gone plans) ask small
  down l (end, opens) = let small = whole_opens machine plans ask gone l end f b opens in (small.0, small.1, (end, small.2))

  open-down : (l : ChoiceList) → IsOpen machine plans ask (up l) → IsOpen machine (less gone plans) ask l
  open-down l open' = let small = down (up l) open' in subst (IsOpen machine (less gone plans) ask) (sym (one l small.0 small.1)) small.2

  none-down : (l : ChoiceList) → (up l).choices ≡ [] → l.choices ≡ []
  none-down l e = none-back machine ask (forgotten_on machine plans gone) l.choices e

  pub few-left : (most : ℕ) → FewListsOpen machine plans ask most → FewListsOpen machine (less gone plans) ask most
  few-left most few lists differ each =
      let many = few (map up lists) (AllPairs-map (λ x y. x ≢ y) (λ x y. x ≢ y) (λ _. Unit {0}) up lists (λ k d within. tt) differ (λ x y _ _ other e. other (one x y e)))
      (λ l in'.
      let from = Contains-map_from up lists l in' in
      let is = each from.0 from.1 in
      subst (λ x. IsOpen machine plans ask x × (x.choices ≢ [])) (sym from.2) (open-up from.0 is.0, λ none. is.1 (none-down from.0 none))) in
      omega (arith, length-map lists up, many)

  stored-down : (smalls : List ChoiceList) (l : ChoiceList) → Contains (map up smalls) (up l) → Contains smalls l
  stored-down smalls l in' = let from = Contains-map_from up smalls (up l) in' in subst (Contains smalls) (sym (one l from.0 from.2)) from.1

  known-down : (smalls : List ChoiceList) (l : ChoiceList) → IsStoredOrEmpty (map up smalls) (up l) → IsStoredOrEmpty smalls l
  known-down smalls l (inl in') = inl (stored-down smalls l in')
  known-down smalls l (inr none) = inr (none-down l none)

  pub spent-left : (budget bound : ℕ) → IsSpent machine plans ask budget bound → IsSpent machine (less gone plans) ask budget bound
  spent-left budget bound s =
      let small = lists-down up s.stored (λ l in'. let d = down l (s.chosen l in').0 in (d.0, d.1)) in
      let last = whole_opens machine plans ask gone s.last bound f b s.last_bound.opens in
      go small.0 small.1 last.0 last.1 where
        go : (smalls : List ChoiceList) → s.stored ≡ map up smalls → (last : ChoiceList) → s.last ≡ up last → IsSpent machine (less gone plans) ask budget bound
        go smalls is last last-is =
            let there : (l : ChoiceList) → Contains smalls l → Contains s.stored (up l) = λ l in'. subst (λ ls. Contains ls (up l)) (sym is) (Contains-map up smalls l in') in
            let back : (l : ChoiceList) → Contains s.stored (up l) → Contains smalls l = λ l in'. stored-down smalls l (subst (λ ls. Contains ls (up l)) is in') in
            let missed = down s.missing.0 s.missing.2 in
            record {
              stored = smalls;
              count = sym (length-map smalls up) ∙ ap length (sym is) ∙ s.count;
              different = AllPairs-each (λ x y. up x ≢ up y) (λ x y. x ≢ y) smalls (AllPairs-map_from (λ x y. x ≢ y) up smalls (subst (AllPairs (λ x y. x ≢ y)) is s.different)) (λ x y in-x in-y differ e. differ (ap up e));
              chosen = λ l in'.
                  let c = s.chosen (up l) (there l in') in
                  (open-down l c.0, λ none. c.1 (ap (map (shift_choice machine (forgotten_on machine plans gone))) none));
              last = last;
              last_bound = (live_bounds machine plans ask gone last bound f b).1 (subst (λ l. IsBound machine plans ask l bound) last-is s.last_bound);
              last_known = known-down smalls last (subst (λ ls. IsStoredOrEmpty ls (up last)) is (subst (IsStoredOrEmpty s.stored) last-is s.last_known));
              parents = λ parent l in' child.
                  let p = s.parents (up parent) (up l) (there l in') (child-up machine ask (forgotten_on machine plans gone) child) in
                  (known-down smalls parent (subst (λ ls. IsStoredOrEmpty ls (up parent)) is p.0), λ end bounds. p.1 end ((live_bounds machine plans ask gone parent end f b).0 bounds));
              below = λ l end bounds less' child is_child open-child.
                  back child (s.below (up l) end ((live_bounds machine plans ask gone l end f b).0 bounds) less' (up child) (child-up machine ask (forgotten_on machine plans gone) is_child) (open-up child open-child));
              missing = (
                missed.0,
                child-down machine ask (forgotten_on machine plans gone) last missed.0 (subst (λ l. IsChild machine ask l (up missed.0)) last-is (subst (IsChild machine ask s.last) missed.1 s.missing.1)),
                missed.2,
                λ in'. s.missing.3 (subst (Contains s.stored) (sym missed.1) (there missed.0 in')),
              );
              none_stored_complete = λ l in' complete bounds.
                  s.none_stored_complete (up l) (there l in') (complete-shifted machine ask (forgotten_on machine plans gone) l complete) ((live_bounds machine plans ask gone l bound f b).0 bounds);
              no_child_complete = λ child is_child complete bounds.
                  s.no_child_complete (up child) (subst (λ l. IsChild machine ask l (up child)) (sym last-is) (child-up machine ask (forgotten_on machine plans gone) is_child)) (complete-shifted machine ask (forgotten_on machine plans gone) child complete)
                  ((live_bounds machine plans ask gone child bound f b).0 bounds);
              none_before = none_before-left bound s.none_before;
            }

  -- a complete list is one of what is left with its places further on, and has the same bound there
  pub complete-left : (list : ChoiceList) (bound : ℕ) → IsComplete machine ask list → IsBound machine plans ask list bound
      → (small : ChoiceList) × IsComplete machine ask small × IsBound machine (less gone plans) ask small bound
  complete-left list bound complete is =
      let small = whole_opens machine plans ask gone list bound f b is.opens in (
        small.0,
        complete-back machine ask (forgotten_on machine plans gone) small.0 (subst (IsComplete machine ask) small.1 complete),
        (live_bounds machine plans ask gone small.0 bound f b).1 (subst (λ l. IsBound machine plans ask l bound) small.1 is),
      )
