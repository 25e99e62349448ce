-- A spent budget of the live part: the stored lists, each with its places further on, are a spent budget of the whole
-- schedule, since children, completeness and bounds are the same.
use Rattle.std.proofs.Common.{◌≡◌, ◌≢◌, inl, inr, ℕ, ◌≤◌, false, List, [], ◌∷◌, map, refl, ap, sym, Contains, ◌∙◌, subst, Some}
use Rattle.std.proofs.lemmas.List.{length-map}
use Rattle.tp_machine.specs.declared.machine.Machine.{Machine}
use Rattle.tp_schedule.specs.declared.parts.Ask.{Ask}
use Rattle.tp_schedule.specs.declared.parts.Origin.{Origin}
use Rattle.tp_schedule.specs.declared.parts.Origin.TheVariants.{Feeder as FromFeeder, Front as FromFront}
use Rattle.tp_schedule.specs.Choices.{Choice, ChoiceList, acts_of, IsChild, IsComplete, IsCompleteFrom, IsOpen, IsBound, CanStop, going, stopping}
use Rattle.tp_schedule.specs.Choices.IsChild.{one_more, stopped}
use Rattle.tp_schedule.specs.Routes.{walk}
use Rattle.tp_schedule.specs.SpentBudget.{IsStoredOrEmpty}
use Rattle.tp_schedule.proofs.Membership.{Contains-map, Contains-map_from}
use Rattle.tp_schedule.proofs.Pairs.{AllPairs-map}
use Rattle.tp_choices.specs.LiveParts.{less, shift_choice, shifted, forgotten_on, LiveSpends}
use Rattle.tp_choices.proofs.LiveBounds.{shifted-one, live_bounds, live_bounds_answers}
use Rattle.tp_choices.proofs.LiveLists.{live_opens}
use Rattle.tp_choices.proofs.ShiftedLists.{acts-shifted, can_stop-as}
use Rattle.tp_choices.proofs.WholeLists.{whole_opens}

module _ (machine : Machine) (ask : Ask) (counts : ℕ → ℕ) where
  abbrev further : ChoiceList → ChoiceList
  further = shifted machine counts

  -- a child stays a child
  pub child-up : {p l : ChoiceList} → IsChild machine ask p l → IsChild machine ask (shifted machine counts p) (shifted machine counts l)
  child-up (one_more c) = one_more (shift_choice machine counts c)
  child-up (stopped {goal} {choices} can) = stopped (can_stop-as machine ask (going goal choices) (going goal (map (shift_choice machine counts) choices)) ask.origin (sym (acts-shifted machine counts choices)) refl can)

  -- a child by its form
  data Form (p l : ChoiceList) : Type 0 where
    longer : (c : Choice) → l ≡ going p.goal (c ∷ p.choices) → p.stopped ≡ false → Form p l
    ended : l ≡ stopping p.goal p.choices → p.stopped ≡ false → CanStop machine ask (going p.goal p.choices) ask.origin → Form p l

  form : {p l : ChoiceList} → IsChild machine ask p l → Form p l
  form (one_more c) = longer c refl refl
  form (stopped can) = ended refl refl can

  -- the parent of a shifted list is a shifted parent
  record Parent (p l : ChoiceList) : Type 0 where
    small : ChoiceList
    is : p ≡ shifted machine counts small
    child : IsChild machine ask small l

  parent-down : (p l : ChoiceList) → IsChild machine ask p (shifted machine counts l) → Parent p l
  parent-down p l child = go (form child) where
    go : Form p (shifted machine counts l) → Parent p l
    go (longer c is going-p) = pick l.choices refl where
      goal : l.goal ≡ p.goal
      goal = ap (λ (x : ChoiceList). x.goal) is

      here : map (shift_choice machine counts) l.choices ≡ c ∷ p.choices
      here = ap (λ (x : ChoiceList). x.choices) is

      pick : (cs : List Choice) → l.choices ≡ cs → Parent p l
      pick [] e = absurd (let none : [] ≡ c ∷ p.choices = sym (ap (map (shift_choice machine counts)) e) ∙ here in cc)
      pick (d ∷ ds) e =
          let both : shift_choice machine counts d ∷ map (shift_choice machine counts) ds ≡ c ∷ p.choices = sym (ap (map (shift_choice machine counts)) e) ∙ here in
          let rest : map (shift_choice machine counts) ds ≡ p.choices = cc in
          let l-is : l ≡ going l.goal (d ∷ ds) = λ i. record { goal = l.goal; choices = e i; stopped = ap (λ (x : ChoiceList). x.stopped) is i } in
          record {
            small = going l.goal ds;
            is = λ i. record { goal = sym goal i; choices = sym rest i; stopped = going-p i };
            child = subst (IsChild machine ask (going l.goal ds)) (sym l-is) (one_more d);
          }
    go (ended is going-p can) =
        let goal : l.goal ≡ p.goal = ap (λ (x : ChoiceList). x.goal) is in
        let here : map (shift_choice machine counts) l.choices ≡ p.choices = ap (λ (x : ChoiceList). x.choices) is in
        let l-is : l ≡ stopping l.goal l.choices = λ i. record { goal = l.goal; choices = l.choices; stopped = ap (λ (x : ChoiceList). x.stopped) is i } in
        let acts : acts_of p.choices ≡ acts_of l.choices = ap acts_of (sym here) ∙ acts-shifted machine counts l.choices in
        record {
          small = going l.goal l.choices;
          is = λ i. record { goal = sym goal i; choices = sym here i; stopped = going-p i };
          child = subst (IsChild machine ask (going l.goal l.choices)) (sym l-is) (stopped (can_stop-as machine ask (going p.goal p.choices) (going l.goal l.choices) ask.origin acts (sym goal) can));
        }

  pub child-down : (p l : ChoiceList) → IsChild machine ask (shifted machine counts p) (shifted machine counts l) → IsChild machine ask p l
  child-down p l child =
      let from = parent-down (shifted machine counts p) l child in
      subst (λ q. IsChild machine ask q l) (sym (shifted-one machine counts p from.small from.is)) from.child

  complete-as : (l : ChoiceList) → IsComplete machine ask (shifted machine counts l) → IsComplete machine ask l
  complete-as l = go ask.origin where
    go : (o : Origin) → IsCompleteFrom machine ask (shifted machine counts l) o → IsCompleteFrom machine ask l o
    go FromFeeder (s, first, start) = (s, subst (λ path. walk machine ask.want path s ≡ Some l.goal) (acts-shifted machine counts l.choices) first, start)
    go (FromFront state end count) h = h

  choices-up : (l : ChoiceList) → (l.choices ≡ [] → ⊥) → map (shift_choice machine counts) l.choices ≡ [] → ⊥
  choices-up l some = go l.choices some where
    go : (cs : List Choice) → (cs ≡ [] → ⊥) → map (shift_choice machine counts) cs ≡ [] → ⊥
    go [] some' e = some' refl
    go (c ∷ cs) some' e = absurd (cc)

  stored-up : (stored : List ChoiceList) (l : ChoiceList) → IsStoredOrEmpty stored l → IsStoredOrEmpty (map (shifted machine counts) stored) (shifted machine counts l)
  stored-up stored l (inl in') = inl (Contains-map (shifted machine counts) stored l in')
  stored-up stored l (inr none) = inr (ap (map (shift_choice machine counts)) none)

pub live_spends : LiveSpends
live_spends machine plans ask gone budget bound f b s = record {
  stored = map up s.stored;
  count = length-map s.stored up ∙ s.count;
  different = AllPairs-map (λ x y. x ≢ y) (λ x y. x ≢ y) (λ _. Unit {0}) up s.stored (λ k d within. tt) s.different (λ x y _ _ differ e. differ (shifted-one machine counts x y e));
  chosen = λ l in'.
      let from = Contains-map_from up s.stored l in' in
      let c = s.chosen from.0 from.1 in
      subst (λ x. IsOpen machine plans ask x × (x.choices ≢ [])) (sym from.2) (open-up from.0 c.0, choices-up machine ask counts from.0 c.1);
  last = up s.last;
  last_bound = (live_bounds machine plans ask gone s.last bound f b).0 s.last_bound;
  last_known = stored-up machine ask counts s.stored s.last s.last_known;
  parents = λ parent l in' child.
      let from = Contains-map_from up s.stored l in' in
      let p = parent-down machine ask counts parent from.0 (subst (IsChild machine ask parent) from.2 child) in
      let known = s.parents p.small from.0 from.1 p.child in
      subst (λ q. IsStoredOrEmpty (map up s.stored) q × ((end : ℕ) → IsBound machine plans ask q end → end ≤ bound)) (sym p.is)
      (stored-up machine ask counts s.stored p.small known.0, λ end is. known.1 end ((live_bounds machine plans ask gone p.small end f b).1 is));
  below = λ l end is less child is_child open-child.
      let small = whole_opens machine plans ask gone l end f b is.opens in
      let small-child = whole_opens machine plans ask gone child open-child.0 f b open-child.1 in
      let bound-small = (live_bounds machine plans ask gone small.0 end f b).1 (subst (λ x. IsBound machine plans ask x end) small.1 is) in
      let child-small = child-down machine ask counts small.0 small-child.0 (subst (λ x. IsChild machine ask x (up small-child.0)) small.1 (subst (IsChild machine ask l) small-child.1 is_child)) in
      subst (Contains (map up s.stored)) (sym small-child.1) (Contains-map up s.stored small-child.0 (s.below small.0 end bound-small less small-child.0 child-small (open-child.0, small-child.2)));
  missing = (
    up s.missing.0,
    child-up machine ask counts s.missing.1,
    open-up s.missing.0 s.missing.2,
    λ in'. (let from = Contains-map_from up s.stored (up s.missing.0) in' in
        let same = shifted-one machine counts s.missing.0 from.0 from.2 in s.missing.3 (subst (Contains s.stored) (sym same) from.1)),
  );
  none_stored_complete = λ l in' complete is.
      let from = Contains-map_from up s.stored l in' in
      s.none_stored_complete from.0 from.1 (complete-as machine ask counts from.0 (subst (IsComplete machine ask) from.2 complete)) ((live_bounds machine plans ask gone from.0 bound f b).1 (subst (λ x. IsBound machine plans ask x bound) from.2 is));
  no_child_complete = λ child is_child complete is.
      let small = whole_opens machine plans ask gone child bound f b is.opens in
      s.no_child_complete small.0 (child-down machine ask counts s.last small.0 (subst (IsChild machine ask (up s.last)) small.1 is_child))
      (complete-as machine ask counts small.0 (subst (IsComplete machine ask) small.1 complete)) ((live_bounds machine plans ask gone small.0 bound f b).1 (subst (λ x. IsBound machine plans ask x bound) small.1 is));
  none_before = live_bounds_answers machine plans ask gone bound f b.stays s.none_before;
} where
  counts : ℕ → ℕ
  counts = forgotten_on machine plans gone

  up : ChoiceList → ChoiceList
  up = shifted machine (forgotten_on machine plans gone)

  open-up : (l : ChoiceList) → IsOpen machine (less gone plans) ask l → IsOpen machine plans ask (shifted machine (forgotten_on machine plans gone) l)
  open-up l (end, o) = (end, live_opens machine plans ask gone l end f b o)
