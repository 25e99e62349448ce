-- Bounds and earliest ends of the live part are those of the whole schedule, since each list and each alternative of one is
-- one of the other with the same end. Shifting places back and forth gives the list again.
use Rattle.std.proofs.Common.{◌≡◌, ℕ, ◌+◌, ◌≤◌, List, [], ◌∷◌, map, refl, ap, sym, arith, ◌∙◌, subst}
use Rattle.tp_machine.specs.ModuleUse.{action_at}
use Rattle.tp_machine.specs.declared.parts.ActId.{ActId}
use Rattle.tp_machine.specs.declared.parts.HoldRule.{HoldRule}
use Rattle.tp_machine.specs.declared.machine.Machine.{Machine}
use Rattle.tp_schedule.specs.Choices.{Choice, ChoiceList, OpensTo}
use Rattle.tp_schedule.specs.Holders.{holds_of_act}
use Rattle.tp_schedule.specs.Plans.{end_of_plan}
use Rattle.tp_choices.specs.LiveParts.{less, shift_places, shift_choice, shifted, forgotten_on, LiveBounds, LiveIsEarliest, LiveBoundsAnswers, LiveHasNone}
use Rattle.tp_choices.proofs.Fewer.{less_answers}
use Rattle.tp_choices.proofs.LiveAnswers.{live_answers}
use Rattle.tp_choices.proofs.LiveLists.{live_opens}
use Rattle.tp_choices.proofs.WholeLists.{whole_opens}

tail_of : {X : Type 0} → List X → List X
tail_of [] = []
tail_of (x ∷ xs) = xs

head_of : {X : Type 0} → X → List X → X
head_of d [] = d
head_of d (x ∷ xs) = x

same_tail : {X : Type 0} (x y : X) (xs ys : List X) → x ∷ xs ≡ y ∷ ys → xs ≡ ys
unfolding tail_of
same_tail x y xs ys e = ap tail_of e

same_head : {X : Type 0} (x y : X) (xs ys : List X) → x ∷ xs ≡ y ∷ ys → x ≡ y
unfolding head_of
same_head x y xs ys e = ap (head_of x) e

places-one : (counts : ℕ → ℕ) (rules : List HoldRule) (ks ns : List ℕ) → shift_places counts rules ks ≡ shift_places counts rules ns → ks ≡ ns
places-one counts [] ks ns e = e
places-one counts (h ∷ rules) [] [] e = refl
places-one counts (h ∷ rules) [] (n ∷ ns) e = absurd (cc)
places-one counts (h ∷ rules) (k ∷ ks) [] e = absurd (cc)
places-one counts (h ∷ rules) (k ∷ ks) (n ∷ ns) e =
    let heads = same_head (k + counts h.resource.0) (n + counts h.resource.0) (shift_places counts rules ks) (shift_places counts rules ns) e in
    let first : k ≡ n = omega arith in
    let rest = places-one counts rules ks ns (same_tail (k + counts h.resource.0) (n + counts h.resource.0) (shift_places counts rules ks) (shift_places counts rules ns) e) in
    λ i. first i ∷ rest i

choice-one : (machine : Machine) (counts : ℕ → ℕ) (a : ActId) (ks : List ℕ) (d : Choice) → shift_choice machine counts (record { act = a; places = ks }) ≡ shift_choice machine counts d → record { act = a; places = ks } ≡ d
choice-one machine counts a ks d e =
    let act : a ≡ d.act = ap (λ (c : Choice). c.act) e in
    let places : shift_places counts (holds_of_act (action_at machine a.0)) ks ≡ shift_places counts (holds_of_act (action_at machine a.0)) d.places =
    ap (λ (c : Choice). c.places) e ∙ ap (λ (b : ActId). shift_places counts (holds_of_act (action_at machine b.0)) d.places) (sym act) in
    let same = places-one counts (holds_of_act (action_at machine a.0)) ks d.places places in
    λ i. record { act = act i; places = same i }

choices-one : (machine : Machine) (counts : ℕ → ℕ) (cs ds : List Choice) → map (shift_choice machine counts) cs ≡ map (shift_choice machine counts) ds → cs ≡ ds
choices-one machine counts [] [] e = refl
choices-one machine counts [] (d ∷ ds) e = absurd (cc)
choices-one machine counts (c ∷ cs) [] e = absurd (cc)
choices-one machine counts (c ∷ cs) (d ∷ ds) e =
    let first : c ≡ d = choice-one machine counts c.act c.places d (same_head (shift_choice machine counts c) (shift_choice machine counts d) (map (shift_choice machine counts) cs) (map (shift_choice machine counts) ds) e) in
    let rest = choices-one machine counts cs ds (same_tail (shift_choice machine counts c) (shift_choice machine counts d) (map (shift_choice machine counts) cs) (map (shift_choice machine counts) ds) e) in
    λ i. first i ∷ rest i

-- lists with the same shifted list are the same
pub shifted-one : (machine : Machine) (counts : ℕ → ℕ) (list other : ChoiceList) → shifted machine counts list ≡ shifted machine counts other → list ≡ other
shifted-one machine counts list other e =
    let goal = ap (λ (l : ChoiceList). l.goal) e in
    let stopped = ap (λ (l : ChoiceList). l.stopped) e in
    let choices = choices-one machine counts list.choices other.choices (ap (λ (l : ChoiceList). l.choices) e) in
    λ i. record { goal = goal i; choices = choices i; stopped = stopped i }

pub live_bounds : LiveBounds
live_bounds machine plans ask gone list bound f b = (
  λ is. record {
    opens = live_opens machine plans ask gone list bound f b is.opens;
    least = λ end o.
        let small = whole_opens machine plans ask gone (shifted machine (forgotten_on machine plans gone) list) end f b o in
        let same : small.0 ≡ list = sym (shifted-one machine (forgotten_on machine plans gone) list small.0 small.1) in
        is.least end (subst (λ l. OpensTo machine (less gone plans) ask l end) same small.2);
  },
  λ is. record {
    opens =
        let small = whole_opens machine plans ask gone (shifted machine (forgotten_on machine plans gone) list) bound f b is.opens in
        let same : small.0 ≡ list = sym (shifted-one machine (forgotten_on machine plans gone) list small.0 small.1) in
        subst (λ l. OpensTo machine (less gone plans) ask l bound) same small.2;
    least = λ end o. is.least end (live_opens machine plans ask gone list end f b o);
  },
)

pub live_bounds_answers : LiveBoundsAnswers
live_bounds_answers machine plans ask gone bound f stays none new a =
    let live = less_answers machine plans new ask gone stays a in
    subst (λ p. bound ≤ end_of_plan p) live.1 (none (less gone new) live.0)

pub live_has_none : LiveHasNone
live_has_none machine plans ask gone f stays none new a = none (less gone new) (less_answers machine plans new ask gone stays a).0

pub live_is_earliest : LiveIsEarliest
live_is_earliest machine plans live new ask gone f b joined earliest =
    let a = live_answers machine plans live new ask gone f b joined earliest.alternative in
    record { alternative = a.0; first = λ other c. subst (λ p. end_of_plan p ≤ end_of_plan c.plan) (sym a.1) (live_bounds_answers machine plans ask gone (end_of_plan earliest.alternative.plan) f b.stays earliest.first other c) }
