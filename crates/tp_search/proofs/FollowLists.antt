-- The older choices of a stored list that is open: with each of them the list is open.
use Rattle.std.proofs.Common.{◌≡◌, ℕ, zero, suc, ◌+◌, ◌-◌, ◌<◌, List, [], ◌∷◌, length, drop, refl, sym, ap, ◌∙◌, arith, subst, Option, Some, None, All}
use Rattle.std.specs.Prelude.{IsSome}
use Rattle.std.specs.List.{slice_get}
use Rattle.std.proofs.lemmas.List.{drop_more}
use Rattle.std.proofs.lemmas.List.Elements.{All-drop, All-head, All-nil}
use Rattle.std.proofs.lemmas.Option.{get_or_from_slice_get, same_Some}
use Rattle.std.proofs.Math.Seq.{drop-length}
use Rattle.tp_base.specs.Readings.{Reading}
use Rattle.tp_base.proofs.SliceFacts.{All-at}
use Rattle.tp_machine.specs.declared.parts.ActId.{ActId}
use Rattle.tp_machine.specs.declared.parts.State.{State}
use Rattle.tp_machine.specs.declared.machine.Machine.{Machine}
use Rattle.tp_pool.specs.Entries.{choice_made}
use Rattle.tp_pool.specs.declared.choice.Choice.{Choice as Stored}
use Rattle.tp_schedule.specs.Choices.{CanStop, Choice, ChoiceList, IsOpen, going, stopping}
use Rattle.tp_schedule.specs.Choices.IsChild.{one_more, stopped}
use Rattle.tp_schedule.specs.declared.parts.Ask.{Ask}
use Rattle.tp_schedule.specs.declared.parts.Origin.{Origin}
use Rattle.tp_schedule.specs.declared.parts.Origin.TheVariants.{Feeder as FromFeeder, Front as FromFront}
use Rattle.tp_schedule.specs.declared.parts.Plan.{Plan}
use Rattle.tp_choices.proofs.ShorterLists.{parent_opens}
use Rattle.tp_placing.specs.Boards.{BoardValue, suffix_of}
use Rattle.tp_placing.specs.LoadedBoard.{choices_of}
use Rattle.tp_placing.proofs.StandFacts.{some-and}
use Rattle.tp_search.proofs.FollowSteps.{child-more, child-stop}
use Rattle.tp_search.specs.StoredLists.{HasList, IsStoredList, list_from}
use Rattle.tp_search.specs.Stored.{child_by, choice_with, choices_by, list_by}

-- behind the first
all-behind : {X : Type 0} (P : X → Type 0) (k : ℕ) (xs : List X) → 0 < k → All P (drop 1 xs) → All P (drop k xs)
all-behind P zero xs some all = absurd (omega arith)
all-behind P (suc k) [] some all = All-nil P
all-behind P (suc k) (x ∷ xs) some all = All-drop P k xs all

-- where a list can be stopped, it can as long as it is not
can-going : (machine : Machine) (ask : Ask) (goal : State) (choices : List Choice) (o : Origin) → CanStop machine ask (stopping goal choices) o → CanStop machine ask (going goal choices) o
can-going machine ask goal choices FromFeeder can = absurd can
can-going machine ask goal choices (FromFront state end count) can = can

module _ (machine : Machine) (plans : List Plan) (ask : Ask) (goal : State) where
  -- choices that are not the stop make a list that goes on
  pub going-list : (choices : List Stored) → All (λ c. IsSome c.act) choices → list_from machine goal choices ≡ going goal (choices_by machine choices)
  going-list [] all = refl
  going-list (c ∷ cs) all = go c.act refl (All-head (λ (d : Stored). IsSome d.act) c cs all) where
    go : (act : Option ActId) → c.act ≡ act → IsSome act → list_from machine goal (c ∷ cs) ≡ going goal (choices_by machine (c ∷ cs))
    go None is some = absurd cc
    go (Some act) is some = λ i. record { goal = goal; choices = choices_by machine (c ∷ cs); stopped = (child-more machine goal (choices_by machine cs) c act is i).stopped }

  -- without the newest choice the list is open
  open-rest : (c : Stored) (cs : List Stored) → All (λ d. IsSome d.act) cs → IsOpen machine plans ask (list_from machine goal (c ∷ cs)) → IsOpen machine plans ask (list_from machine goal cs)
  open-rest c cs all o = subst (IsOpen machine plans ask) (sym (going-list cs all)) (go c.act refl) where
    go : (act : Option ActId) → c.act ≡ act → IsOpen machine plans ask (going goal (choices_by machine cs))
    go None is =
        let choices = choices_by machine cs in
        let o' : IsOpen machine plans ask (stopping goal choices) = subst (IsOpen machine plans ask) (child-stop machine goal choices c is) o in
        let can : CanStop machine ask (going goal choices) ask.origin = can-going machine ask goal choices ask.origin (o'.1.is_list.can_stop refl) in
        (o'.0, parent_opens machine plans ask (going goal choices) (stopping goal choices) o'.0 (stopped can) o'.1)
    go (Some act) is =
        let choices = choices_by machine cs in
        let newest = choice_with machine act c.places in
        let o' : IsOpen machine plans ask (going goal (newest ∷ choices)) = subst (IsOpen machine plans ask) (child-more machine goal choices c act is) o in
        (o'.0, parent_opens machine plans ask (going goal choices) (going goal (newest ∷ choices)) o'.0 (one_more newest) o'.1)

  -- nor without some of the newest
  open-drop : (k : ℕ) (cs : List Stored) → All (λ d. IsSome d.act) (drop 1 cs) → IsOpen machine plans ask (list_from machine goal cs) → IsOpen machine plans ask (list_from machine goal (drop k cs))
  open-drop zero cs all o = o
  open-drop (suc k) [] all o = o
  open-drop (suc k) (c ∷ cs) all o = open-drop k cs (All-drop (λ d. IsSome d.act) 1 cs all) (open-rest c cs all o)

-- the whole list
pub whole-list : (machine : Machine) (goal : State) (cs : List Stored) → IsStoredList goal cs → list_from machine goal cs ≡ list_by machine cs
whole-list machine goal [] stored = absurd (omega (arith, stored.some))
whole-list machine goal (c ∷ cs) stored = ap (λ s. child_by machine s (choices_by machine cs) c) (sym (All-head (λ d. d.goal ≡ goal) c cs stored.goals))

-- the newest choice has the goal of the list
pub newest-goal : (machine : Machine) (cs : List Stored) (c : Stored) (depth : ℕ) → 0 < length cs → depth ≡ length cs → choice_made cs depth ≡ Some c → c.goal ≡ (list_by machine cs).goal
newest-goal machine [] c depth some is made = absurd (omega (arith, some))
newest-goal machine (d ∷ cs) c depth some is made =
    let at : length (d ∷ cs) - depth ≡ 0 = omega (arith, is) in
    ap (λ (e : Stored). e.goal) (sym (same_Some d c (subst (λ n. slice_get (d ∷ cs) n ≡ Some c) at made)))

module _ (machine : Machine) (plans : List Plan) (ask : Ask) (goal : State) (cs : List Stored) (stored : IsStoredList goal cs) (o : IsOpen machine plans ask (list_by machine cs)) where
  -- the oldest choices
  abbrev oldest : ℕ → List Stored
  oldest at = drop (length cs - at) cs

  pub oldest-open : (k : ℕ) → IsOpen machine plans ask (list_from machine goal (drop k cs))
  oldest-open k = open-drop machine plans ask goal k cs stored.acts (subst (IsOpen machine plans ask) (sym (whole-list machine goal cs stored)) o)

  pub goal-open : IsOpen machine plans ask (going goal [])
  goal-open = subst (λ ds. IsOpen machine plans ask (list_from machine goal ds)) (drop-length cs) (oldest-open (length cs))

  pub same-goal : (k : ℕ) (c : Stored) → slice_get cs k ≡ Some c → c.goal ≡ goal
  same-goal k c at = All-at (λ d. d.goal ≡ goal) cs k c stored.goals at

  module _ (at : ℕ) (c : Stored) (less : at < length cs) (is : slice_get cs (length cs - (at + 1)) ≡ Some c) where
    -- one choice more
    next-oldest : oldest (at + 1) ≡ c ∷ oldest at
    next-oldest =
        let here = length cs - (at + 1) in
        let behind : here + 1 ≡ length cs - at = omega arith in
        drop_more cs here c (omega arith) ∙ (λ i. get_or_from_slice_get cs here c c is i ∷ drop (behind i) cs)

    going-oldest : list_from machine goal (oldest at) ≡ going goal (choices_by machine (oldest at))
    going-oldest = going-list machine plans ask goal (oldest at) (all-behind (λ d. IsSome d.act) (length cs - at) cs (omega arith) stored.acts)

    module _ {N : Type 0} (reading : Reading N) (b : BoardValue N) (first : State) (laid : HasList reading b machine ask first (list_from machine goal (oldest at))) where
      going-laid : HasList reading b machine ask first (going goal (choices_by machine (oldest at)))
      going-laid = subst (HasList reading b machine ask first) going-oldest laid

      carried-choices : (choices_of (suffix_of b)).choices ≡ choices_by machine (oldest at)
      carried-choices =
          let x = some-and (suffix_of b) _ going-laid.way in
          ap (λ s. (choices_of s).choices) x.1 ∙ ap (λ (l : ChoiceList). l.choices) x.2.same

      -- the board carries the older choices, and is ready for the next one
      pub next-laid : HasList reading b machine ask first (going c.goal (choices_of (suffix_of b)).choices)
      next-laid = subst (λ l. HasList reading b machine ask first l) (λ i. going (sym (same-goal (length cs - (at + 1)) c is) i) (sym carried-choices i)) going-laid

      next-list : list_from machine goal (oldest (at + 1)) ≡ child_by machine c.goal (choices_of (suffix_of b)).choices c
      next-list = ap (list_from machine goal) next-oldest ∙ (λ i. child_by machine (sym (same-goal (length cs - (at + 1)) c is) i) (sym carried-choices i) c)

      pub next-open : b.plans ≡ plans → IsOpen machine b.plans ask (child_by machine c.goal (choices_of (suffix_of b)).choices c)
      next-open same = subst (λ ps. IsOpen machine ps ask (child_by machine c.goal (choices_of (suffix_of b)).choices c)) (sym same) (subst (IsOpen machine plans ask) next-list (oldest-open (length cs - (at + 1))))

      pub more-carried : (e : BoardValue N) (first' : State) → HasList reading e machine ask first' (child_by machine c.goal (choices_of (suffix_of b)).choices c)
          → HasList reading e machine ask first' (list_from machine goal (oldest (at + 1)))
      more-carried e first' more = subst (HasList reading e machine ask first') (sym next-list) more
