-- A change that is made again on a board: it is in time, and the board carries what it leads to.
use Rattle.std.proofs.Common.{◌≡◌, ℕ, ◌+◌, Bool, true, false, List, [], ◌∷◌, length, refl, sym, ap, ◌∙◌, subst, arith, Option, Some, None, IsSomeAnd}
use Rattle.std.specs.Prelude.{slice_get}
use Rattle.std.proofs.lemmas.List.{length-append}
use Rattle.tp_base.specs.Readings.{Reading}
use Rattle.tp_machine.specs.ModuleUse.{action_at}
use Rattle.tp_machine.specs.declared.parts.State.{State}
use Rattle.tp_machine.specs.declared.machine.Machine.{Machine}
use Rattle.tp_schedule.specs.Choices.{CanStop, Choice, IsCompleteFrom}
use Rattle.tp_schedule.specs.Holders.{holds_of_act}
use Rattle.tp_schedule.specs.declared.parts.Ask.{Ask}
use Rattle.tp_schedule.specs.declared.parts.Origin.TheVariants.{Feeder as FromFeeder, Front as FromFront}
use Rattle.tp_schedule.specs.declared.parts.Plan.{Plan}
use Rattle.tp_constraints.specs.Suffixes.{Suffix, list_of, with_place, with_stop}
use Rattle.tp_placing.specs.Boards.{BoardValue, past_of, suffix_of}
use Rattle.tp_placing.specs.Calls.{CanPlace, HasNoTimes, IsSameLoad}
use Rattle.tp_placing.specs.LoadedBoard.{Stands}
use Rattle.tp_placing.specs.declared.parts.Change.{Change}
use Rattle.tp_placing.specs.declared.parts.Change.TheVariants.{Place}
use Rattle.tp_placing.proofs.StandFacts.{and-some, some-and}
use Rattle.tp_search.specs.Again.{CanCarry, CanCarryIf, CanLayAgain, CanMake, IsMade, after_again, has_goal, reached_by, reached_in}
use Rattle.tp_search.specs.declared.replay.Reached.{Reached}
use Rattle.tp_search.specs.declared.replay.Reached.TheVariants.{Holds}
use Rattle.tp_search.proofs.AgainFacts.{going_of, hold-next}
use Rattle.tp_search.proofs.FollowGoal.{refused-late}

-- whether a goal is open
has-by : (choices : List Choice) → has_goal (reached_by choices) ≡ true
has-by [] = refl
has-by (c ∷ choices) = refl

pub goal-none : (o : Option Suffix) (reached : Reached) → reached ≡ reached_in o → has_goal reached ≡ false → o ≡ None
goal-none None reached is closed = refl
goal-none (Some x) reached is closed = absurd (let has = ap has_goal is ∙ has-by x.choices in let bad : false ≡ true = sym closed ∙ has in cc)

-- a suffix whose newest choice has so many places
pub record HasHolds (o : Option Suffix) (count : ℕ) : Type 0 where
  pub choice : Choice
  pub choices : List Choice
  pub rooms : List ℕ
  pub stopped : Bool
  pub is : o ≡ Some (record { choices = choice ∷ choices; rooms = rooms; stopped = stopped })
  pub counts : count ≡ length choice.places

holds-by : (choices : List Choice) (rooms : List ℕ) (stopped : Bool) (count : ℕ) → Holds count ≡ reached_by choices → HasHolds (Some (record { choices = choices; rooms = rooms; stopped = stopped })) count
holds-by [] rooms stopped count is = absurd cc
holds-by (c ∷ choices) rooms stopped count is = record { choice = c; choices = choices; rooms = rooms; stopped = stopped; is = refl; counts = cc }

pub has-holds : (o : Option Suffix) (count : ℕ) → Holds count ≡ reached_in o → HasHolds o count
has-holds None count is = absurd cc
has-holds (Some x) count is = holds-by x.choices x.rooms x.stopped count is

module _ {N : Type 0} (reading : Reading N) (machine : Machine) (b : BoardValue N) (change : Change) (reached : Reached) (can : CanMake reading b machine change reached) where
  -- what the board can carry
  carried : (x : Suffix) → after_again (suffix_of b) change ≡ Some x → (ask : Ask) × (b.ask ≡ Some ask) × CanCarry machine b.plans ask x
  carried x is = some-and b.ask _ (subst (λ o. IsSomeAnd b.ask (λ ask. CanCarryIf machine b.plans ask o)) is can.can)

  -- so it is in time
  pub in-time : (x : Suffix) → after_again (suffix_of b) change ≡ Some x → HasNoTimes machine b x → ⊥
  in-time x is none = let c = carried x is in refused-late machine b c.0 x c.1 none c.2.ticks c.2.are_times

  -- a step was taken
  pub made-step : (b' : BoardValue N) (x : Suffix) (reached' : Reached) → after_again (suffix_of b) change ≡ Some x → suffix_of b' ≡ Some x → reached' ≡ reached_by x.choices → Stands reading b' machine
      → past_of reading b' ≡ past_of reading b → IsSameLoad b b' → reading.max_marks b'.net ≡ reading.max_marks b.net → IsMade reading b b' machine change reached'
  made-step b' x reached' is now so stands same_past loaded marks = record {
    stands = stands;
    suffix = now ∙ sym is;
    reached_so = so ∙ ap reached_in (sym now);
    same = record { same_past = same_past; loaded = loaded; marks = marks };
  }

module _ {N : Type 0} (reading : Reading N) (machine : Machine) (b : BoardValue N) (place hold : ℕ) (can : CanMake reading b machine (Place place) (Holds hold)) where
  pub holds : HasHolds (suffix_of b) hold
  holds = has-holds (suffix_of b) hold can.reached_so

  -- what the board carries, and what it is to carry
  abbrev pub here : Suffix
  here = record { choices = holds.choice ∷ holds.choices; rooms = holds.rooms; stopped = holds.stopped }

  pub place-makes : after_again (suffix_of b) (Place place) ≡ Some (with_place place here)
  place-makes = ap (λ o. after_again o (Place place)) holds.is

  pub place-put : (b' : BoardValue N) → IsSomeAnd (suffix_of b) (λ x. suffix_of b' ≡ Some (with_place place x)) → suffix_of b' ≡ Some (with_place place here)
  place-put b' put = subst (λ o. IsSomeAnd o (λ x. suffix_of b' ≡ Some (with_place place x))) holds.is put

  pub place-refused : IsSomeAnd (suffix_of b) (λ x. HasNoTimes machine b (with_place place x)) → ⊥
  place-refused none = in-time reading machine b (Place place) (Holds hold) can (with_place place here) place-makes (subst (λ o. IsSomeAnd o (λ x. HasNoTimes machine b (with_place place x))) holds.is none)

  pub place-can : IsSomeAnd (suffix_of b) (λ x. CanPlace machine b.plans x hold place)
  place-can =
      let c = carried reading machine b (Place place) (Holds hold) can (with_place place here) place-makes in
      let next = hold-next machine b.plans c.0 place holds.choice holds.choices holds.rooms holds.stopped c.2 in
      and-some (suffix_of b) here _ holds.is (record {
        choice = holds.choice;
        choices = holds.choices;
        newest = refl;
        next = holds.counts;
        rule = next.rule;
        is_rule = ap (slice_get (holds_of_act (action_at machine holds.choice.act.0))) holds.counts ∙ next.is_rule;
        within = next.within;
      })

  -- one hold more has its place
  pub place-reached : Holds (hold + 1) ≡ reached_by (with_place place here).choices
  place-reached = let counts = holds.counts in ap Holds (omega (arith, counts, length-append holds.choice.places (place ∷ [])))

-- the whole list: stopped exactly where the asked copy is in flight
module _ (machine : Machine) (plans : List Plan) (ask : Ask) (x : Suffix) (can : CanLayAgain machine plans ask x) where
  feeder-goes : ask.origin ≡ FromFeeder → x.stopped ≡ false
  feeder-goes is = go x.stopped refl where
    go : (stopped : Bool) → x.stopped ≡ stopped → stopped ≡ false
    go false same = refl
    go true same = absurd (subst (CanStop machine ask (list_of can.commit.goal x)) is (can.commit.is_list.can_stop same))

  pub feeder-whole : ask.origin ≡ FromFeeder → going_of x ≡ x
  feeder-whole is = let going = feeder-goes is in λ i. record { choices = x.choices; rooms = x.rooms; stopped = sym going i }

  pub front-whole : (state : State) (end count : ℕ) → ask.origin ≡ FromFront state end count → with_stop (going_of x) ≡ x
  front-whole state end count is =
      let stopped : x.stopped ≡ true = subst (IsCompleteFrom machine ask (list_of can.commit.goal x)) is can.commit.complete in
      λ i. record { choices = x.choices; rooms = x.rooms; stopped = sym stopped i }
