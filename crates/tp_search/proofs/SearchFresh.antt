-- A list that is taken and not complete goes on, and none of its children was stored before.
use Rattle.std.proofs.Common.{◌≡◌, ◌≢◌, ℕ, Bool, true, false, IsTrue, List, [], ◌∷◌, length, take, drop, All, Contains, Option, Some, None, IsSome, refl, sym, subst, ◌∙◌, arith}
use Rattle.std.proofs.lemmas.Bool.{false≢true}
use Rattle.std.proofs.lemmas.List.{append-nil, take_all}
use Rattle.std.proofs.lemmas.List.Elements.{All-cons, All-head, All-nil}
use Rattle.tp_machine.specs.declared.parts.ActId.{ActId}
use Rattle.tp_machine.specs.declared.machine.Machine.{Machine}
use Rattle.tp_pool.specs.Entries.{Entry, choices_before, choices_of}
use Rattle.tp_pool.specs.declared.choice.Choice.{Choice as Stored}
use Rattle.tp_schedule.specs.Choices.{CanStop, ChoiceList, IsChild, IsComplete, IsCompleteFrom, IsOpen, going}
use Rattle.tp_schedule.specs.declared.parts.Ask.{Ask}
use Rattle.tp_schedule.specs.declared.parts.Origin.{Origin}
use Rattle.tp_schedule.specs.declared.parts.Origin.TheVariants.{Feeder as FromFeeder, Front as FromFront}
use Rattle.tp_schedule.specs.declared.parts.Plan.{Plan}
use Rattle.tp_schedule.proofs.Membership.{Contains-map}
use Rattle.tp_schedule.proofs.Pairs.{AllPairs-nil}
use Rattle.tp_search.specs.Limits.{IsWithin}
use Rattle.tp_search.specs.OpenedLists.{IsAtProgress, IsFresh, IsOpenChild, parent_of}
use Rattle.tp_search.specs.OpenedLists.Progress.{nothing}
use Rattle.tp_search.specs.SearchProgress.{IsSearching, next_bound, next_list, next_node, opening_of}
use Rattle.tp_search.specs.Stored.{is_stop, list_by}
use Rattle.tp_search.specs.Stores.{StoreValue}
use Rattle.tp_search.specs.declared.goals.OpenGoal.{OpenGoal}
use Rattle.tp_search.specs.declared.next_list.Next.{Next}
use Rattle.tp_search.specs.declared.next_list.Next.TheVariants.{Goal, Node}
use Rattle.tp_search.proofs.SearchNext.{IsKnownNext}

-- an open list that is not complete is not stopped
pub open-going : (machine : Machine) (plans : List Plan) (ask : Ask) (l : ChoiceList) → IsOpen machine plans ask l → ¬ IsComplete machine ask l → l.stopped ≡ false
open-going machine plans ask l o not = go l.stopped refl where
  stopped-complete : (origin : Origin) → IsTrue l.stopped → CanStop machine ask l origin → IsCompleteFrom machine ask l origin
  stopped-complete FromFeeder is can = absurd can
  stopped-complete (FromFront state end count) is can = is

  go : (stopped : Bool) → l.stopped ≡ stopped → l.stopped ≡ false
  go false is = is
  go true is = absurd (not (stopped-complete ask.origin is (o.1.is_list.can_stop is)))

-- and none of its choices is the stop
going-acts : (machine : Machine) (choices : List Stored) → (list_by machine choices).stopped ≡ false → All (λ (c : Stored). IsSome c.act) (drop 1 choices) → All (λ (c : Stored). IsSome c.act) choices
going-acts machine [] going rest = All-nil (λ (c : Stored). IsSome c.act)
going-acts machine (c ∷ cs) going rest = All-cons (λ (d : Stored). IsSome d.act) c cs (some c.act going) rest where
  some : (act : Option ActId) → is_stop act ≡ false → IsSome act
  some None is = absurd (false≢true (sym is))
  some (Some act) is = refl

next-acts : (machine : Machine) (s : StoreValue) (next : Next) → (next_list machine s next).stopped ≡ false → All (λ (c : Stored). IsSome c.act) (drop 1 (choices_before s.entries (next_node next)))
    → All (λ (c : Stored). IsSome c.act) (choices_before s.entries (next_node next))
next-acts machine s (Goal g) going rest = All-nil (λ (c : Stored). IsSome c.act)
next-acts machine s (Node n) going rest = going-acts machine (choices_of s.entries n) going rest

module _ (machine : Machine) (plans : List Plan) (ask : Ask) (goals : List OpenGoal) (s : StoreValue) (bound : ℕ) (goals' : List OpenGoal) (s' : StoreValue) (next : Next)
    (searching : IsSearching machine plans ask goals s bound) (known : IsKnownNext machine plans ask goals s bound goals' s' next) (not : ¬ IsComplete machine ask (next_list machine s next)) where
  goes-on : (next_list machine s next).stopped ≡ false
  goes-on = open-going machine plans ask (next_list machine s next) (next_bound s next, known.is_bound.opens) not

  -- it is the list that is opened
  pub next-going : next_list machine s next ≡ parent_of machine s.entries (next_list machine s next).goal (next_node next)
  next-going = λ i. record { goal = (next_list machine s next).goal; choices = known.choices i; stopped = goes-on i }

  pub next-all_acts : All (λ (c : Stored). IsSome c.act) (choices_before s.entries (next_node next))
  next-all_acts = next-acts machine s next goes-on known.acts

  -- no stored list is a child of it
  pub next-no_child : (e : Entry) → Contains s.entries e → ¬ IsChild machine ask (next_list machine s next) (list_by machine e.choices)
  next-no_child e there child =
      searching.unopened (next_list machine s next) known.waited
      (searching.from_opened (next_list machine s next) (list_by machine e.choices) (Contains-map (λ (x : Entry). list_by machine x.choices) s.entries e there) child)

  fresh-with : (waits : List ℕ) → IsFresh machine ask (opening_of machine s next) (record s { waits = waits })
  fresh-with waits = record {
    stored = omega arith;
    parent = known.parent;
    same_goal = λ c cs is. All-head (λ (d : Stored). d.goal ≡ (next_list machine s next).goal) c cs (subst (All (λ (d : Stored). d.goal ≡ (next_list machine s next).goal)) is known.same_goal);
    none_before = λ e there child. next-no_child e (subst (λ es. Contains es e) (take_all (length s.entries) s.entries (omega arith)) there) (subst (λ l. IsChild machine ask l (list_by machine e.choices)) (sym next-going) child);
  }

  pub next-fresh : IsFresh machine ask (opening_of machine s next) s'
  next-fresh = subst (IsFresh machine ask (opening_of machine s next)) (sym known.same) (fresh-with s'.waits)

  begin-with : IsWithin s.limit (next_bound s next) → (waits : List ℕ) → IsAtProgress machine plans ask (opening_of machine s next) (record s { waits = waits }) nothing
  begin-with in-limit waits = record {
    in_limit = in-limit;
    met = searching.met;
    new = [];
    grown = sym (append-nil (take (length s.entries) s.entries) ∙ take_all (length s.entries) s.entries (omega arith));
    children = All-nil (IsOpenChild machine plans ask (parent_of machine s.entries (next_list machine s next).goal (next_node next)) (next_bound s next) (choices_before s.entries (next_node next)) nothing);
    apart = AllPairs-nil (λ (a b : Entry). list_by machine a.choices ≢ list_by machine b.choices);
    reached = λ l child looked opens. absurd looked;
    finished = λ l looked answers. absurd looked;
    spent = λ full. absurd (false≢true (sym searching.not_full ∙ full));
    has_best = searching.has_best;
  }

  -- none of its children was looked at
  pub next-begins : IsWithin s.limit (next_bound s next) → IsAtProgress machine plans ask (opening_of machine s next) s' nothing
  next-begins in-limit = subst (λ t. IsAtProgress machine plans ask (opening_of machine s next) t nothing) (sym known.same) (begin-with in-limit s'.waits)
