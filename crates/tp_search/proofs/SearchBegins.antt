-- How a search begins: the goals wait, and nothing is stored.
use Rattle.std.proofs.Common.{◌≡◌, ◌≢◌, ℕ, List, [], map, inl, refl, sym, subst, arith}
use Rattle.std.proofs.lemmas.List.Elements.{All-nil, Contains-append_left}
use Rattle.tp_machine.specs.declared.machine.Machine.{Machine}
use Rattle.tp_pool.specs.Entries.{Entry}
use Rattle.tp_schedule.specs.declared.parts.Ask.{Ask}
use Rattle.tp_schedule.specs.declared.parts.Plan.{Plan}
use Rattle.tp_schedule.proofs.Pairs.{AllPairs-nil}
use Rattle.tp_search.specs.Limits.{HasNoLimit}
use Rattle.tp_search.specs.SearchProgress.{AreOpenGoals, IsOpenEntry, IsSearching, list_of_goal}
use Rattle.tp_search.specs.Stored.{list_by}
use Rattle.tp_search.specs.Stores.{HasBounds, StoreValue, empty_store}
use Rattle.tp_search.specs.declared.goals.OpenGoal.{OpenGoal}
use Rattle.tp_search.specs.declared.store.Limit.{Limit}
use Rattle.tp_search.proofs.LimitFacts.{met-none}

-- the store without lists, under a limit
abbrev pub empty_under : ℕ → ℕ → ℕ → Limit → StoreValue
empty_under room base width limit = record (empty_store room base width) { limit = limit }

searching-empty : (machine : Machine) (plans : List Plan) (ask : Ask) (goals : List OpenGoal) (room base width : ℕ) (limit : Limit) → HasNoLimit limit → AreOpenGoals machine plans ask goals → HasBounds machine ask (empty_under room base width limit)
    → IsSearching machine plans ask goals (empty_under room base width limit) 0
searching-empty machine plans ask goals room base width limit none are range = record {
  opened = [];
  searched = record {
    starts = λ list empty opens. inl (Contains-append_left (map list_of_goal goals) [] list (are.every list empty opens));
    spread = λ list child there. absurd (omega (arith, there.1));
    unfinished = λ list there. absurd (omega (arith, there.1));
  };
  met = met-none machine plans ask limit none;
  goals_bound = are.bounds;
  goals_apart = are.apart;
  goals_later = λ k d within. omega arith;
  entries = All-nil (IsOpenEntry machine plans ask);
  entries_apart = AllPairs-nil (λ (a b : Entry). list_by machine a.choices ≢ list_by machine b.choices);
  waits_known = λ node there. absurd (omega (arith, there.1));
  waits_later = λ node there. absurd (omega (arith, there.1));
  opened_stored = λ list there. absurd (omega (arith, there.1));
  from_opened = λ parent child there. absurd (omega (arith, there.1));
  opened_earlier = λ list end there. absurd (omega (arith, there.1));
  unopened = λ list waits there. absurd (omega (arith, there.1));
  has_best = λ e there. absurd (omega (arith, there.1));
  not_full = refl;
  range = range;
}

-- with the open goals and an empty store a search begins
pub searching-begins : (machine : Machine) (plans : List Plan) (ask : Ask) (goals : List OpenGoal) (s : StoreValue) (room base width : ℕ) (limit : Limit)
    → HasNoLimit limit → AreOpenGoals machine plans ask goals → s ≡ empty_under room base width limit → HasBounds machine ask s → IsSearching machine plans ask goals s 0
searching-begins machine plans ask goals s room base width limit none are empty range =
    subst (λ v. IsSearching machine plans ask goals v 0) (sym empty) (searching-empty machine plans ask goals room base width limit none are (subst (HasBounds machine ask) empty range))
