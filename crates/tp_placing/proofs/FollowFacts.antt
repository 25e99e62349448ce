-- What a board that follows the schedule has become.
use Rattle.std.proofs.Common.{◌≡◌, ◌∙◌, ℕ, suc, ◌+◌, ◌≤◌, false, List, [], ◌∷◌, ◌++◌, arith, drop, length, subst, sym, take, Some}
use Rattle.std.proofs.lemmas.List.{drop_all, take_all}
use Rattle.tp_base.specs.Readings.{Reading}
use Rattle.tp_base.specs.Net.{Net}
use Rattle.tp_base.specs.declared.edges.PointId.{PointId}
use Rattle.tp_machine.specs.declared.machine.Machine.{Machine}
use Rattle.tp_schedule.specs.Answers.{KeepsHorizon}
use Rattle.tp_schedule.specs.declared.parts.Ask.{Ask}
use Rattle.tp_schedule.specs.declared.parts.Plan.{Plan}
use Rattle.tp_constraints.proofs.Lists.{get-there}
use Rattle.tp_constraints.specs.Laws.{IsLoadable}
use Rattle.tp_placing.specs.Boards.{BoardValue, side_by_side}
use Rattle.tp_placing.specs.Loaded.{CanLoad, IsLoaded}
use Rattle.tp_placing.specs.LoadedNet.{point_count}
use Rattle.tp_placing.specs.LoadedBoard.{Stands}
use Rattle.tp_placing.specs.declared.causes.EdgeCause.{EdgeCause}
use Rattle.tp_placing.specs.declared.parts.BoardMark.{BoardMark}
use Rattle.tp_placing.specs.declared.parts.Held.{Held}
use Rattle.tp_placing.specs.declared.parts.Step.{Step}
use Rattle.tp_placing.proofs.AddFacts.{split-at}
use Rattle.tp_placing.proofs.LoadTable.{length-table-of}
use Rattle.tp_placing.proofs.LoadedAgain.{loaded-again}

-- a board on which no goal is open, at the moment of its ask
pub record IsStill (machine : Machine) (now : ℕ) (plans : List Plan) (n : Net) (timelines : List (List ℕ)) (held : List Held) (firsts : List PointId) (last : ℕ) (causes : List EdgeCause) : Type 0 where
  pub can : CanLoad machine now plans
  pub loaded : IsLoaded machine now plans n timelines held firsts causes
  pub last_point : last ≡ point_count plans

pub still : {N : Type 0} (reading : Reading N) (b : BoardValue N) (machine : Machine) (now : ℕ) → Stands reading b machine → b.steps ≡ [] → ((before : Ask) → b.ask ≡ Some before → before.now ≡ now) → now ≤ 1000000000
    → IsStill machine now b.plans (reading.net b.net) b.orders.orders b.held b.firsts b.last.0 b.causes
still reading b machine now (ask, s) closed moment early =
    let same = moment ask s.asked in
    record {
      can = record {
        now_at_most = early;
        loadable = subst (λ t. IsLoadable machine t (λ _. false) b.plans) same s.loadable;
        horizon = subst (λ t. KeepsHorizon machine t b.plans) same s.on_time;
        few = s.few_plans;
      };
      loaded = subst (λ t. IsLoaded machine t b.plans (reading.net b.net) b.orders.orders b.held b.firsts b.causes) same (loaded-again reading b machine ask s closed);
      last_point = s.last ∙ length-table-of b.plans;
    }

-- the plans are as before, or there is one behind them
pub none-more : {X : Type 0} (old new : List X) → take (length old) new ≡ old → length new ≡ length old → new ≡ old
none-more old new first same = sym (take_all (length old) new (omega arith)) ∙ first

pub one-more : {X : Type 0} (old new : List X) → take (length old) new ≡ old → length new ≡ length old + 1 → (x : X) × (new ≡ old ++ x ∷ [])
one-more old new first more =
    let x = get-there new (length old) (omega arith) in
    let none : drop (suc (length old)) new ≡ [] = drop_all (suc (length old)) new (omega arith) in
    (x.0, split-at new (length old) x.0 x.1 ∙ (λ i. first i ++ x.0 ∷ none i))

-- without marks there are none, whatever holds and steps there are
pub no-past : (held held' : List Held) (steps steps' : List Step) (cs : List Net) (os : List (List (List ℕ))) (ms : List BoardMark) → side_by_side held steps cs os ms ≡ [] → side_by_side held' steps' cs os ms ≡ []
no-past held held' steps steps' [] os ms none = none
no-past held held' steps steps' (c ∷ cs) [] ms none = none
no-past held held' steps steps' (c ∷ cs) (o ∷ os) [] none = none
no-past held held' steps steps' (c ∷ cs) (o ∷ os) (m ∷ ms) none = absurd cc
