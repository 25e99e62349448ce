-- A trial that is taken off its board and laid on it again is as before.
use Rattle.std.proofs.Common.{◌≡◌, ℕ, ◌+◌, ◌<◌, ◌≤◌, List, [], ◌∷◌, length, map, refl, sym, subst, ◌∙◌, arith, Option, Some, None, IsSomeAnd}
use Rattle.std.proofs.lemmas.List.Folds.{fold-map}
use Rattle.std.proofs.lemmas.Option.{same_Some}
use Rattle.tp_base.specs.Readings.{Reading}
use Rattle.tp_machine.specs.Machines.{IsMachine}
use Rattle.tp_machine.specs.ModuleUse.{action_at}
use Rattle.tp_machine.specs.declared.parts.Action.{Action}
use Rattle.tp_machine.specs.declared.machine.Machine.{Machine}
use Rattle.tp_schedule.specs.Answers.{NoneBefore}
use Rattle.tp_schedule.specs.Choices.{Choice, ChoicesLast}
use Rattle.tp_schedule.specs.Spots.{Ticks}
use Rattle.tp_schedule.specs.Spots.Spot.{own}
use Rattle.tp_schedule.specs.declared.parts.Ask.{Ask}
use Rattle.tp_schedule.specs.declared.parts.Plan.{Plan}
use Rattle.tp_constraints.specs.Suffixes.{Suffix, SuffixTimes}
use Rattle.tp_placing.specs.Boards.{BoardValue, after_change, suffix_of}
use Rattle.tp_placing.specs.Ticks.{HasLeastTick, IsLeastTick, TimesOf}
use Rattle.tp_placing.specs.Commits.{CanCommit}
use Rattle.tp_placing.specs.declared.parts.Step.{Step}
use Rattle.tp_placing.proofs.StandFacts.{some-and}
use Rattle.tp_search.specs.Again.{CanLayAgain, suffix_by}
use Rattle.tp_search.specs.Boards.{IsReady}
use Rattle.tp_search.specs.HeldLists.{IsLaidSince}
use Rattle.tp_search.specs.Trials.{IsTrial, board_in}
use Rattle.tp_search.specs.declared.trial.Trial.{Trial}

-- the steps' changes lead to what the steps do
pub changes-suffix : {N : Type 0} → (b : BoardValue N) → suffix_by (map (λ (s : Step). s.change) b.steps) ≡ suffix_of b
changes-suffix b = fold-map after_change (λ (s : Step). s.change) None b.steps

-- choices that last end behind the first tick
act-ends : (machine : Machine) (act : ℕ) (start end : ℕ) (o : Option Action) → action_at machine act ≡ o → IsMachine machine → IsSomeAnd o (λ a. (start + a.least ≤ end) × (end ≤ start + a.most)) → 1 ≤ end
act-ends machine act start end None e is h = absurd h
act-ends machine act start end (Some a) e is h = let least = is.lasts act a e in let by = h.0 in omega (arith, least, by)

choices-end : (machine : Machine) (t : Ticks) (choices : List Choice) → IsMachine machine → 0 < length choices → ChoicesLast machine t choices → 1 ≤ t (own 0)
choices-end machine t [] is some lasts = absurd (omega (arith, some))
choices-end machine t (c ∷ []) is some lasts = act-ends machine c.act.0 (t (own 1)) (t (own 0)) (action_at machine c.act.0) refl is lasts.0
choices-end machine t (c ∷ d ∷ choices) is some lasts = choices-end machine t (d ∷ choices) is (omega arith) lasts.1

module _ {N : Type 0} (reading : Reading N) (b : BoardValue N) (machine : Machine) (trial : Trial N) (t : IsTrial reading b machine trial) where
  abbrev here : BoardValue N
  here = board_in trial

  module _ (ask : Ask) (asked : here.ask ≡ Some ask) where
    same-ask : t.ask ≡ ask
    same-ask = same_Some t.ask ask (sym t.asked ∙ asked)

    -- the board without the choices is ready
    pub base-ready : IsReady reading b machine ask
    base-ready = subst (IsReady reading b machine) same-ask t.ready

    -- what it carries can be committed, and has times that end as the trial tells
    pub trial-suffix : (x : Suffix) × (suffix_of here ≡ Some x) × CanCommit machine here.plans ask x
    trial-suffix = some-and (suffix_of here) _ (subst (λ a. IsSomeAnd (suffix_of here) (CanCommit machine here.plans a)) same-ask t.complete)

    trial-times : IsLeastTick (SuffixTimes machine here.plans ask trial-suffix.0) (own 0) trial.end
    trial-times =
        let least = subst (λ o. IsSomeAnd o (λ a. IsLeastTick (TimesOf machine here.plans a (suffix_of here)) (own 0) trial.end)) asked t.ends in
        subst (λ o. IsLeastTick (TimesOf machine here.plans ask o) (own 0) trial.end) trial-suffix.1 least

    -- so it can be laid again, on a board with the same plans
    pub can-lay : (plans : List Plan) → plans ≡ here.plans → (o : Option Suffix) → o ≡ suffix_of here → IsSomeAnd o (CanLayAgain machine plans ask)
    can-lay plans same o is =
        subst (λ y. IsSomeAnd y (CanLayAgain machine plans ask)) (sym (is ∙ trial-suffix.1))
        (subst (λ ps. CanLayAgain machine ps ask trial-suffix.0) (sym same)
        (record { commit = trial-suffix.2; ticks = trial-times.ticks; are_times = trial-times.are_times }))

    -- it ends behind the first tick, and none ends before
    pub end-some : IsMachine machine → 1 ≤ trial.end
    end-some is = subst (λ n. 1 ≤ n) trial-times.there (choices-end machine trial-times.ticks trial-suffix.0.choices is trial-suffix.2.some trial-times.are_times.lasts)

    pub end-first : NoneBefore machine here.plans ask trial.end
    end-first = subst (λ a. NoneBefore machine here.plans a trial.end) same-ask t.none_before

  -- laid again it is a trial
  module _ (trial' : Trial N) (since : IsLaidSince reading b (board_in trial') machine t.ask trial'.base.0 None) (carries : suffix_of (board_in trial') ≡ suffix_of here) (ends : trial'.end ≡ trial.end) where
    abbrev then : BoardValue N
    then = board_in trial'

    plans-same : then.plans ≡ here.plans
    plans-same = since.loaded.plans ∙ sym t.loaded.plans

    ask-same : then.ask ≡ here.ask
    ask-same = since.loaded.ask ∙ sym t.loaded.ask

    pub again-trial : IsTrial reading b machine trial'
    again-trial = record {
      unmarked = t.unmarked;
      number = since.number;
      kept = since.kept;
      past_more = since.past_more;
      loaded = since.loaded;
      marks = since.marks;
      stands = since.stands;
      ask = t.ask;
      asked = ask-same ∙ t.asked;
      ready = t.ready;
      complete = subst (λ ps. IsSomeAnd (suffix_of then) (CanCommit machine ps t.ask)) (sym plans-same) (subst (λ o. IsSomeAnd o (CanCommit machine here.plans t.ask)) (sym carries) t.complete);
      ends = subst (λ o. IsSomeAnd o (λ a. IsLeastTick (TimesOf machine then.plans a (suffix_of then)) (own 0) trial'.end)) (sym ask-same)
          (subst (λ ps. IsSomeAnd here.ask (λ a. IsLeastTick (TimesOf machine ps a (suffix_of then)) (own 0) trial'.end)) (sym plans-same)
          (subst (λ o. IsSomeAnd here.ask (λ a. IsLeastTick (TimesOf machine here.plans a o) (own 0) trial'.end)) (sym carries)
          (subst (λ end. HasLeastTick machine here (own 0) end) (sym ends) t.ends)));
      none_before = subst (λ ps. NoneBefore machine ps t.ask trial'.end) (sym plans-same) (subst (NoneBefore machine here.plans t.ask) (sym ends) t.none_before);
    }
