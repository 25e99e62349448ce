-- A record that tells a plan in form has names of new actions by which the copy gets to its goal, and one point more.
use Rattle.std.proofs.Common.{◌≡◌, ◌≢◌, ℕ, ◌+◌, ◌<◌, List, [], ◌∷◌, ◌++◌, drop, length, map, inl, inr, refl, sym, ap, subst, ◌∙◌, arith, All, Option, Some, None, option_and_then}
use Rattle.std.proofs.lemmas.List.{length-append, length-drop, length-map}
use Rattle.std.proofs.lemmas.List.Elements.{All-cons, All-nil}
use Rattle.std.proofs.lemmas.Option.{slice_get_within}
use Rattle.std.proofs.Math.Seq.{drop-append_seam}
use Rattle.tp_machine.specs.Machines.{IsMachine}
use Rattle.tp_machine.specs.Steps.{step_of}
use Rattle.tp_machine.specs.ModuleUse.{action_at}
use Rattle.tp_machine.specs.declared.machine.Machine.{Machine}
use Rattle.tp_machine.specs.declared.parts.ActId.{ActId}
use Rattle.tp_machine.specs.declared.parts.Action.{Action}
use Rattle.tp_machine.specs.declared.parts.Sheet.{Sheet}
use Rattle.tp_machine.specs.declared.parts.State.{State}
use Rattle.tp_schedule.specs.Answers.{AnswersAsk, IsAsked, acts_in, kept_of}
use Rattle.tp_schedule.specs.Plans.{plan_of}
use Rattle.tp_schedule.specs.Routes.{AreAllowed, IsRoute, step_by, walk}
use Rattle.tp_schedule.specs.declared.parts.Ask.{Ask}
use Rattle.tp_schedule.specs.declared.parts.Plan.{Plan}
use Rattle.tp_schedule.specs.declared.records.Record.{Record}
use Rattle.tp_schedule.specs.declared.records.Record.TheVariants.{Plan as TellsPlan}
use Rattle.tp_schedule.proofs.Walks.{walk_first}
use Rattle.tp_event_records.specs.RecordNames.{IsKnown}
use Rattle.tp_event_rules.specs.AnswerRecords.{label_of_asked}
use Rattle.tp_event_rules.specs.Labels.{action_name, end_location, last_of, location_name, to_in}
use Rattle.tp_log_planner.specs.ToldPlans.{AreMismatched, HaveNames, IsInForm, TellsNoForm, plan_with}
use Rattle.tp_log_planner.proofs.NameFacts.{one-names}
use Rattle.tp_log_planner.proofs.PlanFacts.{asked-keeps, kept-length}

-- ---- actions that lead on are the machine's
step-known : (machine : Machine) (sheet : Sheet) (act : ActId) (s s' : State) → step_by machine sheet act s ≡ Some s' → IsKnown machine act
step-known machine sheet act s s' e = go (action_at machine act.0) refl e where
  go : (o : Option Action) → action_at machine act.0 ≡ o → option_and_then (λ a. step_of a sheet s) o ≡ Some s' → IsKnown machine act
  go None f e = absurd cc
  go (Some a) f e = slice_get_within machine.actions act.0 a f

walk-known : (machine : Machine) (sheet : Sheet) (acts : List ActId) (s goal : State) → walk machine sheet acts s ≡ Some goal → All (IsKnown machine) acts
walk-known machine sheet [] s goal e = All-nil (IsKnown machine)
walk-known machine sheet (act ∷ acts) s goal e =
    let first = walk_first machine sheet act acts s goal e in
    All-cons (IsKnown machine) act acts (step-known machine sheet act s first.0 first.1) (walk-known machine sheet acts first.0 goal first.2)

-- ---- of a record's parts
abbrev ticks-of : Record → List ℕ
ticks-of (TellsPlan sheet at ticks acts) = ticks
ticks-of r = []

abbrev names-of : Record → List (List ℕ)
names-of (TellsPlan sheet at ticks acts) = acts
names-of r = []

abbrev place-of : Record → List ℕ
place-of (TellsPlan sheet at ticks acts) = at
place-of r = []

-- what is known of a plan in form
record IsFormOf (machine : Machine) (plans : List Plan) (ask : Ask) (place : List ℕ) (points : List ℕ) (names : List (List ℕ)) (q : Plan) : Type 0 where
  route : List ActId
  is_route : IsRoute machine ask route
  allowed : AreAllowed machine ask.outs route
  acts : q.acts ≡ acts_in (plan_of ask.sheet plans) ++ route
  have : HaveNames machine names route
  names_some : 0 < length names
  one_more : length points ≡ length names + 1
  ends : location_name machine (end_location machine q) ≡ place

module _ (machine : Machine) (plans : List Plan) (ask : Ask) (asked : IsAsked machine plans ask) (place : List ℕ) (points : List ℕ) (names : List (List ℕ)) where
  abbrev front : Option Plan
  front = plan_of ask.sheet plans

  abbrev record-told : Record
  record-told = TellsPlan (label_of_asked ask) place points names

  form-of : (q : Plan) → IsInForm machine plans ask record-told q → IsFormOf machine plans ask place points names q
  form-of q t =
      let k = kept_of ask in
      let route = t.answers.route in
      let acts : q.acts ≡ acts_in front ++ route = t.answers.acts in
      let long : length (acts_in front) ≡ k = kept-length k front (asked-keeps machine plans ask asked) in
      let rest : drop k q.acts ≡ route = ap (drop k) acts ∙ ap (λ n. drop n (acts_in front ++ route)) (sym long) ∙ drop-append_seam (acts_in front) route in
      let ticks : drop k q.points ≡ points = ap ticks-of t.is in
      let named : map (action_name machine) route ≡ names = ap (map (action_name machine)) (sym rest) ∙ ap names-of t.is in
      let count : length q.acts ≡ k + length route = ap length acts ∙ length-append (acts_in front) route ∙ ap (λ n. n + length route) long in
      let counted : length route ≡ length names = sym (length-map route (action_name machine)) ∙ ap length named in
      let reaches = t.answers.is_route.reaches in
      record {
        route = route;
        is_route = t.answers.is_route;
        allowed = t.answers.allowed;
        acts = acts;
        have = record { known = walk-known machine ask.want route reaches.start t.answers.is_route.goal reaches.leads; named = named };
        names_some = some route t.answers.is_route.some counted;
        one_more = omega (arith, ap length ticks, length-drop k q.points, t.formed.one_more, count, counted);
        ends = ap place-of t.is;
      } where
        some : (route : List ActId) → route ≢ [] → length route ≡ length names → 0 < length names
        some [] not e = absurd (not refl)
        some (act ∷ route) not e = omega (arith, e)

  pub mismatched : AreMismatched points names → TellsNoForm machine plans ask record-told
  mismatched (inl none) q t = let of = form-of q t in absurd (omega (arith, none, of.names_some))
  mismatched (inr other) q t = let of = form-of q t in absurd (other of.one_more)

  pub unnamed : ((ids : List ActId) → HaveNames machine names ids → ⊥) → TellsNoForm machine plans ask record-told
  unnamed none q t = let of = form-of q t in none of.route of.have

  -- the plan that is read
  module _ (is : IsMachine machine) (ids : List ActId) (have : HaveNames machine names ids) where
    abbrev made : Plan
    made = plan_with ask front (acts_in front ++ ids) points

    same-route : (q : Plan) (of : IsFormOf machine plans ask place points names q) → of.route ≡ ids
    same-route q of = one-names machine is of.route ids of.have.known have.known (of.have.named ∙ sym have.named)

    pub no-answer-read : (AnswersAsk machine plans ask made → ⊥) → TellsNoForm machine plans ask record-told
    no-answer-read none q t =
        let of = form-of q t in
        let same = same-route q of in
        none (record {
          sheet = refl;
          name = refl;
          want = refl;
          goal = refl;
          whole = refl;
          route = ids;
          acts = refl;
          is_route = subst (IsRoute machine ask) same of.is_route;
          allowed = subst (AreAllowed machine ask.outs) same of.allowed;
          released = refl;
        })

    pub elsewhere : (location_name machine (end_location machine made) ≡ place → ⊥) → TellsNoForm machine plans ask record-told
    elsewhere other q t =
        let of = form-of q t in
        let acts : acts_in front ++ ids ≡ q.acts = sym (of.acts ∙ ap (λ xs. acts_in front ++ xs) (same-route q of)) in
        other (ap (λ xs. location_name machine (to_in (action_at machine (last_of xs).0))) acts ∙ of.ends)
