-- A plan that was read from a record is given by it, and no other right one is.
use Rattle.std.proofs.Common.{◌≡◌, ◌≢◌, ℕ, ◌+◌, ◌<◌, ◌≤◌, suc, List, [], ◌∷◌, ◌++◌, drop, take, length, map, refl, sym, ap, subst, ◌∙◌, arith, All, Option, Some, None, IsTrue, slice_get, slice_index}
use Rattle.std.specs.Prelude.{IfSome}
use Rattle.std.proofs.lemmas.List.{drop-append-le, drop_all, length-append, length-drop, length-map, take-append-drop}
use Rattle.std.proofs.lemmas.Option.{same_Some, slice_get-get_or}
use Rattle.std.proofs.Math.ListN.{get_or-append}
use Rattle.std.proofs.Math.Seq.{drop-append_seam}
use Rattle.tp_machine.specs.Machines.{IsMachine}
use Rattle.tp_machine.specs.declared.machine.Machine.{Machine}
use Rattle.tp_machine.specs.declared.parts.ActId.{ActId}
use Rattle.tp_schedule.specs.Answers.{AnswersAsk, IsAsked, IsAskedFrom, acts_in, kept_from, kept_of}
use Rattle.std.proofs.lemmas.List.Elements.{All-append, All-nil}
use Rattle.tp_schedule.specs.Legality.{IsLegal}
use Rattle.tp_schedule.proofs.ChangeFacts.{All-plan_of}
use Rattle.tp_schedule.specs.Plans.{IsFormed, IsTimedPlan, end_of_plan, is_fixed, plan_of}
use Rattle.tp_schedule.specs.declared.parts.Ask.{Ask}
use Rattle.tp_schedule.specs.declared.parts.Kind.TheVariants.{Front}
use Rattle.tp_schedule.specs.declared.parts.Origin.{Origin}
use Rattle.tp_schedule.specs.declared.parts.Origin.TheVariants.{Feeder as FromFeeder, Front as FromFront}
use Rattle.tp_schedule.specs.declared.parts.Plan.{Plan}
use Rattle.tp_schedule.specs.declared.records.Record.{Record}
use Rattle.tp_schedule.specs.declared.records.Record.TheVariants.{Plan as TellsPlan}
use Rattle.tp_schedule.proofs.Pairs.{All-append_right}
use Rattle.tp_event_records.specs.RecordNames.{IsKnown}
use Rattle.tp_event_records.proofs.ListSteps.{drop_from}
use Rattle.tp_event_records.proofs.NameFacts.{acts-known}
use Rattle.tp_event_rules.specs.AnswerRecords.{label_of_asked}
use Rattle.tp_event_rules.specs.Labels.{action_name, end_location, location_name}
use Rattle.tp_schedule_check.specs.Alike.{KeepsPoints}
use Rattle.tp_log_planner.specs.ToldPlans.{DoFit, HaveNames, IsJoined, IsToldPlan, plan_with, points_behind}
use Rattle.tp_log_planner.proofs.NameFacts.{one-names}

-- ---- lists of points
prefix-is : (xs ys : List ℕ) → length xs ≤ length ys → ((i : ℕ) → i < length xs → slice_index ys i ≡ slice_index xs i) → take (length xs) ys ≡ xs
prefix-is [] ys le same = refl
prefix-is (x ∷ xs) [] le same = absurd (omega (arith, le))
prefix-is (x ∷ xs) (y ∷ ys) le same =
    let first : y ≡ x = same 0 (omega arith) in
    let rest : take (length xs) ys ≡ xs = prefix-is xs ys (omega (arith, le)) (λ i less. same (suc i) (omega (arith, less))) in
    λ i. first i ∷ rest i

at-last : (xs : List ℕ) (n : ℕ) → length xs ≡ n + 1 → drop n xs ≡ slice_index xs n ∷ []
at-last xs n long = drop_from xs n (slice_index xs n) (slice_get-get_or xs n 0 (omega (arith, long))) ∙ ap (λ ys. slice_index xs n ∷ ys) (drop_all (n + 1) xs (omega (arith, long)))

-- ---- the front of the asked copy
pub record IsFrontIn (kept : ℕ) (front : Plan) : Type 0 where
  pub kind : front.kind ≡ Front
  pub acts : length front.acts ≡ kept

-- so many actions are kept: those of the front, if the copy has one
abbrev pub IsKept : ℕ → Option Plan → Type 0
IsKept kept None = kept ≡ 0
IsKept kept (Some front) = IsFrontIn kept front

pub asked-keeps : (machine : Machine) (plans : List Plan) (ask : Ask) → IsAsked machine plans ask → IsKept (kept_of ask) (plan_of ask.sheet plans)
asked-keeps machine plans ask asked = go ask.origin asked where
  go : (o : Origin) → IsAskedFrom machine plans ask o → IsKept (kept_from o) (plan_of ask.sheet plans)
  go FromFeeder none = subst (IsKept 0) (sym none) refl
  go (FromFront state end count) some = subst (IsKept count) (sym some.1) (record { kind = some.2.front; acts = some.2.acts })

front-fixed : (front : Plan) (i : ℕ) → front.kind ≡ Front → IsTrue (is_fixed front i)
front-fixed front i e = rw e refl

module _ (kept : ℕ) (points : List ℕ) where
  -- ---- the plan that is read
  -- its new points are those that are given
  pub told-points : (front : Option Plan) → IsKept kept front → IfSome front IsFormed → 0 < length points → IsJoined front points → drop kept (points_behind front points) ≡ points
  told-points None none formed some joined = ap (λ n. drop n points) none
  told-points (Some f) is formed some joined =
      let long : length f.points ≡ kept + 1 = omega (arith, formed.one_more, is.acts) in
      let at : slice_index f.points kept ≡ end_of_plan f = ap (slice_index f.points) (sym is.acts) in
      drop-append-le kept f.points (drop 1 points) (omega (arith, long)) ∙ ap (λ xs. xs ++ drop 1 points) (at-last f.points kept long ∙ ap (λ x. x ∷ []) at)
      ∙ sym (drop_from points 0 (end_of_plan f) (slice_get-get_or points 0 0 some ∙ ap Some joined))

  -- its front stays
  pub front-stays : (f p : Plan) → IsFormed f → p.points ≡ points_behind (Some f) points → KeepsPoints f p
  front-stays f p formed e i fixed le =
      ap (λ xs. slice_index xs i) e ∙ get_or-append f.points (drop 1 points) 0 i (omega (arith, formed.one_more, le))

  -- ---- a plan that the record tells
  pub same-points : (front : Option Plan) (q : Plan) → IsKept kept front → IfSome front IsFormed → IsFormed q → kept ≤ length q.acts → ((f : Plan) → front ≡ Some f → KeepsPoints f q)
      → drop kept q.points ≡ points → q.points ≡ points_behind front points
  same-points None q none formed formed' few keeps told = sym (ap (λ n. drop n q.points) none) ∙ told
  same-points (Some f) q is formed formed' few keeps told =
      let long : length f.points ≡ kept + 1 = omega (arith, formed.one_more, is.acts) in
      let stay : (i : ℕ) → i < length f.points → slice_index q.points i ≡ slice_index f.points i = λ i less. keeps f refl i (front-fixed f i is.kind) (omega (arith, less, formed.one_more)) in
      let first : take (length f.points) q.points ≡ f.points = prefix-is f.points q.points (omega (arith, long, formed'.one_more, few)) stay in
      let at : slice_get q.points kept ≡ Some (slice_index q.points kept) = slice_get-get_or q.points kept 0 (omega (arith, formed'.one_more, few)) in
      let cut : slice_index q.points kept ∷ drop (kept + 1) q.points ≡ points = sym (drop_from q.points kept (slice_index q.points kept) at) ∙ told in
      let rest : drop (kept + 1) q.points ≡ drop 1 points = ap (drop 1) cut in
      sym (take-append-drop (length f.points) q.points)
      ∙ ap (λ xs. xs ++ drop (length f.points) q.points) first
      ∙ ap (λ xs. f.points ++ xs) (ap (λ n. drop n q.points) long ∙ rest)

pub kept-length : (kept : ℕ) (front : Option Plan) → IsKept kept front → length (acts_in front) ≡ kept
kept-length kept None none = sym none
kept-length kept (Some f) is = is.acts

-- what was read: new actions of these names, and new points, which begin where the front ends
pub record IsRead (machine : Machine) (plans : List Plan) (ask : Ask) (names : List (List ℕ)) (points : List ℕ) (ids : List ActId) : Type 0 where
  pub asked : IsAsked machine plans ask
  pub formed : IfSome (plan_of ask.sheet plans) IsFormed
  pub joined : IsJoined (plan_of ask.sheet plans) points
  pub names_some : 0 < length names
  pub one_more : length points ≡ length names + 1
  pub have : HaveNames machine names ids

-- what is known of a right plan that the record tells
pub record IsToldOf (machine : Machine) (plans : List Plan) (ask : Ask) (place : List ℕ) (points : List ℕ) (names : List (List ℕ)) (q : Plan) : Type 0 where
  pub route : List ActId
  pub acts : q.acts ≡ acts_in (plan_of ask.sheet plans) ++ route
  pub have : HaveNames machine names route
  pub names_some : 0 < length names
  pub at_most : kept_of ask + length names ≤ 64
  pub one_more : length points ≡ length names + 1
  pub ticks : drop (kept_of ask) q.points ≡ points
  pub joined : IsJoined (plan_of ask.sheet plans) points
  pub ends : location_name machine (end_location machine q) ≡ place

module _ (machine : Machine) (plans : List Plan) (ask : Ask) (asked : IsAsked machine plans ask) (formed : IfSome (plan_of ask.sheet plans) IsFormed) (place : List ℕ) (points : List ℕ) (names : List (List ℕ)) where
  abbrev front : Option Plan
  front = plan_of ask.sheet plans

  abbrev record-told : Record
  record-told = TellsPlan (label_of_asked ask) place points names

  kept : IsKept (kept_of ask) front
  kept = asked-keeps machine plans ask asked

  front-first : (o : Option Plan) (q : Plan) → IsKept (kept_of ask) o → IfSome o IsFormed → IsFormed q → kept_of ask ≤ length q.acts → ((f : Plan) → o ≡ Some f → KeepsPoints f q)
      → drop (kept_of ask) q.points ≡ points → IsJoined o points
  front-first None q is formed' formed'' few stays told = tt
  front-first (Some f) q is formed' formed'' few stays told =
      let k = kept_of ask in
      let at : slice_get q.points k ≡ Some (slice_index q.points k) = slice_get-get_or q.points k 0 (omega (arith, formed''.one_more, few)) in
      let cut : slice_index q.points k ∷ drop (k + 1) q.points ≡ points = sym (drop_from q.points k (slice_index q.points k) at) ∙ told in
      let same : slice_index q.points k ≡ slice_index f.points k = stays f refl k (front-fixed f k is.kind) (omega (arith, is.acts)) in
      ap (λ xs. slice_index xs 0) (sym cut) ∙ same ∙ ap (slice_index f.points) (sym is.acts)

  -- of a record's parts
  abbrev ticks-of : Record → List ℕ
  ticks-of (TellsPlan sheet at ticks acts) = ticks
  ticks-of r = []

  abbrev names-of : Record → List (List ℕ)
  names-of (TellsPlan sheet at ticks acts) = acts
  names-of r = []

  abbrev place-of : Record → List ℕ
  place-of (TellsPlan sheet at ticks acts) = at
  place-of r = []

  pub told-of : (q : Plan) → IsTimedPlan machine q → IsToldPlan machine plans ask record-told q → IsToldOf machine plans ask place points names q
  told-of q timed t =
      let k = kept_of ask in
      let route = t.good.answers.route in
      let acts : q.acts ≡ acts_in front ++ route = t.good.answers.acts in
      let long : length (acts_in front) ≡ k = kept-length k front kept in
      let rest : drop k q.acts ≡ route = ap (drop k) acts ∙ ap (λ n. drop n (acts_in front ++ route)) (sym long) ∙ drop-append_seam (acts_in front) route in
      let ticks : drop k q.points ≡ points = ap ticks-of t.is in
      let named : map (action_name machine) route ≡ names = ap (map (action_name machine)) (sym rest) ∙ ap names-of t.is in
      let count : length q.acts ≡ k + length route = ap length acts ∙ length-append (acts_in front) route ∙ ap (λ n. n + length route) long in
      let counted : length route ≡ length names = sym (length-map route (action_name machine)) ∙ ap length named in
      let known : All (IsKnown machine) route = All-append_right (IsKnown machine) (acts_in front) route (subst (All (IsKnown machine)) acts (acts-known machine q timed)) in
      let few : k ≤ length q.acts = omega (arith, count) in
      record {
        route = route;
        acts = acts;
        have = record { known = known; named = named };
        names_some = some route t.good.answers.is_route.some counted;
        at_most = omega (arith, timed.at_most, count, counted);
        one_more = omega (arith, ap length ticks, length-drop k q.points, t.formed.one_more, count, counted);
        ticks = ticks;
        joined = front-first front q kept formed t.formed few t.good.front ticks;
        ends = ap place-of t.is;
      } where
        some : (route : List ActId) → route ≢ [] → length route ≡ length names → 0 < length names
        some [] not e = absurd (not refl)
        some (act ∷ route) not e = omega (arith, e)

  pub fits : (q : Plan) → IsToldOf machine plans ask place points names q → DoFit front points names
  fits q of = record {
    at_most = omega (arith, of.at_most, kept-length (kept_of ask) front kept);
    names_some = of.names_some;
    one_more = of.one_more;
    joined = of.joined;
  }

  -- ---- what is read
  module _ (ids : List ActId) (read : IsRead machine plans ask names points ids) where
    abbrev made : Plan
    made = plan_with ask front (acts_in front ++ ids) points

    pub made-formed : IsFormed made
    made-formed =
        let long : length (acts_in front) ≡ kept_of ask = kept-length (kept_of ask) front kept in
        let counted : length ids ≡ length names = sym (length-map ids (action_name machine)) ∙ ap length read.have.named in
        let acts = length-append (acts_in front) ids in
        record {
          some = omega (arith, acts, counted, read.names_some);
          one_more = ticks front kept formed read.joined (omega (arith, acts, counted, long, read.one_more));
          released = omega (arith, acts, long);
        } where
          ticks : (o : Option Plan) → IsKept (kept_of ask) o → IfSome o IsFormed → IsJoined o points → length (acts_in front ++ ids) + 1 ≡ kept_of ask + length points → length (points_behind o points) ≡ length (acts_in front ++ ids) + 1
          ticks None none formed' joined e = omega (arith, none, e)
          ticks (Some f) is formed' joined e =
              omega (arith, length-append f.points (drop 1 points), length-drop 1 points, formed'.one_more, is.acts, e, read.one_more)

    pub is-made : (is : IsMachine machine) (q : Plan) → IsTimedPlan machine q → IsToldPlan machine plans ask record-told q → q ≡ made
    is-made is q timed t =
        let k = kept_of ask in
        let of = told-of q timed t in
        let same : of.route ≡ ids = one-names machine is of.route ids of.have.known read.have.known (of.have.named ∙ sym read.have.named) in
        let acts : q.acts ≡ acts_in front ++ ids = of.acts ∙ ap (λ xs. acts_in front ++ xs) same in
        let long : length (acts_in front) ≡ k = kept-length k front kept in
        let few : k ≤ length q.acts = omega (arith, ap length of.acts, length-append (acts_in front) of.route, long) in
        let ticks : q.points ≡ points_behind front points = same-points k points front q kept formed t.formed few t.good.front of.ticks in
        let a = t.good.answers in
        λ i. record {
          sheet = a.sheet i;
          name = a.name i;
          want = a.want i;
          goal = a.goal i;
          kind = a.whole i;
          acts = acts i;
          points = ticks i;
          released = a.released i;
        }

    pub made-told : AnswersAsk machine plans ask made → location_name machine (end_location machine made) ≡ place → IsToldPlan machine plans ask record-told made
    made-told answers ends =
        let k = kept_of ask in
        let long : length (acts_in front) ≡ k = kept-length k front kept in
        let rest : drop k (acts_in front ++ ids) ≡ ids = ap (λ n. drop n (acts_in front ++ ids)) (sym long) ∙ drop-append_seam (acts_in front) ids in
        let ticks : drop k (points_behind front points) ≡ points = told-points k points front kept formed (omega (arith, read.one_more)) read.joined in
        let named : map (action_name machine) (drop k (acts_in front ++ ids)) ≡ names = ap (map (action_name machine)) rest ∙ read.have.named in
        record {
          formed = made-formed;
          good = record { answers = answers; front = λ f e. front-stays k points f made (form front e formed) (ap (λ o. points_behind o points) e) };
          is = λ i. TellsPlan (label_of_asked ask) (ends i) (ticks i) (named i);
        } where
          form : (o : Option Plan) {f : Plan} → o ≡ Some f → IfSome o IsFormed → IsFormed f
          form None e formed' = absurd cc
          form (Some g) e formed' = subst IsFormed (same_Some g _ e) formed'

pub read-from : (machine : Machine) (plans : List Plan) (ask : Ask) (names : List (List ℕ)) (points : List ℕ) (ids : List ActId) → IsAsked machine plans ask → IfSome (plan_of ask.sheet plans) IsFormed
    → DoFit (plan_of ask.sheet plans) points names → HaveNames machine names ids → IsRead machine plans ask names points ids
read-from machine plans ask names points ids asked formed fit have =
    record { asked = asked; formed = formed; joined = fit.joined; names_some = fit.names_some; one_more = fit.one_more; have = have }

pub made-known : (machine : Machine) (plans : List Plan) (ask : Ask) (ids : List ActId) → IsLegal machine plans → All (IsKnown machine) ids → All (IsKnown machine) (acts_in (plan_of ask.sheet plans) ++ ids)
made-known machine plans ask ids legal known = All-append (IsKnown machine) (acts_in (plan_of ask.sheet plans)) ids (go (plan_of ask.sheet plans) refl) known where
  go : (o : Option Plan) → plan_of ask.sheet plans ≡ o → All (IsKnown machine) (acts_in o)
  go None e = All-nil (IsKnown machine)
  go (Some p) e = acts-known machine p (All-plan_of (IsTimedPlan machine) ask.sheet plans p legal.timed e)
