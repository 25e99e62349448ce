-- Each plan, none and budget that a lawful log tells stands where it means what it says.
use Rattle.std.proofs.Common.{◌≡◌, ℕ, true, cond, List, [], ◌∷◌, ◌++◌, filter, flat_map, refl, sym, ap, ◌∙◌, All, subst, Option, Some, None}
use Rattle.std.proofs.lemmas.List.Concat.{flat_map-cons}
use Rattle.std.proofs.lemmas.List.Elements.{All-head, All-tail, filter-append}
use Rattle.tp_machine.specs.declared.machine.Machine.{Machine}
use Rattle.tp_schedule.specs.Answers.{kept_of}
use Rattle.tp_schedule.specs.PlannerAnswers.{IsAnswer}
use Rattle.tp_schedule.specs.Plans.{plan_of}
use Rattle.tp_schedule.specs.declared.parts.Ask.{Ask}
use Rattle.tp_schedule.specs.declared.parts.Plan.{Plan}
use Rattle.tp_schedule.specs.declared.parts.Reply.{Reply}
use Rattle.tp_schedule.specs.declared.parts.Reply.TheVariants.{Planned, Never, Spent}
use Rattle.tp_schedule.specs.declared.records.Record.{Record}
use Rattle.tp_schedule.specs.declared.records.Record.TheVariants.{Plan as TellsPlan, Never as TellsNever, Budget}
use Rattle.tp_event_rules.specs.AnswerRecords.{told_of_planned, told_of_plan}
use Rattle.tp_event_rules.specs.Logs.{Entry, TreeClaims}
use Rattle.tp_event_rules.specs.Deliveries.{records_of}
use Rattle.tp_event_rules.specs.States.{SessionState, empty_state}
use Rattle.tp_headline.specs.Given.{Answers, Given, IsEarliestThere, IsNoneThere, IsSpentThere, StandsBehind, is_answer, told_by, told_of_given}
use Rattle.tp_headline.specs.Headline.{LawfulBudgetsAreSpent, LawfulNonesAreNone, LawfulPlansAreEarliest}
use Rattle.tp_headline.proofs.GivenAnswers.{IsRightGiven, RunGives, run-gives}

-- of an answer at most one record is reported
data IsOneAtMost : List Record → Type 0 where
  none : IsOneAtMost []
  one : (r : Record) → IsOneAtMost (r ∷ [])

told-one : (machine : Machine) (ask : Ask) (reply : Reply) (after : List Plan) → IsOneAtMost (told_of_given machine ask reply after)
told-one machine ask Planned after = go (plan_of ask.sheet after) where
  go : (o : Option Plan) → IsOneAtMost (told_of_planned machine (kept_of ask) o)
  go None = none
  go (Some p) = one (told_of_plan machine (kept_of ask) p)
told-one machine ask Never after = one _
told-one machine ask (Spent bound) after = one _

-- where a record that is reported of answers comes from
record Splits (machine : Machine) (given : List Given) (xs : List Record) (r : Record) : Type 0 where
  first : List Given
  g : Given
  later : List Given
  is : given ≡ first ++ g ∷ later
  told : xs ≡ flat_map (told_by machine) first
  tells : told_by machine g ≡ r ∷ []

splits : (machine : Machine) (given : List Given) (xs ys : List Record) (r : Record) → xs ++ r ∷ ys ≡ flat_map (told_by machine) given → Splits machine given xs r
splits machine [] xs ys r e = absurd (go xs e) where
  go : (xs : List Record) → xs ++ r ∷ ys ≡ [] → ⊥
  go [] e = cc
  go (x ∷ xs) e = cc
splits machine (g ∷ given) xs ys r e = go (told_by machine g) refl (told-one machine g.ask g.reply g.after) xs (e ∙ flat_map-cons (told_by machine) g given) (λ more. splits machine given more ys r) where
  later : (xs : List Record) → Splits machine given xs r → (front : List Record) → told_by machine g ≡ front → Splits machine (g ∷ given) (front ++ xs) r
  later xs s front f = record {
    first = g ∷ s.first;
    g = s.g;
    later = s.later;
    is = ap (λ l. g ∷ l) s.is;
    told = (λ i. sym f i ++ s.told i) ∙ sym (flat_map-cons (told_by machine) g s.first);
    tells = s.tells;
  }

  go : (front : List Record) → told_by machine g ≡ front → IsOneAtMost front → (xs : List Record) → xs ++ r ∷ ys ≡ told_by machine g ++ flat_map (told_by machine) given
      → ((more : List Record) → more ++ r ∷ ys ≡ flat_map (told_by machine) given → Splits machine given more r) → Splits machine (g ∷ given) xs r
  go _ f none xs h back = later xs (back xs (h ∙ ap (λ l. l ++ flat_map (told_by machine) given) f)) [] f
  go _ f (one x) [] h back =
      let all : r ∷ ys ≡ x ∷ flat_map (told_by machine) given = h ∙ ap (λ l. l ++ flat_map (told_by machine) given) f in
      let same : x ≡ r = cc in
      record { first = []; g = g; later = given; is = refl; told = refl; tells = f ∙ ap (λ y. y ∷ []) same }
  go _ f (one x) (y ∷ xs) h back =
      let all : y ∷ (xs ++ r ∷ ys) ≡ x ∷ flat_map (told_by machine) given = h ∙ ap (λ l. l ++ flat_map (told_by machine) given) f in
      let same : x ≡ y = cc in
      let rest : xs ++ r ∷ ys ≡ flat_map (told_by machine) given = cc in
      subst (λ z. Splits machine (g ∷ given) (z ∷ xs) r) same (later xs (back xs rest) (x ∷ []) f)

-- the answer of a record
record AnswerOf {T : Type 0} (spent : Machine → List Plan → Ask → ℕ → Type 0) (machine : Machine) (log : List (Entry T)) (last : SessionState) (before : List Record) (r : Record) : Type 0 where
  g : Given
  stands : StandsBehind spent machine log last before g
  right : IsRightGiven spent machine g
  tells : told_by machine g ≡ r ∷ []

answer-of : {T : Type 0} (spent : Machine → List Plan → Ask → ℕ → Type 0) (machine : Machine) (log : List (Entry T)) (last : SessionState) (before after : List Record) (r : Record) → is_answer r ≡ true
    → RunGives spent machine empty_state log last → records_of log ≡ before ++ r ∷ after → AnswerOf spent machine log last before r
answer-of spent machine log last before after r answers gives e =
    let parts : filter is_answer before ++ r ∷ filter is_answer after ≡ flat_map (told_by machine) gives.given =
    ap (λ b. filter is_answer before ++ cond b (r ∷ filter is_answer after) (filter is_answer after)) (sym answers) ∙ sym (filter-append is_answer before (r ∷ after)) ∙ ap (filter is_answer) (sym e) ∙ gives.told.told in
    let s = splits machine gives.given (filter is_answer before) (filter is_answer after) r parts in
    record {
      g = s.g;
      stands = record { first = s.first; later = s.later; answers = subst (λ l. Answers spent machine empty_state log l last) s.is gives.answers; told = s.told };
      right = right-at s.first s.later s.g (subst (All (IsRightGiven spent machine)) s.is gives.told.right);
      tells = s.tells;
    } where
      right-at : (first later : List Given) (g : Given) → All (IsRightGiven spent machine) (first ++ g ∷ later) → IsRightGiven spent machine g
      right-at [] later g all = All-head (IsRightGiven spent machine) g later all
      right-at (x ∷ first) later g all = right-at first later g (All-tail (IsRightGiven spent machine) x (first ++ g ∷ later) all)

module _ {T : Type 0} (claims : TreeClaims T) (spent : Machine → List Plan → Ask → ℕ → Type 0) where
  pub plans-earliest : LawfulPlansAreEarliest claims spent
  plans-earliest machine shown events log lawful before after copy place points acts e = go a.g.reply a.stands a.right a.tells where
    r : Record
    r = TellsPlan copy place points acts

    a : AnswerOf spent machine log lawful.last before (TellsPlan copy place points acts)
    a = answer-of spent machine log lawful.last before after (TellsPlan copy place points acts) refl (run-gives claims shown spent machine empty_state log lawful.last lawful.run) e

    go : (reply : Reply) → StandsBehind spent machine log lawful.last before (record { plans = a.g.plans; ask = a.g.ask; reply = reply; after = a.g.after }) → IsAnswer spent machine a.g.plans a.g.ask reply a.g.after
        → told_of_given machine a.g.ask reply a.g.after ≡ TellsPlan copy place points acts ∷ [] → IsEarliestThere spent machine log lawful.last before (TellsPlan copy place points acts)
    go Planned stands right tells = record { plans = a.g.plans; ask = a.g.ask; after = a.g.after; stands = stands; is = tells; earliest = right.0; least = right.1 }
    go Never stands right tells = absurd (cc)
    go (Spent bound) stands right tells = absurd (cc)

  pub nones-none : LawfulNonesAreNone claims spent
  nones-none machine shown events log lawful before after copy goal e = go a.g.reply a.stands a.right a.tells where
    a : AnswerOf spent machine log lawful.last before (TellsNever copy goal)
    a = answer-of spent machine log lawful.last before after (TellsNever copy goal) refl (run-gives claims shown spent machine empty_state log lawful.last lawful.run) e

    no-plan : (o : Option Plan) → told_of_planned machine (kept_of a.g.ask) o ≡ TellsNever copy goal ∷ [] → ⊥
    no-plan None tells = cc
    no-plan (Some p) tells = cc

    go : (reply : Reply) → StandsBehind spent machine log lawful.last before (record { plans = a.g.plans; ask = a.g.ask; reply = reply; after = a.g.after }) → IsAnswer spent machine a.g.plans a.g.ask reply a.g.after
        → told_of_given machine a.g.ask reply a.g.after ≡ TellsNever copy goal ∷ [] → IsNoneThere spent machine log lawful.last before (TellsNever copy goal)
    go Planned stands right tells = absurd (no-plan (plan_of a.g.ask.sheet a.g.after) tells)
    go Never stands right tells = record { plans = a.g.plans; ask = a.g.ask; after = a.g.after; stands = stands; is = cc; stays = right.0; none = right.1 }
    go (Spent bound) stands right tells = absurd (cc)

  pub budgets-spent : LawfulBudgetsAreSpent claims spent
  budgets-spent machine shown events log lawful before after copy goal bound e = go a.g.reply a.stands a.right a.tells where
    a : AnswerOf spent machine log lawful.last before (Budget copy goal bound)
    a = answer-of spent machine log lawful.last before after (Budget copy goal bound) refl (run-gives claims shown spent machine empty_state log lawful.last lawful.run) e

    no-plan : (o : Option Plan) → told_of_planned machine (kept_of a.g.ask) o ≡ Budget copy goal bound ∷ [] → ⊥
    no-plan None tells = cc
    no-plan (Some p) tells = cc

    go : (reply : Reply) → StandsBehind spent machine log lawful.last before (record { plans = a.g.plans; ask = a.g.ask; reply = reply; after = a.g.after }) → IsAnswer spent machine a.g.plans a.g.ask reply a.g.after
        → told_of_given machine a.g.ask reply a.g.after ≡ Budget copy goal bound ∷ [] → IsSpentThere spent machine log lawful.last before (Budget copy goal bound)
    go Planned stands right tells = absurd (no-plan (plan_of a.g.ask.sheet a.g.after) tells)
    go Never stands right tells = absurd (cc)
    go (Spent b) stands right tells = record { plans = a.g.plans; ask = a.g.ask; bound = b; after = a.g.after; stands = stands; is = cc; stays = right.0; means = right.1 }
