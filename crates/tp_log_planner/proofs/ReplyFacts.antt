-- A none and a spent budget among items are reported alone.
use Rattle.std.proofs.Common.{◌≡◌, ℕ, List, [], ◌∷◌, ◌++◌, drop, length, refl, sym, ap, ◌∙◌, arith, Option}
use Rattle.tp_log.specs.declared.item.Item.{Item}
use Rattle.tp_log.specs.declared.item.Item.TheVariants.{Note, Tree}
use Rattle.tp_machine.specs.declared.machine.Machine.{Machine}
use Rattle.tp_schedule.specs.Answers.{IsAlternative, kept_of}
use Rattle.tp_schedule.specs.PlannerAnswers.Due.{asking}
use Rattle.tp_schedule.specs.Plans.{without}
use Rattle.tp_schedule.specs.declared.parts.Ask.{Ask}
use Rattle.tp_schedule.specs.declared.parts.Plan.{Plan}
use Rattle.tp_schedule.specs.declared.parts.Reply.{Reply}
use Rattle.tp_schedule.specs.declared.parts.Reply.TheVariants.{Never, Planned, Spent}
use Rattle.tp_schedule.specs.declared.records.Record.{Record}
use Rattle.tp_schedule.specs.declared.records.Record.TheVariants.{Never as TellsNever, Budget}
use Rattle.tp_schedule.specs.declared.records.SheetName.{SheetName}
use Rattle.tp_bound_laws.specs.declared.claim.Claim.TheVariants.{Never as NeverClaim}
use Rattle.tp_event_rules.specs.AnswerRecords.{label_of_asked, moves, told_of_plan, told_of_planned}
use Rattle.tp_event_rules.specs.Labels.{goal_name}
use Rattle.tp_log_planner.specs.TakenAnswers.{DoTellPlan, TakesAnswer}
use Rattle.tp_log_planner.specs.DueTrees.{BeginsWithTree}
use Rattle.tp_log_planner.specs.ToldAnswers.{Tells, TellsDue, behind_asides, notes}

module _ (machine : Machine) (plans : List Plan) (ask : Ask) where
  -- the first record of an answer
  abbrev pub HeadOf : Reply → Record → Type 0
  HeadOf Planned told = (p : Plan) × (told_of_plan machine (kept_of ask) p ≡ told)
  HeadOf Never told = told ≡ TellsNever (label_of_asked ask) (goal_name machine ask.goal)
  HeadOf (Spent bound) told = told ≡ Budget (label_of_asked ask) (goal_name machine ask.goal) bound

  pub head-of : (told : Record) (later : List Item) → behind_asides (Note told ∷ later) ≡ Note told ∷ later → (reply : Reply) (others : List Plan) (rest : List Item)
      → Tells machine plans ask (Note told ∷ later) reply others rest → HeadOf reply told
  head-of told later first Planned others rest tells =
      let plan = tells.shows.1.0 in
      let whole : Note told ∷ later ≡ Note (told_of_plan machine (kept_of ask) plan) ∷ (notes (moves (without ask.sheet plans) (without ask.sheet others)) ++ (tells.shown ++ rest)) =
      sym first ∙ tells.told
      ∙ ap (λ o. notes (told_of_planned machine (kept_of ask) o ++ moves (without ask.sheet plans) (without ask.sheet others)) ++ (tells.shown ++ rest)) tells.shows.1.1 in
      (plan, cc)
  head-of told later first Never others rest tells = let e = sym first ∙ tells.told in cc
  head-of told later first (Spent bound) others rest tells = let e = sym first ∙ tells.told in cc

  -- ---- a none
  module _ (sheet : SheetName) (goal : Option (List ℕ)) (later : List Item) where
    abbrev never : Record
    never = TellsNever sheet goal

    pub never-about : TellsDue machine plans (Note never ∷ later) (asking ask) → (sheet ≡ label_of_asked ask) × (goal ≡ goal_name machine ask.goal)
    never-about (Planned, (others, (rest, tells))) = let h = (head-of never later refl Planned others rest tells).1 in absurd cc
    never-about (Never, (others, (rest, tells))) = let h = head-of never later refl Never others rest tells in (cc, cc)
    never-about (Spent bound, (others, (rest, tells))) = let h = head-of never later refl (Spent bound) others rest tells in absurd cc

    -- its tree stands behind it
    tree-behind : (others : List Plan) (rest : List Item) (tells : Tells machine plans ask (Note never ∷ later) Never others rest) → later ≡ Tree tells.shows.0 ∷ rest
    tree-behind others rest tells =
        let e : Note never ∷ later ≡ Note (TellsNever (label_of_asked ask) (goal_name machine ask.goal)) ∷ (tells.shown ++ rest) = tells.told in
        let f : later ≡ tells.shown ++ rest = cc in
        f ∙ ap (λ xs. xs ++ rest) tells.shows.2

    pub never-tree : TellsDue machine plans (Note never ∷ later) (asking ask) → BeginsWithTree machine plans ask NeverClaim later
    never-tree (Planned, (others, (rest, tells))) = let h = (head-of never later refl Planned others rest tells).1 in absurd cc
    never-tree (Never, (others, (rest, tells))) = record { tree = tells.shows.0; later = rest; is = tree-behind others rest tells; shows = tells.shows.1 }
    never-tree (Spent bound, (others, (rest, tells))) = let h = head-of never later refl (Spent bound) others rest tells in absurd cc

    module _ (about : (sheet ≡ label_of_asked ask) × (goal ≡ goal_name machine ask.goal)) (begins : BeginsWithTree machine plans ask NeverClaim later) (none : (other : List Plan) → IsAlternative machine plans ask other → ⊥) where
      one : (reply : Reply) (others : List Plan) (rest : List Item) → Tells machine plans ask (Note never ∷ later) reply others rest → (reply ≡ Never) × (others ≡ plans) × (rest ≡ drop 2 (Note never ∷ later))
      one Planned others rest tells = let h = (head-of never later refl Planned others rest tells).1 in absurd cc
      one Never others rest tells = (refl, tells.said, sym (ap (drop 1) (tree-behind others rest tells)))
      one (Spent bound) others rest tells = let h = head-of never later refl (Spent bound) others rest tells in absurd cc

      pub never-taken : TakesAnswer machine plans ask (Note never ∷ later) Never plans 2
      never-taken = record {
        within = omega (arith, ap length begins.is);
        told = record {
          shown = Tree begins.tree ∷ [];
          told = (λ i. Note (TellsNever (about.0 i) (about.1 i)) ∷ later)
              ∙ ap (λ xs. Note (TellsNever (label_of_asked ask) (goal_name machine ask.goal)) ∷ xs) (begins.is ∙ ap (λ xs. Tree begins.tree ∷ xs) (sym (ap (drop 1) begins.is)));
          said = refl;
          shows = (begins.tree, begins.shows, refl);
        };
        only = one;
        answer = (refl, none);
      }

  -- ---- a spent budget
  module _ (sheet : SheetName) (goal : Option (List ℕ)) (bound : ℕ) (later : List Item) where
    abbrev budget : Record
    budget = Budget sheet goal bound

    pub budget-about : TellsDue machine plans (Note budget ∷ later) (asking ask) → (sheet ≡ label_of_asked ask) × (goal ≡ goal_name machine ask.goal)
    budget-about (Planned, (others, (rest, tells))) = let h = (head-of budget later refl Planned others rest tells).1 in absurd cc
    budget-about (Never, (others, (rest, tells))) = let h = head-of budget later refl Never others rest tells in absurd cc
    budget-about (Spent b, (others, (rest, tells))) = let h = head-of budget later refl (Spent b) others rest tells in (cc, cc)

    module _ (about : (sheet ≡ label_of_asked ask) × (goal ≡ goal_name machine ask.goal)) where
      only-budget : (reply : Reply) (others : List Plan) (rest : List Item) → Tells machine plans ask (Note budget ∷ later) reply others rest → (reply ≡ Spent bound) × (others ≡ plans) × (rest ≡ drop 1 (Note budget ∷ later))
      only-budget Planned others rest tells = let h = (head-of budget later refl Planned others rest tells).1 in absurd cc
      only-budget Never others rest tells = let h = head-of budget later refl Never others rest tells in absurd cc
      only-budget (Spent b) others rest tells =
          let h = head-of budget later refl (Spent b) others rest tells in
          let same : b ≡ bound = cc in
          let e : Note budget ∷ later ≡ Note (Budget (label_of_asked ask) (goal_name machine ask.goal) b) ∷ (tells.shown ++ rest) = tells.told in
          let f : later ≡ tells.shown ++ rest = cc in
          (ap Spent same, tells.said, sym (f ∙ ap (λ xs. xs ++ rest) tells.shows))

      pub budget-taken : TakesAnswer machine plans ask (Note budget ∷ later) (Spent bound) plans 1
      budget-taken = record {
        within = omega arith;
        told = record {
          shown = [];
          told = λ i. Note (Budget (about.0 i) (about.1 i) bound) ∷ later;
          said = refl;
          shows = refl;
        };
        only = only-budget;
        answer = (refl, tt);
      }

-- the head of a plan
pub plan-due : (machine : Machine) (plans : List Plan) (ask : Ask) (items : List Item) → ((others : List Plan) (rest : List Item) → Tells machine plans ask items Never others rest → ⊥)
    → ((bound : ℕ) (others : List Plan) (rest : List Item) → Tells machine plans ask items (Spent bound) others rest → ⊥) → TellsDue machine plans items (asking ask) → DoTellPlan machine plans ask items
plan-due machine plans ask items not-never not-spent (Planned, (others, (rest, tells))) = (others, (rest, tells))
plan-due machine plans ask items not-never not-spent (Never, (others, (rest, tells))) = absurd (not-never others rest tells)
plan-due machine plans ask items not-never not-spent (Spent bound, (others, (rest, tells))) = absurd (not-spent bound others rest tells)
