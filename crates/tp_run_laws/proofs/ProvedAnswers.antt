-- The tree that an answer takes, and what it proves where it stands: behind a plan and its moves, or right behind a none.
use Rattle.std.proofs.Common.{◌≡◌, ℕ, Bool, true, false, not, List, [], ◌∷◌, ◌++◌, map, take, drop, flat_map, refl, sym, ap, subst, ◌∙◌, All, Option, Some, append_assoc}
use Rattle.std.proofs.lemmas.List.Concat.{flat_map-cons}
use Rattle.std.proofs.lemmas.List.Elements.{All-cons, All-nil}
use Rattle.std.specs.Prelude.{IsTrue, if◌then◌else◌}
use Rattle.tp_bounds.specs.declared.tree.BoundTree.{BoundTree}
use Rattle.tp_machine.specs.declared.machine.Machine.{Machine}
use Rattle.tp_schedule.specs.Answers.{kept_of}
use Rattle.tp_schedule.specs.Plans.{end_of_plan, plan_of}
use Rattle.tp_schedule.specs.declared.parts.Ask.{Ask}
use Rattle.tp_schedule.specs.declared.parts.Plan.{Plan}
use Rattle.tp_schedule.specs.declared.parts.Reply.{Reply}
use Rattle.tp_schedule.specs.declared.parts.Reply.TheVariants.{Planned, Never, Spent}
use Rattle.tp_schedule.specs.declared.records.Record.{Record}
use Rattle.tp_schedule.specs.declared.records.Record.TheVariants.{Plan as TellsPlan, Move, Never as TellsNever, Budget}
use Rattle.tp_schedule.specs.declared.records.SheetName.{SheetName}
use Rattle.tp_bound_laws.specs.Short.{IsShortTreeFor}
use Rattle.tp_bound_laws.specs.declared.claim.Claim.TheVariants.{Earliest, Never as NeverClaim}
use Rattle.tp_log.specs.declared.item.Item.{Item}
use Rattle.tp_log.specs.declared.item.Item.TheVariants as item
use Rattle.tp_event_rules.specs.AnswerRecords.{label_of_asked, told_of_plan, told_of_planned}
use Rattle.tp_event_rules.specs.Labels.{goal_name}
use Rattle.tp_event_rules.specs.Logs.{TakesTree, right_answers}
use Rattle.tp_headline.specs.Given.{Given, told_by, told_of_given}
use Rattle.tp_headline.proofs.GivenAnswers.{LeadsBy}
use Rattle.tp_run_laws.specs.Runs.{begin_with_move, is_move, items_with, spent_by, tree_claims}

-- ---- behind a plan

-- a tree behind moves
pub record IsBehind (tree : BoundTree) (items : List Item) : Type 0 where
  pub moves : List Record
  pub moved : All (λ m. IsTrue (is_move m)) moves
  pub rest : List Item
  pub stands : items ≡ map (λ m. item.Note m) moves ++ item.Tree tree ∷ rest

more-behind : (tree : BoundTree) (items more : List Item) → IsBehind tree items → IsBehind tree (items ++ more)
more-behind tree items more b = record {
  moves = b.moves;
  moved = b.moved;
  rest = b.rest ++ more;
  stands = ap (λ l. l ++ more) b.stands ∙ append_assoc (map (λ m. item.Note m) b.moves) (item.Tree tree ∷ b.rest) more;
}

-- the items behind a plan or its move, where that is the last of its moves or isn't
abbrev pub placed : Bool → List Record → List BoundTree → List Item
placed false records trees = items_with true records trees
placed true records [] = items_with true records []
placed true records (t ∷ trees) = item.Tree t ∷ items_with true records trees

pub placed-is : (last : Bool) (records : List Record) (trees : List BoundTree)
    → map (λ t. item.Tree t) (take (if last then 1 else 0) trees) ++ items_with true records (drop (if last then 1 else 0) trees) ≡ placed last records trees
placed-is false records trees = refl
placed-is true records [] = refl
placed-is true records (t ∷ trees) = refl

-- a plan's tree stands behind its moves
pub behind-plan : (records : List Record) (tree : BoundTree) (trees : List BoundTree) → IsBehind tree (placed (not (begin_with_move records)) records (tree ∷ trees))
behind-plan [] tree trees = record { moves = []; moved = All-nil (λ m. IsTrue (is_move m)); rest = items_with true [] trees; stands = refl }
behind-plan (Move sheet points ∷ records) tree trees =
    let b = subst (IsBehind tree) (sym (placed-is (not (begin_with_move records)) records (tree ∷ trees))) (behind-plan records tree trees) in
    record {
      moves = Move sheet points ∷ b.moves;
      moved = All-cons (λ m. IsTrue (is_move m)) (Move sheet points) b.moves refl b.moved;
      rest = b.rest;
      stands = ap (λ l. item.Note (Move sheet points) ∷ l) b.stands;
    }
behind-plan (r ∷ records) tree trees = record { moves = []; moved = All-nil (λ m. IsTrue (is_move m)); rest = items_with true (r ∷ records) trees; stands = refl }

abbrev is_plan : Record → Bool
is_plan (TellsPlan sheet place points acts) = true
is_plan _ = false

module _ (machine : Machine) (nodes : ℕ) where
  -- the answers take these trees, one after another
  abbrev pub Takes : List BoundTree → List Given → List BoundTree → Type 0
  Takes trees given later = LeadsBy (right_answers tree_claims true (spent_by nodes) machine) trees given later

  -- the tree of a plan that stands behind its moves, and that of a none which stands right there
  abbrev pub ShownBy : List Plan → Ask → Reply → List Plan → List Item → Type 0
  ShownBy plans ask Planned after behind =
      (p : Plan) × (plan_of ask.sheet after ≡ Some p) × ((tree : BoundTree) × IsShortTreeFor machine plans ask (Earliest (end_of_plan p)) tree × IsBehind tree behind)
  ShownBy plans ask Never after behind = (tree : BoundTree) × IsShortTreeFor machine plans ask NeverClaim tree × ((rest : List Item) × (behind ≡ item.Tree tree ∷ rest))
  ShownBy plans ask (Spent bound) after behind = Unit {0}

  pub shown-more : (plans : List Plan) (ask : Ask) (reply : Reply) (after : List Plan) (behind more : List Item) → ShownBy plans ask reply after behind → ShownBy plans ask reply after (behind ++ more)
  shown-more plans ask Planned after behind more (p, planned, (tree, proves, stands)) = (p, planned, (tree, proves, more-behind tree behind more stands))
  shown-more plans ask Never after behind more (tree, proves, (rest, is)) = (tree, proves, (rest ++ more, ap (λ l. l ++ more) is))
  shown-more plans ask (Spent bound) after behind more shown = tt

  -- ---- the tree of an answer

  pub no-plan : (ask : Ask) (after : List Plan) (p : Plan) (r : Record) → is_plan r ≡ false → plan_of ask.sheet after ≡ Some p → told_of_planned machine (kept_of ask) (plan_of ask.sheet after) ≡ r ∷ [] → ⊥
  no-plan ask after p r other planned tells =
      let told : told_of_planned machine (kept_of ask) (plan_of ask.sheet after) ≡ told_of_plan machine (kept_of ask) p ∷ [] = ap (told_of_planned machine (kept_of ask)) planned in
      let same : told_of_plan machine (kept_of ask) p ≡ r = cc in
      let yes : true ≡ false = ap is_plan same ∙ other in
      cc

  -- of an answer that takes its tree one record is reported
  one-told : (plans : List Plan) (ask : Ask) (reply : Reply) (after : List Plan) (trees later : List BoundTree) → TakesTree tree_claims machine plans ask reply after trees later
      → (r : Record) × (told_of_given machine ask reply after ≡ r ∷ [])
  one-told plans ask Planned after trees later (tree, (p, planned, claim, is)) = (told_of_plan machine (kept_of ask) p, ap (told_of_planned machine (kept_of ask)) planned)
  one-told plans ask Never after trees later takes = (TellsNever (label_of_asked ask) (goal_name machine ask.goal), refl)
  one-told plans ask (Spent bound) after trees later takes = (Budget (label_of_asked ask) (goal_name machine ask.goal) bound, refl)

  -- a plan that is reported took a tree, which proves it behind its moves
  pub record TakesPlanTree (plans : List Plan) (ask : Ask) (reply : Reply) (after : List Plan) (trees later : List BoundTree) : Type 0 where
    pub tree : BoundTree
    pub is : trees ≡ tree ∷ later
    pub shown : (behind : List Item) → IsBehind tree behind → ShownBy plans ask reply after behind

  pub plan-tree : (plans : List Plan) (ask : Ask) (reply : Reply) (after : List Plan) (trees later : List BoundTree) (copy : SheetName) (place points : List ℕ) (acts : List (List ℕ))
      → told_of_given machine ask reply after ≡ TellsPlan copy place points acts ∷ [] → TakesTree tree_claims machine plans ask reply after trees later → TakesPlanTree plans ask reply after trees later
  plan-tree plans ask Planned after trees later copy place points acts tells (tree, (p, planned, claim, is)) = record { tree = tree; is = is; shown = λ behind b. (p, planned, (tree, claim, b)) }
  plan-tree plans ask Never after trees later copy place points acts tells takes = absurd cc
  plan-tree plans ask (Spent bound) after trees later copy place points acts tells takes = absurd cc

  -- a none that is reported took a tree, which proves it right behind it
  pub record TakesNoneTree (plans : List Plan) (ask : Ask) (reply : Reply) (after : List Plan) (trees later : List BoundTree) : Type 0 where
    pub tree : BoundTree
    pub is : trees ≡ tree ∷ later
    pub shown : (rest : List Item) → ShownBy plans ask reply after (item.Tree tree ∷ rest)

  pub none-tree : (plans : List Plan) (ask : Ask) (reply : Reply) (after : List Plan) (trees later : List BoundTree) (copy : SheetName) (goal : Option (List ℕ))
      → told_of_given machine ask reply after ≡ TellsNever copy goal ∷ [] → TakesTree tree_claims machine plans ask reply after trees later → TakesNoneTree plans ask reply after trees later
  none-tree plans ask Planned after trees later copy goal tells (tree, (p, planned, claim, is)) = absurd (no-plan ask after p (TellsNever copy goal) refl planned tells)
  none-tree plans ask Never after trees later copy goal tells (tree, claim, is) = record { tree = tree; is = is; shown = λ rest. (tree, claim, (rest, refl)) }
  none-tree plans ask (Spent bound) after trees later copy goal tells takes = absurd cc

  -- a budget that is reported took none
  pub budget-tree : (plans : List Plan) (ask : Ask) (reply : Reply) (after : List Plan) (trees later : List BoundTree) (copy : SheetName) (goal : Option (List ℕ)) (bound : ℕ)
      → told_of_given machine ask reply after ≡ Budget copy goal bound ∷ [] → TakesTree tree_claims machine plans ask reply after trees later → later ≡ trees
  budget-tree plans ask Planned after trees later copy goal bound tells (tree, (p, planned, claim, is)) = absurd (no-plan ask after p (Budget copy goal bound) refl planned tells)
  budget-tree plans ask Never after trees later copy goal bound tells takes = absurd cc
  budget-tree plans ask (Spent b) after trees later copy goal bound tells takes = takes

  -- the first of the answers tells the first record that tells of answers
  pub record Next (given : List Given) (r : Record) (told : List Record) (trees : List BoundTree) : Type 0 where
    pub g : Given
    pub more : List Given
    pub is : given ≡ g ∷ more
    pub tells : told_by machine g ≡ r ∷ []
    pub others : told ≡ flat_map (told_by machine) more
    pub later : List BoundTree
    pub takes : TakesTree tree_claims machine g.plans g.ask g.reply g.after trees later
    pub on : Takes later more []

  pub next : (given : List Given) (r : Record) (told : List Record) (trees : List BoundTree) → r ∷ told ≡ flat_map (told_by machine) given → Takes trees given [] → Next given r told trees
  next [] r told trees e takes = absurd (no-record e) where
    no-record : r ∷ told ≡ [] → ⊥
    no-record h = cc
  next (g ∷ more) r told trees e (later, (right, takes), on) =
      let (x, one) = one-told g.plans g.ask g.reply g.after trees later takes in
      let all : r ∷ told ≡ x ∷ flat_map (told_by machine) more = e ∙ flat_map-cons (told_by machine) g more ∙ ap (λ l. l ++ flat_map (told_by machine) more) one in
      let same : x ≡ r = cc in
      let rest : told ≡ flat_map (told_by machine) more = cc in
      record { g = g; more = more; is = refl; tells = one ∙ ap (λ y. y ∷ []) same; others = rest; later = later; takes = takes; on = on }
