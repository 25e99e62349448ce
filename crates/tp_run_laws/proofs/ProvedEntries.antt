-- Behind each plan and each none among the items of an entry stands the tree of its answer.
use Rattle.std.proofs.Common.{◌≡◌, ℕ, Bool, true, false, cond, not, ◌&&◌, List, [], ◌∷◌, ◌++◌, map, take, drop, filter, flat_map, refl, sym, ap, subst, ◌∙◌, Option}
use Rattle.std.proofs.lemmas.List.Concat.{flat_map-cons}
use Rattle.tp_bounds.specs.declared.tree.BoundTree.{BoundTree}
use Rattle.tp_machine.specs.declared.machine.Machine.{Machine}
use Rattle.tp_schedule.specs.declared.records.Record.{Record}
use Rattle.tp_schedule.specs.declared.records.Record.TheVariants.{Plan as TellsPlan, Move, Never as TellsNever, Budget}
use Rattle.tp_schedule.specs.declared.records.SheetName.{SheetName}
use Rattle.tp_log.specs.declared.item.Item.{Item}
use Rattle.tp_log.specs.declared.item.Item.TheVariants as item
use Rattle.tp_headline.specs.Given.{Given, is_answer, told_by}
use Rattle.tp_run_laws.specs.Proved.{records_in}
use Rattle.tp_run_laws.specs.Runs.{begin_with_move, items_with}
use Rattle.tp_run_laws.proofs.ProvedAnswers.{IsBehind, Next, ShownBy, Takes, TakesNoneTree, TakesPlanTree, behind-plan, budget-tree, next, none-tree, placed, placed-is, plan-tree}

not-not : (b : Bool) → not (not b) ≡ b
not-not true = refl
not-not false = refl

-- a plan or a none
abbrev pub is_proved : Record → Bool
is_proved (TellsPlan sheet place points acts) = true
is_proved (TellsNever sheet goal) = true
is_proved _ = false

module _ (machine : Machine) (nodes : ℕ) where
  -- the answer that a record tells, behind those that are reported before it, with its tree
  pub record Found (given : List Given) (told : List Record) (r : Record) (behind : List Item) : Type 0 where
    pub first : List Given
    pub g : Given
    pub later : List Given
    pub is : given ≡ first ++ g ∷ later
    pub before : told ≡ flat_map (told_by machine) first
    pub tells : told_by machine g ≡ r ∷ []
    pub shown : ShownBy machine nodes g.plans g.ask g.reply g.after behind

  found-first : {trees : List BoundTree} (given : List Given) (r : Record) (told : List Record) (behind : List Item) (n : Next machine nodes given r told trees)
      → ShownBy machine nodes n.g.plans n.g.ask n.g.reply n.g.after behind → Found given [] r behind
  found-first given r told behind n shown = record { first = []; g = n.g; later = n.more; is = n.is; before = refl; tells = n.tells; shown = shown }

  found-later : {trees : List BoundTree} (given : List Given) (r z : Record) (told others : List Record) (behind : List Item) (n : Next machine nodes given r told trees)
      → Found n.more others z behind → Found given (r ∷ others) z behind
  found-later given r z told others behind n f = record {
    first = n.g ∷ f.first;
    g = f.g;
    later = f.later;
    is = n.is ∙ ap (λ l. n.g ∷ l) f.is;
    before = (λ i. sym n.tells i ++ f.before i) ∙ sym (flat_map-cons (told_by machine) n.g f.first);
    tells = f.tells;
    shown = f.shown;
  }

  -- the trees that are still to come: those of the answers, behind that of a plan whose moves go on
  abbrev AreDue : Bool → List BoundTree → List Given → Type 0
  AreDue false trees given = Takes machine nodes trees given []
  AreDue true trees given = (tree : BoundTree) × ((later : List BoundTree) × (trees ≡ tree ∷ later) × Takes machine nodes later given [])

  pub due-plain : (b : Bool) (trees : List BoundTree) (given : List Given) → Takes machine nodes trees given [] → AreDue (b && false) trees given
  due-plain true trees given takes = takes
  due-plain false trees given takes = takes

  module _ (z : Record) (proved : is_proved z ≡ true) (after : List Item) where
    -- the record stands among items
    abbrev FindsIn : List Item → List Given → Type 0
    FindsIn items given = (before : List Item) → items ≡ before ++ item.Note z ∷ after → Found given (filter is_answer (records_in before)) z after

    -- behind a tree
    behind-tree : (tree : BoundTree) (items : List Item) (given : List Given) → FindsIn items given → FindsIn (item.Tree tree ∷ items) given
    behind-tree tree items given on [] e = absurd cc
    behind-tree tree items given on (x ∷ before) e =
        let same : item.Tree tree ≡ x = cc in
        let rest : items ≡ before ++ item.Note z ∷ after = cc in
        subst (λ y. Found given (filter is_answer (records_in (y ∷ before))) z after) same (on before rest)

    -- behind a record that tells of no answer
    behind-quiet : (r : Record) (items : List Item) (given : List Given) → is_answer r ≡ false → is_proved r ≡ false → FindsIn items given → FindsIn (item.Note r ∷ items) given
    behind-quiet r items given quiet plain on [] e =
        let same : r ≡ z = cc in
        let no : true ≡ false = sym proved ∙ sym (ap is_proved same) ∙ plain in
        absurd cc
    behind-quiet r items given quiet plain on (x ∷ before) e =
        let same : item.Note r ≡ x = cc in
        let rest : items ≡ before ++ item.Note z ∷ after = cc in
        let told : filter is_answer (records_in before) ≡ filter is_answer (r ∷ records_in before) = ap (λ b. cond b (r ∷ filter is_answer (records_in before)) (filter is_answer (records_in before))) (sym quiet) in
        subst (λ y. Found given (filter is_answer (records_in (y ∷ before))) z after) same (subst (λ l. Found given l z after) told (on before rest))

    -- behind the items of a plan or its move
    behind-move : (last : Bool) (records : List Record) (tree : BoundTree) (trees : List BoundTree) (given : List Given) → Takes machine nodes trees given []
        → ((ts : List BoundTree) → AreDue (not last && true) ts given → FindsIn (items_with true records ts) given) → FindsIn (placed last records (tree ∷ trees)) given
    behind-move false records tree trees given takes on = on (tree ∷ trees) (tree, (trees, refl, takes))
    behind-move true records tree trees given takes on = behind-tree tree (items_with true records trees) given (on trees takes)

    -- at or behind a plan
    at-plan : (copy : SheetName) (place points : List ℕ) (acts : List (List ℕ)) (records : List Record) (trees : List BoundTree) (given : List Given)
        → (n : Next machine nodes given (TellsPlan copy place points acts) (filter is_answer records) trees) → ((ts : List BoundTree) → AreDue (begin_with_move records && true) ts n.more → FindsIn (items_with true records ts) n.more)
        → FindsIn (item.Note (TellsPlan copy place points acts) ∷ placed (not (begin_with_move records)) records trees) given
    at-plan copy place points acts records trees given n on before e =
        let t = plan-tree machine nodes n.g.plans n.g.ask n.g.reply n.g.after trees n.later copy place points acts n.tells n.takes in
        go t before (subst (λ ts. item.Note (TellsPlan copy place points acts) ∷ placed (not (begin_with_move records)) records ts ≡ before ++ item.Note z ∷ after) t.is e)
      where
        r : Record
        r = TellsPlan copy place points acts

        go : (t : TakesPlanTree machine nodes n.g.plans n.g.ask n.g.reply n.g.after trees n.later) (before : List Item) → item.Note r ∷ placed (not (begin_with_move records)) records (t.tree ∷ n.later) ≡ before ++ item.Note z ∷ after
            → Found given (filter is_answer (records_in before)) z after
        go t [] e =
            let same : r ≡ z = cc in
            let rest : placed (not (begin_with_move records)) records (t.tree ∷ n.later) ≡ after = cc in
            subst (λ y. Found given [] y after) same (found-first given r (filter is_answer records) after n (t.shown after (subst (IsBehind t.tree) rest (behind-plan records t.tree n.later))))
        go t (x ∷ before) e =
            let same : item.Note r ≡ x = cc in
            let rest : placed (not (begin_with_move records)) records (t.tree ∷ n.later) ≡ before ++ item.Note z ∷ after = cc in
            subst (λ y. Found given (filter is_answer (records_in (y ∷ before))) z after) same
            (found-later given r z (filter is_answer records) (filter is_answer (records_in before)) after n
            (behind-move (not (begin_with_move records)) records t.tree n.later n.more n.on (λ ts due. on ts (subst (λ b. AreDue (b && true) ts n.more) (not-not (begin_with_move records)) due)) before rest))

    -- at or behind a none
    at-none : (copy : SheetName) (goal : Option (List ℕ)) (records : List Record) (trees : List BoundTree) (given : List Given)
        → (n : Next machine nodes given (TellsNever copy goal) (filter is_answer records) trees) → FindsIn (items_with false records n.later) n.more
        → FindsIn (item.Note (TellsNever copy goal) ∷ (map (λ t. item.Tree t) (take 1 trees) ++ items_with false records (drop 1 trees))) given
    at-none copy goal records trees given n on before e =
        let t = none-tree machine nodes n.g.plans n.g.ask n.g.reply n.g.after trees n.later copy goal n.tells n.takes in
        go t before (subst (λ ts. item.Note (TellsNever copy goal) ∷ (map (λ t. item.Tree t) (take 1 ts) ++ items_with false records (drop 1 ts)) ≡ before ++ item.Note z ∷ after) t.is e)
      where
        r : Record
        r = TellsNever copy goal

        go : (t : TakesNoneTree machine nodes n.g.plans n.g.ask n.g.reply n.g.after trees n.later) (before : List Item) → item.Note r ∷ (item.Tree t.tree ∷ items_with false records n.later) ≡ before ++ item.Note z ∷ after
            → Found given (filter is_answer (records_in before)) z after
        go t [] e =
            let same : r ≡ z = cc in
            let rest : item.Tree t.tree ∷ items_with false records n.later ≡ after = cc in
            subst (λ y. Found given [] y after) same (subst (λ l. Found given [] r l) rest (found-first given r (filter is_answer records) (item.Tree t.tree ∷ items_with false records n.later) n (t.shown (items_with false records n.later))))
        go t (x ∷ before) e =
            let same : item.Note r ≡ x = cc in
            let rest : item.Tree t.tree ∷ items_with false records n.later ≡ before ++ item.Note z ∷ after = cc in
            subst (λ y. Found given (filter is_answer (records_in (y ∷ before))) z after) same
            (found-later given r z (filter is_answer records) (filter is_answer (records_in before)) after n (behind-tree t.tree (items_with false records n.later) n.more on before rest))

    -- behind a budget
    at-budget : (copy : SheetName) (goal : Option (List ℕ)) (bound : ℕ) (records : List Record) (trees : List BoundTree) (given : List Given)
        → (n : Next machine nodes given (Budget copy goal bound) (filter is_answer records) trees) → FindsIn (items_with false records n.later) n.more
        → FindsIn (item.Note (Budget copy goal bound) ∷ items_with false records trees) given
    at-budget copy goal bound records trees given n on [] e =
        let same : Budget copy goal bound ≡ z = cc in
        let no : true ≡ false = sym proved ∙ sym (ap is_proved same) in
        absurd cc
    at-budget copy goal bound records trees given n on (x ∷ before) e =
        let same : item.Note (Budget copy goal bound) ≡ x = cc in
        let rest : items_with false records trees ≡ before ++ item.Note z ∷ after = cc in
        let is : n.later ≡ trees = budget-tree machine nodes n.g.plans n.g.ask n.g.reply n.g.after trees n.later copy goal bound n.tells n.takes in
        subst (λ y. Found given (filter is_answer (records_in (y ∷ before))) z after) same
        (found-later given (Budget copy goal bound) z (filter is_answer records) (filter is_answer (records_in before)) after n (on before (ap (items_with false records) is ∙ rest)))

    -- a plan or none among the items of an entry
    pub found : (of_plan : Bool) (records : List Record) (trees : List BoundTree) (given : List Given) → AreDue (begin_with_move records && of_plan) trees given
        → filter is_answer records ≡ flat_map (told_by machine) given → FindsIn (items_with of_plan records trees) given
    found of_plan [] trees given due told before e = absurd (no-item before e) where
      no-item : (before : List Item) → [] ≡ before ++ item.Note z ∷ after → ⊥
      no-item [] e = cc
      no-item (x ∷ before) e = cc
    found of_plan (TellsPlan copy place points acts ∷ records) trees given due told before e =
        let n = next machine nodes given (TellsPlan copy place points acts) (filter is_answer records) trees told due in
        at-plan copy place points acts records trees given n (λ ts more. found true records ts n.more more n.others) before
        (ap (λ l. item.Note (TellsPlan copy place points acts) ∷ l) (sym (placed-is (not (begin_with_move records)) records trees)) ∙ e)
    found of_plan (TellsNever copy goal ∷ records) trees given due told before e =
        let n = next machine nodes given (TellsNever copy goal) (filter is_answer records) trees told due in
        at-none copy goal records trees given n (λ b f. found false records n.later n.more (due-plain (begin_with_move records) n.later n.more n.on) n.others b f) before e
    found of_plan (Budget copy goal bound ∷ records) trees given due told before e =
        let n = next machine nodes given (Budget copy goal bound) (filter is_answer records) trees told due in
        at-budget copy goal bound records trees given n (λ b f. found false records n.later n.more (due-plain (begin_with_move records) n.later n.more n.on) n.others b f) before e
    found true (Move copy points ∷ records) trees given (tree, (later, is, takes)) told before e =
        behind-quiet (Move copy points) (placed (not (begin_with_move records)) records trees) given refl refl
        (subst (λ ts. FindsIn (placed (not (begin_with_move records)) records ts) given) (sym is)
        (behind-move (not (begin_with_move records)) records tree later given takes (λ ts due. found true records ts given (subst (λ b. AreDue (b && true) ts given) (not-not (begin_with_move records)) due) told)))
        before (ap (λ l. item.Note (Move copy points) ∷ l) (sym (placed-is (not (begin_with_move records)) records trees)) ∙ e)
    found false (Move copy points ∷ records) trees given due told before e =
        behind-quiet (Move copy points) (items_with false records trees) given refl refl (found false records trees given (due-plain (begin_with_move records) trees given due) told) before e
    found of_plan (r ∷ records) trees given due told before e =
        behind-quiet r (items_with false records trees) given refl refl (found false records trees given (due-plain (begin_with_move records) trees given due) told) before e
