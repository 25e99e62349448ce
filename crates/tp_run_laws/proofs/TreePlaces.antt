-- The trees of a log stand in their places: directly behind a none, or behind a plan and its moves.
use Rattle.std.proofs.Common.{◌≡◌, ◌⊎◌, inl, inr, ℕ, Bool, true, false, not, List, [], ◌∷◌, ◌++◌, map, take, drop, refl, sym, ap, ap₂, subst, ◌∙◌, append_assoc}
use Rattle.std.proofs.Math.Seq.{drop-nil, take-nil}
use Rattle.std.specs.Prelude.{IsTrue, if◌then◌else◌}
use Rattle.tp_bounds.specs.declared.tree.BoundTree.{BoundTree}
use Rattle.tp_schedule.specs.declared.records.Record.{Record}
use Rattle.tp_schedule.specs.declared.records.Record.TheVariants.{Plan as TellsPlan, Move, Never as TellsNever}
use Rattle.tp_log.specs.LogLines.{takes_tree}
use Rattle.tp_log.specs.Logs.{AreInPlace, StandEach, is_open}
use Rattle.tp_log.specs.declared.item.Item.{Item}
use Rattle.tp_log.specs.declared.item.Item.TheVariants as item
use Rattle.tp_event_rules.specs.Logs.{Entry}
use Rattle.tp_run_laws.specs.Runs.{begin_with_move, is_of_plan, items_in, items_with, trees_behind}

-- a record with a tree behind it may have one
abbrev Takes : Record → ℕ → Type 0
Takes r n = (n ≡ 0) ⊎ ((n ≡ 1) × IsTrue (takes_tree r))

either : (r : Record) → IsTrue (takes_tree r) → (b : Bool) → Takes r (if b then 1 else 0)
either r takes true = inr (refl, takes)
either r takes false = inl refl

takes : (before : Bool) (r : Record) (records : List Record) → Takes r (trees_behind before r records)
takes before (TellsNever sheet goal) records = inr (refl, refl)
takes before (TellsPlan sheet place points acts) records = either (TellsPlan sheet place points acts) refl (not (begin_with_move records))
takes true (Move sheet points) records = either (Move sheet points) refl (not (begin_with_move records))
takes false (Move sheet points) records = inl refl
takes before _ records = inl refl

-- so the items stand in their order
first-tree : (before : Item) (trees : List BoundTree) (items : List Item) → IsTrue (is_open before) → ((x : Item) → StandEach x items) → StandEach before (map (λ t. item.Tree t) (take 1 trees) ++ items)
first-tree before [] items may each = each before
first-tree before (t ∷ trees) items may each = (may, each (item.Tree t))

behind-record : (r : Record) (n : ℕ) (trees : List BoundTree) (items : List Item) → Takes r n → ((x : Item) → StandEach x items) → StandEach (item.Note r) (map (λ t. item.Tree t) (take n trees) ++ items)
behind-record r n trees items (inl none) each = subst (λ k. StandEach (item.Note r) (map (λ t. item.Tree t) (take k trees) ++ items)) (sym none) (each (item.Note r))
behind-record r n trees items (inr (one, may)) each = subst (λ k. StandEach (item.Note r) (map (λ t. item.Tree t) (take k trees) ++ items)) (sym one) (first-tree (item.Note r) trees items may each)

behind : (before : Item) (of_plan : Bool) (records : List Record) (trees : List BoundTree) (log : List (Entry BoundTree)) → StandEach before (items_with of_plan records trees ++ items_in log)
behind before of_plan [] trees [] = tt
behind before of_plan [] trees (e ∷ log) = (tt, behind (item.Event e.event) false e.records e.trees log)
behind before of_plan (r ∷ records) trees log =
    let n = trees_behind of_plan r records in
    let later = items_with (is_of_plan of_plan r) records (drop n trees) in (
      tt,
      subst (StandEach (item.Note r)) (sym (append_assoc (map (λ t. item.Tree t) (take n trees)) later (items_in log)))
          (behind-record r n trees (later ++ items_in log) (takes of_plan r records) (λ x. behind x (is_of_plan of_plan r) records (drop n trees) log)),
    )

-- each entry begins with its event
pub in_place : (log : List (Entry BoundTree)) → AreInPlace (items_in log)
in_place [] = tt
in_place (e ∷ log) = (refl, behind (item.Event e.event) false e.records e.trees log)

-- without trees the items are the records alone
pub without-trees : (of_plan : Bool) (records : List Record) → items_with of_plan records [] ≡ map (λ r. item.Note r) records
without-trees of_plan [] = refl
without-trees of_plan (r ∷ records) =
    ap (λ items. item.Note r ∷ items)
    (ap₂ (λ ts left. map (λ t. item.Tree t) ts ++ items_with (is_of_plan of_plan r) records left) (take-nil (trees_behind of_plan r records)) (drop-nil (trees_behind of_plan r records))
    ∙ without-trees (is_of_plan of_plan r) records)
