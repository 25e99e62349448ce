-- The text of a turn's records with its trees, piece by piece.
use Rattle.std.proofs.Common.{◌≡◌, ℕ, Bool, List, [], ◌∷◌, ◌++◌, map, take, drop, slice_get, Some, sym, ap, ap₂, subst, ◌∙◌, All, append_assoc}
use Rattle.std.specs.List.{flat_map}
use Rattle.std.proofs.lemmas.Grind.{flat_map-append}
use Rattle.std.proofs.lemmas.List.Concat.{flat_map-cons}
use Rattle.std.proofs.lemmas.List.Elements.{All-append, All-cons}
use Rattle.tp_bounds.specs.declared.tree.BoundTree.{BoundTree}
use Rattle.tp_log.specs.Grammar.{IsRecord}
use Rattle.tp_log.specs.Logs.{IsItem, item_text, log_text}
use Rattle.tp_log.specs.Records.{record_text}
use Rattle.tp_log.specs.declared.item.Item.{Item}
use Rattle.tp_log.specs.declared.item.Item.TheVariants as item
use Rattle.tp_schedule.specs.declared.records.Record.{Record}
use Rattle.tp_run_laws.specs.Runs.{is_of_plan, items_with, trees_behind}

-- the trees that stand directly behind a record
abbrev pub trees_next : Bool → Record → List Record → List BoundTree → List Item
trees_next before r records trees = map (λ t. item.Tree t) (take (trees_behind before r records) trees)

abbrev pub items_later : Bool → Record → List Record → List BoundTree → List Item
items_later before r records trees = items_with (is_of_plan before r) records (drop (trees_behind before r records) trees)

pub text-first : (before : Bool) (r : Record) (records : List Record) (trees : List BoundTree)
    → log_text (items_with before (r ∷ records) trees) ≡ (record_text r ++ flat_map item_text (trees_next before r records trees)) ++ log_text (items_later before r records trees)
text-first before r records trees =
    let next = trees_next before r records trees in
    let later = items_later before r records trees in
    flat_map-cons item_text (item.Note r) (next ++ later) ∙ ap (λ t. record_text r ++ t) (flat_map-append item_text next later)
    ∙ sym (append_assoc (record_text r) (flat_map item_text next) (log_text later))

pub items-first : (before : Bool) (r : Record) (records : List Record) (trees : List BoundTree) → IsRecord r → All IsItem (trees_next before r records trees)
    → All IsItem (items_later before r records trees) → All IsItem (items_with before (r ∷ records) trees)
items-first before r records trees line next later =
    All-cons IsItem (item.Note r) (trees_next before r records trees ++ items_later before r records trees) line
    (All-append IsItem (trees_next before r records trees) (items_later before r records trees) next later)

-- a list by its first part and those behind it
pub first-and-more : {X : Type 0} (xs : List X) (x : X) (more : List X) → slice_get xs 0 ≡ Some x → more ≡ drop 1 xs → xs ≡ x ∷ more
first-and-more [] x more first same = absurd cc
first-and-more (y ∷ xs) x more first same = let is : y ≡ x = cc in ap₂ (λ a as'. a ∷ as') is (sym same)

module _ (before before' : Bool) (r : Record) (rest records : List Record) (trees trees' : List BoundTree) (is : rest ≡ r ∷ records) (of_plan : before' ≡ is_of_plan before r)
    (left : trees' ≡ drop (trees_behind before r records) trees) where
  later-is : items_with before' records trees' ≡ items_later before r records trees
  later-is = ap₂ (λ b ts. items_with b records ts) of_plan left

  pub told-next : (text text' all : List ℕ) → text' ≡ text ++ (record_text r ++ flat_map item_text (trees_next before r records trees))
      → text ++ log_text (items_with before rest trees) ≡ all → text' ++ log_text (items_with before' records trees') ≡ all
  told-next text text' all added whole =
      ap₂ (λ t items. t ++ log_text items) added later-is
      ∙ append_assoc text (record_text r ++ flat_map item_text (trees_next before r records trees)) (log_text (items_later before r records trees))
      ∙ ap (λ t. text ++ t) (sym (text-first before r records trees)) ∙ ap (λ rs. text ++ log_text (items_with before rs trees)) (sym is) ∙ whole

  pub spelled-next : IsRecord r → All IsItem (trees_next before r records trees) → All IsItem (items_with before' records trees') → All IsItem (items_with before rest trees)
  spelled-next line next later =
      subst (λ rs. All IsItem (items_with before rs trees)) (sym is) (items-first before r records trees line next (subst (All IsItem) later-is later))
