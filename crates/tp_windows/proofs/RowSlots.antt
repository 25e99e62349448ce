-- Rows of kept holds that are read slot by slot.
use Rattle.std.proofs.Common.{◌≡◌, ℕ, ◌+◌, inl, inr, List, [], ◌∷◌, ◌++◌, length, take, refl, ap, sym, ◌∙◌, subst, arith, Some}
use Rattle.std.specs.Prelude.{slice_get}
use Rattle.std.proofs.lemmas.Option.{slice_get_within}
use Rattle.std.proofs.lemmas.List.{append-nil, append_assoc, length_push}
use Rattle.tp_base.proofs.SliceFacts.{slice_get_end}
use Rattle.tp_machine.specs.declared.machine.Machine.{Machine}
use Rattle.tp_schedule.specs.Spots.{Slot, Spot, slot_order}
use Rattle.tp_schedule.specs.declared.parts.Plan.{Plan}
use Rattle.tp_constraints.specs.Numbers.{table_of}
use Rattle.tp_windows.specs.KeptRows.{AddsRow, AreSlotHolds, HaveOrders, IsSlotHold}
use Rattle.tp_windows.specs.RowLists.{rows_from}
use Rattle.tp_windows.specs.declared.gaps.KeptHold.{KeptHold}
use Rattle.tp_windows.proofs.ListSteps.{take_next}
use Rattle.tp_windows.proofs.RowCuts.{IsCutTo, rows_push}

slots-push : (table : List Spot) (ks : List KeptHold) (slots : List Slot) (k : KeptHold) (s : Slot) → AreSlotHolds table ks slots → IsSlotHold table k s → AreSlotHolds table (ks ++ k ∷ []) (slots ++ s ∷ [])
slots-push table [] [] k s are is = (is, tt)
slots-push table [] (x ∷ slots) k s are is = absurd are
slots-push table (x ∷ ks) [] k s are is = absurd are
slots-push table (x ∷ ks) (y ∷ slots) k s are is = (are.0, slots-push table ks slots k s are.1 is)

pub no_slots : (table : List Spot) (holds : List KeptHold) → AddsRow table holds holds []
no_slots table holds = record { row = []; is = sym (append-nil holds); of = tt }

pub add_slot : (table : List Spot) (old holds holds' : List KeptHold) (slots : List Slot) (n : ℕ) (k : KeptHold) (s : Slot) → AddsRow table old holds (take n slots) → slice_get slots n ≡ Some s → IsSlotHold table k s → holds' ≡ holds ++ k ∷ []
    → AddsRow table old holds' (take (n + 1) slots)
add_slot table old holds holds' slots n k s adds at is pushed = record {
  row = adds.row ++ k ∷ [];
  is = pushed ∙ ap (λ hs. hs ++ k ∷ []) adds.is ∙ append_assoc old adds.row (k ∷ []);
  of = subst (AreSlotHolds table (adds.row ++ k ∷ [])) (sym (take_next slots n s at)) (slots-push table adds.row (take n slots) k s adds.of is);
}

-- the orders of so many resources were read
pub record HaveFirstOrders (machine : Machine) (plans : List Plan) (number : ℕ) (rows : List (List KeptHold)) : Type 0 where
  pub len : length rows ≡ number
  pub each : (r : ℕ) (row : List KeptHold) → slice_get rows r ≡ Some row → AreSlotHolds (table_of plans) row (slot_order machine plans r)

pub no_orders : (machine : Machine) (plans : List Plan) (holds : List KeptHold) (ends : List ℕ) → ends ≡ [] → HaveFirstOrders machine plans 0 (rows_from holds 0 ends)
no_orders machine plans holds ends none = subst (λ es. HaveFirstOrders machine plans 0 (rows_from holds 0 es)) (sym none) (record { len = refl; each = λ r row at. absurd (let less = slice_get_within (rows_from holds 0 []) r row at in omega (arith, less)) })

pub orders_push : (machine : Machine) (plans : List Plan) (number : ℕ) (holds holds' : List KeptHold) (ends ends' : List ℕ) → HaveFirstOrders machine plans number (rows_from holds 0 ends) → IsCutTo 0 ends (length holds)
    → AddsRow (table_of plans) holds holds' (slot_order machine plans number) → ends' ≡ ends ++ length holds' ∷ [] → HaveFirstOrders machine plans (number + 1) (rows_from holds' 0 ends')
orders_push machine plans number holds holds' ends ends' first cut adds pushed =
    let rows = rows_from holds 0 ends in
    let is : rows_from holds' 0 ends' ≡ rows ++ adds.row ∷ [] =
    ap (rows_from holds' 0) pushed ∙ ap (λ hs. rows_from hs 0 (ends ++ length hs ∷ [])) adds.is ∙ rows_push holds adds.row 0 ends cut
    in
    subst (HaveFirstOrders machine plans (number + 1)) (sym is) (record {
      len = let long = length_push rows adds.row in let len = first.len in omega (arith, long, len);
      each = λ r row at. elim (slice_get_end rows adds.row r row at) [
        | inl before ↦ first.each r row before
        | inr (last, same) ↦ subst (λ q. AreSlotHolds (table_of plans) row (slot_order machine plans q)) (sym (last ∙ first.len)) (subst (λ x. AreSlotHolds (table_of plans) x (slot_order machine plans number)) same adds.of)
      ];
    })

pub orders_of : (machine : Machine) (plans : List Plan) (rows : List (List KeptHold)) → HaveFirstOrders machine plans (length machine.resources) rows → HaveOrders machine plans rows
orders_of machine plans rows first = record { len = first.len; each = first.each }
