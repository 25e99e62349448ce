-- The rows with the times of points are those of the windows.
use Rattle.std.proofs.Common.{◌≡◌, ℕ, zero, suc, List, [], ◌∷◌, map, refl, sym, ◌∙◌, subst, Some, AllPairs}
use Rattle.std.proofs.lemmas.List.{length-map}
use Rattle.std.proofs.lemmas.Option.{same_Some}
use Rattle.std.specs.Prelude.{◌≢◌, ◌≤ℤ◌, slice_get, slice_index}
use Rattle.std.specs.Int.Signed.{≤ℤ_refl}
use Rattle.tp_machine.specs.ModuleUse.{begin_of, end_of}
use Rattle.tp_machine.specs.declared.machine.Machine.{Machine}
use Rattle.tp_schedule.specs.Spots.{Slot, Spot, begin_at, end_at, slot_order}
use Rattle.tp_schedule.specs.declared.parts.Plan.{Plan}
use Rattle.tp_constraints.proofs.PointNumbers.{number-at}
use Rattle.tp_constraints.specs.Numbers.{number, table_of}
use Rattle.tp_windows.specs.Arrays.{windows_by}
use Rattle.tp_windows.specs.KeptRows.{AreRowsOf, AreSlotHolds, HaveOrders, IsSlotHold}
use Rattle.tp_windows.specs.RowLaws.{AreKeptOf, IsKeptOf}
use Rattle.tp_windows.specs.RowLists.{timed}
use Rattle.tp_windows.specs.declared.gaps.KeptHold.{KeptHold}

-- each row of a list of rows that is mapped is one of the list, mapped
mapped-row : (f : KeptHold → KeptHold) (rows : List (List KeptHold)) (r : ℕ) (row : List KeptHold) → slice_get (map (map f) rows) r ≡ Some row → (old : List KeptHold) × (slice_get rows r ≡ Some old) × (map f old ≡ row)
mapped-row f [] r row at = absurd cc
mapped-row f (x ∷ rows) zero row at = (x, refl, same_Some (map f x) row at)
mapped-row f (x ∷ rows) (suc r) row at = mapped-row f rows r row at

module _ (lows highs : List ℕ) where
  slots-timed : (table : List Spot) (ks : List KeptHold) (slots : List Slot) → AreSlotHolds table ks slots → AreSlotHolds table (map (timed lows highs) ks) slots
  slots-timed table [] [] are = tt
  slots-timed table [] (s ∷ slots) are = absurd are
  slots-timed table (k ∷ ks) [] are = absurd are
  slots-timed table (k ∷ ks) (s ∷ slots) are = (record { rule = are.0.rule; from = are.0.from; to = are.0.to }, slots-timed table ks slots are.1)

  pub orders_timed : (machine : Machine) (plans : List Plan) (rows : List (List KeptHold)) → HaveOrders machine plans rows → HaveOrders machine plans (map (map (timed lows highs)) rows)
  orders_timed machine plans rows have = record {
    len = length-map rows (map (timed lows highs)) ∙ have.len;
    each = λ r row at.
        let old = mapped-row (timed lows highs) rows r row at in
        subst (λ ks. AreSlotHolds (table_of plans) ks (slot_order machine plans r)) old.2 (slots-timed (table_of plans) old.0 (slot_order machine plans r) (have.each r old.0 old.1));
  }

  module _ (table : List Spot) (differ : AllPairs (λ a b. a ≢ b) table) where
    hold-timed : (k : KeptHold) (s : Slot) → IsSlotHold table k s → IsKeptOf (windows_by table lows highs) (timed lows highs k) s
    hold-timed k s is =
        let from : k.from.0 ≡ number table s.from = sym (number-at table differ k.from.0 s.from is.from) in
        let to : k.to.0 ≡ number table s.to = sym (number-at table differ k.to.0 s.to is.to) in
        let w = windows_by table lows highs in
        let end : end_of k.rule (slice_index lows k.from.0) (slice_index lows k.to.0) ≡ end_at w.lo s = λ i. end_of (is.rule i) (slice_index lows (from i)) (slice_index lows (to i)) in
        let begin : begin_of k.rule (slice_index highs k.from.0) (slice_index highs k.to.0) ≡ begin_at w.hi s = λ i. begin_of (is.rule i) (slice_index highs (from i)) (slice_index highs (to i)) in
        record {
          rule = is.rule;
          end = subst (λ z. (timed lows highs k).end ≤ℤ z) end (≤ℤ_refl _);
          begin = subst (λ z. z ≤ℤ (timed lows highs k).begin) begin (≤ℤ_refl _);
        }

    kept-timed : (ks : List KeptHold) (slots : List Slot) → AreSlotHolds table ks slots → AreKeptOf (windows_by table lows highs) (map (timed lows highs) ks) slots
    kept-timed [] [] are = tt
    kept-timed [] (s ∷ slots) are = absurd are
    kept-timed (k ∷ ks) [] are = absurd are
    kept-timed (k ∷ ks) (s ∷ slots) are = (hold-timed k s are.0, kept-timed ks slots are.1)

  pub rows_timed : (machine : Machine) (plans : List Plan) (rows : List (List KeptHold)) → AllPairs (λ a b. a ≢ b) (table_of plans) → HaveOrders machine plans rows
      → AreRowsOf machine plans (windows_by (table_of plans) lows highs) (map (map (timed lows highs)) rows)
  rows_timed machine plans rows differ have = record {
    len = length-map rows (map (timed lows highs)) ∙ have.len;
    each = λ r row at.
        let old = mapped-row (timed lows highs) rows r row at in
        subst (λ ks. AreKeptOf (windows_by (table_of plans) lows highs) ks (slot_order machine plans r)) old.2 (kept-timed (table_of plans) differ old.0 (slot_order machine plans r) (have.each r old.0 old.1));
  }
