-- What was saved since the newest mark is written anew.
use Rattle.std.proofs.Common.{◌≡◌, ℕ, ◌+◌, ◌*◌, ◌≤◌, List, length, take, length-take, length-take-le, Some, sym, ap, arith}
use Rattle.std.specs.List.{slice_get}
use Rattle.tp_stn_undo.specs.declared.marks.LiveMark.{LiveMark}
use Rattle.tp_stn_undo.specs.declared.point_state.SavedState.{SavedState}
use Rattle.tp_stn_undo.specs.Flags.{AreKnown}
use Rattle.tp_stn_undo.specs.Stacks.{IsStack}
use Rattle.tp_stn_undo.proofs.LinkFacts.{below_last}
use Rattle.tp_stn_undo.proofs.KeepFacts.{saved_kept}
use Rattle.tp_stn_undo.proofs.NoteFacts.{known_each}

module _ (marks : List LiveMark) (saved : List SavedState) (points edges capacity k : ℕ) (m : LiveMark) (last : k + 1 ≡ length marks) (at : slice_get marks k ≡ Some m) (s : IsStack marks saved points edges capacity) where
  pub marks_below : (j : ℕ) (n : LiveMark) → slice_get marks j ≡ Some n → n.saved ≤ m.saved
  marks_below j n g = below_last marks points edges (length saved) capacity s.stacked k j m n last at g

  pub mark_within : m.saved ≤ length saved
  mark_within = s.stacked.saved_below k m at

  -- there is room for the points once more, and for a change
  pub capacity_left : m.saved + 2 * capacity ≤ (length marks + 1) * capacity
  capacity_left =
      let r = s.stacked.in_capacity k m at in
      let all : (length marks + 1) * capacity ≡ (k + 2) * capacity = ap (λ i. i * capacity) (omega (arith, last)) in
      omega arith

  pub stack_kept : (saved' : List SavedState) → take m.saved saved' ≡ take m.saved saved → length saved' ≤ m.saved + capacity → AreKnown points saved' → IsStack marks saved' points edges capacity
  stack_kept saved' same few known =
      let w = mark_within in
      let l = length-take-le m.saved saved w in
      let e = ap length same in
      let t = s.stacked in
      let in_capacity = t.in_capacity k m at in
      let all : length marks * capacity ≡ (k + 1) * capacity = ap (λ i. i * capacity) (sym last) in
      let long : m.saved ≤ length saved' = omega (arith, length-take m.saved saved') in
      record {
        stacked = record {
          points_below = t.points_below;
          edges_below = t.edges_below;
          saved_below = λ j n g. (let b = marks_below j n g in omega arith);
          in_capacity = t.in_capacity;
          points_rise = t.points_rise;
          edges_rise = t.edges_rise;
          saved_rise = t.saved_rise;
        };
        kept = saved_kept marks saved saved' points m.saved marks_below same (known_each saved' points known) s.kept;
        filled = omega arith;
      }
