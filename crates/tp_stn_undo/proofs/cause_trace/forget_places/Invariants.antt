use Rattle.std.proofs.Common.{ℕ, ◌≡◌, ◌<◌, ◌≤◌, length, slice_index, slice_index_or}
use Rattle.tp_base.specs.declared.edges.Edge.{Edge}
use Rattle.tp_stn_undo.proofs.cause_trace.forget_places.Given as goal

abbrev pub invariant-each : goal.invariant-each
invariant-each l = record {
  held : (v : ℕ) → 0 < slice_index l.places v → (k : ℕ) × (l.edge-index ≤ k) × (k < length l.path) × ((d : Edge) → (slice_index_or l.path k d).to.0 ≡ v);
}
