-- A network of nothing.
use Rattle.std.proofs.Common.{◌≡◌, ℕ, [], length, slice_index, get_or, replicate, Some, ap, arith, inl, inr}
use Rattle.std.proofs.lemmas.Option.{slice_get_within}
use Rattle.std.proofs.lemmas.List.{length-map, length-replicate, get_or-replicate, get_or_past}
use Rattle.std.proofs.lemmas.Bool.{cases_lt}
use Rattle.std.specs.List.{slice_get}
use Rattle.tp_base.specs.Net.{IsLeast}
use Rattle.tp_stn_undo.specs.declared.point_state.PointState.{PointState}
use Rattle.tp_stn_undo.specs.declared.link.Link.{Link}
use Rattle.tp_stn_undo.specs.declared.marks.LiveMark.{LiveMark}
use Rattle.tp_stn_undo.specs.declared.point_state.SavedState.{SavedState}
use Rattle.tp_stn_undo.specs.declared.live_net.LiveNet.TheInside.{Inside}
use Rattle.tp_stn_undo.specs.Marks.{core_at}
use Rattle.tp_stn_undo.specs.States.{times_of, net_of_core}
use Rattle.tp_stn_undo.specs.Live.{core_in, HasCapacity, IsLive}
use Rattle.tp_stn_undo.specs.WorkingRoom.{AtRest}

pub live_empty : (a : Inside) → a.states.items ≡ [] → a.caps.items ≡ [] → a.links.items ≡ [] → a.heads.items ≡ [] → a.working.changes.older ≡ [] → a.marks.items ≡ [] → HasCapacity a → AtRest a.working → IsLive a
live_empty a l c e h s m capacity rest =
    let ll = ap length l in
    let lc = ap length c in
    let le = ap length e in
    let lh = ap length h in
    let ls = ap length s in
    let lm = ap length m in
    let lp = length-map a.marks.items (core_at a.working.changes.older a.states.items a.caps.items a.links.items) in
    let lo = length-map a.states.items (λ (s : PointState). s.low) in
    let lt = length-map a.states.items (λ (s : PointState). s.time) in
    let ld = length-map a.links.items (λ (l : Link). l.edge) in
    let no : (k : ℕ) (x : LiveMark) → slice_get a.marks.items k ≡ Some x → ⊥ = λ k x h. (let w = slice_get_within a.marks.items k x h in omega arith) in
    let none : (k : ℕ) (x : SavedState) → slice_get a.working.changes.older k ≡ Some x → ⊥ = λ k x h. (let w = slice_get_within a.working.changes.older k x h in omega arith) in
    let least : IsLeast (net_of_core (core_in a)) (slice_index (times_of a.states.items)) = record {
      solution = record { above_low = λ i h. absurd (omega arith); below_cap = λ i h. absurd (omega arith); keeps = λ k d h. absurd (omega arith) };
      least = λ y sol i h. absurd (omega arith);
    } in
    record {
      points = omega arith;
      edges = omega arith;
      marks = omega arith;
      saved = omega arith;
      capacity = capacity;
      rest = rest;
      stacked = record {
        points_below = λ k x h. absurd (no k x h);
        edges_below = λ k x h. absurd (no k x h);
        saved_below = λ k x h. absurd (no k x h);
        in_capacity = λ k x h. absurd (no k x h);
        points_rise = λ j k x y h g f. absurd (no j x g);
        edges_rise = λ j k x y h g f. absurd (no j x g);
        saved_rise = λ j k x y h g f. absurd (no j x g);
      };
      kept = record {
        known = λ j x h. absurd (none j x h);
        known_then = λ k x j y h g f. absurd (no k x h);
      };
      linked = record { len = omega arith; head_is = λ v h. absurd (omega arith); linked = λ j x h. absurd (let w = slice_get_within a.links.items j x h in omega arith) };
      sound = record {
        caps = omega arith;
        known = λ k d h. absurd (omega arith);
        numbered = λ k d h. absurd (omega arith);
        supported = record { stamp = λ _. 0; next = 1; early = λ v h. omega arith; root = λ v h _. absurd (omega arith); caused = λ v e h _. absurd (omega arith) };
        least = least;
      };
      past = λ k d h. absurd (omega arith);
    }

-- a list of one value
pub all_same : {X : Type 0} (n v : ℕ) (x : X) → get_or (replicate n x) v x ≡ x
all_same n v x = elim (cases_lt v n) [
  | inl h ↦ get_or-replicate n v x x h
  | inr h ↦ (let l = length-replicate n x in get_or_past (replicate n x) v x (omega arith))
]
