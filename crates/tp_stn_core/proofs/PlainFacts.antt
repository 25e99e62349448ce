-- A network of nothing.
use Rattle.std.proofs.Common.{◌≡◌, ℕ, [], length, slice_index, Some, ap, arith}
use Rattle.std.proofs.lemmas.Option.{slice_get_within}
use Rattle.std.proofs.lemmas.List.{length-map}
use Rattle.std.specs.List.{slice_get}
use Rattle.tp_base.specs.Net.{IsLeast}
use Rattle.tp_stn_core.specs.declared.marks.PlainMark.{PlainMark}
use Rattle.tp_stn_core.specs.declared.saved_low.SavedLow.{SavedLow}
use Rattle.tp_stn_core.specs.declared.plain_net.PlainNet.TheInside.{Inside}
use Rattle.tp_stn_core.specs.Marks.{net_at}
use Rattle.tp_stn_core.specs.Plain.{net_in, HasCapacity, IsPlain}

pub plain_empty : (a : Inside) → a.lows.items ≡ [] → a.caps.items ≡ [] → a.edges.items ≡ [] → a.times.items ≡ [] → a.saved.items ≡ [] → a.newest.items ≡ [] → a.marks.items ≡ [] → HasCapacity a → IsPlain a
plain_empty a l c e t s n m capacity =
    let ll = ap length l in
    let lc = ap length c in
    let le = ap length e in
    let lt = ap length t in
    let ls = ap length s in
    let ln = ap length n in
    let lm = ap length m in
    let lp = length-map a.marks.items (net_at a.saved.items a.lows.items a.caps.items a.edges.items) in
    let no : (k : ℕ) (x : PlainMark) → slice_get a.marks.items k ≡ Some x → ⊥ = λ k x h. (let w = slice_get_within a.marks.items k x h in omega arith) in
    let none : (k : ℕ) (x : SavedLow) → slice_get a.saved.items k ≡ Some x → ⊥ = λ k x h. (let w = slice_get_within a.saved.items k x h in omega arith) in
    let least : IsLeast (net_in a) (slice_index a.times.items) = record {
      solution = record { above_low = λ i h. absurd (omega arith); below_cap = λ i h. absurd (omega arith); keeps = λ k d h. absurd (omega arith) };
      least = λ y sol i h. absurd (omega arith);
    } in
    record {
      points = omega arith;
      edges = omega arith;
      marks = omega arith;
      saved = omega arith;
      capacity = capacity;
      stacked = record {
        points_below = λ k x h. absurd (no k x h);
        edges_below = λ k x h. absurd (no k x h);
        saved_below = λ k x h. absurd (no k x h);
        in_capacity = λ k x h. absurd (no k x h);
        points_rise = λ j k x y h g f. absurd (no j x g);
        edges_rise = λ j k x y h g f. absurd (no j x g);
        saved_rise = λ j k x y h g f. absurd (no j x g);
      };
      links = record {
        len = omega arith;
        newest_is = λ v h. absurd (omega arith);
        linked = λ j x h. absurd (none j x h);
        parted = λ j x h. absurd (none j x h);
        known = λ j x h. absurd (none j x h);
        known_then = λ k x j y h g f. absurd (no k x h);
      };
      sound = record { caps = omega arith; within = λ i h. absurd (omega arith); known = λ k d h. absurd (omega arith); solved = (slice_index a.times.items, least) };
      times = omega arith;
      least = least;
      past = λ k d h. absurd (omega arith);
    }
