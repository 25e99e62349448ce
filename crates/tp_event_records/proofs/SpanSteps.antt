-- A list of ticks that grows at its end keeps its spans, and has one more of them.
use Rattle.std.proofs.Common.{◌≡◌, ℕ, ◌+◌, ◌-◌, List, [], ◌∷◌, ◌++◌, drop, length, map, take, All, arith, ap, ◌∙◌}
use Rattle.std.proofs.Math.Seq.{drop-append_seam, take-length}
use Rattle.std.proofs.lemmas.List.{drop-append-le, length-append, length-drop, map-append, take-append-le}
use Rattle.std.proofs.lemmas.List.Elements.{All-append, All-cons, All-nil}
use Rattle.tp_base.proofs.SliceFacts.{All-at, map_same}
use Rattle.tp_event_records.specs.Spans.{IsWithin, ticks_at}
use Rattle.tp_event_records.specs.declared.times.PlanSpan.{PlanSpan}

stays-at : (ticks more : List ℕ) (s : PlanSpan) → IsWithin ticks s → ticks_at (ticks ++ more) s ≡ ticks_at ticks s
stays-at ticks more s within =
    ap (take (s.till - s.from)) (drop-append-le s.from ticks more (omega (arith, within.0, within.1)))
    ∙ take-append-le (s.till - s.from) (drop s.from ticks) more (omega (arith, within.1, length-drop s.from ticks))

last-at : (ticks more : List ℕ) (s : PlanSpan) → s.from ≡ length ticks → s.till ≡ length (ticks ++ more) → ticks_at (ticks ++ more) s ≡ more
last-at ticks more s from till =
    let count : s.till - s.from ≡ length more = omega (arith, from, till, length-append ticks more) in
    ap (λ n. take n (drop s.from (ticks ++ more))) count ∙ ap (λ n. take (length more) (drop n (ticks ++ more))) from
    ∙ ap (take (length more)) (drop-append_seam ticks more) ∙ take-length more

-- the points that are seen, with one plan's more
pub notes-one : (ticks more : List ℕ) (spans : List PlanSpan) (s : PlanSpan) → s.from ≡ length ticks → s.till ≡ length (ticks ++ more) → All (IsWithin ticks) spans
    → map (ticks_at (ticks ++ more)) (spans ++ s ∷ []) ≡ map (ticks_at ticks) spans ++ more ∷ []
notes-one ticks more spans s from till within =
    map-append (ticks_at (ticks ++ more)) spans (s ∷ [])
    ∙ ap (λ parts. parts ++ ticks_at (ticks ++ more) s ∷ []) (map_same (ticks_at (ticks ++ more)) (ticks_at ticks) spans (λ k r at. stays-at ticks more r (All-at (IsWithin ticks) spans k r within at)))
    ∙ ap (λ part. map (ticks_at ticks) spans ++ part ∷ []) (last-at ticks more s from till)

pub within-one : (ticks more : List ℕ) (spans : List PlanSpan) (s : PlanSpan) → s.from ≡ length ticks → s.till ≡ length (ticks ++ more) → All (IsWithin ticks) spans
    → All (IsWithin (ticks ++ more)) (spans ++ s ∷ [])
within-one ticks more spans s from till within =
    let longer : length (ticks ++ more) ≡ length ticks + length more = length-append ticks more in
    All-append (IsWithin (ticks ++ more)) spans (s ∷ []) (λ k d below. ((within k d below).0, omega (arith, longer, (within k d below).1)))
    (All-cons (IsWithin (ticks ++ more)) s [] (omega (arith, longer, from, till), omega (arith, till)) (All-nil (IsWithin (ticks ++ more))))
