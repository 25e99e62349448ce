-- A step that may run stands in the rows of its holds.
use Rattle.std.proofs.Common.{◌≡◌, ℕ, zero, suc, List, [], ◌∷◌, length, refl, sym, arith, subst, Some, None, Option, pos, ◌<◌}
use Rattle.std.specs.Prelude.{ℤ, slice_get, ◌+ℤ◌, ◌≤ℤ◌}
use Rattle.std.proofs.lemmas.Int.{ints}
use Rattle.tp_machine.specs.Modes.{gap_at, gap_between}
use Rattle.tp_machine.specs.ModuleUse.{begin_of, end_of}
use Rattle.tp_machine.specs.declared.machine.Machine.{Machine}
use Rattle.tp_machine.specs.declared.parts.HoldRule.{HoldRule}
use Rattle.tp_schedule.proofs.Membership.{All-from_contains}
use Rattle.tp_schedule.specs.Spots.{Slot, begin_at, end_at, slot_order}
use Rattle.std.proofs.lemmas.List.Elements.{All-contains, All-nil}
use Rattle.tp_windows.proofs.InGaps.{gap_law}
use Rattle.tp_machine.proofs.MachineFacts.{is_machine}
use Rattle.tp_machine.specs.ModuleUse.{action_at}
use Rattle.tp_machine.specs.declared.parts.Action.{Action}
use Rattle.tp_schedule.specs.Holders.{holds_of_act}
use Rattle.tp_windows.proofs.RowFacts.{there_in}
use Rattle.tp_windows.specs.Rows.{HaveRows, StandsInGap, StandsInRow, row_at}
use Rattle.tp_windows.specs.RowLaws.{AreKeptOf, IsKeptOf}
use Rattle.tp_windows.specs.StepLaws.{RowLaw}
use Rattle.tp_windows.specs.Spans.{StandsAt}
use Rattle.tp_windows.specs.Windows.{Windows}
use Rattle.tp_windows.specs.declared.gaps.KeptHold.{KeptHold}

same-length : (w : Windows) (ks : List KeptHold) (slots : List Slot) → AreKeptOf w ks slots → length ks ≡ length slots
same-length w [] [] are = refl
same-length w [] (s ∷ slots) are = absurd are
same-length w (k ∷ ks) [] are = absurd are
same-length w (k ∷ ks) (s ∷ slots) are = let e = same-length w ks slots are.1 in omega (arith, e)

slot-of : (w : Windows) (ks : List KeptHold) (slots : List Slot) → AreKeptOf w ks slots → (j : ℕ) (k : KeptHold) → slice_get ks j ≡ Some k → (s : Slot) × (slice_get slots j ≡ Some s) × IsKeptOf w k s
slot-of w [] slots are j k e = absurd cc
slot-of w (x ∷ ks) [] are j k e = absurd are
slot-of w (x ∷ ks) (s ∷ slots) are zero k e = let same : x ≡ k = cc in (s, refl, subst (λ y. IsKeptOf w y s) same are.0)
slot-of w (x ∷ ks) (s ∷ slots) are (suc j) k e = slot-of w ks slots are.1 j k e

le-end : (a b g c : ℤ) → a ≤ℤ b → (b +ℤ g) ≤ℤ c → (a +ℤ g) ≤ℤ c
le-end a b g c less apart = omega (arith, ints)

le-begin : (a b c : ℤ) → a ≤ℤ b → b ≤ℤ c → a ≤ℤ c
le-begin a b c less more = omega (arith, ints)

module _ (gap : ℕ) (w : Windows) (rule : HoldRule) (start end : ℕ) (kept : List KeptHold) (order : List Slot) (are : AreKeptOf w kept order) (g : ℕ) (stands : StandsAt gap w rule start end order g) where
  in-row : StandsInRow gap rule kept start end g
  in-row = record {
    within = let within = stands.within in let same = same-length w kept order are in omega (arith, within, same);
    behind = λ j k less e.
        let s = slot-of w kept order are j k e in
        le-end k.end (end_at w.lo s.0) (pos (gap_between gap k.rule rule)) (begin_of rule start end) s.2.end
        (subst (λ (r : HoldRule). (end_at w.lo s.0 +ℤ pos (gap_between gap r rule)) ≤ℤ begin_of rule start end) (sym s.2.rule) (stands.behind j s.0 less s.1));
    before = λ j k more e.
        let s = slot-of w kept order are j k e in
        le-begin (end_of rule start end +ℤ pos (gap_between gap rule k.rule)) (begin_at w.hi s.0) k.begin
        (subst (λ (r : HoldRule). (end_of rule start end +ℤ pos (gap_between gap rule r)) ≤ℤ begin_at w.hi s.0) (sym s.2.rule) (stands.before j s.0 more s.1)) s.2.begin;
  }

-- the resource of each hold of an action has a row
pub have-rows : (machine : Machine) (rows : List (List KeptHold)) (act : ℕ) → length rows ≡ length machine.resources → (a : Action) → action_at machine act ≡ Some a → HaveRows rows a.holds
have-rows machine rows act same a at =
    All-from_contains (λ rule. rule.resource.0 < length rows) a.holds (λ rule in'. let known = (is_machine machine).known act a at rule in' in omega (arith, known, same))

all-rows : (machine : Machine) (rows : List (List KeptHold)) (act : ℕ) → length rows ≡ length machine.resources → HaveRows rows (holds_of_act (action_at machine act))
all-rows machine rows act same = go (action_at machine act) refl
  where
    go : (o : Option Action) → action_at machine act ≡ o → HaveRows rows (holds_of_act o)
    go None at = All-nil (λ rule. rule.resource.0 < length rows)
    go (Some a) at = have-rows machine rows act same a at

pub row_law : RowLaw
row_law machine plans w rows act start end are may = All-from_contains (StandsInGap machine rows start end) (holds_of_act (action_at machine act.0)) (λ rule in'.
    let order : List Slot = slot_order machine plans rule.resource.0 in
    let less = All-contains (λ (r : HoldRule). r.resource.0 < length rows) (holds_of_act (action_at machine act.0)) rule (all-rows machine rows act.0 are.len) in' in
    let kept = are.each rule.resource.0 (row_at rows rule.resource.0) (there_in rows rule.resource.0 [] less) in
    let found = gap_law (gap_at machine rule.resource.0) w rule start end order (may.stands rule in') in
    (found.0, in-row (gap_at machine rule.resource.0) w rule start end (row_at rows rule.resource.0) order kept found.0 found.1))
