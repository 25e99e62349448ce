-- A board stands once it is taken back to a mark, whatever was required of its network since.
use Rattle.std.proofs.Common.{◌≡◌, List, length, refl, sym, ap, ◌∙◌, None}
use Rattle.std.specs.Prelude.{slice_get, take}
use Rattle.tp_base.specs.Readings.{Reading}
use Rattle.tp_machine.specs.declared.machine.Machine.{Machine}
use Rattle.tp_schedule.specs.declared.parts.Ask.{Ask}
use Rattle.tp_placing.specs.declared.causes.EdgeCause.{EdgeCause}
use Rattle.tp_placing.specs.Boards.{BoardUntouched, BoardValue, past_of, side_by_side}
use Rattle.tp_placing.specs.LoadedBoard.{StandsOn}
use Rattle.tp_placing.specs.RefusedPlace.{StandsBack}
use Rattle.tp_placing.proofs.CauseFacts.{Keeps}
use Rattle.tp_placing.proofs.MarkFacts.{undo_keeps}
use Rattle.tp_placing.proofs.StandFacts.{stands-still}

module _ {N A : Type 0} (reading : Reading N) (untouched : N → A) where
  -- a network of which marks leave nothing alone
  abbrev bare : N → Unit {0}
  bare n = tt

  abbrev without : BoardUntouched A → BoardUntouched (Unit {0})
  without x = record {
    net = tt;
    sizes = x.sizes;
    plans = x.plans;
    firsts = x.firsts;
    last = x.last;
    floor = x.floor;
    horizon = x.horizon;
    ask = x.ask;
    made_for = x.made_for;
    causes = x.causes;
    limit = x.limit;
    settled = x.settled;
  }

  pub stands-back : (b : BoardValue N) (n : N) (causes : List EdgeCause) (m : Machine) (ask : Ask) → StandsOn reading b m ask → reading.past n ≡ reading.past b.net → Keeps (length b.steps) b.causes causes
      → StandsBack reading untouched (record b { net = n; causes = causes; limit = None }) m
  stands-back b n causes m ask s same keeps back k there e fewer =
      let still = stands-still reading b b.net causes None m ask s refl refl keeps in
      let pasts : past_of reading (record b { net = n; causes = causes; limit = None }) ≡ past_of reading (record b { causes = causes; limit = None }) = ap (λ cs. side_by_side b.held b.steps cs b.orders.past b.marks) same in
      undo_keeps reading bare (record b { causes = causes; limit = None }) back m k (ap (λ xs. slice_get xs k) (sym pasts) ∙ there) (ap without e) (fewer ∙ ap (take k) pasts) (ask, still)
