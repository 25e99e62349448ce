-- The laws of orders and holders, from what the files on slots say of any list of them.
use Rattle.std.proofs.Common.{◌≡◌, ℕ, filter, length, sym, arith, AllPairs, subst}
use Rattle.tp_machine.specs.Modes.{gap_at}
use Rattle.tp_schedule.specs.Spots.{IsApart, slots, ticks_of}
use Rattle.tp_schedule.specs.Holders.{held}
use Rattle.tp_schedule.specs.Laws.{OrderIsOnly, OneHolderIsApart, RowIsApart}
use Rattle.tp_machine.proofs.MachineFacts.{is_machine}
use Rattle.tp_schedule.proofs.CoveredTicks.{covered, AllPairs-from_covered, covered-from_AllPairs, spread_from_AllPairs}
use Rattle.tp_schedule.proofs.HeldCount.{length-held}
use Rattle.tp_schedule.proofs.HeldModes.{slots_spread, modes_spread}
use Rattle.tp_schedule.proofs.LegalOrders.{IsTimedBy-plans, LastsBy-plans, sound_plans, apart_order, legal_apart}
use Rattle.tp_schedule.proofs.SlotOrder.{AllPairs-from_row, IsRow-from_AllPairs}

pub order_is_only : OrderIsOnly
order_is_only machine plans resource xs legal same = (
  λ apart. sym (apart_order machine plans (is_machine machine) legal.in_order legal.timed resource xs same apart).0,
  λ is. subst (AllPairs (IsApart (gap_at machine resource) (ticks_of plans))) (sym is) (legal_apart machine plans (is_machine machine) legal resource),
)

pub row_is_apart : RowIsApart
row_is_apart gap t xs sound = (λ row. AllPairs-from_row gap t xs sound row, λ apart. IsRow-from_AllPairs gap t xs apart)

pub one_holder_is_apart : OneHolderIsApart
one_holder_is_apart machine plans resource in_order timed =
    let sound = sound_plans machine (is_machine machine) (ticks_of plans) resource plans (LastsBy-plans machine plans in_order timed) in
    let by = IsTimedBy-plans machine plans in_order timed in
    let counted : (tick : ℕ) → length (held machine plans resource tick) ≡ length (filter (covered (ticks_of plans) tick) (slots machine resource plans)) = λ tick. length-held machine (is_machine machine) (ticks_of plans) resource tick plans by in (
      λ both. AllPairs-from_covered (gap_at machine resource) (ticks_of plans) (slots machine resource plans) sound (λ tick. omega (arith, both.0 tick, counted tick)) (slots_spread machine (ticks_of plans) resource plans by both.1),
      λ apart. (
        λ tick. omega (arith, covered-from_AllPairs (gap_at machine resource) (ticks_of plans) (slots machine resource plans) apart tick, counted tick),
        modes_spread machine (ticks_of plans) resource plans by (spread_from_AllPairs (gap_at machine resource) (ticks_of plans) (slots machine resource plans) apart),
      ),
    )
