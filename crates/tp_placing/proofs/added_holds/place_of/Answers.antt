use Rattle.std.proofs.Common.{◌-◌, ◌<◌, get_or, length, subst, sym}
use Rattle.std.specs.Prelude.{pos}
use Rattle.std.proofs.lemmas.Option.{slice_get-get_or}
use Rattle.tp_base.proofs.SliceFacts.{All-at}
use Rattle.tp_machine.specs.declared.parts.Anchor.TheVariants.{Start}
use Rattle.tp_timelines.specs.Orders.{order_on}
use Rattle.tp_constraints.specs.Numbers.{table_of}
use Rattle.tp_placing.specs.LoadedHolds.{IsHeldWithin}
use Rattle.tp_placing.specs.declared.parts.Held.{Held}
use Rattle.tp_placing.proofs.GrowFacts.{slot-within}
use Rattle.tp_placing.proofs.added_holds.place_of.Goals as goal

-- what stands where there is no hold
abbrev none : Held
none = record { rule = record { resource = record { 0 = 0 }; begin = Start; begin_off = pos 0; end = Start; end_off = pos 0; mode = 0 }; start = record { 0 = 0 }; end = record { 0 = 0 } }

pub begin_at-requires-clause-within : goal.begin_at-requires-clause-within
begin_at-requires-clause-within c =
    let order = order_on c.args.timelines.now.orders c.args.hold.now.rule.resource.0 in
    let known = All-at (λ id. id < length c.args.look.held.now) order (c.back.place - 1) c.at.result c.requires.ids c.at.ensures in
    let there = slice_get-get_or c.args.look.held.now c.at.result none known in
    subst (λ n. IsHeldWithin n (get_or c.args.look.held.now c.at.result none)) (sym c.requires.ticks)
    (slot-within (table_of c.args.look.plans.now) c.args.look.held.now order c.requires.slots.0 c.requires.slots.1 (c.back.place - 1) c.at.result (get_or c.args.look.held.now c.at.result none) c.at.ensures there)
