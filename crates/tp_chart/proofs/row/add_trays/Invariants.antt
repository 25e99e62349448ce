use Rattle.std.proofs.Common.{◌≡◌, ◌++◌, map, take}
use Rattle.tp_chart.specs.declared.row.Row.TheVariants.{Tray, Purge}
use Rattle.tp_chart.proofs.row.add_trays.Given as goal

abbrev pub invariant-trays : goal.invariant-trays
invariant-trays l = l.rows.items ≡ l.fn.rows.items ++ map (λ t. Tray t) (take l.tray-index l.machine.trays)

abbrev pub invariant-purges : goal.invariant-purges
invariant-purges l = l.rows.items ≡ l.fn.rows.items ++ map (λ t. Tray t) l.machine.trays ++ map (λ t. Purge t) (take l.tray-index l.machine.purges)
