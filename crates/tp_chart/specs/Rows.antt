-- The rows of a picture by resources: the modules in the machine's order, the resources of each in its order, then the trays.
use Rattle.std.specs.Prelude.{ℕ, zero, suc, ◌+◌, Bool, true, false, ◌&&◌, ◌==◌, nat_lt, List, [], ◌∷◌, ◌++◌, length, map, position, Option, Some, None, if◌then◌else◌}
use Rattle.std.specs.List.{list_any}
use Rattle.tp_machine.specs.declared.machine.Machine.{Machine}
use Rattle.tp_machine.specs.declared.parts.Resource.{Resource as Held}
use Rattle.tp_chart.specs.declared.out_span.OutSpan.{OutSpan}
use Rattle.tp_chart.specs.declared.row.Row.{Row}
use Rattle.tp_chart.specs.declared.row.Row.TheVariants.{Resource, Module, Tray, Purge}

-- ---- modules that were out

abbrev pub ends_behind : ℕ → Option ℕ → Bool
ends_behind first None = true
ends_behind first (Some end) = nat_lt first end

-- the outage lasts behind the first tick
abbrev pub is_seen : Option ℕ → OutSpan → Bool
is_seen None o = true
is_seen (Some first) o = ends_behind first o.end

abbrev pub was_out : Option ℕ → List OutSpan → ℕ → Bool
was_out first outages m = list_any (λ o. (o.number == m) && is_seen first o) outages

-- ---- the rows of modules

abbrev pub has_resource : List Held → ℕ → Bool
has_resource resources m = list_any (λ r. r.module.0 == m) resources

-- the rows of the module's resources, the first of which has this place
abbrev pub resources_from : ℕ → ℕ → List Held → List Row
resources_from at m [] = []
resources_from at m (r ∷ rest) = if r.module.0 == m then Resource at ∷ resources_from (at + 1) m rest else resources_from (at + 1) m rest

-- a module without resources has a row if it was out
abbrev pub own_row : Bool → ℕ → List Row
own_row out m = if out then Module m ∷ [] else []

abbrev pub module_rows : Option ℕ → Machine → List OutSpan → ℕ → List Row
module_rows first machine outages m =
    if has_resource machine.resources m then resources_from 0 m machine.resources else own_row (was_out first outages m) m

-- the rows of so many modules, in their order
abbrev pub module_rows_below : Option ℕ → Machine → List OutSpan → ℕ → List Row
module_rows_below first machine outages zero = []
module_rows_below first machine outages (suc m) = module_rows_below first machine outages m ++ module_rows first machine outages m

-- ---- all rows

abbrev pub tray_rows : Machine → List Row
tray_rows machine = map (λ t. Tray t) machine.trays ++ map (λ t. Purge t) machine.purges

abbrev pub rows_of : Option ℕ → Machine → List OutSpan → List Row
rows_of first machine outages = module_rows_below first machine outages (length machine.modules) ++ tray_rows machine

-- ---- the row of a resource

abbrev pub is_of_resource : ℕ → Row → Bool
is_of_resource resource (Resource at) = at == resource
is_of_resource resource _ = false

abbrev pub place_or_first : Option ℕ → ℕ
place_or_first None = 0
place_or_first (Some at) = at

abbrev pub row_of : List Row → ℕ → ℕ
row_of rows resource = place_or_first (position (is_of_resource resource) rows)
