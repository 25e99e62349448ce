-- The title of a picture: the moment, the modules that are out, and what became of the sheets.
use Rattle.std.specs.Prelude.{ℕ, Bool, false, not, ◌&&◌, ◌==◌, List, [], ◌∷◌, ◌++◌, count_by, flat_map, position, slice_get, codes, decimal, Option, Some, None, is_none, is_some, if◌then◌else◌}
use Rattle.std.specs.List.{list_any}
use Rattle.std.specs.Str.{bytes_eq}
use Rattle.tp_machine.specs.declared.machine.Machine.{Machine}
use Rattle.tp_machine.specs.declared.parts.LocId.{LocId}
use Rattle.tp_chart.specs.Courses.{Way}
use Rattle.tp_chart.specs.Scenes.{Sight}
use Rattle.tp_chart.specs.declared.out_span.OutKind.{OutKind}
use Rattle.tp_chart.specs.declared.out_span.OutKind.TheVariants.{Jam, Off, Stuck, Saved}
use Rattle.tp_chart.specs.declared.out_span.OutSpan.{OutSpan}

-- ---- what became of a sheet

abbrev pub is_among : Option ℕ → List LocId → Bool
is_among None trays = false
is_among (Some at) trays = list_any (λ t. t.0 == at) trays

-- the location of this name is a purge tray
abbrev pub is_purge : Machine → List ℕ → Bool
is_purge machine name = is_among (position (bytes_eq name) machine.locations) machine.purges

abbrev pub is_delivered : Machine → Way → Bool
is_delivered machine w = is_some w.done && not (is_purge machine w.location)

abbrev pub is_purged : Machine → Way → Bool
is_purged machine w = is_some w.done && is_purge machine w.location

-- ---- its parts

-- the first tick of a picture that does not show all
unfoldable pub from_text : Option ℕ → List ℕ
from_text None = []
from_text (Some first) = (codes ", from " ++ decimal first) ++ codes " on"

unfoldable pub moment_text : Option ℕ → ℕ → List ℕ
moment_text first moment = (codes "The schedule at " ++ decimal moment) ++ from_text first

abbrev pub kind_text : OutKind → List ℕ
kind_text Jam = codes " jam"
kind_text Off = codes " off"
kind_text Stuck = codes " stuck"
kind_text Saved = codes " out"

abbrev pub word_of : Option (List ℕ) → List ℕ
word_of None = []
word_of (Some name) = 32 ∷ name

unfoldable pub module_text : Machine → ℕ → List ℕ
module_text machine number = word_of (slice_get machine.modules number)

-- a module that is out, and why
unfoldable pub out_text : Machine → OutSpan → List ℕ
out_text machine o = if is_none o.end then (44 ∷ module_text machine o.number ++ kind_text o.kind) else []

unfoldable pub fates_text : ℕ → ℕ → ℕ → List ℕ
fates_text delivered purged lost =
    (codes " waiting, " ++ decimal delivered) ++ (codes " delivered, " ++ decimal purged) ++ (codes " purged, " ++ decimal lost) ++ codes " lost"

unfoldable pub counts_text : Machine → Sight → List ℕ
counts_text machine s =
    (codes ": " ++ decimal s.waiting)
    ++ fates_text (count_by (is_delivered machine) s.courses) (count_by (is_purged machine) s.courses) (count_by (λ w. w.is_lost) s.courses)

-- the modules that are out, and what became of the sheets
unfoldable pub state_text : Machine → Sight → List ℕ
state_text machine s = flat_map (out_text machine) s.outages ++ counts_text machine s

unfoldable pub title_text : Option ℕ → Machine → Sight → List ℕ
title_text first machine s = moment_text first s.moment ++ state_text machine s
