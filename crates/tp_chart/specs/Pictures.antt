-- The text of a picture: its title, its bars and its marks, with something between them.
use Rattle.std.specs.Prelude.{◌≡◌, ℕ, Bool, true, not, ◌&&◌, ◌==◌, nat_le, nat_lt, ◌%◌, List, [], ◌∷◌, ◌++◌, flat_map, map, position, slice_get, codes, decimal, Option, Some, None, is_some, IsTrue, if◌then◌else◌}
use Rattle.std.specs.List.{list_all}
use Rattle.std.specs.Fmt.{signed_decimal}
use Rattle.std.specs.Str.{bytes_eq}
use Rattle.tp_bounds.specs.Sheets.{sheet_text}
use Rattle.tp_machine.specs.declared.machine.Machine.{Machine}
use Rattle.tp_machine.specs.declared.parts.Resource.{Resource}
use Rattle.tp_chart.specs.Bars.{bars_seen, has_row}
use Rattle.tp_chart.specs.Courses.{Way}
use Rattle.tp_chart.specs.Scenes.{Sight}
use Rattle.tp_chart.specs.Titles.{is_purge, title_text}
use Rattle.tp_chart.specs.declared.bars.Bar.{Bar}
use Rattle.tp_chart.specs.declared.deliveries.Mark.{Mark}
use Rattle.tp_chart.specs.declared.view.Scope.{Scope}

-- jobs have colours in their order, and the ninth has that of the first
abbrev pub colour_at : Option ℕ → ℕ
colour_at None = 0
colour_at (Some at) = at % 8

abbrev pub colour_of : List (List ℕ) → List ℕ → ℕ
colour_of jobs job = colour_at (position (bytes_eq job) jobs)

-- the class of a bar's colour: filled where its action is released, hatched where it is planned
abbrev pub kind_of : Bar → List ℕ
kind_of b = if b.released then codes "j" else codes "p"

-- the shape of a bar, in ticks and rows
unfoldable pub shape_text : Bar → List ℕ
shape_text b =
    (codes "M" ++ signed_decimal b.begin) ++ (codes " " ++ decimal b.row) ++ (codes ".15H" ++ signed_decimal b.end)
    ++ (codes "V" ++ decimal b.row) ++ (codes ".85H" ++ signed_decimal b.begin) ++ codes "z"

-- the shape of the stripe in the foot of a bar
unfoldable pub foot_text : Bar → List ℕ
foot_text b =
    (codes "M" ++ signed_decimal b.begin) ++ (codes " " ++ decimal b.row) ++ (codes ".7H" ++ signed_decimal b.end)
    ++ (codes "V" ++ decimal b.row) ++ (codes ".85H" ++ signed_decimal b.begin) ++ codes "z"

-- the shape in its colour, and the beginning of its title
unfoldable pub start_text : ℕ → Bar → List ℕ
start_text colour b = codes "<path class=\"" ++ kind_of b ++ decimal colour ++ codes "\" d=\"" ++ shape_text b ++ codes "\"><title>"

-- the copy and the action
unfoldable pub names_text : Bar → List ℕ
names_text b = sheet_text b.sheet ++ 32 ∷ b.act

unfoldable pub end_text : List ℕ
end_text = codes "</title></path>\n"

abbrev pub name_text : Option Resource → List ℕ
name_text None = []
name_text (Some r) = codes " holds" ++ 32 ∷ r.name

-- the resource of a hold
unfoldable pub held_text : Machine → Option ℕ → List ℕ
held_text machine None = []
held_text machine (Some at) = name_text (slice_get machine.resources at)

unfoldable pub ticks_text : Bar → List ℕ
ticks_text b = (codes " " ++ signed_decimal b.begin) ++ (codes " to " ++ signed_decimal b.end)

-- the ticks of the action of a hold
unfoldable pub action_text : Bar → List ℕ
action_text b = if is_some b.resource then ((codes ", action " ++ decimal b.start) ++ (codes " to " ++ decimal b.stop)) else []

-- the stripe in the foot of a hold that has a mode above 0
unfoldable pub stripe_text : Bar → List ℕ
stripe_text b = if nat_lt 0 b.mode then (codes "<path class=\"mode\" d=\"" ++ foot_text b ++ codes "\"/>\n") else []

-- the cross over a bar of a lost copy
unfoldable pub cross_text : Bar → List ℕ
cross_text b = if b.is_lost then (codes "<path class=\"cross\" d=\"" ++ shape_text b ++ codes "\"/>\n") else []

-- a bar
unfoldable pub bar_text : Machine → (List ℕ → ℕ) → Bar → List ℕ
bar_text machine colour b =
    start_text (colour b.sheet.job) b ++ names_text b ++ held_text machine b.resource ++ ticks_text b ++ action_text b ++ end_text
    ++ stripe_text b ++ cross_text b

-- ---- deliveries

-- from the first tick on
abbrev pub is_from : Option ℕ → ℕ → Bool
is_from None at = true
is_from (Some first) at = nat_le first at

-- the mark of a delivery, at no place yet; that of a purge tray is hollow
abbrev pub mark_of : Machine → Way → ℕ → Mark
mark_of machine w at = record { x = 0; y = 0; sheet = w.sheet; location = w.location; at = at; is_purge = is_purge machine w.location }

abbrev pub mark_at : Option ℕ → Machine → Way → Option ℕ → List Mark
mark_at first machine w None = []
mark_at first machine w (Some at) = if is_from first at then mark_of machine w at ∷ [] else []

-- the mark of a way that has a row, if its copy was delivered from the first tick on
abbrev pub marks_in : Option ℕ → Machine → Way → List Mark
marks_in first machine w = if has_row first w then mark_at first machine w w.done else []

-- the mark without its place
abbrev pub placeless : Mark → Mark
placeless m = record m { x = 0; y = 0 }

abbrev pub fill_of : Mark → List ℕ
fill_of m = if m.is_purge then codes "d" else codes "j"

-- a diamond at its place
unfoldable pub diamond_text : Mark → List ℕ
diamond_text m = (codes " edge\" d=\"M" ++ decimal m.x) ++ (codes " " ++ decimal m.y) ++ codes "l6 6-6 6-6-6z\"><title>"

unfoldable pub mark_start : ℕ → Mark → List ℕ
mark_start colour m = codes "<path class=\"" ++ (fill_of m ++ decimal colour) ++ diamond_text m

unfoldable pub mark_text : (List ℕ → ℕ) → Mark → List ℕ
mark_text colour m =
    mark_start (colour m.sheet.job) m ++ sheet_text m.sheet ++ codes " in" ++ 32 ∷ m.location ++ (codes " at " ++ decimal m.at) ++ end_text

-- ---- the whole

unfoldable pub titled_text : Option ℕ → Machine → Sight → List ℕ
titled_text first machine s = codes "<title>" ++ title_text first machine s ++ codes "</title>\n"

-- the text has this title; these bars, in turn and no others between them; and a mark for each delivery
pub record Draws (scope : Scope) (machine : Machine) (s : Sight) (text : List ℕ) : Type 0 where
  pub head : List ℕ
  pub top : List ℕ
  pub jobs : List (List ℕ)
  pub between : List ℕ
  pub marks : List Mark
  pub marked : map placeless marks ≡ flat_map (marks_in scope.first machine) s.courses
  pub ending : List ℕ
  pub drawn : text
      ≡ head ++ titled_text scope.first machine s ++ top ++ flat_map (bar_text machine (colour_of jobs)) (bars_seen scope machine s)
      ++ between ++ flat_map (mark_text (colour_of jobs)) marks ++ ending

-- the new text is the old one with something behind it
pub record GoesOn (old new : List ℕ) : Type 0 where
  pub more : List ℕ
  pub added : new ≡ old ++ more

-- no byte of a name has a meaning in SVG: `<`, `>`, `&`, and both quotes
abbrev pub is_plain : ℕ → Bool
is_plain byte = not (byte == 60) && not (byte == 62) && not (byte == 38) && not (byte == 34) && not (byte == 39)

abbrev pub NeedsNoEscape : List ℕ → Type 0
NeedsNoEscape text = IsTrue (list_all is_plain text)
