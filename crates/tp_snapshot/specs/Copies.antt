-- Copies and what is wanted of their sheets, as texts of a snapshot.
use Rattle.std.specs.Prelude.{ℕ, ◌&&◌, List, Option, Some, None, position, if◌then◌else◌}
use Rattle.std.specs.Str.{bytes_eq}
use Rattle.serde_json.specs.Data.{Data}
use Rattle.serde_json.specs.Find.{as_str}
use Rattle.tp_base.specs.NameText.{is_between}
use Rattle.tp_machine.specs.declared.parts.Sheet.{Sheet}
use Rattle.tp_schedule.specs.declared.parts.SheetId.{SheetId}
use Rattle.tp_schedule.specs.declared.records.SheetName.{SheetName}
use Rattle.tp_script.specs.Form.{GroupForm}
use Rattle.tp_script.specs.EventReaders.{group_with}
use Rattle.tp_words.specs.Fields.{◌>>=◌, name_of, pair_of}
use Rattle.tp_session_standing.specs.Sound.{last_number, last_sheet}
use Rattle.tp_bounds.specs.Sheets.{sheet_of}

-- the copy of a job among these names, its sheet from 1 to 4,096, and its number from 1 to 4,000,000,000
abbrev pub copy_by : SheetName → ℕ → Option SheetId
copy_by sheet job =
    if is_between 1 last_sheet sheet.number && is_between 1 last_number sheet.copy then Some (record { job = job; number = sheet.number; copy = sheet.copy }) else None

unfoldable pub copy_of : List (List ℕ) → List ℕ → Option SheetId
copy_of names text = do
  sheet ← sheet_of text
  job ← position (bytes_eq sheet.job) names
  copy_by sheet job

abbrev pub copy_in : List (List ℕ) → Data → Option SheetId
copy_in names d = do
  text ← as_str d
  copy_of names text

-- what is wanted of the sides of one sheet, as a script has it
abbrev pub sides_of : List ℕ → Option GroupForm
sides_of text = group_with 1 text

abbrev pub sheet_with : List ℕ → GroupForm → Sheet
sheet_with media sides = record { media = media; front = sides.front; back = sides.back; face = sides.face }

-- a media, a space, and what is wanted of the sides
unfoldable pub want_of : List ℕ → Option Sheet
want_of text = pair_of 32 name_of sides_of sheet_with text

abbrev pub want_in : Data → Option Sheet
want_in d = do
  text ← as_str d
  want_of text
