-- What a run read and what it wrote, and when each status comes.
use Rattle.std.specs.Prelude.{◌≡◌, ℕ, ◌<◌, ◌≤◌, Bool, ◌||◌, List, ◌++◌, length, Option, Some, IfSome, IsFalse, IsTrue, true, false, if◌then◌else◌}
use Rattle.std.specs.Option.{IsSomeAnd}
use Rattle.tp_outside.specs.Outside.{Files, file_at}
use Rattle.tp_machine.specs.declared.machine.Machine.{Machine}
use Rattle.tp_machine_text.specs.Texts.{IsBrokenAt, IsNotToml}
use Rattle.tp_machine_text.specs.declared.machine_reader.MachineFault.TheVariants as fault
use Rattle.tp_log.specs.declared.item.Item.{Item}
use Rattle.tp_log.specs.Logs.{IsLog, log_text}
use Rattle.tp_snapshot.specs.Rules.{IsBrokenAt as BreaksSnapshot}
use Rattle.tp_snapshot.specs.Texts.{IsNotJson}
use Rattle.tp_snapshot.specs.declared.fault.SnapFault.TheVariants as snap
use Rattle.tp_chart.specs.Bars.{scope_of}
use Rattle.tp_chart.specs.Lines.{log_in}
use Rattle.tp_chart.specs.Pages.{page_of}
use Rattle.tp_chart.specs.Pictures.{Draws}
use Rattle.tp_chart.specs.Scenes.{Sight, sight_from}
use Rattle.tp_chart.specs.Starts.{IsStart, is_braced}
use Rattle.tp_chart.specs.Words.{Asked, chart_asked}
use Rattle.tp_chart.specs.declared.chart_status.LongText.TheVariants as size
use Rattle.tp_chart.specs.declared.view.View.{View}
use Rattle.tp_chart.specs.declared.chart_status.ChartStatus.{ChartStatus}
use Rattle.tp_chart.specs.declared.chart_status.ChartStatus.TheVariants as status

-- the most bytes of a machine text, or of a snapshot
abbrev pub most_text : List ℕ → ℕ
most_text text = if is_braced text then 134217728 else 1048576

abbrev pub most_log : ℕ
most_log = 1073741824

-- a text that is not too long, of which P holds; it is the one of this name, where the shelf tells it
pub record IsShelved (known : Option Files) (name : List ℕ) (P : List ℕ → Type 0) : Type 0 where
  pub text : List ℕ
  pub is_known : IfSome known (λ files. file_at files name ≡ Some text)
  pub fits : length text ≤ most_text text
  pub has : P text

-- the text of this name has more bytes
abbrev pub IsLongText : Option Files → List ℕ → Type 0
IsLongText known name = IfSome known (λ files. IsSomeAnd (file_at files name) (λ text. most_text text < length text))

-- the picture of a schedule that is viewed so
abbrev pub DrawsView : View → Machine → Sight → List ℕ → Type 0
DrawsView view machine s text = Draws (scope_of view s.courses) machine s text

-- why the text is neither a machine's nor a snapshot. It is read as a snapshot where it begins with a brace
abbrev pub IsRefused : ChartStatus → List ℕ → Type 0
IsRefused status.Memory text = Unit {0}
IsRefused (status.Machine fault.NotToml) text = IsFalse (is_braced text) × IsNotToml text
IsRefused (status.Machine (fault.Rule n)) text = IsFalse (is_braced text) × IsBrokenAt n text
IsRefused (status.Snapshot snap.NotJson) text = IsTrue (is_braced text) × IsNotJson text
IsRefused (status.Snapshot (snap.Rule n)) text = IsTrue (is_braced text) × BreaksSnapshot n text
IsRefused _ text = ⊥

-- the text is a picture, alone or in a page: that of the schedule, begun so, that the log tells at the moment
pub record IsDrawn (head foot : List ℕ) (machine : Machine) (start : Sight) (asked : Asked) (items : List Item) (text : List ℕ) : Type 0 where
  pub picture : List ℕ
  pub draws : DrawsView asked.view machine (sight_from machine asked.view.until start items) picture
  pub page : text ≡ page_of head foot asked.is_page picture

-- the source gave a log, and the sink took its picture
pub record Shows (head foot : List ℕ) (machine : Machine) (start : Sight) (asked : Asked) (left taken taken' : Option (List ℕ)) : Type 0 where
  pub items : List Item
  pub is_log : IsLog items
  pub read : IfSome left (λ bytes. log_in asked.number bytes ≡ log_text items)
  pub text : List ℕ
  pub draws : IsDrawn head foot machine start asked items text
  pub written : IfSome taken (λ before. taken' ≡ Some (before ++ text))

-- P holds of the log that the words ask for, in what the source has
abbrev pub OfLog : List (List ℕ) → Option (List ℕ) → (List ℕ → Type 0) → Type 0
OfLog words left P = IsSomeAnd (chart_asked words) (λ asked. IfSome left (λ bytes. P (log_in asked.number bytes)))

module _ (words : List (List ℕ)) (known : Option Files) where
  -- the words name a text of which P holds
  pub record NamesText (P : List ℕ → Type 0) : Type 0 where
    pub asked : Asked
    pub named : chart_asked words ≡ Some asked
    pub text : IsShelved known asked.machine P

  abbrev pub NamesLongText : Type 0
  NamesLongText = IsSomeAnd (chart_asked words) (λ asked. IsLongText known asked.machine)

  -- the words name the text of a machine or a snapshot, and the picture that they ask for was written
  pub record IsCharted (head foot : List ℕ) (left taken taken' : Option (List ℕ)) : Type 0 where
    pub asked : Asked
    pub named : chart_asked words ≡ Some asked
    pub machine : Machine
    pub start : Sight
    pub text : IsShelved known asked.machine (λ text. IsStart text machine start)
    pub shows : Shows head foot machine start asked left taken taken'

-- the text of a machine or a snapshot is refused
abbrev pub is_refusal : ChartStatus → Bool
is_refusal (status.Machine f) = true
is_refusal (status.Snapshot f) = true
is_refusal _ = false

abbrev pub is_of_text : ChartStatus → Bool
is_of_text status.Memory = true
is_of_text s = is_refusal s

-- it can't be read, or is too long
abbrev pub is_of_shelf : ChartStatus → Bool
is_of_shelf status.Memory = true
is_of_shelf status.Shelf = true
is_of_shelf (status.TooLong size.MachineText) = true
is_of_shelf _ = false

-- something may have been written
abbrev pub may_have_written : ChartStatus → Bool
may_have_written status.Done = true
may_have_written status.Sink = true
may_have_written _ = false

-- the log can't be read, or is none; or memory is wanted
abbrev pub is_of_input : ChartStatus → Bool
is_of_input status.Memory = true
is_of_input status.Source = true
is_of_input (status.TooLong size.Log) = true
is_of_input (status.Line n) = true
is_of_input _ = false

-- how a run with a machine may end
abbrev pub is_of_show : ChartStatus → Bool
is_of_show s = is_of_input s || may_have_written s
