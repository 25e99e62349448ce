-- What a log may tell: events as echoed, and records of which each field has a text.
use Rattle.std.specs.Prelude.{ℕ, List, [], ◌∷◌, ◌++◌, Option, Some, None}
use Rattle.std.specs.List.{AllByRecursion}
use Rattle.tp_schedule.specs.declared.records.Cause.{Cause}
use Rattle.tp_schedule.specs.declared.records.Cause.TheVariants.{Syntax as SyntaxCause, Tray, Media, Named, Waiting, Back, End, «Module», Out, NotOn, Feeder, Endless, Stock}
use Rattle.tp_schedule.specs.declared.records.Record.{Record}
use Rattle.tp_schedule.specs.declared.records.Record.TheVariants.{Plan, Move, Never, Budget, FullUp, Release, Done, Lost, Recall, Withdraw, Cut, Purge, Again, Stuck, Broken, Drop, Refused}
use Rattle.tp_words.specs.Fields.{IsName}
use Rattle.tp_words.specs.Numbers.{IsNumber}
use Rattle.tp_bounds.specs.Sheets.{IsSheet}
use Rattle.tp_script.specs.Script.{event_text}
use Rattle.tp_script.specs.declared.event.Event.{Event as AnyEvent}
use Rattle.tp_log.specs.Records.{IsPrintable}

-- ---- values that have a text: names are names, and numbers fit in 32 bits

abbrev pub IsGoal : Option (List ℕ) → Type 0
IsGoal None = Unit {0}
IsGoal (Some tray) = IsName tray

abbrev pub IsCause : Cause → Type 0
IsCause SyntaxCause = Unit {0}
IsCause (Tray name) = IsName name
IsCause (Media name) = IsName name
IsCause (Named name) = IsName name
IsCause Waiting = Unit {0}
IsCause (Back now) = IsNumber now
IsCause End = Unit {0}
IsCause («Module» name) = IsName name
IsCause (Out name) = IsName name
IsCause (NotOn name) = IsName name
IsCause (Feeder name) = IsName name
IsCause (Endless name) = IsName name
IsCause (Stock name) = IsName name

abbrev pub HasFields : Record → Type 0
HasFields (Plan sheet place points acts) = IsSheet sheet × IsName place × AllByRecursion IsNumber points × AllByRecursion IsName acts
HasFields (Move sheet points) = IsSheet sheet × AllByRecursion IsNumber points
HasFields (Never sheet goal) = IsSheet sheet × IsGoal goal
HasFields (Budget sheet goal bound) = IsSheet sheet × IsGoal goal × IsNumber bound
HasFields (FullUp sheet) = IsSheet sheet
HasFields (Release sheet act name start end) = IsSheet sheet × IsNumber act × IsName name × IsNumber start × IsNumber end
HasFields (Done sheet place at) = IsSheet sheet × IsName place × IsNumber at
HasFields (Lost sheet) = IsSheet sheet
HasFields (Recall sheet act) = IsSheet sheet × IsNumber act
HasFields (Withdraw sheet) = IsSheet sheet
HasFields (Cut sheet) = IsSheet sheet
HasFields (Purge sheet) = IsSheet sheet
HasFields (Again sheet) = IsSheet sheet
HasFields (Stuck sheet name) = IsSheet sheet × IsName name
HasFields (Broken job) = IsName job
HasFields (Drop sheet) = IsSheet sheet
HasFields (Refused cause) = IsCause cause

-- a record that a line of a log may tell
abbrev pub IsRecord : Record → Type 0
IsRecord told = HasFields told × IsPrintable told

-- the line of an event, with its LF: `> ` and the event as printed
abbrev pub echo_text : AnyEvent → List ℕ
echo_text event = 62 ∷ 32 ∷ (event_text event ++ 10 ∷ [])
