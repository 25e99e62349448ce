-- What a log is, what its text is, and which line is the first that is off the grammar.
use Rattle.std.specs.Prelude.{◌≡◌, ℕ, ◌-◌, ◌≤◌, Bool, true, false, List, [], ◌∷◌, length, map, take, IsTrue}
use Rattle.std.specs.List.{All, flat_map}
use Rattle.tp_bounds.specs.Trees.{IsTree, tree_text}
use Rattle.tp_script.specs.Printed.{IsEchoed}
use Rattle.tp_words.specs.Texts.{lines_of}
use Rattle.tp_log.specs.declared.fault.LogFault.{LogFault}
use Rattle.tp_log.specs.declared.fault.LogFault.TheVariants.{Bad, Memory}
use Rattle.tp_log.specs.declared.item.Item.{Item}
use Rattle.tp_log.specs.declared.item.Item.TheVariants.{Event, Note, Tree}
use Rattle.tp_log.specs.declared.log_line.LogLine.{LogLine}
use Rattle.tp_log.specs.Grammar.{IsRecord, echo_text}
use Rattle.tp_log.specs.LogLines.{AreInOrder, IsLogLine, log_line_text, takes_tree}
use Rattle.tp_log.specs.Records.{record_text}

-- ---- items

abbrev pub IsItem : Item → Type 0
IsItem (Event event) = IsEchoed event
IsItem (Note told) = IsRecord told
IsItem (Tree tree) = IsTree tree

-- the lines of an item
abbrev pub item_text : Item → List ℕ
item_text (Event event) = echo_text event
item_text (Note told) = record_text told
item_text (Tree tree) = tree_text tree

-- ---- logs

-- whether a tree may stand directly behind an item
abbrev pub is_open : Item → Bool
is_open (Event event) = false
is_open (Note told) = takes_tree told
is_open (Tree tree) = false

abbrev pub StandsBehind : Item → Item → Type 0
StandsBehind before (Event event) = Unit {0}
StandsBehind before (Note told) = Unit {0}
StandsBehind before (Tree tree) = IsTrue (is_open before)

abbrev pub StandEach : Item → List Item → Type 0
StandEach before [] = Unit {0}
StandEach before (item ∷ items) = StandsBehind before item × StandEach item items

abbrev pub is_echo : Item → Bool
is_echo (Event event) = true
is_echo _ = false

-- the first item, if there is one, is an event, and a tree stands directly behind a plan, a move or a none
abbrev pub AreInPlace : List Item → Type 0
AreInPlace [] = Unit {0}
AreInPlace (first ∷ items) = IsTrue (is_echo first) × StandEach first items

abbrev pub IsLog : List Item → Type 0
IsLog items = AreInPlace items × All IsItem items

abbrev pub log_text : List Item → List ℕ
log_text items = flat_map item_text items

-- ---- faults

-- the lines are those of a log
abbrev pub AreLog : List (List ℕ) → Type 0
AreLog lines = (told : List LogLine) × AreInOrder told × All IsLogLine told × (lines ≡ map log_line_text told)

-- line n, counted from 1, is the first that is off the grammar: the lines before it are a log, and with it they are none
pub record IsFirstOff (n : ℕ) (text : List ℕ) : Type 0 where
  pub counted : 1 ≤ n
  pub there : n ≤ length (lines_of text)
  pub before : AreLog (take (n - 1) (lines_of text))
  pub off : AreLog (take n (lines_of text)) → ⊥

-- what holds of the line that a fault tells
abbrev pub IfBad : LogFault → (ℕ → Type 0) → Type 0
IfBad (Bad n) P = P n
IfBad Memory P = Unit {0}
