-- The form of the words: [--sheets] [--html] [--from T] [--at T] [--machine K] MACHINE, as the library of command lines reads them.
use Rattle.std.specs.Prelude.{ℕ, Bool, true, false, ◌&&◌, ◌==◌, nat_le, List, [], ◌∷◌, length, codes, find, Option, Some, None, option_map, map, if◌then◌else◌}
use Rattle.std.specs.Str.{bytes_eq}
use Rattle.std.specs.Borrow.{Bor}
use Rattle.clap.specs.Words.{App, Kinds, Row, Rule, Text, fault_of, matches_of, new_app, new_rule, with_rule}
use Rattle.clap.specs.Simple.{on_top}
use Rattle.clap.specs.declared.builder.action.ArgAction.TheVariants.{Append}
use Rattle.tp_words.specs.Numbers.{number_of}
use Rattle.tp_chart.specs.declared.view.View.{View}
use Rattle.tp_chart.specs.declared.words.ChartRequest as code

-- ---- the command: words, flags, and options with a value

abbrev pub words_rule : Rule
words_rule = record (new_rule (codes "words")) { action = Some Append }

abbrev pub flag_rule : Text → Rule
flag_rule id = record (new_rule id) {
  long = Some id;
  action = Some Append;
  range = Some (record { start_inclusive = 0; end_inclusive = 0 });
  missing = codes "set" ∷ [];
}

-- an option with a value
abbrev pub option_rule : Text → Rule
option_rule id = record (new_rule id) { long = Some id; action = Some Append }

abbrev pub bare : App
bare = on_top (λ s. record s { no_binary_name = true; disable_help_flag = true }) (new_app (codes "chart"))

abbrev pub with_words : App
with_words = with_rule bare words_rule

abbrev pub with_sheets : App
with_sheets = with_rule with_words (flag_rule (codes "sheets"))

abbrev pub with_html : App
with_html = with_rule with_sheets (flag_rule (codes "html"))

abbrev pub with_from : App
with_from = with_rule with_html (option_rule (codes "from"))

abbrev pub with_at : App
with_at = with_rule with_from (option_rule (codes "at"))

abbrev pub chart : App
chart = with_rule with_at (option_rule (codes "machine"))

-- ---- what the words ask for

pub record Asked : Type 0 where
  pub machine : List ℕ
  pub view : View
  pub is_page : Bool
  pub number : Option ℕ

-- at most one tick is given: a number below 2 ^ 32 without leading zeros
abbrev pub tick_of : List Text → Option (Option ℕ)
tick_of [] = Some None
tick_of (text ∷ []) = option_map (λ tick. Some tick) (number_of text)
tick_of _ = None

-- the flag stands at most once
abbrev pub view_of : ℕ → Option (Option ℕ) → Option (Option ℕ) → Option View
view_of sheets (Some from) (Some until) = if nat_le sheets 1 then Some (record { by_copies = sheets == 1; from = from; until = until }) else None
view_of sheets _ _ = None

-- a farm has at most eight machines
abbrev pub is_of_farm : Option ℕ → Bool
is_of_farm None = true
is_of_farm (Some number) = nat_le 1 number && nat_le number 8

-- exactly one word is no option, and the flag for a page stands at most once
abbrev pub asked_at : List Text → Option View → ℕ → Option (Option ℕ) → Option Asked
asked_at (machine ∷ []) (Some view) pages (Some number) =
    if nat_le pages 1 && is_of_farm number then Some (record { machine = machine; view = view; is_page = pages == 1; number = number }) else None
asked_at _ view pages number = None

-- the values of an id, if it has a row
abbrev pub values_in : Text → List Row → Option (List Text)
values_in id rows = option_map (λ r. r.values) (find (λ r. bytes_eq r.id id) rows)

abbrev pub values_or_none : Option (List Text) → List Text
values_or_none None = []
values_or_none (Some values) = values

abbrev pub values_of : Text → List Row → List Text
values_of id rows = values_or_none (values_in id rows)

abbrev pub view_in : List Row → Option View
view_in rows = view_of (length (values_of (codes "sheets") rows)) (tick_of (values_of (codes "from") rows)) (tick_of (values_of (codes "at") rows))

abbrev pub asked_in : List Row → Option Asked
asked_in rows =
    asked_at (values_of (codes "words") rows) (view_in rows) (length (values_of (codes "html") rows)) (tick_of (values_of (codes "machine") rows))

abbrev pub is_none : Kinds → Bool
is_none [] = true
is_none (k ∷ ks) = false

-- what the words ask for, where the command finds no fault with them
abbrev pub chart_asked : List Text → Option Asked
chart_asked words = if is_none (fault_of chart words) then asked_in (matches_of chart words) else None

-- a request as its texts and numbers
abbrev pub seen : code.ChartRequest → Asked
seen r = record { machine = r.machine.now; view = r.view; is_page = r.is_page; number = r.number }

-- what references to texts point to
abbrev pub shown : List (Bor Text) → List Text
shown texts = map (λ text. text.now) texts
