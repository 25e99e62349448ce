-- What the rules want of values, one by one.
use Rattle.std.specs.Prelude.{ℕ, Bool, false, not, is_some, ◌&&◌, ◌||◌, nat_le, List, length, Option, Some}
use Rattle.toml.specs.Data.{Data, string, Members}
use Rattle.tp_base.specs.NameText.{is_name_text}
use Rattle.tp_machine_text.specs.Words.{elements_in, keys_of, members_of, table_in, text_in, is_among, is_array, is_count, is_table, is_there, is_truth_value, is_whole}
use Rattle.tp_machine_text.specs.Keys.{top_keys, action_keys, hold_keys, kinds, locations, modules, trays, purges, feeders, resources}
use Rattle.tp_machine_text.specs.TopRules.{is_second}
use Rattle.tp_machine_text.specs.SupplyRules.{is_open_location}
use Rattle.tp_machine_text.specs.HoldRules.{is_point}
use Rattle.tp_machine_text.specs.declared.slip.Noun.{Noun}
use Rattle.tp_machine_text.specs.declared.slip.Noun.TheVariants as noun
use Rattle.tp_machine_text.specs.declared.slip.Want.{Want}
use Rattle.tp_machine_text.specs.declared.slip.Want.TheVariants as want

-- the text is that in the machine text
abbrev pub is_noun : Members → Noun → List ℕ → Bool
is_noun t noun.TopKey text = is_among top_keys text
is_noun t noun.ActionKey text = is_among action_keys text
is_noun t noun.HoldKey text = is_among hold_keys text
is_noun t noun.Name text = is_name_text text
is_noun t noun.Location text = is_among (locations t) text
is_noun t noun.Module text = is_among (modules t) text
is_noun t noun.Resource text = is_among (resources t) text
is_noun t noun.Tray text = is_among (trays t) text
is_noun t noun.PurgeTray text = is_among (purges t) text
is_noun t noun.Feeder text = is_among (feeders t) text
is_noun t noun.PurgePlace text = is_among (locations t) text && not (is_among (trays t) text)
is_noun t noun.FeederPlace text = is_open_location (locations t) (trays t) (purges t) text
is_noun t noun.Kind text = is_among kinds text

-- a text that passes
abbrev pub is_text : (List ℕ → Bool) → Option Data → Bool
is_text test (Some (string text)) = test text
is_text test _ = false

-- the value, or its absence, is what is wanted
abbrev pub meets : Members → Want → Option Data → Bool
meets t (want.Is noun) value = is_text (is_noun t noun) value
meets t (want.IsNot noun) value = not (is_noun t noun (text_in value))
meets t (want.Whole low high) value = is_there (is_whole low high) value
meets t (want.Items least most) value = is_count least most (length (elements_in value))
meets t want.SomeItems value = nat_le 1 (length (elements_in value))
meets t (want.Keys most) value = nat_le (length (keys_of (members_of (table_in value)))) most
meets t want.SomeKeys value = nat_le 1 (length (keys_of (members_of (table_in value))))
meets t want.Array value = is_there is_array value
meets t want.Table value = is_there is_table value
meets t want.TruthValue value = is_there is_truth_value value
meets t want.Point value = is_point (elements_in value)
meets t want.Second value = is_second t || not (is_some value)
