-- The rules on holds. A hold begins and ends at an anchor of its action, less or more some ticks.
use Rattle.std.specs.Prelude.{ℕ, ℤ, pos, negsuc, Bool, false, not, is_some, ◌&&◌, ◌||◌, if◌then◌else◌, nat_le, List, [], ◌∷◌, length, map, codes}
use Rattle.std.specs.List.{list_all}
use Rattle.std.specs.Str.{bytes_eq}
use Rattle.toml.specs.Data.{Data, Members, get}
use Rattle.tp_machine.specs.Limits.{most_act_holds, most_mode}
use Rattle.tp_machine.specs.Rules.{begins_within, is_never_empty}
use Rattle.tp_machine.specs.declared.parts.Anchor.{Anchor}
use Rattle.tp_machine.specs.declared.parts.Anchor.TheVariants.{Start, End}
use Rattle.tp_machine_text.specs.Words.{elements_in, text_of, text_at, whole_of, whole_at, is_there, is_fit, is_array, is_table, is_whole, is_one_of, are_different}
use Rattle.tp_machine_text.specs.Keys.{hold_keys, anchors, resources, actions}
use Rattle.tp_machine_text.specs.TopRules.{is_second}
use Rattle.tp_machine_text.specs.ActionRules.{are_keys_among}

abbrev pub holds : Data → List Data
holds a = elements_in (get (codes "holds") a)

-- an array of two: an anchor and a whole number from -8,192 to 8,192
abbrev pub is_point : List Data → Bool
is_point (anchor ∷ offset ∷ []) = is_one_of anchors anchor && is_whole (negsuc 8191) (pos 8192) offset
is_point _ = false

abbrev pub has_point : List ℕ → Data → Bool
has_point key h = is_point (elements_in (get key h))

-- a table with the keys resource, begin and end, and perhaps mode, the resource being one that there is and the mode a byte
unfoldable pub is_hold : List (List ℕ) → Data → Bool
is_hold resources h =
    is_table h && are_keys_among hold_keys h && is_there (is_one_of resources) (get (codes "resource") h)
    && has_point (codes "begin") h && has_point (codes "end") h && is_fit (is_whole (pos 0) (pos most_mode)) (get (codes "mode") h)

-- `holds`, where it is there, is an array of at most 4 holds, and their resources differ within the action
unfoldable pub has_holds : List (List ℕ) → Data → Bool
has_holds resources a =
    is_fit is_array (get (codes "holds") a) && nat_le (length (holds a)) most_act_holds && list_all (is_hold resources) (holds a)
    && are_different (map (text_at (codes "resource")) (holds a))

-- no hold of the action has a mode
unfoldable pub lacks_mode : Data → Bool
lacks_mode h = not (is_some (get (codes "mode") h))

abbrev pub lacks_modes : Data → Bool
lacks_modes a = list_all lacks_mode (holds a)

-- rule 22: the holds of each action are such; holds have modes in a text of format 2 alone
abbrev pub has_action_holds : Members → Bool
has_action_holds t = list_all (has_holds (resources t)) (actions t) && (is_second t || list_all lacks_modes (actions t))

-- the anchor and the offset of `begin` or `end`
abbrev pub anchor_of : Data → Anchor
anchor_of d = if bytes_eq (text_of d) (codes "end") then End else Start

abbrev pub anchor_in : List Data → Anchor
anchor_in [] = Start
anchor_in (anchor ∷ more) = anchor_of anchor

abbrev pub offset_in : List Data → ℤ
offset_in (anchor ∷ offset ∷ more) = whole_of offset
offset_in _ = pos 0

abbrev pub anchor_at : List ℕ → Data → Anchor
anchor_at key h = anchor_in (elements_in (get key h))

abbrev pub offset_at : List ℕ → Data → ℤ
offset_at key h = offset_in (elements_in (get key h))

abbrev pub number_of : ℤ → ℕ
number_of (pos n) = n
number_of (negsuc n) = 0

abbrev pub least_of : Data → ℕ
least_of a = number_of (whole_at (codes "least") a)

abbrev pub most_of : Data → ℕ
most_of a = number_of (whole_at (codes "most") a)

-- each hold begins at or after its action's start for every duration
unfoldable pub begins_in_action : ℕ → Data → Bool
begins_in_action least h = begins_within least (anchor_at (codes "begin") h) (offset_at (codes "begin") h)

abbrev pub begins_all : Data → Bool
begins_all a = list_all (begins_in_action (least_of a)) (holds a)

-- rule 23: each hold of each action begins in it
abbrev pub has_hold_begins : Members → Bool
has_hold_begins t = list_all begins_all (actions t)

-- no hold can be empty: it begins before it ends, whatever the duration
unfoldable pub is_filled : ℕ → ℕ → Data → Bool
is_filled least most h =
    is_never_empty least most (anchor_at (codes "begin") h) (offset_at (codes "begin") h) (anchor_at (codes "end") h) (offset_at (codes "end") h)

abbrev pub fills_all : Data → Bool
fills_all a = list_all (is_filled (least_of a) (most_of a)) (holds a)

-- rule 24: no hold of any action can be empty
abbrev pub has_hold_lengths : Members → Bool
has_hold_lengths t = list_all fills_all (actions t)

abbrev pub hold_rules : Members → List Bool
hold_rules t = has_action_holds t ∷ has_hold_begins t ∷ has_hold_lengths t ∷ []
