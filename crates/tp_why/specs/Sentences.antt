-- The sentence that says where a text breaks a rule.
use Rattle.std.specs.Prelude.{ℕ, zero, suc, Bool, not, nat_le, ◌&&◌, ◌==◌, if◌then◌else◌, List, [], ◌∷◌, ◌++◌, length, codes, slice_get, Option, Some, None}
use Rattle.std.specs.List.{list_all}
use Rattle.std.specs.Fmt.{decimal, signed_decimal}
use Rattle.toml.specs.Data.{Data, string, integer, float, boolean, datetime, array, table, Members, get_member}
use Rattle.tp_machine_text.specs.Words.{data_of, elements_in, keys_of, members_of, table_in, text_in, values_of}
use Rattle.tp_machine_text.specs.Keys.{actions}
use Rattle.tp_machine_text.specs.HoldRules.{holds}
use Rattle.tp_machine_text.specs.Slips.{key_text}
use Rattle.tp_machine_text.specs.declared.slip.Part.{Part}
use Rattle.tp_machine_text.specs.declared.slip.Part.TheVariants as part
use Rattle.tp_machine_text.specs.Phrases.{wrong_text}
use Rattle.tp_machine_text.specs.declared.slip.Slip.{Slip}

-- ---- what stands there

-- no control character
abbrev pub is_plain : ℕ → Bool
is_plain byte = nat_le 32 byte && not (byte == 127)

-- a text between quotes, if it has no control characters
abbrev pub quoted : List ℕ → List ℕ
quoted text = if list_all is_plain text then 34 ∷ text ++ 34 ∷ [] else codes "a text with control characters"

abbrev pub shown : Data → List ℕ
shown (string text) = quoted text
shown (integer z) = signed_decimal z
shown (float x) = codes "a float"
shown (boolean b) = if b then codes "true" else codes "false"
shown (datetime d) = codes "a date"
shown (array ds) = codes "an array of " ++ decimal (length (values_of ds)) ++ codes " values"
shown (table ms) = codes "a table of " ++ decimal (length (keys_of ms)) ++ codes " keys"

-- ---- where it stands

-- the nth text, counted from 0
abbrev pub text_number : ℕ → List (List ℕ) → List ℕ
text_number n [] = []
text_number zero (text ∷ texts) = text
text_number (suc n) (text ∷ texts) = text_number n texts

-- the members of an action, of a hold, or of the text
abbrev pub members_in : Option Data → Members
members_in d = members_of (table_in d)

abbrev pub holds_in : Option Data → List Data
holds_in None = []
holds_in (Some a) = holds a

abbrev pub hold_in : Option Data → Option ℕ → Option Data
hold_in action None = action
hold_in action (Some n) = slice_get (holds_in action) n

abbrev pub owner_in : Members → Option ℕ → Option ℕ → Members
owner_in t None hold = t
owner_in t (Some n) hold = members_in (hold_in (slice_get (actions t) n) hold)

abbrev pub owner : Members → Slip → Members
owner t s = owner_in t s.action s.hold

-- the words on the action and the hold
abbrev pub action_text : Members → Option ℕ → List ℕ
action_text t None = []
action_text t (Some n) =
    codes "action " ++ decimal (suc n) ++ 32 ∷ quoted (text_in (get_member (codes "name") (members_in (slice_get (actions t) n))))

abbrev pub hold_text : Option ℕ → List ℕ
hold_text None = []
hold_text (Some n) = codes ", hold " ++ decimal (suc n)

-- what parts the words on the action from what follows
abbrev pub comma : Option ℕ → List ℕ
comma None = []
comma (Some n) = codes ", "

abbrev pub table_key : Members → ℕ → List ℕ
table_key ms n = codes "key " ++ quoted (text_number n (keys_of ms))

abbrev pub part_text : Members → Part → List ℕ
part_text ms part.Whole = []
part_text ms (part.Key n) = table_key ms n
part_text ms (part.Field k) = key_text k
part_text ms (part.Item k n) = key_text k ++ codes ", item " ++ decimal (suc n)
part_text ms (part.Entry k n) = key_text k ++ codes ", " ++ table_key (members_in (get_member (key_text k) ms)) n
part_text ms (part.Amount k n) = key_text k ++ codes ", " ++ table_key (members_in (get_member (key_text k) ms)) n

abbrev pub comma_before : Part → Option ℕ → List ℕ
comma_before part.Whole action = []
comma_before _ action = comma action

-- ---- the sentence

-- what is said of a value
abbrev pub value_text : List ℕ → Option Data → List ℕ
value_text wrong None = codes " is missing"
value_text wrong (Some d) = codes ": " ++ shown d ++ 32 ∷ wrong

-- what is said of the part
abbrev pub said : Members → Part → List ℕ → List ℕ
said ms (part.Field k) wrong = value_text wrong (get_member (key_text k) ms)
said ms (part.Item k n) wrong = value_text wrong (slice_get (elements_in (get_member (key_text k) ms)) n)
said ms (part.Amount k n) wrong = value_text wrong (slice_get (data_of (members_in (get_member (key_text k) ms))) n)
said ms _ wrong = 32 ∷ wrong

-- where the rule is broken, and by what
abbrev pub slip_text : Members → Slip → List ℕ
slip_text t s =
    action_text t s.action ++ hold_text s.hold ++ comma_before s.part s.action ++ part_text (owner t s) s.part
    ++ said (owner t s) s.part (wrong_text s.wrong)

abbrev pub rule_text : Members → Slip → List ℕ
rule_text t s = codes "rule " ++ decimal s.rule ++ codes ": " ++ slip_text t s
