-- What is wrong with a value, in words.
use Rattle.std.specs.Prelude.{ℕ, List, ◌++◌, codes}
use Rattle.std.specs.Fmt.{decimal, signed_decimal}
use Rattle.tp_machine_text.specs.declared.slip.Noun.{Noun}
use Rattle.tp_machine_text.specs.declared.slip.Noun.TheVariants as noun
use Rattle.tp_machine_text.specs.declared.slip.Want.{Want}
use Rattle.tp_machine_text.specs.declared.slip.Want.TheVariants as want
use Rattle.tp_machine_text.specs.declared.slip.Wrong.{Wrong}
use Rattle.tp_machine_text.specs.declared.slip.Wrong.TheVariants as wrong

abbrev pub noun_text : Noun → List ℕ
noun_text noun.TopKey = codes "a key of a machine text"
noun_text noun.ActionKey = codes "a key of an action"
noun_text noun.HoldKey = codes "a key of a hold"
noun_text noun.Name = codes "a name of 1 to 32 letters, digits, _ or -"
noun_text noun.Location = codes "a location"
noun_text noun.Module = codes "a module"
noun_text noun.Resource = codes "a resource"
noun_text noun.Tray = codes "a tray"
noun_text noun.PurgeTray = codes "a purge tray"
noun_text noun.Feeder = codes "a feeder"
noun_text noun.PurgePlace = codes "a location apart from the trays"
noun_text noun.FeederPlace = codes "a location apart from the trays and purge trays"
noun_text noun.Kind = codes "mono or colour"

abbrev pub want_text : Want → List ℕ
want_text (want.Is n) = codes "is not " ++ noun_text n
want_text (want.IsNot n) = codes "is " ++ noun_text n
want_text (want.Whole low high) = codes "is not a whole number from " ++ signed_decimal low ++ codes " to " ++ signed_decimal high
want_text (want.Items least most) = codes "is not an array of " ++ decimal least ++ codes " to " ++ decimal most ++ codes " values"
want_text want.SomeItems = codes "is not an array of at least one value"
want_text (want.Keys most) = codes "is not a table of at most " ++ decimal most ++ codes " keys"
want_text want.SomeKeys = codes "is not a table of at least one key"
want_text want.Array = codes "is not an array"
want_text want.Table = codes "is not a table"
want_text want.TruthValue = codes "is not true or false"
want_text want.Point = codes "is not start or end with a whole number from -8192 to 8192"
want_text want.Second = codes "needs format = 2"

abbrev pub wrong_text : Wrong → List ℕ
wrong_text (wrong.Not w) = want_text w
wrong_text wrong.Twice = codes "stands twice"
wrong_text wrong.BelowLeast = codes "is less than least"
wrong_text wrong.Early = codes "may begin before its action starts"
wrong_text wrong.Empty = codes "may end before it has begun, or as it begins"
