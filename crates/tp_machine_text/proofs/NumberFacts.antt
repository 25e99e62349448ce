-- The three numbers and the four counts of a table that keeps the rules.
use Rattle.std.proofs.Common.{◌≡◌, ℕ, ℤ, pos, negsuc, true, List, length, map, Option, Some, None, refl, arith}
use Rattle.std.specs.Prelude.{nat_le, int_le}
use Rattle.std.proofs.lemmas.Bool.{and_parts}
use Rattle.std.proofs.lemmas.Bool.Decides.{nat_tests}
use Rattle.std.proofs.lemmas.Int.{ints}
use Rattle.std.proofs.lemmas.List.{length-map}
use Rattle.tp_base.specs.NameText.{is_between}
use Rattle.toml.specs.Data.{Data, string, integer, float, boolean, datetime, array, table, Members, no_members, member}
use Rattle.tp_machine_text.specs.Words.{keys_of, is_whole, is_fit, text_of}
use Rattle.tp_machine_text.specs.HoldRules.{number_of}
use Rattle.tp_machine_text.specs.TheMachine.{number_or, feeders_of, resources_of}

above : (a b : ℤ) → int_le a b ≡ true → int_le (pos 0) a ≡ true → nat_le (number_of a) (number_of b) ≡ true
above (pos a) (pos b) test low = grind (arith, ints, nat_tests)
above (negsuc a) b test low = cc
above (pos a) (negsuc b) test low = cc

at_most : (z : ℤ) (low high : ℕ) → int_le (pos low) z ≡ true → int_le z (pos high) ≡ true → is_between low high (number_of z) ≡ true
at_most (pos n) low high a b = grind (arith, ints, nat_tests)
at_most (negsuc n) low high a b = cc

whole_between : (low high : ℕ) (d : Data) → is_whole (pos low) (pos high) d ≡ true → is_between low high (number_or 0 (Some d)) ≡ true
whole_between low high (integer z) test = let (a, b) = and_parts (int_le (pos low) z) (int_le z (pos high)) test in at_most z low high a b
whole_between low high (string s) test = cc
whole_between low high (float x) test = cc
whole_between low high (boolean b) test = cc
whole_between low high (datetime t) test = cc
whole_between low high (array ds) test = cc
whole_between low high (table ms) test = cc

-- a number, or what stands for it, is in its range
pub number_between : (low high absent : ℕ) (o : Option Data) → is_fit (is_whole (pos low) (pos high)) o ≡ true → is_between low high absent ≡ true → is_between low high (number_or absent o) ≡ true
number_between low high absent None test usual = usual
number_between low high absent (Some d) test usual = whole_between low high d test

wider_whole : (low high : ℕ) (d : Data) → nat_le high 200000 ≡ true → is_whole (pos low) (pos high) d ≡ true → is_whole (pos 0) (pos 200000) d ≡ true
wider_whole low high (integer z) top test = let (a, b) = and_parts (int_le (pos low) z) (int_le z (pos high)) test in grind (arith, ints, nat_tests)
wider_whole low high (string s) top test = cc
wider_whole low high (float x) top test = cc
wider_whole low high (boolean b) top test = cc
wider_whole low high (datetime t) top test = cc
wider_whole low high (array ds) top test = cc
wider_whole low high (table ms) top test = cc

pub wider : (low high : ℕ) (o : Option Data) → nat_le high 200000 ≡ true → is_fit (is_whole (pos low) (pos high)) o ≡ true → is_fit (is_whole (pos 0) (pos 200000)) o ≡ true
wider low high None top test = refl
wider low high (Some d) top test = wider_whole low high d top test

pub length_texts : (ds : List Data) → length (map text_of ds) ≡ length ds
length_texts ds = length-map ds text_of

pub length_feeders : (locations : List (List ℕ)) (stocks ms : Members) → length (feeders_of locations stocks ms) ≡ length (keys_of ms)
length_feeders locations stocks no_members = refl
length_feeders locations stocks (member k d ms) = grind (arith, length_feeders locations stocks ms)

pub length_resources : (modules : List (List ℕ)) (gaps ms : Members) → length (resources_of modules gaps ms) ≡ length (keys_of ms)
length_resources modules gaps no_members = refl
length_resources modules gaps (member k d ms) = grind (arith, length_resources modules gaps ms)
