-- What the test of a hold says.
use Rattle.std.proofs.Common.{◌≡◌, ℕ, ℤ, pos, negsuc, ◌≤ℤ◌, true, ◌&&◌, List, [], ◌∷◌, arith}
use Rattle.std.specs.Prelude.{int_le, codes}
use Rattle.std.proofs.lemmas.Int.{ints}
use Rattle.std.proofs.lemmas.Bool.{and_parts}
use Rattle.toml.specs.Data.{Data, string, integer, float, boolean, datetime, array, table, get}
use Rattle.tp_machine_text.specs.Words.{elements_in, whole_of, is_whole, is_there, is_fit, is_table, is_one_of}
use Rattle.tp_machine_text.specs.Keys.{anchors, hold_keys}
use Rattle.tp_machine_text.specs.ActionRules.{are_keys_among}
use Rattle.tp_machine_text.specs.HoldRules.{is_point, has_point, is_hold, offset_in, offset_at}

pub record IsHeld (resources : List (List ℕ)) (h : Data) : Type 0 where
  pub resource : is_there (is_one_of resources) (get (codes "resource") h) ≡ true
  pub begin : has_point (codes "begin") h ≡ true
  pub end : has_point (codes "end") h ≡ true
  pub mode : is_fit (is_whole (pos 0) (pos 255)) (get (codes "mode") h) ≡ true

pub held : (resources : List (List ℕ)) (h : Data) → is_hold resources h ≡ true → IsHeld resources h
unfolding is_hold
held resources h test =
    let (whole, mode) =
    and_parts (is_table h && are_keys_among hold_keys h && is_there (is_one_of resources) (get (codes "resource") h) && has_point (codes "begin") h && has_point (codes "end") h) (is_fit (is_whole (pos 0) (pos 255)) (get (codes "mode") h)) test in
    let (first, end) = and_parts (is_table h && are_keys_among hold_keys h && is_there (is_one_of resources) (get (codes "resource") h) && has_point (codes "begin") h) (has_point (codes "end") h) whole in
    let (second, begin) = and_parts (is_table h && are_keys_among hold_keys h && is_there (is_one_of resources) (get (codes "resource") h)) (has_point (codes "begin") h) first in
    let (third, resource) = and_parts (is_table h && are_keys_among hold_keys h) (is_there (is_one_of resources) (get (codes "resource") h)) second in
    record { resource = resource; begin = begin; end = end; mode = mode }

-- an offset that passes is in its range
whole_within : (d : Data) → is_whole (negsuc 8191) (pos 8192) d ≡ true → (int_le (negsuc 8191) (whole_of d) ≡ true) × (int_le (whole_of d) (pos 8192) ≡ true)
whole_within (integer z) test = and_parts (int_le (negsuc 8191) z) (int_le z (pos 8192)) test
whole_within (string s) test = cc
whole_within (float x) test = cc
whole_within (boolean b) test = cc
whole_within (datetime t) test = cc
whole_within (array ds) test = cc
whole_within (table ms) test = cc

offset_tested : (ds : List Data) → is_point ds ≡ true → (int_le (negsuc 8191) (offset_in ds) ≡ true) × (int_le (offset_in ds) (pos 8192) ≡ true)
offset_tested [] test = cc
offset_tested (a ∷ []) test = cc
offset_tested (a ∷ o ∷ []) test = whole_within o (and_parts (is_one_of anchors a) (is_whole (negsuc 8191) (pos 8192) o) test).1
offset_tested (a ∷ o ∷ x ∷ ds) test = cc

pub offset_test : (key : List ℕ) (h : Data) → has_point key h ≡ true → (int_le (negsuc 8191) (offset_at key h) ≡ true) × (int_le (offset_at key h) (pos 8192) ≡ true)
offset_test key h test = offset_tested (elements_in (get key h)) test

above : (a b : ℤ) → int_le a b ≡ true → a ≤ℤ b
above a b test = grind (arith, ints)

pub offset_within : (key : List ℕ) (h : Data) → has_point key h ≡ true → (negsuc 8191 ≤ℤ offset_at key h) × (offset_at key h ≤ℤ pos 8192)
offset_within key h test =
    let t = offset_test key h test in
    (above (negsuc 8191) (offset_at key h) t.0, above (offset_at key h) (pos 8192) t.1)
