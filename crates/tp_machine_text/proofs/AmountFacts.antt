-- Gaps, stocks and modes of a table that keeps the rules are in their ranges.
use Rattle.std.proofs.Common.{◌≡◌, ℕ, pos, Bool, true, Ordering, Less, Equal, Greater, List, [], ◌∷◌, map, Option, Some, None, option_map, refl, arith}
use Rattle.std.specs.Prelude.{nat_le, int_le, codes}
use Rattle.std.specs.List.{list_all}
use Rattle.std.specs.Ordering.{match_ordering, nat_cmp}
use Rattle.std.specs.Cmp.Lexicographic.{slice_cmp}
use Rattle.std.proofs.lemmas.Bool.{and_parts}
use Rattle.std.proofs.lemmas.Bool.Decides.{nat_tests}
use Rattle.std.proofs.lemmas.Int.{ints}
use Rattle.toml.specs.Data.{Data, string, integer, float, boolean, datetime, array, table, Members, no_members, member, get, get_member}
use Rattle.tp_base.specs.NameText.{is_between}
use Rattle.tp_machine.specs.Rules as machine
use Rattle.tp_machine.specs.Rules.{are_amounts}
use Rattle.tp_machine_text.specs.Words.{data_of, whole_of, is_fit, is_whole}
use Rattle.tp_machine_text.specs.HoldRules.{holds, is_hold, has_holds, number_of}
use Rattle.tp_machine_text.specs.TheMachine.{number_or, amount_at, or_zero, feeders_of, resources_of, hold_of, action_of}
use Rattle.tp_machine_text.proofs.HoldFacts.{held}
use Rattle.tp_machine_text.proofs.Named.{held_parts}
use Rattle.tp_machine_text.proofs.NumberFacts.{number_between}

-- what passes for each value of a table passes for the one at a key
pub at_key : (p : Data → Bool) (key : List ℕ) (ms : Members) → list_all p (data_of ms) ≡ true → is_fit p (get_member key ms) ≡ true
at_key p key no_members all = refl
at_key p key (member k d ms) all =
    let (here, rest) = and_parts (p d) (list_all p (data_of ms)) all in
    go (slice_cmp nat_cmp key k) here (at_key p key ms rest) where
      go : (o : Ordering) → p d ≡ true → is_fit p (get_member key ms) ≡ true → is_fit p (match_ordering o (get_member key ms) (Some d) (get_member key ms)) ≡ true
      go Less here rest = rest
      go Equal here rest = here
      go Greater here rest = rest

at_most : (high n : ℕ) → is_between 0 high n ≡ true → nat_le n high ≡ true
at_most high n test = (and_parts (nat_le 0 n) (nat_le n high) test).1

zero_between : (high : ℕ) → is_between 0 high 0 ≡ true
zero_between high = grind (arith, nat_tests)

number_small : (high : ℕ) (o : Option Data) → is_fit (is_whole (pos 0) (pos high)) o ≡ true → nat_le (number_or 0 o) high ≡ true
number_small high o test = at_most high (number_or 0 o) (number_between 0 high 0 o test (zero_between high))

or_zero-amount : (key : List ℕ) (ms : Members) → or_zero (amount_at key ms) ≡ number_or 0 (get_member key ms)
unfolding amount_at
or_zero-amount key ms = go (get_member key ms) where
  go : (o : Option Data) → or_zero (option_map (λ d. number_of (whole_of d)) o) ≡ number_or 0 o
  go None = refl
  go (Some d) = refl

stock_small : (key : List ℕ) (ms : Members) → is_fit (is_whole (pos 0) (pos 1000000)) (get_member key ms) ≡ true → machine.is_stock (amount_at key ms) ≡ true
unfolding amount_at
stock_small key ms test = go (get_member key ms) test where
  go : (o : Option Data) → is_fit (is_whole (pos 0) (pos 1000000)) o ≡ true → machine.is_stock (option_map (λ d. number_of (whole_of d)) o) ≡ true
  go None test = refl
  go (Some d) test = number_small 1000000 (Some d) test

stocks_sound : (locations : List (List ℕ)) (stocks ms : Members) → list_all (is_whole (pos 0) (pos 1000000)) (data_of stocks) ≡ true → machine.have_stocks (feeders_of locations stocks ms) ≡ true
stocks_sound locations stocks no_members whole = refl
stocks_sound locations stocks (member k d ms) whole = rw (stock_small k stocks (at_key (is_whole (pos 0) (pos 1000000)) k stocks whole)) (stocks_sound locations stocks ms whole)

gaps_sound : (modules : List (List ℕ)) (gaps ms : Members) → list_all (is_whole (pos 0) (pos 4096)) (data_of gaps) ≡ true → machine.have_gaps (resources_of modules gaps ms) ≡ true
gaps_sound modules gaps no_members whole = refl
gaps_sound modules gaps (member k d ms) whole = rw (or_zero-amount k gaps, number_small 4096 (get_member k gaps) (at_key (is_whole (pos 0) (pos 4096)) k gaps whole)) (gaps_sound modules gaps ms whole)

module _ (ls ms rs : List (List ℕ)) where
  mode_sound : (hs : List Data) → list_all (is_hold rs) hs ≡ true → list_all (λ h. nat_le h.mode 255) (map (hold_of rs) hs) ≡ true
  unfolding hold_of
  mode_sound [] all = refl
  mode_sound (h ∷ hs) all =
      let (here, rest) = and_parts (is_hold rs h) (list_all (is_hold rs) hs) all in
      rw (number_small 255 (get (codes "mode") h) (held rs h here).mode) (mode_sound hs rest)

  action_modes : (a : Data) → has_holds rs a ≡ true → machine.has_modes (action_of ls ms rs a) ≡ true
  unfolding action_of
  action_modes a test = mode_sound (holds a) (held_parts rs a test).all

  modes_sound : (deeds : List Data) → list_all (has_holds rs) deeds ≡ true → machine.have_modes (map (action_of ls ms rs) deeds) ≡ true
  modes_sound [] all = refl
  modes_sound (a ∷ deeds) all =
      let (here, rest) = and_parts (has_holds rs a) (list_all (has_holds rs) deeds) all in
      rw (action_modes a here) (modes_sound deeds rest)

pub amounts_sound : (ls ms rs : List (List ℕ)) (stocks feeders gaps resources : Members) (deeds : List Data) → list_all (is_whole (pos 0) (pos 1000000)) (data_of stocks) ≡ true
    → list_all (is_whole (pos 0) (pos 4096)) (data_of gaps) ≡ true → list_all (has_holds rs) deeds ≡ true
    → machine.are_amounts (feeders_of ls stocks feeders) (resources_of ms gaps resources) (map (action_of ls ms rs) deeds) ≡ true
unfolding are_amounts
amounts_sound ls ms rs stocks feeders gaps resources deeds stocked spaced held =
    rw (stocks_sound ls stocks feeders stocked, gaps_sound ms gaps resources spaced, modes_sound ls ms rs deeds held)

-- ---- what the code asks of a table of amounts
wider : (d : Data) → is_whole (pos 0) (pos 4096) d ≡ true → is_whole (pos 0) (pos 1000000) d ≡ true
wider (integer z) test = let (a, b) = and_parts (int_le (pos 0) z) (int_le z (pos 4096)) test in grind (arith, ints)
wider (string s) test = cc
wider (float x) test = cc
wider (boolean b) test = cc
wider (datetime t) test = cc
wider (array ds) test = cc
wider (table ms) test = cc

pub all_wider : (ds : List Data) → list_all (is_whole (pos 0) (pos 4096)) ds ≡ true → list_all (is_whole (pos 0) (pos 1000000)) ds ≡ true
all_wider [] all = refl
all_wider (d ∷ ds) all =
    let (here, rest) = and_parts (is_whole (pos 0) (pos 4096) d) (list_all (is_whole (pos 0) (pos 4096)) ds) all in
    rw (wider d here) (all_wider ds rest)
