-- Names, ways and durations of the actions of a table that keeps the rules.
use Rattle.std.proofs.Common.{◌≡◌, ℕ, ℤ, pos, negsuc, true, false, not, ◌&&◌, List, [], ◌∷◌, map, Option, Some, None, refl, ap, arith}
use Rattle.std.specs.Prelude.{nat_le, int_le, codes}
use Rattle.std.specs.List.{list_all}
use Rattle.std.proofs.lemmas.Bool.{and_parts}
use Rattle.std.proofs.lemmas.Bool.Decides.{nat_tests}
use Rattle.std.proofs.lemmas.Int.{ints}
use Rattle.toml.specs.Data.{Data, Members, get}
use Rattle.tp_machine.specs.Rules as machine
use Rattle.tp_machine_text.specs.Words.{keys_of, text_in, text_at, whole_at, is_there, is_among, is_one_of, are_different}
use Rattle.tp_machine_text.specs.ActionRules.{is_of_module, has_ends, is_way, has_durations}
use Rattle.tp_machine_text.specs.HoldRules.{number_of}
use Rattle.tp_machine_text.specs.TheMachine.{loc_of, action_of, feeders_of}
use Rattle.tp_machine_text.proofs.PlaceFacts.{place_known, loc_among}
use Rattle.tp_machine_text.proofs.TextFacts.{one_of}
use Rattle.tp_machine_text.proofs.SupplyFacts.{feeder_locs}

pub there_known : (names : List (List ℕ)) (o : Option Data) → is_there (is_one_of names) o ≡ true → is_among names (text_in o) ≡ true
there_known names None test = cc
there_known names (Some d) test = one_of names d test

pub same_differ : (names : List (List ℕ)) → machine.do_names_differ names ≡ are_different names
same_differ [] = refl
same_differ (n ∷ names) = ap (λ b. not (is_among names n) && b) (same_differ names)

pub action_names : (locations modules resources : List (List ℕ)) (deeds : List Data) → map (λ a. a.name) (map (action_of locations modules resources) deeds) ≡ map (text_at (codes "name")) deeds
unfolding action_of
action_names locations modules resources [] = refl
action_names locations modules resources (a ∷ deeds) = ap (λ t. text_at (codes "name") a ∷ t) (action_names locations modules resources deeds)

-- ---- ways

module _ (locations modules resources trays purges : List (List ℕ)) (stocks ms : Members) where
  way_of : (a : Data) → list_all (is_among locations) trays ≡ true → list_all (is_among locations) purges ≡ true → list_all (is_among locations) (keys_of ms) ≡ true
      → is_of_module modules a ≡ true → has_ends locations a ≡ true → is_way trays purges (keys_of ms) a ≡ true
      → machine.is_way locations modules (map (loc_of locations) trays) (map (loc_of locations) purges) (feeders_of locations stocks ms) (action_of locations modules resources a) ≡ true
  unfolding is_of_module has_ends is_way action_of
  way_of a kt kp kf of_module ends way =
      let (from_there, to_there) = and_parts (is_there (is_one_of locations) (get (codes "from") a)) (is_there (is_one_of locations) (get (codes "to") a)) ends in
      let m = there_known modules (get (codes "module") a) of_module in
      let from = there_known locations (get (codes "from") a) from_there in
      let to = there_known locations (get (codes "to") a) to_there in
      let no_tray : is_among trays (text_at (codes "from") a) ≡ false = grind arith in
      let no_purge : is_among purges (text_at (codes "from") a) ≡ false = grind arith in
      let no_feeder : is_among (keys_of ms) (text_at (codes "to") a) ≡ false = grind arith in
      rw (
        place_known modules (text_at (codes "module") a) m,
        place_known locations (text_at (codes "from") a) from,
        place_known locations (text_at (codes "to") a) to,
        loc_among locations trays (text_at (codes "from") a) kt from,
        no_tray,
        loc_among locations purges (text_at (codes "from") a) kp from,
        no_purge,
        feeder_locs locations stocks ms,
        loc_among locations (keys_of ms) (text_at (codes "to") a) kf to,
        no_feeder,
      )

  pub sound_ways : (deeds : List Data) → list_all (is_among locations) trays ≡ true → list_all (is_among locations) purges ≡ true → list_all (is_among locations) (keys_of ms) ≡ true
      → list_all (is_of_module modules) deeds ≡ true → list_all (has_ends locations) deeds ≡ true → list_all (is_way trays purges (keys_of ms)) deeds ≡ true
      → machine.are_ways locations modules (map (loc_of locations) trays) (map (loc_of locations) purges) (feeders_of locations stocks ms) (map (action_of locations modules resources) deeds) ≡ true
  sound_ways [] kt kp kf of_module ends way = refl
  sound_ways (a ∷ deeds) kt kp kf of_module ends way =
      let (m, ms_rest) = and_parts (is_of_module modules a) (list_all (is_of_module modules) deeds) of_module in
      let (e, es_rest) = and_parts (has_ends locations a) (list_all (has_ends locations) deeds) ends in
      let (w, ws_rest) = and_parts (is_way trays purges (keys_of ms) a) (list_all (is_way trays purges (keys_of ms)) deeds) way in
      rw (way_of a kt kp kf m e w) (sound_ways deeds kt kp kf ms_rest es_rest ws_rest)

-- ---- durations

order_of : (z w : ℤ) → (int_le (pos 1) z && int_le z w && int_le w (pos 4096)) ≡ true → (nat_le 1 (number_of z) && nat_le (number_of z) (number_of w) && nat_le (number_of w) 4096) ≡ true
order_of (pos n) (pos m) test =
    let a : int_le (pos 1) (pos n) ≡ true = grind arith in
    let b : int_le (pos n) (pos m) ≡ true = grind arith in
    let c : int_le (pos m) (pos 4096) ≡ true = grind arith in
    grind (arith, ints, nat_tests)
order_of (pos n) (negsuc m) test =
    let b : int_le (pos n) (negsuc m) ≡ true = grind arith in
    cc
order_of (negsuc n) w test =
    let a : int_le (pos 1) (negsuc n) ≡ true = grind arith in
    cc

pub duration_of : (locations modules resources : List (List ℕ)) (a : Data) → has_durations a ≡ true → machine.has_durations (action_of locations modules resources a) ≡ true
unfolding has_durations action_of
duration_of locations modules resources a test = order_of (whole_at (codes "least") a) (whole_at (codes "most") a) test

pub sound_durations : (locations modules resources : List (List ℕ)) (deeds : List Data) → list_all has_durations deeds ≡ true → machine.have_durations (map (action_of locations modules resources) deeds) ≡ true
sound_durations locations modules resources [] test = refl
sound_durations locations modules resources (a ∷ deeds) test =
    let (here, rest) = and_parts (has_durations a) (list_all has_durations deeds) test in
    rw (duration_of locations modules resources a here) (sound_durations locations modules resources deeds rest)
