-- Trays, purge trays, feeders and resources of a table that keeps the rules.
use Rattle.std.proofs.Common.{◌≡◌, ℕ, true, false, not, ◌&&◌, List, [], ◌∷◌, length, map, refl, ap, ◌∙◌, arith}
use Rattle.std.specs.Prelude.{nat_lt, nat_le}
use Rattle.std.specs.List.{list_all}
use Rattle.std.proofs.lemmas.Bool.{and_parts}
use Rattle.std.proofs.lemmas.List.{length-map}
use Rattle.toml.specs.Data.{Data, Members, no_members, member}
use Rattle.tp_machine.specs.Rules as machine
use Rattle.tp_machine_text.specs.Words.{keys_of, data_of, text_of, is_among, is_one_of, is_apart, are_different, are_from}
use Rattle.tp_machine_text.specs.SupplyRules.{is_open_location}
use Rattle.tp_machine_text.specs.TheMachine.{loc_of, feeders_of, resources_of}
use Rattle.tp_machine_text.proofs.PlaceFacts.{place_known, place_named, loc_among, locs_known, locs_differ}
use Rattle.tp_machine_text.proofs.TextFacts.{one_of, all_one_of, all_apart}

pub sound_trays : (names : List (List ℕ)) (ds : List Data) → (nat_le 1 (length ds) && are_from names ds) ≡ true → machine.are_trays names (map (loc_of names) (map text_of ds)) ≡ true
sound_trays names ds test =
    let (some, from) = and_parts (nat_le 1 (length ds)) (are_from names ds) test in
    let (known, differ) = and_parts (list_all (is_one_of names) ds) (are_different (map text_of ds)) from in
    let texts = all_one_of names ds known in
    let long : length (map (loc_of names) (map text_of ds)) ≡ length ds = length-map (map text_of ds) (loc_of names) ∙ length-map ds text_of in
    rw (long, some, locs_known names (map text_of ds) texts, locs_differ names (map text_of ds) texts, differ)

-- locations apart from others, told by their names
locs_apart : (names others xs : List (List ℕ)) → list_all (is_among names) others ≡ true → list_all (is_among names) xs ≡ true
    → list_all (λ s. not (is_among others s)) xs ≡ true → list_all (λ p. not (machine.is_among (map (loc_of names) others) p)) (map (loc_of names) xs) ≡ true
locs_apart names others [] known_others known apart = refl
locs_apart names others (x ∷ xs) known_others known apart =
    let here : is_among names x ≡ true = grind arith in
    let none : is_among others x ≡ false = grind arith in
    rw (loc_among names others x known_others here, none, locs_apart names others xs known_others (grind arith) (grind arith))

pub sound_purges : (names : List (List ℕ)) (ts ds : List Data) → are_from names ts ≡ true → are_from names ds ≡ true → list_all (is_apart (map text_of ts)) ds ≡ true
    → machine.are_purges names (map (loc_of names) (map text_of ts)) (map (loc_of names) (map text_of ds)) ≡ true
sound_purges names ts ds trays from apart =
    let (known_trays, differ_trays) = and_parts (list_all (is_one_of names) ts) (are_different (map text_of ts)) trays in
    let (known, differ) = and_parts (list_all (is_one_of names) ds) (are_different (map text_of ds)) from in
    let texts = all_one_of names ds known in
    let tray_texts = all_one_of names ts known_trays in
    rw (locs_known names (map text_of ds) texts, locs_differ names (map text_of ds) texts, differ)
    (locs_apart names (map text_of ts) (map text_of ds) tray_texts texts (all_apart names (map text_of ts) ds known apart))

-- ---- feeders

pub feeder_locs : (names : List (List ℕ)) (stocks ms : Members) → map (λ f. f.loc) (feeders_of names stocks ms) ≡ map (loc_of names) (keys_of ms)
feeder_locs names stocks no_members = refl
feeder_locs names stocks (member k d ms) = ap (λ t. loc_of names k ∷ t) (feeder_locs names stocks ms)

open_parts : (names trays purges : List (List ℕ)) (k : List ℕ) → is_open_location names trays purges k ≡ true → (is_among names k ≡ true) × (is_among trays k ≡ false) × (is_among purges k ≡ false)
open_parts names trays purges k test = (grind arith, grind arith, grind arith)

pub keys_known : (names trays purges : List (List ℕ)) (ks : List (List ℕ)) → list_all (is_open_location names trays purges) ks ≡ true → list_all (is_among names) ks ≡ true
keys_known names trays purges [] test = refl
keys_known names trays purges (k ∷ ks) test =
    let (here, rest) = and_parts (is_open_location names trays purges k) (list_all (is_open_location names trays purges) ks) test in
    rw ((open_parts names trays purges k here).0, keys_known names trays purges ks rest)

pub feeder_locations : (names trays purges : List (List ℕ)) (stocks ms : Members) → list_all (is_among names) trays ≡ true → list_all (is_among names) purges ≡ true
    → list_all (is_open_location names trays purges) (keys_of ms) ≡ true
    → list_all (machine.is_feeder_location names (map (loc_of names) trays) (map (loc_of names) purges)) (feeders_of names stocks ms) ≡ true
feeder_locations names trays purges stocks no_members kt kp test = refl
feeder_locations names trays purges stocks (member k d ms) kt kp test =
    let (here, rest) = and_parts (is_open_location names trays purges k) (list_all (is_open_location names trays purges) (keys_of ms)) test in
    let p = open_parts names trays purges k here in
    rw (place_known names k p.0, loc_among names trays k kt p.0, p.1, loc_among names purges k kp p.0, p.2, feeder_locations names trays purges stocks ms kt kp rest)

pub feeder_names_are : (names : List (List ℕ)) (stocks ms : Members) → list_all (is_among names) (keys_of ms) ≡ true → machine.feeder_names names (feeders_of names stocks ms) ≡ keys_of ms
feeder_names_are names stocks no_members known = refl
feeder_names_are names stocks (member k d ms) known =
    let here : is_among names k ≡ true = grind arith in
    rw (place_named names k here, feeder_names_are names stocks ms (grind arith))

-- ---- resources

pub resource_names : (modules : List (List ℕ)) (gaps ms : Members) → map (λ r. r.name) (resources_of modules gaps ms) ≡ keys_of ms
resource_names modules gaps no_members = refl
resource_names modules gaps (member k d ms) = ap (λ t. k ∷ t) (resource_names modules gaps ms)

pub resource_modules_known : (modules : List (List ℕ)) (gaps ms : Members) → list_all (is_one_of modules) (data_of ms) ≡ true → list_all (λ r. nat_lt r.module.0 (length modules)) (resources_of modules gaps ms) ≡ true
resource_modules_known modules gaps no_members known = refl
resource_modules_known modules gaps (member k d ms) known =
    let here : is_one_of modules d ≡ true = grind arith in
    rw (place_known modules (text_of d) (one_of modules d here), resource_modules_known modules gaps ms (grind arith))

pub sound_resources : (modules : List (List ℕ)) (gaps ms : Members) → list_all (is_one_of modules) (data_of ms) ≡ true → machine.do_names_rise (keys_of ms) ≡ true → machine.are_resources modules (resources_of modules gaps ms) ≡ true
sound_resources modules gaps ms known rise = rw (resource_modules_known modules gaps ms known, resource_names modules gaps ms, rise)
