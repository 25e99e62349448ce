-- The locations, feeders and resources that are printed for a machine keep the rules on them.
use Rattle.std.proofs.Common.{◌≡◌, ℕ, ◌<◌, true, not, ◌&&◌, List, [], ◌∷◌, length, map, refl, ap, sym, ◌∙◌, arith}
use Rattle.std.specs.Prelude.{nat_lt, nat_le}
use Rattle.std.specs.List.{list_all}
use Rattle.std.proofs.lemmas.Bool.{and_parts}
use Rattle.std.proofs.lemmas.Bool.Decides.{nat_tests}
use Rattle.std.proofs.lemmas.List.{length-map}
use Rattle.tp_base.specs.NameText.{is_name_text}
use Rattle.toml.specs.Data.{string}
use Rattle.tp_machine.specs.Rules as machine
use Rattle.tp_machine.specs.declared.parts.Feeder.{Feeder}
use Rattle.tp_machine.specs.declared.parts.LocId.{LocId}
use Rattle.tp_machine.specs.declared.parts.Resource.{Resource}
use Rattle.tp_machine_text.specs.Words.{data_of, is_name, is_among, is_one_of, is_apart, is_count, are_names, are_from, are_different}
use Rattle.tp_machine_text.specs.SupplyRules.{is_open_location}
use Rattle.tp_machine_text.specs.Printed.{is_location, name_at, loc_names, feeder_members, resource_members}
use Rattle.tp_machine_text.proofs.Back.{at_known, is_within, locs_back, place_back, same_texts}
use Rattle.tp_machine_text.proofs.PlaceFacts.{loc_among, locs_differ}
use Rattle.tp_machine_text.proofs.Seen.{list_all-map}

-- names as texts
pub names_printed : (most : ℕ) (names : List (List ℕ)) → is_count 1 most (length names) ≡ true → list_all is_name_text names ≡ true → are_different names ≡ true → are_names most (map string names) ≡ true
names_printed most names count named differ =
    rw (length-map names string, count, list_all-map is_name string names, named, same_texts names, differ)

pub texts_printed : (names xs : List (List ℕ)) → list_all (is_among names) xs ≡ true → are_different xs ≡ true → are_from names (map string xs) ≡ true
texts_printed names xs known differ = rw (list_all-map (is_one_of names) string xs, known, same_texts xs, differ)

pub locs_among : (names : List (List ℕ)) (locs : List LocId) → list_all (is_location (length names)) locs ≡ true → list_all (is_among names) (loc_names names locs) ≡ true
locs_among names [] known = refl
locs_among names (l ∷ locs) known =
    let (here, rest) = and_parts (is_location (length names) l) (list_all (is_location (length names)) locs) known in
    rw (at_known names l.0 (is_within (length names) l here), locs_among names locs rest)

pub locs_apart : (names : List (List ℕ)) (locs : List LocId) → are_different names ≡ true → list_all (is_location (length names)) locs ≡ true → are_different (loc_names names locs) ≡ machine.are_different locs
locs_apart names locs differ known = sym (locs_differ names (loc_names names locs) (locs_among names locs known)) ∙ ap machine.are_different (locs_back names locs differ known)

-- a location is among some by its name
pub among_back : (names : List (List ℕ)) (locs : List LocId) (l : LocId) → are_different names ≡ true → list_all (is_location (length names)) locs ≡ true → l.0 < length names → is_among (loc_names names locs) (name_at names l.0) ≡ machine.is_among locs l
among_back names locs l differ known within =
    sym (loc_among names (loc_names names locs) (name_at names l.0) (locs_among names locs known) (at_known names l.0 within))
    ∙ (λ k. machine.is_among (locs_back names locs differ known k) (record { 0 = place_back names l.0 differ within k }))

pub trays_printed : (names : List (List ℕ)) (trays : List LocId) → are_different names ≡ true → list_all (is_location (length names)) trays ≡ true → nat_le 1 (length trays) ≡ true → machine.are_different trays ≡ true
    → (nat_le 1 (length (map string (loc_names names trays))) && are_from names (map string (loc_names names trays))) ≡ true
trays_printed names trays dn known some differ =
    rw (length-map (loc_names names trays) string, length-map trays (λ (l : LocId). name_at names l.0), some)
    (texts_printed names (loc_names names trays) (locs_among names trays known) (locs_apart names trays dn known ∙ differ))

-- none of the purge trays is a tray
pub purges_apart : (names : List (List ℕ)) (trays purges : List LocId) → are_different names ≡ true → list_all (is_location (length names)) trays ≡ true → list_all (is_location (length names)) purges ≡ true
    → list_all (λ p. not (machine.is_among trays p)) purges ≡ true → list_all (is_apart (loc_names names trays)) (map string (loc_names names purges)) ≡ true
purges_apart names trays [] dn kt kp apart = refl
purges_apart names trays (p ∷ purges) dn kt kp apart =
    let (here, rest) = and_parts (is_location (length names) p) (list_all (is_location (length names)) purges) kp in
    let (none, more) = and_parts (not (machine.is_among trays p)) (list_all (λ q. not (machine.is_among trays q)) purges) apart in
    rw (among_back names trays p dn kt (is_within (length names) p here), none, purges_apart names trays purges dn kt rest more)

lt_of : (n m : ℕ) → nat_lt n m ≡ true → n < m
lt_of n m test = grind (arith, nat_tests)

pub feeders_printed : (names : List (List ℕ)) (trays purges : List LocId) (fs : List Feeder) → are_different names ≡ true → list_all (is_location (length names)) trays ≡ true → list_all (is_location (length names)) purges ≡ true
    → list_all (machine.is_feeder_location names trays purges) fs ≡ true → list_all (is_open_location names (loc_names names trays) (loc_names names purges)) (map (λ f. name_at names f.loc.0) fs) ≡ true
feeders_printed names trays purges [] dn kt kp test = refl
feeders_printed names trays purges (f ∷ fs) dn kt kp test =
    let (here, rest) = and_parts (machine.is_feeder_location names trays purges f) (list_all (machine.is_feeder_location names trays purges) fs) test in
    let (first, no_purge) = and_parts (nat_lt f.loc.0 (length names) && not (machine.is_among trays f.loc)) (not (machine.is_among purges f.loc)) here in
    let (known, no_tray) = and_parts (nat_lt f.loc.0 (length names)) (not (machine.is_among trays f.loc)) first in
    let within = lt_of f.loc.0 (length names) known in
    rw (at_known names f.loc.0 within, among_back names trays f.loc dn kt within, no_tray, among_back names purges f.loc dn kp within, no_purge, feeders_printed names trays purges fs dn kt kp rest)

pub media_printed : (names : List (List ℕ)) (fs : List Feeder) → list_all (λ f. is_name_text f.media) fs ≡ true → list_all is_name (data_of (feeder_members names fs)) ≡ true
media_printed names [] named = refl
media_printed names (f ∷ fs) named =
    let (here, rest) = and_parts (is_name_text f.media) (list_all (λ g. is_name_text g.media) fs) named in
    rw (here, media_printed names fs rest)

pub modules_printed : (modules : List (List ℕ)) (rs : List Resource) → list_all (λ r. nat_lt r.module.0 (length modules)) rs ≡ true → list_all (is_one_of modules) (data_of (resource_members modules rs)) ≡ true
modules_printed modules [] known = refl
modules_printed modules (r ∷ rs) known =
    let (here, rest) = and_parts (nat_lt r.module.0 (length modules)) (list_all (λ r. nat_lt r.module.0 (length modules)) rs) known in
    rw (at_known modules r.module.0 (lt_of r.module.0 (length modules) here), modules_printed modules rs rest)
