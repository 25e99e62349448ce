-- The actions and holds that are printed for a machine keep the rules on them.
use Rattle.std.proofs.Common.{◌≡◌, ℕ, ◌<◌, Bool, true, false, not, ◌&&◌, List, [], ◌∷◌, length, map, refl, ap, arith}
use Rattle.std.specs.Prelude.{nat_lt, nat_le, pos, codes}
use Rattle.std.specs.List.{list_all}
use Rattle.std.proofs.lemmas.Bool.{and_parts}
use Rattle.std.proofs.lemmas.Bool.Decides.{nat_tests}
use Rattle.std.proofs.lemmas.Int.{ints}
use Rattle.std.proofs.lemmas.List.{length-map}
use Rattle.tp_base.specs.NameText.{is_name_text}
use Rattle.toml.specs.Data.{Data, string, integer}
use Rattle.toml.specs.View.{items_of}
use Rattle.tp_machine.specs.Rules as machine
use Rattle.tp_machine.specs.declared.parts.Action.{Action}
use Rattle.tp_machine.specs.declared.parts.Anchor.{Anchor}
use Rattle.tp_machine.specs.declared.parts.Anchor.TheVariants.{Start, End}
use Rattle.tp_machine.specs.declared.parts.HoldRule.{HoldRule}
use Rattle.tp_machine.specs.declared.parts.LocId.{LocId}
use Rattle.tp_machine.specs.declared.parts.Resource.{Resource}
use Rattle.tp_machine_text.specs.Words.{values_of, text_at, is_table, is_whole, is_one_of, are_different, are_from}
use Rattle.tp_machine_text.specs.Keys.{action_keys, anchors, kinds}
use Rattle.tp_machine_text.specs.ActionRules.{are_keys_among, is_named, is_of_module, has_ends, is_way, has_durations, has_prints}
use Rattle.tp_machine_text.specs.HoldRules.{is_hold, has_holds, begins_in_action, begins_all, is_filled, fills_all}
use Rattle.tp_machine_text.specs.Printed.{is_location, is_of_resource, is_known, loc_names, anchor_text, hold_data, kind_words, action_data}
use Rattle.tp_machine_text.proofs.Back.{anchor_back, at_known, holds_back}
use Rattle.tp_machine_text.proofs.OwnNumbers.{all_held, knows}
use Rattle.tp_machine_text.proofs.HoldsFacts.{holds_differ}
use Rattle.tp_machine_text.proofs.PrintedLocations.{among_back}
use Rattle.tp_machine_text.proofs.Seen.{values_of-items}

-- what is known of each of a list passes another test, as it is printed
pub all_printed : {X : Type 0} (f : X → Data) (p q : X → Bool) (r : Data → Bool) (xs : List X) → ((x : X) → p x ≡ true → q x ≡ true → r (f x) ≡ true) → list_all p xs ≡ true → list_all q xs ≡ true → list_all r (map f xs) ≡ true
all_printed f p q r [] each ps qs = refl
all_printed f p q r (x ∷ xs) each ps qs =
    let (p_here, p_rest) = and_parts (p x) (list_all p xs) ps in
    let (q_here, q_rest) = and_parts (q x) (list_all q xs) qs in
    rw (each x p_here q_here, all_printed f p q r xs each p_rest q_rest)

module _ (ls ms rs : List (List ℕ)) where
  pub table_printed : (a : Action) → is_table (action_data ls ms rs a) ≡ true
  unfolding action_data
  table_printed a = refl

  pub keys_printed : (a : Action) → are_keys_among action_keys (action_data ls ms rs a) ≡ true
  unfolding action_data
  keys_printed a = refl

  pub name_printed : (a : Action) → is_name_text a.name ≡ true → is_named (action_data ls ms rs a) ≡ true
  unfolding action_data is_named
  name_printed a named = named

  pub names_printed : (deeds : List Action) → map (text_at (codes "name")) (map (action_data ls ms rs) deeds) ≡ map (λ a. a.name) deeds
  unfolding action_data
  names_printed [] = refl
  names_printed (a ∷ deeds) = ap (λ ns. a.name ∷ ns) (names_printed deeds)

  pub module_printed : (a : Action) → is_known (length ls) (length ms) (length rs) a ≡ true → is_of_module ms (action_data ls ms rs a) ≡ true
  unfolding action_data is_of_module
  module_printed a known = at_known ms a.module.0 (knows (length ls) (length ms) (length rs) a known).of_module

  pub ends_printed : (a : Action) → is_known (length ls) (length ms) (length rs) a ≡ true → has_ends ls (action_data ls ms rs a) ≡ true
  unfolding action_data has_ends
  ends_printed a known =
      let k = knows (length ls) (length ms) (length rs) a known in
      rw (at_known ls a.from.0 k.from, at_known ls a.to.0 k.to)

  pub way_printed : (trays purges feeders : List LocId) → are_different ls ≡ true → list_all (is_location (length ls)) trays ≡ true → list_all (is_location (length ls)) purges ≡ true → list_all (is_location (length ls)) feeders ≡ true
      → (a : Action) → is_known (length ls) (length ms) (length rs) a ≡ true → (not (machine.is_among trays a.from) && not (machine.is_among purges a.from) && not (machine.is_among feeders a.to)) ≡ true
      → is_way (loc_names ls trays) (loc_names ls purges) (loc_names ls feeders) (action_data ls ms rs a) ≡ true
  unfolding action_data is_way
  way_printed trays purges feeders dl kt kp kf a known way =
      let k = knows (length ls) (length ms) (length rs) a known in
      rw (among_back ls trays a.from dl kt k.from, among_back ls purges a.from dl kp k.from, among_back ls feeders a.to dl kf k.to) way

  pub durations_printed : (a : Action) → machine.has_durations a ≡ true → has_durations (action_data ls ms rs a) ≡ true
  unfolding action_data has_durations
  durations_printed a test = grind (arith, ints, nat_tests)

  kinds_printed : (mono colour : Bool) → are_from kinds (values_of (items_of (map string (kind_words mono colour)))) ≡ true
  kinds_printed true true = refl
  kinds_printed true false = refl
  kinds_printed false true = refl
  kinds_printed false false = refl

  pub prints_printed : (a : Action) → has_prints (action_data ls ms rs a) ≡ true
  unfolding action_data has_prints
  prints_printed a = rw (kinds_printed a.mono a.colour)

-- ---- holds

anchor_printed : (a : Anchor) → is_one_of anchors (string (anchor_text a)) ≡ true
anchor_printed Start = refl
anchor_printed End = refl

-- the parts of the test of a hold
pub record IsSoundHold (rs : List Resource) (a : Action) (h : HoldRule) : Type 0 where
  pub known : nat_lt h.resource.0 (length rs) ≡ true
  pub begin_off : machine.is_offset h.begin_off ≡ true
  pub end_off : machine.is_offset h.end_off ≡ true
  pub begins : machine.begins_within a.least h.begin h.begin_off ≡ true
  pub fills : machine.is_never_empty a.least a.most h.begin h.begin_off h.end h.end_off ≡ true

sound_parts : (rs : List Resource) (a : Action) (h : HoldRule) → machine.is_sound_hold rs a h ≡ true → IsSoundHold rs a h
sound_parts rs a h test =
    let (four, fills) = and_parts (nat_lt h.resource.0 (length rs) && machine.is_offset h.begin_off && machine.is_offset h.end_off && machine.begins_within a.least h.begin h.begin_off)
    (machine.is_never_empty a.least a.most h.begin h.begin_off h.end h.end_off) test in
    let (three, begins) = and_parts (nat_lt h.resource.0 (length rs) && machine.is_offset h.begin_off && machine.is_offset h.end_off) (machine.begins_within a.least h.begin h.begin_off) four in
    let (two, end_off) = and_parts (nat_lt h.resource.0 (length rs) && machine.is_offset h.begin_off) (machine.is_offset h.end_off) three in
    let (known, begin_off) = and_parts (nat_lt h.resource.0 (length rs)) (machine.is_offset h.begin_off) two in
    record { known = known; begin_off = begin_off; end_off = end_off; begins = begins; fills = fills }

lt_of : (n m : ℕ) → nat_lt n m ≡ true → n < m
lt_of n m test = grind (arith, nat_tests)

mode_printed : (mode : ℕ) → nat_le mode 255 ≡ true → is_whole (pos 0) (pos 255) (integer (pos mode)) ≡ true
mode_printed mode small = grind (arith, ints, nat_tests)

module _ (names : List (List ℕ)) (rs : List Resource) (same : length names ≡ length rs) (a : Action) where
  hold_printed : (h : HoldRule) → machine.is_sound_hold rs a h ≡ true → nat_le h.mode 255 ≡ true → is_hold names (hold_data names h) ≡ true
  unfolding hold_data is_hold
  hold_printed h test mode =
      let s = sound_parts rs a h test in
      let within : h.resource.0 < length names = omega (arith, same, lt_of h.resource.0 (length rs) s.known) in
      rw (at_known names h.resource.0 within, anchor_printed h.begin, s.begin_off, anchor_printed h.end, s.end_off, mode_printed h.mode mode)

  begin_printed : (h : HoldRule) → machine.is_sound_hold rs a h ≡ true → begins_in_action a.least (hold_data names h) ≡ true
  unfolding hold_data begins_in_action
  begin_printed h test = rw (anchor_back h.begin) (sound_parts rs a h test).begins

  fill_printed : (h : HoldRule) → machine.is_sound_hold rs a h ≡ true → is_filled a.least a.most (hold_data names h) ≡ true
  unfolding hold_data is_filled
  fill_printed h test = rw (anchor_back h.begin, anchor_back h.end) (sound_parts rs a h test).fills

  all_of : (r : Data → Bool) → ((h : HoldRule) → machine.is_sound_hold rs a h ≡ true → r (hold_data names h) ≡ true) → (hs : List HoldRule) → list_all (machine.is_sound_hold rs a) hs ≡ true → list_all r (map (hold_data names) hs) ≡ true
  all_of r each hs sound = all_printed (hold_data names) (machine.is_sound_hold rs a) (machine.is_sound_hold rs a) r hs (λ h p q. each h p) sound sound

  sound_of : machine.has_holds rs a ≡ true → list_all (machine.is_sound_hold rs a) a.holds ≡ true
  sound_of held = (and_parts (list_all (machine.is_sound_hold rs a) a.holds) (machine.do_holds_differ a.holds) held).0

  pub holds_printed : (ls ms : List (List ℕ)) → are_different names ≡ true → machine.has_holds rs a ≡ true → nat_le (length a.holds) 4 ≡ true → machine.has_modes a ≡ true → has_holds names (action_data ls ms names a) ≡ true
  unfolding action_data has_holds
  holds_printed ls ms dn held few modes =
      let (sound, differ) = and_parts (list_all (machine.is_sound_hold rs a) a.holds) (machine.do_holds_differ a.holds) held in
      let all = all_printed (hold_data names) (machine.is_sound_hold rs a) (λ h. nat_le h.mode 255) (is_hold names) a.holds hold_printed sound modes in
      let known : list_all (is_of_resource (length names)) a.holds ≡ true = rw same (all_held rs a a.holds sound) in
      rw (
        values_of-items (map (hold_data names) a.holds),
        length-map a.holds (hold_data names),
        few,
        all,
        ← holds_differ names (map (hold_data names) a.holds) all,
        holds_back names a.holds dn known,
        differ,
      )

  pub begins_printed : (ls ms : List (List ℕ)) → machine.has_holds rs a ≡ true → begins_all (action_data ls ms names a) ≡ true
  unfolding action_data
  begins_printed ls ms held = rw (values_of-items (map (hold_data names) a.holds)) (all_of (begins_in_action a.least) begin_printed a.holds (sound_of held))

  pub fills_printed : (ls ms : List (List ℕ)) → machine.has_holds rs a ≡ true → fills_all (action_data ls ms names a) ≡ true
  unfolding action_data
  fills_printed ls ms held = rw (values_of-items (map (hold_data names) a.holds)) (all_of (is_filled a.least a.most) fill_printed a.holds (sound_of held))
