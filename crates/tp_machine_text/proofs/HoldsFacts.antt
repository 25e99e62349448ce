-- The holds of a table that keeps the rules.
use Rattle.std.proofs.Common.{◌≡◌, ℕ, true, ◌&&◌, ◌==◌, List, [], ◌∷◌, length, map, refl}
use Rattle.std.specs.Prelude.{nat_le, codes}
use Rattle.std.specs.List.{list_all, list_any}
use Rattle.std.proofs.lemmas.Bool.{and_parts}
use Rattle.toml.specs.Data.{Data, Members, get}
use Rattle.tp_machine.specs.Rules as machine
use Rattle.tp_machine_text.specs.Words.{keys_of, text_at, is_fit, is_array, is_among, are_different}
use Rattle.tp_machine_text.specs.HoldRules.{holds, is_hold, has_holds, begins_in_action, begins_all, is_filled, fills_all, least_of, most_of}
use Rattle.tp_machine_text.specs.TheMachine.{hold_of, action_of, resources_of}
use Rattle.tp_machine_text.proofs.PlaceFacts.{place_known, same_place}
use Rattle.tp_machine_text.proofs.HoldFacts.{held, offset_test}
use Rattle.tp_machine_text.proofs.ActionFacts.{there_known}
use Rattle.tp_machine_text.proofs.NumberFacts.{length_resources}

module _ (locations modules : List (List ℕ)) (gaps ms : Members) where
  sound_hold : (a h : Data) → is_hold (keys_of ms) h ≡ true → begins_in_action (least_of a) h ≡ true → is_filled (least_of a) (most_of a) h ≡ true
      → machine.is_sound_hold (resources_of modules gaps ms) (action_of locations modules (keys_of ms) a) (hold_of (keys_of ms) h) ≡ true
  unfolding begins_in_action is_filled hold_of action_of
  sound_hold a h hold begins filled =
      let k = held (keys_of ms) h hold in
      let r = there_known (keys_of ms) (get (codes "resource") h) k.resource in
      let b = offset_test (codes "begin") h k.begin in
      let e = offset_test (codes "end") h k.end in
      rw (length_resources modules gaps ms, place_known (keys_of ms) (text_at (codes "resource") h) r, b.0, b.1, e.0, e.1, begins, filled)

  sound_holds : (a : Data) (hs : List Data) → list_all (is_hold (keys_of ms)) hs ≡ true → list_all (begins_in_action (least_of a)) hs ≡ true → list_all (is_filled (least_of a) (most_of a)) hs ≡ true
      → list_all (machine.is_sound_hold (resources_of modules gaps ms) (action_of locations modules (keys_of ms) a)) (map (hold_of (keys_of ms)) hs) ≡ true
  sound_holds a [] hold begins filled = refl
  sound_holds a (h ∷ hs) hold begins filled =
      let (hold_here, hold_rest) = and_parts (is_hold (keys_of ms) h) (list_all (is_hold (keys_of ms)) hs) hold in
      let (begins_here, begins_rest) = and_parts (begins_in_action (least_of a) h) (list_all (begins_in_action (least_of a)) hs) begins in
      let (filled_here, filled_rest) = and_parts (is_filled (least_of a) (most_of a) h) (list_all (is_filled (least_of a) (most_of a)) hs) filled in
      rw (sound_hold a h hold_here begins_here filled_here) (sound_holds a hs hold_rest begins_rest filled_rest)

known_resource : (resources : List (List ℕ)) (h : Data) → is_hold resources h ≡ true → is_among resources (text_at (codes "resource") h) ≡ true
known_resource resources h hold = there_known resources (get (codes "resource") h) (held resources h hold).resource

same_any : (resources : List (List ℕ)) (h : Data) (hs : List Data) → is_hold resources h ≡ true → list_all (is_hold resources) hs ≡ true
    → list_any (λ k. k.resource.0 == (hold_of resources h).resource.0) (map (hold_of resources) hs) ≡ is_among (map (text_at (codes "resource")) hs) (text_at (codes "resource") h)
unfolding hold_of
same_any resources h [] hold rest = refl
same_any resources h (k ∷ hs) hold rest =
    let (here, more) = and_parts (is_hold resources k) (list_all (is_hold resources) hs) rest in
    rw (
      same_place resources (text_at (codes "resource") k) (text_at (codes "resource") h) (known_resource resources k here) (known_resource resources h hold),
      same_any resources h hs hold more,
    )

pub holds_differ : (resources : List (List ℕ)) (hs : List Data) → list_all (is_hold resources) hs ≡ true → machine.do_holds_differ (map (hold_of resources) hs) ≡ are_different (map (text_at (codes "resource")) hs)
holds_differ resources [] hold = refl
holds_differ resources (h ∷ hs) hold =
    let (here, rest) = and_parts (is_hold resources h) (list_all (is_hold resources) hs) hold in
    rw (same_any resources h hs here rest, holds_differ resources hs rest)

module _ (locations modules : List (List ℕ)) (gaps ms : Members) where
  action_held : (a : Data) → has_holds (keys_of ms) a ≡ true → begins_all a ≡ true → fills_all a ≡ true
      → machine.has_holds (resources_of modules gaps ms) (action_of locations modules (keys_of ms) a) ≡ true
  unfolding has_holds action_of
  action_held a hold begins filled =
      let (most, differ) = and_parts (is_fit is_array (get (codes "holds") a) && nat_le (length (holds a)) 4 && list_all (is_hold (keys_of ms)) (holds a)) (are_different (map (text_at (codes "resource")) (holds a))) hold in
      let (few, all) = and_parts (is_fit is_array (get (codes "holds") a) && nat_le (length (holds a)) 4) (list_all (is_hold (keys_of ms)) (holds a)) most in
      rw (sound_holds locations modules gaps ms a (holds a) all begins filled, holds_differ (keys_of ms) (holds a) all, differ)

  pub actions_held : (deeds : List Data) → list_all (has_holds (keys_of ms)) deeds ≡ true → list_all begins_all deeds ≡ true → list_all fills_all deeds ≡ true
      → machine.have_holds (resources_of modules gaps ms) (map (action_of locations modules (keys_of ms)) deeds) ≡ true
  actions_held [] hold begins filled = refl
  actions_held (a ∷ deeds) hold begins filled =
      let (hold_here, hold_rest) = and_parts (has_holds (keys_of ms) a) (list_all (has_holds (keys_of ms)) deeds) hold in
      let (begins_here, begins_rest) = and_parts (begins_all a) (list_all begins_all deeds) begins in
      let (filled_here, filled_rest) = and_parts (fills_all a) (list_all fills_all deeds) filled in
      rw (action_held a hold_here begins_here filled_here) (actions_held deeds hold_rest begins_rest filled_rest)
