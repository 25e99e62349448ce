-- The names of a table that keeps the rules are names, and its actions have few holds.
use Rattle.std.proofs.Common.{◌≡◌, ℕ, true, ◌&&◌, List, [], ◌∷◌, length, map, Option, Some, None, refl}
use Rattle.std.specs.Prelude.{nat_le, codes}
use Rattle.std.specs.List.{list_all}
use Rattle.std.proofs.lemmas.Bool.{and_parts}
use Rattle.std.proofs.lemmas.List.{length-map}
use Rattle.tp_base.specs.NameText.{is_name_text}
use Rattle.toml.specs.Data.{Data, string, integer, float, boolean, datetime, array, table, Members, no_members, member, get}
use Rattle.tp_machine.specs.Rules as machine
use Rattle.tp_machine.specs.Rules.{have_few_holds}
use Rattle.tp_machine_text.specs.Words.{keys_of, data_of, text_of, text_in, text_at, is_there, is_fit, is_array, is_name, are_names, are_different}
use Rattle.tp_machine_text.specs.ActionRules.{is_named}
use Rattle.tp_machine_text.specs.HoldRules.{holds, is_hold, has_holds}
use Rattle.tp_machine_text.specs.TheMachine.{feeders_of, resources_of, hold_of, action_of}
use Rattle.tp_machine_text.proofs.ActionFacts.{same_differ}
use Rattle.tp_machine_text.proofs.KeptFacts.{names_parts}

text_named : (d : Data) → is_name d ≡ true → is_name_text (text_of d) ≡ true
text_named (string s) named = named
text_named (integer z) named = cc
text_named (float x) named = cc
text_named (boolean b) named = cc
text_named (datetime t) named = cc
text_named (array ds) named = cc
text_named (table ms) named = cc

texts_named : (ds : List Data) → list_all is_name ds ≡ true → list_all is_name_text (map text_of ds) ≡ true
texts_named [] named = refl
texts_named (d ∷ ds) named =
    let (here, rest) = and_parts (is_name d) (list_all is_name ds) named in
    rw (text_named d here, texts_named ds rest)

pub names_sound : (most : ℕ) (ds : List Data) → are_names most ds ≡ true → machine.are_names (map text_of ds) ≡ true
names_sound most ds test =
    let p = names_parts most ds test in
    rw (texts_named ds p.named, same_differ (map text_of ds), p.differ)

pub media_sound : (names : List (List ℕ)) (stocks ms : Members) → list_all is_name (data_of ms) ≡ true → list_all (λ f. is_name_text f.media) (feeders_of names stocks ms) ≡ true
media_sound names stocks no_members named = refl
media_sound names stocks (member k d ms) named =
    let (here, rest) = and_parts (is_name d) (list_all is_name (data_of ms)) named in
    rw (text_named d here, media_sound names stocks ms rest)

pub resource_names_sound : (modules : List (List ℕ)) (gaps ms : Members) → list_all is_name_text (keys_of ms) ≡ true → list_all (λ r. is_name_text r.name) (resources_of modules gaps ms) ≡ true
resource_names_sound modules gaps no_members named = refl
resource_names_sound modules gaps (member k d ms) named =
    let (here, rest) = and_parts (is_name_text k) (list_all is_name_text (keys_of ms)) named in
    rw (here, resource_names_sound modules gaps ms rest)

there_named : (o : Option Data) → is_there is_name o ≡ true → is_name_text (text_in o) ≡ true
there_named None named = cc
there_named (Some d) named = text_named d named

-- the parts of the test of an action's holds
pub record HeldParts (rs : List (List ℕ)) (a : Data) : Type 0 where
  pub few : nat_le (length (holds a)) 4 ≡ true
  pub all : list_all (is_hold rs) (holds a) ≡ true

pub held_parts : (rs : List (List ℕ)) (a : Data) → has_holds rs a ≡ true → HeldParts rs a
unfolding has_holds
held_parts rs a test =
    let (three, differ) = and_parts (is_fit is_array (get (codes "holds") a) && nat_le (length (holds a)) 4 && list_all (is_hold rs) (holds a)) (are_different (map (text_at (codes "resource")) (holds a))) test in
    let (two, all) = and_parts (is_fit is_array (get (codes "holds") a) && nat_le (length (holds a)) 4) (list_all (is_hold rs) (holds a)) three in
    record { few = (and_parts (is_fit is_array (get (codes "holds") a)) (nat_le (length (holds a)) 4) two).1; all = all }

module _ (ls ms rs : List (List ℕ)) where
  action_named : (a : Data) → is_named a ≡ true → is_name_text (action_of ls ms rs a).name ≡ true
  unfolding is_named action_of
  action_named a named = there_named (get (codes "name") a) named

  pub action_names_sound : (deeds : List Data) → list_all is_named deeds ≡ true → list_all (λ a. is_name_text a.name) (map (action_of ls ms rs) deeds) ≡ true
  action_names_sound [] named = refl
  action_names_sound (a ∷ deeds) named =
      let (here, rest) = and_parts (is_named a) (list_all is_named deeds) named in
      rw (action_named a here, action_names_sound deeds rest)

  few_of : (a : Data) → has_holds rs a ≡ true → nat_le (length (action_of ls ms rs a).holds) 4 ≡ true
  unfolding action_of
  few_of a test = rw (length-map (holds a) (hold_of rs)) (held_parts rs a test).few

  pub few_holds_sound : (deeds : List Data) → list_all (has_holds rs) deeds ≡ true → machine.have_few_holds (map (action_of ls ms rs) deeds) ≡ true
  unfolding have_few_holds
  few_holds_sound [] held = refl
  few_holds_sound (a ∷ deeds) held =
      let (here, rest) = and_parts (has_holds rs a) (list_all (has_holds rs) deeds) held in
      rw (few_of a here, few_holds_sound deeds rest)
