-- What stands in the flat table of a rack.
use Rattle.std.proofs.Common.{◌≡◌, ℕ, false, List, map, Option, Some, None, refl, ap, ◌∙◌}
use Rattle.std.specs.Prelude.{codes}
use Rattle.std.specs.Str.{bytes_eq}
use Rattle.toml.specs.Data.{Data, string, integer, float, boolean, datetime, array, table, Members, get_member, get, as_table}
use Rattle.tp_machine_text.specs.Words.{elements_in, keys_of, members_of, members_at, table_in, text_of, text_in, text_at, is_among}
use Rattle.tp_machine_text.specs.Keys as text
use Rattle.tp_machine_text.specs.Printed.{put_member}
use Rattle.tp_machine_text.specs.TheMachine.{loc_of, action_of, truth_in}
use Rattle.tp_machine_text.proofs.Back.{texts_back}
use Rattle.tp_machine_text.proofs.Seen.{values_of-items}
use Rattle.tp_compose.specs.Racks.{parts, dotted, hyphened, own_names, first_ends, location_by}
use Rattle.tp_compose.specs.Flat.{put_found, end_locations, feeder_table, put_holds, flat_action, actions, flat_parts, flat}
use Rattle.tp_compose.specs.Walks.{work_of}
use Rattle.tp_compose.proofs.Puts.{get_put, get_put_other, get_found_other}

module _ (r : Members) where
  abbrev own : Members
  own = own_names r

  abbrev firsts : Members
  firsts = first_ends r

  other : (key : List ℕ) → bytes_eq key (codes "budget") ≡ false → bytes_eq key (codes "window") ≡ false → bytes_eq key (codes "lead") ≡ false → get_member key (flat r) ≡ get_member key (flat_parts own firsts r)
  unfolding flat
  other key b w l =
      let leads = put_found (codes "lead") (get_member (codes "lead") r) (flat_parts own firsts r) in
      let windows = put_found (codes "window") (get_member (codes "window") r) leads in
      get_found_other key (codes "budget") (get_member (codes "budget") r) windows b
      ∙ get_found_other key (codes "window") (get_member (codes "window") r) leads w
      ∙ get_found_other key (codes "lead") (get_member (codes "lead") r) (flat_parts own firsts r) l

  pub trays_are : text.trays (flat r) ≡ end_locations own firsts (codes "trays") r
  unfolding flat_parts
  trays_are = ap (λ o. map text_of (elements_in o)) (other (codes "trays") refl refl refl) ∙ texts_back (end_locations own firsts (codes "trays") r)

  pub modules_are : text.modules (flat r) ≡ keys_of (parts r)
  unfolding flat_parts
  modules_are = ap (λ o. map text_of (elements_in o)) (other (codes "modules") refl refl refl) ∙ texts_back (keys_of (parts r))

  pub feeders_are : members_at (codes "feeders") (flat r) ≡ feeder_table own firsts r
  unfolding flat_parts
  feeders_are = ap (λ o. members_of (table_in o)) (other (codes "feeders") refl refl refl)

  pub actions_are : text.actions (flat r) ≡ actions own firsts r
  unfolding flat_parts
  actions_are = ap elements_in (other (codes "actions") refl refl refl) ∙ values_of-items (actions own firsts r)

-- ---- an action of a part

at_table : (key : List ℕ) (a : Data) → get_member key (members_of (as_table a)) ≡ get key a
at_table key (string text) = refl
at_table key (integer z) = refl
at_table key (float x) = refl
at_table key (boolean b) = refl
at_table key (datetime t) = refl
at_table key (array ds) = refl
at_table key (table ms) = refl

past_holds : (key p : List ℕ) (o : Option Data) (ms : Members) → bytes_eq key (codes "holds") ≡ false → get_member key (put_holds p o ms) ≡ get_member key ms
past_holds key p None ms apart = refl
past_holds key p (Some d) ms apart = get_put_other key (codes "holds") _ ms apart

module _ (own firsts : Members) (p : List ℕ) (a : Data) where
  abbrev from_put : Data
  from_put = string (location_by own firsts (dotted p (text_at (codes "from") a)))

  abbrev to_put : Data
  to_put = string (location_by own firsts (dotted p (text_at (codes "to") a)))

  abbrev named : Members
  named = put_member (codes "name") (string (hyphened p (text_at (codes "name") a))) (members_of (as_table a))

  abbrev moduled : Members
  moduled = put_member (codes "module") (string p) named

  abbrev begun : Members
  begun = put_member (codes "from") from_put moduled

  abbrev ended : Members
  ended = put_member (codes "to") to_put begun

  at_action : (key : List ℕ) → bytes_eq key (codes "holds") ≡ false → get key (flat_action own firsts p a) ≡ get_member key ended
  unfolding flat_action
  at_action key apart = past_holds key p (get (codes "holds") a) ended apart

  at_named : (key : List ℕ) → bytes_eq key (codes "holds") ≡ false → bytes_eq key (codes "to") ≡ false → bytes_eq key (codes "from") ≡ false → bytes_eq key (codes "module") ≡ false
      → get key (flat_action own firsts p a) ≡ get_member key named
  at_named key h t f m =
      at_action key h ∙ get_put_other key (codes "to") to_put begun t ∙ get_put_other key (codes "from") from_put moduled f ∙ get_put_other key (codes "module") (string p) named m

  as_it_is : (key : List ℕ) → bytes_eq key (codes "holds") ≡ false → bytes_eq key (codes "to") ≡ false → bytes_eq key (codes "from") ≡ false → bytes_eq key (codes "module") ≡ false → bytes_eq key (codes "name") ≡ false
      → get key (flat_action own firsts p a) ≡ get key a
  as_it_is key h t f m n = at_named key h t f m ∙ get_put_other key (codes "name") (string (hyphened p (text_at (codes "name") a))) (members_of (as_table a)) n ∙ at_table key a

  pub name_is : text_at (codes "name") (flat_action own firsts p a) ≡ hyphened p (text_at (codes "name") a)
  name_is = ap text_in (at_named (codes "name") refl refl refl refl ∙ get_put (codes "name") (string (hyphened p (text_at (codes "name") a))) (members_of (as_table a)))

  pub to_is : text_at (codes "to") (flat_action own firsts p a) ≡ location_by own firsts (dotted p (text_at (codes "to") a))
  to_is = ap text_in (at_action (codes "to") refl ∙ get_put (codes "to") to_put begun)

  pub from_is : text_at (codes "from") (flat_action own firsts p a) ≡ location_by own firsts (dotted p (text_at (codes "from") a))
  from_is = ap text_in (at_action (codes "from") refl ∙ get_put_other (codes "from") (codes "to") to_put begun refl ∙ get_put (codes "from") from_put moduled)

  module _ (ls ms rs : List (List ℕ)) where
    pub action_name : (action_of ls ms rs (flat_action own firsts p a)).name ≡ hyphened p (text_at (codes "name") a)
    unfolding action_of
    action_name = name_is

    pub action_from : (action_of ls ms rs (flat_action own firsts p a)).from ≡ loc_of ls (location_by own firsts (dotted p (text_at (codes "from") a)))
    unfolding action_of
    action_from = ap (loc_of ls) from_is

    pub action_to : (action_of ls ms rs (flat_action own firsts p a)).to ≡ loc_of ls (location_by own firsts (dotted p (text_at (codes "to") a)))
    unfolding action_of
    action_to = ap (loc_of ls) to_is

    pub same_mono : (action_of ls ms rs (flat_action own firsts p a)).mono ≡ (work_of a).mono
    unfolding action_of
    same_mono = ap (λ o. is_among (map text_of (elements_in o)) (codes "mono")) (as_it_is (codes "prints") refl refl refl refl refl)

    pub same_colour : (action_of ls ms rs (flat_action own firsts p a)).colour ≡ (work_of a).colour
    unfolding action_of
    same_colour = ap (λ o. is_among (map text_of (elements_in o)) (codes "colour")) (as_it_is (codes "prints") refl refl refl refl refl)

    pub same_flip : (action_of ls ms rs (flat_action own firsts p a)).flip ≡ (work_of a).flip
    unfolding action_of
    same_flip = ap truth_in (as_it_is (codes "flip") refl refl refl refl refl)

-- where no side counts, an action leads from the one place to itself
pub work_from : (a : Data) → (work_of a).from ≡ record { 0 = 0 }
unfolding action_of
work_from a = refl

pub work_to : (a : Data) → (work_of a).to ≡ record { 0 = 0 }
unfolding action_of
work_to a = refl
