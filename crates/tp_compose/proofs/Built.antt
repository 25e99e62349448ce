-- The flat table as it is put together.
use Rattle.std.proofs.Common.{◌≡◌}
use Rattle.std.specs.Prelude.{codes, pos}
use Rattle.toml.specs.Data.{Data, integer, array, table, Members, no_members, get_member}
use Rattle.toml.specs.View.{items_of}
use Rattle.tp_machine_text.specs.Words.{keys_of}
use Rattle.tp_machine_text.specs.Printed.{put_member, texts_data}
use Rattle.tp_compose.specs.Racks.{parts}
use Rattle.tp_compose.specs.Flat.{put_found, locations, end_locations, feeder_table, resource_table, actions, flat_parts, flat_by}

pub flat_built : (own firsts r : Members) (two : Data) (t0 t1 t2 t3 t4 t5 : Members) → t0 ≡ no_members → two ≡ integer (pos 2) → t1 ≡ put_member (codes "format") two t0
    → t2 ≡ put_member (codes "purge") (texts_data (end_locations own firsts (codes "purge") r)) (put_member (codes "trays") (texts_data (end_locations own firsts (codes "trays") r))
    (put_member (codes "modules") (texts_data (keys_of (parts r))) (put_member (codes "locations") (array (items_of (locations firsts r))) t1)))
    → t3 ≡ put_member (codes "resources") (table (resource_table r)) (put_member (codes "feeders") (table (feeder_table own firsts r)) t2)
    → t4 ≡ put_member (codes "actions") (array (items_of (actions own firsts r))) t3
    → t5 ≡ put_found (codes "budget") (get_member (codes "budget") r) (put_found (codes "window") (get_member (codes "window") r) (put_found (codes "lead") (get_member (codes "lead") r) t4))
    → t5 ≡ flat_by own firsts r
unfolding flat_parts
flat_built own firsts r two t0 t1 t2 t3 t4 t5 none is_two format placed supplied acted numbered = rw (numbered, acted, supplied, placed, format, is_two, none)
