-- What a plain network keeps true of its fields.
use Rattle.std.specs.Prelude.{◌≡◌, ◌*◌, ◌≤◌, List, length, slice_index, vec_capacity}
use Rattle.std.specs.List.{All}
use Rattle.tp_base.specs.Net.{Net, IsLeast}
use Rattle.tp_stn_core.specs.declared.plain_net.PlainNet.TheInside.{Inside}
use Rattle.tp_stn_core.specs.Marks.{past_of, AreStacked, AreSaved}
use Rattle.tp_stn_core.specs.PlainState.{PlainState}
use Rattle.tp_stn_core.specs.Sound.{IsSound}
use Rattle.tp_stn_core.specs.WorkingRoom.{HasWorkingCapacity}

abbrev pub net_in : Inside → Net
net_in a = record { lows = a.lows.items; caps = a.caps.items; edges = a.edges.items }

abbrev pub past_in : Inside → List Net
past_in a = past_of a.marks.items a.saved.items a.lows.items a.caps.items a.edges.items

abbrev pub state_of : Inside → PlainState
state_of a = record {
  net = net_in a;
  past = past_in a;
  max_points = a.max_points;
  max_edges = a.max_edges;
  max_marks = a.max_marks;
  kept = a.kept;
  path = a.path.items;
}

-- room for all that the network was made for
pub record HasCapacity (a : Inside) : Type 0 where
  pub lows : a.max_points ≤ vec_capacity a.lows
  pub caps : a.max_points ≤ vec_capacity a.caps
  pub edges : a.max_edges ≤ vec_capacity a.edges
  pub times : a.max_points ≤ vec_capacity a.times
  pub working : HasWorkingCapacity a.max_points a.working
  pub path : a.max_points ≤ vec_capacity a.path
  pub saved : a.max_points * a.max_marks ≤ vec_capacity a.saved
  pub newest : a.max_points ≤ vec_capacity a.newest
  pub marks : a.max_marks ≤ vec_capacity a.marks

pub record IsPlain (a : Inside) : Type 0 where
  pub points : length a.lows.items ≤ a.max_points
  pub edges : length a.edges.items ≤ a.max_edges
  pub marks : length a.marks.items ≤ a.max_marks
  pub saved : length a.saved.items ≤ length a.marks.items * a.max_points
  pub capacity : HasCapacity a
  pub stacked : AreStacked a.marks.items (length a.lows.items) (length a.edges.items) (length a.saved.items) a.max_points
  pub links : AreSaved a.marks.items a.saved.items a.newest.items (length a.lows.items)
  pub sound : IsSound (net_in a)
  pub times : length a.times.items ≡ length a.lows.items
  pub least : IsLeast (net_in a) (slice_index a.times.items)
  pub past : All IsSound (past_in a)
