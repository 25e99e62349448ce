-- What a live network keeps true of its fields.
use Rattle.std.specs.Prelude.{◌+◌, ◌*◌, ◌≤◌, ◌<◌, ◌^◌, List, length, vec_capacity}
use Rattle.std.specs.List.{All}
use Rattle.tp_stn_undo.specs.declared.live_net.LiveNet.TheInside.{Inside}
use Rattle.tp_stn_undo.specs.States.{Core, IsSound, net_of_core, edges_of, causes_of}
use Rattle.tp_stn_undo.specs.Marks.{past_of, nets_of, AreStacked, AreSaved, AreLinks}
use Rattle.tp_stn_undo.specs.LiveState.{LiveState}
use Rattle.tp_stn_undo.specs.WorkingRoom.{HasWorkingCapacity, AtRest}

abbrev pub core_in : Inside → Core
core_in a = record { states = a.states.items; caps = a.caps.items; links = a.links.items }

abbrev pub past_in : Inside → List Core
past_in a = past_of a.marks.items a.working.changes.older a.states.items a.caps.items a.links.items

abbrev pub state_of : Inside → LiveState
state_of a = record {
  net = net_of_core (core_in a);
  past = nets_of (past_in a);
  causes = causes_of (edges_of a.links.items) a.states.items;
  max_points = a.max_points;
  max_edges = a.max_edges;
  max_marks = a.max_marks;
  kept = a.kept;
  path = a.working.path.items;
}

-- room for all that the network was made for
pub record HasCapacity (a : Inside) : Type 0 where
  pub states : a.max_points ≤ vec_capacity a.states
  pub caps : a.max_points ≤ vec_capacity a.caps
  pub links : a.max_edges ≤ vec_capacity a.links
  pub heads : a.max_points ≤ vec_capacity a.heads
  pub working : HasWorkingCapacity a.max_points a.working
  pub saved : (a.max_marks + 1) * a.working.changes.capacity ≤ a.working.changes.most
  pub marks : a.max_marks ≤ vec_capacity a.marks
  pub narrow : a.max_points < 2 ^ 32

pub record IsLive (a : Inside) : Type 0 where
  pub points : length a.states.items ≤ a.max_points
  pub edges : length a.links.items ≤ a.max_edges
  pub marks : length a.marks.items ≤ a.max_marks
  pub saved : length a.working.changes.older ≤ length a.marks.items * a.working.changes.capacity
  pub capacity : HasCapacity a
  pub rest : AtRest a.working
  pub stacked : AreStacked a.marks.items (length a.states.items) (length a.links.items) (length a.working.changes.older) a.working.changes.capacity
  pub kept : AreSaved a.marks.items a.working.changes.older (length a.states.items)
  pub linked : AreLinks a.links.items a.heads.items (length a.states.items)
  pub sound : IsSound (core_in a)
  pub past : All IsSound (past_in a)
