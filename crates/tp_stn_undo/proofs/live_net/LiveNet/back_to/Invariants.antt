use Rattle.std.proofs.Common.{◌≡◌, ◌≤◌, length, take, Some}
use Rattle.std.specs.List.{slice_get}
use Rattle.tp_base.specs.Net.{Net}
use Rattle.tp_stn_undo.specs.LiveState.{untouched_of}
use Rattle.tp_stn_undo.proofs.live_net.LiveNet.back_to.Given as goal

abbrev pub invariant-marks : goal.invariant-marks
invariant-marks l = record {
  left : l.place ≤ length l.self.past;
  content : (net : Net) → slice_get l.initial.self.past (length l.self.past) ≡ Some net → net ≡ l.self.net;
  past : l.self.past ≡ take (length l.self.past) l.initial.self.past;
  untouched : untouched_of l.self ≡ untouched_of l.initial.self;
  capacity : l.self.max_marks ≡ l.initial.self.max_marks;
}

abbrev pub decreases-marks : goal.decreases-marks
decreases-marks l = length l.self.past
