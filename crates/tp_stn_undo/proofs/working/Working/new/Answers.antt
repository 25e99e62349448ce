use Rattle.std.proofs.Common.{arith, ◌∙◌, ℕ, Bool, List, length, slice_index, false, ap}
use Rattle.std.proofs.lemmas.List.{length-replicate}
use Rattle.tp_stn_undo.specs.Flags.{flag}
use Rattle.tp_stn_undo.proofs.LiveFacts.{all_same}
use Rattle.tp_stn_undo.proofs.working.Working.new.Goals as goal

pub returns-clause-capacity : goal.returns-clause-capacity
returns-clause-capacity c =
    let lf = ap length c.in_ok-new.ensures.flags ∙ length-replicate c.args.points false in
    let r = c.in_ok-new-2.ensures.capacity in
    record { waits = omega arith; noted = omega arith; path = c.in_ok-with_capacity.ensures.capacity; places = c.in_ok-with_capacity-2.ensures.capacity }

pub returns-clause-rest : goal.returns-clause-rest
returns-clause-rest c = record {
  idle = λ v. ap (λ (fs : List Bool). flag fs v) c.in_ok-new.ensures.flags ∙ all_same c.args.points v false;
  none = c.in_ok-new.ensures.none;
  unchanged = c.in_ok-new-2.ensures.entries;
  zeros = λ v. ap (λ (ps : List ℕ). slice_index ps v) c.in_ok-with_capacity-2.ensures.items;
}
