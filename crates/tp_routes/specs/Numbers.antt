-- States by number: eight for each location, one for each side that can be up and each two marks of sides done.
use Rattle.std.specs.Prelude.{ℕ, ◌+◌, ◌*◌, ◌/◌, ◌%◌, ◌==◌, Bool, true, false, if◌then◌else◌}
use Rattle.tp_machine.specs.declared.parts.Face.{Face}
use Rattle.tp_machine.specs.declared.parts.Face.TheVariants.{Front, Back}
use Rattle.tp_machine.specs.declared.parts.State.{State}

abbrev pub side_bit : Face → ℕ
side_bit Front = 0
side_bit Back = 1

abbrev pub done_bit : Bool → ℕ
done_bit false = 0
done_bit true = 1

abbrev pub number_of : State → ℕ
number_of s = s.loc.0 * 8 + (side_bit s.up * 4 + (done_bit s.front_done * 2 + done_bit s.back_done))

abbrev pub side_from : ℕ → Face
side_from n = if n == 0 then Front else Back

-- the state of a number
abbrev pub state_at : ℕ → State
state_at n = record {
  loc = record { 0 = n / 8 };
  up = side_from (n / 4 % 2);
  front_done = n / 2 % 2 == 1;
  back_done = n % 2 == 1;
}
