-- A state has one number, and a number is of one state.
use Rattle.std.proofs.Common.{◌≡◌, ℕ, ◌+◌, ◌*◌, ◌/◌, ◌%◌, ◌<◌, Bool, true, false, refl, arith}
use Rattle.tp_machine.specs.declared.parts.Face.{Face}
use Rattle.tp_machine.specs.declared.parts.Face.TheVariants.{Front, Back}
use Rattle.tp_machine.specs.declared.parts.State.{State}
use Rattle.tp_routes.specs.Numbers.{number_of, state_at}

record Parts (n l u f b : ℕ) : Type 0 where
  location : n / 8 ≡ l
  side : n / 4 % 2 ≡ u
  front : n / 2 % 2 ≡ f
  back : n % 2 ≡ b

parts_of : (l u f b : ℕ) → u < 2 → f < 2 → b < 2 → Parts (l * 8 + (u * 4 + (f * 2 + b))) l u f b
parts_of l u f b p q r = record { location = omega arith; side = omega arith; front = omega arith; back = omega arith }

by_parts : (l : ℕ) (up : Face) (front back : Bool) → state_at (number_of (record { loc = record { 0 = l }; up = up; front_done = front; back_done = back })) ≡ record { loc = record { 0 = l }; up = up; front_done = front; back_done = back }
by_parts l Front false false = (let p = parts_of l 0 0 0 (omega arith) (omega arith) (omega arith) in rw (p.location, p.side, p.front, p.back) refl)
by_parts l Front false true = (let p = parts_of l 0 0 1 (omega arith) (omega arith) (omega arith) in rw (p.location, p.side, p.front, p.back) refl)
by_parts l Front true false = (let p = parts_of l 0 1 0 (omega arith) (omega arith) (omega arith) in rw (p.location, p.side, p.front, p.back) refl)
by_parts l Front true true = (let p = parts_of l 0 1 1 (omega arith) (omega arith) (omega arith) in rw (p.location, p.side, p.front, p.back) refl)
by_parts l Back false false = (let p = parts_of l 1 0 0 (omega arith) (omega arith) (omega arith) in rw (p.location, p.side, p.front, p.back) refl)
by_parts l Back false true = (let p = parts_of l 1 0 1 (omega arith) (omega arith) (omega arith) in rw (p.location, p.side, p.front, p.back) refl)
by_parts l Back true false = (let p = parts_of l 1 1 0 (omega arith) (omega arith) (omega arith) in rw (p.location, p.side, p.front, p.back) refl)
by_parts l Back true true = (let p = parts_of l 1 1 1 (omega arith) (omega arith) (omega arith) in rw (p.location, p.side, p.front, p.back) refl)

pub state_of_number : (s : State) → state_at (number_of s) ≡ s
state_of_number s = by_parts s.loc.0 s.up s.front_done s.back_done
