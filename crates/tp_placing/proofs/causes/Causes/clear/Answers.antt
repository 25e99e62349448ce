use Rattle.std.proofs.Common.{◌≡◌, ℕ, zero, suc, ◌<◌, ◌≤◌, ◌∙◌, List, [], ◌∷◌, Some, ap, arith, length, subst, sym, take}
use Rattle.std.specs.Prelude.{slice_get}
use Rattle.std.proofs.lemmas.List.{length-take}
use Rattle.tp_placing.specs.Causes.{ArePlain, back_tag, forward_tag, limit_tag, line_tag, step_causes, stop_tag}
use Rattle.tp_placing.specs.declared.causes.EdgeCause.{EdgeCause}
use Rattle.tp_placing.specs.declared.causes.EdgeCause.TheVariants.{Forward, Back, Line, Stop, Limit}
use Rattle.tp_placing.proofs.causes.Causes.clear.Goals as goal
use Rattle.tp_placing.proofs.causes.Causes.clear.Goals.{After-truncate}

get-taken : {X : Type 0} (n : ℕ) (xs : List X) (k : ℕ) (x : X) → k < n → slice_get xs k ≡ Some x → slice_get (take n xs) k ≡ Some x
get-taken zero xs k x less at = absurd (omega arith)
get-taken (suc n) [] k x less at = at
get-taken (suc n) (y ∷ xs) zero x less at = at
get-taken (suc n) (y ∷ xs) (suc k) x less at = get-taken n xs k x (omega arith) at

-- the causes without a resource stay where those behind the steps' go
plain-taken : (n : ℕ) (causes : List EdgeCause) → step_causes ≤ n → ArePlain causes → ArePlain (take n causes)
plain-taken n causes enough plain = record {
  forward = get-taken n causes forward_tag Forward (omega arith) plain.forward;
  back = get-taken n causes back_tag Back (omega arith) plain.back;
  line = get-taken n causes line_tag Line (omega arith) plain.line;
  stop = get-taken n causes stop_tag Stop (omega arith) plain.stop;
  limit = get-taken n causes limit_tag Limit (omega arith) plain.limit;
  slots = let slots = plain.slots in omega (arith, length-take n causes);
}

plain : (c : After-truncate) → ArePlain c.truncate.new.self.items
plain c = subst ArePlain (sym c.truncate.ensures.items) (plain-taken step_causes c.self.inside.kept.items (omega arith) c.self.invariant.plain)

pub returns-clause-plain : goal.returns-clause-plain
returns-clause-plain c = plain c

pub returns-clause-forgotten : goal.returns-clause-forgotten
returns-clause-forgotten c = c.truncate.ensures.items ∙ ap (take step_causes) c.self.view_is

pub invariant_of-self : goal.invariant_of-self
invariant_of-self c =
    record {
      plain = plain c;
      few = omega (arith, ap length c.truncate.ensures.items, length-take step_causes c.self.inside.kept.items);
      space = omega (arith, c.truncate.ensures.capacity, c.self.invariant.space);
    }
