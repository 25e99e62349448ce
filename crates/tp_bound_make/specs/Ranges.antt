-- Places of a hold that one close serves.
use Rattle.std.specs.Prelude.{◌≡◌, ℕ, ◌≤◌, Bool, false, ◌&&◌, ◌==◌, List, [], slice_get, Some, ℤ}
use Rattle.std.specs.Str.{bytes_eq}
use Rattle.tp_bounds.specs.declared.hops.Hop.{Hop}
use Rattle.tp_bounds.specs.declared.hops.Hop.TheVariants.{Duration, Line, «Resource» as Res}
use Rattle.tp_bounds.specs.declared.hops.TreeHold.{TreeHold}
use Rattle.tp_bounds.specs.declared.hops.TreeHold.TheVariants.{Own as OwnHold, Kept as KeptHold}
use Rattle.tp_bounds.specs.declared.tree.Close.{Close}
use Rattle.tp_bounds.specs.declared.tree.Close.TheVariants.{Split, Dead, Chain, Loop}
use Rattle.tp_bounds.specs.declared.tree.Head.{Head}
use Rattle.tp_bounds.specs.declared.tree.TreeRow.{TreeRow}
use Rattle.tp_machine.specs.declared.parts.HoldRule.{HoldRule}
use Rattle.tp_machine.specs.declared.machine.Machine.{Machine}
use Rattle.tp_schedule.specs.declared.parts.Ask.{Ask}
use Rattle.tp_schedule.specs.declared.parts.Plan.{Plan}
use Rattle.tp_constraints.specs.Suffixes.{Suffix}
use Rattle.tp_bound_laws.specs.Places.{Branch, at_places}
use Rattle.tp_bound_laws.specs.Once.{PassesOnce}
use Rattle.tp_bound_laws.specs.Short.{hops_in, most_hops}
use Rattle.tp_bound_laws.specs.Trees.{close_look}
use Rattle.tp_bound_laws.specs.Trees.Look.{due}
use Rattle.tp_bound_make.specs.declared.closed_places.Range.{Range}
use Rattle.tp_bound_make.specs.declared.side.Side.{Side}
use Rattle.tp_bound_make.specs.declared.side.Side.TheVariants.{Before, Behind}

-- the hold of the newest of so many choices
abbrev pub is_own_hold : ℕ → TreeHold → Bool
is_own_hold n (OwnHold m) = m == n
is_own_hold n (KeptHold name i) = false

-- of the two holds of a hop, the one that is the choice's where the other stands on this side of it
abbrev pub own_end : Side → TreeHold → TreeHold → TreeHold
own_end Before before after = after
own_end Behind before after = before

-- the hop leads on the resource of this name between the newest choice's hold and one on this side
abbrev pub leads : Side → List ℕ → ℕ → Hop → Bool
leads side name n (Duration to) = false
leads side name n (Line to) = false
leads side name n (Res resource before after) = bytes_eq resource name && is_own_hold n (own_end side before after)

abbrev pub NoHop : (Hop → Bool) → List Hop → Type 0
NoHop p hops = (k : ℕ) (h : Hop) → slice_get hops k ≡ Some h → p h ≡ false

-- no hop of the chain or loop does so
abbrev pub IsFree : (Hop → Bool) → Close → Type 0
IsFree p Split = ⊥
IsFree p Dead = ⊥
IsFree p (Chain first hops) = NoHop p hops
IsFree p (Loop first hops) = NoHop p hops

module _ (machine : Machine) (plans : List Plan) (ask : Ask) (limit : ℤ) (x : Suffix) (rule : HoldRule) where
  -- the close has few hops, and closes a node at these places of the suffix's next hold, where it passes no point twice
  abbrev pub ClosesRange : ℕ → ℕ → Close → Type 0
  ClosesRange lo hi close = (hops_in close ≤ most_hops) × ((rows : List TreeRow) (b : Branch) (head : Head) → b.x ≡ x → close_look machine plans ask rows limit (at_places machine plans ask rows b rule lo hi) head close ≡ due [])
      × ((rows : List TreeRow) (b : Branch) → b.x ≡ x → PassesOnce machine plans ask limit (at_places machine plans ask rows b rule lo hi) close)

  -- the range begins at a place, and ends at or behind another, at the last at the latest
  pub record IsRange (lo place last : ℕ) (range : Range) : Type 0 where
    pub begins : lo ≤ place
    pub reaches : place ≤ range.hi
    pub within : range.hi ≤ last
    pub closes : ClosesRange lo range.hi range.close
