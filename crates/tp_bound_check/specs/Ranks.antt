-- Own holds among kept ones: how many kept holds are before each.
use Rattle.std.specs.Prelude.{◌≡◌, ℕ, ◌+◌, ◌*◌, ◌-◌, ◌<◌, ◌≤◌, All, [], ◌∷◌, Bool, true, false, nat_lt, List, length, filter, find, take, drop, reverse, get_or, slice_get, Option, Some, None, option_map, if◌then◌else◌}
use Rattle.tp_constraints.specs.Gaps.{Gap, slot_gap}
use Rattle.tp_constraints.specs.Numbers.{is_same_spot}
use Rattle.tp_constraints.specs.Suffixes.{order_in}
use Rattle.tp_machine.specs.ModuleUse.{action_at}
use Rattle.tp_machine.specs.declared.parts.HoldRule.{HoldRule}
use Rattle.tp_machine.specs.declared.machine.Machine.{Machine}
use Rattle.tp_schedule.specs.Choices.{Choice}
use Rattle.tp_schedule.specs.Holders.{holds_of_act}
use Rattle.tp_schedule.specs.Spots.{Slot, Spot}
use Rattle.tp_schedule.specs.Spots.Spot.{kept, own}
use Rattle.tp_schedule.specs.declared.parts.Plan.{Plan}
use Rattle.tp_bound_laws.specs.Chains.{gap_behind}
use Rattle.tp_bound_laws.specs.Places.{Branch, Span, Stand}
use Rattle.tp_bound_check.specs.Stands.{IsSpanOf, order_until}
use Rattle.tp_bound_check.specs.Frames.{has_due}
use Rattle.tp_bound_check.specs.declared.dues.Frame.{Frame}
use Rattle.tp_bound_check.specs.declared.dues.Frame.TheVariants.{Goals, Held, Acts, Nothing}
use Rattle.tp_bound_check.specs.declared.frame_pass.Passing.{Passing}
use Rattle.tp_bound_check.specs.declared.frame_pass.Passing.TheVariants.{Empty, Passed, Wrong}
use Rattle.tp_bound_check.specs.declared.stance.Stance.{Stance}

abbrev pub is_kept_point : Spot → Bool
is_kept_point (kept copy i) = true
is_kept_point (own n) = false

abbrev pub is_kept : Slot → Bool
is_kept s = is_kept_point s.from

-- how many kept holds are among the first so many of an order
abbrev pub rank_at : ℕ → List Slot → ℕ
rank_at place order = length (filter is_kept (take place order))

-- a place of an order, told of the order without the hold at a place
abbrev pub without : ℕ → ℕ → ℕ
without at place = if nat_lt at place then place - 1 else place

-- the ranks of a branch's holds, four for each choice, the oldest first; and of the places of a hold that has several
pub record Ranks : Type 0 where
  pub before : List ℕ
  pub lo : ℕ
  pub hi : ℕ

module _ (machine : Machine) (plans : List Plan) where
  -- for each hold that has a place, so many kept holds are before it
  abbrev pub AreRanked : Branch → List ℕ → Type 0
  AreRanked b before =
      (n j place : ℕ) (c : Choice) (rule : HoldRule) → slice_get (reverse b.x.choices) n ≡ Some c → slice_get (holds_of_act (action_at machine c.act.0)) j ≡ Some rule → slice_get c.places j ≡ Some place
      → get_or before (4 * n + j) 0 ≡ rank_at place (order_until machine plans b rule.resource.0 n)

  -- for a hold with several places, so many kept holds are before its first place, and before its last
  abbrev pub AreSpanRanks : Branch → Option Span → Ranks → Type 0
  AreSpanRanks b None ranks = Unit {0}
  AreSpanRanks b (Some span) ranks = (ranks.lo ≡ rank_at span.lo (order_in machine plans b.x span.rule.resource.0)) × (ranks.hi ≡ rank_at span.hi (order_in machine plans b.x span.rule.resource.0))

-- the own point among two of which one is own and one kept
abbrev pub own_among : Spot → Spot → Option ℕ
own_among (own n) (kept copy i) = Some n
own_among (kept copy i) (own n) = Some n
own_among (own m) (own n) = None
own_among (kept c i) (kept d j) = None

-- what is between an own hold and a kept one, of which the kept order tells the place
abbrev pub gap_to_kept : ℕ → Spot → Option Stance → List Slot → Option Gap
gap_to_kept apart after None order = None
gap_to_kept apart after (Some t) order = gap_behind apart t.slot after (drop t.hi order)

abbrev pub gap_from_kept : ℕ → Spot → Option Stance → List Slot → Option Gap
gap_from_kept apart before None order = None
gap_from_kept apart before (Some t) order = option_map (λ x. slot_gap apart x t.slot) (find (λ x. is_same_spot x.from before) (take t.lo order))

abbrev pub mixed_gap : ℕ → Spot → Spot → Option Stance → List Slot → Option Gap
mixed_gap apart (own n) after stance order = gap_to_kept apart after stance order
mixed_gap apart (kept copy i) after stance order = gap_from_kept apart (kept copy i) stance order

-- what the code keeps of a node's stand
pub record IsSoundStand (machine : Machine) (plans : List Plan) (s : Stand) (ranks : Ranks) : Type 0 where
  pub span : IsSpanOf machine s.branch s.span
  pub ranked : AreRanked machine plans s.branch ranks.before
  pub spanned : AreSpanRanks machine plans s.branch s.span ranks

-- ---- the ranks of a way, which each frame on it shares

-- the number of the next hold that gets a place
abbrev pub next_number : List Choice → ℕ
next_number [] = 0
next_number (c ∷ choices) = 4 * length choices + length c.places

abbrev pub number_of : Frame → ℕ
number_of Nothing = 0
number_of (Goals at) = 0
number_of (Held branch rule lo) = next_number branch.x.choices
number_of (Acts branch with_stop at) = next_number branch.x.choices

abbrev pub IsRanked : Machine → List Plan → List ℕ → Frame → Type 0
IsRanked machine plans before Nothing = Unit {0}
IsRanked machine plans before (Goals at) = Unit {0}
IsRanked machine plans before (Held branch rule lo) = AreRanked machine plans branch before
IsRanked machine plans before (Acts branch with_stop at) = AreRanked machine plans branch before

-- a frame of what is due below a branch
abbrev pub IsFrameBelow : Branch → Frame → Type 0
IsFrameBelow b Nothing = Unit {0}
IsFrameBelow b (Goals at) = ⊥
IsFrameBelow b (Held branch rule lo) = branch ≡ b
IsFrameBelow b (Acts branch with_stop at) = branch ≡ b

abbrev pub IsFrameOf : Option Stand → Frame → Type 0
IsFrameOf None f = ⊥
IsFrameOf (Some s) f = IsFrameBelow s.branch f

-- no frame of a stack has more holds than one above it
abbrev pub AreRising : ℕ → List Frame → Type 0
AreRising low [] = Unit {0}
AreRising low (f ∷ fs) = (low ≤ number_of f) × AreRising (number_of f) fs

pub record AreRankedFrames (machine : Machine) (plans : List Plan) (before : List ℕ) (fs : List Frame) : Type 0 where
  pub ranked : All (IsRanked machine plans before) fs
  pub rising : AreRising 0 fs

-- the frames that come of a node are ranked, the one left has as many holds, and the one below has no fewer
abbrev pub IsRankedPassing : Machine → List Plan → List ℕ → Frame → Passing → Type 0
IsRankedPassing machine plans before f Empty = Unit {0}
IsRankedPassing machine plans before f (Wrong fault) = Unit {0}
IsRankedPassing machine plans before f (Passed left below) =
    IsRanked machine plans before left × IsRanked machine plans before below × (has_due left ≡ true → number_of left ≡ number_of f) × (has_due below ≡ true → number_of f ≤ number_of below)

-- ranks of the first so many holds stay
abbrev pub StayTo : ℕ → List ℕ → List ℕ → Type 0
StayTo count before after = (i : ℕ) → i < count → get_or after i 0 ≡ get_or before i 0
