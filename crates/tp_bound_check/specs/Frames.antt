-- How deep branches are, and how many frames stand below one.
use Rattle.std.specs.Prelude.{◌≡◌, ℕ, suc, ◌+◌, ◌*◌, ◌≤◌, Bool, true, false, List, [], ◌∷◌, ◌++◌, length, None, if◌then◌else◌}
use Rattle.tp_machine.specs.Limits.{most_act_holds}
use Rattle.tp_schedule.specs.Choices.{Choice}
use Rattle.tp_schedule.specs.Limits.{most_acts}
use Rattle.tp_bound_laws.specs.Places.{Branch, Stand}
use Rattle.tp_bound_check.specs.declared.dues.Frame.{Frame}
use Rattle.tp_bound_check.specs.declared.dues.Frame.TheVariants.{Goals, Held, Acts, Nothing}

-- one for each choice and for each of its places, of which all but the newest have at most four
abbrev pub most_depth : List Choice → ℕ
most_depth [] = 0
most_depth (c ∷ choices) = 5 * length choices + 1 + length c.places

abbrev pub HasFewPlaces : List Choice → Type 0
HasFewPlaces [] = Unit {0}
HasFewPlaces (c ∷ choices) = length c.places ≤ most_act_holds

-- a branch is no deeper than its choices and their places are many
pub record IsShallow (b : Branch) : Type 0 where
  pub choices : length b.x.choices ≤ most_acts
  pub places : HasFewPlaces b.x.choices
  pub depth : b.depth ≤ most_depth b.x.choices

-- so is that of a node that may be split
abbrev pub IsShallowStand : Stand → Type 0
IsShallowStand s = s.span ≡ None → s.branch.x.stopped ≡ false → IsShallow s.branch

-- a frame more on the stack, unless nothing is due of it
abbrev pub has_due : Frame → Bool
has_due Nothing = false
has_due f = true

abbrev pub with_frame : Frame → List Frame → List Frame
with_frame f fs = if has_due f then fs ++ f ∷ [] else fs

-- no more than so many frames, one for each depth, stand below the frame of a node's children
abbrev pub IsOn : Frame → ℕ → Type 0
IsOn Nothing n = Unit {0}
IsOn (Goals at) n = n ≤ 0
IsOn (Held branch rule lo) n = n ≤ branch.depth + 1
IsOn (Acts branch with_stop at) n = n ≤ branch.depth + 1

-- each frame of a stack, of which the first has this number, stands so
abbrev pub AreStacked : ℕ → List Frame → Type 0
AreStacked n [] = Unit {0}
AreStacked n (f ∷ fs) = IsOn f n × AreStacked (suc n) fs
