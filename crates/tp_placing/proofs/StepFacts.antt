-- One step more.
use Rattle.std.proofs.Common.{◌≡◌, ℕ, suc, ◌+◌, ◌-◌, ◌<◌, List, [], ◌∷◌, ◌++◌, length, refl, ap, sym, ◌∙◌, subst, arith, Option, Some, None}
use Rattle.std.proofs.lemmas.List.{length-append}
use Rattle.std.proofs.lemmas.List.Sums.{fold-append}
use Rattle.std.proofs.lemmas.Option.{same_Some}
use Rattle.std.specs.List.{slice_get}
use Rattle.tp_base.proofs.SliceFacts.{slice_get_last}
use Rattle.std.specs.List.{fold}
use Rattle.tp_schedule.specs.Choices.{Choice}
use Rattle.tp_constraints.specs.Suffixes.{Suffix, place_first}
use Rattle.tp_placing.specs.declared.parts.Change.{Change}
use Rattle.tp_placing.specs.declared.parts.Change.TheVariants.{Goal, Action, Place, Stop}
use Rattle.tp_placing.specs.declared.parts.Step.{Step}
use Rattle.tp_placing.specs.Boards.{after_change, suffix_after}
use Rattle.tp_placing.specs.LoadedBoard.{IsAtHand, step_edges}

pub suffix-push : (steps : List Step) (s : Step) → suffix_after (steps ++ s ∷ []) ≡ after_change (suffix_after steps) s.change
suffix-push steps s = fold-append (λ x (s : Step). after_change x s.change) None steps (s ∷ [])

-- an open goal was opened by a step
pub some-steps : (steps : List Step) (x : Suffix) → suffix_after steps ≡ Some x → 0 < length steps
some-steps [] x e = absurd cc
some-steps (s ∷ steps) x e = omega arith

pub last-step : (steps : List Step) (s r : Step) → slice_get (steps ++ s ∷ []) (length (steps ++ s ∷ []) - 1) ≡ Some r → s ≡ r
last-step steps s r e =
    let l : length (steps ++ s ∷ []) - 1 ≡ length steps = omega (arith, length-append steps (s ∷ [])) in
    same_Some s r (sym (slice_get_last steps s) ∙ ap (λ k. slice_get (steps ++ s ∷ []) k) (sym l) ∙ e)

pub at-hand-push : (base : ℕ) (x : Option Suffix) (steps : List Step) (s : Step) → IsAtHand base x s → (r : Step) → slice_get (steps ++ s ∷ []) (length (steps ++ s ∷ []) - 1) ≡ Some r → IsAtHand base x r
at-hand-push base x steps s at r e = subst (IsAtHand base x) (last-step steps s r e) at

pub edges-more : (steps : List Step) (s : Step) → 0 < length steps → step_edges (steps ++ s ∷ []) ≡ step_edges steps + 2
edges-more [] s h = absurd (omega arith)
edges-more (r ∷ steps) s h = omega (arith, length-append steps (s ∷ []))

-- what holds of every suffix that steps make
fold-keeps : (P : Option Suffix → Type 0) → ((x : Option Suffix) (s : Step) → P x → P (after_change x s.change)) → (steps : List Step) (x : Option Suffix) → P x → P (fold (λ y (s : Step). after_change y s.change) x steps)
fold-keeps P keeps [] x p = p
fold-keeps P keeps (s ∷ steps) x p = fold-keeps P keeps steps (after_change x s.change) (keeps x s p)

abbrev HasRooms : Option Suffix → Type 0
HasRooms None = Unit {0}
HasRooms (Some x) = length x.rooms ≡ suc (length x.choices)

length-place_first : (place : ℕ) (choices : List Choice) → length (place_first place choices) ≡ length choices
length-place_first place [] = refl
length-place_first place (c ∷ choices) = refl

-- one room more than choices
pub rooms-after : (steps : List Step) (x : Suffix) → suffix_after steps ≡ Some x → length x.rooms ≡ suc (length x.choices)
rooms-after steps x e = subst HasRooms e (fold-keeps HasRooms keeps steps None tt)
  where
    change : (y : Option Suffix) (c : Change) → HasRooms y → HasRooms (after_change y c)
    change None (Goal room) p = refl
    change None (Action act room) p = tt
    change None (Place place) p = tt
    change None Stop p = tt
    change (Some y) (Goal room) p = p
    change (Some y) (Action act room) p = ap suc p
    change (Some y) (Place place) p = p ∙ ap suc (sym (length-place_first place y.choices))
    change (Some y) Stop p = p

    keeps : (y : Option Suffix) (s : Step) → HasRooms y → HasRooms (after_change y s.change)
    keeps y s p = change y s.change p
