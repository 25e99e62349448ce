-- Branches grow no deeper than their choices and places are many, and frames stand one above another.
use Rattle.std.proofs.Common.{◌≡◌, ℕ, suc, ◌+◌, ◌<◌, ◌≤◌, true, List, [], ◌∷◌, ◌++◌, length, refl, sym, ◌∙◌, ap, subst, arith, All, Option, Some, None}
use Rattle.std.proofs.lemmas.List.{length-append}
use Rattle.tp_machine.specs.declared.machine.Machine.{Machine}
use Rattle.tp_schedule.specs.Choices.{Choice}
use Rattle.tp_bound_laws.specs.Places.{Stand}
use Rattle.std.specs.Prelude.{IfSome}
use Rattle.tp_bound_check.specs.Frames.{AreStacked, HasFewPlaces, IsOn, has_due, most_depth, with_frame}
use Rattle.tp_bound_check.specs.Looks.{IsSoundFrame, IsSoundPassing, IsSoundStack}
use Rattle.tp_bound_check.specs.declared.frame_pass.Passing.TheVariants.{Passed}
use Rattle.tp_bound_check.proofs.TakeFacts.{all-left, all-with}
use Rattle.tp_bound_check.specs.declared.dues.Frame.{Frame}
use Rattle.tp_bound_check.specs.declared.dues.Frame.TheVariants.{Goals, Held, Acts, Nothing}

-- ---- branches
most-few : (cs : List Choice) → length cs ≤ 64 → HasFewPlaces cs → most_depth cs ≤ 320
most-few [] le few = omega arith
most-few (c ∷ cs) le few = omega (arith, few, le)

-- ---- frames
-- a frame that stands so has a number below 322
pub on-few : (machine : Machine) (f : Frame) (n : ℕ) → IsSoundFrame machine f → IsOn f n → has_due f ≡ true → n < 322
on-few machine Nothing n sound on due = absurd cc
on-few machine (Goals at) n sound on due = omega (arith, on)
on-few machine (Held b rule lo) n sound on due = let m = most-few b.x.choices sound.0.choices sound.0.places in let d = sound.0.depth in omega (arith, on, m, d)
on-few machine (Acts b with_stop at) n sound on due = let m = most-few b.x.choices sound.0.choices sound.0.places in let d = sound.0.depth in omega (arith, on, m, d)

pub stacked-front : (k : ℕ) (fs gs : List Frame) → AreStacked k (fs ++ gs) → AreStacked k fs
stacked-front k [] gs all = tt
stacked-front k (f ∷ fs) gs all = (all.0, stacked-front (suc k) fs gs all.1)

last-from : (k : ℕ) (fs : List Frame) (f : Frame) → AreStacked k (fs ++ f ∷ []) → IsOn f (k + length fs)
last-from k [] f all = subst (IsOn f) (let e : k ≡ k + 0 = omega arith in e) all.0
last-from k (g ∷ fs) f all = subst (IsOn f) (let e : suc k + length fs ≡ k + length (g ∷ fs) = omega arith in e) (last-from (suc k) fs f all.1)

pub stacked-last : (fs : List Frame) (f : Frame) → AreStacked 0 (fs ++ f ∷ []) → IsOn f (length fs)
stacked-last fs f all = subst (IsOn f) (let e : 0 + length fs ≡ length fs = omega arith in e) (last-from 0 fs f all)

stacked-more : (k : ℕ) (fs : List Frame) (f : Frame) → AreStacked k fs → IsOn f (k + length fs) → AreStacked k (fs ++ f ∷ [])
stacked-more k [] f all on = (subst (IsOn f) (let e : k + 0 ≡ k = omega arith in e) on, tt)
stacked-more k (g ∷ fs) f all on = (all.0, stacked-more (suc k) fs f all.1 (subst (IsOn f) (let e : k + length (g ∷ fs) ≡ suc k + length fs = omega arith in e) on))

stacked-one : (fs : List Frame) (f : Frame) → AreStacked 0 fs → IsOn f (length fs) → AreStacked 0 (fs ++ f ∷ [])
stacked-one fs f all on = stacked-more 0 fs f all (subst (IsOn f) (let e : length fs ≡ 0 + length fs = omega arith in e) on)

pub stacked-with : (fs : List Frame) (f : Frame) → AreStacked 0 fs → IsOn f (length fs) → AreStacked 0 (with_frame f fs)
stacked-with fs Nothing all on = all
stacked-with fs (Goals at) all on = stacked-one fs (Goals at) all on
stacked-with fs (Held b rule lo) all on = stacked-one fs (Held b rule lo) all on
stacked-with fs (Acts b with_stop at) all on = stacked-one fs (Acts b with_stop at) all on

-- a frame may stand where more could
on-less : (f : Frame) (m n : ℕ) → m ≤ n → IsOn f n → IsOn f m
on-less Nothing m n le on = tt
on-less (Goals at) m n le on = omega (arith, le, on)
on-less (Held b rule lo) m n le on = omega (arith, le, on)
on-less (Acts b with_stop at) m n le on = omega (arith, le, on)

with-length : (fs : List Frame) (f : Frame) → length (with_frame f fs) ≤ length fs + 1
with-length fs Nothing = omega arith
with-length fs (Goals at) = omega (arith, length-append fs (Goals at ∷ []))
with-length fs (Held b rule lo) = omega (arith, length-append fs (Held b rule lo ∷ []))
with-length fs (Acts b with_stop at) = omega (arith, length-append fs (Acts b with_stop at ∷ []))

pub on-with : (fs : List Frame) (left below : Frame) → IsOn below (length fs + 1) → IsOn below (length (with_frame left fs))
on-with fs left below on = on-less below (length (with_frame left fs)) (length fs + 1) (with-length fs left) on

pub with-few : (machine : Machine) (fs : List Frame) (f : Frame) → IsSoundFrame machine f → IsOn f (length fs) → length fs ≤ 322 → length (with_frame f fs) ≤ 322
with-few machine fs Nothing sound on le = le
with-few machine fs (Goals at) sound on le = let l = on-few machine (Goals at) (length fs) sound on refl in omega (arith, l, length-append fs (Goals at ∷ []))
with-few machine fs (Held b rule lo) sound on le = let l = on-few machine (Held b rule lo) (length fs) sound on refl in omega (arith, l, length-append fs (Held b rule lo ∷ []))
with-few machine fs (Acts b with_stop at) sound on le = let l = on-few machine (Acts b with_stop at) (length fs) sound on refl in omega (arith, l, length-append fs (Acts b with_stop at ∷ []))

-- ---- the stack, where a node takes the place of the first that is due
pub fewer : (old fs : List Frame) (f : Frame) → old ≡ fs ++ f ∷ [] → length old ≤ 322 → length fs ≤ 322
fewer old fs f is le = let e = ap length is in omega (arith, le, e, length-append fs (f ∷ []))

pub next-stack : (machine : Machine) (old fs mid new : List Frame) (f left below : Frame) → IsSoundStack machine old → old ≡ fs ++ f ∷ [] → IsSoundPassing machine f (Passed left below) → mid ≡ with_frame left fs → new ≡ with_frame below mid → IsSoundStack machine new
next-stack machine old fs mid new f left below stack is (sl, sb, stands) put put' =
    let P : Frame → Type 0 = IsSoundFrame machine in
    let stacked = subst (AreStacked 0) is stack.stacked in
    let on = stands (length fs) (stacked-last fs f stacked) in
    let front = all-left P fs (f ∷ []) (subst (All P) is stack.sound) in
    let below-on = on-with fs left below on.1 in
    let few = with-few machine fs left sl on.0 (fewer old fs f is stack.few) in
    let whole : IsSoundStack machine (with_frame below (with_frame left fs)) = record {
      sound = all-with P (with_frame left fs) below (all-with P fs left front sl) sb;
      stacked = stacked-with (with_frame left fs) below (stacked-with fs left (stacked-front 0 fs (f ∷ []) stacked) on.0) below-on;
      few = with-few machine (with_frame left fs) below sb below-on few;
    } in
    subst (IsSoundStack machine) (sym (put' ∙ ap (with_frame below) put)) whole

-- what is below a node of a frame stands one deeper
pub deeper-on : (o : Option Stand) (depth n : ℕ) → IfSome o (λ s. s.branch.depth ≡ depth + 1) → n ≤ depth + 1 → IfSome o (λ s. n ≤ s.branch.depth)
deeper-on None depth n is le = tt
deeper-on (Some s) depth n is le = omega (arith, is, le)

pub first-on : (o : Option Stand) (n : ℕ) → n ≤ 0 → IfSome o (λ s. n ≤ s.branch.depth)
first-on None n le = tt
first-on (Some s) n le = omega (arith, le)
