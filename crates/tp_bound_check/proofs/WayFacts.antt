-- Ranks on the way to a node: they stay as branches grow, and one list serves all frames of the stack.
use Rattle.std.proofs.Common.{◌≡◌, ◌⊎◌, inl, inr, ℕ, suc, ◌+◌, ◌*◌, ◌≤◌, ◌<◌, ◌==◌, Bool, true, false, cond, List, [], ◌∷◌, ◌++◌, length, reverse, get_or, refl, sym, ◌∙◌, ap, subst, arith, All, Option, Some, None}
use Rattle.std.specs.Prelude.{IfSome}
use Rattle.std.specs.List.{slice_get}
use Rattle.std.proofs.lemmas.List.{length-append, length-reverse}
use Rattle.std.proofs.lemmas.List.Elements.{All-nil, All-cons}
use Rattle.std.proofs.lemmas.Option.{slice_get_within}
use Rattle.tp_machine.specs.ModuleUse.{action_at}
use Rattle.tp_machine.specs.declared.parts.ActId.{ActId}
use Rattle.tp_machine.specs.declared.parts.HoldRule.{HoldRule}
use Rattle.tp_machine.specs.declared.machine.Machine.{Machine}
use Rattle.tp_schedule.specs.Choices.{Choice}
use Rattle.tp_schedule.specs.Holders.{holds_of_act}
use Rattle.tp_schedule.specs.declared.parts.Plan.{Plan}
use Rattle.tp_constraints.specs.Suffixes.{place_first}
use Rattle.tp_bound_laws.specs.Places.{Branch, Stand}
use Rattle.tp_bound_check.specs.Frames.{HasFewPlaces, has_due, with_frame}
use Rattle.tp_bounds.specs.declared.tree.Head.{Head}
use Rattle.tp_bounds.specs.declared.tree.Head.TheVariants.{Goal as GoalHead, Act as ActHead, At as AtHead, Stop as StopHead}
use Rattle.tp_bound_check.specs.Looks.{at_depth, places_behind}
use Rattle.tp_bound_check.specs.Ranks.{AreRanked, AreRankedFrames, AreRising, IsFrameBelow, IsFrameOf, IsRanked, IsRankedPassing, IsSoundStand, Ranks, StayTo, next_number, number_of}
use Rattle.tp_bound_check.specs.declared.dues.Frame.{Frame}
use Rattle.tp_bound_check.specs.declared.dues.Frame.TheVariants.{Goals, Held, Acts, Nothing}
use Rattle.tp_bound_check.specs.declared.frame_pass.Passing.TheVariants.{Passed}
use Rattle.tp_bound_check.proofs.SeamFacts.{few-rules, reverse-one, seam}
use Rattle.tp_bound_check.proofs.TakeFacts.{all-last, all-left, all-with}

-- ---- numbers of holds
pub next-act : (cs : List Choice) (act : ActId) → HasFewPlaces cs → next_number cs ≤ next_number (record { act = act; places = [] } ∷ cs)
next-act [] act few = omega arith
next-act (c ∷ cs) act few = omega (arith, few)

pub next-place : (cs : List Choice) (place : ℕ) → next_number cs ≤ next_number (place_first place cs)
next-place [] place = omega arith
next-place (c ∷ cs) place = omega (arith, length-append c.places (place ∷ []))

module _ (machine : Machine) (plans : List Plan) where
  number-below : (cs : List Choice) (n j place : ℕ) (c : Choice) → j < 4 → slice_get (reverse cs) n ≡ Some c → slice_get c.places j ≡ Some place → 4 * n + j < next_number cs
  number-below [] n j place c lt at has = absurd (nothing n at) where
    nothing : (n : ℕ) → slice_get (reverse []) n ≡ Some c → ⊥
    nothing n e = cc
  number-below (d ∷ cs) n j place c lt at has = go (seam (reverse cs) d c n (subst (λ xs. slice_get xs n ≡ Some c) (reverse-one d cs) at)) where
    go : ((n < length (reverse cs)) × (slice_get (reverse cs) n ≡ Some c)) ⊎ ((n ≡ length (reverse cs)) × (c ≡ d)) → 4 * n + j < 4 * length cs + length d.places
    go (inl (less, old)) = let l = length-reverse cs in omega (arith, l, less, lt)
    go (inr (is, same)) = let l = length-reverse cs in let w = slice_get_within d.places j place (subst (λ (x : Choice). slice_get x.places j ≡ Some place) same has) in omega (arith, l, is, w)

  -- the ranks of a branch's holds are enough
  ranked-stay : (b : Branch) (before after : List ℕ) (count : ℕ) → AreRanked machine plans b before → next_number b.x.choices ≤ count → StayTo count before after → AreRanked machine plans b after
  ranked-stay b before after count ranked le stay n j place c rule at by has =
      let w = slice_get_within (holds_of_act (action_at machine c.act.0)) j rule by in
      let f = few-rules machine c.act.0 in
      let lt = number-below b.x.choices n j place c (omega (arith, w, f)) at has in
      stay (4 * n + j) (omega (arith, lt, le)) ∙ ranked n j place c rule at by has

  pub ranked-kept : (b : Branch) (before after : List ℕ) → AreRanked machine plans b before → StayTo (next_number b.x.choices) before after → AreRanked machine plans b after
  ranked-kept b before after ranked stay = ranked-stay b before after (next_number b.x.choices) ranked (omega arith) stay

  -- ---- frames
  frame-stay : (f : Frame) (before after : List ℕ) (count : ℕ) → IsRanked machine plans before f → number_of f ≤ count → StayTo count before after → IsRanked machine plans after f
  frame-stay Nothing before after count ranked le stay = tt
  frame-stay (Goals at) before after count ranked le stay = tt
  frame-stay (Held b rule lo) before after count ranked le stay = ranked-stay b before after count ranked le stay
  frame-stay (Acts b with_stop at) before after count ranked le stay = ranked-stay b before after count ranked le stay

  below-ranked : (b : Branch) (f : Frame) (before : List ℕ) → IsFrameBelow b f → AreRanked machine plans b before → IsRanked machine plans before f
  below-ranked b Nothing before is ranked = tt
  below-ranked b (Goals at) before is ranked = tt
  below-ranked b (Held c rule lo) before is ranked = subst (λ (x : Branch). AreRanked machine plans x before) (sym is) ranked
  below-ranked b (Acts c with_stop at) before is ranked = subst (λ (x : Branch). AreRanked machine plans x before) (sym is) ranked

  below-number : (b : Branch) (f : Frame) → IsFrameBelow b f → has_due f ≡ true → number_of f ≡ next_number b.x.choices
  below-number b Nothing is due = absurd cc
  below-number b (Goals at) is due = absurd is
  below-number b (Held c rule lo) is due = ap (λ (x : Branch). next_number x.x.choices) is
  below-number b (Acts c with_stop at) is due = ap (λ (x : Branch). next_number x.x.choices) is

  -- what is below a node that stands somewhere
  pub passing-below : (o : Option Stand) (f : Frame) (ranks : Ranks) (count : ℕ) → IfSome o (λ s. IsSoundStand machine plans s ranks) → IfSome o (λ s. count ≤ next_number s.branch.x.choices) → IsFrameOf o f
      → IsRanked machine plans ranks.before f × (has_due f ≡ true → count ≤ number_of f)
  passing-below None f ranks count sound grows is = absurd is
  passing-below (Some s) f ranks count sound grows is = (below-ranked s.branch f ranks.before is sound.ranked, λ due. let n = below-number s.branch f is due in omega (arith, n, grows))

  -- ---- the stack
  rising-front : (low : ℕ) (fs gs : List Frame) → AreRising low (fs ++ gs) → AreRising low fs
  rising-front low [] gs all = tt
  rising-front low (f ∷ fs) gs all = (all.0, rising-front (number_of f) fs gs all.1)

  rising-last : (low : ℕ) (fs : List Frame) (f : Frame) → AreRising low (fs ++ f ∷ []) → low ≤ number_of f
  rising-last low [] f all = all.0
  rising-last low (g ∷ fs) f all = let r = rising-last (number_of g) fs f all.1 in let l = all.0 in omega (arith, r, l)

  rising-under : (low : ℕ) (fs : List Frame) (f : Frame) → AreRising low (fs ++ f ∷ []) → All (λ g. number_of g ≤ number_of f) fs
  rising-under low [] f all = All-nil (λ g. number_of g ≤ number_of f)
  rising-under low (g ∷ fs) f all = All-cons (λ g. number_of g ≤ number_of f) g fs (rising-last (number_of g) fs f all.1) (rising-under (number_of g) fs f all.1)

  rising-more : (low : ℕ) (fs : List Frame) (f : Frame) → AreRising low fs → low ≤ number_of f → All (λ g. number_of g ≤ number_of f) fs → AreRising low (fs ++ f ∷ [])
  rising-more low [] f rising le all = (le, tt)
  rising-more low (g ∷ fs) f rising le all = (rising.0, rising-more (number_of g) fs f rising.1 (all 0 g (omega arith)) (λ k d lt. all (suc k) d (omega (arith, lt))))

  with-rising : (fs : List Frame) (f : Frame) (count : ℕ) → AreRising 0 fs → All (λ g. number_of g ≤ count) fs → (has_due f ≡ true → count ≤ number_of f) → AreRising 0 (with_frame f fs)
  with-rising fs f count rising all le = go f le where
    more : (f : Frame) → count ≤ number_of f → AreRising 0 (fs ++ f ∷ [])
    more f le = rising-more 0 fs f rising (omega arith) (λ k d lt. let one = all k d lt in omega (arith, one, le))

    go : (f : Frame) → (has_due f ≡ true → count ≤ number_of f) → AreRising 0 (with_frame f fs)
    go Nothing le = rising
    go (Goals at) le = more (Goals at) (le refl)
    go (Held b rule lo) le = more (Held b rule lo) (le refl)
    go (Acts b with_stop at) le = more (Acts b with_stop at) (le refl)

  left-under : (f : Frame) (count : ℕ) → (has_due f ≡ true → number_of f ≡ count) → number_of f ≤ count
  left-under Nothing count is = omega arith
  left-under (Goals at) count is = omega arith
  left-under (Held b rule lo) count is = let e = is refl in omega (arith, e)
  left-under (Acts b with_stop at) count is = let e = is refl in omega (arith, e)

  pub next-frames : (before after : List ℕ) (old fs mid new : List Frame) (f left below : Frame) → AreRankedFrames machine plans before old → old ≡ fs ++ f ∷ [] → IsRankedPassing machine plans after f (Passed left below) → StayTo (number_of f) before after
      → mid ≡ with_frame left fs → new ≡ with_frame below mid → AreRankedFrames machine plans after new
  next-frames before after old fs mid new f left below frames is (left-ranked, below-ranked', left-number, below-number') stay put put' =
      let count = number_of f in
      let rising = subst (AreRising 0) is frames.rising in
      let under = rising-under 0 fs f rising in
      let front = all-left (IsRanked machine plans before) fs (f ∷ []) (subst (All (IsRanked machine plans before)) is frames.ranked) in
      let ranked : All (IsRanked machine plans after) fs = (λ k d lt. frame-stay (get_or fs k d) before after count (front k d lt) (under k d lt) stay) in
      let mid-rising = with-rising fs left count (rising-front 0 fs (f ∷ []) rising) under (λ due. let e = left-number due in omega (arith, e)) in
      let mid-under = all-with (λ g. number_of g ≤ count) fs left under (left-under left count left-number) in
      let whole : AreRankedFrames machine plans after (with_frame below (with_frame left fs)) = record {
        ranked = all-with (IsRanked machine plans after) (with_frame left fs) below (all-with (IsRanked machine plans after) fs left ranked left-ranked) below-ranked';
        rising = with-rising (with_frame left fs) below count mid-rising mid-under below-number';
      } in
      subst (AreRankedFrames machine plans after) (sym (put' ∙ ap (with_frame below) put)) whole

  pub gone-frames : (before after : List ℕ) (old fs : List Frame) (f : Frame) → AreRankedFrames machine plans before old → old ≡ fs ++ f ∷ [] → StayTo (number_of f) before after → AreRankedFrames machine plans after fs
  gone-frames before after old fs f frames is stay =
      let rising = subst (AreRising 0) is frames.rising in
      let under = rising-under 0 fs f rising in
      let front = all-left (IsRanked machine plans before) fs (f ∷ []) (subst (All (IsRanked machine plans before)) is frames.ranked) in
      record { ranked = λ k d lt. frame-stay (get_or fs k d) before after (number_of f) (front k d lt) (under k d lt) stay; rising = rising-front 0 fs (f ∷ []) rising }

  pub last-frame : (before : List ℕ) (old fs : List Frame) (f : Frame) → AreRankedFrames machine plans before old → old ≡ fs ++ f ∷ [] → IsRanked machine plans before f
  last-frame before old fs f frames is = all-last (IsRanked machine plans before) fs f (subst (All (IsRanked machine plans before)) is frames.ranked)

  -- what is left of places
  pub behind-ranked : (b : Branch) (rule : HoldRule) (head : Head) (before : List ℕ) → AreRanked machine plans b before → IsRanked machine plans before (places_behind b rule head)
  behind-ranked b rule (AtHead name from to) before ranked = ranked
  behind-ranked b rule (GoalHead named) before ranked = tt
  behind-ranked b rule (ActHead name) before ranked = tt
  behind-ranked b rule StopHead before ranked = tt

pub behind-number : (b : Branch) (rule : HoldRule) (head : Head) → has_due (places_behind b rule head) ≡ true → number_of (places_behind b rule head) ≡ next_number b.x.choices
behind-number b rule (AtHead name from to) due = refl
behind-number b rule (GoalHead named) due = absurd cc
behind-number b rule (ActHead name) due = absurd cc
behind-number b rule StopHead due = absurd cc

pub any-grows : (o : Option Stand) → IfSome o (λ s. 0 ≤ next_number s.branch.x.choices)
any-grows None = tt
any-grows (Some s) = omega arith

-- a node stands so that what holds of where it may stand holds of it
pub stands : (P : Stand → Type 0) (o stand : Option Stand) (depth : ℕ) → stand ≡ at_depth depth o → ((s : Stand) → o ≡ Some s → P s) → IfSome stand P
stands P None stand depth is all = subst (λ (x : Option Stand). IfSome x P) (sym is) tt
stands P (Some s) stand depth is all = subst (λ (x : Option Stand). IfSome x P) (sym is) (go (depth == s.branch.depth)) where
  go : (b : Bool) → IfSome (cond b (Some s) None) P
  go true = all s refl
  go false = tt
