-- Where a node with the places of a hold stands.
use Rattle.std.proofs.Common.{◌≡◌, ◌≢◌, ℕ, suc, ◌<◌, ◌≤◌, [], ◌∷◌, arith, subst, ◌==◌, ◌&&◌, nat_le, length, slice_get, Bool, true, false, cond, List, Some, None, refl, ap, sym, ◌∙◌}
use Rattle.std.proofs.lemmas.List.{length-append}
use Rattle.tp_bounds.specs.declared.tree.Head.TheVariants.{At as AtHead}
use Rattle.tp_bounds.specs.declared.tree.TreeRow.{TreeRow}
use Rattle.tp_machine.specs.declared.parts.HoldRule.{HoldRule}
use Rattle.tp_machine.specs.declared.machine.Machine.{Machine}
use Rattle.tp_schedule.specs.Choices.{Choice}
use Rattle.tp_schedule.specs.declared.parts.Ask.{Ask}
use Rattle.tp_schedule.specs.declared.parts.Plan.{Plan}
use Rattle.tp_constraints.specs.Suffixes.{place_first, with_place}
use Rattle.tp_bound_laws.specs.Places.{Branch, Stand, at_places, is_name_of_resource, order_length, place_branch, stand_of}
use Rattle.tp_bound_laws.specs.Places.Due.{places}
use Rattle.tp_bound_check.specs.Branches.{newest_in}
use Rattle.tp_bound_check.specs.Frames.{HasFewPlaces, IsShallow, IsShallowStand, most_depth}
use Rattle.tp_bound_check.specs.Looks.{at_depth}
use Rattle.tp_bound_check.specs.Ranks.{next_number}
use Rattle.tp_bound_check.proofs.SeamFacts.{off-it, on-it}
use Rattle.tp_bound_check.proofs.WayFacts.{next-place}

-- ---- one place more
length-place : (cs : List Choice) (place : ℕ) → length (place_first place cs) ≡ length cs
length-place [] place = refl
length-place (c ∷ cs) place = refl

few-more : (cs : List Choice) (place : ℕ) → ((c : Choice) → newest_in cs ≡ Some c → length c.places < 4) → HasFewPlaces (place_first place cs)
few-more [] place few = tt
few-more (c ∷ cs) place few = omega (arith, few c refl, length-append c.places (place ∷ []))

deep-more : (cs : List Choice) (place depth deep : ℕ) → 0 < length cs → depth ≡ suc deep → deep ≤ most_depth cs → depth ≤ most_depth (place_first place cs)
deep-more [] place depth deep some is within = absurd (omega (arith, some))
deep-more (c ∷ cs) place depth deep some is within = omega (arith, is, within, length-append c.places (place ∷ []))

abbrev placed-at : Branch → ℕ → ℕ → Branch
placed-at b place depth = record { depth = depth; first = b.first; x = with_place place b.x }

abbrev bare : Branch → Stand
bare b = record { branch = b; span = None }

-- a stand of a branch with one place more
pub is-bare : (b d : Branch) (s : Stand) (place depth : ℕ) → s ≡ bare d → d ≡ placed-at b place depth → s ≡ bare (placed-at b place depth)
is-bare b d s place depth is placed = is ∙ ap bare placed

pub shallow-place : (b : Branch) (s : Stand) (place depth : ℕ) → s ≡ bare (placed-at b place depth) → depth ≡ suc b.depth → 0 < length b.x.choices → ((c : Choice) → newest_in b.x.choices ≡ Some c → length c.places < 4) → IsShallow b → IsShallowStand s
shallow-place b s place depth is deep some few shallow =
    let l = length-place b.x.choices place in
    let choices = shallow.choices in
    subst IsShallowStand (sym is)
    (λ _ _. record { choices = omega (arith, l, choices); places = few-more b.x.choices place few; depth = deep-more b.x.choices place depth b.depth some deep shallow.depth })

pub grows-place : (b : Branch) (s : Stand) (place depth : ℕ) → s ≡ bare (placed-at b place depth) → next_number b.x.choices ≤ next_number s.branch.x.choices
grows-place b s place depth is = subst (λ (t : Stand). next_number b.x.choices ≤ next_number t.branch.x.choices) (sym is) (next-place b.x.choices place)

module _ (machine : Machine) (plans : List Plan) (ask : Ask) (rows : List TreeRow) (b : Branch) (rule : HoldRule) (from to depth : ℕ) where
  abbrev one : Stand
  one = record { branch = place_branch machine plans ask rows b from; span = None }

  abbrev several : Stand
  several = record { branch = record { depth = suc b.depth; first = b.first; x = b.x }; span = Some (record { rule = rule; lo = from; hi = to }) }

  -- the places of a node of this name are those that are due from a number on
  abbrev pub are-due : List ℕ → ℕ → Bool
  are-due name lo = is_name_of_resource machine plans ask rows name (slice_get machine.resources rule.resource.0) && (from == lo) && nat_le from to && nat_le to (order_length machine plans ask rows b rule)

  -- a node of the next depth stands there
  places-here : depth ≡ suc b.depth → (t : Bool) → t ≡ true → at_depth depth (cond t (Some (at_places machine plans ask rows b rule from to)) None) ≡ Some (at_places machine plans ask rows b rule from to)
  places-here is t fits = ap (λ x. at_depth depth (cond x (Some (at_places machine plans ask rows b rule from to)) None)) fits ∙ go (from == to) where
    go : (x : Bool) → at_depth depth (Some (cond x one several)) ≡ Some (cond x one several)
    go true = ap (λ x. cond x (Some one) None) (on-it depth (suc b.depth) is)
    go false = ap (λ x. cond x (Some several) None) (on-it depth (suc b.depth) is)

  pub stands-here : (name : List ℕ) (lo : ℕ) → depth ≡ suc b.depth → are-due name lo ≡ true → at_depth depth (stand_of machine plans ask rows (places b rule lo) (AtHead name from to)) ≡ Some (at_places machine plans ask rows b rule from to)
  stands-here name lo is due = places-here is (are-due name lo) due

  -- one of other places stands nowhere
  pub stands-not : (name : List ℕ) (lo : ℕ) → are-due name lo ≡ false → at_depth depth (stand_of machine plans ask rows (places b rule lo) (AtHead name from to)) ≡ None
  stands-not name lo other = ap (λ x. at_depth depth (cond x (Some (at_places machine plans ask rows b rule from to)) None)) other

  -- nor does one of another depth
  places-elsewhere : depth ≢ suc b.depth → (t : Bool) → at_depth depth (cond t (Some (at_places machine plans ask rows b rule from to)) None) ≡ None
  places-elsewhere other false = refl
  places-elsewhere other true = go (from == to) where
    go : (x : Bool) → at_depth depth (Some (cond x one several)) ≡ None
    go true = ap (λ x. cond x (Some one) None) (off-it depth (suc b.depth) other)
    go false = ap (λ x. cond x (Some several) None) (off-it depth (suc b.depth) other)

  pub stands-elsewhere : (name : List ℕ) (lo : ℕ) → depth ≢ suc b.depth → at_depth depth (stand_of machine plans ask rows (places b rule lo) (AtHead name from to)) ≡ None
  stands-elsewhere name lo other = places-elsewhere other (are-due name lo)

  pub stands-alone : (s : Stand) → s ≡ bare (placed-at b from depth) → from ≡ to → depth ≡ suc b.depth → s ≡ at_places machine plans ask rows b rule from to
  stands-alone s is same deep = is ∙ ap (λ n. bare (placed-at b from n)) deep ∙ ap (λ x. cond x one several) (sym (on-it from to same))
