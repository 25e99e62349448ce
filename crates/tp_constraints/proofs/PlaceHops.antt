-- What a place adds are hops, and what stood before another still does.
use Rattle.tp_constraints.proofs.NeighbourHops.{lift-hop, lift-hops}
use Rattle.std.proofs.Common.{◌≡◌, ℕ, zero, suc, ◌≤◌, ◌<◌, Bool, true, false, cond, ◌==◌, List, [], ◌∷◌, ◌++◌, length, insert, refl, sym, arith, All, ◌∙◌, ap, subst, Option, Some, None}
use Rattle.std.specs.Prelude.{slice_get}
use Rattle.std.proofs.lemmas.List.Elements.{All-nil, All-cons, All-append}
use Rattle.std.proofs.lemmas.Bool.Decides.{nat_tests}
use Rattle.tp_machine.specs.ModuleUse.{action_at}
use Rattle.tp_machine.specs.declared.parts.HoldRule.{HoldRule}
use Rattle.tp_machine.specs.declared.machine.Machine.{Machine}
use Rattle.tp_schedule.specs.Holders.{holds_of_act}
use Rattle.tp_schedule.specs.declared.parts.Ask.{Ask}
use Rattle.tp_schedule.specs.declared.parts.Plan.{Plan}
use Rattle.tp_schedule.specs.Spots.{Slot, slot_order}
use Rattle.tp_schedule.specs.Spots.Spot.{own}
use Rattle.tp_schedule.specs.Choices.{Choice, placed}
use Rattle.tp_constraints.specs.Suffixes.{Suffix, order_in, before_place, place_first, with_place, choice_slot}
use Rattle.tp_constraints.specs.Hops.{Hop, IsHop, slot_hop, hop_after, hop_until, place_hops, PlaceHops}
use Rattle.tp_constraints.specs.Hops.IsHop.{by_order}
use Rattle.tp_constraints.proofs.PlaceGaps.{put_places-push}
use Rattle.tp_constraints.proofs.Runs.{acts-replaced}

-- what stood before another still does after a hold was put in
abbrev pub moved : ℕ → ℕ → ℕ
moved zero k = suc k
moved (suc p) zero = 0
moved (suc p) (suc k) = suc (moved p k)

moved-less : (p i j : ℕ) → i < j → moved p i < moved p j
moved-less zero i j less = omega arith
moved-less (suc p) zero zero less = absurd (omega (arith, less))
moved-less (suc p) zero (suc j) less = omega arith
moved-less (suc p) (suc i) zero less = absurd (omega (arith, less))
moved-less (suc p) (suc i) (suc j) less = let r = moved-less p i j (omega arith) in omega (arith, r)

get-moved : (xs : List Slot) (p : ℕ) (s : Slot) (k : ℕ) (a : Slot) → slice_get xs k ≡ Some a → slice_get (insert xs p s) (moved p k) ≡ Some a
get-moved [] p s k a e = absurd cc
get-moved (x ∷ xs) zero s k a e = e
get-moved (x ∷ xs) (suc p) s zero a e = e
get-moved (x ∷ xs) (suc p) s (suc k) a e = get-moved xs p s k a e

get-here : (xs : List Slot) (p : ℕ) (s : Slot) → p ≤ length xs → slice_get (insert xs p s) p ≡ Some s
get-here xs zero s le = refl
get-here [] (suc p) s le = absurd (omega (arith, le))
get-here (x ∷ xs) (suc p) s le = get-here xs p s (omega arith)

moved-before : (p : ℕ) → moved (suc p) p < suc p
moved-before zero = omega arith
moved-before (suc p) = let r = moved-before p in omega arith

pub moved-over : (p k : ℕ) → p ≤ k → p < moved p k
moved-over zero k le = omega arith
moved-over (suc p) zero le = absurd (omega (arith, le))
moved-over (suc p) (suc k) le = let r = moved-over p k (omega (arith, le)) in omega (arith, r)

moved-after : (p : ℕ) → p < moved p p
moved-after zero = omega arith
moved-after (suc p) = let r = moved-after p in omega arith

module _ (machine : Machine) (plans : List Plan) (ask : Ask) (rooms : List ℕ) (stopped : Bool) (c : Choice) (choices : List Choice) (rule : HoldRule) (place : ℕ)
    (next : slice_get (holds_of_act (action_at machine c.act.0)) (length c.places) ≡ Some rule) (le : place ≤ length (placed machine rule.resource.0 (slot_order machine plans rule.resource.0) (c ∷ choices))) where
  abbrev old : Suffix
  old = record { choices = c ∷ choices; rooms = rooms; stopped = stopped }

  abbrev new : Suffix
  new = with_place place old

  abbrev slot : Slot
  slot = choice_slot rule (length choices)

  new-order : (r : ℕ) → order_in machine plans new r ≡ cond (rule.resource.0 == r) (insert (order_in machine plans old r) place slot) (order_in machine plans old r)
  new-order r = put_places-push r (own (suc (length choices))) (own (length choices)) (holds_of_act (action_at machine c.act.0)) c.places place rule (placed machine r (slot_order machine plans r) choices) next

  order-there : order_in machine plans new rule.resource.0 ≡ insert (order_in machine plans old rule.resource.0) place slot
  order-there = let e : (rule.resource.0 == rule.resource.0) ≡ true = grind (arith, nat_tests) in new-order rule.resource.0 ∙ ap (λ b. cond b (insert (order_in machine plans old rule.resource.0) place slot) (order_in machine plans old rule.resource.0)) e

  orders : (r i j : ℕ) (a b : Slot) → i < j → slice_get (order_in machine plans old r) i ≡ Some a → slice_get (order_in machine plans old r) j ≡ Some b → IsHop machine plans ask new (slot_hop machine r a b)
  orders r i j a b less e f = go (rule.resource.0 == r) (new-order r) where
    go : (t : Bool) → order_in machine plans new r ≡ cond t (insert (order_in machine plans old r) place slot) (order_in machine plans old r) → IsHop machine plans ask new (slot_hop machine r a b)
    go true is = by_order r (moved place i) (moved place j) a b (moved-less place i j less)
        (subst (λ xs. slice_get xs (moved place i) ≡ Some a) (sym is) (get-moved (order_in machine plans old r) place slot i a e))
        (subst (λ xs. slice_get xs (moved place j) ≡ Some b) (sym is) (get-moved (order_in machine plans old r) place slot j b f))
    go false is = by_order r i j a b less (subst (λ xs. slice_get xs i ≡ Some a) (sym is) e) (subst (λ xs. slice_get xs j ≡ Some b) (sym is) f)

  pub at-place : slice_get (order_in machine plans new rule.resource.0) place ≡ Some slot
  at-place = subst (λ xs. slice_get xs place ≡ Some slot) (sym order-there) (get-here (order_in machine plans old rule.resource.0) place slot le)

  pub at-moved : (k : ℕ) (a : Slot) → slice_get (order_in machine plans old rule.resource.0) k ≡ Some a → slice_get (order_in machine plans new rule.resource.0) (moved place k) ≡ Some a
  at-moved k a e = subst (λ xs. slice_get xs (moved place k) ≡ Some a) (sym order-there) (get-moved (order_in machine plans old rule.resource.0) place slot k a e)

  before-hop : (o : Option Slot) → ((a : Slot) → o ≡ Some a → IsHop machine plans ask new (slot_hop machine rule.resource.0 a slot)) → All (IsHop machine plans ask new) (hop_after machine rule.resource.0 o slot)
  before-hop None each = All-nil (IsHop machine plans ask new)
  before-hop (Some a) each = All-cons (IsHop machine plans ask new) (slot_hop machine rule.resource.0 a slot) [] (each a refl) (All-nil (IsHop machine plans ask new))

  after-hop : (o : Option Slot) → ((a : Slot) → o ≡ Some a → IsHop machine plans ask new (slot_hop machine rule.resource.0 slot a)) → All (IsHop machine plans ask new) (hop_until machine rule.resource.0 slot o)
  after-hop None each = All-nil (IsHop machine plans ask new)
  after-hop (Some a) each = All-cons (IsHop machine plans ask new) (slot_hop machine rule.resource.0 slot a) [] (each a refl) (All-nil (IsHop machine plans ask new))

  before-is : (p : ℕ) (a : Slot) → place ≡ p → before_place (order_in machine plans old rule.resource.0) p ≡ Some a → IsHop machine plans ask new (slot_hop machine rule.resource.0 a slot)
  before-is zero a is e = absurd cc
  before-is (suc p) a is e = by_order rule.resource.0 (moved place p) place a slot (rw is (moved-before p)) (at-moved p a e) at-place

  pub place-hops : (hs : List Hop) → All (IsHop machine plans ask old) hs → All (IsHop machine plans ask new) (hs ++ place_hops machine rule.resource.0 (order_in machine plans old rule.resource.0) place slot)
  place-hops hs all =
      All-append (IsHop machine plans ask new) hs (place_hops machine rule.resource.0 (order_in machine plans old rule.resource.0) place slot)
      (lift-hops machine plans ask old new hs (lift-hop machine plans ask old new (acts-replaced c (record { act = c.act; places = c.places ++ place ∷ [] }) choices refl) (λ is. (is, refl)) orders) all)
      (All-append (IsHop machine plans ask new) (hop_after machine rule.resource.0 (before_place (order_in machine plans old rule.resource.0) place) slot) (hop_until machine rule.resource.0 slot (slice_get (order_in machine plans old rule.resource.0) place))
      (before-hop (before_place (order_in machine plans old rule.resource.0) place) (λ a e. before-is place a refl e))
      (after-hop (slice_get (order_in machine plans old rule.resource.0) place) (λ a e. by_order rule.resource.0 place (moved place place) slot a (moved-after place) at-place (at-moved place a e))))

  -- and before each hold behind
  pub ahead-hops : (later : ℕ) → place ≤ later → All (IsHop machine plans ask new) (hop_until machine rule.resource.0 slot (slice_get (order_in machine plans old rule.resource.0) later))
  ahead-hops later over = after-hop (slice_get (order_in machine plans old rule.resource.0) later) (λ a e. by_order rule.resource.0 place (moved place later) slot a (moved-over place later over) at-place (at-moved later a e))

pub places_hops : PlaceHops
places_hops machine plans ask x c choices rule place hs is next le all =
    let le' : place ≤ length (placed machine rule.resource.0 (slot_order machine plans rule.resource.0) (c ∷ choices)) = subst (λ cs. place ≤ length (placed machine rule.resource.0 (slot_order machine plans rule.resource.0) cs)) is le in
    let P : List Choice → Type 0 = (λ cs. All (IsHop machine plans ask (record { choices = cs; rooms = x.rooms; stopped = x.stopped })) hs
    → All (IsHop machine plans ask (record { choices = place_first place cs; rooms = x.rooms; stopped = x.stopped }))
    (hs ++ place_hops machine rule.resource.0 (placed machine rule.resource.0 (slot_order machine plans rule.resource.0) cs) place (choice_slot rule (length choices)))) in
    subst P (sym is) (place-hops machine plans ask x.rooms x.stopped c choices rule place next le' hs) all
