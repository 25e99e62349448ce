-- What an ask keeps of the schedule: nothing of a new copy, the front of a copy in flight.
use Rattle.std.proofs.Common.{◌≡◌, ℕ, suc, ◌+◌, ◌-◌, ◌≤◌, ◌<◌, true, false, ◌&&◌, List, [], ◌∷◌, map, length, refl, ap, sym, arith, ◌∙◌, subst, Some, slice_get, nat_le, nat_lt}
use Rattle.std.proofs.lemmas.Bool.Decides.{nat_tests}
use Rattle.std.proofs.lemmas.List.{map-append}
use Rattle.tp_choices.proofs.OwnSlots.{settled_slot, map-slots_by}
use Rattle.tp_choices.proofs.OwnPlaces.{own_acts, LastActs}
use Rattle.tp_machine.specs.ModuleUse.{action_at}
use Rattle.tp_schedule.specs.Answers.{kept_of, kept_from, kept_acts, acts_in, IsAsked, IsAskedFrom}
use Rattle.tp_schedule.specs.Holders.{holds_of_act}
use Rattle.tp_schedule.specs.Plans.{plan_of, LastsWithin, is_fixed}
use Rattle.tp_schedule.specs.Spots.{Ticks, slots_by, slots_from}
use Rattle.tp_machine.specs.declared.parts.ActId.{ActId}
use Rattle.tp_machine.specs.declared.machine.Machine.{Machine}
use Rattle.tp_schedule.specs.declared.parts.Ask.{Ask}
use Rattle.tp_schedule.specs.declared.parts.Kind.TheVariants.{Whole, Front}
use Rattle.tp_schedule.specs.declared.parts.Origin.{Origin}
use Rattle.tp_schedule.specs.declared.parts.Origin.TheVariants.{Feeder as FromFeeder, Front as FromFront}
use Rattle.tp_schedule.specs.declared.parts.Plan.{Plan}
use Rattle.tp_schedule.specs.declared.parts.SheetId.{SheetId}
use Rattle.tp_schedule.specs.Spots.Spot.{own}

pub map-own_acts : (machine : Machine) (copy : SheetId) (total resource n : ℕ) (acts : List ActId) → n + length acts ≡ total → map (settled_slot copy total) (own_acts machine resource acts) ≡ slots_from machine resource copy n acts
map-own_acts machine copy total resource n [] e = refl
map-own_acts machine copy total resource n (act ∷ acts) e =
    let rest = map-own_acts machine copy total resource (suc n) acts (omega arith) in
    let first : total - suc (length acts) ≡ n = omega arith in
    let second : total - length acts ≡ suc n = omega arith in
    rw (
      map-append (settled_slot copy total) (slots_by resource (own (suc (length acts))) (own (length acts)) (holds_of_act (action_at machine act.0))) (own_acts machine resource acts),
      map-slots_by copy total resource (own (suc (length acts))) (own (length acts)) (holds_of_act (action_at machine act.0)),
      rest,
      first,
      second,
    ) refl

pub LastActs-each : (machine : Machine) (t : Ticks) (acts : List ActId) → ((i m : ℕ) (act : ActId) → slice_get acts i ≡ Some act → i + suc m ≡ length acts → LastsWithin machine act (t (own (suc m))) (t (own m))) → LastActs machine t acts
LastActs-each machine t [] each = tt
LastActs-each machine t (act ∷ acts) each = (each 0 (length acts) act refl (omega arith), LastActs-each machine t acts (λ i m a e is. each (suc i) m a e (omega arith)))

-- what the asked copy has in the schedule
pub record IsKept (machine : Machine) (plans : List Plan) (ask : Ask) : Type 0 where
  pub count : length (kept_acts ask.sheet plans) ≡ kept_of ask
  pub front : (p : Plan) → plan_of ask.sheet plans ≡ Some p → (p.kind ≡ Front) × (length p.acts ≡ kept_of ask) × (p.released ≡ kept_of ask) × (0 < kept_of ask)

pub kept-by : (machine : Machine) (plans : List Plan) (ask : Ask) → IsAsked machine plans ask → IsKept machine plans ask
kept-by machine plans ask asked = go ask.origin refl asked where
  go : (o : Origin) → ask.origin ≡ o → IsAskedFrom machine plans ask o → IsKept machine plans ask
  go FromFeeder e none = record { count = rw (e, none) refl; front = λ p is. absurd (let bad = is in cc) }
  go (FromFront state end count) e (p, is, front) =
      let kept-is : kept_of ask ≡ count = ap kept_from e in
      record {
        count = ap (λ o. length (acts_in o)) is ∙ front.acts ∙ sym kept-is;
        front = λ q is-q. let same : p ≡ q = let one = is in let other = is-q in cc in
            subst (λ r. (r.kind ≡ Front) × (length r.acts ≡ kept_of ask) × (r.released ≡ kept_of ask) × (0 < kept_of ask)) same (front.front, front.acts ∙ sym kept-is, front.released ∙ sym kept-is, omega (arith, front.some, kept-is));
      }

pub fixed_no_more : (p : Plan) (k n : ℕ) → p.kind ≡ Whole → p.released ≡ k → k < n → is_fixed p n ≡ false
fixed_no_more p k n whole released h = rw (whole, released) (behind k n h) where
  behind : (k' n' : ℕ) → k' < n' → (nat_lt 0 k' && nat_le n' k') ≡ false
  behind k' n' h' = grind (arith, nat_tests)

pub fixed_till : (p : Plan) (k n : ℕ) → p.kind ≡ Whole → p.released ≡ k → 0 < k → n ≤ k → is_fixed p n ≡ true
fixed_till p k n whole released some h = rw (whole, released) (within k n some h) where
  within : (k' n' : ℕ) → 0 < k' → n' ≤ k' → (nat_lt 0 k' && nat_le n' k') ≡ true
  within k' n' some' h' = grind (arith, nat_tests)
