-- A refill on the live part of a state is one on the whole.
use Rattle.std.proofs.Common.{◌≡◌, ◌==◌, ◌∙◌, ℕ, Bool, true, false, cond, List, refl, sym, ap, pos, ◌+ℤ◌, Contains, Option, Some, None, option_and_then}
use Rattle.std.specs.Prelude.{IsSomeAnd, not, filter, position, ℤ, int_lt}
use Rattle.tp_schedule.specs.declared.parts.Plan.{Plan}
use Rattle.tp_schedule.specs.declared.records.Cause.TheVariants.{Stock}
use Rattle.tp_machine.specs.declared.parts.LocId.{LocId}
use Rattle.std.specs.Str.{bytes_eq}
use Rattle.tp_machine.specs.declared.parts.Feeder.{Feeder}
use Rattle.tp_machine.specs.declared.machine.Machine.{Machine}
use Rattle.tp_schedule.specs.LivePlans.{is_live}
use Rattle.tp_stock.specs.Stock.{feeder_at, feeder_named, free_stock, most_free}
use Rattle.tp_stock.proofs.StockFacts.{keeps-stock, less-more}
use Rattle.tp_event_rules.proofs.ListFacts.{find-Some}
use Rattle.tp_event_rules.specs.StateInvariants.{live_part}
use Rattle.tp_event_rules.specs.Refusals.{feeder_refusal, refill_refusal, stock_refusal}
use Rattle.tp_event_rules.specs.States.{SessionState}
use Rattle.tp_event_rules.specs.Turns.{with_refill}

pub live-refill : (machine : Machine) (f : Feeder) (count : ℕ) (s : SessionState) → live_part machine (with_refill f count s) ≡ with_refill f count (live_part machine s)
live-refill machine f count s = ap (λ refills. record (live_part machine s) { refills = refills }) (less-more machine (filter (λ p. not (is_live machine s.now p)) s.plans) f.loc.0 count s.refills)

-- a feeder of the name is one of the machine's
pub named-there : (machine : Machine) (name : List ℕ) (f : Feeder) → feeder_named machine name ≡ Some f → Contains machine.feeders f
named-there machine name f e = go (position (bytes_eq name) machine.locations) e where
  go : (o : Option ℕ) → option_and_then (feeder_at machine) o ≡ Some f → Contains machine.feeders f
  go None e = absurd (cc)
  go (Some loc) e = (find-Some (λ (g : Feeder). g.loc.0 == loc) machine.feeders f e).0

pub same-refusal : (machine : Machine) (s : SessionState) (name : List ℕ) (count : ℕ) → refill_refusal machine (live_part machine s).refills (live_part machine s).plans name count ≡ refill_refusal machine s.refills s.plans name count
same-refusal machine s name count = go (feeder_named machine name) refl where
  go : (o : Option Feeder) → feeder_named machine name ≡ o → feeder_refusal machine (live_part machine s).refills (live_part machine s).plans name count o ≡ feeder_refusal machine s.refills s.plans name count o
  go None e = refl
  go (Some f) e = ap (stock_refusal name count) (keeps-stock machine s.refills s.plans (is_live machine s.now) f (named-there machine name f e))

-- the feeder that is refilled
pub found-feeder : (o : Option Feeder) (loc : LocId) → IsSomeAnd o (λ f. f.loc ≡ loc) → (f : Feeder) × (o ≡ Some f) × (f.loc ≡ loc)
found-feeder None loc none = absurd none
found-feeder (Some f) loc is = (f, refl, is)

-- why a feeder with a stock is not refilled, or that it is
module _ (machine : Machine) (refills : List ℤ) (plans : List Plan) (name : List ℕ) (count : ℕ) (f : Feeder) (named : feeder_named machine name ≡ Some f) (free : ℤ) (left : free_stock machine refills plans f ≡ Some free) where
  by-test : (b : Bool) → int_lt (pos most_free) (free +ℤ pos count) ≡ b → refill_refusal machine refills plans name count ≡ cond b (Some (Stock name)) None
  by-test b e =
      ap (feeder_refusal machine refills plans name count) named ∙ ap (stock_refusal name count) left ∙ ap (λ c. cond c (Some (Stock name)) None) e

  pub too-many : int_lt (pos most_free) (free +ℤ pos count) ≡ true → Some (Stock name) ≡ refill_refusal machine refills plans name count
  too-many e = sym (by-test true e)

  pub not-many : int_lt (pos most_free) (free +ℤ pos count) ≡ false → None ≡ refill_refusal machine refills plans name count
  not-many e = sym (by-test false e)
