-- Feeders stand at different locations, and what is free at each is a count.
use Rattle.std.proofs.Common.{◌≡◌, ◌≢◌, ◌∙◌, ℕ, ◌==◌, cond, List, [], ◌∷◌, ◌+◌, ◌++◌, get_or, map, take, find, refl, ap, inl, inr, AllPairs, Contains, Option, Some, None, pos, ◌+ℤ◌, ◌-ℤ◌, ◌≤ℤ◌, arith}
use Rattle.std.specs.Prelude.{IfSome, slice_get, ℤ}
use Rattle.std.proofs.lemmas.List.{map-append, take_more}
use Rattle.std.proofs.lemmas.Option.{get_or_from_slice_get, slice_get_within}
use Rattle.std.proofs.lemmas.Bool.{eq-eqb, ne_eqb}
use Rattle.std.proofs.lemmas.Int.{ints}
use Rattle.std.proofs.lemmas.List.Elements.{All-contains}
use Rattle.tp_machine.proofs.MachineFacts.{is_machine}
use Rattle.tp_machine.proofs.SortedNames.{rising_names_differ}
use Rattle.tp_machine.specs.Rules.{name_in}
use Rattle.tp_machine.specs.declared.machine.Machine.{Machine}
use Rattle.tp_machine.specs.declared.parts.Feeder.{Feeder}
use Rattle.tp_schedule.proofs.Membership.{Contains-cons_cases}
use Rattle.tp_schedule.proofs.Pairs.{AllPairs-each, AllPairs-head, AllPairs-map_from, AllPairs-tail}
use Rattle.tp_stock.proofs.StockFacts.{feeder-known, free-told}
use Rattle.tp_stock.specs.Stock.{by_location, free_of, free_stock, most_stocked, refilled, taken_at}
use Rattle.tp_event_rules.specs.Ready.{KeepsStock}
use Rattle.tp_event_rules.specs.States.{SessionState}

abbrev pub Apart : Feeder → Feeder → Type 0
Apart f g = f.loc.0 ≢ g.loc.0

abbrev name_at : Machine → Feeder → List ℕ
name_at machine f = name_in (slice_get machine.locations f.loc.0)

pub feeders-apart : (machine : Machine) → AllPairs Apart machine.feeders
feeders-apart machine =
    AllPairs-each (λ (f g : Feeder). name_at machine f ≢ name_at machine g) Apart machine.feeders
    (AllPairs-map_from (λ a b. a ≢ b) (name_at machine) machine.feeders (rising_names_differ (map (name_at machine) machine.feeders) (is_machine machine).feeders_rise))
    (λ f g in' in'' differ same. differ (ap (λ n. name_in (slice_get machine.locations n)) same))

-- each is the one that is found at its location
found : (feeders : List Feeder) → AllPairs Apart feeders → (f : Feeder) → Contains feeders f → find (λ (g : Feeder). g.loc.0 == f.loc.0) feeders ≡ Some f
found [] apart f in' = absurd (omega (arith, in'.1))
found (g ∷ feeders) apart f in' = elim (Contains-cons_cases g feeders f in') [
  | inl same ↦ ap (λ b. cond b (Some g) (find (λ (h : Feeder). h.loc.0 == f.loc.0) feeders)) (eq-eqb g.loc.0 f.loc.0 (ap (λ (h : Feeder). h.loc.0) same)) ∙ ap Some same
  | inr later ↦
      ap (λ b. cond b (Some g) (find (λ (h : Feeder). h.loc.0 == f.loc.0) feeders)) (ne_eqb g.loc.0 f.loc.0 (All-contains (Apart g) feeders f (AllPairs-head Apart g feeders apart) later))
      ∙ found feeders (AllPairs-tail Apart g feeders apart) f later
]

-- what is free is not below zero, and not too much
pub record IsCount (free : ℤ) : Type 0 where
  pub some : pos 0 ≤ℤ free
  pub few : free ≤ℤ pos most_stocked

pub free-count : (machine : Machine) (events : ℕ) (s : SessionState) → KeepsStock machine events s → (f : Feeder) → Contains machine.feeders f → IfSome (free_stock machine s.refills s.plans f) IsCount
free-count machine events s keeps f in' = go f.stock refl where
  go : (o : Option ℕ) → f.stock ≡ o → IfSome (free_of o (refilled s.refills f.loc.0) (taken_at machine s.plans f.loc.0)) IsCount
  go None is = tt
  go (Some stock) is =
      let drawn = keeps.drawn f in' stock is in
      let most = keeps.most f.loc.0 f stock (found machine.feeders (feeders-apart machine) f in') is in
      record { some = omega (arith, ints, drawn); few = omega (arith, ints, drawn, most) }

-- the same by a list of what was taken at each location
pub counted : (machine : Machine) (s : SessionState) (counts : List ℕ) → counts ≡ by_location (taken_at machine s.plans) → (f : Feeder) → Contains machine.feeders f
    → free_of f.stock (refilled s.refills f.loc.0) (get_or counts f.loc.0 0) ≡ free_stock machine s.refills s.plans f
counted machine s counts is f in' = free-told machine s.refills s.plans f counts (free_of f.stock (refilled s.refills f.loc.0) (get_or counts f.loc.0 0)) (feeder-known machine f in') is refl

pub count-some : (free : Option ℤ) → IfSome free IsCount → IfSome free (λ n. pos 0 ≤ℤ n)
count-some None count = tt
count-some (Some n) count = count.some

pub count-few : (free : Option ℤ) → IfSome free IsCount → IfSome free (λ n. n ≤ℤ pos most_stocked)
count-few None count = tt
count-few (Some n) count = count.few

-- the first feeders with the next one
pub next-row : {Y : Type 0} (f : Feeder → Y) (feeders : List Feeder) (i : ℕ) (g : Feeder) → slice_get feeders i ≡ Some g → map f (take (i + 1) feeders) ≡ map f (take i feeders) ++ f g ∷ []
next-row f feeders i g is =
    ap (map f) (take_more feeders i g (slice_get_within feeders i g is) ∙ ap (λ h. take i feeders ++ h ∷ []) (get_or_from_slice_get feeders i g g is)) ∙ map-append f (take i feeders) (g ∷ [])

pub member : (feeders : List Feeder) (i : ℕ) (g : Feeder) → slice_get feeders i ≡ Some g → Contains feeders g
member feeders i g is = (i, slice_get_within feeders i g is, get_or_from_slice_get feeders i g g is)
