-- What is written of where a state stands denotes the state itself.
use Rattle.std.proofs.Common.{◌≡◌, ℕ, ◌<◌, ◌==◌, ◌||◌, Bool, true, false, cond, List, [], ◌∷◌, map, refl, sym, ap, ◌∙◌, subst, arith, All, AllPairs, Contains, Option, Some, None, pos, negsuc, ◌+ℤ◌, ◌-ℤ◌, ◌≤ℤ◌}
use Rattle.std.specs.Prelude.{◌&&◌, is_some, option_map, ℤ}
use Rattle.std.specs.List.{list_any}
use Rattle.std.proofs.lemmas.Bool.{eqb-true, ne_eqb}
use Rattle.std.proofs.lemmas.Int.{ints}
use Rattle.std.proofs.lemmas.List.Elements.{All-head, All-tail}
use Rattle.tp_machine.specs.declared.parts.Feeder.{Feeder}
use Rattle.tp_schedule.proofs.Membership.{Contains-here, Contains-later}
use Rattle.tp_schedule.proofs.Pairs.{AllPairs-head, AllPairs-tail}
use Rattle.tp_stock.specs.Stock.{free_of, is_counted, refilled, taken_at}
use Rattle.tp_stock.proofs.CountedFacts.{counts}
use Rattle.tp_session_standing.proofs.FeederFacts.{Apart, feeders-apart}
use Rattle.tp_session_standing.specs.StandingStates.{count_of, refill_at, refill_by, standing_of, standing_state, standing_refills}
use Rattle.tp_session.specs.Laws.{StandsAsTold}
use Rattle.tp_session.proofs.CountedRefills.{by-same}

-- a count that isn't below nought
counted-as : (z : ℤ) → pos 0 ≤ℤ z → pos (count_of z) ≡ z
counted-as (pos n) le = refl
counted-as (negsuc n) le = absurd (omega (arith, ints))

not-less : (stock taken : ℕ) (r : ℤ) → pos taken ≤ℤ (pos stock +ℤ r) → pos 0 ≤ℤ ((pos stock +ℤ r) -ℤ pos taken)
not-less stock taken r le = omega (arith, ints)

refill-back : (stock taken : ℕ) (r z : ℤ) → z ≡ (pos stock +ℤ r) -ℤ pos taken → (z +ℤ pos taken) -ℤ pos stock ≡ r
refill-back stock taken r z e = omega (arith, ints, e)

-- no feeder that stands elsewhere counts there
none-there : (f : Feeder) (loc : ℕ) (feeders : List Feeder) → f.loc.0 ≡ loc → All (Apart f) feeders → list_any (counts loc) feeders ≡ false
none-there f loc [] at apart = refl
none-there f loc (g ∷ feeders) at apart =
    ap (λ b. (b && is_some g.stock) || list_any (counts loc) feeders) (ne_eqb g.loc.0 loc (λ same. All-head (Apart f) g feeders apart (at ∙ sym same)))
    ∙ none-there f loc feeders at (All-tail (Apart f) g feeders apart)

module _ (taken : ℕ → ℕ) (r : ℕ → ℤ) where
  abbrev free : Feeder → Option ℕ
  free f = option_map count_of (free_of f.stock (r f.loc.0) (taken f.loc.0))

  -- so much was drawn at most
  abbrev NotOver : List Feeder → Type 0
  NotOver feeders = (f : Feeder) → Contains feeders f → (stock : ℕ) → f.stock ≡ Some stock → pos (taken f.loc.0) ≤ℤ (pos stock +ℤ r f.loc.0)

  here : (loc : ℕ) (stock : Option ℕ) (others : Bool) → others ≡ false → ((n : ℕ) → stock ≡ Some n → pos (taken loc) ≤ℤ (pos n +ℤ r loc))
      → refill_by (taken loc) stock (option_map count_of (free_of stock (r loc) (taken loc))) ≡ cond ((true && is_some stock) || others) (r loc) (pos 0)
  here loc None others none drawn = ap (λ b. cond b (r loc) (pos 0)) (sym none)
  here loc (Some n) others none drawn = refill-back n (taken loc) (r loc) (pos (count_of ((pos n +ℤ r loc) -ℤ pos (taken loc)))) (counted-as ((pos n +ℤ r loc) -ℤ pos (taken loc)) (not-less n (taken loc) (r loc) (drawn n refl)))

  told-at : (loc : ℕ) (feeders : List Feeder) → AllPairs Apart feeders → NotOver feeders
      → refill_at (taken loc) loc feeders (map free feeders) ≡ cond (list_any (counts loc) feeders) (r loc) (pos 0)
  told-at loc [] apart drawn = refl
  told-at loc (f ∷ feeders) apart drawn =
      go (f.loc.0 == loc) refl (told-at loc feeders (AllPairs-tail Apart f feeders apart) (λ g in'. drawn g (Contains-later f feeders g in'))) where
        go : (b : Bool) → (f.loc.0 == loc) ≡ b → refill_at (taken loc) loc feeders (map free feeders) ≡ cond (list_any (counts loc) feeders) (r loc) (pos 0)
            → cond b (refill_by (taken loc) f.stock (free f)) (refill_at (taken loc) loc feeders (map free feeders)) ≡ cond ((b && is_some f.stock) || list_any (counts loc) feeders) (r loc) (pos 0)
        go true e rest =
            let at : f.loc.0 ≡ loc = eqb-true f.loc.0 loc e in
            let none = none-there f loc feeders at (AllPairs-head Apart f feeders apart) in
            subst (λ l. refill_by (taken loc) f.stock (option_map count_of (free_of f.stock (r l) (taken l))) ≡ cond ((true && is_some f.stock) || list_any (counts loc) feeders) (r loc) (pos 0)) (sym at)
            (here loc f.stock (list_any (counts loc) feeders) none (λ n is. subst (λ l. pos (taken l) ≤ℤ (pos n +ℤ r l)) at (drawn f (Contains-here f feeders) n is)))
        go false e rest = rest

pub told-back : StandsAsTold
told-back machine events s k = λ i. record s { lost = k.can.kept.lines.fronts i; refills = refills i } where
  taken : ℕ → ℕ
  taken loc = taken_at machine s.plans loc

  each : (loc : ℕ) → loc < 256 → refill_at (taken loc) loc machine.feeders (standing_of machine s).stock ≡ cond (is_counted machine loc) (refilled s.refills loc) (pos 0)
  each loc within = told-at taken (refilled s.refills) loc machine.feeders (feeders-apart machine) k.stocked.drawn

  refills : standing_refills machine (standing_of machine s) ≡ s.refills
  refills =
      by-same (λ loc. refill_at (taken loc) loc machine.feeders (standing_of machine s).stock) (λ loc. cond (is_counted machine loc) (refilled s.refills loc) (pos 0)) each
      ∙ sym k.sound.stock.counted
