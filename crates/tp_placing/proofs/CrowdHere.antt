-- The next hold of the newest action, wherever up to a place it is put, pushes the hold there.
use Rattle.std.proofs.Common.{◌≡◌, ◌==◌, true, ℕ, suc, ◌+◌, ◌<◌, ◌≤◌, List, length, refl, ap, sym, ◌∙◌, subst, arith, Option, Some, None, IsSomeAnd, ℤ}
use Rattle.std.specs.Prelude.{◌≤ℤ◌}
use Rattle.std.specs.List.{slice_get}
use Rattle.std.specs.List.Sorted.{IsNonDecreasingBy}
use Rattle.std.proofs.lemmas.List.{length-map}
use Rattle.std.proofs.lemmas.Option.{slice_get_within}
use Rattle.tp_base.proofs.SliceFacts.{All-at}
use Rattle.tp_base.specs.Net.{IsSolution, Net}
use Rattle.tp_base.specs.Readings.{Reading}
use Rattle.tp_base.specs.declared.edges.PointId.{PointId}
use Rattle.tp_machine.specs.Modes.{gap_at}
use Rattle.tp_machine.specs.ModuleUse.{action_at}
use Rattle.tp_machine.specs.declared.machine.Machine.{Machine}
use Rattle.tp_machine.specs.declared.parts.ActId.{ActId}
use Rattle.tp_schedule.specs.Holders.{holds_of_act}
use Rattle.tp_schedule.specs.Plans.{LastsWithin}
use Rattle.tp_schedule.specs.Spots.{IsSoundSlot, Slot, Spot, Ticks}
use Rattle.tp_schedule.specs.Spots.Spot.{kept, own}
use Rattle.tp_constraints.specs.Numbers.{spot_in, table_of}
use Rattle.tp_constraints.proofs.Lists.{contains-get}
use Rattle.tp_constraints.specs.Suffixes.{IsSuffixPoint, SuffixTimes, choice_slot, order_in, suffix_cap, suffix_low, with_place}
use Rattle.tp_constraints.specs.Walks.{IsNextHold}
use Rattle.tp_constraints.proofs.HeldSlots.{own-sound, placed-sound}
use Rattle.tp_constraints.proofs.Rooms.{same-is}
use Rattle.tp_constraints.proofs.Solutions.{times-solve}
use Rattle.tp_constraints.proofs.PlaceWalks.{walk_place}
use Rattle.tp_placing.specs.Boards.{BoardValue, suffix_after}
use Rattle.tp_placing.specs.PushedHolds.{ArePlanned, IsAmong, IsPutBy, LastsAtLeast, begin_by}
use Rattle.tp_placing.specs.Edges.{held_behind}
use Rattle.tp_placing.specs.LoadedBoard.{table_with}
use Rattle.tp_placing.specs.RefusedPlace.{EndsAfterUpTo, StandsBack}
use Rattle.tp_placing.specs.declared.candidates.Candidate.{Candidate}
use Rattle.tp_placing.specs.declared.parts.Held.{Held}
use Rattle.tp_placing.proofs.BackFacts.{stands-back}
use Rattle.tp_placing.proofs.CauseFacts.{keeps-all}
use Rattle.tp_placing.proofs.CrowdSlots.{among-of, begin-is, by_number, end-is, number-tick, put-by, row-by, timed-at}
use Rattle.tp_placing.proofs.LoadTicks.{firsts-rise}
use Rattle.tp_placing.proofs.NameFacts.{firsts-only}
use Rattle.tp_placing.proofs.NewestFacts.{IsNext, order, places, suffix}
use Rattle.tp_placing.proofs.NextHold.{end-here, slots-here, start-here}
use Rattle.tp_placing.proofs.ReadFacts.{end-point}
use Rattle.tp_placing.proofs.StandFacts.{and-some}
use Rattle.tp_placing.proofs.TableFacts.{begins-at, table-left}

module _ {N : Type 0} {reading : Reading N} {b : BoardValue N} {m : Machine} {hold place : ℕ} {c : Candidate} (k : IsNext reading b m hold place c) where
  abbrev table : List Spot
  table = table_with b.plans (suc (suc (length (places k).choices)))

  abbrev net : Net
  net = reading.net b.net

  abbrev slots : List Slot
  slots = order_in m b.plans (suffix k) c.hold.rule.resource.0

  abbrev slot : Slot
  slot = choice_slot c.hold.rule (length (places k).choices)

  lows-are : length net.lows ≡ length table
  lows-are = ap length (places k).at.net.lows ∙ length-map table (suffix_low m b.plans k.ask (suffix k))

  -- the points of its holds are those of the network
  pub among-here : (i : ℕ) (h : Held) → held_behind b.held (order k) i ≡ Some h → IsAmong (length net.lows) h
  among-here i h e = subst (λ n. IsAmong n h) (sym lows-are) (timed-at table (λ s. 0) b.held (order k) slots (slots-here k) i h e).among

  pub among-new : IsAmong (length net.lows) c.hold
  among-new = among-of table c.hold _ _ (length net.lows) lows-are (start-here k) (end-here k)

  last-is : slice_get table b.last.0 ≡ Some (own 0)
  last-is = end-point b.plans (Some (suffix k)) refl b.last.0 k.stands.last

  pub last-known : b.last.0 < length net.lows
  last-known = let w = slice_get_within table b.last.0 (own 0) last-is in omega (arith, w, lows-are)

  next : IsNextHold m (suffix k) slot
  next = record { choice = (places k).choice; choices = (places k).choices; newest = refl; is_rule = (places k).is_rule; is_slot = refl }

  -- times with the hold at a place are times without it
  times-here : (earlier : ℕ) → earlier ≤ place → (t : Ticks) → SuffixTimes m b.plans k.ask (with_place earlier (suffix k)) t → SuffixTimes m b.plans k.ask (suffix k) t
  times-here earlier le t ok = ((walk_place m b.plans k.ask (suffix k) slot earlier t next (omega (arith, le, (places k).within))).0 ok).0.0

  -- and a solution in which it stands there
  put-here : (earlier : ℕ) → earlier ≤ place → (t : Ticks) → SuffixTimes m b.plans k.ask (with_place earlier (suffix k)) t → IsSolution net (by_number table t) × IsPutBy (by_number table t) b.held (order k) c.hold earlier
  put-here earlier le t ok =
      let w = (walk_place m b.plans k.ask (suffix k) slot earlier t next (omega (arith, le, (places k).within))).0 ok in
      let times = w.0.0 in
      let sound = placed-sound m t c.hold.rule.resource.0 b.plans (suffix k).choices times.keeps.lasts times.lasts in
      let row = row-by table t b.held (order k) slots (slots-here k) (gap_at m c.hold.rule.resource.0) (times.apart c.hold.rule.resource.0) sound in (
        times-solve (IsSuffixPoint b.plans (suffix k)) (suffix_low m b.plans k.ask (suffix k)) (suffix_cap m b.plans k.ask) (SuffixTimes m b.plans k.ask (suffix k)) table net (places k).at.net t times,
        put-by table t b.held (order k) slots (slots-here k) (gap_at m c.hold.rule.resource.0) earlier c.hold slot (begin-is table t c.hold slot refl (start-here k) (end-here k)) (end-is table t c.hold slot refl (start-here k) (end-here k))
            (new-sound t times) row w.1 w.0.1,
      ) where
        new-sound : (t : Ticks) → SuffixTimes m b.plans k.ask (suffix k) t → IsSoundSlot t slot
        new-sound t times =
            All-at (λ rule. (rule.resource.0 == c.hold.rule.resource.0) ≡ true → IsSoundSlot t (record { rule = rule; from = own (suc (length (places k).choices)); to = own (length (places k).choices) })) (holds_of_act (action_at m (places k).choice.act.0)) (length (places k).choice.places) c.hold.rule
            (own-sound m t c.hold.rule.resource.0 (suffix k).choices times.lasts).0 (places k).is_rule (same-is c.hold.rule.resource.0 c.hold.rule.resource.0 refl)

  -- the first points rise
  pub firsts-here : IsNonDecreasingBy (λ (f : PointId). f.0) b.firsts
  firsts-here = subst (IsNonDecreasingBy (λ (f : PointId). f.0)) (sym (firsts-only 0 b.plans b.firsts k.stands.firsts)) (firsts-rise b.plans)

  -- the actions of the plans last within their durations, by the numbers of their points
  planned-here : (t : Ticks) → SuffixTimes m b.plans k.ask (suffix k) t → ArePlanned m b.plans b.firsts (by_number table t)
  planned-here t times j i p f act plan first acts =
      let within = slice_get_within p.acts i act acts in
      let start = number-tick table t (f.0 + i) (kept p.sheet i) (there i (omega (arith, within))) in
      let end = number-tick table t (f.0 + suc i) (kept p.sheet (suc i)) (there (suc i) (omega (arith, within))) in
      let lasts : LastsWithin m act (t (kept p.sheet i)) (t (kept p.sheet (suc i))) = times.keeps.lasts p (contains-get b.plans j p plan) i act acts in
      subst (λ n. LastsWithin m act n (by_number table t (f.0 + suc i))) (sym start) (subst (LastsWithin m act (t (kept p.sheet i))) (sym end) lasts)
    where
      there : (n : ℕ) → n ≤ length p.acts → slice_get table (f.0 + n) ≡ Some (kept p.sheet n)
      there n le =
          let begin = begins-at 0 b.plans b.firsts j p f k.stands.firsts plan first in
          let number = begin.1 in
          let at : f.0 + n ≡ begin.0 + n = omega (arith, number) in
          table-left b.plans (suc (suc (length (places k).choices))) (f.0 + n) (kept p.sheet n) (ap (slice_get (table_of b.plans)) at ∙ begin.2.get n le)

  -- the newest action lasts so long at least
  abbrev pub NewestLasts : Option ℕ → Type 0
  NewestLasts least = (ticks : ℕ) → least ≡ Some ticks → IsSomeAnd c.newest.newest (λ act. (start end : ℕ) → LastsWithin m act start end → start + ticks ≤ end)

  new-lasts : (least : Option ℕ) → NewestLasts least → (t : Ticks) → SuffixTimes m b.plans k.ask (suffix k) t → LastsAtLeast (by_number table t) c.hold least
  new-lasts least known t times ticks is =
      let n = length (places k).choices in
      let within : (start end : ℕ) → LastsWithin m (places k).choice.act start end → start + ticks ≤ end =
      subst (λ o. IsSomeAnd o (λ (act : ActId). (start end : ℕ) → LastsWithin m act start end → start + ticks ≤ end)) (places k).hand.0 (known ticks is) in
      let start = number-tick table t c.hold.start.0 (own (suc n)) (start-here k) in
      let end = number-tick table t c.hold.end.0 (own n) (end-here k) in
      let lasts = within (t (own (suc n))) (t (own n)) times.lasts.0 in
      omega (arith, start, end, lasts)

  -- so the end comes after the limit, where the hold at the place is pushed so far that it does
  pub crowded-here : (till : ℤ) (limit : ℕ) (behind : Held) (least : Option ℕ) → held_behind b.held (order k) place ≡ Some behind → NewestLasts least
      → ((y : ℕ → ℕ) (earlier : ℕ) → earlier ≤ place → IsSolution net y → ArePlanned m b.plans b.firsts y → LastsAtLeast y c.hold least → IsPutBy y b.held (order k) c.hold earlier → (h : Held) → held_behind b.held (order k) place ≡ Some h → till ≤ℤ begin_by y h)
      → ((y : ℕ → ℕ) → IsSolution net y → till ≤ℤ begin_by y behind → limit < y b.last.0)
      → IsSomeAnd (suffix_after b.steps) (EndsAfterUpTo m b place limit)
  crowded-here till limit behind least there known bound late =
      and-some (suffix_after b.steps) (suffix k) _ (places k).suffix (and-some b.ask k.ask _ k.stands.asked ends) where
        ends : (earlier : ℕ) → earlier ≤ place → (t : Ticks) → SuffixTimes m b.plans k.ask (with_place earlier (suffix k)) t → limit < t (own 0)
        ends earlier le t ok =
            let times = times-here earlier le t ok in
            let y = by_number table t in
            let p = put-here earlier le t ok in
            let after = late y p.0 (bound y earlier le p.0 (planned-here t times) (new-lasts least known t times) p.1 behind there) in
            subst (λ s. limit < t s) (ap spot_in last-is) after

  pub back-crowded : {A : Type 0} (untouched : N → A) (n : N) → reading.past n ≡ reading.past b.net → StandsBack reading untouched (record b { net = n; limit = None }) m
  back-crowded untouched n past = stands-back reading untouched b n b.causes m k.ask k.stands past (keeps-all (length b.steps) b.causes)
