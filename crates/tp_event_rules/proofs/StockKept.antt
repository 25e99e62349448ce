-- What is kept of the stock of a live state: in the empty state, through a refill and a move of the clock.
use Rattle.std.proofs.Common.{◌≡◌, ◌≢◌, ℕ, ◌+◌, ◌*◌, ◌<◌, ◌≤◌, ◌==◌, eqb, ◌^◌, Bool, true, false, cond, List, [], ◌∷◌, length, refl, sym, ap, ◌∙◌, subst, inl, inr, arith, All, Contains, Option, Some, None, option_and_then, pos, ◌+ℤ◌, ◌-ℤ◌, ◌≤ℤ◌}
use Rattle.std.specs.Prelude.{IfSome, ℤ, count_by, filter, int_lt, neg_ℤ, not, position}
use Rattle.std.specs.Str.{bytes_eq}
use Rattle.std.proofs.lemmas.Bool.{cases_Bool, cases_lt, eqb-true}
use Rattle.std.proofs.lemmas.Int.{ints}
use Rattle.std.proofs.lemmas.List.Elements.{All-contains, All-head, All-tail}
use Rattle.std.proofs.lemmas.Option.{same_Some}
use Rattle.std.proofs.lemmas.List.Sums.{count_by-le-length}
use Rattle.tp_machine.specs.declared.parts.Feeder.{Feeder}
use Rattle.tp_machine.specs.declared.machine.Machine.{Machine}
use Rattle.tp_machine.proofs.MachineFacts.{is_machine}
use Rattle.tp_schedule.specs.LivePlans.{is_live, live_count}
use Rattle.tp_schedule.specs.declared.parts.Plan.{Plan}
use Rattle.tp_schedule.specs.declared.records.Cause.TheVariants.{Stock}
use Rattle.tp_stock.specs.Stock.{AreWithin, IsBounded, IsStockedWithin, begins_at, drawn_at, feeder_at, feeder_named, free_of, less_taken, more_at, most_free, no_refills, refilled, taken_at}
use Rattle.tp_stock.proofs.StockFacts.{at-location, at-none, count-cons, drawn-few, drawn-fewer, drawn-more, drawn-part, feeder-known, refilled-less, refilled-more}
use Rattle.tp_event_rules.proofs.ListFacts.{find-Some}
use Rattle.tp_event_rules.proofs.ReleasedPlans.{AreLeft-released}
use Rattle.tp_event_rules.proofs.TakenSheets.{taken-left}
use Rattle.tp_event_rules.specs.Clock.{clock_move, released_until}
use Rattle.tp_event_rules.specs.StateInvariants.{live_part}
use Rattle.tp_event_rules.specs.Ready.{KeepsLive, KeepsStock, last_copy}
use Rattle.tp_event_rules.specs.Refusals.{feeder_refusal, refill_refusal, stock_refusal}
use Rattle.tp_event_rules.specs.States.{SessionState, empty_state}
use Rattle.tp_event_rules.specs.Turns.{with_refill}

-- in the empty state
none-refilled : (loc : ℕ) → refilled no_refills loc ≡ pos 0
none-refilled loc = elim (cases_lt loc 256) [
  | inl within ↦ at-location (λ loc. pos 0) loc (pos 0) within
  | inr high ↦ at-none (λ loc. pos 0) loc (pos 0) high
]

pub stock-empty : (machine : Machine) → KeepsStock machine 0 empty_state
stock-empty machine = record {
  drawn = λ f in' stock is. rw (none-refilled f.loc.0) (omega (arith, ints));
  most = λ loc f stock at is. rw (none-refilled loc) (low stock (stocked f (there machine loc f at) stock is));
  within = λ loc. rw (none-refilled loc) (omega (arith, ints), omega (arith, ints));
} where
  there : (machine : Machine) (loc : ℕ) (f : Feeder) → feeder_at machine loc ≡ Some f → Contains machine.feeders f
  there machine loc f at = (find-Some (λ (g : Feeder). g.loc.0 == loc) machine.feeders f at).0

  stocked : (f : Feeder) → Contains machine.feeders f → (stock : ℕ) → f.stock ≡ Some stock → stock ≤ 1000000
  stocked f in' stock is = subst (λ o. IfSome o (λ n. n ≤ 1000000)) is (All-contains (λ (g : Feeder). IfSome g.stock (λ n. n ≤ 1000000)) machine.feeders f (is_machine machine).stocks in')

  low : (stock : ℕ) → stock ≤ 1000000 → (pos stock +ℤ pos 0) ≤ℤ pos 1000512
  low stock le = omega (arith, ints)

-- more events
between : (n m : ℕ) (r : ℤ) → n ≤ m → (neg_ℤ (pos n) ≤ℤ r) × (r ≤ℤ pos n) → (neg_ℤ (pos m) ≤ℤ r) × (r ≤ℤ pos m)
between n m r le (low, high) = (omega (arith, ints), omega (arith, ints))

pub within-more : (events more : ℕ) (refills : List ℤ) → events ≤ more → AreWithin events refills → AreWithin more refills
within-more events more refills le within loc = between (events * 1000000) (more * 1000000) (refilled refills loc) (omega arith) (within loc)

pub within-bounded : (events : ℕ) (refills : List ℤ) → events ≤ last_copy + 1 → AreWithin events refills → IsBounded refills
within-bounded events refills le within loc = between (events * 1000000) (2 ^ 62) (refilled refills loc) (omega arith) (within loc)

pub stock-more : (machine : Machine) (events more : ℕ) (s : SessionState) → events ≤ more → KeepsStock machine events s → KeepsStock machine more s
stock-more machine events more s le keeps = record { drawn = keeps.drawn; most = keeps.most; within = within-more events more s.refills le keeps.within }

-- as many plans as are live
count-every : {X : Type 0} (test : X → Bool) (xs : List X) → All (λ x. test x ≡ true) xs → count_by test xs ≡ length xs
count-every test [] all = refl
count-every test (x ∷ xs) all =
    let here = All-head (λ y. test y ≡ true) x xs all in
    let one = count-cons test x xs ∙ ap (λ b. cond b 1 0 + count_by test xs) here in
    let rest = count-every test xs (All-tail (λ y. test y ≡ true) x xs all) in omega arith

pub few-plans : (machine : Machine) (copies : ℕ) (s : SessionState) → KeepsLive machine copies s → length s.plans ≤ 256
few-plans machine copies s keeps =
    let few : live_count machine s.now s.plans ≤ 256 = keeps.plans.few_live in
    let all : live_count machine s.now s.plans ≡ length s.plans = count-every (is_live machine s.now) s.plans keeps.live in omega arith

-- a refill that is accepted: its feeder has a stock, and not too many sheets are free then
pub record IsAccepted (machine : Machine) (refills : List ℤ) (plans : List Plan) (f : Feeder) (count : ℕ) : Type 0 where
  pub stock : ℕ
  pub is : f.stock ≡ Some stock
  pub few : (((pos stock +ℤ refilled refills f.loc.0) -ℤ pos (taken_at machine plans f.loc.0)) +ℤ pos count) ≤ℤ pos 1000000

pub accepted-refill : (machine : Machine) (refills : List ℤ) (plans : List Plan) (name : List ℕ) (count : ℕ) (f : Feeder) → refill_refusal machine refills plans name count ≡ None → feeder_named machine name ≡ Some f
    → IsAccepted machine refills plans f count
accepted-refill machine refills plans name count f accepted named = by f.stock refl (subst (λ o. feeder_refusal machine refills plans name count o ≡ None) named accepted) where
  by : (o : Option ℕ) → f.stock ≡ o → stock_refusal name count (free_of o (refilled refills f.loc.0) (taken_at machine plans f.loc.0)) ≡ None → IsAccepted machine refills plans f count
  by None is e = absurd (cc)
  by (Some stock) is e = record { stock = stock; is = is; few = few ((pos stock +ℤ refilled refills f.loc.0) -ℤ pos (taken_at machine plans f.loc.0)) e } where
    few : (free : ℤ) → stock_refusal name count (Some free) ≡ None → (free +ℤ pos count) ≤ℤ pos 1000000
    few free e = go (int_lt (pos most_free) (free +ℤ pos count)) refl e where
      go : (b : Bool) → int_lt (pos most_free) (free +ℤ pos count) ≡ b → cond b (Some (Stock name)) None ≡ None → (free +ℤ pos count) ≤ℤ pos 1000000
      go true g h = absurd (cc)
      go false g h = grind (arith, ints)

named-at : (machine : Machine) (name : List ℕ) (f : Feeder) → feeder_named machine name ≡ Some f → feeder_at machine f.loc.0 ≡ Some f
named-at machine name f e = go (position (bytes_eq name) machine.locations) e where
  go : (o : Option ℕ) → option_and_then (feeder_at machine) o ≡ Some f → feeder_at machine f.loc.0 ≡ Some f
  go None e = absurd (cc)
  go (Some loc) e = let same = eqb-true f.loc.0 loc (find-Some (λ (g : Feeder). g.loc.0 == loc) machine.feeders f e).1 in ap (feeder_at machine) same ∙ e

module _ (machine : Machine) (events : ℕ) (s : SessionState) (few : length s.plans ≤ 256) (keeps : KeepsStock machine events s) where
  taken-few : (loc : ℕ) → taken_at machine s.plans loc ≤ 256
  taken-few loc = let most = count_by-le-length (begins_at machine loc) s.plans in omega arith

  pub stock-refill : (name : List ℕ) (count : ℕ) (f : Feeder) → refill_refusal machine s.refills s.plans name count ≡ None → feeder_named machine name ≡ Some f → KeepsStock machine (events + 1) (with_refill f count s)
  stock-refill name count f accepted named = record {
    drawn = drawn-more machine f.loc.0 count s.refills s.plans keeps.drawn;
    most = most;
    within = within;
  } where
    of : IsAccepted machine s.refills s.plans f count
    of = accepted-refill machine s.refills s.plans name count f accepted named

    at : feeder_at machine f.loc.0 ≡ Some f
    at = named-at machine name f named

    there : Contains machine.feeders f
    there = (find-Some (λ (g : Feeder). g.loc.0 == f.loc.0) machine.feeders f at).0

    drawn : pos (taken_at machine s.plans f.loc.0) ≤ℤ (pos of.stock +ℤ refilled s.refills f.loc.0)
    drawn = keeps.drawn f there of.stock of.is

    -- no more than may be free
    count-few : (stock taken count : ℕ) (r : ℤ) → pos taken ≤ℤ (pos stock +ℤ r) → (((pos stock +ℤ r) -ℤ pos taken) +ℤ pos count) ≤ℤ pos 1000000 → count ≤ 1000000
    count-few stock taken count r low high = omega (arith, ints)

    stock-few : (stock taken count : ℕ) (r : ℤ) → taken ≤ 256 → (((pos stock +ℤ r) -ℤ pos taken) +ℤ pos count) ≤ℤ pos 1000000 → (pos stock +ℤ (r +ℤ pos count)) ≤ℤ pos 1000512
    stock-few stock taken count r low high = omega (arith, ints)

    plain : (stock : ℕ) (r : ℤ) → (pos stock +ℤ r) ≤ℤ pos 1000512 → (pos stock +ℤ (r +ℤ pos 0)) ≤ℤ pos 1000512
    plain stock r low = omega (arith, ints)

    most : IsStockedWithin machine (more_at f.loc.0 count s.refills)
    most loc g stock at' is = elim (cases_Bool (eqb loc f.loc.0)) [
      | inl same ↦
          let e = eqb-true loc f.loc.0 same in
          let known = feeder-known machine f there in
          let low : loc < 256 = omega (arith, e) in
          let one : g ≡ f = same_Some g f (sym at' ∙ ap (feeder_at machine) e ∙ at) in
          let stocks : stock ≡ of.stock = same_Some stock of.stock (sym is ∙ ap (λ (h : Feeder). h.stock) one ∙ of.is) in
          rw (refilled-more f.loc.0 count s.refills loc low, same)
          (subst (λ l. (pos stock +ℤ (refilled s.refills l +ℤ pos count)) ≤ℤ pos 1000512) (sym e)
          (subst (λ n. (pos n +ℤ (refilled s.refills f.loc.0 +ℤ pos count)) ≤ℤ pos 1000512) (sym stocks) (stock-few of.stock (taken_at machine s.plans f.loc.0) count (refilled s.refills f.loc.0) (taken-few f.loc.0) of.few)))
      | inr other ↦
          let found = find-Some (λ (h : Feeder). h.loc.0 == loc) machine.feeders g at' in
          let known = feeder-known machine g found.0 in
          let e = eqb-true g.loc.0 loc found.1 in
          let low : loc < 256 = omega (arith, e) in
          rw (refilled-more f.loc.0 count s.refills loc low, other) (plain stock (refilled s.refills loc) (keeps.most loc g stock at' is))
    ]

    within : AreWithin (events + 1) (more_at f.loc.0 count s.refills)
    within loc = elim (cases_lt loc 256) [
      | inl low ↦ rw (refilled-more f.loc.0 count s.refills loc low) (added (refilled s.refills loc) (cond (loc == f.loc.0) count 0) (at-most (loc == f.loc.0)) (keeps.within loc))
      | inr high ↦ rw (at-none (λ loc. refilled s.refills loc +ℤ pos (cond (loc == f.loc.0) count 0)) loc (pos 0) high) (omega (arith, ints), omega (arith, ints))
    ] where
      at-most : (b : Bool) → cond {A = ℕ} b count 0 ≤ 1000000
      at-most true = count-few of.stock (taken_at machine s.plans f.loc.0) count (refilled s.refills f.loc.0) drawn of.few
      at-most false = omega arith

      added : (r : ℤ) (n : ℕ) → n ≤ 1000000 → (neg_ℤ (pos (events * 1000000)) ≤ℤ r) × (r ≤ℤ pos (events * 1000000)) → (neg_ℤ (pos ((events + 1) * 1000000)) ≤ℤ (r +ℤ pos n)) × ((r +ℤ pos n) ≤ℤ pos ((events + 1) * 1000000))
      added r n le (low, high) = (omega (arith, ints), omega (arith, ints))

  -- the clock moves on, and what ended is forgotten
  pub stock-moved : (to : ℕ) → KeepsStock machine (events + 1) (live_part machine (clock_move machine to s).state)
  stock-moved to = record {
    drawn = drawn-part machine s.refills (released_until machine to s.plans) (is_live machine to) (drawn-fewer machine s.refills s.plans (released_until machine to s.plans) fewer keeps.drawn);
    most = most;
    within = within;
  } where
    gone : List Plan
    gone = filter (λ p. not (is_live machine to p)) (released_until machine to s.plans)

    fewer : (loc : ℕ) → taken_at machine (released_until machine to s.plans) loc ≤ taken_at machine s.plans loc
    fewer loc = taken-left machine loc s.plans (released_until machine to s.plans) (AreLeft-released machine to s.plans)

    count-part : {X : Type 0} (test keep : X → Bool) (xs : List X) → count_by test (filter keep xs) ≤ count_by test xs
    count-part test keep [] = omega arith
    count-part {X} test keep (x ∷ xs) = go (keep x) (count-part test keep xs) where
      go : (b : Bool) → count_by test (filter keep xs) ≤ count_by test xs → count_by test (cond b (x ∷ filter keep xs) (filter keep xs)) ≤ count_by test (x ∷ xs)
      go true le = let one = count-cons test x xs in let other = count-cons test x (filter keep xs) in omega arith
      go false le = let one = count-cons test x xs in omega arith

    gone-few : (loc : ℕ) → taken_at machine gone loc ≤ 256
    gone-few loc =
        let part = count-part (begins_at machine loc) (λ p. not (is_live machine to p)) (released_until machine to s.plans) in
        let less = fewer loc in
        let few' = taken-few loc in omega arith

    lower : (stock n : ℕ) (r : ℤ) → (pos stock +ℤ r) ≤ℤ pos 1000512 → (pos stock +ℤ (r -ℤ pos n)) ≤ℤ pos 1000512
    lower stock n r high = omega (arith, ints)

    most : IsStockedWithin machine (less_taken machine gone s.refills)
    most loc g stock at is =
        let found = find-Some (λ (h : Feeder). h.loc.0 == loc) machine.feeders g at in
        let known = feeder-known machine g found.0 in
        let e = eqb-true g.loc.0 loc found.1 in
        let low : loc < 256 = omega (arith, e) in
        rw (refilled-less machine gone s.refills loc low) (lower stock (drawn_at machine gone loc) (refilled s.refills loc) (keeps.most loc g stock at is))

    within : AreWithin (events + 1) (less_taken machine gone s.refills)
    within loc = elim (cases_lt loc 256) [
      | inl low ↦ rw (refilled-less machine gone s.refills loc low) (off (refilled s.refills loc) (drawn_at machine gone loc) (let few = drawn-few machine gone loc in let all = gone-few loc in omega arith) (keeps.within loc))
      | inr high ↦ rw (at-none (λ loc. refilled s.refills loc -ℤ pos (drawn_at machine gone loc)) loc (pos 0) high) (omega (arith, ints), omega (arith, ints))
    ] where
      off : (r : ℤ) (n : ℕ) → n ≤ 256 → (neg_ℤ (pos (events * 1000000)) ≤ℤ r) × (r ≤ℤ pos (events * 1000000)) → (neg_ℤ (pos ((events + 1) * 1000000)) ≤ℤ (r -ℤ pos n)) × ((r -ℤ pos n) ≤ℤ pos ((events + 1) * 1000000))
      off r n le (low, high) = (omega (arith, ints), omega (arith, ints))
