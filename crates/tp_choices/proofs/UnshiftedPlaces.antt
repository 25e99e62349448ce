-- The reverse: choices placed in the orders of a schedule stand behind all forgotten holds, so they have places in the
-- orders of the live part.
use Rattle.std.proofs.Common.{◌≡◌, ℕ, suc, ◌+◌, ◌-◌, ◌≤◌, Bool, true, false, cond, not, ◌==◌, List, [], ◌∷◌, insert, map, filter, length, refl, ap, sym, arith, All, AllPairs, ◌∙◌, Option, Some, None}
use Rattle.std.proofs.lemmas.Bool.{eqb-true}
use Rattle.std.proofs.lemmas.Int.{ints}
use Rattle.std.proofs.lemmas.List.{length-map}
use Rattle.std.proofs.lemmas.List.Edits.{length-insert}
use Rattle.std.proofs.lemmas.List.Elements.{All-head, All-tail}
use Rattle.tp_machine.proofs.MachineFacts.{is_machine}
use Rattle.tp_machine.specs.Modes.{gap_at}
use Rattle.tp_machine.specs.ModuleUse.{action_at}
use Rattle.tp_machine.specs.declared.parts.Action.{Action}
use Rattle.tp_machine.specs.declared.parts.HoldRule.{HoldRule}
use Rattle.tp_machine.specs.declared.machine.Machine.{Machine}
use Rattle.tp_schedule.proofs.HeldCount.{Differ, NotOn, others_not_on}
use Rattle.tp_schedule.proofs.Pairs.{AllPairs-head, AllPairs-tail, AllPairs-nil, AllPairs-insert_out}
use Rattle.tp_schedule.specs.Choices.{Choice, put_places, placed, AreWithin, HavePlaces, ChoicesLast}
use Rattle.tp_schedule.specs.Holders.{holds_of_act}
use Rattle.tp_schedule.specs.Spots.{Spot, Ticks, Slot}
use Rattle.tp_schedule.specs.Spots.Spot.{own}
use Rattle.tp_choices.specs.LiveParts.{shift_places, shift_choice}
use Rattle.tp_choices.proofs.ShorterLists.{AllPairs-put_places_out}
use Rattle.tp_choices.proofs.OwnPlaces.{put_places-none, same_number}
use Rattle.tp_choices.proofs.ShiftedPlaces.{IsParted, IsLate, IsOwn, AreOwn, never, own-rules}
use Rattle.tp_choices.proofs.PlaceShifts.{IsOut, insert-out}

-- places nearer by so many
unshift_places : (ℕ → ℕ) → List HoldRule → List ℕ → List ℕ
unshift_places count [] places = places
unshift_places count (rule ∷ rules) [] = []
unshift_places count (rule ∷ rules) (place ∷ places) = (place - count rule.resource.0) ∷ unshift_places count rules places

-- nothing that is forgotten stands behind an own slot
none-behind : (gap : ℕ) (t : Ticks) (now : ℕ) (keep : Slot → Bool) (x y : Slot) → IsOwn t now keep x → IsParted gap t now keep x y → keep y ≡ false → ⊥
none-behind gap t now keep x y one r gone =
    let long = one.long in
    let late = one.late in
    let apart = r.apart in
    let long-y = (r.second gone).long in
    let past = (r.second gone).ended in
    omega (arith, ints)

module _ (gaps : ℕ → ℕ) (t : Ticks) (now : ℕ) (keep : Slot → Bool) (counts : ℕ → ℕ) where
  out : (gap : ℕ) (olds xs : List Slot) (n : ℕ) (x : Slot) → filter (λ y. not (keep y)) xs ≡ olds → IsOwn t now keep x → n ≤ length xs → AllPairs (IsParted gap t now keep) (insert xs n x) → IsOut keep (IsParted gap t now keep) (IsLate t now) (never gap t now keep) olds xs n x
  out gap olds xs n x gone one le all = insert-out keep (IsParted gap t now keep) (IsLate t now) (never gap t now keep) olds xs n x gone one.stays le all (λ y r e. none-behind gap t now keep x y one r e)

  -- the holds of an action, on one resource
  put-out : (resource : ℕ) (olds : List Slot) (from to : Spot) (rules : List HoldRule) (places : List ℕ) (orders : ℕ → List Slot) (xs : List Slot) → counts resource ≡ length olds
      → All (λ rule. IsOwn t now keep (record { rule = rule; from = from; to = to })) rules → AreWithin orders rules places → length (orders resource) ≤ length xs
      → filter (λ y. not (keep y)) xs ≡ olds → AllPairs (IsParted (gaps resource) t now keep) (put_places resource from to rules places xs)
      → (filter keep (put_places resource from to rules places xs) ≡ put_places resource from to rules (unshift_places counts rules places) (filter keep xs)) × (filter (λ y. not (keep y)) (put_places resource from to rules places xs) ≡ olds)
  unfolding unshift_places
  put-out resource olds from to [] places orders xs is all within le gone apart = (refl, gone)
  put-out resource olds from to (h ∷ rules) [] orders xs is all within le gone apart = (refl, gone)
  put-out resource olds from to (h ∷ rules) (k ∷ ks) orders xs is all within le gone apart =
      go (h.resource.0 == resource) refl apart (λ zs. put-out resource olds from to rules ks orders zs is (All-tail (λ rule. IsOwn t now keep (record { rule = rule; from = from; to = to })) h rules all) within.1) where
        go : (c : Bool) → (h.resource.0 == resource) ≡ c → AllPairs (IsParted (gaps resource) t now keep) (put_places resource from to rules ks (cond c (insert xs k (record { rule = h; from = from; to = to })) xs))
            → ((zs : List Slot) → length (orders resource) ≤ length zs → filter (λ y. not (keep y)) zs ≡ olds → AllPairs (IsParted (gaps resource) t now keep) (put_places resource from to rules ks zs)
            → (filter keep (put_places resource from to rules ks zs) ≡ put_places resource from to rules (unshift_places counts rules ks) (filter keep zs)) × (filter (λ y. not (keep y)) (put_places resource from to rules ks zs) ≡ olds))
            → (filter keep (put_places resource from to rules ks (cond c (insert xs k (record { rule = h; from = from; to = to })) xs))
            ≡ put_places resource from to rules (unshift_places counts rules ks) (cond c (insert (filter keep xs) (k - counts h.resource.0) (record { rule = h; from = from; to = to })) (filter keep xs)))
            × (filter (λ y. not (keep y)) (put_places resource from to rules ks (cond c (insert xs k (record { rule = h; from = from; to = to })) xs)) ≡ olds)
        go false e apart' rest = rest xs le gone apart'
        go true e apart' rest =
            let same : h.resource.0 ≡ resource = eqb-true h.resource.0 resource e in
            let counted : counts h.resource.0 ≡ length olds = ap counts same ∙ is in
            let fits : k ≤ length xs = let inside = within.0 in let lengths = ap (λ r. length (orders r)) same in omega arith in
            let o = out (gaps resource) olds xs k (record { rule = h; from = from; to = to }) gone (All-head (λ rule. IsOwn t now keep (record { rule = rule; from = from; to = to })) h rules all) fits
            (AllPairs-put_places_out (IsParted (gaps resource) t now keep) resource from to rules ks (insert xs k (record { rule = h; from = from; to = to })) apart') in
            let longer = length-insert xs k (record { rule = h; from = from; to = to }) fits in
            let r = rest (insert xs k (record { rule = h; from = from; to = to })) (omega arith) o.gone apart' in
            (r.0 ∙ ap (put_places resource from to rules (unshift_places counts rules ks)) (o.stay ∙ ap (λ n. insert (filter keep xs) (k - n) (record { rule = h; from = from; to = to })) (sym counted)), r.1)

  -- all its places, on whichever resource
  places-out : (olds : ℕ → List Slot) (from to : Spot) (rules : List HoldRule) (places : List ℕ) (orders : ℕ → List Slot) → ((r : ℕ) → counts r ≡ length (olds r)) → AllPairs Differ rules
      → All (λ rule. IsOwn t now keep (record { rule = rule; from = from; to = to })) rules → AreWithin orders rules places → ((r : ℕ) → filter (λ y. not (keep y)) (orders r) ≡ olds r)
      → ((r : ℕ) → AllPairs (IsParted (gaps r) t now keep) (put_places r from to rules places (orders r)))
      → AreWithin (λ r. filter keep (orders r)) rules (unshift_places counts rules places) × (shift_places counts rules (unshift_places counts rules places) ≡ places)
  unfolding unshift_places
  places-out olds from to [] [] orders counted differ all within gone apart = (tt, refl)
  places-out olds from to [] (k ∷ ks) orders counted differ all within gone apart = absurd within
  places-out olds from to (h ∷ rules) [] orders counted differ all within gone apart = absurd within
  places-out olds from to (h ∷ rules) (k ∷ ks) orders counted differ all within gone apart =
      let slot : Slot = record { rule = h; from = from; to = to } in
      let here = AllPairs-put_places_out (IsParted (gaps h.resource.0) t now keep) h.resource.0 from to rules ks (insert (orders h.resource.0) k slot) (rw (same_number h.resource.0) at (apart h.resource.0)) in
      let o = out (gaps h.resource.0) (olds h.resource.0) (orders h.resource.0) k slot (gone h.resource.0) (All-head (λ rule. IsOwn t now keep (record { rule = rule; from = from; to = to })) h rules all) within.0 here in
      let rest = places-out olds from to rules ks orders counted (AllPairs-tail Differ h rules differ) (All-tail (λ rule. IsOwn t now keep (record { rule = rule; from = from; to = to })) h rules all) within.1 gone
      (λ r. apart-at r (h.resource.0 == r) refl (apart r)) in
      let behind = o.behind in
      let inside = o.within in
      let is = counted h.resource.0 in
      let first : (k - counts h.resource.0) + counts h.resource.0 ≡ k = omega arith in
      ((omega arith, rest.0), λ i. first i ∷ rest.1 i) where
        none : (r : ℕ) → (h.resource.0 == r) ≡ true → All (NotOn r) rules
        none r e = others_not_on r h rules e (AllPairs-head Differ h rules differ)

        apart-at : (r : ℕ) (b : Bool) → (h.resource.0 == r) ≡ b → AllPairs (IsParted (gaps r) t now keep) (put_places r from to rules ks (cond b (insert (orders r) k (record { rule = h; from = from; to = to })) (orders r))) → AllPairs (IsParted (gaps r) t now keep) (put_places r from to rules ks (orders r))
        apart-at r true e all' = rw (put_places-none r from to rules ks (orders r) (none r e))
            (AllPairs-insert_out (IsParted (gaps r) t now keep) (orders r) k (record { rule = h; from = from; to = to }) (AllPairs-put_places_out (IsParted (gaps r) t now keep) r from to rules ks (insert (orders r) k (record { rule = h; from = from; to = to })) all'))
        apart-at r false e all' = all'

module _ (machine : Machine) (t : Ticks) (now : ℕ) (keep : Slot → Bool) (big olds : ℕ → List Slot) (counts : ℕ → ℕ) (counted : (r : ℕ) → counts r ≡ length (olds r))
    (gone : (r : ℕ) → filter (λ y. not (keep y)) (big r) ≡ olds r) where
  -- choices in the live part, which are these choices in the whole schedule
  pub record Nearer (choices : List Choice) : Type 0 where
    pub small : List Choice
    pub is : choices ≡ map (shift_choice machine counts) small
    pub orders : (r : ℕ) → filter keep (placed machine r (big r) choices) ≡ placed machine r (filter keep (big r)) small
    pub olds-stay : (r : ℕ) → filter (λ y. not (keep y)) (placed machine r (big r) choices) ≡ olds r
    pub places : HavePlaces machine (λ r. filter keep (big r)) small
    pub lasts : ChoicesLast machine t small

  pub placed-out : (choices : List Choice) → AreOwn t now keep (length choices) → ChoicesLast machine t choices → HavePlaces machine big choices → ((r : ℕ) → AllPairs (IsParted (gap_at machine r) t now keep) (placed machine r (big r) choices)) → Nearer choices
  placed-out [] own' lasts places apart = record { small = []; is = refl; orders = λ r. refl; olds-stay = gone; places = tt; lasts = tt }
  placed-out (c ∷ choices) own' lasts places apart =
      let rules = holds_of_act (action_at machine c.act.0) in
      let from : Spot = own (suc (length choices)) in
      let to : Spot = own (length choices) in
      let rest = placed-out choices (record { late = λ n le. own'.late n (omega arith); stays = own'.stays }) lasts.1 places.1
      (λ r. AllPairs-put_places_out (IsParted (gap_at machine r) t now keep) r (own (suc (length choices))) (own (length choices)) (holds_of_act (action_at machine c.act.0)) c.places (placed machine r (big r) choices) (apart r)) in
      let owns = own-rules machine t now keep (own (suc (length choices))) (own (length choices)) c.act lasts.0 (own'.late (suc (length choices)) (omega arith)) (λ rule. own'.stays rule (own (suc (length choices))) (length choices)) in
      let near = places-out (gap_at machine) t now keep counts olds (own (suc (length choices))) (own (length choices)) (holds_of_act (action_at machine c.act.0)) c.places (λ r. placed machine r (big r) choices) counted (differ (action_at machine c.act.0) refl) owns places.0 rest.olds-stay apart in
      let long : length rest.small ≡ length choices = sym (length-map rest.small (shift_choice machine counts)) ∙ ap length (sym rest.is) in
      let within : AreWithin (λ r. placed machine r (filter keep (big r)) rest.small) (holds_of_act (action_at machine c.act.0)) (unshift_places counts (holds_of_act (action_at machine c.act.0)) c.places) = within-as (holds_of_act (action_at machine c.act.0)) (unshift_places counts (holds_of_act (action_at machine c.act.0)) c.places) rest.orders near.0 in
      record {
        small = record { act = c.act; places = unshift_places counts (holds_of_act (action_at machine c.act.0)) c.places } ∷ rest.small;
        is = (λ i. record { act = c.act; places = sym near.1 i } ∷ rest.is i);
        orders = λ r.
            let o = put-out (gap_at machine) t now keep counts r (olds r) (own (suc (length choices))) (own (length choices)) (holds_of_act (action_at machine c.act.0)) c.places (λ q. placed machine q (big q) choices) (placed machine r (big r) choices) (counted r) owns places.0 (omega arith) (rest.olds-stay r) (apart r) in
            o.0 ∙ ap (put_places r (own (suc (length choices))) (own (length choices)) (holds_of_act (action_at machine c.act.0)) (unshift_places counts (holds_of_act (action_at machine c.act.0)) c.places)) (rest.orders r)
            ∙ ap (λ n. put_places r (own (suc n)) (own n) (holds_of_act (action_at machine c.act.0)) (unshift_places counts (holds_of_act (action_at machine c.act.0)) c.places) (placed machine r (filter keep (big r)) rest.small)) (sym long);
        olds-stay = λ r. (put-out (gap_at machine) t now keep counts r (olds r) (own (suc (length choices))) (own (length choices)) (holds_of_act (action_at machine c.act.0)) c.places (λ q. placed machine q (big q) choices) (placed machine r (big r) choices) (counted r) owns places.0 (omega arith) (rest.olds-stay r) (apart r)).1;
        places = (within, rest.places);
        lasts = (rw long lasts.0, rest.lasts);
      } where
        differ : (o : Option Action) → action_at machine c.act.0 ≡ o → AllPairs Differ (holds_of_act o)
        differ None e = AllPairs-nil Differ
        differ (Some a) e = (is_machine machine).differ c.act.0 a e

        within-as : (rules : List HoldRule) (ks : List ℕ) {f g : ℕ → List Slot} → ((r : ℕ) → f r ≡ g r) → AreWithin f rules ks → AreWithin g rules ks
        within-as [] [] same p = tt
        within-as [] (k ∷ ks) same p = absurd p
        within-as (h ∷ rules) [] same p = absurd p
        within-as (h ∷ rules) (k ∷ ks) {f} {g} same p = (let one = p.0 in let lengths = ap length (same h.resource.0) in omega arith, within-as rules ks same p.1)
