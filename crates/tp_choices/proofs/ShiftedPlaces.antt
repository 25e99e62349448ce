-- Choices placed in the orders of a schedule, and in those of its live part: since their holds begin after the moment by
-- which the forgotten ones have ended with their gaps, the places differ by the number of these.
use Rattle.std.proofs.Common.{◌≡◌, ℕ, suc, ◌+◌, ◌≤◌, Bool, true, false, cond, not, ◌==◌, List, [], ◌∷◌, insert, map, length, refl, ap, sym, arith, Contains, All, AllPairs, ◌∙◌, subst, get_or, Option, Some, None}
use Rattle.std.specs.Prelude.{pos, ◌+ℤ◌, ◌≤ℤ◌, ◌<ℤ◌}
use Rattle.std.proofs.lemmas.Bool.{eqb-true}
use Rattle.std.proofs.lemmas.Int.{ints}
use Rattle.std.proofs.lemmas.List.{length-map}
use Rattle.std.proofs.lemmas.List.Edits.{length-insert}
use Rattle.std.proofs.lemmas.List.Elements.{All-head, All-tail, All-nil, Contains-get_or}
use Rattle.std.proofs.lemmas.List.Filters.{length-filter_both}
use Rattle.tp_machine.proofs.ModeFacts.{gap_between-most}
use Rattle.tp_machine.specs.Modes.{gap_at}
use Rattle.tp_machine.specs.ModuleUse.{action_at}
use Rattle.tp_machine.specs.declared.parts.Action.{Action}
use Rattle.tp_machine.specs.declared.parts.ActId.{ActId}
use Rattle.tp_machine.specs.declared.parts.HoldRule.{HoldRule}
use Rattle.tp_machine.specs.declared.machine.Machine.{Machine}
use Rattle.tp_schedule.proofs.Membership.{Contains-filter}
use Rattle.tp_schedule.specs.Choices.{Choice, put_places, placed, AreWithin, HavePlaces, ChoicesLast}
use Rattle.tp_schedule.specs.Holders.{holds_of_act}
use Rattle.tp_schedule.specs.Plans.{LastsWithin}
use Rattle.tp_schedule.specs.Spots.{Spot, Ticks, Slot, IsApart, begin_at, end_at}
use Rattle.tp_schedule.specs.Spots.Spot.{own}
use Rattle.tp_choices.specs.LiveParts.{shift_places, shift_choice}
use Rattle.tp_choices.proofs.EachSlot.{later_slot}
use Rattle.tp_choices.proofs.ShorterLists.{AllPairs-put_places_out}
use Rattle.tp_choices.proofs.PlaceShifts.{Beside, insert-beside}

-- a hold that is forgotten is not empty, and has ended a gap before the moment
pub record IsEnded (gap : ℕ) (t : Ticks) (now : ℕ) (s : Slot) : Type 0 where
  pub long : begin_at t s <ℤ end_at t s
  pub ended : (end_at t s +ℤ pos gap) ≤ℤ pos now

-- the first is not empty and apart from the second, and each that does not stay has ended
pub record IsParted (gap : ℕ) (t : Ticks) (now : ℕ) (keep : Slot → Bool) (x y : Slot) : Type 0 where
  pub apart : IsApart gap t x y
  pub long : begin_at t x <ℤ end_at t x
  pub first : keep x ≡ false → IsEnded gap t now x
  pub second : keep y ≡ false → IsEnded gap t now y

abbrev pub IsLate : Ticks → ℕ → Slot → Type 0
IsLate t now s = pos now ≤ℤ begin_at t s

-- a hold that stays, is not empty, and begins at the moment or after
pub record IsOwn (t : Ticks) (now : ℕ) (keep : Slot → Bool) (s : Slot) : Type 0 where
  pub stays : keep s ≡ true
  pub long : begin_at t s <ℤ end_at t s
  pub late : pos now ≤ℤ begin_at t s

pub never : (gap : ℕ) (t : Ticks) (now : ℕ) (keep : Slot → Bool) (y g : Slot) → IsLate t now y → keep g ≡ false → IsParted gap t now keep y g → ⊥
never gap t now keep y g late gone r =
    let long-y = r.long in
    let apart = r.apart in
    let long = (r.second gone).long in
    let past = (r.second gone).ended in
    omega (arith, ints)

abbrev pub BesideAt : ℕ → Ticks → ℕ → (Slot → Bool) → List Slot → List Slot → List Slot → Type 0
BesideAt gap t now keep = Beside keep (IsParted gap t now keep) (IsLate t now) (never gap t now keep)

pub length-beside : (gap : ℕ) (t : Ticks) (now : ℕ) (keep : Slot → Bool) (olds xs ys : List Slot) → BesideAt gap t now keep olds xs ys → length xs ≡ length ys + length olds
length-beside gap t now keep olds xs ys b =
    let both = length-filter_both keep (λ x. not (keep x)) (λ x. refl) xs in
    let stay = ap length b.stay in
    let gone = ap length b.gone in
    omega arith

-- the slots behind an own one are late
late-behind : (gap : ℕ) (t : Ticks) (now : ℕ) (keep : Slot → Bool) (x y : Slot) → IsOwn t now keep x → IsParted gap t now keep x y → IsLate t now y
late-behind gap t now keep x y one r = let long = one.long in let late = one.late in let apart = r.apart in omega (arith, ints)

-- the holds of an action, put into both
pub put-beside : (gap : ℕ) (t : Ticks) (now : ℕ) (keep : Slot → Bool) (resource : ℕ) (olds : List Slot) (counts : ℕ → ℕ) (from to : Spot) (rules : List HoldRule) (places : List ℕ) (orders : ℕ → List Slot) (xs ys : List Slot)
    → counts resource ≡ length olds → ((g : Slot) → Contains olds g → IsEnded gap t now g) → All (λ rule. IsOwn t now keep (record { rule = rule; from = from; to = to })) rules → AreWithin orders rules places → length (orders resource) ≤ length ys
    → BesideAt gap t now keep olds xs ys → AllPairs (IsParted gap t now keep) (put_places resource from to rules places ys)
    → BesideAt gap t now keep olds (put_places resource from to rules (shift_places counts rules places) xs) (put_places resource from to rules places ys)
put-beside gap t now keep resource olds counts from to [] places orders xs ys is ended all within le b apart = b
put-beside gap t now keep resource olds counts from to (h ∷ rules) [] orders xs ys is ended all within le b apart = b
put-beside gap t now keep resource olds counts from to (h ∷ rules) (place ∷ places) orders xs ys is ended all within le b apart =
    go (h.resource.0 == resource) refl apart (λ zs ws. put-beside gap t now keep resource olds counts from to rules places orders zs ws is ended (All-tail (λ rule. IsOwn t now keep (record { rule = rule; from = from; to = to })) h rules all) within.1) where
      parted : (g : Slot) → keep g ≡ false → IsEnded gap t now g → IsOwn t now keep (record { rule = h; from = from; to = to }) → IsParted gap t now keep g (record { rule = h; from = from; to = to })
      parted g gone past one = record {
        apart = let late = one.late in let ended' = past.ended in let most = gap_between-most gap g.rule h in omega (arith, ints);
        long = past.long;
        first = λ _. past;
        second = λ no_stay. absurd (let stays = one.stays in cc);
      }

      go : (c : Bool) → (h.resource.0 == resource) ≡ c → AllPairs (IsParted gap t now keep) (put_places resource from to rules places (cond c (insert ys place (record { rule = h; from = from; to = to })) ys))
          → ((zs ws : List Slot) → length (orders resource) ≤ length ws → BesideAt gap t now keep olds zs ws → AllPairs (IsParted gap t now keep) (put_places resource from to rules places ws)
          → BesideAt gap t now keep olds (put_places resource from to rules (shift_places counts rules places) zs) (put_places resource from to rules places ws))
          → BesideAt gap t now keep olds (put_places resource from to rules (shift_places counts rules places) (cond c (insert xs (place + counts h.resource.0) (record { rule = h; from = from; to = to })) xs))
          (put_places resource from to rules places (cond c (insert ys place (record { rule = h; from = from; to = to })) ys))
      go false e apart' rest = rest xs ys le b apart'
      go true e apart' rest =
          let same : h.resource.0 ≡ resource = eqb-true h.resource.0 resource e in
          let counted : counts h.resource.0 ≡ length olds = ap counts same ∙ is in
          let fits : place ≤ length ys = let inside = within.0 in let lengths = ap (λ r. length (orders r)) same in omega arith in
          let one = All-head (λ rule. IsOwn t now keep (record { rule = rule; from = from; to = to })) h rules all in
          let out = AllPairs-put_places_out (IsParted gap t now keep) resource from to rules places (insert ys place (record { rule = h; from = from; to = to })) apart' in
          let put = insert-beside keep (IsParted gap t now keep) (IsLate t now) (never gap t now keep) olds xs ys place (record { rule = h; from = from; to = to }) b one.stays fits out
          (λ y r. late-behind gap t now keep (record { rule = h; from = from; to = to }) y one r)
          (λ g gone in'. parted g gone (ended g (subst (λ zs. Contains zs g) b.gone (Contains-filter (λ z. not (keep z)) xs g in' (rw gone refl)))) one) in
          let longer = length-insert ys place (record { rule = h; from = from; to = to }) fits in
          subst (λ n. BesideAt gap t now keep olds (put_places resource from to rules (shift_places counts rules places) (insert xs (place + n) (record { rule = h; from = from; to = to }))) (put_places resource from to rules places (insert ys place (record { rule = h; from = from; to = to })))) (sym counted)
          (rest (insert xs (place + length olds) (record { rule = h; from = from; to = to })) (insert ys place (record { rule = h; from = from; to = to })) (omega arith) put apart')

-- the holds of an action that starts at the moment or after
pub own-rules : (machine : Machine) (t : Ticks) (now : ℕ) (keep : Slot → Bool) (from to : Spot) (act : ActId) → LastsWithin machine act (t from) (t to) → now ≤ t from → ((rule : HoldRule) → keep (record { rule = rule; from = from; to = to }) ≡ true)
    → All (λ rule. IsOwn t now keep (record { rule = rule; from = from; to = to })) (holds_of_act (action_at machine act.0))
own-rules machine t now keep from to act lasts late stays = go (action_at machine act.0) refl where
  go : (o : Option Action) → action_at machine act.0 ≡ o → All (λ rule. IsOwn t now keep (record { rule = rule; from = from; to = to })) (holds_of_act o)
  go None e = All-nil (λ rule. IsOwn t now keep (record { rule = rule; from = from; to = to }))
  go (Some a) e = λ k d within.
      let one = later_slot machine t from to act a (get_or a.holds k d) e (Contains-get_or a.holds k d within) lasts in
      let after = one.after in
      record { stays = stays (get_or a.holds k d); long = one.long; late = omega (arith, ints) }

-- the own points lie at the moment or after, and own slots stay
pub record AreOwn (t : Ticks) (now : ℕ) (keep : Slot → Bool) (count : ℕ) : Type 0 where
  pub late : (n : ℕ) → n ≤ count → now ≤ t (own n)
  pub stays : (rule : HoldRule) (from : Spot) (n : ℕ) → keep (record { rule = rule; from = from; to = own n }) ≡ true

fewer : (t : Ticks) (now : ℕ) (keep : Slot → Bool) (n : ℕ) → AreOwn t now keep (suc n) → AreOwn t now keep n
fewer t now keep n own' = record { late = λ m le. own'.late m (omega arith); stays = own'.stays }

module _ (machine : Machine) (t : Ticks) (now : ℕ) (keep : Slot → Bool) (big small olds : ℕ → List Slot) (counts : ℕ → ℕ) (counted : (r : ℕ) → counts r ≡ length (olds r))
    (ended : (r : ℕ) (g : Slot) → Contains (olds r) g → IsEnded (gap_at machine r) t now g) (base : (r : ℕ) → BesideAt (gap_at machine r) t now keep (olds r) (big r) (small r)) where
  abbrev further : Choice → Choice
  further = shift_choice machine counts

  pub record Placed (choices : List Choice) : Type 0 where
    pub beside : (r : ℕ) → BesideAt (gap_at machine r) t now keep (olds r) (placed machine r (big r) (map (shift_choice machine counts) choices)) (placed machine r (small r) choices)
    pub places : HavePlaces machine big (map (shift_choice machine counts) choices)

  -- places for the choices' holds in the orders of the live part are places in the whole orders, further on
  pub placed-beside : (choices : List Choice) → AreOwn t now keep (length choices) → ChoicesLast machine t choices → HavePlaces machine small choices → ((r : ℕ) → AllPairs (IsParted (gap_at machine r) t now keep) (placed machine r (small r) choices)) → Placed choices
  placed-beside [] own' lasts places apart = record { beside = base; places = tt }
  placed-beside (c ∷ choices) own' lasts places apart =
      let rules = holds_of_act (action_at machine c.act.0) in
      let rest = placed-beside choices (fewer t now keep (length choices) own') lasts.1 places.1
      (λ r. AllPairs-put_places_out (IsParted (gap_at machine r) t now keep) r (own (suc (length choices))) (own (length choices)) (holds_of_act (action_at machine c.act.0)) c.places (placed machine r (small r) choices) (apart r)) in
      let owns = own-rules machine t now keep (own (suc (length choices))) (own (length choices)) c.act lasts.0 (own'.late (suc (length choices)) (omega arith)) (λ rule. own'.stays rule (own (suc (length choices))) (length choices)) in
      let long : length (map (shift_choice machine counts) choices) ≡ length choices = length-map choices (shift_choice machine counts) in
      record {
        beside = λ r. subst (λ n. BesideAt (gap_at machine r) t now keep (olds r) (put_places r (own (suc n)) (own n) (holds_of_act (action_at machine c.act.0)) (shift_places counts (holds_of_act (action_at machine c.act.0)) c.places) (placed machine r (big r) (map (shift_choice machine counts) choices))) (placed machine r (small r) (c ∷ choices))) (sym long)
            (put-beside (gap_at machine r) t now keep r (olds r) counts (own (suc (length choices))) (own (length choices)) (holds_of_act (action_at machine c.act.0)) c.places (λ q. placed machine q (small q) choices) (placed machine r (big r) (map (shift_choice machine counts) choices)) (placed machine r (small r) choices)
            (counted r) (ended r) owns places.0 (omega arith) (rest.beside r) (apart r));
        places = (within (holds_of_act (action_at machine c.act.0)) c.places places.0 (λ r. length-beside (gap_at machine r) t now keep (olds r) (placed machine r (big r) (map (shift_choice machine counts) choices)) (placed machine r (small r) choices) (rest.beside r)), rest.places);
      } where
        within : (rules : List HoldRule) (ks : List ℕ) → AreWithin (λ r. placed machine r (small r) choices) rules ks
            → ((r : ℕ) → length (placed machine r (big r) (map (shift_choice machine counts) choices)) ≡ length (placed machine r (small r) choices) + length (olds r))
            → AreWithin (λ r. placed machine r (big r) (map (shift_choice machine counts) choices)) rules (shift_places counts rules ks)
        within [] [] p longer = tt
        within [] (k ∷ ks) p longer = absurd p
        within (h ∷ rules) [] p longer = absurd p
        within (h ∷ rules) (k ∷ ks) p longer = (let more = longer h.resource.0 in let is = counted h.resource.0 in let one = p.0 in omega arith, within rules ks p.1 longer)
