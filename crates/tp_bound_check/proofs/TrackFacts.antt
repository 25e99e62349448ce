-- Tracks of orders, as the orders grow, and what is between holds of a branch.
use Rattle.std.proofs.Common.{◌≡◌, ℕ, zero, suc, ◌==◌, refl, ◌+◌, ◌-◌, ◌≤◌, ◌<◌, cond, max, min, List, [], ◌∷◌, ◌++◌, length, insert, take, reverse, get_or, sym, ◌∙◌, ap, subst, arith, AllPairs, Option, Some, None}
use Rattle.tp_constraints.proofs.PlaceGaps.{put_places-push}
use Rattle.tp_constraints.specs.Gaps.{Gap}
use Rattle.tp_constraints.specs.Suffixes.{choice_slot, order_in, place_first, with_place, Suffix}
use Rattle.tp_machine.specs.ModuleUse.{action_at}
use Rattle.tp_machine.specs.declared.parts.HoldRule.{HoldRule}
use Rattle.tp_machine.specs.declared.machine.Machine.{Machine}
use Rattle.std.proofs.lemmas.List.{length-take-le}
use Rattle.std.specs.List.{slice_get}
use Rattle.tp_bound_check.proofs.ChoiceFacts.{slice-is}
use Rattle.tp_bound_check.proofs.TableFacts.{take-one}
use Rattle.tp_schedule.specs.Choices.{Choice, placed, put_places}
use Rattle.tp_schedule.specs.Holders.{holds_of_act}
use Rattle.tp_schedule.specs.Plans.{IsEarlier}
use Rattle.tp_schedule.specs.Spots.{Slot, Spot, slot_order}
use Rattle.tp_schedule.specs.Spots.Spot.{own}
use Rattle.tp_schedule.specs.declared.parts.Plan.{Plan}
use Rattle.tp_bound_laws.proofs.ApartStarts.{Apart, starts-apart}
use Rattle.tp_bound_laws.proofs.Lists.{number-same}
use Rattle.tp_machine.specs.Modes.{gap_at}
use Rattle.tp_bound_laws.specs.Chains.{gap_in, or_else, spanned}
use Rattle.tp_bound_laws.specs.Places.{Branch, Span, rule_in}
use Rattle.tp_bound_check.specs.Founds.{found_in, gap_out, put_found, track_of}
use Rattle.tp_bound_check.specs.declared.found.Found.{Found}
use Rattle.tp_bound_check.specs.declared.found.Track.{Track}
use Rattle.tp_bound_check.proofs.CutFacts.{cut-insert, gap-cut}
use Rattle.tp_bound_check.proofs.FoundFacts.{found-insert, insert-length}
use Rattle.tp_bound_check.proofs.LaterFacts.{gap-until}
use Rattle.tp_bound_check.specs.Points.{choices_to}
use Rattle.tp_bound_check.specs.Stands.{order_until}

pub track-put : (b a : Spot) (order : List Slot) (place : ℕ) (s : Slot) (t : Track) (at len : ℕ) (before after : Option Found) → t ≡ track_of b a order → at ≡ min place t.len → len ≡ t.len + 1 → before ≡ put_found b at s t.before
    → after ≡ put_found a at s t.after → record { len = len; before = before; after = after } ≡ track_of b a (insert order place s)
track-put b a order place s t at len before after is at-is len-is before-is after-is =
    let m : at ≡ min place (length order) = at-is ∙ ap (λ k. min place k) (ap (λ (x : Track). x.len) is) in
    let l : len ≡ length (insert order place s) = len-is ∙ ap (λ k. k + 1) (ap (λ (x : Track). x.len) is) ∙ sym (insert-length order place s) in
    let e : before ≡ found_in b (insert order place s) = before-is ∙ ap (λ k. put_found b k s t.before) m ∙ ap (put_found b (min place (length order)) s) (ap (λ (x : Track). x.before) is) ∙ sym (found-insert b order place s) in
    let f : after ≡ found_in a (insert order place s) = after-is ∙ ap (λ k. put_found a k s t.after) m ∙ ap (put_found a (min place (length order)) s) (ap (λ (x : Track). x.after) is) ∙ sym (found-insert a order place s) in
    let G : ℕ → Option Found → Option Found → Track = λ n x y. record { len = n; before = x; after = y } in
    ap (λ n. G n before after) l ∙ ap (λ x. G (length (insert order place s)) x after) e ∙ ap (λ y. G (length (insert order place s)) (found_in b (insert order place s)) y) f

-- one place more
pub places-one : (resource : ℕ) (from to : Spot) (rules : List HoldRule) (places : List ℕ) (at : ℕ) (rule : HoldRule) (place : ℕ) (order : List Slot) (d : HoldRule) → at < length rules → at < length places → rule ≡ get_or rules at d → place ≡ get_or places at 0
    → put_places resource from to rules (take (at + 1) places) order
    ≡ cond (rule.resource.0 == resource) (insert (put_places resource from to rules (take at places) order) place (record { rule = rule; from = from; to = to })) (put_places resource from to rules (take at places) order)
places-one resource from to rules places at rule place order d within inside rule-is place-is =
    let l : length (take at places) ≡ at = length-take-le at places (omega arith) in
    let here : slice_get rules (length (take at places)) ≡ Some rule = ap (slice_get rules) l ∙ slice-is rules at d within ∙ ap (λ r. Some r) (sym rule-is) in
    let one : take (at + 1) places ≡ take at places ++ place ∷ [] = take-one places at place (slice-is places at 0 inside ∙ ap (λ p. Some p) (sym place-is)) in
    ap (λ ps. put_places resource from to rules ps order) one ∙ put_places-push resource from to rules (take at places) place rule order here

pub places-more : (b a : Spot) (resource : ℕ) (from to : Spot) (rules : List HoldRule) (places : List ℕ) (at : ℕ) (rule : HoldRule) (place : ℕ) (order : List Slot) (t new : Track) (d : HoldRule) → at < length rules → at < length places
    → rule ≡ get_or rules at d → place ≡ get_or places at 0 → t ≡ track_of b a (put_places resource from to rules (take at places) order)
    → ((o : List Slot) → t ≡ track_of b a o → new ≡ track_of b a (cond (rule.resource.0 == resource) (insert o place (record { rule = rule; from = from; to = to })) o))
    → new ≡ track_of b a (put_places resource from to rules (take (at + 1) places) order)
places-more b a resource from to rules places at rule place order t new d within inside rule-is place-is is put =
    put (put_places resource from to rules (take at places) order) is ∙ ap (track_of b a) (sym (places-one resource from to rules places at rule place order d within inside rule-is place-is))

-- places for which there is no rule
pub places-few : (resource : ℕ) (from to : Spot) (rules : List HoldRule) (places : List ℕ) (n : ℕ) (order : List Slot) → min (length rules) (length places) ≤ n → put_places resource from to rules (take n places) order ≡ put_places resource from to rules places order
places-few resource from to [] places n order le = refl
places-few resource from to (rule ∷ rules) [] zero order le = refl
places-few resource from to (rule ∷ rules) [] (suc n) order le = refl
places-few resource from to (rule ∷ rules) (place ∷ places) zero order le = absurd (omega arith)
places-few resource from to (rule ∷ rules) (place ∷ places) (suc n) order le =
    places-few resource from to rules places n (cond (rule.resource.0 == resource) (insert order place (record { rule = rule; from = from; to = to })) order) (omega arith)

module _ (machine : Machine) (plans : List Plan) (in_order : AllPairs IsEarlier plans) where
  -- between two holds of an order
  pub gap-whole : (x : Suffix) (resource apart : ℕ) (b a : Spot) → gap_out apart 0 0 (found_in b (order_in machine plans x resource)) (found_in a (order_in machine plans x resource)) ≡ gap_in apart b a (order_in machine plans x resource)
  gap-whole x resource apart b a = sym (gap-cut apart b a 0 0 (order_in machine plans x resource) (omega arith) (starts-apart machine plans x resource in_order))

  order-one : (rule : HoldRule) (place : ℕ) (choices : List Choice) → rule_in machine choices ≡ Some rule
      → placed machine rule.resource.0 (slot_order machine plans rule.resource.0) (place_first place choices) ≡ insert (placed machine rule.resource.0 (slot_order machine plans rule.resource.0) choices) place (choice_slot rule (length choices - 1))
  order-one rule place [] e = absurd cc
  order-one rule place (c ∷ cs) e =
      let n : length (c ∷ cs) - 1 ≡ length cs = omega arith in
      put_places-push rule.resource.0 (own (suc (length cs))) (own (length cs)) (holds_of_act (action_at machine c.act.0)) c.places place rule (placed machine rule.resource.0 (slot_order machine plans rule.resource.0) cs) e
      ∙ ap (λ b. cond b (insert (placed machine rule.resource.0 (slot_order machine plans rule.resource.0) (c ∷ cs)) place (choice_slot rule (length cs))) (placed machine rule.resource.0 (slot_order machine plans rule.resource.0) (c ∷ cs))) (number-same rule.resource.0)
      ∙ ap (λ k. insert (placed machine rule.resource.0 (slot_order machine plans rule.resource.0) (c ∷ cs)) place (choice_slot rule k)) (sym n)

  -- between two holds, where the next hold of the branch has several places
  pub gap-spanned : (x : Suffix) (span : Span) (apart : ℕ) (b a : Spot) → rule_in machine x.choices ≡ Some span.rule → span.lo ≤ span.hi
      → gap_out apart (suc span.lo) (suc span.hi) (found_in b (insert (order_in machine plans x span.rule.resource.0) span.lo (choice_slot span.rule (length x.choices - 1)))) (found_in a (insert (order_in machine plans x span.rule.resource.0) span.lo (choice_slot span.rule (length x.choices - 1))))
      ≡ gap_in apart b a (spanned x span (order_in machine plans x span.rule.resource.0))
  gap-spanned x span apart b a is le =
      let order = order_in machine plans x span.rule.resource.0 in
      let s = choice_slot span.rule (length x.choices - 1) in
      let pairs = subst (AllPairs Apart) (order-one span.rule span.lo x.choices is) (starts-apart machine plans (with_place span.lo x) span.rule.resource.0 in_order) in
      sym (ap (gap_in apart b a) (cut-insert span.lo span.hi s order le) ∙ gap-cut apart b a (suc span.lo) (suc span.hi) (insert order span.lo s) (omega (arith, le)) pairs)

  -- the same of what the code has, the order with the choices up to both
  whole : (branch : Branch) (resource apart n : ℕ) (b a : Spot) (t : Track) → t ≡ track_of b a (order_until machine plans branch resource n) → apart ≡ gap_at machine resource → n ≡ min (max (choices_to b) (choices_to a)) (length branch.x.choices)
      → gap_out apart 0 0 t.before t.after ≡ gap_in (gap_at machine resource) b a (order_in machine plans branch.x resource)
  whole branch resource apart n b a t is width count =
      let x : Suffix = record { choices = reverse (take n (reverse branch.x.choices)); rooms = branch.x.rooms; stopped = branch.x.stopped } in
      ap (λ (k : Track). gap_out apart 0 0 k.before k.after) is ∙ ap (λ w. gap_out w 0 0 (found_in b (order_in machine plans x resource)) (found_in a (order_in machine plans x resource))) width
      ∙ gap-whole x resource (gap_at machine resource) b a ∙ gap-until machine plans branch resource (gap_at machine resource) b a n count

  -- a gap of the whole order comes first
  pub first-gap : (inside branch : Branch) (resource apart n : ℕ) (b a : Spot) (t : Track) (g : Gap) (other : Option Gap) → inside ≡ branch → t ≡ track_of b a (order_until machine plans inside resource n) → apart ≡ gap_at machine resource
      → n ≡ min (max (choices_to b) (choices_to a)) (length inside.x.choices) → Some g ≡ gap_out apart 0 0 t.before t.after → Some g ≡ or_else (gap_in (gap_at machine resource) b a (order_in machine plans branch.x resource)) other
  first-gap inside branch resource apart n b a t g other same is width count e =
      ap (λ o. or_else o other) (e ∙ whole inside resource apart n b a t is width count ∙ ap (λ (k : Branch). gap_in (gap_at machine resource) b a (order_in machine plans k.x resource)) same)

  pub other-gap : (inside branch : Branch) (resource apart n : ℕ) (b a : Spot) (t : Track) (r other : Option Gap) → inside ≡ branch → t ≡ track_of b a (order_until machine plans inside resource n) → apart ≡ gap_at machine resource
      → n ≡ min (max (choices_to b) (choices_to a)) (length inside.x.choices) → None ≡ gap_out apart 0 0 t.before t.after → r ≡ other → r ≡ or_else (gap_in (gap_at machine resource) b a (order_in machine plans branch.x resource)) other
  other-gap inside branch resource apart n b a t r other same is width count e rest =
      rest ∙ ap (λ o. or_else o other) (e ∙ whole inside resource apart n b a t is width count ∙ ap (λ (k : Branch). gap_in (gap_at machine resource) b a (order_in machine plans k.x resource)) same)

  pub spanned-gap : (x : Suffix) (inside span : Span) (b a : Spot) (apart lo hi count : ℕ) (from to : Spot) (put : Track) (g : Option Gap) → inside ≡ span → rule_in machine x.choices ≡ Some span.rule → span.lo ≤ span.hi → 0 < length x.choices
      → count ≡ length x.choices → from ≡ own count → to ≡ own (count - 1) → lo ≡ inside.lo → hi ≡ inside.hi
      → put ≡ track_of b a (insert (order_in machine plans x span.rule.resource.0) inside.lo (record { rule = inside.rule; from = from; to = to })) → apart ≡ gap_at machine inside.rule.resource.0
      → g ≡ gap_out apart (lo + 1) (hi + 1) put.before put.after → g ≡ gap_in (gap_at machine span.rule.resource.0) b a (spanned x span (order_in machine plans x span.rule.resource.0))
  spanned-gap x inside span b a apart lo hi count from to put g same next le some count-is from-is to-is lo-is hi-is put-is width is =
      let order = order_in machine plans x span.rule.resource.0 in
      let f : count ≡ suc (length x.choices - 1) = omega (arith, some, count-is) in
      let t : count - 1 ≡ length x.choices - 1 = omega (arith, count-is) in
      let lo-same : lo ≡ span.lo = lo-is ∙ ap (λ (s : Span). s.lo) same in
      let hi-same : hi ≡ span.hi = hi-is ∙ ap (λ (s : Span). s.hi) same in
      let l : lo + 1 ≡ suc span.lo = omega (arith, lo-same) in
      let h : hi + 1 ≡ suc span.hi = omega (arith, hi-same) in
      let slot : record { rule = span.rule; from = from; to = to } ≡ choice_slot span.rule (length x.choices - 1) =
      ap (λ (p : Spot). record { rule = span.rule; from = p; to = to }) (from-is ∙ ap own f) ∙ ap (λ (p : Spot). record { rule = span.rule; from = own (suc (length x.choices - 1)); to = p }) (to-is ∙ ap own t) in
      let made : put ≡ track_of b a (insert order span.lo (choice_slot span.rule (length x.choices - 1))) =
      put-is ∙ ap (λ (s : Span). track_of b a (insert order s.lo (record { rule = s.rule; from = from; to = to }))) same ∙ ap (λ s. track_of b a (insert order span.lo s)) slot in
      let wide : apart ≡ gap_at machine span.rule.resource.0 = width ∙ ap (λ (s : Span). gap_at machine s.rule.resource.0) same in
      is ∙ ap (λ k. gap_out apart k (hi + 1) put.before put.after) l ∙ ap (λ k. gap_out apart (suc span.lo) k put.before put.after) h
      ∙ ap (λ (k : Track). gap_out apart (suc span.lo) (suc span.hi) k.before k.after) made
      ∙ gap-spanned x span apart b a next le ∙ ap (λ w. gap_in w b a (spanned x span order)) wide
