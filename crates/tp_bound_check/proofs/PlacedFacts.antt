-- The ranks of a branch's holds, as the branch grows, and what they tell of the holds.
use Rattle.std.proofs.Common.{◌≡◌, ◌≢◌, ◌⊎◌, inl, inr, ℕ, suc, ◌+◌, ◌-◌, ◌*◌, ◌≤◌, ◌<◌, ◌==◌, ◌&&◌, leb, Bool, true, false, cond, max, min, List, [], ◌∷◌, ◌++◌, length, insert, take, drop, reverse, get_or, refl, sym, ◌∙◌, ap, subst, arith, All, Option, Some, None}
use Rattle.std.specs.Prelude.{ℤ}
use Rattle.std.specs.List.{slice_get}
use Rattle.std.proofs.lemmas.Bool.{leb-true}
use Rattle.std.proofs.lemmas.List.{length-reverse, take-append-le}
use Rattle.std.proofs.lemmas.Option.{slice_get_within}
use Rattle.tp_machine.specs.Modes.{gap_at}
use Rattle.tp_machine.specs.ModuleUse.{action_at}
use Rattle.tp_machine.specs.declared.parts.ActId.{ActId}
use Rattle.tp_machine.specs.declared.parts.HoldRule.{HoldRule}
use Rattle.tp_machine.specs.declared.parts.State.{State}
use Rattle.tp_machine.specs.declared.machine.Machine.{Machine}
use Rattle.tp_schedule.specs.Choices.{Choice, placed, put_places}
use Rattle.tp_schedule.specs.Holders.{holds_of_act}
use Rattle.tp_schedule.specs.Spots.{Slot, Spot, slot_order}
use Rattle.tp_schedule.specs.Spots.Spot.{kept, own}
use Rattle.tp_schedule.specs.declared.parts.Ask.{Ask}
use Rattle.tp_schedule.specs.declared.parts.Plan.{Plan}
use Rattle.tp_constraints.specs.Gaps.{Gap}
use Rattle.tp_constraints.specs.Suffixes.{choice_slot, order_in, place_first, with_action, with_place, Suffix}
use Rattle.tp_bounds.specs.declared.tree.TreeRow.{TreeRow}
use Rattle.tp_bound_laws.proofs.Lists.{number-same}
use Rattle.tp_bound_laws.specs.Chains.{choice_act, gap_in, or_else, resource_gap, spanned}
use Rattle.tp_bound_laws.specs.Places.{Branch, Span, Stand, at_places, next_rule, place_branch, rule_in}
use Rattle.tp_bound_check.specs.Points.{choices_to}
use Rattle.tp_bound_check.specs.Ranks.{AreRanked, AreSpanRanks, IsSoundStand, Ranks, mixed_gap, next_number, own_among, rank_at}
use Rattle.tp_bound_check.specs.Stands.{order_until}
use Rattle.tp_bound_check.specs.declared.stance.Stance.{Stance}
use Rattle.tp_bound_check.proofs.ChoiceFacts.{slice-is}
use Rattle.tp_bound_check.proofs.LaterFacts.{gap-until}
use Rattle.tp_bound_check.proofs.KeptRanks.{kept-placed}
use Rattle.tp_bound_check.proofs.RankFacts.{NotAt, insert-parts, mixed-is, mixed-none, placed-not}
use Rattle.tp_bound_check.proofs.StandFacts.{order-step}
use Rattle.tp_bound_check.proofs.SeamFacts.{Differ, at-seam, few-rules, few-taken, left-seam, off-it, on-it, put-at, put-before, reverse-one, rules-differ, seam}

module _ (machine : Machine) (plans : List Plan) where
  -- the order with so many choices, where one more was made
  until-one : (b b' : Branch) (c : Choice) (cs : List Choice) (r n : ℕ) → b.x.choices ≡ c ∷ cs → b'.x.choices ≡ cs → n ≤ length cs → order_until machine plans b r n ≡ order_until machine plans b' r n
  until-one b b' c cs r n is is' le =
      let l = length-reverse cs in
      ap (λ xs. placed machine r (slot_order machine plans r) (reverse (take n xs))) (ap reverse is ∙ reverse-one c cs)
      ∙ ap (λ xs. placed machine r (slot_order machine plans r) (reverse xs)) (take-append-le n (reverse cs) (c ∷ []) (omega (arith, l, le)) ∙ ap (take n) (sym (ap reverse is')))

  pub ranked-act : (b : Branch) (depth room : ℕ) (first : State) (act : ActId) (before : List ℕ) → AreRanked machine plans b before → AreRanked machine plans (record { depth = depth; first = first; x = with_action act room b.x }) before
  ranked-act b depth room first act before ranked n j place c rule at by has = go (seam (reverse b.x.choices) new c n (subst (λ cs. slice_get cs n ≡ Some c) (reverse-one new b.x.choices) at)) where
    new : Choice
    new = record { act = act; places = [] }

    b' : Branch
    b' = record { depth = depth; first = first; x = with_action act room b.x }

    nothing : (j : ℕ) → slice_get [] j ≡ Some place → ⊥
    nothing j e = cc

    go : ((n < length (reverse b.x.choices)) × (slice_get (reverse b.x.choices) n ≡ Some c)) ⊎ ((n ≡ length (reverse b.x.choices)) × (c ≡ new)) → get_or before (4 * n + j) 0 ≡ rank_at place (order_until machine plans b' rule.resource.0 n)
    go (inl (lt, old)) = let l = length-reverse b.x.choices in ranked n j place c rule old by has ∙ ap (rank_at place) (sym (until-one b' b new b.x.choices rule.resource.0 n refl refl (omega (arith, l, lt))))
    go (inr (is, same)) = absurd (nothing j (subst (λ (d : Choice). slice_get d.places j ≡ Some place) same has))

  -- the branch with one place more for its newest choice, and the ranks of its holds
  module _ (b : Branch) (depth place : ℕ) (d : Choice) (cs : List Choice) (rule : HoldRule) (before after : List ℕ) (is : b.x.choices ≡ d ∷ cs) (next : slice_get (holds_of_act (action_at machine d.act.0)) (length d.places) ≡ Some rule)
      (ranked : AreRanked machine plans b before) (here : get_or after (4 * length cs + length d.places) 0 ≡ rank_at place (order_until machine plans b rule.resource.0 (length cs)))
      (others : (i : ℕ) → i ≢ 4 * length cs + length d.places → get_or after i 0 ≡ get_or before i 0) where
    abbrev new : Choice
    new = record { act = d.act; places = d.places ++ place ∷ [] }

    abbrev grown : Branch
    grown = record { depth = depth; first = b.first; x = with_place place b.x }

    abbrev older : Branch
    older = record { depth = depth; first = b.first; x = record { choices = cs; rooms = b.x.rooms; stopped = b.x.stopped } }

    now-is : grown.x.choices ≡ new ∷ cs
    now-is = ap (place_first place) is

    same-until : (r k : ℕ) → k ≤ length cs → order_until machine plans b r k ≡ order_until machine plans grown r k
    same-until r k le = until-one b older d cs r k is refl le ∙ sym (until-one grown older new cs r k now-is refl le)

    few-places : length d.places < 4
    few-places = let w = slice_get_within (holds_of_act (action_at machine d.act.0)) (length d.places) rule next in let f = few-rules machine d.act.0 in omega (arith, w, f)

    last-at : slice_get (reverse b.x.choices) (length cs) ≡ Some d
    last-at = ap (λ xs. slice_get (reverse xs) (length cs)) is ∙ ap (λ xs. slice_get xs (length cs)) (reverse-one d cs) ∙ ap (slice_get (reverse cs ++ d ∷ [])) (sym (length-reverse cs)) ∙ at-seam (reverse cs) d

    -- a hold of an older choice
    old-choice : (n j p : ℕ) (c : Choice) (r : HoldRule) → n < length cs → slice_get (reverse cs) n ≡ Some c → slice_get (holds_of_act (action_at machine c.act.0)) j ≡ Some r → slice_get c.places j ≡ Some p
        → get_or after (4 * n + j) 0 ≡ rank_at p (order_until machine plans grown r.resource.0 n)
    old-choice n j p c r lt old by has =
        let w = slice_get_within (holds_of_act (action_at machine c.act.0)) j r by in
        let f = few-rules machine c.act.0 in
        let k = few-places in
        let was : slice_get (reverse b.x.choices) n ≡ Some c = ap (λ xs. slice_get (reverse xs) n) is ∙ ap (λ xs. slice_get xs n) (reverse-one d cs) ∙ left-seam (reverse cs) d c n old in
        others (4 * n + j) (λ e. absurd (omega (arith, lt, w, f, k, e))) ∙ ranked n j p c r was by has ∙ ap (rank_at p) (same-until r.resource.0 n (omega (arith, lt)))

    -- one of the newest choice
    new-choice : (j p : ℕ) (r : HoldRule) → slice_get (holds_of_act (action_at machine d.act.0)) j ≡ Some r → ((j < length d.places) × (slice_get d.places j ≡ Some p)) ⊎ ((j ≡ length d.places) × (p ≡ place))
        → get_or after (4 * length cs + j) 0 ≡ rank_at p (order_until machine plans grown r.resource.0 (length cs))
    new-choice j p r by (inl (lt, old)) = others (4 * length cs + j) (λ e. absurd (omega (arith, lt, e))) ∙ ranked (length cs) j p d r last-at by old ∙ ap (rank_at p) (same-until r.resource.0 (length cs) (omega arith))
    new-choice j p r by (inr (j-is, p-is)) =
        let same : Some r ≡ Some rule = sym by ∙ ap (slice_get (holds_of_act (action_at machine d.act.0))) j-is ∙ next in
        let r-is : r ≡ rule = cc in
        ap (λ k. get_or after (4 * length cs + k) 0) j-is ∙ here ∙ ap (λ k. rank_at k (order_until machine plans b rule.resource.0 (length cs))) (sym p-is)
        ∙ ap (λ (x : HoldRule). rank_at p (order_until machine plans b x.resource.0 (length cs))) (sym r-is) ∙ ap (rank_at p) (same-until r.resource.0 (length cs) (omega arith))

    ranked-grown : AreRanked machine plans grown after
    ranked-grown n j p c r at by has = go (seam (reverse cs) new c n (subst (λ xs. slice_get xs n ≡ Some c) (ap reverse now-is ∙ reverse-one new cs) at)) where
      go : ((n < length (reverse cs)) × (slice_get (reverse cs) n ≡ Some c)) ⊎ ((n ≡ length (reverse cs)) × (c ≡ new)) → get_or after (4 * n + j) 0 ≡ rank_at p (order_until machine plans grown r.resource.0 n)
      go (inl (lt, old)) = let l = length-reverse cs in old-choice n j p c r (omega (arith, lt, l)) old by has
      go (inr (n-is, c-is)) =
          let n-last : n ≡ length cs = n-is ∙ length-reverse cs in
          let has' = subst (λ (x : Choice). slice_get x.places j ≡ Some p) c-is has in
          let by' = subst (λ (x : Choice). slice_get (holds_of_act (action_at machine x.act.0)) j ≡ Some r) c-is by in
          subst (λ k. get_or after (4 * k + j) 0 ≡ rank_at p (order_until machine plans grown r.resource.0 k)) (sym n-last) (new-choice j p r by' (seam d.places place p j has'))

  pub ranked-place : (b : Branch) (depth place number newest : ℕ) (rule : HoldRule) (before after : List ℕ) → rule_in machine b.x.choices ≡ Some rule → newest ≡ length b.x.choices - 1
      → ((c : Choice) → slice_get (reverse b.x.choices) newest ≡ Some c → number ≡ 4 * newest + length c.places) → AreRanked machine plans b before
      → get_or after number 0 ≡ rank_at place (order_until machine plans b rule.resource.0 newest) → ((i : ℕ) → i ≢ number → get_or after i 0 ≡ get_or before i 0)
      → AreRanked machine plans (record { depth = depth; first = b.first; x = with_place place b.x }) after
  ranked-place b depth place number newest rule before after next newest-is number-is ranked here others = go b.x.choices refl where
    Goal : Type 0
    Goal = AreRanked machine plans (record { depth = depth; first = b.first; x = with_place place b.x }) after

    go : (cs : List Choice) → b.x.choices ≡ cs → Goal
    go [] is = absurd (none (subst (λ cs. rule_in machine cs ≡ Some rule) is next)) where
      none : rule_in machine [] ≡ Some rule → ⊥
      none e = cc
    go (d ∷ cs) is =
        let last : newest ≡ length cs = newest-is ∙ ap (λ (xs : List Choice). length xs - 1) is ∙ (let e : length (d ∷ cs) - 1 ≡ length cs = omega arith in e) in
        let at : slice_get (reverse b.x.choices) newest ≡ Some d = ap (λ xs. slice_get (reverse xs) newest) is ∙ ap (λ xs. slice_get xs newest) (reverse-one d cs) ∙ ap (slice_get (reverse cs ++ d ∷ [])) (last ∙ sym (length-reverse cs)) ∙ at-seam (reverse cs) d in
        let number' : number ≡ 4 * length cs + length d.places = number-is d at ∙ ap (λ k. 4 * k + length d.places) last in
        ranked-grown b depth place d cs rule before after is (subst (λ xs. rule_in machine xs ≡ Some rule) is next) ranked
        (ap (λ i. get_or after i 0) (sym number') ∙ here ∙ ap (λ k. rank_at place (order_until machine plans b rule.resource.0 k)) last)
        (λ i ne. others i (λ e. ne (e ∙ number')))

  pub number-next : (b : Branch) (newest number : ℕ) → 0 < length b.x.choices → newest ≡ length b.x.choices - 1 → ((c : Choice) → slice_get (reverse b.x.choices) newest ≡ Some c → number ≡ 4 * newest + length c.places) → number ≡ next_number b.x.choices
  number-next b newest number some newest-is number-is = go b.x.choices refl where
    go : (cs : List Choice) → b.x.choices ≡ cs → number ≡ next_number b.x.choices
    go [] is = absurd (let e = ap length is in omega (arith, some, e))
    go (d ∷ cs) is =
        let last : newest ≡ length cs = newest-is ∙ ap (λ (xs : List Choice). length xs - 1) is ∙ (let e : length (d ∷ cs) - 1 ≡ length cs = omega arith in e) in
        let at : slice_get (reverse b.x.choices) newest ≡ Some d = ap (λ xs. slice_get (reverse xs) newest) is ∙ ap (λ xs. slice_get xs newest) (reverse-one d cs) ∙ ap (slice_get (reverse cs ++ d ∷ [])) (last ∙ sym (length-reverse cs)) ∙ at-seam (reverse cs) d in
        number-is d at ∙ ap (λ k. 4 * k + length d.places) last ∙ ap next_number (sym is)

  -- ---- what ranks tell
  among-max : (b a : Spot) (m : ℕ) → own_among b a ≡ Some m → m ≡ max (choices_to b) (choices_to a)
  among-max (own n) (own k) m e = absurd cc
  among-max (kept c i) (kept d j) m e = absurd cc
  among-max (own n) (kept c i) m e = let same : n ≡ m = cc in omega (arith, same)
  among-max (kept c i) (own n) m e = let same : n ≡ m = cc in omega (arith, same)

  -- an own hold that has a place
  pub placed-gap : (b : Branch) (resource start at number rank : ℕ) (act : ActId) (rules : List HoldRule) (places before : List ℕ) (rule d : HoldRule) (from to : Spot) → 0 < start → start ≤ length b.x.choices → at ≡ start - 1
      → Some act ≡ choice_act (slice_get (reverse b.x.choices) at) → rules ≡ holds_of_act (action_at machine act.0) → ((c : Choice) → slice_get (reverse b.x.choices) at ≡ Some c → places ≡ c.places)
      → number < length rules → number < length places → rule ≡ get_or rules number d → rule.resource.0 ≡ resource → from ≡ own start → to ≡ own at → rank ≡ get_or before (4 * at + number) 0 → AreRanked machine plans b before
      → (apart : ℕ) (p q : Spot) → own_among p q ≡ Some start → gap_in apart p q (order_in machine plans b.x resource) ≡ mixed_gap apart p q (Some (record { slot = record { rule = rule; from = from; to = to }; lo = rank; hi = rank })) (slot_order machine plans resource)
  placed-gap b resource start at number rank act rules places before rule d from to some le at-is acts rules-is places-are in-rules in-places rule-is on from-is to-is rank-is ranked apart p q among =
      go (slice_get (reverse b.x.choices) at) refl acts
    where
      go : (o : Option Choice) → slice_get (reverse b.x.choices) at ≡ o → Some act ≡ choice_act o
          → gap_in apart p q (order_in machine plans b.x resource) ≡ mixed_gap apart p q (Some (record { slot = record { rule = rule; from = from; to = to }; lo = rank; hi = rank })) (slot_order machine plans resource)
      go None e same = absurd cc
      go (Some c) e same =
          let act-is : act ≡ c.act = cc in
          let ps = places-are c e in
          let rs : rules ≡ holds_of_act (action_at machine c.act.0) = rules-is ∙ ap (λ (k : ActId). holds_of_act (action_at machine k.0)) act-is in
          let place = get_or places number 0 in
          let has : slice_get places number ≡ Some place = slice-is places number 0 in-places in
          let by : slice_get rules number ≡ Some rule = slice-is rules number d in-rules ∙ ap (λ r. Some r) (sym rule-is) in
          let xs = order_until machine plans b resource at in
          let slot : Slot = record { rule = rule; from = from; to = to } in
          let t : Stance = record { slot = slot; lo = rank; hi = rank } in
          let ranks : rank ≡ rank_at place xs = rank-is ∙ ranked at number place c rule e (subst (λ (x : List HoldRule). slice_get x number ≡ Some rule) rs by) (subst (λ (x : List ℕ). slice_get x number ≡ Some place) ps has) ∙ ap (λ k. rank_at place (order_until machine plans b k at)) on in
          let one : start ≡ at + 1 = omega (arith, some, at-is) in
          let from' : from ≡ own (at + 1) = from-is ∙ ap own one in
          let step : put_places resource from to rules places xs ≡ order_until machine plans b resource (at + 1) = order-step machine plans b resource at act rules places from to xs (put_places resource from to rules places xs) acts rules-is places-are from' to-is refl refl in
          let put : put_places resource from to rules places xs ≡ insert xs place slot =
          subst (λ k. put_places k from to rules places xs ≡ insert xs place slot) on
          (put-at from to rules places xs number place rule (subst Differ (sym rules-is) (rules-differ machine act.0)) by has) in
          let until : start ≡ min (max (choices_to p) (choices_to q)) (length b.x.choices) = (let m = among-max p q start among in omega (arith, m, le)) in
          let l : length (reverse (take at (reverse b.x.choices))) ≤ at = (few-taken at (reverse b.x.choices)) in
          sym (gap-until machine plans b resource apart p q start until)
          ∙ ap (gap_in apart p q) (ap (order_until machine plans b resource) one ∙ sym step ∙ put ∙ insert-parts xs place slot)
          ∙ mixed-is apart start place place p q xs (slot_order machine plans resource) t among
          (placed-not machine plans resource start (reverse (take at (reverse b.x.choices))) (λ k lt. off-it (suc k) start (λ f. absurd (omega (arith, lt, l, one, f)))))
          (kept-placed machine plans resource (reverse (take at (reverse b.x.choices)))) from-is ranks ranks

  -- an own action with no hold on the resource, or with none that has a place
  pub beyond-gap : (b : Branch) (resource start : ℕ) → ((k : ℕ) → k < length b.x.choices → suc k ≢ start) → (apart : ℕ) (p q : Spot) → own_among p q ≡ Some start
      → gap_in apart p q (order_in machine plans b.x resource) ≡ mixed_gap apart p q None (slot_order machine plans resource)
  beyond-gap b resource start others apart p q among =
      mixed-none apart start p q (order_in machine plans b.x resource) (slot_order machine plans resource) among (placed-not machine plans resource start b.x.choices (λ k lt. off-it (suc k) start (others k lt)))

  pub unplaced-gap : (b : Branch) (resource start at : ℕ) (act : ActId) (rules : List HoldRule) (places : List ℕ) → 0 < start → start ≤ length b.x.choices → at ≡ start - 1
      → Some act ≡ choice_act (slice_get (reverse b.x.choices) at) → rules ≡ holds_of_act (action_at machine act.0) → ((c : Choice) → slice_get (reverse b.x.choices) at ≡ Some c → places ≡ c.places)
      → ((from to : Spot) (order : List Slot) → put_places resource from to rules places order ≡ order)
      → (apart : ℕ) (p q : Spot) → own_among p q ≡ Some start → gap_in apart p q (order_in machine plans b.x resource) ≡ mixed_gap apart p q None (slot_order machine plans resource)
  unplaced-gap b resource start at act rules places some le at-is acts rules-is places-are none apart p q among =
      let xs = order_until machine plans b resource at in
      let one : start ≡ at + 1 = omega (arith, some, at-is) in
      let step : put_places resource (own (at + 1)) (own at) rules places xs ≡ order_until machine plans b resource (at + 1) =
      order-step machine plans b resource at act rules places (own (at + 1)) (own at) xs (put_places resource (own (at + 1)) (own at) rules places xs) acts rules-is places-are refl refl refl refl in
      let until : start ≡ min (max (choices_to p) (choices_to q)) (length b.x.choices) = (let m = among-max p q start among in omega (arith, m, le)) in
      sym (gap-until machine plans b resource apart p q start until)
      ∙ ap (gap_in apart p q) (ap (order_until machine plans b resource) one ∙ sym step ∙ none (own (at + 1)) (own at) xs)
      ∙ mixed-none apart start p q xs (slot_order machine plans resource) among
      (placed-not machine plans resource start (reverse (take at (reverse b.x.choices))) (λ k lt. off-it (suc k) start (λ f. let l = few-taken at (reverse b.x.choices) in absurd (omega (arith, lt, l, one, f)))))

  -- the hold that has several places
  pub mixed-nothing : (apart : ℕ) (p q : Spot) (order : List Slot) → mixed_gap apart p q None order ≡ None
  mixed-nothing apart (own n) q order = refl
  mixed-nothing apart (kept c i) q order = refl

  span-not : (x : Suffix) (rule : HoldRule) → rule_in machine x.choices ≡ Some rule → All (NotAt (length x.choices)) (order_in machine plans x rule.resource.0)
  span-not x rule next = go x.choices next where
    go : (cs : List Choice) → rule_in machine cs ≡ Some rule → All (NotAt (length cs)) (placed machine rule.resource.0 (slot_order machine plans rule.resource.0) cs)
    go [] e = absurd cc
    go (c ∷ cs) e =
        let rest = placed machine rule.resource.0 (slot_order machine plans rule.resource.0) cs in
        let same = put-before (own (suc (length cs))) (own (length cs)) (holds_of_act (action_at machine c.act.0)) c.places rest rule (rules-differ machine c.act.0) e in
        subst (All (NotAt (suc (length cs)))) (sym same) (placed-not machine plans rule.resource.0 (suc (length cs)) cs (λ k lt. off-it (suc k) (suc (length cs)) (λ f. absurd (omega (arith, lt, f)))))

  pub span-gap : (b : Branch) (span : Span) (slot : Slot) (lo hi : ℕ) (p q : Spot) (g : Option Gap) (ask : Ask) (limit : ℤ) → rule_in machine b.x.choices ≡ Some span.rule → slot ≡ choice_slot span.rule (length b.x.choices - 1) → 0 < length b.x.choices
      → lo ≡ rank_at span.lo (order_in machine plans b.x span.rule.resource.0) → hi ≡ rank_at span.hi (order_in machine plans b.x span.rule.resource.0) → own_among p q ≡ Some (length b.x.choices)
      → g ≡ mixed_gap (gap_at machine span.rule.resource.0) p q (Some (record { slot = slot; lo = lo; hi = hi })) (slot_order machine plans span.rule.resource.0)
      → g ≡ resource_gap machine plans ask limit (record { branch = b; span = Some span }) span.rule.resource.0 p q
  span-gap b span slot lo hi p q g ask limit next slot-is some lo-is hi-is among is =
      let r = span.rule.resource.0 in
      let xs = order_in machine plans b.x r in
      let K = slot_order machine plans r in
      let apart = gap_at machine r in
      let not = span-not b.x span.rule next in
      let t : Stance = record { slot = slot; lo = lo; hi = hi } in
      let n : suc (length b.x.choices - 1) ≡ length b.x.choices = omega (arith, some) in
      let from : slot.from ≡ own (length b.x.choices) = ap (λ (s : Slot). s.from) slot-is ∙ ap own n in
      let nothing : gap_in apart p q xs ≡ None = mixed-none apart (length b.x.choices) p q xs K among not ∙ mixed-nothing apart p q K in
      let there = mixed-is apart (length b.x.choices) span.lo span.hi p q xs K t among not (kept-placed machine plans r b.x.choices) from lo-is hi-is in
      is ∙ sym there ∙ ap (λ s. gap_in apart p q (take span.lo xs ++ s ∷ drop span.hi xs)) slot-is
      ∙ sym (ap (λ o. or_else o (cond (r == r) (gap_in apart p q (spanned b.x span xs)) None)) nothing ∙ ap (λ v. cond v (gap_in apart p q (spanned b.x span xs)) None) (number-same r))

  -- the same of what the code has
  pub span-code : (b : Branch) (inside span : Span) (from to : Spot) (count lo hi : ℕ) (p q : Spot) (g : Option Gap) (ask : Ask) (limit : ℤ) → inside ≡ span → rule_in machine b.x.choices ≡ Some span.rule → 0 < length b.x.choices
      → count ≡ length b.x.choices → from ≡ own count → to ≡ own (count - 1)
      → lo ≡ rank_at span.lo (order_in machine plans b.x span.rule.resource.0) → hi ≡ rank_at span.hi (order_in machine plans b.x span.rule.resource.0) → own_among p q ≡ Some (length b.x.choices)
      → g ≡ mixed_gap (gap_at machine inside.rule.resource.0) p q (Some (record { slot = record { rule = inside.rule; from = from; to = to }; lo = lo; hi = hi })) (slot_order machine plans inside.rule.resource.0)
      → g ≡ resource_gap machine plans ask limit (record { branch = b; span = Some span }) span.rule.resource.0 p q
  span-code b inside span from to count lo hi p q g ask limit same next some count-is from-is to-is lo-is hi-is among is =
      let f : count ≡ suc (length b.x.choices - 1) = omega (arith, some, count-is) in
      let t : count - 1 ≡ length b.x.choices - 1 = omega (arith, count-is) in
      let slot-is : record { rule = span.rule; from = from; to = to } ≡ choice_slot span.rule (length b.x.choices - 1) =
      ap (λ (x : Spot). record { rule = span.rule; from = x; to = to }) (from-is ∙ ap own f) ∙ ap (λ (x : Spot). record { rule = span.rule; from = own (suc (length b.x.choices - 1)); to = x }) (to-is ∙ ap own t) in
      let P : Span → Type 0 = λ x. g ≡ mixed_gap (gap_at machine x.rule.resource.0) p q (Some (record { slot = record { rule = x.rule; from = from; to = to }; lo = lo; hi = hi })) (slot_order machine plans x.rule.resource.0) in
      span-gap b span (record { rule = span.rule; from = from; to = to }) lo hi p q g ask limit next slot-is some lo-is hi-is among (subst P same is)

  -- ---- stands
  abbrev bare : Branch → Stand
  bare b = record { branch = b; span = None }

  bare-sound : (b b' : Branch) (s : Stand) (ranks : Ranks) → s ≡ bare b' → b' ≡ b → AreRanked machine plans b ranks.before → IsSoundStand machine plans s ranks
  bare-sound b b' s ranks s-is b-is ranked = subst (λ x. IsSoundStand machine plans x ranks) (sym (s-is ∙ ap bare b-is)) (record { span = tt; ranked = ranked; spanned = tt })

  pub act-sound : (b b' : Branch) (s : Stand) (ranks : Ranks) (depth room : ℕ) (first : State) (act : ActId) → s ≡ record { branch = b'; span = None } → b' ≡ record { depth = depth; first = first; x = with_action act room b.x } → AreRanked machine plans b ranks.before → IsSoundStand machine plans s ranks
  act-sound b b' s ranks depth room first act s-is b-is ranked = bare-sound (record { depth = depth; first = first; x = with_action act room b.x }) b' s ranks s-is b-is (ranked-act b depth room first act ranks.before ranked)

  pub one-place : (ask : Ask) (rows : List TreeRow) (b : Branch) (rule : HoldRule) (lo hi : ℕ) (ranks : Ranks) → lo ≡ hi → ((depth : ℕ) → AreRanked machine plans (record { depth = depth; first = b.first; x = with_place lo b.x }) ranks.before) → IsSoundStand machine plans (at_places machine plans ask rows b rule lo hi) ranks
  one-place ask rows b rule lo hi ranks same ranked =
      subst (λ t. IsSoundStand machine plans (cond t (bare (place_branch machine plans ask rows b lo)) (record { branch = record { depth = suc b.depth; first = b.first; x = b.x }; span = Some (record { rule = rule; lo = lo; hi = hi }) })) ranks) (sym (on-it lo hi same))
      (record { span = tt; ranked = ranked (suc b.depth); spanned = tt })

  pub more-places : (ask : Ask) (rows : List TreeRow) (b : Branch) (rule : HoldRule) (lo hi : ℕ) (ranks : Ranks) → lo ≢ hi → lo ≤ hi → next_rule machine b.x ≡ Some rule → AreRanked machine plans b ranks.before → AreSpanRanks machine plans b (Some (record { rule = rule; lo = lo; hi = hi })) ranks
      → IsSoundStand machine plans (at_places machine plans ask rows b rule lo hi) ranks
  more-places ask rows b rule lo hi ranks other le next ranked spanned =
      subst (λ t. IsSoundStand machine plans (cond t (bare (place_branch machine plans ask rows b lo)) (record { branch = record { depth = suc b.depth; first = b.first; x = b.x }; span = Some (record { rule = rule; lo = lo; hi = hi }) })) ranks) (sym (off-it lo hi other))
      (record { span = (next, le); ranked = ranked; spanned = spanned })

  -- the places of a node are in order
  pub in-order : (a b d : Bool) (lo hi : ℕ) (x s : Stand) → cond (a && b && leb lo hi && d) (Some x) None ≡ Some s → (lo ≤ hi) × (x ≡ s)
  in-order true true true lo hi x s e = go (leb lo hi) refl e where
    go : (t : Bool) → leb lo hi ≡ t → cond (t && true) (Some x) None ≡ Some s → (lo ≤ hi) × (x ≡ s)
    go true le e = (leb-true lo hi le, let same : x ≡ s = cc in same)
    go false le e = absurd cc
  in-order true true false lo hi x s e = go (leb lo hi) e where
    go : (t : Bool) → cond (t && false) (Some x) None ≡ Some s → (lo ≤ hi) × (x ≡ s)
    go true e = absurd cc
    go false e = absurd cc
  in-order true false d lo hi x s e = absurd cc
  in-order false b d lo hi x s e = absurd cc
