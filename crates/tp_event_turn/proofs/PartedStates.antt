-- What a loop on the live part must know of the whole state, and what befalls the copies of it.
use Rattle.std.proofs.Common.{◌≡◌, ℕ, ◌<◌, ◌≤◌, inl, inr, ◌⊎◌, Bool, true, false, ◌||◌, not, List, [], ◌∷◌, ◌++◌, length, filter, refl, sym, ap, ◌∙◌, arith, Contains, subst, cond}
use Rattle.std.specs.List.{list_any}
use Rattle.std.proofs.lemmas.Bool.Decides.{nat_tests}
use Rattle.std.proofs.lemmas.List.Elements.{All-contains}
use Rattle.std.proofs.lemmas.List.Folds.{list_any-from_Any}
use Rattle.tp_machine.specs.declared.machine.Machine.{Machine}
use Rattle.tp_schedule.specs.LivePlans.{is_live}
use Rattle.tp_schedule.specs.PlannerAnswers.{CanPlanOn}
use Rattle.tp_schedule.specs.Plans.{IsTimedPlan, end_of_plan, goes_to, is_before, is_delivered_to, is_front, is_same_copy, point}
use Rattle.tp_schedule.specs.declared.parts.Goal.{Goal}
use Rattle.tp_schedule.specs.declared.parts.Plan.{Plan}
use Rattle.tp_schedule.specs.declared.parts.SheetId.{SheetId}
use Rattle.tp_schedule.proofs.CopyFacts.{same_copy-refl}
use Rattle.tp_schedule.proofs.Membership.{Contains-cons_cases, Contains-filter, Contains-filter_from, Contains-here, Contains-later, Contains-map, Contains-map_from}
use Rattle.tp_event_rules.proofs.ListFacts.{contains-Any}
use Rattle.tp_event_rules.proofs.PlanOnFacts.{fates_keep_planning}
use Rattle.tp_event_rules.specs.Fates as fates
use Rattle.tp_event_rules.specs.Fates.{Fate, befall, is_cut_by, is_loss, left_by, left_of, lost_by, to_purge}
use Rattle.tp_event_rules.specs.StateInvariants.{is_planned_among}
use Rattle.tp_event_rules.specs.Lines.{is_lost}
use Rattle.tp_event_rules.specs.Moments.{front_of, is_unstarted, started_count}
use Rattle.tp_event_rules.specs.States.{SessionState}
use Rattle.tp_event_turn.proofs.LiveAhead.{live-by}
use Rattle.tp_event_turn.proofs.PastPlans.{front-acts, front-ahead}
use Rattle.tp_event_turn.proofs.PartedLists.{gone_from}
use Rattle.std.proofs.lemmas.List.Elements.{filter-append}

-- where a plan of a state comes from after each copy had its fate: it stayed, or it was cut
pub data Comes (now : ℕ) (fate : Plan → Fate) (p p' : Plan) : Type 0 where
  stayed : fate p ≡ fates.stays → p' ≡ p → Comes now fate p p'
  fronted : is_cut_by (fate p) ≡ true → p' ≡ front_of now p → Comes now fate p p'
  purged : is_cut_by (fate p) ≡ true → p' ≡ to_purge (front_of now p) → Comes now fate p p'

single : (a p' : Plan) → Contains (a ∷ []) p' → a ≡ p'
single a p' in' = elim (Contains-cons_cases a [] p' in') [
  | inl is ↦ is
  | inr later ↦ absurd (omega (arith, later.1))
]

comes-one : (now : ℕ) (fate : Plan → Fate) (p p' : Plan) (f : Fate) → fate p ≡ f → Contains (left_of now p f) p' → Comes now fate p p'
comes-one now fate p p' fates.stays e in' = stayed e (sym (single p p' in'))
comes-one now fate p p' fates.lost e in' = fronted (ap is_cut_by e) (sym (single (front_of now p) p' in'))
comes-one now fate p p' fates.withdrawn e in' = absurd (omega (arith, in'.1))
comes-one now fate p p' fates.cut e in' = fronted (ap is_cut_by e) (sym (single (front_of now p) p' in'))
comes-one now fate p p' fates.purged e in' = purged (ap is_cut_by e) (sym (single (to_purge (front_of now p)) p' in'))
comes-one now fate p p' fates.replaced e in' = purged (ap is_cut_by e) (sym (single (to_purge (front_of now p)) p' in'))
comes-one now fate p p' fates.dropped e in' = absurd (omega (arith, in'.1))

append-cases : {X : Type 0} (xs ys : List X) (y : X) → Contains (xs ++ ys) y → Contains xs y ⊎ Contains ys y
append-cases [] ys y in' = inr in'
append-cases (x ∷ xs) ys y in' = elim (Contains-cons_cases x (xs ++ ys) y in') [
  | inl is ↦ inl (subst (Contains (x ∷ xs)) is (Contains-here x xs))
  | inr later ↦ elim (append-cases xs ys y later) [
    | inl one ↦ inl (Contains-later x xs y one)
    | inr other ↦ inr other
  ]
]

append-left : {X : Type 0} (xs ys : List X) (y : X) → Contains xs y → Contains (xs ++ ys) y
append-left [] ys y in' = absurd (omega (arith, in'.1))
append-left (x ∷ xs) ys y in' = elim (Contains-cons_cases x xs y in') [
  | inl is ↦ subst (Contains (x ∷ xs ++ ys)) is (Contains-here x (xs ++ ys))
  | inr later ↦ Contains-later x (xs ++ ys) y (append-left xs ys y later)
]

append-right : {X : Type 0} (xs ys : List X) (y : X) → Contains ys y → Contains (xs ++ ys) y
append-right [] ys y in' = in'
append-right (x ∷ xs) ys y in' = Contains-later x (xs ++ ys) y (append-right xs ys y in')

pub comes-from : (now : ℕ) (fate : Plan → Fate) (plans : List Plan) (p' : Plan) → Contains (left_by fate now plans) p' → (p : Plan) × Contains plans p × Comes now fate p p'
comes-from now fate [] p' in' = absurd (omega (arith, in'.1))
comes-from now fate (p ∷ plans) p' in' = elim (append-cases (left_of now p (fate p)) (left_by fate now plans) p' in') [
  | inl here ↦ (p, Contains-here p plans, comes-one now fate p p' (fate p) refl here)
  | inr later ↦ let from = comes-from now fate plans p' later in (from.0, Contains-later p plans from.0 from.1, from.2)
]

-- what is left of a plan stands among what is left of all
pub left-there : (now : ℕ) (fate : Plan → Fate) (plans : List Plan) (p p' : Plan) → Contains plans p → left_of now p (fate p) ≡ p' ∷ [] → Contains (left_by fate now plans) p'
left-there now fate [] p p' in' is = absurd (omega (arith, in'.1))
left-there now fate (q ∷ plans) p p' in' is = elim (Contains-cons_cases q plans p in') [
  | inl same ↦ append-left (left_of now q (fate q)) (left_by fate now plans) p' (subst (λ r. Contains (left_of now r (fate r)) p') (sym same) (subst (λ l. Contains l p') (sym is) (Contains-here p' [])))
  | inr later ↦ append-right (left_of now q (fate q)) (left_by fate now plans) p' (left-there now fate plans p p' later is)
]

pub among-there : (cs : List SheetId) (c : SheetId) → Contains cs c → list_any (is_same_copy c) cs ≡ true
among-there cs c in' = list_any-from_Any (is_same_copy c) cs (contains-Any (λ d. is_same_copy c d ≡ true) cs c in' (same_copy-refl c))

pub planned-there : (plans : List Plan) (p : Plan) → Contains plans p → is_planned_among plans p.sheet ≡ true
planned-there plans p in' = list_any-from_Any (λ q. is_same_copy q.sheet p.sheet) plans (contains-Any (λ q. is_same_copy q.sheet p.sheet ≡ true) plans p in' (same_copy-refl p.sheet))

-- past plans to the tray that is the goal, if one is, are of earlier copies
abbrev pub StandsLast : (SheetId → Bool) → List Plan → SheetId → Goal → Type 0
StandsLast g first c goal = (q : Plan) → Contains first q → g q.sheet ≡ true → (tray : ℕ) → goes_to goal tray ≡ true → is_delivered_to q tray ≡ true → is_before q.sheet c ≡ true

-- a loose copy's front has all its actions released, and ends ahead
pub record HasFront (now : ℕ) (p : Plan) : Type 0 where
  pub released : p.released ≡ length p.acts
  pub ahead : now < end_of_plan p

-- these copies are those of the past plans, since a first schedule: it can be planned on; what was lost has its front;
-- loose copies have theirs; and the past plans are those of then, which stand before the copies that are still on their way
pub record IsParted (machine : Machine) (g : SheetId → Bool) (first : List Plan) (s : SessionState) : Type 0 where
  pub can : CanPlanOn machine s.now s.plans
  pub each : (p : Plan) → Contains s.plans p → g p.sheet ≡ not (is_live machine s.now p)
  pub lost : (c : SheetId) → Contains s.lost c → is_planned_among s.plans c ≡ true
  pub fronts : (p : Plan) → Contains s.plans p → is_front p.kind ≡ true → is_lost s p ≡ false → HasFront s.now p
  pub last : (p : Plan) → Contains s.plans p → is_lost s p ≡ false → s.now < end_of_plan p → StandsLast g first p.sheet p.goal
  pub past : (p : Plan) → Contains s.plans p → g p.sheet ≡ true → Contains first p
  pub gone : gone_from g s.plans ≡ gone_from g first

-- a fate befalls copies that are not lost and end ahead, and cuts those that have started
pub record Strikes (s : SessionState) (f : Fate) (p : Plan) : Type 0 where
  pub copy : is_lost s p ≡ false
  pub ahead : s.now < end_of_plan p
  pub started : is_cut_by f ≡ true → is_unstarted s.now p ≡ false

abbrev pub CanStrike : SessionState → (Plan → Fate) → Type 0
CanStrike s fate = (p : Plan) → Contains s.plans p → (fate p ≡ fates.stays) ⊎ Strikes s (fate p) p

module _ (machine : Machine) (g : SheetId → Bool) (first : List Plan) (s : SessionState) (fate : Plan → Fate) (can : CanStrike s fate) (parted : IsParted machine g first s) where
  -- who was lost stays lost
  lost-more : (p : Plan) → Contains s.plans p → (p' : Plan) → p'.sheet ≡ p.sheet → is_lost (befall fate s) p' ≡ false → is_lost s p ≡ false
  lost-more p in' p' same e = go (is_lost s p) refl where
    go : (b : Bool) → is_lost s p ≡ b → b ≡ false
    go false f = refl
    go true f = absurd (
        let there = Contains-map (λ (q : Plan). q.sheet) (filter (λ q. is_lost s q || is_loss (fate q)) s.plans) p (Contains-filter (λ q. is_lost s q || is_loss (fate q)) s.plans p in' (rw f refl)) in
        let is : is_lost (befall fate s) p ≡ true = among-there (lost_by fate s) p.sheet there in
        let other : is_lost (befall fate s) p ≡ false = ap (λ c. list_any (is_same_copy c) (lost_by fate s)) (sym same) ∙ e in
        cc)

  -- a plan that is cut
  cut-strikes : (p : Plan) → Contains s.plans p → is_cut_by (fate p) ≡ true → Strikes s (fate p) p
  cut-strikes p in' cut = elim (can p in') [
    | inl stays ↦ absurd (let no : is_cut_by (fate p) ≡ false = ap is_cut_by stays in cc)
    | inr strikes ↦ strikes
  ]

  timed-of : (p : Plan) → Contains s.plans p → IsTimedPlan machine p
  timed-of p in' = All-contains (IsTimedPlan machine) s.plans p parted.can.legal.timed in'

  live-of : (p : Plan) → Contains s.plans p → s.now < end_of_plan p → g p.sheet ≡ false
  live-of p in' high = parted.each p in' ∙ ap not (live-by machine s.now p (length p.acts) high)

  record IsCut (p p' : Plan) : Type 0 where
    sheet : p'.sheet ≡ p.sheet
    ahead : s.now < end_of_plan p'
    all : p'.released ≡ length p'.acts
    goal : (tray : ℕ) → goes_to p'.goal tray ≡ true → goes_to p.goal tray ≡ true

  cut-of : (p p' : Plan) → Contains s.plans p → is_cut_by (fate p) ≡ true → (p' ≡ front_of s.now p) ⊎ (p' ≡ to_purge (front_of s.now p)) → IsCut p p'
  cut-of p p' in' cut is =
      let strikes = cut-strikes p in' cut in
      let timed = timed-of p in' in
      let unstarted = strikes.started cut in
      let low : point p 0 ≤ s.now = grind (arith, nat_tests) in
      let ahead = front-ahead machine s.now p timed low strikes.ahead in
      let acts = front-acts machine s.now p timed low strikes.ahead in
      go is ahead acts where
        go : (p' ≡ front_of s.now p) ⊎ (p' ≡ to_purge (front_of s.now p)) → s.now < end_of_plan (front_of s.now p) → length (front_of s.now p).acts ≡ started_count s.now p → IsCut p p'
        go (inl e) high acts = subst (IsCut p) (sym e) (record { sheet = refl; ahead = high; all = sym acts; goal = λ tray to. to })
        go (inr e) high acts = subst (IsCut p) (sym e) (record { sheet = refl; ahead = high; all = sym acts; goal = λ tray to. absurd (cc) })

  record From (p' : Plan) : Type 0 where
    p : Plan
    there : Contains s.plans p
    how : (p' ≡ p) ⊎ ((is_cut_by (fate p) ≡ true) × IsCut p p')

  from : (p' : Plan) → Contains (left_by fate s.now s.plans) p' → From p'
  from p' in' = go (comes-from s.now fate s.plans p' in').0 (comes-from s.now fate s.plans p' in').1 (comes-from s.now fate s.plans p' in').2 where
    go : (p : Plan) → Contains s.plans p → Comes s.now fate p p' → From p'
    go p there (stayed e is) = record { p = p; there = there; how = inl is }
    go p there (fronted cut is) = record { p = p; there = there; how = inr (cut, cut-of p p' there cut (inl is)) }
    go p there (purged cut is) = record { p = p; there = there; how = inr (cut, cut-of p p' there cut (inr is)) }

  each' : (p' : Plan) → From p' → g p'.sheet ≡ not (is_live machine s.now p')
  each' p' from' = elim from'.how [
    | inl is ↦ subst (λ q. g q.sheet ≡ not (is_live machine s.now q)) (sym is) (parted.each from'.p from'.there)
    | inr cut ↦
        ap g cut.1.sheet ∙ live-of from'.p from'.there (cut-strikes from'.p from'.there cut.0).ahead
        ∙ sym (ap not (live-by machine s.now p' (length p'.acts) cut.1.ahead))
  ]

  fronts' : (p' : Plan) → From p' → is_front p'.kind ≡ true → is_lost (befall fate s) p' ≡ false → HasFront s.now p'
  fronts' p' from' front copy = elim from'.how [
    | inl is ↦ subst (HasFront s.now) (sym is) (parted.fronts from'.p from'.there (subst (λ q. is_front q.kind ≡ true) is front) (lost-more from'.p from'.there p' (ap (λ (q : Plan). q.sheet) is) copy))
    | inr cut ↦ record { released = cut.1.all; ahead = cut.1.ahead }
  ]

  last' : (p' : Plan) → From p' → is_lost (befall fate s) p' ≡ false → s.now < end_of_plan p' → StandsLast g first p'.sheet p'.goal
  last' p' from' copy high = elim from'.how [
    | inl is ↦ subst (λ q. StandsLast g first q.sheet q.goal) (sym is) (parted.last from'.p from'.there (lost-more from'.p from'.there p' (ap (λ (q : Plan). q.sheet) is) copy) (subst (λ q. s.now < end_of_plan q) is high))
    | inr cut ↦
        let strikes = cut-strikes from'.p from'.there cut.0 in
        λ q in' gone tray to delivered. subst (λ c. is_before q.sheet c ≡ true) (sym cut.1.sheet) (parted.last from'.p from'.there strikes.copy strikes.ahead q in' gone tray (cut.1.goal tray to) delivered)
  ]

  past' : (p' : Plan) → From p' → g p'.sheet ≡ true → Contains first p'
  past' p' from' gone = elim from'.how [
    | inl is ↦ subst (Contains first) (sym is) (parted.past from'.p from'.there (subst (λ q. g q.sheet ≡ true) is gone))
    | inr cut ↦ absurd (
        let stays = live-of from'.p from'.there (cut-strikes from'.p from'.there cut.0).ahead in
        let same : g p'.sheet ≡ false = ap g cut.1.sheet ∙ stays in cc)
  ]

  -- who is lost has a plan left
  planned' : (p : Plan) → Contains s.plans p → (is_lost s p || is_loss (fate p)) ≡ true → is_planned_among (left_by fate s.now s.plans) p.sheet ≡ true
  planned' p in' e = elim (can p in') [
    | inl stays ↦ planned-there (left_by fate s.now s.plans) p (left-there s.now fate s.plans p p in' (ap (left_of s.now p) stays))
    | inr strikes ↦ go (fate p) refl (subst (λ b. (b || is_loss (fate p)) ≡ true) strikes.copy e)
  ] where
    go : (f : Fate) → fate p ≡ f → is_loss (fate p) ≡ true → is_planned_among (left_by fate s.now s.plans) p.sheet ≡ true
    go fates.lost f e = planned-there (left_by fate s.now s.plans) (front_of s.now p) (left-there s.now fate s.plans p (front_of s.now p) in' (ap (left_of s.now p) f))
    go fates.stays f e = absurd (let no : is_loss (fate p) ≡ false = ap is_loss f in cc)
    go fates.withdrawn f e = absurd (let no : is_loss (fate p) ≡ false = ap is_loss f in cc)
    go fates.cut f e = absurd (let no : is_loss (fate p) ≡ false = ap is_loss f in cc)
    go fates.purged f e = absurd (let no : is_loss (fate p) ≡ false = ap is_loss f in cc)
    go fates.replaced f e = absurd (let no : is_loss (fate p) ≡ false = ap is_loss f in cc)
    go fates.dropped f e = absurd (let no : is_loss (fate p) ≡ false = ap is_loss f in cc)

  -- the plans of past copies stay as they are
  gone-left : (ps : List Plan) → ((p : Plan) → Contains ps p → Contains s.plans p) → gone_from g (left_by fate s.now ps) ≡ gone_from g ps
  gone-left [] of = refl
  gone-left (p ∷ ps) of =
      let rest = gone-left ps (λ q in'. of q (Contains-later p ps q in')) in
      filter-append (λ q. g q.sheet) (left_of s.now p (fate p)) (left_by fate s.now ps)
      ∙ go (g p.sheet) refl (can p (of p (Contains-here p ps))) rest where
        none-of : (f : Fate) → g p.sheet ≡ false → gone_from g (left_of s.now p f) ≡ []
        none-of fates.stays e = rw e refl
        none-of fates.lost e = rw e refl
        none-of fates.withdrawn e = refl
        none-of fates.cut e = rw e refl
        none-of fates.purged e = rw e refl
        none-of fates.replaced e = rw e refl
        none-of fates.dropped e = refl

        go : (b : Bool) → g p.sheet ≡ b → (fate p ≡ fates.stays) ⊎ Strikes s (fate p) p → gone_from g (left_by fate s.now ps) ≡ gone_from g ps
            → gone_from g (left_of s.now p (fate p)) ++ gone_from g (left_by fate s.now ps) ≡ cond b (p ∷ gone_from g ps) (gone_from g ps)
        go false e can' same = rw (none-of (fate p) e) same
        go true e (inl stays) same = rw (stays, e) (ap (λ l. p ∷ l) same)
        go true e (inr strikes) same = absurd (let ahead = live-of p (of p (Contains-here p ps)) strikes.ahead in cc)

  pub parted-befall : IsParted machine g first (befall fate s)
  parted-befall = record {
    can = fates_keep_planning machine fate s (λ p in' cut. (cut-strikes p in' cut).started cut) parted.can;
    each = λ p' in'. each' p' (from p' in');
    lost = λ c in'.
        let of = Contains-map_from (λ (p : Plan). p.sheet) (filter (λ p. is_lost s p || is_loss (fate p)) s.plans) c in' in
        let at = Contains-filter_from (λ p. is_lost s p || is_loss (fate p)) s.plans of.0 of.1 in
        subst (λ d. is_planned_among (left_by fate s.now s.plans) d ≡ true) (sym of.2) (planned' of.0 at.0 at.1);
    fronts = λ p' in'. fronts' p' (from p' in');
    last = λ p' in'. last' p' (from p' in');
    past = λ p' in'. past' p' (from p' in');
    gone = gone-left s.plans (λ p in'. in') ∙ parted.gone;
  }
