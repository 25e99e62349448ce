-- A schedule less the plans of some copies: its plans, its ticks and its slots are those of the copies that stay.
use Rattle.std.proofs.Common.{◌≡◌, ℕ, ◌≤◌, Bool, true, false, cond, not, List, [], ◌∷◌, ◌++◌, map, length, filter, refl, ap, sym, arith, All, ◌∙◌, subst, Some}
use Rattle.std.proofs.lemmas.List.Elements.{All-filter, All-head, All-tail, filter-append}
use Rattle.std.proofs.lemmas.List.Kept.{AllPairs-filter}
use Rattle.tp_machine.specs.declared.parts.ActId.{ActId}
use Rattle.tp_machine.specs.declared.machine.Machine.{Machine}
use Rattle.tp_schedule.proofs.HeldModes.{spread-fewer, held_in_more}
use Rattle.tp_schedule.specs.declared.parts.Plan.{Plan}
use Rattle.tp_schedule.specs.declared.parts.SheetId.{SheetId}
use Rattle.tp_schedule.specs.Answers.{unmoved}
use Rattle.tp_schedule.specs.Holders.{runs, runs_of, hold_of, holds_at}
use Rattle.tp_schedule.specs.Legality.{IsLegal, EndsBefore}
use Rattle.tp_schedule.specs.Plans.{IsTimedPlan, IsEarlier, plan_of, without, is_same_copy}
use Rattle.tp_schedule.specs.Spots.{Spot, Slot, slots_from, slots_of, slots, ticks_of, point_in}
use Rattle.tp_schedule.specs.Spots.Spot.{kept, own}
use Rattle.tp_schedule.proofs.CopyFacts.{same_copy-is}
use Rattle.tp_schedule.proofs.Membership.{Contains-filter_from}
use Rattle.tp_schedule.proofs.LegalFacts.{length-filter-flat_map-filter}
use Rattle.std.proofs.lemmas.List.{length-map}
use Rattle.tp_choices.proofs.Lists.{filter-all}
use Rattle.tp_choices.proofs.TimedSlots.{All-slots_from}

-- the plans of the copies that stay
abbrev pub staying : (SheetId → Bool) → List Plan → List Plan
staying f plans = filter (λ p. f p.sheet) plans

-- a point of a copy that stays; of own points as told
abbrev pub on_copy : Bool → (SheetId → Bool) → Spot → Bool
on_copy b f (kept c i) = f c
on_copy b f (own n) = b

abbrev pub stays : Bool → (SheetId → Bool) → Slot → Bool
stays b f s = on_copy b f s.to

pub filter-none : {X : Type 0} (p : X → Bool) (xs : List X) → All (λ x. p x ≡ false) xs → filter p xs ≡ []
filter-none p [] all = refl
filter-none p (x ∷ xs) all = rw (All-head (λ y. p y ≡ false) x xs all) (filter-none p xs (All-tail (λ y. p y ≡ false) x xs all))

slots_from-staying : (b : Bool) (f : SheetId → Bool) (machine : Machine) (resource : ℕ) (copy : SheetId) (n : ℕ) (acts : List ActId)
    → filter (stays b f) (slots_from machine resource copy n acts) ≡ cond (f copy) (slots_from machine resource copy n acts) []
slots_from-staying b f machine resource copy n acts = go (f copy) refl where
  go : (c : Bool) → f copy ≡ c → filter (stays b f) (slots_from machine resource copy n acts) ≡ cond c (slots_from machine resource copy n acts) []
  go true e = filter-all (stays b f) (slots_from machine resource copy n acts) (All-slots_from (λ s. stays b f s ≡ true) machine resource copy n acts (λ i j is within rule. e))
  go false e = filter-none (stays b f) (slots_from machine resource copy n acts) (All-slots_from (λ s. stays b f s ≡ false) machine resource copy n acts (λ i j is within rule. e))

-- the slots of the plans that stay
pub slots-staying : (b : Bool) (f : SheetId → Bool) (machine : Machine) (resource : ℕ) (plans : List Plan) → slots machine resource (staying f plans) ≡ filter (stays b f) (slots machine resource plans)
slots-staying b f machine resource [] = refl
slots-staying b f machine resource (p ∷ plans) =
    go (f p.sheet) (slots_from-staying b f machine resource p.sheet 0 p.acts) (slots-staying b f machine resource plans) ∙ sym (filter-append (stays b f) (slots_of machine resource p) (slots machine resource plans)) where
      go : (c : Bool) → filter (stays b f) (slots_of machine resource p) ≡ cond c (slots_of machine resource p) [] → slots machine resource (staying f plans) ≡ filter (stays b f) (slots machine resource plans)
          → slots machine resource (cond c (p ∷ staying f plans) (staying f plans)) ≡ filter (stays b f) (slots_of machine resource p) ++ filter (stays b f) (slots machine resource plans)
      go true here rest = rw (here, rest) refl
      go false here rest = rw (here, rest) refl

-- the plan of a copy that stays
pub plan_of-staying : (f : SheetId → Bool) (copy : SheetId) (plans : List Plan) → f copy ≡ true → plan_of copy (staying f plans) ≡ plan_of copy plans
plan_of-staying f copy [] e = refl
plan_of-staying f copy (p ∷ plans) e = go (f p.sheet) refl (is_same_copy p.sheet copy) refl (plan_of-staying f copy plans e) where
  go : (c : Bool) → f p.sheet ≡ c → (d : Bool) → is_same_copy p.sheet copy ≡ d → plan_of copy (staying f plans) ≡ plan_of copy plans
      → plan_of copy (cond c (p ∷ staying f plans) (staying f plans)) ≡ cond d (Some p) (plan_of copy plans)
  go true h true same rest = rw same refl
  go true h false same rest = rw same rest
  go false h true same rest = let is = same_copy-is p.sheet copy same in let no : f copy ≡ false = subst (λ c. f c ≡ false) is h in absurd (cc)
  go false h false same rest = rest

pub ticks-staying : (f : SheetId → Bool) (copy : SheetId) (plans : List Plan) (i : ℕ) → f copy ≡ true → ticks_of (staying f plans) (kept copy i) ≡ ticks_of plans (kept copy i)
ticks-staying f copy plans i e = ap (λ o. point_in o i) (plan_of-staying f copy plans e)

-- other tests of the copies alone do not mind
pub without-staying : (f : SheetId → Bool) (copy : SheetId) (plans : List Plan) → without copy (staying f plans) ≡ staying f (without copy plans)
without-staying f copy [] = refl
without-staying f copy (p ∷ plans) = go (f p.sheet) refl (not (is_same_copy p.sheet copy)) refl (without-staying f copy plans) where
  go : (c : Bool) → f p.sheet ≡ c → (d : Bool) → not (is_same_copy p.sheet copy) ≡ d → without copy (staying f plans) ≡ staying f (without copy plans)
      → without copy (cond c (p ∷ staying f plans) (staying f plans)) ≡ staying f (cond d (p ∷ without copy plans) (without copy plans))
  go true h true k rest = rw (h, k) (ap (λ ps. p ∷ ps) rest)
  go true h false k rest = rw k rest
  go false h true k rest = rw h rest
  go false h false k rest = rest

pub unmoved-staying : (f : SheetId → Bool) (plans : List Plan) → map unmoved (staying f plans) ≡ staying f (map unmoved plans)
unmoved-staying f [] = refl
unmoved-staying f (p ∷ plans) = go (f p.sheet) (unmoved-staying f plans) where
  go : (c : Bool) → map unmoved (staying f plans) ≡ staying f (map unmoved plans) → map unmoved (cond c (p ∷ staying f plans) (staying f plans)) ≡ cond c (unmoved p ∷ staying f (map unmoved plans)) (staying f (map unmoved plans))
  go true rest = ap (λ ps. unmoved p ∷ ps) rest
  go false rest = rest

-- a legal schedule is legal less these plans
pub legal-staying : (f : SheetId → Bool) (machine : Machine) (plans : List Plan) → IsLegal machine plans → IsLegal machine (staying f plans)
legal-staying f machine plans legal = record {
  in_order = AllPairs-filter IsEarlier (λ p. f p.sheet) plans legal.in_order;
  timed = All-filter (λ p. f p.sheet) (IsTimedPlan machine) plans legal.timed;
  single = λ resource tick.
      let fewer = length-filter-flat_map-filter (holds_at machine resource tick) runs_of (λ p. f p.sheet) plans in
      rw (length-map (filter (holds_at machine resource tick) (runs (staying f plans))) hold_of)
      (let at-most : length (map hold_of (filter (holds_at machine resource tick) (runs plans))) ≤ 1 = legal.single resource tick in
      let counted = length-map (filter (holds_at machine resource tick) (runs plans)) hold_of in omega arith);
  spread = λ resource tick. spread-fewer machine plans (staying f plans) resource tick
      (λ t mode h. held_in_more machine plans (staying f plans) resource t mode (λ p in'. (Contains-filter_from (λ q. f q.sheet) plans p in').0) h) (legal.spread resource tick);
  rise = AllPairs-filter EndsBefore (λ p. f p.sheet) plans legal.rise;
}
