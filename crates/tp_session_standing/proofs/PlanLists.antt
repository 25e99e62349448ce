-- Plans that are put one after another, in the order of copies.
use Rattle.std.proofs.Common.{◌≡◌, ◌∙◌, ℕ, ◌+◌, ◌<◌, cond, Bool, true, false, List, [], ◌∷◌, ◌++◌, length, get_or, take, map, filter, slice_get, None, Some, All, refl, ap, sym, arith}
use Rattle.std.proofs.lemmas.List.{append-nil, get_or-take, get_or_default, length-take, map-append, take_more}
use Rattle.std.proofs.lemmas.List.Elements.{All-head, All-tail, filter-append}
use Rattle.std.proofs.lemmas.Option.{get_or_from_slice_get, slice_get_within}
use Rattle.tp_jobs.proofs.Found.{find-none}
use Rattle.tp_schedule.proofs.CopyFacts.{InOrder, before-asym, before-not_same}
use Rattle.tp_schedule.specs.Plans.{is_before, is_front, is_same_copy, plan_of, put_plan}
use Rattle.tp_schedule.specs.declared.parts.Plan.{Plan}
use Rattle.tp_event_rules.specs.Seen.{fronts_of}

abbrev ComesBefore : Plan → Plan → Type 0
ComesBefore p q = is_before q.sheet p.sheet ≡ true

-- the plans before it stand before it
earlier : (plans : List Plan) (i : ℕ) (d : Plan) → i < length plans → InOrder plans → All (ComesBefore (get_or plans i d)) (take i plans)
earlier plans i d within in_order k e below =
    let most = length-take i plans in
    let low : k < i = omega (arith, below, most) in
    let is : get_or (take i plans) k e ≡ get_or plans k d = get_or-take i plans k e low ∙ get_or_default plans k e d (omega (arith, low, within)) in
    rw is (in_order k i d low within)

-- a plan behind all others is put last
put-last : (p : Plan) (plans : List Plan) → All (ComesBefore p) plans → put_plan p plans ≡ plans ++ p ∷ []
put-last p [] all = refl
put-last p (q ∷ plans) all = go (is_before p.sheet q.sheet) refl (put-last p plans (All-tail (ComesBefore p) q plans all)) where
  go : (b : Bool) → is_before p.sheet q.sheet ≡ b → put_plan p plans ≡ plans ++ p ∷ [] → cond b (p ∷ q ∷ plans) (q ∷ put_plan p plans) ≡ q ∷ plans ++ p ∷ []
  go true e rest = (let no : is_before p.sheet q.sheet ≡ false = before-asym q.sheet p.sheet (All-head (ComesBefore p) q plans all) in absurd cc)
  go false e rest = ap (λ ps. q ∷ ps) rest

pub put-next : (plans : List Plan) (i : ℕ) (d : Plan) → i < length plans → InOrder plans → put_plan (get_or plans i d) (take i plans) ≡ take (i + 1) plans
put-next plans i d within in_order = put-last (get_or plans i d) (take i plans) (earlier plans i d within in_order) ∙ sym (take_more plans i d within)

-- and no plan of its copy is there yet
pub new-next : (plans : List Plan) (i : ℕ) (d : Plan) → i < length plans → InOrder plans → plan_of (get_or plans i d).sheet (take i plans) ≡ None
new-next plans i d within in_order =
    find-none (λ (p : Plan). is_same_copy p.sheet (get_or plans i d).sheet) (take i plans)
    (λ k e below. before-not_same (get_or (take i plans) k e).sheet (get_or plans i d).sheet (earlier plans i d within in_order k e below))

-- the fronts with those of the next plan
pub fronts-next : (plans : List Plan) (i : ℕ) (d : Plan) → i < length plans
    → fronts_of (take (i + 1) plans) ≡ cond (is_front (get_or plans i d).kind) (fronts_of (take i plans) ++ (get_or plans i d).sheet ∷ []) (fronts_of (take i plans))
fronts-next plans i d within =
    ap fronts_of (take_more plans i d within)
    ∙ ap (map (λ (p : Plan). p.sheet)) (filter-append (λ (p : Plan). is_front p.kind) (take i plans) (p ∷ []))
    ∙ map-append (λ (p : Plan). p.sheet) (filter (λ (p : Plan). is_front p.kind) (take i plans)) (filter (λ (q : Plan). is_front q.kind) (p ∷ []))
    ∙ go (is_front p.kind)
  where
    p : Plan
    p = get_or plans i d

    go : (b : Bool) → fronts_of (take i plans) ++ map (λ (q : Plan). q.sheet) (cond b (p ∷ []) []) ≡ cond b (fronts_of (take i plans) ++ p.sheet ∷ []) (fronts_of (take i plans))
    go true = refl
    go false = append-nil (fronts_of (take i plans))

-- the first plans with the next one
pub take-next : (plans : List Plan) (i : ℕ) (p : Plan) → slice_get plans i ≡ Some p → take (i + 1) plans ≡ take i plans ++ p ∷ []
take-next plans i p is = take_more plans i p (slice_get_within plans i p is) ∙ ap (λ q. take i plans ++ q ∷ []) (get_or_from_slice_get plans i p p is)
