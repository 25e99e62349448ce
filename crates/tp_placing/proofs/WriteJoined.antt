-- The schedule that is written: the answered live part, joined with the plans that are not live.
use Rattle.std.proofs.Common.{◌≡◌, ℕ, suc, Bool, true, false, cond, not, List, [], ◌∷◌, length, filter, map, refl, ap, sym, ◌∙◌, All, AllPairs, Contains}
use Rattle.std.proofs.lemmas.List.Elements.{All-contains, All-head}
use Rattle.std.proofs.lemmas.List.Kept.{AllPairs-filter}
use Rattle.tp_machine.specs.declared.machine.Machine.{Machine}
use Rattle.tp_schedule.specs.Choices.{Choice}
use Rattle.tp_schedule.specs.Completions.{answered, asked_plan, settled_ticks, total_of}
use Rattle.tp_schedule.specs.LivePlans.{is_live}
use Rattle.tp_schedule.specs.PlannerAnswers.{CanAsk, CanPlanOn}
use Rattle.tp_schedule.specs.Plans.{IsEarlier, is_before, is_same_copy, put_plan, with_points, without}
use Rattle.tp_schedule.specs.Spots.{Ticks}
use Rattle.tp_schedule.specs.Times.{at, timed_by}
use Rattle.tp_schedule.specs.declared.parts.Ask.{Ask}
use Rattle.tp_schedule.specs.declared.parts.Plan.{Plan}
use Rattle.tp_schedule.specs.declared.parts.SheetId.{SheetId}
use Rattle.tp_schedule.proofs.CopyFacts.{before-trans, same_copy-is}
use Rattle.tp_schedule.proofs.Membership.{All-from_contains, Contains-filter_from, Contains-here, Contains-later}
use Rattle.tp_schedule.proofs.Pairs.{AllPairs-head, AllPairs-tail}
use Rattle.tp_choices.specs.LiveParts.{IsJoined, less, only}
use Rattle.tp_choices.proofs.RejoinedPlans.{filter-put_out}
use Rattle.tp_choices.proofs.Lists.{filter-all}
use Rattle.tp_choices.proofs.Parts.{filter-swap}
use Rattle.tp_placing.specs.Commits.{retimed_in}
use Rattle.tp_placing.proofs.WriteLive.{gone, may-forget, put-of, stays}
use Rattle.tp_placing.proofs.WriteTimes.{ticks-same}
use Rattle.tp_placing.proofs.WritePlans.{in_order-retimed, retimed-is, retimed-not, retimed-sheet}
use Rattle.tp_placing.proofs.WriteWhole.{less-live, loaded-here, loaded-is}

pub map-agree : {X Y : Type 0} (f g : X → Y) (xs : List X) → ((x : X) → Contains xs x → f x ≡ g x) → map f xs ≡ map g xs
map-agree f g [] same = refl
map-agree {X} f g (x ∷ xs) same =
    let one = same x (Contains-here x xs) in
    let rest = map-agree f g xs (λ y in'. same y (Contains-later x xs y in')) in
    λ i. one i ∷ rest i

map-same : {X : Type 0} (f : X → X) (xs : List X) → ((x : X) → Contains xs x → f x ≡ x) → map f xs ≡ xs
map-same f [] same = refl
map-same {X} f (x ∷ xs) same =
    let one = same x (Contains-here x xs) in
    let rest = map-same f xs (λ y in'. same y (Contains-later x xs y in')) in
    λ i. one i ∷ rest i

-- plans by their copies, which a change of points leaves
pub filter-map : (g : SheetId → Bool) (f : Plan → Plan) (plans : List Plan) → ((p : Plan) → (f p).sheet ≡ p.sheet) → filter (λ p. g p.sheet) (map f plans) ≡ map f (filter (λ p. g p.sheet) plans)
filter-map g f [] same = refl
filter-map g f (p ∷ plans) same = ap (λ c. cond (g c) (f p ∷ filter (λ q. g q.sheet) (map f plans)) (filter (λ q. g q.sheet) (map f plans))) (same p) ∙ go (g p.sheet) (filter-map g f plans same) where
  go : (b : Bool) → filter (λ q. g q.sheet) (map f plans) ≡ map f (filter (λ q. g q.sheet) plans) → cond b (f p ∷ filter (λ q. g q.sheet) (map f plans)) (filter (λ q. g q.sheet) (map f plans)) ≡ map f (cond b (p ∷ filter (λ q. g q.sheet) plans) (filter (λ q. g q.sheet) plans))
  go true rest = ap (λ ps. f p ∷ ps) rest
  go false rest = rest

put-first : (p : Plan) (xs : List Plan) → All (IsEarlier p) xs → put_plan p xs ≡ p ∷ xs
put-first p [] later = refl
put-first p (q ∷ xs) later = let e = All-head (IsEarlier p) q xs later in rw e refl

-- a plan that a test on copies passes is put among those that pass
pub filter-put : (g : SheetId → Bool) (p : Plan) (xs : List Plan) → AllPairs IsEarlier xs → g p.sheet ≡ true → filter (λ q. g q.sheet) (put_plan p xs) ≡ put_plan p (filter (λ q. g q.sheet) xs)
filter-put g p [] in_order e = rw e refl
filter-put g p (q ∷ xs) in_order e = go (is_before p.sheet q.sheet) refl (g q.sheet) refl (filter-put g p xs (AllPairs-tail IsEarlier q xs in_order) e) where
  behind : is_before p.sheet q.sheet ≡ true → put_plan p (filter (λ r. g r.sheet) xs) ≡ p ∷ filter (λ r. g r.sheet) xs
  behind before =
      put-first p (filter (λ r. g r.sheet) xs)
      (All-from_contains (IsEarlier p) (filter (λ r. g r.sheet) xs)
      (λ r in'. before-trans p.sheet q.sheet r.sheet before (All-contains (IsEarlier q) xs r (AllPairs-head IsEarlier q xs in_order) (Contains-filter_from (λ s. g s.sheet) xs r in').0)))

  go : (b : Bool) → is_before p.sheet q.sheet ≡ b → (c : Bool) → g q.sheet ≡ c → filter (λ r. g r.sheet) (put_plan p xs) ≡ put_plan p (filter (λ r. g r.sheet) xs)
      → filter (λ r. g r.sheet) (cond b (p ∷ q ∷ xs) (q ∷ put_plan p xs)) ≡ put_plan p (cond c (q ∷ filter (λ r. g r.sheet) xs) (filter (λ r. g r.sheet) xs))
  go true before true f rest = rw (e, f, before) refl
  go true before false f rest = rw (e, f) (sym (behind before))
  go false before true f rest = rw (f, before) (ap (λ ps. q ∷ ps) rest)
  go false before false f rest = rw f rest

map-put : (t : Ticks) (p : Plan) (xs : List Plan) → map (timed_by t) (put_plan p xs) ≡ put_plan (timed_by t p) (map (timed_by t) xs)
map-put t p [] = refl
map-put t p (q ∷ xs) = go (is_before p.sheet q.sheet) (map-put t p xs) where
  go : (b : Bool) → map (timed_by t) (put_plan p xs) ≡ put_plan (timed_by t p) (map (timed_by t) xs)
      → map (timed_by t) (cond b (p ∷ q ∷ xs) (q ∷ put_plan p xs)) ≡ cond b (timed_by t p ∷ timed_by t q ∷ map (timed_by t) xs) (timed_by t q ∷ put_plan (timed_by t p) (map (timed_by t) xs))
  go true rest = refl
  go false rest = ap (λ ps. timed_by t q ∷ ps) rest

not-true : (b : Bool) → not b ≡ true → b ≡ false
not-true true e = absurd cc
not-true false e = refl

-- the own points' ticks are those of the asked copy alone
settled-other : (ask : Ask) (total : ℕ) (t : Ticks) (p : Plan) → is_same_copy p.sheet ask.sheet ≡ false → timed_by (settled_ticks ask total t) p ≡ timed_by t p
settled-other ask total t p other = ap (λ ts. with_points ts p) (ticks-same (at (settled_ticks ask total t) p) (at t p) 0 0 (suc (length p.acts)) (λ k within. rw other refl))

-- the live part at ticks, and the rest as it was
module _ (machine : Machine) (plans : List Plan) (now : ℕ) (can : CanPlanOn machine now plans) (t : Ticks) where
  abbrev lively : List Plan
  lively = filter (is_live machine now) plans

  pub retimed-live : less (gone machine plans now can) (map (retimed_in lively t) plans) ≡ map (timed_by t) lively
  retimed-live =
      filter-map (λ c. not (gone machine plans now can c)) (retimed_in lively t) plans (retimed-sheet lively t)
      ∙ ap (map (retimed_in lively t)) (less-live machine plans now can)
      ∙ map-agree (retimed_in lively t) (timed_by t) lively (λ p in'. retimed-is lively t p (loaded-here lively p in'))

  pub retimed-past : only (gone machine plans now can) (map (retimed_in lively t) plans) ≡ only (gone machine plans now can) plans
  retimed-past = filter-map (gone machine plans now can) (retimed_in lively t) plans (retimed-sheet lively t) ∙ map-same (retimed_in lively t) (only (gone machine plans now can) plans) stay where
    stay : (p : Plan) → Contains (only (gone machine plans now can) plans) p → retimed_in lively t p ≡ p
    stay p in' =
        let from = Contains-filter_from (λ q. gone machine plans now can q.sheet) plans p in' in
        retimed-not lively t p (loaded-is machine plans now can p from.0 ((may-forget machine plans now can).past p from.0 from.1))

  pub joined-times : IsJoined (gone machine plans now can) plans (map (timed_by t) lively) (map (retimed_in lively t) plans)
  joined-times = record { in_order = in_order-retimed lively t plans can.legal.in_order; live_part = retimed-live; past_part = retimed-past }

module _ (machine : Machine) (plans : List Plan) (ask : Ask) (can : CanAsk machine plans ask) (choices : List Choice) (t : Ticks) where
  abbrev live : List Plan
  live = filter (is_live machine ask.now) plans

  abbrev ended : SheetId → Bool
  ended = gone machine plans ask.now can.plan_on

  abbrev settled : Ticks
  settled = settled_ticks ask (total_of ask choices) t

  -- the schedule with the asked plan among the others at their ticks
  abbrev pub written : List Plan
  written = put_plan (timed_by settled (asked_plan live ask choices)) (without ask.sheet (map (retimed_in live t) plans))

  others : map (timed_by settled) (without ask.sheet live) ≡ map (timed_by t) (without ask.sheet live)
  others = map-agree (timed_by settled) (timed_by t) (without ask.sheet live) (λ p in'. settled-other ask (total_of ask choices) t p (not-true (is_same_copy p.sheet ask.sheet) (Contains-filter_from (λ q. not (is_same_copy q.sheet ask.sheet)) live p in').1))

  rest-live : less ended (without ask.sheet (map (retimed_in live t) plans)) ≡ map (timed_by settled) (without ask.sheet live)
  rest-live =
      filter-swap (λ p. not (ended p.sheet)) (λ p. not (is_same_copy p.sheet ask.sheet)) (map (retimed_in live t) plans)
      ∙ ap (without ask.sheet) (retimed-live machine plans ask.now can.plan_on t)
      ∙ filter-map (λ c. not (is_same_copy c ask.sheet)) (timed_by t) live (λ p. refl)
      ∙ sym others

  rest-past : only ended (without ask.sheet (map (retimed_in live t) plans)) ≡ only ended plans
  rest-past =
      filter-swap (λ p. ended p.sheet) (λ p. not (is_same_copy p.sheet ask.sheet)) (map (retimed_in live t) plans)
      ∙ ap (without ask.sheet) (retimed-past machine plans ask.now can.plan_on t)
      ∙ filter-all (λ p. not (is_same_copy p.sheet ask.sheet)) (only ended plans) (All-from_contains (λ p. not (is_same_copy p.sheet ask.sheet) ≡ true) (only ended plans) other) where
        other : (p : Plan) → Contains (only ended plans) p → not (is_same_copy p.sheet ask.sheet) ≡ true
        other p in' = pick (is_same_copy p.sheet ask.sheet) refl where
          pick : (b : Bool) → is_same_copy p.sheet ask.sheet ≡ b → not b ≡ true
          pick false e = refl
          pick true e =
              let is : ended ask.sheet ≡ true = ap ended (sym (same_copy-is p.sheet ask.sheet e)) ∙ (Contains-filter_from (λ q. ended q.sheet) plans p in').1 in
              let no : ended ask.sheet ≡ false = stays machine plans ask (put-of machine plans ask can) in
              cc

  pub joined : AllPairs IsEarlier (map (retimed_in live t) plans) → AllPairs IsEarlier written → IsJoined ended plans (answered live ask choices t) written
  joined before in_order =
      let stays-on : ended ask.sheet ≡ false = stays machine plans ask (put-of machine plans ask can) in
      record {
        in_order = in_order;
        live_part =
            filter-put (λ c. not (ended c)) (timed_by settled (asked_plan live ask choices)) (without ask.sheet (map (retimed_in live t) plans)) (AllPairs-filter IsEarlier (λ p. not (is_same_copy p.sheet ask.sheet)) (map (retimed_in live t) plans) before) (rw stays-on refl)
            ∙ ap (put_plan (timed_by settled (asked_plan live ask choices))) rest-live
            ∙ sym (map-put settled (asked_plan live ask choices) (without ask.sheet live));
        past_part = filter-put_out (λ q. ended q.sheet) (timed_by settled (asked_plan live ask choices)) (without ask.sheet (map (retimed_in live t) plans)) stays-on ∙ rest-past;
      }
