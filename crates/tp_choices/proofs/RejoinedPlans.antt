-- What is forgotten can be put back, plan by plan, from the last on: each plan stands in its copy's place.
use Rattle.std.proofs.Common.{◌≡◌, Bool, true, false, cond, not, List, [], ◌∷◌, filter, refl, ap, sym, Contains, All, AllPairs, ◌∙◌, subst, get_or}
use Rattle.std.proofs.lemmas.Bool.{not-true}
use Rattle.std.proofs.lemmas.List.Elements.{All-head, All-tail}
use Rattle.std.proofs.lemmas.List.Kept.{AllPairs-filter}
use Rattle.tp_schedule.specs.declared.parts.Plan.{Plan}
use Rattle.tp_schedule.specs.declared.parts.SheetId.{SheetId}
use Rattle.tp_schedule.specs.Plans.{is_before, is_same_copy, put_plan, IsEarlier}
use Rattle.tp_schedule.specs.Spots.{ticks_of}
use Rattle.tp_schedule.specs.Spots.Spot.{kept}
use Rattle.tp_schedule.proofs.CopyFacts.{NotOf, before-not_same', same_copy-is}
use Rattle.tp_schedule.proofs.Membership.{Contains-filter_from, All-from_contains}
use Rattle.tp_schedule.proofs.Pairs.{AllPairs-head, AllPairs-tail}
use Rattle.tp_schedule.proofs.PlanOrder.{All-put_plan, InOrder-put_plan}
use Rattle.tp_choices.specs.LiveParts.{less, only, JoinExists, LiveIsLeast}
use Rattle.tp_choices.proofs.Lists.{filter-all}
use Rattle.tp_choices.proofs.LiveOrders.{others_of}
use Rattle.tp_choices.proofs.LiveTimes.{live_retimes}
use Rattle.tp_choices.proofs.Unmoved.{unmoved-found}
use Rattle.tp_choices.proofs.PlansLeft.{ticks-staying, filter-none}

-- the plans of the first list put into the second
joined_of : List Plan → List Plan → List Plan
joined_of [] live = live
joined_of (p ∷ past) live = put_plan p (joined_of past live)

-- a plan that fails a test is not seen by its filter, and one that passes stands first among later ones
pub filter-put_out : (g : Plan → Bool) (p : Plan) (xs : List Plan) → g p ≡ false → filter g (put_plan p xs) ≡ filter g xs
filter-put_out g p [] e = rw e refl
filter-put_out g p (q ∷ xs) e = go (is_before p.sheet q.sheet) (g q) refl (filter-put_out g p xs e) where
  go : (b c : Bool) → g q ≡ c → filter g (put_plan p xs) ≡ filter g xs → filter g (cond b (p ∷ q ∷ xs) (q ∷ put_plan p xs)) ≡ cond c (q ∷ filter g xs) (filter g xs)
  go true true f rest = rw (e, f) refl
  go true false f rest = rw (e, f) refl
  go false true f rest = rw f (ap (λ ys. q ∷ ys) rest)
  go false false f rest = rw f rest

filter-put_in : (g : Plan → Bool) (p : Plan) (xs : List Plan) → g p ≡ true → All (IsEarlier p) (filter g xs) → filter g (put_plan p xs) ≡ p ∷ filter g xs
filter-put_in g p [] e later = rw e refl
filter-put_in g p (q ∷ xs) e later = go (is_before p.sheet q.sheet) refl (g q) refl later (filter-put_in g p xs e) where
  go : (b : Bool) → is_before p.sheet q.sheet ≡ b → (c : Bool) → g q ≡ c → All (IsEarlier p) (cond c (q ∷ filter g xs) (filter g xs)) → (All (IsEarlier p) (filter g xs) → filter g (put_plan p xs) ≡ p ∷ filter g xs)
      → filter g (cond b (p ∷ q ∷ xs) (q ∷ put_plan p xs)) ≡ p ∷ cond c (q ∷ filter g xs) (filter g xs)
  go true before true f later' rest = rw (e, f) refl
  go true before false f later' rest = rw (e, f) refl
  go false before true f later' rest = absurd (let first = All-head (IsEarlier p) q (filter g xs) later' in cc)
  go false before false f later' rest = rw f (rest later')

record IsBuilt (gone : SheetId → Bool) (past live new : List Plan) : Type 0 where
  in_order : AllPairs IsEarlier new
  live_part : less gone new ≡ live
  past_part : only gone new ≡ past
  among : (p : Plan) → All (IsEarlier p) past → All (NotOf p.sheet) live → All (NotOf p.sheet) new

built : (gone : SheetId → Bool) (past live : List Plan) → AllPairs IsEarlier past → All (λ p. gone p.sheet ≡ true) past → AllPairs IsEarlier live → All (λ p. gone p.sheet ≡ false) live → IsBuilt gone past live (joined_of past live)
unfolding joined_of
built gone [] live past-order all live-order none = record {
  in_order = live-order;
  live_part = filter-all (λ p. not (gone p.sheet)) live (λ k d within. let one = none k d within in rw one refl);
  past_part = filter-none (λ p. gone p.sheet) live none;
  among = λ p later not_of. not_of;
}
built gone (p ∷ past) live past-order all live-order none =
    let rest = built gone past live (AllPairs-tail IsEarlier p past past-order) (All-tail (λ q. gone q.sheet ≡ true) p past all) live-order none in
    let is-gone = All-head (λ q. gone q.sheet ≡ true) p past all in
    let later = AllPairs-head IsEarlier p past past-order in
    let differ : All (NotOf p.sheet) live = λ k d within. other (get_or live k d) is-gone (none k d within) in
    let not_of = rest.among p later differ in
    record {
      in_order = InOrder-put_plan p (joined_of past live) rest.in_order not_of;
      live_part = filter-put_out (λ q. not (gone q.sheet)) p (joined_of past live) (rw is-gone refl) ∙ rest.live_part;
      past_part = filter-put_in (λ q. gone q.sheet) p (joined_of past live) is-gone (rw rest.past_part later) ∙ ap (λ ps. p ∷ ps) rest.past_part;
      among = λ q later' not_of'. All-put_plan (NotOf q.sheet) p (joined_of past live) (before-not_same' q.sheet p.sheet (All-head (IsEarlier q) p past later')) (rest.among q (All-tail (IsEarlier q) p past later') not_of');
    } where
      other : (q : Plan) → gone p.sheet ≡ true → gone q.sheet ≡ false → is_same_copy q.sheet p.sheet ≡ false
      other q is-gone stays = pick (is_same_copy q.sheet p.sheet) refl where
        pick : (b : Bool) → is_same_copy q.sheet p.sheet ≡ b → b ≡ false
        pick true same = let is = same_copy-is q.sheet p.sheet same in let bad : gone p.sheet ≡ false = subst (λ c. gone c ≡ false) is stays in absurd (cc)
        pick false same = refl

pub join_exists : JoinExists
join_exists gone plans live in_order live-order none =
    let b = built gone (only gone plans) live (AllPairs-filter IsEarlier (λ p. gone p.sheet) plans in_order)
    (All-from_contains (λ p. gone p.sheet ≡ true) (only gone plans) (λ p in'. (Contains-filter_from (λ q. gone q.sheet) plans p in').1)) live-order
    (All-from_contains (λ p. gone p.sheet ≡ false) live none) in
    (joined_of (only gone plans) live, record { in_order = b.in_order; live_part = b.live_part; past_part = b.past_part })

pub live_is_least : LiveIsLeast
live_is_least machine now exempt plans gone f only_shape have least live r p in' i within =
    let from = Contains-filter_from (λ q. not (gone q.sheet)) plans p in' in
    let j = join_exists gone plans live f.legal.in_order r.legal.in_order none in
    let whole = live_retimes machine now exempt plans live j.0 gone f only_shape have j.1 r in
    let le = least j.0 whole p from.0 i within in
    let same : ticks_of (less gone j.0) (kept p.sheet i) ≡ ticks_of j.0 (kept p.sheet i) = ticks-staying (others_of gone) p.sheet j.0 i from.1 in
    rw (← j.1.live_part, same) le where
      none : (q : Plan) → Contains live q → gone q.sheet ≡ false
      none q in-live =
          let found = unmoved-found (less gone plans) live q (sym r.same) in-live in
          let sheet : found.0.sheet ≡ q.sheet = ap (λ (x : Plan). x.sheet) found.2 in
          subst (λ c. gone c ≡ false) sheet (not-true (gone found.0.sheet) (Contains-filter_from (λ x. not (gone x.sheet)) plans found.0 found.1).1)
