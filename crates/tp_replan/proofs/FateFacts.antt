-- The fates of plans, place by place.
use Rattle.std.proofs.Common.{◌≡◌, ℕ, zero, suc, ◌+◌, Bool, true, false, cond, ◌||◌, List, [], ◌∷◌, ◌++◌, length, filter, get_or, map, take, drop, flat_map, slice_get, Some, refl, sym, ap, ◌∙◌, arith}
use Rattle.std.specs.List.{list_any}
use Rattle.std.proofs.lemmas.List.{append-nil, take_more, flat_map_more, map-append}
use Rattle.std.proofs.lemmas.List.Elements.{filter-append}
use Rattle.std.proofs.lemmas.Option.{get_or_from_slice_get, slice_get_within}
use Rattle.tp_schedule.specs.declared.parts.Plan.{Plan}
use Rattle.tp_jobs.specs.WaitingCopies.{put_waiting}
use Rattle.tp_jobs.proofs.OrderFacts.{length-put_waiting}
use Rattle.tp_jobs.specs.declared.parts.WaitingCopy.{WaitingCopy}
use Rattle.tp_event_rules.specs.Fates.{Fate as Befalls, waits_for}
use Rattle.tp_event_rules.specs.Lines.{put_all_waiting}
use Rattle.tp_replan.specs.Meanings.{CanAllWait, meant, waits_in}
use Rattle.tp_replan.specs.declared.fate.Fate.{Fate}

pub fate-at : (rule : Plan → Befalls) (plans : List Plan) (fates : List Fate) → map meant fates ≡ map rule plans → (i : ℕ) (p : Plan) (d : Fate) → slice_get plans i ≡ Some p → meant (get_or fates i d) ≡ rule p
fate-at rule [] fates e i p d at = absurd cc
fate-at rule (q ∷ plans) [] e i p d at = absurd cc
fate-at rule (q ∷ plans) (g ∷ fates) e zero p d at =
    let same : q ≡ p = cc in
    let heads : meant g ≡ rule q = cc in
    heads ∙ ap rule same
fate-at rule (q ∷ plans) (g ∷ fates) e (suc i) p d at = let tails : map meant fates ≡ map rule plans = cc in fate-at rule plans fates tails i p d at

pub take-next : {X : Type 0} (xs : List X) (i : ℕ) (x : X) → slice_get xs i ≡ Some x → take (i + 1) xs ≡ take i xs ++ x ∷ []
take-next xs i x is = take_more xs i x (slice_get_within xs i x is) ∙ ap (λ y. take i xs ++ y ∷ []) (get_or_from_slice_get xs i x x is)

-- one more is reported
pub told-next : {X Y : Type 0} (f : X → List Y) (xs : List X) (i : ℕ) (x : X) (ys : List Y) (old mid new : List Y) → slice_get xs i ≡ Some x → ys ≡ f x
    → mid ≡ old ++ flat_map f (take i xs) → new ≡ mid ++ ys → new ≡ old ++ flat_map f (take (i + 1) xs)
told-next f xs i x ys old mid new at its before now =
    now ∙ (λ k. before k ++ its k) ∙ flat_map_more f old (take i xs) x ∙ ap (λ zs. old ++ flat_map f zs) (sym (take-next xs i x at))

-- what waits after the fates
pub waits-by : (rule : Plan → Befalls) (plans : List Plan) (fates : List Fate) → map meant fates ≡ map rule plans → waits_in plans fates ≡ flat_map (λ p. waits_for p (rule p)) plans
waits-by rule [] fates e = refl
waits-by rule (p ∷ plans) [] e = absurd cc
waits-by rule (p ∷ plans) (f ∷ fates) e =
    let heads : meant f ≡ rule p = cc in
    let tails : map meant fates ≡ map rule plans = cc in
    (λ k. waits_for p (heads k) ++ waits-by rule plans fates tails k)

pub waits-next : (plans : List Plan) (fates : List Fate) → length fates ≡ length plans → (i : ℕ) (p : Plan) (d : Fate) → slice_get plans i ≡ Some p
    → waits_in (drop i plans) (drop i fates) ≡ waits_for p (meant (get_or fates i d)) ++ waits_in (drop (i + 1) plans) (drop (i + 1) fates)
waits-next [] fates len i p d at = absurd cc
waits-next (q ∷ plans) [] len i p d at = absurd (omega arith)
waits-next (q ∷ plans) (g ∷ fates) len zero p d at = let same : q ≡ p = cc in ap (λ r. waits_for r (meant g) ++ waits_in plans fates) same
waits-next (q ∷ plans) (g ∷ fates) len (suc i) p d at =
    let next : suc (i + 1) ≡ suc i + 1 = omega arith in
    waits-next plans fates (omega arith) i p d at
    ∙ ap (λ j. waits_for p (meant (get_or fates i d)) ++ waits_in (drop j (q ∷ plans)) (drop j (g ∷ fates))) next

-- one copy after another waits
pub put-append : (waiting more later : List WaitingCopy) → put_all_waiting waiting (more ++ later) ≡ put_all_waiting (put_all_waiting waiting more) later
put-append waiting [] later = refl
put-append waiting (w ∷ more) later = put-append (put_waiting waiting w) more later

pub length-put_all : (waiting more : List WaitingCopy) → length (put_all_waiting waiting more) ≡ length waiting + length more
length-put_all waiting [] = omega arith
length-put_all waiting (w ∷ more) =
    let rest = length-put_all (put_waiting waiting w) more in
    let put = length-put_waiting w waiting in
    omega arith

pub can-first : (waiting more later : List WaitingCopy) → CanAllWait waiting (more ++ later) → CanAllWait waiting more
can-first waiting [] later can = tt
can-first waiting (w ∷ more) later can = (can.0, can-first (put_waiting waiting w) more later can.1)

pub can-later : (waiting more later : List WaitingCopy) → CanAllWait waiting (more ++ later) → CanAllWait (put_all_waiting waiting more) later
can-later waiting [] later can = can
can-later waiting (w ∷ more) later can = can-later (put_waiting waiting w) more later can.1

-- one more is kept, or is not
pub kept-more : {X Y : Type 0} (test : X → Bool) (g : X → Y) (xs : List X) (i : ℕ) (x : X) → slice_get xs i ≡ Some x
    → map g (filter test (take (i + 1) xs)) ≡ map g (filter test (take i xs)) ++ map g (cond (test x) (x ∷ []) [])
kept-more test g xs i x at =
    ap (λ ys. map g (filter test ys)) (take-next xs i x at) ∙ ap (map g) (filter-append test (take i xs) (x ∷ []))
    ∙ map-append g (filter test (take i xs)) (cond (test x) (x ∷ []) [])

pub kept-next : {X Y : Type 0} (test : X → Bool) (g : X → Y) (xs : List X) (i : ℕ) (x : X) (old new : List Y) → slice_get xs i ≡ Some x → true ≡ test x
    → old ≡ map g (filter test (take i xs)) → new ≡ old ++ g x ∷ [] → new ≡ map g (filter test (take (i + 1) xs))
kept-next test g xs i x old new at passes before now =
    now ∙ (λ k. before k ++ map g (cond (passes k) (x ∷ []) [])) ∙ sym (kept-more test g xs i x at)

pub left-next : {X Y : Type 0} (test : X → Bool) (g : X → Y) (xs : List X) (i : ℕ) (x : X) (old : List Y) → slice_get xs i ≡ Some x → false ≡ test x
    → old ≡ map g (filter test (take i xs)) → old ≡ map g (filter test (take (i + 1) xs))
left-next test g xs i x old at fails before =
    before ∙ sym (append-nil (map g (filter test (take i xs)))) ∙ (λ k. map g (filter test (take i xs)) ++ map g (cond (fails k) (x ∷ []) []))
    ∙ sym (kept-more test g xs i x at)

-- one more fate by the rule
pub fate-next : (rule : Plan → Befalls) (plans : List Plan) (i : ℕ) (p : Plan) (f : Fate) (old new : List Fate) → slice_get plans i ≡ Some p → meant f ≡ rule p
    → map meant old ≡ map rule (take i plans) → new ≡ old ++ f ∷ [] → map meant new ≡ map rule (take (i + 1) plans)
fate-next rule plans i p f old new at its before now =
    ap (map meant) now ∙ map-append meant old (f ∷ []) ∙ (λ k. before k ++ its k ∷ []) ∙ sym (map-append rule (take i plans) (p ∷ []))
    ∙ ap (map rule) (sym (take-next plans i p at))

-- one that passes, and one more that does not
pub any-found : {X : Type 0} (test : X → Bool) (xs : List X) (i : ℕ) (x : X) → slice_get xs i ≡ Some x → true ≡ test x → true ≡ list_any test xs
any-found test [] i x at passes = absurd cc
any-found test (y ∷ xs) zero x at passes = let same : y ≡ x = cc in go (test y) (list_any test xs) (passes ∙ ap test (sym same)) where
  go : (b rest : Bool) → true ≡ b → true ≡ (b || rest)
  go true rest e = refl
  go false rest e = absurd cc
any-found test (y ∷ xs) (suc i) x at passes = go (test y) (list_any test xs) (any-found test xs i x at passes) where
  go : (b rest : Bool) → true ≡ rest → true ≡ (b || rest)
  go true rest e = refl
  go false rest e = e

pub none-next : {X : Type 0} (test : X → Bool) (xs : List X) (i : ℕ) (x : X) → slice_get xs i ≡ Some x → false ≡ test x → list_any test (take i xs) ≡ false → list_any test (take (i + 1) xs) ≡ false
none-next {X} test xs i x at fails none = ap (list_any test) (take-next xs i x at) ∙ go (take i xs) none where
  step : (b : Bool) (rest rest' : Bool) → (b || rest) ≡ false → (rest ≡ false → rest' ≡ false) → (b || rest') ≡ false
  step true rest rest' e later = absurd cc
  step false rest rest' e later = later e

  last : (b : Bool) → false ≡ b → (b || false) ≡ false
  last true e = absurd cc
  last false e = refl

  go : (ys : List X) → list_any test ys ≡ false → list_any test (ys ++ x ∷ []) ≡ false
  go [] e = last (test x) fails
  go (y ∷ ys) e = step (test y) (list_any test ys) (list_any test (ys ++ x ∷ [])) e (go ys)
