-- Copies that waited and plans, side by side in the order of copies.
use Rattle.std.proofs.Common.{◌≡◌, ℕ, zero, suc, ◌+◌, ◌<◌, ◌≤◌, Bool, true, false, cond, not, List, [], ◌∷◌, ◌++◌, length, map, flat_map, drop, slice_get, Some, All, AllPairs, refl, sym, ap, ◌∙◌, arith, append_assoc, subst}
use Rattle.std.proofs.lemmas.List.Concat.{flat_map-cons}
use Rattle.std.proofs.lemmas.List.Elements.{All-append, All-nil, All-cons, All-head, All-tail, All-weaker, All-map}
use Rattle.tp_schedule.specs.Plans.{IsEarlier, is_before}
use Rattle.tp_schedule.specs.declared.parts.Plan.{Plan}
use Rattle.tp_schedule.specs.declared.parts.SheetId.{SheetId}
use Rattle.tp_schedule.proofs.CopyFacts.{before-asym, before-trans}
use Rattle.tp_schedule.proofs.Pairs.{AllPairs-head, AllPairs-tail}
use Rattle.std.proofs.lemmas.Bool.Decides.{nat_tests}
use Rattle.std.proofs.lemmas.List.{length-drop}
use Rattle.tp_jobs.specs.declared.parts.Job.{Job}
use Rattle.tp_schedule.specs.declared.records.Record.{Record}
use Rattle.tp_schedule.specs.declared.records.Record.TheVariants.{Drop}
use Rattle.tp_event_rules.specs.Fates.{Fate as Befalls, told_of}
use Rattle.tp_event_rules.specs.Labels.{label}
use Rattle.tp_replan.specs.Meanings.{StandsBefore, is_copy_next, notice_of_copy, notice_of_plan, told_by_copy}
use Rattle.tp_replan.proofs.LeftFacts.{drop_from}
use Rattle.tp_event_rules.specs.FallBacks.{Notice, by_copy, put_notice}

-- a notice goes first that none of the others stands before
put-first : (n : Notice) (ns : List Notice) → All (λ m. is_before m.sheet n.sheet ≡ false) ns → put_notice n ns ≡ n ∷ ns
put-first n [] all = refl
put-first n (m ∷ ns) all = go (is_before m.sheet n.sheet) (All-head (λ m. is_before m.sheet n.sheet ≡ false) m ns all) where
  go : (b : Bool) → b ≡ false → cond b (m ∷ put_notice n ns) (n ∷ m ∷ ns) ≡ n ∷ m ∷ ns
  go true e = absurd cc
  go false e = refl

All-put : (P : Notice → Type 0) (n : Notice) (ns : List Notice) → P n → All P ns → All P (put_notice n ns)
All-put P n [] h all = All-cons P n [] h all
All-put P n (m ∷ ns) h all = go (is_before m.sheet n.sheet) (All-put P n ns h (All-tail P m ns all)) where
  go : (b : Bool) → All P (put_notice n ns) → All P (cond b (m ∷ put_notice n ns) (n ∷ m ∷ ns))
  go true rest = All-cons P m (put_notice n ns) (All-head P m ns all) rest
  go false rest = All-cons P n (m ∷ ns) h all

All-by_copy : (P : Notice → Type 0) (ns : List Notice) → All P ns → All P (by_copy ns)
All-by_copy P [] all = all
All-by_copy P (n ∷ ns) all = All-put P n (by_copy ns) (All-head P n ns all) (All-by_copy P ns (All-tail P n ns all))

first-told : (n : Notice) (ns : List Notice) → All (λ m. is_before m.sheet n.sheet ≡ false) ns → by_copy (n ∷ ns) ≡ n ∷ by_copy ns
first-told n ns all = put-first n (by_copy ns) (All-by_copy (λ m. is_before m.sheet n.sheet ≡ false) ns all)

-- one that stands before the first ones, and that none of the later ones stands before
between-told : (q : Notice) (ns later : List Notice) → All (λ m. is_before q.sheet m.sheet ≡ true) ns → All (λ m. is_before m.sheet q.sheet ≡ false) later
    → by_copy (ns ++ q ∷ later) ≡ q ∷ by_copy (ns ++ later)
between-told q [] later all behind = first-told q later behind
between-told q (n ∷ ns) later all behind =
    ap (put_notice n) (between-told q ns later (All-tail (λ m. is_before q.sheet m.sheet ≡ true) n ns all) behind)
    ∙ go (is_before q.sheet n.sheet) (All-head (λ m. is_before q.sheet m.sheet ≡ true) n ns all) where
      go : (b : Bool) → b ≡ true → cond b (q ∷ put_notice n (by_copy (ns ++ later))) (n ∷ q ∷ by_copy (ns ++ later)) ≡ q ∷ put_notice n (by_copy (ns ++ later))
      go true e = refl
      go false e = absurd cc

not-before : (q r c : SheetId) → is_before q r ≡ true → is_before q c ≡ false → is_before r c ≡ false
not-before q r c e f = grind (arith, nat_tests)

not-true : (b : Bool) → not b ≡ true → b ≡ false
not-true true e = absurd cc
not-true false e = refl

not-false : (b : Bool) → not b ≡ false → b ≡ true
not-false true e = refl
not-false false e = absurd cc

-- none of the plans stands before the copy that is next
plans-behind : (jobs : List Job) (now : ℕ) (rule : Plan → Befalls) (copy : SheetId) (copies : List SheetId) (plans : List Plan) → AllPairs IsEarlier plans → is_copy_next (copy ∷ copies) plans ≡ true
    → All (λ m. is_before m.sheet copy ≡ false) (map (notice_of_plan jobs now rule) plans)
plans-behind jobs now rule copy copies [] in_order e = All-nil (λ m. is_before m.sheet copy ≡ false)
plans-behind jobs now rule copy copies (q ∷ plans) in_order e =
    let first = not-true (is_before q.sheet copy) e in
    All-cons (λ m. is_before m.sheet copy ≡ false) (notice_of_plan jobs now rule q) (map (notice_of_plan jobs now rule) plans) first
    (All-map (λ m. is_before m.sheet copy ≡ false) (notice_of_plan jobs now rule) plans
    (All-weaker (IsEarlier q) (λ r. is_before r.sheet copy ≡ false) (λ r h. not-before q.sheet r.sheet copy h first) plans (AllPairs-head IsEarlier q plans in_order)))

-- the plan that is next stands before the copies
copies-behind : (jobs : List Job) (p : Plan) (copies : List SheetId) (plans : List Plan) → AllPairs StandsBefore copies → is_copy_next copies (p ∷ plans) ≡ false
    → All (λ m. is_before p.sheet m.sheet ≡ true) (map (notice_of_copy jobs) copies)
copies-behind jobs p [] plans in_order e = All-nil (λ m. is_before p.sheet m.sheet ≡ true)
copies-behind jobs p (copy ∷ copies) plans in_order e =
    let first = not-false (is_before p.sheet copy) e in
    All-cons (λ m. is_before p.sheet m.sheet ≡ true) (notice_of_copy jobs copy) (map (notice_of_copy jobs) copies) first
    (All-map (λ m. is_before p.sheet m.sheet ≡ true) (notice_of_copy jobs) copies
    (All-weaker (StandsBefore copy) (λ other. is_before p.sheet other ≡ true) (λ other h. before-trans p.sheet copy other first h) copies (AllPairs-head StandsBefore copy copies in_order)))

pub copy-told : (jobs : List Job) (now : ℕ) (rule : Plan → Befalls) (copy : SheetId) (copies : List SheetId) (plans : List Plan) → AllPairs StandsBefore (copy ∷ copies) → AllPairs IsEarlier plans
    → is_copy_next (copy ∷ copies) plans ≡ true → told_by_copy jobs now rule (copy ∷ copies) plans ≡ (Drop (label jobs copy) ∷ []) ++ told_by_copy jobs now rule copies plans
copy-told jobs now rule copy copies plans in_order earlier e =
    let behind = All-map (λ m. is_before m.sheet copy ≡ false) (notice_of_copy jobs) copies
    (All-weaker (StandsBefore copy) (λ other. is_before other copy ≡ false) (λ other h. before-asym copy other h) copies (AllPairs-head StandsBefore copy copies in_order)) in
    let ns = map (notice_of_copy jobs) copies ++ map (notice_of_plan jobs now rule) plans in
    ap (flat_map (λ n. n.records)) (first-told (notice_of_copy jobs copy) ns (All-append (λ m. is_before m.sheet copy ≡ false) (map (notice_of_copy jobs) copies) (map (notice_of_plan jobs now rule) plans)
    behind (plans-behind jobs now rule copy copies plans earlier e)))
    ∙ flat_map-cons (λ n. n.records) (notice_of_copy jobs copy) (by_copy ns)

pub plan-told : (jobs : List Job) (now : ℕ) (rule : Plan → Befalls) (p : Plan) (copies : List SheetId) (plans : List Plan) → AllPairs StandsBefore copies → AllPairs IsEarlier (p ∷ plans)
    → is_copy_next copies (p ∷ plans) ≡ false → told_by_copy jobs now rule copies (p ∷ plans) ≡ told_of jobs now p (rule p) ++ told_by_copy jobs now rule copies plans
plan-told jobs now rule p copies plans in_order earlier e =
    let ns = map (notice_of_copy jobs) copies in
    let later = map (notice_of_plan jobs now rule) plans in
    let behind = All-map (λ m. is_before m.sheet p.sheet ≡ false) (notice_of_plan jobs now rule) plans
    (All-weaker (IsEarlier p) (λ r. is_before r.sheet p.sheet ≡ false) (λ r h. before-asym p.sheet r.sheet h) plans (AllPairs-head IsEarlier p plans earlier)) in
    ap (flat_map (λ n. n.records)) (between-told (notice_of_plan jobs now rule p) ns later (copies-behind jobs p copies plans in_order e) behind)
    ∙ flat_map-cons (λ n. n.records) (notice_of_plan jobs now rule p) (by_copy (ns ++ later))

-- from a place on
pub AllPairs-drop : {X : Type 0} (R : X → X → Type 0) (xs : List X) (n : ℕ) → AllPairs R xs → AllPairs R (drop n xs)
AllPairs-drop R xs zero pairs = pairs
AllPairs-drop R [] (suc n) pairs = pairs
AllPairs-drop R (x ∷ xs) (suc n) pairs = AllPairs-drop R xs n (AllPairs-tail R x xs pairs)

pub copy-there : (copies : List SheetId) (plans : List Plan) (n : ℕ) → true ≡ is_copy_next (drop n copies) plans → n < length copies
copy-there copies plans n e = go (drop n copies) refl e where
  go : (cs : List SheetId) → drop n copies ≡ cs → true ≡ is_copy_next cs plans → n < length copies
  go [] f g = absurd cc
  go (c ∷ cs) f g = let some = ap length f in let len = length-drop n copies in omega arith

pub plan-there : (copies : List SheetId) (plans : List Plan) (n a : ℕ) → false ≡ is_copy_next (drop n copies) (drop a plans) → n ≤ length copies → n + a < length copies + length plans → a < length plans
plan-there copies plans n a e low few = go (drop n copies) refl (drop a plans) refl e where
  go : (cs : List SheetId) → drop n copies ≡ cs → (ps : List Plan) → drop a plans ≡ ps → false ≡ is_copy_next cs ps → a < length plans
  go [] f ps g h = let none = ap length f in let len = length-drop n copies in omega arith
  go (c ∷ cs) f [] g h = absurd cc
  go (c ∷ cs) f (p ∷ ps) g h = let some = ap length g in let len = length-drop a plans in omega arith

pub none-left : {X : Type 0} (xs : List X) (n : ℕ) → length xs ≤ n → drop n xs ≡ []
none-left [] zero low = refl
none-left [] (suc n) low = refl
none-left (x ∷ xs) zero low = absurd (omega arith)
none-left (x ∷ xs) (suc n) low = none-left xs n (omega arith)

-- one step of telling
told-on : {X : Type 0} (old mid here rest all : List X) (from : List X) → mid ≡ old ++ here → from ≡ here ++ rest → old ++ from ≡ all → mid ++ rest ≡ all
told-on old mid here rest all from now split before =
    ap (λ notes. notes ++ rest) now ∙ append_assoc old here rest ∙ ap (λ more. old ++ more) (sym split) ∙ before

pub copy-told-at : (jobs : List Job) (now : ℕ) (rule : Plan → Befalls) (copies : List SheetId) (plans : List Plan) (n a : ℕ) (copy : SheetId) (old mid all : List Record)
    → AllPairs StandsBefore copies → AllPairs IsEarlier plans → slice_get copies n ≡ Some copy → true ≡ is_copy_next (drop n copies) (drop a plans)
    → mid ≡ old ++ Drop (label jobs copy) ∷ [] → old ++ told_by_copy jobs now rule (drop n copies) (drop a plans) ≡ all
    → mid ++ told_by_copy jobs now rule (drop (n + 1) copies) (drop a plans) ≡ all
copy-told-at jobs now rule copies plans n a copy old mid all in_order earlier at next now' before =
    let here = drop_from copies n copy at in
    told-on old mid (Drop (label jobs copy) ∷ []) (told_by_copy jobs now rule (drop (n + 1) copies) (drop a plans)) all (told_by_copy jobs now rule (drop n copies) (drop a plans)) now'
    (ap (λ cs. told_by_copy jobs now rule cs (drop a plans)) here
    ∙ copy-told jobs now rule copy (drop (n + 1) copies) (drop a plans) (subst (AllPairs StandsBefore) here (AllPairs-drop StandsBefore copies n in_order)) (AllPairs-drop IsEarlier plans a earlier)
    (sym (next ∙ ap (λ cs. is_copy_next cs (drop a plans)) here)))
    before

pub plan-told-at : (jobs : List Job) (now : ℕ) (rule : Plan → Befalls) (copies : List SheetId) (plans : List Plan) (n a : ℕ) (p : Plan) (old mid all : List Record)
    → AllPairs StandsBefore copies → AllPairs IsEarlier plans → slice_get plans a ≡ Some p → false ≡ is_copy_next (drop n copies) (drop a plans)
    → mid ≡ old ++ told_of jobs now p (rule p) → old ++ told_by_copy jobs now rule (drop n copies) (drop a plans) ≡ all
    → mid ++ told_by_copy jobs now rule (drop n copies) (drop (a + 1) plans) ≡ all
plan-told-at jobs now rule copies plans n a p old mid all in_order earlier at next now' before =
    let here = drop_from plans a p at in
    told-on old mid (told_of jobs now p (rule p)) (told_by_copy jobs now rule (drop n copies) (drop (a + 1) plans)) all (told_by_copy jobs now rule (drop n copies) (drop a plans)) now'
    (ap (told_by_copy jobs now rule (drop n copies)) here
    ∙ plan-told jobs now rule p (drop n copies) (drop (a + 1) plans) (AllPairs-drop StandsBefore copies n in_order) (subst (AllPairs IsEarlier) here (AllPairs-drop IsEarlier plans a earlier))
    (sym (next ∙ ap (is_copy_next (drop n copies)) here)))
    before
