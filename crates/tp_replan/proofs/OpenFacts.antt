-- The fates fit, so that the copies that wait after them can wait.
use Rattle.std.proofs.Common.{◌≡◌, ℕ, ◌+◌, ◌<◌, ◌≤◌, Bool, true, false, cond, not, ◌&&◌, List, [], ◌∷◌, ◌++◌, length, map, flat_map, Some, None, IsTrue, Contains, refl, sym, ap, ◌∙◌, arith, subst, count_by, nat_le, slice_index}
use Rattle.std.proofs.lemmas.Bool.Decides.{nat_tests}
use Rattle.std.proofs.lemmas.Option.{get_or_from_slice_get, slice_get_within}
use Rattle.tp_machine.specs.declared.parts.ActId.{ActId}
use Rattle.tp_schedule.specs.Holders.{Run, runs_from}
use Rattle.std.proofs.lemmas.List.{length-map}
use Rattle.std.proofs.lemmas.List.Concat.{flat_map-cons}
use Rattle.std.proofs.lemmas.List.Sums.{sum_by-append}
use Rattle.tp_schedule.specs.Plans.{IsFormed, is_before, is_same_copy, point}
use Rattle.tp_schedule.specs.declared.parts.Plan.{Plan}
use Rattle.tp_schedule.specs.declared.parts.SheetId.{SheetId}
use Rattle.tp_schedule.proofs.Membership.{Contains-here, Contains-later}
use Rattle.tp_jobs.specs.WaitingCopies.{find_waiting, put_waiting}
use Rattle.tp_jobs.specs.declared.parts.WaitingCopy.{WaitingCopy}
use Rattle.tp_event_rules.specs.Fates as fates
use Rattle.tp_event_rules.specs.Fates.{Fate as Befalls, is_cut_by, waits_for}
use Rattle.tp_event_rules.specs.Moments.{is_in_flight, is_started, is_to_tray, is_unstarted, started_count}
use Rattle.tp_event_rules.specs.Seen.{HasStarted}
use Rattle.tp_event_rules.specs.FallBacks.{fate_in_fall_back, is_copy, is_later, is_on_its_way}
use Rattle.tp_event_rules.specs.Lines.{is_same_line}
use Rattle.tp_event_rules.specs.States.{SessionState}
use Rattle.tp_replan.specs.Meanings.{AreCutStarted, CanAllWait, meant, waits_in}
use Rattle.tp_replan.specs.Open.{CanFall, Fits, Group, all_copies, is_in, is_open, is_waiting_after, most_in, open_count, most_waiting, one_sheet}
use Rattle.tp_replan.specs.declared.fate.Fate.{Fate}
use Rattle.tp_replan.proofs.FateFacts.{fate-at, waits-by}

-- a count, one by one
pub count-cons : {X : Type 0} (test : X → Bool) (x : X) (xs : List X) → count_by test (x ∷ xs) ≡ cond (test x) 1 0 + count_by test xs
count-cons test x xs = let both = sum_by-append (λ y. cond (test y) 1 0) (x ∷ []) xs in omega arith

pub one-where : (b : Bool) → b ≡ true → 1 ≤ cond b 1 0
one-where true e = omega arith
one-where false e = absurd cc

pub count-append : {X : Type 0} (test : X → Bool) (xs ys : List X) → count_by test (xs ++ ys) ≡ count_by test xs + count_by test ys
count-append test xs ys = sum_by-append (λ y. cond (test y) 1 0) xs ys

-- how many of the copies are of the group
abbrev pub is_of_sheet : Group → WaitingCopy → Bool
is_of_sheet g w = is_in g w.sheet

abbrev pub of_sheet : Group → List WaitingCopy → ℕ
of_sheet g ws = count_by (is_of_sheet g) ws

pub of_sheet-put : (g : Group) (w : WaitingCopy) (ws : List WaitingCopy) → of_sheet g (put_waiting ws w) ≡ of_sheet g (w ∷ ws)
of_sheet-put g w [] = refl
of_sheet-put g w (v ∷ ws) = go (is_before w.sheet v.sheet) (of_sheet-put g w ws) where
  go : (b : Bool) → of_sheet g (put_waiting ws w) ≡ of_sheet g (w ∷ ws) → of_sheet g (cond b (w ∷ v ∷ ws) (v ∷ put_waiting ws w)) ≡ of_sheet g (w ∷ v ∷ ws)
  go true e = refl
  go false e =
      let a = count-cons (is_of_sheet g) v (put_waiting ws w) in
      let b = count-cons (is_of_sheet g) w ws in
      let d = count-cons (is_of_sheet g) w (v ∷ ws) in
      let f = count-cons (is_of_sheet g) v ws in
      omega arith

same-sheet : (a b : SheetId) → is_same_copy a b ≡ true → is_in (one_sheet b) a ≡ true
same-sheet a b e = grind (arith, nat_tests)

pub own-sheet : (a : SheetId) → is_in (one_sheet a) a ≡ true
own-sheet a = grind (arith, nat_tests)

-- no copy of the sheet waits, so that this one does not
pub none-of : (copy : SheetId) (ws : List WaitingCopy) → of_sheet (one_sheet copy) ws ≡ 0 → find_waiting copy ws ≡ None
none-of copy [] e = refl
none-of copy (w ∷ ws) e =
    go (is_same_copy w.sheet copy) refl (is_in (one_sheet copy) w.sheet) refl (sym (count-cons (is_of_sheet (one_sheet copy)) w ws) ∙ e) (none-of copy ws) where
      go : (b : Bool) → is_same_copy w.sheet copy ≡ b → (d : Bool) → is_in (one_sheet copy) w.sheet ≡ d → cond d 1 0 + of_sheet (one_sheet copy) ws ≡ 0
          → (of_sheet (one_sheet copy) ws ≡ 0 → find_waiting copy ws ≡ None) → cond b (Some w) (find_waiting copy ws) ≡ None
      go true f true g e rest = absurd (omega arith)
      go true f false g e rest = let h = same-sheet w.sheet copy f in absurd cc
      go false f true g e rest = absurd (omega arith)
      go false f false g e rest = rest (omega arith)

pub can-all : (waiting more : List WaitingCopy) → ((g : Group) → of_sheet g waiting + of_sheet g more ≤ most_in g) → CanAllWait waiting more
can-all waiting [] few = tt
can-all waiting (w ∷ more) few = (none-of w.sheet waiting none, can-all (put_waiting waiting w) more moved) where
  none : of_sheet (one_sheet w.sheet) waiting ≡ 0
  none =
      let at_most : of_sheet (one_sheet w.sheet) waiting + of_sheet (one_sheet w.sheet) (w ∷ more) ≤ 1 = few (one_sheet w.sheet) in
      let both = count-cons (is_of_sheet (one_sheet w.sheet)) w more in
      let own = one-where (is_of_sheet (one_sheet w.sheet) w) (own-sheet w.sheet) in
      omega arith

  moved : (g : Group) → of_sheet g (put_waiting waiting w) + of_sheet g more ≤ most_in g
  moved g =
      let at_most = few g in
      let put = of_sheet-put g w waiting in
      let first = count-cons (is_of_sheet g) w waiting in
      let both = count-cons (is_of_sheet g) w more in
      omega arith

-- the copies that wait after the fates are those of open ones
abbrev pub is_open_of : SessionState → Group → Plan → Bool
is_open_of s g p = is_open s p && is_in g p.sheet

opened : (a b : Bool) {n : ℕ} → a ≡ true → n ≤ cond b 1 0 → n ≤ cond (a && b) 1 0
opened true b e h = h
opened false b e h = absurd cc

waits-few : (s : SessionState) (g : Group) (p : Plan) (f : Befalls) → (IsTrue (is_waiting_after f) → IsTrue (is_open s p))
    → of_sheet g (waits_for p f) ≤ cond (is_open_of s g p) 1 0
waits-few s g p fates.stays opens = omega arith
waits-few s g p fates.lost opens = omega arith
waits-few s g p fates.withdrawn opens = opened (is_open s p) (is_in g p.sheet) (opens refl) (omega arith)
waits-few s g p fates.cut opens = omega arith
waits-few s g p fates.purged opens = omega arith
waits-few s g p fates.replaced opens = opened (is_open s p) (is_in g p.sheet) (opens refl) (omega arith)
waits-few s g p fates.dropped opens = omega arith

all-waits-few : (s : SessionState) (g : Group) (rule : Plan → Befalls) (plans : List Plan) → ((p : Plan) → Contains plans p → Fits s p (rule p))
    → of_sheet g (flat_map (λ p. waits_for p (rule p)) plans) ≤ count_by (is_open_of s g) plans
all-waits-few s g rule [] fits = omega arith
all-waits-few s g rule (p ∷ plans) fits =
    let here = waits-few s g p (rule p) (fits p (Contains-here p plans)).opens in
    let later = all-waits-few s g rule plans (λ q in'. fits q (Contains-later p plans q in')) in
    let waits = ap (of_sheet g) (flat_map-cons (λ q. waits_for q (rule q)) p plans)
    ∙ count-append (is_of_sheet g) (waits_for p (rule p)) (flat_map (λ q. waits_for q (rule q)) plans) in
    let open' = count-cons (is_open_of s g) p plans in
    omega arith

pub can-wait : (s : SessionState) (pending : List SheetId) (rule : Plan → Befalls) (fates : List Fate) → CanFall s pending → ((p : Plan) → Contains s.plans p → Fits s p (rule p))
    → map meant fates ≡ map rule s.plans → CanAllWait s.waiting (waits_in s.plans fates)
can-wait s pending rule fates can fits e =
    can-all s.waiting (waits_in s.plans fates) (λ g.
    let few = all-waits-few s g rule s.plans fits in
    let same = ap (of_sheet g) (waits-by rule s.plans fates e) in
    let opens : open_count g s pending ≤ most_in g = can.few g in
    omega arith)

-- all copies that wait
pub count-every : (ws : List WaitingCopy) → of_sheet all_copies ws ≡ length ws
count-every [] = refl
count-every (w ∷ ws) =
    let rest = count-every ws in
    let first = count-cons (is_of_sheet all_copies) w ws in
    omega arith

-- with those that wait after the fates one more can wait
pub can-room : (s : SessionState) (pending : List SheetId) (rule : Plan → Befalls) (fates : List Fate) → CanFall s pending → ((p : Plan) → Contains s.plans p → Fits s p (rule p))
    → map meant fates ≡ map rule s.plans → length s.waiting + length (waits_in s.plans fates) ≤ most_waiting
can-room s pending rule fates can fits e =
    let few = all-waits-few s all_copies rule s.plans fits in
    let same = ap (of_sheet all_copies) (waits-by rule s.plans fates e) in
    let all : open_count all_copies s pending ≤ most_waiting = can.few all_copies in
    let here = count-every s.waiting in
    let more = count-every (waits_in s.plans fates) in
    omega arith

-- a plan whose first action has started
first-started : (now : ℕ) (sheet : SheetId) (n : ℕ) (acts : List ActId) (points : List ℕ) → 0 < length acts → length points ≡ length acts + 1 → slice_index points 0 ≤ now
    → 1 ≤ count_by (is_started now) (runs_from sheet n acts points)
first-started now sheet n [] points some len low = absurd (omega arith)
first-started now sheet n (a ∷ acts) [] some len low = absurd (omega arith)
first-started now sheet n (a ∷ acts) (start ∷ []) some len low = absurd (omega arith)
first-started now sheet n (a ∷ acts) (start ∷ end ∷ points) some len low =
    let here : nat_le start now ≡ true = grind (arith, nat_tests) in
    let run : Run = record { sheet = sheet; number = n; act = a; start = start; end = end } in
    let first = count-cons (is_started now) run (runs_from sheet (n + 1) acts (end ∷ points)) in
    let one = one-where (is_started now run) here in
    omega arith

pub started-some : (now : ℕ) (p : Plan) → IsFormed p → is_unstarted now p ≡ false → 1 ≤ started_count now p
started-some now p formed e = first-started now p.sheet 1 p.acts p.points formed.some formed.one_more (grind (arith, nat_tests))

-- an unstarted plan goes to a tray
pub unstarted-to_tray : (now : ℕ) (p : Plan) → HasStarted now p → is_unstarted now p ≡ true → is_to_tray p.goal ≡ true
unstarted-to_tray now p purges e = go (is_to_tray p.goal) refl where
  go : (b : Bool) → is_to_tray p.goal ≡ b → b ≡ true
  go true f = refl
  go false f = let low : point p 0 ≤ now = purges f in let high : now < point p 0 = grind (arith, nat_tests) in absurd (omega arith)

pub and-first : (a b : Bool) → (a && b) ≡ true → a ≡ true
and-first true b e = refl
and-first false b e = absurd cc

pub and-second : (a b : Bool) → (a && b) ≡ true → b ≡ true
and-second true b e = e
and-second false b e = absurd cc

pub and-third : (a b d : Bool) → (a && b && d) ≡ true → d ≡ true
and-third true true d e = e
and-third true false d e = absurd cc
and-third false b d e = absurd cc

pub and-both : (a b : Bool) → a ≡ true → b ≡ true → (a && b) ≡ true
and-both true b e f = f
and-both false b e f = absurd cc

pub stays-fits : (s : SessionState) (p : Plan) → Fits s p fates.stays
stays-fits s p = record { started = λ h. absurd cc; opens = λ h. absurd cc }

pub fall_back-fits : (s : SessionState) (copy : SheetId) (p : Plan) → IsFormed p → HasStarted s.now p → Fits s p (fate_in_fall_back s copy p)
fall_back-fits s copy p formed purges = go (is_later s copy p) refl (is_unstarted s.now p) refl (is_on_its_way s.now p) refl where
  is-copy : is_later s copy p ≡ true → is_copy s p ≡ true
  is-copy e = and-third (is_before copy p.sheet) (is_same_line s.jobs copy p.sheet) (is_copy s p) e

  go : (a : Bool) → is_later s copy p ≡ a → (b : Bool) → is_unstarted s.now p ≡ b → (d : Bool) → is_on_its_way s.now p ≡ d
      → Fits s p (cond (not a) fates.stays (cond b fates.withdrawn (cond d fates.replaced fates.stays)))
  go false e b f d g = stays-fits s p
  go true e true f d g = record {
    started = λ h. absurd cc;
    opens = λ h. and-both (is_copy s p) (is_to_tray p.goal) (is-copy e) (unstarted-to_tray s.now p purges f);
  }
  go true e false f true g = record {
    started = λ h. started-some s.now p formed f;
    opens = λ h. and-both (is_copy s p) (is_to_tray p.goal) (is-copy e) (and-second (is_in_flight s.now p) (is_to_tray p.goal) g);
  }
  go true e false f false g = stays-fits s p

-- what is cut has started
pub cut-started : (s : SessionState) (rule : Plan → Befalls) (fates : List Fate) → ((p : Plan) → Contains s.plans p → Fits s p (rule p))
    → map meant fates ≡ map rule s.plans → AreCutStarted s.now s.plans fates
cut-started s rule fates fits e = λ i p f at its cut.
    let same : meant f ≡ rule p = ap meant (sym (get_or_from_slice_get fates i f f its)) ∙ fate-at rule s.plans fates e i p f at in
    (fits p (i, slice_get_within s.plans i p at, get_or_from_slice_get s.plans i p p at)).started (subst (λ g. IsTrue (is_cut_by g)) same cut)

pub one-each : (rule : Plan → Befalls) (plans : List Plan) (fates : List Fate) → map meant fates ≡ map rule plans → length fates ≡ length plans
one-each rule plans fates e = let both = ap length e in simp length-map at both
