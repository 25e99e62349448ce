-- What befalls the copies leaves a state where the displaced ones can fall back.
use Rattle.std.proofs.Common.{◌≡◌, ℕ, ◌+◌, ◌≤◌, Bool, true, false, cond, not, ◌&&◌, ◌||◌, List, [], ◌∷◌, ◌++◌, length, map, filter, flat_map, take, IsTrue, All, Contains, refl, sym, ap, ◌∙◌, arith, subst, count_by, inl, inr}
use Rattle.std.specs.List.{list_any}
use Rattle.std.proofs.lemmas.List.{get_or-take, length-take-le}
use Rattle.std.proofs.lemmas.List.Concat.{flat_map-cons}
use Rattle.std.proofs.lemmas.List.Elements.{All-append, All-nil, All-cons, All-contains}
use Rattle.std.proofs.lemmas.List.Sums.{count_by-le-length}
use Rattle.tp_schedule.specs.Holders.{runs_of}
use Rattle.tp_schedule.specs.Plans.{IsFormed, is_same_copy, point}
use Rattle.tp_schedule.specs.declared.parts.Plan.{Plan}
use Rattle.tp_schedule.specs.declared.parts.SheetId.{SheetId}
use Rattle.tp_schedule.proofs.CopyFacts.{same_copy-refl}
use Rattle.tp_schedule.proofs.Membership.{Contains-cons_cases, Contains-here, Contains-later}
use Rattle.tp_jobs.specs.Backlogs.{next_copy}
use Rattle.tp_jobs.specs.WaitingCopies.{put_waiting}
use Rattle.tp_jobs.specs.declared.parts.WaitingCopy.{WaitingCopy}
use Rattle.tp_event_rules.specs.Fates as fates
use Rattle.tp_event_rules.specs.Fates.{Fate as Befalls, befall, is_cut_by, is_loss, left_by, left_of, to_purge, waits_for}
use Rattle.tp_event_rules.specs.Lines.{is_lost, put_all_waiting}
use Rattle.tp_event_rules.specs.Moments.{front_of, is_started, is_to_tray, started_count}
use Rattle.tp_event_rules.specs.Seen.{HasNextCopy, HasStarted}
use Rattle.tp_event_rules.specs.States.{SessionState}
use Rattle.tp_event_rules.proofs.CutPlans.{length-runs_from}
use Rattle.tp_replan.specs.Meanings.{IsKnown}
use Rattle.tp_replan.specs.Open.{CanFall, Fits, Group, is_in, is_open, is_waiting_after}
use Rattle.tp_replan.proofs.OpenFacts.{count-append, count-cons, is_of_sheet, is_open_of, of_sheet, of_sheet-put}

-- whether the copy is to be purged from now on
abbrev pub is_purged_by : Befalls → Bool
is_purged_by fates.stays = false
is_purged_by fates.lost = false
is_purged_by fates.withdrawn = false
is_purged_by fates.cut = false
is_purged_by fates.purged = true
is_purged_by fates.replaced = true
is_purged_by fates.dropped = false

-- what comes of each plan is counted with it
pub befall-count : {C : Type 0} (now : ℕ) (rule : Plan → Befalls) (gives : Plan → List C) (after : Plan → Bool) (wait : WaitingCopy → Bool) (pend : C → Bool) (before : Plan → Bool) (plans : List Plan)
    → ((p : Plan) → Contains plans p → count_by after (left_of now p (rule p)) + (count_by wait (waits_for p (rule p)) + count_by pend (gives p)) ≤ cond (before p) 1 0)
    → count_by after (left_by rule now plans) + (count_by wait (flat_map (λ p. waits_for p (rule p)) plans) + count_by pend (flat_map gives plans)) ≤ count_by before plans
befall-count now rule gives after wait pend before [] each = omega arith
befall-count now rule gives after wait pend before (p ∷ plans) each =
    let here = each p (Contains-here p plans) in
    let rest = befall-count now rule gives after wait pend before plans (λ q in'. each q (Contains-later p plans q in')) in
    let lefts = ap (count_by after) (flat_map-cons (λ q. left_of now q (rule q)) p plans) ∙ count-append after (left_of now p (rule p)) (left_by rule now plans) in
    let waits = ap (count_by wait) (flat_map-cons (λ q. waits_for q (rule q)) p plans) ∙ count-append wait (waits_for p (rule p)) (flat_map (λ q. waits_for q (rule q)) plans) in
    let given = ap (count_by pend) (flat_map-cons gives p plans) ∙ count-append pend (gives p) (flat_map gives plans) in
    let all = count-cons before p plans in
    omega arith

-- a copy that was lost before, or is now, is lost after
pub lost-among : (test : Plan → Bool) (plans : List Plan) (p : Plan) → Contains plans p → test p ≡ true → list_any (is_same_copy p.sheet) (map (λ q. q.sheet) (filter test plans)) ≡ true
lost-among test [] p in' e = absurd (omega (arith, in'.1))
lost-among test (q ∷ plans) p in' e = elim (Contains-cons_cases q plans p in') [
  | inl same ↦ first (test q) (ap test same ∙ e) (ap (λ (r : Plan). r.sheet) same)
  | inr later ↦ more (test q) (lost-among test plans p later e)
] where
  first : (b : Bool) → b ≡ true → q.sheet ≡ p.sheet → list_any (is_same_copy p.sheet) (map (λ q. q.sheet) (cond b (q ∷ filter test plans) (filter test plans))) ≡ true
  first true f same = let own : is_same_copy p.sheet q.sheet ≡ true = ap (is_same_copy p.sheet) same ∙ same_copy-refl p.sheet in rw own refl
  first false f same = absurd cc

  either : (a b : Bool) → b ≡ true → (a || b) ≡ true
  either true b f = refl
  either false b f = f

  more : (b : Bool) → list_any (is_same_copy p.sheet) (map (λ q. q.sheet) (filter test plans)) ≡ true
      → list_any (is_same_copy p.sheet) (map (λ q. q.sheet) (cond b (q ∷ filter test plans) (filter test plans))) ≡ true
  more true f = either (is_same_copy p.sheet q.sheet) _ f
  more false f = f

or-left : (a b : Bool) → a ≡ true → (a || b) ≡ true
or-left true b e = refl
or-left false b e = absurd cc

or-right : (a b : Bool) → b ≡ true → (a || b) ≡ true
or-right true b e = refl
or-right false b e = e

pub still-lost : (s : SessionState) (rule : Plan → Befalls) (p : Plan) → Contains s.plans p → is_lost s p ≡ true → is_lost (befall rule s) p ≡ true
still-lost s rule p in' e = lost-among (λ q. is_lost s q || is_loss (rule q)) s.plans p in' (or-left (is_lost s p) (is_loss (rule p)) e)

pub now-lost : (s : SessionState) (rule : Plan → Befalls) (p : Plan) → Contains s.plans p → is_loss (rule p) ≡ true → is_lost (befall rule s) p ≡ true
now-lost s rule p in' e = lost-among (λ q. is_lost s q || is_loss (rule q)) s.plans p in' (or-right (is_lost s p) (is_loss (rule p)) e)

-- of one plan: where it, or what is left of it, is open after, or its sheet waits or is to wait, it was open before
less-open : (lost lost' to cp : Bool) → (lost ≡ true → lost' ≡ true) → cond ((not lost' && to) && cp) 1 0 ≤ cond ((not lost && to) && cp) 1 0
less-open true true to cp h = omega arith
less-open true false to cp h = absurd (let e = h refl in cc)
less-open false true to cp h = go to cp where
  go : (a b : Bool) → 0 ≤ cond (a && b) 1 0
  go a b = omega arith
less-open false false to cp h = omega arith

none-open : (lost to cp : Bool) → lost ≡ true → cond {A = ℕ} ((not lost && to) && cp) 1 0 ≡ 0
none-open true to cp e = refl
none-open false to cp e = absurd cc

none-purged : (lost cp : Bool) → cond {A = ℕ} ((not lost && false) && cp) 1 0 ≡ 0
none-purged true cp = refl
none-purged false cp = refl

was-open : (a cp : Bool) → a ≡ true → cond cp 1 0 ≤ cond (a && cp) 1 0
was-open true cp e = omega arith
was-open false cp e = absurd cc

once-of : (s : SessionState) (rule : Plan → Befalls) (gives : List SheetId) (g : Group) (p : Plan) → Contains s.plans p
    → (IsTrue (is_waiting_after (rule p)) → IsTrue (is_open s p)) → count_by (is_in g) gives ≤ cond (is_loss (rule p) && is_open_of s g p) 1 0
    → count_by (is_open_of (befall rule s) g) (left_of s.now p (rule p)) + (of_sheet g (waits_for p (rule p)) + count_by (is_in g) gives) ≤ cond (is_open_of s g p) 1 0
once-of s rule gives g p in' opens few = go (rule p) refl opens few where
  t : SessionState
  t = befall rule s

  cp : Bool
  cp = is_in g p.sheet

  go : (f : Befalls) → rule p ≡ f → (IsTrue (is_waiting_after f) → IsTrue (is_open s p)) → count_by (is_in g) gives ≤ cond (is_loss f && is_open_of s g p) 1 0
      → count_by (is_open_of t g) (left_of s.now p f) + (of_sheet g (waits_for p f) + count_by (is_in g) gives) ≤ cond (is_open_of s g p) 1 0
  go fates.stays e opens few =
      let one = count-cons (is_open_of t g) p [] in
      let less = less-open (is_lost s p) (is_lost t p) (is_to_tray p.goal) cp (still-lost s rule p in') in
      omega arith
  go fates.lost e opens few =
      let one = count-cons (is_open_of t g) (front_of s.now p) [] in
      let none = none-open (is_lost t p) (is_to_tray p.goal) cp (now-lost s rule p in' (ap is_loss e)) in
      omega arith
  go fates.withdrawn e opens few =
      let one = count-cons (is_of_sheet g) (record { sheet = p.sheet; want = p.want }) [] in
      let less = was-open (is_open s p) cp (opens refl) in
      omega arith
  go fates.cut e opens few =
      let one = count-cons (is_open_of t g) (front_of s.now p) [] in
      let less = less-open (is_lost s p) (is_lost t p) (is_to_tray p.goal) cp (still-lost s rule p in') in
      omega arith
  go fates.purged e opens few =
      let one = count-cons (is_open_of t g) (to_purge (front_of s.now p)) [] in
      let none = none-purged (is_lost t p) cp in
      omega arith
  go fates.replaced e opens few =
      let one = count-cons (is_open_of t g) (to_purge (front_of s.now p)) [] in
      let none = none-purged (is_lost t p) cp in
      let wait = count-cons (is_of_sheet g) (record { sheet = next_copy p.sheet; want = p.want }) [] in
      let less = was-open (is_open s p) cp (opens refl) in
      omega arith
  go fates.dropped e opens few = omega arith

-- what holds of each plan that is left
each-left : (Q : Plan → Type 0) (now : ℕ) (p : Plan) (f : Befalls) → Q p → (IsTrue (is_cut_by f) → Q (front_of now p)) → (IsTrue (is_purged_by f) → Q (to_purge (front_of now p))) → All Q (left_of now p f)
each-left Q now p fates.stays same cut purged = All-cons Q p [] same (All-nil Q)
each-left Q now p fates.lost same cut purged = All-cons Q (front_of now p) [] (cut refl) (All-nil Q)
each-left Q now p fates.withdrawn same cut purged = All-nil Q
each-left Q now p fates.cut same cut purged = All-cons Q (front_of now p) [] (cut refl) (All-nil Q)
each-left Q now p fates.purged same cut purged = All-cons Q (to_purge (front_of now p)) [] (purged refl) (All-nil Q)
each-left Q now p fates.replaced same cut purged = All-cons Q (to_purge (front_of now p)) [] (purged refl) (All-nil Q)
each-left Q now p fates.dropped same cut purged = All-nil Q

pub all-left : (Q : Plan → Type 0) (now : ℕ) (rule : Plan → Befalls) (plans : List Plan)
    → ((p : Plan) → Contains plans p → Q p) → ((p : Plan) → Contains plans p → IsTrue (is_cut_by (rule p)) → Q (front_of now p)) → ((p : Plan) → Contains plans p → IsTrue (is_purged_by (rule p)) → Q (to_purge (front_of now p)))
    → All Q (left_by rule now plans)
all-left Q now rule [] same cut purged = All-nil Q
all-left Q now rule (p ∷ plans) same cut purged =
    subst (All Q) (sym (flat_map-cons (λ q. left_of now q (rule q)) p plans))
    (All-append Q (left_of now p (rule p)) (left_by rule now plans)
    (each-left Q now p (rule p) (same p (Contains-here p plans)) (cut p (Contains-here p plans)) (purged p (Contains-here p plans)))
    (all-left Q now rule plans (λ q in'. same q (Contains-later p plans q in')) (λ q in'. cut q (Contains-later p plans q in')) (λ q in'. purged q (Contains-later p plans q in'))))

pub first-stays : (now : ℕ) (p : Plan) → point (front_of now p) 0 ≡ point p 0
first-stays now p = get_or-take (started_count now p + 1) p.points 0 0 (omega arith)

started-within : (now : ℕ) (p : Plan) → IsFormed p → started_count now p ≤ length p.acts
started-within now p formed =
    let runs = length-runs_from p.sheet 1 p.acts p.points formed.one_more in
    let most = count_by-le-length (is_started now) (runs_of p) in
    omega arith

formed-front : (now : ℕ) (p : Plan) → IsFormed p → 1 ≤ started_count now p → IsFormed (front_of now p)
formed-front now p formed some =
    let within = started-within now p formed in
    let one_more : length p.points ≡ length p.acts + 1 = formed.one_more in
    let count : length (take (started_count now p) p.acts) ≡ started_count now p = length-take-le (started_count now p) p.acts within in
    let points : length (take (started_count now p + 1) p.points) ≡ started_count now p + 1 = length-take-le (started_count now p + 1) p.points (omega arith) in
    record { some = omega arith; one_more = omega arith; released = omega arith }

-- each plan has a fate that fits, a copy that is to be purged has started, and a sheet is to wait only where its open copy is lost
pub record Befits (s : SessionState) (rule : Plan → Befalls) (gives : Plan → List SheetId) (p : Plan) : Type 0 where
  pub fits : Fits s p (rule p)
  pub purged : IsTrue (is_purged_by (rule p)) → point p 0 ≤ s.now
  pub given : (g : Group) → count_by (is_in g) (gives p) ≤ cond (is_loss (rule p) && is_open_of s g p) 1 0

purged-cut : (f : Befalls) → IsTrue (is_purged_by f) → IsTrue (is_cut_by f)
purged-cut fates.stays e = absurd cc
purged-cut fates.lost e = absurd cc
purged-cut fates.withdrawn e = absurd cc
purged-cut fates.cut e = absurd cc
purged-cut fates.purged e = refl
purged-cut fates.replaced e = refl
purged-cut fates.dropped e = absurd cc

pub of_sheet-put_all : (g : Group) (waiting more : List WaitingCopy) → of_sheet g (put_all_waiting waiting more) ≡ of_sheet g waiting + of_sheet g more
of_sheet-put_all g waiting [] = omega arith
of_sheet-put_all g waiting (w ∷ more) =
    let rest = of_sheet-put_all g (put_waiting waiting w) more in
    let put = of_sheet-put g w waiting in
    let first = count-cons (is_of_sheet g) w waiting in
    let other = count-cons (is_of_sheet g) w more in
    omega arith

pub formed-befall : (s : SessionState) (rule : Plan → Befalls) (gives : Plan → List SheetId) → All IsFormed s.plans → ((p : Plan) → Contains s.plans p → Befits s rule gives p) → All IsFormed (befall rule s).plans
formed-befall s rule gives formed befits = all-left IsFormed s.now rule s.plans (λ p in'. All-contains IsFormed s.plans p formed in')
    (λ p in' e. formed-front s.now p (All-contains IsFormed s.plans p formed in') ((befits p in').fits.started e))
    (λ p in' e. let f = formed-front s.now p (All-contains IsFormed s.plans p formed in') ((befits p in').fits.started (purged-cut (rule p) e)) in
    record { some = f.some; one_more = f.one_more; released = f.released })

pub can-befall : (s : SessionState) (rule : Plan → Befalls) (gives : Plan → List SheetId) (pending : List SheetId) → CanFall s pending → ((p : Plan) → Contains s.plans p → Befits s rule gives p)
    → CanFall (befall rule s) (flat_map gives s.plans ++ pending)
can-befall s rule gives pending can befits = record {
  known = let each = All-contains (IsKnown s.jobs) s.plans in
      all-left (IsKnown s.jobs) s.now rule s.plans (λ p in'. each p can.known in') (λ p in' e. each p can.known in') (λ p in' e. each p can.known in');
  next = let each = All-contains (λ (p : Plan). HasNextCopy p.sheet) s.plans in
      all-left (λ (p : Plan). HasNextCopy p.sheet) s.now rule s.plans (λ p in'. each p can.next in') (λ p in' e. each p can.next in') (λ p in' e. each p can.next in');
  purges = let each = All-contains (HasStarted s.now) s.plans in
      all-left (HasStarted s.now) s.now rule s.plans (λ p in'. each p can.purges in')
      (λ p in' e goal. let same = first-stays s.now p in let low : point p 0 ≤ s.now = each p can.purges in' goal in omega arith)
      (λ p in' e goal. let same = first-stays s.now p in let low : point p 0 ≤ s.now = (befits p in').purged e in omega arith);
  few = λ g.
      let counted = befall-count s.now rule gives (is_open_of (befall rule s) g) (is_of_sheet g) (is_in g) (is_open_of s g) s.plans
      (λ p in'. once-of s rule (gives p) g p in' (befits p in').fits.opens ((befits p in').given g)) in
      let put = of_sheet-put_all g s.waiting (flat_map (λ p. waits_for p (rule p)) s.plans) in
      let both = count-append (is_in g) (flat_map gives s.plans) pending in
      let few = can.few g in
      omega arith;
}
