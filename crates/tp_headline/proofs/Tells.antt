-- What a move of the clock tells of deliveries, and in which order.
use Rattle.std.proofs.Common.{◌≡◌, ℕ, ◌+◌, ◌<◌, ◌≤◌, ◌⊎◌, inl, inr, Bool, true, false, cond, ◌&&◌, not, List, [], ◌∷◌, ◌++◌, map, flat_map, refl, sym, ap, ◌∙◌, arith, All, AllPairs, Contains, IsTrue, subst, nat_lt, nat_le, get_or}
use Rattle.std.specs.Str.{bytes_eq}
use Rattle.std.proofs.lemmas.Bool.{and_parts}
use Rattle.std.proofs.lemmas.Bool.Decides.{nat_tests}
use Rattle.std.proofs.lemmas.List.Elements.{All-nil, All-contains, Contains-append_left, Contains-append_right, Contains-append_cases, Contains-get_or}
use Rattle.std.proofs.lemmas.Slice.Eq.{bytes_eq-Decides}
use Rattle.tp_machine.specs.declared.machine.Machine.{Machine}
use Rattle.tp_jobs.specs.JobRefusals.{is_tray_name}
use Rattle.tp_jobs.specs.declared.parts.Job.{Job}
use Rattle.tp_schedule.proofs.Membership.{All-from_contains, Contains-cons_cases, Contains-here, Contains-map, Contains-map_from, flat_map-from, flat_map-to}
use Rattle.tp_schedule.proofs.Pairs.{AllPairs-nil, AllPairs-cons, AllPairs-append, AllPairs-each}
use Rattle.tp_schedule.specs.Holders.{Run}
use Rattle.tp_schedule.specs.Plans.{IsTimedPlan, IsEarlier, end_of_plan, is_before, is_front}
use Rattle.tp_schedule.specs.declared.parts.Plan.{Plan}
use Rattle.tp_schedule.specs.declared.records.Record.{Record}
use Rattle.tp_schedule.specs.declared.records.Record.TheVariants.{Done}
use Rattle.tp_schedule.specs.declared.records.SheetName.{SheetName}
use Rattle.tp_event_rules.specs.Clock.{Told, release_of, releases, is_done_between, delivery, deliveries, by_moment, clock_tells, record_of, clock_records}
use Rattle.tp_event_rules.specs.StateInvariants.{is_of_its_job}
use Rattle.tp_event_rules.specs.Labels.{label, location_name, end_location}
use Rattle.tp_event_rules.specs.Moments.{due_until, is_tray_plan, is_to_tray}
use Rattle.tp_event_rules.specs.Deliveries.{Arrival, is_earlier, received, received_by, sheet_ref}
use Rattle.tp_event_rules.specs.States.{SessionState}
use Rattle.tp_event_rules.proofs.AskedFacts.{bytes_eq-same}
use Rattle.tp_event_rules.proofs.ListFacts.{AllPairs-map_list}
use Rattle.tp_outage_laws.specs.Through.{KeepsOrder}
use Rattle.tp_outage_laws.proofs.PlanFacts.{not-false}
use Rattle.tp_headline.proofs.Delivered.{IsFor, by-order, ends-first, told-earlier}
use Rattle.tp_headline.proofs.Numbers.{AreFirst, AreNamedApart}
use Rattle.tp_headline.proofs.Locations.{own-location, tray-goal}
use Rattle.tp_headline.proofs.Sorted.{AllPairs-flat_map, Either, InTime, IsSplit, by_moment-from, by_moment-to, map-split, pairs-by_moment, stands-before}

AllPairs-any : {X : Type 0} (R : X → X → Type 0) (xs : List X) → ((x y : X) → Contains xs x → Contains xs y → R x y) → AllPairs R xs
AllPairs-any R xs each i j d before within = each (get_or xs i d) (get_or xs j d) (Contains-get_or xs i d (omega arith)) (Contains-get_or xs j d within)

-- one at the most
at-most-one : {X : Type 0} (R : X → X → Type 0) (b : Bool) (x : X) → AllPairs R (cond b (x ∷ []) [])
at-most-one R true x = AllPairs-cons R x [] (All-nil (R x)) (AllPairs-nil R)
at-most-one R false x = AllPairs-nil R

if-one : {X : Type 0} (b : Bool) (x y : X) → Contains (cond b (x ∷ []) []) y → (b ≡ true) × (x ≡ y)
if-one true x y in' = elim (Contains-cons_cases x [] y in') [
  | inl e ↦ (refl, e)
  | inr none ↦ absurd (omega (arith, none.1))
]
if-one false x y in' = absurd (omega (arith, in'.1))

-- what a record tells to be received
pub received-of : (tray : List ℕ) (copy : SheetName) (place : List ℕ) (at : ℕ) (c : SheetName) → Contains (received_by tray (Done copy place at)) c → (place ≡ tray) × (copy ≡ c)
received-of tray copy place at c in' = let one = if-one (bytes_eq place tray) copy c in' in ((bytes_eq-Decides place tray).0 one.0, one.1)

pub one-received : (tray : List ℕ) (R : SheetName → SheetName → Type 0) (r : Record) → AllPairs R (received_by tray r)
one-received tray R (Done copy place at) = at-most-one R (bytes_eq place tray) copy
one-received tray R _ = AllPairs-nil R

-- the plan ends in between
pub record IsDoneBetween (now to : ℕ) (p : Plan) : Type 0 where
  pub whole : is_front p.kind ≡ false
  pub after : now < end_of_plan p
  pub until : end_of_plan p ≤ to

pub done-between : (now to : ℕ) (p : Plan) → is_done_between now to p ≡ true → IsDoneBetween now to p
done-between now to p e =
    let last = and_parts (not (is_front p.kind) && nat_lt now (end_of_plan p)) (nat_le (end_of_plan p) to) e in
    let first = and_parts (not (is_front p.kind)) (nat_lt now (end_of_plan p)) last.0 in
    let low = first.1 in let high = last.1 in
    record { whole = not-false (is_front p.kind) first.0; after = grind (arith, nat_tests); until = grind (arith, nat_tests) }

pub between-done : (now to : ℕ) (p : Plan) → is_front p.kind ≡ false → now < end_of_plan p → end_of_plan p ≤ to → is_done_between now to p ≡ true
between-done now to p whole low high =
    let a : nat_lt now (end_of_plan p) ≡ true = grind (arith, nat_tests) in
    let b : nat_le (end_of_plan p) to ≡ true = grind (arith, nat_tests) in
    rw (whole, a, b) refl

abbrev pub tolds : Machine → ℕ → ℕ → List Plan → List Told
tolds machine now to plans = flat_map (deliveries machine now to) plans ++ flat_map (releases machine to) plans

-- a delivery that is reported
pub record IsToldOf (machine : Machine) (now to : ℕ) (plans : List Plan) (t : Told) : Type 0 where
  pub p : Plan
  pub there : Contains plans p
  pub done : is_done_between now to p ≡ true
  pub is : delivery machine p ≡ t

told-one : (machine : Machine) (now to : ℕ) (plans : List Plan) (t : Told) → Contains (flat_map (deliveries machine now to) plans) t → IsToldOf machine now to plans t
told-one machine now to plans t in' =
    let from = flat_map-from (deliveries machine now to) plans t in' in
    let one = if-one (is_done_between now to from.0) (delivery machine from.0) t from.2 in
    record { p = from.0; there = from.1; done = one.0; is = one.1 }

told-release : (machine : Machine) (to : ℕ) (plans : List Plan) (t : Told) → Contains (flat_map (releases machine to) plans) t → (run : Run) × (t ≡ release_of machine run)
told-release machine to plans t in' =
    let from = flat_map-from (releases machine to) plans t in' in
    let run = Contains-map_from (release_of machine) (due_until (to + machine.lead) from.0) t from.2 in
    (run.0, run.2)

told-cases : (machine : Machine) (now to : ℕ) (plans : List Plan) (t : Told) → Contains (tolds machine now to plans) t → IsToldOf machine now to plans t ⊎ ((run : Run) × (t ≡ release_of machine run))
told-cases machine now to plans t in' = elim (Contains-append_cases (flat_map (deliveries machine now to) plans) (flat_map (releases machine to) plans) t in') [
  | inl done ↦ inl (told-one machine now to plans t done)
  | inr release ↦ inr (told-release machine to plans t release)
]

told-to : (machine : Machine) (now to : ℕ) (plans : List Plan) (p : Plan) → Contains plans p → is_done_between now to p ≡ true → Contains (tolds machine now to plans) (delivery machine p)
told-to machine now to plans p in' e =
    Contains-append_left (flat_map (deliveries machine now to) plans) (flat_map (releases machine to) plans) (delivery machine p)
    (flat_map-to (deliveries machine now to) plans p (delivery machine p) in' (rw e (Contains-here (delivery machine p) [])))

-- a release tells nothing to be received
release-none : (machine : Machine) (jobs : List Job) (tray : List ℕ) (t : Told) (run : Run) (c : SheetName) → t ≡ release_of machine run → Contains (received_by tray (record_of machine jobs t.tell)) c → ⊥
release-none machine jobs tray t run c is in' = none (subst (λ (u : Told). Contains (received_by tray (record_of machine jobs u.tell)) c) is in') where
  none : Contains {X = SheetName} [] c → ⊥
  none i = omega (arith, i.1)

-- a whole plan that ends at the tray of a name
pub record IsBrought (machine : Machine) (s : SessionState) (tray : List ℕ) (now to : ℕ) (c : SheetName) (p : Plan) : Type 0 where
  pub to_tray : is_tray_plan p ≡ true
  pub for : IsFor machine s.jobs tray p.sheet
  pub after : now < end_of_plan p
  pub until : end_of_plan p ≤ to
  pub is : label s.jobs p.sheet ≡ c

module _ (machine : Machine) (totals : List ℕ) (s : SessionState) (keeps : KeepsOrder machine totals s) (to : ℕ) (tray : List ℕ) (tray_is : is_tray_name machine tray ≡ true) where
  timed-at : (p : Plan) → Contains s.plans p → IsTimedPlan machine p
  timed-at p in' = All-contains (IsTimedPlan machine) s.plans p keeps.plans.legal.timed in'

  own-at : (p : Plan) → Contains s.plans p → is_of_its_job s.jobs p ≡ true
  own-at p in' = All-contains (λ p. IsTrue (is_of_its_job s.jobs p)) s.plans p keeps.lines.plans_known in'

  abbrev pub Has : Told → SheetName → Type 0
  Has t c = Contains (received_by tray (record_of machine s.jobs t.tell)) c

  pub brought : (p : Plan) (c : SheetName) → Contains s.plans p → is_done_between s.now to p ≡ true → Has (delivery machine p) c → IsBrought machine s tray s.now to c p
  brought p c in' done has =
      let between = done-between s.now to p done in
      let location = received-of tray (label s.jobs p.sheet) (location_name machine (end_location machine p)) (end_of_plan p) c has in
      let goal : is_to_tray p.goal ≡ true = tray-goal machine p tray (timed-at p in') between.whole tray_is location.0 in
      let to_tray : is_tray_plan p ≡ true = rw (between.whole, goal) refl in
      record {
        to_tray = to_tray;
        for = ap (location_name machine) (sym (own-location machine s.jobs p (timed-at p in') to_tray (own-at p in'))) ∙ location.0;
        after = between.after;
        until = between.until;
        is = location.1;
      }

  -- and it is reported as received
  pub brings : (p : Plan) → Contains s.plans p → is_tray_plan p ≡ true → IsFor machine s.jobs tray p.sheet → Has (delivery machine p) (label s.jobs p.sheet)
  brings p in' to_tray for =
      let location : location_name machine (end_location machine p) ≡ tray = ap (location_name machine) (own-location machine s.jobs p (timed-at p in') to_tray (own-at p in')) ∙ for in
      rw ((bytes_eq-Decides (location_name machine (end_location machine p)) tray).1 location) (Contains-here (label s.jobs p.sheet) [])

  -- where a copy that is reported as received comes from
  pub told-from : (t : Told) (c : SheetName) → Contains (tolds machine s.now to s.plans) t → Has t c → IsToldOf machine s.now to s.plans t
  told-from t c in' has = elim (told-cases machine s.now to s.plans t in') [
    | inr release ↦ absurd (release-none machine s.jobs tray t release.0 c release.1 has)
    | inl told ↦ told
  ]

  module _ (all : List Arrival) (first : AreFirst machine totals s.jobs all) (apart : AreNamedApart all) where
    abbrev pub Rises : SheetName → SheetName → Type 0
    Rises c d = is_earlier all (sheet_ref c) (sheet_ref d) ≡ true

    abbrev pub Gives : Told → Told → Type 0
    Gives t u = (c d : SheetName) → Has t c → Has u d → Rises c d

    -- of two deliveries the plans stand in order
    in-order : (p q : Plan) → Contains s.plans p → Contains s.plans q → is_before p.sheet q.sheet ≡ true → is_done_between s.now to p ≡ true → is_done_between s.now to q ≡ true
        → Either Gives (delivery machine p) (delivery machine q)
    in-order p q in' in'' before done done' = (
      λ low c d has has'.
          let b = brought p c in' done has in
          let b' = brought q d in'' done' has' in
          subst (λ x. Rises x d) b.is (subst (Rises (label s.jobs p.sheet)) b'.is (told-earlier machine totals s keeps all first apart p q in' in'' b.to_tray b'.to_tray before)),
      λ low c d has has'.
          let b = brought p d in' done has' in
          let b' = brought q c in'' done' has in
          let first' : end_of_plan p < end_of_plan q = ends-first machine totals s keeps tray p q in' in'' b.to_tray b'.to_tray b.for b'.for before (by-order machine totals s keeps p q in' in'' before) in
          absurd (omega arith),
    )

    told-in_order : (p q : Plan) → Contains s.plans p → Contains s.plans q → is_before p.sheet q.sheet ≡ true → (t u : Told) → Contains (deliveries machine s.now to p) t → Contains (deliveries machine s.now to q) u → Either Gives t u
    told-in_order p q in' in'' before t u here there =
        let one = if-one (is_done_between s.now to p) (delivery machine p) t here in
        let other = if-one (is_done_between s.now to q) (delivery machine q) u there in
        subst (λ x. Either Gives x u) one.1 (subst (Either Gives (delivery machine p)) other.1 (in-order p q in' in'' before one.0 other.0))

    none-given : (t u : Told) → ((c : SheetName) → Has t c → ⊥) ⊎ ((c : SheetName) → Has u c → ⊥) → Either Gives t u
    none-given t u none = elim none [
      | inl empty ↦ (λ low c d has has'. absurd (empty c has), λ low c d has has'. absurd (empty d has'))
      | inr empty ↦ (λ low c d has has'. absurd (empty d has'), λ low c d has has'. absurd (empty c has))
    ]

    pub all-in_order : AllPairs (Either Gives) (tolds machine s.now to s.plans)
    all-in_order =
        AllPairs-append (Either Gives) (flat_map (deliveries machine s.now to) s.plans) (flat_map (releases machine to) s.plans)
        (AllPairs-flat_map (Either Gives) (deliveries machine s.now to) s.plans
        (All-from_contains (λ p. AllPairs (Either Gives) (deliveries machine s.now to p)) s.plans (λ p in'. at-most-one (Either Gives) (is_done_between s.now to p) (delivery machine p)))
        (AllPairs-each IsEarlier (λ p q. (t u : Told) → Contains (deliveries machine s.now to p) t → Contains (deliveries machine s.now to q) u → Either Gives t u) s.plans keeps.plans.legal.in_order
        (λ p q in' in'' before. told-in_order p q in' in'' before)))
        (AllPairs-any (Either Gives) (flat_map (releases machine to) s.plans) (λ t u in' in''.
        let run = told-release machine to s.plans t in' in
        none-given t u (inl (λ c has. release-none machine s.jobs tray t run.0 c run.1 has))))
        (All-from_contains (λ t. All (Either Gives t) (flat_map (releases machine to) s.plans)) (flat_map (deliveries machine s.now to) s.plans) (λ t in'.
        All-from_contains (Either Gives t) (flat_map (releases machine to) s.plans) (λ u in''.
        let run = told-release machine to s.plans u in'' in
        none-given t u (inr (λ c has. release-none machine s.jobs tray u run.0 c run.1 has)))))

    abbrev pub in_time : List Told
    in_time = by_moment (tolds machine s.now to s.plans)

    pub told-in_time : AllPairs (InTime Gives) in_time
    told-in_time = pairs-by_moment Gives (tolds machine s.now to s.plans) all-in_order

    -- what is received rises in the order of sheets
    pub clock-rises : AllPairs Rises (received tray (clock_records machine s to))
    clock-rises =
        let Q : Record → Record → Type 0 = (λ r r'. (c d : SheetName) → Contains (received_by tray r) c → Contains (received_by tray r') d → Rises c d) in
        AllPairs-flat_map Rises (received_by tray) (clock_records machine s to)
        (All-from_contains (λ r. AllPairs Rises (received_by tray r)) (clock_records machine s to) (λ r in'. one-received tray Rises r))
        (AllPairs-map_list Q (record_of machine s.jobs) (map (λ t. t.tell) in_time)
        (AllPairs-map_list (λ x y. Q (record_of machine s.jobs x) (record_of machine s.jobs y)) (λ t. t.tell) in_time
        (AllPairs-each (InTime Gives) (λ t u. Gives t u) in_time told-in_time (λ t u in' in'' both. both.1))))

  -- a copy that is received ended in between, at its tray
  pub record IsFrom (c : SheetName) : Type 0 where
    pub p : Plan
    pub there : Contains s.plans p
    pub brought : IsBrought machine s tray s.now to c p

  record-from : (c : SheetName) → Contains (received tray (clock_records machine s to)) c → (t : Told) × Contains (tolds machine s.now to s.plans) t × Has t c
  record-from c in' =
      let r = flat_map-from (received_by tray) (clock_records machine s to) c in' in
      let tell = Contains-map_from (record_of machine s.jobs) (clock_tells machine s.now to s.plans) r.0 r.1 in
      let t = Contains-map_from (λ t. t.tell) (by_moment (tolds machine s.now to s.plans)) tell.0 tell.1 in
      (t.0, by_moment-from (tolds machine s.now to s.plans) t.0 t.1, subst (λ x. Contains (received_by tray (record_of machine s.jobs x)) c) t.2 (subst (λ x. Contains (received_by tray x) c) tell.2 r.2))

  pub clock-from : (c : SheetName) → Contains (received tray (clock_records machine s to)) c → IsFrom c
  clock-from c in' =
      let from = record-from c in' in
      let told = told-from from.0 c from.1 from.2 in
      record { p = told.p; there = told.there; brought = brought told.p c told.there told.done (subst (λ t. Has t c) (sym told.is) from.2) }

  -- and each that ends in between is received
  pub clock-to : (p : Plan) → Contains s.plans p → is_tray_plan p ≡ true → IsFor machine s.jobs tray p.sheet → s.now < end_of_plan p → end_of_plan p ≤ to
      → Contains (received tray (clock_records machine s to)) (label s.jobs p.sheet)
  clock-to p in' to_tray for low high =
      let whole = not-false (is_front p.kind) (and_parts (not (is_front p.kind)) (is_to_tray p.goal) to_tray).0 in
      let told = told-to machine s.now to s.plans p in' (between-done s.now to p whole low high) in
      let tell = Contains-map (λ t. t.tell) (by_moment (tolds machine s.now to s.plans)) (delivery machine p) (by_moment-to (tolds machine s.now to s.plans) (delivery machine p) told) in
      let r = Contains-map (record_of machine s.jobs) (clock_tells machine s.now to s.plans) (delivery machine p).tell tell in
      flat_map-to (received_by tray) (clock_records machine s to) (record_of machine s.jobs (delivery machine p).tell) (label s.jobs p.sheet) r (brings p in' to_tray for)

  module _ (all : List Arrival) (first : AreFirst machine totals s.jobs all) (apart : AreNamedApart all) where
    -- what is reported before a delivery: each one of the tray that ended sooner
    pub record IsDoneAfter (before : List Record) (copy : SheetName) : Type 0 where
      pub p : Plan
      pub there : Contains s.plans p
      pub brought : IsBrought machine s tray s.now to copy p
      pub sooner : (q : Plan) → Contains s.plans q → is_tray_plan q ≡ true → IsFor machine s.jobs tray q.sheet → s.now < end_of_plan q → end_of_plan q < end_of_plan p
          → Contains (received tray before) (label s.jobs q.sheet)

    pub clock-split : (before after : List Record) (copy : SheetName) (at : ℕ) → clock_records machine s to ≡ before ++ Done copy tray at ∷ after → IsDoneAfter before copy
    clock-split before after copy at e = record {
      p = told.p;
      there = told.there;
      brought = own;
      sooner = λ q in' to_tray for low sooner.
          let whole = not-false (is_front q.kind) (and_parts (not (is_front q.kind)) (is_to_tray q.goal) to_tray).0 in
          let until : end_of_plan told.p ≤ to = own.until in
          let done = between-done s.now to q whole low (omega arith) in
          let timely = by_moment-to (tolds machine s.now to s.plans) (delivery machine q) (told-to machine s.now to s.plans q in' done) in
          let moment : end_of_plan told.p ≡ times.here.at = ap (λ (t : Told). t.at) told.is in
          let stands = stands-before (Gives all first apart) times.first times.here times.rest (delivery machine q)
          (subst (AllPairs (InTime (Gives all first apart))) times.is (told-in_time all first apart)) (subst (λ l. Contains l (delivery machine q)) times.is timely) (omega arith) in
          let tell = subst (λ l. Contains l (delivery machine q).tell) times.firsts (Contains-map (λ t. t.tell) times.first (delivery machine q) stands) in
          let r = subst (λ l. Contains l (record_of machine s.jobs (delivery machine q).tell)) tells.firsts (Contains-map (record_of machine s.jobs) tells.first (delivery machine q).tell tell) in
          flat_map-to (received_by tray) before (record_of machine s.jobs (delivery machine q).tell) (label s.jobs q.sheet) r (brings q in' to_tray for);
    } where
      tells : IsSplit (record_of machine s.jobs) (clock_tells machine s.now to s.plans) before (Done copy tray at)
      tells = map-split (record_of machine s.jobs) (clock_tells machine s.now to s.plans) before (Done copy tray at) after e

      times : IsSplit (λ t. t.tell) (in_time all first apart) tells.first tells.here
      times = map-split (λ t. t.tell) (in_time all first apart) tells.first tells.here tells.rest tells.is

      has : Has times.here copy
      has = subst (λ x. Contains (received_by tray (record_of machine s.jobs x)) copy) (sym times.one) (subst (λ r. Contains (received_by tray r) copy) (sym tells.one)
          (rw (bytes_eq-same tray) (Contains-here copy [])))

      here : Contains (tolds machine s.now to s.plans) times.here
      here = by_moment-from (tolds machine s.now to s.plans) times.here
          (subst (λ l. Contains l times.here) (sym times.is) (Contains-append_right times.first (times.here ∷ times.rest) times.here (Contains-here times.here times.rest)))

      told : IsToldOf machine s.now to s.plans times.here
      told = told-from times.here copy here has

      own : IsBrought machine s tray s.now to copy told.p
      own = brought told.p copy told.there told.done (subst (λ t. Has t copy) (sym told.is) has)
