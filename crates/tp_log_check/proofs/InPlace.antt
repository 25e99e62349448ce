-- Where a turn over the planner that is given an event's items takes them all, they stand as those of its records and trees: each tree is in its
-- place.
use Rattle.std.proofs.Common.{◌≡◌, Bool, true, false, cond, List, [], ◌∷◌, ◌++◌, length, refl, sym, ap, ◌∙◌, All, Option, Some, None, arith}
use Rattle.std.specs.Prelude.{IsFalse, if◌then◌else◌}
use Rattle.std.proofs.lemmas.List.{length-append}
use Rattle.std.proofs.lemmas.List.Elements.{All-cons, All-head, All-nil, All-tail}
use Rattle.tp_log_check.specs.Gathered.{ArePlain}
use Rattle.tp_log.specs.Logs.{is_echo}
use Rattle.tp_log.specs.declared.item.Item.{Item}
use Rattle.tp_log.specs.declared.item.Item.TheVariants.{Event, Note, Tree}
use Rattle.tp_log_laws.proofs.AlongAsks.{IsAhead}
use Rattle.tp_log_laws.proofs.Asides.{AreOther, IsOther}
use Rattle.tp_log_laws.proofs.Places.{IsParted, free-moves, is_plan_reply, shown-is, shown_by, tells-reply}
use Rattle.tp_log_laws.specs.AcceptedEntries.{bound_claims}
use Rattle.tp_machine.specs.declared.machine.Machine.{Machine}
use Rattle.tp_run_laws.specs.Proved.{records_in}
use Rattle.tp_run_laws.specs.Runs.{is_move, items_with}
use Rattle.tp_schedule.specs.Answers.{kept_of}
use Rattle.tp_schedule.specs.Plans.{plan_of, without}
use Rattle.tp_schedule.specs.PlannerAnswers.{IsAnswer}
use Rattle.tp_schedule.specs.declared.parts.Ask.{Ask}
use Rattle.tp_schedule.specs.declared.parts.Plan.{Plan}
use Rattle.tp_schedule.specs.declared.parts.Reply.{Reply}
use Rattle.tp_schedule.specs.declared.parts.Reply.TheVariants.{Planned, Never, Spent}
use Rattle.tp_schedule.specs.declared.records.Record.{Record}
use Rattle.tp_schedule.specs.declared.records.Record.TheVariants.{Move}
use Rattle.tp_log_planner.specs.ToldAnswers.{IsShown, Tells, ToldValue, ahead, behind_asides, is_other, notes}
use Rattle.tp_log_planner.proofs.ToldFacts.{behind-twice}
use Rattle.tp_event_rules.specs.AnswerRecords.{moves, told_of_planned, told_of_reply}
use Rattle.tp_event_rules.specs.Logs.{TakesTree, spent_on_trust}
use Rattle.tp_log_check.specs.EventEntry.{trees_in}
use Rattle.tp_log_check.proofs.Judged.{records-with}
use Rattle.tp_log_check.proofs.TakenTrees.{trees-told}

-- the records from the first that is no aside
abbrev pub behind_others : List Record → List Record
behind_others [] = []
behind_others (r ∷ records) = if is_other r then behind_others records else (r ∷ records)

-- items are asides, and what stands behind them
pub record BeginsAside (items : List Item) : Type 0 where
  pub asides : List Record
  pub other : AreOther asides
  pub are : items ≡ notes asides ++ behind_asides items

pub begins-aside : (items : List Item) → BeginsAside items
begins-aside [] = record { asides = []; other = All-nil IsOther; are = refl }
begins-aside (Event event ∷ items) = record { asides = []; other = All-nil IsOther; are = refl }
begins-aside (Tree tree ∷ items) = record { asides = []; other = All-nil IsOther; are = refl }
begins-aside (Note r ∷ items) = go (is_other r) refl (begins-aside items) where
  no-aside : (b : Bool) → b ≡ false → Note r ∷ items ≡ cond b (behind_asides items) (Note r ∷ items)
  no-aside true e = absurd (cc)
  no-aside false e = refl

  one-aside : (b : Bool) → b ≡ true → (rest : List Item) → rest ≡ behind_asides items → rest ≡ cond b (behind_asides items) (Note r ∷ items)
  one-aside true e rest same = same
  one-aside false e rest same = absurd (cc)

  go : (b : Bool) → is_other r ≡ b → BeginsAside items → BeginsAside (Note r ∷ items)
  go true e h = record {
    asides = r ∷ h.asides;
    other = All-cons IsOther r h.asides e h.other;
    are = ap (λ xs. Note r ∷ xs) (h.are ∙ ap (λ xs. notes h.asides ++ xs) (one-aside (is_other r) e (behind_asides items) refl));
  }
  go false e h = record { asides = []; other = All-nil IsOther; are = no-aside (is_other r) e }

pub records-notes : (records : List Record) (items : List Item) → records_in (notes records ++ items) ≡ records ++ records_in items
records-notes [] items = refl
records-notes (r ∷ records) items = ap (λ rs. r ∷ rs) (records-notes records items)

pub others-skip : (asides records : List Record) → AreOther asides → behind_others (asides ++ records) ≡ behind_others records
others-skip [] records other = refl
others-skip (r ∷ asides) records other =
    let first : is_other r ≡ true = All-head IsOther r asides other in
    go (is_other r) first (others-skip asides records (All-tail IsOther r asides other)) where
      go : (b : Bool) → b ≡ true → behind_others (asides ++ records) ≡ behind_others records → cond b (behind_others (asides ++ records)) (r ∷ (asides ++ records)) ≡ behind_others records
      go true e rest = rest
      go false e rest = absurd (cc)

-- the records behind asides are those of the items behind asides
pub others-behind : (items : List Item) → behind_others (records_in items) ≡ behind_others (records_in (behind_asides items))
others-behind items =
    let b = begins-aside items in
    ap (λ xs. behind_others (records_in xs)) b.are ∙ ap behind_others (records-notes b.asides (behind_asides items)) ∙ others-skip b.asides (records_in (behind_asides items)) b.other

-- ---- items of the same records, and the same behind asides, are the same

same-front : (xs ys rest : List Record) → xs ++ rest ≡ ys ++ rest → xs ≡ ys
same-front [] [] rest e = refl
same-front [] (y ∷ ys) rest e = absurd (let long = ap length e ∙ length-append (y ∷ ys) rest in omega (arith, long))
same-front (x ∷ xs) [] rest e = absurd (let long = sym (length-append (x ∷ xs) rest) ∙ ap length e in omega (arith, long))
same-front (x ∷ xs) (y ∷ ys) rest e =
    let first : x ≡ y = cc in
    let others : xs ++ rest ≡ ys ++ rest = cc in
    let h = same-front xs ys rest others in
    (λ k. first k ∷ h k)

pub same-items : (items others : List Item) → behind_asides items ≡ behind_asides others → records_in items ≡ records_in others → items ≡ others
same-items items others behind records =
    let a = begins-aside items in
    let b = begins-aside others in
    let left : records_in items ≡ a.asides ++ records_in (behind_asides items) = ap records_in a.are ∙ records-notes a.asides (behind_asides items) in
    let right : records_in others ≡ b.asides ++ records_in (behind_asides items) = ap records_in b.are ∙ records-notes b.asides (behind_asides others) ∙ ap (λ xs. b.asides ++ records_in xs) (sym behind) in
    let front = same-front a.asides b.asides (records_in (behind_asides items)) (sym left ∙ records ∙ right) in
    a.are ∙ (λ k. notes (front k) ++ behind k) ∙ sym b.are

-- ---- the end: nothing is reported of what is left

pub none-left : (items : List Item) → ArePlain items → trees_in items ≡ [] → behind_others (records_in items) ≡ [] → behind_asides items ≡ []
none-left [] plain trees records = refl
none-left (Event event ∷ items) plain trees records = absurd (let no : is_echo (Event event) ≡ false = All-head (λ item. IsFalse (is_echo item)) (Event event) items plain in cc)
none-left (Tree tree ∷ items) plain trees records = absurd (cc)
none-left (Note r ∷ items) plain trees records =
    go (is_other r) records (none-left items (All-tail (λ item. IsFalse (is_echo item)) (Note r) items plain) trees) where
      go : (b : Bool) → cond b (behind_others (records_in items)) (r ∷ records_in items) ≡ [] → (behind_others (records_in items) ≡ [] → behind_asides items ≡ []) → cond b (behind_asides items) (Note r ∷ items) ≡ []
      go true e rest = rest e
      go false e rest = absurd (cc)

-- the items to come are of these records, but for asides in front
abbrev pub AreOf : ToldValue → List Record → Type 0
AreOf p records = behind_others (records_in (ahead p)) ≡ behind_others records

same-later : (xs a b : List Record) → xs ++ a ≡ xs ++ b → a ≡ b
same-later [] a b e = e
same-later (x ∷ xs) a b e = let others : xs ++ a ≡ xs ++ b = cc in same-later xs a b others

-- ---- one answer
module _ (machine : Machine) (plans : List Plan) (ask : Ask) (plans' : List Plan) where
  shown-records : (reply : Reply) (shown items : List Item) → IsShown machine plans ask reply plans' shown → records_in (shown ++ items) ≡ records_in items
  shown-records Planned shown items shows = ap (λ xs. records_in (xs ++ items)) shows.1.3
  shown-records Never shown items shows = ap (λ xs. records_in (xs ++ items)) shows.2
  shown-records (Spent bound) shown items shows = ap (λ xs. records_in (xs ++ items)) shows

  -- the first record of an answer is no aside
  told-first : (reply : Reply) (shown : List Item) (records : List Record) → IsShown machine plans ask reply plans' shown
      → behind_others (told_of_reply machine plans ask reply plans' ++ records) ≡ told_of_reply machine plans ask reply plans' ++ records
  told-first Planned shown records shows = go (plan_of ask.sheet plans') shows.1.1 where
    go : (o : Option Plan) → o ≡ Some shows.1.0 → behind_others ((told_of_planned machine (kept_of ask) o ++ moves (without ask.sheet plans) (without ask.sheet plans')) ++ records)
        ≡ (told_of_planned machine (kept_of ask) o ++ moves (without ask.sheet plans) (without ask.sheet plans')) ++ records
    go None e = absurd (cc)
    go (Some q) e = refl
  told-first Never shown records shows = refl
  told-first (Spent bound) shown records shows = refl

  module _ (p mid : ToldValue) (records : List Record) where
    abbrev Told : Reply → Type 0
    Told reply = Tells machine plans ask (ahead p) reply plans' (ahead mid)

    -- what is left are the items of the later records
    pub same-rest : (reply : Reply) → Told reply → AreOf p (told_of_reply machine plans ask reply plans' ++ records) → records_in (ahead mid) ≡ records
    same-rest reply t of =
        let told = told_of_reply machine plans ask reply plans' in
        let here : behind_others (records_in (ahead p)) ≡ told ++ records_in (ahead mid) =
        others-behind (ahead p) ∙ ap (λ xs. behind_others (records_in xs)) t.told ∙ ap behind_others (records-notes told (t.shown ++ ahead mid))
        ∙ ap (λ rs. behind_others (told ++ rs)) (shown-records reply t.shown (ahead mid) t.shows) ∙ told-first reply t.shown (records_in (ahead mid)) t.shows in
        same-later told (records_in (ahead mid)) records (sym here ∙ of ∙ told-first reply t.shown records t.shows)

    -- the trees that the answer takes
    takes-of : (reply : Reply) → Told reply → TakesTree bound_claims machine plans ask reply plans' (trees_in (ahead p)) (trees_in (ahead mid))
    takes-of Planned t = (
      t.shows.0,
      (t.shows.1.0, t.shows.1.1, t.shows.1.2, trees-told (ahead p) (t.shown ++ ahead mid) (told_of_reply machine plans ask Planned plans') t.told ∙ ap (λ xs. trees_in (xs ++ ahead mid)) t.shows.1.3),
    )
    takes-of Never t = (t.shows.0, t.shows.1, trees-told (ahead p) (t.shown ++ ahead mid) (told_of_reply machine plans ask Never plans') t.told ∙ ap (λ xs. trees_in (xs ++ ahead mid)) t.shows.2)
    takes-of (Spent bound) t = sym (trees-told (ahead p) (t.shown ++ ahead mid) (told_of_reply machine plans ask (Spent bound) plans') t.told ∙ ap (λ xs. trees_in (xs ++ ahead mid)) t.shows)

    -- the answer told by the items of its records and trees
    abbrev canonical : (reply : Reply) → Told reply → IsParted reply records → IsAnswer spent_on_trust machine plans ask reply plans' → (b : Bool)
        → Tells machine plans ask (items_with b (told_of_reply machine plans ask reply plans' ++ records) (trees_in (ahead p))) reply plans' (items_with (is_plan_reply reply) records (trees_in (ahead mid)))
    canonical reply t parted answer b =
        tells-reply machine plans ask plans' records (items_with b (told_of_reply machine plans ask reply plans' ++ records) (trees_in (ahead p))) b reply (trees_in (ahead p)) (trees_in (ahead mid)) parted answer (takes-of reply t) refl

    shown-so : (reply : Reply) (t : Told reply) → t.shown ≡ shown_by machine plans ask plans' records reply (trees_in (ahead p)) (trees_in (ahead mid)) (takes-of reply t)
    unfolding takes-of
    shown-so Planned t = t.shows.1.3
    shown-so Never t = t.shows.2
    shown-so (Spent bound) t = t.shows

    same-shown : (reply : Reply) (t : Told reply) (parted : IsParted reply records) (answer : IsAnswer spent_on_trust machine plans ask reply plans') (b : Bool) → t.shown ≡ (canonical reply t parted answer b).shown
    same-shown reply t parted answer b =
        shown-so reply t ∙ sym (shown-is machine plans ask plans' records (items_with b (told_of_reply machine plans ask reply plans' ++ records) (trees_in (ahead p))) b reply (trees_in (ahead p)) (trees_in (ahead mid)) parted answer (takes-of reply t) refl)

    pub answer-in_place : (reply : Reply) → Told reply → IsParted reply records → IsAnswer spent_on_trust machine plans ask reply plans' → AreOf p (told_of_reply machine plans ask reply plans' ++ records)
        → IsAhead mid (is_plan_reply reply) records (trees_in (ahead mid)) → (b : Bool) → IsAhead p b (told_of_reply machine plans ask reply plans' ++ records) (trees_in (ahead p))
    answer-in_place reply t parted answer of at b =
        let exact = same-items (ahead mid) (items_with (is_plan_reply reply) records (trees_in (ahead mid))) at (same-rest reply t of ∙ sym (records-with (is_plan_reply reply) records (trees_in (ahead mid)))) in
        let other = canonical reply t parted answer b in
        t.told ∙ (λ k. notes (told_of_reply machine plans ask reply plans') ++ (same-shown reply t parted answer b k ++ exact k)) ∙ sym other.told

-- ---- moves
module _ (p p' : ToldValue) (rest : List Record) (on : AreOf p' rest → (b : Bool) → IsAhead p' b rest (trees_in (ahead p'))) where
  pub moves-in_place : (ms : List Record) → All (λ r. is_move r ≡ true) ms → behind_asides (ahead p) ≡ notes ms ++ ahead p' → AreOf p (ms ++ rest) → (b : Bool) → (b ≡ true → ms ≡ []) → IsAhead p b (ms ++ rest) (trees_in (ahead p))
  moves-in_place [] all told of b none =
      let trees : trees_in (ahead p) ≡ trees_in (ahead p') = trees-told (ahead p) (ahead p') [] told in
      let of' : AreOf p' rest = ap (λ xs. behind_others (records_in xs)) (sym told) ∙ sym (others-behind (ahead p)) ∙ of in
      sym (behind-twice (ahead p)) ∙ ap behind_asides told ∙ on of' b ∙ ap (λ ts. behind_asides (items_with b rest ts)) (sym trees)
  moves-in_place (Move sheet points ∷ ms) all told of true none = absurd (let no : Move sheet points ∷ ms ≡ [] = none refl in cc)
  moves-in_place (Move sheet points ∷ ms) all told of false none =
      let trees : trees_in (ahead p) ≡ trees_in (ahead p') = trees-told (ahead p) (ahead p') (Move sheet points ∷ ms) told in
      let here : behind_others (records_in (ahead p)) ≡ (Move sheet points ∷ ms) ++ records_in (ahead p') =
      others-behind (ahead p) ∙ ap (λ xs. behind_others (records_in xs)) told ∙ ap behind_others (records-notes (Move sheet points ∷ ms) (ahead p')) in
      let same : records_in (ahead p') ≡ rest = same-later (Move sheet points ∷ ms) (records_in (ahead p')) rest (sym here ∙ of) in
      let exact = same-items (ahead p') (items_with false rest (trees_in (ahead p'))) (on (ap behind_others same) false) (same ∙ sym (records-with false rest (trees_in (ahead p')))) in
      told ∙ ap (λ xs. notes (Move sheet points ∷ ms) ++ xs) exact ∙ sym (free-moves (Move sheet points ∷ ms) rest (trees_in (ahead p')) all)
      ∙ ap (λ ts. items_with false ((Move sheet points ∷ ms) ++ rest) ts) (sym trees)
  moves-in_place (m ∷ ms) all told of b none = absurd (let h : is_move m ≡ true = All-head (λ r. is_move r ≡ true) m ms all in cc)
