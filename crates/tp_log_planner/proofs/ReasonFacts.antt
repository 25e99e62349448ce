-- Reasons for which items don't tell what is due, from what is wrong with a schedule or a tree.
use Rattle.std.proofs.Common.{◌≡◌, ℕ, ◌-◌, ℤ, ◌≤◌, List, [], ◌∷◌, inl, inr, Option, Some, None, get_or, length, refl, sym, ap, subst, ◌∙◌, arith}
use Rattle.std.specs.Bool.{MatchBool}
use Rattle.std.specs.Prelude.{IfOk, IfSome, Result, Ok, Err}
use Rattle.tp_bounds.specs.declared.tree.BoundTree.{BoundTree}
use Rattle.tp_log.specs.GatheredItems.{is_tree}
use Rattle.tp_log.specs.declared.item.Item.{Item}
use Rattle.tp_log.specs.declared.item.Item.TheVariants.{Tree as TreeItem}
use Rattle.tp_machine.specs.declared.machine.Machine.{Machine}
use Rattle.tp_schedule.specs.declared.parts.Ask.{Ask}
use Rattle.tp_schedule.specs.declared.parts.Halt.{Halt}
use Rattle.tp_schedule.specs.declared.parts.Halt.TheVariants.{Memory as NoMemory, Stopped}
use Rattle.tp_schedule.specs.declared.parts.Plan.{Plan}
use Rattle.tp_schedule.specs.declared.parts.SheetId.{SheetId}
use Rattle.tp_schedule_check.specs.Early.{IsEarly, is_exempt}
use Rattle.tp_schedule_check.specs.declared.early.Early.{Early as AnEarly}
use Rattle.tp_schedule_check.specs.Faults.{IsAnswerFault, IsAskedIn, IsSettlingFault, exempt_of}
use Rattle.tp_schedule_check.specs.declared.fault.Fault.{Fault}
use Rattle.tp_schedule_check.specs.declared.fault.Fault.TheVariants.{Asked, Unlike, Clash, Floor, Horizon, Order, Early}
use Rattle.tp_bound_laws.specs.Claims.{limit_of, live_part}
use Rattle.tp_bound_laws.specs.Flaws.{IsFlawOf, tree_flaw}
use Rattle.tp_bound_laws.specs.declared.claim.Claim.{Claim}
use Rattle.tp_bound_laws.specs.declared.claim.TreeFlaw.{TreeFlaw}
use Rattle.tp_bound_laws.specs.declared.claim.TreeFlaw.TheVariants.{Memory, RoomRow, Uncovered, NoSuchHop, Weak, NotDead}
use Rattle.tp_log_planner.specs.Breaches.{AreOfFault, HasFault, HasPlainFault, IsPlainFault}
use Rattle.tp_log_planner.specs.Failures.{failure_of, is_stop}
use Rattle.tp_log_planner.specs.ToldMoves.{TakesMoves}
use Rattle.tp_log_planner.specs.Reasons.{IfStop, IsAskedReason, IsBreach, IsDueInAnswer, IsDueInSettling, IsFrom, IsOff, IsOffAnswer, IsOffSettling, IsSettlingReason, IsTimesReason, IsTreeDue, IsTreeReason, TellSchedule, TellsFault, reason_in, reason_of}
use Rattle.tp_log_planner.specs.ToldAnswers.{HasStopped, ToldValue}
use Rattle.tp_log_planner.specs.declared.failure.Failure.{Failure}
use Rattle.tp_log_planner.specs.declared.failure.Failure.TheVariants as failure
use Rattle.tp_log_planner.specs.declared.failure.Reason.{Reason}
use Rattle.tp_log_planner.specs.declared.failure.Reason.TheVariants.{Due as IsDue, Illegal, NotLeast, Tree}
use Rattle.tp_log_planner.specs.declared.failure.WrongItem.{WrongItem}
use Rattle.tp_log_planner.specs.declared.failure.Wrong.{Wrong}

-- ---- failures

pub stop-from : (P Q : ℕ → Reason → Type 0) (f : Failure) → ((n : ℕ) (r : Reason) → P n r → Q n r) → IfStop P f → IfStop Q f
stop-from P Q failure.Memory to h = tt
stop-from P Q (failure.Stop found) to h = to found.left found.reason h

some-reason : (P : Reason → Type 0) (a b : Reason) → Some b ≡ Some a → P a → P b
some-reason P a b e h = let same : a ≡ b = cc in subst P same h

-- told for the same reason, wherever
pub same-stop : (P : Reason → Type 0) (f g : Failure) → reason_in g ≡ reason_in f → IfStop (λ n. P) f → IfStop (λ n. P) g
same-stop P failure.Memory failure.Memory e h = tt
same-stop P failure.Memory (failure.Stop found) e h = absurd cc
same-stop P (failure.Stop found) failure.Memory e h = tt
same-stop P (failure.Stop found) (failure.Stop other) e h = some-reason P found.reason other.reason e h

-- told of these items
pub from-stop : (here : ℕ) (P : Reason → Type 0) (f g : Failure) → is_stop g ≡ is_stop f → IfStop (IsFrom here (λ r. Some r ≡ reason_in f)) g → IfStop (λ n. P) f → IfStop (IsFrom here P) g
from-stop here P failure.Memory failure.Memory e from h = tt
from-stop here P failure.Memory (failure.Stop found) e from h = absurd cc
from-stop here P (failure.Stop found) failure.Memory e from h = absurd cc
from-stop here P (failure.Stop found) (failure.Stop other) e from h = (from.0, some-reason P found.reason other.reason from.1 h)

-- why it stopped is kept, of so many items
pub record KeepsWhy (P : ℕ → Reason → Type 0) (s : Option WrongItem) (long : ℕ) : Type 0 where
  pub left : ℕ
  pub reason : Reason
  pub kept : s ≡ Some (record { item = long - left; reason = reason })
  pub why : P left reason

pub kept-reason : (P : ℕ → Reason → Type 0) (f : Failure) (s : Option WrongItem) (p : ToldValue) (halt : Halt) (p' : ToldValue) (long : ℕ) → MatchBool (is_stop f) (HasStopped p halt p') ((halt ≡ NoMemory) × (p' ≡ p)) → halt ≡ Stopped
    → IfStop (λ n r. s ≡ Some (record { item = long - n; reason = r })) f → IfStop P f → KeepsWhy P s long
kept-reason P failure.Memory s p halt p' long match' is kept h = let e = match'.0 in absurd cc
kept-reason P (failure.Stop found) s p halt p' long match' is kept h = record { left = found.left; reason = found.reason; kept = kept; why = h }

-- ---- another item is due, or a rule is broken

module _ (Due : Type 0) (P : ℤ → ℤ → Type 0) where
  pub settling-breach : (machine : Machine) (plans : List Plan) (now : ℕ) (items : List Item) (n : ℕ) → (Due → IsDueInSettling machine plans now items n)
      → ((a b : ℤ) → P a b → IsOffSettling machine plans now items n a b) → (r : Reason) → IsBreach Due P r → IsSettlingReason machine plans now items n r
  settling-breach machine plans now items n from to IsDue h = from h
  settling-breach machine plans now items n from to (Illegal first second) h = to first second h
  settling-breach machine plans now items n from to (NotLeast given least) h = absurd h
  settling-breach machine plans now items n from to (Tree flaw) h = absurd h

  pub asked-breach : (machine : Machine) (plans : List Plan) (ask : Ask) (items : List Item) (n : ℕ) → (Due → IsDueInAnswer machine plans ask items n)
      → ((a b : ℤ) → P a b → IsOffAnswer machine plans ask items n a b) → (r : Reason) → IsBreach Due P r → IsAskedReason machine plans ask items n r
  asked-breach machine plans ask items n from to IsDue h = from h
  asked-breach machine plans ask items n from to (Illegal first second) h = to first second h
  asked-breach machine plans ask items n from to (NotLeast given least) h = absurd h
  asked-breach machine plans ask items n from to (Tree flaw) h = absurd h

  pub breach-by : (Due' : Type 0) (Q : ℤ → ℤ → Type 0) → (Due → Due') → ((a b : ℤ) → P a b → Q a b) → (r : Reason) → IsBreach Due P r → IsBreach Due' Q r
  breach-by Due' Q from to IsDue h = from h
  breach-by Due' Q from to (Illegal first second) h = to first second h
  breach-by Due' Q from to (NotLeast given least) h = absurd h
  breach-by Due' Q from to (Tree flaw) h = absurd h

  times-breach : (IsOne : Fault → Type 0) (machine : Machine) (now : ℕ) (exempt : Option SheetId) (plans' : List Plan) → (Due → HasPlainFault IsOne machine plans')
      → ((a b : ℤ) → P a b → HasFault IsOne machine now plans' a b) → (r : Reason) → IsBreach Due P r → IsTimesReason IsOne machine now exempt plans' r
  times-breach IsOne machine now exempt plans' from to IsDue h = from h
  times-breach IsOne machine now exempt plans' from to (Illegal first second) h = to first second h
  times-breach IsOne machine now exempt plans' from to (NotLeast given least) h = absurd h
  times-breach IsOne machine now exempt plans' from to (Tree flaw) h = absurd h

  pub wrong-stop : (Q : ℕ → Reason → Type 0) (w : Wrong) (here : ℕ) (f : Failure) → IfStop (IsFrom here (λ r. r ≡ reason_of w)) f → ((r : Reason) → IsBreach Due P r → Q here r) → IsOff Due P w → IfStop Q f
  wrong-stop Q w here failure.Memory from to h = tt
  wrong-stop Q w here (failure.Stop found) from to h = subst (λ n. Q n found.reason) (sym from.0) (subst (Q here) (sym from.1) (to (reason_of w) h))

module _ (Due Due' : Type 0) (P Q : ℤ → ℤ → Type 0) (from : Due → Due') (to : (a b : ℤ) → P a b → Q a b) where
  pub off-by : (w : Wrong) → IsOff Due P w → IsOff Due' Q w
  off-by w h = breach-by Due P Due' Q from to (reason_of w) h

  pub off-some : (o : Option Wrong) → IfSome o (IsOff Due P) → IfSome o (IsOff Due' Q)
  off-some None h = tt
  off-some (Some w) h = off-by w h

  pub off-ok : (E : Type 0) (r : Result (Option Wrong) E) → IfOk r (λ found. IfSome found (IsOff Due P)) → IfOk r (λ found. IfSome found (IsOff Due' Q))
  off-ok E (Ok o) h = off-some o h
  off-ok E (Err e) h = tt

-- ---- schedules

module _ (machine : Machine) (now : ℕ) (exempt : Option SheetId) (plans' : List Plan) (IsOne : Fault → Type 0) (early : (e : AnEarly) → IsOne (Early e) → IsEarly machine now (is_exempt exempt) plans' e) where
  of-fault : (fault : Fault) → IsOne fault → (r : Reason) → IsBreach (IsPlainFault machine plans' fault) (AreOfFault machine now plans' fault) r → IsTimesReason IsOne machine now exempt plans' r
  of-fault fault is r told =
      times-breach (IsPlainFault machine plans' fault) (AreOfFault machine now plans' fault) IsOne machine now exempt plans'
      (λ plain. record { fault = fault; is = is; plain = plain }) (λ a b numbers. record { fault = fault; is = is; told = numbers }) r told

  fault-times : (fault : Fault) (r : Reason) → IsOne fault → TellsFault machine now plans' fault r → IsTimesReason IsOne machine now exempt plans' r
  fault-times Asked r h told = of-fault Asked h r told
  fault-times (Unlike u) r h told = of-fault (Unlike u) h r told
  fault-times (Clash x) r h told = of-fault (Clash x) h r told
  fault-times (Floor x) r h told = of-fault (Floor x) h r told
  fault-times (Horizon x) r h told = of-fault (Horizon x) h r told
  fault-times (Order x) r h told = of-fault (Order x) h r told
  fault-times (Early e) r h told = subst (IsTimesReason IsOne machine now exempt plans') (sym told) (record { early = e; is = early e h; given_is = refl; least_is = refl })

pub settling-times : (machine : Machine) (now : ℕ) (plans plans' : List Plan) (fault : Fault) (r : Reason) → IsSettlingFault machine now plans plans' fault → TellsFault machine now plans' fault r
    → IsTimesReason (IsSettlingFault machine now plans plans') machine now None plans' r
settling-times machine now plans plans' = fault-times machine now None plans' (IsSettlingFault machine now plans plans') (λ e h. h)

pub asked-times : (machine : Machine) (plans : List Plan) (ask : Ask) (plans' : List Plan) (fault : Fault) (r : Reason) → IsAnswerFault machine plans ask plans' fault → TellsFault machine ask.now plans' fault r
    → IsTimesReason (IsAnswerFault machine plans ask plans') machine ask.now (exempt_of ask) plans' r
asked-times machine plans ask plans' = fault-times machine ask.now (exempt_of ask) plans' (IsAnswerFault machine plans ask plans') early where
  none : (e : AnEarly) (o : Option Plan) → IsAskedIn machine plans ask o (Early e) → ⊥
  none e None h = cc
  none e (Some p) h = h

  early : (e : AnEarly) → IsAnswerFault machine plans ask plans' (Early e) → IsEarly machine ask.now (is_exempt (exempt_of ask)) plans' e
  early e (inr h) = h
  early e (inl h) = absurd (none e _ h)

pub settled-reason : (machine : Machine) (plans : List Plan) (now : ℕ) (items : List Item) (plans' : List Plan) (taken : ℕ) → TakesMoves machine now None plans plans' items taken
    → (n : ℕ) (r : Reason) → IsTimesReason (IsSettlingFault machine now plans plans') machine now None plans' r → IsSettlingReason machine plans now items n r
settled-reason machine plans now items plans' taken takes n IsDue h = inr (plans', (taken, (takes, h)))
settled-reason machine plans now items plans' taken takes n (Illegal first second) h = inr (plans', (taken, (takes, h)))
settled-reason machine plans now items plans' taken takes n (NotLeast given least) h = (plans', (taken, (takes, h)))
settled-reason machine plans now items plans' taken takes n (Tree flaw) h = absurd h

pub asked-reason : (machine : Machine) (plans : List Plan) (ask : Ask) (items : List Item) (plans' : List Plan) → TellSchedule machine plans ask items plans'
    → (n : ℕ) (r : Reason) → IsTimesReason (IsAnswerFault machine plans ask plans') machine ask.now (exempt_of ask) plans' r → IsAskedReason machine plans ask items n r
asked-reason machine plans ask items plans' tells n IsDue h = inr (inr (inl (record { plans' = plans'; told = tells; fault = h })))
asked-reason machine plans ask items plans' tells n (Illegal first second) h = inr (inr (record { plans' = plans'; told = tells; fault = h }))
asked-reason machine plans ask items plans' tells n (NotLeast given least) h = (plans', (tells, h))
asked-reason machine plans ask items plans' tells n (Tree flaw) h = absurd h

-- ---- trees

module _ (machine : Machine) (plans : List Plan) (ask : Ask) (claim : Claim) where
  pub flaw-reason : (item : Item) (tree : BoundTree) (flaw : TreeFlaw) → item ≡ TreeItem tree → IsFlawOf (tree_flaw machine (live_part machine ask plans) ask (limit_of machine ask claim) tree) flaw
      → IfStop (λ n. IsTreeReason machine plans ask claim (item ∷ [])) (failure_of flaw)
  flaw-reason item tree Memory is h = tt
  flaw-reason item tree (RoomRow row) is h = (tree, ([], (ap (λ x. x ∷ []) is, h)))
  flaw-reason item tree (Uncovered node) is h = (tree, ([], (ap (λ x. x ∷ []) is, h)))
  flaw-reason item tree (NoSuchHop node hop) is h = (tree, ([], (ap (λ x. x ∷ []) is, h)))
  flaw-reason item tree (Weak node reach cap) is h = (tree, ([], (ap (λ x. x ∷ []) is, h)))
  flaw-reason item tree (NotDead node) is h = (tree, ([], (ap (λ x. x ∷ []) is, h)))

  first-of : (x y : Item) (xs ys : List Item) → x ∷ xs ≡ y ∷ ys → x ≡ y
  first-of x y xs ys e = cc

  pub first-reason : (items : List Item) (item : Item) → 1 ≤ length items → item ≡ get_or items 0 item → (r : Reason) → IsTreeReason machine plans ask claim (item ∷ []) r → IsTreeReason machine plans ask claim items r
  first-reason [] item some is r h = absurd (omega (arith, some))
  first-reason (x ∷ items) item some is IsDue h = ap is_tree (sym is) ∙ h
  first-reason (x ∷ items) item some is (Illegal first second) h = h
  first-reason (x ∷ items) item some is (NotLeast given least) h = h
  first-reason (x ∷ items) item some is (Tree flaw) (tree, (later, (e, flawed))) = (tree, (items, (ap (λ y. y ∷ items) (sym is ∙ first-of item (TreeItem tree) [] later e), flawed)))

  pub tree-reason : (items behind : List Item) → IsTreeDue machine plans ask items claim behind → (n : ℕ) → n ≡ length behind → (r : Reason) → IsTreeReason machine plans ask claim behind r → IsAskedReason machine plans ask items n r
  tree-reason items behind due n is IsDue h = inr (inr (inr (record { claim = claim; behind = behind; due = due; from = is; wrong = h })))
  tree-reason items behind due n is (Illegal first second) h = absurd h
  tree-reason items behind due n is (NotLeast given least) h = absurd h
  tree-reason items behind due n is (Tree flaw) h = record { claim = claim; behind = behind; due = due; from = is; wrong = h }
