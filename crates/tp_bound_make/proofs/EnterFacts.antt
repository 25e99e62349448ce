-- A way that was gone: its node stands where it is due.
use Rattle.std.proofs.Common.{◌≡◌, ℕ, zero, suc, ◌+◌, ◌<◌, ◌≤◌, Bool, true, cond, ◌&&◌, List, [], ◌∷◌, ◌++◌, length, refl, sym, ◌∙◌, ap, subst, arith, add-one, Result, Ok, Err, Option, Some, None}
use Rattle.std.specs.Prelude.{pos, slice_get, nat_lt, IfSome, MatchOption}
use Rattle.std.specs.Result.{IfOk, OnOk}
use Rattle.std.proofs.lemmas.Bool.{and_parts}
use Rattle.std.proofs.lemmas.Bool.Decides.{nat_tests}
use Rattle.tp_base.specs.Readings.{Reading}
use Rattle.tp_bounds.specs.declared.tree.Head.{Head}
use Rattle.tp_bounds.specs.declared.tree.Head.TheVariants.{At as AtHead, Stop as StopHead}
use Rattle.tp_bounds.specs.declared.tree.Node.{Node}
use Rattle.tp_bounds.specs.declared.tree.TreeRow.{TreeRow}
use Rattle.tp_machine.specs.declared.parts.HoldRule.{HoldRule}
use Rattle.tp_machine.specs.declared.machine.Machine.{Machine}
use Rattle.tp_schedule.specs.declared.parts.Ask.{Ask}
use Rattle.tp_schedule.specs.declared.parts.Plan.{Plan}
use Rattle.tp_schedule.specs.Choices.{Choice}
use Rattle.tp_schedule.specs.declared.parts.Origin.{Origin}
use Rattle.tp_schedule.specs.declared.parts.Origin.TheVariants.{Feeder as FromFeeder, Front as FromFront}
use Rattle.tp_constraints.specs.Suffixes.{IsInFlight, Suffix, order_in, with_place, with_stop}
use Rattle.tp_placing.specs.Boards.{BoardValue, content_of, suffix_of}
use Rattle.tp_bound_laws.specs.Places as places
use Rattle.tp_bound_laws.specs.Places.Due.{places as places_due, stop}
use Rattle.tp_bound_laws.specs.Places.{Due, has_choice, is_front_state, stop_due, is_name_of_resource, places_from, stand_of}
use Rattle.tp_bound_laws.proofs.AllowedHops.{le-to, lt-to}
use Rattle.tp_bound_laws.proofs.Lists.{number-same}
use Rattle.tp_constraints.specs.Ends.{HasEndBy}
use Rattle.tp_constraints.specs.Ways.{IsWay}
use Rattle.tp_bound_make.specs.TreeProgress.{Adds, Carries, GoesOn, IsEarly, IsEntered, IsOpen, PutsNode, Shows, below, branch_by, kids_of}
use Rattle.tp_bound_make.specs.declared.scene.ShowBranch.{ShowBranch}
use Rattle.tp_bound_make.proofs.CarryFacts.{own-suffix, suffix-same}

pub ok-three : {X E : Type 0} (P Q R : X → Type 0) (r : Result X E) → IfOk r P → IfOk r Q → IfOk r R → IfOk r (λ x. P x × (Q x × R x))
ok-three P Q R (Ok x) p q s = (p, (q, s))
ok-three P Q R (Err e) p q s = tt

-- a branch that the board carries is early on each board that is loaded the same
pub early-at : {N : Type 0} → (machine : Machine) (plans : List Plan) (ask : Ask) (limit : ℕ) (b : BoardValue N) (y : Suffix) (o : Option ShowBranch) → IfSome o (λ _. IsEarly machine ask limit b) → suffix_of b ≡ Some y → b.plans ≡ plans
    → IfSome o (λ _. HasEndBy machine plans ask y limit)
early-at machine plans ask limit b y None early carried same = tt
early-at machine plans ask limit b y (Some r) early carried same = subst (λ ps. HasEndBy machine ps ask y limit) same (early y carried)

pub early-on : {N : Type 0} → (machine : Machine) (plans : List Plan) (ask : Ask) (limit : ℕ) (b : BoardValue N) (y : Suffix) → suffix_of b ≡ Some y → b.plans ≡ plans → HasEndBy machine plans ask y limit → IsEarly machine ask limit b
early-on machine plans ask limit b y carried same early = own-suffix (suffix_of b) y carried (λ x. HasEndBy machine b.plans ask x limit) (subst (λ ps. HasEndBy machine ps ask y limit) (sym same) early)

-- a branch one place deeper
abbrev pub placed_below : ShowBranch → ShowBranch
placed_below r = record { depth = r.depth + 1; first = r.first; count = r.count; newest = r.newest; places = r.places + 1 }

module _ (machine : Machine) (plans : List Plan) (ask : Ask) (rows : List TreeRow) where
  pub places-due : (b : places.Branch) (rule : HoldRule) (place : ℕ) → place ≤ length (order_in machine plans b.x rule.resource.0) → places_from machine plans ask rows b rule place ≡ places_due b rule place ∷ []
  places-due b rule place within = let t = le-to place (length (order_in machine plans b.x rule.resource.0)) within in rw t refl

  pub place-stands : (r : ShowBranch) (x : Suffix) (rule : HoldRule) (place : ℕ) (name : List ℕ) → is_name_of_resource machine plans ask rows name (slice_get machine.resources rule.resource.0) ≡ true → place ≤ length (order_in machine plans x rule.resource.0)
      → stand_of machine plans ask rows (places_due (branch_by r x) rule place) (AtHead name place place) ≡ Some (record { branch = branch_by (placed_below r) (with_place place x); span = None })
  place-stands r x rule place name named within =
      let a = number-same place in
      let b = le-to place place (omega arith) in
      let c = le-to place (length (order_in machine plans x rule.resource.0)) within in
      let deeper : suc r.depth ≡ r.depth + 1 = sym (add-one r.depth) in
      rw (named, a, b, c) (ap (λ d. Some (record { branch = record { depth = d; first = r.first; x = with_place place x }; span = None })) deeper)

-- the node of a place
pub place-shows : (machine : Machine) (plans : List Plan) (ask : Ask) (sums : List (Option ℕ)) (limit : ℕ) (old new : List Node) (r : ShowBranch) (x : Suffix) (rule : HoldRule) (place : ℕ) (name : List ℕ)
    → ((rows : List TreeRow) → is_name_of_resource machine plans ask rows name (slice_get machine.resources rule.resource.0) ≡ true) → place ≤ length (order_in machine plans x rule.resource.0)
    → (more : List TreeRow → List Due) → PutsNode machine plans ask limit old new (branch_by (placed_below r) (with_place place x)) (AtHead name place place) more
    → Shows machine plans ask sums limit old new (λ rows. places_from machine plans ask rows (branch_by r x) rule place) (λ rows. more rows ++ places_from machine plans ask rows (branch_by r x) rule (place + 1))
place-shows machine plans ask sums limit old new r x rule place name named within more put rows has =
    let d = places_due (branch_by r x) rule place in
    let adds = put rows d (place-stands machine plans ask rows r x rule place name (named rows) within) in
    let next : places_from machine plans ask rows (branch_by r x) rule (suc place) ≡ places_from machine plans ask rows (branch_by r x) rule (place + 1) = ap (places_from machine plans ask rows (branch_by r x) rule) (sym (add-one place)) in
    subst (λ ds. Adds machine plans ask rows (pos limit) ds old new (more rows ++ places_from machine plans ask rows (branch_by r x) rule (place + 1))) (sym (places-due machine plans ask rows (branch_by r x) rule place within))
    (subst (λ ds. Adds machine plans ask rows (pos limit) (d ∷ []) old new (more rows ++ ds)) next adds)

module _ {N : Type 0} (reading : Reading N) (machine : Machine) (plans : List Plan) (ask : Ask) (sums : List (Option ℕ)) (limit : ℕ) (old new : List Node) where
  pub carries-same : (b b' : BoardValue N) (r : ShowBranch) (x : Suffix) → content_of reading b' ≡ content_of reading b → b'.plans ≡ b.plans → Carries reading machine ask b r x
      → Carries reading machine ask b' r x
  carries-same b b' r x same loaded c = record {
    carried = suffix-same reading (λ _ _. ⊥) machine ask b b' same ∙ c.carried;
    going = c.going;
    count = c.count;
    newest = c.newest;
    known = c.known;
    goal = c.goal;
    way = subst (λ ps. IsWay machine ps ask c.goal r.first x) (sym loaded) c.way;
    few = c.few;
    few_places = c.few_places;
    deep = c.deep;
  }

  -- a node that is put is a way that is gone
  pub enter-by : (o : Option ShowBranch) (b b' : BoardValue N) (parent child : ShowBranch) (y : Suffix) (head : Head) (ds behind : List TreeRow → List Due) → Carries reading machine ask b child y → content_of reading b' ≡ content_of reading b → b'.plans ≡ b.plans → below child < below parent
      → ((more : List TreeRow → List Due) → PutsNode machine plans ask limit old new (branch_by child y) head more → Shows machine plans ask sums limit old new ds (λ rows. more rows ++ behind rows))
      → MatchOption o (PutsNode machine plans ask limit old new (branch_by child y) head (λ _. [])) (λ r. (r ≡ child) × PutsNode machine plans ask limit old new (branch_by child y) head (λ rows. kids_of machine plans ask rows (branch_by child y)))
      → IfSome o (λ _. IsOpen machine ask child) → IfSome o (λ _. HasEndBy machine plans ask y limit) → IsEntered reading machine plans ask sums limit old new b' parent ds behind o
  enter-by None b b' parent child y head ds behind c same loaded smaller shows put may early = shows (λ _. []) put
  enter-by (Some r) b b' parent child y head ds behind c same loaded smaller shows put may early =
      subst (GoesOn reading machine plans ask sums limit old new b' parent ds behind) (sym put.0) (record {
        suffix = y;
        carries = carries-same b b' child y same loaded c;
        smaller = smaller;
        is_open = may;
        early = early;
        shows = shows (λ rows. kids_of machine plans ask rows (branch_by child y)) put.1;
      })

-- ---- the stop
abbrev pub stopped_below : ShowBranch → Suffix → places.Branch
stopped_below r x = record { depth = r.depth + 1; first = r.first; x = with_stop x }

choice-there : (machine : Machine) (plans : List Plan) (ask : Ask) (rows : List TreeRow) (count : ℕ) (cs : List Choice) → count ≡ length cs → has_choice machine plans ask rows cs ≡ nat_lt 0 count
choice-there machine plans ask rows zero [] e = refl
choice-there machine plans ask rows zero (k ∷ cs) e = absurd (omega (arith, e))
choice-there machine plans ask rows (suc n) [] e = absurd (omega (arith, e))
choice-there machine plans ask rows (suc n) (k ∷ cs) e = sym (lt-to 0 (suc n) (omega arith))

pub stop-dues : (machine : Machine) (plans : List Plan) (ask : Ask) (rows : List TreeRow) (r : ShowBranch) (x : Suffix) (t : Bool) → r.count ≡ length x.choices → (is_front_state ask.origin r.first && nat_lt 0 r.count) ≡ t
    → stop_due machine plans ask rows (branch_by r x) ≡ cond t (stop (branch_by r x) ∷ []) []
stop-dues machine plans ask rows r x t count is =
    let same : (is_front_state ask.origin r.first && has_choice machine plans ask rows x.choices) ≡ t = ap (λ c. is_front_state ask.origin r.first && c) (choice-there machine plans ask rows r.count x.choices count) ∙ is in
    ap (λ c. cond c (stop (branch_by r x) ∷ []) []) same

pub stop-shows : (machine : Machine) (plans : List Plan) (ask : Ask) (sums : List (Option ℕ)) (limit : ℕ) (old new : List Node) (r : ShowBranch) (x : Suffix) → r.count ≡ length x.choices → (is_front_state ask.origin r.first && nat_lt 0 r.count) ≡ true
    → PutsNode machine plans ask limit old new (stopped_below r x) StopHead (λ _. []) → Shows machine plans ask sums limit old new (λ rows. stop_due machine plans ask rows (branch_by r x)) (λ _. [])
stop-shows machine plans ask sums limit old new r x count due put rows has =
    let deeper : suc r.depth ≡ r.depth + 1 = sym (add-one r.depth) in
    let stands : stand_of machine plans ask rows (stop (branch_by r x)) StopHead ≡ Some (record { branch = stopped_below r x; span = None }) = ap (λ d. Some (record { branch = record { depth = d; first = r.first; x = with_stop x }; span = None })) deeper in
    subst (λ ds. Adds machine plans ask rows (pos limit) ds old new []) (sym (stop-dues machine plans ask rows r x true count due)) (put rows (stop (branch_by r x)) stands)

pub stop-front : (ask : Ask) (r : ShowBranch) → (is_front_state ask.origin r.first && nat_lt 0 r.count) ≡ true → is_front_state ask.origin r.first ≡ true
stop-front ask r due = (and_parts (is_front_state ask.origin r.first) (nat_lt 0 r.count) due).0

pub stop-some : (ask : Ask) (r : ShowBranch) → (is_front_state ask.origin r.first && nat_lt 0 r.count) ≡ true → IsInFlight ask.origin × (0 < r.count)
stop-some ask r due =
    let both = and_parts (is_front_state ask.origin r.first) (nat_lt 0 r.count) due in
    (go ask.origin both.0, lt-is both.1) where
      lt-is : nat_lt 0 r.count ≡ true → 0 < r.count
      lt-is e = grind (arith, nat_tests)

      go : (o : Origin) → is_front_state o r.first ≡ true → IsInFlight o
      go FromFeeder e = absurd cc
      go (FromFront state end count) e = tt

pub ok-none : {X E : Type 0} (P : Type 0) (Q : Option X → Type 0) (r : Result (Option X) E) → IfOk r (λ o. o ≡ None) → OnOk r P → (P → Q None) → IfOk r Q
ok-none P Q (Ok o) e p f = subst Q (sym e) (f p)
ok-none P Q (Err e) h p f = tt
