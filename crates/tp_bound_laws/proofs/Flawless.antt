-- The bound trees are those without a flaw.
use Rattle.std.proofs.Common.{◌≡◌, ◌≢◌, inl, inr, ℕ, zero, suc, ◌+◌, ◌≤◌, ◌<◌, Bool, true, false, cond, not, ◌&&◌, ◌||◌, List, [], ◌∷◌, ◌++◌, length, refl, sym, ◌∙◌, ap, subst, arith, All, AllPairs, Contains, Option, Some, None, IsSome}
use Rattle.std.specs.Prelude.{ℤ, nat_le}
use Rattle.std.specs.List.{list_all, list_any}
use Rattle.std.specs.Str.{bytes_eq}
use Rattle.std.proofs.lemmas.Bool.{and_parts, and_from, cases_lt}
use Rattle.std.proofs.lemmas.Bool.Decides.{nat_tests}
use Rattle.std.proofs.lemmas.List.{append_assoc, append-nil}
use Rattle.std.proofs.lemmas.List.Elements.{All-append, All-cons, All-contains, All-nil, Contains-append_right}
use Rattle.std.proofs.lemmas.Option.{slice_get_within}
use Rattle.tp_bounds.specs.declared.tree.Node.{Node}
use Rattle.tp_bounds.specs.declared.tree.TreeRow.{TreeRow}
use Rattle.tp_machine.specs.declared.parts.ActId.{ActId}
use Rattle.tp_machine.specs.declared.parts.Feeder.{Feeder}
use Rattle.tp_machine.specs.declared.parts.State.{State}
use Rattle.tp_machine.specs.declared.machine.Machine.{Machine}
use Rattle.tp_schedule.specs.Routes.{is_act_allowed, least_of, step_by}
use Rattle.tp_schedule.specs.declared.parts.Ask.{Ask}
use Rattle.tp_schedule.specs.declared.parts.Plan.{Plan}
use Rattle.tp_schedule.proofs.Membership.{Contains-cons_cases, Contains-here, Contains-later, All-from_contains}
use Rattle.tp_schedule.proofs.Pairs.{AllPairs-append, AllPairs-cons, AllPairs-nil}
use Rattle.tp_bound_laws.specs.Flaws.{FlawlessIsBound, are_starts_kept, are_steps_kept, bad_node_from, bad_row, bad_row_from, flaw_or, has_row_by, is_good_row, is_row_after, is_row_of, is_step_kept, row_flaw_or, tree_flaw}
use Rattle.tp_bound_laws.specs.Places.{Due}
use Rattle.tp_bound_laws.specs.Rows.{AreRoomRows, HasRow, is_state, state_of}
use Rattle.tp_bound_laws.specs.Trees.{Covers, IsBoundTree, Look, goals_due, look}
use Rattle.tp_bound_laws.specs.Trees.Look.{due, wrong}
use Rattle.std.proofs.lemmas.List.Elements.{All-head}
use Rattle.std.proofs.lemmas.Slice.Eq.{bytes_eq-Decides}
use Rattle.tp_choices.proofs.Lists.{AllPairs-across}
use Rattle.tp_schedule.specs.LocationSets.{has}
use Rattle.tp_schedule.specs.Routes.{IsStartFrom, fresh}
use Rattle.tp_schedule.specs.declared.parts.Origin.{Origin}
use Rattle.tp_schedule.specs.declared.parts.Origin.TheVariants.{Feeder as FromFeeder, Front as FromFront}
use Rattle.tp_bound_laws.proofs.Befores.{some-is, step-action}
use Rattle.tp_bound_laws.proofs.RowFacts.{state-is, state-refl}

-- ---- nodes
module _ (machine : Machine) (plans : List Plan) (ask : Ask) (rows : List TreeRow) (limit : ℤ) where
  covers-flawless : (nodes : List Node) (ds : List Due) (k : ℕ) → Covers machine plans ask rows limit ds nodes → bad_node_from machine plans ask rows limit k ds nodes ≡ None
  covers-flawless [] [] k c = refl
  covers-flawless [] (d ∷ ds) k c = absurd c
  covers-flawless (n ∷ nodes) [] k c = absurd c
  covers-flawless (n ∷ nodes) (d ∷ ds) k (more, e, rest) =
      ap (flaw_or k (λ m. bad_node_from machine plans ask rows limit (suc k) (m ++ ds) nodes)) e ∙ covers-flawless nodes (more ++ ds) (suc k) rest

  flawless-covers : (nodes : List Node) (ds : List Due) (k : ℕ) → bad_node_from machine plans ask rows limit k ds nodes ≡ None → Covers machine plans ask rows limit ds nodes
  flawless-covers [] [] k e = tt
  flawless-covers [] (d ∷ ds) k e = absurd cc
  flawless-covers (n ∷ nodes) [] k e = absurd cc
  flawless-covers (n ∷ nodes) (d ∷ ds) k e = go (look machine plans ask rows limit d n) refl e (λ m. flawless-covers nodes (m ++ ds) (suc k)) where
    go : (l : Look) → look machine plans ask rows limit d n ≡ l → flaw_or k (λ m. bad_node_from machine plans ask rows limit (suc k) (m ++ ds) nodes) l ≡ None
        → ((m : List Due) → bad_node_from machine plans ask rows limit (suc k) (m ++ ds) nodes ≡ None → Covers machine plans ask rows limit (m ++ ds) nodes) → Covers machine plans ask rows limit (d ∷ ds) (n ∷ nodes)
    go (due m) u h rest = (m, u, rest m h)
    go (wrong flaw) u h rest = absurd cc

-- ---- lists and tests
any-in : {X : Type 0} (test : X → Bool) (xs : List X) → list_any test xs ≡ true → (x : X) × Contains xs x × (test x ≡ true)
any-in test [] e = absurd cc
any-in {X} test (x ∷ xs) e = go (test x) refl e (any-in test xs) where
  go : (b : Bool) → test x ≡ b → (b || list_any test xs) ≡ true → (list_any test xs ≡ true → (y : X) × Contains xs y × (test y ≡ true)) → (y : X) × Contains (x ∷ xs) y × (test y ≡ true)
  go true u h rest = (x, Contains-here x xs, u)
  go false u h rest = let r = rest h in (r.0, Contains-later x xs r.0 r.1, r.2)

any-from : {X : Type 0} (test : X → Bool) (xs : List X) (x : X) → Contains xs x → test x ≡ true → list_any test xs ≡ true
any-from test [] x in' e = absurd (omega (arith, in'.1))
any-from test (y ∷ xs) x in' e = elim (Contains-cons_cases y xs x in') [
  | inl is ↦ let t : test y ≡ true = subst (λ k. test k ≡ true) (sym is) e in rw t refl
  | inr later ↦ let rest = any-from test xs x later e in go (test y) rest
] where
  go : (b : Bool) → list_any test xs ≡ true → (b || list_any test xs) ≡ true
  go true h = refl
  go false h = h

none-in : {X : Type 0} (test : X → Bool) (xs : List X) (x : X) → list_any test xs ≡ false → Contains xs x → test x ≡ true → ⊥
none-in test xs x none in' e = let some = any-from test xs x in' e in absurd cc

none-from : {X : Type 0} (test : X → Bool) (xs : List X) → ((x : X) → Contains xs x → test x ≡ true → ⊥) → list_any test xs ≡ false
none-from test xs no-one = go (list_any test xs) refl where
  go : (b : Bool) → list_any test xs ≡ b → list_any test xs ≡ false
  go true e = let r = any-in test xs e in absurd (no-one r.0 r.1 r.2)
  go false e = e

all-at : {X : Type 0} (test : X → Bool) (xs : List X) (x : X) → list_all test xs ≡ true → Contains xs x → test x ≡ true
all-at test [] x e in' = absurd (omega (arith, in'.1))
all-at test (y ∷ xs) x e in' =
    let both = and_parts (test y) (list_all test xs) e in
    elim (Contains-cons_cases y xs x in') [
      | inl is ↦ subst (λ k. test k ≡ true) is both.0
      | inr later ↦ all-at test xs x both.1 later
    ]

all-from : {X : Type 0} (test : X → Bool) (xs : List X) → ((x : X) → Contains xs x → test x ≡ true) → list_all test xs ≡ true
all-from test [] each = refl
all-from test (x ∷ xs) each = and_from (test x) (list_all test xs) (each x (Contains-here x xs)) (all-from test xs (λ y in'. each y (Contains-later x xs y in')))

le-from : (a b : ℕ) → nat_le a b ≡ true → a ≤ b
le-from a b e = grind (arith, nat_tests)

le-to : (a b : ℕ) → a ≤ b → nat_le a b ≡ true
le-to a b e = grind (arith, nat_tests)

unless-true : (a b : Bool) → (not a || b) ≡ true → a ≡ true → b ≡ true
unless-true true b e h = e
unless-true false b e h = absurd cc

true-unless : (a b : Bool) → (a ≡ true → b ≡ true) → (not a || b) ≡ true
true-unless true b e = e refl
true-unless false b e = refl

-- ---- rows
module _ (machine : Machine) (ask : Ask) (rows : List TreeRow) where
  abbrev Differ : TreeRow → TreeRow → Type 0
  Differ r q = state_of machine r.state ≢ state_of machine q.state

  has-to : (s : State) (top : ℕ) → has_row_by machine ask rows s top ≡ true → (room : ℕ) × HasRow machine rows s room × (room ≤ top)
  has-to s top e =
      let r = any-in (λ q. is_state s (state_of machine q.state) && nat_le q.room top) rows e in
      let both = and_parts (is_state s (state_of machine r.0.state)) (nat_le r.0.room top) r.2 in
      (r.0.room, (r.0, r.1, state-is s (state_of machine r.0.state) both.0, refl), le-from r.0.room top both.1)

  has-from : (s : State) (room top : ℕ) → HasRow machine rows s room → room ≤ top → has_row_by machine ask rows s top ≡ true
  has-from s room top (r, in', named, is) le =
      any-from (λ q. is_state s (state_of machine q.state) && nat_le q.room top) rows r in' (and_from (is_state s (state_of machine r.state)) (nat_le r.room top) (state-refl s (state_of machine r.state) named) (le-to r.room top (omega (arith, is, le))))

  steps-at : (s : State) (room n i : ℕ) → are_steps_kept machine ask rows s room n ≡ true → i < n → is_step_kept machine ask rows s room (record { 0 = i }) ≡ true
  steps-at s room zero i e below = absurd (omega (arith, below))
  steps-at s room (suc n) i e below =
      let both = and_parts (are_steps_kept machine ask rows s room n) (is_step_kept machine ask rows s room (record { 0 = n })) e in
      elim (cases_lt i n) [
        | inl l ↦ steps-at s room n i both.0 l
        | inr l ↦ let same : n ≡ i = omega arith in subst (λ k. is_step_kept machine ask rows s room (record { 0 = k }) ≡ true) same both.1
      ]

  steps-all : (s : State) (room n : ℕ) → ((act : ActId) → is_step_kept machine ask rows s room act ≡ true) → are_steps_kept machine ask rows s room n ≡ true
  steps-all s room zero each = refl
  steps-all s room (suc n) each = and_from (are_steps_kept machine ask rows s room n) (is_step_kept machine ask rows s room (record { 0 = n })) (steps-all s room n each) (each (record { 0 = n }))

  -- a good row
  record Good (earlier : List TreeRow) (r : TreeRow) : Type 0 where
    s : State
    named : state_of machine r.state ≡ Some s
    first : list_any (λ q. is_state s (state_of machine q.state)) earlier ≡ false
    steps : are_steps_kept machine ask rows s r.room (length machine.actions) ≡ true

  not-true : (b : Bool) → not b ≡ true → b ≡ false
  not-true true e = absurd cc
  not-true false e = refl

  good-to : (earlier : List TreeRow) (r : TreeRow) → is_good_row machine ask rows earlier r ≡ true → Good earlier r
  good-to earlier r e = go (state_of machine r.state) refl e where
    go : (o : Option State) → state_of machine r.state ≡ o → is_row_of machine ask rows earlier r.room o ≡ true → Good earlier r
    go None u h = absurd cc
    go (Some s) u h =
        let both = and_parts (not (list_any (λ q. is_state s (state_of machine q.state)) earlier)) (are_steps_kept machine ask rows s r.room (length machine.actions)) h in
        record { s = s; named = u; first = not-true (list_any (λ q. is_state s (state_of machine q.state)) earlier) both.0; steps = both.1 }

  good-from : (earlier : List TreeRow) (r : TreeRow) → Good earlier r → is_good_row machine ask rows earlier r ≡ true
  good-from earlier r g =
      subst (λ o. is_row_of machine ask rows earlier r.room o ≡ true) (sym g.named)
      (let f = g.first in let st = g.steps in and_from (not (list_any (λ q. is_state g.s (state_of machine q.state)) earlier)) (are_steps_kept machine ask rows g.s r.room (length machine.actions)) (rw f refl) st)

  abbrev IsStepped : TreeRow → Type 0
  IsStepped r = (s : State) → state_of machine r.state ≡ Some s → are_steps_kept machine ask rows s r.room (length machine.actions) ≡ true

  -- what good rows give, one after another
  record Rows (some : List TreeRow) : Type 0 where
    known : All (λ r. IsSome (state_of machine r.state)) some
    differ : AllPairs Differ some
    stepped : All IsStepped some

  one-more : (earlier : List TreeRow) (r : TreeRow) → Rows earlier → Good earlier r → Rows (earlier ++ r ∷ [])
  one-more earlier r rs g = record {
    known = All-append (λ q. IsSome (state_of machine q.state)) earlier (r ∷ []) rs.known (All-cons (λ q. IsSome (state_of machine q.state)) r [] (subst IsSome (sym g.named) refl) (All-nil (λ q. IsSome (state_of machine q.state))));
    differ = AllPairs-append Differ earlier (r ∷ []) rs.differ (AllPairs-cons Differ r [] (All-nil (Differ r)) (AllPairs-nil Differ))
        (All-from_contains (λ q. All (Differ q) (r ∷ [])) earlier (λ q in'. All-cons (Differ q) r [] (λ same. none-in (λ k. is_state g.s (state_of machine k.state)) earlier q g.first in' (state-refl g.s (state_of machine q.state) (same ∙ g.named))) (All-nil (Differ q))));
    stepped = All-append IsStepped earlier (r ∷ []) rs.stepped (All-cons IsStepped r [] (λ s named. let same : g.s ≡ s = some-is g.s s (sym g.named ∙ named) in subst (λ k. are_steps_kept machine ask rows k r.room (length machine.actions) ≡ true) same g.steps) (All-nil IsStepped));
  }

  from-none : (rest earlier : List TreeRow) (k : ℕ) → Rows earlier → bad_row_from machine ask rows k earlier rest ≡ None → Rows (earlier ++ rest) × (are_starts_kept machine ask rows ask.origin ≡ true)
  from-none [] earlier k rs e = (subst Rows (sym (append-nil earlier)) rs, go (are_starts_kept machine ask rows ask.origin) e) where
    go : (b : Bool) → cond b None (Some k) ≡ None → b ≡ true
    go true h = refl
    go false h = absurd cc
  from-none (r ∷ rest) earlier k rs e = go (is_good_row machine ask rows earlier r) refl e (from-none rest (earlier ++ r ∷ []) (suc k)) where
    go : (b : Bool) → is_good_row machine ask rows earlier r ≡ b → cond b (bad_row_from machine ask rows (suc k) (earlier ++ r ∷ []) rest) (Some k) ≡ None
        → (Rows (earlier ++ r ∷ []) → bad_row_from machine ask rows (suc k) (earlier ++ r ∷ []) rest ≡ None → Rows ((earlier ++ r ∷ []) ++ rest) × (are_starts_kept machine ask rows ask.origin ≡ true)) → Rows (earlier ++ r ∷ rest) × (are_starts_kept machine ask rows ask.origin ≡ true)
    go true u h next = let n = next (one-more earlier r rs (good-to earlier r u)) h in (subst Rows (append_assoc earlier (r ∷ []) rest) n.0, n.1)
    go false u h next = absurd cc

  -- starts
  abbrev is_fed : Feeder → Bool
  is_fed f = bytes_eq f.media ask.want.media && not (has ask.empty f.loc)

  starts-to : (o : Origin) → are_starts_kept machine ask rows o ≡ true → (s : State) → IsStartFrom machine ask o s → HasRow machine rows s 0
  starts-to FromFeeder e s (any, free) =
      let test : (not (is_fed any.1) || has_row_by machine ask rows (fresh any.1.loc) 0) ≡ true = all-at (λ f. not (is_fed f) || has_row_by machine ask rows (fresh f.loc) 0) machine.feeders any.1 e (any.0, any.2, any.3) in
      let here : has ask.empty any.1.loc ≡ false = subst (λ (q : State). has ask.empty q.loc ≡ false) any.4.1 free in
      let fed : is_fed any.1 ≡ true = and_from (bytes_eq any.1.media ask.want.media) (not (has ask.empty any.1.loc)) ((bytes_eq-Decides any.1.media ask.want.media).1 any.4.0) (rw here refl) in
      let r = has-to (fresh any.1.loc) 0 (unless-true (is_fed any.1) (has_row_by machine ask rows (fresh any.1.loc) 0) test fed) in
      let zero-is : r.0 ≡ 0 = omega (arith, r.2) in
      subst (λ q. HasRow machine rows q 0) (sym any.4.1) (subst (HasRow machine rows (fresh any.1.loc)) zero-is r.1)
  starts-to (FromFront state end count) e s is =
      let r = has-to state 0 e in
      let zero-is : r.0 ≡ 0 = omega (arith, r.2) in
      subst (λ q. HasRow machine rows q 0) (sym is) (subst (HasRow machine rows state) zero-is r.1)

  starts-from : (o : Origin) → ((s : State) → IsStartFrom machine ask o s → HasRow machine rows s 0) → are_starts_kept machine ask rows o ≡ true
  starts-from FromFeeder starts = all-from (λ f. not (is_fed f) || has_row_by machine ask rows (fresh f.loc) 0) machine.feeders
      (λ f in'. true-unless (is_fed f) (has_row_by machine ask rows (fresh f.loc) 0) (λ fed.
      (let both = and_parts (bytes_eq f.media ask.want.media) (not (has ask.empty f.loc)) fed in
      let free : has ask.empty f.loc ≡ false = not-true (has ask.empty f.loc) both.1 in
      has-from (fresh f.loc) 0 0 (starts (fresh f.loc) ((in'.0, f, in'.1, in'.2, ((bytes_eq-Decides f.media ask.want.media).0 both.0, refl)), free)) (omega arith))))
  starts-from (FromFront state end count) starts = has-from state 0 0 (starts state refl) (omega arith)

  rows-to : bad_row machine ask rows ≡ None → AreRoomRows machine ask rows
  rows-to e =
      let n = from-none rows [] 0 (record { known = All-nil (λ r. IsSome (state_of machine r.state)); differ = AllPairs-nil Differ; stepped = All-nil IsStepped }) e in
      let rs : Rows rows = n.0 in
      record {
        known = rs.known;
        differ = rs.differ;
        starts = λ s start. starts-to ask.origin n.1 s start;
        steps = λ s s' act room has allowed step. go rs s s' act room has allowed step;
      } where
        go : Rows rows → (s s' : State) (act : ActId) (room : ℕ) → HasRow machine rows s room → is_act_allowed machine ask.outs act ≡ true → step_by machine ask.want act s ≡ Some s' → (room' : ℕ) × HasRow machine rows s' room' × (room' ≤ room + least_of machine act)
        go rs s s' act room (r, in', named, is) allowed step =
            let a = step-action machine ask.want act s s' step in
            let within = slice_get_within machine.actions act.0 a.0 a.1 in
            let kept = steps-at s r.room (length machine.actions) act.0 (All-contains IsStepped rows r rs.stepped in' s named) within in
            let after = unless-true (is_act_allowed machine ask.outs act) (is_row_after machine ask rows (r.room + least_of machine act) (step_by machine ask.want act s)) kept allowed in
            let here : has_row_by machine ask rows s' (r.room + least_of machine act) ≡ true = subst (λ o. is_row_after machine ask rows (r.room + least_of machine act) o ≡ true) step after in
            let f = has-to s' (r.room + least_of machine act) here in
            (f.0, f.1, omega (arith, f.2, is))

  to-none : AreRoomRows machine ask rows → (rest earlier : List TreeRow) (k : ℕ) → earlier ++ rest ≡ rows → bad_row_from machine ask rows k earlier rest ≡ None
  to-none are [] earlier k e = let s = starts-from ask.origin are.starts in rw s refl
  to-none are (r ∷ rest) earlier k e =
      let good = good-from earlier r (row-good are earlier r rest e) in
      rw good (to-none are rest (earlier ++ r ∷ []) (suc k) (append_assoc earlier (r ∷ []) rest ∙ e)) where
        some-of : (o : Option State) → IsSome o → (s : State) × (o ≡ Some s)
        some-of None h = absurd cc
        some-of (Some s) h = (s, refl)

        row-good : AreRoomRows machine ask rows → (earlier : List TreeRow) (r : TreeRow) (rest : List TreeRow) → earlier ++ r ∷ rest ≡ rows → Good earlier r
        row-good are earlier r rest e =
            let in' : Contains rows r = subst (λ xs. Contains xs r) e (Contains-append_right earlier (r ∷ rest) r (Contains-here r rest)) in
            let s = some-of (state_of machine r.state) (All-contains (λ q. IsSome (state_of machine q.state)) rows r are.known in') in
            record {
              s = s.0;
              named = s.1;
              first = none-from (λ q. is_state s.0 (state_of machine q.state)) earlier (λ q in-q same.
                  let apart : Differ q r = All-head (Differ q) r rest (AllPairs-across Differ earlier (r ∷ rest) q (subst (AllPairs Differ) (sym e) are.differ) in-q) in
                  apart (state-is s.0 (state_of machine q.state) same ∙ sym s.1));
              steps = steps-all s.0 r.room (length machine.actions) (λ act. true-unless (is_act_allowed machine ask.outs act) (is_row_after machine ask rows (r.room + least_of machine act) (step_by machine ask.want act s.0)) (λ allowed. after s.0 act r in' s.1 allowed (step_by machine ask.want act s.0) refl));
            } where
              after : (s : State) (act : ActId) (q : TreeRow) → Contains rows q → state_of machine q.state ≡ Some s → is_act_allowed machine ask.outs act ≡ true → (o : Option State) → step_by machine ask.want act s ≡ o → is_row_after machine ask rows (q.room + least_of machine act) o ≡ true
              after s act q in-q named allowed None u = refl
              after s act q in-q named allowed (Some s') u =
                  let f = are.steps s s' act q.room (q, in-q, named, refl) allowed u in
                  has-from s' f.0 (q.room + least_of machine act) f.1 f.2

pub flawless_is_bound : FlawlessIsBound
flawless_is_bound machine plans ask limit tree = (
  λ is.
      let rows-good : bad_row machine ask tree.rows ≡ None = to-none machine ask tree.rows is.rows tree.rows [] 0 refl in
      ap (row_flaw_or (bad_node_from machine plans ask tree.rows limit 0 (goals_due machine plans ask tree.rows limit) tree.nodes)) rows-good
      ∙ covers-flawless machine plans ask tree.rows limit tree.nodes (goals_due machine plans ask tree.rows limit) 0 is.nodes,
  λ e. go e (bad_row machine ask tree.rows) refl e,
) where
  go : tree_flaw machine plans ask limit tree ≡ None → (o : Option ℕ) → bad_row machine ask tree.rows ≡ o → row_flaw_or (bad_node_from machine plans ask tree.rows limit 0 (goals_due machine plans ask tree.rows limit) tree.nodes) o ≡ None → IsBoundTree machine plans ask limit tree
  go e None u h = record { rows = rows-to machine ask tree.rows u; nodes = flawless-covers machine plans ask tree.rows limit tree.nodes (goals_due machine plans ask tree.rows limit) 0 h }
  go e (Some k) u h = absurd cc
