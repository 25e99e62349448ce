-- Each state that can be reached has a row, with a number no greater than what it takes.
use Rattle.std.proofs.Common.{◌≡◌, ◌≢◌, inl, inr, ℕ, ◌+◌, ◌≤◌, Bool, true, false, cond, ◌&&◌, ◌==◌, List, [], ◌∷◌, refl, sym, ◌∙◌, ap, subst, arith, AllPairs, Contains, Option, Some, None}
use Rattle.std.proofs.lemmas.Bool.{eqb-true, and_parts}
use Rattle.std.proofs.lemmas.List.Elements.{All-contains}
use Rattle.tp_bounds.specs.declared.tree.TreeRow.{TreeRow}
use Rattle.tp_machine.specs.declared.parts.ActId.{ActId}
use Rattle.tp_machine.specs.declared.parts.Face.{Face}
use Rattle.tp_machine.specs.declared.parts.Face.TheVariants.{Front, Back}
use Rattle.tp_machine.specs.declared.parts.State.{State}
use Rattle.tp_machine.specs.declared.machine.Machine.{Machine}
use Rattle.tp_schedule.specs.Routes.{Reaches, AreAllowed, least_sum, walk}
use Rattle.tp_schedule.specs.declared.parts.Ask.{Ask}
use Rattle.tp_schedule.proofs.Membership.{Contains-cons_cases}
use Rattle.tp_schedule.proofs.Pairs.{AllPairs-head, AllPairs-tail}
use Rattle.tp_schedule.proofs.Walks.{walk_first, AreAllowed-head, AreAllowed-tail}
use Rattle.tp_bound_laws.specs.Rows.{AreRoomRows, HasRow, is_same_bool, is_same_face, is_same_state, is_state, row_of, state_of}
use Rattle.tp_bound_laws.proofs.Lists.{number-same}

-- states that are the same
same_face-is : (a b : Face) → is_same_face a b ≡ true → a ≡ b
same_face-is Front Front e = refl
same_face-is Front Back e = absurd cc
same_face-is Back Front e = absurd cc
same_face-is Back Back e = refl

same_face-refl : (a : Face) → is_same_face a a ≡ true
same_face-refl Front = refl
same_face-refl Back = refl

same_bool-is : (a b : Bool) → is_same_bool a b ≡ true → a ≡ b
same_bool-is true b e = sym e
same_bool-is false true e = absurd cc
same_bool-is false false e = refl

same_bool-refl : (a : Bool) → is_same_bool a a ≡ true
same_bool-refl true = refl
same_bool-refl false = refl

pub same_state-is : (s q : State) → is_same_state s q ≡ true → s ≡ q
same_state-is s q e =
    let a = and_parts (s.loc.0 == q.loc.0 && is_same_face s.up q.up && is_same_bool s.front_done q.front_done) (is_same_bool s.back_done q.back_done) e in
    let b = and_parts (s.loc.0 == q.loc.0 && is_same_face s.up q.up) (is_same_bool s.front_done q.front_done) a.0 in
    let c = and_parts (s.loc.0 == q.loc.0) (is_same_face s.up q.up) b.0 in
    let loc = eqb-true s.loc.0 q.loc.0 c.0 in
    let up = same_face-is s.up q.up c.1 in
    let front = same_bool-is s.front_done q.front_done b.1 in
    let back = same_bool-is s.back_done q.back_done a.1 in
    λ i. record { loc = record { 0 = loc i }; up = up i; front_done = front i; back_done = back i }

pub same_state-refl : (s : State) → is_same_state s s ≡ true
same_state-refl s = rw (number-same s.loc.0, same_face-refl s.up, same_bool-refl s.front_done, same_bool-refl s.back_done) refl

pub state-is : (s : State) (o : Option State) → is_state s o ≡ true → o ≡ Some s
state-is s None e = absurd cc
state-is s (Some q) e = ap (λ r. Some r) (sym (same_state-is s q e))

pub state-refl : (s : State) (o : Option State) → o ≡ Some s → is_state s o ≡ true
state-refl s o e = rw e (same_state-refl s)

-- the row of a state is the one that it has
module _ (machine : Machine) where
  abbrev pub Differ : TreeRow → TreeRow → Type 0
  Differ r q = state_of machine r.state ≢ state_of machine q.state

  row-in : (rows : List TreeRow) (s : State) (r : TreeRow) → AllPairs Differ rows → Contains rows r → state_of machine r.state ≡ Some s → row_of machine rows s ≡ Some r.room
  row-in [] s r differ in' e = absurd (omega (arith, in'.1))
  row-in (q ∷ rows) s r differ in' e = elim (Contains-cons_cases q rows r in') [
    | inl is ↦ let t : is_state s (state_of machine q.state) ≡ true = state-refl s (state_of machine q.state) (ap (λ (k : TreeRow). state_of machine k.state) is ∙ e) in rw t (ap (λ (k : TreeRow). Some k.room) is)
    | inr later ↦ go (is_state s (state_of machine q.state)) refl later (row-in rows s r (AllPairs-tail Differ q rows differ) later e)
  ] where
    go : (b : Bool) → is_state s (state_of machine q.state) ≡ b → Contains rows r → row_of machine rows s ≡ Some r.room → cond b (Some q.room) (row_of machine rows s) ≡ Some r.room
    go true t later rest =
        let here = state-is s (state_of machine q.state) t in
        absurd (All-contains (Differ q) rows r (AllPairs-head Differ q rows differ) later (here ∙ sym e))
    go false t later rest = rest

  pub row-is : (ask : Ask) (rows : List TreeRow) → AreRoomRows machine ask rows → (s : State) (room : ℕ) → HasRow machine rows s room → row_of machine rows s ≡ Some room
  row-is ask rows are s room (r, in', named, is) = row-in rows s r are.differ in' named ∙ ap (λ n. Some n) is

  -- rows along a walk
  rows-along : (ask : Ask) (rows : List TreeRow) → AreRoomRows machine ask rows → (acts : List ActId) (s s' : State) (room : ℕ) → HasRow machine rows s room → AreAllowed machine ask.outs acts → walk machine ask.want acts s ≡ Some s'
      → (room' : ℕ) × HasRow machine rows s' room' × (room' ≤ room + least_sum machine acts)
  rows-along ask rows are [] s s' room has allowed leads = let same : s ≡ s' = cc in (room, subst (λ q. HasRow machine rows q room) same has, omega arith)
  rows-along ask rows are (act ∷ acts) s s' room has allowed leads =
      let first = walk_first machine ask.want act acts s s' leads in
      let next = are.steps s first.0 act room has (AreAllowed-head machine ask.outs act acts allowed) first.1 in
      let more = rows-along ask rows are acts first.0 s' next.0 next.1 (AreAllowed-tail machine ask.outs act acts allowed) first.2 in
      (more.0, more.1, omega (arith, next.2, more.2))

  -- a state that can be reached has a row, no greater than what leads there
  pub row-below : (ask : Ask) (rows : List TreeRow) → AreRoomRows machine ask rows → (acts : List ActId) (s : State) → AreAllowed machine ask.outs acts → Reaches machine ask acts s
      → (room : ℕ) × (row_of machine rows s ≡ Some room) × (room ≤ least_sum machine acts)
  row-below ask rows are acts s allowed reaches =
      let found = rows-along ask rows are acts reaches.start s 0 (are.starts reaches.start reaches.starts) allowed reaches.leads in
      (found.0, row-is ask rows are s found.0 found.1, omega (arith, found.2))
