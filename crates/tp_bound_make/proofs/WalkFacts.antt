-- One way of a branch, from a mark of the board to the way back.
use Rattle.std.proofs.Common.{◌≡◌, ℕ, suc, ◌+◌, ◌-◌, ◌<◌, ◌≤◌, List, [], ◌∷◌, ◌++◌, length, ◌∙◌, ap, subst, arith, Result, Option, Some, None}
use Rattle.std.specs.Prelude.{pos}
use Rattle.std.specs.Result.{OnOk}
use Rattle.std.proofs.lemmas.List.{length-append}
use Rattle.tp_base.specs.Readings.{Reading}
use Rattle.tp_bounds.specs.declared.tree.Node.{Node}
use Rattle.tp_bounds.specs.declared.tree.TreeRow.{TreeRow}
use Rattle.tp_machine.specs.declared.machine.Machine.{Machine}
use Rattle.tp_schedule.specs.declared.parts.Ask.{Ask}
use Rattle.tp_schedule.specs.declared.parts.Plan.{Plan}
use Rattle.tp_constraints.specs.Suffixes.{Suffix}
use Rattle.tp_placing.specs.Boards.{BoardValue, content_of, past_of, suffix_of}
use Rattle.tp_placing.specs.Laws.{MarkKeeps}
use Rattle.tp_bound_laws.specs.Places.{Due}
use Rattle.tp_bound_make.specs.TreeProgress.{Adds, Carries, GoesOn, HasMarks, IsBack, IsEntered, IsSet, IsSince, Shows, below, branch_by, hold_of, kids_of, left_of}
use Rattle.tp_bound_make.specs.declared.scene.ShowBranch.{ShowBranch}
use Rattle.tp_bound_make.proofs.AddFacts.{adds-behind, adds-trans}
use Rattle.tp_bound_make.proofs.CarryFacts.{own-suffix}
use Rattle.tp_bound_make.proofs.EnterFacts.{carries-same}
use Rattle.tp_bound_make.proofs.MarkSteps.{IsMarked, load-of}
use Rattle.tp_bound_make.proofs.ReasonFacts.{on-map}

module _ (machine : Machine) (plans : List Plan) (ask : Ask) (sums : List (Option ℕ)) (limit : ℕ) where
  pub shows-trans : (one two three : List Node) (ds more most : List TreeRow → List Due) → Shows machine plans ask sums limit one two ds more → Shows machine plans ask sums limit two three more most → Shows machine plans ask sums limit one three ds most
  shows-trans one two three ds more most f g rows has = adds-trans machine plans ask rows (pos limit) (ds rows) (more rows) (most rows) one two three (f rows has) (g rows has)

  pub shows-to : (old new : List Node) (ds more more' : List TreeRow → List Due) → ((rows : List TreeRow) → more rows ≡ more' rows) → Shows machine plans ask sums limit old new ds more → Shows machine plans ask sums limit old new ds more'
  shows-to old new ds more more' e f rows has = subst (λ us. Adds machine plans ask rows (pos limit) (ds rows) old new us) (e rows) (f rows has)

  pub shows-none : (old : List Node) (ds : List TreeRow → List Due) → Shows machine plans ask sums limit old old ds ds
  shows-none old ds rows has start rest lead = lead

module _ {N : Type 0} (reading : Reading N) (machine : Machine) (ask : Ask) where
  pub set-since : (b b' : BoardValue N) → IsSince reading b b' machine → IsSet reading machine ask b → IsSet reading machine ask b'
  set-since b b' since s = record { stands = since.stands s.stands; asked = since.load.ask ∙ s.asked; goal = s.goal }

  -- below a branch that is split all is gone
  pub gone-deeper : (plans : List Plan) (sums : List (Option ℕ)) (limit : ℕ) (one two three : List Node) (b : BoardValue N) (parent child : ShowBranch) (ds behind : List TreeRow → List Due) → GoesOn reading machine plans ask sums limit one two b parent ds behind child
      → ((y : Suffix) → suffix_of b ≡ Some y → Shows machine plans ask sums limit two three (λ rows. kids_of machine plans ask rows (branch_by child y)) (λ _. [])) → Shows machine plans ask sums limit one three ds behind
  gone-deeper plans sums limit one two three b parent child ds behind g sub =
      let kids = λ (rows : List TreeRow). kids_of machine plans ask rows (branch_by child g.suffix) in
      shows-trans machine plans ask sums limit one two three ds (λ rows. kids rows ++ behind rows) behind g.shows
      (λ rows has. adds-behind machine plans ask rows (pos limit) (kids rows) [] (behind rows) two three (sub g.suffix g.carries.carried rows has))

  -- there are marks for what is below
  pub marks-below : (b b' : BoardValue N) (n k : ℕ) → length (past_of reading b) + n ≤ reading.max_marks b.net - 1 → k < n → IsSince reading b b' machine → HasMarks reading (k + 1) b'
  marks-below b b' n k spare less since = let p = ap length since.past_same in let q = since.room in omega (arith, p, q, spare, less)

  -- a board that was taken back carries what it carried, and has a mark to spare
  pub record IsStill (b b' : BoardValue N) (r : ShowBranch) (x : Suffix) : Type 0 where
    pub set : IsSet reading machine ask b'
    pub plans : b'.plans ≡ b.plans
    pub carries : Carries reading machine ask b' r x
    pub spare : HasMarks reading 1 b'

  pub still : (b b' : BoardValue N) (r : ShowBranch) (x : Suffix) → IsBack reading b b' machine → IsSet reading machine ask b → Carries reading machine ask b r x → HasMarks reading (below r + 1) b
      → IsStill b b' r x
  still b b' r x back set c marks = record {
    set = set-since b b' back.since set;
    plans = back.since.load.plans;
    carries = carries-same reading machine b.plans ask [] 0 [] [] b b' r x back.content_same back.since.load.plans c;
    spare = let was = ap length back.since.past_same in let room = back.since.room in omega (arith, was, room, marks);
  }

module _ {N A : Type 0} (reading : Reading N) (untouched : N → A) (machine : Machine) (ask : Ask) where
  -- the board is marked at a way of the branch that it carries
  pub record IsAtWay (b b' : BoardValue N) (r : ShowBranch) (x : Suffix) : Type 0 where
    pub set : IsSet reading machine ask b'
    pub plans : b'.plans ≡ b.plans
    pub carries : Carries reading machine ask b' r x
    pub spare : length (past_of reading b') + below r ≤ reading.max_marks b'.net - 1

  pub at-way : MarkKeeps reading untouched → (b b0 b1 : BoardValue N) (r : ShowBranch) (x : Suffix) (mark : ℕ) → IsBack reading b b0 machine → IsMarked reading untouched b0 b1 mark → IsSet reading machine ask b
      → Carries reading machine ask b r x → HasMarks reading (below r + 1) b → IsAtWay b b1 r x
  at-way keeps b b0 b1 r x mark back m set c marks =
      let load = load-of reading untouched b0 b1 m.untouched_same in
      let set0 = set-since reading machine ask b b0 back.since set in
      let more = ap length m.past_more in
      let one = length-append (past_of reading b0) (content_of reading b0 ∷ []) in
      let was = ap length back.since.past_same in
      let room = back.since.room in
      let room1 = m.room_same in
      record {
        set = record { stands = keeps b0 b1 machine m.content_same m.untouched_same m.past_more set0.stands; asked = load.ask ∙ set0.asked; goal = set0.goal };
        plans = load.plans ∙ back.since.load.plans;
        carries = carries-same reading machine b.plans ask [] 0 [] [] b b1 r x (m.content_same ∙ back.content_same) (load.plans ∙ back.since.load.plans) c;
        spare = omega (arith, more, one, was, room, room1, marks);
      }

-- one way is gone: what was due from it on is due from the next one on
module _ {N A : Type 0} (reading : Reading N) (untouched : N → A) (machine : Machine) (ask : Ask) (sums : List (Option ℕ)) (limit : ℕ) (b b1 b2 : BoardValue N) (r : ShowBranch) (way : ℕ) where
  abbrev pub left_by : List Plan → Suffix → ℕ → List TreeRow → List Due
  left_by plans x n rows = left_of machine plans ask rows (branch_by r x) (hold_of machine r) n

  abbrev pub HasGone : List Node → List Node → Type 0
  HasGone one two = (x : Suffix) → suffix_of b ≡ Some x → Shows machine b.plans ask sums limit one two (left_by b.plans x way) (left_by b.plans x (suc way))

  abbrev pub HasEntered : List Node → List Node → Option ShowBranch → Type 0
  HasEntered one two o = (x : Suffix) → suffix_of b1 ≡ Some x → IsEntered reading machine b1.plans ask sums limit one two b2 r (left_by b1.plans x way) (left_by b1.plans x (suc way)) o

  abbrev pub HasShown : List Node → List Node → ShowBranch → Type 0
  HasShown one two child = (y : Suffix) → suffix_of b2 ≡ Some y → Shows machine b2.plans ask sums limit one two (λ rows. kids_of machine b2.plans ask rows (branch_by child y)) (λ _. [])

  entered-here : (one two : List Node) (o : Option ShowBranch) (x : Suffix) → IsAtWay reading untouched machine ask b b1 r x → HasEntered one two o
      → IsEntered reading machine b.plans ask sums limit one two b2 r (left_by b.plans x way) (left_by b.plans x (suc way)) o
  entered-here one two o x at entered = subst (λ ps. IsEntered reading machine ps ask sums limit one two b2 r (left_by ps x way) (left_by ps x (suc way)) o) at.plans (entered x at.carries.carried)

  pub gone-none : (one two : List Node) (o : Option ShowBranch) (x : Suffix) → suffix_of b ≡ Some x → IsAtWay reading untouched machine ask b b1 r x → o ≡ None → HasEntered one two o → HasGone one two
  gone-none one two o x carried at none entered =
      own-suffix (suffix_of b) x carried (λ y. Shows machine b.plans ask sums limit one two (left_by b.plans y way) (left_by b.plans y (suc way)))
      (subst (IsEntered reading machine b.plans ask sums limit one two b2 r (left_by b.plans x way) (left_by b.plans x (suc way))) none (entered-here one two o x at entered))

  -- the branch below which the walk goes on
  pub goes-on : (one two : List Node) (o : Option ShowBranch) (child : ShowBranch) (x : Suffix) → IsAtWay reading untouched machine ask b b1 r x → o ≡ Some child → HasEntered one two o
      → GoesOn reading machine b.plans ask sums limit one two b2 r (left_by b.plans x way) (left_by b.plans x (suc way)) child
  goes-on one two o child x at some entered =
      subst (IsEntered reading machine b.plans ask sums limit one two b2 r (left_by b.plans x way) (left_by b.plans x (suc way))) some (entered-here one two o x at entered)

  pub gone-some : {X E : Type 0} (one two three : List Node) (o : Option ShowBranch) (child : ShowBranch) (x : Suffix) (result : Result X E) → suffix_of b ≡ Some x → IsAtWay reading untouched machine ask b b1 r x → IsSince reading b1 b2 machine
      → o ≡ Some child → HasEntered one two o → OnOk result (HasShown two three child) → OnOk result (HasGone one three)
  gone-some one two three o child x result carried at since some entered shown =
      let Sub = λ (ps : List Plan). (y : Suffix) → suffix_of b2 ≡ Some y → Shows machine ps ask sums limit two three (λ rows. kids_of machine ps ask rows (branch_by child y)) (λ _. []) in
      on-map (HasShown two three child) (HasGone one three) result
      (λ sub. own-suffix (suffix_of b) x carried (λ y. Shows machine b.plans ask sums limit one three (left_by b.plans y way) (left_by b.plans y (suc way)))
      (gone-deeper reading machine ask b.plans sums limit one two three b2 r child (left_by b.plans x way) (left_by b.plans x (suc way)) (goes-on one two o child x at some entered)
      (subst Sub (since.load.plans ∙ at.plans) sub)))
      shown
