-- The items of records and trees: asides first, then an answer with its tree, or moves.
use Rattle.std.proofs.Common.{◌≡◌, ℕ, Bool, true, false, cond, not, ◌&&◌, List, [], ◌∷◌, ◌++◌, map, take, drop, refl, sym, ap, ◌∙◌, All, Some, Option, None}
use Rattle.std.proofs.lemmas.List.Elements.{All-append, All-cons, All-head, All-nil, All-tail}
use Rattle.std.specs.Prelude.{if◌then◌else◌}
use Rattle.std.specs.Str.{bytes_eq}
use Rattle.tp_bounds.specs.declared.tree.BoundTree.{BoundTree}
use Rattle.tp_log.specs.declared.item.Item.{Item}
use Rattle.tp_log.specs.declared.item.Item.TheVariants.{Note, Tree}
use Rattle.tp_machine.specs.declared.machine.Machine.{Machine}
use Rattle.tp_schedule.specs.Answers.{kept_of}
use Rattle.tp_schedule.specs.PlannerAnswers.{IsAnswer}
use Rattle.tp_schedule.specs.Plans.{plan_of, without}
use Rattle.tp_schedule.specs.declared.parts.Ask.{Ask}
use Rattle.tp_schedule.specs.declared.parts.Plan.{Plan}
use Rattle.tp_schedule.specs.declared.parts.Reply.{Reply}
use Rattle.tp_schedule.specs.declared.parts.Reply.TheVariants.{Planned, Never, Spent}
use Rattle.tp_schedule.specs.declared.records.Record.{Record}
use Rattle.tp_schedule.specs.declared.records.Record.TheVariants.{Plan as TellsPlan, Move, Never as TellsNever, Budget}
use Rattle.tp_event_rules.specs.AnswerRecords.{label_of_plan, moves, told_of_move, told_of_plan, told_of_planned, told_of_reply}
use Rattle.tp_event_rules.specs.Logs.{TakesTree, spent_on_trust}
use Rattle.tp_run_laws.specs.Runs.{begin_with_move, is_move, is_of_plan, items_with, trees_behind}
use Rattle.tp_log_planner.specs.ToldAnswers.{Tells, begins_with_move, behind_asides, is_other, notes}
use Rattle.tp_log_planner.proofs.ToldFacts.{behind-twice}
use Rattle.tp_log_laws.specs.AcceptedEntries.{bound_claims}
use Rattle.tp_log_laws.proofs.Asides.{AreOther, IsOther}

-- ---- asides

-- an aside is of no plan, and no tree stands behind it
other-bare : (b : Bool) (r : Record) (records : List Record) → is_other r ≡ true → (is_of_plan b r ≡ false) × (trees_behind b r records ≡ 0)
other-bare b (TellsPlan sheet place points acts) records e = absurd (cc)
other-bare b (Move sheet points) records e = absurd (cc)
other-bare b (TellsNever sheet goal) records e = absurd (cc)
other-bare b (Budget sheet goal bound) records e = absurd (cc)
other-bare b _ records e = (refl, refl)

-- whether the records end with a plan, or with a move of one
abbrev pub of_plan : Bool → List Record → Bool
of_plan b [] = b
of_plan b (r ∷ records) = of_plan (is_of_plan b r) records

pub skip : (b : Bool) (first records : List Record) (trees : List BoundTree) → AreOther first → behind_asides (items_with b (first ++ records) trees) ≡ behind_asides (items_with (of_plan b first) records trees)
skip b [] records trees all = refl
skip b (r ∷ first) records trees all =
    let other : is_other r ≡ true = All-head IsOther r first all in
    let bare = other-bare b r (first ++ records) other in
    go (is_of_plan b r) (trees_behind b r (first ++ records)) (is_other r) bare.0 bare.1 other (skip false first records trees (All-tail IsOther r first all)) where
      go : (c : Bool) (n : ℕ) (o : Bool) → c ≡ false → n ≡ 0 → o ≡ true → behind_asides (items_with false (first ++ records) trees) ≡ behind_asides (items_with (of_plan false first) records trees)
          → cond o (behind_asides (map (λ t. Tree t) (take n trees) ++ items_with c (first ++ records) (drop n trees))) (Note r ∷ (map (λ t. Tree t) (take n trees) ++ items_with c (first ++ records) (drop n trees)))
          ≡ behind_asides (items_with (of_plan c first) records trees)
      go c n o e f g rest = rw (e, f, g) rest

pub none-of_plan : (records : List Record) → AreOther records → of_plan false records ≡ false
none-of_plan [] all = refl
none-of_plan (r ∷ records) all = rw ((other-bare false r records (All-head IsOther r records all)).0) (none-of_plan records (All-tail IsOther r records all))

-- ---- moves

abbrev IsMove : Record → Type 0
IsMove r = is_move r ≡ true

one-move : (p q : Plan) → All IsMove (told_of_move p q)
one-move p q = go (bytes_eq p.points q.points) where
  go : (b : Bool) → All IsMove (cond b [] (Move (label_of_plan q) q.points ∷ []))
  go true = All-nil IsMove
  go false = All-cons IsMove (Move (label_of_plan q) q.points) [] refl (All-nil IsMove)

pub all-moves : (plans plans' : List Plan) → All IsMove (moves plans plans')
all-moves [] plans' = All-nil IsMove
all-moves (p ∷ plans) [] = All-nil IsMove
all-moves (p ∷ plans) (q ∷ plans') = All-append IsMove (told_of_move p q) (moves plans plans') (one-move p q) (all-moves plans plans')

-- moves behind other records have no trees
pub free-moves : (ms records : List Record) (trees : List BoundTree) → All IsMove ms → items_with false (ms ++ records) trees ≡ notes ms ++ items_with false records trees
free-moves [] records trees all = refl
free-moves (Move sheet points ∷ ms) records trees all = ap (λ items. Note (Move sheet points) ∷ items) (free-moves ms records trees (All-tail IsMove (Move sheet points) ms all))
free-moves (m ∷ ms) records trees all = absurd (let h : is_move m ≡ true = All-head IsMove m ms all in cc)

-- moves behind a plan have its tree behind them
plan-moves : (ms records : List Record) (tree : BoundTree) (trees : List BoundTree) → All IsMove ms → begin_with_move records ≡ false
    → map (λ t. Tree t) (take (if not (begin_with_move (ms ++ records)) then 1 else 0) (tree ∷ trees)) ++ items_with true (ms ++ records) (drop (if not (begin_with_move (ms ++ records)) then 1 else 0) (tree ∷ trees))
    ≡ notes ms ++ Tree tree ∷ items_with true records trees
plan-moves [] records tree trees all over = rw over refl
plan-moves (Move sheet points ∷ ms) records tree trees all over = ap (λ items. Note (Move sheet points) ∷ items) (plan-moves ms records tree trees (All-tail IsMove (Move sheet points) ms all) over)
plan-moves (m ∷ ms) records tree trees all over = absurd (let h : is_move m ≡ true = All-head IsMove m ms all in cc)

-- the first item is a move where the first record is
first-move : (b : Bool) (records : List Record) (trees : List BoundTree) → begins_with_move (items_with b records trees) ≡ begin_with_move records
first-move b [] trees = refl
first-move b (Move sheet points ∷ records) trees = refl
first-move b (r ∷ records) trees = refl

-- where no move comes first, neither as the first record nor behind asides
pub record IsOver (records : List Record) : Type 0 where
  pub first : begin_with_move records ≡ false
  pub later : (b : Bool) (trees : List BoundTree) → begins_with_move (behind_asides (items_with b records trees)) ≡ false

-- the items tell moves, and what is left of them
pub record TellsMovesFirst (items : List Item) (ms : List Record) (b : Bool) (records : List Record) (trees : List BoundTree) : Type 0 where
  pub rest : List Item
  pub told : behind_asides items ≡ notes ms ++ rest
  pub over : begins_with_move rest ≡ false
  pub left : behind_asides rest ≡ behind_asides (items_with b records trees)

pub moves-first : (items : List Item) (b : Bool) (ms records : List Record) (trees : List BoundTree) → All IsMove ms → (b ≡ true → ms ≡ []) → IsOver records
    → behind_asides items ≡ behind_asides (items_with b (ms ++ records) trees) → TellsMovesFirst items ms b records trees
moves-first items b [] records trees all free over e = record {
  rest = behind_asides (items_with b records trees);
  told = e;
  over = over.later b trees;
  left = behind-twice (items_with b records trees);
}
moves-first items true (m ∷ ms) records trees all free over e = absurd (let none : m ∷ ms ≡ [] = free refl in cc)
moves-first items false (Move sheet points ∷ ms) records trees all free over e = record {
  rest = items_with false records trees;
  told = e ∙ free-moves (Move sheet points ∷ ms) records trees all;
  over = first-move false records trees ∙ over.first;
  left = refl;
}
moves-first items false (m ∷ ms) records trees all free over e = absurd (let h : is_move m ≡ true = All-head IsMove m ms all in cc)

-- ---- answers

abbrev pub is_plan_reply : Reply → Bool
is_plan_reply Planned = true
is_plan_reply Never = false
is_plan_reply (Spent bound) = false

-- behind a plan and its moves stands no other move
abbrev pub IsParted : Reply → List Record → Type 0
IsParted Planned records = begin_with_move records ≡ false
IsParted Never records = Unit {0}
IsParted (Spent bound) records = Unit {0}

module _ (machine : Machine) (plans : List Plan) (ask : Ask) (plans' : List Plan) (records : List Record) where
  abbrev planned_with : Option Plan → List Record
  planned_with o = (told_of_planned machine (kept_of ask) o ++ moves (without ask.sheet plans) (without ask.sheet plans')) ++ records

  -- the items of an answer's records and those behind them tell the answer
  pub tells-reply : (items : List Item) (b : Bool) (reply : Reply) (trees trees' : List BoundTree) → IsParted reply records → IsAnswer spent_on_trust machine plans ask reply plans' → TakesTree bound_claims machine plans ask reply plans' trees trees'
      → behind_asides items ≡ behind_asides (items_with b (told_of_reply machine plans ask reply plans' ++ records) trees)
      → Tells machine plans ask items reply plans' (items_with (is_plan_reply reply) records trees')
  tells-reply items b Planned trees trees' parted answer (tree, (plan, planned, shows, taken)) e = record {
    shown = Tree tree ∷ [];
    told = e ∙ ap (λ ts. behind_asides (items_with b (planned_with (plan_of ask.sheet plans')) ts)) taken ∙ go (plan_of ask.sheet plans') planned;
    said = record { alternative = answer.0.alternative; least = answer.1 };
    shows = (tree, (plan, planned, shows, refl));
  } where
    go : (o : Option Plan) → o ≡ Some plan
        → behind_asides (items_with b (planned_with o) (tree ∷ trees'))
        ≡ notes (told_of_planned machine (kept_of ask) o ++ moves (without ask.sheet plans) (without ask.sheet plans')) ++ (Tree tree ∷ items_with true records trees')
    go None is = absurd (cc)
    go (Some p) is = ap (λ rest. Note (told_of_plan machine (kept_of ask) p) ∷ rest) (plan-moves (moves (without ask.sheet plans) (without ask.sheet plans')) records tree trees' (all-moves (without ask.sheet plans) (without ask.sheet plans')) parted)
  tells-reply items b Never trees trees' parted answer (tree, shows, taken) e = record {
    shown = Tree tree ∷ [];
    told = e ∙ ap (λ ts. behind_asides (items_with b (told_of_reply machine plans ask Never plans' ++ records) ts)) taken;
    said = answer.0;
    shows = (tree, shows, refl);
  }
  tells-reply items b (Spent bound) trees trees' parted answer taken e = record {
    shown = [];
    told = e ∙ ap (λ ts. behind_asides (items_with b (told_of_reply machine plans ask (Spent bound) plans' ++ records) ts)) (sym taken);
    said = answer.0;
    shows = refl;
  }

  -- the items that show it: its tree, if it takes one
  abbrev pub shown_by : (reply : Reply) (trees trees' : List BoundTree) → TakesTree bound_claims machine plans ask reply plans' trees trees' → List Item
  shown_by Planned trees trees' takes = Tree takes.0 ∷ []
  shown_by Never trees trees' takes = Tree takes.0 ∷ []
  shown_by (Spent bound) trees trees' takes = []

  pub shown-is : (items : List Item) (b : Bool) (reply : Reply) (trees trees' : List BoundTree) (parted : IsParted reply records) (answer : IsAnswer spent_on_trust machine plans ask reply plans')
      (takes : TakesTree bound_claims machine plans ask reply plans' trees trees') (e : behind_asides items ≡ behind_asides (items_with b (told_of_reply machine plans ask reply plans' ++ records) trees))
      → (tells-reply items b reply trees trees' parted answer takes e).shown ≡ shown_by reply trees trees' takes
  unfolding tells-reply
  shown-is items b Planned trees trees' parted answer takes e = refl
  shown-is items b Never trees trees' parted answer takes e = refl
  shown-is items b (Spent bound) trees trees' parted answer takes e = refl

  -- no answer begins with a move
  pub reply-over : (reply : Reply) (trees trees' : List BoundTree) → TakesTree bound_claims machine plans ask reply plans' trees trees' → IsOver (told_of_reply machine plans ask reply plans' ++ records)
  reply-over Planned trees trees' (tree, (plan, planned, shows, taken)) = go (plan_of ask.sheet plans') planned where
    go : (o : Option Plan) → o ≡ Some plan → IsOver (planned_with o)
    go None is = absurd (cc)
    go (Some p) is = record { first = refl; later = λ b ts. refl }
  reply-over Never trees trees' taken = record { first = refl; later = λ b ts. refl }
  reply-over (Spent bound) trees trees' taken = record { first = refl; later = λ b ts. refl }

pub over-none : IsOver []
over-none = record { first = refl; later = λ b trees. refl }

other-no_move : (r : Record) → is_other r ≡ true → is_move r ≡ false
other-no_move (Move sheet points) e = absurd (cc)
other-no_move _ e = refl

-- asides are no moves
pub over-behind : (first records : List Record) → AreOther first → IsOver records → IsOver (first ++ records)
over-behind first records all over = record {
  first = begin first all;
  later = λ b trees. ap begins_with_move (skip b first records trees all) ∙ over.later (of_plan b first) trees;
} where
  begin : (xs : List Record) → AreOther xs → begin_with_move (xs ++ records) ≡ false
  begin [] all = over.first
  begin (r ∷ xs) all = other-no_move r (All-head IsOther r xs all)
