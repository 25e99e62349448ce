-- What items tell of a plan that they move, and of one that they leave.
use Rattle.std.proofs.Common.{◌≡◌, ℕ, Bool, true, false, List, [], ◌∷◌, ◌++◌, length, refl, sym, ap, subst, ◌∙◌, arith, Contains, Some, None}
use Rattle.std.specs.Prelude.{IsFalse}
use Rattle.std.specs.Str.{bytes_eq}
use Rattle.std.proofs.lemmas.List.Elements.{All-head, All-tail}
use Rattle.std.proofs.lemmas.Slice.Eq.{bytes_eq-Decides}
use Rattle.tp_log.specs.declared.item.Item.{Item}
use Rattle.tp_log.specs.declared.item.Item.TheVariants.{Note}
use Rattle.tp_machine.specs.declared.machine.Machine.{Machine}
use Rattle.tp_schedule.specs.Plans.{IsFormed, with_points}
use Rattle.tp_schedule.specs.declared.parts.Plan.{Plan}
use Rattle.tp_schedule.specs.declared.records.Record.TheVariants.{Move}
use Rattle.tp_schedule.specs.declared.records.Record.{Record}
use Rattle.tp_schedule.specs.declared.records.SheetName.{SheetName}
use Rattle.tp_schedule.proofs.Membership.{Contains-here, Contains-later}
use Rattle.tp_event_rules.specs.AnswerRecords.{label_of_plan, moves, told_of_move}
use Rattle.tp_schedule_check.specs.Alike.{AreAlike, KeepsPoints}
use Rattle.tp_log_planner.specs.ToldMoves.{IsKeptPlan, TellsMoves, moved_points}
use Rattle.tp_log_planner.specs.ToldAnswers.{begins_with_move, notes}
use Rattle.tp_log_planner.proofs.LabelFacts.{Moved, label-same, moved-here, moved-is}

pub told-stays : (p q : Plan) → bytes_eq p.points q.points ≡ true → told_of_move p q ≡ []
told-stays p q e = rw e refl

pub told-moves : (p q : Plan) → bytes_eq p.points q.points ≡ false → told_of_move p q ≡ Move (label_of_plan q) q.points ∷ []
told-moves p q e = rw e refl

-- moves begin with that of one of the plans
head-move : (ps qs : List Plan) (sheet : SheetName) (points : List ℕ) (items rest : List Item) → AreAlike ps qs → Note (Move sheet points) ∷ items ≡ notes (moves ps qs) ++ rest → IsFalse (begins_with_move rest)
    → (p : Plan) × Contains ps p × (sheet ≡ label_of_plan p)
head-move [] [] sheet points items rest alike e over = absurd (let h : true ≡ begins_with_move rest = ap begins_with_move e in cc)
head-move [] (q ∷ qs) sheet points items rest alike e over = absurd alike
head-move (p ∷ ps) [] sheet points items rest alike e over = absurd alike
head-move (p ∷ ps) (q ∷ qs) sheet points items rest alike e over = go (bytes_eq p.points q.points) refl (λ e'. head-move ps qs sheet points items rest alike.1 e' over) where
  T : List Record → Type 0
  T rs = Note (Move sheet points) ∷ items ≡ notes (rs ++ moves ps qs) ++ rest

  go : (b : Bool) → bytes_eq p.points q.points ≡ b
      → (Note (Move sheet points) ∷ items ≡ notes (moves ps qs) ++ rest → (r : Plan) × Contains ps r × (sheet ≡ label_of_plan r))
      → (r : Plan) × Contains (p ∷ ps) r × (sheet ≡ label_of_plan r)
  go true same found = let r = found (subst T (told-stays p q same) e) in (r.0, Contains-later p ps r.0 r.1, r.2)
  go false differ found =
      let e' : Note (Move sheet points) ∷ items ≡ Note (Move (label_of_plan q) q.points) ∷ (notes (moves ps qs) ++ rest) = subst T (told-moves p q differ) e in
      let is : sheet ≡ label_of_plan q = cc in
      (p, Contains-here p ps, is ∙ label-same p q alike.0.0)

module _ (machine : Machine) (now : ℕ) where
  -- the first plan stays where no item moves it
  pub tells-stays : (p : Plan) (ps qs : List Plan) (items rest : List Item) → IsFormed p → moved_points p items ≡ None → TellsMoves machine now (p ∷ ps) qs items rest
      → (ys : List Plan) × (qs ≡ p ∷ ys) × TellsMoves machine now ps ys items rest
  tells-stays p ps [] items rest formed none tells = absurd tells.alike
  tells-stays p ps (q ∷ ys) items rest formed none tells = go (bytes_eq p.points q.points) refl where
    T : List Record → Type 0
    T rs = items ≡ notes (rs ++ moves ps ys) ++ rest

    go : (b : Bool) → bytes_eq p.points q.points ≡ b → (zs : List Plan) × (q ∷ ys ≡ p ∷ zs) × TellsMoves machine now ps zs items rest
    go true same =
        let is : q ≡ p = moved-is p q p.points tells.alike.0.0 (sym ((bytes_eq-Decides p.points q.points).0 same)) in
        (ys, ap (λ x. x ∷ ys) is, record { told = subst T (told-stays p q same) tells.told; over = tells.over; alike = tells.alike.1; kept = All-tail (IsKeptPlan machine now None) q ys tells.kept })
    go false differ =
        let timed = (All-head (IsKeptPlan machine now None) q ys tells.kept).timed in
        let acts : q.acts ≡ p.acts = ap (λ (x : Plan). x.acts) tells.alike.0.0 in
        let long : length q.points ≡ length p.points = omega (arith, timed.one_more, formed.one_more, ap length acts) in
        let told : items ≡ Note (Move (label_of_plan q) q.points) ∷ (notes (moves ps ys) ++ rest) = subst T (told-moves p q differ) tells.told in
        let told' : items ≡ Note (Move (label_of_plan p) q.points) ∷ (notes (moves ps ys) ++ rest) = told ∙ ap (λ l. Note (Move l q.points) ∷ (notes (moves ps ys) ++ rest)) (label-same p q tells.alike.0.0) in
        let some : moved_points p items ≡ Some q.points = ap (moved_points p) told' ∙ moved-here p q.points (notes (moves ps ys) ++ rest) long differ in
        absurd cc

  -- and moves where one does
  pub record TellsOn (p : Plan) (points : List ℕ) (ps qs : List Plan) (later rest : List Item) : Type 0 where
    pub ys : List Plan
    pub is : qs ≡ with_points points p ∷ ys
    pub tells : TellsMoves machine now ps ys later rest
    pub kept : IsKeptPlan machine now None (with_points points p)
    pub keeps : KeepsPoints p (with_points points p)

  pub tells-moves : (p : Plan) (points : List ℕ) (ps qs : List Plan) (items rest : List Item) (m : Moved p items points) → ((r : Plan) → Contains ps r → label_of_plan p ≡ label_of_plan r → ⊥)
      → TellsMoves machine now (p ∷ ps) qs items rest → TellsOn p points ps qs m.later rest
  tells-moves p points ps [] items rest m differ tells = absurd tells.alike
  tells-moves p points ps (q ∷ ys) items rest m differ tells = go (bytes_eq p.points q.points) refl where
    T : List Record → Type 0
    T rs = items ≡ notes (rs ++ moves ps ys) ++ rest

    go : (b : Bool) → bytes_eq p.points q.points ≡ b → TellsOn p points ps (q ∷ ys) m.later rest
    go true same =
        let told : items ≡ notes (moves ps ys) ++ rest = subst T (told-stays p q same) tells.told in
        let r = head-move ps ys (label_of_plan p) points m.later rest tells.alike.1 (sym m.is ∙ told) tells.over in
        absurd (differ r.0 r.1 r.2)
    go false other =
        let told : items ≡ Note (Move (label_of_plan q) q.points) ∷ (notes (moves ps ys) ++ rest) = subst T (told-moves p q other) tells.told in
        let both : Note (Move (label_of_plan p) points) ∷ m.later ≡ Note (Move (label_of_plan q) q.points) ∷ (notes (moves ps ys) ++ rest) = sym m.is ∙ told in
        let ticks : q.points ≡ points = cc in
        let left : m.later ≡ notes (moves ps ys) ++ rest = cc in
        let is : q ≡ with_points points p = moved-is p q points tells.alike.0.0 ticks in
        record {
          ys = ys;
          is = ap (λ x. x ∷ ys) is;
          tells = record { told = left; over = tells.over; alike = tells.alike.1; kept = All-tail (IsKeptPlan machine now None) q ys tells.kept };
          kept = subst (IsKeptPlan machine now None) is (All-head (IsKeptPlan machine now None) q ys tells.kept);
          keeps = subst (KeepsPoints p) is tells.alike.0.1;
        }
