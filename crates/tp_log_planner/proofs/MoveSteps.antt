-- The plans are gone through from a place on, with the items from another place on.
use Rattle.std.proofs.Common.{◌≡◌, ℕ, ◌+◌, ◌-◌, ◌≤◌, ◌⊎◌, inl, inr, Bool, true, false, cond, not, List, [], ◌∷◌, ◌++◌, drop, length, map, take, refl, sym, ap, subst, ◌∙◌, arith, Contains, IsTrue, Option, Some, None, slice_get, append_assoc}
use Rattle.std.proofs.lemmas.List.{append-nil, drop_all, length-drop, map-append, take-append-drop}
use Rattle.std.proofs.lemmas.List.Elements.{All-contains, Contains-append_right}
use Rattle.std.proofs.lemmas.Slice.Eq.{bytes_eq-Decides}
use Rattle.tp_base.proofs.SliceFacts.{slice_get_drop}
use Rattle.tp_log.specs.declared.item.Item.{Item}
use Rattle.tp_log.specs.declared.item.Item.TheVariants.{Note}
use Rattle.tp_machine.specs.declared.machine.Machine.{Machine}
use Rattle.tp_schedule.specs.Plans.{AreNamed, IsFormed, change_plan, is_before, is_same_copy, plan_of, with_points}
use Rattle.tp_schedule.specs.declared.parts.Plan.{Plan}
use Rattle.tp_schedule.specs.declared.parts.SheetId.{SheetId}
use Rattle.tp_schedule.specs.declared.records.Record.TheVariants.{Move}
use Rattle.tp_schedule.specs.declared.records.Record.{Record}
use Rattle.tp_schedule.proofs.CopyFacts.{InOrder, before-not_same, same_copy-refl}
use Rattle.tp_schedule.proofs.Membership.{Contains-filter_from, Contains-here, Contains-later}
use Rattle.tp_schedule.proofs.Pairs.{AllPairs-append_right, AllPairs-head, AllPairs-tail}
use Rattle.tp_event_records.proofs.ListSteps.{drop_from}
use Rattle.tp_event_rules.specs.AnswerRecords.{label_of_plan, moves}
use Rattle.tp_schedule_check.specs.Early.{is_exempt}
use Rattle.tp_schedule_check.proofs.ListFacts.{take-whole}
use Rattle.tp_schedule_check.specs.Alike.{AreAlike, KeepsPoints, others}
use Rattle.tp_schedule_check.proofs.AlikeFacts.{keeps, passes}
use Rattle.tp_log_planner.specs.ToldMoves.{IsKeptPlan, TakesMoves, TellsMoves, behind_move, behind_moves, moved_points, points_for}
use Rattle.tp_log_planner.specs.ToldAnswers.{notes}
use Rattle.tp_log_planner.proofs.LabelFacts.{Moved, labels-differ, moved-some}
use Rattle.tp_log_planner.proofs.MoveFacts.{TellsOn, tells-moves, tells-stays, told-moves, told-stays}

-- ---- lists
-- what stands behind the first of the rest
pub drop-next : {X : Type 0} (xs : List X) (n : ℕ) (x : X) (ys : List X) → drop n xs ≡ x ∷ ys → drop (n + 1) xs ≡ ys
drop-next xs n x ys e =
    let at : slice_get xs n ≡ Some x = ap (slice_get xs) (omega arith) ∙ sym (slice_get_drop n xs 0) ∙ ap (λ zs. slice_get zs 0) e in
    let f : x ∷ drop (n + 1) xs ≡ x ∷ ys = sym (drop_from xs n x at) ∙ e in
    cc

pub rest-is : {X : Type 0} (xs : List X) (n : ℕ) → take (length xs - n) (drop n xs) ≡ drop n xs
rest-is xs n = take-whole (drop n xs) (length xs - n) (omega (arith, length-drop n xs))

pub drop-more : {X : Type 0} (xs : List X) (n : ℕ) (x : X) (ys : List X) → drop n xs ≡ x ∷ ys → n + 1 ≤ length xs
drop-more xs n x ys e = let long : length xs - n ≡ length (x ∷ ys) = sym (length-drop n xs) ∙ ap length e in omega (arith, long)

change-sheets : (copy : SheetId) (f : Plan → Plan) (plans : List Plan) → ((p : Plan) → (f p).sheet ≡ p.sheet) → map (λ (p : Plan). p.sheet) (change_plan copy f plans) ≡ map (λ (p : Plan). p.sheet) plans
change-sheets copy f [] same = refl
change-sheets copy f (p ∷ plans) same = go (is_same_copy p.sheet copy) (change-sheets copy f plans same) where
  go : (b : Bool) → map (λ (q : Plan). q.sheet) (change_plan copy f plans) ≡ map (λ (q : Plan). q.sheet) plans
      → map (λ (q : Plan). q.sheet) (cond b (f p ∷ plans) (p ∷ change_plan copy f plans)) ≡ p.sheet ∷ map (λ (q : Plan). q.sheet) plans
  go true rest = ap (λ c. c ∷ map (λ (q : Plan). q.sheet) plans) (same p)
  go false rest = ap (λ cs. p.sheet ∷ cs) rest

others-append : (asked : Option SheetId) (xs ys : List Plan) → others asked (xs ++ ys) ≡ others asked xs ++ others asked ys
others-append asked [] ys = refl
others-append asked (x ∷ xs) ys = go (is_exempt asked x) (others-append asked xs ys) where
  go : (b : Bool) → others asked (xs ++ ys) ≡ others asked xs ++ others asked ys
      → cond (not b) (x ∷ others asked (xs ++ ys)) (others asked (xs ++ ys)) ≡ cond (not b) (x ∷ others asked xs) (others asked xs) ++ others asked ys
  go true e = e
  go false e = ap (λ zs. x ∷ zs) e

one-asked : (asked : Option SheetId) (p : Plan) → is_exempt asked p ≡ true → others asked (p ∷ []) ≡ []
one-asked asked p e = go (is_exempt asked p) e where
  go : (b : Bool) → b ≡ true → cond (not b) (p ∷ []) [] ≡ []
  go true f = refl
  go false f = absurd cc

one-other : (asked : Option SheetId) (p : Plan) → is_exempt asked p ≡ false → others asked (p ∷ []) ≡ p ∷ []
one-other asked p e = go (is_exempt asked p) e where
  go : (b : Bool) → b ≡ false → cond (not b) (p ∷ []) [] ≡ p ∷ []
  go true f = absurd cc
  go false f = refl

exempt-same : (asked : Option SheetId) (p q : Plan) → q.sheet ≡ p.sheet → is_exempt asked q ≡ is_exempt asked p
exempt-same None p q e = refl
exempt-same (Some copy) p q e = ap (λ c. is_same_copy c copy) e

-- ---- a plan behind others, of which none is the copy's
pub change-at : (done rest : List Plan) (p : Plan) (f : Plan → Plan) → InOrder (done ++ p ∷ rest) → change_plan p.sheet f (done ++ p ∷ rest) ≡ done ++ f p ∷ rest
change-at [] rest p f order = rw same_copy-refl refl
change-at (d ∷ done) rest p f order =
    let before : is_before d.sheet p.sheet ≡ true = All-contains (λ q. IsTrue (is_before d.sheet q.sheet)) (done ++ p ∷ rest) p (AllPairs-head (λ a b. IsTrue (is_before a.sheet b.sheet)) d (done ++ p ∷ rest) order) (Contains-append_right done (p ∷ rest) p (Contains-here p rest)) in
    rw (before-not_same d.sheet p.sheet before) (ap (λ xs. d ∷ xs) (change-at done rest p f (AllPairs-tail (λ a b. IsTrue (is_before a.sheet b.sheet)) d (done ++ p ∷ rest) order)))

pub plan-at : (done rest : List Plan) (p : Plan) → InOrder (done ++ p ∷ rest) → plan_of p.sheet (done ++ p ∷ rest) ≡ Some p
plan-at [] rest p order = rw same_copy-refl refl
plan-at (d ∷ done) rest p order =
    let before : is_before d.sheet p.sheet ≡ true = All-contains (λ q. IsTrue (is_before d.sheet q.sheet)) (done ++ p ∷ rest) p (AllPairs-head (λ a b. IsTrue (is_before a.sheet b.sheet)) d (done ++ p ∷ rest) order) (Contains-append_right done (p ∷ rest) p (Contains-here p rest)) in
    rw (before-not_same d.sheet p.sheet before) (plan-at done rest p (AllPairs-tail (λ a b. IsTrue (is_before a.sheet b.sheet)) d (done ++ p ∷ rest) order))

-- ---- the plans before a place are gone through
pub record MovedSoFar (machine : Machine) (now : ℕ) (asked : Option SheetId) (before after : List Plan) (items : List Item) (at taken : ℕ) : Type 0 where
  pub done : List Plan
  pub sofar : List Record
  pub plans : after ≡ done ++ drop at before
  pub within : taken ≤ length items
  pub sheets : map (λ p. p.sheet) after ≡ map (λ p. p.sheet) before
  pub told : items ≡ notes sofar ++ drop taken items
  pub left : behind_moves asked (drop at before) (drop taken items) ≡ behind_moves asked before items
  pub moved : (ys : List Plan) → moves (others asked before) (others asked done ++ ys) ≡ sofar ++ moves (others asked (drop at before)) ys
  pub only : AreNamed before → (qs : List Plan) (rest : List Item) → TellsMoves machine now (others asked before) qs items rest
      → (ys : List Plan) × (qs ≡ others asked done ++ ys) × TellsMoves machine now (others asked (drop at before)) ys (drop taken items) rest

module _ (machine : Machine) (now : ℕ) (asked : Option SheetId) (before : List Plan) (items : List Item) where
  pub none-yet : (after : List Plan) → after ≡ before → MovedSoFar machine now asked before after items 0 0
  none-yet after same = record {
    done = [];
    sofar = [];
    plans = same;
    within = omega arith;
    sheets = ap (map (λ (p : Plan). p.sheet)) same;
    told = refl;
    left = refl;
    moved = λ ys. refl;
    only = λ named qs rest tells. (qs, refl, tells);
  }

  module _ (after : List Plan) (at taken : ℕ) (s : MovedSoFar machine now asked before after items at taken) (p : Plan) (there : slice_get before at ≡ Some p) where
    next-plans : after ≡ s.done ++ p ∷ drop (at + 1) before
    next-plans = s.plans ∙ ap (λ xs. s.done ++ xs) (drop_from before at p there)

    pub found-there : InOrder after → plan_of p.sheet after ≡ Some p
    found-there order = ap (plan_of p.sheet) next-plans ∙ plan-at s.done (drop (at + 1) before) p (subst InOrder next-plans order)

    -- what is left behind the moves, where the plan takes this item of the rest
    left-next : (o : Option (List ℕ)) → points_for asked p (drop taken items) ≡ o
        → behind_moves asked (drop (at + 1) before) (behind_move o (drop taken items)) ≡ behind_moves asked before items
    left-next o e =
        ap (λ x. behind_moves asked (drop (at + 1) before) (behind_move x (drop taken items))) (sym e)
        ∙ sym (ap (λ ps. behind_moves asked ps (drop taken items)) (drop_from before at p there)) ∙ s.left

    -- the asked copy's plan is passed over
    pub asked-next : points_for asked p (drop taken items) ≡ None → is_exempt asked p ≡ true → MovedSoFar machine now asked before after items (at + 1) taken
    asked-next none asks = record {
      done = s.done ++ p ∷ [];
      sofar = s.sofar;
      plans = next-plans ∙ sym (append_assoc s.done (p ∷ []) (drop (at + 1) before));
      within = s.within;
      sheets = s.sheets;
      told = s.told;
      left = left-next None none;
      moved = λ ys. ap (λ xs. moves (others asked before) (xs ++ ys)) same ∙ s.moved ys ∙ ap (λ xs. s.sofar ++ moves xs ys) left;
      only = λ named qs rest tells. (
          let r = s.only named qs rest tells in
          (r.0, r.1 ∙ ap (λ xs. xs ++ r.0) (sym same), subst (λ xs. TellsMoves machine now xs r.0 (drop taken items) rest) left r.2));
    } where
      same : others asked (s.done ++ p ∷ []) ≡ others asked s.done
      same = others-append asked s.done (p ∷ []) ∙ ap (λ xs. others asked s.done ++ xs) (one-asked asked p asks) ∙ append-nil (others asked s.done)

      left : others asked (drop at before) ≡ others asked (drop (at + 1) before)
      left = passes asked before at p there asks

    module _ (other : is_exempt asked p ≡ false) where
      left : others asked (drop at before) ≡ p ∷ others asked (drop (at + 1) before)
      left = keeps asked before at p there other

      more : (q : Plan) → q.sheet ≡ p.sheet → others asked (s.done ++ q ∷ []) ≡ others asked s.done ++ q ∷ []
      more q e = others-append asked s.done (q ∷ []) ∙ ap (λ xs. others asked s.done ++ xs) (one-other asked q (exempt-same asked p q e ∙ other))

      behind : (q : Plan) (ys : List Plan) → q.sheet ≡ p.sheet → others asked (s.done ++ q ∷ []) ++ ys ≡ others asked s.done ++ q ∷ ys
      behind q ys e = ap (λ xs. xs ++ ys) (more q e) ∙ append_assoc (others asked s.done) (q ∷ []) ys

      -- a plan stays
      pub stays-next : points_for asked p (drop taken items) ≡ None → IsFormed p → moved_points p (drop taken items) ≡ None → MovedSoFar machine now asked before after items (at + 1) taken
      stays-next stays formed none = record {
        done = s.done ++ p ∷ [];
        sofar = s.sofar;
        plans = next-plans ∙ sym (append_assoc s.done (p ∷ []) (drop (at + 1) before));
        within = s.within;
        sheets = s.sheets;
        told = s.told;
        left = left-next None stays;
        moved = λ ys.
            ap (moves (others asked before)) (behind p ys refl) ∙ s.moved (p ∷ ys) ∙ ap (λ xs. s.sofar ++ moves xs (p ∷ ys)) left
            ∙ ap (λ rs. s.sofar ++ (rs ++ moves (others asked (drop (at + 1) before)) ys)) (told-stays p p ((bytes_eq-Decides p.points p.points).1 refl));
        only = λ named qs rest tells. (
            let r = s.only named qs rest tells in
            let here = subst (λ xs. TellsMoves machine now xs r.0 (drop taken items) rest) left r.2 in
            let u = tells-stays machine now p (others asked (drop (at + 1) before)) r.0 (drop taken items) rest formed none here in
            (u.0, r.1 ∙ ap (λ xs. others asked s.done ++ xs) u.1 ∙ sym (behind p u.0 refl), u.2));
      }

      module _ (points : List ℕ) (m : Moved p (drop taken items) points) (order : InOrder before) where
        later-is : drop (taken + 1) items ≡ m.later
        later-is = drop-next items taken (Note (Move (label_of_plan p) points)) m.later m.is

        differ : AreNamed before → (r : Plan) → Contains (others asked (drop (at + 1) before)) r → label_of_plan p ≡ label_of_plan r → ⊥
        differ named r in' same =
            let later : Contains (drop (at + 1) before) r = (Contains-filter_from (λ q. not (is_exempt asked q)) (drop (at + 1) before) r in').0 in
            let rest : drop at before ≡ p ∷ drop (at + 1) before = drop_from before at p there in
            let cut : take at before ++ drop at before ≡ before = take-append-drop at before in
            let behind-too : InOrder (drop at before) = AllPairs-append_right (λ a b. IsTrue (is_before a.sheet b.sheet)) (take at before) (drop at before) (subst InOrder (sym cut) order) in
            let pairs : InOrder (p ∷ drop (at + 1) before) = subst InOrder rest behind-too in
            let earlier : is_before p.sheet r.sheet ≡ true = All-contains (λ q. IsTrue (is_before p.sheet q.sheet)) (drop (at + 1) before) r (AllPairs-head (λ a b. IsTrue (is_before a.sheet b.sheet)) p (drop (at + 1) before) pairs) later in
            let there-too : (q : Plan) → Contains (p ∷ drop (at + 1) before) q → Contains before q = λ q in''. subst (λ xs. Contains xs q) cut (Contains-append_right (take at before) (drop at before) q (subst (λ xs. Contains xs q) (sym rest) in'')) in
            labels-differ before p r named (there-too p (Contains-here p (drop (at + 1) before))) (there-too r (Contains-later p (drop (at + 1) before) r later)) earlier same

        tells-here : AreNamed before → (qs : List Plan) (rest : List Item) → TellsMoves machine now (others asked before) qs items rest
            → (ys : List Plan) × (qs ≡ others asked s.done ++ ys) × TellsOn machine now p points (others asked (drop (at + 1) before)) ys m.later rest
        tells-here named qs rest tells =
            let r = s.only named qs rest tells in
            let here = subst (λ xs. TellsMoves machine now xs r.0 (drop taken items) rest) left r.2 in
            (r.0, r.1, tells-moves machine now p points (others asked (drop (at + 1) before)) r.0 (drop taken items) rest m (differ named) here)

        -- what the plan breaks by itself no right moves tell
        pub no-moves : (IsKeptPlan machine now None (with_points points p) → KeepsPoints p (with_points points p) → ⊥) → AreNamed before
            → (qs : List Plan) (rest : List Item) → TellsMoves machine now (others asked before) qs items rest → ⊥
        no-moves breaks named qs rest tells = let r = tells-here named qs rest tells in breaks r.2.kept r.2.keeps

        -- a plan moves
        pub moves-next : points_for asked p (drop taken items) ≡ Some points → (after' : List Plan) → InOrder after → after' ≡ change_plan p.sheet (with_points points) after → MovedSoFar machine now asked before after' items (at + 1) (taken + 1)
        moves-next takes after' order' is = record {
          done = s.done ++ q ∷ [];
          sofar = s.sofar ++ Move (label_of_plan p) points ∷ [];
          plans = is ∙ ap (change_plan p.sheet (with_points points)) next-plans ∙ change-at s.done (drop (at + 1) before) p (with_points points) (subst InOrder next-plans order')
              ∙ sym (append_assoc s.done (q ∷ []) (drop (at + 1) before));
          within = drop-more items taken (Note (Move (label_of_plan p) points)) m.later m.is;
          sheets = ap (map (λ (r : Plan). r.sheet)) is ∙ change-sheets p.sheet (with_points points) after (λ r. refl) ∙ s.sheets;
          told = s.told ∙ ap (λ xs. notes s.sofar ++ xs) (m.is ∙ ap (λ xs. Note (Move (label_of_plan p) points) ∷ xs) (sym later-is))
              ∙ sym (append_assoc (notes s.sofar) (Note (Move (label_of_plan p) points) ∷ []) (drop (taken + 1) items))
              ∙ ap (λ xs. xs ++ drop (taken + 1) items) (sym (map-append (λ r. Note r) s.sofar (Move (label_of_plan p) points ∷ [])));
          left = ap (behind_moves asked (drop (at + 1) before)) (later-is ∙ sym (ap (drop 1) m.is)) ∙ left-next (Some points) takes;
          moved = λ ys.
              ap (moves (others asked before)) (behind q ys refl) ∙ s.moved (q ∷ ys) ∙ ap (λ xs. s.sofar ++ moves xs (q ∷ ys)) left
              ∙ ap (λ rs. s.sofar ++ (rs ++ moves (others asked (drop (at + 1) before)) ys)) (told-moves p q m.differ)
              ∙ sym (append_assoc s.sofar (Move (label_of_plan p) points ∷ []) (moves (others asked (drop (at + 1) before)) ys));
          only = λ named qs rest tells. (
              let r = tells-here named qs rest tells in (
                r.2.ys,
                r.1 ∙ ap (λ xs. others asked s.done ++ xs) r.2.is ∙ sym (behind q r.2.ys refl),
                subst (λ xs. TellsMoves machine now (others asked (drop (at + 1) before)) r.2.ys xs rest) (sym later-is) r.2.tells,
              ));
        } where
          q : Plan
          q = with_points points p

  -- ---- the points that are looked at
  module _ (p : Plan) (left-items rest : List Item) (is-rest : rest ≡ left-items) where
    pub for-some : (points : List ℕ) → points_for asked p rest ≡ Some points → (is_exempt asked p ≡ false) × Moved p left-items points
    for-some points e = go (is_exempt asked p) refl e where
      go : (b : Bool) → is_exempt asked p ≡ b → cond b None (moved_points p rest) ≡ Some points → (is_exempt asked p ≡ false) × Moved p left-items points
      go true f g = absurd cc
      go false f g = (f, subst (λ xs. Moved p xs points) is-rest (moved-some p rest points g))

    pub for-none : points_for asked p rest ≡ None → (is_exempt asked p ≡ true) ⊎ ((is_exempt asked p ≡ false) × (moved_points p left-items ≡ None))
    for-none e = go (is_exempt asked p) refl e where
      go : (b : Bool) → is_exempt asked p ≡ b → cond b None (moved_points p rest) ≡ None → (is_exempt asked p ≡ true) ⊎ ((is_exempt asked p ≡ false) × (moved_points p left-items ≡ None))
      go true f g = inl f
      go false f g = inr (f, ap (moved_points p) (sym is-rest) ∙ g)

  pub none-next : (after : List Plan) (at taken : ℕ) (s : MovedSoFar machine now asked before after items at taken) (p : Plan) → slice_get before at ≡ Some p → IsFormed p
      → (rest : List Item) → rest ≡ drop taken items → points_for asked p rest ≡ None → MovedSoFar machine now asked before after items (at + 1) taken
  none-next after at taken s p there formed rest is-rest none =
      let none' : points_for asked p (drop taken items) ≡ None = ap (points_for asked p) (sym is-rest) ∙ none in
      elim (for-none p (drop taken items) rest is-rest none) [
        | inl asks ↦ asked-next after at taken s p there none' asks
        | inr other ↦ stays-next after at taken s p there other.0 none' formed other.1
      ]

  -- ---- all are
  module _ (after : List Plan) (at taken : ℕ) (s : MovedSoFar machine now asked before after items at taken) (past : length before ≤ at) where
    none-left : drop at before ≡ []
    none-left = drop_all at before past

    all-done : after ≡ s.done
    all-done = s.plans ∙ ap (λ xs. s.done ++ xs) none-left ∙ append-nil s.done

    pub all-told : items ≡ notes (moves (others asked before) (others asked after)) ++ drop taken items
    all-told =
        s.told ∙ ap (λ rs. notes rs ++ drop taken items)
        (sym (append-nil s.sofar) ∙ ap (λ xs. s.sofar ++ moves (others asked xs) []) (sym none-left) ∙ sym (s.moved []) ∙ ap (moves (others asked before)) (append-nil (others asked s.done) ∙ ap (others asked) (sym all-done)))

    pub all-only : AreNamed before → (qs : List Plan) (rest : List Item) → TellsMoves machine now (others asked before) qs items rest → (qs ≡ others asked after) × (rest ≡ drop taken items)
    all-only named qs rest tells =
        let r = s.only named qs rest tells in
        let none = subst (λ xs. TellsMoves machine now (others asked xs) r.0 (drop taken items) rest) none-left r.2 in
        let empty : r.0 ≡ [] = nothing r.0 none.alike in (
          r.1 ∙ ap (λ xs. others asked s.done ++ xs) empty ∙ append-nil (others asked s.done) ∙ ap (others asked) (sym all-done),
          sym none.told,
        ) where
          nothing : (ys : List Plan) → AreAlike [] ys → ys ≡ []
          nothing [] alike = refl
          nothing (y ∷ ys) alike = absurd alike

    pub takes-moves : TakesMoves machine now asked before after items taken
    takes-moves = record {
      within = s.within;
      sheets = s.sheets;
      told = all-told;
      left = ap (λ ps. behind_moves asked ps (drop taken items)) (sym none-left) ∙ s.left;
      only = all-only;
    }
