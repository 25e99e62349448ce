-- What stands at the marks of a board, as marks come and go.
use Rattle.std.proofs.Common.{suc, zero, ◌≡◌, ℕ, ◌<◌, ◌≤◌, List, [], ◌∷◌, ◌++◌, length, take, Some, refl, ap, sym, arith, inl, inr, Contains}
use Rattle.std.proofs.lemmas.Option.{slice_get_within, same_Some}
use Rattle.std.proofs.lemmas.List.{length-take, take_all, take-take, take-append-le}
use Rattle.std.specs.List.{slice_get}
use Rattle.tp_base.specs.Net.{Net}
use Rattle.tp_base.proofs.SliceFacts.{slice_get_end, slice_get_take}
use Rattle.tp_constraints.proofs.Lists.{get-contains}
use Rattle.tp_placing.specs.declared.parts.BoardMark.{BoardMark}
use Rattle.tp_placing.specs.declared.parts.Held.{Held}
use Rattle.tp_placing.specs.declared.parts.Step.{Step}
use Rattle.tp_placing.specs.Boards.{BoardContent, side_by_side}
use Rattle.tp_placing.specs.Inside.{AreMarks}

abbrev Lines : Type 0
Lines = List (List ℕ)

abbrev at_mark : List Held → List Step → Net → Lines → BoardMark → BoardContent
at_mark held steps c o m = record { net = c; orders = o; held = take m.held held; steps = take m.steps steps }

pub length-side : (held : List Held) (steps : List Step) (cs : List Net) (os : List Lines) (ms : List BoardMark) → length os ≡ length cs → length ms ≡ length cs → length (side_by_side held steps cs os ms) ≡ length cs
length-side held steps [] os ms h k = refl
length-side held steps (c ∷ cs) [] ms h k = absurd (omega arith)
length-side held steps (c ∷ cs) (o ∷ os) [] h k = absurd (omega arith)
length-side held steps (c ∷ cs) (o ∷ os) (m ∷ ms) h k = ap suc (length-side held steps cs os ms (omega arith) (omega arith))

-- one mark more, at what there is now
pub side-push : (held : List Held) (steps : List Step) (cs : List Net) (os : List Lines) (ms : List BoardMark) (c : Net) (o : Lines) (m : BoardMark) → length os ≡ length cs → length ms ≡ length cs
    → m.held ≡ length held → m.steps ≡ length steps
    → side_by_side held steps (cs ++ c ∷ []) (os ++ o ∷ []) (ms ++ m ∷ []) ≡ side_by_side held steps cs os ms ++ record { net = c; orders = o; held = held; steps = steps } ∷ []
side-push held steps [] [] [] c o m h k a b =
    let e : take m.held held ≡ held = take_all m.held held (omega arith) in
    let f : take m.steps steps ≡ steps = take_all m.steps steps (omega arith) in
    let same : at_mark held steps c o m ≡ record { net = c; orders = o; held = held; steps = steps } = (λ i. record { net = c; orders = o; held = e i; steps = f i }) in
    ap (λ (x : BoardContent). x ∷ []) same
side-push held steps [] [] (n ∷ ms) c o m h k a b = absurd (omega arith)
side-push held steps [] (p ∷ os) ms c o m h k a b = absurd (omega arith)
side-push held steps (d ∷ cs) [] ms c o m h k a b = absurd (omega arith)
side-push held steps (d ∷ cs) (p ∷ os) [] c o m h k a b = absurd (omega arith)
side-push held steps (d ∷ cs) (p ∷ os) (n ∷ ms) c o m h k a b =
    ap (λ (xs : List BoardContent). at_mark held steps d p n ∷ xs) (side-push held steps cs os ms c o m (omega arith) (omega arith) a b)

pub side-get : (held : List Held) (steps : List Step) (cs : List Net) (os : List Lines) (ms : List BoardMark) (k : ℕ) (c : Net) (o : Lines) (m : BoardMark)
    → slice_get cs k ≡ Some c → slice_get os k ≡ Some o → slice_get ms k ≡ Some m
    → slice_get (side_by_side held steps cs os ms) k ≡ Some (record { net = c; orders = o; held = take m.held held; steps = take m.steps steps })
side-get held steps [] os ms k c o m x y z = absurd cc
side-get held steps (d ∷ cs) [] ms k c o m x y z = absurd cc
side-get held steps (d ∷ cs) (p ∷ os) [] k c o m x y z = absurd cc
side-get held steps (d ∷ cs) (p ∷ os) (n ∷ ms) zero c o m x y z = cc
side-get held steps (d ∷ cs) (p ∷ os) (n ∷ ms) (suc k) c o m x y z = side-get held steps cs os ms k c o m x y z

-- the marks before k keep what they have where the holds and steps are cut to those at k
pub side-take : (held : List Held) (steps : List Step) (cs : List Net) (os : List Lines) (ms : List BoardMark) (k h s : ℕ)
    → ((j : ℕ) (m : BoardMark) → j < k → slice_get ms j ≡ Some m → (m.held ≤ h) × (m.steps ≤ s))
    → side_by_side (take h held) (take s steps) (take k cs) (take k os) (take k ms) ≡ take k (side_by_side held steps cs os ms)
side-take held steps cs os ms zero h s f = refl
side-take held steps [] os ms (suc k) h s f = refl
side-take held steps (c ∷ cs) [] ms (suc k) h s f = refl
side-take held steps (c ∷ cs) (o ∷ os) [] (suc k) h s f = refl
side-take held steps (c ∷ cs) (o ∷ os) (m ∷ ms) (suc k) h s f =
    let b = f 0 m (omega arith) refl in
    let e : take m.held (take h held) ≡ take m.held held = take-take m.held h held b.0 in
    let g : take m.steps (take s steps) ≡ take m.steps steps = take-take m.steps s steps b.1 in
    let same : at_mark (take h held) (take s steps) c o m ≡ at_mark held steps c o m = (λ i. record { net = c; orders = o; held = e i; steps = g i }) in
    let rest = side-take held steps cs os ms k h s (λ j n l z. f (suc j) n (omega arith) z) in
    λ i. same i ∷ rest i

-- more holds and steps leave what stands at the marks
pub side-more : (held more_held : List Held) (steps more_steps : List Step) (cs : List Net) (os : List Lines) (ms : List BoardMark)
    → ((k : ℕ) (m : BoardMark) → slice_get ms k ≡ Some m → (m.held ≤ length held) × (m.steps ≤ length steps))
    → side_by_side (held ++ more_held) (steps ++ more_steps) cs os ms ≡ side_by_side held steps cs os ms
side-more held more_held steps more_steps [] os ms f = refl
side-more held more_held steps more_steps (c ∷ cs) [] ms f = refl
side-more held more_held steps more_steps (c ∷ cs) (o ∷ os) [] f = refl
side-more held more_held steps more_steps (c ∷ cs) (o ∷ os) (m ∷ ms) f =
    let b = f 0 m refl in
    let e : take m.held (held ++ more_held) ≡ take m.held held = take-append-le m.held held more_held b.0 in
    let g : take m.steps (steps ++ more_steps) ≡ take m.steps steps = take-append-le m.steps steps more_steps b.1 in
    let same : at_mark (held ++ more_held) (steps ++ more_steps) c o m ≡ at_mark held steps c o m = (λ i. record { net = c; orders = o; held = e i; steps = g i }) in
    let rest = side-more held more_held steps more_steps cs os ms (λ k n z. f (suc k) n z) in
    λ i. same i ∷ rest i

-- no mark stands
pub marks-none : (marks : List BoardMark) (steps held : ℕ) → length marks ≡ 0 → AreMarks marks steps held
marks-none marks steps held none =
    let no : (k : ℕ) (m : BoardMark) → slice_get marks k ≡ Some m → ⊥ = λ k m h. (let w = slice_get_within marks k m h in omega arith) in
    record {
      steps_below = λ k m h. absurd (no k m h);
      held_below = λ k m h. absurd (no k m h);
      steps_rise = λ j k m n b g h. absurd (no j m g);
      held_rise = λ j k m n b g h. absurd (no j m g);
    }

pub marks-push : (marks : List BoardMark) (steps held : ℕ) (m : BoardMark) → m.steps ≡ steps → m.held ≡ held → AreMarks marks steps held → AreMarks (marks ++ m ∷ []) steps held
marks-push marks steps held m s h a = record {
  steps_below = λ k n z. elim (slice_get_end marks m k n z) [ inl q ↦ a.steps_below k n q | inr q ↦ (let e = ap (λ (x : BoardMark). x.steps) q.1 in omega arith) ];
  held_below = λ k n z. elim (slice_get_end marks m k n z) [ inl q ↦ a.held_below k n q | inr q ↦ (let e = ap (λ (x : BoardMark). x.held) q.1 in omega arith) ];
  steps_rise = λ j k n o l y z. elim (slice_get_end marks m k o z) [
    | inl q ↦ (elim (slice_get_end marks m j n y) [ inl p ↦ a.steps_rise j k n o l p q | inr p ↦ absurd (let w = slice_get_within marks k o q in omega (arith, p.0)) ])
    | inr q ↦ (let e = ap (λ (x : BoardMark). x.steps) q.1 in elim (slice_get_end marks m j n y) [ inl p ↦ (let b = a.steps_below j n p in omega arith) | inr p ↦ absurd (omega (arith, p.0, q.0)) ])
  ];
  held_rise = λ j k n o l y z. elim (slice_get_end marks m k o z) [
    | inl q ↦ (elim (slice_get_end marks m j n y) [ inl p ↦ a.held_rise j k n o l p q | inr p ↦ absurd (let w = slice_get_within marks k o q in omega (arith, p.0)) ])
    | inr q ↦ (let e = ap (λ (x : BoardMark). x.held) q.1 in elim (slice_get_end marks m j n y) [ inl p ↦ (let b = a.held_below j n p in omega arith) | inr p ↦ absurd (omega (arith, p.0, q.0)) ])
  ];
}

pub marks-undone : (marks : List BoardMark) (steps held k : ℕ) (m : BoardMark) → slice_get marks k ≡ Some m → AreMarks marks steps held → AreMarks (take k marks) m.steps m.held
marks-undone marks steps held k m at a = record {
  steps_below = λ j n z. (let t = slice_get_take k marks j n z in a.steps_rise j k n m t.0 t.1 at);
  held_below = λ j n z. (let t = slice_get_take k marks j n z in a.held_rise j k n m t.0 t.1 at);
  steps_rise = λ i j n o l y z. a.steps_rise i j n o l (slice_get_take k marks i n y).1 (slice_get_take k marks j o z).1;
  held_rise = λ i j n o l y z. a.held_rise i j n o l (slice_get_take k marks i n y).1 (slice_get_take k marks j o z).1;
}

pub marks-more : (marks : List BoardMark) (steps held steps' held' : ℕ) → steps ≤ steps' → held ≤ held' → AreMarks marks steps held → AreMarks marks steps' held'
marks-more marks steps held steps' held' s h a = record {
  steps_below = λ k n z. (let b = a.steps_below k n z in omega arith);
  held_below = λ k n z. (let b = a.held_below k n z in omega arith);
  steps_rise = a.steps_rise;
  held_rise = a.held_rise;
}

pub side-steps : (held : List Held) (steps more_steps : List Step) (cs : List Net) (os : List Lines) (ms : List BoardMark) → ((k : ℕ) (m : BoardMark) → slice_get ms k ≡ Some m → m.steps ≤ length steps)
    → side_by_side held (steps ++ more_steps) cs os ms ≡ side_by_side held steps cs os ms
side-steps held steps more_steps [] os ms f = refl
side-steps held steps more_steps (c ∷ cs) [] ms f = refl
side-steps held steps more_steps (c ∷ cs) (o ∷ os) [] f = refl
side-steps held steps more_steps (c ∷ cs) (o ∷ os) (m ∷ ms) f =
    let g : take m.steps (steps ++ more_steps) ≡ take m.steps steps = take-append-le m.steps steps more_steps (f 0 m refl) in
    let same : at_mark held (steps ++ more_steps) c o m ≡ at_mark held steps c o m = (λ i. record { net = c; orders = o; held = take m.held held; steps = g i }) in
    let rest = side-steps held steps more_steps cs os ms (λ k n z. f (suc k) n z) in
    λ i. same i ∷ rest i

-- no mark has more steps than there are
short-at : (held : List Held) (steps : List Step) (cs : List Net) (os : List Lines) (ms : List BoardMark) (k : ℕ) (x : BoardContent) → slice_get (side_by_side held steps cs os ms) k ≡ Some x → length x.steps ≤ length steps
short-at held steps [] os ms k x at = absurd cc
short-at held steps (c ∷ cs) [] ms k x at = absurd cc
short-at held steps (c ∷ cs) (o ∷ os) [] k x at = absurd cc
short-at held steps (c ∷ cs) (o ∷ os) (m ∷ ms) zero x at =
    let same : at_mark held steps c o m ≡ x = same_Some (at_mark held steps c o m) x at in
    let l = length-take m.steps steps in
    let e : length x.steps ≡ length (take m.steps steps) = ap (λ (y : BoardContent). length y.steps) (sym same) in
    omega arith
short-at held steps (c ∷ cs) (o ∷ os) (m ∷ ms) (suc k) x at = short-at held steps cs os ms k x at

pub short-past : (held : List Held) (steps : List Step) (cs : List Net) (os : List Lines) (ms : List BoardMark) (x : BoardContent) → Contains (side_by_side held steps cs os ms) x → length x.steps ≤ length steps
short-past held steps cs os ms x c = let at = get-contains (side_by_side held steps cs os ms) x c in short-at held steps cs os ms at.0 x at.1
