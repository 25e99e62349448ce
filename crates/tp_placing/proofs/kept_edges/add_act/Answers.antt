use Rattle.std.proofs.Common.{◌≡◌, ◌∙◌, ◌<◌, List, [], ◌∷◌, ◌++◌, Some, None, length, get_or, refl, sym, ap, arith, append-nil}
use Rattle.std.proofs.lemmas.List.{append_assoc}
use Rattle.std.proofs.lemmas.Option.{slice_get_past, slice_get_read}
use Rattle.tp_base.specs.declared.edges.Edge.{Edge}
use Rattle.tp_machine.specs.ModuleUse.{action_at}
use Rattle.tp_placing.specs.LoadedNet.{act_edges}
use Rattle.tp_placing.proofs.kept_edges.add_act.Goals as goal

two-pushed : (xs ys zs both : List Edge) (x y d : Edge) → both ≡ x ∷ y ∷ [] → ys ≡ xs ++ get_or both 0 d ∷ [] → zs ≡ ys ++ get_or both 1 d ∷ [] → zs ≡ xs ++ x ∷ y ∷ []
two-pushed xs ys zs both x y d are a b =
    b ∙ ap (λ es. es ++ get_or both 1 d ∷ []) a ∙ append_assoc xs (get_or both 0 d ∷ []) (get_or both 1 d ∷ []) ∙ ap (λ es. xs ++ get_or es 0 d ∷ get_or es 1 d ∷ []) are

pub returns-in-Some-clause-added : goal.returns-in-Some-clause-added
returns-in-Some-clause-added c =
    let x = c.in-Some.action.now in
    let s = c.in-Some.ensures.lookup in
    let within : c.args.act.0 < length c.args.machine.now.actions = omega (arith, s.3.0, ap length c.as_slice.ensures, c.from.ensures) in
    let read = s.1 ∙ (λ i. get_or (c.as_slice.ensures i) (c.from.ensures i) x) in
    let found : action_at c.args.machine.now c.args.act.0 ≡ Some x = slice_get_read c.args.machine.now.actions (length c.args.machine.now.actions) c.args.act.0 x refl within read in
    two-pushed c.args.edges.now.items _ _ c.lasting.result _ _ _ c.lasting.ensures c.push_reserved.ensures.items c.push_reserved-in-Some.ensures.items ∙ ap (λ o. c.args.edges.now.items ++ act_edges o c.args.from) (sym found)

-- an action that the machine does not have adds nothing
pub returns-in-None-clause-added : goal.returns-in-None-clause-added
returns-in-None-clause-added c =
    let past = c.in-None.ensures.lookup.3 in
    let same = ap length c.as_slice.ensures in
    let number = c.from.ensures in
    let none : action_at c.args.machine.now c.args.act.0 ≡ None = slice_get_past c.args.machine.now.actions c.args.act.0 (omega arith) in
    rw none (sym (append-nil _))
