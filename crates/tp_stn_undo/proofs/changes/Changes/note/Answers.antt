use Rattle.std.proofs.Common.{arith, ◌≡◌, ◌∙◌, ◌<◌, ◌++◌, ◌∷◌, [], List, drop, Bool, false, true, ap, sym, length, subst, set}
use Rattle.std.proofs.lemmas.List.{length-set, length-map, length-append, length-drop, drop-append-le, get_or_read}
use Rattle.tp_stn_undo.specs.declared.point_state.SavedState.{SavedState}
use Rattle.tp_stn_undo.specs.Saved.{restored}
use Rattle.tp_stn_undo.specs.Flags.{flag, points_in, Noted}
use Rattle.tp_stn_undo.proofs.FlagFacts.{held_push, flagged-lt}
use Rattle.tp_stn_undo.proofs.NoteFacts.{noted_first, noted_before, points_in-push}
use Rattle.tp_stn_undo.proofs.changes.Changes.note.Goals as goal
use Rattle.tp_stn_undo.proofs.changes.Changes.note.Goals.{After-index}

known : (c : After-index) → c.args.point.0 < length c.self.inside.noted.items
known c = let v = ap (λ (w : Noted). w.capacity) c.self.view_is in let r = c.requires in omega arith

is : (c : After-index) (b : Bool) → c.index.result.now ≡ b → flag c.self.inside.noted.items c.args.point.0 ≡ b
is c b e = sym (get_or_read c.self.inside.noted.items c.args.point.0 c.index.result.now (known c) c.index.ensures false) ∙ e

pub invariant_of-self : goal.invariant_of-self
invariant_of-self c =
    let k = (goal.at.invariant_of-self c).After-index in
    let a = c.self.inside in
    let l = length-set a.noted.items c.args.point.0 true in
    let n = c.self.invariant.capacity in
    let cap = c.push_reserved.ensures.capacity in
    let e : SavedState = record { point = c.args.point; state = c.args.state.now } in
    let w = c.self.invariant.within in
    let m = length-append a.entries.items (e ∷ []) in
    let q = ap length c.push_reserved.ensures.items in
    let more : drop a.before (a.entries.items ++ e ∷ []) ≡ drop a.before a.entries.items ++ e ∷ [] = drop-append-le a.before a.entries.items (e ∷ []) w in
    record {
      within = omega arith;
      held = rw (c.push_reserved.ensures.items, more, points_in-push (drop a.before a.entries.items) e) (held_push a.noted.items (points_in (drop a.before a.entries.items)) c.args.point.0 (known k) (is k false c.if-not-index.true) c.self.invariant.held);
      capacity = omega arith;
    }

pub push_reserved-requires : goal.push_reserved-requires
push_reserved-requires c =
    let k = (goal.at.push_reserved-requires c).After-index in
    let a = c.self.inside in
    let m = c.self.invariant.capacity in
    let lt = flagged-lt a.noted.items c.args.point.0 (known k) (is k false c.if-not-index.true) in
    let s = c.self.invariant.held.short in
    let l = length-map (drop a.before a.entries.items) (λ (s : SavedState). s.point.0) in
    let d = length-drop a.before a.entries.items in
    let w = c.self.invariant.within in
    let ok = a.entries.ok.0 in
    omega arith

pub returns-then-not-index-clause-back : goal.returns-then-not-index-clause-back
returns-then-not-index-clause-back c = λ states x g.
    let a = c.self.inside in
    let e : SavedState = record { point = c.args.point; state = c.args.state.now } in
    ap (λ (es : List SavedState). restored es (set states c.args.point.0 x)) (ap (drop a.before) c.push_reserved.ensures.items ∙ drop-append-le a.before a.entries.items (e ∷ []) c.self.invariant.within) ∙ noted_first (drop a.before a.entries.items) e states x g ∙ ap (λ (w : Noted). restored w.entries states) c.self.view_is

pub returns-else-not-index-clause-back : goal.returns-else-not-index-clause-back
returns-else-not-index-clause-back c = λ states x g.
    let k = (goal.at.returns-else-not-index-clause-back c).After-index in
    subst (λ (w : Noted). restored w.entries (set states c.args.point.0 x) ≡ restored w.entries states) c.self.view_is
    (noted_before (drop c.self.inside.before c.self.inside.entries.items) c.args.point.0 states x (c.self.invariant.held.held c.args.point.0 (is k true c.if-not-index.false)))
