use Rattle.std.proofs.Common.{arith, ◌≡◌, ◌∙◌, ◌<◌, List, ap, sym, subst, length, take, drop}
use Rattle.std.proofs.lemmas.List.{take_all, length-take-le}
use Rattle.std.proofs.lemmas.List.Elements.{All-drop, All-take}
use Rattle.tp_stn_undo.specs.declared.point_state.SavedState.{SavedState}
use Rattle.tp_stn_undo.specs.Saved.{restored}
use Rattle.tp_stn_undo.specs.Flags.{Noted, AreKnown}
use Rattle.tp_stn_undo.proofs.NoteFacts.{all_known, both_back}
use Rattle.tp_stn_undo.proofs.changes.Changes.keep.Goals as goal

pub make_short-requires-clause-known : goal.make_short-requires-clause-known
make_short-requires-clause-known c =
    let a = c.self.inside in
    let v = ap (λ (w : Noted). w.capacity) c.self.view_is in
    let k = subst (λ (w : Noted). AreKnown w.capacity w.older) (sym c.self.view_is) c.requires.known in
    let n = subst (λ (w : Noted). AreKnown w.capacity w.entries) (sym c.self.view_is) c.requires.noted in
    let l : length c.deref_mut-2.result.now ≡ length a.noted.items = omega (arith, c.deref_mut-2.ensures.len, a.noted.ok.0) in
    rw l (All-drop (λ (s : SavedState). s.point.0 < length a.noted.items) c.args.from a.entries.items (all_known (length a.noted.items) a.before a.entries.items k n))

pub returns-clause-back : goal.returns-clause-back
returns-clause-back c = λ states.
    let a = c.self.inside in
    let v = ap (λ (w : Noted). length w.older) c.self.view_is in
    let l = length-take-le a.before a.entries.items c.self.invariant.within in
    let f = c.requires.from in
    let all : take c.len-self-inside.result c.make_short.new.entries.items ≡ c.make_short.new.entries.items = take_all c.len-self-inside.result c.make_short.new.entries.items (omega arith) in
    ap (λ (es : List SavedState). restored (drop c.args.from es) states) all
    ∙ c.make_short.ensures.back states
    ∙ both_back c.args.from a.before a.entries.items c.self.invariant.within (omega arith) states
    ∙ ap (λ (w : Noted). restored (drop c.args.from w.older) (restored w.entries states)) c.self.view_is

pub returns-clause-known : goal.returns-clause-known
returns-clause-known c = λ count k n.
    let a = c.self.inside in
    let all : take c.len-self-inside.result c.make_short.new.entries.items ≡ c.make_short.new.entries.items = take_all c.len-self-inside.result c.make_short.new.entries.items (omega arith) in
    let P : SavedState → Type 0 = λ s. s.point.0 < count in
    let was : AreKnown count a.entries.items = all_known count a.before a.entries.items (subst (λ (w : Noted). AreKnown count w.older) (sym c.self.view_is) k) (subst (λ (w : Noted). AreKnown count w.entries) (sym c.self.view_is) n) in
    subst (AreKnown count) (sym all) (all_known count c.args.from c.make_short.new.entries.items
    (subst (AreKnown count) (sym c.make_short.ensures.before) (All-take P c.args.from a.entries.items was))
    (c.make_short.ensures.known count (All-drop P c.args.from a.entries.items was)))
