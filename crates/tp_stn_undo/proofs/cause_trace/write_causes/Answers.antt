use Rattle.std.proofs.Common.{arith, ◌≡◌, ℕ, ◌<◌, ◌-◌, List, [], ◌∷◌, ◌++◌, Some, length, get_or, refl, ap}
use Rattle.std.proofs.lemmas.Bool.{false≢true}
use Rattle.std.proofs.lemmas.List.{length-append}
use Rattle.tp_base.specs.declared.edges.Edge.{Edge}
use Rattle.tp_base.specs.Grows.{cause_of}
use Rattle.tp_base.specs.Trails.{Trailed}
use Rattle.tp_base.proofs.TraceFacts.{IsWayBack, WayBack-short, WayBack-push, WayBack-chain}
use Rattle.tp_stn_undo.specs.declared.point_state.PointState.{PointState}
use Rattle.tp_stn_undo.specs.declared.link.Link.{Link}
use Rattle.tp_stn_undo.specs.States.{edges_of, causes_of}
use Rattle.tp_stn_undo.specs.Propagation.{AreNumbered}
use Rattle.tp_stn_undo.proofs.CauseFacts.{no_state, no_link, cause_none, cause_some}
use Rattle.tp_stn_undo.proofs.RaiseFacts.{causes_len}
use Rattle.tp_stn_undo.proofs.ChainFacts.{not_passed, way_on, way_is_chain}
use Rattle.tp_stn_undo.proofs.cause_trace.write_causes.Goals as goal

-- one cause more
module _ (links : List Link) (states : List PointState) (from at : ℕ) (path : List Edge) (w : IsWayBack (causes_of (edges_of links) states) from path at) (cause : 0 < (get_or states at no_state).cause) (n : AreNumbered links states) where
  abbrev next : Edge
  next = (get_or links ((get_or states at no_state).cause - 1) no_link).edge

  is_next : cause_of (causes_of (edges_of links) states) at ≡ Some next
  is_next =
      let k = w.known in
      let len = causes_len links states in
      let known : at < length states = omega arith in
      cause_some links states at known no_link cause (n at no_state known)

pub back-preserved : goal.back-preserved
back-preserved c =
    let links = c.args.links.now in
    let states = c.args.states.now in
    let causes = causes_of (edges_of links) states in
    let at = c.back.at.0 in
    let path = c.back.into.items in
    let w = c.back.invariant.way in
    let q = c.if-cause-eq0.false in
    let some : 0 < (get_or states at no_state).cause = omega arith in
    let is = is_next links states c.args.from.0 at path w some c.requires.numbered in
    let e = next links states c.args.from.0 at path w some c.requires.numbered in
    let full : length path ≡ c.back.into.capacity → ⊥ = λ h. false≢true (c.in-Ok.ensures.full.1 h) in
    let fits = c.back.invariant.fits in
    let l = length-append path (e ∷ []) in
    let items = ap (λ (t : Trailed Edge). t.items) c.in-Ok.ensures.ok in
    let li = ap length items in
    let capacity = ap (λ (t : Trailed Edge). t.capacity) c.in-Ok.ensures.ok in
    let r = c.back.invariant.capacity in
    record {
      way = rw items (WayBack-push causes c.args.from.0 at path e w (not_passed causes c.args.from.0 c.requires.ends at path w) c.requires.causes is);
      capacity = omega arith;
      fits = omega arith;
    }

pub back-smaller : goal.back-smaller
back-smaller c =
    let links = c.args.links.now in
    let states = c.args.states.now in
    let causes = causes_of (edges_of links) states in
    let w = c.back.invariant.way in
    let len = causes_len links states in
    let s = WayBack-short causes c.args.from.0 c.back.at.0 c.back.into.items w (not_passed causes c.args.from.0 c.requires.ends c.back.at.0 c.back.into.items w) in
    let q = c.if-cause-eq0.false in
    let some : 0 < (get_or states c.back.at.0 no_state).cause = omega arith in
    let e = next links states c.args.from.0 c.back.at.0 c.back.into.items w some c.requires.numbered in
    let l = length-append c.back.into.items (e ∷ []) in
    let li = ap (λ (t : Trailed Edge). length t.items) c.in-Ok.ensures.ok in
    omega arith

pub returns-then-cause-eq0-clause-chain : goal.returns-then-cause-eq0-clause-chain
returns-then-cause-eq0-clause-chain c =
    let links = c.args.links.now in
    let states = c.args.states.now in
    let causes = causes_of (edges_of links) states in
    let at = c.back.at.0 in
    let path = c.back.into.items in
    let w = c.back.invariant.way in
    let k = w.known in
    let len = causes_len links states in
    rw (ap (λ (t : Trailed Edge). t.items) c.reverse.ensures) (WayBack-chain causes c.args.from.0 at path w (not_passed causes c.args.from.0 c.requires.ends at path w) (cause_none links states at (omega arith) c.if-cause-eq0.true))

pub returns-then-cause-eq0-clause-full : goal.returns-then-cause-eq0-clause-full
returns-then-cause-eq0-clause-full c =
    let links = c.args.links.now in
    let states = c.args.states.now in
    let causes = causes_of (edges_of links) states in
    let at = c.back.at.0 in
    let path = c.back.into.items in
    let w = c.back.invariant.way in
    let k = w.known in
    let len = causes_len links states in
    let fits = c.back.invariant.fits in
    let r = c.back.invariant.capacity in (
      λ h. absurd (false≢true h),
      λ m. absurd (
          let more = m.3 in
          let l = way_is_chain causes path c.args.from.0 at w (cause_none links states at (omega arith) c.if-cause-eq0.true) m.0 m.1 m.2 in
          omega arith),
    )

pub returns-in-Err-clause-full : goal.returns-in-Err-clause-full
returns-in-Err-clause-full c =
    let links = c.args.links.now in
    let states = c.args.states.now in
    let causes = causes_of (edges_of links) states in
    let at = c.back.at.0 in
    let path = c.back.into.items in
    let w = c.back.invariant.way in
    let q = c.if-cause-eq0.false in
    let some : 0 < (get_or states at no_state).cause = omega arith in
    let is = is_next links states c.args.from.0 at path w some c.requires.numbered in
    let e = next links states c.args.from.0 at path w some c.requires.numbered in
    let full = c.in-Err.ensures.full.0 refl in
    let r = c.back.invariant.capacity in
    let l = length-append path (e ∷ []) in
    let on = way_on causes c.args.from.0 c.requires.ends (length causes) e.from.0 (path ++ e ∷ []) c.requires.causes
    (WayBack-push causes c.args.from.0 at path e w (not_passed causes c.args.from.0 c.requires.ends at path w) c.requires.causes is) (omega arith) in
    (λ _. (on.0, on.1, on.2, (let m = on.3 in omega arith)), λ _. refl)
