use Rattle.std.proofs.Common.{arith, ℕ, ◌∙◌, ◌≤◌, ◌+◌, ◌-◌, ◌*◌, Bool, List, length, slice_index, get_or, sym, ap, subst, true, rules}
use Rattle.std.proofs.lemmas.Int.{ints}
use Rattle.std.proofs.lemmas.List.{length-set}
use Rattle.tp_base.specs.declared.edges.Edge.{Edge}
use Rattle.tp_base.specs.Grows.{AreWithin, slack}
use Rattle.tp_stn_undo.specs.States.{times_of, edges_of}
use Rattle.tp_stn_undo.specs.Propagation.{KeptFrom, IsMet}
use Rattle.tp_stn_undo.proofs.CauseFacts.{no_state, no_link, slice_get_at, edge_at}
use Rattle.tp_stn_undo.proofs.RaiseFacts.{times_same, time_at, known, to, height, pulls, raised, after, lows_after, numbered_after, rises, passes, below_after, kept_after, met_after, less_after, weight_less}
use Rattle.tp_stn_undo.proofs.propagation.raise_along.Goals as goal

pub note-requires : goal.note-requires
note-requires c =
    let k = (known c.args.links.now c.args.states.now c.args.pull.number c.requires.asks.some c.requires.asks.within c.requires.bounded.known).to in
    let r = c.requires.capacity in
    omega arith

pub bounds-caps-to : goal.bounds-caps-to
bounds-caps-to c =
    let k = (known c.args.links.now c.args.states.now c.args.pull.number c.requires.asks.some c.requires.asks.within c.requires.bounded.known).to in
    let r = c.requires.bounded.all_capped in
    omega arith

pub bounds-states-to : goal.bounds-states-to
bounds-states-to c = (known c.args.links.now c.args.states.now c.args.pull.number c.requires.asks.some c.requires.asks.within c.requires.bounded.known).to

pub returns-then-pull-from-clause-back : goal.returns-then-pull-from-clause-back
returns-then-pull-from-clause-back c =
    let links = c.args.links.now in
    let states = c.args.states.now in
    let number = c.args.pull.number in
    let some = c.requires.asks.some in
    let within = c.requires.asks.within in
    let all = c.requires.bounded.known in
    let high = height c.args.pull.reach in
    let pulled = pulls links states number some within all c.args.pull.reach c.requires.asks.asked c.requires.asks.more (omega (arith, ints)) in
    let at = to links states number some within all in
    let inside = (known links states number some within all).to in
    let get = slice_get_at states at no_state inside in
    record {
      back = c.note.ensures.back states (raised links states number some within all (get_or states at no_state).time) get;
      known = c.note.ensures.known (length states) inside;
      lows = lows_after links states number some within all (get_or states at no_state).time;
      numbered = numbered_after links states number some within all (get_or states at no_state).time;
      len = length-set states at (raised links states number some within all (get_or states at no_state).time);
    }

pub returns-then-pull-from-clause-below : goal.returns-then-pull-from-clause-below
returns-then-pull-from-clause-below c =
    let links = c.args.links.now in
    let states = c.args.states.now in
    let number = c.args.pull.number in
    let some = c.requires.asks.some in
    let within = c.requires.asks.within in
    let all = c.requires.bounded.known in
    let high = height c.args.pull.reach in
    let pulled = pulls links states number some within all c.args.pull.reach c.requires.asks.asked c.requires.asks.more (omega (arith, ints)) in
    subst (λ (ts : List ℕ). AreWithin c.args.caps.now ts) (sym (times_same links states number some within all)) c.requires.bounded.below

pub returns-then-pull-from-clause-late : goal.returns-then-pull-from-clause-late
returns-then-pull-from-clause-late c =
    let links = c.args.links.now in
    let states = c.args.states.now in
    let number = c.args.pull.number in
    let some = c.requires.asks.some in
    let within = c.requires.asks.within in
    let all = c.requires.bounded.known in
    let high = height c.args.pull.reach in
    let pulled = pulls links states number some within all c.args.pull.reach c.requires.asks.asked c.requires.asks.more (omega (arith, ints)) in
    let at = to links states number some within all in
    let above = c.if-pull-from.true in
    let is = pulled.is in
    passes links states number some within all high pulled.reach pulled.more c.args.caps.now (get_or states at no_state).time (omega (arith, ints))

pub returns-clause-back : goal.returns-clause-back
returns-clause-back c =
    let links = c.args.links.now in
    let states = c.args.states.now in
    let number = c.args.pull.number in
    let some = c.requires.asks.some in
    let within = c.requires.asks.within in
    let all = c.requires.bounded.known in
    let high = height c.args.pull.reach in
    let pulled = pulls links states number some within all c.args.pull.reach c.requires.asks.asked c.requires.asks.more (omega (arith, ints)) in
    let at = to links states number some within all in
    let inside = (known links states number some within all).to in
    let get = slice_get_at states at no_state inside in
    record {
      back = c.note.ensures.back states (raised links states number some within all high) get;
      known = c.note.ensures.known (length states) inside;
      lows = lows_after links states number some within all high;
      numbered = numbered_after links states number some within all high;
      len = length-set states at (raised links states number some within all high);
    }

pub returns-clause-below : goal.returns-clause-below
returns-clause-below c =
    let links = c.args.links.now in
    let states = c.args.states.now in
    let number = c.args.pull.number in
    let some = c.requires.asks.some in
    let within = c.requires.asks.within in
    let all = c.requires.bounded.known in
    let high = height c.args.pull.reach in
    let pulled = pulls links states number some within all c.args.pull.reach c.requires.asks.asked c.requires.asks.more (omega (arith, ints)) in
    let fit = c.if-pull-from.false in
    let is = pulled.is in
    let fits : high ≤ slice_index c.args.caps.now (to links states number some within all) = omega (arith, ints) in
    below_after links states number some within all high pulled.reach pulled.more c.args.caps.now fits c.requires.bounded.below

pub bounds-states-to-2 : goal.bounds-states-to-2
bounds-states-to-2 c = (known c.args.links.now c.args.states.now c.args.pull.number c.requires.asks.some c.requires.asks.within c.requires.bounded.known).to

pub push-requires : goal.push-requires
push-requires c =
    let k = (known c.args.links.now c.args.states.now c.args.pull.number c.requires.asks.some c.requires.asks.within c.requires.bounded.known).to in
    let w = c.requires.waits in
    omega arith

pub returns-clause-known : goal.returns-clause-known
returns-clause-known c = c.push.ensures.known (length c.args.states.now) (known c.args.links.now c.args.states.now c.args.pull.number c.requires.asks.some c.requires.asks.within c.requires.bounded.known).to

pub overflow_cast-states : goal.overflow_cast-states
overflow_cast-states c =
    let links = c.args.links.now in
    let states = c.args.states.now in
    let number = c.args.pull.number in
    let some = c.requires.asks.some in
    let within = c.requires.asks.within in
    let all = c.requires.bounded.known in
    let e : Edge = (get_or links (number - 1) no_link).edge in
    let k = known links states number some within all in
    let least = k.least in
    let most = k.most in
    let at_from = time_at states e.from.0 k.from in
    let at_to = time_at states e.to.0 k.to in
    let sum = c.requires.asks.asked e (edge_at links number no_link some within) in
    let asks = c.requires.asks.more e (edge_at links number no_link some within) in
    let fit = c.if-pull-from.false in
    search (rules, arith, ints)

pub bounds-states-to-then-pull-from : goal.bounds-states-to-then-pull-from
bounds-states-to-then-pull-from c = (known c.args.links.now c.args.states.now c.args.pull.number c.requires.asks.some c.requires.asks.within c.requires.bounded.known).to

pub bounds-states-to-then-pull-from-2 : goal.bounds-states-to-then-pull-from-2
bounds-states-to-then-pull-from-2 c = (known c.args.links.now c.args.states.now c.args.pull.number c.requires.asks.some c.requires.asks.within c.requires.bounded.known).to

pub bounds-states-to-then-pull-from-3 : goal.bounds-states-to-then-pull-from-3
bounds-states-to-then-pull-from-3 c = (known c.args.links.now c.args.states.now c.args.pull.number c.requires.asks.some c.requires.asks.within c.requires.bounded.known).to

pub bounds-states-to-3 : goal.bounds-states-to-3
bounds-states-to-3 c = (known c.args.links.now c.args.states.now c.args.pull.number c.requires.asks.some c.requires.asks.within c.requires.bounded.known).to

pub returns-clause-follows : goal.returns-clause-follows
returns-clause-follows c =
    let links = c.args.links.now in
    let states = c.args.states.now in
    let number = c.args.pull.number in
    let some = c.requires.asks.some in
    let within = c.requires.asks.within in
    let all = c.requires.bounded.known in
    let high = height c.args.pull.reach in
    let pulled = pulls links states number some within all c.args.pull.reach c.requires.asks.asked c.requires.asks.more (omega (arith, ints)) in
    let fit = c.if-pull-from.false in
    let is = pulled.is in
    let fits : high ≤ slice_index c.args.caps.now (to links states number some within all) = omega (arith, ints) in
    let less = less_after links states number some within all high pulled.reach pulled.more c.args.caps.now c.requires.bounded.all_capped fits in
    let l = ap length c.push.ensures.flags ∙ length-set c.args.waiting.now.flags (to links states number some within all) true in
    let few = c.push.ensures.few in
    let w = c.requires.waits in
    let t = (known links states number some within all).to in
    record {
      rises = rises links states number some within all high pulled.reach pulled.more;
      kept = λ edges point left kept.
          subst (λ (fs : List Bool). KeptFrom edges (slice_index (times_of (after links states number some within all high))) fs point left) (sym c.push.ensures.flags)
          (kept_after links states number some within all high pulled.reach pulled.more c.args.waiting.now.flags edges point left (omega arith) kept);
      met = subst (λ (fs : List Bool). IsMet (edges_of links) (slice_index (times_of (after links states number some within all high))) fs (number - 1)) (sym c.push.ensures.flags)
          (met_after links states number some within all high pulled.reach pulled.more c.args.waiting.now.flags (omega arith));
      less = subst (λ (n : ℕ). slack c.args.caps.now (times_of (after links states number some within all high)) * (n + 1) + length c.push.new.self.points ≤ slack c.args.caps.now (times_of states) * (length c.args.waiting.now.flags + 1) + length c.args.waiting.now.points) (sym l)
          (weight_less (slack c.args.caps.now (times_of states)) (slack c.args.caps.now (times_of (after links states number some within all high))) (length c.args.waiting.now.flags) (length c.args.waiting.now.points) (length c.push.new.self.points) less (omega arith));
    }
