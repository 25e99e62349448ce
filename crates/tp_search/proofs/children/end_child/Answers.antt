use Rattle.std.proofs.Common.{◌≡◌, ℕ, ◌≤◌, Option, None, Some, ap, IsTrue, ◌∷◌, length, List, take, length-take-le, sym, subst, ◌∙◌, refl, arith}
use Rattle.std.proofs.lemmas.Bool.{both_ways}
use Rattle.tp_machine.specs.ModuleUse.{action_at}
use Rattle.tp_pool.specs.Entries.{IsParentOf, choices_before}
use Rattle.tp_schedule.specs.Choices.{Choice}
use Rattle.tp_schedule.specs.Holders.{holds_of_act}
use Rattle.tp_search.specs.Limits.{IsMetLimit}
use Rattle.tp_search.specs.OpenedLists.{IsAtProgress, IsSameOpening}
use Rattle.tp_search.specs.OpenedLists.Progress.{through, up_to}
use Rattle.tp_search.specs.Stored.{choice_with, choices_by}
use Rattle.tp_search.specs.Stores.{IsInRange, StoreGrows, StoreValue, after_keep}
use Rattle.tp_search.proofs.BoardSteps.{back-trans, laid-back}
use Rattle.tp_search.proofs.FoundFacts.{found-laid}
use Rattle.tp_search.proofs.FurtherFacts.{further-same}
use Rattle.tp_search.proofs.LimitFacts.{within-before}
use Rattle.tp_search.proofs.OpeningFacts.{opening-limited}
use Rattle.tp_search.proofs.OpeningSame.{barred-same, fresh-same, progress-same}
use Rattle.tp_search.proofs.PlaceSteps.{all-placed, holds-four, laid-same}
use Rattle.tp_search.proofs.StoreFacts.{grows-by_keep, grows-by_limit, grows-itself, grows-trans}
use Rattle.tp_search.proofs.children.end_child.Goals as goal
use Rattle.tp_search.proofs.children.end_child.Goals.{After-end_bound-bound, After-seek_limit, else-child-via-then-child+else-bound-opening, else-child-via-else-child}

-- the choices of the child
abbrev choices_here : (g : _) (c : After-end_bound-bound g) → List Choice
choices_here g c = choice_with c.args.problem.machine.now c.args.child.now.act c.args.child.now.choice.places ∷ choices_by c.args.problem.machine.now (choices_before c.args.store.now.entries c.args.opening.now.parent)

many : (g : _) (c : After-end_bound-bound g) → length (holds_of_act (action_at c.args.problem.machine.now c.args.child.now.act.0)) ≤ length c.args.child.now.choice.places
many g c = (let four = holds-four c.args.problem.machine.now c.args.child.now.act.0 in let places = c.requires.child.four in omega arith)

each : (g : _) (c : After-end_bound-bound g) → length (take (length (holds_of_act (action_at c.args.problem.machine.now c.args.child.now.act.0))) c.args.child.now.choice.places) ≡ length (holds_of_act (action_at c.args.problem.machine.now c.args.child.now.act.0))
each g c = length-take-le (length (holds_of_act (action_at c.args.problem.machine.now c.args.child.now.act.0))) c.args.child.now.choice.places (many g c)

-- a parent among the first nodes is one among more
parent-within : (count first : ℕ) (parent : Option ℕ) → first ≤ count → IsParentOf first parent → IsParentOf count parent
parent-within count first None few is = tt
parent-within count first (Some parent) few is = omega (arith, few, is)

-- the store with a limit
abbrev limited : (g : _) (c : After-seek_limit g) → StoreValue
limited g c = record c.args.store.now { limit = c.seek_limit.new.store.limit }

same-limited : (g : _) (c : After-seek_limit g) → IsSameOpening c.args.opening.now c.dive_from.new.opening c.args.store.now (limited g c)
same-limited g c = barred-same c.args.opening.now c.dive_from.new.opening c.args.store.now (limited g c) c.dive_from.ensures.same (grows-by_limit c.args.store.now c.seek_limit.new.store.limit c.seek_limit.ensures.kept)

-- what is known of the opening after a dive that failed, and a limit that was sought
kept : (g : _) (c : After-seek_limit g) → IsInRange c.seek_limit.new.store c.end_bound-bound.result
    × IsAtProgress c.args.problem.machine.now c.args.board.now.plans c.args.problem.ask.now c.dive_from.new.opening (after_keep c.dive_from.new.opening.parent c.args.child.now.choice c.end_bound-bound.result c.args.child.now.complete c.seek_limit.new.store)
    (through c.args.child.now.act.0 (choice_with c.args.problem.machine.now c.args.child.now.act c.args.child.now.choice.places).places)
kept g c =
    let r = c.requires in
    let machine = c.args.problem.machine.now in
    let ask = c.args.problem.ask.now in
    let o = c.args.opening.now in
    let o' = c.dive_from.new.opening in
    let s = c.args.store.now in
    let v = limited g c in
    let same = same-limited g c in
    let plain = barred-same o o' s s c.dive_from.ensures.same (grows-itself s) in
    let other : IsTrue c.args.child.now.complete → c.end_bound-bound.result ≡ o'.bound → ⊥ = elim c.else-child.branch [
      | else-child-via-then-child+else-bound-opening w ↦ λ complete is. w.if-bound-opening.false (is ∙ same.bound)
      | else-child-via-else-child w ↦ λ complete is. both_ways c.args.child.now.complete w.if-child.false complete
    ] in
    let places = (choice_with machine c.args.child.now.act c.args.child.now.choice.places).places in
    let back = c.dive_from.ensures.back c.if-dive_from.false in
    let known = progress-same machine c.args.board.now.plans ask o o' s (up_to c.args.child.now.act.0 places) plain.goal plain.parent plain.bound plain.stored r.progress in
    let met = subst (λ ps. IsMetLimit machine ps ask c.seek_limit.new.store.limit) back.loaded.plans (c.seek_limit.ensures.met (subst (λ ps. IsMetLimit machine ps ask s.limit) (sym back.loaded.plans) known.met)) in
    let progress = opening-limited machine c.args.board.now.plans ask o' s (up_to c.args.child.now.act.0 places) c.seek_limit.new.store.limit known (within-before s.limit c.seek_limit.new.store.limit c.seek_limit.ensures.kept) (c.seek_limit.ensures.within known.in_limit) met in
    let at = all-placed g.N.Network.reading machine ask c.args.child.now.first o' v c.args.board.now c.args.child.now.act c.args.child.now.choice places c.args.child.now.complete c.end_bound-bound.result
    (r.child.act) (r.child.goal ∙ sym same.goal) refl (many g (goal.at.After-seek_limit g c).After-end_bound-bound) r.child.complete
    (laid-same g.N.Network.reading machine ask c.args.child.now.first o s c.args.board.now o' v (λ cs. choice_with machine c.args.child.now.act c.args.child.now.choice.places ∷ cs) same r.fresh r.laid)
    (fresh-same machine ask o o' s v same r.fresh) r.bounds progress (c.end_bound-bound.ensures machine r.laid.stands) other in
    subst (λ t. IsInRange t c.end_bound-bound.result × IsAtProgress machine c.args.board.now.plans ask o' (after_keep o'.parent c.args.child.now.choice c.end_bound-bound.result c.args.child.now.complete t) (through c.args.child.now.act.0 places)) (sym c.seek_limit.ensures.store) at

pub returns-then-bound-opening-clause-found : goal.returns-then-bound-opening-clause-found
returns-then-bound-opening-clause-found g c is =
    let k = (goal.at.returns-then-bound-opening-clause-found g c).After-end_bound-bound in
    let r = c.requires in
    let b = c.args.board.now in
    let new = r.child.complete.0 c.if-child.true in
    found-laid g.N.Network.reading b b c.args.problem.machine.now c.args.problem.ask.now c.args.opening.now.goal c.args.child.now.first (choices_here g k) c.args.opening.now.bound c.end_bound-bound.result
    (further-same g.N.Network.reading b b refl (record { made_for = refl; plans = refl; ask = refl }) refl) r.laid (each g k) new.0 new.1 (c.end_bound-bound.ensures c.args.problem.machine.now r.laid.stands)
    (omega (arith, c.if-bound-opening.true))

pub dive_from-requires-clause-carries : goal.dive_from-requires-clause-carries
dive_from-requires-clause-carries g c =
    let k = (goal.at.dive_from-requires-clause-carries g c).After-end_bound-bound in
    record { goal = c.args.opening.now.goal; choices = choices_here g k; laid = c.requires.laid; placed = each g k; count = c.requires.count }

pub returns-then-dive_from-clause-same : goal.returns-then-dive_from-clause-same
returns-then-dive_from-clause-same g c = barred-same c.args.opening.now c.dive_from.new.opening c.args.store.now c.args.store.now c.dive_from.ensures.same (grows-itself c.args.store.now)

pub seek_limit-requires-clause-carries : goal.seek_limit-requires-clause-carries
seek_limit-requires-clause-carries g c =
    let k = (goal.at.seek_limit-requires-clause-carries g c).After-end_bound-bound in
    let back = c.dive_from.ensures.back c.if-dive_from.false in
    record {
      goal = c.args.opening.now.goal;
      choices = choices_here g k;
      laid = laid-back g.N.Network.reading c.args.board.now c.dive_from.new.board c.args.problem.machine.now c.args.problem.ask.now c.args.opening.now.goal c.args.child.now.first (choices_here g k) back c.requires.laid;
      placed = each g k;
      count = c.requires.count;
    }

pub seek_limit-requires-clause-marks : goal.seek_limit-requires-clause-marks
seek_limit-requires-clause-marks g c = (let b = c.dive_from.ensures.back c.if-dive_from.false in omega (arith, ap length b.same_past, b.marks, c.requires.marks))

pub keep-requires-clause-parent : goal.keep-requires-clause-parent
keep-requires-clause-parent g c =
    let fresh = fresh-same c.args.problem.machine.now c.args.problem.ask.now c.args.opening.now c.dive_from.new.opening c.args.store.now (limited g (goal.at.keep-requires-clause-parent g c).After-seek_limit) (same-limited g (goal.at.keep-requires-clause-parent g c).After-seek_limit) c.requires.fresh in
    parent-within (length c.seek_limit.new.store.entries) c.dive_from.new.opening.stored c.dive_from.new.opening.parent (subst (λ (t : StoreValue). c.dive_from.new.opening.stored ≤ length t.entries) (sym c.seek_limit.ensures.store) fresh.stored) fresh.parent

pub keep-requires-clause-range : goal.keep-requires-clause-range
keep-requires-clause-range g c = (kept g (goal.at.keep-requires-clause-range g c).After-seek_limit).0

pub returns-clause-progress : goal.returns-clause-progress
returns-clause-progress g c none =
    subst (λ s. IsAtProgress c.args.problem.machine.now c.args.board.now.plans c.args.problem.ask.now c.dive_from.new.opening s (through c.args.child.now.act.0 (choice_with c.args.problem.machine.now c.args.child.now.act c.args.child.now.choice.places).places)) (sym c.keep.ensures)
    (kept g (goal.at.returns-clause-progress g c).After-seek_limit).1

pub returns-clause-same : goal.returns-clause-same
returns-clause-same g c =
    let s = c.args.store.now in
    let by-limit = subst (StoreGrows s) (sym c.seek_limit.ensures.store) (grows-by_limit s c.seek_limit.new.store.limit c.seek_limit.ensures.kept) in
    let by-keep = subst (StoreGrows c.seek_limit.new.store) (sym c.keep.ensures) (grows-by_keep c.dive_from.new.opening.parent c.args.child.now.choice c.end_bound-bound.result c.args.child.now.complete c.seek_limit.new.store) in
    barred-same c.args.opening.now c.dive_from.new.opening s c.keep.new.self c.dive_from.ensures.same (grows-trans s c.seek_limit.new.store c.keep.new.self by-limit by-keep)

pub returns-clause-back : goal.returns-clause-back
returns-clause-back g c none = back-trans g.N.Network.reading c.args.board.now c.dive_from.new.board c.seek_limit.new.board c.args.problem.machine.now (c.dive_from.ensures.back c.if-dive_from.false) c.seek_limit.ensures.back
