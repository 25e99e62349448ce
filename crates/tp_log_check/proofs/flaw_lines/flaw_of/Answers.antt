-- The flaw is reported on the line of the item.
use Rattle.std.proofs.Common.{◌≡◌, ◌+◌, ◌∙◌, ap, drop, refl, subst, sym, take, arith}
use Rattle.std.proofs.lemmas.List.{drop_min, take_rest}
use Rattle.tp_log_check.specs.Heights.{heights}
use Rattle.tp_log_check.specs.Causes.{flaw_on, lines_to}
use Rattle.tp_log_check.specs.FlawLines.{LiesBehind}
use Rattle.tp_log_check.proofs.HeightFacts.{ends-within, known-on, lies-on, line-is, rest-fits}
use Rattle.tp_log_check.proofs.flaw_lines.flaw_of.Goals as goal

pub returns-clause-known : goal.returns-clause-known
returns-clause-known c = λ e. known-on c.line_behind-line.result c.further.result c.args.stop.reason (sym c.flaw_on.ensures ∙ e)

pub returns-clause-is : goal.returns-clause-is
returns-clause-is c fits =
    let items = c.args.items.now in
    let item = c.args.stop.item in
    let reason = c.args.stop.reason in
    let line = line-is c.args.line item items _ (ap (λ n. take n items) c.min-at.ensures) c.line_behind-line.result fits c.line_behind-line.ensures in
    let h = ends-within c.args.line c.min-at.result items _ refl c.line_behind-line.result fits c.line_behind-line.ensures in
    let all = h.1 in
    let rest = rest-fits c.args.line c.min-at.result items fits in
    let within = rw take_rest at c.lines_to-into.ensures.within in
    let into = (rw take_rest at c.lines_to-into.ensures.is) rest in
    let place = c.further.ensures.is (omega (arith, all, within, fits)) in
    let rest_is : drop c.min-at.result items ≡ drop item items = ap (λ n. drop n items) c.min-at.ensures ∙ drop_min item items in
    c.flaw_on.ensures ∙ ap (λ n. flaw_on c.line_behind-line.result n reason) (place ∙ ap (λ n. c.line_behind-line.result + n) (into ∙ ap (λ xs. lines_to xs reason) rest_is))
    ∙ ap (λ n. flaw_on n (n + lines_to (drop item items) reason) reason) line

pub returns-clause-lies : goal.returns-clause-lies
returns-clause-lies c fits =
    let items = c.args.items.now in
    let h = ends-within c.args.line c.min-at.result items _ refl c.line_behind-line.result fits c.line_behind-line.ensures in
    let behind = h.0 in
    let all = h.1 in
    let within = rw take_rest at c.lines_to-into.ensures.within in
    let from = c.further.ensures.from in
    let up_to = c.further.ensures.up_to in
    subst (LiesBehind c.args.line (c.args.line + 1 + heights items)) (sym c.flaw_on.ensures)
    (lies-on c.args.line (c.args.line + 1 + heights items) c.line_behind-line.result c.further.result c.args.stop.reason (behind, omega (arith, all)) (omega (arith, behind, from), omega (arith, all, within, up_to)))
