-- Feeder by feeder.
use Rattle.std.proofs.Common.{◌∙◌, ◌<◌, ◌++◌, ◌∷◌, [], ap, arith, length, sym, subst, take, pos, ◌≤ℤ◌}
use Rattle.std.specs.Prelude.{IfSome, option_map}
use Rattle.std.proofs.lemmas.List.{length-map, length-take}
use Rattle.tp_stock.specs.Stock.{most_stocked}
use Rattle.tp_event_rules.specs.LiveStates.{seen}
use Rattle.tp_event_rules.specs.Ready.{last_copy}
use Rattle.tp_session_standing.specs.StandingStates.{count_of, free_sheets}
use Rattle.tp_session_standing.proofs.FeederFacts.{count-few, count-some, counted, free-count, member, next-row}
use Rattle.tp_session_standing.proofs.stock_rows.stock_rows.Goals as goal

pub free_at-requires-clause-some : goal.free_at-requires-clause-some
free_at-requires-clause-some c =
    let m = c.args.machine.now in
    let s = seen c.args.state.now in
    let in' = member m.feeders c.feeders.at c.get.result.now c.get.ensures in
    subst (λ free. IfSome free (λ n. pos 0 ≤ℤ n)) (sym (counted m s c.count_taken-taken.result.0 c.count_taken-taken.ensures c.get.result.now in')) (count-some _ (free-count m last_copy s c.requires.stocked c.get.result.now in'))

pub free_at-requires-clause-few : goal.free_at-requires-clause-few
free_at-requires-clause-few c =
    let m = c.args.machine.now in
    let s = seen c.args.state.now in
    let in' = member m.feeders c.feeders.at c.get.result.now c.get.ensures in
    subst (λ free. IfSome free (λ n. n ≤ℤ pos most_stocked)) (sym (counted m s c.count_taken-taken.result.0 c.count_taken-taken.ensures c.get.result.now in')) (count-few _ (free-count m last_copy s c.requires.stocked c.get.result.now in'))

pub push-requires : goal.push-requires
push-requires c =
    let m = c.args.machine.now in
    let so-far = take c.feeders.at m.feeders in
    let few : c.len-at-end.result < 4294967296 = c.len-at-end.type_inv in
    record { capacity = omega (arith, ap length c.feeders.invariant, length-map so-far (free_sheets m (seen c.args.state.now)), length-take c.feeders.at m.feeders, c.feeders-test.true, few) }

pub feeders-preserved : goal.feeders-preserved
feeders-preserved c =
    let m = c.args.machine.now in
    let s = seen c.args.state.now in
    let f = c.get.result.now in
    let in' = member m.feeders c.feeders.at f c.get.ensures in
    c.in_ok-push.ensures.ok
    ∙ ap (λ n. c.feeders.rows ++ n ∷ []) (c.free_at.ensures ∙ ap (option_map count_of) (counted m s c.count_taken-taken.result.0 c.count_taken-taken.ensures f in'))
    ∙ ap (λ rows. rows ++ free_sheets m s f ∷ []) c.feeders.invariant
    ∙ sym (next-row (free_sheets m s) m.feeders c.feeders.at f c.get.ensures)
