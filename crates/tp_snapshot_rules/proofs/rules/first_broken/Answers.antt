use Rattle.tp_snapshot_rules.proofs.FirstRules.{breaks-eight, breaks-nine, breaks-seven, breaks-ten, keeps-ten}
use Rattle.tp_snapshot_rules.proofs.rules.first_broken.Goals as goal

pub returns-then-not-are_on_their_way-clause-broken : goal.returns-then-not-are_on_their_way-clause-broken
returns-then-not-are_on_their_way-clause-broken c = breaks-seven c.args.machine.now c.args.standing.now (λ way. (let kept = c.are_on_their_way.ensures.1 way in let not = c.if-not-are_on_their_way.true in absurd cc))

pub keeps_schedule-requires-clause-courses : goal.keeps_schedule-requires-clause-courses
keeps_schedule-requires-clause-courses c = c.are_on_their_way.ensures.0 c.if-not-are_on_their_way.false

pub returns-then-not-schedule-clause-broken : goal.returns-then-not-schedule-clause-broken
returns-then-not-schedule-clause-broken c = breaks-eight c.args.machine.now c.args.standing.now (c.are_on_their_way.ensures.0 c.if-not-are_on_their_way.false) (λ keeps. (let kept = c.in_ok-schedule.ensures.1 keeps in let not = c.if-not-schedule.true in absurd cc))

pub returns-then-not-keeps_copies-clause-broken : goal.returns-then-not-keeps_copies-clause-broken
returns-then-not-keeps_copies-clause-broken c = breaks-nine c.args.machine.now c.args.standing.now (c.are_on_their_way.ensures.0 c.if-not-are_on_their_way.false) (c.in_ok-schedule.ensures.0 c.if-not-schedule.false) (λ keeps. (let kept = c.keeps_copies.ensures.1 keeps in let not = c.if-not-keeps_copies.true in absurd cc))

pub keeps_times-requires-clause-legal : goal.keeps_times-requires-clause-legal
keeps_times-requires-clause-legal c = (c.in_ok-schedule.ensures.0 c.if-not-schedule.false).legal

pub keeps_times-requires-clause-floors : goal.keeps_times-requires-clause-floors
keeps_times-requires-clause-floors c = c.requires.floors (c.are_on_their_way.ensures.0 c.if-not-are_on_their_way.false)

pub keeps_times-requires-clause-horizon : goal.keeps_times-requires-clause-horizon
keeps_times-requires-clause-horizon c = (c.in_ok-schedule.ensures.0 c.if-not-schedule.false).horizon

pub returns-then-times-clause-kept : goal.returns-then-times-clause-kept
returns-then-times-clause-kept c = λ e. keeps-ten c.args.machine.now c.args.standing.now (c.are_on_their_way.ensures.0 c.if-not-are_on_their_way.false) (c.in_ok-schedule.ensures.0 c.if-not-schedule.false) (c.keeps_copies.ensures.0 c.if-not-keeps_copies.false) (c.in_ok-times.ensures.0 c.if-times.true)

pub returns-else-times-clause-broken : goal.returns-else-times-clause-broken
returns-else-times-clause-broken c = breaks-ten c.args.machine.now c.args.standing.now (c.are_on_their_way.ensures.0 c.if-not-are_on_their_way.false) (c.in_ok-schedule.ensures.0 c.if-not-schedule.false) (c.keeps_copies.ensures.0 c.if-not-keeps_copies.false) (λ keeps. (let kept = c.in_ok-times.ensures.1 keeps in let not = c.if-times.false in absurd cc))
