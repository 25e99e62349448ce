use Rattle.tp_event_rules.proofs.LessOutages.{breaks_keep_planning, fall_backs_keep_planning, outages_keep_planning, outages_keep_moment, outages_keep_live}
use Rattle.tp_event_rules.proofs.PlanOnFacts.{fates_keep_planning}
use Rattle.tp_event_rules.proofs.laws.outages_keep_planning.Goals as goal

pub returns-clause-fates : goal.returns-clause-fates
returns-clause-fates c = fates_keep_planning

pub returns-clause-breaks : goal.returns-clause-breaks
returns-clause-breaks c = breaks_keep_planning

pub returns-clause-fall_backs : goal.returns-clause-fall_backs
returns-clause-fall_backs c = fall_backs_keep_planning

pub returns-clause-outages : goal.returns-clause-outages
returns-clause-outages c = outages_keep_planning

pub returns-clause-moment : goal.returns-clause-moment
returns-clause-moment c = outages_keep_moment

pub returns-clause-live : goal.returns-clause-live
returns-clause-live c = outages_keep_live
