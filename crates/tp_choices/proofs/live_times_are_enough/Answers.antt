use Rattle.tp_choices.proofs.RejoinedPlans.{live_is_least}
use Rattle.tp_choices.proofs.LiveTimes.{live_retimes, whole_is_least}
use Rattle.tp_choices.proofs.WholeAnswers.{whole_retimes}
use Rattle.tp_choices.proofs.live_times_are_enough.Goals as goal

pub returns-clause-whole : goal.returns-clause-whole
returns-clause-whole c = whole_retimes

pub returns-clause-live : goal.returns-clause-live
returns-clause-live c = live_retimes

pub returns-clause-whole_least : goal.returns-clause-whole_least
returns-clause-whole_least c = whole_is_least

pub returns-clause-live_least : goal.returns-clause-live_least
returns-clause-live_least c = live_is_least
