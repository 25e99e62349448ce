use Rattle.tp_choices.proofs.FewLists.{live_has_few}
use Rattle.tp_choices.proofs.LiveBounds.{live_bounds}
use Rattle.tp_choices.proofs.LiveLists.{live_opens}
use Rattle.tp_choices.proofs.LiveSpent.{live_spends}
use Rattle.tp_choices.proofs.WholeLists.{whole_opens}
use Rattle.tp_choices.proofs.live_lists_are_enough.Goals as goal

pub returns-clause-whole : goal.returns-clause-whole
returns-clause-whole c = whole_opens

pub returns-clause-live : goal.returns-clause-live
returns-clause-live c = live_opens

pub returns-clause-bounds : goal.returns-clause-bounds
returns-clause-bounds c = live_bounds

pub returns-clause-spends : goal.returns-clause-spends
returns-clause-spends c = live_spends

pub returns-clause-few : goal.returns-clause-few
returns-clause-few c = live_has_few
