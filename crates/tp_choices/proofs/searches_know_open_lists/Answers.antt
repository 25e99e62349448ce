use Rattle.tp_choices.proofs.FewLists.{ended_has_few}
use Rattle.tp_choices.proofs.SearchAncestors.{search_reaches, search_fronts, search_below, full_spends}
use Rattle.tp_choices.proofs.searches_know_open_lists.Goals as goal

pub returns-clause-reaches : goal.returns-clause-reaches
returns-clause-reaches c = search_reaches

pub returns-clause-fronts : goal.returns-clause-fronts
returns-clause-fronts c = search_fronts

pub returns-clause-below : goal.returns-clause-below
returns-clause-below c = search_below

pub returns-clause-spends : goal.returns-clause-spends
returns-clause-spends c = full_spends

pub returns-clause-few : goal.returns-clause-few
returns-clause-few c = ended_has_few
