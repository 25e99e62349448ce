-- What is reported of one event, as an entry of a log.
use Rattle.std.specs.Prelude.{List, [], ◌∷◌}
use Rattle.tp_bounds.specs.declared.tree.BoundTree.{BoundTree}
use Rattle.tp_log.specs.declared.item.Item.{Item}
use Rattle.tp_log.specs.declared.item.Item.TheVariants.{Event, Note, Tree}
use Rattle.tp_run_laws.specs.Proved.{records_in}
use Rattle.tp_run_laws.specs.Runs.{entry_of}
use Rattle.tp_script.specs.declared.event.Event.{Event as AnEvent}
use Rattle.tp_event_rules.specs.Logs.{Entry}

-- the trees among items
abbrev pub trees_in : List Item → List BoundTree
trees_in [] = []
trees_in (Event event ∷ items) = trees_in items
trees_in (Note told ∷ items) = trees_in items
trees_in (Tree tree ∷ items) = tree ∷ trees_in items

-- an event with the records and the trees of the items behind it
abbrev pub entry : AnEvent → List Item → Entry BoundTree
entry event items = entry_of event (records_in items) (trees_in items)
