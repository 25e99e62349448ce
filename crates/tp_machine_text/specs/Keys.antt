-- The keys and words of a machine text.
use Rattle.std.specs.Prelude.{ℕ, List, [], ◌∷◌, codes, map}
use Rattle.toml.specs.Data.{Data, Members}
use Rattle.tp_machine_text.specs.Words.{elements_at, text_of, text_at, keys_of, members_at}

abbrev pub top_keys : List (List ℕ)
top_keys = codes "format" ∷ codes "lead" ∷ codes "window" ∷ codes "budget" ∷ codes "locations" ∷ codes "modules" ∷ codes "trays" ∷ codes "purge" ∷ codes "feeders" ∷ codes "resources" ∷ codes "actions" ∷ codes "gaps" ∷ codes "stock" ∷ []

abbrev pub action_keys : List (List ℕ)
action_keys = codes "name" ∷ codes "module" ∷ codes "from" ∷ codes "to" ∷ codes "least" ∷ codes "most" ∷ codes "prints" ∷ codes "flip" ∷ codes "holds" ∷ []

abbrev pub hold_keys : List (List ℕ)
hold_keys = codes "resource" ∷ codes "begin" ∷ codes "end" ∷ codes "mode" ∷ []

-- what an action may print, and where a hold may be tied to its action
abbrev pub kinds : List (List ℕ)
kinds = codes "mono" ∷ codes "colour" ∷ []

abbrev pub anchors : List (List ℕ)
anchors = codes "start" ∷ codes "end" ∷ []

-- the texts of the array at a key
abbrev pub texts_at : List ℕ → Members → List (List ℕ)
texts_at key t = map text_of (elements_at key t)

abbrev pub locations : Members → List (List ℕ)
locations t = texts_at (codes "locations") t

abbrev pub modules : Members → List (List ℕ)
modules t = texts_at (codes "modules") t

abbrev pub trays : Members → List (List ℕ)
trays t = texts_at (codes "trays") t

abbrev pub purges : Members → List (List ℕ)
purges t = texts_at (codes "purge") t

-- the locations that are feeders, and the names of the resources
abbrev pub feeders : Members → List (List ℕ)
feeders t = keys_of (members_at (codes "feeders") t)

abbrev pub resources : Members → List (List ℕ)
resources t = keys_of (members_at (codes "resources") t)

-- the gaps of resources, and the stocks of feeders
abbrev pub gaps : Members → Members
gaps t = members_at (codes "gaps") t

abbrev pub stocks : Members → Members
stocks t = members_at (codes "stock") t

abbrev pub actions : Members → List Data
actions t = elements_at (codes "actions") t

-- the name of an action
abbrev pub action_name : Data → List ℕ
action_name a = text_at (codes "name") a
