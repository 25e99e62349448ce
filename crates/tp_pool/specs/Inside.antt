-- What a pool keeps true of its fields.
use Rattle.std.specs.Prelude.{◌<◌, ◌≤◌, ◌^◌, length, vec_capacity}
use Rattle.tp_pool.specs.declared.pool.Pool.TheInside.{Inside}
use Rattle.tp_pool.specs.Entries.{Entries}
use Rattle.tp_pool.specs.Nodes.{entries_of, AreNodes}

abbrev pub entries_in : Inside → Entries
entries_in a = record { capacity = a.capacity; entries = entries_of a.nodes.items }

pub record IsPool (a : Inside) : Type 0 where
  pub nodes : AreNodes a.nodes.items
  pub within : length a.nodes.items ≤ a.capacity
  pub fits : a.capacity < 2 ^ 32
  pub space : a.capacity ≤ vec_capacity a.nodes
