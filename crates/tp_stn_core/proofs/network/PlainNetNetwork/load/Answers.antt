use Rattle.tp_stn_core.proofs.network.PlainNetNetwork.load.Goals as goal

pub unreachable-requires : goal.unreachable-requires
unreachable-requires c = let s = c.requires.solution in c.in-Err.ensures.late s.0 s.1
