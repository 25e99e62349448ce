use Rattle.std.proofs.Common.{◌≡◌, ℕ, ◌<◌, false, Some}
use Rattle.std.specs.Prelude.{slice_get}
use Rattle.tp_bounds.specs.declared.hops.Hop.{Hop}
use Rattle.tp_bound_make.specs.Ranges.{leads}
use Rattle.tp_bound_make.proofs.side.Side.has_none.Given as goal

-- none of the hops so far does
abbrev pub invariant-hops : goal.invariant-hops
invariant-hops l = (k : ℕ) → k < l.at → (h : Hop) → slice_get l.hops k ≡ Some h → leads l.self l.name l.count h ≡ false
