use Rattle.std.proofs.Common.{◌≡◌, [], map, take}
use Rattle.std.specs.List.{All, AllZip}
use Rattle.std.specs.Prelude.{IfSome}
use Rattle.tp_outside.specs.Outside.{IsCounted}
use Rattle.tp_words.specs.Parts.{shown}
use Rattle.tp_program.specs.FarmEnds.{BeginsOn}
use Rattle.tp_program.proofs.machines.find_sessions.Given as goal

abbrev pub invariant-loop-place : goal.invariant-loop-place
invariant-loop-place g l = record {
  begin : AllZip (BeginsOn (g.H.Shelf.known l.initial.shelf) l.settings.budget l.settings.bounds) (take l.place (shown l.names)) (map (λ s. s.standing) l.sessions.items);
  fresh : All (λ s. (s.text ≡ []) × (s.answered ≡ 0)) l.sessions.items;
  known : g.H.Shelf.known l.shelf ≡ g.H.Shelf.known l.initial.shelf;
  counted : IsCounted (g.H.Shelf.faults l.initial.shelf) (g.H.Shelf.faults l.shelf);
  not_amiss : IfSome (g.H.Shelf.known l.initial.shelf) (λ _. g.H.Shelf.amiss l.shelf ≡ g.H.Shelf.amiss l.initial.shelf);
}
