use Rattle.std.proofs.Common.{◌≡◌, ◌++◌, ◌+◌, ◌*◌, ◌≤◌, true, codes, fold, length}
use Rattle.std.specs.List.{All, list_all}
use Rattle.std.specs.Prelude.{decimal}
use Rattle.tp_base.specs.NameText.{is_name_text}
use Rattle.tp_soak.specs.Scripts.{IsScripted, round, rounds, standing}
use Rattle.tp_soak.proofs.script.script.Given as goal

-- the rounds that are still to come complete those of the script
abbrev pub invariant-rounds : goal.invariant-rounds
invariant-rounds l = record {
  named : list_all (λ n. is_name_text (codes "j" ++ decimal n)) l.rest ≡ true;
  early : l.clock + 20 * length l.rest ≤ 240;
  events_whole : All IsScripted l.events.items;
  made : fold round (standing l.draws.state l.clock l.events.items) l.rest ≡ rounds l.fn.draws.state;
}

abbrev pub decreases-rounds : goal.decreases-rounds
decreases-rounds l = length l.rest
