use Rattle.std.proofs.Common.{◌≡◌, length, take}
use Rattle.std.specs.List.{All}
use Rattle.tp_words.specs.Parts.{shown}
use Rattle.tp_farm.specs.Lists.{IsFileName}
use Rattle.tp_farm.proofs.machine_list.name_texts.Given as goal

abbrev pub invariant-loop-place : goal.invariant-loop-place
invariant-loop-place l = record {
  texts : shown l.texts.items ≡ take l.place (shown l.names);
  count : length l.texts.items ≡ l.place;
  good : All IsFileName (take l.place (shown l.names));
}
