use Rattle.std.proofs.Common.{◌≡◌, ◌++◌, ◌+◌, ◌<◌, ◌^◌, true, length}
use Rattle.std.specs.List.{list_all}
use Rattle.tp_base.specs.NameText.{is_name_text}
use Rattle.tp_machine.specs.Rules.{do_names_differ}
use Rattle.tp_machine_text.proofs.Fresh.{are_new}
use Rattle.tp_words.specs.Parts.{shown, words_in}
use Rattle.tp_soak.proofs.case_names.names_in.Given as goal

abbrev pub invariant-names : goal.invariant-names
invariant-names l = record {
  few : length l.names + length l.rest < 2 ^ 16;
  named : list_all is_name_text (shown l.rest) ≡ true;
  new : are_new l.names (shown l.rest) ≡ true;
  differ : do_names_differ (shown l.rest) ≡ true;
  whole : l.names ++ shown l.rest ≡ words_in l.text;
}

abbrev pub decreases-names : goal.decreases-names
decreases-names l = length l.rest
