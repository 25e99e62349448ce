use Rattle.std.proofs.Common.{ap, refl, sym, ◌≡◌, ◌∙◌, true, map, string_bytes}
use Rattle.clap.specs.Words.{fault_of, is_simple, is_simple_and_free, matches_of}
use Rattle.clap.proofs.OnLiterals.{clap_on_literals}
use Rattle.tp_command.specs.App.{printer}
use Rattle.tp_command.proofs.word_matches.match_words.Goals as goal

free : is_simple_and_free printer ≡ true
unfolding clap_on_literals
free = refl

simple : is_simple printer ≡ true
unfolding clap_on_literals
simple = refl

pub returns-in-Ok-try_get_matches_from-clause-taken : goal.returns-in-Ok-try_get_matches_from-clause-taken
returns-in-Ok-try_get_matches_from-clause-taken c =
    sym (ap (λ app. fault_of app (map string_bytes c.args.words.now)) c.in-Ok.ensures)
    ∙ c.in-Ok-try_get_matches_from.ensures.kinds (ap is_simple_and_free c.in-Ok.ensures ∙ free)

pub returns-in-Ok-try_get_matches_from-clause-rows : goal.returns-in-Ok-try_get_matches_from-clause-rows
returns-in-Ok-try_get_matches_from-clause-rows c =
    (c.in-Ok-try_get_matches_from.ensures.matches (ap is_simple c.in-Ok.ensures ∙ simple)).0
    ∙ ap (λ app. matches_of app (map string_bytes c.args.words.now)) c.in-Ok.ensures
