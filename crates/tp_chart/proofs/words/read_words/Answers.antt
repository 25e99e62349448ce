use Rattle.std.proofs.Common.{◌≡◌, ◌∙◌, ap, sym, refl, List, [], ◌∷◌, Option, None, if◌then◌else◌}
use Rattle.clap.specs.Words.{Kinds, Text, fault_of, matches_of}
use Rattle.tp_chart.specs.Words.{Asked, asked_in, chart, chart_asked, is_none}
use Rattle.tp_chart.proofs.words.read_words.Goals as goal

no_fault : (kinds : Kinds) (o : Option Asked) → kinds ≡ [] → (if is_none kinds then o else None) ≡ o
no_fault [] o e = refl
no_fault (k ∷ ks) o e = absurd cc

some_fault : (kinds : Kinds) (o : Option Asked) → ¬ (kinds ≡ []) → (if is_none kinds then o else None) ≡ None
some_fault [] o e = absurd (e refl)
some_fault (k ∷ ks) o e = refl

taken : (words : List Text) → fault_of chart words ≡ [] → chart_asked words ≡ asked_in (matches_of chart words)
taken words e = no_fault (fault_of chart words) (asked_in (matches_of chart words)) e

refused : (words : List Text) → ¬ (fault_of chart words ≡ []) → chart_asked words ≡ None
refused words e = some_fault (fault_of chart words) (asked_in (matches_of chart words)) e

pub returns-in-Err-clause-usage : goal.returns-in-Err-clause-usage
returns-in-Err-clause-usage c = λ e. refused _ (c.in-Err.ensures.usage e)

pub returns-in-Some-clause-ok : goal.returns-in-Some-clause-ok
returns-in-Some-clause-ok c =
    taken _ c.in-Ok.ensures.taken ∙ ap asked_in (sym c.in-Ok.ensures.rows) ∙ sym c.in-Some.ensures

pub returns-clause-usage : goal.returns-clause-usage
returns-clause-usage c = λ e.
    taken _ c.in-Ok.ensures.taken ∙ ap asked_in (sym c.in-Ok.ensures.rows) ∙ sym c.in-None.ensures
