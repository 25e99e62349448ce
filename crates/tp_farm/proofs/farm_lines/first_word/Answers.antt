-- The words of the line are those of what is left of it.
use Rattle.std.proofs.Common.{◌≤◌, length, sym, subst, ◌∙◌, arith}
use Rattle.tp_farm.proofs.WordFacts.{cut-shorter, words-found, words-last, words-skip}
use Rattle.tp_farm.proofs.farm_lines.first_word.Goals as goal

pub words-preserved : goal.words-preserved
words-preserved c =
    let cut = sym c.in-Some.ensures in (
      c.words.invariant.0 ∙ words-skip c.words.rest.now c.in-Some.word.now c.in-Some.more.now cut (sym c.is_empty.ensures ∙ c.if-not-is_empty.false),
      omega (arith, c.words.invariant.1, cut-shorter c.words.rest.now c.in-Some.word.now c.in-Some.more.now cut),
    )

pub returns-then-not-is_empty-clause-first : goal.returns-then-not-is_empty-clause-first
returns-then-not-is_empty-clause-first c =
    c.words.invariant.0 ∙ words-found c.words.rest.now c.in-Some.word.now c.in-Some.more.now (sym c.in-Some.ensures) (sym c.is_empty.ensures ∙ c.if-not-is_empty.true)

pub returns-clause-none : goal.returns-clause-none
returns-clause-none c = λ none. subst (λ ws. length ws ≤ 1) (sym c.words.invariant.0) (words-last c.words.rest.now (sym c.in_default.ensures))
