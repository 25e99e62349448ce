-- Each record that was passed has fields with lines, so that all have.
use Rattle.std.proofs.Common.{◌≡◌, inl, inr, arith, ◌∙◌, subst, slice_index_or}
use Rattle.std.proofs.lemmas.Bool.{cases_lt}
use Rattle.std.proofs.lemmas.List.{get_or_default}
use Rattle.tp_log.specs.Grammar.{HasFields}
use Rattle.tp_session.proofs.turn_text.records_law.Goals as goal

pub loop-rec-preserved : goal.loop-rec-preserved
loop-rec-preserved c k d within = elim (cases_lt k c.loop-rec.rec-index) [
  | inl earlier ↦ c.loop-rec.invariant k d earlier
  | inr above ↦
      let same : c.loop-rec.rec-index ≡ k = omega (arith, within, above) in
      subst (λ n. HasFields (slice_index_or c.args.records.now n d)) same
      (subst HasFields (c.rec-item.is ∙ get_or_default c.args.records.now c.loop-rec.rec-index c.rec-item.result d c.loop-rec-test.true) c.record_law.ensures)
]

pub returns : goal.returns
returns c k d within = c.loop-rec.invariant k d (omega (arith, within, c.loop-rec-test.false))
