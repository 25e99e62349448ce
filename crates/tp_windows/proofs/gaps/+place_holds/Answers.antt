use Rattle.std.proofs.Common.{◌≡◌, ◌<◌, length, rules, inl, inr, arith, subst, sym, IsSomeAnd}
use Rattle.std.proofs.lemmas.Bool.{cases_lt}
use Rattle.tp_windows.proofs.RowFacts.{All-rest, in-this-row}
use Rattle.tp_windows.specs.Rows.{IsEnd, StandsInGap}
use Rattle.tp_windows.specs.Spans.{IsIn}
use Rattle.tp_windows.proofs.gaps.+place_holds.Goals as goal
use Rattle.tp_windows.proofs.gaps.+place_holds.Goals.{in-Some-in_gap+else-not-place_holds, in-None}

pub returns-in_default-clause-covered : goal.returns-in_default-clause-covered
returns-in_default-clause-covered t c = λ done start end is lasts all.
    absurd (subst (λ o. IsSomeAnd o (λ r. IsIn r start end)) c.in_default.is (c.lasts.ensures start end is lasts.long lasts.short))

pub returns-then-is_empty-clause-covered : goal.returns-then-is_empty-clause-covered
returns-then-is_empty-clause-covered t c = λ done start end is lasts all.
    absurd (c.is_empty.ensures c.if-is_empty.true start end (subst (λ o. IsSomeAnd o (λ r. IsIn r start end)) c.in-Some.is (c.lasts.ensures start end is lasts.long lasts.short)))

pub returns-in-empty-clause-covered : goal.returns-in-empty-clause-covered
returns-in-empty-clause-covered t c = λ done start end is lasts all.
    c.offer.ensures.covered done start end (subst (λ o. IsSomeAnd o (λ r. IsIn r start end)) c.in-Some.is (c.lasts.ensures start end is lasts.long lasts.short))

pub gaps-init : goal.gaps-init
gaps-init t c = record {
  kept = λ e old. old;
  covered = λ s e g is lasts less stands all. absurd (let first = c.first_gap-gap.ensures s e g is stands in omega (arith, first, less));
}

pub place_holds-requires : goal.place_holds-requires
place_holds-requires t c = (search rules, All-rest (λ rule. rule.resource.0 < length c.args.ground.rows.now.rows) c.args.holds.now _ c.requires.rows)

pub returns-then-is_past-clause-covered : goal.returns-then-is_past-clause-covered
returns-then-is_past-clause-covered t c = λ done start end is lasts all.
    let some = c.in-len1-up.len_at_least in
    let narrow = subst (λ o. IsSomeAnd o (λ r. IsIn r start end)) c.in-Some.is (c.lasts.ensures start end is lasts.long lasts.short) in
    let found = in-this-row c.args.ground.machine.now c.args.ground.rows.now.rows start end _ c.gap_at.result c.row.result.now c.gap_at.ensures.gap c.row.ensures.row (all 0 _ (omega (arith, some))) in
    c.gaps.invariant.covered start end found.0 narrow lasts (c.is_past.ensures c.if-is_past.true start end found.0 narrow found.1) found.1
    (All-rest (StandsInGap c.args.ground.machine.now c.args.ground.rows.now.rows start end) c.args.holds.now _ all)

pub returns-after-gaps-clause-covered : goal.returns-after-gaps-clause-covered
returns-after-gaps-clause-covered t c = λ done start end is lasts all.
    let some = c.in-len1-up.len_at_least in
    let narrow = subst (λ o. IsSomeAnd o (λ r. IsIn r start end)) c.in-Some.is (c.lasts.ensures start end is lasts.long lasts.short) in
    let found = in-this-row c.args.ground.machine.now c.args.ground.rows.now.rows start end _ c.gap_at.result c.row.result.now c.gap_at.ensures.gap c.row.ensures.row (all 0 _ (omega (arith, some))) in
    let within = found.1.within in
    let past = c.gaps-test.false in
    c.gaps.invariant.covered start end found.0 narrow lasts (omega (arith, within, past)) found.1
    (All-rest (StandsInGap c.args.ground.machine.now c.args.ground.rows.now.rows start end) c.args.holds.now _ all)

pub gaps-preserved : goal.gaps-preserved
gaps-preserved t c = elim c.match-in_gap.branch [
  | in-Some-in_gap+else-not-place_holds w ↦ record {
    kept = λ e old. subst (λ es. IsEnd es.items e) (sym w.ends-is) (w.place_holds.ensures.kept e (c.gaps.invariant.kept e old));
    covered = λ s e g is lasts less stands all. subst (λ es. IsEnd es.items e) (sym w.ends-is) (elim (cases_lt g c.gaps.gap) [
      | inl before ↦ w.place_holds.ensures.kept e (c.gaps.invariant.covered s e g is lasts before stands all)
      | inr here ↦
          let same : g ≡ c.gaps.gap = omega (arith, less, here) in
          w.place_holds.ensures.covered w.if-not-place_holds.false s e (subst (λ o. IsSomeAnd o (λ r. IsIn r s e)) w.in-Some-in_gap.is (c.in_gap.ensures s e g same is stands)) lasts all
    ]);
  }
  | in-None w ↦ record {
    kept = λ e old. subst (λ es. IsEnd es.items e) (sym w.ends-is) (c.gaps.invariant.kept e old);
    covered = λ s e g is lasts less stands all. subst (λ es. IsEnd es.items e) (sym w.ends-is) (elim (cases_lt g c.gaps.gap) [
      | inl before ↦ c.gaps.invariant.covered s e g is lasts before stands all
      | inr here ↦
          let same : g ≡ c.gaps.gap = omega (arith, less, here) in
          absurd (subst (λ o. IsSomeAnd o (λ r. IsIn r s e)) w.in-None.is (c.in_gap.ensures s e g same is stands))
    ]);
  }
]
