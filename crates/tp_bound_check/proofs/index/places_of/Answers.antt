use Rattle.std.proofs.Common.{◌≡◌, ◌∙◌, ◌+◌, ◌-◌, ◌<◌, ◌∷◌, suc, ap, sym, arith, length, drop, cond, Some}
use Rattle.std.proofs.Math.Seq.{drop-length, drop-cons}
use Rattle.std.specs.Map.{lookup}
use Rattle.std.specs.List.{position_from}
use Rattle.tp_bound_check.proofs.index.places_of.Goals as goal

pub keys-init : goal.keys-init
keys-init g c = record {
  within = omega arith;
  placed = λ key. ap (lookup (g.K.PartialEq.eq key)) c.in_ok-places.ensures.empty ∙ sym (ap (position_from (λ k. g.K.PartialEq.eq k key) (length c.args.keys.now)) (drop-length c.args.keys.now));
}

pub keys-preserved : goal.keys-preserved
keys-preserved g c =
    let keys = c.args.keys.now in
    let k = c.index-keys-at.result in
    let i = c.keys.at - 1 in
    let some = c.keys-test.true in
    let inside = c.keys.invariant.within in
    let within : i < length keys = omega arith in
    let next : c.keys.at ≡ i + 1 = omega arith in
    let up : i + 1 ≡ suc i = omega arith in
    let split : drop i keys ≡ k ∷ drop (suc i) keys = drop-cons keys i k within ∙ ap (λ x. x ∷ drop (suc i) keys) (sym c.index-keys-at.is) in
    record {
      within = omega arith;
      placed = λ key.
          c.in_ok-insert.ensures.updates.0 key
          ∙ ap (cond (g.K.PartialEq.eq k key) (Some i)) (c.keys.invariant.placed key ∙ ap (λ n. position_from (λ x. g.K.PartialEq.eq x key) n (drop n keys)) next)
          ∙ ap (λ n. cond (g.K.PartialEq.eq k key) (Some i) (position_from (λ x. g.K.PartialEq.eq x key) (i + 1) (drop n keys))) up
          ∙ sym (ap (position_from (λ x. g.K.PartialEq.eq x key) i) split);
    }
