use Rattle.std.proofs.Common.{◌≡◌, ℕ, ◌+◌, ◌<◌, None, Option, List, length, vec_len, refl, ap, ◌∙◌, arith}
use Rattle.std.specs.Prelude.{slice_set}
use Rattle.tp_base.specs.Padded.{padded}
use Rattle.tp_base.proofs.PaddedFacts.{padded-grown, padded-set}
use Rattle.tp_pool.proofs.buckets.set_link.Goals as goal
use Rattle.tp_pool.proofs.buckets.set_link.Goals.{then-len-place+in-Ok, else-len-place}

set_in : (most place : ℕ) (link : Option ℕ) (before links : List (Option ℕ)) → place < length links → padded None most links ≡ padded None most before → padded None most (slice_set links place link) ≡ slice_set (padded None most before) place link
set_in most place link before links there same = padded-set None most links place link there ∙ ap (λ xs. slice_set xs place link) same

pub returns-clause-set : goal.returns-clause-set
returns-clause-set c = λ most below few. elim c.if-len-place.branch [
  | then-len-place+in-Ok w ↦ (
      let old = c.args.links.now in
      let now = w.resize.new.self in
      let same = padded-grown None most old.items now.items (vec_len old) (c.args.place + 1) old.ok.0 (omega (arith, c.len.ensures, w.if-len-place.true)) (omega arith) w.in-Ok.ensures.items in
      rw w.links-is (set_in most c.args.place c.args.link old.items now.items (omega (arith, w.in-Ok.ensures.len, now.ok.0)) same))
  | else-len-place w ↦ (rw w.links-is (set_in most c.args.place c.args.link c.args.links.now.items c.args.links.now.items (omega (arith, c.len.ensures, w.if-len-place.false, c.args.links.now.ok.0)) refl))
]
