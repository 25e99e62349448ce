use Rattle.std.proofs.Common.{◌∙◌, sym}
use Rattle.tp_placing.proofs.SameLists.{same-acts, same-points}
use Rattle.tp_placing.proofs.live_match.is_same_way.Goals as goal

pub returns : goal.returns
returns c is = (
  sym c.as_slice.ensures.items ∙ same-acts c.as_slice.result.now c.as_slice-2.result.now c.ne.result c.ne.ensures c.if-ne.false ∙ c.as_slice-2.ensures.items,
  sym c.as_slice-3.ensures.items ∙ same-points c.as_slice-3.result.now c.as_slice-4.result.now c.eq.result c.eq.ensures is ∙ c.as_slice-4.ensures.items,
)
