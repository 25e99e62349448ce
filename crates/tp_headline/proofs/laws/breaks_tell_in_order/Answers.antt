use Rattle.tp_headline.proofs.NoticeOrder.{break-in_order}
use Rattle.tp_headline.proofs.laws.breaks_tell_in_order.Goals as goal

pub returns : goal.returns
returns c = break-in_order
