use Rattle.tp_chart.proofs.Plain.{name_plain}
use Rattle.tp_chart.proofs.laws.names_need_no_escape.Goals as goal

pub returns : goal.returns
returns c = name_plain
