use Rattle.tp_windows.proofs.times.lower.Goals as goal

pub returns-clause-between : goal.returns-clause-between
returns-clause-between c = λ y keeps before more. c.spread_down.ensures.between y keeps (c.lower_one.ensures.between y before more)

pub returns-clause-refused : goal.returns-clause-refused
returns-clause-refused c = λ e y keeps before more. c.spread_down.ensures.refused e y keeps (c.lower_one.ensures.between y before more)
