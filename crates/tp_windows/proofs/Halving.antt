-- A walk over halves of windows.
use Rattle.std.proofs.Common.{inl, inr, arith}
use Rattle.std.proofs.lemmas.Bool.{cases_lt}
use Rattle.tp_choices.proofs.AnswerOpens.{answer_opens}
use Rattle.tp_schedule.specs.Plans.{end_of_plan}
use Rattle.tp_windows.proofs.Standing.{stand_law}
use Rattle.tp_windows.specs.Windows.{NoneLaw, SplitLaw, WalkLaw}
use Rattle.tp_windows.specs.Windows.IsWalk.{bounded, narrowed, refused, split}

pub split_law : SplitLaw
split_law machine plans ask limit s v w low high is-low is-high none-low none-high list end complete o within = elim (cases_lt limit end) [
  | inl late ↦ late
  | inr by ↦
      let stands = stand_law machine plans ask limit end list o (omega (arith, by)) in
      elim (cases_lt (o.ticks s) v) [
        | inl less ↦ none-low list end complete o (is-low o.ticks stands within less)
        | inr more ↦ none-high list end complete o (is-high o.ticks stands within (omega (arith, more)))
      ]
]

pub walk_law : WalkLaw
walk_law machine plans ask limit w (bounded bound le none) list end complete o within = let late = none list end complete o within in omega (arith, late, le)
walk_law machine plans ask limit w (refused empty) list end complete o within = elim (cases_lt limit end) [
  | inl late ↦ late
  | inr by ↦ absurd (empty o.ticks (stand_law machine plans ask limit end list o (omega (arith, by))) within)
]
walk_law machine plans ask limit w (narrowed {narrow = w'} is walk) list end complete o within = elim (cases_lt limit end) [
  | inl late ↦ late
  | inr by ↦ walk_law machine plans ask limit w' walk list end complete o (is o.ticks (stand_law machine plans ask limit end list o (omega (arith, by))) within)
]
walk_law machine plans ask limit w (split {low = l} {high = h} s v is-low is-high low-walk high-walk) list end complete o within =
    split_law machine plans ask limit s v w l h is-low is-high (walk_law machine plans ask limit l low-walk) (walk_law machine plans ask limit h high-walk) list end complete o within

pub none_law : NoneLaw
none_law machine plans ask limit w legal asked are none plans' a =
    let found = answer_opens machine plans plans' ask legal asked a in
    elim (cases_lt limit (end_of_plan a.plan)) [
      | inl late ↦ omega (arith, late)
      | inr by ↦
          let stands = stand_law machine plans ask limit (end_of_plan a.plan) found.0 found.2 (omega (arith, by)) in
          let late = none found.0 (end_of_plan a.plan) found.1 found.2 (are found.2.ticks stands) in
          omega (arith, late)
    ]
