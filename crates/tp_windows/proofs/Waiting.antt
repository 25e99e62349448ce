-- The halves that wait.
use Rattle.std.proofs.Common.{inl, inr, List, [], ◌∷◌, sym, arith, All, Contains, subst}
use Rattle.std.proofs.lemmas.Bool.{cases_lt}
use Rattle.std.proofs.lemmas.List.Elements.{All-cons, All-nil}
use Rattle.tp_choices.proofs.AnswerOpens.{answer_opens}
use Rattle.tp_schedule.proofs.Membership.{Contains-cons_cases, Contains-here, Contains-later}
use Rattle.tp_schedule.specs.Plans.{end_of_plan}
use Rattle.tp_schedule.specs.Spots.{Ticks}
use Rattle.tp_windows.proofs.Standing.{stand_law}
use Rattle.tp_windows.specs.Halves.{Half, HalvesBegin, HalvesClose, HalvesEnd, HalvesLower, HalvesRefuse, HalvesSplit, Meets, high_half, low_half}

pub halves_begin : HalvesBegin
halves_begin machine plans ask limit list end complete o by = ([], Contains-here [] [], All-nil (Meets o.ticks))

pub halves_lower : HalvesLower
halves_lower machine plans ask limit lower waiting le left list end complete o by = left list end complete o (omega (arith, by, le))

-- what is left when the first one is
left-over : (t : Ticks) (first : List Half) (waiting rest : List (List Half)) → ((halves : List Half) × Contains (first ∷ waiting) halves × All (Meets t) halves)
    → (All (Meets t) first → (halves : List Half) × Contains rest halves × All (Meets t) halves) → ((halves : List Half) → Contains waiting halves → Contains rest halves)
    → (halves : List Half) × Contains rest halves × All (Meets t) halves
left-over t first waiting rest (halves, in', meets) one others = elim (Contains-cons_cases first waiting halves in') [
  | inl same ↦ one (subst (λ hs. All (Meets t) hs) (sym same) meets)
  | inr later ↦ (halves, others halves later, meets)
]

pub halves_split : HalvesSplit
halves_split machine plans ask limit s v halves waiting left list end complete o by =
    let high : List Half = high_half s v ∷ halves in
    let low : List Half = low_half s v ∷ halves in
    left-over o.ticks halves waiting (high ∷ low ∷ waiting) (left list end complete o by)
    (λ meets. elim (cases_lt (o.ticks s) v) [
      | inl less ↦ (low, Contains-later high (low ∷ waiting) low (Contains-here low waiting), All-cons (Meets o.ticks) (low_half s v) halves less meets)
      | inr more ↦ (high, Contains-here high (low ∷ waiting), All-cons (Meets o.ticks) (high_half s v) halves (omega (arith, more)) meets)
    ])
    (λ hs in'. Contains-later high (low ∷ waiting) hs (Contains-later low waiting hs in'))

pub halves_close : HalvesClose
halves_close machine plans ask limit w halves waiting left windows none list end complete o by =
    left-over o.ticks halves waiting waiting (left list end complete o by)
    (λ meets.
    let late = none list end complete o (windows o.ticks (stand_law machine plans ask limit end list o by) meets) in
    absurd (omega (arith, late, by)))
    (λ hs in'. in')

pub halves_refuse : HalvesRefuse
halves_refuse machine plans ask limit halves waiting left none list end complete o by =
    left-over o.ticks halves waiting waiting (left list end complete o by) (λ meets. absurd (none o.ticks (stand_law machine plans ask limit end list o by) meets)) (λ hs in'. in')

pub halves_end : HalvesEnd
halves_end machine plans ask limit legal asked left plans' a =
    let found = answer_opens machine plans plans' ask legal asked a in
    elim (cases_lt limit (end_of_plan a.plan)) [
      | inl late ↦ omega (arith, late)
      | inr by ↦
          let one = left found.0 (end_of_plan a.plan) found.1 found.2 (omega (arith, by)) in
          let in' = one.1.1 in
          absurd (omega (arith, in'))
    ]
