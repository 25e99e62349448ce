use Rattle.std.proofs.Common.{rules, arith, sym, ◌∙◌, Some, None, IsSome, IsSomeAnd, Option, refl}
use Rattle.std.proofs.lemmas.Option.{slice_get_within}
use Rattle.tp_schedule.specs.declared.parts.Plan.{Plan}
use Rattle.tp_constraints.specs.Numbers.{table_of}
use Rattle.tp_schedule.proofs.ChangeFacts.{planned-has_place}
use Rattle.tp_placing.proofs.TableFacts.{length-firsts, point-found}
use Rattle.tp_placing.proofs.point_index.point_of.Goals as goal

planned : (o : Option Plan) (P : Plan → Type 0) → IsSomeAnd o P → IsSome o
planned None P h = absurd h
planned (Some p) P h = refl

pub unreachable-requires : goal.unreachable-requires
unreachable-requires c = planned-has_place c.args.copy c.args.plans.now (planned _ _ c.requires.there) (sym c.in-None.is ∙ c.copy_place.ensures.place)

pub bounds-firsts-place : goal.bounds-firsts-place
bounds-firsts-place c =
    let l = length-firsts 0 c.args.plans.now c.args.firsts.now c.requires.firsts in
    let w = c.in-Some.ensures.within in
    omega arith

pub overflow_add-result : goal.overflow_add-result
overflow_add-result c =
    let e = point-found c.args.plans.now c.args.firsts.now c.args.copy c.args.at c.in-Some.place (record { 0 = 0 }) c.requires.firsts (sym c.in-Some.is ∙ c.copy_place.ensures.place) c.in-Some.ensures.within c.requires.there in
    let w = slice_get_within (table_of c.args.plans.now) _ _ e in
    let f = c.requires.few in
    search (rules, w, f)

pub returns : goal.returns
returns c =
    point-found c.args.plans.now c.args.firsts.now c.args.copy c.args.at c.in-Some.place (record { 0 = 0 }) c.requires.firsts (sym c.in-Some.is ∙ c.copy_place.ensures.place) c.in-Some.ensures.within c.requires.there
