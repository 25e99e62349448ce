use Rattle.std.proofs.Common.{◌≡◌, ◌∷◌, [], length, Some, sym, ap, ◌∙◌, arith, length-append}
use Rattle.std.proofs.lemmas.List.{take_rest, length-drop}
use Rattle.tp_log.proofs.Turns.{turn, no_point, no_act, nothing, last}
use Rattle.tp_log.proofs.plans.read_turns.Goals as goal

pub returns-in_default-read_number : goal.returns-in_default-read_number
returns-in_default-read_number c =
    sym c.loop-rest.invariant.reads ∙ no_point c.loop-rest.points c.loop-rest.acts c.loop-rest.rest.now _ (omega (arith, c.in-len2-up.len_at_least)) (sym c.read_number.ensures ∙ c.in_default-read_number.is)

pub returns-in_default-read_name : goal.returns-in_default-read_name
returns-in_default-read_name c =
    sym c.loop-rest.invariant.reads ∙ no_act c.loop-rest.points c.loop-rest.acts c.loop-rest.rest.now _ _ c.in-Some.point c.in-len2-up.len_at_least (sym c.read_number.ensures ∙ c.in-Some.is) (sym c.read_name.ensures ∙ c.in_default-read_name.is)

pub loop-rest-preserved : goal.loop-rest-preserved
loop-rest-preserved c =
    let t = turn c.loop-rest.points c.loop-rest.acts c.loop-rest.rest.now _ _ c.in-Some.point c.in-Some-read_name.act c.in-len2-up.len_at_least (sym c.read_number.ensures ∙ c.in-Some.is) (sym c.read_name.ensures ∙ c.in-Some-read_name.is) in
    rw (take_rest c.loop-rest.rest.now 2, c.in_ok-push.ensures.ok, c.in_ok-push-2.ensures.ok) (record {
      reads = sym t ∙ c.loop-rest.invariant.reads;
      points_many = omega (arith, length-append c.loop-rest.points (c.in-Some.point ∷ []), length-drop 2 c.loop-rest.rest.now, c.loop-rest.invariant.points_many, c.in-len2-up.len_at_least);
      acts_many = omega (arith, length-append c.loop-rest.acts (c.in-Some-read_name.act ∷ []), length-drop 2 c.loop-rest.rest.now, c.loop-rest.invariant.acts_many, c.in-len2-up.len_at_least);
    })

pub returns-in_default-rest : goal.returns-in_default-rest
returns-in_default-rest c =
    let none : length c.loop-rest.rest.now ≡ 0 = omega (arith, c.in_default-rest.len_below) in
    sym c.loop-rest.invariant.reads ∙ nothing c.loop-rest.points c.loop-rest.acts c.loop-rest.rest.now none

pub returns-in_default-read_number-2 : goal.returns-in_default-read_number-2
returns-in_default-read_number-2 c =
    sym c.loop-rest.invariant.reads ∙ no_point c.loop-rest.points c.loop-rest.acts c.loop-rest.rest.now _ c.in-len1-up.len_at_least (sym c.read_number-2.ensures ∙ c.in_default-read_number-2.is)

pub returns : goal.returns
returns c =
    let one : length c.loop-rest.rest.now ≡ 1 = omega (arith, c.in-len1-up.len_at_least, c.in_default.len_below) in
    sym c.loop-rest.invariant.reads ∙ last c.loop-rest.points c.loop-rest.acts c.loop-rest.rest.now _ c.in-Some-read_number.point one (sym c.read_number-2.ensures ∙ c.in-Some-read_number.is) ∙ ap (λ ps. Some (ps, c.loop-rest.acts)) (sym c.in_ok-push-3.ensures.ok)
