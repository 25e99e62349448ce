-- One name more is a text.
use Rattle.std.proofs.Common.{◌≡◌, ◌+◌, ◌<◌, [], ◌∷◌, ◌++◌, length, get_or, refl, sym, ap, ap₂, subst, ◌∙◌, arith, length-append}
use Rattle.std.specs.List.{All}
use Rattle.std.proofs.lemmas.List.{length-map, map-append, take_more}
use Rattle.std.proofs.lemmas.List.Elements.{All-more}
use Rattle.tp_words.specs.Parts.{shown}
use Rattle.tp_farm.specs.Lists.{IsFileName}
use Rattle.tp_farm.proofs.ListFacts.{bad-at, get_or-shown}
use Rattle.tp_farm.proofs.machine_list.name_texts.Goals as goal

pub loop-place-preserved : goal.loop-place-preserved
loop-place-preserved c =
    let names = shown c.args.names.now in
    let inside : c.loop-place.place < length c.args.names.now = omega arith in
    let there : c.loop-place.place < length names = omega (arith, inside, length-map c.args.names.now (λ text. text.now)) in
    let item = get_or-shown c.args.names.now c.loop-place.place _ inside in
    let name : c.in-Some.text.now ≡ get_or names c.loop-place.place [] = c.in-Some.ensures.name ∙ item in
    record {
      texts =
          ap shown c.in-Ok.ensures.items ∙ map-append (λ text. text.now) c.loop-place.texts.items (c.in-Some.text ∷ [])
          ∙ ap₂ (λ a b. a ++ b ∷ []) c.loop-place.invariant.texts name ∙ sym (take_more names c.loop-place.place [] there);
      count = ap length c.in-Ok.ensures.items ∙ length-append c.loop-place.texts.items (c.in-Some.text ∷ []) ∙ ap (λ n. n + 1) c.loop-place.invariant.count;
      good = All-more IsFileName names c.loop-place.place [] there c.loop-place.invariant.good (subst IsFileName item c.in-Some.ensures.some);
    }

pub returns-clause-good : goal.returns-clause-good
returns-clause-good c = subst (All IsFileName) (sym c.loop-place.invariant.texts) c.loop-place.invariant.good

pub returns-in-None-clause-none : goal.returns-in-None-clause-none
returns-in-None-clause-none c = bad-at c.args.names.now c.loop-place.place _ (omega arith) c.loop-place.invariant.good (c.in-None.ensures.none refl)
