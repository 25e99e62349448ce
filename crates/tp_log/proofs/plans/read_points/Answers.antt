use Rattle.std.proofs.Common.{◌≡◌, ◌∷◌, [], get_or, Some, None, refl, sym, ◌∙◌, arith, length-append}
use Rattle.tp_words.specs.Each.{each_read}
use Rattle.tp_words.proofs.EachFacts.{each-turn, each-stop, each-end, each_read-shown, front-nil}
use Rattle.tp_words.specs.Numbers.{number_of}
use Rattle.tp_log.proofs.plans.read_points.Goals as goal

pub loop-word-init : goal.loop-word-init
loop-word-init c = record {
  reads = rw c.new-points.ensures (front-nil (each_read (λ word. number_of word.now) c.args.words.now) ∙ each_read-shown number_of c.args.words.now);
  many = rw c.new-points.ensures refl;
}

pub returns-in-None : goal.returns-in-None
returns-in-None c =
    let read : number_of (get_or c.args.words.now c.loop-word.word-index _).now ≡ None = sym c.read_number.ensures ∙ c.in-None.is in
    sym c.loop-word.invariant.reads ∙ each-stop (λ word. number_of word.now) c.args.words.now c.loop-word.points c.loop-word.word-index _ c.loop-word-test.true read

pub loop-word-preserved : goal.loop-word-preserved
loop-word-preserved c =
    let read : number_of (get_or c.args.words.now c.loop-word.word-index _).now ≡ Some c.in-Some.point = sym c.read_number.ensures ∙ c.in-Some.is in
    record {
      reads = rw c.in_ok-push-in-Some.ensures.ok (sym (each-turn (λ word. number_of word.now) c.args.words.now c.loop-word.points c.loop-word.word-index _ c.in-Some.point c.loop-word-test.true read) ∙ c.loop-word.invariant.reads);
      many = rw c.in_ok-push-in-Some.ensures.ok (omega (arith, length-append c.loop-word.points (c.in-Some.point ∷ []), c.loop-word.invariant.many));
    }

pub returns : goal.returns
returns c = sym c.loop-word.invariant.reads ∙ each-end (λ word. number_of word.now) c.args.words.now c.loop-word.points c.loop-word.word-index c.loop-word-test.false
