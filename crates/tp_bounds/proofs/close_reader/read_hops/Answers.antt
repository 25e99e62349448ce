use Rattle.std.proofs.Common.{◌≡◌, ◌∷◌, [], get_or, Some, None, refl, sym, ◌∙◌, arith, length-append}
use Rattle.tp_words.specs.Each.{each_read}
use Rattle.tp_words.proofs.EachFacts.{each-turn, each-stop, each-end, each_read-shown, front-nil}
use Rattle.tp_bounds.specs.Words.{hop_of}
use Rattle.tp_bounds.proofs.close_reader.read_hops.Goals as goal

pub loop-word-init : goal.loop-word-init
loop-word-init c = record {
  reads = rw c.new-hops.ensures (front-nil (each_read (λ word. hop_of word.now) c.args.words.now) ∙ each_read-shown hop_of c.args.words.now);
  many = rw c.new-hops.ensures refl;
}

pub returns-in-None : goal.returns-in-None
returns-in-None c =
    let read : hop_of (get_or c.args.words.now c.loop-word.word-index _).now ≡ None = sym c.read_hop.ensures ∙ c.in-None.is in
    sym (sym c.loop-word.invariant.reads ∙ each-stop (λ word. hop_of word.now) c.args.words.now c.loop-word.hops c.loop-word.word-index _ c.loop-word-test.true read)

pub loop-word-preserved : goal.loop-word-preserved
loop-word-preserved c =
    let read : hop_of (get_or c.args.words.now c.loop-word.word-index _).now ≡ Some c.in-Some.hop = sym c.read_hop.ensures ∙ c.in-Some.is in
    record {
      reads = rw c.in_ok-push-in-Some.ensures.ok (sym (each-turn (λ word. hop_of word.now) c.args.words.now c.loop-word.hops c.loop-word.word-index _ c.in-Some.hop c.loop-word-test.true read) ∙ c.loop-word.invariant.reads);
      many = rw c.in_ok-push-in-Some.ensures.ok (omega (arith, length-append c.loop-word.hops (c.in-Some.hop ∷ []), c.loop-word.invariant.many));
    }

pub returns : goal.returns
returns c = sym (sym c.loop-word.invariant.reads ∙ each-end (λ word. hop_of word.now) c.args.words.now c.loop-word.hops c.loop-word.word-index c.loop-word-test.false)
