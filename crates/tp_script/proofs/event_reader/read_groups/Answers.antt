use Rattle.std.proofs.Common.{◌≡◌, ◌∷◌, [], get_or, Some, None, refl, sym, ◌∙◌, arith, length-append}
use Rattle.tp_words.specs.Each.{each_read}
use Rattle.tp_words.proofs.EachFacts.{each-turn, each-stop, each-end, each_read-shown, front-nil}
use Rattle.tp_script.specs.EventReaders.{group_of}
use Rattle.tp_script.proofs.event_reader.read_groups.Goals as goal

pub loop-word-init : goal.loop-word-init
loop-word-init c = record {
  reads = rw c.new-groups.ensures (front-nil (each_read (λ word. group_of word.now) c.args.words.now) ∙ each_read-shown group_of c.args.words.now);
  many = rw c.new-groups.ensures refl;
}

pub returns-in-None : goal.returns-in-None
returns-in-None c =
    let read : group_of (get_or c.args.words.now c.loop-word.word-index _).now ≡ None = sym c.read_group.ensures ∙ c.in-None.is in
    sym c.loop-word.invariant.reads ∙ each-stop (λ word. group_of word.now) c.args.words.now c.loop-word.groups c.loop-word.word-index _ c.loop-word-test.true read

pub loop-word-preserved : goal.loop-word-preserved
loop-word-preserved c =
    let read : group_of (get_or c.args.words.now c.loop-word.word-index _).now ≡ Some c.in-Some.group = sym c.read_group.ensures ∙ c.in-Some.is in
    record {
      reads = rw c.in_ok-push-in-Some.ensures.ok (sym (each-turn (λ word. group_of word.now) c.args.words.now c.loop-word.groups c.loop-word.word-index _ c.in-Some.group c.loop-word-test.true read) ∙ c.loop-word.invariant.reads);
      many = rw c.in_ok-push-in-Some.ensures.ok (omega (arith, length-append c.loop-word.groups (c.in-Some.group ∷ []), c.loop-word.invariant.many));
    }

pub returns : goal.returns
returns c = sym c.loop-word.invariant.reads ∙ each-end (λ word. group_of word.now) c.args.words.now c.loop-word.groups c.loop-word.word-index c.loop-word-test.false
