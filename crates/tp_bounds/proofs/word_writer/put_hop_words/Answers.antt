use Rattle.tp_bounds.specs.Words.{IsHop, hop_text}
use Rattle.tp_bounds.proofs.More.{all_more, words_more}
use Rattle.tp_bounds.proofs.word_writer.put_hop_words.Goals as goal

pub loop-hop-preserved : goal.loop-hop-preserved
loop-hop-preserved c =
    let item = c.hop-item.result in
    let lt = c.loop-hop-test.true in
    record {
      written = words_more hop_text c.args.hops.now c.loop-hop.hop-index item item c.args.out.now.items c.loop-hop.out.items c.put_hop_word.new.out.items lt c.hop-item.is c.loop-hop.invariant.written c.in_ok-put_hop_word.ensures.written;
      spelled = all_more IsHop c.args.hops.now c.loop-hop.hop-index item item lt c.hop-item.is c.loop-hop.invariant.spelled c.in_ok-put_hop_word.ensures.spelled;
    }
