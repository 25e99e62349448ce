use Rattle.tp_search.proofs.TrialFacts.{trial-back}
use Rattle.tp_search.proofs.trial.Trial.abandon.Goals as goal

pub returns : goal.returns
returns g c =
    let u = c.undo_to.ensures in
    record {
      back = λ b machine trial. trial-back g.N.Network.reading b machine c.args.self g.N.Undo.untouched c.marks_keep_boards.ensures.back c.undo_to.new.self trial
          (record { content_then = u.content; past_less = u.past; untouched_same = u.untouched; room_same = u.capacity });
    }
