use Rattle.std.proofs.Common.{ap, refl, subst, sym}
use Rattle.tp_machine.proofs.MachineFacts.{is_machine}
use Rattle.tp_placing.specs.Boards.{suffix_after}
use Rattle.tp_search.specs.Trials.{EndsEarliest}
use Rattle.tp_search.proofs.AnswerFacts.{answer-ends, known-goal}
use Rattle.tp_search.proofs.HeldFacts.{ends-earliest-from, few-from, never-from, spent-from}
use Rattle.tp_search.proofs.TrialFacts.{answer-trial}
use Rattle.tp_search.proofs.trial.find_plan.Goals as goal

pub returns-in-Found : goal.returns-in-Found
returns-in-Found g c =
    let a = c.in-Found.ensures.outcome in
    let known = known-goal c.args.machine.now c.requires.held.0 c.args.ask.now c.requires.held.1.can_ask in
    let least = c.end_bound-end.ensures c.args.machine.now a.laid.stands in
    let same = answer-ends g.N.Network.reading c.args.board.now c.search.new.board c.args.machine.now c.args.ask.now c.in-Found.base.0 a c.end_bound-end.result least in (
      (refl, λ w. refl, tt),
      record {
        rests = tt;
        same_reference = refl;
        trial = answer-trial g.N.Network.reading c.args.board.now c.args.machine.now
            (record { board = record c.args.board { now = c.search.new.board }; base = c.in-Found.base; end = c.end_bound-end.result }) c.args.ask.now
            (record { stands = c.requires.stands; asked = c.requires.asked; closed = ap suffix_after c.requires.closed }) c.requires.unmarked (is_machine c.args.machine.now) known a least;
        end = λ plans from. subst (EndsEarliest c.args.machine.now plans c.args.ask.now) (sym same)
            (ends-earliest-from c.args.machine.now plans c.args.ask.now c.args.board.now.plans from a.list a.bound (is_machine c.args.machine.now) known a.complete a.is_bound a.none_before);
        none = λ plans from. tt;
        work = c.search.ensures.stays;
        rooms = c.search.ensures.rooms;
      },
    )

pub returns-in-Never : goal.returns-in-Never
returns-in-Never g c = (
  (refl, λ w. tt, c.in-Never.ensures.outcome.1),
  record {
    rests = tt;
    same_reference = tt;
    trial = tt;
    end = λ plans from. tt;
    none = λ plans from. (
      never-from c.args.machine.now plans c.args.ask.now c.args.board.now.plans from c.in-Never.ensures.outcome.0,
      few-from c.args.machine.now plans c.args.ask.now c.args.board.now.plans from c.args.work.now.nodes c.in-Never.ensures.outcome.2,
    );
    work = c.search.ensures.stays;
    rooms = c.search.ensures.rooms;
  },
)

pub returns-in-Spent : goal.returns-in-Spent
returns-in-Spent g c = (
  (refl, λ w. tt, c.in-Spent.ensures.outcome.1),
  record {
    rests = tt;
    same_reference = tt;
    trial = tt;
    end = λ plans from. tt;
    none = λ plans from. spent-from c.args.machine.now plans c.args.ask.now c.args.board.now.plans from c.args.work.now.nodes c.in-Spent.bound c.in-Spent.ensures.outcome.0;
    work = c.search.ensures.stays;
    rooms = c.search.ensures.rooms;
  },
)
