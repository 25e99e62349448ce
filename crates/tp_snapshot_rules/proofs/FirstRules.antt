-- The rules from 7 on, one after another.
use Rattle.std.proofs.Common.{ℕ, ◌≤◌, arith, lit≤}
use Rattle.tp_machine.specs.declared.machine.Machine.{Machine}
use Rattle.tp_jobs.specs.declared.standing.Standing.{Standing}
use Rattle.tp_snapshot_rules.specs.Rules.{AreKeptTo, AreOnTheirWay, IsFirstBroken, KeepsCopies, KeepsSchedule, KeepsTimes}

module _ (m : Machine) (t : Standing) where
  six : AreKeptTo 6 m t
  six = record {
    courses = λ from. absurd (omega (arith, from));
    schedule = λ from. absurd (omega (arith, from));
    copies = λ from. absurd (omega (arith, from));
    times = λ from. absurd (omega (arith, from));
  }

  seven : AreOnTheirWay m t → AreKeptTo 7 m t
  seven way = record {
    courses = λ from. way;
    schedule = λ from. absurd (omega (arith, from));
    copies = λ from. absurd (omega (arith, from));
    times = λ from. absurd (omega (arith, from));
  }

  eight : AreOnTheirWay m t → KeepsSchedule m t → AreKeptTo 8 m t
  eight way schedule = record {
    courses = λ from. way;
    schedule = λ from. schedule;
    copies = λ from. absurd (omega (arith, from));
    times = λ from. absurd (omega (arith, from));
  }

  nine : AreOnTheirWay m t → KeepsSchedule m t → KeepsCopies t → AreKeptTo 9 m t
  nine way schedule copies = record {
    courses = λ from. way;
    schedule = λ from. schedule;
    copies = λ from. copies;
    times = λ from. absurd (omega (arith, from));
  }

  pub keeps-ten : AreOnTheirWay m t → KeepsSchedule m t → KeepsCopies t → KeepsTimes m t → AreKeptTo 10 m t
  keeps-ten way schedule copies times = record {
    courses = λ from. way;
    schedule = λ from. schedule;
    copies = λ from. copies;
    times = λ from. times;
  }

  pub breaks-seven : ¬ AreOnTheirWay m t → IsFirstBroken 7 m t
  breaks-seven never = record { from = lit≤ tt; to = lit≤ tt; before = six; broken = λ kept. never (kept.courses (lit≤ tt)) }

  pub breaks-eight : AreOnTheirWay m t → ¬ KeepsSchedule m t → IsFirstBroken 8 m t
  breaks-eight way never = record { from = lit≤ tt; to = lit≤ tt; before = seven way; broken = λ kept. never (kept.schedule (lit≤ tt)) }

  pub breaks-nine : AreOnTheirWay m t → KeepsSchedule m t → ¬ KeepsCopies t → IsFirstBroken 9 m t
  breaks-nine way schedule never = record { from = lit≤ tt; to = lit≤ tt; before = eight way schedule; broken = λ kept. never (kept.copies (lit≤ tt)) }

  pub breaks-ten : AreOnTheirWay m t → KeepsSchedule m t → KeepsCopies t → ¬ KeepsTimes m t → IsFirstBroken 10 m t
  breaks-ten way schedule copies never = record { from = lit≤ tt; to = lit≤ tt; before = nine way schedule copies; broken = λ kept. never (kept.times (lit≤ tt)) }
