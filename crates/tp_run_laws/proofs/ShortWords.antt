-- No word of a record or of an echo has more than 164 bytes, and each has few words.
use Rattle.std.proofs.Common.{◌≡◌, inl, inr, ℕ, ◌+◌, ◌*◌, ◌≤◌, ◌<◌, Bool, true, false, cond, List, [], ◌∷◌, ◌++◌, length, map, Option, Some, None, sym, subst, arith, length-append}
use Rattle.std.specs.Prelude.{◌==◌, decimal}
use Rattle.std.specs.List.{AllByRecursion}
use Rattle.std.proofs.lemmas.List.{length-map}
use Rattle.tp_bound_laws.proofs.ShortLines.{AreShort, name-short, number-short, sheet-short}
use Rattle.tp_log.specs.Grammar.{HasFields, IsCause, IsGoal}
use Rattle.tp_log.specs.Records.{cause_words, goal_text, record_words, turns_words}
use Rattle.tp_schedule.specs.declared.records.Cause.{Cause}
use Rattle.tp_schedule.specs.declared.records.Cause.TheVariants as cause
use Rattle.tp_schedule.specs.declared.records.Record.{Record}
use Rattle.tp_schedule.specs.declared.records.Record.TheVariants.{Plan, Move, Never, Budget, FullUp, Release, Done, Lost, Recall, Withdraw, Cut, Purge, Again, Stuck, Broken, Drop, Refused}
use Rattle.tp_script.specs.Form.{GroupForm}
use Rattle.tp_script.specs.Printed.{IsCounted, IsEchoed, IsWhole}
use Rattle.tp_script.specs.Script.{event_words, group_text, spec_text}
use Rattle.tp_script.specs.declared.event.Event.{Event}
use Rattle.tp_script.specs.declared.event.Event.TheVariants.{Bad, Job, Clock, Jam, Off, On, Refill}
use Rattle.tp_words.specs.Fields.{IsName}
use Rattle.tp_words.specs.Numbers.{IsNumber}
use Rattle.tp_run_laws.proofs.ToldRecords.{IsTold}

-- ---- records

goal-short : (goal : Option (List ℕ)) → IsGoal goal → length (goal_text goal) ≤ 164
goal-short None is = omega arith
goal-short (Some tray) is = omega (arith, name-short tray is)

cause-short : (c : Cause) → IsCause c → AreShort (cause_words c)
cause-short cause.Syntax is = (omega arith, tt)
cause-short (cause.Tray name) is = (omega arith, (omega (arith, name-short name is), tt))
cause-short (cause.Media name) is = (omega arith, (omega (arith, name-short name is), tt))
cause-short (cause.Named name) is = (omega arith, (omega (arith, name-short name is), tt))
cause-short cause.Waiting is = (omega arith, tt)
cause-short (cause.Back now) is = (omega arith, (omega (arith, number-short now is), tt))
cause-short cause.End is = (omega arith, tt)
cause-short (cause.«Module» name) is = (omega arith, (omega (arith, name-short name is), tt))
cause-short (cause.Out name) is = (omega arith, (omega (arith, name-short name is), tt))
cause-short (cause.NotOn name) is = (omega arith, (omega (arith, name-short name is), tt))
cause-short (cause.Feeder name) is = (omega arith, (omega (arith, name-short name is), tt))
cause-short (cause.Endless name) is = (omega arith, (omega (arith, name-short name is), tt))
cause-short (cause.Stock name) is = (omega arith, (omega (arith, name-short name is), tt))

cause-few : (c : Cause) → length (cause_words c) ≤ 2
cause-few cause.Syntax = omega arith
cause-few (cause.Tray name) = omega arith
cause-few (cause.Media name) = omega arith
cause-few (cause.Named name) = omega arith
cause-few cause.Waiting = omega arith
cause-few (cause.Back now) = omega arith
cause-few cause.End = omega arith
cause-few (cause.«Module» name) = omega arith
cause-few (cause.Out name) = omega arith
cause-few (cause.NotOn name) = omega arith
cause-few (cause.Feeder name) = omega arith
cause-few (cause.Endless name) = omega arith
cause-few (cause.Stock name) = omega arith

turns-short : (points : List ℕ) (acts : List (List ℕ)) → AllByRecursion IsNumber points → AllByRecursion IsName acts → AreShort (turns_words points acts)
turns-short [] acts numbers names = tt
turns-short (p ∷ ps) [] (n, ns) names = (omega (arith, number-short p n), tt)
turns-short (p ∷ ps) (a ∷ acts) (n, ns) (m, ms) = (omega (arith, number-short p n), (omega (arith, name-short a m), turns-short ps acts ns ms))

turns-few : (points : List ℕ) (acts : List (List ℕ)) → length (turns_words points acts) ≤ length points + length acts
turns-few [] acts = omega arith
turns-few (p ∷ ps) [] = omega arith
turns-few (p ∷ ps) (a ∷ acts) = omega (arith, turns-few ps acts)

numbers-short : (points : List ℕ) → AllByRecursion IsNumber points → AreShort (map decimal points)
numbers-short [] all = tt
numbers-short (p ∷ ps) (n, ns) = (omega (arith, number-short p n), numbers-short ps ns)

pub record-short : (r : Record) → HasFields r → AreShort (record_words r)
record-short (Plan sheet place points acts) (is, at, numbers, names) =
    (omega arith, (omega (arith, sheet-short sheet is), (omega (arith, name-short place at), turns-short points acts numbers names)))
record-short (Move sheet points) (is, numbers) = (omega arith, (omega (arith, sheet-short sheet is), numbers-short points numbers))
record-short (Never sheet goal) (is, to) = (omega arith, (omega (arith, sheet-short sheet is), (goal-short goal to, tt)))
record-short (Budget sheet goal bound) (is, to, n) = (omega arith, (omega (arith, sheet-short sheet is), (goal-short goal to, (omega (arith, number-short bound n), tt))))
record-short (FullUp sheet) is = (omega arith, (omega (arith, sheet-short sheet is), tt))
record-short (Release sheet act name start end) (is, n, m, s, e) =
    (omega arith, (omega (arith, sheet-short sheet is), (omega (arith, number-short act n), (omega (arith, name-short name m), (omega (arith, number-short start s), (omega (arith, number-short end e), tt))))))
record-short (Done sheet place at) (is, m, n) = (omega arith, (omega (arith, sheet-short sheet is), (omega (arith, name-short place m), (omega (arith, number-short at n), tt))))
record-short (Lost sheet) is = (omega arith, (omega (arith, sheet-short sheet is), tt))
record-short (Recall sheet act) (is, n) = (omega arith, (omega (arith, sheet-short sheet is), (omega (arith, number-short act n), tt)))
record-short (Withdraw sheet) is = (omega arith, (omega (arith, sheet-short sheet is), tt))
record-short (Cut sheet) is = (omega arith, (omega (arith, sheet-short sheet is), tt))
record-short (Purge sheet) is = (omega arith, (omega (arith, sheet-short sheet is), tt))
record-short (Again sheet) is = (omega arith, (omega (arith, sheet-short sheet is), tt))
record-short (Stuck sheet name) (is, m) = (omega arith, (omega (arith, sheet-short sheet is), (omega (arith, name-short name m), tt)))
record-short (Broken job) is = (omega arith, (omega (arith, name-short job is), tt))
record-short (Drop sheet) is = (omega arith, (omega (arith, sheet-short sheet is), tt))
record-short (Refused c) is = (omega arith, cause-short c is)

pub record-few : (r : Record) → IsTold r → length (record_words r) ≤ 132
record-few (Plan sheet place points acts) (more, some, most) = omega (arith, turns-few points acts, more, most)
record-few (Move sheet points) (some, most) = omega (arith, length-map points decimal, most)
record-few (Never sheet goal) told = omega arith
record-few (Budget sheet goal bound) told = omega arith
record-few (FullUp sheet) told = omega arith
record-few (Release sheet act name start end) told = omega arith
record-few (Done sheet place at) told = omega arith
record-few (Lost sheet) told = omega arith
record-few (Recall sheet act) told = omega arith
record-few (Withdraw sheet) told = omega arith
record-few (Cut sheet) told = omega arith
record-few (Purge sheet) told = omega arith
record-few (Again sheet) told = omega arith
record-few (Stuck sheet name) told = omega arith
record-few (Broken job) told = omega arith
record-few (Drop sheet) told = omega arith
record-few (Refused c) told = omega (arith, cause-few c)

-- ---- echoes

group-short : (g : GroupForm) → IsCounted g → length (group_text g) ≤ 164
group-short g is = go (g.count == 1)
  where
    go : (b : Bool) → length (cond b (spec_text g) (decimal g.count ++ 42 ∷ spec_text g)) ≤ 164
    go true = omega arith
    go false = omega (arith, number-short g.count (omega (arith, is.1)), length-append (decimal g.count) (42 ∷ spec_text g))

groups-short : (groups : List GroupForm) → AllByRecursion IsCounted groups → AreShort (map group_text groups)
groups-short [] all = tt
groups-short (g ∷ groups) (is, all) = (group-short g is, groups-short groups all)

whole-short : (event : Event) → IsWhole event → AreShort (event_words event)
whole-short Bad is = absurd is
whole-short (Job name tray media groups) (n, t, m, some, all) =
    (omega arith, (omega (arith, name-short name n), (omega (arith, name-short tray t), (omega (arith, name-short media m), groups-short groups all))))
whole-short (Clock to) is = (omega arith, (omega (arith, number-short to is), tt))
whole-short (Jam name) is = (omega arith, (omega (arith, name-short name is), tt))
whole-short (Off name) is = (omega arith, (omega (arith, name-short name is), tt))
whole-short (On name) is = (omega arith, (omega (arith, name-short name is), tt))
whole-short (Refill name count) (n, c) = (omega arith, (omega (arith, name-short name n), (omega (arith, number-short count c), tt)))

pub echo-short : (event : Event) → IsEchoed event → AreShort (event_words event)
echo-short event (inl bad) = subst (λ e. AreShort (event_words e)) (sym bad) (omega arith, tt)
echo-short event (inr is) = whole-short event is

abbrev pub groups_in : Event → ℕ
groups_in (Job name tray media groups) = length groups
groups_in _ = 0

pub echo-few : (event : Event) → length (event_words event) ≤ 4 + groups_in event
echo-few Bad = omega arith
echo-few (Job name tray media groups) = omega (arith, length-map groups group_text)
echo-few (Clock to) = omega arith
echo-few (Jam name) = omega arith
echo-few (Off name) = omega arith
echo-few (On name) = omega arith
echo-few (Refill name count) = omega arith
