-- A fall-back: what it needs of the state, and how its parts follow one another.
use Rattle.std.proofs.Common.{◌≡◌, ℕ, ◌+◌, ◌≤◌, Bool, true, false, cond, List, [], ◌∷◌, ◌++◌, None, IsTrue, sym, ap, ◌∙◌, arith, append_assoc, count_by, length}
use Rattle.tp_schedule.specs.declared.parts.SheetId.{SheetId}
use Rattle.tp_schedule.specs.declared.records.Record.{Record}
use Rattle.tp_jobs.specs.Backlogs.{next_copy}
use Rattle.tp_jobs.specs.WaitingCopies.{find_waiting, put_waiting}
use Rattle.tp_jobs.specs.declared.parts.WaitingCopy.{WaitingCopy}
use Rattle.tp_event_rules.specs.FallBacks.{Displaced, fall_back, is_line_entering, job_break, later_fall_back, next_waits}
use Rattle.tp_schedule.specs.declared.records.Record.TheVariants.{Again}
use Rattle.tp_event_rules.specs.Labels.{label}
use Rattle.tp_event_rules.specs.States.{Outcome, SessionState, and_then, for_each, nothing_told}
use Rattle.tp_replan.specs.Meanings.{Leads}
use Rattle.tp_replan.specs.Open.{CanFall, all_copies, is_in, most_waiting, one_sheet, to_wait}
use Rattle.tp_replan.proofs.OpenFacts.{count-cons, count-every, is_of_sheet, none-of, of_sheet-put, one-where, own-sheet}

pub without-pending : (s : SessionState) (pending : List SheetId) → CanFall s pending → CanFall s []
without-pending s pending can = record {
  known = can.known;
  next = can.next;
  purges = can.purges;
  few = λ g. let few = can.few g in omega arith;
}

-- the copy that is to wait does not yet
pub not-yet : (s : SessionState) (d : Displaced) → CanFall s (to_wait d) → IsTrue d.again → find_waiting (next_copy d.sheet) s.waiting ≡ None
not-yet s d can again = go d.again _ again (can.few (one_sheet d.sheet)) where
  go : (b : Bool) (n : ℕ) → IsTrue b
      → count_by (is_of_sheet (one_sheet d.sheet)) s.waiting + (n + count_by (is_in (one_sheet d.sheet)) (cond b (d.sheet ∷ []) [])) ≤ 1
      → find_waiting (next_copy d.sheet) s.waiting ≡ None
  go true n again few =
      let first = count-cons (is_in (one_sheet d.sheet)) d.sheet [] in
      let one = one-where (is_in (one_sheet d.sheet) d.sheet) (own-sheet d.sheet) in
      none-of (next_copy d.sheet) s.waiting (omega arith)
  go false n again few = absurd cc

-- and there is room for it
pub next-room : (s : SessionState) (d : Displaced) → CanFall s (to_wait d) → IsTrue d.again → length s.waiting + 1 ≤ most_waiting
next-room s d can again = go d.again _ again (can.few all_copies) where
  go : (b : Bool) (n : ℕ) → IsTrue b
      → count_by (is_of_sheet all_copies) s.waiting + (n + count_by (is_in all_copies) (cond b (d.sheet ∷ []) [])) ≤ most_waiting
      → length s.waiting + 1 ≤ most_waiting
  go true n again few =
      let every = count-every s.waiting in
      let one = count-cons (is_in all_copies) d.sheet [] in
      omega arith
  go false n again few = absurd cc

-- with the next copy the rest can fall back
pub next-can : (s : SessionState) (d : Displaced) → CanFall s (to_wait d) → CanFall (next_waits d s).state []
next-can s d can = go d.again can where
  waits : Outcome
  waits = record {
    records = Again (label s.jobs (next_copy d.sheet)) ∷ [];
    state = record s { waiting = put_waiting s.waiting (record { sheet = next_copy d.sheet; want = d.want }) };
  }

  go : (b : Bool) → CanFall s (cond b (d.sheet ∷ []) []) → CanFall (cond {A = Outcome} b waits (nothing_told s)).state []
  go true h = record {
    known = h.known;
    next = h.next;
    purges = h.purges;
    few = λ g.
        let w : WaitingCopy = record { sheet = next_copy d.sheet; want = d.want } in
        let few = h.few g in
        let put = of_sheet-put g w s.waiting in
        let first = count-cons (is_of_sheet g) w s.waiting in
        let one = count-cons (is_in g) d.sheet [] in
        omega arith;
  }
  go false h = h

-- the case where none is entering
pub makes-way : (s : SessionState) (d : Displaced) → false ≡ is_line_entering s d.sheet → fall_back s d ≡ and_then (next_waits d s) (later_fall_back d.sheet)
makes-way s d e = ap (λ b. cond b (job_break d.sheet.job s) (and_then (next_waits d s) (later_fall_back d.sheet))) (sym e)

-- one part after another
pub leads-on : (o : Outcome) (next : SessionState → Outcome) (notes mid notes' : List Record) (s' : SessionState) → mid ≡ notes ++ o.records → Leads (next o.state) mid notes' s' → Leads (and_then o next) notes notes' s'
leads-on o next notes mid notes' s' told then = record {
  told = then.told ∙ ap (λ ns. ns ++ (next o.state).records) told ∙ append_assoc notes o.records (next o.state).records;
  state = then.state;
}

-- one thing more had its part
pub each-told : {X : Type 0} (part : SessionState → X → Outcome) (x : X) (xs : List X) (s s' : SessionState) (notes mid all : List Record) → Leads (part s x) notes mid s'
    → notes ++ (for_each part (x ∷ xs) s).records ≡ all → mid ++ (for_each part xs s').records ≡ all
each-told part x xs s s' notes mid all leads before =
    (λ k. leads.told k ++ (for_each part xs (leads.state k)).records) ∙ append_assoc notes (part s x).records (for_each part xs (part s x).state).records ∙ before

pub each-state : {X : Type 0} (part : SessionState → X → Outcome) (x : X) (xs : List X) (s s' all : SessionState) (notes mid : List Record) → Leads (part s x) notes mid s'
    → (for_each part (x ∷ xs) s).state ≡ all → (for_each part xs s').state ≡ all
each-state part x xs s s' all notes mid leads before = ap (λ t. (for_each part xs t).state) leads.state ∙ before
