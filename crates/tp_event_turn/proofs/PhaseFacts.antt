-- A phase of asks under way: what is left of it from here on, behind what was done, is the phase from its beginning.
use Rattle.std.proofs.Common.{◌≡◌, ℕ, ◌+◌, ◌<◌, inl, inr, Bool, true, false, List, [], ◌∷◌, ◌++◌, length, Option, Some, None, refl, sym, ap, ◌∙◌, subst, append_assoc, arith}
use Rattle.std.specs.Bool.{MatchBool}
use Rattle.std.specs.Prelude.{IsSomeAnd}
use Rattle.std.proofs.lemmas.List.Elements.{All-contains_itself}
use Rattle.tp_machine.specs.declared.machine.Machine.{Machine}
use Rattle.tp_schedule.specs.PlannerAnswers.{Deed, IsAnswer}
use Rattle.tp_schedule.specs.PlannerAnswers.Deed.{replied}
use Rattle.tp_schedule.specs.PlannerAnswers.Due.{asking}
use Rattle.tp_schedule.specs.declared.parts.Ask.{Ask}
use Rattle.tp_schedule.specs.declared.parts.Plan.{Plan}
use Rattle.tp_schedule.specs.declared.parts.Reply.{Reply}
use Rattle.tp_schedule.specs.declared.parts.Reply.TheVariants.{Planned, Never, Spent}
use Rattle.tp_schedule.specs.declared.parts.SheetId.{SheetId}
use Rattle.tp_schedule.specs.declared.records.Record.{Record}
use Rattle.tp_schedule.specs.declared.records.Record.TheVariants.{FullUp}
use Rattle.tp_jobs.specs.Backlogs.{tray_of, unmarked}
use Rattle.tp_jobs.specs.NextTry.{next_to_try}
use Rattle.tp_jobs.specs.WaitingCopies.{find_waiting}
use Rattle.tp_jobs.specs.declared.parts.WaitingCopy.{WaitingCopy}
use Rattle.tp_event_rules.proofs.AskedFacts.{IsAskedFirst}
use Rattle.tp_event_rules.proofs.AskedKept.{least-asked}
use Rattle.tp_event_rules.proofs.AskedLines.{planned_waiting}
use Rattle.tp_event_rules.proofs.AskedTurns.{IsRest, first-of_line, rest-planned, rest-refused}
use Rattle.tp_event_rules.proofs.ReadyAsked.{ready-asked}
use Rattle.tp_event_rules.specs.AnswerRecords.{told_of_reply}
use Rattle.tp_event_rules.specs.AskPhase.{Asks, AsksInTurn, ask_waiting, is_full, is_passed_over, passed_after, state_after_reply}
use Rattle.tp_event_rules.specs.StateInvariants.{IsLeastAt}
use Rattle.tp_event_rules.specs.Labels.{label}
use Rattle.tp_event_rules.specs.Planners.{IsRight, PlannerSteps}
use Rattle.tp_event_rules.specs.Ready.{CanTakeEvents, KeepsLive, last_copy}
use Rattle.tp_event_rules.specs.States.{SessionState}
use Rattle.tp_event_turn.proofs.LeftFacts.{IsNext, left, left-all, left-behind, left-without, found-itself, is-next, none-next}
use Rattle.tp_event_turn.proofs.MarkFacts.{AreClosed, AreMarked, IsSkipped, all-passed, behind, closed-after, skipped}
use Rattle.std.proofs.lemmas.List.{append-nil}
use Rattle.tp_event_turn.proofs.TurnFacts.{match-true, match-false}
use Rattle.tp_event_turn.specs.Stops.{NotesStop, StopsAsks, StopsAtCopy, StopsInTurn}
use Rattle.tp_event_turn.specs.Phases.{IsTried, NotesAsks, NotesTurn, is_planned}

-- the phase is under way: its state and planner now, what was noted, and how it goes on from the copies that are left
pub record IsUnderWay {P : Type 0} (steps : PlannerSteps P) (machine : Machine) (s : SessionState) (p : P) (notes : List Record)
    (now : SessionState) (planner : P) (told : List Record) (after : Option SheetId) (marks : List Bool) : Type 0 where
  pub passed : List ℕ
  pub marked : AreMarked marks passed
  pub rest : IsRest now passed (left after now.waiting)
  pub can : KeepsLive machine (last_copy + 1) now
  pub kept : (copies : ℕ) → CanTakeEvents machine copies s → CanTakeEvents machine copies now
  pub done : List Record
  pub notes_are : told ≡ notes ++ done
  pub goes_on : (more : List Record) (last : SessionState) (q : P) → AsksInTurn steps machine (left after now.waiting) passed now planner more last q → Asks steps machine s p (done ++ more) last q
  pub stops_on : (more : List Record) (q : P) → StopsInTurn steps machine (left after now.waiting) passed now planner more q → StopsAsks steps machine s p (done ++ more) q

module _ {P : Type 0} (steps : PlannerSteps P) (machine : Machine) (s : SessionState) (p : P) (notes : List Record) where
  -- at the beginning all that wait are left
  pub begins : (marks : List Bool) → AreMarked marks [] → KeepsLive machine (last_copy + 1) s → IsUnderWay steps machine s p notes s p notes None marks
  begins marks none can = record {
    passed = [];
    marked = none;
    rest = subst (IsRest s []) (sym (left-all s.waiting)) (record { wait = All-contains_itself s.waiting; in_order = can.lines.in_order; others = λ v in'. inl in' });
    can = can;
    kept = λ copies was. was;
    done = [];
    notes_are = sym (append-nil notes);
    goes_on = λ more last q asks. subst (λ ws. AsksInTurn steps machine ws [] s p more last q) (left-all s.waiting) asks;
    stops_on = λ more q stop. subst (λ ws. StopsInTurn steps machine ws [] s p more q) (left-all s.waiting) stop;
  }

  module _ (now : SessionState) (planner : P) (told : List Record) (after : Option SheetId) (marks : List Bool) (u : IsUnderWay steps machine s p notes now planner told after marks) where
    -- at the end no line of those that are left is open
    pub ended : next_to_try (unmarked now.jobs now.waiting) after marks ≡ None → NotesAsks steps machine s p notes now planner told
    ended none =
        let rest = all-passed steps machine now planner u.passed marks u.marked (left after now.waiting) (none-next (unmarked now.jobs now.waiting) after marks none) in
        (u.done, u.notes_are, subst (λ l. Asks steps machine s p l now planner) (append-nil u.done) (u.goes_on [] now planner rest))

    module _ (copy : SheetId) (n : next_to_try (unmarked now.jobs now.waiting) after marks ≡ Some copy)
        (spent : Machine → List Plan → Ask → ℕ → Type 0) (right : (plans : List Plan) (deed : Deed) (plans' : List Plan) (p' : P) → steps.does planner plans deed plans' p' → IsRight spent machine plans deed plans') where
      -- the phase is under way behind the copy, and fewer copies are left
      pub record IsStep (tried : SheetId) (now' : SessionState) (planner' : P) (told' : List Record) (marks' : List Bool) : Type 0 where
        pub on : IsUnderWay steps machine s p notes now' planner' told' (Some tried) marks'
        pub fewer : length (left (Some tried) now'.waiting) < length (left after now.waiting)

      -- what is kept of the state before the copy's turn
      record LeavesKept (now' : SessionState) : Type 0 where
        ready : (copies : ℕ) → KeepsLive machine copies now → KeepsLive machine copies now'
        least : IsLeastAt machine now → IsLeastAt machine now'

      next : IsNext (unmarked now.jobs now.waiting) after marks copy
      next = is-next (unmarked now.jobs now.waiting) after marks copy n

      skip : IsSkipped steps machine now planner u.passed marks u.marked (left after now.waiting) next.w
      skip = skipped steps machine now planner u.passed marks u.marked (left after now.waiting) next.w next.first u.rest

      abbrev ws : List WaitingCopy
      ws = behind next.w (left after now.waiting)

      left-is : left (Some next.w.sheet) now.waiting ≡ ws
      left-is = sym (left-behind after next.w.sheet now.waiting next.after_last)

      -- the phase goes on from the copies behind this one
      moved : (records : List Record) (passed : List ℕ) (now' : SessionState) (planner' : P) (told' : List Record) (marks' : List Bool) → AreMarked marks' passed
          → IsRest now' passed ws → LeavesKept now' → told' ≡ told ++ records → left (Some next.w.sheet) now'.waiting ≡ ws
          → ((more : List Record) (last : SessionState) (q : P) → AsksInTurn steps machine ws passed now' planner' more last q
          → AsksInTurn steps machine (next.w ∷ ws) u.passed now planner (records ++ more) last q)
          → ((more : List Record) (q : P) → StopsInTurn steps machine ws passed now' planner' more q → StopsInTurn steps machine (next.w ∷ ws) u.passed now planner (records ++ more) q)
          → IsStep next.w.sheet now' planner' told' marks'
      moved records passed now' planner' told' marks' marked rest kept told-is same turn halt = record {
        on = record {
          passed = passed;
          marked = marked;
          rest = subst (IsRest now' passed) (sym same) rest;
          can = kept.ready (last_copy + 1) u.can;
          kept = λ copies was. let is = u.kept copies was in record { kept = kept.ready copies is.kept; least = kept.least is.least };
          done = u.done ++ records;
          notes_are = told-is ∙ ap (λ l. l ++ records) u.notes_are ∙ append_assoc notes u.done records;
          goes_on = λ more last q asks. subst (λ l. Asks steps machine s p l last q) (sym (append_assoc u.done records more))
              (u.goes_on (records ++ more) last q (skip.goes (records ++ more) last q (turn more last q (subst (λ vs. AsksInTurn steps machine vs passed now' planner' more last q) same asks))));
          stops_on = λ more q stop. subst (λ l. StopsAsks steps machine s p l q) (sym (append_assoc u.done records more))
              (u.stops_on (records ++ more) q (skip.stops (records ++ more) q (halt more q (subst (λ vs. StopsInTurn steps machine vs passed now' planner' more q) same stop))));
        };
        fewer = let len = ap (λ (l : List WaitingCopy). length l) same in let few = skip.fewer in omega arith;
      }

      planned-kept : (plans : List Plan) → IsAnswer spent machine now.plans (ask_waiting machine now next.w) Planned plans → is_full machine now ≡ false → LeavesKept (planned_waiting now next.w plans)
      planned-kept plans answer free =
          let f : IsAskedFirst machine now next.w plans = record {
            a = answer.0.alternative;
            keeps = u.can.lines;
            here = next.here;
            behind = first-of_line machine now u.passed next.w ws skip.taken skip.rest;
          } in
          record {
            ready = ready-asked machine now next.w plans f free;
            least = λ was. least-asked machine now next.w plans answer.1;
          }

      stays-kept : LeavesKept now
      stays-kept = record { ready = λ copies is. is; least = λ was. was }

      -- what an answer leaves
      record Leaves (reply : Reply) (plans : List Plan) : Type 0 where
        rest : IsRest (state_after_reply now next.w reply plans) (passed_after reply (tray_of now.jobs next.w.sheet).0 u.passed) ws
        kept : LeavesKept (state_after_reply now next.w reply plans)
        same : left (Some next.w.sheet) (state_after_reply now next.w reply plans).waiting ≡ ws

      answered : (reply : Reply) (plans : List Plan) → IsAnswer spent machine now.plans (ask_waiting machine now next.w) reply plans → is_full machine now ≡ false → Leaves reply plans
      answered Planned plans answer free = record {
        rest = rest-planned now u.passed next.w ws plans skip.rest;
        kept = planned-kept plans answer free;
        same = left-without next.w.sheet now.waiting ∙ left-is;
      }
      answered Never plans answer free = record { rest = rest-refused now u.passed next.w ws skip.rest; kept = stays-kept; same = left-is }
      answered (Spent bound) plans answer free = record { rest = rest-refused now u.passed next.w ws skip.rest; kept = stays-kept; same = left-is }

      -- the copy's turn at its own number
      turn : (now' : SessionState) (planner' : P) (told' : List Record) (planned : Bool) (marks' : List Bool) (records : List Record) → told' ≡ told ++ records
          → IsTried steps machine next.w now planner records planned now' planner' → AreClosed planned (tray_of now.jobs next.w.sheet) marks marks'
          → IsStep next.w.sheet now' planner' told' marks'
      turn now' planner' told' planned marks' records told-is tried closed = go (is_full machine now) refl tried where
        go : (b : Bool) → is_full machine now ≡ b
            → MatchBool b ((records ≡ FullUp (label now.jobs next.w.sheet) ∷ []) × (planned ≡ false) × (now' ≡ now) × (planner' ≡ planner))
            ((reply : Reply) × steps.does planner now.plans (replied (ask_waiting machine now next.w) reply) now'.plans planner'
            × (records ≡ told_of_reply machine now.plans (ask_waiting machine now next.w) reply now'.plans)
            × (planned ≡ is_planned reply) × (now' ≡ state_after_reply now next.w reply now'.plans))
            → IsStep next.w.sheet now' planner' told' marks'
        go true full (full-told, refused, same, same') =
            moved records ((tray_of now.jobs next.w.sheet).0 ∷ u.passed) now' planner' told' marks'
            (closed-after Never planned (tray_of now.jobs next.w.sheet) marks marks' u.passed refused u.marked closed)
            (subst (λ q. IsRest q ((tray_of now.jobs next.w.sheet).0 ∷ u.passed) ws) (sym same) (rest-refused now u.passed next.w ws skip.rest))
            (subst LeavesKept (sym same) stays-kept) told-is
            (subst (λ q. left (Some next.w.sheet) q.waiting ≡ ws) (sym same) left-is)
            (λ more last q asks. match-false (is_passed_over now u.passed next.w) _ _ skip.taken (match-true (is_full machine now) _ _ full (
              more,
              ap (λ l. l ++ more) full-told,
              subst (λ z. AsksInTurn steps machine ws ((tray_of now.jobs next.w.sheet).0 ∷ u.passed) z planner more last q) same
                  (subst (λ z. AsksInTurn steps machine ws ((tray_of now.jobs next.w.sheet).0 ∷ u.passed) now' z more last q) same' asks),
            )))
            (λ more q stop. match-false (is_passed_over now u.passed next.w) _ _ skip.taken (match-true (is_full machine now) _ _ full (
              more,
              ap (λ l. l ++ more) full-told,
              subst (λ z. StopsInTurn steps machine ws ((tray_of now.jobs next.w.sheet).0 ∷ u.passed) z planner more q) same
                  (subst (λ z. StopsInTurn steps machine ws ((tray_of now.jobs next.w.sheet).0 ∷ u.passed) now' z more q) same' stop),
            )))
        go false free (reply, does, reply-told, is, same) =
            let after-it = answered reply now'.plans (right now.plans (replied (ask_waiting machine now next.w) reply) now'.plans planner' does) free in
            moved records (passed_after reply (tray_of now.jobs next.w.sheet).0 u.passed) now' planner' told' marks'
            (closed-after reply planned (tray_of now.jobs next.w.sheet) marks marks' u.passed is u.marked closed)
            (subst (λ z. IsRest z (passed_after reply (tray_of now.jobs next.w.sheet).0 u.passed) ws) (sym same) after-it.rest)
            (subst LeavesKept (sym same) after-it.kept) told-is
            (subst (λ z. left (Some next.w.sheet) z.waiting ≡ ws) (sym same) after-it.same)
            (λ more last q asks. match-false (is_passed_over now u.passed next.w) _ _ skip.taken (match-false (is_full machine now) _ _ free (
              reply,
              (
                now'.plans,
                (
                  planner',
                  (
                    more,
                    does,
                    ap (λ l. l ++ more) reply-told,
                    subst (λ z. AsksInTurn steps machine ws (passed_after reply (tray_of now.jobs next.w.sheet).0 u.passed) z planner' more last q) same asks,
                  ),
                ),
              ),
            )))
            (λ more q stop. match-false (is_passed_over now u.passed next.w) _ _ skip.taken (match-false (is_full machine now) _ _ free (inr (
              reply,
              (
                now'.plans,
                (
                  planner',
                  (
                    more,
                    does,
                    ap (λ l. l ++ more) reply-told,
                    subst (λ z. StopsInTurn steps machine ws (passed_after reply (tray_of now.jobs next.w.sheet).0 u.passed) z planner' more q) same stop,
                  ),
                ),
              ),
            ))))

      pub step : (now' : SessionState) (planner' : P) (told' : List Record) (planned : Bool) (marks' : List Bool) → NotesTurn steps machine copy now planner told planned now' planner' told'
          → AreClosed planned (tray_of now.jobs copy) marks marks' → IsStep copy now' planner' told' marks'
      step now' planner' told' planned marks' noted closed =
          let found : find_waiting copy now.waiting ≡ Some next.w = subst (λ c. find_waiting c now.waiting ≡ Some next.w) next.sheet (found-itself now.waiting next.w u.can.lines.in_order next.here) in
          let its = subst (λ o. IsSomeAnd o (λ w. (records : List Record) × (told' ≡ told ++ records) × IsTried steps machine w now planner records planned now' planner')) found noted in
          subst (λ c. IsStep c now' planner' told' marks') next.sheet
          (turn now' planner' told' planned marks' its.0 its.1 its.2 (subst (λ c. AreClosed planned (tray_of now.jobs c) marks marks') (sym next.sheet) closed))

      -- the planner stopped as the copy was asked
      pub stopped : (planner' : P) (told' : List Record) → StopsAtCopy steps machine copy now planner told planner' told' → NotesStop steps machine s p notes planner' told'
      stopped planner' told' at =
          let found : find_waiting copy now.waiting ≡ Some next.w = subst (λ c. find_waiting c now.waiting ≡ Some next.w) next.sheet (found-itself now.waiting next.w u.can.lines.in_order next.here) in
          let its = subst (λ o. IsSomeAnd o (λ w. (told' ≡ told) × (is_full machine now ≡ false) × steps.stops planner now.plans (asking (ask_waiting machine now w)) planner')) found at in (
            u.done,
            its.0 ∙ u.notes_are,
            subst (λ l. StopsAsks steps machine s p l planner') (append-nil u.done)
                (u.stops_on [] planner' (skip.stops [] planner' (match-false (is_passed_over now u.passed next.w) _ _ skip.taken (match-false (is_full machine now) _ _ its.1 (inl (refl, its.2)))))),
          )
