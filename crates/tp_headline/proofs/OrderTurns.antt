-- The parts of turns keep the order of lines, and what the records and the state have to do with one another.
use Rattle.std.proofs.Common.{◌≡◌, ℕ, inl, Bool, true, false, ◌&&◌, List, [], ◌∷◌, ◌++◌, refl, sym, Contains, subst}
use Rattle.std.specs.Bool.{MatchBool}
use Rattle.std.proofs.lemmas.List.Elements.{All-nil, All-cons, All-head}
use Rattle.tp_machine.specs.declared.machine.Machine.{Machine}
use Rattle.tp_jobs.specs.Backlogs.{tray_of}
use Rattle.tp_jobs.specs.declared.parts.WaitingCopy.{WaitingCopy}
use Rattle.tp_schedule.specs.Plans.{is_same_copy}
use Rattle.tp_schedule.specs.PlannerAnswers.{Deed, IsAnswer}
use Rattle.tp_schedule.specs.PlannerAnswers.Deed.{replied}
use Rattle.tp_schedule.specs.declared.parts.Ask.{Ask}
use Rattle.tp_schedule.specs.declared.parts.Plan.{Plan}
use Rattle.tp_schedule.specs.declared.parts.Reply.{Reply}
use Rattle.tp_schedule.specs.declared.parts.Reply.TheVariants.{Planned, Never, Spent}
use Rattle.tp_schedule.specs.declared.records.Record.{Record}
use Rattle.tp_schedule.specs.declared.records.Record.TheVariants.{FullUp}
use Rattle.tp_event_rules.specs.AnswerRecords.{told_of_reply}
use Rattle.tp_event_rules.specs.AskPhase.{AsksInTurn, ask_waiting, is_full, is_passed_over, passed_after, state_after_reply}
use Rattle.tp_event_rules.specs.Labels.{label}
use Rattle.tp_event_rules.specs.Planners.{PlannerSteps, IsRight}
use Rattle.tp_event_rules.specs.States.{SessionState}
use Rattle.tp_event_rules.proofs.AskSteps.{AsksFirst, TellsFull}
use Rattle.tp_event_rules.proofs.AskedFacts.{IsAskedFirst}
use Rattle.tp_event_rules.proofs.AskedLines.{planned_waiting, lines-asked}
use Rattle.tp_event_rules.proofs.AskedSheets.{sheets-asked}
use Rattle.tp_event_rules.proofs.AskedTurns.{IsRest, rest-tail, rest-refused, rest-planned, first-of_line}
use Rattle.tp_event_rules.proofs.ReadyAsked.{broken-asked, purges-asked}
use Rattle.tp_outage_laws.specs.Through.{KeepsOrder}
use Rattle.tp_headline.proofs.Answered.{asked-delivered, delivered-asked}
use Rattle.tp_headline.proofs.Silent.{silent-reply}
use Rattle.tp_headline.proofs.Steps.{AreNoDeliveries, IsNoDelivery, IsQuiet, quiet-refl, quiet-trans}

and-second : (a b : Bool) → b ≡ false → (a && b) ≡ false
and-second true b e = e
and-second false b e = refl

-- what a part leads to
abbrev pub Leads : Machine → List ℕ → SessionState → SessionState → List Record → Type 0
Leads machine totals s s' records = KeepsOrder machine totals s' × IsQuiet s s' records

pub leads-trans : (machine : Machine) (totals : List ℕ) (s t u : SessionState) (rs rs' : List Record) → IsQuiet s t rs → Leads machine totals t u rs' → Leads machine totals s u (rs ++ rs')
leads-trans machine totals s t u rs rs' q (keeps, q') = (keeps, quiet-trans s t u rs rs' q q')

quiet-told : (s : SessionState) (rs : List Record) → AreNoDeliveries rs → IsQuiet s s rs
quiet-told s rs none = record { now = refl; jobs = refl; broke = λ n e. inl e; to = λ c d. d; from = λ c d. d; none = none }

module _ {P : Type 0} (steps : PlannerSteps P) (machine : Machine) (spent : P → Machine → List Plan → Ask → ℕ → Type 0)
    (right : (p : P) (plans : List Plan) (deed : Deed) (plans' : List Plan) (p' : P) → steps.does p plans deed plans' p' → IsRight (spent p) machine plans deed plans') where
  order-planned : (totals : List ℕ) (p : P) (s : SessionState) (passed : List ℕ) (w : WaitingCopy) (ws : List WaitingCopy) (plans : List Plan) → IsAnswer (spent p) machine s.plans (ask_waiting machine s w) Planned plans
      → is_passed_over s passed w ≡ false → IsRest s passed (w ∷ ws) → KeepsOrder machine totals s → Leads machine totals s (planned_waiting s w plans) (told_of_reply machine s.plans (ask_waiting machine s w) Planned plans)
  order-planned totals p s passed w ws plans answer not_over r keeps =
      let f : IsAskedFirst machine s w plans = record { a = answer.0.alternative; keeps = keeps.lines; here = All-head (Contains s.waiting) w ws r.wait; behind = first-of_line machine s passed w ws not_over r } in (
        record {
          jobs = keeps.jobs;
          lines = lines-asked machine s w plans f;
          sheets = sheets-asked machine s w plans f totals keeps.sheets;
          plans = record {
            now_at_most = keeps.plans.now_at_most;
            legal = f.a.legal;
            floors = λ q in' not_exempt i released within. f.a.floors q in' (and-second (is_same_copy q.sheet w.sheet) _ refl) i released within;
            horizon = f.a.horizon;
          };
          broken = broken-asked machine s w plans f keeps.plans.legal keeps.plans.floors keeps.broken;
          purges = purges-asked machine s w plans f keeps.plans.legal keeps.plans.floors keeps.purges;
        },
        record {
          now = refl;
          jobs = refl;
          broke = λ n e. inl e;
          to = delivered-asked machine s w plans f keeps.plans;
          from = asked-delivered machine s w plans f keeps.plans;
          none = silent-reply machine s.plans (ask_waiting machine s w) Planned plans;
        },
      )

  order-reply : (totals : List ℕ) (p : P) (s : SessionState) (passed : List ℕ) (w : WaitingCopy) (ws : List WaitingCopy) (reply : Reply) (plans : List Plan) → IsAnswer (spent p) machine s.plans (ask_waiting machine s w) reply plans
      → is_passed_over s passed w ≡ false → IsRest s passed (w ∷ ws) → KeepsOrder machine totals s
      → IsRest (state_after_reply s w reply plans) (passed_after reply (tray_of s.jobs w.sheet).0 passed) ws
      × Leads machine totals s (state_after_reply s w reply plans) (told_of_reply machine s.plans (ask_waiting machine s w) reply plans)
  order-reply totals p s passed w ws Planned plans answer not_over r keeps = (rest-planned s passed w ws plans r, order-planned totals p s passed w ws plans answer not_over r keeps)
  order-reply totals p s passed w ws Never plans answer not_over r keeps = (rest-refused s passed w ws r, (keeps, quiet-told s _ (silent-reply machine s.plans (ask_waiting machine s w) Never plans)))
  order-reply totals p s passed w ws (Spent bound) plans answer not_over r keeps = (rest-refused s passed w ws r, (keeps, quiet-told s _ (silent-reply machine s.plans (ask_waiting machine s w) (Spent bound) plans)))

  pub order-asks : (totals : List ℕ) (waiting : List WaitingCopy) (passed : List ℕ) (s : SessionState) (p : P) (records : List Record) (s' : SessionState) (p' : P)
      → AsksInTurn steps machine waiting passed s p records s' p' → IsRest s passed waiting → KeepsOrder machine totals s → Leads machine totals s s' records
  order-asks totals [] passed s p records s' p' (told, is, same) r keeps =
      subst (λ rs. Leads machine totals s s' rs) (sym told) (subst (λ t. Leads machine totals s t []) (sym is) (keeps, quiet-refl s))
  order-asks totals (w ∷ waiting) passed s p records s' p' asks r keeps =
      go (is_passed_over s passed w) refl (is_full machine s) asks
      (λ next over. order-asks totals waiting passed s p records s' p' next (rest-tail s passed w waiting over r) keeps)
      (λ rest next. order-asks totals waiting ((tray_of s.jobs w.sheet).0 ∷ passed) s p rest s' p' next (rest-refused s passed w waiting r) keeps)
      (λ reply plans mid rest next rest' keeps'. order-asks totals waiting (passed_after reply (tray_of s.jobs w.sheet).0 passed) (state_after_reply s w reply plans) mid rest s' p' next rest' keeps') where
        go : (b : Bool) → is_passed_over s passed w ≡ b → (c : Bool) → MatchBool b (AsksInTurn steps machine waiting passed s p records s' p')
            (MatchBool c (TellsFull steps machine w waiting passed s p records s' p') (AsksFirst steps machine w waiting passed s p records s' p'))
            → (AsksInTurn steps machine waiting passed s p records s' p' → is_passed_over s passed w ≡ true → Leads machine totals s s' records)
            → ((rest : List Record) → AsksInTurn steps machine waiting ((tray_of s.jobs w.sheet).0 ∷ passed) s p rest s' p' → Leads machine totals s s' rest)
            → ((reply : Reply) (plans : List Plan) (mid : P) (rest : List Record)
            → AsksInTurn steps machine waiting (passed_after reply (tray_of s.jobs w.sheet).0 passed) (state_after_reply s w reply plans) mid rest s' p'
            → IsRest (state_after_reply s w reply plans) (passed_after reply (tray_of s.jobs w.sheet).0 passed) waiting → KeepsOrder machine totals (state_after_reply s w reply plans)
            → Leads machine totals (state_after_reply s w reply plans) s' rest)
            → Leads machine totals s s' records
        go true e c next over full answered = over next e
        go false e true (rest, told, next) over full answered =
            subst (Leads machine totals s s') (sym told) (leads-trans machine totals s s s' (FullUp (label s.jobs w.sheet) ∷ []) rest (quiet-told s _ (All-cons IsNoDelivery (FullUp (label s.jobs w.sheet)) [] refl (All-nil IsNoDelivery))) (full rest next))
        go false e false (reply, (plans, (mid, (rest, does, told, next)))) over full answered =
            let step = order-reply totals p s passed w waiting reply plans (right p s.plans (replied (ask_waiting machine s w) reply) plans mid does) e r keeps in
            subst (Leads machine totals s s') (sym told) (leads-trans machine totals s (state_after_reply s w reply plans) s' (told_of_reply machine s.plans (ask_waiting machine s w) reply plans) rest step.1.1 (answered reply plans mid rest next step.0 step.1.0))
