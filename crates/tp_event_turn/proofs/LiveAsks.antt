-- A phase of asks on the live part is one on the whole state.
use Rattle.std.proofs.Common.{◌≡◌, ℕ, Bool, true, false, List, [], ◌∷◌, ◌++◌, refl, sym, ap, ◌∙◌, subst, nat_le}
use Rattle.std.specs.Bool.{MatchBool}
use Rattle.std.proofs.lemmas.List.Sums.{length-filter}
use Rattle.tp_machine.specs.declared.machine.Machine.{Machine}
use Rattle.tp_schedule.specs.Limits.{most_live}
use Rattle.tp_schedule.specs.LivePlans.{is_live, live_count}
use Rattle.tp_schedule.specs.PlannerAnswers.{IsAnswer}
use Rattle.tp_schedule.specs.declared.parts.Plan.{Plan}
use Rattle.tp_schedule.specs.declared.parts.Reply.{Reply}
use Rattle.tp_schedule.specs.declared.parts.Reply.TheVariants.{Planned, Never, Spent}
use Rattle.tp_schedule.specs.declared.records.Record.{Record}
use Rattle.tp_jobs.specs.Backlogs.{tray_of}
use Rattle.tp_jobs.specs.declared.parts.WaitingCopy.{WaitingCopy}
use Rattle.tp_event_rules.specs.AskPhase.{AsksInTurn, ask_waiting, is_full, is_passed_over, passed_after, state_after_reply}
use Rattle.tp_event_rules.specs.StateInvariants.{live_part, live_plans}
use Rattle.tp_event_rules.specs.Planners.{PlannerSteps}
use Rattle.tp_event_rules.specs.States.{SessionState}
use Rattle.tp_event_rules.proofs.AskSteps.{AsksFirst, TellsFull}
use Rattle.tp_event_turn.specs.LiveAnswers.{IsAnswerOnWhole, live_at}
use Rattle.tp_event_turn.specs.LiveTurns.{Follows, AsksPassOn}
use Rattle.tp_schedule.specs.declared.parts.Ask.{Ask}
use Rattle.tp_event_turn.proofs.LiveAnswered.{answers-pass_on}
use Rattle.tp_event_turn.proofs.LiveLists.{filter-within}
use Rattle.tp_event_turn.proofs.LiveStates.{IsWhole, can-ask-live, live-planned, same-ask, whole-all, whole-planned, whole-rest}
use Rattle.tp_schedule.specs.PlannerAnswers.Deed.{replied}

-- as many copies are live
pub full-same : (machine : Machine) (s : SessionState) → is_full machine (live_part machine s) ≡ is_full machine s
full-same machine s =
    let twice = filter-within (is_live machine s.now) (is_live machine s.now) s.plans (λ p in' e. e) in
    let one = length-filter (is_live machine s.now) s.plans in
    let other = length-filter (is_live machine s.now) (live_plans machine s) in
    let count : live_count machine s.now (live_plans machine s) ≡ live_count machine s.now s.plans = cc in
    ap (nat_le most_live) count

-- the state after an answer
module _ (spent : Machine → List Plan → Ask → ℕ → Type 0) (live_spent : Machine → List Plan → Ask → ℕ → Type 0) (machine : Machine) (s : SessionState) (w : WaitingCopy) (ws : List WaitingCopy) (whole : IsWhole machine s (w ∷ ws)) where
  pub whole-after : (reply : Reply) (live : List Plan) (on : IsAnswerOnWhole spent machine s.plans (ask_waiting machine s w) reply live) → IsWhole machine (state_after_reply s w reply on.whole) ws
  whole-after Planned live on = whole-planned machine s w ws whole on.whole on.answer.0.alternative on.past_part
  whole-after Never live on = whole-rest machine s w ws whole
  whole-after (Spent bound) live on = whole-rest machine s w ws whole

  pub live-after : (reply : Reply) (live : List Plan) (on : IsAnswerOnWhole spent machine s.plans (ask_waiting machine s w) reply live)
      → IsAnswer live_spent machine (live_at machine s.now s.plans) (ask_waiting machine s w) reply live
      → state_after_reply (live_part machine s) w reply live ≡ live_part machine (state_after_reply s w reply on.whole)
  live-after Planned live on answer = live-planned machine s w ws whole live on.whole answer.0.alternative on.live_part on.past_part
  live-after Never live on answer = refl
  live-after (Spent bound) live on answer = refl

module _ {P Q : Type 0} (on_live : PlannerSteps P) (on_whole : PlannerSteps Q) (machine : Machine) (together : P → Q → Type 0)
    (live_spent whole_spent : P → Machine → List Plan → Ask → ℕ → Type 0) (follows : Follows on_live on_whole machine together live_spent whole_spent) (p' : P) (q' : Q) (last-together : together p' q') where
  -- a phase from this state, over these copies
  abbrev OnWhole : List WaitingCopy → List ℕ → SessionState → P → List Record → SessionState → Type 0
  OnWhole ws passed s p records last = (s' : SessionState) × (((q : Q) × AsksInTurn on_whole machine ws passed s q records s' q' × together p q) × (live_part machine s' ≡ last))

  whole-asks : (ws : List WaitingCopy) (passed : List ℕ) (s : SessionState) (p : P) (records : List Record) (last : SessionState)
      → IsWhole machine s ws → AsksInTurn on_live machine ws passed (live_part machine s) p records last p' → OnWhole ws passed s p records last
  whole-asks [] passed s p records last whole (told, is, same) = (s, ((q', (told, refl, refl), subst (λ r. together r q') same last-together), sym is))
  whole-asks (w ∷ ws) passed s p records last whole asks =
      go (is_passed_over s passed w) (is_full machine s) (is_full machine (live_part machine s)) (full-same machine s) asks
      (whole-asks ws passed s p records last (whole-rest machine s w ws whole))
      (λ rest. whole-asks ws ((tray_of s.jobs w.sheet).0 ∷ passed) s p rest last (whole-rest machine s w ws whole))
      (λ reply plans mid rest. whole-asks ws (passed_after reply (tray_of s.jobs w.sheet).0 passed) (state_after_reply s w reply plans) mid rest last) where
        go : (b c d : Bool) → d ≡ c
            → MatchBool b (AsksInTurn on_live machine ws passed (live_part machine s) p records last p')
            (MatchBool d (TellsFull on_live machine w ws passed (live_part machine s) p records last p') (AsksFirst on_live machine w ws passed (live_part machine s) p records last p'))
            → (AsksInTurn on_live machine ws passed (live_part machine s) p records last p' → OnWhole ws passed s p records last)
            → ((rest : List Record) → AsksInTurn on_live machine ws ((tray_of s.jobs w.sheet).0 ∷ passed) (live_part machine s) p rest last p' → OnWhole ws ((tray_of s.jobs w.sheet).0 ∷ passed) s p rest last)
            → ((reply : Reply) (plans : List Plan) (mid : P) (rest : List Record) → IsWhole machine (state_after_reply s w reply plans) ws
            → AsksInTurn on_live machine ws (passed_after reply (tray_of s.jobs w.sheet).0 passed) (live_part machine (state_after_reply s w reply plans)) mid rest last p'
            → OnWhole ws (passed_after reply (tray_of s.jobs w.sheet).0 passed) (state_after_reply s w reply plans) mid rest last)
            → (s' : SessionState)
            × (((q : Q) × MatchBool b (AsksInTurn on_whole machine ws passed s q records s' q')
            (MatchBool c (TellsFull on_whole machine w ws passed s q records s' q') (AsksFirst on_whole machine w ws passed s q records s' q')) × together p q)
            × (live_part machine s' ≡ last))
        go true c d e next over full answered = over next
        go false true true e (rest, told, next) over full answered = let on = full rest next in (on.0, ((on.1.0.0, (rest, told, on.1.0.1), on.1.0.2), on.1.1))
        go false true false e first over full answered = absurd (cc)
        go false false true e first over full answered = absurd (cc)
        go false false false e (reply, (live, (mid, (rest, does, told, next)))) over full answered =
            let can = can-ask-live machine s w ws whole in
            let does' = subst (λ ask. on_live.does p (live_plans machine s) (replied ask reply) live mid) (same-ask machine s w) does in
            let answer = follows.right p mid s.plans live (ask_waiting machine s w) reply can does' in
            let on = answers-pass_on (live_spent p) (whole_spent p) machine s.plans (ask_waiting machine s w) reply live (follows.passes_on p) can answer in
            let after = answered reply on.whole mid rest (whole-after (whole_spent p) (live_spent p) machine s w ws whole reply live on)
            (subst (λ r. AsksInTurn on_live machine ws (passed_after reply (tray_of s.jobs w.sheet).0 passed) r mid rest last p') (live-after (whole_spent p) (live_spent p) machine s w ws whole reply live on answer) next) in
            let back = follows.asked p mid after.1.0.0 s.plans live (ask_waiting machine s w) reply can does' after.1.0.2 on in (
              after.0,
              (
                (
                  back.0,
                  (reply, (on.whole, (after.1.0.0, (rest, back.1, told ∙ ap (λ (first : List Record). first ++ rest) on.told, after.1.0.1)))),
                  back.2,
                ),
                after.1.1,
              ),
            )

pub asks-pass_on : {P Q : Type 0} (on_live : PlannerSteps P) (on_whole : PlannerSteps Q) (machine : Machine) (together : P → Q → Type 0) → AsksPassOn on_live on_whole machine together
asks-pass_on on_live on_whole machine together live_spent whole_spent s p records last p' q' follows goes legal floors lines asks =
    whole-asks on_live on_whole machine together live_spent whole_spent follows p' q' goes s.waiting [] s p records last (whole-all machine s lines legal floors) asks
