-- The phase of asks keeps what is kept between events.
use Rattle.std.proofs.Common.{◌≡◌, ℕ, ◌-◌, ◌⊎◌, inl, inr, Bool, true, false, ◌||◌, not, List, [], ◌∷◌, refl, sym, arith, All, AllPairs, Contains, IsTrue, subst, ◌==◌}
use Rattle.std.specs.Bool.{MatchBool}
use Rattle.std.specs.List.{list_any}
use Rattle.std.proofs.lemmas.Bool.{not_from_false}
use Rattle.std.proofs.lemmas.Bool.Decides.{nat_tests}
use Rattle.std.proofs.lemmas.List.Elements.{All-head, All-tail, All-contains, All-contains_itself}
use Rattle.tp_machine.specs.declared.machine.Machine.{Machine}
use Rattle.tp_jobs.specs.declared.parts.WaitingCopy.{WaitingCopy}
use Rattle.tp_jobs.specs.Backlogs.{tray_of}
use Rattle.tp_jobs.specs.WaitingCopies.{without_waiting}
use Rattle.tp_schedule.specs.PlannerAnswers.{Deed, IsAnswer}
use Rattle.tp_schedule.specs.PlannerAnswers.Deed.{replied}
use Rattle.tp_schedule.specs.Plans.{is_before, is_same_copy}
use Rattle.tp_schedule.specs.declared.parts.Ask.{Ask}
use Rattle.tp_schedule.specs.declared.parts.Plan.{Plan}
use Rattle.tp_schedule.specs.declared.parts.Reply.{Reply}
use Rattle.tp_schedule.specs.declared.parts.Reply.TheVariants.{Planned, Never, Spent}
use Rattle.tp_schedule.specs.declared.records.Record.{Record}
use Rattle.tp_schedule.proofs.CopyFacts.{before-not_same', same_copy-refl}
use Rattle.tp_schedule.proofs.Membership.{All-from_contains, Contains-cons_cases, Contains-filter, Contains-filter_from}
use Rattle.tp_schedule.proofs.Pairs.{AllPairs-head, AllPairs-tail}
use Rattle.tp_event_rules.specs.AskPhase.{AsksInTurn, ask_waiting, is_full, is_passed_over, passed_after, state_after_reply}
use Rattle.tp_event_rules.specs.StateInvariants.{KeepsLines, KeepsState}
use Rattle.tp_event_rules.specs.Lines.{is_same_line}
use Rattle.tp_event_rules.specs.Planners.{PlannerSteps, IsRight}
use Rattle.tp_event_rules.specs.States.{SessionState}
use Rattle.tp_event_rules.proofs.AskSteps.{AsksFirst, TellsFull}
use Rattle.tp_event_rules.proofs.AskedFacts.{IsAskedFirst}
use Rattle.tp_event_rules.proofs.AskedKept.{plans-asked}
use Rattle.tp_event_rules.proofs.AskedLines.{planned_waiting, lines-asked}
use Rattle.tp_event_rules.proofs.AskedSheets.{sheets-asked}

-- the copies that are still to be taken: they wait, and stand in order; of the others that wait the lines are passed over
pub record IsRest (s : SessionState) (passed : List ℕ) (rest : List WaitingCopy) : Type 0 where
  pub wait : All (Contains s.waiting) rest
  pub in_order : AllPairs (λ v w. IsTrue (is_before v.sheet w.sheet)) rest
  pub others : (v : WaitingCopy) → Contains s.waiting v → Contains rest v ⊎ (is_passed_over s passed v ≡ true)

pub rest-tail : (s : SessionState) (passed : List ℕ) (w : WaitingCopy) (ws : List WaitingCopy) → is_passed_over s passed w ≡ true → IsRest s passed (w ∷ ws) → IsRest s passed ws
rest-tail s passed w ws over r = record {
  wait = All-tail (Contains s.waiting) w ws r.wait;
  in_order = AllPairs-tail (λ v w. IsTrue (is_before v.sheet w.sheet)) w ws r.in_order;
  others = λ v in'. elim (r.others v in') [
    | inl here ↦ elim (Contains-cons_cases w ws v here) [
      | inl is ↦ inr (subst (λ u. is_passed_over s passed u ≡ true) is over)
      | inr later ↦ inl later
    ]
    | inr before ↦ inr before
  ];
}

or-more : (b c : Bool) → c ≡ true → (b || c) ≡ true
or-more true c e = refl
or-more false c e = e

-- one line more is passed over
rest-passed : (s : SessionState) (passed : List ℕ) (tray : ℕ) (ws : List WaitingCopy) → IsRest s passed ws → IsRest s (tray ∷ passed) ws
rest-passed s passed tray ws r = record {
  wait = r.wait;
  in_order = r.in_order;
  others = λ v in'. elim (r.others v in') [
    | inl here ↦ inl here
    | inr before ↦ inr (or-more ((tray_of s.jobs v.sheet).0 == tray) (is_passed_over s passed v) before)
  ];
}

own-passed : (s : SessionState) (passed : List ℕ) (w : WaitingCopy) → is_passed_over s ((tray_of s.jobs w.sheet).0 ∷ passed) w ≡ true
own-passed s passed w = let e : ((tray_of s.jobs w.sheet).0 == (tray_of s.jobs w.sheet).0) ≡ true = grind (arith, nat_tests) in rw e refl

pub rest-refused : (s : SessionState) (passed : List ℕ) (w : WaitingCopy) (ws : List WaitingCopy) → IsRest s passed (w ∷ ws) → IsRest s ((tray_of s.jobs w.sheet).0 ∷ passed) ws
rest-refused s passed w ws r =
    rest-tail s ((tray_of s.jobs w.sheet).0 ∷ passed) w ws (own-passed s passed w) (rest-passed s passed (tray_of s.jobs w.sheet).0 (w ∷ ws) r)

not-both : (b : Bool) → b ≡ true → not b ≡ true → ⊥
not-both true e f = cc
not-both false e f = cc

-- a copy of another line, or one that is planned
pub rest-planned : (s : SessionState) (passed : List ℕ) (w : WaitingCopy) (ws : List WaitingCopy) (plans : List Plan) → IsRest s passed (w ∷ ws) → IsRest (planned_waiting s w plans) passed ws
rest-planned s passed w ws plans r = record {
  wait = All-from_contains (Contains (without_waiting w.sheet s.waiting)) ws (λ v in'.
      let before : is_before w.sheet v.sheet ≡ true = All-contains (λ v. IsTrue (is_before w.sheet v.sheet)) ws v (AllPairs-head (λ v w. IsTrue (is_before v.sheet w.sheet)) w ws r.in_order) in' in
      Contains-filter (λ v. not (is_same_copy v.sheet w.sheet)) s.waiting v (All-contains (Contains s.waiting) ws v (All-tail (Contains s.waiting) w ws r.wait) in')
      (not_from_false (is_same_copy v.sheet w.sheet) (before-not_same' w.sheet v.sheet before)));
  in_order = AllPairs-tail (λ v w. IsTrue (is_before v.sheet w.sheet)) w ws r.in_order;
  others = λ v in'.
      let from = Contains-filter_from (λ v. not (is_same_copy v.sheet w.sheet)) s.waiting v in' in
      elim (r.others v from.0) [
        | inl here ↦ elim (Contains-cons_cases w ws v here) [
          | inl is ↦ absurd (let same = same_copy-refl w.sheet in let again : is_same_copy v.sheet w.sheet ≡ true = subst (λ (u : WaitingCopy). is_same_copy u.sheet w.sheet ≡ true) is same in not-both (is_same_copy v.sheet w.sheet) again from.1)
          | inr later ↦ inl later
        ]
        | inr before ↦ inr before
      ];
}

-- the copy that is taken is the first of its line
pub first-of_line : (machine : Machine) (s : SessionState) (passed : List ℕ) (w : WaitingCopy) (ws : List WaitingCopy) → is_passed_over s passed w ≡ false → IsRest s passed (w ∷ ws)
    → (v : WaitingCopy) → Contains s.waiting v → is_same_line s.jobs v.sheet w.sheet ≡ true → is_same_copy v.sheet w.sheet ≡ false → is_before w.sheet v.sheet ≡ true
first-of_line machine s passed w ws not_over r v in' same other = elim (r.others v in') [
  | inl here ↦ elim (Contains-cons_cases w ws v here) [
    | inl is ↦ absurd (let own = same_copy-refl w.sheet in let again : is_same_copy v.sheet w.sheet ≡ true = subst (λ (u : WaitingCopy). is_same_copy u.sheet w.sheet ≡ true) is own in cc)
    | inr later ↦ All-contains (λ v. IsTrue (is_before w.sheet v.sheet)) ws v (AllPairs-head (λ v w. IsTrue (is_before v.sheet w.sheet)) w ws r.in_order) later
  ]
  | inr over ↦ absurd (
      let trays : (tray_of s.jobs v.sheet).0 ≡ (tray_of s.jobs w.sheet).0 = grind (arith, nat_tests) in
      let again : is_passed_over s passed w ≡ true = subst (λ n. list_any (λ t. n == t) passed ≡ true) trays over in cc)
]

module _ {P : Type 0} (steps : PlannerSteps P) (machine : Machine) (spent : P → Machine → List Plan → Ask → ℕ → Type 0)
    (right : (p : P) (plans : List Plan) (deed : Deed) (plans' : List Plan) (p' : P) → steps.does p plans deed plans' p' → IsRight (spent p) machine plans deed plans') where
  -- a copy that is planned
  kept-planned : (totals : List ℕ) (p : P) (s : SessionState) (passed : List ℕ) (w : WaitingCopy) (ws : List WaitingCopy) (plans : List Plan) → IsAnswer (spent p) machine s.plans (ask_waiting machine s w) Planned plans
      → is_passed_over s passed w ≡ false → is_full machine s ≡ false → IsRest s passed (w ∷ ws) → KeepsState machine totals s → KeepsState machine totals (planned_waiting s w plans)
  kept-planned totals p s passed w ws plans answer not_over free r kept =
      let f : IsAskedFirst machine s w plans = record { a = answer.0.alternative; keeps = kept.lines; here = All-head (Contains s.waiting) w ws r.wait; behind = first-of_line machine s passed w ws not_over r } in
      record { jobs = kept.jobs; plans = plans-asked machine s w plans f kept.plans free; lines = lines-asked machine s w plans f; sheets = sheets-asked machine s w plans f totals kept.sheets }

  kept-reply : (totals : List ℕ) (p : P) (s : SessionState) (passed : List ℕ) (w : WaitingCopy) (ws : List WaitingCopy) (reply : Reply) (plans : List Plan) → IsAnswer (spent p) machine s.plans (ask_waiting machine s w) reply plans
      → is_passed_over s passed w ≡ false → is_full machine s ≡ false → IsRest s passed (w ∷ ws)
      → IsRest (state_after_reply s w reply plans) (passed_after reply (tray_of s.jobs w.sheet).0 passed) ws
      × (KeepsState machine totals s → KeepsState machine totals (state_after_reply s w reply plans))
  kept-reply totals p s passed w ws Planned plans answer not_over free r =
      (rest-planned s passed w ws plans r, kept-planned totals p s passed w ws plans answer not_over free r)
  kept-reply totals p s passed w ws Never plans answer not_over free r = (rest-refused s passed w ws r, λ kept. kept)
  kept-reply totals p s passed w ws (Spent bound) plans answer not_over free r = (rest-refused s passed w ws r, λ kept. kept)

  pub kept-asks : (totals : List ℕ) (waiting : List WaitingCopy) (passed : List ℕ) (s : SessionState) (p : P) (records : List Record) (s' : SessionState) (p' : P)
      → AsksInTurn steps machine waiting passed s p records s' p' → IsRest s passed waiting
      → KeepsState machine totals s → KeepsState machine totals s'
  kept-asks totals [] passed s p records s' p' (told, is, same) r =
      λ kept. subst (KeepsState machine totals) (sym is) kept
  kept-asks totals (w ∷ waiting) passed s p records s' p' asks r =
      go (is_passed_over s passed w) refl (is_full machine s) refl asks
      (λ next over. kept-asks totals waiting passed s p records s' p' next (rest-tail s passed w waiting over r))
      (λ rest next. kept-asks totals waiting ((tray_of s.jobs w.sheet).0 ∷ passed) s p rest s' p' next (rest-refused s passed w waiting r))
      (λ reply plans mid rest next rest'. kept-asks totals waiting (passed_after reply (tray_of s.jobs w.sheet).0 passed) (state_after_reply s w reply plans) mid rest s' p' next rest') where
        Leads : SessionState → Type 0
        Leads q = KeepsState machine totals q → KeepsState machine totals s'

        go : (b : Bool) → is_passed_over s passed w ≡ b → (c : Bool) → is_full machine s ≡ c → MatchBool b (AsksInTurn steps machine waiting passed s p records s' p')
            (MatchBool c (TellsFull steps machine w waiting passed s p records s' p') (AsksFirst steps machine w waiting passed s p records s' p'))
            → (AsksInTurn steps machine waiting passed s p records s' p' → is_passed_over s passed w ≡ true → Leads s)
            → ((rest : List Record) → AsksInTurn steps machine waiting ((tray_of s.jobs w.sheet).0 ∷ passed) s p rest s' p' → Leads s)
            → ((reply : Reply) (plans : List Plan) (mid : P) (rest : List Record)
            → AsksInTurn steps machine waiting (passed_after reply (tray_of s.jobs w.sheet).0 passed) (state_after_reply s w reply plans) mid rest s' p'
            → IsRest (state_after_reply s w reply plans) (passed_after reply (tray_of s.jobs w.sheet).0 passed) waiting → Leads (state_after_reply s w reply plans))
            → Leads s
        go true e c g next over full answered = over next e
        go false e true g (rest, told, next) over full answered = full rest next
        go false e false g (reply, (plans, (mid, (rest, does, told, next)))) over full answered =
            let step = kept-reply totals p s passed w waiting reply plans (right p s.plans (replied (ask_waiting machine s w) reply) plans mid does) e g r in
            λ kept. answered reply plans mid rest next step.0 (step.1 kept)

  -- at the beginning all that wait are to be taken
  pub rest-all : (s : SessionState) → KeepsLines s → IsRest s [] s.waiting
  rest-all s lines = record { wait = All-contains_itself s.waiting; in_order = lines.in_order; others = λ v in'. inl in' }
