-- A module that goes out keeps what is kept through outages: the outage, the answers and the settling keep what holds in its midst.
use Rattle.std.proofs.Common.{◌≡◌, ℕ, ◌≤◌, Bool, true, false, ◌&&◌, not, List, [], map, length, refl, sym, ap, ◌∙◌, arith, All, Contains, subst, nat_le, None}
use Rattle.std.proofs.lemmas.Bool.Decides.{nat_tests}
use Rattle.std.proofs.lemmas.Bool.{and_parts}
use Rattle.std.proofs.lemmas.List.Elements.{All-contains}
use Rattle.tp_machine.specs.declared.machine.Machine.{Machine}
use Rattle.tp_schedule.proofs.Membership.{Contains-map, Contains-map_from, All-from_contains}
use Rattle.tp_schedule.specs.Answers.{IsRetimed, unmoved}
use Rattle.tp_schedule.specs.PlannerAnswers.{Deed, none_exempt}
use Rattle.tp_schedule.specs.PlannerAnswers.Deed.{settled}
use Rattle.tp_schedule.specs.Plans.{is_front}
use Rattle.tp_schedule.specs.declared.parts.Ask.{Ask}
use Rattle.tp_schedule.specs.declared.parts.Plan.{Plan}
use Rattle.tp_schedule.specs.declared.records.Record.{Record}
use Rattle.tp_event_rules.specs.Lines.{is_lost}
use Rattle.tp_event_rules.specs.Loops.{after_answers, next_ask}
use Rattle.tp_event_rules.specs.Outages.{outage}
use Rattle.tp_event_rules.specs.Planners.{IsRight, PlannerSteps, GoesOut}
use Rattle.tp_event_rules.specs.States.{SessionState}
use Rattle.tp_event_rules.proofs.SameMoment.{now-answers}
use Rattle.tp_event_rules.specs.StateInvariants.{total_of, KeepsLines, KeepsSheets, is_sheet_of, open_copies, IsOlder}
use Rattle.tp_outage_laws.proofs.Falls.{Falls, none_breaks, HasSheets, Outset, outset_of}
use Rattle.tp_outage_laws.proofs.OutageFalls.{falls-outage}
use Rattle.tp_outage_laws.proofs.SettledFalls.{falls-settled}
use Rattle.tp_outage_laws.proofs.Settles.{settles-lines, settles-sheets, settles}
use Rattle.tp_outage_laws.proofs.FromCopies.{copies-fall}
use Rattle.tp_outage_laws.proofs.Starts.{starts}
use Rattle.tp_outage_laws.proofs.AnswerFalls.{answers-keep, none-loose}
use Rattle.tp_outage_laws.proofs.JobFacts.{same-length, unbroken}
use Rattle.tp_outage_laws.specs.Through.{KeepsCopies, KeepsOrder, KeepsThrough}

pub through : (machine : Machine) (totals : List ℕ) (s : SessionState) → KeepsOrder machine totals s → KeepsThrough machine s
through machine totals s k = record { jobs = k.jobs; plans = k.plans; lines = k.lines; broken = k.broken; older = k.sheets.older; purges = k.purges }

lost-then : (a b : Bool) → (a && not b) ≡ false → a ≡ true → b ≡ true
lost-then true true e f = refl
lost-then true false e f = absurd (cc)
lost-then false b e f = absurd (cc)

-- every number is a sheet, and none must have a copy: what a state that has forgotten what is past keeps
abbrev pub any_outset : SessionState → Outset
any_outset s = outset_of s (λ job number. true) (λ job. true)

pub any-sheets : (s : SessionState) → HasSheets (any_outset s) s
any-sheets s = record { waiting = λ w in'. refl; planned = λ p in'. refl; each = λ job number known whole wanted. absurd (cc) }

-- the sheets of a whole state
abbrev pub whole_outset : List ℕ → SessionState → Outset
whole_outset totals s = outset_of s (λ job number. nat_le 1 number && nat_le number (total_of totals job)) (λ job. false)

whole-sheets : (totals : List ℕ) (s : SessionState) → KeepsSheets totals s → HasSheets (whole_outset totals s) s
whole-sheets totals s k = record {
  waiting = λ w in'. All-contains (λ w. is_sheet_of totals w.sheet ≡ true) s.waiting w k.waiting_sheets in';
  planned = λ p in'. All-contains (λ p. is_sheet_of totals p.sheet ≡ true) s.plans p k.planned_sheets in';
  each = λ job number known whole wanted.
      let parts = and_parts (nat_le 1 number) (nat_le number (total_of totals job)) wanted in
      k.each job number known whole (low 1 number parts.0) (low number (total_of totals job) parts.1);
} where
  low : (a b : ℕ) → nat_le a b ≡ true → a ≤ b
  low a b e = grind (arith, nat_tests)

-- sheets that were kept before are kept after
sheets-whole : (totals : List ℕ) (s s' : SessionState) → length totals ≡ length s.jobs → map unbroken s'.jobs ≡ map unbroken s.jobs → HasSheets (whole_outset totals s) s'
    → All (λ p. All (IsOlder p) (open_copies s')) s'.plans → KeepsSheets totals s'
sheets-whole totals s s' known same h older = record {
  known = known ∙ sym (same-length s.jobs s'.jobs same);
  each = λ job number here whole first last.
      let long = same-length s.jobs s'.jobs same in
      h.each job number (omega arith) whole (both number (total_of totals job) first last);
  waiting_sheets = All-from_contains (λ w. is_sheet_of totals w.sheet ≡ true) s'.waiting h.waiting;
  planned_sheets = All-from_contains (λ p. is_sheet_of totals p.sheet ≡ true) s'.plans h.planned;
  older = older;
} where
  both : (k n : ℕ) → 1 ≤ k → k ≤ n → (nat_le 1 k && nat_le k n) ≡ true
  both k n first last = grind (arith, nat_tests)

module _ {P : Type 0} (steps : PlannerSteps P) (machine : Machine) (spent : P → Machine → List Plan → Ask → ℕ → Type 0)
    (right : (p : P) (plans : List Plan) (deed : Deed) (plans' : List Plan) (p' : P) → steps.does p plans deed plans' p' → IsRight (spent p) machine plans deed plans') where
  -- after the settling no copy is loose
  none-left : (s : SessionState) (plans : List Plan) → next_ask machine s ≡ None → map unmoved plans ≡ map unmoved s.plans → (q : Plan) → Contains plans q → is_front q.kind ≡ true → is_lost s q ≡ true
  none-left s plans none same q in' front =
      let m = Contains-map_from unmoved s.plans (unmoved q) (subst (λ l. Contains l (unmoved q)) same (Contains-map unmoved plans q in')) in
      lost-then (is_front q.kind) (is_lost s q) (ap (λ (x : Plan). is_front x.kind && not (is_lost s x)) m.2 ∙ none-loose machine s none m.0 m.1) front

  -- what the answers and the settling keep beside, they keep together
  pub falls-goes : (base : Outset) (s : SessionState) (m : ℕ) (jam : Bool) (p : P) (records : List Record) (s' : SessionState) (p' : P) → GoesOut steps machine s m jam p records s' p' → Falls machine base none_breaks s []
      → Falls machine base none_breaks s' [] × ((q : Plan) → Contains s'.plans q → is_front q.kind ≡ true → is_lost s' q ≡ true)
  falls-goes base s m jam p records s' p' out f =
      let o = outage machine m jam s in
      let loop = out.loop in
      let t = (after_answers machine loop.answers o.state).state in
      let after = (answers-keep steps machine spent right base (λ u. Unit {0}) (λ u a ask q q' e does g k. tt) o.state loop.answers p loop.mid loop.in_turn (falls-outage machine base m jam s f) tt).0 in
      let settled = right loop.mid t.plans (settled o.state.now) loop.plans p' loop.settles in
      let retimed = subst (λ n. IsRetimed machine n none_exempt t.plans loop.plans) (sym (now-answers machine loop.answers o.state)) settled.retimed in
      subst (λ (u : SessionState). Falls machine base none_breaks u [] × ((q : Plan) → Contains u.plans q → is_front q.kind ≡ true → is_lost u q ≡ true)) (sym loop.state)
      (falls-settled machine base t after loop.plans retimed, λ q in' front. none-left t loop.plans loop.none_loose retimed.same q in' front)

  pub lines-go : (s : SessionState) (m : ℕ) (jam : Bool) (p : P) (records : List Record) (s' : SessionState) (p' : P) → GoesOut steps machine s m jam p records s' p' → KeepsCopies machine s → KeepsLines s'
  lines-go s m jam p records s' p' out k =
      let g = falls-goes (any_outset s) s m jam p records s' p' out (copies-fall machine s k (λ job number. true) (λ job. true) (any-sheets s)) in
      settles-lines machine (any_outset s) s' g.0 g.1

  pub through-goes : (s : SessionState) (m : ℕ) (jam : Bool) (p : P) (records : List Record) (s' : SessionState) (p' : P) → GoesOut steps machine s m jam p records s' p' → KeepsThrough machine s → KeepsThrough machine s'
  through-goes s m jam p records s' p' out k =
      let g = falls-goes (any_outset s) s m jam p records s' p' out (starts machine s k (λ job number. true) (λ job. true) (any-sheets s)) in
      settles machine (any_outset s) s' g.0 g.1 k.jobs

  pub order-goes : (totals : List ℕ) (s : SessionState) (m : ℕ) (jam : Bool) (p : P) (records : List Record) (s' : SessionState) (p' : P) → GoesOut steps machine s m jam p records s' p'
      → KeepsOrder machine totals s → KeepsOrder machine totals s'
  order-goes totals s m jam p records s' p' out k =
      let g = falls-goes (whole_outset totals s) s m jam p records s' p' out
      (starts machine s (through machine totals s k) (λ job number. nat_le 1 number && nat_le number (total_of totals job)) (λ job. false) (whole-sheets totals s k.sheets)) in
      let kept = settles machine (whole_outset totals s) s' g.0 g.1 k.jobs in
      record {
        jobs = kept.jobs;
        plans = kept.plans;
        lines = kept.lines;
        sheets = sheets-whole totals s s' k.sheets.known g.0.same (settles-sheets machine (whole_outset totals s) s' g.0 g.1) kept.older;
        broken = kept.broken;
        purges = kept.purges;
      }
