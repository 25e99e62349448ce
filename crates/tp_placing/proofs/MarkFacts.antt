-- A board stands after a mark, and back at one.
use Rattle.std.proofs.Common.{◌≡◌, ℕ, suc, List, length, ◌+◌, ◌<◌, ◌≤◌, false, ap, sym, ◌∙◌, subst, inl, inr, All, Contains, Some}
use Rattle.std.specs.List.{slice_get}
use Rattle.tp_base.specs.Readings.{Reading}
use Rattle.tp_base.proofs.SliceFacts.{slice_get_end, slice_get_take}
use Rattle.tp_base.specs.declared.edges.PointId.{PointId}
use Rattle.tp_base.specs.Net.{Net}
use Rattle.tp_machine.specs.declared.machine.Machine.{Machine}
use Rattle.tp_schedule.specs.Answers.{IsAsked, KeepsHorizon, kept_of}
use Rattle.tp_schedule.specs.Spots.Spot.{own}
use Rattle.tp_schedule.specs.declared.parts.Ask.{Ask}
use Rattle.tp_schedule.specs.declared.parts.Plan.{Plan}
use Rattle.tp_constraints.specs.Laws.{IsLoadable}
use Rattle.tp_constraints.specs.Nets.{IsBoardNet}
use Rattle.tp_constraints.specs.Numbers.{table_of}
use Rattle.tp_constraints.specs.Suffixes.{Suffix, with_place}
use Rattle.tp_constraints.proofs.Lists.{contains-get, get-contains}
use Rattle.tp_placing.specs.Boards.{BoardValue, BoardContent, BoardUntouched, content_of, untouched_of, past_of}
use Rattle.tp_placing.specs.Causes.{ArePlain, IsNamedHop, limit_tag}
use Rattle.tp_placing.specs.Laws.{UntouchedKeepsEndReasons, UntouchedKeepsReasons, UntouchedKeepsReasonsUpTo, MarkKeeps, UndoKeeps}
use Rattle.tp_placing.specs.Reasons.{HasEndReason, HasReason, IsEndReason, IsReason, IsShown, with_limit}
use Rattle.tp_placing.specs.Settled.{AreSettled}
use Rattle.tp_placing.specs.LoadedBoard.{AreCaused, AreFirsts, IsAt, IsMadeFor, StandsOn, table_with}
use Rattle.tp_placing.specs.RefusedPlace.{HasReasonUpTo, IsPartReason}
use Rattle.tp_placing.specs.declared.causes.EdgeCause.TheVariants.{Limit}
use Rattle.tp_placing.proofs.StandFacts.{and-some, some-and}

module _ {N A : Type 0} (reading : Reading N) (untouched : N → A) where
  -- a net at which the board stands
  abbrev StandsIn : BoardValue N → Machine → Ask → BoardContent → Type 0
  StandsIn b m ask x = IsAt m b.plans ask x.steps x.net x.orders x.held × AreCaused m b.plans ask b.causes x.steps x.net

  now-in : (b : BoardValue N) (m : Machine) (ask : Ask) → StandsOn reading b m ask → StandsIn b m ask (content_of reading b)
  now-in b m ask s = (s.now, s.caused)

  before-in : (b : BoardValue N) (m : Machine) (ask : Ask) → StandsOn reading b m ask → (x : BoardContent) → Contains (past_of reading b) x → StandsIn b m ask x
  before-in b m ask s x c = (s.before x c, s.caused_before x c)

  -- where marks left the same alone, and the present net and each of the past such as the first board stands in
  stands-in : (a b : BoardValue N) (m : Machine) (ask : Ask) → untouched_of untouched b ≡ untouched_of untouched a → StandsOn reading a m ask → StandsIn a m ask (content_of reading b)
      → ((x : BoardContent) → Contains (past_of reading b) x → StandsIn a m ask x) → StandsOn reading b m ask
  stands-in a b m ask e s here before =
      let plans : a.plans ≡ b.plans = sym (ap (λ (x : BoardUntouched A). x.plans) e) in
      let firsts : a.firsts ≡ b.firsts = sym (ap (λ (x : BoardUntouched A). x.firsts) e) in
      let last : a.last ≡ b.last = sym (ap (λ (x : BoardUntouched A). x.last) e) in
      let floor = ap (λ (x : BoardUntouched A). x.floor) e in
      let horizon = ap (λ (x : BoardUntouched A). x.horizon) e in
      let asked = ap (λ (x : BoardUntouched A). x.ask) e in
      let causes : a.causes ≡ b.causes = sym (ap (λ (x : BoardUntouched A). x.causes) e) in
      let settled : b.settled ≡ a.settled = ap (λ (x : BoardUntouched A). x.settled) e in
      let made : a.made_for ≡ b.made_for = sym (ap (λ (x : BoardUntouched A). x.made_for) e) in
      record {
        made = subst (λ d. IsMadeFor d m) made s.made;
        asked = asked ∙ s.asked;
        floor = floor ∙ s.floor;
        horizon = horizon ∙ s.horizon;
        small_horizon = subst (λ h. h < 2147483648) (sym horizon) s.small_horizon;
        loadable = subst (IsLoadable m ask.now (λ _. false)) plans s.loadable;
        origin = subst (λ ps. IsAsked m ps ask) plans s.origin;
        last = ap (λ (p : PointId). p.0) (sym last) ∙ s.last ∙ ap (λ ps. length (table_of ps)) plans;
        firsts = subst (AreFirsts 0 b.plans) firsts (subst (λ ps. AreFirsts 0 ps a.firsts) plans s.firsts);
        few_points = subst (λ (p : PointId). p.0 + 65 ≤ 16641 + kept_of ask) last s.few_points;
        few_plans = subst (λ (ps : List Plan). length ps ≤ 256) plans s.few_plans;
        on_time = subst (KeepsHorizon m ask.now) plans s.on_time;
        now = subst (λ ps. IsAt m ps ask b.steps (reading.net b.net) b.orders.orders b.held) plans here.0;
        before = λ x c. subst (λ ps. IsAt m ps ask x.steps x.net x.orders x.held) plans (before x c).0;
        plain = subst ArePlain causes s.plain;
        caused = subst (λ cs. AreCaused m b.plans ask cs b.steps (reading.net b.net)) causes (subst (λ ps. AreCaused m ps ask a.causes b.steps (reading.net b.net)) plans here.1);
        caused_before = λ x c. subst (λ cs. AreCaused m b.plans ask cs x.steps x.net) causes (subst (λ ps. AreCaused m ps ask a.causes x.steps x.net) plans (before x c).1);
        settled = λ is. subst (AreSettled m ask.now) plans (s.settled (sym settled ∙ is));
      }

  pub mark_keeps : MarkKeeps reading untouched
  mark_keeps a b m same e more s =
      let now : StandsIn a m s.0 (content_of reading a) = now-in a m s.0 s.1 in (
        s.0,
        stands-in a b m s.0 e s.1 (subst (StandsIn a m s.0) (sym same) now) (λ x c.
            let g = get-contains (past_of reading b) x c in
            let at = ap (λ xs. slice_get xs g.0) (sym more) ∙ g.1 in
            elim (slice_get_end (past_of reading a) (content_of reading a) g.0 x at) [
              | inl old ↦ before-in a m s.0 s.1 x (contains-get (past_of reading a) g.0 x old)
              | inr new ↦ subst (StandsIn a m s.0) new.1 now
            ]),
      )

  pub undo_keeps : UndoKeeps reading untouched
  undo_keeps a b m k there e fewer s = (
    s.0,
    stands-in a b m s.0 e s.1 (before-in a m s.0 s.1 (content_of reading b) (contains-get (past_of reading a) k (content_of reading b) there)) (λ x c.
        let g = get-contains (past_of reading b) x c in
        let at = ap (λ xs. slice_get xs g.0) (sym fewer) ∙ g.1 in
        before-in a m s.0 s.1 x (contains-get (past_of reading a) g.0 x (slice_get_take k (past_of reading a) g.0 x at).1)),
  )

-- a board of which marks left the same alone shows the same of the last refusal
module _ {N A : Type 0} (untouched : N → A) (refutes : N → Net → Type 0) (refutes_by : (a b : N) (late : Net) → untouched a ≡ untouched b → refutes a late → refutes b late) (a b : BoardValue N) (e : untouched_of untouched b ≡ untouched_of untouched a) where
  plans-kept : a.plans ≡ b.plans
  plans-kept = sym (ap (λ (x : BoardUntouched A). x.plans) e)

  asked-kept : b.ask ≡ a.ask
  asked-kept = ap (λ (x : BoardUntouched A). x.ask) e

  causes-kept : a.causes ≡ b.causes
  causes-kept = sym (ap (λ (x : BoardUntouched A). x.causes) e)

  limit-kept : b.limit ≡ a.limit
  limit-kept = ap (λ (x : BoardUntouched A). x.limit) e

  shown-kept : (net : Net) → IsShown refutes a.net net → IsShown refutes b.net net
  shown-kept net s = record { late = s.late; shown = refutes_by a.net b.net s.late (sym (ap (λ (x : BoardUntouched A). x.net) e)) s.shown; part = s.part }

  net-kept : (m : Machine) (ask : Ask) (x : Suffix) (net : Net) → IsBoardNet m a.plans ask x (table_with a.plans (suc (length x.choices))) net → IsBoardNet m b.plans ask x (table_with b.plans (suc (length x.choices))) net
  net-kept m ask x net = subst (λ ps. IsBoardNet m ps ask x (table_with ps (suc (length x.choices))) net) plans-kept

  hops-kept : (m : Machine) (ask : Ask) (x : Suffix) (net : Net) → All (IsNamedHop m a.plans ask x a.causes) net.edges → All (IsNamedHop m b.plans ask x b.causes) net.edges
  hops-kept m ask x net h = subst (λ cs. All (IsNamedHop m b.plans ask x cs) net.edges) causes-kept (subst (λ ps. All (IsNamedHop m ps ask x a.causes) net.edges) plans-kept h)

  reason-kept : (m : Machine) (x : Suffix) → HasReason refutes m a x → HasReason refutes m b x
  reason-kept m x h =
      let s = some-and a.ask (λ ask. IsReason refutes a m ask x) h in
      let r = s.2 in
      and-some b.ask s.0 (λ ask. IsReason refutes b m ask x) (asked-kept ∙ s.1)
      (record {
        net = r.net;
        is_net = net-kept m s.0 x r.net r.is_net;
        hops = hops-kept m s.0 x r.net r.hops;
        no_limit = limit-kept ∙ r.no_limit;
        shown = shown-kept r.net r.shown;
      })

  reasons-kept : (m : Machine) (place : ℕ) (x : Suffix) → HasReasonUpTo refutes m a place x → HasReasonUpTo refutes m b place x
  reasons-kept m place x h =
      let s = some-and a.ask (λ ask. (earlier : ℕ) → earlier ≤ place → IsPartReason refutes a m ask (with_place earlier x)) h in
      and-some b.ask s.0 (λ ask. (earlier : ℕ) → earlier ≤ place → IsPartReason refutes b m ask (with_place earlier x)) (asked-kept ∙ s.1)
      (λ earlier le.
      let r = s.2 earlier le in
      record {
        net = r.net;
        is_net = net-kept m s.0 (with_place earlier x) r.net r.is_net;
        late = r.late;
        part = r.part;
        hops = hops-kept m s.0 (with_place earlier x) r.late r.hops;
        no_limit = limit-kept ∙ r.no_limit;
        shown = refutes_by a.net b.net r.late (sym (ap (λ (y : BoardUntouched A). y.net) e)) r.shown;
      })

  end-reason-kept : (m : Machine) (x : Suffix) (last : ℕ) → HasEndReason refutes m a x last → HasEndReason refutes m b x last
  end-reason-kept m x last h =
      let s = some-and a.ask (λ ask. IsEndReason refutes a m ask x last) h in
      let r = s.2 in
      and-some b.ask s.0 (λ ask. IsEndReason refutes b m ask x last) (asked-kept ∙ s.1)
      (record {
        net = r.net;
        is_net = net-kept m s.0 x r.net r.is_net;
        hops = hops-kept m s.0 x r.net r.hops;
        end = r.end;
        is_end = subst (λ ps. slice_get (table_with ps (suc (length x.choices))) r.end.0 ≡ Some (own 0)) plans-kept r.is_end;
        limit = limit-kept ∙ r.limit;
        limit_cause = subst (λ cs. slice_get cs limit_tag ≡ Some Limit) causes-kept r.limit_cause;
        shown = shown-kept (with_limit r.net r.end last) r.shown;
      })

pub keep_reasons : {N A : Type 0} (untouched : N → A) (refutes : N → Net → Type 0) → ((a b : N) (late : Net) → untouched a ≡ untouched b → refutes a late → refutes b late) → UntouchedKeepsReasons untouched refutes
keep_reasons untouched refutes refutes_by a b m x e = reason-kept untouched refutes refutes_by a b e m x

pub keep_reasons_up_to : {N A : Type 0} (untouched : N → A) (refutes : N → Net → Type 0) → ((a b : N) (late : Net) → untouched a ≡ untouched b → refutes a late → refutes b late) → UntouchedKeepsReasonsUpTo untouched refutes
keep_reasons_up_to untouched refutes refutes_by a b m place x e = reasons-kept untouched refutes refutes_by a b e m place x

pub keep_end_reasons : {N A : Type 0} (untouched : N → A) (refutes : N → Net → Type 0) → ((a b : N) (late : Net) → untouched a ≡ untouched b → refutes a late → refutes b late) → UntouchedKeepsEndReasons untouched refutes
keep_end_reasons untouched refutes refutes_by a b m x last e = end-reason-kept untouched refutes refutes_by a b e m x last
