-- What a board refused can be named, and what names it is the close.
use Rattle.std.proofs.Common.{◌≡◌, ℕ, suc, ◌<◌, ◌≤◌, false, List, [], ◌∷◌, length, map, sym, ◌∙◌, ap, subst, arith, All, Option, Some, None, IsSomeAnd}
use Rattle.std.specs.Prelude.{ℤ, pos}
use Rattle.std.proofs.lemmas.List.{length-append, length-map}
use Rattle.std.proofs.lemmas.List.Elements.{All-append, All-cons, All-nil}
use Rattle.tp_base.specs.Readings.{Reading}
use Rattle.tp_base.specs.declared.edges.Edge.{Edge}
use Rattle.tp_base.specs.Net.{Net}
use Rattle.tp_bounds.specs.declared.tree.Close.{Close}
use Rattle.tp_bounds.specs.declared.tree.TreeRow.{TreeRow}
use Rattle.tp_machine.specs.declared.machine.Machine.{Machine}
use Rattle.tp_machine.proofs.MachineFacts.{is_machine}
use Rattle.tp_machine.specs.declared.parts.Face.TheVariants.{Front}
use Rattle.tp_schedule.specs.Answers.{IsAsked, kept_of}
use Rattle.tp_schedule.specs.Plans.{AreNamed}
use Rattle.tp_schedule.specs.Spots.{Ticks}
use Rattle.tp_schedule.specs.declared.parts.Ask.{Ask}
use Rattle.tp_constraints.specs.Nets.{IsBoardNet}
use Rattle.tp_constraints.specs.Numbers.{ticks_by}
use Rattle.tp_constraints.specs.Suffixes.{Suffix, SuffixTimes, suffix_low, with_stop}
use Rattle.tp_constraints.proofs.Solutions.{board_solutions}
use Rattle.tp_placing.specs.Boards.{BoardValue, suffix_after, suffix_of}
use Rattle.tp_placing.specs.Causes.{kind_of, limit_tag}
use Rattle.tp_placing.specs.Edges.{edge_of}
use Rattle.tp_placing.specs.Reasons.{HasEndReason, HasReason, IsEndReason, IsReason, with_limit}
use Rattle.tp_placing.specs.LoadedBoard.{AreFewSteps, IsNetOf, Stands, StandsOn, table_with}
use Rattle.tp_placing.specs.declared.causes.EdgeCause.TheVariants.{Limit}
use Rattle.tp_placing.proofs.StandFacts.{some-and}
use Rattle.tp_placing.proofs.TableFacts.{length-table}
use Rattle.tp_bound_laws.specs.Places.{Branch}
use Rattle.tp_bound_laws.specs.Once.{PassesOnce}
use Rattle.tp_bound_laws.specs.Short.{most_hops}
use Rattle.tp_bound_laws.specs.Trees.{close_look}
use Rattle.tp_bound_laws.specs.Trees.Look.{due}
use Rattle.tp_bound_make.specs.Closes.{ClosesEnd, ClosesRefused, ClosesStop, IsEndRefused, IsLimit, IsRefused}
use Rattle.tp_bound_make.specs.TellableReasons.{CanTell, IsTellable, IsTellableReason, IsToldReason}
use Rattle.tp_bound_make.proofs.EndCloses.{end-once, end-closes}
use Rattle.tp_bound_make.proofs.HopFacts.{before-limit, own-named, tellable}
use Rattle.tp_bound_make.proofs.LateCloses.{late-once, IsSetting, late-closes}
use Rattle.tp_bound_make.proofs.StopCloses.{stop-once, stop-closes}
use Rattle.tp_bound_make.proofs.TellFacts.{get-within}

few-kept : (kept steps : ℕ) (o : Option Suffix) → AreFewSteps kept o steps → kept ≤ 64
few-kept kept steps None h = h.1
few-kept kept steps (Some x) h = let m = h.1 in omega (arith, m)

module _ {N : Type 0} (reading : Reading N) (refutes : N → Net → Type 0) (machine : Machine) (b : BoardValue N) (stands : Stands reading b machine) (named : AreNamed b.plans) where
  on : StandsOn reading b machine stands.0
  on = stands.1

  -- the points of a network are few
  few-points : (ask : Ask) (x : Suffix) (n : Net) → length x.choices ≤ 64 → IsBoardNet machine b.plans ask x (table_with b.plans (suc (length x.choices))) n → length n.lows < most_hops
  few-points ask x n few is =
      let l = ap length is.lows in
      let m = length-map-low in
      let t = length-table b.plans (suc (length x.choices)) in
      let last = on.last in
      let most = on.few_points in
      let kept = few-kept (kept_of stands.0) (length b.steps) (suffix_after b.steps) on.now.few_steps in
      omega (arith, l, m, t, last, most, kept, few) where
        length-map-low : length (map (suffix_low machine b.plans ask x) (table_with b.plans (suc (length x.choices)))) ≡ length (table_with b.plans (suc (length x.choices)))
        length-map-low = length-map (table_with b.plans (suc (length x.choices))) (suffix_low machine b.plans ask x)

  ends-in : (ask : Ask) (x : Suffix) (n : Net) (k : ℕ) → length n.lows ≤ k → IsBoardNet machine b.plans ask x (table_with b.plans (suc (length x.choices))) n → All (λ (e : Edge). e.to.0 < k) n.edges
  ends-in ask x n k le is i d w =
      let e = is.edges i d w in
      let h = e.1 in
      let l = ap length is.lows in
      let m = length-map (table_with b.plans (suc (length x.choices))) (suffix_low machine b.plans ask x) in
      omega (arith, h, l, m, le)

  setting : (ask : Ask) (x : Branch) (lim : ℤ) (rows : List TreeRow) → IsLimit machine ask lim → IsSetting machine b.plans ask rows lim x b.causes
  setting ask x lim rows by = record { legal = on.loadable.legal; named = named; differ = (is_machine machine).resource_names.1; by = by }

  -- ---- a branch that goes on
  the-reason : (x : Suffix) → HasReason refutes machine b x → (ask : Ask) × (b.ask ≡ Some ask) × IsReason refutes b machine ask x
  the-reason x h = some-and b.ask (λ ask. IsReason refutes b machine ask x) h

  abbrev branch-of : Suffix → Branch
  branch-of x = record { depth = 0; first = record { loc = record { 0 = 0 }; up = Front; front_done = false; back_done = false }; x = x }

  pub late-tellable : (x : Suffix) → length x.choices ≤ 64 → HasReason refutes machine b x → IsTellableReason refutes machine b
  late-tellable x few h =
      let r = the-reason x h in
      let q : IsReason refutes b machine r.0 x = r.2 in
      record {
        net = q.net;
        shown = q.shown;
        edges = λ k d w. tellable machine b.plans r.0 (branch-of x) b.causes b.limit _ (own-named machine b.plans r.0 b.limit _ q.no_limit) (q.hops k d w);
        ends = ends-in r.0 x q.net (length q.net.lows) (omega arith) q.is_net;
        few = let f = few-points r.0 x q.net few q.is_net in omega (arith, f);
      }

  pub late-told : (close : Close) → IsToldReason refutes machine b close → ClosesRefused refutes machine b close
  late-told close told ask x lim asked refused by = (
    told.few,
    λ rows br head same. (
        let r : IsRefused refutes machine b br.x = subst (IsRefused refutes machine b) (sym same) refused in
        let q : IsReason refutes b machine ask br.x = subst (λ o. IsSomeAnd o (λ a. IsReason refutes b machine a br.x)) asked r.shown in
        late-closes machine b.plans ask rows lim br b.causes q.net q.shown.late b.limit told.proof close head (setting ask br lim rows by) r.going q.no_limit q.is_net q.hops q.shown.part (told.refuted q.shown.late q.shown.shown) told.tells),
    λ br same. (
        let r : IsRefused refutes machine b br.x = subst (IsRefused refutes machine b) (sym same) refused in
        let q : IsReason refutes b machine ask br.x = subst (λ o. IsSomeAnd o (λ a. IsReason refutes b machine a br.x)) asked r.shown in
        late-once machine b.plans ask [] lim br b.causes q.net q.shown.late b.limit told.proof close (setting ask br lim [] by) r.going q.no_limit q.is_net q.hops q.shown.part (told.refuted q.shown.late q.shown.shown) told.tells),
  )

  -- ---- an end
  pub end-tellable : (x : Suffix) (last : ℕ) → length x.choices ≤ 64 → HasEndReason refutes machine b x last → IsTellableReason refutes machine b
  end-tellable x last few h =
      let r = some-and b.ask (λ ask. IsEndReason refutes b machine ask x last) h in
      let q : IsEndReason refutes b machine r.0 x last = r.2 in
      let more = length-append q.net.lows (0 ∷ []) in
      let edge = edge_of q.end (record { 0 = length q.net.lows }) (pos 0) limit_tag in
      let ends = ends-in r.0 x q.net (length q.net.lows) (omega arith) q.is_net in
      let later = ends-in r.0 x q.net (length (with_limit q.net q.end last).lows) (omega (arith, more)) q.is_net in
      let below : length q.net.lows < length (with_limit q.net q.end last).lows = omega (arith, more) in
      record {
        net = with_limit q.net q.end last;
        shown = q.shown;
        edges = All-append (IsTellable machine b.plans b.causes b.limit) q.net.edges (edge ∷ [])
            (λ k d w. tellable machine b.plans r.0 (branch-of x) b.causes b.limit _ (before-limit machine b.plans r.0 b.limit (record { 0 = length q.net.lows }) _ q.limit (ends k d w)) (q.hops k d w))
            (All-cons (IsTellable machine b.plans b.causes b.limit) edge [] (record { tag = get-within b.causes limit_tag Limit q.limit_cause; can = subst (λ o. CanTell machine b.plans b.limit (record { 0 = length q.net.lows }) (kind_of b.plans o)) (sym q.limit_cause) tt })
            (All-nil (IsTellable machine b.plans b.causes b.limit)));
        ends = All-append (λ (e : Edge). e.to.0 < length (with_limit q.net q.end last).lows) q.net.edges (edge ∷ []) later
            (All-cons (λ (e : Edge). e.to.0 < length (with_limit q.net q.end last).lows) edge [] below (All-nil (λ (e : Edge). e.to.0 < length (with_limit q.net q.end last).lows)));
        few = let f = few-points r.0 x q.net few q.is_net in omega (arith, f, more);
      }

  pub end-told : (last : ℕ) (close : Close) → IsToldReason refutes machine b close → ClosesEnd refutes machine b last close
  end-told last close told ask x asked refused by = (
    told.few,
    λ rows br head same. (
        let r : IsEndRefused refutes machine b br.x last = subst (λ y. IsEndRefused refutes machine b y last) (sym same) refused in
        let q : IsEndReason refutes b machine ask br.x last = subst (λ o. IsSomeAnd o (λ a. IsEndReason refutes b machine a br.x last)) asked r.shown in
        end-closes machine b.plans ask rows br b.causes last q.net q.end (setting ask br (pos last) rows by) r.going q.limit_cause q.is_net q.hops q.is_end q.shown.late q.shown.part b.limit told.proof close head q.limit (told.refuted q.shown.late q.shown.shown) told.tells),
    λ br same. (
        let r : IsEndRefused refutes machine b br.x last = subst (λ y. IsEndRefused refutes machine b y last) (sym same) refused in
        let q : IsEndReason refutes b machine ask br.x last = subst (λ o. IsSomeAnd o (λ a. IsEndReason refutes b machine a br.x last)) asked r.shown in
        end-once machine b.plans ask [] br b.causes last q.net q.end (setting ask br (pos last) [] by) r.going q.limit_cause q.is_net q.hops q.is_end q.shown.late q.shown.part b.limit told.proof close q.limit (told.refuted q.shown.late q.shown.shown) told.tells),
  )

  -- ---- a stop
  record HasTicks (ask : Ask) (x : Suffix) : Type 0 where
    ticks : Ticks
    times : SuffixTimes machine b.plans ask x ticks

  times-of : (x : Suffix) → suffix_of b ≡ Some x → HasTicks stands.0 x
  times-of x carried =
      let n : IsNetOf machine b.plans stands.0 (Some x) (reading.net b.net) = subst (λ o. IsNetOf machine b.plans stands.0 o (reading.net b.net)) carried on.now.net in
      let least = on.now.solved in
      record { ticks = ticks_by (table_with b.plans (suc (length x.choices))) least.0; times = (board_solutions machine b.plans stands.0 x (table_with b.plans (suc (length x.choices))) (reading.net b.net) n least.0).0 least.1.solution }

  same-ask : (ask : Ask) → b.ask ≡ Some ask → stands.0 ≡ ask
  same-ask ask asked = let e : Some stands.0 ≡ Some ask = sym on.asked ∙ asked in ask-is stands.0 ask e where
    ask-is : (p q : Ask) → Some p ≡ Some q → p ≡ q
    ask-is p q e = cc

  pub stop-told : (close : Close) → IsToldReason refutes machine b close → ClosesStop refutes machine b close
  stop-told close told ask x lim asked refused flying some by = (
    told.few,
    λ rows br head same. (
        let mine = same-ask ask asked in
        let ticks : HasTicks ask x = subst (λ a. HasTicks a x) mine (times-of x refused.carried) in
        let q : IsReason refutes b machine ask (with_stop x) = subst (λ o. IsSomeAnd o (λ a. IsReason refutes b machine a (with_stop x))) asked refused.shown in
        let set = setting ask (record { depth = br.depth; first = br.first; x = with_stop x }) lim rows by in
        subst (λ y. close_look machine b.plans ask rows lim (record { branch = record { depth = br.depth; first = br.first; x = y }; span = None }) head close ≡ due []) (sym same)
        (stop-closes machine b.plans ask rows lim br.depth br.first x b.causes q.net q.shown.late set (subst (IsAsked machine b.plans) mine on.origin) flying some ticks.ticks ticks.times q.is_net q.hops q.shown.part b.limit told.proof close head q.no_limit
        (told.refuted q.shown.late q.shown.shown) told.tells)),
    λ br same. (
        let mine = same-ask ask asked in
        let ticks : HasTicks ask x = subst (λ a. HasTicks a x) mine (times-of x refused.carried) in
        let q : IsReason refutes b machine ask (with_stop x) = subst (λ o. IsSomeAnd o (λ a. IsReason refutes b machine a (with_stop x))) asked refused.shown in
        let set = setting ask (record { depth = br.depth; first = br.first; x = with_stop x }) lim [] by in
        subst (λ y. PassesOnce machine b.plans ask lim (record { branch = record { depth = br.depth; first = br.first; x = y }; span = None }) close) (sym same)
        (stop-once machine b.plans ask [] lim br.depth br.first x b.causes q.net q.shown.late set (subst (IsAsked machine b.plans) mine on.origin) flying some ticks.ticks ticks.times q.is_net q.hops q.shown.part b.limit told.proof close q.no_limit
        (told.refuted q.shown.late q.shown.shown) told.tells)),
  )
