-- Hops along durations and lines are allowed as they are named, and so each hop is.
use Rattle.std.proofs.Common.{◌≡◌, ℕ, zero, suc, ◌≤◌, Bool, true, false, cond, not, ◌==◌, List, [], ◌∷◌, length, refl, sym, ◌∙◌, ap, subst, arith, AllPairs, Contains, Some, None}
use Rattle.std.specs.Prelude.{pos, neg_ℤ, option_map}
use Rattle.std.proofs.lemmas.Bool.{eqb-true, and_parts, and_from}
use Rattle.std.proofs.lemmas.Option.{slice_get_within}
use Rattle.std.proofs.lemmas.List.{length-reverse}
use Rattle.tp_bounds.specs.declared.hops.Hop.{Hop as TreeHop}
use Rattle.tp_bounds.specs.declared.hops.Hop.TheVariants.{Duration, Line}
use Rattle.tp_machine.specs.declared.parts.Action.{Action}
use Rattle.tp_machine.specs.declared.machine.Machine.{Machine}
use Rattle.tp_schedule.specs.Plans.{IsEarlier, goes_to, is_before, is_delivered_to, is_front}
use Rattle.tp_schedule.specs.Spots.{Spot}
use Rattle.tp_schedule.specs.Spots.Spot.{kept, own}
use Rattle.tp_schedule.specs.declared.parts.Ask.{Ask}
use Rattle.tp_schedule.specs.declared.parts.Goal.{Goal}
use Rattle.tp_schedule.specs.declared.parts.Goal.TheVariants.{Tray, Purge}
use Rattle.tp_schedule.specs.declared.parts.Plan.{Plan}
use Rattle.tp_schedule.proofs.CopyFacts.{plan_of-itself}
use Rattle.tp_schedule.proofs.Membership.{flat_map-from}
use Rattle.tp_constraints.specs.Gaps.{Gap, IsPoint, end_spot, gap, is_in_line, is_same_line}
use Rattle.tp_constraints.specs.Hops.{IsRun}
use Rattle.tp_constraints.specs.Hops.IsHop.{by_end, by_least, by_line, by_most, by_order, by_stop}
use Rattle.tp_constraints.specs.Hops.IsRun.{kept_run, own_run}
use Rattle.tp_constraints.specs.Suffixes.{end_gap, end_gaps}
use Rattle.tp_bound_laws.specs.Chains.{Arrival, arrival_at, arrival_in, arrival_of, gap_of, line_gap}
use Rattle.tp_bound_laws.specs.Places.{Branch}
use Rattle.tp_bound_laws.specs.Told.{HopsAreAllowed, told}
use Rattle.tp_bound_laws.proofs.AllowedHops.{least-told, most-told, named-point}
use Rattle.tp_bound_laws.proofs.AllowedOrderHops.{order-allowed}
use Rattle.tp_bound_laws.proofs.Lists.{number-same}

-- ---- lines
module _ (ask : Ask) (plans : List Plan) (in_order : AllPairs IsEarlier plans) where
  arrival-plan : (p : Plan) (t : ℕ) → Contains plans p → not (is_front p.kind) ≡ true → goes_to p.goal t ≡ true → arrival_of ask plans (end_spot p) ≡ Some (record { copy = p.sheet; tray = t })
  arrival-plan p t in' whole to =
      let n = number-same (length p.acts) in
      ap (arrival_in (length p.acts)) (plan_of-itself plans p in_order in') ∙ rw (whole, n) (by-goal p.goal to) where
        by-goal : (g : Goal) → goes_to g t ≡ true → arrival_at p.sheet g ≡ Some (record { copy = p.sheet; tray = t })
        by-goal (Tray k) e = let same : k.0 ≡ t = eqb-true k.0 t e in ap (λ m. Some (record { copy = p.sheet; tray = m })) same
        by-goal Purge e = absurd cc

  arrival-ask : (t : ℕ) → goes_to ask.goal t ≡ true → arrival_of ask plans (own 0) ≡ Some (record { copy = ask.sheet; tray = t })
  arrival-ask t to = by-goal ask.goal to where
    by-goal : (g : Goal) → goes_to g t ≡ true → arrival_at ask.sheet g ≡ Some (record { copy = ask.sheet; tray = t })
    by-goal (Tray k) e = let same : k.0 ≡ t = eqb-true k.0 t e in ap (λ m. Some (record { copy = ask.sheet; tray = m })) same
    by-goal Purge e = absurd cc

  next : (from to : Spot) (a b : Arrival) → arrival_of ask plans from ≡ Some a → arrival_of ask plans to ≡ Some b → a.tray ≡ b.tray → is_before a.copy b.copy ≡ true → line_gap ask plans from to ≡ Some (gap from to (pos 1))
  next from to a b x y tray before =
      let n : (a.tray == b.tray) ≡ true = subst (λ k. (a.tray == k) ≡ true) tray (number-same a.tray) in
      let t = and_from (a.tray == b.tray) (is_before a.copy b.copy) n before in
      rw (x, y) (rw t refl)

  goal-of : (g : Goal) (q : Plan) → is_in_line g q ≡ true → (t : ℕ) × (goes_to g t ≡ true) × (is_delivered_to q t ≡ true)
  goal-of (Tray t) q e = (t.0, number-same t.0, e)
  goal-of Purge q e = absurd cc

  pub line-told : (p q : Plan) → Contains plans p → Contains plans q → is_before p.sheet q.sheet ≡ true → is_same_line p q ≡ true → line_gap ask plans (end_spot p) (end_spot q) ≡ Some (gap (end_spot p) (end_spot q) (pos 1))
  line-told p q in-p in-q before same =
      let both = and_parts (not (is_front p.kind)) (is_in_line p.goal q) same in
      let t = goal-of p.goal q both.1 in
      let to = and_parts (not (is_front q.kind)) (goes_to q.goal t.0) t.2 in
      next (end_spot p) (end_spot q) (record { copy = p.sheet; tray = t.0 }) (record { copy = q.sheet; tray = t.0 }) (arrival-plan p t.0 in-p both.0 t.1) (arrival-plan q t.0 in-q to.0 to.1) refl before

  end-one : (p : Plan) (g : Gap) → Contains plans p → Contains (end_gap ask p) g → (line_gap ask plans g.from g.to ≡ Some g) × (IsPoint plans 1 g.to)
  end-one p g in' has = go (is_in_line ask.goal p) (is_before p.sheet ask.sheet) (is_before ask.sheet p.sheet) refl refl refl has where
    only : (one : Gap) → Contains (one ∷ []) g → one ≡ g
    only one (zero, within, is) = is
    only one (suc k, within, is) = absurd (omega (arith, within))

    go : (a b c : Bool) → is_in_line ask.goal p ≡ a → is_before p.sheet ask.sheet ≡ b → is_before ask.sheet p.sheet ≡ c
        → Contains (cond a (cond b (gap (end_spot p) (own 0) (pos 1) ∷ []) (cond c (gap (own 0) (end_spot p) (pos 1) ∷ []) [])) []) g → (line_gap ask plans g.from g.to ≡ Some g) × IsPoint plans 1 g.to
    go true true c x y z h =
        let t = goal-of ask.goal p x in
        let to = and_parts (not (is_front p.kind)) (goes_to p.goal t.0) t.2 in
        subst (λ (k : Gap). (line_gap ask plans k.from k.to ≡ Some k) × IsPoint plans 1 k.to) (only (gap (end_spot p) (own 0) (pos 1)) h)
        (next (end_spot p) (own 0) (record { copy = p.sheet; tray = t.0 }) (record { copy = ask.sheet; tray = t.0 }) (arrival-plan p t.0 in' to.0 to.1) (arrival-ask t.0 t.1) refl y, omega arith)
    go true false true x y z h =
        let t = goal-of ask.goal p x in
        let to = and_parts (not (is_front p.kind)) (goes_to p.goal t.0) t.2 in
        subst (λ (k : Gap). (line_gap ask plans k.from k.to ≡ Some k) × IsPoint plans 1 k.to) (only (gap (own 0) (end_spot p) (pos 1)) h)
        (next (own 0) (end_spot p) (record { copy = ask.sheet; tray = t.0 }) (record { copy = p.sheet; tray = t.0 }) (arrival-ask t.0 t.1) (arrival-plan p t.0 in' to.0 to.1) refl z, (p, in', refl, omega arith))
    go true false false x y z h = absurd (omega (arith, h.1))
    go false b c x y z h = absurd (omega (arith, h.1))

  pub end-told : (g : Gap) → Contains (end_gaps ask plans) g → (line_gap ask plans g.from g.to ≡ Some g) × IsPoint plans 1 g.to
  end-told g h = let r = flat_map-from (end_gap ask) plans g h in end-one r.0 g r.1 r.2

-- ---- all hops
some-hop : (h k : TreeHop) → Some h ≡ Some k → h ≡ k
some-hop h k e = cc

pub more-points : (plans : List Plan) (m n : ℕ) (s : Spot) → m ≤ n → IsPoint plans m s → IsPoint plans n s
more-points plans m n (kept c i) le known = known
more-points plans m n (own k) le known = omega (arith, known, le)

pub run-known : (machine : Machine) (plans : List Plan) (b : Branch) (a : Action) (from to : Spot) → IsRun machine plans b.x.choices a from to → IsPoint plans (suc (length b.x.choices)) from × IsPoint plans (suc (length b.x.choices)) to
run-known machine plans b a _ _ (kept_run p i act in' at is) = let w = slice_get_within p.acts i act at in ((p, in', refl, omega arith), (p, in', refl, omega arith))
run-known machine plans b a _ _ (own_run n c at is) =
    let w = slice_get_within _ n c at in
    let l = length-reverse b.x.choices in
    (omega (arith, w, l), omega (arith, w, l))

pub hops_allowed : HopsAreAllowed
hops_allowed machine plans ask limit b _ k legal named differ (by_least a from to run) told =
    let p = named-point plans (length b.x.choices) to legal.in_order named (run-known machine plans b a from to run).1 in
    let is : Duration p.name ≡ k = some-hop (Duration p.name) k (sym (ap (option_map (λ q. Duration q)) p.told) ∙ told) in
    let found = p.found in
    subst (λ q. gap_of machine plans ask limit (record { branch = b; span = None }) from q ≡ Some (gap from to (pos a.least))) is (rw found (least-told machine plans b.x.choices legal.in_order a from to run))
hops_allowed machine plans ask limit b _ k legal named differ (by_most a from to run) told =
    let p = named-point plans (length b.x.choices) from legal.in_order named (run-known machine plans b a from to run).0 in
    let is : Duration p.name ≡ k = some-hop (Duration p.name) k (sym (ap (option_map (λ q. Duration q)) p.told) ∙ told) in
    let found = p.found in
    subst (λ q. gap_of machine plans ask limit (record { branch = b; span = None }) to q ≡ Some (gap to from (neg_ℤ (pos a.most)))) is (rw found (most-told machine plans b.x.choices legal.in_order a from to run))
hops_allowed machine plans ask limit b _ k legal named differ (by_line p q in-p in-q before same) told =
    let n = named-point plans (length b.x.choices) (end_spot q) legal.in_order named (q, in-q, refl, omega arith) in
    let is : Line n.name ≡ k = some-hop (Line n.name) k (sym (ap (option_map (λ r. Line r)) n.told) ∙ told) in
    let found = n.found in
    subst (λ r. gap_of machine plans ask limit (record { branch = b; span = None }) (end_spot p) r ≡ Some (gap (end_spot p) (end_spot q) (pos 1))) is (rw found (line-told ask plans legal.in_order p q in-p in-q before same))
hops_allowed machine plans ask limit b _ k legal named differ (by_end g has) told =
    let e = end-told ask plans legal.in_order g has in
    let n = named-point plans (length b.x.choices) g.to legal.in_order named (more-points plans 1 (suc (length b.x.choices)) g.to (omega arith) e.1) in
    let is : Line n.name ≡ k = some-hop (Line n.name) k (sym (ap (option_map (λ r. Line r)) n.told) ∙ told) in
    let found = n.found in
    subst (λ r. gap_of machine plans ask limit (record { branch = b; span = None }) g.from r ≡ Some g) is (rw found e.0)
hops_allowed machine plans ask limit b _ k legal named differ (by_order resource i j x y below at-x at-y) told =
    order-allowed machine plans ask limit b resource i j x y k legal.in_order named differ below at-x at-y told
hops_allowed machine plans ask limit b _ k legal named differ (by_stop stopped) told = absurd cc
