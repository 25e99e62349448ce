-- Hops along lines are kept.
use Rattle.std.proofs.Common.{◌≡◌, ℕ, zero, suc, ◌<◌, Bool, true, false, cond, not, ◌&&◌, ◌==◌, List, length, refl, sym, subst, arith, Contains, Option, Some, None, IsTrue}
use Rattle.std.specs.Prelude.{pos}
use Rattle.std.proofs.lemmas.Bool.{eqb-true, and_parts}
use Rattle.std.proofs.lemmas.Int.{ints}
use Rattle.tp_machine.specs.declared.machine.Machine.{Machine}
use Rattle.tp_schedule.specs.Legality.{IsLegal}
use Rattle.tp_schedule.specs.Plans.{goes_to, is_before, is_delivered_to, is_front, plan_of}
use Rattle.tp_schedule.specs.Spots.{Spot, Ticks}
use Rattle.tp_schedule.specs.Spots.Spot.{kept, own}
use Rattle.tp_schedule.specs.Times.{EndsBeforeAt}
use Rattle.tp_schedule.specs.declared.parts.Ask.{Ask}
use Rattle.tp_schedule.specs.declared.parts.Goal.{Goal}
use Rattle.tp_schedule.specs.declared.parts.Goal.TheVariants.{Tray, Purge}
use Rattle.tp_schedule.specs.declared.parts.Plan.{Plan}
use Rattle.tp_schedule.specs.declared.parts.SheetId.{SheetId}
use Rattle.tp_schedule.proofs.CopyFacts.{same_copy-is, before-not_same, same_copy-refl}
use Rattle.tp_choices.proofs.PlansOf.{plan_of-contains}
use Rattle.tp_choices.proofs.Unmoved.{ordered_pair}
use Rattle.tp_constraints.specs.Gaps.{Gap, IsPoint, gap}
use Rattle.tp_constraints.specs.Suffixes.{Suffix, SuffixTimes}
use Rattle.tp_bound_laws.specs.Chains.{Arrival, arrival_at, arrival_in, arrival_of, is_next_arrival, line_gap}
use Rattle.tp_bound_laws.proofs.DurationHops.{IsKeptHop}
use Rattle.tp_bound_laws.proofs.Lists.{number-same}

-- whose end the point is
pub data Ends (plans : List Plan) (ask : Ask) (a : Arrival) : Spot → Type 0 where
  by_plan : (p : Plan) → Contains plans p → p.sheet ≡ a.copy → IsTrue (is_delivered_to p a.tray) → Ends plans ask a (kept p.sheet (length p.acts))
  by_ask : ask.sheet ≡ a.copy → IsTrue (goes_to ask.goal a.tray) → Ends plans ask a (own 0)

arrives : (copy : SheetId) (g : Goal) (a : Arrival) → arrival_at copy g ≡ Some a → (copy ≡ a.copy) × (goes_to g a.tray ≡ true)
arrives copy (Tray t) a e = let c : copy ≡ a.copy = cc in let n : t.0 ≡ a.tray = cc in (c, rw n (number-same a.tray))
arrives copy Purge a e = absurd cc

ends-in : (plans : List Plan) (ask : Ask) (a : Arrival) (i : ℕ) (c : SheetId) (o : Option Plan) → plan_of c plans ≡ o → arrival_in i o ≡ Some a → Ends plans ask a (kept c i)
ends-in plans ask a i c None is e = absurd cc
ends-in plans ask a i c (Some p) is e = go (not (is_front p.kind) && (i == length p.acts)) refl e where
  go : (b : Bool) → (not (is_front p.kind) && (i == length p.acts)) ≡ b → cond b (arrival_at p.sheet p.goal) None ≡ Some a → Ends plans ask a (kept c i)
  go true t h =
      let both = and_parts (not (is_front p.kind)) (i == length p.acts) t in
      let in' = plan_of-contains c plans p is in
      let same : p.sheet ≡ c = same_copy-is p.sheet c in'.1 in
      let end : length p.acts ≡ i = sym (eqb-true i (length p.acts) both.1) in
      let to = arrives p.sheet p.goal a h in
      subst (λ d. Ends plans ask a (kept d i)) same (subst (λ k. Ends plans ask a (kept p.sheet k)) end (by_plan p in'.0 to.0 (rw (both.0, to.1) refl)))
  go false t h = absurd cc

ends-of : (plans : List Plan) (ask : Ask) (a : Arrival) (s : Spot) → arrival_of ask plans s ≡ Some a → Ends plans ask a s
ends-of plans ask a (kept c i) e = ends-in plans ask a i c (plan_of c plans) refl e
ends-of plans ask a (own zero) e = let to = arrives ask.sheet ask.goal a e in by_ask to.0 to.1
ends-of plans ask a (own (suc n)) e = absurd cc

module _ (machine : Machine) (plans : List Plan) (ask : Ask) (x : Suffix) (t : Ticks) (times : SuffixTimes machine plans ask x t) (legal : IsLegal machine plans) where
  known-end : (a : Arrival) (s : Spot) → Ends plans ask a s → IsPoint plans (suc (length x.choices)) s
  known-end a _ (by_plan p in' same to) = (p, in', refl, omega arith)
  known-end a _ (by_ask same to) = omega arith

  rises : (a b : Arrival) (s q : Spot) → a.tray ≡ b.tray → is_before a.copy b.copy ≡ true → Ends plans ask a s → Ends plans ask b q → t s < t q
  rises a b _ _ tray before (by_plan p in-p sheet-p to-p) (by_plan q in-q sheet-q to-q) =
      let first : is_before p.sheet q.sheet ≡ true = rw (sheet-p, sheet-q) before in
      ordered_pair (EndsBeforeAt t) plans p q legal.in_order times.keeps.rise in-p in-q first b.tray (subst (λ n. is_delivered_to p n ≡ true) tray to-p) to-q
  rises a b _ _ tray before (by_plan p in-p sheet-p to-p) (by_ask sheet-q to-q) =
      let first : is_before p.sheet ask.sheet ≡ true = rw (sheet-p, sheet-q) before in
      (times.line p in-p b.tray to-q (subst (λ n. is_delivered_to p n ≡ true) tray to-p)).0 first
  rises a b _ _ tray before (by_ask sheet-p to-p) (by_plan q in-q sheet-q to-q) =
      let first : is_before ask.sheet q.sheet ≡ true = rw (sheet-p, sheet-q) before in
      (times.line q in-q b.tray (subst (λ n. goes_to ask.goal n ≡ true) tray to-p) to-q).1 first
  rises a b _ _ tray before (by_ask sheet-p to-p) (by_ask sheet-q to-q) =
      let self : is_before ask.sheet ask.sheet ≡ true = let l = sym sheet-p in let r = sym sheet-q in subst (λ d. is_before d ask.sheet ≡ true) l (subst (λ d. is_before a.copy d ≡ true) r before) in
      let no = before-not_same ask.sheet ask.sheet self in
      let yes = same_copy-refl ask.sheet in
      absurd cc

  pub line-hop : (from to : Spot) (g : Gap) → line_gap ask plans from to ≡ Some g → IsKeptHop plans (suc (length x.choices)) t from g
  line-hop from to g e = go (arrival_of ask plans from) (arrival_of ask plans to) refl refl (is_next_arrival (arrival_of ask plans from) (arrival_of ask plans to)) refl e where
    next : (a b : Arrival) → arrival_of ask plans from ≡ Some a → arrival_of ask plans to ≡ Some b → (a.tray == b.tray && is_before a.copy b.copy) ≡ true → Some (gap from to (pos 1)) ≡ Some g → IsKeptHop plans (suc (length x.choices)) t from g
    next a b u v both h =
        let parts = and_parts (a.tray == b.tray) (is_before a.copy b.copy) both in
        let from-end = ends-of plans ask a from u in
        let to-end = ends-of plans ask b to v in
        let later = rises a b from to (eqb-true a.tray b.tray parts.0) parts.1 from-end to-end in
        let same : gap from to (pos 1) ≡ g = cc in
        subst (IsKeptHop plans (suc (length x.choices)) t from) same (record { keeps = omega (arith, ints); known = known-end b to to-end; here = refl })

    go : (m n : Option Arrival) → arrival_of ask plans from ≡ m → arrival_of ask plans to ≡ n → (c : Bool) → is_next_arrival m n ≡ c → cond c (Some (gap from to (pos 1))) None ≡ Some g → IsKeptHop plans (suc (length x.choices)) t from g
    go None n u v true w h = absurd cc
    go (Some a) None u v true w h = absurd cc
    go (Some a) (Some b) u v true w h = next a b u v w h
    go m n u v false w h = absurd cc
