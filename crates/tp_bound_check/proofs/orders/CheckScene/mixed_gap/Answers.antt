use Rattle.std.proofs.Common.{◌∙◌, ap, sym, Some, None}
use Rattle.tp_constraints.specs.Gaps.{slot_gap}
use Rattle.tp_constraints.specs.Suffixes.{with_goal}
use Rattle.tp_machine.specs.Modes.{gap_at}
use Rattle.tp_schedule.specs.Spots.{slot_order}
use Rattle.tp_bound_laws.proofs.ApartStarts.{starts-apart}
use Rattle.tp_bound_check.specs.Founds.{slot_before, slot_behind}
use Rattle.tp_bound_check.proofs.RankFacts.{kept-first, own-first}
use Rattle.tp_bound_check.proofs.orders.CheckScene.mixed_gap.Goals as goal

pub returns-in-Some-slot_behind : goal.returns-in-Some-slot_behind
returns-in-Some-slot_behind c =
    let s = c.args.self.now in let m = s.rows.machine.now in let r = c.args.resource in let t = c.args.stance.now in
    let p = c.args.ends.now.before in let q = c.args.ends.now.after in let K = slot_order m s.plans.now r in
    let slot = c.in-Some-slot_behind.slot in
    ap (λ g. Some g) c.slot_gap.ensures ∙ ap (λ k. Some (slot_gap k t.slot slot)) c.gap_at-apart.ensures.gap
    ∙ own-first (gap_at m r) p q t K (Some slot) (starts-apart m s.plans.now (with_goal 0) r s.ordered.in_order) (sym c.copy.ensures ∙ c.in-None.is) (sym c.in-Some-slot_behind.is ∙ c.slot_behind.ensures ∙ ap (slot_behind t.hi) c.kept_found.ensures)

pub returns-in-None-slot_behind : goal.returns-in-None-slot_behind
returns-in-None-slot_behind c =
    let s = c.args.self.now in let m = s.rows.machine.now in let r = c.args.resource in let t = c.args.stance.now in
    let p = c.args.ends.now.before in let q = c.args.ends.now.after in let K = slot_order m s.plans.now r in
    own-first (gap_at m r) p q t K None (starts-apart m s.plans.now (with_goal 0) r s.ordered.in_order) (sym c.copy.ensures ∙ c.in-None.is) (sym c.in-None-slot_behind.is ∙ c.slot_behind.ensures ∙ ap (slot_behind t.hi) c.kept_found.ensures)

pub returns-in-Some-slot_before : goal.returns-in-Some-slot_before
returns-in-Some-slot_before c =
    let s = c.args.self.now in let m = s.rows.machine.now in let r = c.args.resource in let t = c.args.stance.now in
    let p = c.args.ends.now.before in let q = c.args.ends.now.after in let K = slot_order m s.plans.now r in
    let slot = c.in-Some-slot_before.slot in
    ap (λ g. Some g) c.slot_gap-in-Some-slot_before.ensures ∙ ap (λ k. Some (slot_gap k slot t.slot)) c.gap_at-apart.ensures.gap
    ∙ kept-first (gap_at m r) p q _ t K (Some slot) (sym c.copy.ensures ∙ c.in-Some.is) (sym c.in-Some-slot_before.is ∙ c.slot_before.ensures ∙ ap (slot_before t.lo) c.kept_found-in-Some.ensures)

pub returns-in-None-slot_before : goal.returns-in-None-slot_before
returns-in-None-slot_before c =
    let s = c.args.self.now in let m = s.rows.machine.now in let r = c.args.resource in let t = c.args.stance.now in
    let p = c.args.ends.now.before in let q = c.args.ends.now.after in let K = slot_order m s.plans.now r in
    kept-first (gap_at m r) p q _ t K None (sym c.copy.ensures ∙ c.in-Some.is) (sym c.in-None-slot_before.is ∙ c.slot_before.ensures ∙ ap (slot_before t.lo) c.kept_found-in-Some.ensures)
