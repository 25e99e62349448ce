use Rattle.std.proofs.Common.{◌∙◌, ◌+◌, ap, subst, length, ℕ, Option, Some, None, refl}
use Rattle.std.specs.Prelude.{IfSome}
use Rattle.tp_bound_check.specs.Links.{ends_of}
use Rattle.tp_bound_check.specs.Looks.{IsActOf, acts_at}
use Rattle.tp_bound_check.proofs.LinkFacts.{ahead-smaller, next-of, none-there}
use Rattle.tp_bound_check.proofs.TakeFacts.{act-next, acts-on, known-end}
use Rattle.tp_bound_check.proofs.orders.CheckScene.next_act.Goals as goal

pub acts-init : goal.acts-init
acts-init c = record { left = refl; there = c.requires.sound }

pub before-requires : goal.before-requires
before-requires c =
    let m = c.args.self.now.rows.machine.now in let b = c.args.branch.now in
    let here = subst (λ (o : Option ℕ). IfSome o (IsActOf m b)) c.in-Some.is c.acts.invariant.there in
    known-end m c.in-Some.act b.first.loc.0 here.1

pub returns-in-Some-before-clause-some : goal.returns-in-Some-before-clause-some
returns-in-Some-before-clause-some c =
    let s = c.args.self.now in let m = s.rows.machine.now in let b = c.args.branch.now in
    let here = subst (λ (o : Option ℕ). IfSome o (IsActOf m b)) c.in-Some.is c.acts.invariant.there in
    let next = next-of s.ends.now.locations.items (ends_of m) c.in-Some.act b.first.loc.0 c.after-cursor.result s.ending c.after-cursor.ensures here.1 in
    c.acts.invariant.left ∙ ap (acts_at m s.plans.now s.rows.ask.now s.rows.rows.now s.limit b) c.in-Some.is
    ∙ acts-on m s.plans.now s.rows.ask.now s.rows.rows.now s.limit b c.in-Some.act (Some c.in-Some-before.state) c.after-cursor.result (known-end m c.in-Some.act b.first.loc.0 here.1) c.in-Some-before.ensures next.is

pub returns-in-Some-before-clause-few : goal.returns-in-Some-before-clause-few
returns-in-Some-before-clause-few c =
    let m = c.args.self.now.rows.machine.now in let b = c.args.branch.now in
    let here = subst (λ (o : Option ℕ). IfSome o (IsActOf m b)) c.in-Some.is c.acts.invariant.there in here.0

pub returns-in-Some-before-clause-after : goal.returns-in-Some-before-clause-after
returns-in-Some-before-clause-after c =
    let s = c.args.self.now in let m = s.rows.machine.now in let b = c.args.branch.now in
    let here = subst (λ (o : Option ℕ). IfSome o (IsActOf m b)) c.in-Some.is c.acts.invariant.there in
    let next = next-of s.ends.now.locations.items (ends_of m) c.in-Some.act b.first.loc.0 c.after-cursor.result s.ending c.after-cursor.ensures here.1 in
    act-next m b (c.in-Some.act + 1) c.after-cursor.result here.0 next

pub acts-smaller : goal.acts-smaller
acts-smaller c =
    let s = c.args.self.now in let m = s.rows.machine.now in let b = c.args.branch.now in
    let here = subst (λ (o : Option ℕ). IfSome o (IsActOf m b)) c.in-Some.is c.acts.invariant.there in
    let next = next-of s.ends.now.locations.items (ends_of m) c.in-Some.act b.first.loc.0 c.after-cursor.result s.ending c.after-cursor.ensures here.1 in
    rw (c.in-Some.is) (ahead-smaller (ends_of m) b.first.loc.0 (length m.actions) c.in-Some.act c.after-cursor.result (known-end m c.in-Some.act b.first.loc.0 here.1) next)

pub acts-preserved : goal.acts-preserved
acts-preserved c =
    let s = c.args.self.now in let m = s.rows.machine.now in let b = c.args.branch.now in
    let here = subst (λ (o : Option ℕ). IfSome o (IsActOf m b)) c.in-Some.is c.acts.invariant.there in
    let next = next-of s.ends.now.locations.items (ends_of m) c.in-Some.act b.first.loc.0 c.after-cursor.result s.ending c.after-cursor.ensures here.1 in
    record {
      left = c.acts.invariant.left ∙ ap (acts_at m s.plans.now s.rows.ask.now s.rows.rows.now s.limit b) c.in-Some.is
          ∙ acts-on m s.plans.now s.rows.ask.now s.rows.rows.now s.limit b c.in-Some.act None c.after-cursor.result (known-end m c.in-Some.act b.first.loc.0 here.1) c.in-None.ensures next.is;
      there = act-next m b (c.in-Some.act + 1) c.after-cursor.result here.0 next;
    }

pub returns-clause-none : goal.returns-clause-none
returns-clause-none c =
    let s = c.args.self.now in
    c.acts.invariant.left ∙ ap (acts_at s.rows.machine.now s.plans.now s.rows.ask.now s.rows.rows.now s.limit c.args.branch.now) (none-there c.acts.cursor c.in_default.not-Some)
