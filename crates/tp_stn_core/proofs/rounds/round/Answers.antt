use Rattle.std.proofs.Common.{arith, ◌≡◌, ◌<◌, length, slice_index, Ok, None, ap, ◌∙◌, sym, subst, take}
use Rattle.std.specs.List.{All}
use Rattle.std.proofs.lemmas.List.Elements.{Contains-get_or, All-more}
use Rattle.std.proofs.lemmas.Option.{none-some}
use Rattle.std.specs.Prelude.{IsSome, IfSome}
use Rattle.std.proofs.lemmas.List.{take_all}
use Rattle.tp_base.specs.Net.{Keeps}
use Rattle.tp_base.specs.Grows.{slack}
use Rattle.tp_base.proofs.GrowsFacts.{Rises-trans, PassesCap-after}
use Rattle.tp_stn_core.proofs.RoundFacts.{still_less, end_known}
use Rattle.tp_stn_core.proofs.rounds.round.Goals as goal
use Rattle.tp_stn_core.proofs.rounds.round.Goals.{then-rose, else-rose}

pub returns-in-Err-clause-late : goal.returns-in-Err-clause-late
returns-in-Err-clause-late c =
    PassesCap-after c.args.caps.now c.args.edges.now c.args.times.now c.edges.times c.args.causes.now c.edges.causes _ _ c.edges.auto.times c.edges.invariant.rises
    (c.in-Err.ensures.late c.args.edges.now (Contains-get_or c.args.edges.now c.edges.edge-index _ c.edges-test.true))

pub edges-preserved : goal.edges-preserved
edges-preserved c =
    let rises = Rises-trans c.args.edges.now c.args.times.now c.edges.times _ c.args.causes.now c.edges.causes _ c.edges.auto.times c.edges.invariant.rises
    (c.in-Ok.ensures.rises c.args.edges.now (Contains-get_or c.args.edges.now c.edges.edge-index _ c.edges-test.true)) in
    elim c.if-rose.branch [
      | then-rose w ↦ (
          let less = c.in-Ok.ensures.less (ap Ok w.if-rose.true) in
          record {
            rises = rises;
            within = c.in-Ok.ensures.within;
            keeps = λ h. absurd (none-some _ (sym h ∙ w.last-is));
            same = λ h. absurd (none-some _ (sym h ∙ w.last-is));
            less = λ _. still_less c.edges.last _ _ _ c.edges.invariant.less (λ q. ap (slack c.args.caps.now) (c.edges.invariant.same q)) less;
            known_last = rw w.last-is (end_known (length c.args.times.now) (length c.raise_end.new.times) c.args.edges.now c.edges.edge-index _ c.requires.known c.edges-test.true (c.raise_end.auto.times ∙ c.edges.auto.times));
          })
      | else-rose w ↦ (
          let same = c.in-Ok.ensures.same (ap Ok w.if-rose.false) in
          record {
            rises = rises;
            within = c.in-Ok.ensures.within;
            keeps = λ h. All-more (Keeps (slice_index c.raise_end.new.times)) c.args.edges.now c.edges.edge-index _ c.edges-test.true
                (subst (λ ts. All (Keeps (slice_index ts)) (take c.edges.edge-index c.args.edges.now)) (sym same) (c.edges.invariant.keeps (sym w.last-is ∙ h)))
                (c.in-Ok.ensures.keeps (ap Ok w.if-rose.false));
            same = λ h. same ∙ c.edges.invariant.same (sym w.last-is ∙ h);
            less = λ h. (let e = ap (slack c.args.caps.now) same in let k = c.edges.invariant.less (subst IsSome w.last-is h) in omega arith);
            known_last = subst (λ (o : _). IfSome o (λ p. p.0 < length c.raise_end.new.times)) (sym w.last-is) (rw same c.edges.invariant.known_last);
          })
    ]

pub returns-clause-keeps : goal.returns-clause-keeps
returns-clause-keeps c h =
    let k : c.edges.last ≡ None = cc in
    subst (λ es. All (Keeps (slice_index c.edges.times)) es) (take_all c.edges.edge-index c.args.edges.now c.edges-test.false) (c.edges.invariant.keeps k)
