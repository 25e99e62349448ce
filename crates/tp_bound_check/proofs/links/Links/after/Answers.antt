use Rattle.std.proofs.Common.{◌∙◌, ◌+◌, ap, arith, List, ℕ, Option, None}
use Rattle.std.specs.Prelude.{slice_index_or}
use Rattle.tp_bound_check.proofs.LinkFacts.{is-next, within}
use Rattle.tp_bound_check.proofs.links.Links.after.Goals as goal

pub returns : goal.returns
returns c = λ loc at.
    let s = c.args.self.now in
    let below = within s.locations.items c.args.at loc at in
    is-next s.locations.items loc (c.args.at + 1) c.number_at.result (omega (arith, below))
    (c.number_at.ensures ∙ ap (λ (ns : List (Option ℕ)). slice_index_or ns c.from.result None) c.as_slice.ensures.value ∙ ap (λ n. slice_index_or s.nexts.items n None) c.from.ensures ∙ s.linked.next c.args.at loc (omega arith) at)
