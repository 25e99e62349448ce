use Rattle.std.proofs.Common.{◌∙◌, ap, arith, List, ℕ, Option, None}
use Rattle.std.specs.Prelude.{slice_index_or}
use Rattle.tp_bound_check.proofs.LinkFacts.{is-next}
use Rattle.tp_bound_check.proofs.links.Links.first.Goals as goal

pub returns : goal.returns
returns c =
    let s = c.args.self.now in
    is-next s.locations.items c.args.location 0 c.number_at.result (omega arith)
    (c.number_at.ensures ∙ ap (λ (ns : List (Option ℕ)). slice_index_or ns c.from.result None) c.as_slice.ensures.value ∙ ap (λ n. slice_index_or s.firsts.items n None) c.from.ensures ∙ s.linked.first c.args.location)
