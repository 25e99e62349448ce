use Rattle.std.proofs.Common.{◌≡◌, length, ap, ◌∙◌, arith}
use Rattle.std.proofs.lemmas.List.{length-map}
use Rattle.tp_words.specs.Parts.{shown, parts_at}
use Rattle.tp_words.proofs.Texts.{length-parts}
use Rattle.tp_bounds.proofs.tree_reader.read_text.Goals as goal

-- a text has at most one part more than bytes
pub read_bound_words-requires : goal.read_bound_words-requires
read_bound_words-requires c =
    let parts-are : shown c.deref.result.now ≡ parts_at 32 c.args.text.now = ap shown c.deref.ensures.value ∙ c.in_ok-words.ensures in
    let many : length (shown c.deref.result.now) ≡ length (parts_at 32 c.args.text.now) = ap length parts-are in
    omega (arith, length-map c.deref.result.now (λ text. text.now), length-parts c.args.text.now, c.requires, many)
