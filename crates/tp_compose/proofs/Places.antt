-- Two ENDs have the same location exactly where they are one place.
use Rattle.std.proofs.Common.{◌≡◌, ℕ, true, List, ap, sym, ◌∙◌}
use Rattle.toml.specs.Data.{Members}
use Rattle.tp_machine_text.specs.Words.{text_of, text_in}
use Rattle.tp_compose.specs.Racks.{own_names, location_of}
use Rattle.tp_compose.specs.EndRules.{is_end_text}
use Rattle.tp_compose.specs.Walks.{IsOnePlace}
use Rattle.tp_compose.proofs.SpelledNames.{lacks, marked, marked_back}
use Rattle.tp_compose.proofs.EndFacts.{own_is, end_some}
use Rattle.tp_compose.proofs.Joins.{first_of, place_first, first_place, first_end}
use Rattle.tp_compose.proofs.KeptRack.{KeepsRackRules}

module _ (r : Members) (k : KeepsRackRules r) where
  -- the location of an END is called after its first END, with a hyphen for the dot
  spelled : (e : List ℕ) → is_end_text (own_names r) e ≡ true → (location_of r e ≡ marked (first_of r k e)) × (lacks 45 (first_of r k e) ≡ true)
  spelled e test =
      let (d, at) = end_some (own_names r) (first_of r k e) (first_end r k e test) in
      let (is, lack) = own_is r k (first_of r k e) d at in
      (ap text_in at ∙ ap text_of is, lack)

  pub same_place : (e f : List ℕ) → is_end_text (own_names r) e ≡ true → is_end_text (own_names r) f ≡ true → IsOnePlace r e f → location_of r e ≡ location_of r f
  same_place e f end_e end_f one = (spelled e end_e).0 ∙ ap marked (place_first r k e f one) ∙ sym (spelled f end_f).0

  pub one_place : (e f : List ℕ) → is_end_text (own_names r) e ≡ true → is_end_text (own_names r) f ≡ true → location_of r e ≡ location_of r f → IsOnePlace r e f
  one_place e f end_e end_f same =
      first_place r k e f (marked_back (first_of r k e) (first_of r k f) (spelled e end_e).1 (spelled f end_f).1 (sym (spelled e end_e).0 ∙ same ∙ (spelled f end_f).0))
