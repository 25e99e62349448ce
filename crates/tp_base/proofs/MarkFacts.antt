-- The content at the last mark.
use Rattle.std.proofs.Common.{◌≡◌, ℕ, List, [], ◌∷◌, ◌++◌, length, get_or, Some, sym, ap, ◌∙◌}
use Rattle.std.proofs.lemmas.List.{get_or_at}
use Rattle.std.proofs.lemmas.Option.{get_or_from_slice_get}
use Rattle.std.specs.List.{slice_get}

-- what stands at the mark that was made last
pub last_mark : {C : Type 0} (past now : List C) (c d : C) (n : ℕ) → now ≡ past ++ c ∷ [] → n ≡ length past → slice_get now n ≡ Some d → d ≡ c
last_mark past now c d n e m s = sym (get_or_from_slice_get now n d d s) ∙ ap (λ xs. get_or xs n d) e ∙ get_or_at past c [] d n (sym m)
