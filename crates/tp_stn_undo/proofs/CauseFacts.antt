-- The causes that numbers name.
use Rattle.std.proofs.Common.{zero, suc, ◌≡◌, ℕ, ◌-◌, ◌<◌, ◌≤◌, List, length, get_or, Some, None, sym, refl, ap, ◌∙◌, arith, pos}
use Rattle.std.proofs.lemmas.Option.{get_or_from_slice_get, slice_get-map}
use Rattle.std.proofs.lemmas.List.{get_or-map}
use Rattle.std.specs.List.{slice_get}
use Rattle.std.specs.Option.{option_map}
use Rattle.tp_base.specs.declared.edges.Edge.{Edge}
use Rattle.tp_base.specs.Grows.{cause_of}
use Rattle.tp_base.proofs.SliceFacts.{found}
use Rattle.tp_stn_undo.specs.declared.point_state.PointState.{PointState}
use Rattle.tp_stn_undo.specs.declared.link.Link.{Link}
use Rattle.tp_stn_undo.specs.States.{edges_of, causes_of, numbered}

-- some point, for what stands past a list's end
abbrev pub no_state : PointState
no_state = record { low = 0; time = 0; cause = 0 }

-- some edge, likewise
abbrev pub no_link : Link
no_link = record { edge = record { from = record { 0 = 0 }; to = record { 0 = 0 }; weight = pos 0; tag = 0 }; older = 0 }

pub slice_get_at : {X : Type 0} (xs : List X) (k : ℕ) (d : X) → k < length xs → slice_get xs k ≡ Some (get_or xs k d)
slice_get_at xs k d h = let f = found xs k h in f.1 ∙ ap Some (sym (get_or_from_slice_get xs k f.0 d f.1))

pub numbered_at : (edges : List Edge) (n : ℕ) → 0 < n → numbered edges n ≡ slice_get edges (n - 1)
numbered_at edges zero h = absurd (omega arith)
numbered_at edges (suc k) h = let e : suc k - 1 ≡ k = omega arith in rw e refl

pub edge_at : (links : List Link) (n : ℕ) (d : Link) → 0 < n → n ≤ length links → numbered (edges_of links) n ≡ Some (get_or links (n - 1) d).edge
edge_at links n d some within =
    numbered_at (edges_of links) n some ∙ slice_get-map (λ (l : Link). l.edge) links (n - 1) ∙ ap (option_map (λ (l : Link). l.edge)) (slice_get_at links (n - 1) d (omega arith))

module _ (links : List Link) (states : List PointState) (at : ℕ) (known : at < length states) where
  pub cause_is : cause_of (causes_of (edges_of links) states) at ≡ numbered (edges_of links) (get_or states at no_state).cause
  cause_is = get_or-map (λ (s : PointState). numbered (edges_of links) s.cause) states at no_state None known

  pub cause_none : (get_or states at no_state).cause ≡ 0 → cause_of (causes_of (edges_of links) states) at ≡ None
  cause_none e = cause_is ∙ ap (numbered (edges_of links)) e

  pub cause_some : (d : Link) → 0 < (get_or states at no_state).cause → (get_or states at no_state).cause ≤ length links → cause_of (causes_of (edges_of links) states) at ≡ Some (get_or links ((get_or states at no_state).cause - 1) d).edge
  cause_some d some within = cause_is ∙ edge_at links (get_or states at no_state).cause d some within
