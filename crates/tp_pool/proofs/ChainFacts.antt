-- Chains of linked nodes.
use Rattle.std.proofs.Common.{◌≡◌, ℕ, zero, suc, ◌<◌, ◌≤◌, true, false, ◌||◌, Bool, eqb, List, [], ◌∷◌, ◌++◌, length, map, Option, Some, None, refl, sym, ap, ◌∙◌, arith}
use Rattle.std.specs.Prelude.{slice_set}
use Rattle.std.specs.List.{list_any}
use Rattle.std.proofs.lemmas.Bool.{eqb-false}
use Rattle.std.proofs.lemmas.List.{get_or-set_other}
use Rattle.tp_pool.specs.Queues.{Queued, nodes_of, head_at}
use Rattle.tp_pool.specs.Linked.{chain}

pub or_left : (a b : Bool) → (a || b) ≡ false → a ≡ false
or_left false b h = refl
or_left true b h = h

pub or_right : (a b : Bool) → (a || b) ≡ false → b ≡ false
or_right false b h = h
or_right true b h = absurd cc

pub chain-none : (most : ℕ) (nexts : List (Option ℕ)) → chain most nexts None ≡ []
chain-none zero nexts = refl
chain-none (suc most) nexts = refl

-- a chain does not see what is behind another node
pub chain-apart : (most : ℕ) (nexts : List (Option ℕ)) (head link : Option ℕ) (node : ℕ) → list_any (eqb node) (chain most nexts head) ≡ false → chain most (slice_set nexts node link) head ≡ chain most nexts head
chain-apart zero nexts head link node out = refl
chain-apart (suc most) nexts None link node out = refl
chain-apart (suc most) nexts (Some n) link node out =
    let other = or_left (eqb node n) (list_any (eqb node) (chain most nexts (head_at nexts n))) out in
    let later = or_right (eqb node n) (list_any (eqb node) (chain most nexts (head_at nexts n))) out in
    let same : head_at (slice_set nexts node link) n ≡ head_at nexts n = get_or-set_other nexts node n link None (λ e. eqb-false node n other (sym e)) in
    ap (λ ns. n ∷ ns) (ap (chain most (slice_set nexts node link)) same ∙ chain-apart most nexts (head_at nexts n) link node later)

-- a chain that ends is the same with one step more or less
pub chain-shorter : (most : ℕ) (nexts : List (Option ℕ)) (head : Option ℕ) → length (chain (suc most) nexts head) ≤ most → chain most nexts head ≡ chain (suc most) nexts head
chain-shorter zero nexts None few = refl
chain-shorter zero nexts (Some n) few = absurd (omega arith)
chain-shorter (suc most) nexts None few = refl
chain-shorter (suc most) nexts (Some n) few = ap (λ ns. n ∷ ns) (chain-shorter most nexts (head_at nexts n) (omega arith))

pub chain-longer : (most : ℕ) (nexts : List (Option ℕ)) (head : Option ℕ) → length (chain most nexts head) < most → chain (suc most) nexts head ≡ chain most nexts head
chain-longer zero nexts head few = absurd (omega arith)
chain-longer (suc most) nexts None few = refl
chain-longer (suc most) nexts (Some n) few = ap (λ ns. n ∷ ns) (chain-longer most nexts (head_at nexts n) (omega arith))

-- the nodes of a chain, for one bound
abbrev pub for_bound : ℕ → List ℕ → List Queued
for_bound bound nodes = map (λ n. record { node = n; bound = bound }) nodes

pub nodes-for_bound : (bound : ℕ) (nodes : List ℕ) (rest : List Queued) → nodes_of (for_bound bound nodes ++ rest) ≡ nodes ++ nodes_of rest
nodes-for_bound bound [] rest = refl
nodes-for_bound bound (n ∷ nodes) rest = ap (λ ns. n ∷ ns) (nodes-for_bound bound nodes rest)
