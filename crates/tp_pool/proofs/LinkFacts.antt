-- What a node that is linked in or out makes of the queue.
use Rattle.std.proofs.Common.{◌≡◌, ℕ, zero, suc, ◌+◌, ◌<◌, ◌≤◌, false, ◌||◌, eqb, List, [], ◌∷◌, ◌++◌, length, Option, Some, None, refl, sym, ap, subst, ◌∙◌, arith}
use Rattle.std.specs.Prelude.{slice_set}
use Rattle.std.specs.List.{All, list_any}
use Rattle.std.specs.List.Sorted.{IsPermutation}
use Rattle.std.proofs.lemmas.List.{get_or-set_same}
use Rattle.std.proofs.lemmas.List.Elements.{All-append}
use Rattle.std.proofs.lemmas.List.Folds.{list_any-append}
use Rattle.std.proofs.lemmas.List.Sorted.{IsPermutation-refl, IsPermutation-sym, IsPermutation-trans, IsPermutation-append_right, IsPermutation-middle}
use Rattle.std.proofs.lemmas.Option.{none-some}
use Rattle.tp_pool.specs.Queues.{Queued, nodes_of, head_at}
use Rattle.tp_pool.specs.Linked.{chain, queued_from}
use Rattle.tp_pool.proofs.ChainFacts.{or_left, or_right, chain-none, chain-apart, chain-shorter, chain-longer, for_bound, nodes-for_bound}

-- a node is out of the first chain, and of the rest
out_parts : (node bound : ℕ) (nodes : List ℕ) (rest : List Queued) → list_any (eqb node) (nodes_of (for_bound bound nodes ++ rest)) ≡ false
    → (list_any (eqb node) nodes ≡ false) × (list_any (eqb node) (nodes_of rest) ≡ false)
out_parts node bound nodes rest out =
    let all : (list_any (eqb node) nodes || list_any (eqb node) (nodes_of rest)) ≡ false = sym (ap (list_any (eqb node)) (nodes-for_bound bound nodes rest) ∙ list_any-append (eqb node) nodes (nodes_of rest)) ∙ out in
    (or_left (list_any (eqb node) nodes) (list_any (eqb node) (nodes_of rest)) all, or_right (list_any (eqb node) nodes) (list_any (eqb node) (nodes_of rest)) all)

length-parts : (bound : ℕ) (nodes : List ℕ) (rest : List Queued) → length (for_bound bound nodes ++ rest) ≡ length nodes + length rest
length-parts bound [] rest = omega arith
length-parts bound (n ∷ nodes) rest = omega (arith, length-parts bound nodes rest)

-- the heads do not see what is behind another node
queued-apart : (base most : ℕ) (nexts heads : List (Option ℕ)) (link : Option ℕ) (node : ℕ) → list_any (eqb node) (nodes_of (queued_from base most nexts heads)) ≡ false
    → queued_from base most (slice_set nexts node link) heads ≡ queued_from base most nexts heads
queued-apart base most nexts [] link node out = refl
queued-apart base most nexts (head ∷ heads) link node out =
    let rest = queued_from (suc base) most nexts heads in
    let parts = out_parts node base (chain most nexts head) rest out in
    ap (λ ns. for_bound base ns ++ queued_from (suc base) most (slice_set nexts node link) heads) (chain-apart most nexts head link node parts.0)
    ∙ ap (λ qs. for_bound base (chain most nexts head) ++ qs) (queued-apart (suc base) most nexts heads link node parts.1)

-- the chain of a node that is put before a head
chain-put : (most : ℕ) (nexts : List (Option ℕ)) (head link : Option ℕ) (node : ℕ) → node < length nexts → link ≡ head → length (chain (suc most) nexts head) ≤ most → list_any (eqb node) (chain (suc most) nexts head) ≡ false
    → chain (suc most) (slice_set nexts node link) (Some node) ≡ node ∷ chain (suc most) nexts head
chain-put most nexts head link node below is few out =
    let short = chain-shorter most nexts head few in
    let behind : head_at (slice_set nexts node link) node ≡ head = get_or-set_same nexts node link None below ∙ is in
    ap (λ ns. node ∷ ns) (ap (chain most (slice_set nexts node link)) behind ∙ chain-apart most nexts head link node (ap (list_any (eqb node)) short ∙ out) ∙ short)

-- a node that is linked in before the head of its bound
pub put-in : (base most : ℕ) (nexts heads : List (Option ℕ)) (link : Option ℕ) (place node bound : ℕ) → place < length heads → node < length nexts → link ≡ head_at heads place → bound ≡ base + place
    → length (queued_from base (suc most) nexts heads) ≤ most → list_any (eqb node) (nodes_of (queued_from base (suc most) nexts heads)) ≡ false
    → IsPermutation (record { node = node; bound = bound } ∷ queued_from base (suc most) nexts heads) (queued_from base (suc most) (slice_set nexts node link) (slice_set heads place (Some node)))
put-in base most nexts [] link place node bound there below is at few out = absurd (omega arith)
put-in base most nexts (head ∷ heads) link zero node bound there below is at few out =
    let nodes = chain (suc most) nexts head in
    let rest = queued_from (suc base) (suc most) nexts heads in
    let parts = out_parts node base nodes rest out in
    let many = length-parts base nodes rest in
    let same : base ≡ bound = omega arith in
    let now : queued_from base (suc most) (slice_set nexts node link) (Some node ∷ heads) ≡ record { node = node; bound = bound } ∷ (for_bound base nodes ++ rest) =
    ap (λ ns. for_bound base ns ++ queued_from (suc base) (suc most) (slice_set nexts node link) heads) (chain-put most nexts head link node below is (omega arith) parts.0)
    ∙ ap (λ qs. for_bound base (node ∷ nodes) ++ qs) (queued-apart (suc base) (suc most) nexts heads link node parts.1)
    ∙ ap {B = List Queued} (λ b. record { node = node; bound = b } ∷ (for_bound base nodes ++ rest)) same in
    subst (IsPermutation (record { node = node; bound = bound } ∷ (for_bound base nodes ++ rest))) (sym now) (IsPermutation-refl (record { node = node; bound = bound } ∷ (for_bound base nodes ++ rest)))
put-in base most nexts (head ∷ heads) link (suc place) node bound there below is at few out =
    let nodes = chain (suc most) nexts head in
    let rest = queued_from (suc base) (suc most) nexts heads in
    let rest' = queued_from (suc base) (suc most) (slice_set nexts node link) (slice_set heads place (Some node)) in
    let parts = out_parts node base nodes rest out in
    let many = length-parts base nodes rest in
    let q : Queued = record { node = node; bound = bound } in
    let later = put-in (suc base) most nexts heads link place node bound (omega arith) below is (omega arith) (omega arith) parts.1 in
    let first = for_bound base nodes in
    let moved : IsPermutation (q ∷ (first ++ rest)) (first ++ rest') =
    IsPermutation-trans (q ∷ (first ++ rest)) (first ++ q ∷ rest) (first ++ rest') (IsPermutation-sym (first ++ q ∷ rest) (q ∷ (first ++ rest)) (IsPermutation-middle first q rest)) (IsPermutation-append_right first (q ∷ rest) rest' later) in
    subst (λ ns. IsPermutation (q ∷ (first ++ rest)) (for_bound base ns ++ rest')) (sym (chain-apart (suc most) nexts head link node parts.0)) moved

-- the first node of a bound that is linked out
pub take-out : (base most : ℕ) (nexts heads : List (Option ℕ)) (place node bound : ℕ) → head_at heads place ≡ Some node → bound ≡ base + place → length (queued_from base (suc most) nexts heads) ≤ most
    → IsPermutation (queued_from base (suc most) nexts heads) (record { node = node; bound = bound } ∷ queued_from base (suc most) nexts (slice_set heads place (head_at nexts node)))
take-out base most nexts [] place node bound is at few = absurd (none-some node is)
take-out base most nexts (head ∷ heads) zero node bound is at few =
    let rest = queued_from (suc base) (suc most) nexts heads in
    let behind = chain most nexts (head_at nexts node) in
    let first : chain (suc most) nexts head ≡ node ∷ behind = ap (chain (suc most) nexts) is in
    let many = length-parts base (chain (suc most) nexts head) rest in
    let shorter = ap length first in
    let longer = chain-longer most nexts (head_at nexts node) (omega arith) in
    let same : base ≡ bound = omega arith in
    let now : for_bound base (chain (suc most) nexts head) ++ rest ≡ record { node = node; bound = bound } ∷ (for_bound base (chain (suc most) nexts (head_at nexts node)) ++ rest) =
    ap (λ ns. for_bound base ns ++ rest) (first ∙ ap (λ ns. node ∷ ns) (sym longer))
    ∙ ap {B = List Queued} (λ b. record { node = node; bound = b } ∷ (for_bound base (chain (suc most) nexts (head_at nexts node)) ++ rest)) same in
    subst (IsPermutation (for_bound base (chain (suc most) nexts head) ++ rest)) now (IsPermutation-refl (for_bound base (chain (suc most) nexts head) ++ rest))
take-out base most nexts (head ∷ heads) (suc place) node bound is at few =
    let first = for_bound base (chain (suc most) nexts head) in
    let rest = queued_from (suc base) (suc most) nexts heads in
    let rest' = queued_from (suc base) (suc most) nexts (slice_set heads place (head_at nexts node)) in
    let many = length-parts base (chain (suc most) nexts head) rest in
    let q : Queued = record { node = node; bound = bound } in
    let later = take-out (suc base) most nexts heads place node bound is (omega arith) (omega arith) in
    IsPermutation-trans (first ++ rest) (first ++ q ∷ rest') (q ∷ (first ++ rest')) (IsPermutation-append_right first rest (q ∷ rest') later) (IsPermutation-middle first q rest')

-- heads without a node have none
pub queued-none : (base most : ℕ) (nexts heads : List (Option ℕ)) → ((k : ℕ) → k < length heads → head_at heads k ≡ None) → queued_from base most nexts heads ≡ []
queued-none base most nexts [] none = refl
queued-none base most nexts (head ∷ heads) none =
    ap (λ ns. for_bound base ns ++ queued_from (suc base) most nexts heads) (ap (chain most nexts) (none 0 (omega arith)) ∙ chain-none most nexts)
    ∙ queued-none (suc base) most nexts heads (λ k below. none (suc k) (omega arith))

for_least : (least bound : ℕ) (nodes : List ℕ) → least ≤ bound → All (λ (q : Queued). least ≤ q.bound) (for_bound bound nodes)
for_least least bound [] above k d below = absurd (omega arith)
for_least least bound (n ∷ nodes) above zero d below = above
for_least least bound (n ∷ nodes) above (suc k) d below = for_least least bound nodes above k d (omega arith)

from_least : (least base most : ℕ) (nexts heads : List (Option ℕ)) → least ≤ base → All (λ (q : Queued). least ≤ q.bound) (queued_from base most nexts heads)
from_least least base most nexts [] above = λ k d below. absurd (omega arith)
from_least least base most nexts (head ∷ heads) above =
    All-append (λ (q : Queued). least ≤ q.bound) (for_bound base (chain most nexts head)) (queued_from (suc base) most nexts heads) (for_least least base (chain most nexts head) above) (from_least least (suc base) most nexts heads (omega arith))

-- no bound is below that of the first head with a node
pub least-first : (least base most : ℕ) (nexts heads : List (Option ℕ)) (place : ℕ) → least ≡ base + place → ((k : ℕ) → k < place → head_at heads k ≡ None) → All (λ (q : Queued). least ≤ q.bound) (queued_from base most nexts heads)
least-first least base most nexts heads zero at none = from_least least base most nexts heads (omega arith)
least-first least base most nexts [] (suc place) at none = λ k d below. absurd (omega arith)
least-first least base most nexts (head ∷ heads) (suc place) at none =
    let empty : chain most nexts head ≡ [] = ap (chain most nexts) (none 0 (omega arith)) ∙ chain-none most nexts in
    let later = least-first least (suc base) most nexts heads place (omega arith) (λ k below. none (suc k) (omega arith)) in
    subst (λ ns. All (λ (q : Queued). least ≤ q.bound) (for_bound base ns ++ queued_from (suc base) most nexts heads)) (sym empty) later
