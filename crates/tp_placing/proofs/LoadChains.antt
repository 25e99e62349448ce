-- The holds of an order, one after another.
use Rattle.std.proofs.Common.{◌≡◌, ℕ, zero, suc, ◌+◌, ◌-◌, ◌<◌, ◌≤◌, List, [], ◌∷◌, ◌++◌, length, drop, refl, ap, sym, arith, ◌∙◌, Some, get_or}
use Rattle.std.proofs.lemmas.List.{append_assoc, length-append, length-drop}
use Rattle.std.proofs.lemmas.List.Elements.{All-head, All-tail}
use Rattle.std.specs.List.{slice_get}
use Rattle.std.proofs.lemmas.Option.{slice_get-get_or}
use Rattle.tp_base.proofs.SliceFacts.{found, All-at}
use Rattle.tp_base.specs.declared.edges.Edge.{Edge}
use Rattle.tp_placing.specs.declared.parts.Held.{Held}
use Rattle.tp_placing.specs.Causes.{cause_between}
use Rattle.tp_placing.specs.declared.causes.EdgeCause.{EdgeCause}
use Rattle.tp_machine.specs.Modes.{gap_at}
use Rattle.tp_machine.specs.declared.machine.Machine.{Machine}
use Rattle.tp_placing.specs.Edges.{hold_edge}
use Rattle.tp_placing.specs.LoadedNet.{with_hold, holds_in, AreIds, chain_causes, chain_edges, chains_causes, chains_edges}
use Rattle.tp_placing.proofs.LoadHolds.{drop-get}

pub holds-head : (held : List Held) (id : ℕ) (ids : List ℕ) → id < length held → (h : Held) × (slice_get held id ≡ Some h) × (holds_in held (id ∷ ids) ≡ h ∷ holds_in held ids)
holds-head held id ids within = let f = found held id within in (f.0, f.1, ap (λ o. with_hold o (holds_in held ids)) f.1)

pub length-holds : (held : List Held) (ids : List ℕ) → AreIds held ids → length (holds_in held ids) ≡ length ids
length-holds held [] known = refl
length-holds held (id ∷ ids) known =
    let f = holds-head held id ids (All-head (λ i. i < length held) id ids known) in
    ap length f.2 ∙ ap suc (length-holds held ids (All-tail (λ i. i < length held) id ids known))

pub holds-get : (held : List Held) (ids : List ℕ) (k id : ℕ) (h : Held) → AreIds held ids → slice_get ids k ≡ Some id → slice_get held id ≡ Some h → slice_get (holds_in held ids) k ≡ Some h
holds-get held [] k id h known at is = absurd cc
holds-get held (i ∷ ids) zero id h known at is = let same : i ≡ id = cc in
    ap (λ o. slice_get (with_hold o (holds_in held ids)) 0) (ap (λ j. slice_get held j) same ∙ is)
holds-get held (i ∷ ids) (suc k) id h known at is =
    let f = holds-head held i ids (All-head (λ j. j < length held) i ids known) in
    ap (λ hs. slice_get hs (suc k)) f.2 ∙ holds-get held ids k id h (All-tail (λ j. j < length held) i ids known) at is

-- the hold that a number reads stands at the number's place
pub holds-read : (held : List Held) (ids : List ℕ) (place id : ℕ) (d : Held) → AreIds held ids → slice_get ids place ≡ Some id → slice_get (holds_in held ids) place ≡ Some (get_or held id d)
holds-read held ids place id d known at =
    holds-get held ids place id (get_or held id d) known at (slice_get-get_or held id d (All-at (λ i. i < length held) ids place id known at))

-- two neighbours are the first of what is left of holds at a place of a loop that counts from 1
pub record LeavesTwo (hs : List Held) (place : ℕ) (x y : Held) : Type 0 where
  pub rest : List Held
  pub from : drop (place - 1) hs ≡ x ∷ y ∷ rest
  pub next : drop (place + 1 - 1) hs ≡ y ∷ rest

pub two-read : (held : List Held) (ids : List ℕ) (place i j : ℕ) (d : Held) → AreIds held ids → 1 ≤ place → slice_get ids (place - 1) ≡ Some i → slice_get ids place ≡ Some j
    → LeavesTwo (holds_in held ids) place (get_or held i d) (get_or held j d)
two-read held ids place i j d known from a b =
    let hs = holds_in held ids in
    let x = get_or held i d in
    let n = drop-get hs place (get_or held j d) (holds-read held ids place j d known b) in
    let e : place - 1 + 1 ≡ place = omega arith in
    let f : place + 1 - 1 ≡ place = omega arith in
    record {
      rest = drop (place + 1) hs;
      from = drop-get hs (place - 1) x (holds-read held ids (place - 1) i d known a) ∙ ap (λ k. x ∷ drop k hs) e ∙ ap (λ zs. x ∷ zs) n;
      next = ap (λ k. drop k hs) f ∙ n;
    }

-- their edge and their cause are the first of what is left
module _ (hs : List Held) (place : ℕ) (x y : Held) (two : LeavesTwo hs place x y) where
  pub edges-read : (g tag given next : ℕ) (e : Edge) → e ≡ hold_edge g x y given → given ≡ tag → next ≡ tag + 1 → chain_edges g tag (drop (place - 1) hs) ≡ (e ∷ []) ++ chain_edges g next (drop (place + 1 - 1) hs)
  edges-read g tag given next e is right same =
      let s : suc tag ≡ next = omega arith in
      ap (chain_edges g tag) two.from ∙ ap (λ z. z ∷ chain_edges g (suc tag) (y ∷ two.rest)) (sym (is ∙ ap (hold_edge g x y) right)) ∙ ap (λ n. e ∷ chain_edges g n (y ∷ two.rest)) s ∙ ap (λ zs. e ∷ chain_edges g next zs) (sym two.next)

  pub causes-read : (causes next : List EdgeCause) (cause : EdgeCause) → cause ≡ cause_between x y → next ≡ causes ++ cause ∷ [] → next ++ chain_causes (drop (place + 1 - 1) hs) ≡ causes ++ chain_causes (drop (place - 1) hs)
  causes-read causes next cause is same =
      ap (λ zs. zs ++ chain_causes (drop (place + 1 - 1) hs)) same ∙ append_assoc causes (cause ∷ []) (chain_causes (drop (place + 1 - 1) hs)) ∙ ap (λ zs. causes ++ cause ∷ chain_causes zs) two.next
      ∙ ap (λ z. causes ++ z ∷ chain_causes (y ∷ two.rest)) is ∙ ap (λ zs. causes ++ chain_causes zs) (sym two.from)

  -- so there is room for the cause, where there is for all
  pub cause-fits : (causes all : List EdgeCause) (cause : EdgeCause) (most : ℕ) → cause ≡ cause_between x y → causes ++ chain_causes (drop (place - 1) hs) ≡ all → length all ≤ most → length causes < most
  cause-fits causes all cause most is same few =
      let e = ap (λ z. length (causes ++ z ∷ chain_causes (y ∷ two.rest))) is ∙ ap (λ zs. length (causes ++ chain_causes zs)) (sym two.from) ∙ ap length same in
      let l = length-append causes (cause ∷ chain_causes (y ∷ two.rest)) in
      omega arith

-- nothing is left of one hold
one-left : (g : ℕ) (hs : List Held) (tag : ℕ) → length hs ≤ 1 → (chain_edges g tag hs ≡ []) × (chain_causes hs ≡ [])
one-left g [] tag short = (refl, refl)
one-left g (h ∷ []) tag short = (refl, refl)
one-left gap (g ∷ h ∷ hs) tag short = absurd (omega arith)

pub none-left : (g : ℕ) (held : List Held) (ids : List ℕ) (place tag : ℕ) → AreIds held ids → 1 ≤ place → length ids ≤ place
    → (chain_edges g tag (drop (place - 1) (holds_in held ids)) ≡ []) × (chain_causes (drop (place - 1) (holds_in held ids)) ≡ [])
none-left g held ids place tag known from short =
    let l = length-holds held ids known in
    let d = length-drop (place - 1) (holds_in held ids) in
    one-left g (drop (place - 1) (holds_in held ids)) tag (omega arith)

-- the chain of the last resource comes first
pub chains-more : (machine : Machine) (g tag next : ℕ) (orders : ℕ → List Held) (left : ℕ) → 0 < left → g ≡ gap_at machine (left - 1) → next ≡ tag + length (chain_causes (orders (left - 1)))
    → chains_edges machine tag orders left ≡ chain_edges g tag (orders (left - 1)) ++ chains_edges machine next orders (left - 1)
chains-more machine g tag next orders zero some its same = absurd (omega arith)
chains-more machine g tag next orders (suc n) some its same =
    let e : n ≡ suc n - 1 = omega arith in
    ap (λ k. chain_edges (gap_at machine k) tag (orders k) ++ chains_edges machine (tag + length (chain_causes (orders k))) orders k) e
    ∙ ap (λ t. chain_edges (gap_at machine (suc n - 1)) tag (orders (suc n - 1)) ++ chains_edges machine t orders (suc n - 1)) (sym same)
    ∙ ap (λ d. chain_edges d tag (orders (suc n - 1)) ++ chains_edges machine next orders (suc n - 1)) (sym its)

pub causes-more : (orders : ℕ → List Held) (left : ℕ) → 0 < left → chains_causes orders left ≡ chain_causes (orders (left - 1)) ++ chains_causes orders (left - 1)
causes-more orders zero some = absurd (omega arith)
causes-more orders (suc n) some = let e : n ≡ suc n - 1 = omega arith in ap (λ k. chain_causes (orders k) ++ chains_causes orders k) e
