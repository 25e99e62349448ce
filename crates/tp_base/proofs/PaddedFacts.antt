-- Lists as they are at their full length.
use Rattle.std.proofs.Common.{◌≡◌, ℕ, zero, suc, ◌+◌, ◌-◌, ◌<◌, ◌≤◌, List, [], ◌∷◌, ◌++◌, length, get_or, replicate, set, take, refl, ap, ◌∙◌, arith}
use Rattle.std.proofs.lemmas.List.{length-replicate, take_all}
use Rattle.tp_base.specs.Padded.{padded}

pub length-padded : {T : Type 0} (filler : T) (most : ℕ) (items : List T) → length items ≤ most → length (padded filler most items) ≡ most
length-padded filler most [] within = length-replicate most filler
length-padded filler zero (item ∷ items) within = absurd (omega arith)
length-padded filler (suc most) (item ∷ items) within = let l = length-padded filler most items (omega arith) in omega arith

replicated : {T : Type 0} (filler : T) (most k : ℕ) → get_or (replicate most filler) k filler ≡ filler
replicated filler zero k = refl
replicated filler (suc most) zero = refl
replicated filler (suc most) (suc k) = replicated filler most k

-- an item that is not there is the filler
pub padded-at : {T : Type 0} (filler : T) (most : ℕ) (items : List T) (k : ℕ) → get_or (padded filler most items) k filler ≡ get_or items k filler
padded-at filler most [] k = replicated filler most k
padded-at filler zero (item ∷ items) k = refl
padded-at filler (suc most) (item ∷ items) zero = refl
padded-at filler (suc most) (item ∷ items) (suc k) = padded-at filler most items k

replicated-padded : {T : Type 0} (filler : T) (most n : ℕ) → n ≤ most → padded filler most (replicate n filler) ≡ replicate most filler
replicated-padded filler most zero within = refl
replicated-padded filler zero (suc n) within = absurd (omega arith)
replicated-padded filler (suc most) (suc n) within = ap (λ xs. filler ∷ xs) (replicated-padded filler most n (omega arith))

-- more fillers change nothing
pub padded-more : {T : Type 0} (filler : T) (most : ℕ) (items : List T) (n : ℕ) → length items + n ≤ most → padded filler most (items ++ replicate n filler) ≡ padded filler most items
padded-more filler most [] n within = replicated-padded filler most n (omega arith)
padded-more filler zero (item ∷ items) n within = absurd (omega arith)
padded-more filler (suc most) (item ∷ items) n within = ap (λ xs. item ∷ xs) (padded-more filler most items n (omega arith))

-- an item that is set
pub padded-set : {T : Type 0} (filler : T) (most : ℕ) (items : List T) (k : ℕ) (item : T) → k < length items → padded filler most (set items k item) ≡ set (padded filler most items) k item
padded-set filler most [] k item there = absurd (omega arith)
padded-set filler zero (first ∷ items) zero item there = refl
padded-set filler zero (first ∷ items) (suc k) item there = refl
padded-set filler (suc most) (first ∷ items) zero item there = refl
padded-set filler (suc most) (first ∷ items) (suc k) item there = ap (λ xs. first ∷ xs) (padded-set filler most items k item (omega arith))

-- a list that was made longer with fillers
pub padded-grown : {T : Type 0} (filler : T) (most : ℕ) (items grown : List T) (many count : ℕ) → many ≡ length items → many ≤ count → count ≤ most → grown ≡ take count items ++ replicate (count - many) filler → padded filler most grown ≡ padded filler most items
padded-grown filler most items grown many count are fewer within is =
    ap (padded filler most) (is ∙ ap (λ xs. xs ++ replicate (count - many) filler) (take_all count items (omega arith))) ∙ padded-more filler most items (count - many) (omega arith)
