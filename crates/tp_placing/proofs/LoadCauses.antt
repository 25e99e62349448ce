-- The table of causes.
use Rattle.std.proofs.Common.{◌≡◌, ℕ, suc, ◌+◌, List, ◌∷◌, ◌++◌, length, refl, ap, ◌∙◌, arith, Some}
use Rattle.std.specs.Prelude.{slice_get}
use Rattle.std.proofs.lemmas.List.{length-append}
use Rattle.std.proofs.lemmas.Option.{slice_get_within}
use Rattle.tp_base.proofs.SliceFacts.{slice_get_left}
use Rattle.tp_placing.specs.Causes.{ArePlain, forward_tag, back_tag, line_tag, stop_tag, limit_tag}
use Rattle.tp_placing.specs.declared.causes.EdgeCause.{EdgeCause}
use Rattle.tp_placing.specs.declared.causes.EdgeCause.TheVariants.{Forward, Back, Line, Stop, Limit}
use Rattle.tp_placing.proofs.TableFacts.{get-right}

-- what stands in a list stands there behind which more is put
pub get-pushed : {X : Type 0} (xs ys zs : List X) (k : ℕ) (x : X) → zs ≡ xs ++ ys → slice_get xs k ≡ Some x → slice_get zs k ≡ Some x
get-pushed xs ys zs k x is at = rw is (slice_get_left xs ys k (slice_get_within xs k x at) ∙ at)

-- causes that stand in a table from a tag on
pub record AreCausesFrom (causes : List EdgeCause) (tag : ℕ) (cs : List EdgeCause) : Type 0 where
  pub get : (i : ℕ) (c : EdgeCause) → slice_get cs i ≡ Some c → slice_get causes (tag + i) ≡ Some c

pub causes-tail : (causes : List EdgeCause) (tag : ℕ) (c : EdgeCause) (cs : List EdgeCause) → AreCausesFrom causes tag (c ∷ cs) → AreCausesFrom causes (suc tag) cs
causes-tail causes tag c cs from = record {
  get = λ i d at. let e : suc tag + i ≡ tag + suc i = omega arith in ap (λ k. slice_get causes k) e ∙ from.get (suc i) d at;
}

pub causes-left : (causes : List EdgeCause) (tag : ℕ) (cs ds : List EdgeCause) → AreCausesFrom causes tag (cs ++ ds) → AreCausesFrom causes tag cs
causes-left causes tag cs ds from = record { get = λ i c at. from.get i c (slice_get_left cs ds i (slice_get_within cs i c at) ∙ at) }

pub causes-right : (causes : List EdgeCause) (tag : ℕ) (cs ds : List EdgeCause) → AreCausesFrom causes tag (cs ++ ds) → AreCausesFrom causes (tag + length cs) ds
causes-right causes tag cs ds from = record {
  get = λ i c at. let e : tag + length cs + i ≡ tag + (length cs + i) = omega arith in ap (λ k. slice_get causes k) e ∙ from.get (length cs + i) c (get-right cs ds i ∙ at);
}

pub causes-behind : (base cs : List EdgeCause) → AreCausesFrom (base ++ cs) (length base) cs
causes-behind base cs = record { get = λ i c at. get-right base cs i ∙ at }

-- a table stays plain with more behind it
pub plain-more : (base cs : List EdgeCause) → ArePlain base → ArePlain (base ++ cs)
plain-more base cs plain = record {
  forward = get-pushed base cs (base ++ cs) forward_tag Forward refl plain.forward;
  back = get-pushed base cs (base ++ cs) back_tag Back refl plain.back;
  line = get-pushed base cs (base ++ cs) line_tag Line refl plain.line;
  stop = get-pushed base cs (base ++ cs) stop_tag Stop refl plain.stop;
  limit = get-pushed base cs (base ++ cs) limit_tag Limit refl plain.limit;
  slots = let slots = plain.slots in let l = length-append base cs in omega arith;
}
