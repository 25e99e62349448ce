-- An edit of one vector as an edit of one order.
use Rattle.std.proofs.Common.{◌≡◌, ℕ, ◌<◌, ◌≤◌, List, [], length, get_or, set, sym, ap, ◌∙◌, arith}
use Rattle.std.proofs.lemmas.List.{get_or-map, map-set, length-map}
use Rattle.std.proofs.lemmas.List.Elements.{All-set}
use Rattle.std.specs.List.{insert, remove}
use Rattle.std.specs.Prelude.{Vec, vec_capacity}
use Rattle.std.specs.declared.alloc.Global.{Global}
use Rattle.tp_timelines.specs.declared.inserts.Insert.{Insert}
use Rattle.tp_timelines.specs.Orders.{numbers_of, order_on, HaveCapacity}
use Rattle.tp_timelines.specs.Inserts.{without}

pub length-numbers : (vs : List (Vec ℕ Global)) → length (numbers_of vs) ≡ length vs
length-numbers vs = length-map vs (λ (v : Vec ℕ Global). v.items)

module _ (vs : List (Vec ℕ Global)) (r : ℕ) (v : Vec ℕ Global) (known : r < length vs) (read : v ≡ get_or vs r v) where
  pub order_at : order_on (numbers_of vs) r ≡ v.items
  order_at = get_or-map (λ (v : Vec ℕ Global). v.items) vs r v [] known ∙ ap (λ (v : Vec ℕ Global). v.items) (sym read)

  pub numbers-insert : (w : Vec ℕ Global) (place x : ℕ) → w.items ≡ insert v.items place x → numbers_of (set vs r w) ≡ set (numbers_of vs) r (insert (order_on (numbers_of vs) r) place x)
  numbers-insert w place x e = map-set (λ (v : Vec ℕ Global). v.items) vs r w ∙ ap (set (numbers_of vs) r) (e ∙ ap (λ xs. insert xs place x) (sym order_at))

  pub HaveCapacity-set : (w : Vec ℕ Global) (holds : ℕ) → vec_capacity v ≤ vec_capacity w → HaveCapacity holds vs → HaveCapacity holds (set vs r w)
  HaveCapacity-set w holds h all =
      let k = all r v known in
      let e = ap (λ v. vec_capacity v) read in
      All-set (λ v. holds ≤ vec_capacity v) vs r w (omega arith) all

pub numbers-remove : (vs : List (Vec ℕ Global)) (i : Insert) (v w : Vec ℕ Global) → i.resource.0 < length vs → v ≡ get_or vs i.resource.0 v → w.items ≡ remove v.items i.place → numbers_of (set vs i.resource.0 w) ≡ without i (numbers_of vs)
numbers-remove vs i v w known read e =
    map-set (λ (v : Vec ℕ Global). v.items) vs i.resource.0 w
    ∙ ap (set (numbers_of vs) i.resource.0) (e ∙ ap (λ xs. remove xs i.place) (sym (order_at vs i.resource.0 v known read)))
