-- Slices, arrays and tables of the code beside the lists that the rules look at.
use Rattle.std.proofs.Common.{◌≡◌, ℕ, Bool, ◌&&◌, ◌||◌, List, [], ◌∷◌, map, String, Global, BTreeMap, string_bytes, refl, ap, sym, ◌∙◌}
use Rattle.std.specs.List.{list_all, list_any}
use Rattle.std.specs.Map.{keys_of as map_keys, values_of as map_values}
use Rattle.std.proofs.lemmas.List.{length-map}
use Rattle.toml.specs.Data.{Data}
use Rattle.toml.specs.View.{view, items_of, items_view, members_view, table_view}
use Rattle.toml.specs.declared.value.Value.{Value}
use Rattle.tp_machine_text.specs.Words.{values_of, keys_of, data_of}

pub list_all-map : {X Y : Type 0} (p : X → Bool) (h : Y → X) (ys : List Y) → list_all p (map h ys) ≡ list_all (λ y. p (h y)) ys
list_all-map p h [] = refl
list_all-map p h (y ∷ ys) = ap (λ b. p (h y) && b) (list_all-map p h ys)

pub list_any-map : {X Y : Type 0} (p : X → Bool) (h : Y → X) (ys : List Y) → list_any p (map h ys) ≡ list_any (λ y. p (h y)) ys
list_any-map p h [] = refl
list_any-map p h (y ∷ ys) = ap (λ b. p (h y) || b) (list_any-map p h ys)

pub map-map : {X Y Z : Type 0} (f : Y → Z) (g : X → Y) (xs : List X) → map f (map g xs) ≡ map (λ x. f (g x)) xs
map-map f g [] = refl
map-map f g (x ∷ xs) = ap (λ t. f (g x) ∷ t) (map-map f g xs)

pub values_of-items : (ds : List Data) → values_of (items_of ds) ≡ ds
values_of-items [] = refl
values_of-items (d ∷ ds) = ap (λ t. d ∷ t) (values_of-items ds)

pub values_seen : (vs : List Value) → values_of (items_view vs) ≡ map view vs
values_seen vs = values_of-items (map view vs)

pub keys_seen : (es : List (String Global × Value)) → keys_of (members_view es) ≡ map string_bytes (map_keys es)
keys_seen [] = refl
keys_seen (e ∷ es) = ap (λ t. string_bytes e.0 ∷ t) (keys_seen es)

pub data_seen : (es : List (String Global × Value)) → data_of (members_view es) ≡ map view (map_values es)
data_seen [] = refl
data_seen (e ∷ es) = ap (λ t. view e.1 ∷ t) (data_seen es)

pub ruleset seen = (list_all-map, list_any-map, map-map, length-map, values_seen, keys_seen, data_seen)

-- a test of each key of a table
pub keys_pass : (p : List ℕ → Bool) (m : BTreeMap (String Global) Value) → list_all (λ k. p (string_bytes k)) (map_keys m.entries) ≡ list_all p (keys_of (table_view m))
keys_pass p m = sym (ap (list_all p) (keys_seen m.entries) ∙ list_all-map p string_bytes (map_keys m.entries))

-- a test of each value that the code sees, and the same test of what it sees
pub all_seen : {A D : Type 0} (see : A → D) (p q : D → Bool) (vs : List A) (ds : List D) → ((d : D) → p d ≡ q d) → map see vs ≡ ds → list_all (λ v. p (see v)) vs ≡ list_all q ds
all_seen see p q [] ds same seen = rw (← seen)
all_seen see p q (v ∷ vs) ds same seen = rw (← seen, same (see v)) (ap (λ b. q (see v) && b) (all_seen see p q vs (map see vs) same refl))
