-- Keys of a table as the code sees them, found by their place.
use Rattle.std.proofs.Common.{◌≡◌, ℕ, ◌+◌, zero-add, Bool, not, cond, List, [], ◌∷◌, length, map, position, String, Global, BTreeMap, string_bytes, refl, ap, sym, ◌∙◌}
use Rattle.std.specs.List.{prefix_len}
use Rattle.std.specs.Map.{keys_of as map_keys, values_of as map_values}
use Rattle.std.proofs.lemmas.List.{length-map}
use Rattle.toml.specs.View.{members_view, table_view, view}
use Rattle.toml.specs.declared.value.Value.{Value}
use Rattle.tp_machine_text.specs.Words.{data_of, keys_of}
use Rattle.tp_machine_text.proofs.Seen.{data_seen, keys_seen}

prefix_len-map : {X Y : Type 0} (p : X → Bool) (h : Y → X) (ys : List Y) → prefix_len p (map h ys) ≡ prefix_len (λ y. p (h y)) ys
prefix_len-map p h [] = refl
prefix_len-map p h (y ∷ ys) = ap (λ n. cond (p (h y)) (1 + n) 0) (prefix_len-map p h ys)

position-map : {X Y : Type 0} (p : X → Bool) (h : Y → X) (ys : List Y) → position p (map h ys) ≡ position (λ y. p (h y)) ys
position-map p h ys = rw (prefix_len-map (λ x. not (p x)) h ys, length-map ys h) refl

pub keys_found : (p : List ℕ → Bool) (m : BTreeMap (String Global) Value) → position (λ k. p (string_bytes k)) (map_keys m.entries) ≡ position p (keys_of (table_view m))
keys_found p m = sym (ap (position p) (keys_seen m.entries) ∙ position-map p string_bytes (map_keys m.entries))

pub values_found : (es : List (String Global × Value)) (vs : List Value) → vs ≡ map_values es → map view vs ≡ data_of (members_view es)
values_found es vs same = rw same (sym (data_seen es))

pub keys_named : (es : List (String Global × Value)) (ks : List (String Global)) → ks ≡ map_keys es → map string_bytes ks ≡ keys_of (members_view es)
keys_named es ks same = rw same (sym (keys_seen es))

pub values_counted : (es : List (String Global × Value)) (vs : List Value) → vs ≡ map_values es → 0 + length vs ≡ length (data_of (members_view es))
values_counted es vs same = rw (data_seen es, same) (zero-add _ ∙ sym (length-map (map_values es) view))

pub length_data : (es : List (String Global × Value)) → length (data_of (members_view es)) ≡ length es
length_data es = rw (data_seen es) (length-map (map_values es) view ∙ length-map es (λ e. e.1))
