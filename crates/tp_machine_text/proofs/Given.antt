-- The same, of the slices and tables that the code looks at.
use Rattle.std.proofs.Common.{◌≡◌, ℕ, ◌≤◌, true, List, length, map, Option, Some, ap, sym, arith}
use Rattle.std.specs.Prelude.{codes}
use Rattle.std.specs.List.{list_all}
use Rattle.tp_base.specs.NameText.{is_name_text}
use Rattle.std.proofs.lemmas.List.{length-map}
use Rattle.toml.specs.Data.{Data, Members, get_member}
use Rattle.toml.specs.View.{view}
use Rattle.toml.specs.declared.value.Value.{Value}
use Rattle.tp_machine_text.specs.Words.{elements_at, members_of, table_in, keys_of, data_of, text_of, is_name, is_among, are_from}
use Rattle.tp_machine_text.specs.Keys as text
use Rattle.tp_machine_text.specs.Kept.{KeepsRules}
use Rattle.tp_machine_text.proofs.NumberFacts.{length_texts}
use Rattle.tp_machine_text.proofs.KeptFacts.{few_locations, few_from, few_resources, feeders_known, resources_named}

pub few_seen : (vs : List Value) (ds : List Data) (n : ℕ) → map view vs ≡ ds → length ds ≤ n → length vs ≤ n
few_seen vs ds n seen few =
    let e = length-map vs view in
    let s = ap length seen in
    omega arith

pub few_known : (t : Members) (k : KeepsRules t) (ds : List Data) (vs : List Value) → are_from (text.locations t) ds ≡ true → map view vs ≡ ds → length vs ≤ 256
few_known t k ds vs from seen =
    let few = few_from (text.locations t) ds from in
    let e = length_texts (elements_at (codes "locations") t) in
    let s = few_locations t k in
    few_seen vs ds 256 seen (omega arith)

pub the_members : (o : Option Members) (ms : Members) → Some ms ≡ o → members_of o ≡ ms
the_members o ms some = sym (ap members_of some)

pub feeders_given : (t : Members) (k : KeepsRules t) (ms : Members) (ds : List Data) → Some ms ≡ table_in (get_member (codes "feeders") t) → ds ≡ elements_at (codes "locations") t
    → list_all (is_among (map text_of ds)) (keys_of ms) ≡ true
feeders_given t k ms ds some seen =
    let e = the_members (table_in (get_member (codes "feeders") t)) ms some in
    rw (seen, ← e) (feeders_known t k)

pub media_given : (t : Members) (k : KeepsRules t) (ms : Members) → Some ms ≡ table_in (get_member (codes "feeders") t) → list_all is_name (data_of ms) ≡ true
media_given t k ms some =
    let e = the_members (table_in (get_member (codes "feeders") t)) ms some in
    rw (← e) k.media

-- of the table of resources: it has few keys, and each is a name
pub resources_given : (t : Members) (k : KeepsRules t) (ms : Members) → Some ms ≡ table_in (get_member (codes "resources") t) → (length (keys_of ms) ≤ 256) × (list_all is_name_text (keys_of ms) ≡ true)
resources_given t k ms some =
    let e = the_members (table_in (get_member (codes "resources") t)) ms some in
    (rw (← e) (few_resources t k), rw (← e) (resources_named t k))
