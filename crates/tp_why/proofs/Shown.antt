-- How an array and a table stand in a sentence.
use Rattle.std.proofs.Common.{◌≡◌, ℕ, ◌∷◌, ◌++◌, length, refl, Some}
use Rattle.std.specs.Prelude.{codes}
use Rattle.std.specs.Fmt.{decimal}
use Rattle.toml.specs.Data.{Data, array, table, Items, Members}
use Rattle.tp_machine_text.specs.Words.{elements_in, keys_of, members_of, table_in}
use Rattle.tp_why.specs.Sentences.{shown}

pub array_shown : (d : Data) (ds : Items) (n : ℕ) → d ≡ array ds → n ≡ length (elements_in (Some d)) → (codes "an array of" ++ 32 ∷ decimal n ++ 32 ∷ codes "values") ≡ shown d
array_shown d ds n is same = rw (same, is) refl

pub table_shown : (d : Data) (ms : Members) (n : ℕ) → d ≡ table ms → n ≡ length (keys_of (members_of (table_in (Some d)))) → (codes "a table of" ++ 32 ∷ decimal n ++ 32 ∷ codes "keys") ≡ shown d
table_shown d ms n is same = rw (same, is) refl
