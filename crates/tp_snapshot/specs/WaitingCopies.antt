-- The waiting copies of a snapshot.
use Rattle.std.specs.Prelude.{ℕ, List, Option, Some, None, codes, if◌then◌else◌}
use Rattle.serde_json.specs.Data.{Data}
use Rattle.tp_words.specs.Fields.{◌>>=◌}
use Rattle.tp_jobs.specs.declared.parts.WaitingCopy.{WaitingCopy}
use Rattle.tp_snapshot.specs.Copies.{copy_in, want_in}
use Rattle.tp_snapshot.specs.Values.{each_of, field_of, has_members}

unfoldable pub wait_from : List (List ℕ) → Data → Option WaitingCopy
wait_from names d = do
  sheet ← field_of (codes "sheet") (copy_in names) d
  want ← field_of (codes "want") want_in d
  Some (record { sheet = sheet; want = want })

-- an object of `sheet` and `want`, and nothing else
unfoldable pub wait_of : List (List ℕ) → Data → Option WaitingCopy
wait_of names d = if has_members 2 d then wait_from names d else None

abbrev pub waiting_of : List (List ℕ) → Data → Option (List WaitingCopy)
waiting_of names d = each_of 4352 (codes "waiting") (wait_of names) d
