-- The moment of a snapshot, the modules that are out, and what is free at the feeders.
use Rattle.std.specs.Prelude.{ℕ, suc, Bool, false, List, [], ◌∷◌, Option, Some, None, option_map, codes, if◌then◌else◌}
use Rattle.std.specs.Str.{bytes_eq}
use Rattle.serde_json.specs.Data.{Data, null, string}
use Rattle.tp_machine.specs.ModuleUse.{put_out}
use Rattle.tp_machine.specs.declared.machine.Machine.{Machine}
use Rattle.tp_machine.specs.declared.parts.Feeder.{Feeder}
use Rattle.tp_machine.specs.declared.parts.Outs.{Outs}
use Rattle.tp_schedule.specs.PlannerAnswers.{last_tick}
use Rattle.tp_words.specs.Fields.{◌>>=◌}
use Rattle.tp_session_standing.specs.Sound.{most_free}
use Rattle.tp_snapshot.specs.Values.{field_of, list_of, whole_of}

abbrev pub now_of : Data → Option ℕ
now_of d = field_of (codes "now") (whole_of last_tick) d

abbrev pub is_text : List ℕ → Data → Bool
is_text name (string text) = bytes_eq text name
is_text name _ = false

-- the values name modules in the order of these, of which the first has the number n: they are out, with those before
unfoldable pub out_from : ℕ → List (List ℕ) → List Data → Outs → Option Outs
out_from n [] [] outs = Some outs
out_from n [] (d ∷ ds) outs = None
out_from n (m ∷ modules) [] outs = Some outs
out_from n (m ∷ modules) (d ∷ ds) outs =
    if is_text m d then out_from (suc n) modules ds (put_out outs n) else out_from (suc n) modules (d ∷ ds) outs

abbrev pub none_out : Outs
none_out = record { 0 = 0 }

abbrev pub outs_of : Machine → Data → Option Outs
outs_of machine d = do
  ds ← field_of (codes "out") list_of d
  out_from 0 machine.modules ds none_out

-- null where the feeder has no end, and else a whole number of at most 1,000,256
abbrev pub free_in : Option ℕ → Data → Option (Option ℕ)
free_in None null = Some None
free_in None _ = None
free_in (Some stock) d = option_map (λ free. Some free) (whole_of most_free d)

unfoldable pub stock_from : List Feeder → List Data → Option (List (Option ℕ))
stock_from [] [] = Some []
stock_from [] (d ∷ ds) = None
stock_from (f ∷ feeders) [] = None
stock_from (f ∷ feeders) (d ∷ ds) = do
  free ← free_in f.stock d
  rest ← stock_from feeders ds
  Some (free ∷ rest)

abbrev pub stock_of : Machine → Data → Option (List (Option ℕ))
stock_of machine d = do
  ds ← field_of (codes "stock") list_of d
  stock_from machine.feeders ds
