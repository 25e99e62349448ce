-- Which machine a job goes to, by what the probes of all machines answer.
use Rattle.std.specs.Prelude.{ℕ, min, Bool, true, false, not, ◌==◌, List, [], ◌∷◌, Option, Some, None, position, slice_get, unwrap_or}
use Rattle.tp_stream.specs.declared.probe.Probe.{Probe}
use Rattle.tp_stream.specs.declared.probe.Probe.TheVariants.{Ends, Refused}

abbrev pub end_of : Probe → Option ℕ
end_of (Ends end) = Some end
end_of _ = None

abbrev pub lesser : Option ℕ → Option ℕ → Option ℕ
lesser None other = other
lesser (Some end) None = Some end
lesser (Some end) (Some other) = Some (min end other)

-- the least end that is answered
abbrev pub least_end : List Probe → Option ℕ
least_end [] = None
least_end (answer ∷ answers) = lesser (end_of answer) (least_end answers)

abbrev pub is_end : ℕ → Probe → Bool
is_end end (Ends other) = other == end
is_end end _ = false

abbrev pub is_refused : Probe → Bool
is_refused Refused = true
is_refused _ = false

abbrev pub place_by : Option ℕ → List Probe → ℕ
place_by (Some end) answers = unwrap_or (position (is_end end) answers) 0
place_by None answers = unwrap_or (position (λ answer. not (is_refused answer)) answers) 0

-- the place of the machine, counted from 0: the first with the least end. Where no end is answered, the first that doesn't refuse;
-- and where all do, the first
abbrev pub place_for : List Probe → ℕ
place_for answers = place_by (least_end answers) answers

abbrev pub accepts : Option Probe → Bool
accepts None = false
accepts (Some answer) = not (is_refused answer)

-- the machine at the place accepts the job
abbrev pub is_accepted : List Probe → ℕ → Bool
is_accepted answers place = accepts (slice_get answers place)
