-- What a farm is seen as, and what it keeps.
use Rattle.std.specs.Prelude.{◌≡◌, ℕ, ◌+◌, ◌≤◌, List, [], ◌++◌, length, map, slice_index_or, slice_set, All, Result, IfOk, OnOk}
use Rattle.tp_script.specs.declared.event.Event.{Event}
use Rattle.tp_stream.specs.declared.probe.Probe.{Probe}
use Rattle.tp_farm.specs.Farms.{FarmState, TellsAt, farm_of}
use Rattle.tp_farm.specs.declared.whom.Whom.{Whom}

-- the tellers, the machines of the jobs that were accepted, and how many lines were done
pub record FarmValue (T : Type 0) : Type 0 where
  pub tellers : List T
  pub homes : List (List ℕ × ℕ)
  pub lines : ℕ

-- the farm as its tellers' states
abbrev pub state_of : {T S : Type 0} → (T → S) → FarmValue T → FarmState S
state_of state farm = farm_of (map state farm.tellers) farm.homes

module _ {T : Type 0} (text : T → List ℕ) (answered : T → ℕ) where
  -- a teller has no text, and answered at most so many events
  abbrev pub IsReady : ℕ → T → Type 0
  IsReady most teller = (text teller ≡ []) × (answered teller ≤ most)

  -- between lines there are 1 to 8 tellers, which have answered no more events than there were lines
  pub record IsFarm (tellers : List T) (lines : ℕ) : Type 0 where
    pub some : 1 ≤ length tellers
    pub few : length tellers ≤ 8
    pub ready : All (IsReady lines) tellers

module _ {T S E : Type 0} (state : T → S) (text : T → List ℕ) (answered : T → ℕ) where
  -- the teller at the place was probed, and stays in what answers depend on
  pub record IsProbedAt (probes : S → Event → Probe → Type 0) (event : Event) (at : ℕ) (before after : List T) (result : Result Probe E) : Type 0 where
    pub teller : T
    pub put : after ≡ slice_set before at teller
    pub state_stays : state teller ≡ state (slice_index_or before at teller)
    pub text_stays : text teller ≡ text (slice_index_or before at teller)
    pub count_stays : answered teller ≡ answered (slice_index_or before at teller)
    pub probed : IfOk result (probes (state (slice_index_or before at teller)) event)

  -- the event was sent to the teller at the place, if it is for that one
  pub record IsToldAt (tells : S → Event → List ℕ → S → Type 0) (whom : Whom) (event : Event) (at : ℕ) (before after : List T) (out out' : List ℕ)
      (result : Result (Unit {0}) E) : Type 0 where
    pub teller : T
    pub put : after ≡ slice_set before at teller
    pub clear : text teller ≡ []
    pub counted : answered teller ≤ answered (slice_index_or before at teller) + 1
    pub told : OnOk result ((told : List ℕ) × TellsAt tells whom event (at + 1) (state (slice_index_or before at teller)) told (state teller) × (out' ≡ out ++ told))
