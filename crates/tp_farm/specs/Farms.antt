-- A farm of machines: where the event of a line is sent, what is reported of it, and what each machine is sent.
use Rattle.std.specs.Prelude.{◌≡◌, ℕ, ◌+◌, ◌==◌, Bool, true, List, [], ◌∷◌, ◌++◌, length, map, filter, slice_get, Option, Some, if◌then◌else◌}
use Rattle.std.specs.Bool.{MatchBool}
use Rattle.std.specs.List.{AllZip}
use Rattle.std.specs.Map.{lookup}
use Rattle.std.specs.Option.{MatchOption}
use Rattle.std.specs.Str.{bytes_eq}
use Rattle.tp_script.specs.declared.event.Event.{Event}
use Rattle.tp_script.specs.declared.event.Event.TheVariants.{Job, Clock}
use Rattle.tp_stream.specs.Takes.{ends_whole}
use Rattle.tp_stream.specs.Tellers.{TellsAll}
use Rattle.tp_stream.specs.declared.probe.Probe.{Probe}
use Rattle.tp_farm.specs.Addresses.{line_address}
use Rattle.tp_farm.specs.MachineChoice.{is_accepted, place_for}
use Rattle.tp_farm.specs.Numbered.{numbered, told_by}
use Rattle.tp_farm.specs.declared.address.Addressed.{Addressed}
use Rattle.tp_farm.specs.declared.whom.Whom.{Whom}
use Rattle.tp_farm.specs.declared.whom.Whom.TheVariants.{Every, One}

-- the states of the machines, of which the first has number 1; and the jobs that were accepted, each with the number of the
-- machine that accepted it
pub record FarmState (S : Type 0) : Type 0 where
  pub machines : List S
  pub homes : List (List ℕ × ℕ)

abbrev pub farm_of : {S : Type 0} → List S → List (List ℕ × ℕ) → FarmState S
farm_of machines homes = record { machines = machines; homes = homes }

-- the machine that accepted a job of this name
abbrev pub home_of : List ℕ → List (List ℕ × ℕ) → Option ℕ
home_of name homes = lookup (bytes_eq name) homes

-- whether an event is sent to the machine
abbrev pub is_for : Whom → ℕ → Bool
is_for Every number = true
is_for (One other) number = other == number

-- an event, and the machines that it is sent to
pub record Sent : Type 0 where
  pub event : Event
  pub whom : Whom

-- the events that a machine is sent, in their order
abbrev pub sent_to : ℕ → List Sent → List Event
sent_to number sent = map (λ s. s.event) (filter (λ s. is_for s.whom number) sent)

-- ---- where an event is sent

module _ {S : Type 0} (probes : S → Event → Probe → Type 0) where
  -- a job of a new name: each machine is probed, the answers say to which it goes, and that one keeps the name if it accepts the job
  pub record IsPlaced (farm : FarmState S) (name : List ℕ) (event : Event) (number : ℕ) (homes' : List (List ℕ × ℕ)) : Type 0 where
    pub answers : List Probe
    pub probed : AllZip (λ s answer. probes s event answer) farm.machines answers
    pub chosen : number ≡ place_for answers + 1
    pub kept : homes' ≡ (if is_accepted answers (place_for answers) then farm.homes ++ (name, number) ∷ [] else farm.homes)

  -- a job of a name that was accepted before goes to the machine that accepted it
  abbrev pub GoesTo : FarmState S → List ℕ → Event → ℕ → List (List ℕ × ℕ) → Type 0
  GoesTo farm name event number homes' =
      MatchOption (home_of name farm.homes) (IsPlaced farm name event number homes') (λ home. (number ≡ home) × (homes' ≡ farm.homes))

  -- a move of the clock is sent to all machines, a job to one of them, any other event to the one that the line names
  abbrev pub IsSent : FarmState S → Event → ℕ → Whom → List (List ℕ × ℕ) → Type 0
  IsSent farm (Clock to) named whom homes' = (whom ≡ Every) × (homes' ≡ farm.homes)
  IsSent farm (Job name tray media groups) named whom homes' =
      (number : ℕ) × (whom ≡ One number) × GoesTo farm name (Job name tray media groups) number homes'
  IsSent farm event named whom homes' = (whom ≡ One named) × (homes' ≡ farm.homes)

-- ---- what is reported of it

module _ {S : Type 0} (tells : S → Event → List ℕ → S → Type 0) where
  -- a machine that an event is sent to does its step, and its text is reported with its number before each line. Any other stays
  abbrev pub TellsAt : Whom → Event → ℕ → S → List ℕ → S → Type 0
  TellsAt whom event number s text s' =
      MatchBool (is_for whom number) ((told : List ℕ) × tells s event told s' × (text ≡ numbered number told)) ((text ≡ []) × (s' ≡ s))

  -- so from this number on, in the order of the numbers
  abbrev pub TellsFrom : Whom → Event → ℕ → List S → List ℕ → List S → Type 0
  TellsFrom whom event number [] text [] = text ≡ []
  TellsFrom whom event number [] text (s' ∷ machines') = ⊥
  TellsFrom whom event number (s ∷ machines) text [] = ⊥
  TellsFrom whom event number (s ∷ machines) text (s' ∷ machines') =
      (told : List ℕ) × ((rest : List ℕ) × TellsAt whom event number s told s' × TellsFrom whom event (number + 1) machines rest machines' × (text ≡ told ++ rest))

-- ---- lines

module _ {S : Type 0} (tells : S → Event → List ℕ → S → Type 0) (probes : S → Event → Probe → Type 0) where
  -- an event is sent where it goes, and answered there
  pub record AnswersSent (farm : FarmState S) (address : Addressed) (whom : Whom) (text : List ℕ) (farm' : FarmState S) : Type 0 where
    pub goes : IsSent probes farm address.event address.number whom farm'.homes
    pub told : TellsFrom tells whom address.event 1 farm.machines text farm'.machines

  -- a line is passed over, or its event is sent
  abbrev pub SendsLine : FarmState S → List ℕ → List Sent → List ℕ → FarmState S → Type 0
  SendsLine farm line sent text farm' =
      MatchOption (line_address (length farm.machines) line) ((sent ≡ []) × (text ≡ []) × (farm' ≡ farm))
      (λ address. (whom : Whom) × (sent ≡ record { event = address.event; whom = whom } ∷ []) × AnswersSent farm address whom text farm')

  abbrev pub AnswersLine : FarmState S → List ℕ → List ℕ → FarmState S → Type 0
  AnswersLine farm line text farm' = (sent : List Sent) × SendsLine farm line sent text farm'

  -- the lines are answered in turn. What was sent stands in their order, and so does the text
  abbrev pub SendsLines : FarmState S → List (List ℕ) → List Sent → List ℕ → FarmState S → Type 0
  SendsLines farm [] sent text farm' = (sent ≡ []) × (text ≡ []) × (farm' ≡ farm)
  SendsLines farm (line ∷ lines) sent text farm' =
      (first : List Sent) × ((others : List Sent) × ((told : List ℕ) × ((rest : List ℕ) × ((mid : FarmState S)
      × SendsLine farm line first told mid × SendsLines mid lines others rest farm' × (sent ≡ first ++ others) × (text ≡ told ++ rest)))))

  -- ---- what a machine was sent and told of

  -- what a machine tells is whole lines
  abbrev pub TellsWholeLines : Type 0
  TellsWholeLines = (event : Event) (s s' : S) (text : List ℕ) → tells s event text s' → ends_whole text ≡ true

  -- a machine of the farm answers what it was sent, one event after another, and the lines with its number before them, without it,
  -- are what it told
  pub record AnswersItsOwn (number : ℕ) (s : S) (sent : List Sent) (text : List ℕ) : Type 0 where
    pub last : S
    pub told : TellsAll tells s (sent_to number sent) (told_by number text) last

  abbrev pub FarmsPart : Type 0
  FarmsPart = TellsWholeLines → (farm farm' : FarmState S) (lines : List (List ℕ)) (sent : List Sent) (text : List ℕ) → SendsLines farm lines sent text farm'
      → (place : ℕ) (s : S) → slice_get farm.machines place ≡ Some s → AnswersItsOwn (place + 1) s sent text
