-- The machines that a list names, one after another, and what a farm of sessions on them answered.
use denote.Ref.{Bor}
use Rattle.std.proofs.Common.{◌≡◌, ◌⊎◌, ℕ, suc, ◌+◌, ◌<◌, ◌≤◌, Bool, List, [], ◌∷◌, ◌++◌, length, get_or, map, take, slice_get, Option, Some, None, inl, inr, refl, sym, ap, ap₂, subst, ◌∙◌, arith}
use Rattle.std.specs.List.{All, AllZip}
use Rattle.std.specs.Prelude.{IfSome, IsSome}
use Rattle.std.proofs.lemmas.List.{length-map, map-append, take_more}
use Rattle.tp_words.specs.Parts.{shown}
use Rattle.std.proofs.lemmas.List.Elements.{All-push}
use Rattle.std.proofs.lemmas.Option.{get_or_from_slice_get, slice_get-get_or, slice_get_within}
use Rattle.tp_machine.specs.declared.machine.Machine.{Machine}
use Rattle.tp_machine_text.specs.Texts.{IsBrokenAt, IsNotToml}
use Rattle.tp_machine_text.specs.declared.machine_reader.MachineFault.TheVariants as fault
use Rattle.tp_outside.specs.Outside.{Files, IsCounted, Rises, file_at}
use Rattle.tp_outside.proofs.Parts.{IfSome-at}
use Rattle.tp_command.specs.Form.{Asked}
use Rattle.tp_session.specs.Probes.{Probes}
use Rattle.tp_session.specs.Sessions.{Standing, Tells, start_of}
use Rattle.tp_stream.specs.declared.stop.Stop.{Stop}
use Rattle.tp_stream.specs.declared.stop.Stop.TheVariants as stop
use Rattle.tp_farm.proofs.ListFacts.{get_or-shown}
use Rattle.tp_farm.proofs.SentEvents.{AllZip-more}
use Rattle.tp_farm.specs.Farms.{FarmState, farm_of}
use Rattle.tp_farm.specs.Lists.{IsFileName, names_of}
use Rattle.tp_farm.specs.Scripts.{IsStopped, IsTaken}
use Rattle.tp_program.specs.FarmRuns.{FarmScriptsLawful, FarmStopsLawful, farm_start}
use Rattle.tp_program.specs.FarmEnds.{AreMachines, AreNames, BeginsOn, FarmDone, FarmStops, IsFarmFor, IsFirstOther, IsListed, NoFarm, NoMachines, NoneListedMissing, NoneMissing, of_machine}
use Rattle.tp_program.specs.Runs.{NoMachine}
use Rattle.tp_program.specs.Texts.{IsLongText, IsShelved, most_text}
use Rattle.tp_program.specs.declared.farm_fault.FarmFault.TheVariants as farm
use Rattle.tp_program.specs.declared.status.Long.TheVariants as size
use Rattle.tp_program.specs.declared.status.Status.{Status}
use Rattle.tp_program.specs.declared.status.Status.TheVariants as status

-- ---- the shelf, call after call

pub rises_after : (a b c : ℕ) → IsCounted a b → Rises b c → Rises a c
rises_after a b c counted rises = record {
  not_fallen = omega (arith, counted.not_fallen, rises.not_fallen);
  risen = elim rises.risen [ inl more ↦ inl (omega (arith, counted.not_fallen, more)) | inr last ↦ inr last ];
}

pub All-there : {X : Type 0} (P : X → Type 0) (xs : List X) (i : ℕ) (x : X) → slice_get xs i ≡ Some x → All P xs → P x
All-there P xs i x there all = subst P (get_or_from_slice_get xs i x x there) (all i x (slice_get_within xs i x there))

-- ---- why one of the names is no machine's

pub still_shelf : (number : ℕ) (s : Status) → of_machine number s ≡ status.Shelf → s ≡ status.Shelf
still_shelf number (status.Machine f) e = absurd cc
still_shelf number s e = e

module _ (known : Option Files) (names : List (List ℕ)) where
  module _ (place : ℕ) (name : List ℕ) (there : slice_get names place ≡ Some name) (machines : List Machine) (before : AreMachines known (take place names) machines) where
    first-other : (P : List ℕ → Type 0) → P name → IsFirstOther known names (place + 1) P
    first-other P other = record { place = place; counted = refl; name = name; there = there; other = other; machines = machines; before = before }

    pub no_machines : (s : Status) → NoMachine known name s → NoMachines known names (of_machine (place + 1) s)
    no_machines status.Memory none = tt
    no_machines status.Shelf none = tt
    no_machines (status.TooLong size.MachineText) none = (place + 1, first-other (IsLongText known) none)
    no_machines (status.Machine fault.NotToml) none = first-other (λ name. IsShelved known name IsNotToml) none
    no_machines (status.Machine (fault.Rule n)) none = first-other (λ name. IsShelved known name (IsBrokenAt n)) none
    no_machines s none = absurd none

-- where no name that is looked for is missing, a call that failed for one of them is amiss
is-there : {X : Type 0} (found : Option X) → ¬ (found ≡ None) → IsSome found
is-there None some = absurd (some refl)
is-there (Some x) some = refl

pub amiss_one : (known known' : Option Files) (names : List (List ℕ)) (place : ℕ) (name : List ℕ) (machines : List Machine) (before mid after : ℕ) → slice_get names place ≡ Some name
    → AreMachines known (take place names) machines → known' ≡ known → IfSome known (λ _. mid ≡ before) → IfSome known' (λ files. IsSome (file_at files name) → Rises mid after)
    → IfSome known (λ files. NoneMissing files names → Rises before after)
amiss_one None known' names place name machines before mid after there are same stays rises = tt
amiss_one (Some files) known' names place name machines before mid after there are same stays rises = λ none.
    subst (λ a. Rises a after) stays
    (IfSome-at (λ files. IsSome (file_at files name) → Rises mid after) known' files rises same
    (is-there (file_at files name) (λ lacks. none (place + 1) (first-other (Some files) names place name there machines are (λ name. file_at files name ≡ None) lacks))))

-- ---- the list, as the shelf known it

module _ (known : Option Files) (arg list slice : List ℕ) (names : List (List ℕ)) (same : slice ≡ list) (is_known : IfSome known (λ files. file_at files arg ≡ Some list)) (fits : length list ≤ most_text)
  where
    pub shelved : (P : List ℕ → Type 0) → P slice → IsShelved known arg P
    shelved P has = record { text = list; is_known = is_known; fits = fits; has = subst P same has }

    module _ (listed : names_of slice ≡ Some names) (good : All IsFileName names) where
      are-names : AreNames slice names
      are-names = record { listed = listed; good = good }

      pub is-listed : (P : List (List ℕ) → Type 0) → P names → IsListed known arg P
      is-listed P has = record { names = names; list = shelved (λ list. AreNames list names) are-names; has = has }

      pub no_farm : (s : Status) → NoMachines known names s → NoFarm known arg s
      no_farm status.Memory none = tt
      no_farm status.Shelf none = tt
      no_farm (status.TooLong size.MachineText) none = inr (is-listed (λ names. NoMachines known names (status.TooLong size.MachineText)) none)
      no_farm (status.Farm (farm.Machine number f)) none = is-listed (λ names. NoMachines known names (status.Farm (farm.Machine number f))) none
      no_farm s none = absurd none

-- where no name that is looked for is missing, a call that failed for one of the list is amiss
pub amiss_list : (known known' : Option Files) (arg list slice : List ℕ) (names : List (List ℕ)) (before mid after : ℕ) → slice ≡ list → IfSome known (λ files. file_at files arg ≡ Some list)
    → names_of slice ≡ Some names → All IsFileName names → known' ≡ known → IfSome known (λ _. mid ≡ before) → IfSome known' (λ files. NoneMissing files names → Rises mid after)
    → IfSome known (λ files. IsSome (file_at files arg) → NoneListedMissing files arg → Rises before after)
amiss_list None known' arg list slice names before mid after same is_known listed good stays mid_is rises = tt
amiss_list (Some files) known' arg list slice names before mid after same is_known listed good stays mid_is rises = λ there none.
    subst (λ a. Rises a after) mid_is
    (IfSome-at (λ files. NoneMissing files names → Rises mid after) known' files rises stays
    (none list names is_known (subst (λ list. AreNames list names) same (record { listed = listed; good = good }))))

-- ---- sessions on the machines

module _ (known : Option Files) (budget : Option ℕ) (bounds : Bool) where
  -- the machines on which sessions begin
  pub machines-of : (names : List (List ℕ)) (standings : List Standing) → AllZip (BeginsOn known budget bounds) names standings
      → (machines : List Machine) × AreMachines known names machines × (standings ≡ map (λ machine. start_of machine budget bounds) machines)
  machines-of [] [] h = ([], tt, refl)
  machines-of [] (s ∷ standings) h = absurd h
  machines-of (name ∷ names) [] h = absurd h
  machines-of (name ∷ names) (s ∷ standings) (first, others) =
      let (machines, are, begin) = machines-of names standings others in
      (first.machine ∷ machines, (first.text, are), ap₂ (λ s standings. s ∷ standings) first.begins begin)

-- one name more
module _ (known known' : Option Files) (names : List (Bor (List ℕ))) (place : ℕ) (d : Bor (List ℕ)) (inside : place < length names) (budget : Option ℕ) (bounds : Bool) (standings : List Standing)
    (same : known' ≡ known) (begin : AllZip (BeginsOn known budget bounds) (take place (shown names)) standings) where
  within : place < length (shown names)
  within = omega (arith, inside, length-map names (λ text. text.now))

  here : slice_get (shown names) place ≡ Some (get_or names place d).now
  here = slice_get-get_or (shown names) place [] within ∙ ap Some (sym (get_or-shown names place d inside))

  pub machines-refused : (s r : Status) → r ≡ of_machine (place + 1) s → NoMachine known' (get_or names place d).now s → NoMachines known (shown names) r
  machines-refused s r is none =
      let (machines, are, begun) = machines-of known budget bounds (take place (shown names)) standings begin in
      subst (NoMachines known (shown names)) (sym is)
      (no_machines known (shown names) place (get_or names place d).now here machines are s (subst (λ t. NoMachine t (get_or names place d).now s) same none))

  pub machines-amiss : (before mid after : ℕ) (s r : Status) → r ≡ of_machine (place + 1) s → IfSome known (λ _. mid ≡ before)
      → (s ≡ status.Shelf → IfSome known' (λ files. IsSome (file_at files (get_or names place d).now) → Rises mid after)) → r ≡ status.Shelf
      → IfSome known (λ files. NoneMissing files (shown names) → Rises before after)
  machines-amiss before mid after s r is stays rises shelf =
      let (machines, are, begun) = machines-of known budget bounds (take place (shown names)) standings begin in
      amiss_one known known' (shown names) place (get_or names place d).now machines before mid after here are same stays (rises (still_shelf (place + 1) s (sym is ∙ shelf)))

  pub one-begins : (s : Standing) → BeginsOn known' budget bounds (get_or names place d).now s → AllZip (BeginsOn known budget bounds) (take (place + 1) (shown names)) (standings ++ s ∷ [])
  one-begins s begins =
      let known-here : BeginsOn known budget bounds (get_or names place d).now s = subst (λ t. BeginsOn t budget bounds (get_or names place d).now s) same begins in
      subst (λ ns. AllZip (BeginsOn known budget bounds) ns (standings ++ s ∷ [])) (sym (take_more (shown names) place [] within))
      (AllZip-more (BeginsOn known budget bounds) (take place (shown names)) standings (get_or (shown names) place []) s begin
      (subst (λ n. BeginsOn known budget bounds n s) (get_or-shown names place d inside) known-here))

pub map-pushed : {X : Type 0} (xs xs' : List X) (x : X) (f : X → Standing) → xs' ≡ xs ++ x ∷ [] → map f xs' ≡ map f xs ++ f x ∷ []
map-pushed xs xs' x f e = ap (map f) e ∙ map-append f xs (x ∷ [])

pub All-pushed : {X : Type 0} (xs xs' : List X) (x : X) (P : X → Type 0) → xs' ≡ xs ++ x ∷ [] → All P xs → P x → All P xs'
All-pushed xs xs' x P e all one = subst (All P) (sym e) (All-push P xs x all one)

pub stays-more : (known known' : Option Files) (before mid after : ℕ) → known' ≡ known → IfSome known (λ _. mid ≡ before) → IfSome known' (λ _. after ≡ mid) → IfSome known (λ _. after ≡ before)
stays-more None known' before mid after same first next = tt
stays-more (Some files) known' before mid after same first next = IfSome-at (λ _. after ≡ mid) known' files next same ∙ first

-- there is one for each name
begins-length : (known : Option Files) (budget : Option ℕ) (bounds : Bool) (names : List (List ℕ)) (standings : List Standing) → AllZip (BeginsOn known budget bounds) names standings
    → length standings ≡ length names
begins-length known budget bounds [] [] h = refl
begins-length known budget bounds [] (s ∷ standings) h = absurd h
begins-length known budget bounds (name ∷ names) [] h = absurd h
begins-length known budget bounds (name ∷ names) (s ∷ standings) h = ap suc (begins-length known budget bounds names standings h.1)

pub as-many : {X : Type 0} (xs : List X) (f : X → Standing) (known : Option Files) (budget : Option ℕ) (bounds : Bool) (slice names : List (Bor (List ℕ))) → slice ≡ names
    → AllZip (BeginsOn known budget bounds) (shown slice) (map f xs) → length xs ≡ length names
as-many xs f known budget bounds slice names same begin =
    sym (length-map xs f) ∙ begins-length known budget bounds (shown slice) (map f xs) begin ∙ length-map slice (λ text. text.now) ∙ ap length same

-- a farm of them, of which the list is known
pub farm-for : {X : Type 0} (xs : List X) (f : X → Standing) (known known' : Option Files) (asked : Asked) (names : List (List ℕ)) → ((P : List (List ℕ) → Type 0) → P names → IsListed known asked.arg P)
    → known' ≡ known → AllZip (BeginsOn known' asked.budget asked.bounds) names (map f xs) → IsFarmFor known asked (farm_of (map f xs) [])
farm-for xs f known known' asked names listed stays begin =
    let (machines, are, begun) = machines-of known asked.budget asked.bounds names (map f xs) (subst (λ t. AllZip (BeginsOn t asked.budget asked.bounds) names (map f xs)) stays begin) in
    record { machines = machines; listed = listed (λ names. AreMachines known names machines) are; has = ap (λ ss. farm_of ss []) begun }

-- ---- what the farm answered

module _ (machines : List Machine) (budget : Option ℕ) (bounds : Bool) (left left' taken taken' : Option (List ℕ)) (start : FarmState Standing) (same : start ≡ farm_start machines budget bounds) where
  pub farm_done : FarmScriptsLawful machines budget bounds → IsTaken Tells Probes start left taken left' taken' → FarmDone machines budget bounds left left' taken taken'
  farm_done lawful all =
      let (script, read, (last, takes)) = subst (λ s. IsTaken Tells Probes s left taken left' taken') same all in
      (script, read, lawful script taken taken' last takes)

  pub farm_stops : (cause stop : Stop) → cause ≡ stop → FarmStopsLawful machines budget bounds → IsStopped Tells Probes start left taken cause left' taken'
      → FarmStops machines budget bounds left left' taken taken' stop
  farm_stops cause stop is lawful some =
      let (script, read, (last, stops)) = subst (λ s. IsStopped Tells Probes s left taken stop left' taken') same (subst (λ s. IsStopped Tells Probes start left taken s left' taken') is some) in
      (script, read, lawful stop script left left' taken taken' last stops)
