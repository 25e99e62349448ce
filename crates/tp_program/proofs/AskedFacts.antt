-- What the words ask for ends as its mode says.
use Rattle.std.proofs.Common.{◌≡◌, ◌≢◌, ◌⊎◌, ℕ, List, Option, Some, None, inl, inr, sym, ap, subst, ◌∙◌}
use Rattle.std.specs.Prelude.{IfSome, IsSome}
use Rattle.tp_outside.specs.Outside.{Files, file_at}
use Rattle.tp_command.specs.Form.{Asked, form}
use Rattle.tp_command.specs.declared.request.Mode.{Mode}
use Rattle.tp_command.specs.declared.request.Mode.TheVariants.{Run, Save, Resume, Check, Soak, Compose, Farm}
use Rattle.tp_session_standing.specs.StandingStates.{standing_state}
use Rattle.tp_program.specs.Checks.{CheckEnds}
use Rattle.tp_program.specs.ComposeEnds.{ComposeEnds}
use Rattle.tp_program.specs.FarmEnds.{NoneListedMissing, FarmEnds}
use Rattle.tp_program.specs.Modes.{Ends, EndsAs}
use Rattle.tp_program.specs.Requests.{Asks, IsThereFor}
use Rattle.tp_program.specs.ResumeEnds.{ResumeEnds}
use Rattle.tp_program.specs.Runs.{RunEnds}
use Rattle.tp_program.specs.SaveEnds.{SaveEnds}
use Rattle.tp_program.specs.SoakEnds.{SoakEnds}
use Rattle.tp_program.specs.declared.status.Status.{Status}
use Rattle.tp_program.specs.declared.status.Status.TheVariants as status

-- words that aren't of the form ask for nothing
pub asks_nothing : (mode : Mode) (words : List (List ℕ)) (P : Asked → Type 0) → form words ≡ None → Asks mode words P
asks_nothing mode words P e = λ asked named is. (let some : Some asked ≡ None = sym named ∙ e in absurd cc)

module _ (words : List (List ℕ)) (asked : Asked) (named : form words ≡ Some asked) where
  -- what holds of what was read holds of what the words ask for
  asks_this : (mode : Mode) (P : Asked → Type 0) → (asked.mode ≡ mode → P asked) → Asks mode words P
  asks_this mode P holds = λ other is_other mode_is.
      let both : Some asked ≡ Some other = sym named ∙ is_other in
      let same : asked ≡ other = cc in
      subst P same (holds (ap (λ (a : Asked). a.mode) same ∙ mode_is))

  pub amiss_asked : (R : Type 0) (known : Option Files) → IfSome known (λ files. IsThereFor files asked → R)
      → IfSome known (λ files. IfSome (form words) (λ other. IsThereFor files other → R))
  amiss_asked R None h = h
  amiss_asked R (Some files) h = subst (λ found. IfSome found (λ (other : Asked). IsThereFor files other → R)) (sym named) h

  module _ {S K : Type 0} (left : S → Option (List ℕ)) (taken : K → Option (List ℕ)) (known : Option Files) (source source' : S) (sink sink' : K) (s : Status)
      (ends : Ends left taken known source source' sink sink' asked s) where
    pub run_ends : Asks Run words (λ a. RunEnds left taken known source source' sink sink' a s)
    run_ends = asks_this Run (λ a. RunEnds left taken known source source' sink sink' a s) (λ mode. subst (λ m. EndsAs left taken known source source' sink sink' m asked s) mode ends)

    pub save_ends : Asks Save words (λ a. SaveEnds left taken known source source' sink sink' a s)
    save_ends = asks_this Save (λ a. SaveEnds left taken known source source' sink sink' a s) (λ mode. subst (λ m. EndsAs left taken known source source' sink sink' m asked s) mode ends)

    pub resume_ends : Asks Resume words (λ a. ResumeEnds left taken known source source' sink sink' a s)
    resume_ends = asks_this Resume (λ a. ResumeEnds left taken known source source' sink sink' a s) (λ mode. subst (λ m. EndsAs left taken known source source' sink sink' m asked s) mode ends)

    pub compose_ends : Asks Compose words (λ a. ComposeEnds taken known source source' sink sink' a s)
    compose_ends = asks_this Compose (λ a. ComposeEnds taken known source source' sink sink' a s) (λ mode. subst (λ m. EndsAs left taken known source source' sink sink' m asked s) mode ends)

    pub check_ends : Asks Check words (λ a. CheckEnds left taken known source source' sink sink' a s)
    check_ends = asks_this Check (λ a. CheckEnds left taken known source source' sink sink' a s) (λ mode. subst (λ m. EndsAs left taken known source source' sink sink' m asked s) mode ends)

    pub farm_ends : Asks Farm words (λ a. FarmEnds left taken known source source' sink sink' a s)
    farm_ends = asks_this Farm (λ a. FarmEnds left taken known source source' sink sink' a s) (λ mode. subst (λ m. EndsAs left taken known source source' sink sink' m asked s) mode ends)

    pub soak_ends : {H : Type 0} (shelf shelf' : H) → (asked.mode ≡ Soak → shelf' ≡ shelf) → Asks Soak words (λ a. (shelf' ≡ shelf) × SoakEnds taken source source' sink sink' a s)
    soak_ends shelf shelf' unread =
        asks_this Soak (λ a. (shelf' ≡ shelf) × SoakEnds taken source source' sink sink' a s) (λ mode. (unread mode, subst (λ m. EndsAs left taken known source source' sink sink' m asked s) mode ends))

    -- no mode ends in a refusal of the words
    no_usage : (mode : Mode) → EndsAs left taken known source source' sink sink' mode asked status.Usage → ⊥
    no_usage Run (inl none) = none.0
    no_usage Run (inr ran) = ran.did
    no_usage Save (inl none) = none.0
    no_usage Save (inr ran) = ran.did
    no_usage Resume (inl none) = none.0
    no_usage Resume (inr ran) = ran.did (standing_state ran.machine ran.standing) ran.whole
    no_usage Compose (same, inl none) = none.0
    no_usage Compose (same, inr wrote) = wrote.has.1
    no_usage Farm (inl none) = none.0
    no_usage Farm (inr farmed) = farmed.has
    no_usage Check (inl none) = none.0
    no_usage Check (inr checked) = checked.did
    no_usage Soak (same, inl none) = (let no : status.Usage ≡ status.Memory = none.0 in absurd cc)
    no_usage Soak (same, inr wrote) = wrote.2

    pub usage : s ≡ status.Usage → (form words ≡ None) × (source' ≡ source) × (sink' ≡ sink)
    usage is = absurd (no_usage asked.mode (subst (λ s. EndsAs left taken known source source' sink sink' asked.mode asked s) is ends))

    pub used : form words ≡ None → (s ≡ status.Usage) ⊎ ((s ≡ status.Memory) × (source' ≡ source) × (sink' ≡ sink))
    used none = (let some : Some asked ≡ None = sym named ∙ none in absurd cc)

-- what was done by the mode is what was asked for
pub as_asked : {S K : Type 0} (left : S → Option (List ℕ)) (taken : K → Option (List ℕ)) (known : Option Files) (source source' : S) (sink sink' : K) (asked : Asked) (s : Status) (mode : Mode)
    → asked.mode ≡ mode → EndsAs left taken known source source' sink sink' mode asked s → Ends left taken known source source' sink sink' asked s
as_asked left taken known source source' sink sink' asked s mode is ends = subst (λ m. EndsAs left taken known source source' sink sink' m asked s) (sym is) ends

-- where what is asked for is there, the text of ARG is, and of a farm all that its list names
pub amiss_arg : (R : Type 0) (known : Option Files) (asked : Asked) → IfSome known (λ files. IsSome (file_at files asked.arg) → R) → IfSome known (λ files. IsThereFor files asked → R)
amiss_arg R None asked h = tt
amiss_arg R (Some files) asked h = λ there. h there.arg

pub amiss_listed : (R : Type 0) (known : Option Files) (asked : Asked) → asked.mode ≡ Farm → IfSome known (λ files. IsSome (file_at files asked.arg) → NoneListedMissing files asked.arg → R)
    → IfSome known (λ files. IsThereFor files asked → R)
amiss_listed R None asked mode h = tt
amiss_listed R (Some files) asked mode h = λ there. h there.arg (there.listed mode)
