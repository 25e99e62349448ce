-- What is sent as lines are answered, one after another.
use Rattle.std.proofs.Common.{◌≡◌, ℕ, List, [], ◌∷◌, ◌++◌, length, Option, Some, refl, ap, subst, ◌∙◌}
use Rattle.std.specs.Option.{MatchOption}
use Rattle.tp_script.specs.declared.event.Event.{Event}
use Rattle.tp_stream.specs.Answers.{AnswersAll}
use Rattle.tp_stream.specs.declared.probe.Probe.{Probe}
use Rattle.tp_farm.specs.Addresses.{line_address}
use Rattle.tp_farm.specs.Farms.{AnswersLine, AnswersSent, FarmState, SendsLines, Sent}
use Rattle.tp_farm.specs.declared.address.Addressed.{Addressed}
use Rattle.tp_farm.specs.declared.whom.Whom.{Whom}

pub gathered : {S : Type 0} (tells : S → Event → List ℕ → S → Type 0) (probes : S → Event → Probe → Type 0) (lines : List (List ℕ)) (text : List ℕ) (farm farm' : FarmState S)
    → AnswersAll (AnswersLine tells probes) farm lines text farm' → (sent : List Sent) × SendsLines tells probes farm lines sent text farm'
gathered tells probes [] text farm farm' h = ([], (refl, h.0, h.1))
gathered tells probes (line ∷ lines) text farm farm' (told, (mid, (rest, one, others, same))) =
    let more = gathered tells probes lines rest mid farm' others in
    (one.0 ++ more.0, (one.0, (more.0, (told, (rest, (mid, one.1, more.1, refl, same))))))

-- ---- one line

module _ {S : Type 0} (tells : S → Event → List ℕ → S → Type 0) (probes : S → Event → Probe → Type 0) where
  -- what a line with this address does
  abbrev Sends : FarmState S → FarmState S → List Sent → List ℕ → Option Addressed → Type 0
  Sends farm farm' sent text o =
      MatchOption o ((sent ≡ []) × (text ≡ []) × (farm' ≡ farm)) (λ address. (whom : Whom) × (sent ≡ record { event = address.event; whom = whom } ∷ []) × AnswersSent tells probes farm address whom text farm')

  -- a line whose event is sent
  pub line-sent : (farm farm' : FarmState S) (count : ℕ) (line : List ℕ) (address : Addressed) (whom : Whom) (text : List ℕ) → count ≡ length farm.machines
      → Some address ≡ line_address count line → AnswersSent tells probes farm address whom text farm' → AnswersLine tells probes farm line text farm'
  line-sent farm farm' count line address whom text many is answers =
      let sent = record { event = address.event; whom = whom } ∷ [] in
      let e : Some address ≡ line_address (length farm.machines) line = is ∙ ap (λ n. line_address n line) many in
      (sent, subst (Sends farm farm' sent text) e (whom, refl, answers))
