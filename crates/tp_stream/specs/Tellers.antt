-- Events answered one after another.
use Rattle.std.specs.Prelude.{◌≡◌, ℕ, List, [], ◌∷◌, ◌++◌}
use Rattle.tp_script.specs.declared.event.Event.{Event}

-- the most events that are answered
abbrev pub most_events : ℕ
most_events = 100000000

module _ {S : Type 0} (tells : S → Event → List ℕ → S → Type 0) where
  -- the events are answered in turn, and the text is that of their answers
  abbrev pub TellsAll : S → List Event → List ℕ → S → Type 0
  TellsAll s [] text s' = (text ≡ []) × (s' ≡ s)
  TellsAll s (event ∷ events) text s' =
      (told : List ℕ) × ((mid : S) × ((rest : List ℕ)
      × tells s event told mid × TellsAll mid events rest s' × (text ≡ told ++ rest)))
