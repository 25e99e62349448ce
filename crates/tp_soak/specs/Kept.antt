-- What the engines of a case keep.
use Rattle.std.specs.Prelude.{◌≡◌, ℕ, Bool, true, ◌&&◌, List, codes}
use Rattle.std.specs.List.{list_all}
use Rattle.tp_base.specs.NameText.{is_between, is_name_text}
use Rattle.tp_soak.specs.Engines.{draw_engines}
use Rattle.tp_soak.specs.Machines.{numbered}
use Rattle.tp_soak.specs.declared.made_engine.MadeEngine.{MadeEngine}

-- numbers from 1 to 4, and least durations from 4 to 11
abbrev pub is_drawn : MadeEngine → Bool
is_drawn e =
    is_between 1 4 e.number && is_between 4 11 e.least && is_name_text (numbered (codes "r") e.number)
    && is_name_text (numbered (codes "print") e.number)

abbrev pub IsDrawn : List MadeEngine → Type 0
IsDrawn engines = list_all is_drawn engines ≡ true

-- the engines are drawn from some state
abbrev pub AreEngines : List MadeEngine → Type 0
AreEngines engines = (x : ℕ) × (engines ≡ (draw_engines x).engines)
