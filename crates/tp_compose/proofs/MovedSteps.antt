-- One step of a sheet through an action, and through what is like it but for the locations.
use Rattle.std.proofs.Common.{◌≡◌, Bool, true, false, not, ◌&&◌, ◌||◌, ◌==◌, cond, Some, None, option_map, refl, ◌∙◌}
use Rattle.tp_machine.specs.Steps.{wanted, is_done, prints, prints_kind, after, step_of}
use Rattle.tp_machine.specs.declared.parts.Action.{Action}
use Rattle.tp_machine.specs.declared.parts.LocId.{LocId}
use Rattle.tp_machine.specs.declared.parts.Sheet.{Sheet}
use Rattle.tp_machine.specs.declared.parts.State.{State}

-- the state at another location
abbrev pub put_at : LocId → State → State
put_at l s = record { loc = l; up = s.up; front_done = s.front_done; back_done = s.back_done }

both : (here there marks : Bool) (l : LocId) (s : State) → there ≡ true → cond (here && marks) (Some (put_at l s)) None ≡ cond here (option_map (put_at l) (cond (there && marks) (Some s) None)) None
both true true true l s at = refl
both true true false l s at = refl
both false true true l s at = refl
both false true false l s at = refl
both here false marks l s at = cc

pub lifted : (a w : Action) (sheet : Sheet) (l : LocId) (s : State) → a.mono ≡ w.mono → a.colour ≡ w.colour → a.flip ≡ w.flip → (s.loc.0 == w.from.0) ≡ true
    → step_of a sheet (put_at l s) ≡ cond (l.0 == a.from.0) (option_map (put_at a.to) (step_of w sheet s)) None
lifted a w sheet l s mono colour flip at =
    (λ i. step_of (record a { mono = mono i; colour = colour i; flip = flip i }) sheet (put_at l s))
    ∙ both (l.0 == a.from.0) (s.loc.0 == w.from.0) (not (prints w) || (not (is_done s s.up) && prints_kind w (wanted sheet s.up))) a.to (after w s) at
