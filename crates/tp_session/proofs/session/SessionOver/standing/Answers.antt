-- Where the session stands is sound where its state can be saved.
use Rattle.std.proofs.Common.{◌≡◌, ℕ, ◌≤◌, length, Result, Ok, Err, subst, sym}
use Rattle.std.specs.Prelude.{IfOk}
use Rattle.tp_session.specs.Kept.{CanBeSaved}
use Rattle.tp_session_standing.specs.Sound.{IsSound, last_number, most_jobs}
use Rattle.tp_session_standing.specs.StandingStates.{standing_of}
use Rattle.tp_event_rules.specs.LiveStates.{seen}
use Rattle.tp_session.proofs.session.SessionOver.standing.Goals as goal

if-told : {A E : Type 0} (P Q : A → Type 0) (r : Result A E) → ((x : A) → P x → Q x) → IfOk r P → IfOk r Q
if-told P Q (Ok x) each p = each x p
if-told P Q (Err e) each p = tt

pub returns-clause-sound : goal.returns-clause-sound
returns-clause-sound g c =
    let i = c.self.inside in
    subst (λ v. IfOk c.standing_of.result (λ told. (events : ℕ) → events ≤ last_number → length v.standing.state.jobs ≤ most_jobs → CanBeSaved v.standing.machine events v.standing.state → IsSound v.standing.machine told)) c.self.view_is
    (if-told (λ told. told ≡ standing_of i.machine (seen i.state)) _ c.standing_of.result
    (λ told is events few jobs k. subst (IsSound i.machine) (sym is) (c.kept_states_stand_soundly.ensures.sound i.machine events (seen i.state) few jobs k)) c.standing_of.ensures)
