-- What is written for a sound standing has whole numbers that fit in 32 bits.
use Rattle.std.proofs.Common.{◌≡◌, ◌∙◌, ℕ, ◌+◌, ◌<◌, ◌≤◌, true, false, List, [], ◌∷◌, get_or, map, All, Option, Some, None, arith, ap}
use Rattle.serde_json.specs.Data.{Data, string}
use Rattle.serde_json.specs.Written.{compact_text, has_float}
use Rattle.tp_machine.specs.declared.machine.Machine.{Machine}
use Rattle.tp_machine.specs.declared.parts.Feeder.{Feeder}
use Rattle.tp_schedule.specs.declared.parts.Goal.{Goal}
use Rattle.tp_schedule.specs.declared.parts.Goal.TheVariants.{Tray, Purge}
use Rattle.tp_schedule.specs.declared.parts.Plan.{Plan}
use Rattle.tp_words.specs.Parts.{lacks}
use Rattle.tp_jobs.specs.declared.standing.Standing.{Standing}
use Rattle.tp_session_standing.specs.Sound.{AreFree, IsFreeOf, IsSound}
use Rattle.tp_snapshot.proofs.OneLine.{AreItemsPlain, IsPlain, all-plain, no-float, text-lacks}
use Rattle.tp_snapshot.specs.Written.{act_data, goal_data, job_data, out_names, plan_data, snapshot_data, stock_data, wait_data, whole_data}
use Rattle.serde_json.specs.View.{items_of}

goal-plain : (m : Machine) (g : Goal) → IsPlain (goal_data m g)
goal-plain m (Tray t) = tt
goal-plain m Purge = tt

plan-plain : (m : Machine) (p : Plan) → All (λ x. x ≤ 2000000000) p.points → IsPlain (plan_data m p)
unfolding plan_data
plan-plain m p few = (
  all-plain (act_data m) p.acts (λ k d low. tt),
  (
    goal-plain m p.goal,
    (
      all-plain whole_data p.points (λ k d low. (let most = few k d low in omega (arith, most))),
      (tt, (tt, (tt, tt))),
    ),
  ),
)

stock-plain : (feeders : List Feeder) (stock : List (Option ℕ)) → AreFree feeders stock → AreItemsPlain (items_of (map stock_data stock))
stock-plain [] [] fits = tt
stock-plain [] (free ∷ stock) fits = absurd fits
stock-plain (f ∷ feeders) [] fits = absurd fits
stock-plain (f ∷ feeders) (free ∷ stock) fits = (go f.stock free fits.0, stock-plain feeders stock fits.1) where
  go : (o free : Option ℕ) → IsFreeOf o free → IsPlain (stock_data free)
  go o None fit = tt
  go None (Some n) fit = absurd fit
  go (Some s) (Some n) fit = omega (arith, fit)

data-plain : (text : List ℕ) (m : Machine) (t : Standing) → IsSound m t → IsPlain (snapshot_data text m t)
unfolding snapshot_data
data-plain text m t sound =
    let now = sound.now_at_most in (
      omega arith,
      (
        all-plain (job_data m) t.jobs (λ k d low. (tt, (tt, (tt, tt)))),
        (
          tt,
          (
            omega (arith, now),
            (
              all-plain string (out_names t.outs 0 m.modules) (λ k d low. tt),
              (
                all-plain (plan_data m) t.plans (λ k d low. plan-plain m (get_or t.plans k d) (sound.plans k d low).points),
                (
                  stock-plain m.feeders t.stock sound.stock,
                  (all-plain (wait_data t.jobs) t.waiting (λ k d low. (tt, (tt, tt))), tt),
                ),
              ),
            ),
          ),
        ),
      ),
    )

pub one-line : (text bytes : List ℕ) (m : Machine) (t : Standing) (d : Data) → IsSound m t → d ≡ snapshot_data text m t → (has_float d ≡ false → bytes ≡ compact_text d) → lacks 10 bytes ≡ true
one-line text bytes m t d sound made writes =
    let plain = data-plain text m t sound in
    let whole : has_float d ≡ false = ap has_float made ∙ no-float (snapshot_data text m t) plain in
    ap (lacks 10) (writes whole ∙ ap compact_text made) ∙ text-lacks (snapshot_data text m t) plain
