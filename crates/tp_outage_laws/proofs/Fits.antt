-- Which fates fit a plan in the midst of an outage.
use Rattle.std.proofs.Common.{◌≡◌, ℕ, ◌+◌, ◌<◌, Bool, true, false, List, [], ◌∷◌, refl, arith, Contains}
use Rattle.std.proofs.lemmas.Bool.{and_parts}
use Rattle.std.proofs.lemmas.List.{get_or-take}
use Rattle.tp_machine.specs.declared.machine.Machine.{Machine}
use Rattle.tp_schedule.specs.Plans.{end_of_plan, point}
use Rattle.tp_schedule.specs.declared.parts.Plan.{Plan}
use Rattle.tp_event_rules.specs.FallBacks.{Displaced, is_copy}
use Rattle.tp_event_rules.specs.Fates.{Fate}
use Rattle.tp_event_rules.specs.Lines.{is_job_broken, is_lost}
use Rattle.tp_event_rules.specs.Moments.{front_of, is_to_tray}
use Rattle.tp_event_rules.specs.States.{SessionState}
use Rattle.tp_outage_laws.proofs.Falls.{Outset, Falls, is_open}
use Rattle.tp_outage_laws.proofs.Midway.{IsFlying, IsMeet}
use Rattle.tp_outage_laws.proofs.PlanFacts.{not-false}
use Rattle.tp_event_rules.specs.Fates as fates

abbrev pub again_for : Bool → Plan → Displaced
again_for again p = record { sheet = p.sheet; want = p.want; again = again }

-- which fates fit a plan, and which copies of it are displaced
pub data IsFit (s : SessionState) (p : Plan) : Fate → List Displaced → Type 0 where
  stay : IsFit s p fates.stays []
  lose_sent : is_open s p ≡ true → IsFlying s.now p → IsFit s p fates.lost (again_for true p ∷ [])
  lose_purged : is_lost s p ≡ false → is_to_tray p.goal ≡ false → IsFlying s.now p → IsFit s p fates.lost []
  withdraw : is_open s p ≡ true → s.now < point p 0 → s.now < end_of_plan p → is_job_broken s.jobs p.sheet.job ≡ false → IsFit s p fates.withdrawn []
  displace : is_open s p ≡ true → s.now < point p 0 → s.now < end_of_plan p → is_job_broken s.jobs p.sheet.job ≡ false → IsFit s p fates.withdrawn (again_for false p ∷ [])
  cut_off : is_lost s p ≡ false → IsFlying s.now p → (is_open s p ≡ true → is_job_broken s.jobs p.sheet.job ≡ false) → IsFit s p fates.cut []
  give_up : is_open s p ≡ true → IsFlying s.now p → IsFit s p fates.purged []
  replace : is_open s p ≡ true → IsFlying s.now p → is_job_broken s.jobs p.sheet.job ≡ false → IsFit s p fates.replaced []
  drop : is_open s p ≡ true → s.now < point p 0 → s.now < end_of_plan p → IsFit s p fates.dropped []

-- whether the sheet keeps a copy
abbrev pub keeps_sheet : Fate → Bool
keeps_sheet fates.stays = true
keeps_sheet fates.lost = true
keeps_sheet fates.withdrawn = true
keeps_sheet fates.cut = true
keeps_sheet fates.purged = false
keeps_sheet fates.replaced = true
keeps_sheet fates.dropped = false

pub open-copy : (s : SessionState) (p : Plan) → is_open s p ≡ true → is_lost s p ≡ false
open-copy s p o = not-false (is_lost s p) (and_parts (is_copy s p) (is_to_tray p.goal) o).0

pub open-tray : (s : SessionState) (p : Plan) → is_open s p ≡ true → is_to_tray p.goal ≡ true
open-tray s p o = (and_parts (is_copy s p) (is_to_tray p.goal) o).1

pub first-front : (now : ℕ) (p : Plan) → point (front_of now p) 0 ≡ point p 0
first-front now p = get_or-take (_ + 1) p.points 0 0 (omega arith)

pub fit-meets : (s : SessionState) (p : Plan) (f : Fate) (ds : List Displaced) → IsFit s p f ds → IsMeet s.now p f
fit-meets s p _ _ stay = record { cut = λ e. absurd (cc); stays = λ past. refl }
fit-meets s p _ _ (lose_sent o fl) = record { cut = λ e. fl; stays = λ past. absurd (let ends = fl.ends in omega arith) }
fit-meets s p _ _ (lose_purged o g fl) = record { cut = λ e. fl; stays = λ past. absurd (let ends = fl.ends in omega arith) }
fit-meets s p _ _ (withdraw o low ends w) = record { cut = λ e. absurd (cc); stays = λ past. absurd (omega arith) }
fit-meets s p _ _ (displace o low ends w) = record { cut = λ e. absurd (cc); stays = λ past. absurd (omega arith) }
fit-meets s p _ _ (cut_off o fl w) = record { cut = λ e. fl; stays = λ past. absurd (let ends = fl.ends in omega arith) }
fit-meets s p _ _ (give_up o fl) = record { cut = λ e. fl; stays = λ past. absurd (let ends = fl.ends in omega arith) }
fit-meets s p _ _ (replace o fl w) = record { cut = λ e. fl; stays = λ past. absurd (let ends = fl.ends in omega arith) }
fit-meets s p _ _ (drop o low ends) = record { cut = λ e. absurd (cc); stays = λ past. absurd (omega arith) }

-- fates that fit, each with the copies that it displaces
pub record IsPass (machine : Machine) (base : Outset) (ex : ℕ → Bool) (s : SessionState) (ds : List Displaced) : Type 0 where
  pub falls : Falls machine base ex s ds
  pub fate : Plan → Fate
  pub pend : Plan → List Displaced
  pub fits : (p : Plan) → Contains s.plans p → IsFit s p (fate p) (pend p)
