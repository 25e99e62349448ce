-- What befalls copies leaves what was delivered, and each front that is not lost is of a copy in flight.
use Rattle.std.proofs.Common.{◌≡◌, inl, true, false, List, [], ◌∷◌, refl, sym, ap, arith, Contains, subst}
use Rattle.tp_machine.specs.declared.machine.Machine.{Machine}
use Rattle.tp_schedule.proofs.Membership.{Contains-here, flat_map-from, flat_map-to}
use Rattle.tp_schedule.specs.declared.parts.Plan.{Plan}
use Rattle.tp_schedule.specs.declared.parts.SheetId.{SheetId}
use Rattle.tp_schedule.specs.declared.records.Record.{Record}
use Rattle.tp_event_rules.specs.Fates.{Fate, befall, left_by, left_of, to_purge}
use Rattle.tp_event_rules.specs.Moments.{front_of, is_tray_plan}
use Rattle.tp_event_rules.specs.States.{SessionState}
use Rattle.tp_outage_laws.proofs.Midway.{IsMeet, IsMid, one-same}
use Rattle.tp_headline.proofs.Delivered.{IsDelivered}
use Rattle.tp_headline.proofs.Steps.{AreNoDeliveries, IsQuiet}
use Rattle.tp_event_rules.specs.Fates as fates

no-tray : (r q : Plan) → is_tray_plan r ≡ false → Contains (r ∷ []) q → is_tray_plan q ≡ true → ⊥
no-tray r q none in' tray = let e = one-same r q r in' in let same : is_tray_plan r ≡ is_tray_plan q = ap is_tray_plan e in cc

module _ (machine : Machine) (fate : Plan → Fate) (s : SessionState) (mid : IsMid machine s) (meets : (p : Plan) → Contains s.plans p → IsMeet s.now p (fate p)) where
  -- what was delivered
  tray-left : (p q : Plan) (f : Fate) → Contains (left_of s.now p f) q → is_tray_plan q ≡ true → p ≡ q
  tray-left p q fates.stays in' tray = one-same p q p in'
  tray-left p q fates.lost in' tray = absurd (no-tray (front_of s.now p) q refl in' tray)
  tray-left p q fates.withdrawn in' tray = absurd (omega (arith, in'.1))
  tray-left p q fates.cut in' tray = absurd (no-tray (front_of s.now p) q refl in' tray)
  tray-left p q fates.purged in' tray = absurd (no-tray (to_purge (front_of s.now p)) q refl in' tray)
  tray-left p q fates.replaced in' tray = absurd (no-tray (to_purge (front_of s.now p)) q refl in' tray)
  tray-left p q fates.dropped in' tray = absurd (omega (arith, in'.1))

  pub befall-quiet : (rs : List Record) → AreNoDeliveries rs → IsQuiet s (befall fate s) rs
  befall-quiet rs none = record {
    now = refl;
    jobs = refl;
    broke = λ n e. inl e;
    to = λ c d. record {
      p = d.p;
      there = flat_map-to (λ p. left_of s.now p (fate p)) s.plans d.p d.p d.there (subst (λ f. Contains (left_of s.now d.p f) d.p) (sym ((meets d.p d.there).stays d.past)) (Contains-here d.p []));
      of = d.of;
      to_tray = d.to_tray;
      past = d.past;
    };
    from = λ c d. back c d (flat_map-from (λ p. left_of s.now p (fate p)) s.plans d.p d.there);
    none = none;
  } where
    back : (c : SheetId) (d : IsDelivered s.now (left_by fate s.now s.plans) c) → ((p : Plan) × Contains s.plans p × Contains (left_of s.now p (fate p)) d.p) → IsDelivered s.now s.plans c
    back c d (p, there, left) =
        let same = tray-left p d.p (fate p) left d.to_tray in
        record { p = d.p; there = subst (Contains s.plans) same there; of = d.of; to_tray = d.to_tray; past = d.past }
