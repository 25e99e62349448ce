-- A plan keeps what it keeps: as time goes on, where it is released, cut, or only its times change.
use Rattle.std.proofs.Common.{◌≡◌, ℕ, suc, ◌+◌, ◌<◌, ◌≤◌, ◌∙◌, inl, inr, Bool, true, false, ◌&&◌, ◌||◌, length, refl, sym, ap, subst, arith, IsTrue, nat_lt, nat_le}
use Rattle.std.specs.Str.{bytes_eq}
use Rattle.std.proofs.lemmas.Bool.Decides.{nat_tests}
use Rattle.std.proofs.lemmas.List.{get_or-take, length-take-le}
use Rattle.std.proofs.lemmas.List.Folds.{list_any-from_Any}
use Rattle.std.proofs.lemmas.List.Sums.{count_by-le-length}
use Rattle.std.proofs.lemmas.Slice.Eq.{bytes_eq-Decides}
use Rattle.tp_machine.specs.declared.parts.Feeder.{Feeder}
use Rattle.tp_machine.specs.declared.machine.Machine.{Machine}
use Rattle.tp_schedule.specs.Holders.{runs_of}
use Rattle.tp_schedule.specs.Plans.{IsTimedPlan, is_fixed, is_front, point}
use Rattle.tp_schedule.specs.declared.parts.Plan.{Plan}
use Rattle.tp_jobs.specs.JobRefusals.{has_media}
use Rattle.tp_event_rules.specs.Fates.{to_purge}
use Rattle.tp_event_rules.specs.Moments.{due_until, front_of, is_started, release_until, started_count}
use Rattle.tp_event_rules.proofs.AnsweredPlans.{IsUnmoved}
use Rattle.tp_event_rules.proofs.CutPlans.{length-runs_from}
use Rattle.tp_event_rules.proofs.ReleasedPlans.{release-within}
use Rattle.tp_outage_laws.proofs.Flight.{DoRise, rises, started-are}
use Rattle.tp_session.specs.Kept.{IsCounted, KeepsPlan}
use Rattle.tp_session.proofs.Releases.{release-low}

-- and besides it has one point more than actions, which rise, and a feeder has its media: so it is with each timed plan, and with what
-- is left of one, be it nothing
pub record StaysPlan (machine : Machine) (now : ℕ) (p : Plan) : Type 0 where
  pub kept : KeepsPlan machine now p
  pub one_more : length p.points ≡ length p.acts + 1
  pub rise : DoRise p.acts p.points
  pub released : p.released ≤ length p.acts
  pub media : IsTrue (has_media machine p.want.media)

pub timed-media : (machine : Machine) (p : Plan) → IsTimedPlan machine p → IsTrue (has_media machine p.want.media)
timed-media machine p timed =
    let (k, f, within, is, starts) = timed.starts in
    list_any-from_Any (λ (f : Feeder). bytes_eq p.want.media f.media) machine.feeders (k, f, within, is, (bytes_eq-Decides p.want.media f.media).1 (sym starts.0))

pub stays-timed : (machine : Machine) (now : ℕ) (p : Plan) → IsTimedPlan machine p → KeepsPlan machine now p → StaysPlan machine now p
stays-timed machine now p timed k = record {
  kept = k;
  one_more = timed.one_more;
  rise = rises machine p timed;
  released = timed.released;
  media = timed-media machine p timed;
}

-- as the clock moves on, and more is released
pub stays-released : (machine : Machine) (now to : ℕ) (p : Plan) → now ≤ to → StaysPlan machine now p → StaysPlan machine to (release_until (to + machine.lead) p)
stays-released machine now to p later s = record {
  kept = record {
    counted = s.kept.counted;
    within = λ i low. (let w : point p i ≤ now + machine.window = s.kept.within i low in omega arith);
    due = λ i low. elim (release-low (to + machine.lead) p i s.one_more s.rise s.released low) [
      | inl old ↦ (let d : point p i ≤ now + machine.lead = s.kept.due i old in omega arith)
      | inr early ↦ early
    ];
    front = λ front.
        (let all : p.released ≡ length p.acts = s.kept.front front in
        let most : p.released + length (due_until (to + machine.lead) p) ≤ length p.acts = release-within (to + machine.lead) p s.released in
        omega arith);
  };
  one_more = s.one_more;
  rise = s.rise;
  released = release-within (to + machine.lead) p s.released;
  media = s.media;
}

-- what is left of it
module _ (machine : Machine) (now : ℕ) (p : Plan) (s : StaysPlan machine now p) where
  one_more : length p.points ≡ length p.acts + 1
  one_more = s.one_more

  started-within : started_count now p ≤ length p.acts
  started-within =
      let runs = length-runs_from p.sheet 1 p.acts p.points one_more in
      let most = count_by-le-length (is_started now) (runs_of p) in omega arith

  front-acts : length (front_of now p).acts ≡ started_count now p
  front-acts = length-take-le (started_count now p) p.acts started-within

  front-points : length (front_of now p).points ≡ started_count now p + 1
  front-points = let few = started-within in let more = one_more in length-take-le (started_count now p + 1) p.points (omega arith)

  front-point : (i : ℕ) → i ≤ started_count now p → point (front_of now p) i ≡ point p i
  front-point i low = get_or-take (started_count now p + 1) p.points i 0 (omega arith)

  pub stays-front : StaysPlan machine now (front_of now p)
  stays-front = record {
    kept = record {
      counted = s.kept.counted;
      within = λ i low.
          (let acts = front-acts in
          let few = started-within in
          let same = front-point i (omega arith) in
          let w : point p i ≤ now + machine.window = s.kept.within i (omega arith) in
          omega arith);
      due = λ i low.
          (let same = front-point i (omega arith) in
          let started : point p i ≤ now = (started-are now p.sheet 1 p.acts p.points s.rise one_more).0 i low in
          omega arith);
      front = λ front. sym front-acts;
    };
    one_more = (let acts = front-acts in let points = front-points in omega arith);
    rise = λ j low.
        (let acts = front-acts in
        let few = started-within in
        let here = front-point j (omega arith) in
        let there = front-point (suc j) (omega arith) in
        let up : point p j < point p (suc j) = s.rise j (omega arith) in
        omega arith);
    released = (let acts = front-acts in omega arith);
    media = s.media;
  }

  pub stays-purged : StaysPlan machine now (to_purge p)
  stays-purged = record {
    kept = record { counted = s.kept.counted; within = s.kept.within; due = s.kept.due; front = s.kept.front };
    one_more = s.one_more;
    rise = s.rise;
    released = s.released;
    media = s.media;
  }

  -- and the same plan at other times, where fixed points stay and the others are within the window
  low-fixed : (front : Bool) (released i : ℕ) → i < released → (front || (nat_lt 0 released && nat_le i released)) ≡ true
  low-fixed front released i low = grind (arith, nat_tests)

  pub stays-moved : (q : Plan) → IsUnmoved q p → IsTimedPlan machine q → ((i : ℕ) → is_fixed p i ≡ true → i ≤ length p.acts → point q i ≡ point p i)
      → ((i : ℕ) → i ≤ length q.acts → is_fixed q i ≡ false → point q i ≤ now + machine.window) → StaysPlan machine now q
  stays-moved q u timed fixed horizon =
      stays-timed machine now q timed (record {
        counted = subst IsCounted (sym (ap (λ (x : Plan). x.sheet) u.is)) s.kept.counted;
        within = λ i low. within i low (is_fixed q i) refl;
        due = λ i low.
            (let released : q.released ≡ p.released = ap (λ (x : Plan). x.released) u.is in
            let before : i < p.released = omega arith in
            let most : p.released ≤ length p.acts = s.released in
            let same = fixed i (low-fixed (is_front p.kind) p.released i before) (omega arith) in
            let d : point p i ≤ now + machine.lead = s.kept.due i before in
            omega arith);
        front = λ front. ap (λ (x : Plan). x.released) u.is ∙ s.kept.front (ap (λ (x : Plan). is_front x.kind) (sym u.is) ∙ front) ∙ ap (λ (x : Plan). length x.acts) (sym u.is);
      })
    where
      within : (i : ℕ) → i ≤ length q.acts → (b : Bool) → is_fixed q i ≡ b → point q i ≤ now + machine.window
      within i low false e = horizon i low e
      within i low true e =
          let acts : length q.acts ≡ length p.acts = ap (λ (x : Plan). length x.acts) u.is in
          let same = fixed i (ap (λ (x : Plan). is_fixed x i) (sym u.is) ∙ e) (omega arith) in
          let w : point p i ≤ now + machine.window = s.kept.within i (omega arith) in
          omega arith
