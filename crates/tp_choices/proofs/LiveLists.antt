-- A list that opens on the live part opens on the whole schedule: its kept ticks make a schedule that is joined with what is
-- forgotten, and the places are further on by the forgotten holds.
use Rattle.std.proofs.Common.{◌≡◌, ℕ, suc, ◌+◌, ◌≤◌, ◌<◌, Bool, true, false, not, List, ◌++◌, map, filter, length, refl, sym, arith, Contains, All, AllPairs, subst, get_or, Some, IsTrue}
use Rattle.std.proofs.lemmas.Bool.{not-true}
use Rattle.std.proofs.lemmas.List.{length-map}
use Rattle.std.proofs.lemmas.List.Elements.{All-contains, All-append, Contains-get_or}
use Rattle.std.proofs.lemmas.List.Sorted.{All-permutation}
use Rattle.tp_machine.proofs.MachineFacts.{is_machine}
use Rattle.tp_machine.specs.Modes.{gap_at}
use Rattle.tp_machine.specs.declared.machine.Machine.{Machine}
use Rattle.tp_schedule.specs.declared.parts.Ask.{Ask}
use Rattle.tp_schedule.specs.declared.parts.Plan.{Plan}
use Rattle.tp_schedule.specs.declared.parts.SheetId.{SheetId}
use Rattle.tp_schedule.specs.Answers.{IsRetimed}
use Rattle.tp_schedule.specs.Choices.{ChoiceList, acts_of, placed, ChoicesLast, OpensTo, KeepsLine, start_floor}
use Rattle.tp_schedule.specs.Plans.{plan_of, is_before}
use Rattle.tp_schedule.specs.Routes.{walk, AreAllowed, least_sum}
use Rattle.tp_schedule.specs.Spots.{Spot, Ticks, Slot, IsApart, IsSoundSlot, slots, slot_order, ticks_of}
use Rattle.tp_schedule.specs.Spots.Spot.{kept, own}
use Rattle.tp_schedule.specs.Times.{KeepsTimes, KeepsOrders, timed_by, at}
use Rattle.tp_schedule.proofs.CopyFacts.{plan_of-itself, before-asym}
use Rattle.tp_schedule.proofs.Membership.{Contains-filter, Contains-filter_from, Contains-map, Contains-map_from}
use Rattle.tp_schedule.proofs.Pairs.{AllPairs-each}
use Rattle.tp_choices.specs.LiveParts.{less, MayForget, MayAskBeside, IsJoined, shift_choice, shifted, forgotten_on, LiveOpens}
use Rattle.tp_choices.proofs.CompletePlans.{point-timed_by}
use Rattle.tp_choices.proofs.RejoinedPlans.{join_exists}
use Rattle.tp_choices.proofs.LiveOrders.{others_of}
use Rattle.tp_choices.proofs.LiveTimes.{live_retimes}
use Rattle.tp_choices.proofs.OwnSlots.{own_slots, IsPermutation-placed}
use Rattle.tp_choices.proofs.PastFacts.{past_points}
use Rattle.tp_choices.proofs.PointFacts.{past-fixed}
use Rattle.tp_choices.proofs.RetimedSchedules.{ticks_retime, retimed_ticks}
use Rattle.tp_choices.proofs.SamePlaces.{kept-sound, own-sound}
use Rattle.tp_choices.proofs.SameTicks.{IsSameAt, begin-same, end-same, apart-same, in-slots}
use Rattle.tp_choices.proofs.ShiftedLists.{acts-shifted, lasts-shifted, can_stop-as, apart-base, after-floor, keeping, are-own, keep-own_slots, ended-at, counted, live-order, own-lasts}
use Rattle.tp_choices.proofs.ShiftedPlaces.{IsParted, IsEnded, BesideAt, placed-beside}
use Rattle.tp_choices.proofs.PlansLeft.{legal-staying}
use Rattle.tp_choices.proofs.TimedSlots.{All-slots, All-own_slots}

-- ticks of kept points from one, and of own points from another
abbrev joined_ticks : Ticks → Ticks → Spot → ℕ
joined_ticks k o (kept c i) = k (kept c i)
joined_ticks k o (own n) = o (own n)

module _ (machine : Machine) (plans : List Plan) (ask : Ask) (gone : SheetId → Bool) (list : ChoiceList) (end : ℕ) (f : MayForget machine ask.now plans gone) (b : MayAskBeside machine plans ask gone) (o : OpensTo machine (less gone plans) ask list end) where
  abbrev live : List Plan
  live = less gone plans

  abbrev t : Ticks
  t = o.ticks

  abbrev none : Plan → Bool
  none p = false

  small-retimed : IsRetimed machine ask.now (λ _. false) (less gone plans) (map (timed_by o.ticks) (less gone plans))
  small-retimed = ticks_retime machine ask.now (λ _. false) (less gone plans) o.ticks (legal-staying (others_of gone) machine plans f.legal) (λ p points. refl) o.times.keeps
      (λ r. apart-base (IsApart (gap_at machine r) o.ticks) machine r (slot_order machine (less gone plans) r) list.choices (o.times.apart r))

  timed-stay : (p : Plan) → Contains (map (timed_by o.ticks) (less gone plans)) p → gone p.sheet ≡ false
  timed-stay p in' =
      let from = Contains-map_from (timed_by o.ticks) (less gone plans) p in' in
      let stays = (Contains-filter_from (λ q. not (gone q.sheet)) plans from.0 from.1).1 in
      subst (λ (q : Plan). gone q.sheet ≡ false) (sym from.2) (not-true (gone from.0.sheet) stays)

  joined : (new : List Plan) × IsJoined gone plans (map (timed_by o.ticks) (less gone plans)) new
  joined = join_exists gone plans (map (timed_by o.ticks) (less gone plans)) f.legal.in_order small-retimed.legal.in_order timed-stay

  whole-keeps : KeepsTimes machine ask.now (λ _. false) plans (ticks_of joined.0) × KeepsOrders machine plans (ticks_of joined.0)
  whole-keeps = retimed_ticks machine ask.now (λ _. false) plans joined.0 f.legal (λ p points. refl)
      (live_retimes machine ask.now (λ _. false) plans (map (timed_by o.ticks) (less gone plans)) joined.0 gone f (λ p points. refl) (λ p in' e. absurd (cc)) joined.1 small-retimed)

  abbrev t' : Ticks
  t' = joined_ticks (ticks_of joined.0) o.ticks

  -- the kept ticks agree on the live part
  agrees : (p : Plan) → Contains (less gone plans) p → (i : ℕ) → i ≤ length p.acts → t' (kept p.sheet i) ≡ t (kept p.sheet i)
  agrees p in' i within =
      let in-timed : Contains (less gone joined.0) (timed_by o.ticks p) = subst (λ ps. Contains ps (timed_by o.ticks p)) (sym joined.1.live_part) (Contains-map (timed_by o.ticks) (less gone plans) p in') in
      let in-new = (Contains-filter_from (λ q. not (gone q.sheet)) joined.0 (timed_by o.ticks p) in-timed).0 in
      let is : plan_of p.sheet joined.0 ≡ Some (timed_by o.ticks p) = plan_of-itself joined.0 (timed_by o.ticks p) joined.1.in_order in-new in
      rw is (point-timed_by o.ticks p i within)

  keeps : KeepsTimes machine ask.now (λ _. false) plans t'
  keeps = record {
    lasts = whole-keeps.0.lasts;
    fixed = whole-keeps.0.fixed;
    floors = whole-keeps.0.floors;
    horizon = whole-keeps.0.horizon;
    rise = whole-keeps.0.rise;
  }

  after : (n : ℕ) → n ≤ length list.choices → ask.now < t (own n)
  after = after-floor machine ask o.ticks list.choices (least_sum machine o.before) b.ends_ahead o.times.lasts o.times.first

  line : KeepsLine ask plans t' (t (own 0))
  line p in' tray to-tray delivered = go (gone p.sheet) refl where
    go : (c : Bool) → gone p.sheet ≡ c → (IsTrue (is_before p.sheet ask.sheet) → at t' p (length p.acts) < t (own 0)) × (IsTrue (is_before ask.sheet p.sheet) → t (own 0) < at t' p (length p.acts))
    go true e =
        let stands = whole-keeps.0.fixed p in' (length p.acts) (past-fixed machine ask.now plans gone f p in' e (length p.acts) (omega arith)) (omega arith) in
        let past = past_points machine ask.now p (f.past p in' e) (length p.acts) in
        let later = after 0 (omega arith) in
        let earlier = b.earlier p in' e tray to-tray delivered in (
          λ _. omega (arith, stands, past, later),
          λ before. absurd (let back = before-asym ask.sheet p.sheet before in cc),
        )
    go false e =
        let in-live : Contains (less gone plans) p = Contains-filter (λ q. not (gone q.sheet)) plans p in' (rw e refl) in
        let l = o.times.line p in-live tray to-tray delivered in
        let same = agrees p in-live (length p.acts) (omega arith) in (
          λ before. subst (λ n. n < t (own 0)) (sym same) (l.0 before),
          λ before. subst (λ n. t (own 0) < n) (sym same) (l.1 before),
        )

  -- slots of the live part and of the choices have the same ticks
  same-placed : (resource : ℕ) → All (IsSameAt o.ticks t') (placed machine resource (slot_order machine (less gone plans) resource) list.choices)
  same-placed resource =
      All-permutation (IsSameAt o.ticks t') (own_slots machine resource list.choices ++ slot_order machine (less gone plans) resource) (placed machine resource (slot_order machine (less gone plans) resource) list.choices)
      (IsPermutation-placed machine resource (slot_order machine (less gone plans)) list.choices o.is_list.places)
      (All-append (IsSameAt o.ticks t') (own_slots machine resource list.choices) (slot_order machine (less gone plans) resource)
      (All-own_slots (IsSameAt o.ticks t') machine resource list.choices (λ n within rule. record { from = refl; to = refl }))
      (λ k d within. All-contains (IsSameAt o.ticks t') (slots machine resource (less gone plans)) (get_or (slot_order machine (less gone plans) resource) k d)
      (All-slots (IsSameAt o.ticks t') machine resource (less gone plans) (λ p in' i inside rule. record { from = agrees p in' i (omega arith); to = agrees p in' (suc i) (omega arith) }))
      (in-slots machine (less gone plans) resource (get_or (slot_order machine (less gone plans) resource) k d) (Contains-get_or (slot_order machine (less gone plans) resource) k d within))))

  keep-placed : (resource : ℕ) → All (λ s. keeping gone s ≡ true) (placed machine resource (slot_order machine (less gone plans) resource) list.choices)
  keep-placed resource =
      All-permutation (λ s. keeping gone s ≡ true) (own_slots machine resource list.choices ++ slot_order machine (less gone plans) resource) (placed machine resource (slot_order machine (less gone plans) resource) list.choices)
      (IsPermutation-placed machine resource (slot_order machine (less gone plans)) list.choices o.is_list.places)
      (All-append (λ s. keeping gone s ≡ true) (own_slots machine resource list.choices) (slot_order machine (less gone plans) resource) (keep-own_slots machine gone resource list.choices)
      (λ k d within. All-contains (λ s. keeping gone s ≡ true) (slots machine resource (less gone plans)) (get_or (slot_order machine (less gone plans) resource) k d)
      (All-slots (λ s. keeping gone s ≡ true) machine resource (less gone plans) (λ p in' i inside rule. (Contains-filter_from (λ q. not (gone q.sheet)) plans p in').1))
      (in-slots machine (less gone plans) resource (get_or (slot_order machine (less gone plans) resource) k d) (Contains-get_or (slot_order machine (less gone plans) resource) k d within))))

  sound-placed : (resource : ℕ) → All (IsSoundSlot o.ticks) (placed machine resource (slot_order machine (less gone plans) resource) list.choices)
  sound-placed resource =
      All-permutation (IsSoundSlot o.ticks) (own_slots machine resource list.choices ++ slot_order machine (less gone plans) resource) (placed machine resource (slot_order machine (less gone plans) resource) list.choices)
      (IsPermutation-placed machine resource (slot_order machine (less gone plans)) list.choices o.is_list.places)
      (All-append (IsSoundSlot o.ticks) (own_slots machine resource list.choices) (slot_order machine (less gone plans) resource) (own-sound machine (is_machine machine) o.ticks resource list.choices o.times.lasts)
      (kept-sound machine ask.now (λ _. false) (less gone plans) o.ticks o.times.keeps resource))

  -- the choices placed in the live part are apart at the joined ticks
  parted-small : (resource : ℕ) → AllPairs (IsParted (gap_at machine resource) t' ask.now (keeping gone)) (placed machine resource (slot_order machine (less gone plans) resource) list.choices)
  parted-small resource =
      AllPairs-each (IsApart (gap_at machine resource) o.ticks) (IsParted (gap_at machine resource) t' ask.now (keeping gone)) all (o.times.apart resource)
      (λ x y in-x in-y a. record {
        apart = apart-same (gap_at machine resource) o.ticks t' x y (same x in-x) (same y in-y) a;
        long = rw (begin-same o.ticks t' x (same x in-x), end-same o.ticks t' x (same x in-x)) (All-contains (IsSoundSlot o.ticks) all x (sound-placed resource) in-x).long;
        first = λ e. absurd (let stay = keeps-it x in-x in cc);
        second = λ e. absurd (let stay = keeps-it y in-y in cc);
      }) where
        all : List Slot
        all = placed machine resource (slot_order machine (less gone plans) resource) list.choices

        same : (s : Slot) → Contains all s → IsSameAt o.ticks t' s
        same s in' = All-contains (IsSameAt o.ticks t') all s (same-placed resource) in'

        keeps-it : (s : Slot) → Contains all s → keeping gone s ≡ true
        keeps-it s in' = All-contains (λ x. keeping gone x ≡ true) all s (keep-placed resource) in'

  -- the orders of the whole schedule at the joined ticks, beside those of the live part
  base : (resource : ℕ) → BesideAt (gap_at machine resource) t' ask.now (keeping gone) (filter (λ s. not (keeping gone s)) (slot_order machine plans resource)) (slot_order machine plans resource) (slot_order machine (less gone plans) resource)
  base resource = record {
    stay = live-order machine plans gone f.legal resource;
    gone = refl;
    all = AllPairs-each (IsApart (gap_at machine resource) (ticks_of joined.0)) (IsParted (gap_at machine resource) t' ask.now (keeping gone)) (slot_order machine plans resource) (whole-keeps.1 resource)
        (λ x y in-x in-y a. record {
          apart = apart-same (gap_at machine resource) (ticks_of joined.0) t' x y (same x (in-slots machine plans resource x in-x)) (same y (in-slots machine plans resource y in-y)) a;
          long = (All-contains (IsSoundSlot t') (slot_order machine plans resource) x (kept-sound machine ask.now (λ _. false) plans t' keeps resource) in-x).long;
          first = λ e. ended-at machine ask.now plans gone (λ _. false) t' f keeps resource x (in-slots machine plans resource x in-x) e;
          second = λ e. ended-at machine ask.now plans gone (λ _. false) t' f keeps resource y (in-slots machine plans resource y in-y) e;
        });
  } where
    same : (s : Slot) → Contains (slots machine resource plans) s → IsSameAt (ticks_of joined.0) t' s
    same s in' = All-contains (IsSameAt (ticks_of joined.0) t') (slots machine resource plans) s (All-slots (IsSameAt (ticks_of joined.0) t') machine resource plans (λ p _ i within rule. record { from = refl; to = refl })) in'

  ended : (resource : ℕ) (g : Slot) → Contains (filter (λ s. not (keeping gone s)) (slot_order machine plans resource)) g → IsEnded (gap_at machine resource) t' ask.now g
  ended resource g in' =
      let from = Contains-filter_from (λ s. not (keeping gone s)) (slot_order machine plans resource) g in' in
      ended-at machine ask.now plans gone (λ _. false) t' f keeps resource g (in-slots machine plans resource g from.0) (not-true (keeping gone g) from.1)

  opens : OpensTo machine plans ask (shifted machine (forgotten_on machine plans gone) list) end
  opens =
      let p = placed-beside machine t' ask.now (keeping gone) (slot_order machine plans) (slot_order machine (less gone plans)) (λ r. filter (λ s. not (keeping gone s)) (slot_order machine plans r)) (forgotten_on machine plans gone)
      (counted machine plans gone f.legal) ended base list.choices (are-own machine ask gone t' list.choices (least_sum machine o.before) b.ends_ahead lasts o.times.first) lasts o.is_list.places parted-small in
      record {
        is_list = record {
          goal = o.is_list.goal;
          allowed = subst (AreAllowed machine ask.outs) acts o.is_list.allowed;
          at_most = omega (arith, o.is_list.at_most, long);
          places = p.places;
          can_stop = λ e. can_stop-as machine ask list (shifted machine (forgotten_on machine plans gone) list) ask.origin acts refl (o.is_list.can_stop e);
        };
        state = o.state;
        first_state = subst (λ path. walk machine ask.want path o.state ≡ Some list.goal) acts o.first_state;
        before = o.before;
        allowed = o.allowed;
        reaches = o.reaches;
        ticks = t';
        times = record {
          keeps = keeps;
          lasts = lasts-shifted machine (forgotten_on machine plans gone) o.ticks t' list.choices (λ n. refl) o.times.lasts;
          first = subst (λ n. start_floor machine ask.now ask.origin + least_sum machine o.before ≤ o.ticks (own n)) long o.times.first;
          last = o.times.last;
          line = line;
          apart = λ r. AllPairs-each (IsParted (gap_at machine r) t' ask.now (keeping gone)) (IsApart (gap_at machine r) t') (placed machine r (slot_order machine plans r) (map (shift_choice machine (forgotten_on machine plans gone)) list.choices)) (p.beside r).all (λ x y _ _ q. q.apart);
          stopped = λ e. subst (λ n. o.ticks (own n) ≡ start_floor machine ask.now ask.origin) long (o.times.stopped e);
        };
        ends = o.ends;
      } where
        acts : acts_of list.choices ≡ acts_of (map (shift_choice machine (forgotten_on machine plans gone)) list.choices)
        acts = sym (acts-shifted machine (forgotten_on machine plans gone) list.choices)

        long : length list.choices ≡ length (map (shift_choice machine (forgotten_on machine plans gone)) list.choices)
        long = sym (length-map list.choices (shift_choice machine (forgotten_on machine plans gone)))

        lasts : ChoicesLast machine t' list.choices
        lasts = own-lasts machine o.ticks t' list.choices (λ n. refl) o.times.lasts

pub live_opens : LiveOpens
live_opens machine plans ask gone list end f b o = opens machine plans ask gone list end f b o
