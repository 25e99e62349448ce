-- A list that opens on the whole schedule opens on its live part: the ticks are the same, and the places nearer by the
-- forgotten holds, which all stand before the choices'.
use Rattle.std.proofs.Common.{◌≡◌, inl, inr, ℕ, ◌+◌, ◌≤◌, Bool, true, false, not, List, ◌++◌, map, filter, length, refl, ap, arith, Contains, AllPairs, ◌∙◌, subst, Some}
use Rattle.std.proofs.lemmas.List.{length-map}
use Rattle.std.proofs.lemmas.List.Elements.{All-contains, All-append, Contains-append_cases}
use Rattle.std.proofs.lemmas.List.Kept.{AllPairs-filter}
use Rattle.std.proofs.lemmas.List.Sorted.{All-permutation, Contains-permutation, IsPermutation-sym}
use Rattle.tp_machine.proofs.MachineFacts.{is_machine}
use Rattle.tp_machine.specs.Modes.{gap_at}
use Rattle.tp_machine.specs.declared.machine.Machine.{Machine}
use Rattle.tp_schedule.specs.declared.parts.Plan.{Plan}
use Rattle.tp_schedule.specs.declared.parts.SheetId.{SheetId}
use Rattle.tp_schedule.specs.Choices.{Choice, ChoiceList, acts_of, placed, HavePlaces, ChoicesLast, OpensTo, start_floor}
use Rattle.tp_schedule.specs.Routes.{walk, AreAllowed, least_sum}
use Rattle.tp_schedule.specs.Spots.{Ticks, Slot, IsApart, IsSoundSlot, slot_order}
use Rattle.tp_schedule.specs.Spots.Spot.{own}
use Rattle.tp_schedule.specs.Times.{KeepsTimes, EndsBeforeAt}
use Rattle.tp_schedule.proofs.Membership.{Contains-filter_from}
use Rattle.tp_schedule.proofs.Pairs.{AllPairs-each}
use Rattle.tp_choices.specs.LiveParts.{less, MayForget, shift_choice, shifted, forgotten_on, WholeOpens}
use Rattle.tp_choices.proofs.OwnSlots.{own_slots, IsPermutation-placed}
use Rattle.tp_choices.proofs.SamePlaces.{kept-sound, own-sound}
use Rattle.tp_choices.proofs.SameTicks.{in-slots}
use Rattle.tp_choices.proofs.ShiftedLists.{acts-shifted, can_stop-as, keeping, are-own, keep-own_slots, ended-at, counted, live-order}
use Rattle.tp_choices.proofs.ShiftedPlaces.{IsParted, IsEnded}
use Rattle.tp_choices.proofs.UnshiftedPlaces.{placed-out}

-- ticks that keep the times of a schedule keep those of its live part
pub keeps-less : (machine : Machine) (now : ℕ) (exempt : Plan → Bool) (plans : List Plan) (gone : SheetId → Bool) (t : Ticks) → KeepsTimes machine now exempt plans t → KeepsTimes machine now exempt (less gone plans) t
keeps-less machine now exempt plans gone t keeps = record {
  lasts = λ p in'. keeps.lasts p (in-plans p in');
  fixed = λ p in'. keeps.fixed p (in-plans p in');
  floors = λ p in'. keeps.floors p (in-plans p in');
  horizon = λ p in'. keeps.horizon p (in-plans p in');
  rise = AllPairs-filter (EndsBeforeAt t) (λ p. not (gone p.sheet)) plans keeps.rise;
} where
  in-plans : (p : Plan) → Contains (less gone plans) p → Contains plans p
  in-plans p in' = (Contains-filter_from (λ q. not (gone q.sheet)) plans p in').0

-- the choices placed, each pair of slots parted by the moment
pub placed-parted : (machine : Machine) (now : ℕ) (exempt : Plan → Bool) (plans : List Plan) (gone : SheetId → Bool) (t : Ticks) (choices : List Choice) → MayForget machine now plans gone → KeepsTimes machine now exempt plans t → ChoicesLast machine t choices
    → HavePlaces machine (slot_order machine plans) choices → (resource : ℕ) → AllPairs (IsApart (gap_at machine resource) t) (placed machine resource (slot_order machine plans resource) choices) → AllPairs (IsParted (gap_at machine resource) t now (keeping gone)) (placed machine resource (slot_order machine plans resource) choices)
placed-parted machine now exempt plans gone t choices f keeps lasts places resource apart =
    AllPairs-each (IsApart (gap_at machine resource) t) (IsParted (gap_at machine resource) t now (keeping gone)) all apart (λ x y in-x in-y a. record { apart = a; long = (sound x in-x).long; first = λ e. ended x in-x e; second = λ e. ended y in-y e }) where
      all : List Slot
      all = placed machine resource (slot_order machine plans resource) choices

      sound : (s : Slot) → Contains all s → IsSoundSlot t s
      sound s in' = All-contains (IsSoundSlot t) all s (All-permutation (IsSoundSlot t) (own_slots machine resource choices ++ slot_order machine plans resource) all (IsPermutation-placed machine resource (slot_order machine plans) choices places)
          (All-append (IsSoundSlot t) (own_slots machine resource choices) (slot_order machine plans resource) (own-sound machine (is_machine machine) t resource choices lasts) (kept-sound machine now exempt plans t keeps resource))) in'

      ended : (s : Slot) → Contains all s → keeping gone s ≡ false → IsEnded (gap_at machine resource) t now s
      ended s in' e = elim (Contains-append_cases (own_slots machine resource choices) (slot_order machine plans resource) s
          (Contains-permutation all (own_slots machine resource choices ++ slot_order machine plans resource) s (IsPermutation-sym (own_slots machine resource choices ++ slot_order machine plans resource) all (IsPermutation-placed machine resource (slot_order machine plans) choices places)) in')) [
            | inl own' ↦ absurd (let stays = All-contains (λ x. keeping gone x ≡ true) (own_slots machine resource choices) s (keep-own_slots machine gone resource choices) own' in cc)
            | inr old ↦ ended-at machine now plans gone exempt t f keeps resource s (in-slots machine plans resource s old) e
          ]

pub whole_opens : WholeOpens
whole_opens machine plans ask gone list end f b o =
    let t = o.ticks in
    let parted : (r : ℕ) → AllPairs (IsParted (gap_at machine r) o.ticks ask.now (keeping gone)) (placed machine r (slot_order machine plans r) list.choices) = λ r. placed-parted machine ask.now (λ _. false) plans gone o.ticks list.choices f o.times.keeps o.times.lasts o.is_list.places r (o.times.apart r) in
    let near = placed-out machine o.ticks ask.now (keeping gone) (slot_order machine plans) (λ r. filter (λ s. not (keeping gone s)) (slot_order machine plans r)) (forgotten_on machine plans gone) (counted machine plans gone f.legal) (λ r. refl)
    list.choices (are-own machine ask gone o.ticks list.choices (least_sum machine o.before) b.ends_ahead o.times.lasts o.times.first) o.times.lasts o.is_list.places parted in
    go near.small near.is (λ r. near.orders r ∙ ap (λ order. placed machine r order near.small) (live-order machine plans gone f.legal r))
    (subst (λ g. HavePlaces machine g near.small) (λ i r. live-order machine plans gone f.legal r i) near.places) near.lasts parted where
      go : (small : List Choice) → list.choices ≡ map (shift_choice machine (forgotten_on machine plans gone)) small
          → ((r : ℕ) → filter (keeping gone) (placed machine r (slot_order machine plans r) list.choices) ≡ placed machine r (slot_order machine (less gone plans) r) small)
          → HavePlaces machine (slot_order machine (less gone plans)) small → ChoicesLast machine o.ticks small
          → ((r : ℕ) → AllPairs (IsParted (gap_at machine r) o.ticks ask.now (keeping gone)) (placed machine r (slot_order machine plans r) list.choices))
          → (near : ChoiceList) × (list ≡ shifted machine (forgotten_on machine plans gone) near) × OpensTo machine (less gone plans) ask near end
      go small is orders places lasts parted = (
        near-list,
        (λ i. record { goal = list.goal; choices = is i; stopped = list.stopped }),
        record {
          is_list = record {
            goal = o.is_list.goal;
            allowed = subst (AreAllowed machine ask.outs) acts o.is_list.allowed;
            at_most = omega (arith, o.is_list.at_most, long);
            places = places;
            can_stop = λ e. can_stop-as machine ask list near-list ask.origin acts refl (o.is_list.can_stop e);
          };
          state = o.state;
          first_state = subst (λ path. walk machine ask.want path o.state ≡ Some list.goal) acts o.first_state;
          before = o.before;
          allowed = o.allowed;
          reaches = o.reaches;
          ticks = o.ticks;
          times = record {
            keeps = keeps-less machine ask.now (λ _. false) plans gone o.ticks o.times.keeps;
            lasts = lasts;
            first = subst (λ n. start_floor machine ask.now ask.origin + least_sum machine o.before ≤ o.ticks (own n)) long o.times.first;
            last = o.times.last;
            line = λ p in'. o.times.line p (Contains-filter_from (λ q. not (gone q.sheet)) plans p in').0;
            apart = λ r. subst (AllPairs (IsApart (gap_at machine r) o.ticks)) (orders r) (AllPairs-filter (IsApart (gap_at machine r) o.ticks) (keeping gone) (placed machine r (slot_order machine plans r) list.choices) (o.times.apart r));
            stopped = λ e. subst (λ n. o.ticks (own n) ≡ start_floor machine ask.now ask.origin) long (o.times.stopped e);
          };
          ends = o.ends;
        },
      ) where
        near-list : ChoiceList
        near-list = record { goal = list.goal; choices = small; stopped = list.stopped }

        acts : acts_of list.choices ≡ acts_of small
        acts = ap acts_of is ∙ acts-shifted machine (forgotten_on machine plans gone) small

        long : length list.choices ≡ length small
        long = ap length is ∙ length-map small (shift_choice machine (forgotten_on machine plans gone))
