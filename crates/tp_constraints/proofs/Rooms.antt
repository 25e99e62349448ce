-- The rooms of a suffix: those of later points follow from the first.
use Rattle.std.proofs.Common.{◌≡◌, inl, inr, ℕ, zero, suc, ◌+◌, ◌≤◌, ◌<◌, true, false, ◌==◌, List, [], ◌∷◌, ◌++◌, length, refl, sym, arith, Contains, ◌∙◌, ap, subst, Some, IsTrue}
use Rattle.std.proofs.lemmas.Bool.Decides.{nat_tests}
use Rattle.tp_machine.specs.declared.parts.ActId.{ActId}
use Rattle.tp_machine.specs.declared.parts.State.{State}
use Rattle.tp_machine.specs.declared.machine.Machine.{Machine}
use Rattle.tp_schedule.specs.Routes.{Reaches, IsRoom, AreAllowed, least_of, step_by, is_act_allowed}
use Rattle.tp_schedule.specs.declared.parts.Ask.{Ask}
use Rattle.tp_schedule.specs.Spots.{Ticks}
use Rattle.tp_schedule.specs.Spots.Spot.{own}
use Rattle.tp_schedule.specs.Choices.{Choice, acts_of, start_floor, ChoicesLast}
use Rattle.tp_schedule.proofs.Walks.{walk_on, least_sum-push, AreAllowed-tail, AreAllowed-head, AreAllowed-push}
use Rattle.tp_choices.proofs.ShorterLists.{LastsWithin-least}
use Rattle.tp_constraints.specs.Suffixes.{room_of, HaveRooms}
use Rattle.tp_constraints.specs.Laws.{RoomLaw}
use Rattle.std.proofs.lemmas.Bool.{cases_lt}

-- the room of the first point, and of the others
pub same-is : (n m : ℕ) → n ≡ m → (n == m) ≡ true
same-is n m e = grind (arith, nat_tests)

other-is : (n m : ℕ) → n < m → (n == m) ≡ false
other-is n m e = grind (arith, nat_tests)

pub room-first : (room : ℕ) (rooms : List ℕ) (n : ℕ) → n ≡ length rooms → room_of (room ∷ rooms) n ≡ room
room-first room rooms n e = let h = same-is n (length rooms) e in rw h refl

pub room-later : (room : ℕ) (rooms : List ℕ) (n : ℕ) → n < length rooms → room_of (room ∷ rooms) n ≡ room_of rooms n
room-later room rooms n e = let h = other-is n (length rooms) e in rw h refl

-- rooms grow by at most the least duration, so the lows of later points follow
pub record IsFirst (machine : Machine) (ask : Ask) (s : State) (choices : List Choice) (rooms : List ℕ) : Type 0 where
  pub room : ℕ
  pub rest : List ℕ
  pub is : rooms ≡ room ∷ rest
  pub is_room : IsRoom machine ask s room
  pub count : length rest ≡ length choices

pub first-of : (machine : Machine) (ask : Ask) (goal s : State) (choices : List Choice) (rooms : List ℕ) → HaveRooms machine ask goal s choices rooms → IsFirst machine ask s choices rooms
first-of machine ask goal s [] [] h = absurd h
first-of machine ask goal s [] (room ∷ rooms) h = record { room = room; rest = rooms; is = refl; is_room = h.1; count = ap length h.2 }
first-of machine ask goal s (c ∷ choices) [] h = absurd h
first-of machine ask goal s (c ∷ choices) (room ∷ rooms) h =
    let r = first-of machine ask goal h.1.0 choices rooms h.1.2 in
    record { room = room; rest = rooms; is = refl; is_room = h.0; count = ap length r.is ∙ ap suc r.count }

room-of_first : (machine : Machine) (ask : Ask) (s : State) (choices : List Choice) (rooms : List ℕ) → (f : IsFirst machine ask s choices rooms) → room_of rooms (length choices) ≡ f.room
room-of_first machine ask s choices rooms f = ap (λ rs. room_of rs (length choices)) f.is ∙ room-first f.room f.rest (length choices) (sym f.count)

next-room : (machine : Machine) (ask : Ask) (s s' : State) (act : ActId) (room room' : ℕ) → step_by machine ask.want act s ≡ Some s' → AreAllowed machine ask.outs (act ∷ []) → IsRoom machine ask s room → IsRoom machine ask s' room' → room' ≤ room + least_of machine act
next-room machine ask s s' act room room' step allowed a b =
    let all = AreAllowed-push machine ask.outs a.acts act a.allowed (AreAllowed-head machine ask.outs act [] allowed) in
    let reaches : Reaches machine ask (a.acts ++ act ∷ []) s' = record { start = a.reaches.start; starts = a.reaches.starts; leads = walk_on machine ask.want a.acts act a.reaches.start s s' a.reaches.leads step } in
    let le = b.least (a.acts ++ act ∷ []) all reaches in
    omega (arith, le, least_sum-push machine a.acts act, a.sum)

lows-all : (machine : Machine) (ask : Ask) (goal s : State) (choices : List Choice) (rooms : List ℕ) (floor : ℕ) (t : Ticks) → HaveRooms machine ask goal s choices rooms → AreAllowed machine ask.outs (acts_of choices) → ChoicesLast machine t choices
    → floor + room_of rooms (length choices) ≤ t (own (length choices)) → (n : ℕ) → n ≤ length choices → floor + room_of rooms n ≤ t (own n)
lows-all machine ask goal s [] rooms floor t h allowed last low n le = let e : n ≡ 0 = omega arith in rw e low
lows-all machine ask goal s (c ∷ choices) [] floor t h allowed last low n le = absurd h
lows-all machine ask goal s (c ∷ choices) (room ∷ rooms) floor t h allowed last low n le =
    let f = first-of machine ask goal h.1.0 choices rooms h.1.2 in
    let g = room-of_first machine ask h.1.0 choices rooms f in
    let long : length rooms ≡ suc (length choices) = ap length f.is ∙ ap suc f.count in
    let here = room-first room rooms (suc (length choices)) (sym long) in
    let one : AreAllowed machine ask.outs (c.act ∷ []) = (λ act in'. only act in') in
    let step = next-room machine ask s h.1.0 c.act room f.room h.1.1 one h.0 f.is_room in
    let least = LastsWithin-least machine c.act (t (own (suc (length choices)))) (t (own (length choices))) last.0 in
    let low' : floor + room_of rooms (length choices) ≤ t (own (length choices)) = omega (arith, low, here, g, step, least) in
    elim (cases_lt n (suc (length choices))) [
      | inl l ↦ let r = room-later room rooms n (omega (arith, l, long)) in rw r (lows-all machine ask goal h.1.0 choices rooms floor t h.1.2 (AreAllowed-tail machine ask.outs c.act (acts_of choices) allowed) last.1 low' n (omega arith))
      | inr e ↦ let same : n ≡ suc (length choices) = omega arith in rw same low
    ] where
      only : (act : ActId) → Contains (c.act ∷ []) act → IsTrue (is_act_allowed machine ask.outs act)
      only act (zero, within, is) = subst (λ a. IsTrue (is_act_allowed machine ask.outs a)) is (AreAllowed-head machine ask.outs c.act (acts_of choices) allowed)
      only act (suc k, within, is) = absurd (omega (arith, within))

pub room_law : RoomLaw
room_law machine plans ask x goal s room rooms t is have allowed =
    let f = first-of machine ask goal s x.choices x.rooms have in
    let g : room_of x.rooms (length x.choices) ≡ f.room = room-of_first machine ask s x.choices x.rooms f in
    let same : f.room ≡ room = first-is (sym f.is ∙ is) in (
      λ h. record {
        keeps = h.keeps;
        lasts = h.lasts;
        first = let low = h.lows (length x.choices) (omega arith) in omega (arith, low, g, same);
        last = h.last;
        line = h.line;
        apart = h.apart;
        stopped = h.stopped;
      },
      λ h. record {
        keeps = h.keeps;
        lasts = h.lasts;
        lows = lows-all machine ask goal s x.choices x.rooms (start_floor machine ask.now ask.origin) t have allowed h.lasts (omega (arith, h.first, g, same));
        last = h.last;
        line = h.line;
        apart = h.apart;
        stopped = h.stopped;
      },
    ) where
      first-is : {a b : ℕ} {xs ys : List ℕ} → a ∷ xs ≡ b ∷ ys → a ≡ b
      first-is e = cc
