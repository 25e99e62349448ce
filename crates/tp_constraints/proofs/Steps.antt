-- What an opened goal, an action and a stop add.
use Rattle.std.proofs.Common.{◌≡◌, ◌⊎◌, inl, inr, ℕ, suc, ◌+◌, ◌≤◌, List, [], ◌∷◌, length, refl, sym, arith, AllPairs, subst, get_or}
use Rattle.std.specs.Prelude.{◌≤ℤ◌, ◌+ℤ◌, pos}
use Rattle.std.proofs.lemmas.List.Elements.{All-nil, All-cons, All-head, All-contains, Contains-get_or}
use Rattle.std.proofs.lemmas.Int.{ints}
use Rattle.tp_machine.specs.Modes.{gap_at}
use Rattle.tp_machine.specs.ModuleUse.{action_at}
use Rattle.tp_machine.specs.declared.parts.HoldRule.{HoldRule}
use Rattle.tp_schedule.specs.Holders.{holds_of_act}
use Rattle.tp_schedule.specs.Answers.{kept_of}
use Rattle.tp_schedule.specs.Spots.{Spot, Slot, IsApart}
use Rattle.tp_schedule.specs.Spots.Spot.{kept, own}
use Rattle.tp_schedule.specs.Choices.{start_floor, put_places}
use Rattle.tp_constraints.specs.Gaps.{KeepsGap, KeepsGaps, gap}
use Rattle.tp_constraints.specs.Suffixes.{end_gap, order_in, with_action}
use Rattle.tp_constraints.specs.Laws.{GoalLaw, ActionLaw, StopLaw}
use Rattle.std.proofs.lemmas.Bool.{cases_lt}
use Rattle.tp_constraints.proofs.DurationGaps.{range-from_gaps, gaps-from_range, each-from_flat, flat-from_each}
use Rattle.tp_constraints.proofs.EndLine.{line-from_gap, gap-from_line, front-tick}
use Rattle.tp_constraints.proofs.Rooms.{room-first, room-later}

-- a choice without places leaves the orders
pub put_places-none : (resource : ℕ) (from to : Spot) (rules : List HoldRule) (order : List Slot) → put_places resource from to rules [] order ≡ order
put_places-none resource from to [] order = refl
put_places-none resource from to (rule ∷ rules) order = refl

pub goal_law : GoalLaw
goal_law machine plans ask room t = (
  λ s. (
    (s.keeps, s.apart),
    let low = s.lows 0 (omega arith) in subst (λ m. start_floor machine ask.now ask.origin + m ≤ t (own 0)) (room-first room [] 0 refl) low,
    s.last,
    flat-from_each t (end_gap ask) plans (λ k d within. gap-from_line ask t (get_or plans k d) (λ tray a b. s.line (get_or plans k d) (Contains-get_or plans k d within) tray a b)),
  ),
  λ h. record {
    keeps = h.0.0;
    lasts = tt;
    lows = λ n le. let e : n ≡ 0 = omega arith in rw e (subst (λ m. start_floor machine ask.now ask.origin + m ≤ t (own 0)) (sym (room-first room [] 0 refl)) h.1);
    last = h.2;
    line = λ p in' tray to-tray p-to. line-from_gap ask t p (All-contains (λ q. KeepsGaps t (end_gap ask q)) plans p (each-from_flat t (end_gap ask) plans h.3) in') tray to-tray p-to;
    apart = h.0.1;
    stopped = λ e. absurd cc;
  },
)

pub action_law : ActionLaw
action_law machine plans ask x act room t lengths going known = (
  λ s. (
    record {
      keeps = s.keeps;
      lasts = s.lasts.1;
      lows = λ n le. (let r = room-later room x.rooms n (omega arith) in subst (λ m. floor + m ≤ t (own n)) r (s.lows n (omega arith)));
      last = s.last;
      line = s.line;
      apart = λ r. subst (AllPairs (IsApart (gap_at machine r) t)) (same-order r) (s.apart r);
      stopped = λ e. absurd cc;
    },
    let r = room-first room x.rooms (suc (length x.choices)) (omega arith) in subst (λ m. floor + m ≤ t (own (suc (length x.choices)))) r (s.lows (suc (length x.choices)) (omega arith)),
    gaps-from_range t (action_at machine act.0) (own (suc (length x.choices))) (own (length x.choices)) s.lasts.0,
  ),
  λ h. record {
    keeps = h.0.keeps;
    lasts = (range-from_gaps t (action_at machine act.0) (own (suc (length x.choices))) (own (length x.choices)) known h.2, h.0.lasts);
    lows = λ n le. elim (cases n le) [
      | inl below ↦ let r = room-later room x.rooms n (omega arith) in rw r (h.0.lows n below)
      | inr e ↦ let r = room-first room x.rooms n (omega arith) in rw (r, e) h.1
    ];
    last = h.0.last;
    line = h.0.line;
    apart = λ r. subst (AllPairs (IsApart (gap_at machine r) t)) (sym (same-order r)) (h.0.apart r);
    stopped = λ e. absurd cc;
  },
) where
  floor : ℕ
  floor = start_floor machine ask.now ask.origin

  same-order : (r : ℕ) → order_in machine plans (with_action act room x) r ≡ order_in machine plans x r
  same-order r = put_places-none r (own (suc (length x.choices))) (own (length x.choices)) (holds_of_act (action_at machine act.0)) (order_in machine plans x r)

  cases : (n : ℕ) → n ≤ suc (length x.choices) → (n ≤ length x.choices) ⊎ (n ≡ suc (length x.choices))
  cases n le = elim (cases_lt n (suc (length x.choices))) [
    | inl l ↦ inl (omega arith)
    | inr e ↦ inr (omega arith)
  ]

pub stop_law : StopLaw
stop_law machine plans ask x t asked can going = (
  λ s.
      let a = s.stopped refl in
      let f = front-tick machine plans ask t asked can s.keeps in
      let h : t (own (length x.choices)) ≤ t (kept ask.sheet (kept_of ask)) = omega (arith, a, f) in (
        record {
          keeps = s.keeps;
          lasts = s.lasts;
          lows = s.lows;
          last = s.last;
          line = s.line;
          apart = s.apart;
          stopped = λ e. absurd cc;
        },
        All-cons (KeepsGap t) (gap (own (length x.choices)) (kept ask.sheet (kept_of ask)) (pos 0)) [] (omega (arith, ints)) (All-nil (KeepsGap t)),
      ),
  λ h. record {
    keeps = h.0.keeps;
    lasts = h.0.lasts;
    lows = h.0.lows;
    last = h.0.last;
    line = h.0.line;
    apart = h.0.apart;
    stopped = λ _.
        let f = front-tick machine plans ask t asked can h.0.keeps in
        let g : (pos (t (own (length x.choices))) +ℤ pos 0) ≤ℤ pos (t (kept ask.sheet (kept_of ask))) = All-head (KeepsGap t) (gap (own (length x.choices)) (kept ask.sheet (kept_of ask)) (pos 0)) [] h.1 in
        let g' : t (own (length x.choices)) ≤ t (kept ask.sheet (kept_of ask)) = omega (arith, ints) in
        let low = h.0.lows (length x.choices) (omega arith) in
        omega (arith, f, g', low);
  },
)
