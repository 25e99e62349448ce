-- A schedule with a suffix of choices is its constraints.
use Rattle.std.proofs.Common.{◌≡◌, ℕ, suc, ◌+◌, ◌≤◌, Bool, true, false, List, [], ◌++◌, length, refl, arith, All, subst, get_or}
use Rattle.std.specs.Prelude.{◌≤ℤ◌, ◌+ℤ◌, pos}
use Rattle.std.proofs.lemmas.List.Elements.{All-nil, All-cons, All-head, All-append, All-contains, Contains-get_or}
use Rattle.std.proofs.lemmas.Int.{ints}
use Rattle.tp_machine.specs.Modes.{gap_at}
use Rattle.tp_machine.specs.declared.machine.Machine.{Machine}
use Rattle.tp_schedule.specs.Answers.{kept_of, IsAsked}
use Rattle.tp_schedule.specs.declared.parts.Ask.{Ask}
use Rattle.tp_schedule.specs.declared.parts.Plan.{Plan}
use Rattle.tp_schedule.specs.Spots.{Ticks, slot_order}
use Rattle.tp_schedule.specs.Spots.Spot.{kept, own}
use Rattle.tp_schedule.specs.Times.{KeepsTimes}
use Rattle.tp_schedule.specs.Choices.{start_floor}
use Rattle.tp_constraints.specs.Gaps.{Gap, KeepsGap, KeepsGaps, gap, duration_gaps, all_chains, line_gaps, IsPoint, Within}
use Rattle.tp_constraints.specs.Suffixes.{Suffix, room_of, IsSuffix, SuffixTimes, choice_gaps, end_gap, end_gaps, stop_gaps, suffix_gaps, suffix_low, suffix_cap, order_in}
use Rattle.tp_constraints.specs.Laws.{IsLoadable, SuffixLaw}
use Rattle.tp_choices.proofs.CompletePlans.{ChoicesLast-rise}
use Rattle.tp_constraints.proofs.Lists.{All-split}
use Rattle.tp_constraints.proofs.DurationGaps.{each-from_flat, flat-from_each, last-from_gaps, gaps-from_last}
use Rattle.tp_constraints.proofs.OrderGaps.{apart-from_gaps, gaps-from_apart, chains-all}
use Rattle.tp_constraints.proofs.LineGaps.{gaps-from_rise}
use Rattle.tp_constraints.proofs.Bounds.{within-from_times, within-all, within-each}
use Rattle.tp_constraints.proofs.HeldSlots.{placed-All, IsOn, order-on, own-on, placed-sound}
use Rattle.tp_constraints.proofs.ScheduleGaps.{gaps-from_lasts, times-from, apart-all}
use Rattle.tp_constraints.proofs.EndLine.{line-from_gap, gap-from_line, front-tick}

module _ (machine : Machine) (plans : List Plan) (ask : Ask) (x : Suffix) (t : Ticks) (load : IsLoadable machine ask.now (λ _. false) plans) (asked : IsAsked machine plans ask) (suffix : IsSuffix machine plans ask x) where
  abbrev durations : List Gap
  durations = duration_gaps machine plans

  abbrev lines : List Gap
  lines = line_gaps plans

  abbrev choices : List Gap
  choices = choice_gaps machine x.choices

  abbrev ends : List Gap
  ends = end_gaps ask plans

  abbrev stops : List Gap
  stops = stop_gaps ask (length x.choices) x.stopped

  abbrev chains : List Gap
  chains = all_chains machine (order_in machine plans x) (length machine.resources)

  abbrev floor : ℕ
  floor = start_floor machine ask.now ask.origin

  abbrev own_low : ℕ → ℕ
  own_low n = floor + room_of x.rooms n

  stops-keep : SuffixTimes machine plans ask x t → KeepsGaps t (stop_gaps ask (length x.choices) x.stopped)
  stops-keep s = go x.stopped refl where
    go : (b : Bool) → x.stopped ≡ b → KeepsGaps t (stop_gaps ask (length x.choices) b)
    go false e = All-nil (KeepsGap t)
    go true e =
        let a = s.stopped e in
        let f = front-tick machine plans ask t asked (suffix.can_stop e) s.keeps in
        All-cons (KeepsGap t) (gap (own (length x.choices)) (kept ask.sheet (kept_of ask)) (pos 0)) [] (let h : t (own (length x.choices)) ≤ t (kept ask.sheet (kept_of ask)) = omega (arith, a, f) in omega (arith, ints)) (All-nil (KeepsGap t))

  stopped-from : KeepsTimes machine ask.now (λ _. false) plans t → own_low (length x.choices) ≤ t (own (length x.choices)) → KeepsGaps t (stop_gaps ask (length x.choices) x.stopped) → x.stopped ≡ true → t (own (length x.choices)) ≡ floor
  stopped-from keeps low gaps e =
      let f = front-tick machine plans ask t asked (suffix.can_stop e) keeps in
      let g : KeepsGaps t (stop_gaps ask (length x.choices) true) = subst (λ b. KeepsGaps t (stop_gaps ask (length x.choices) b)) e gaps in
      let h : (pos (t (own (length x.choices))) +ℤ pos 0) ≤ℤ pos (t (kept ask.sheet (kept_of ask))) = All-head (KeepsGap t) (gap (own (length x.choices)) (kept ask.sheet (kept_of ask)) (pos 0)) [] g in
      let h' : t (own (length x.choices)) ≤ t (kept ask.sheet (kept_of ask)) = omega (arith, ints) in
      omega (arith, f, low, h')

  on-all : (r : ℕ) → All (IsOn machine r) (order_in machine plans x r)
  on-all r = placed-All (IsOn machine r) machine r (slot_order machine plans r) x.choices (own-on machine r x.choices) (order-on machine r plans)

  pub keeps-from_times : SuffixTimes machine plans ask x t → Within (IsPoint plans (suc (length x.choices))) (suffix_low machine plans ask x) (suffix_cap machine plans ask) t × KeepsGaps t (suffix_gaps machine plans ask x)
  keeps-from_times s = (
    within-all plans (suc (length x.choices)) (ask.now + machine.lead) (ask.now + machine.window) (λ _. false) own_low t load.legal.in_order (within-from_times machine ask.now (λ _. false) plans t s.keeps)
        (λ n below. let r = ChoicesLast-rise machine t x.choices s.lasts n (omega arith) in (s.lows n (omega arith), omega (arith, r.1, s.last))),
    All-append (KeepsGap t) durations (lines ++ (choices ++ (ends ++ (stops ++ chains)))) (gaps-from_lasts machine ask.now (λ _. false) plans t load s.keeps.lasts)
        (All-append (KeepsGap t) lines (choices ++ (ends ++ (stops ++ chains))) (gaps-from_rise t plans s.keeps.rise)
        (All-append (KeepsGap t) choices (ends ++ (stops ++ chains)) (gaps-from_last machine t x.choices s.lasts)
        (All-append (KeepsGap t) ends (stops ++ chains) (flat-from_each t (end_gap ask) plans (λ k d within. gap-from_line ask t (get_or plans k d) (λ tray a b. s.line (get_or plans k d) (Contains-get_or plans k d within) tray a b)))
        (All-append (KeepsGap t) stops chains (stops-keep s)
        (chains-all machine t (order_in machine plans x) (length machine.resources) (λ r. gaps-from_apart (gap_at machine r) t (order_in machine plans x r) (s.apart r))))))),
  )

  pub times-from_keeps : Within (IsPoint plans (suc (length x.choices))) (suffix_low machine plans ask x) (suffix_cap machine plans ask) t × KeepsGaps t (suffix_gaps machine plans ask x) → SuffixTimes machine plans ask x t
  times-from_keeps k =
      let a = All-split (KeepsGap t) durations (lines ++ (choices ++ (ends ++ (stops ++ chains)))) k.1 in
      let b = All-split (KeepsGap t) lines (choices ++ (ends ++ (stops ++ chains))) a.1 in
      let c = All-split (KeepsGap t) choices (ends ++ (stops ++ chains)) b.1 in
      let d = All-split (KeepsGap t) ends (stops ++ chains) c.1 in
      let e = All-split (KeepsGap t) stops chains d.1 in
      let within = within-each plans (suc (length x.choices)) (ask.now + machine.lead) (ask.now + machine.window) (λ _. false) own_low t load.legal.in_order k.0 in
      let times = times-from machine ask.now (λ _. false) plans t load within a.0 b.0 in
      let lasts = last-from_gaps machine t x.choices suffix.known c.0 in
      let lows : (n : ℕ) → n ≤ length x.choices → own_low n ≤ t (own n) = (λ n le. (k.0 (own n) (omega arith)).0) in
      record {
        keeps = times;
        lasts = lasts;
        lows = lows;
        last = (k.0 (own 0) (omega arith)).1;
        line = λ p in' tray to-tray p-to. line-from_gap ask t p (All-contains (λ q. KeepsGaps t (end_gap ask q)) plans p (each-from_flat t (end_gap ask) plans d.0) in') tray to-tray p-to;
        apart = λ r. apart-from_gaps (gap_at machine r) t (order_in machine plans x r) (placed-sound machine t r plans x.choices times.lasts lasts)
            (apart-all machine ask.now (λ _. false) plans t load (order_in machine plans x) on-all e.1 r);
        stopped = λ is_stopped. stopped-from times (lows (length x.choices) (omega arith)) e.0 is_stopped;
      }

pub suffix_law : SuffixLaw
suffix_law machine plans ask x t load asked suffix = (keeps-from_times machine plans ask x t load asked suffix, times-from_keeps machine plans ask x t load asked suffix)
