-- The earlier of two ticks at each point: so the stop makes a way end no later.
use Rattle.std.proofs.Common.{◌≡◌, ℕ, suc, false, List, [], ◌∷◌, length, refl, ap, arith, min, Option, Some, None, IsTrue, IsFalse, IsSome}
use Rattle.std.proofs.lemmas.List.Elements.{All-nil, All-cons, All-head, All-tail}
use Rattle.std.proofs.lemmas.Int.{ints}
use Rattle.tp_machine.specs.ModuleUse.{action_at}
use Rattle.tp_machine.specs.declared.parts.ActId.{ActId}
use Rattle.tp_machine.specs.declared.parts.Action.{Action}
use Rattle.tp_machine.specs.declared.parts.State.{State}
use Rattle.tp_machine.specs.declared.machine.Machine.{Machine}
use Rattle.tp_schedule.specs.Answers.{IsAsked}
use Rattle.tp_schedule.specs.Choices.{Choice, start_floor}
use Rattle.tp_schedule.specs.Routes.{is_act_allowed}
use Rattle.tp_schedule.specs.Spots.{Spot, Ticks}
use Rattle.tp_schedule.specs.Spots.Spot.{own}
use Rattle.tp_schedule.specs.declared.parts.Ask.{Ask}
use Rattle.tp_schedule.specs.declared.parts.Plan.{Plan}
use Rattle.tp_constraints.specs.Gaps.{Gap, KeepsConstraints, KeepsGap, KeepsGaps}
use Rattle.tp_constraints.specs.Laws.{IsLoadable}
use Rattle.tp_constraints.specs.Suffixes.{HaveRooms, IsSuffix, Suffix, SuffixTimes, with_stop}
use Rattle.tp_constraints.proofs.SuffixGaps.{suffix_law}
use Rattle.tp_constraints.specs.Ends.{HasEndBy, StopEnds}
use Rattle.tp_constraints.specs.Ways.{IsWay}

-- the earlier of two ticks at each point
abbrev earlier : Ticks → Ticks → Ticks
earlier t u s = min (t s) (u s)

earlier-gap : (t u : Ticks) (g : Gap) → KeepsGap t g → KeepsGap u g → KeepsGap (earlier t u) g
earlier-gap t u g a b = omega (arith, ints, a, b)

earlier-gaps : (t u : Ticks) (gaps : List Gap) → KeepsGaps t gaps → KeepsGaps u gaps → KeepsGaps (earlier t u) gaps
earlier-gaps t u [] a b = All-nil (KeepsGap (earlier t u))
earlier-gaps t u (g ∷ gaps) a b =
    All-cons (KeepsGap (earlier t u)) g gaps (earlier-gap t u g (All-head (KeepsGap t) g gaps a) (All-head (KeepsGap u) g gaps b)) (earlier-gaps t u gaps (All-tail (KeepsGap t) g gaps a) (All-tail (KeepsGap u) g gaps b))

earlier-keeps : (known : Spot → Type 0) (low cap : Spot → ℕ) (gaps : List Gap) (t u : Ticks) → KeepsConstraints known low cap gaps t → KeepsConstraints known low cap gaps u → KeepsConstraints known low cap gaps (earlier t u)
earlier-keeps known low cap gaps t u a b = (
  λ s is. let x = a.0 s is in let y = b.0 s is in let x0 = x.0 in let x1 = x.1 in let y0 = y.0 in (omega (arith, x0, y0), omega (arith, x1)),
  earlier-gaps t u gaps a.1 b.1,
)

-- with true rooms a way is a suffix
pub rooms-count : (machine : Machine) (ask : Ask) (goal first : State) (choices : List Choice) (rooms : List ℕ) → HaveRooms machine ask goal first choices rooms → length rooms ≡ suc (length choices)
rooms-count machine ask goal first [] [] have = absurd have
rooms-count machine ask goal first [] (room ∷ rooms) have = ap (λ (rs : List ℕ). suc (length rs)) have.2
rooms-count machine ask goal first (c ∷ choices) [] have = absurd have
rooms-count machine ask goal first (c ∷ choices) (room ∷ rooms) have = ap suc (rooms-count machine ask goal have.1.0 choices rooms have.1.2)

allowed-known : (machine : Machine) (ask : Ask) (act : ActId) → IsTrue (is_act_allowed machine ask.outs act) → IsSome (action_at machine act.0)
allowed-known machine ask act is = go (action_at machine act.0) refl where
  go : (o : Option Action) → action_at machine act.0 ≡ o → IsSome o
  go None none = let no : is_act_allowed machine ask.outs act ≡ false = rw none refl in absurd cc
  go (Some a) some = refl

way-suffix : (machine : Machine) (plans : List Plan) (ask : Ask) (goal first : State) (x : Suffix) → IsWay machine plans ask goal first x → IsFalse x.stopped → IsSuffix machine plans ask x
way-suffix machine plans ask goal first x way going = record {
  rooms = rooms-count machine ask goal first x.choices x.rooms way.rooms;
  known = λ act there. allowed-known machine ask act (way.allowed act there);
  places = way.places;
  can_stop = λ is. absurd cc;
}

module _ (machine : Machine) (plans : List Plan) (ask : Ask) (x : Suffix) (load : IsLoadable machine ask.now (λ _. false) plans) (asked : IsAsked machine plans ask) (suffix : IsSuffix machine plans ask x) (going : IsFalse x.stopped) where
  earlier-times : (t u : Ticks) → SuffixTimes machine plans ask x t → SuffixTimes machine plans ask x u → SuffixTimes machine plans ask x (earlier t u)
  earlier-times t u a b =
      (suffix_law machine plans ask x (earlier t u) load asked suffix).1 (earlier-keeps _ _ _ _ t u ((suffix_law machine plans ask x t load asked suffix).0 a) ((suffix_law machine plans ask x u load asked suffix).0 b))

  -- the times of a stopped suffix are times of it as it goes on
  going-times : (t : Ticks) → SuffixTimes machine plans ask (with_stop x) t → SuffixTimes machine plans ask x t
  going-times t s = record { keeps = s.keeps; lasts = s.lasts; lows = s.lows; last = s.last; line = s.line; apart = s.apart; stopped = λ is. absurd cc }

  stopped-times : (t : Ticks) → SuffixTimes machine plans ask x t → t (own (length x.choices)) ≡ start_floor machine ask.now ask.origin → SuffixTimes machine plans ask (with_stop x) t
  stopped-times t s at = record { keeps = s.keeps; lasts = s.lasts; lows = s.lows; last = s.last; line = s.line; apart = s.apart; stopped = λ is. at }

  stop-by : (last : ℕ) (t : Ticks) → HasEndBy machine plans ask x last → SuffixTimes machine plans ask (with_stop x) t → HasEndBy machine plans ask (with_stop x) last
  stop-by last t ends s =
      let n = length x.choices in
      let at = s.stopped refl in
      let low = ends.are_times.lows n (omega arith) in
      let by = ends.by in
      record {
        ticks = earlier ends.ticks t;
        are_times = stopped-times (earlier ends.ticks t) (earlier-times ends.ticks t ends.are_times (going-times t s)) (omega (arith, at, low));
        by = omega (arith, by);
      }

pub stop-ends : StopEnds
stop-ends machine plans ask goal first x last t load asked way going ends s = stop-by machine plans ask x load asked (way-suffix machine plans ask goal first x way going) going last t ends s
