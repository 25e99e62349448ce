-- What the least solution makes of a schedule.
use Rattle.std.proofs.Common.{◌≡◌, ℕ, ◌≤◌, List, [], ◌∷◌, length, refl, sym, arith, ◌∙◌, ap, subst, Some}
use Rattle.std.specs.Prelude.{◌↔◌}
use Rattle.tp_base.specs.Net.{Net, IsLeast as IsLeastSolution}
use Rattle.tp_machine.specs.declared.parts.State.{State}
use Rattle.tp_machine.specs.declared.machine.Machine.{Machine}
use Rattle.tp_schedule.specs.Plans.{point}
use Rattle.tp_schedule.specs.Routes.{IsStart, Reaches, walk, least_sum}
use Rattle.tp_schedule.specs.declared.parts.Ask.{Ask}
use Rattle.tp_schedule.specs.declared.parts.Plan.{Plan}
use Rattle.tp_schedule.specs.Spots.{Spot, Ticks, ticks_of}
use Rattle.tp_schedule.specs.Spots.Spot.{kept, own}
use Rattle.tp_schedule.specs.Times.{at, timed_by}
use Rattle.tp_schedule.specs.Choices.{Choice, HasTimes, IsChoiceList, acts_of}
use Rattle.tp_choices.specs.Retimings.{NoLater}
use Rattle.tp_choices.proofs.RetimedSchedules.{ticks_retime, retimed_ticks}
use Rattle.tp_constraints.specs.Suffixes.{Suffix, list_of, SuffixTimes, HaveRooms}
use Rattle.tp_constraints.specs.Numbers.{ticks_by}
use Rattle.tp_constraints.specs.Nets.{IsBoardNet}
use Rattle.tp_constraints.specs.Leasts.{CommitLaw, BoundLaw, SettleLaw}
use Rattle.tp_schedule.proofs.Membership.{Contains-map, Contains-map_from}
use Rattle.tp_choices.proofs.ShorterLists.{HasTimes-less}
use Rattle.tp_choices.proofs.CompletePlans.{point-timed_by}
use Rattle.tp_choices.proofs.CompleteAnswers.{complete_answers}
use Rattle.tp_choices.proofs.LeastAnswers.{least_answers}
use Rattle.tp_constraints.proofs.Rooms.{first-of, room_law}
use Rattle.tp_constraints.proofs.Solutions.{board_solutions, loaded_solutions, board_least, loaded_least}
use Rattle.tp_constraints.proofs.FirstStates.{first-unique}
use Rattle.tp_schedule.specs.Answers.{IsRetimed}

least_ticks : (machine : Machine) (plans : List Plan) (ask : Ask) (x : Suffix) (goal s : State) (table : List Spot) (net : Net) (sol : ℕ → ℕ)
    → IsBoardNet machine plans ask x table net → HaveRooms machine ask goal s x.choices x.rooms → IsStart machine ask s → IsChoiceList machine plans ask (list_of goal x) → IsLeastSolution net sol
    → HasTimes machine plans ask (list_of goal x) 0 (ticks_by table sol) × ((t : Ticks) → HasTimes machine plans ask (list_of goal x) 0 t → NoLater plans (list_of goal x) (ticks_by table sol) t)
least_ticks machine plans ask x goal s table net sol is have start is_list l =
    let f = first-of machine ask goal s x.choices x.rooms have in
    let none : f.room ≡ 0 = omega (arith, f.is_room.least [] (λ act c. absurd (omega (arith, c.1))) (record { start = s; starts = start; leads = refl })) in
    let r : (t : Ticks) → SuffixTimes machine plans ask x t ↔ HasTimes machine plans ask (list_of goal x) 0 t = (λ t. subst (λ m. SuffixTimes machine plans ask x t ↔ HasTimes machine plans ask (list_of goal x) m t) none (room_law machine plans ask x goal s f.room f.rest t f.is have is_list.allowed)) in (
      (r (ticks_by table sol)).0 ((board_solutions machine plans ask x table net is sol).0 l.solution),
      λ t h. (
        λ p in' i le. (board_least machine plans ask x table net is sol l (kept p.sheet i) (p, in', refl, le)).0 t ((r t).1 h),
        λ n le. (board_least machine plans ask x table net is sol l (own n) (omega arith)).0 t ((r t).1 h),
      ),
    )

pub commit_law : CommitLaw
commit_law machine plans ask x goal s table net sol load asked is have start is_list complete some l =
    let k = least_ticks machine plans ask x goal s table net sol is have start is_list l in (
      complete_answers machine plans ask (list_of goal x) 0 (ticks_by table sol) load.legal asked is_list complete some k.0,
      least_answers machine plans ask (list_of goal x) (ticks_by table sol) load.legal asked is_list complete some k.0 k.1,
    )

walk-rooms : (machine : Machine) (ask : Ask) (goal s : State) (choices : List Choice) (rooms : List ℕ) → HaveRooms machine ask goal s choices rooms → walk machine ask.want (acts_of choices) s ≡ Some goal
walk-rooms machine ask goal s [] [] h = absurd h
walk-rooms machine ask goal s [] (room ∷ rooms) h = ap Some h.0
walk-rooms machine ask goal s (c ∷ choices) [] h = absurd h
walk-rooms machine ask goal s (c ∷ choices) (room ∷ rooms) h = rw h.1.1 (walk-rooms machine ask goal h.1.0 choices rooms h.1.2)

pub bound_law : BoundLaw
bound_law machine plans ask x goal s table net sol is have is_list l =
    let f = first-of machine ask goal s x.choices x.rooms have in
    let first = walk-rooms machine ask goal s x.choices x.rooms have in
    let r : (t : Ticks) → SuffixTimes machine plans ask x t ↔ HasTimes machine plans ask (list_of goal x) f.room t = (λ t. room_law machine plans ask x goal s f.room f.rest t f.is have is_list.allowed) in
    let times : HasTimes machine plans ask (list_of goal x) f.room (ticks_by table sol) = (r (ticks_by table sol)).0 ((board_solutions machine plans ask x table net is sol).0 l.solution) in
    record {
      opens = record {
        is_list = is_list;
        state = s;
        first_state = first;
        before = f.is_room.acts;
        allowed = f.is_room.allowed;
        reaches = f.is_room.reaches;
        ticks = ticks_by table sol;
        times = subst (λ m. HasTimes machine plans ask (list_of goal x) m (ticks_by table sol)) (sym f.is_room.sum) times;
        ends = refl;
      };
      least = λ end o.
          let same : o.state ≡ s = first-unique machine ask.want (acts_of x.choices) o.state s goal o.first_state first in
          let le : f.room ≤ least_sum machine o.before = f.is_room.least o.before o.allowed (subst (λ q. Reaches machine ask o.before q) same o.reaches) in
          let h = (r o.ticks).1 (HasTimes-less machine plans ask (list_of goal x) (least_sum machine o.before) f.room o.ticks le o.times) in
          let below = (board_least machine plans ask x table net is sol l (own 0) (omega arith)).0 o.ticks h in
          omega (arith, below, o.ends);
    }

pub settle_law : SettleLaw
settle_law machine now exempt plans table net sol load only_shape is l =
    let k = (loaded_solutions machine now exempt plans table net is sol).0 l.solution in
    let first = ticks_retime machine now exempt plans t load.legal only_shape k.0 k.1 in (
      first,
      λ other re q in' i le.
          let c = Contains-map_from (timed_by t) plans q in' in
          let p = c.0 in
          let le' : i ≤ length c.0.acts = subst (λ r. i ≤ length r.acts) c.2 le in
          let both : IsRetimed machine now exempt plans other = record {
            legal = re.legal;
            same = re.same ∙ first.same;
            fixed = λ p' p'' in'' found j fixed le''. re.fixed (timed_by t p') p'' (Contains-map (timed_by t) plans p' in'') found j fixed le'' ∙ point-timed_by t p' j le'' ∙ k.0.fixed p' in'' j fixed le'';
            orders = λ r. re.orders r ∙ first.orders r;
            floors = re.floors;
            horizon = re.horizon;
          } in
          let times = retimed_ticks machine now exempt plans other load.legal only_shape both in
          let below : at t c.0 i ≤ ticks_of other (kept c.0.sheet i) = loaded_least machine now exempt plans table net is sol l (ticks_of other) times (kept c.0.sheet i) (c.0, c.1, refl, le') in
          subst (λ r. point r i ≤ ticks_of other (kept r.sheet i)) (sym c.2) (rw (point-timed_by t c.0 i le') below),
    ) where
      t : Ticks
      t = ticks_by table sol
