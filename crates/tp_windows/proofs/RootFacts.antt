-- What a walk begins with, and the windows of its halves.
use Rattle.std.proofs.Common.{arith, ◌≡◌, ℕ, ◌<◌, ◌≤◌, ◌&&◌, eq-eqb, Bool, true, false, List, [], ◌∷◌, length, reverse, refl, ap, sym, ◌∙◌, subst, Option, Some, None, All, AllPairs, IsTrue}
use Rattle.std.specs.Prelude.{◌≢◌, IfSome, option_map, slice_index}
use Rattle.std.proofs.lemmas.List.{length-map, reverse-append}
use Rattle.std.proofs.lemmas.List.Elements.{All-cons, All-nil, All-pop}
use Rattle.std.proofs.lemmas.Option.{same_Some}
use Rattle.tp_base.specs.Net.{Net}
use Rattle.tp_base.specs.Readings.{Reading}
use Rattle.tp_base.specs.declared.edges.PointId.{PointId}
use Rattle.tp_machine.specs.declared.machine.Machine.{Machine}
use Rattle.tp_schedule.specs.Plans.{goes_to, is_before, is_delivered_to}
use Rattle.tp_schedule.specs.Spots.{Spot, Ticks}
use Rattle.tp_schedule.specs.Spots.Spot.{kept}
use Rattle.tp_schedule.specs.declared.parts.Ask.{Ask}
use Rattle.tp_schedule.specs.declared.parts.Goal.{Goal}
use Rattle.tp_schedule.specs.declared.parts.Goal.TheVariants.{Purge, Tray}
use Rattle.tp_schedule.specs.declared.parts.Plan.{Plan}
use Rattle.tp_choices.proofs.Lists.{All-map_from}
use Rattle.tp_constraints.proofs.PointNumbers.{number-at}
use Rattle.tp_constraints.specs.Gaps.{is_in_line}
use Rattle.tp_constraints.specs.Nets.{IsLoadedNet}
use Rattle.tp_constraints.specs.Numbers.{number, spot_at, table_of}
use Rattle.tp_placing.specs.Boards.{BoardValue, suffix_of}
use Rattle.tp_placing.specs.Edges.{is_ahead, is_behind}
use Rattle.tp_placing.specs.LoadedBoard.{IsNetOf, Stands}
use Rattle.tp_placing.specs.ReadOrders.{IsEndIn}
use Rattle.tp_windows.specs.Arrays.{EndsBefore, IsBetween, IsTimes, windows_by}
use Rattle.tp_windows.specs.Halves.{AreWindowsOf, Meets}
use Rattle.tp_windows.specs.Links.{edges_of}
use Rattle.tp_windows.specs.Roots.{IsRoot}
use Rattle.tp_windows.specs.Sides.{HaveBoth, IsFit, IsOnSide}
use Rattle.tp_windows.specs.SoughtWays.{IsAhead, IsBehind}
use Rattle.tp_windows.specs.Walks.{half_of, halves_of}
use Rattle.tp_windows.specs.Ways.{FitsLine}
use Rattle.tp_windows.specs.Windows.{MayStand}
use Rattle.tp_windows.specs.declared.ranges.Side.{Side}
use Rattle.tp_windows.specs.declared.root.Root.{Root}
use Rattle.tp_windows.proofs.Arraying.{times, to-windows}

-- the network of a loaded board with no goal open
pub loaded_net : {N : Type 0} (reading : Reading N) (b : BoardValue N) (machine : Machine) (ask : Ask) → Stands reading b machine → b.ask ≡ Some ask → suffix_of b ≡ None
    → IsLoadedNet machine ask.now (λ _. false) b.plans (table_of b.plans) (reading.net b.net)
loaded_net reading b machine ask stands asked closed =
    subst (λ x. IsNetOf machine b.plans ask x (reading.net b.net)) closed
    (subst (λ a. IsNetOf machine b.plans a (suffix_of b) (reading.net b.net)) (same_Some stands.0 ask (sym stands.1.asked ∙ asked)) stands.1.now.net)

pub points_are : (machine : Machine) (now : ℕ) (plans : List Plan) (net : Net) → IsLoadedNet machine now (λ _. false) plans (table_of plans) net → length net.lows ≡ length (table_of plans)
points_are machine now plans net is = ap length is.lows ∙ length-map (table_of plans) _

and-both : (a b : Bool) → IsTrue (a && b) → IsTrue a × IsTrue b
and-both true b both = (refl, both)
and-both false b both = absurd cc

-- a plan of the goal's line goes to a tray of it
to-tray : (goal : Goal) (p : Plan) → IsTrue (is_in_line goal p) → (tray : ℕ) × IsTrue (goes_to goal tray) × IsTrue (is_delivered_to p tray)
to-tray Purge p in' = absurd cc
to-tray (Tray t) p in' = (t.0, eq-eqb t.0 t.0 refl, in')

module _ (plans : List Plan) (ask : Ask) (differ : AllPairs (λ a b. a ≢ b) (table_of plans)) where
  at-end : (sought : Plan → Bool) (point : PointId) (is : IsEndIn sought plans point) → number (table_of plans) (kept is.plan.sheet (length is.plan.acts)) ≡ point.0
  at-end sought point is = number-at (table_of plans) differ point.0 (kept is.plan.sheet (length is.plan.acts)) is.end

  pub after_fits : (lows highs : List ℕ) (o : Option PointId) (r : Option ℕ) → IfSome o (IsEndIn (is_ahead ask) plans) → r ≡ option_map (λ p. slice_index lows p.0) o
      → (end : ℕ) → FitsLine plans ask (windows_by (table_of plans) lows highs) end → IsBehind r end
  after_fits lows highs None r is same end fits = subst (λ x. IsBehind x end) (sym same) tt
  after_fits lows highs (Some point) r is same end fits =
      let both = and-both (is_in_line ask.goal is.plan) (is_before is.plan.sheet ask.sheet) is.is_sought in
      let line = to-tray ask.goal is.plan both.0 in
      let less = (fits is.plan is.in_plans line.0 line.1 line.2).0 both.1 in
      subst (λ x. IsBehind x end) (sym same) (subst (λ n. slice_index lows n < end) (at-end (is_ahead ask) point is) less)

  pub before_fits : (lows highs : List ℕ) (o : Option PointId) (r : Option ℕ) → IfSome o (IsEndIn (is_behind ask) plans) → r ≡ option_map (λ p. slice_index highs p.0) o
      → (end : ℕ) → FitsLine plans ask (windows_by (table_of plans) lows highs) end → IsAhead r end
  before_fits lows highs None r is same end fits = subst (λ x. IsAhead x end) (sym same) tt
  before_fits lows highs (Some point) r is same end fits =
      let both = and-both (is_in_line ask.goal is.plan) (is_before ask.sheet is.plan.sheet) is.is_sought in
      let line = to-tray ask.goal is.plan both.0 in
      let less = (fits is.plan is.in_plans line.0 line.1 line.2).1 both.1 in
      subst (λ x. IsAhead x end) (sym same) (subst (λ n. end < slice_index highs n) (at-end (is_behind ask) point is) less)

  -- the plan ahead ends before the limit
  pub line_holds : (limit : ℕ) (y : ℕ → ℕ) (o : Option PointId) (r : Option Side) → IfSome o (IsEndIn (is_ahead ask) plans) → r ≡ option_map (λ p. record { point = p; tick = limit; later = false }) o
      → EndsBefore plans ask (table_of plans) limit y → IfSome r (IsOnSide y)
  line_holds limit y None r is same line = subst (λ x. IfSome x (IsOnSide y)) (sym same) tt
  line_holds limit y (Some point) r is same line =
      let both = and-both (is_in_line ask.goal is.plan) (is_before is.plan.sheet ask.sheet) is.is_sought in
      let to = to-tray ask.goal is.plan both.0 in
      let less = line is.plan is.in_plans to.0 to.1 to.2 both.1 in
      subst (λ x. IfSome x (IsOnSide y)) (sym same) (subst (λ n. y n < limit) (at-end (is_ahead ask) point is) less)

-- what was read fits together
pub root_fits : (machine : Machine) (plans : List Plan) (ask : Ask) (net : Net) (root : Root) → IsRoot machine plans ask net root → IsFit root.ranges root.edges
root_fits machine plans ask net root is = (
  is.wide.1 ∙ sym is.wide.0,
  subst (λ n. HaveBoth n (edges_of root.edges.from.links.items) root.edges) (sym is.wide.0)
      (subst (λ all. HaveBoth (length (table_of plans)) all root.edges) (sym is.edges.0.all) is.edges),
)

-- times that end the line before a limit end it before a greater one
pub times_later : (plans : List Plan) (ask : Ask) (table : List Spot) (net : Net) (lower limit : ℕ) (y : ℕ → ℕ) → lower ≤ limit → IsTimes plans ask table net lower y → IsTimes plans ask table net limit y
times_later plans ask table net lower limit y le times = record {
  solution = times.solution;
  line = λ p in' tray goes delivered before. let less = times.line p in' tray goes delivered before in omega (arith, less, le);
}

all-reversed : {X : Type 0} (P : X → Type 0) (xs : List X) → All P (reverse xs) → All P xs
all-reversed P [] all = All-nil P
all-reversed P (x ∷ xs) all =
    let split = All-pop P (reverse (x ∷ xs)) (reverse xs) (Some x) (reverse-append (x ∷ []) xs) all in
    All-cons P x xs split.1 (all-reversed P xs split.0)

-- the numbered times of ticks are on the sides whose conditions the ticks meet
pub on_sides : (table : List Spot) (t : Ticks) (path : List Side) → All (Meets t) (halves_of table path) → All (IsOnSide (λ i. t (spot_at table i))) path
on_sides table t path meets = all-reversed (IsOnSide (λ i. t (spot_at table i))) path (All-map_from (Meets t) (half_of table) (reverse path) meets)

-- ranges that hold all times on the sides are windows of the half, and there is none where no times are
module _ (machine : Machine) (plans : List Plan) (ask : Ask) (limit : ℕ) (net : Net) (is : IsLoadedNet machine ask.now (λ _. false) plans (table_of plans) net) (path : List Side) where
  pub half_windows : (lows highs : List ℕ) → length lows ≡ length (table_of plans)
      → ((y : ℕ → ℕ) → IsTimes plans ask (table_of plans) net limit y → All (IsOnSide y) path → IsBetween y lows highs)
      → AreWindowsOf machine plans ask limit (halves_of (table_of plans) path) (windows_by (table_of plans) lows highs)
  half_windows lows highs same each t stands meets =
      to-windows machine plans ask limit (table_of plans) net is t lows highs same
      (each (λ i. t (spot_at (table_of plans) i)) (times machine plans ask limit (table_of plans) net is t stands) (on_sides (table_of plans) t path meets))

  pub half_empty : ((y : ℕ → ℕ) → IsTimes plans ask (table_of plans) net limit y → All (IsOnSide y) path → ⊥)
      → (t : Ticks) → MayStand machine plans ask limit t → All (Meets t) (halves_of (table_of plans) path) → ⊥
  half_empty none t stands meets = none (λ i. t (spot_at (table_of plans) i)) (times machine plans ask limit (table_of plans) net is t stands) (on_sides (table_of plans) t path meets)
