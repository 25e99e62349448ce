-- The goal of a list that can be reached is due.
use Rattle.std.proofs.Common.{◌≡◌, inl, inr, ℕ, zero, suc, ◌<◌, Bool, true, false, cond, not, ◌&&◌, ◌||◌, ◌==◌, List, [], ◌∷◌, length, filter, flat_map, refl, sym, ap, subst, arith, Contains, Some, None}
use Rattle.std.specs.List.{list_any, slice_index_or}
use Rattle.std.specs.Str.{bytes_eq}
use Rattle.std.proofs.lemmas.Bool.{and_parts, cases_lt}
use Rattle.std.proofs.lemmas.List.Elements.{All-contains, Contains-append_left, Contains-append_right}
use Rattle.std.proofs.lemmas.List.Folds.{list_any-from_Any}
use Rattle.std.proofs.lemmas.Slice.Eq.{bytes_eq-Decides}
use Rattle.tp_machine.specs.Machines.{IsLocation}
use Rattle.tp_machine.specs.Steps.{after, can_step, is_done, is_front as is_front_up, prints, prints_kind, step_of, wanted}
use Rattle.tp_machine.specs.declared.parts.ActId.{ActId}
use Rattle.tp_machine.specs.declared.parts.Action.{Action}
use Rattle.tp_machine.specs.declared.parts.Face.{Face}
use Rattle.tp_machine.specs.declared.parts.Face.TheVariants.{Front, Back}
use Rattle.tp_machine.specs.declared.parts.Feeder.{Feeder}
use Rattle.tp_machine.specs.declared.parts.LocId.{LocId}
use Rattle.tp_machine.specs.declared.parts.Sheet.{Sheet}
use Rattle.tp_machine.specs.declared.parts.State.{State}
use Rattle.tp_machine.specs.declared.parts.Want.{Want}
use Rattle.tp_machine.specs.declared.parts.Want.TheVariants.{Blank, Mono, Colour}
use Rattle.tp_machine.specs.declared.machine.Machine.{Machine}
use Rattle.tp_machine.proofs.MachineFacts.{is_machine}
use Rattle.tp_schedule.specs.Answers.{IsAsked, IsAskedFrom}
use Rattle.tp_schedule.specs.LocationSets.{has}
use Rattle.tp_schedule.specs.Routes.{IsFreshStart, IsGoalState, IsStartFrom, Reaches, finished, fresh, is_wanted, walk}
use Rattle.tp_schedule.specs.declared.parts.Ask.{Ask}
use Rattle.tp_schedule.specs.declared.parts.Goal.{Goal}
use Rattle.tp_schedule.specs.declared.parts.Goal.TheVariants.{Tray, Purge}
use Rattle.tp_schedule.specs.declared.parts.Origin.{Origin}
use Rattle.tp_schedule.specs.declared.parts.Origin.TheVariants.{Feeder as FromFeeder, Front as FromFront}
use Rattle.tp_schedule.specs.declared.parts.Plan.{Plan}
use Rattle.tp_schedule.proofs.Membership.{Contains-cons_cases, Contains-filter, Contains-here, flat_map-to}
use Rattle.tp_schedule.proofs.Walks.{walk_first}
use Rattle.tp_bound_laws.specs.Places.{goal_states, is_begun, is_done_wanted, is_purge, locations_below, states_at}
use Rattle.tp_bound_laws.specs.Rows.{is_same_state}
use Rattle.tp_bound_laws.proofs.Befores.{states-at, step-action}
use Rattle.tp_bound_laws.proofs.Lists.{number-same}
use Rattle.tp_bound_laws.proofs.RowFacts.{same_state-refl}

-- ---- sides that are done are wanted

mono-wanted : (a : Action) (w : Want) → prints_kind a w ≡ true → is_wanted w ≡ true
mono-wanted a Blank e = absurd cc
mono-wanted a Mono e = refl
mono-wanted a Colour e = refl

or-left : (a b : Bool) → a ≡ true → (a || b) ≡ true
or-left true b e = refl
or-left false b e = absurd cc

or-right : (a b : Bool) → b ≡ true → (a || b) ≡ true
or-right true b e = refl
or-right false b e = e

and-from : (a b : Bool) → a ≡ true → b ≡ true → (a && b) ≡ true
and-from true b x y = y
and-from false b x y = absurd cc

-- the wanted sides stay so where a side is printed that is wanted
front-kept : (pr done want : Bool) (up : Face) → (not done || want) ≡ true → (pr ≡ true → up ≡ Front → want ≡ true) → (not (done || (pr && is_front_up up)) || want) ≡ true
front-kept pr true want up e w = e
front-kept false false want up e w = refl
front-kept true false want Front e w = w refl refl
front-kept true false want Back e w = refl

back-kept : (pr done want : Bool) (up : Face) → (not done || want) ≡ true → (pr ≡ true → up ≡ Back → want ≡ true) → (not (done || (pr && not (is_front_up up))) || want) ≡ true
back-kept pr true want up e w = e
back-kept false false want up e w = refl
back-kept true false want Front e w = refl
back-kept true false want Back e w = w refl refl

printed-wanted : (a : Action) (sheet : Sheet) (s : State) → can_step a sheet s ≡ true → prints a ≡ true → is_wanted (wanted sheet s.up) ≡ true
printed-wanted a sheet s can pr = go (prints a) pr (and_parts (s.loc.0 == a.from.0) (not (prints a) || (not (is_done s s.up) && prints_kind a (wanted sheet s.up))) can).1 where
  go : (b : Bool) → b ≡ true → (not b || (not (is_done s s.up) && prints_kind a (wanted sheet s.up))) ≡ true → is_wanted (wanted sheet s.up) ≡ true
  go true e h = mono-wanted a (wanted sheet s.up) (and_parts (not (is_done s s.up)) (prints_kind a (wanted sheet s.up)) h).1
  go false e h = absurd cc

step-wanted : (a : Action) (sheet : Sheet) (s g : State) → is_done_wanted sheet s ≡ true → step_of a sheet s ≡ Some g → is_done_wanted sheet g ≡ true
step-wanted a sheet s g ok e = go (can_step a sheet s) refl e where
  go : (b : Bool) → can_step a sheet s ≡ b → cond b (Some (after a s)) None ≡ Some g → is_done_wanted sheet g ≡ true
  go false t h = absurd cc
  go true t h =
      let both = and_parts (not s.front_done || is_wanted sheet.front) (not s.back_done || is_wanted sheet.back) ok in
      let same : after a s ≡ g = cc in
      subst (λ q. is_done_wanted sheet q ≡ true) same (and-from
      (not (s.front_done || (prints a && is_front_up s.up)) || is_wanted sheet.front)
      (not (s.back_done || (prints a && not (is_front_up s.up))) || is_wanted sheet.back)
      (front-kept (prints a) s.front_done (is_wanted sheet.front) s.up both.0 (λ pr up. subst (λ u. is_wanted (wanted sheet u) ≡ true) up (printed-wanted a sheet s t pr)))
      (back-kept (prints a) s.back_done (is_wanted sheet.back) s.up both.1 (λ pr up. subst (λ u. is_wanted (wanted sheet u) ≡ true) up (printed-wanted a sheet s t pr))))

pub walk-wanted : (machine : Machine) (sheet : Sheet) (acts : List ActId) (s g : State) → is_done_wanted sheet s ≡ true → walk machine sheet acts s ≡ Some g → is_done_wanted sheet g ≡ true
walk-wanted machine sheet [] s g ok e = let same : s ≡ g = cc in subst (λ q. is_done_wanted sheet q ≡ true) same ok
walk-wanted machine sheet (act ∷ acts) s g ok e =
    let first = walk_first machine sheet act acts s g e in
    let a = step-action machine sheet act s first.0 first.1 in
    walk-wanted machine sheet acts first.0 g (step-wanted a.0 sheet s first.0 ok a.2) first.2

fresh-wanted : (machine : Machine) (sheet : Sheet) (s : State) → IsFreshStart machine sheet s → is_done_wanted sheet s ≡ true
fresh-wanted machine sheet s any = subst (λ q. is_done_wanted sheet q ≡ true) (sym (any.4.1)) refl

start-wanted : (machine : Machine) (plans : List Plan) (ask : Ask) (s : State) (o : Origin) → IsAskedFrom machine plans ask o → IsStartFrom machine ask o s → is_done_wanted ask.want s ≡ true
start-wanted machine plans ask s FromFeeder asked start = fresh-wanted machine ask.want s start.0
start-wanted machine plans ask s (FromFront state end count) (p, planned, front) start =
    subst (λ q. is_done_wanted ask.want q ≡ true) (sym start) (walk-wanted machine ask.want p.acts front.start state (fresh-wanted machine ask.want front.start front.starts) front.leads)

pub reached-wanted : (machine : Machine) (plans : List Plan) (ask : Ask) (acts : List ActId) (s : State) → IsAsked machine plans ask → Reaches machine ask acts s → is_done_wanted ask.want s ≡ true
reached-wanted machine plans ask acts s asked r = walk-wanted machine ask.want acts r.start s (start-wanted machine plans ask r.start ask.origin asked r.starts) r.leads

-- ---- goals

location-below : (n : ℕ) (loc : LocId) → loc.0 < n → Contains (locations_below n) loc
location-below zero loc below = absurd (omega (arith, below))
location-below (suc n) loc below = elim (cases_lt loc.0 n) [
  | inl l ↦ Contains-append_left (locations_below n) (record { 0 = n } ∷ []) loc (location-below n loc l)
  | inr l ↦ let e : loc.0 ≡ n = omega arith in Contains-append_right (locations_below n) (record { 0 = n } ∷ []) loc (subst (λ k. Contains (record { 0 = k } ∷ []) loc) e (Contains-here loc []))
]

purge-is : (purges : List LocId) (loc : LocId) → Contains purges loc → list_any (λ p. p.0 == loc.0) purges ≡ true
purge-is [] loc in' = absurd (omega (arith, in'.1))
purge-is (p ∷ purges) loc in' = elim (Contains-cons_cases p purges loc in') [
  | inl is ↦ let same : p.0 ≡ loc.0 = ap (λ (l : LocId). l.0) is in rw (same, number-same loc.0) refl
  | inr later ↦ let rest = purge-is purges loc later in or-right (p.0 == loc.0) (list_any (λ q. q.0 == loc.0) purges) rest
]

pub goal-due : (machine : Machine) (sheet : Sheet) (g : Goal) (s : State) → IsGoalState machine sheet g s → is_done_wanted sheet s ≡ true → Contains (goal_states machine sheet g) s
goal-due machine sheet (Tray t) s is ok = subst (λ q. Contains (finished sheet t ∷ []) q) (sym is) (Contains-here (finished sheet t) [])
goal-due machine sheet Purge s in' ok =
    let known : s.loc.0 < length machine.locations = (All-contains (λ p. IsLocation machine p × ¬ Contains machine.trays p) machine.purges s.loc (is_machine machine).purges in').0 in
    let locs = filter (is_purge machine) (locations_below (length machine.locations)) in
    let at-location : Contains (filter (is_purge machine) (locations_below (length machine.locations))) s.loc = Contains-filter (is_purge machine) (locations_below (length machine.locations)) s.loc (location-below (length machine.locations) s.loc known) (purge-is machine.purges s.loc in') in
    Contains-filter (is_done_wanted sheet) (flat_map states_at (filter (is_purge machine) (locations_below (length machine.locations)))) s
    (flat_map-to states_at (filter (is_purge machine) (locations_below (length machine.locations))) s.loc s at-location (states-at s s.loc refl)) ok

-- ---- starts

begun-any : (feeders : List Feeder) (sheet : Sheet) (s : State) (k : ℕ) (f : Feeder) → k < length feeders → slice_index_or feeders k f ≡ f → f.media ≡ sheet.media → s ≡ fresh f.loc → list_any (λ q. bytes_eq q.media sheet.media && is_same_state s (fresh q.loc)) feeders ≡ true
begun-any feeders sheet s k f within here media is =
    let m : bytes_eq f.media sheet.media ≡ true = (bytes_eq-Decides f.media sheet.media).1 media in
    let st : is_same_state s (fresh f.loc) ≡ true = subst (λ q. is_same_state s q ≡ true) is (same_state-refl s) in
    list_any-from_Any (λ q. bytes_eq q.media sheet.media && is_same_state s (fresh q.loc)) feeders (k, f, within, here, and-from (bytes_eq f.media sheet.media) (is_same_state s (fresh f.loc)) m st)

pub start-begun : (machine : Machine) (ask : Ask) (s : State) → IsStartFrom machine ask FromFeeder s → is_begun machine ask FromFeeder s ≡ true
start-begun machine ask s (any, free) =
    let fresh-one = begun-any machine.feeders ask.want s any.0 any.1 any.2 any.3 any.4.0 any.4.1 in
    and-from (list_any (λ q. bytes_eq q.media ask.want.media && is_same_state s (fresh q.loc)) machine.feeders) (not (has ask.empty s.loc)) fresh-one (rw free refl)
