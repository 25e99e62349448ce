-- Going along the actions from one location misses no step: what lies between them starts elsewhere.
use Rattle.std.proofs.Common.{◌≡◌, ◌≢◌, ◌⊎◌, inl, inr, ℕ, zero, suc, ◌+◌, ◌-◌, ◌/◌, ◌<◌, ◌≤◌, true, false, eqb, ltb, List, [], ◌∷◌, length, slice_get, Option, Some, None, refl, sym, subst, ◌∙◌, arith}
use Rattle.std.proofs.lemmas.Bool.{cases_Bool, eqb-true, eq-eqb, ne_eqb, ltb-true, ltb-false}
use Rattle.tp_machine.specs.Steps.{step_of}
use Rattle.tp_machine.specs.declared.parts.Action.{Action}
use Rattle.tp_machine.specs.declared.parts.Sheet.{Sheet}
use Rattle.tp_machine.specs.declared.parts.State.{State}
use Rattle.tp_machine.specs.declared.machine.Machine.{Machine}
use Rattle.tp_schedule.specs.declared.parts.Ask.{Ask}
use Rattle.tp_routes.specs.Index.{NoneAt, IsNextAt, IsNextTo, AreIndexed, number_at, location_at}
use Rattle.tp_routes.specs.declared.index.ActEnd.{ActEnd}
use Rattle.tp_routes.specs.declared.index.ActEnd.TheVariants.{From, To}
use Rattle.tp_routes.specs.Numbers.{state_at}
use Rattle.tp_routes.specs.Tables.{sum_at}
use Rattle.tp_routes.specs.FilledRooms.{Waits, IsStepIn, IsSpreadTo, IsFilling, Lowers, left_to_fill}

no_step : (a : Action) (sheet : Sheet) (s : State) → a.from.0 ≢ s.loc.0 → step_of a sheet s ≡ None
no_step a sheet s differs = (let other : eqb s.loc.0 a.from.0 ≡ false = ne_eqb s.loc.0 a.from.0 (λ e. differs (sym e)) in rw other refl)

-- an action that starts elsewhere has no step
elsewhere : (machine : Machine) (ask : Ask) (sums : List (Option ℕ)) (s : State) (sum act low high : ℕ) → NoneAt From machine.actions s.loc.0 low high → low ≤ act → act < high → IsStepIn machine ask sums s sum act
elsewhere machine ask sums s sum act low high none from to a s' at allow steps =
    let both : None ≡ Some s' = sym (no_step a ask.want s (none act a from to at)) ∙ steps in
    absurd cc

pub spread-skip : (machine : Machine) (ask : Ask) (sums : List (Option ℕ)) (waiting : List ℕ) (busy low high : ℕ) → NoneAt From machine.actions (busy / 8) low high
    → IsSpreadTo machine ask sums waiting busy low → IsSpreadTo machine ask sums waiting busy high
spread-skip machine ask sums waiting busy low high none spread n v known is = go (spread n v known is)
  where
    each : ((act : ℕ) → (n ≡ busy → act < low) → IsStepIn machine ask sums (state_at n) v act) → (act : ℕ) → (n ≡ busy → act < high) → IsStepIn machine ask sums (state_at n) v act
    each steps act limit = elim (cases_Bool (eqb n busy)) [
      | inr other ↦ steps act (λ e. (let k : eqb n busy ≡ true = eq-eqb n busy e in absurd cc))
      | inl here ↦
          let e = eqb-true n busy here in
          elim (cases_Bool (ltb act low)) [
            | inl below ↦ steps act (λ f. ltb-true act low below)
            | inr above ↦ elsewhere machine ask sums (state_at n) v act low high (subst (λ (k : ℕ). NoneAt From machine.actions (k / 8) low high) (sym e) none) (ltb-false act low above) (limit e)
          ]
    ]

    go : Waits waiting n ⊎ ((act : ℕ) → (n ≡ busy → act < low) → IsStepIn machine ask sums (state_at n) v act) → Waits waiting n ⊎ ((act : ℕ) → (n ≡ busy → act < high) → IsStepIn machine ask sums (state_at n) v act)
    go (inl w) = inl w
    go (inr steps) = inr (each steps)

-- the actions that are still ahead of the cursor
abbrev pub ahead : ℕ → Option ℕ → ℕ
ahead count None = 0
ahead count (Some n) = suc (count - n)

-- the steps of the busy state are in the table up to the cursor
pub record IsAlong (machine : Machine) (ask : Ask) (sums : List (Option ℕ)) (waiting : List ℕ) (busy : ℕ) (cursor : Option ℕ) : Type 0 where
  pub low : ℕ
  pub next : IsNextAt From machine.actions (busy / 8) low cursor
  pub spread : IsSpreadTo machine ask sums waiting busy low

-- how far the steps of the busy state are in the table
pub record SpreadSoFar (machine : Machine) (ask : Ask) (before : List (Option ℕ)) (waited : List ℕ) (sums : List (Option ℕ)) (waiting : List ℕ) (busy sum : ℕ) (cursor : Option ℕ) (capacity : ℕ) : Type 0 where
  pub filling : IsFilling machine ask sums waiting
  pub along : IsAlong machine ask sums waiting busy cursor
  pub stands : sum_at sums busy ≡ Some sum
  pub lowers : Lowers before sums
  pub room : length sums ≤ capacity
  pub nearer : left_to_fill sums waiting ≤ left_to_fill before waited

-- at the cursor all actions before it are done
pub along-here : (machine : Machine) (ask : Ask) (sums : List (Option ℕ)) (waiting : List ℕ) (busy n : ℕ) (cursor : Option ℕ) → cursor ≡ Some n → IsAlong machine ask sums waiting busy cursor
    → IsSpreadTo machine ask sums waiting busy n × (n < length machine.actions) × ((a : Action) → slice_get machine.actions n ≡ Some a → a.from.0 ≡ busy / 8)
along-here machine ask sums waiting busy n cursor is along = go (subst (IsNextAt From machine.actions (busy / 8) along.low) is along.next)
  where
    go : IsNextAt From machine.actions (busy / 8) along.low (Some n) → IsSpreadTo machine ask sums waiting busy n × (n < length machine.actions) × ((a : Action) → slice_get machine.actions n ≡ Some a → a.from.0 ≡ busy / 8)
    go (low, within, from, none) = (spread-skip machine ask sums waiting busy along.low n none along.spread, within, from)

pub along-end : (machine : Machine) (ask : Ask) (sums : List (Option ℕ)) (waiting : List ℕ) (busy : ℕ) (cursor : Option ℕ) → cursor ≡ None → IsAlong machine ask sums waiting busy cursor → IsSpreadTo machine ask sums waiting busy (length machine.actions)
along-end machine ask sums waiting busy cursor is along = spread-skip machine ask sums waiting busy along.low (length machine.actions) (subst (IsNextAt From machine.actions (busy / 8) along.low) is along.next) along.spread

some_action : (xs : List Action) (k : ℕ) → k < length xs → (a : Action) × (slice_get xs k ≡ Some a)
some_action [] k below = absurd (omega arith)
some_action (x ∷ xs) zero below = (x, refl)
some_action (x ∷ xs) (suc k) below = some_action xs k (omega arith)

-- the next action at the same location
pub next-there : (end : ActEnd) (actions : List Action) (firsts nexts : List (Option ℕ)) (loc n : ℕ) → AreIndexed end actions firsts nexts 0 → n < length actions → ((a : Action) → slice_get actions n ≡ Some a → location_at end a ≡ loc)
    → IsNextAt end actions loc (n + 1) (number_at nexts n)
next-there end actions firsts nexts loc n index within at =
    let a = some_action actions n within in
    subst (λ p. IsNextAt end actions p (n + 1) (number_at nexts n)) (at a.0 a.1) (index.next n a.0 (omega arith) a.1)

pub ahead-smaller : (end : ActEnd) (actions : List Action) (loc n : ℕ) (o : Option ℕ) → n < length actions → IsNextAt end actions loc (n + 1) o → ahead (length actions) o < suc (length actions - n)
ahead-smaller end actions loc n None within next = omega arith
ahead-smaller end actions loc n (Some m) within next = (let above = next.0 in omega arith)

-- the same of those that lead to a location
pub next-to : (actions : List Action) (firsts nexts : List (Option ℕ)) (loc n : ℕ) → AreIndexed To actions firsts nexts 0 → n < length actions → ((a : Action) → slice_get actions n ≡ Some a → a.to.0 ≡ loc)
    → IsNextTo actions loc (n + 1) (number_at nexts n)
next-to = next-there To

pub fewer-ahead : (actions : List Action) (loc n : ℕ) (o : Option ℕ) → n < length actions → IsNextTo actions loc (n + 1) o → ahead (length actions) o < suc (length actions - n)
fewer-ahead = ahead-smaller To
