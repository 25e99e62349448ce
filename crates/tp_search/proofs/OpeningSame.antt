-- What stays while a list is opened.
use Rattle.std.proofs.Common.{◌≡◌, List, take, Contains, refl, sym, ap, subst, ◌∙◌, arith}
use Rattle.tp_machine.specs.declared.parts.State.{State}
use Rattle.tp_machine.specs.declared.machine.Machine.{Machine}
use Rattle.tp_pool.specs.Entries.{Entry, IsParentOf, choices_before}
use Rattle.tp_pool.specs.declared.choice.Choice.{Choice as Stored}
use Rattle.tp_schedule.specs.Choices.{ChoiceList, IsChild, going}
use Rattle.tp_schedule.specs.declared.parts.Ask.{Ask}
use Rattle.tp_schedule.specs.declared.parts.Plan.{Plan}
use Rattle.tp_search.specs.OpenedLists.{IsAtProgress, IsFresh, IsSameOpening, Progress, parent_of}
use Rattle.tp_search.specs.Stored.{choices_by, list_by}
use Rattle.tp_search.specs.Stores.{HasBounds, StoreGrows, StoreValue}
use Rattle.tp_search.specs.declared.opening.Opening.{Opening}
use Rattle.tp_search.proofs.StoreFacts.{as-long, choices-grow, grows-itself, grows-trans, stored-grow}

pub same-itself : (o : Opening) (s : StoreValue) → IsSameOpening o o s s
same-itself o s = record { goal = refl; parent = refl; bound = refl; stored = refl; grows = grows-itself s }

pub same-trans : (a b c : Opening) (r s t : StoreValue) → IsSameOpening a b r s → IsSameOpening b c s t → IsSameOpening a c r t
same-trans a b c r s t first second = record {
  goal = second.goal ∙ first.goal;
  parent = second.parent ∙ first.parent;
  bound = second.bound ∙ first.bound;
  stored = second.stored ∙ first.stored;
  grows = grows-trans r s t first.grows second.grows;
}

-- with another bound at which a dive failed
pub barred-same : (o o' : Opening) (s s' : StoreValue) → o' ≡ record o { barred = o'.barred } → StoreGrows s s' → IsSameOpening o o' s s'
barred-same o o' s s' is grows = record {
  goal = ap (λ (x : Opening). x.goal) is;
  parent = ap (λ (x : Opening). x.parent) is;
  bound = ap (λ (x : Opening). x.bound) is;
  stored = ap (λ (x : Opening). x.stored) is;
  grows = grows;
}

-- the same is known of it
pub progress-same : (machine : Machine) (plans : List Plan) (ask : Ask) (o o' : Opening) (s : StoreValue) (p : Progress) → o'.goal ≡ o.goal → o'.parent ≡ o.parent → o'.bound ≡ o.bound → o'.stored ≡ o.stored
    → IsAtProgress machine plans ask o s p → IsAtProgress machine plans ask o' s p
progress-same machine plans ask o o' s p goal parent bound stored at =
    subst (λ g. IsAtProgress machine plans ask (record { parent = o'.parent; goal = g; bound = o'.bound; stored = o'.stored; barred = o'.barred }) s p) (sym goal)
    (subst (λ q. IsAtProgress machine plans ask (record { parent = q; goal = o.goal; bound = o'.bound; stored = o'.stored; barred = o'.barred }) s p) (sym parent)
    (subst (λ b. IsAtProgress machine plans ask (record { parent = o.parent; goal = o.goal; bound = b; stored = o'.stored; barred = o'.barred }) s p) (sym bound)
    (subst (λ n. IsAtProgress machine plans ask (record { parent = o.parent; goal = o.goal; bound = o.bound; stored = n; barred = o'.barred }) s p) (sym stored) at)))

-- the choices of the list that is being opened
pub before-same : (machine : Machine) (ask : Ask) (o o' : Opening) (s s' : StoreValue) → IsSameOpening o o' s s' → IsFresh machine ask o s → choices_before s'.entries o'.parent ≡ choices_before s.entries o.parent
before-same machine ask o o' s s' same fresh = ap (choices_before s'.entries) same.parent ∙ choices-grow s s' o.stored o.parent same.grows fresh.parent fresh.stored

-- the entries that were there before it
pub stored-same : (machine : Machine) (ask : Ask) (o o' : Opening) (s s' : StoreValue) → IsSameOpening o o' s s' → IsFresh machine ask o s → take o'.stored s'.entries ≡ take o.stored s.entries
stored-same machine ask o o' s s' same fresh = ap (λ n. take n s'.entries) same.stored ∙ stored-grow s s' o.stored same.grows fresh.stored

pub fresh-same : (machine : Machine) (ask : Ask) (o o' : Opening) (s s' : StoreValue) → IsSameOpening o o' s s' → IsFresh machine ask o s → IsFresh machine ask o' s'
fresh-same machine ask o o' s s' same fresh =
    let before = before-same machine ask o o' s s' same fresh in
    let longer = as-long s s' same.grows in
    record {
      stored = omega (arith, same.stored, fresh.stored);
      parent = subst (λ p. IsParentOf o'.stored p) (sym same.parent) (subst (λ n. IsParentOf n o.parent) (sym same.stored) fresh.parent);
      same_goal = λ c cs is. fresh.same_goal c cs (sym before ∙ is) ∙ sym same.goal;
      none_before = λ e there child. fresh.none_before e (subst (λ es. Contains es e) (stored-same machine ask o o' s s' same fresh) there) (is-child before e child);
    } where
      as-parent : (choices : List Stored) → choices_before s'.entries o'.parent ≡ choices → parent_of machine s'.entries o'.goal o'.parent ≡ going o.goal (choices_by machine choices)
      as-parent choices is = ap {B = ChoiceList} (λ (g : State). going g (choices_by machine (choices_before s'.entries o'.parent))) same.goal ∙ ap {B = ChoiceList} (λ cs. going o.goal (choices_by machine cs)) is

      is-child : choices_before s'.entries o'.parent ≡ choices_before s.entries o.parent → (e : Entry) → IsChild machine ask (parent_of machine s'.entries o'.goal o'.parent) (list_by machine e.choices)
          → IsChild machine ask (parent_of machine s.entries o.goal o.parent) (list_by machine e.choices)
      is-child before e child = subst (λ p. IsChild machine ask p (list_by machine e.choices)) (as-parent (choices_before s.entries o.parent) before) child

pub bounds-same : (machine : Machine) (ask : Ask) (o o' : Opening) (s s' : StoreValue) → IsSameOpening o o' s s' → HasBounds machine ask s → HasBounds machine ask s'
bounds-same machine ask o o' s s' same bounds =
    let base = same.grows.base in
    let width = same.grows.width in
    let first = bounds.0 in
    let last = bounds.1 in
    (omega arith, omega arith)
