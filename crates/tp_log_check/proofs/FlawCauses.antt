-- A flaw tells why the turn of the event that is under way is off or stops.
use Rattle.std.proofs.Common.{◌≡◌, inl, inr, List, Option, Some, None, refl, sym, subst}
use Rattle.std.specs.Prelude.{ℕ, ◌+◌, IfSome, IsNone, IsSome, MatchOption, drop, take}
use Rattle.tp_log_check.specs.declared.pending.Pending.{Pending}
use Rattle.tp_log.specs.declared.item.Item.{Item}
use Rattle.tp_log_planner.specs.declared.failure.Reason.{Reason}
use Rattle.tp_log_planner.specs.declared.failure.Reason.TheVariants as reason
use Rattle.tp_log_planner.specs.declared.failure.WrongItem.{WrongItem}
use Rattle.tp_log_check.specs.CheckerState.{CheckerValue, underway}
use Rattle.tp_log_check.specs.Heights.{heights}
use Rattle.tp_log_check.specs.Causes.{AreItemsOf, AreRightSoFar, HasCause, HasReasonUnder, IsBehind, IsDueOrStops, IsRightUnder, TellWholeTurn, flaw_at, flaw_on, lines_to}
use Rattle.tp_log_check.specs.declared.flaw.Flaw.{Flaw}
use Rattle.tp_log_check.specs.declared.flaw.Flaw.TheVariants.{Memory, Text, Due, Illegal, NotLeast, Tree}

pub some-from : {A : Type 0} (P Q : A → Type 0) (o : Option A) → ((a : A) → P a → Q a) → IfSome o P → IfSome o Q
some-from P Q None to h = tt
some-from P Q (Some a) to h = to a h

-- where something is found
pub found-some : {A : Type 0} (P : Type 0) (Q : A → Type 0) (o : Option A) → IsSome o → ((a : A) → Q a) → MatchOption o P Q
found-some P Q None some to = absurd cc
found-some P Q (Some a) some to = to a

-- a flaw of an item is never that a line is off the grammar
no-text : (n line place : ℕ) (reason : Reason) → Text n ≡ flaw_on line place reason → ⊥
no-text n line place reason.Due is = absurd cc
no-text n line place (reason.Illegal first second) is = absurd cc
no-text n line place (reason.NotLeast given least) is = absurd cc
no-text n line place (reason.Tree flaw) is = absurd cc

module _ (c : CheckerValue) (p : Pending) (is : c.under ≡ Some (underway p)) (items : List Item) (are : AreItemsOf (underway p) items) (stop : WrongItem) where
  reason-under : (flaw : Flaw) → flaw ≡ flaw_at p.line items stop → IsDueOrStops c.machine c.state p.event items stop → HasReasonUnder c.machine c.state c.under flaw
  reason-under flaw told why = subst (λ u. HasReasonUnder c.machine c.state u flaw) (sym is) (record { items = items; are = are; stop = stop; why = why; told = told })

  pub caused : (flaw : Flaw) → flaw ≡ flaw_at p.line items stop → IsDueOrStops c.machine c.state p.event items stop → HasCause c flaw
  caused Memory told why = tt
  caused (Text n) told why = absurd (no-text n (p.line + 1 + heights (take stop.item items)) (p.line + 1 + heights (take stop.item items) + lines_to (drop stop.item items) stop.reason) stop.reason told)
  caused (Due line) told why = reason-under (Due line) told why
  caused (Illegal line first second) told why = reason-under (Illegal line first second) told why
  caused (NotLeast line given least) told why = reason-under (NotLeast line given least) told why
  caused (Tree line flaw) told why = reason-under (Tree line flaw) told why

-- nothing is wrong with the items that are reported so far, where nothing is found, or what is found stands behind them
pub right-so-far : (c : CheckerValue) (p : Pending) → c.under ≡ Some (underway p) → (found : Option WrongItem) (items : List Item) → items ≡ p.items.items
    → IfSome found (IsDueOrStops c.machine c.state p.event p.items.items) → (IsNone found → TellWholeTurn c.machine c.state p.event p.items.items) → IfSome found (IsBehind items)
    → IsRightUnder c.machine c.state c.under
right-so-far c p is found items same why right behind = subst (λ u. IsRightUnder c.machine c.state u) (sym is) (go found why right behind)
  where
    go : (o : Option WrongItem) → IfSome o (IsDueOrStops c.machine c.state p.event p.items.items) → (IsNone o → TellWholeTurn c.machine c.state p.event p.items.items) → IfSome o (IsBehind items)
        → AreRightSoFar c.machine c.state p.event p.items.items
    go None why right behind = inl (right refl)
    go (Some stop) why right behind = inr (stop, why, subst (λ xs. IsBehind xs stop) same behind)
