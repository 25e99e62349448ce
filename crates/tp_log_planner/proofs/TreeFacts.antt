-- A tree with a flaw is no tree for what is claimed.
use Rattle.std.proofs.Common.{◌≡◌, ◌≤◌, ◌∙◌, List, [], ◌∷◌, length, get_or, ap, sym, arith, Option, None}
use Rattle.tp_log.specs.declared.item.Item.{Item}
use Rattle.tp_log.specs.declared.item.Item.TheVariants.{Tree}
use Rattle.tp_machine.specs.declared.machine.Machine.{Machine}
use Rattle.tp_schedule.specs.declared.parts.Ask.{Ask}
use Rattle.tp_schedule.specs.declared.parts.Plan.{Plan}
use Rattle.tp_bound_laws.specs.declared.claim.Claim.{Claim}
use Rattle.tp_log_planner.specs.DueTrees.{BeginsWithTree, IsTreeItem}
use Rattle.tp_log_planner.specs.declared.failure.Failure.{Failure}
use Rattle.tp_log_planner.specs.declared.failure.Failure.TheVariants.{Memory as NoRoom, Stop}
use Rattle.tp_bound_laws.specs.Flaws.{IsFlawOf}
use Rattle.tp_bound_laws.specs.declared.claim.TreeFlaw.{TreeFlaw}
use Rattle.tp_bound_laws.specs.declared.claim.TreeFlaw.TheVariants.{Memory, RoomRow, Uncovered, NoSuchHop, Weak, NotDead}
use Rattle.tp_log_planner.specs.Failures.{Denies, failure_of, is_stop}

pub flaw-denies : (P : Type 0) (o : Option TreeFlaw) (flaw : TreeFlaw) → IsFlawOf o flaw → (P → o ≡ None) → Denies P (failure_of flaw)
flaw-denies P o Memory is none = tt
flaw-denies P o (RoomRow row) is none = λ p. let n = none p in absurd cc
flaw-denies P o (Uncovered node) is none = λ p. let n = none p in absurd cc
flaw-denies P o (NoSuchHop node hop) is none = λ p. let n = none p in absurd cc
flaw-denies P o (Weak node reach cap) is none = λ p. let n = none p in absurd cc
flaw-denies P o (NotDead node) is none = λ p. let n = none p in absurd cc

-- ---- failures
pub denies-from : (P Q : Type 0) (f : Failure) → (Q → P) → Denies P f → Denies Q f
denies-from P Q NoRoom has denied = tt
denies-from P Q (Stop stop) has denied = λ q. denied (has q)

pub denies-like : (P : Type 0) (f g : Failure) → is_stop g ≡ is_stop f → Denies P f → Denies P g
denies-like P NoRoom NoRoom e denied = tt
denies-like P NoRoom (Stop stop) e denied = absurd cc
denies-like P (Stop stop) NoRoom e denied = absurd cc
denies-like P (Stop stop) (Stop other) e denied = denied

pub denies-any : (P : Type 0) (f : Failure) → (P → ⊥) → Denies P f
denies-any P NoRoom denied = tt
denies-any P (Stop stop) denied = denied

-- ---- the first item
pub first-tree : (machine : Machine) (plans : List Plan) (ask : Ask) (claim : Claim) (items : List Item) (item : Item) → 1 ≤ length items → item ≡ get_or items 0 item → IsTreeItem machine plans ask claim item → BeginsWithTree machine plans ask claim items
first-tree machine plans ask claim [] item some is tree = absurd (omega (arith, some))
first-tree machine plans ask claim (x ∷ items) item some is tree = record { tree = tree.tree; later = items; is = ap (λ y. y ∷ items) (sym is ∙ tree.is); shows = tree.shows }

pub tree-first : (machine : Machine) (plans : List Plan) (ask : Ask) (claim : Claim) (items : List Item) (item : Item) → 1 ≤ length items → item ≡ get_or items 0 item → BeginsWithTree machine plans ask claim items → IsTreeItem machine plans ask claim item
tree-first machine plans ask claim [] item some is begins = absurd (omega (arith, some))
tree-first machine plans ask claim (x ∷ items) item some is begins = let first : x ≡ Tree begins.tree = head begins.is in record { tree = begins.tree; is = is ∙ first; shows = begins.shows } where
  head : {y : Item} {ys : List Item} → x ∷ items ≡ y ∷ ys → x ≡ y
  head e = cc
