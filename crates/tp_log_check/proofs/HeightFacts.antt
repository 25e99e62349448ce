-- How many lines the first items have, and those behind them.
use Rattle.std.proofs.Common.{◌≡◌, ℕ, zero, suc, ◌+◌, ◌<◌, ◌≤◌, ◌^◌, List, [], ◌∷◌, length, take, drop, refl, ap, ◌∙◌, arith}
use Rattle.std.specs.Prelude.{min}
use Rattle.std.proofs.lemmas.List.{length-append, take_min}
use Rattle.tp_log_check.specs.Heights.{height, heights}
use Rattle.tp_log.specs.GatheredItems.{item_lines, log_lines}
use Rattle.tp_log.specs.declared.item.Item.{Item}
use Rattle.tp_log_planner.specs.declared.failure.Reason.{Reason}
use Rattle.tp_log_planner.specs.declared.failure.Reason.TheVariants as reason
use Rattle.tp_log_check.specs.Causes.{flaw_on}
use Rattle.tp_log_check.specs.FlawLines.{LiesBehind}
use Rattle.tp_log_check.specs.declared.flaw.Flaw.TheVariants.{Memory}

pub heights-more : (item : Item) (items : List Item) → heights (item ∷ items) ≡ height item + heights items
heights-more item items = length-append (item_lines item) (log_lines items)

pub heights-cut : (n : ℕ) (items : List Item) → heights items ≡ heights (take n items) + heights (drop n items)
heights-cut zero items = omega arith
heights-cut (suc n) [] = refl
heights-cut (suc n) (item ∷ items) =
    let all = heights-more item items in
    let first = heights-more item (take n items) in
    let rest = heights-cut n items in
    omega (arith, all, first, rest)

-- where the first items end is behind the event's line, and not behind all items
pub ends-within : (line n : ℕ) (items first : List Item) → first ≡ take n items → (at : ℕ) → line + 1 + heights items < 2 ^ 64 → (line + 1 + heights first < 2 ^ 64 → at ≡ line + 1 + heights first) → (line < at) × (at + heights (drop n items) ≤ line + 1 + heights items)
ends-within line n items first is at fits ends =
    let cut = heights-cut n items in
    let firsts : heights first ≡ heights (take n items) = λ k. heights (is k) in
    let here = ends (omega (arith, cut, firsts, fits)) in
    (omega (arith, here), omega (arith, here, cut, firsts))

-- the line of an item
pub line-is : (line item : ℕ) (items first : List Item) → first ≡ take (min item (length items)) items → (at : ℕ) → line + 1 + heights items < 2 ^ 64 → (line + 1 + heights first < 2 ^ 64 → at ≡ line + 1 + heights first)
    → at ≡ line + 1 + heights (take item items)
line-is line item items first is at fits ends =
    let cut = heights-cut (min item (length items)) items in
    let firsts : heights first ≡ heights (take (min item (length items)) items) = ap heights is in
    let here = ends (omega (arith, cut, firsts, fits)) in
    here ∙ ap (λ xs. line + 1 + heights xs) (is ∙ take_min item items)

pub rest-fits : (line n : ℕ) (items : List Item) → line + 1 + heights items < 2 ^ 64 → heights (drop n items) < 2 ^ 64
rest-fits line n items fits = let cut = heights-cut n items in omega (arith, cut, fits)

-- ---- flaws on lines

pub known-on : (line place : ℕ) (r : Reason) → flaw_on line place r ≡ Memory → ⊥
known-on line place reason.Due e = cc
known-on line place (reason.Illegal first second) e = cc
known-on line place (reason.NotLeast given least) e = cc
known-on line place (reason.Tree flaw) e = cc

pub lies-on : (event last line place : ℕ) (r : Reason) → (event < line) × (line ≤ last) → (event < place) × (place ≤ last) → LiesBehind event last (flaw_on line place r)
lies-on event last line place reason.Due here there = here
lies-on event last line place (reason.Illegal first second) here there = here
lies-on event last line place (reason.NotLeast given least) here there = here
lies-on event last line place (reason.Tree flaw) here there = there
