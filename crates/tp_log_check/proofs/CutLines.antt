-- Lines of a log that are cut where an event begins are those of its first items, and a log's items are cut so in one way alone.
use Rattle.std.proofs.Common.{◌≡◌, ◌+◌, ◌≤◌, true, false, List, [], ◌∷◌, ◌++◌, All, refl, sym, ap, subst, ◌∙◌, arith, length}
use Rattle.std.specs.Prelude.{IsFalse}
use Rattle.std.proofs.lemmas.List.Elements.{All-cons, All-head, All-nil, All-tail}
use Rattle.tp_bounds.specs.declared.tree.Node.{Node as ANode}
use Rattle.tp_bounds.specs.declared.tree.TreeRow.{TreeRow}
use Rattle.tp_log.specs.GatheredItems.{item_lines, log_lines}
use Rattle.tp_log.specs.LogLines.{AreInOrder, FollowEach, is_event}
use Rattle.tp_log.specs.Logs.{AreInPlace, IsItem, IsLog, StandEach, is_echo}
use Rattle.tp_log.specs.declared.item.Item.{Item}
use Rattle.tp_log.specs.declared.item.Item.TheVariants.{Event, Note, Tree}
use Rattle.tp_log.specs.declared.log_line.LogLine.{LogLine}
use Rattle.tp_log.specs.declared.log_line.LogLine.TheVariants as line
use Rattle.tp_log.proofs.Items.{node_lines, row_lines, same_items}
use Rattle.tp_log_check.specs.Gathered.{ArePlain}
use Rattle.tp_log_check.specs.Lawful.{EndEvent}

-- ---- lines

abbrev AreTreeLines : List LogLine → Type 0
AreTreeLines [] = Unit {0}
AreTreeLines (l ∷ lines) = (is_event l ≡ false) × AreTreeLines lines

of-nodes : (nodes : List ANode) → AreTreeLines (node_lines nodes)
of-nodes [] = tt
of-nodes (n ∷ nodes) = (refl, of-nodes nodes)

of-rows : (rows : List TreeRow) (nodes : List ANode) → AreTreeLines (row_lines rows ++ node_lines nodes)
of-rows [] nodes = of-nodes nodes
of-rows (r ∷ rows) nodes = (refl, of-rows rows nodes)

-- lines that are no event's are not cut
record HoldsFirst (first rest before : List LogLine) (more : List LogLine) : Type 0 where
  left : List LogLine
  is : before ≡ first ++ left
  other : rest ≡ left ++ more

holds-first : (first rest before more : List LogLine) → AreTreeLines first → EndEvent more → first ++ rest ≡ before ++ more → HoldsFirst first rest before more
holds-first [] rest before more plain cut e = record { left = before; is = refl; other = e }
holds-first (l ∷ first) rest [] [] plain cut e = absurd (cc)
holds-first (l ∷ first) rest [] (m ∷ more) plain cut e =
    absurd (let same : l ≡ m = cc in let no : true ≡ false = sym cut ∙ ap is_event (sym same) ∙ plain.0 in cc)
holds-first (l ∷ first) rest (b ∷ before) more plain cut e =
    let same : l ≡ b = cc in
    let others : first ++ rest ≡ before ++ more = cc in
    let h = holds-first first rest before more plain.1 cut others in
    record { left = h.left; is = λ k. sym same k ∷ h.is k; other = h.other }

-- the items of the lines before the cut, and those behind it
pub record IsCut (items : List Item) (before more : List LogLine) : Type 0 where
  pub first : List Item
  pub rest : List Item
  pub are : items ≡ first ++ rest
  pub lines : log_lines first ≡ before
  pub others : log_lines rest ≡ more

none-before : (items : List Item) (more : List LogLine) → log_lines items ≡ more → IsCut items [] more
none-before items more e = record { first = []; rest = items; are = refl; lines = refl; others = e }

one-more : (item : Item) (items : List Item) (before left more : List LogLine) → before ≡ item_lines item ++ left → IsCut items left more → IsCut (item ∷ items) before more
one-more item items before left more is c = record {
  first = item ∷ c.first;
  rest = c.rest;
  are = ap (λ xs. item ∷ xs) c.are;
  lines = ap (λ ls. item_lines item ++ ls) c.lines ∙ sym is;
  others = c.others;
}

pub cut-lines : (items : List Item) (before more : List LogLine) → EndEvent more → log_lines items ≡ before ++ more → IsCut items before more
cut-lines items [] more cut e = none-before items more e
cut-lines [] (b ∷ before) more cut e = absurd (cc)
cut-lines (Event event ∷ items) (b ∷ before) more cut e =
    let same : line.Event event ≡ b = cc in
    let rest : log_lines items ≡ before ++ more = cc in
    one-more (Event event) items (b ∷ before) before more (ap (λ l. l ∷ before) (sym same)) (cut-lines items before more cut rest)
cut-lines (Note told ∷ items) (b ∷ before) more cut e =
    let same : line.Note told ≡ b = cc in
    let rest : log_lines items ≡ before ++ more = cc in
    one-more (Note told) items (b ∷ before) before more (ap (λ l. l ∷ before) (sym same)) (cut-lines items before more cut rest)
cut-lines (Tree tree ∷ items) (b ∷ before) more cut e =
    let h = holds-first (row_lines tree.rows ++ node_lines tree.nodes) (log_lines items) (b ∷ before) more (of-rows tree.rows tree.nodes) cut e in
    one-more (Tree tree) items (b ∷ before) h.left more h.is (cut-lines items h.left more cut h.other)

-- ---- the first items of a log are one

stand-first : (before : Item) (xs ys : List Item) → StandEach before (xs ++ ys) → StandEach before xs
stand-first before [] ys h = tt
stand-first before (x ∷ xs) ys h = (h.0, stand-first x xs ys h.1)

place-first : (xs ys : List Item) → AreInPlace (xs ++ ys) → AreInPlace xs
place-first [] ys h = tt
place-first (x ∷ xs) ys h = (h.0, stand-first x xs ys h.1)

all-first : (xs ys : List Item) → All IsItem (xs ++ ys) → All IsItem xs
all-first [] ys all = All-nil IsItem
all-first (x ∷ xs) ys all = All-cons IsItem x xs (All-head IsItem x (xs ++ ys) all) (all-first xs ys (All-tail IsItem x (xs ++ ys) all))

all-behind : (xs ys : List Item) → All IsItem (xs ++ ys) → All IsItem ys
all-behind [] ys all = all
all-behind (x ∷ xs) ys all = all-behind xs ys (All-tail IsItem x (xs ++ ys) all)

-- the first of the items, if there is one, is an event
abbrev pub BeginEvent : List Item → Type 0
BeginEvent [] = Unit {0}
BeginEvent (item ∷ items) = is_echo item ≡ true

begins-event : (items : List Item) (more : List LogLine) → All IsItem items → EndEvent more → log_lines items ≡ more → BeginEvent items
begins-event [] more all cut e = tt
begins-event (Event event ∷ items) more all cut e = refl
begins-event (Note told ∷ items) [] all cut e = absurd (cc)
begins-event (Note told ∷ items) (m ∷ more) all cut e = absurd (let same : line.Note told ≡ m = cc in let no : true ≡ false = sym cut ∙ ap is_event (sym same) in cc)
begins-event (Tree tree ∷ items) more all cut e = absurd (none tree.rows tree.nodes more (All-head IsItem (Tree tree) items all).0 cut (sym e)) where
  none : (rows : List TreeRow) (nodes : List ANode) (ms : List LogLine) → 1 ≤ length rows + length nodes → EndEvent ms → ms ≡ (row_lines rows ++ node_lines nodes) ++ log_lines items → ⊥
  none [] [] ms some cut e = omega (arith, some)
  none [] (n ∷ nodes) ms some cut e = let no : is_event (line.Node n) ≡ true = subst EndEvent e cut in cc
  none (r ∷ rows) nodes ms some cut e = let no : is_event (line.Room r) ≡ true = subst EndEvent e cut in cc

-- a log's lines that begin with those of another log, and go on where an event begins: its items begin with those
pub record BeginsWith (items known : List Item) : Type 0 where
  pub rest : List Item
  pub are : items ≡ known ++ rest
  pub event : BeginEvent rest

pub begins-with : (items known : List Item) (more : List LogLine) → IsLog items → IsLog known → EndEvent more → log_lines items ≡ log_lines known ++ more → BeginsWith items known
begins-with items known more log log' cut e =
    let c = cut-lines items (log_lines known) more cut e in
    let all = subst (All IsItem) c.are log.1 in
    let first = same_items c.first known (place-first c.first c.rest (subst AreInPlace c.are log.0), all-first c.first c.rest all) log' c.lines in
    record { rest = c.rest; are = c.are ∙ ap (λ xs. xs ++ c.rest) first; event = begins-event c.rest more (all-behind c.first c.rest all) cut c.others }

-- ---- items that are cut where an event begins

plain-event : (x : Item) → is_echo x ≡ false → is_echo x ≡ true → ⊥
plain-event x e f = let no : true ≡ false = sym f ∙ e in cc

pub same-cut : (xs ys rest other : List Item) → ArePlain xs → ArePlain ys → BeginEvent rest → BeginEvent other → xs ++ rest ≡ ys ++ other → (xs ≡ ys) × (rest ≡ other)
same-cut [] [] rest other px py br bo e = (refl, e)
same-cut [] (y ∷ ys) [] other px py br bo e = absurd (cc)
same-cut [] (y ∷ ys) (r ∷ rest) other px py br bo e =
    absurd (let same : r ≡ y = cc in plain-event y (All-head (λ item. IsFalse (is_echo item)) y ys py) (ap is_echo (sym same) ∙ br))
same-cut (x ∷ xs) [] rest [] px py br bo e = absurd (cc)
same-cut (x ∷ xs) [] rest (o ∷ other) px py br bo e =
    absurd (let same : x ≡ o = cc in plain-event x (All-head (λ item. IsFalse (is_echo item)) x xs px) (ap is_echo same ∙ bo))
same-cut (x ∷ xs) (y ∷ ys) rest other px py br bo e =
    let same : x ≡ y = cc in
    let others : xs ++ rest ≡ ys ++ other = cc in
    let h = same-cut xs ys rest other (All-tail (λ item. IsFalse (is_echo item)) x xs px) (All-tail (λ item. IsFalse (is_echo item)) y ys py) br bo others in
    (λ k. same k ∷ h.0 k, h.1)

-- ---- lines in order
order-behind : (before : LogLine) (xs ys : List LogLine) → FollowEach before (xs ++ ys) → EndEvent ys → AreInOrder ys
order-behind before [] [] h cut = tt
order-behind before [] (y ∷ ys) h cut = (cut, h.1)
order-behind before (x ∷ xs) ys h cut = order-behind x xs ys h.1 cut

-- lines behind a cut are in order
pub order-cut : (xs ys : List LogLine) → AreInOrder (xs ++ ys) → EndEvent ys → AreInOrder ys
order-cut [] ys h cut = h
order-cut (x ∷ xs) ys h cut = order-behind x xs ys h.1 cut
