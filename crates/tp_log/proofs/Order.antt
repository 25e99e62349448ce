-- Lines in order, and one line more.
use Rattle.std.proofs.Common.{◌≡◌, zero, suc, ℕ, true, false, IsTrue, List, [], ◌∷◌, ◌++◌, map, take, refl, sym, ap, ◌∙◌, append_assoc}
use Rattle.tp_bounds.specs.declared.tree.Node.{Node as ANode}
use Rattle.tp_bounds.specs.declared.tree.TreeRow.{TreeRow}
use Rattle.tp_log.specs.declared.log_line.LogLine.{LogLine}
use Rattle.tp_log.specs.declared.log_line.LogLine.TheVariants.{Event, Note, Room, Node}
use Rattle.tp_log.specs.LogLines.{AreInOrder, FollowEach, may_follow}
use Rattle.tp_log.specs.GatheredItems.{allows, behind, last_from, next_of}

-- ---- one line more
follow_more : (before : LogLine) (lines : List LogLine) (told : LogLine) → FollowEach before lines → IsTrue (may_follow (last_from before lines) told) → FollowEach before (lines ++ told ∷ [])
follow_more before [] told h last = (last, tt)
follow_more before (l ∷ ls) told h last = (h.0, follow_more l ls told h.1 last)

follow_last : (before : LogLine) (lines : List LogLine) (told : LogLine) → FollowEach before (lines ++ told ∷ []) → IsTrue (may_follow (last_from before lines) told)
follow_last before [] told h = h.0
follow_last before (l ∷ ls) told h = follow_last l ls told h.1

-- behind a line, what may follow it is allowed
behind-allows : (before told : LogLine) → allows (behind before) told ≡ may_follow before told
behind-allows before (Event e) = refl
behind-allows before (Note r) = refl
behind-allows before (Room row) = refl
behind-allows before (Node node) = refl

pub order_more : (lines : List LogLine) (told : LogLine) → AreInOrder lines → allows (next_of lines) told ≡ true → AreInOrder (lines ++ told ∷ [])
order_more [] (Event e) h may = (refl, tt)
order_more [] (Note r) h may = absurd cc
order_more [] (Room row) h may = absurd cc
order_more [] (Node node) h may = absurd cc
order_more (l ∷ ls) told h may = (h.0, follow_more l ls told h.1 (sym (behind-allows (last_from l ls) told) ∙ may))

pub order_last : (lines : List LogLine) (told : LogLine) → AreInOrder (lines ++ told ∷ []) → allows (next_of lines) told ≡ true
order_last [] (Event e) h = refl
order_last [] (Note r) h = h.0
order_last [] (Room row) h = h.0
order_last [] (Node node) h = h.0
order_last (l ∷ ls) told h = behind-allows (last_from l ls) told ∙ follow_last l ls told h.1

pub next_of-more : (lines : List LogLine) (told : LogLine) → next_of (lines ++ told ∷ []) ≡ behind told
next_of-more [] told = refl
next_of-more (l ∷ ls) told = ap behind (go l ls told)
  where
    go : (before : LogLine) (lines : List LogLine) (told : LogLine) → last_from before (lines ++ told ∷ []) ≡ told
    go before [] told = refl
    go before (l ∷ ls) told = go l ls told

-- no row may stand behind nodes
pub row_behind_nodes : (lines : List LogLine) (row : TreeRow) (nodes : List ANode) (node : ANode) → allows (next_of (lines ++ Node node ∷ map (λ n. Node n) nodes)) (Room row) ≡ false
row_behind_nodes lines row [] node = ap (λ next. allows next (Room row)) (next_of-more lines (Node node))
row_behind_nodes lines row (n ∷ ns) node =
    ap (λ ls. allows (next_of ls) (Room row)) (sym (append_assoc lines (Node node ∷ []) (Node n ∷ map (λ n. Node n) ns))) ∙ row_behind_nodes (lines ++ Node node ∷ []) row ns n

-- ---- the first lines
follow_take : (n : ℕ) (before : LogLine) (lines : List LogLine) → FollowEach before lines → FollowEach before (take n lines)
follow_take zero before lines h = tt
follow_take (suc n) before [] h = tt
follow_take (suc n) before (l ∷ ls) h = (h.0, follow_take n l ls h.1)

pub order_take : (n : ℕ) (lines : List LogLine) → AreInOrder lines → AreInOrder (take n lines)
order_take zero lines h = tt
order_take (suc n) [] h = tt
order_take (suc n) (l ∷ ls) h = (h.0, follow_take n l ls h.1)
