-- A log's text read line by line: the counts of its lines are those of its items.
use Rattle.std.proofs.Common.{◌≡◌, ℕ, ◌+◌, ◌<◌, ◌≤◌, ◌^◌, cond, List, [], ◌∷◌, ◌++◌, length, map, refl, sym, ap, subst, ◌∙◌, append_assoc, length-append, arith}
use Rattle.std.specs.List.{All, count_by}
use Rattle.std.proofs.lemmas.List.{append-nil, append_cancel_left}
use Rattle.std.proofs.lemmas.List.Elements.{All-head, All-tail}
use Rattle.std.proofs.lemmas.List.Sums.{count_by-le-length, sum_by-append, sum_by-cons}
use Rattle.tp_bounds.specs.declared.tree.Node.{Node as ANode}
use Rattle.tp_bounds.specs.declared.tree.TreeRow.{TreeRow}
use Rattle.tp_log.specs.GatheredItems.{item_lines, log_lines}
use Rattle.tp_log.specs.LogLines.{IsLogLine, log_line_text}
use Rattle.tp_log.specs.Logs.{IsLog, log_text}
use Rattle.tp_log.specs.declared.item.Item.{Item}
use Rattle.tp_log.specs.declared.item.Item.TheVariants as item
use Rattle.tp_log.specs.declared.log_line.LogLine.{LogLine}
use Rattle.tp_log.specs.declared.log_line.LogLine.TheVariants as line
use Rattle.tp_log.proofs.BoundLines.{one_log_line}
use Rattle.tp_log.proofs.Items.{log_known, text_of-log}
use Rattle.tp_log.proofs.LogLines.{lines_whole, text_of}
use Rattle.tp_words.specs.Texts.{lines_of}
use Rattle.tp_soak.specs.SoakCounts.{CanGrow, counts_of, line_counts, tells, tells_line}
use Rattle.tp_soak.specs.declared.record_counts.RecordCounts.{RecordCounts}
use Rattle.tp_soak.specs.declared.record_counts.ItemKind.{ItemKind}
use Rattle.tp_soak.specs.declared.record_counts.ItemKind.TheVariants as kind

-- ---- the counts of the lines of items

module _ (k : ItemKind) where
  abbrev count_lines : List LogLine → ℕ
  count_lines lines = count_by (tells_line k) lines

  lines-append : (xs ys : List LogLine) → count_lines (xs ++ ys) ≡ count_lines xs + count_lines ys
  lines-append xs ys = sum_by-append (λ x. cond (tells_line k x) 1 0) xs ys

  lines-cons : (x : LogLine) (xs : List LogLine) → count_lines (x ∷ xs) ≡ cond (tells_line k x) 1 0 + count_lines xs
  lines-cons x xs = sum_by-cons (λ x. cond (tells_line k x) 1 0) x xs

  items-cons : (x : Item) (xs : List Item) → count_by (tells k) (x ∷ xs) ≡ cond (tells k x) 1 0 + count_by (tells k) xs
  items-cons x xs = sum_by-cons (λ x. cond (tells k x) 1 0) x xs

  no-rows : (rows : List TreeRow) → count_lines (map (λ r. line.Room r) rows) ≡ 0
  no-rows [] = refl
  no-rows (r ∷ rows) = let one = lines-cons (line.Room r) (map (λ r. line.Room r) rows) in let others = no-rows rows in omega (arith, one, others)

  no-nodes : (nodes : List ANode) → count_lines (map (λ n. line.Node n) nodes) ≡ 0
  no-nodes [] = refl
  no-nodes (n ∷ nodes) = let one = lines-cons (line.Node n) (map (λ n. line.Node n) nodes) in let others = no-nodes nodes in omega (arith, one, others)

  of-item : (i : Item) → count_lines (item_lines i) ≡ cond (tells k i) 1 0
  of-item (item.Event e) = let one = lines-cons (line.Event e) [] in omega (arith, one)
  of-item (item.Note r) = let one = lines-cons (line.Note r) [] in omega (arith, one)
  of-item (item.Tree t) =
      let both = lines-append (map (λ r. line.Room r) t.rows) (map (λ n. line.Node n) t.nodes) in
      let rows = no-rows t.rows in
      let nodes = no-nodes t.nodes in
      omega (arith, both, rows, nodes)

  of-items : (items : List Item) → count_lines (log_lines items) ≡ count_by (tells k) items
  of-items [] = refl
  of-items (i ∷ items) =
      let both = lines-append (item_lines i) (log_lines items) in
      let first = of-item i in
      let others = of-items items in
      let whole = items-cons i items in
      omega (arith, both, first, others, whole)

line-counts : (items : List Item) → line_counts (log_lines items) ≡ counts_of items
line-counts items = λ k. record {
  events = of-items kind.Event items k;
  plans = of-items kind.Plan items k;
  moves = of-items kind.Move items k;
  releases = of-items kind.Release items k;
  dones = of-items kind.Done items k;
  lost = of-items kind.Lost items k;
  nones = of-items kind.Never items k;
  budgets = of-items kind.Budget items k;
}

-- one line more
pub counts-more : (k : ItemKind) (lines : List LogLine) (told : LogLine) → count_by (tells_line k) (lines ++ told ∷ []) ≡ count_by (tells_line k) lines + cond (tells_line k told) 1 0
counts-more k lines told =
    let both = lines-append k lines (told ∷ []) in
    let one = lines-cons k told [] in
    omega (arith, both, one)

-- ---- the lines that were read

-- the first lines of a log were read and counted, and the text of the others is left
pub record IsReadTo (items : List Item) (text rest : List ℕ) (counts : RecordCounts) : Type 0 where
  pub done : List LogLine
  pub left : List LogLine
  pub parts : log_lines items ≡ done ++ left
  pub rest_is : rest ≡ text_of left
  pub room : length done + length rest ≤ length text
  pub counted : counts ≡ line_counts done

-- the next line of those that are left
record HasNext (left : List LogLine) (line more : List ℕ) : Type 0 where
  pub next : LogLine
  pub later : List LogLine
  pub are : left ≡ next ∷ later
  pub known : IsLogLine next
  pub is_line : line ≡ log_line_text next
  pub more_is : more ≡ text_of later

both-parts : (a b : List ℕ) (xs ys : List (List ℕ)) → a ∷ xs ≡ b ∷ ys → (a ≡ b) × (xs ≡ ys)
both-parts a b xs ys e = (cc, cc)

later-known : (lines others : List LogLine) → All IsLogLine (lines ++ others) → All IsLogLine others
later-known [] others known = known
later-known (l ∷ lines) others known = later-known lines others (All-tail IsLogLine l (lines ++ others) known)

next-of : (left : List LogLine) (rest line more : List ℕ) → All IsLogLine left → rest ≡ text_of left → lines_of rest ≡ line ∷ lines_of more → rest ≡ line ++ more → HasNext left line more
next-of [] rest line more known is first whole = (let none : [] ≡ line ∷ lines_of more = sym (ap lines_of is) ∙ first in absurd cc)
next-of (next ∷ later) rest line more known is first whole =
    let lines : log_line_text next ∷ map log_line_text later ≡ line ∷ lines_of more = sym (ap lines_of is ∙ lines_whole (next ∷ later) known) ∙ first in
    let same = (both-parts (log_line_text next) line (map log_line_text later) (lines_of more) lines).0 in
    let others : log_line_text next ++ more ≡ log_line_text next ++ text_of later = ap (λ l. l ++ more) same ∙ sym whole ∙ is in
    record { next = next; later = later; are = refl; known = All-head IsLogLine next later known; is_line = sym same; more_is = append_cancel_left (log_line_text next) more (text_of later) others }

module _ (items : List Item) (log : IsLog items) (text : List ℕ) where
  all-known : All IsLogLine (log_lines items)
  all-known = log_known items log.1

  left-known : (rest : List ℕ) (counts : RecordCounts) (h : IsReadTo items text rest counts) → All IsLogLine h.left
  left-known rest counts h = later-known h.done h.left (subst (All IsLogLine) h.parts all-known)

  pub read-none : (counts : RecordCounts) → counts ≡ line_counts [] → text ≡ log_text items → IsReadTo items text text counts
  read-none counts none is = record { done = []; left = log_lines items; parts = refl; rest_is = is ∙ sym (text_of-log items); room = omega arith; counted = none }

  -- the next line is one of a log
  pub is-some : (rest line more : List ℕ) (counts : RecordCounts) → IsReadTo items text rest counts → lines_of rest ≡ line ∷ lines_of more → rest ≡ line ++ more
      → (told : LogLine) × (IsLogLine told × (line ≡ log_line_text told))
  is-some rest line more counts h first whole =
      let next = next-of h.left rest line more (left-known rest counts h) h.rest_is first whole in
      (next.next, (next.known, next.is_line))

  pub read-more : (rest line more : List ℕ) (counts counts' : RecordCounts) (told : LogLine) → (h : IsReadTo items text rest counts) → lines_of rest ≡ line ∷ lines_of more → rest ≡ line ++ more
      → length more < length rest → IsLogLine told → line ≡ log_line_text told → ((lines : List LogLine) → counts ≡ line_counts lines → counts' ≡ line_counts (lines ++ told ∷ []))
      → IsReadTo items text more counts'
  read-more rest line more counts counts' told h first whole shorter known is grows =
      let next = next-of h.left rest line more (left-known rest counts h) h.rest_is first whole in
      let same : told ≡ next.next = one_log_line told next.next known next.known (sym is ∙ next.is_line) in
      record {
        done = h.done ++ told ∷ [];
        left = next.later;
        parts = h.parts ∙ ap (λ ls. h.done ++ ls) (next.are ∙ ap (λ l. l ∷ next.later) (sym same)) ∙ sym (append_assoc h.done (told ∷ []) next.later);
        rest_is = next.more_is;
        room = (let room = h.room in let longer = length-append h.done (told ∷ []) in omega (arith, room, shorter, longer));
        counted = grows h.done h.counted;
      }

  nothing-left : (left : List LogLine) → All IsLogLine left → [] ≡ text_of left → left ≡ []
  nothing-left [] known is = refl
  nothing-left (next ∷ later) known is = (let none : [] ≡ log_line_text next ∷ map log_line_text later = ap lines_of is ∙ lines_whole (next ∷ later) known in absurd cc)

  pub read-all : (rest : List ℕ) (counts : RecordCounts) → IsReadTo items text rest counts → rest ≡ [] → counts ≡ counts_of items
  read-all rest counts h none =
      let nothing = nothing-left h.left (left-known rest counts h) (sym none ∙ h.rest_is) in
      let all : log_lines items ≡ h.done = h.parts ∙ ap (λ ls. h.done ++ ls) nothing ∙ append-nil h.done in
      h.counted ∙ ap line_counts (sym all) ∙ line-counts items

-- no count is beyond the lines
pub can-grow : (items : List Item) (text rest : List ℕ) (counts : RecordCounts) → IsReadTo items text rest counts → 0 < length rest → length text < 2 ^ 64 → CanGrow counts
can-grow items text rest counts h some fits = subst CanGrow (sym h.counted) (record {
  events = room kind.Event;
  plans = room kind.Plan;
  moves = room kind.Move;
  releases = room kind.Release;
  dones = room kind.Done;
  lost = room kind.Lost;
  nones = room kind.Never;
  budgets = room kind.Budget;
})
  where
    room : (k : ItemKind) → count_by (tells_line k) h.done + 1 < 2 ^ 64
    room k = (let few = count_by-le-length (tells_line k) h.done in let bytes = h.room in omega (arith, few, bytes, some, fits))
