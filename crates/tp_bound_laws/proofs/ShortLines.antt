-- A tree whose nodes have few hops has no long line: no word has more than 164 bytes.
use Rattle.std.proofs.Common.{ℕ, ◌+◌, ◌*◌, ◌≤◌, ◌&&◌, List, [], ◌∷◌, ◌++◌, length, map, flat_map, arith, All}
use Rattle.std.specs.Prelude.{decimal, nat_le}
use Rattle.std.specs.List.{AllByRecursion, list_all}
use Rattle.std.proofs.lemmas.Bool.{and_parts, leb-true}
use Rattle.std.proofs.lemmas.Fmt.{length-decimal-le}
use Rattle.std.proofs.lemmas.List.{length-append, length-map}
use Rattle.std.proofs.lemmas.List.Elements.{All-append, All-cons, All-head, All-nil, All-tail}
use Rattle.tp_base.specs.NameText.{is_name_byte}
use Rattle.tp_bounds.specs.declared.hops.Hop.{Hop}
use Rattle.tp_bounds.specs.declared.hops.Hop.TheVariants.{Duration, Line, «Resource» as Res}
use Rattle.tp_bounds.specs.declared.hops.TreeHold.{TreeHold}
use Rattle.tp_bounds.specs.declared.hops.TreeHold.TheVariants.{Own as OwnHold, Kept as KeptHold}
use Rattle.tp_bounds.specs.declared.hops.TreePoint.{TreePoint}
use Rattle.tp_bounds.specs.declared.hops.TreePoint.TheVariants.{Own as OwnPoint, Kept as KeptPoint}
use Rattle.tp_bounds.specs.declared.tree.Close.{Close}
use Rattle.tp_bounds.specs.declared.tree.Close.TheVariants.{Split, Dead, Chain, Loop}
use Rattle.tp_bounds.specs.declared.tree.Head.{Head}
use Rattle.tp_bounds.specs.declared.tree.Head.TheVariants.{Goal, Act, At, Stop}
use Rattle.tp_bounds.specs.declared.tree.NamedState.{NamedState}
use Rattle.tp_bounds.specs.declared.tree.Node.{Node}
use Rattle.tp_bounds.specs.declared.tree.TreeRow.{TreeRow}
use Rattle.tp_bounds.specs.declared.word_reader.Flags.{Flags}
use Rattle.tp_bounds.specs.Lines.{IsClose, IsHead, IsNode, IsRow, close_words, head_words, node_text, node_words, row_text, row_words}
use Rattle.tp_bounds.specs.Sheets.{IsSheet, sheet_text}
use Rattle.tp_bounds.specs.Words.{IsHold, IsHop, IsPoint, flags_text, hold_text, hop_text, point_text, state_text}
use Rattle.tp_schedule.specs.declared.records.SheetName.{SheetName}
use Rattle.tp_words.specs.Fields.{IsName}
use Rattle.tp_words.specs.Numbers.{IsNumber}
use Rattle.tp_words.specs.Texts.{spaced}
use Rattle.tp_bound_laws.specs.Short.{FewHopsMakeShortLines, IsOfFewHops, hops_in, most_bytes, most_hops}

-- ---- words

pub name-short : (text : List ℕ) → IsName text → length text ≤ 32
name-short text is =
    let sides = and_parts (nat_le 1 (length text) && nat_le (length text) 32) (list_all is_name_byte text) is in
    let ends = and_parts (nat_le 1 (length text)) (nat_le (length text) 32) sides.0 in
    leb-true (length text) 32 ends.1

pub number-short : (n : ℕ) → IsNumber n → length (decimal n) ≤ 10
number-short n is = length-decimal-le 10 n (omega arith) (omega (arith, is)) (omega (arith, is))

pub sheet-short : (s : SheetName) → IsSheet s → length (sheet_text s) ≤ 54
sheet-short s is =
    omega (arith, name-short s.job is.0, number-short s.number is.1.0, number-short s.copy is.1.1, length-append s.job (46 ∷ (decimal s.number ++ 46 ∷ decimal s.copy)), length-append (decimal s.number) (46 ∷ decimal s.copy))

point-short : (p : TreePoint) → IsPoint p → length (point_text p) ≤ 65
point-short (OwnPoint n) is = omega (arith, number-short n is)
point-short (KeptPoint sheet at) is = omega (arith, sheet-short sheet is.0, number-short at is.1, length-append (sheet_text sheet) (64 ∷ decimal at))

hold-short : (h : TreeHold) → IsHold h → length (hold_text h) ≤ 65
hold-short (OwnHold n) is = omega (arith, number-short n is)
hold-short (KeptHold sheet act) is = omega (arith, sheet-short sheet is.0, number-short act is.1, length-append (sheet_text sheet) (47 ∷ decimal act))

hop-short : (h : Hop) → IsHop h → length (hop_text h) ≤ 164
hop-short (Duration to) is = omega (arith, point-short to is)
hop-short (Line to) is = omega (arith, point-short to is)
hop-short (Res name before after) is =
    omega (arith, name-short name is.0, hold-short before is.1.0, hold-short after is.1.1, length-append name (58 ∷ (hold_text before ++ 62 ∷ hold_text after)), length-append (hold_text before) (62 ∷ hold_text after))

state-short : (s : NamedState) → IsName s.place → length (state_text s) ≤ 36
state-short s is =
    let flags : Flags = record { up = s.up; front_done = s.front_done; back_done = s.back_done } in
    omega (arith, name-short s.place is, length-append s.place (58 ∷ flags_text flags))

-- ---- lines of words

abbrev pub AreShort : List (List ℕ) → Type 0
AreShort [] = Unit {0}
AreShort (w ∷ ws) = (length w ≤ 164) × AreShort ws

pub both-short : (ws more : List (List ℕ)) → AreShort ws → AreShort more → AreShort (ws ++ more)
both-short [] more short also = also
both-short (w ∷ ws) more (one, short) also = (one, both-short ws more short also)

spaces-short : (ws : List (List ℕ)) → AreShort ws → length (flat_map (λ word. 32 ∷ word) ws) ≤ 165 * length ws
spaces-short [] short = omega arith
spaces-short (w ∷ ws) (one, short) = omega (arith, one, spaces-short ws short, length-append (32 ∷ w) (flat_map (λ word. 32 ∷ word) ws))

pub spaced-short : (ws : List (List ℕ)) → AreShort ws → length (spaced ws) ≤ 165 * length ws
spaced-short [] short = omega arith
spaced-short (w ∷ ws) (one, short) = omega (arith, one, spaces-short ws short, length-append w (flat_map (λ word. 32 ∷ word) ws))

hops-short : (hops : List Hop) → AllByRecursion IsHop hops → AreShort (map hop_text hops)
hops-short [] all = tt
hops-short (h ∷ hops) (is, all) = (hop-short h is, hops-short hops all)

head-short : (head : Head) → IsHead head → AreShort (head_words head)
head-short (Goal state) is = (omega arith, (omega (arith, state-short state is), tt))
head-short (Act name) is = (omega arith, (omega (arith, name-short name is), tt))
head-short (At resource lo hi) (name, (l, h)) = (omega arith, (omega (arith, name-short resource name), (omega (arith, number-short lo l), (omega (arith, number-short hi h), tt))))
head-short Stop is = (omega arith, tt)

head-few : (head : Head) → length (head_words head) ≤ 4
head-few (Goal state) = omega arith
head-few (Act name) = omega arith
head-few (At resource lo hi) = omega arith
head-few Stop = omega arith

close-short : (close : Close) → IsClose close → AreShort (close_words close)
close-short Split is = (omega arith, tt)
close-short Dead is = (omega arith, tt)
close-short (Chain first hops) (point, all) = (omega arith, (omega (arith, point-short first point), hops-short hops all))
close-short (Loop first hops) (point, (all, some)) = (omega arith, (omega (arith, point-short first point), hops-short hops all))

close-few : (close : Close) → length (close_words close) ≤ 2 + hops_in close
close-few Split = omega arith
close-few Dead = omega arith
close-few (Chain first hops) = omega (arith, length-map hops hop_text)
close-few (Loop first hops) = omega (arith, length-map hops hop_text)

-- ---- rows and nodes

row-short : (r : TreeRow) → IsRow r → length (row_text r) ≤ most_bytes
row-short r (place, room) =
    let words : AreShort (row_words r) = (omega arith, (omega arith, (omega (arith, state-short r.state place), (omega (arith, number-short r.room room), tt)))) in
    omega (arith, spaced-short (row_words r) words, length-append (spaced (row_words r)) (10 ∷ []))

node-short : (n : Node) → IsNode n → hops_in n.close ≤ most_hops → length (node_text n) ≤ most_bytes
node-short n is few =
    let words : AreShort (node_words n) = (omega arith, (omega (arith, number-short n.depth is.depth), both-short (head_words n.head) (close_words n.close) (head-short n.head is.head) (close-short n.close is.close))) in
    omega (arith, spaced-short (node_words n) words, length-append (spaced (node_words n)) (10 ∷ []), length-append (head_words n.head) (close_words n.close), head-few n.head, close-few n.close, few)

abbrev IsShortLine : List ℕ → Type 0
IsShortLine line = length line ≤ most_bytes

rows-short : (rows : List TreeRow) → All IsRow rows → All IsShortLine (map row_text rows)
rows-short [] all = All-nil IsShortLine
rows-short (r ∷ rows) all = All-cons IsShortLine (row_text r) (map row_text rows) (row-short r (All-head IsRow r rows all)) (rows-short rows (All-tail IsRow r rows all))

nodes-short : (nodes : List Node) → All IsNode nodes → All IsOfFewHops nodes → All IsShortLine (map node_text nodes)
nodes-short [] all few = All-nil IsShortLine
nodes-short (n ∷ nodes) all few =
    All-cons IsShortLine (node_text n) (map node_text nodes) (node-short n (All-head IsNode n nodes all) (All-head IsOfFewHops n nodes few))
    (nodes-short nodes (All-tail IsNode n nodes all) (All-tail IsOfFewHops n nodes few))

pub few-short : FewHopsMakeShortLines
few-short tree is few = All-append IsShortLine (map row_text tree.rows) (map node_text tree.nodes) (rows-short tree.rows is.1.0) (nodes-short tree.nodes is.1.1 few)
