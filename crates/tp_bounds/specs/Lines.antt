-- Bound lines: their words, written and read.
use Rattle.std.specs.Prelude.{◌≡◌, ◌≢◌, ℕ, ◌<◌, nat_lt, Bool, List, [], ◌∷◌, ◌++◌, length, map, flat_map, Option, Some, None, option_map, Result, Ok, Err, codes, decimal, if◌then◌else◌}
use Rattle.std.specs.List.{AllByRecursion}
use Rattle.std.specs.Str.{bytes_eq}
use Rattle.tp_base.specs.declared.errors.Memory.{Memory}
use Rattle.tp_bounds.specs.declared.hops.Hop.{Hop}
use Rattle.tp_bounds.specs.declared.line.BoundLine.{BoundLine}
use Rattle.tp_bounds.specs.declared.line.BoundLine.TheVariants.{Room, Node as ANode}
use Rattle.tp_bounds.specs.declared.tree.Close.{Close}
use Rattle.tp_bounds.specs.declared.tree.Close.TheVariants.{Split, Dead, Chain, Loop}
use Rattle.tp_bounds.specs.declared.tree.Head.{Head}
use Rattle.tp_bounds.specs.declared.tree.Head.TheVariants.{Goal, Act, At, Stop}
use Rattle.tp_bounds.specs.declared.tree.Node.{Node}
use Rattle.tp_bounds.specs.declared.tree.TreeRow.{TreeRow}
use Rattle.tp_words.specs.Each.{each_read}
use Rattle.tp_words.specs.Fields.{IsName, name_of, ◌>>=◌}
use Rattle.tp_words.specs.Numbers.{IsNumber, number_of}
use Rattle.tp_words.specs.Texts.{spaced}
use Rattle.tp_bounds.specs.Words.{IsHop, IsPoint, hop_of, hop_text, point_of, point_text, state_of, state_text}

-- ---- written

abbrev pub row_words : TreeRow → List (List ℕ)
row_words r = codes "b" ∷ codes "room" ∷ state_text r.state ∷ decimal r.room ∷ []

abbrev pub head_words : Head → List (List ℕ)
head_words (Goal state) = codes "goal" ∷ state_text state ∷ []
head_words (Act name) = codes "act" ∷ name ∷ []
head_words (At resource lo hi) = codes "at" ∷ resource ∷ decimal lo ∷ decimal hi ∷ []
head_words Stop = codes "stop" ∷ []

abbrev pub close_words : Close → List (List ℕ)
close_words Split = codes "split" ∷ []
close_words Dead = codes "dead" ∷ []
close_words (Chain first hops) = codes "chain" ∷ point_text first ∷ map hop_text hops
close_words (Loop first hops) = codes "loop" ∷ point_text first ∷ map hop_text hops

abbrev pub node_words : Node → List (List ℕ)
node_words n = codes "b" ∷ decimal n.depth ∷ (head_words n.head ++ close_words n.close)

abbrev pub bound_words : BoundLine → List (List ℕ)
bound_words (Room row) = row_words row
bound_words (ANode node) = node_words node

-- words each behind a space
abbrev pub behind_spaces : List (List ℕ) → List ℕ
behind_spaces words = flat_map (λ word. 32 ∷ word) words

-- the line, with its LF
abbrev pub row_text : TreeRow → List ℕ
row_text row = spaced (row_words row) ++ 10 ∷ []

abbrev pub node_text : Node → List ℕ
node_text node = spaced (node_words node) ++ 10 ∷ []

abbrev pub bound_text : BoundLine → List ℕ
bound_text (Room row) = row_text row
bound_text (ANode node) = node_text node

-- ---- what has a text: a loop has a hop

abbrev pub IsRow : TreeRow → Type 0
IsRow r = IsName r.state.place × IsNumber r.room

abbrev pub IsHead : Head → Type 0
IsHead (Goal state) = IsName state.place
IsHead (Act name) = IsName name
IsHead (At resource lo hi) = IsName resource × (IsNumber lo × IsNumber hi)
IsHead Stop = Unit {0}

abbrev pub IsClose : Close → Type 0
IsClose Split = Unit {0}
IsClose Dead = Unit {0}
IsClose (Chain first hops) = IsPoint first × AllByRecursion IsHop hops
IsClose (Loop first hops) = IsPoint first × (AllByRecursion IsHop hops × (0 < length hops))

pub record IsNode (n : Node) : Type 0 where
  pub depth : IsNumber n.depth
  pub head : IsHead n.head
  pub close : IsClose n.close

abbrev pub IsBound : BoundLine → Type 0
IsBound (Room row) = IsRow row
IsBound (ANode node) = IsNode node

-- what reading a line, given with its LF, answers
abbrev pub ReadsBound : List ℕ → Result (Option BoundLine) Memory → Type 0
ReadsBound line (Ok (Some told)) = IsBound told × (line ≡ bound_text told)
ReadsBound line (Ok None) = (told : BoundLine) → IsBound told → line ≢ bound_text told
ReadsBound line (Err memory) = Unit {0}

-- ---- read

abbrev pub is_word : List ℕ → List ℕ → Bool
is_word text word = bytes_eq word text

abbrev pub hops_of : List (List ℕ) → Option (List Hop)
hops_of words = each_read hop_of words

-- the words behind the first of a close
unfoldable pub bare_of : Close → List (List ℕ) → Option Close
bare_of close [] = Some close
bare_of close _ = None

unfoldable pub chain_of : List (List ℕ) → Option Close
chain_of [] = None
chain_of (point ∷ words) = do
  first ← point_of point
  hops ← hops_of words
  Some (Chain first hops)

unfoldable pub loop_with : List ℕ → List (List ℕ) → Option Close
loop_with point words = do
  first ← point_of point
  hops ← hops_of words
  Some (Loop first hops)

unfoldable pub loop_of : List (List ℕ) → Option Close
loop_of [] = None
loop_of (point ∷ words) = if nat_lt 0 (length words) then loop_with point words else None

unfoldable pub close_of : List (List ℕ) → Option Close
close_of [] = None
close_of (word ∷ words) =
    if is_word (codes "split") word then bare_of Split words else (if is_word (codes "dead") word then bare_of Dead words else (if is_word (codes "chain") word then chain_of words else (if is_word (codes "loop") word then loop_of words else None)))

-- a node with this head; the words are those of its close
unfoldable pub closed_by : ℕ → Head → List (List ℕ) → Option Node
closed_by depth head words = do
  close ← close_of words
  Some (record { depth = depth; head = head; close = close })

-- the words behind the first of a head
unfoldable pub goal_node_of : ℕ → List (List ℕ) → Option Node
goal_node_of depth [] = None
goal_node_of depth (state ∷ words) = do
  s ← state_of state
  closed_by depth (Goal s) words

unfoldable pub act_node_of : ℕ → List (List ℕ) → Option Node
act_node_of depth [] = None
act_node_of depth (name ∷ words) = do
  n ← name_of name
  closed_by depth (Act n) words

unfoldable pub at_node_of : ℕ → List (List ℕ) → Option Node
at_node_of depth (resource ∷ lo ∷ hi ∷ words) = do
  r ← name_of resource
  l ← number_of lo
  h ← number_of hi
  closed_by depth (At r l h) words
at_node_of depth _ = None

unfoldable pub node_from : ℕ → List (List ℕ) → Option Node
node_from depth [] = None
node_from depth (word ∷ words) =
    if is_word (codes "goal") word then goal_node_of depth words else (if is_word (codes "act") word then act_node_of depth words else (if is_word (codes "at") word then at_node_of depth words else (if is_word (codes "stop") word then closed_by depth Stop words else None)))

-- the words behind `b`
unfoldable pub node_of : List (List ℕ) → Option Node
node_of [] = None
node_of (depth ∷ words) = do
  d ← number_of depth
  node_from d words

-- the words behind `b room`
unfoldable pub row_of : List (List ℕ) → Option TreeRow
row_of (state ∷ room ∷ []) = do
  s ← state_of state
  n ← number_of room
  Some (record { state = s; room = n })
row_of _ = None

unfoldable pub bound_after : List (List ℕ) → Option BoundLine
bound_after [] = None
bound_after (word ∷ words) = if is_word (codes "room") word then option_map (λ r. Room r) (row_of words) else option_map (λ n. ANode n) (node_of (word ∷ words))

unfoldable pub bound_of : List (List ℕ) → Option BoundLine
bound_of [] = None
bound_of (word ∷ words) = if is_word (codes "b") word then bound_after words else None
