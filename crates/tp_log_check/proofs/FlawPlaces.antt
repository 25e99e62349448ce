-- The lines on which flaws are reported are those of the last event.
use Rattle.std.proofs.Common.{◌≡◌, ℕ, ◌+◌, ◌<◌, ◌≤◌, ◌^◌, false, List, [], ◌∷◌, ◌++◌, All, Option, Some, None, length, refl, sym, ap, subst, ◌∙◌, arith}
use Rattle.std.specs.Prelude.{IfSome, option_map}
use Rattle.std.specs.List.{AllByRecursion}
use Rattle.std.proofs.lemmas.List.{append-nil, length-append}
use Rattle.std.proofs.lemmas.List.Concat.{flat_map-append}
use Rattle.std.proofs.lemmas.List.Elements.{All-append, All-cons, All-from_recursion, All-head, All-nil, All-tail}
use Rattle.tp_bounds.specs.declared.tree.BoundTree.{BoundTree}
use Rattle.tp_bounds.specs.declared.tree.Node.{Node as ANode}
use Rattle.tp_bounds.specs.declared.tree.TreeRow.{TreeRow}
use Rattle.tp_log_check.specs.Gathered.{ArePlain, IsPending, IsSame, lines_of}
use Rattle.tp_log_check.specs.Gathered as entries
use Rattle.tp_log_check.specs.Heights.{heights}
use Rattle.tp_log_check.specs.declared.counts.Counts.{Counts}
use Rattle.tp_log_check.specs.declared.pending.Pending.{Pending}
use Rattle.tp_log.specs.GatheredItems.{closed, item_lines, log_lines, next_of}
use Rattle.tp_log.specs.LogLines.{AreInOrder, IsLogLine, is_event, log_line_text}
use Rattle.tp_log.specs.Logs.{is_echo}
use Rattle.tp_log.specs.declared.item.Item.{Item}
use Rattle.tp_log.specs.declared.item.Item.TheVariants.{Event, Note, Tree}
use Rattle.tp_log.specs.declared.log_line.LogLine.{LogLine}
use Rattle.tp_log.specs.declared.log_line.LogLine.TheVariants as line
use Rattle.tp_log.proofs.BoundLines.{one_log_line}
use Rattle.tp_log.proofs.GatherFacts.{closed-lines, closed_log}
use Rattle.tp_log.proofs.Items.{in_order, log_known, node_lines, row_lines}
use Rattle.tp_machine.specs.declared.machine.Machine.{Machine}
use Rattle.tp_log_planner.specs.declared.failure.WrongItem.{WrongItem}
use Rattle.tp_event_rules.specs.States.{SessionState}
use Rattle.tp_log_check.specs.Causes.{flaw_at}
use Rattle.tp_log_check.specs.CheckerState.{CheckerValue, HasRead, HasTaken, Underway, items_of, underway}
use Rattle.tp_log_check.specs.FlawLines.{IsOffOr, LiesAt, LiesBehind, LiesInLast}
use Rattle.tp_log_check.specs.declared.flaw.Flaw.{Flaw}
use Rattle.tp_log_check.specs.declared.flaw.Flaw.TheVariants.{Memory, Text, Due, Illegal, NotLeast, Tree as TreeFlaw}
use Rattle.tp_log_check.proofs.ReadSoFar.{log-more, sections-log}

-- ---- lines that are no event's

abbrev NoEvent : LogLine → Type 0
NoEvent l = is_event l ≡ false

of-nodes : (nodes : List ANode) → AllByRecursion NoEvent (node_lines nodes)
of-nodes [] = tt
of-nodes (n ∷ nodes) = (refl, of-nodes nodes)

of-rows : (rows : List TreeRow) (nodes : List ANode) → AllByRecursion NoEvent (row_lines rows ++ node_lines nodes)
of-rows [] nodes = of-nodes nodes
of-rows (r ∷ rows) nodes = (refl, of-rows rows nodes)

of-tree : (tree : BoundTree) → All NoEvent (item_lines (Tree tree))
of-tree tree = All-from_recursion NoEvent (item_lines (Tree tree)) (of-rows tree.rows tree.nodes)

of-items : (items : List Item) → ArePlain items → All NoEvent (log_lines items)
of-items [] plain = All-nil NoEvent
of-items (Event event ∷ items) plain = absurd (let first = All-head (λ item. is_echo item ≡ false) (Event event) items plain in cc)
of-items (Note told ∷ items) plain = All-cons NoEvent (line.Note told) (log_lines items) refl (of-items items (All-tail (λ item. is_echo item ≡ false) (Note told) items plain))
of-items (Tree tree ∷ items) plain = All-append NoEvent (item_lines (Tree tree)) (log_lines items) (of-tree tree) (of-items items (All-tail (λ item. is_echo item ≡ false) (Tree tree) items plain))

-- ---- bounds

pub lies-up : (event last last' : ℕ) (flaw : Flaw) → last ≤ last' → LiesBehind event last flaw → LiesBehind event last' flaw
lies-up event last last' Memory more h = h
lies-up event last last' (Text n) more h = h
lies-up event last last' (Due n) more h = (h.0, let k = h.1 in omega (arith, k, more))
lies-up event last last' (Illegal n first second) more h = (h.0, let k = h.1 in omega (arith, k, more))
lies-up event last last' (NotLeast n given least) more h = (h.0, let k = h.1 in omega (arith, k, more))
lies-up event last last' (TreeFlaw n flaw) more h = (h.0, let k = h.1 in omega (arith, k, more))

-- a flaw of the last event is also one that the next line brings to light
pub at-last : (before : List LogLine) (text : List ℕ) (flaw : Flaw) → LiesInLast before flaw → LiesAt before text flaw
at-last before text Memory h = h
at-last before text (Text n) h = absurd h.lies
at-last before text (Due n) h = h
at-last before text (Illegal n first second) h = h
at-last before text (NotLeast n given least) h = h
at-last before text (TreeFlaw n flaw) h = h

pub at-off : (before : List LogLine) (text : List ℕ) (number : ℕ) (flaw : Flaw) → number ≡ length before + 1 → All IsLogLine before → AreInOrder before
    → ((told : LogLine) → IsLogLine told → text ≡ log_line_text told → AreInOrder (before ++ told ∷ []) → ⊥) → IsOffOr before number flaw → LiesAt before text flaw
at-off before text number Memory is known order off h = h
at-off before text number (Text n) is known order off h = record { number = h ∙ is; known = known; order = order; off = off }
at-off before text number (Due n) is known order off h = h
at-off before text number (Illegal n first second) is known order off h = h
at-off before text number (NotLeast n given least) is known order off h = h
at-off before text number (TreeFlaw n flaw) is known order off h = h

pub off-last : (before : List LogLine) (number : ℕ) (flaw : Flaw) → LiesInLast before flaw → IsOffOr before number flaw
off-last before number Memory h = h
off-last before number (Text n) h = absurd h.lies
off-last before number (Due n) h = h
off-last before number (Illegal n first second) h = h
off-last before number (NotLeast n given least) h = h
off-last before number (TreeFlaw n flaw) h = h

-- a line in the grammar that may not stand there
pub off-told : (before : List LogLine) (told : LogLine) → IsLogLine told → (AreInOrder (before ++ told ∷ []) → ⊥)
    → (other : LogLine) → IsLogLine other → log_line_text told ≡ log_line_text other → AreInOrder (before ++ other ∷ []) → ⊥
off-told before told is off other is' same order = off (subst (λ l. AreInOrder (before ++ l ∷ [])) (sym (one_log_line told other is is' same)) order)

-- ---- the event that is under way

module _ (machine : Machine) (state : SessionState) (events lines : ℕ) (counts : Counts) (flaw : Option Flaw) where
  abbrev value : Option Underway → CheckerValue
  value under = record { machine = machine; state = state; under = under; events = events; lines = lines; counts = counts; flaw = flaw }

  -- how many lines were taken, where its first is known
  pub counted-lines : (p : Pending) (told : List LogLine) → HasTaken (value (Some (underway p))) told → length told + 1 ≡ p.line + length (lines_of p)
  counted-lines p told h =
      let all = ap length h.lines ∙ length-append (log_lines (items_of h.sections)) (lines_of p) in
      let first = h.number in
      omega (arith, all, first)

  -- and those of its items, once its tree is ended
  pub counted-ended : (p q : Pending) (told : List LogLine) → entries.items_of q ≡ closed (entries.items_of p) p.tree → HasTaken (value (Some (underway p))) told → length told + 1 ≡ p.line + 1 + heights q.items.items
  counted-ended p q told ended h =
      let all = counted-lines p told h in
      let same : length (log_lines (entries.items_of q)) ≡ length (lines_of p) = ap length (ap log_lines ended ∙ closed-lines (entries.items_of p) p.tree) in
      let one : length (log_lines (entries.items_of q)) ≡ 1 + heights q.items.items = omega arith in
      omega (arith, all, same, one)

  -- its items have no more lines than it has so far
  pub counted-items : (p : Pending) (told : List LogLine) → HasTaken (value (Some (underway p))) told → p.line + 1 + heights p.items.items ≤ length told + 1
  counted-items p told h =
      let all = counted-lines p told h in
      let both : length (lines_of p) ≡ length (log_lines (entries.items_of p)) + length (item_lines (Tree p.tree)) = length-append (log_lines (entries.items_of p)) (item_lines (Tree p.tree)) in
      let one : length (log_lines (entries.items_of p)) ≡ 1 + heights p.items.items = omega arith in
      omega (arith, all, both, one)

  -- a flaw that is reported behind its line lies in what is reported of the last event
  pub in-last : (p : Pending) → IsPending p → (told : List LogLine) → HasTaken (value (Some (underway p))) told → (found : Flaw) → LiesBehind p.line (length told + 1) found → LiesInLast told found
  in-last p pending told h found lies = record {
    earlier = log_lines (items_of h.sections);
    event = p.event;
    later = log_lines p.items.items ++ item_lines (Tree p.tree);
    parts = h.lines;
    last = All-append NoEvent (log_lines p.items.items) (item_lines (Tree p.tree)) (of-items p.items.items pending.plain) (of-tree p.tree);
    lies = subst (λ n. LiesBehind n (length told + 1) found) h.number lies;
  }

  -- so does one of its items, once its tree is ended
  pub found-ended : (p q r : Pending) → IsPending p → (told : List LogLine) → HasTaken (value (Some (underway p))) told → entries.items_of q ≡ closed (entries.items_of p) p.tree → q.line ≡ p.line → IsSame q r
      → length told + 1 < 2 ^ 64 → (found : Flaw) → (r.line + 1 + heights r.items.items < 2 ^ 64 → LiesBehind r.line (r.line + 1 + heights r.items.items) found) → LiesInLast told found
  found-ended p q r pending told h ended first same fits found lies =
      let all : length told + 1 ≡ r.line + 1 + heights r.items.items = counted-ended p q told ended h ∙ (λ k. sym (same.line ∙ first) k + 1 + heights (sym same.items k)) in
      let here = lies (subst (λ n. n < 2 ^ 64) all fits) in
      in-last p pending told h found (subst (λ n. LiesBehind n (length told + 1) found) (same.line ∙ first) (subst (λ n. LiesBehind r.line n found) (sym all) here))

  -- and the flaw is reported on the line of the item
  pub told-ended : (p q r : Pending) (told : List LogLine) → HasTaken (value (Some (underway p))) told → entries.items_of q ≡ closed (entries.items_of p) p.tree → q.line ≡ p.line → IsSame q r
      → length told + 1 < 2 ^ 64 → (found : Flaw) (stop : WrongItem) → (r.line + 1 + heights r.items.items < 2 ^ 64 → found ≡ flaw_at r.line r.items.items stop) → found ≡ flaw_at p.line q.items.items stop
  told-ended p q r told h ended first same fits found stop is =
      let all : length told + 1 ≡ r.line + 1 + heights r.items.items = counted-ended p q told ended h ∙ (λ k. sym (same.line ∙ first) k + 1 + heights (sym same.items k)) in
      is (subst (λ n. n < 2 ^ 64) all fits) ∙ (λ k. flaw_at ((same.line ∙ first) k) (same.items k) stop)

  -- and one of those items that it has so far
  pub found-so-far : (p r : Pending) → IsPending p → (told : List LogLine) → HasTaken (value (Some (underway p))) told → IsSame p r
      → length told + 1 < 2 ^ 64 → (found : Flaw) → (r.line + 1 + heights r.items.items < 2 ^ 64 → LiesBehind r.line (r.line + 1 + heights r.items.items) found) → LiesInLast told found
  found-so-far p r pending told h same fits found lies =
      let bound = counted-items p told h in
      let all : r.line + 1 + heights r.items.items ≡ p.line + 1 + heights p.items.items = λ k. same.line k + 1 + heights (same.items k) in
      let up : r.line + 1 + heights r.items.items ≤ length told + 1 = omega (arith, bound, all) in
      let here = lies (omega (arith, up, fits)) in
      in-last p pending told h found (subst (λ n. LiesBehind n (length told + 1) found) same.line (lies-up r.line (r.line + 1 + heights r.items.items) (length told + 1) found up here))

  pub fits-so-far : (p r : Pending) (told : List LogLine) → HasTaken (value (Some (underway p))) told → IsSame p r → length told + 1 < 2 ^ 64 → r.line + 1 + heights r.items.items < 2 ^ 64
  fits-so-far p r told h same fits =
      let bound = counted-items p told h in
      let all : r.line + 1 + heights r.items.items ≡ p.line + 1 + heights p.items.items = λ k. same.line k + 1 + heights (same.items k) in
      omega (arith, bound, all, fits)

  -- the lines that were taken are those of a log so far
  pub are-lines : (pending : Option Pending) → IfSome pending IsPending → (told : List LogLine) → HasTaken (value (option_map underway pending)) told → All IsLogLine told × AreInOrder told
  are-lines None under told h =
      let log = sections-log h.sections h.logs in
      let is : told ≡ log_lines (items_of h.sections) = h.lines ∙ append-nil (log_lines (items_of h.sections)) in
      (subst (All IsLogLine) (sym is) (log_known (items_of h.sections) log.1), subst AreInOrder (sym is) (in_order (items_of h.sections) log.0))
  are-lines (Some p) under told h =
      let last = closed (entries.items_of p) p.tree in
      let log = log-more (items_of h.sections) last (sections-log h.sections h.logs) (closed_log (entries.items_of p) p.tree (next_of (lines_of p)) under.gathered) in
      let is : told ≡ log_lines (items_of h.sections ++ last) =
      h.lines ∙ ap (λ ls. log_lines (items_of h.sections) ++ ls) (sym (closed-lines (entries.items_of p) p.tree)) ∙ sym (flat_map-append item_lines (items_of h.sections) last) in
      (subst (All IsLogLine) (sym is) (log_known (items_of h.sections ++ last) log.1), subst AreInOrder (sym is) (in_order (items_of h.sections ++ last) log.0))

  -- and they are as many as were counted
  pub before-lines : (pending : Option Pending) → IfSome pending IsPending → (now : CheckerValue) (before : List LogLine) → value (option_map underway pending) ≡ now → HasRead now before → (lines + 1 ≡ length before + 1) × All IsLogLine before × AreInOrder before
  before-lines pending under now before is h =
      let both = are-lines pending under before (subst (λ v. HasTaken v before) (sym is) h.taken) in
      (ap (λ n. n + 1) (ap (λ v. v.lines) is ∙ h.fed), both.0, both.1)
