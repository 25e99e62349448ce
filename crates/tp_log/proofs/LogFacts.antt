-- Lines in order and one line more: they are in order again, or this line is the first off the grammar.
use Rattle.std.proofs.Common.{◌≡◌, ◌≢◌, ℕ, ◌+◌, ◌-◌, List, [], ◌∷◌, ◌++◌, length, map, take, refl, sym, ap, subst, ◌∙◌, append_assoc, arith}
use Rattle.std.specs.List.{All, AllByRecursion}
use Rattle.std.proofs.lemmas.List.{append-nil, length-append, length-map, take-map, take_at}
use Rattle.std.proofs.lemmas.List.Concat.{flat_map-append}
use Rattle.std.proofs.lemmas.List.Elements.{All-take, recursion_from_All}
use Rattle.tp_words.specs.Texts.{lines_of}
use Rattle.tp_log.specs.declared.fault.LogFault.{LogFault}
use Rattle.tp_log.specs.declared.fault.LogFault.TheVariants.{Bad, Memory}
use Rattle.tp_bounds.specs.declared.tree.BoundTree.{BoundTree}
use Rattle.tp_log.specs.declared.gathered.NextLine.{NextLine}
use Rattle.tp_log.specs.declared.item.Item.{Item}
use Rattle.tp_log.specs.declared.log_line.LogLine.{LogLine}
use Rattle.tp_log.specs.GatheredItems.{AreGathered, lines_with, log_lines}
use Rattle.tp_log.specs.LogLines.{AreInOrder, IsLogLine, log_line_text}
use Rattle.tp_log.specs.Logs.{IfBad, IsFirstOff, IsLog, log_text}
use Rattle.tp_log.proofs.Items.{in_order, log_known, same_items, text_of-log}
use Rattle.tp_log.proofs.BoundLines.{one_log_line}
use Rattle.tp_log.proofs.LogLines.{lines_log, lines_whole, same_texts, text_of}
use Rattle.tp_log.proofs.Order.{order_take}

pub text_more : (lines : List LogLine) (told : LogLine) (text rest line more : List ℕ) → text ≡ text_of lines ++ rest → rest ≡ line ++ more → line ≡ log_line_text told → text ≡ text_of (lines ++ told ∷ []) ++ more
text_more lines told text rest line more whole parted is =
    whole ∙ ap (λ t. text_of lines ++ t) (parted ∙ ap (λ t. t ++ more) is) ∙ sym (ap (λ t. t ++ more) (flat_map-append log_line_text lines (told ∷ []) ∙ ap (λ t. text_of lines ++ t) (append-nil (log_line_text told))) ∙ append_assoc (text_of lines) (log_line_text told) more)

-- no line makes these lines and itself lines of a log
abbrev pub StandsNowhere : List LogLine → List ℕ → Type 0
StandsNowhere lines line = (told : LogLine) → IsLogLine told → AreInOrder (lines ++ told ∷ []) → line ≢ log_line_text told

-- the last of so many lines
abbrev LastOf : List LogLine → List ℕ → List LogLine → Type 0
LastOf lines line others = (told : LogLine) × IsLogLine told × ((others ≡ lines ++ told ∷ []) × (line ≡ log_line_text told))

both_parts : (a b : List ℕ) (xs ys : List (List ℕ)) → a ∷ xs ≡ b ∷ ys → (a ≡ b) × (xs ≡ ys)
both_parts a b xs ys e = (cc, cc)

two_left : {P : Type 0} (a b c : List ℕ) (xs : List (List ℕ)) → a ∷ [] ≡ b ∷ c ∷ xs → P
two_left a b c xs e = absurd cc

ends : (lines others : List LogLine) (line : List ℕ) → AllByRecursion IsLogLine lines → AllByRecursion IsLogLine others → map log_line_text lines ++ line ∷ [] ≡ map log_line_text others → LastOf lines line others
ends [] [] line h k same = absurd cc
ends [] (o ∷ []) line h k same = (o, k.0, (refl, (both_parts line (log_line_text o) [] [] same).0))
ends [] (o ∷ p ∷ os) line h k same = two_left line (log_line_text o) (log_line_text p) (map log_line_text os) same
ends (l ∷ ls) [] line h k same = absurd cc
ends (l ∷ ls) (o ∷ os) line h k same =
    let parts = both_parts (log_line_text l) (log_line_text o) (map log_line_text ls ++ line ∷ []) (map log_line_text os) same in
    let more = ends ls os line h.1 k.1 parts.1 in
    (more.0, more.1, (ap (λ x. x ∷ os) (sym (one_log_line l o h.0 k.0 parts.0)) ∙ ap (λ xs. l ∷ xs) more.2.0, more.2.1))

pub first_off : (lines : List LogLine) (text rest line more : List ℕ) → All IsLogLine lines → AreInOrder lines → text ≡ text_of lines ++ rest → lines_of rest ≡ line ∷ lines_of more → StandsNowhere lines line → IsFirstOff (length lines + 1) text
first_off lines text rest line more known order whole split off =
    let told = map log_line_text lines in
    let all : lines_of text ≡ told ++ line ∷ lines_of more = ap lines_of whole ∙ lines_log lines rest known ∙ ap (λ ls. told ++ ls) split in
    let many : length told ≡ length lines = length-map lines log_line_text in
    let one_less : length lines + 1 - 1 ≡ length told = omega (arith, many) in
    let before : take (length lines + 1 - 1) (lines_of text) ≡ told = ap (λ n. take n (lines_of text)) one_less ∙ ap (take (length told)) all ∙ take_at told (line ∷ lines_of more) (length told) refl in
    let regrouped : told ++ line ∷ lines_of more ≡ (told ++ line ∷ []) ++ lines_of more = sym (append_assoc told (line ∷ []) (lines_of more)) in
    let with_line : length lines + 1 ≡ length (told ++ line ∷ []) = omega (arith, many, length-append told (line ∷ [])) in
    let upto : take (length lines + 1) (lines_of text) ≡ told ++ line ∷ [] = ap (λ n. take n (lines_of text)) with_line ∙ ap (take (length (told ++ line ∷ []))) (all ∙ regrouped) ∙ take_at (told ++ line ∷ []) (lines_of more) (length (told ++ line ∷ [])) refl in
    record {
      counted = omega arith;
      there = (let e = ap length all in omega (arith, e, many, length-append told (line ∷ lines_of more)));
      before = (lines, order, known, before);
      off = λ (others, in_order, is, same). none others in_order is (sym upto ∙ same);
    }
  where
    none : (others : List LogLine) → AreInOrder others → All IsLogLine others → map log_line_text lines ++ line ∷ [] ≡ map log_line_text others → ⊥
    none others in_order is same =
        let e = ends lines others line (recursion_from_All IsLogLine lines known) (recursion_from_All IsLogLine others is) same in
        off e.0 e.1 (subst AreInOrder e.2.0 in_order) e.2.1

pub read_bad : (items : List Item) (tree : BoundTree) (next : NextLine) → AreGathered items tree next → (text rest line more : List ℕ) (n : ℕ) → n ≡ length (lines_with items tree) → text ≡ text_of (lines_with items tree) ++ rest → lines_of rest ≡ line ∷ lines_of more
    → StandsNowhere (lines_with items tree) line → IsFirstOff (n + 1) text
read_bad items tree next g text rest line more n count whole split off = rw count (first_off (lines_with items tree) text rest line more g.known g.order whole split off)

-- a line that is none of a log stands nowhere; nor does one that may not stand here
pub off_here : (lines : List LogLine) (told : LogLine) (line : List ℕ) → IsLogLine told → line ≡ log_line_text told → (AreInOrder (lines ++ told ∷ []) → ⊥) → StandsNowhere lines line
off_here lines told line is same off other is' order same' =
    off (subst (λ t. AreInOrder (lines ++ t ∷ [])) (one_log_line other told is' is (sym same' ∙ same)) order)

-- ---- no line of a printed log is off the grammar
pub none_off : (n : ℕ) (items : List Item) → IsLog items → IsFirstOff n (log_text items) → ⊥
none_off n items h off =
    let known = log_known items h.1 in
    off.off (
      take n (log_lines items),
      order_take n (log_lines items) (in_order items h.0),
      All-take IsLogLine n (log_lines items) known,
      ap (λ t. take n (lines_of t)) (sym (text_of-log items)) ∙ ap (take n) (lines_whole (log_lines items) known) ∙ take-map log_line_text n (log_lines items),
    )

pub fault_printed : (text : List ℕ) (fault : LogFault) → IfBad fault (λ n. IsFirstOff n text) → (items : List Item) → IsLog items → text ≡ log_text items → fault ≡ Memory
fault_printed text Memory h items log is = refl
fault_printed text (Bad n) h items log is = absurd (none_off n items log (subst (λ t. IsFirstOff n t) is h))

pub one_log : (items others : List Item) → IsLog items → IsLog others → log_text items ≡ log_text others → items ≡ others
one_log items others h k same =
    same_items items others h k (same_texts (log_lines items) (log_lines others) (log_known items h.1) (log_known others k.1) (text_of-log items ∙ same ∙ sym (text_of-log others)))
