-- Bound lines: what is read is spelled so, and what is spelled so is read.
use Rattle.std.proofs.Common.{◌≡◌, ◌≢◌, inl, inr, ℕ, ◌<◌, false, List, [], ◌∷◌, ◌++◌, length, map, Option, Some, None, Result, Ok, Err, refl, sym, ap, subst, ◌∙◌, arith, decimal}
use Rattle.std.specs.Prelude.{codes, option_and_then, option_map, IfOk}
use Rattle.std.specs.List.{AllByRecursion}
use Rattle.std.specs.Str.{bytes_eq}
use Rattle.std.proofs.lemmas.Bool.{cases_Bool}
use Rattle.std.proofs.lemmas.List.{append_cancel_right}
use Rattle.std.proofs.lemmas.Option.{same_Some}
use Rattle.tp_base.specs.declared.errors.Memory.{Memory}
use Rattle.tp_bounds.specs.declared.hops.Hop.{Hop}
use Rattle.tp_bounds.specs.declared.hops.TreePoint.{TreePoint}
use Rattle.tp_bounds.specs.declared.line.BoundLine.{BoundLine}
use Rattle.tp_bounds.specs.declared.line.BoundLine.TheVariants.{Room, Node as ANode}
use Rattle.tp_bounds.specs.declared.tree.Close.{Close}
use Rattle.tp_bounds.specs.declared.tree.Close.TheVariants.{Split, Dead, Chain, Loop}
use Rattle.tp_bounds.specs.declared.tree.Head.{Head}
use Rattle.tp_bounds.specs.declared.tree.Head.TheVariants.{Goal, Act, At, Stop}
use Rattle.tp_bounds.specs.declared.tree.NamedState.{NamedState}
use Rattle.tp_bounds.specs.declared.tree.TreeRow.{TreeRow}
use Rattle.tp_words.specs.Fields.{IsName}
use Rattle.tp_words.specs.Numbers.{IsNumber, digits_of, number_of}
use Rattle.tp_words.specs.Parts.{parts_at}
use Rattle.tp_words.proofs.SpelledWords.{Tells, number_spells}
use Rattle.tp_words.proofs.Steps.{and_then_some, map_some}
use Rattle.tp_bounds.specs.Lines.{IsBound, IsClose, IsHead, IsRow, ReadsBound, bound_after, bound_of, bound_text, bound_words, close_words, head_words, node_of, row_of, row_words}
use Rattle.tp_words.specs.Texts.{spaced}
use Rattle.tp_bounds.specs.Words.{IsHop, IsPoint, hop_text, point_text, state_of, state_text}
use Rattle.tp_words.proofs.Texts.{AllVisible, IsVisible, name_visible, number_visible, parts-spaced, spaced-parts, visible, visible-append}
use Rattle.tp_bounds.proofs.WordFacts.{hop_spells, point_spells, state_spells}
use Rattle.tp_bounds.proofs.NodeFacts.{is_text, led, node_again, node_takes, same_two}

-- ---- rows
row_takes : (words : List (List ℕ)) (r : TreeRow) → row_of words ≡ Some r → Tells row_words IsRow (codes "b" ∷ codes "room" ∷ words) r
unfolding row_of
row_takes [] r e = absurd cc
row_takes (a ∷ []) r e = absurd cc
row_takes (a ∷ b ∷ c ∷ words) r e = absurd cc
row_takes (a ∷ b ∷ []) r e =
    let s = and_then_some (state_of a) (λ s. option_and_then (λ n. Some (record { state = s; room = n })) (number_of b)) r e in
    let n = and_then_some (number_of b) (λ n. Some (record { state = s.0; room = n })) r s.2 in
    let x = state_spells.takes a s.0 s.1 in
    let y = number_spells.takes b n.0 n.1 in
    subst (λ r. Tells row_words IsRow (codes "b" ∷ codes "room" ∷ a ∷ b ∷ []) r) (same_Some (record { state = s.0; room = n.0 }) r n.2)
    (ap (λ ws. codes "b" ∷ codes "room" ∷ ws) (same_two a b (state_text s.0) (decimal n.0) [] [] x.0 y.0 refl), (x.1.0, y.1))

row_again : (r : TreeRow) → IsRow r → row_of (state_text r.state ∷ decimal r.room ∷ []) ≡ Some r
unfolding row_of
row_again r h = rw (state_spells.again r.state (h.0, tt), number_spells.again r.room h.1) refl

-- ---- bound lines
after_takes : (words : List (List ℕ)) (b : BoundLine) → bound_after words ≡ Some b → Tells bound_words IsBound (codes "b" ∷ words) b
unfolding bound_after
after_takes [] b e = absurd cc
after_takes (word ∷ words) b e =
    elim (cases_Bool (bytes_eq word (codes "room"))) [
      | inl h ↦
          let k : option_map (λ r. Room r) (row_of words) ≡ Some b = rw h at e in
          let m = map_some (λ r. Room r) (row_of words) b k in
          let t = row_takes words m.0 m.1 in
          subst (λ w. Tells bound_words IsBound (codes "b" ∷ w ∷ words) b) (sym (is_text word (codes "room") h)) (subst (λ b. Tells bound_words IsBound (codes "b" ∷ codes "room" ∷ words) b) m.2 t)
      | inr h ↦
          let k : option_map (λ n. ANode n) (node_of (word ∷ words)) ≡ Some b = rw h at e in
          let m = map_some (λ n. ANode n) (node_of (word ∷ words)) b k in
          let t = node_takes (word ∷ words) m.0 m.1 in
          subst (λ b. Tells bound_words IsBound (codes "b" ∷ word ∷ words) b) m.2 t
    ]

pub bound_takes : (words : List (List ℕ)) (b : BoundLine) → bound_of words ≡ Some b → Tells bound_words IsBound words b
unfolding bound_of
bound_takes [] b e = absurd cc
bound_takes (word ∷ words) b e =
    elim (cases_Bool (bytes_eq word (codes "b"))) [
      | inl h ↦ (let k : bound_after words ≡ Some b = rw h at e in led bound_words IsBound word (codes "b") words b h (after_takes words b k))
      | inr h ↦ (let k : None ≡ Some b = rw h at e in absurd cc)
    ]

room_no_number : number_of (codes "room") ≡ None
unfolding number_of digits_of
room_no_number = refl

-- a number isn't `room`
no_room : (n : ℕ) → IsNumber n → bytes_eq (decimal n) (codes "room") ≡ false
no_room n h =
    elim (cases_Bool (bytes_eq (decimal n) (codes "room"))) [
      | inl k ↦
          let again : number_of (codes "room") ≡ Some n = ap number_of (sym (is_text (decimal n) (codes "room") k)) ∙ number_spells.again n h in
          let none : number_of (codes "room") ≡ None = room_no_number in
          absurd cc
      | inr k ↦ k
    ]

pub bound_again : (b : BoundLine) → IsBound b → bound_of (bound_words b) ≡ Some b
unfolding bound_of bound_after
bound_again (Room row) h = ap (option_map (λ r. Room r)) (row_again row h)
bound_again (ANode node) h = rw (no_room node.depth h.depth) (ap (option_map (λ n. ANode n)) (node_again node h))

-- ---- words have neither a space nor a line end in them
state_visible : (s : NamedState) → IsName s.place → IsVisible (state_text s)
state_visible s h = visible state_spells refl refl s (h, tt)

point_visible : (p : TreePoint) → IsPoint p → IsVisible (point_text p)
point_visible = visible point_spells refl refl

hops_visible : (hops : List Hop) → AllByRecursion IsHop hops → AllVisible (map hop_text hops)
hops_visible [] h = tt
hops_visible (x ∷ xs) h = (visible hop_spells refl refl x h.0, hops_visible xs h.1)

head_visible : (head : Head) → IsHead head → AllVisible (head_words head)
head_visible (Goal state) h = (refl, (state_visible state h, tt))
head_visible (Act name) h = (refl, (name_visible name h, tt))
head_visible (At resource lo hi) h = (refl, (name_visible resource h.0, (number_visible lo h.1.0, (number_visible hi h.1.1, tt))))
head_visible Stop h = (refl, tt)

close_visible : (close : Close) → IsClose close → AllVisible (close_words close)
close_visible Split h = (refl, tt)
close_visible Dead h = (refl, tt)
close_visible (Chain first hops) h = (refl, (point_visible first h.0, hops_visible hops h.1))
close_visible (Loop first hops) h = (refl, (point_visible first h.0, hops_visible hops h.1.0))

pub bound_visible : (b : BoundLine) → IsBound b → AllVisible (bound_words b)
bound_visible (Room row) h = (refl, (refl, (state_visible row.state h.0, (number_visible row.room h.1, tt))))
bound_visible (ANode node) h = (refl, (number_visible node.depth h.depth, visible-append (head_words node.head) (close_words node.close) (head_visible node.head h.head) (close_visible node.close h.close)))

-- ---- lines
pub some_words : (b : BoundLine) → 0 < length (bound_words b)
some_words (Room row) = omega arith
some_words (ANode node) = omega arith

pub bound-front : (b : BoundLine) → bound_text b ≡ spaced (bound_words b) ++ 10 ∷ []
bound-front (Room row) = refl
bound-front (ANode node) = refl

-- a bound line begins with `b `, as no event's line and no record's does
pub bound_begins : (b : BoundLine) → (rest : List ℕ) × (spaced (bound_words b) ≡ 98 ∷ 32 ∷ rest)
bound_begins (Room row) = (_, refl)
bound_begins (ANode node) = (_, refl)

pub text_takes : (text : List ℕ) (b : BoundLine) → bound_of (parts_at 32 text) ≡ Some b → IsBound b × (text ≡ spaced (bound_words b))
text_takes text b e =
    let t = bound_takes (parts_at 32 text) b e in
    (t.1, sym (spaced-parts text) ∙ ap spaced t.0)

pub text_again : (b : BoundLine) → IsBound b → bound_of (parts_at 32 (spaced (bound_words b))) ≡ Some b
text_again b h = ap bound_of (parts-spaced (bound_words b) (some_words b) (bound_visible b h)) ∙ bound_again b h

-- what a reader answers
pub no_newline : (line : List ℕ) → ((text : List ℕ) → line ≢ text ++ 10 ∷ []) → (b : BoundLine) → IsBound b → line ≢ bound_text b
no_newline line h b is same = h (spaced (bound_words b)) (same ∙ bound-front b)

pub line_read : (line text : List ℕ) (result : Result (Option BoundLine) Memory) → line ≡ text ++ 10 ∷ [] → IfOk result (λ b. b ≡ bound_of (parts_at 32 text)) → ReadsBound line result
line_read line text (Err fault) is h = tt
line_read line text (Ok (Some b)) is h = (let t = text_takes text b (sym h) in (t.0, is ∙ ap (λ x. x ++ 10 ∷ []) t.1 ∙ sym (bound-front b)))
line_read line text (Ok None) is h = λ b good same.
    (let front : text ≡ spaced (bound_words b) = append_cancel_right text (spaced (bound_words b)) (10 ∷ []) (sym is ∙ same ∙ bound-front b) in
    let again : bound_of (parts_at 32 text) ≡ Some b = ap (λ t. bound_of (parts_at 32 t)) front ∙ text_again b good in
    absurd (clash h again))
  where
    clash : {b : BoundLine} {o : Option BoundLine} → None ≡ o → o ≡ Some b → ⊥
    clash h k = cc
