-- The next line of what was read, among all that the source gave.
use Rattle.std.proofs.Common.{◌≡◌, inl, inr, ℕ, ◌<◌, true, List, [], ◌∷◌, ◌++◌, length, Option, Some, sym, ap, subst, ◌∙◌, append_assoc, arith}
use Rattle.std.proofs.lemmas.List.{append-nil, append_cancel_right}
use Rattle.tp_words.specs.Texts.{lines_of}
use Rattle.tp_stream.specs.Takes.{NextLine, ends_whole}
use Rattle.tp_stream.proofs.Lines.{lines_after}

some-first : (rest line : List ℕ) (lines : List (List ℕ)) → lines_of rest ≡ line ∷ lines → 0 < length rest
some-first [] line lines e = absurd cc
some-first (b ∷ rest) line lines e = omega arith

nothing-left : (left' : Option (List ℕ)) (after : List ℕ) → left' ≡ Some [] → left' ≡ Some after → after ≡ []
nothing-left left' after ended is = (let e : Some [] ≡ Some after = sym ended ∙ is in cc)

-- a whole line, and what stands behind it
whole-first : (line more after : List ℕ) → ends_whole line ≡ true → lines_of (line ++ more) ≡ line ∷ lines_of more → lines_of (line ++ (more ++ after)) ≡ line ∷ lines_of (more ++ after)
whole-first line more after whole first =
    let alone : lines_of line ≡ line ∷ [] = append_cancel_right (lines_of line) (line ∷ []) (lines_of more) (sym (lines_after line more whole) ∙ first) in
    lines_after line (more ++ after) whole ∙ ap (λ ls. ls ++ lines_of (more ++ after)) alone

module _ (limit : ℕ) (left' : Option (List ℕ)) (all rest : List ℕ) (next : NextLine limit (Some all) left' rest) where
  pub next-on : (after : List ℕ) → left' ≡ Some after → lines_of (rest ++ after) ≡ next.line ∷ lines_of (next.more ++ after)
  next-on after is = elim next.whole [
    | inl whole ↦
        ap lines_of (ap (λ r. r ++ after) next.next ∙ append_assoc next.line next.more after)
        ∙ whole-first next.line next.more after whole (sym (ap lines_of next.next) ∙ next.first)
    | inr ended ↦
        (let none : after ≡ [] = nothing-left left' after ended is in
        subst (λ a. lines_of (rest ++ a) ≡ next.line ∷ lines_of (next.more ++ a)) (sym none)
        (ap lines_of (append-nil rest) ∙ next.first ∙ ap (λ m. next.line ∷ lines_of m) (sym (append-nil next.more))))
  ]

pub next-some : (limit : ℕ) (left left' : Option (List ℕ)) (rest : List ℕ) → NextLine limit left left' rest → 0 < length rest
next-some limit left left' rest next = some-first rest next.line (lines_of next.more) next.first
