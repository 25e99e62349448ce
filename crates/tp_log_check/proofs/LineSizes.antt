-- A script that keeps its sizes has no line that is too long, and not too many lines.
use Rattle.std.proofs.Common.{◌≡◌, inl, inr, ℕ, ◌<◌, ◌≤◌, Bool, cond, true, false, eqb, List, [], ◌∷◌, ◌++◌, length, refl, ap, subst, ◌∙◌, arith, append_assoc, length-append}
use Rattle.std.specs.List.{All}
use Rattle.std.proofs.lemmas.Bool.{cases_Bool}
use Rattle.std.proofs.lemmas.List.Elements.{All-head, All-tail}
use Rattle.tp_words.specs.Texts.{lines_of, onto_line}
use Rattle.tp_stream.specs.Takes.{BeginsTooLong, FitsIn, body_of, ends_whole}
use Rattle.tp_stream.proofs.Lines.{lines_after, some_line}

-- what stands before the LF of the first line
abbrev first_body : List (List ℕ) → List ℕ
first_body [] = []
first_body (line ∷ lines) = body_of line

body_onto : (byte : ℕ) (text : List ℕ) (lines : List (List ℕ)) → eqb byte 10 ≡ false → first_body lines ≡ body_of text → first_body (onto_line byte lines) ≡ byte ∷ body_of text
body_onto byte text [] e ih = rw e (ap (λ body. byte ∷ body) ih)
body_onto byte text (line ∷ lines) e ih = rw e (ap (λ body. byte ∷ body) ih)

body_first : (text : List ℕ) → first_body (lines_of text) ≡ body_of text
body_first [] = refl
body_first (byte ∷ text) =
    elim (cases_Bool (eqb byte 10)) [
      | inl e ↦ rw e refl
      | inr e ↦ rw e (body_onto byte text (lines_of text) e (body_first text))
    ]

body_grows : (text more : List ℕ) → length (body_of text) ≤ length (body_of (text ++ more))
body_grows [] more = omega arith
body_grows (byte ∷ text) more = go (eqb byte 10) (body_grows text more)
  where
    go : (c : Bool) → length (body_of text) ≤ length (body_of (text ++ more)) → length (cond c [] (byte ∷ body_of text)) ≤ length (cond c [] (byte ∷ body_of (text ++ more)))
    go true ih = omega arith
    go false ih = omega (arith, ih)

first_fits : (limit : ℕ) (lines : List (List ℕ)) → All (FitsIn limit) lines → length (first_body lines) ≤ limit
first_fits limit [] fit = omega arith
first_fits limit (line ∷ lines) fit = All-head (FitsIn limit) line lines fit

later_fit : (limit : ℕ) (first later : List (List ℕ)) → All (FitsIn limit) (first ++ later) → All (FitsIn limit) later
later_fit limit [] later fit = fit
later_fit limit (line ∷ first) later fit = later_fit limit first later (All-tail (FitsIn limit) line (first ++ later) fit)

-- the lines of a script that goes on behind what was read
lines_are : (done rest after : List ℕ) → ends_whole done ≡ true → lines_of ((done ++ rest) ++ after) ≡ lines_of done ++ lines_of (rest ++ after)
lines_are done rest after whole = ap lines_of (append_assoc done rest after) ∙ lines_after done (rest ++ after) whole

pub not_too_long : (limit : ℕ) (script read done rest after : List ℕ) → All (FitsIn limit) (lines_of script) → script ≡ read ++ after → read ≡ done ++ rest
    → ends_whole done ≡ true → ¬ BeginsTooLong limit rest
not_too_long limit script read done rest after fit whole parts ends long =
    let lines : lines_of script ≡ lines_of done ++ lines_of (rest ++ after) = ap lines_of (whole ∙ ap (λ r. r ++ after) parts) ∙ lines_are done rest after ends in
    let later = later_fit limit (lines_of done) (lines_of (rest ++ after)) (subst (All (FitsIn limit)) lines fit) in
    let short : length (body_of (rest ++ after)) ≤ limit = subst (λ body. length body ≤ limit) (body_first (rest ++ after)) (first_fits limit (lines_of (rest ++ after)) later) in
    absurd (omega (arith, long, short, body_grows rest after))

some_lines : (text more : List ℕ) → 0 < length text → 0 < length (lines_of (text ++ more))
some_lines [] more some = absurd (omega (arith, some))
some_lines (byte ∷ text) more some = some_line byte (text ++ more)

pub not_too_many : (most : ℕ) (script read done rest after : List ℕ) → length (lines_of script) ≤ most → script ≡ read ++ after → read ≡ done ++ rest
    → ends_whole done ≡ true → length (lines_of done) ≡ most → 0 < length rest → ⊥
not_too_many most script read done rest after few whole parts ends full some =
    let lines : lines_of script ≡ lines_of done ++ lines_of (rest ++ after) = ap lines_of (whole ∙ ap (λ r. r ++ after) parts) ∙ lines_are done rest after ends in
    let count = ap length lines in
    absurd (omega (arith, few, full, count, length-append (lines_of done) (lines_of (rest ++ after)), some_lines rest after some))
