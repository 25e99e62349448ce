-- Lines with which no lawful log begins.
use Rattle.std.proofs.Common.{◌≡◌, ℕ, List, [], ◌∷◌, ◌++◌, map, refl, sym, ap, subst, ◌∙◌, append_assoc}
use Rattle.std.specs.List.{All, AllByRecursion}
use Rattle.std.proofs.lemmas.List.Elements.{recursion_from_All}
use Rattle.tp_log.specs.LogLines.{IsLogLine, log_line_text}
use Rattle.tp_log.specs.declared.log_line.LogLine.{LogLine}
use Rattle.tp_log.proofs.BoundLines.{one_log_line}
use Rattle.tp_log.proofs.Items.{log_known}
use Rattle.tp_log.proofs.LogLines.{lines_whole, same_lines}
use Rattle.tp_log_check.specs.Lawful.{IsLawfulLog}
use Rattle.tp_machine.specs.declared.machine.Machine.{Machine}
use Rattle.tp_words.specs.Texts.{lines_of}
use Rattle.tp_log_check.specs.Ends.{BeginsNone, IsLawfulText}

both-parts : (a b : List ℕ) (xs ys : List (List ℕ)) → a ∷ xs ≡ b ∷ ys → (a ≡ b) × (xs ≡ ys)
both-parts a b xs ys e = (cc, cc)

-- the lines go on behind these, and the next is written so
record GoesOn (told : List LogLine) (line : List ℕ) (lines : List LogLine) : Type 0 where
  pub next : LogLine
  pub later : List LogLine
  pub are : lines ≡ told ++ next ∷ later
  pub is : line ≡ log_line_text next

goes-on : (told lines : List LogLine) (line : List ℕ) (more : List (List ℕ)) → AllByRecursion IsLogLine told → AllByRecursion IsLogLine lines
    → map log_line_text lines ≡ map log_line_text told ++ line ∷ more → GoesOn told line lines
goes-on [] [] line more h k same = absurd cc
goes-on [] (l ∷ ls) line more h k same =
    record { next = l; later = ls; are = refl; is = sym (both-parts (log_line_text l) line (map log_line_text ls) more same).0 }
goes-on (t ∷ ts) [] line more h k same = absurd cc
goes-on (t ∷ ts) (l ∷ ls) line more h k same =
    let parts = both-parts (log_line_text l) (log_line_text t) (map log_line_text ls) (map log_line_text ts ++ line ∷ more) same in
    let rest = goes-on ts ls line more h.1 k.1 parts.1 in
    record {
      next = rest.next;
      later = rest.later;
      are = ap (λ x. x ∷ ls) (one_log_line l t k.0 h.0 parts.0) ∙ ap (λ xs. t ∷ xs) rest.are;
      is = rest.is;
    }

-- the lines of a lawful text
lawful-known : (machine : Machine) (told : List LogLine) → IsLawfulLog machine told → All IsLogLine told
lawful-known machine told h = subst (All IsLogLine) (sym h.lines) (log_known _ h.is_log.1)

lawful-lines : (machine : Machine) (text : List ℕ) (h : IsLawfulText machine text) → lines_of text ≡ map log_line_text h.told
lawful-lines machine text h = ap lines_of h.is_text ∙ lines_whole h.told (lawful-known machine h.told h.lawful)

-- lines that were taken, and one behind them
pub begins-none : (machine : Machine) (done line : List ℕ) (told : List LogLine) → All IsLogLine told → lines_of done ≡ map log_line_text told
    → ((next : LogLine) (more : List LogLine) → line ≡ log_line_text next → ¬ IsLawfulLog machine (told ++ next ∷ more)) → BeginsNone machine (lines_of done ++ line ∷ [])
begins-none machine done line told known lines none text more begin h =
    let same : map log_line_text h.told ≡ map log_line_text told ++ line ∷ more =
    sym (lawful-lines machine text h) ∙ begin ∙ append_assoc (lines_of done) (line ∷ []) more ∙ ap (λ ls. ls ++ line ∷ more) lines in
    let on = goes-on told h.told line more (recursion_from_All IsLogLine told known) (recursion_from_All IsLogLine h.told (lawful-known machine h.told h.lawful)) same in
    none on.next on.later on.is (subst (IsLawfulLog machine) on.are h.lawful)

-- lines that were taken, and no more
pub is-none : (machine : Machine) (text : List ℕ) (told : List LogLine) → All IsLogLine told → lines_of text ≡ map log_line_text told → ¬ IsLawfulLog machine told → ¬ IsLawfulText machine text
is-none machine text told known lines none h =
    none (subst (IsLawfulLog machine) (same_lines h.told told (lawful-known machine h.told h.lawful) known (sym (lawful-lines machine text h) ∙ lines)) h.lawful)
