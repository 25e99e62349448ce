-- The first copies of a job's sheets, part by part.
use Rattle.std.proofs.Common.{◌≡◌, ℕ, ◌+◌, ◌<◌, ◌≤◌, suc, List, [], ◌∷◌, ◌++◌, length, get_or, take, replicate, All, AllPairs, true, refl, ap, sym, arith, ◌∙◌}
use Rattle.std.proofs.lemmas.Bool.Decides.{nat_tests}
use Rattle.std.proofs.lemmas.List.Elements.{All-cons, All-nil}
use Rattle.std.proofs.lemmas.Grind.{flat_map-append}
use Rattle.std.proofs.lemmas.List.Concat.{flat_map-cons}
use Rattle.std.proofs.lemmas.List.{take_more, replicate-append-replicate, length-replicate, length-append}
use Rattle.std.proofs.lemmas.List.Sums.{sum_by-cons}
use Rattle.tp_machine.specs.declared.parts.Sheet.{Sheet}
use Rattle.tp_schedule.proofs.Pairs.{AllPairs-cons, AllPairs-nil}
use Rattle.tp_schedule.specs.Plans.{is_before}
use Rattle.tp_jobs.specs.Backlogs.{WaitsBefore}
use Rattle.tp_script.specs.Form.{GroupForm}
use Rattle.tp_jobs.specs.JobRefusals.{sheet_count}
use Rattle.tp_jobs.specs.WaitingCopies.{first_copies, sheet_of, sheets_of}
use Rattle.tp_jobs.specs.declared.parts.WaitingCopy.{WaitingCopy}

pub first_copies-append : (job n : ℕ) (xs ys : List Sheet) → first_copies job n (xs ++ ys) ≡ first_copies job n xs ++ first_copies job (n + length xs) ys
first_copies-append job n [] ys = rw (zero_more n) refl where
  zero_more : (m : ℕ) → m + 0 ≡ m
  zero_more m = omega arith
first_copies-append job n (x ∷ xs) ys =
    ap (λ zs. record { sheet = record { job = job; number = n; copy = 1 }; want = x } ∷ zs)
    (first_copies-append job (n + 1) xs ys ∙ ap (λ m. first_copies job (n + 1) xs ++ first_copies job m ys) moved) where
      moved : n + 1 + length xs ≡ n + length (x ∷ xs)
      moved = omega arith

pub length-first_copies : (job n : ℕ) (xs : List Sheet) → length (first_copies job n xs) ≡ length xs
length-first_copies job n [] = refl
length-first_copies job n (x ∷ xs) = ap suc (length-first_copies job (n + 1) xs)

-- each is of the job, and of a sheet from this number on
pub first_copies-are_of : (job n : ℕ) (xs : List Sheet) → All (λ w. (w.sheet.job ≡ job) × (n ≤ w.sheet.number)) (first_copies job n xs)
first_copies-are_of job n [] = All-nil (λ w. (w.sheet.job ≡ job) × (n ≤ w.sheet.number))
first_copies-are_of job n (x ∷ xs) =
    All-cons (λ w. (w.sheet.job ≡ job) × (n ≤ w.sheet.number)) (record { sheet = record { job = job; number = n; copy = 1 }; want = x }) (first_copies job (n + 1) xs) (refl, omega arith)
    (λ k d within. let rest = first_copies-are_of job (n + 1) xs k d within in (rest.0, omega (arith, rest.1)))

pub first_copies-in_order : (job n : ℕ) (xs : List Sheet) → AllPairs WaitsBefore (first_copies job n xs)
first_copies-in_order job n [] = AllPairs-nil WaitsBefore
first_copies-in_order job n (x ∷ xs) =
    AllPairs-cons WaitsBefore (record { sheet = record { job = job; number = n; copy = 1 }; want = x }) (first_copies job (n + 1) xs)
    (λ k d within. let rest = first_copies-are_of job (n + 1) xs k d within in number_before (get_or (first_copies job (n + 1) xs) k d) rest.0 rest.1) (first_copies-in_order job (n + 1) xs) where
      number_before : (w : WaitingCopy) → w.sheet.job ≡ job → n + 1 ≤ w.sheet.number → is_before (record { job = job; number = n; copy = 1 }) w.sheet ≡ true
      number_before w is above = grind (arith, nat_tests)

-- one more sheet of a group
pub first_copies-one_more : (job n k : ℕ) (want : Sheet) → first_copies job n (replicate (k + 1) want) ≡ first_copies job n (replicate k want) ++ record { sheet = record { job = job; number = n + k; copy = 1 }; want = want } ∷ []
first_copies-one_more job n k want =
    ap (first_copies job n) (sym (replicate-append-replicate k 1 want)) ∙ first_copies-append job n (replicate k want) (replicate 1 want)
    ∙ ap (λ m. first_copies job n (replicate k want) ++ record { sheet = record { job = job; number = n + m; copy = 1 }; want = want } ∷ []) (length-replicate k want)

sheets_of-one_more : (media : List ℕ) (groups : List GroupForm) (i : ℕ) (g : GroupForm) → i < length groups → g ≡ get_or groups i g → sheets_of media (take (i + 1) groups) ≡ sheets_of media (take i groups) ++ replicate g.count (sheet_of media g)
sheets_of-one_more media groups i g within is =
    ap (sheets_of media) (take_more groups i g within ∙ ap (λ h. take i groups ++ h ∷ []) (sym is))
    ∙ flat_map-append (λ h. replicate h.count (sheet_of media h)) (take i groups) (g ∷ [])
    ∙ ap (λ ws. sheets_of media (take i groups) ++ ws) (no_more (replicate g.count (sheet_of media g))) where
      no_more : (ws : List Sheet) → ws ++ [] ≡ ws
      no_more [] = refl
      no_more (w ∷ ws) = ap (λ vs. w ∷ vs) (no_more ws)

pub length-sheets_of : (media : List ℕ) (groups : List GroupForm) → length (sheets_of media groups) ≡ sheet_count groups
length-sheets_of media [] = refl
length-sheets_of media (g ∷ groups) =
    ap length (flat_map-cons (λ h. replicate h.count (sheet_of media h)) g groups)
    ∙ length-append (replicate g.count (sheet_of media g)) (sheets_of media groups)
    ∙ (λ k. length-replicate g.count (sheet_of media g) k + length-sheets_of media groups k) ∙ sym (sum_by-cons (λ h. h.count) g groups)

-- one more group
pub first_copies-one_more_group : (job : ℕ) (media : List ℕ) (groups : List GroupForm) (i n : ℕ) (g : GroupForm) (before after : List WaitingCopy) → i < length groups → g ≡ get_or groups i g
    → before ≡ first_copies job 1 (sheets_of media (take i groups)) → n ≡ length before → after ≡ before ++ first_copies job (n + 1) (replicate g.count (sheet_of media g))
    → after ≡ first_copies job 1 (sheets_of media (take (i + 1) groups))
first_copies-one_more_group job media groups i n g before after within is was len now =
    now ∙ (λ k. was k ++ first_copies job (next k) (replicate g.count (sheet_of media g)))
    ∙ sym (first_copies-append job 1 (sheets_of media (take i groups)) (replicate g.count (sheet_of media g)))
    ∙ ap (first_copies job 1) (sym (sheets_of-one_more media groups i g within is)) where
      next : n + 1 ≡ 1 + length (sheets_of media (take i groups))
      next = omega (arith, len, ap length was, length-first_copies job 1 (sheets_of media (take i groups)))
