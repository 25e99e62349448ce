-- Records: what is read is spelled so, and what is spelled so is read.
use Rattle.std.proofs.Common.{◌≡◌, ℕ, List, [], ◌∷◌, Some, refl, sym, ap, subst}
use Rattle.std.specs.Prelude.{option_map}
use Rattle.std.specs.Str.{bytes_eq}
use Rattle.std.proofs.lemmas.Slice.Eq.{bytes_eq-Decides}
use Rattle.tp_words.proofs.Steps.{and_then_some, map_some}
use Rattle.tp_words.proofs.SpelledWords.{Tells, name_spells, number_spells, two_again, five_again}
use Rattle.tp_bounds.proofs.SheetFacts.{sheet_spells, sheet_visible}
use Rattle.tp_words.proofs.Texts.{AllVisible, name_visible, number_visible}
use Rattle.tp_schedule.specs.declared.records.Record.{Record}
use Rattle.tp_schedule.specs.declared.records.Record.TheVariants.{Plan, Move, Never, Budget, FullUp, Release, Done, Lost, Recall, Withdraw, Cut, Purge, Again, Stuck, Broken, Drop, Refused}
use Rattle.tp_schedule.specs.declared.records.SheetName.{SheetName}
use Rattle.tp_bounds.specs.Sheets.{IsSheet, sheet_of, sheet_text}
use Rattle.tp_log.specs.declared.heading.Heading.{Heading}
use Rattle.tp_log.specs.declared.heading.Heading.TheVariants as headings
use Rattle.tp_log.specs.Headings.{heading_text, heading_of, headings as all_headings}
use Rattle.tp_log.specs.Records.{record_words}
use Rattle.tp_log.specs.Grammar.{IsRecord}
use Rattle.tp_log.specs.RecordReaders.{one_of, cause_of, record_after, record_of}
use Rattle.tp_log.proofs.WordFacts.{goal_spells, goal_visible}
use Rattle.tp_log.proofs.Forms.{one_again, one_made, two_made, three_again, three_made, five_made}
use Rattle.tp_log.proofs.PlanFacts.{plan_takes, plan_again, turns_visible, move_takes, move_again, points_visible}
use Rattle.tp_log.proofs.CauseFacts.{find_passes, cause_takes, cause_again, cause_visible}

heading_takes : (word : List ℕ) (h : Heading) → heading_of word ≡ Some h → word ≡ heading_text h
heading_takes word h e = sym ((bytes_eq-Decides (heading_text h) word).0 (find_passes (λ h. bytes_eq (heading_text h) word) all_headings h e))

-- a record of a copy alone
of_copy : (make : SheetName → Record) (head : List ℕ) → ((s : SheetName) → record_words (make s) ≡ head ∷ sheet_text s ∷ []) → ((s : SheetName) → IsSheet s → IsRecord (make s)) → (words : List (List ℕ)) (r : Record) → option_map make (one_of sheet_of words) ≡ Some r → Tells record_words IsRecord (head ∷ words) r
of_copy make head same fits words r e = one_made record_words IsRecord sheet_spells make head same fits words r e

refused_takes : (words : List (List ℕ)) (r : Record) → option_map (λ c. Refused c) (cause_of words) ≡ Some r → Tells record_words IsRecord (heading_text headings.Refused ∷ words) r
refused_takes words r e =
    let m = map_some (λ c. Refused c) (cause_of words) r e in
    let k = cause_takes words m.0 m.1 in
    subst (λ r. Tells record_words IsRecord (heading_text headings.Refused ∷ words) r) m.2 (ap (λ ws. heading_text headings.Refused ∷ ws) k.0, (k.1, tt))

after_takes : (h : Heading) (words : List (List ℕ)) (r : Record) → record_after h words ≡ Some r → Tells record_words IsRecord (heading_text h ∷ words) r
unfolding record_after
after_takes headings.Plan words r e = plan_takes words r e
after_takes headings.Move words r e = move_takes words r e
after_takes headings.Never words r e = two_made record_words IsRecord sheet_spells goal_spells (λ s g. Never s g) (heading_text headings.Never) (λ s g. refl) (λ s g h k. ((h, k), tt)) words r e
after_takes headings.Budget words r e = three_made record_words IsRecord sheet_spells goal_spells number_spells (λ s g n. Budget s g n) (heading_text headings.Budget) (λ s g n. refl) (λ s g n h k l. ((h, k, l), tt)) words r e
after_takes headings.FullUp words r e = of_copy (λ s. FullUp s) (heading_text headings.FullUp) (λ s. refl) (λ s h. (h, tt)) words r e
after_takes headings.Release words r e = five_made record_words IsRecord sheet_spells number_spells name_spells number_spells number_spells (λ s i a p q. Release s i a p q) (heading_text headings.Release) (λ s i a p q. refl) (λ s i a p q h k l m n. ((h, k, l, m, n), tt)) words r e
after_takes headings.Done words r e = three_made record_words IsRecord sheet_spells name_spells number_spells (λ s l n. Done s l n) (heading_text headings.Done) (λ s l n. refl) (λ s l n h k m. ((h, k, m), tt)) words r e
after_takes headings.Lost words r e = of_copy (λ s. Lost s) (heading_text headings.Lost) (λ s. refl) (λ s h. (h, tt)) words r e
after_takes headings.Recall words r e = two_made record_words IsRecord sheet_spells number_spells (λ s i. Recall s i) (heading_text headings.Recall) (λ s i. refl) (λ s i h k. ((h, k), tt)) words r e
after_takes headings.Withdraw words r e = of_copy (λ s. Withdraw s) (heading_text headings.Withdraw) (λ s. refl) (λ s h. (h, tt)) words r e
after_takes headings.Cut words r e = of_copy (λ s. Cut s) (heading_text headings.Cut) (λ s. refl) (λ s h. (h, tt)) words r e
after_takes headings.Purge words r e = of_copy (λ s. Purge s) (heading_text headings.Purge) (λ s. refl) (λ s h. (h, tt)) words r e
after_takes headings.Again words r e = of_copy (λ s. Again s) (heading_text headings.Again) (λ s. refl) (λ s h. (h, tt)) words r e
after_takes headings.Stuck words r e = two_made record_words IsRecord sheet_spells name_spells (λ s m. Stuck s m) (heading_text headings.Stuck) (λ s m. refl) (λ s m h k. ((h, k), tt)) words r e
after_takes headings.Broken words r e = one_made record_words IsRecord name_spells (λ j. Broken j) (heading_text headings.Broken) (λ j. refl) (λ j h. (h, tt)) words r e
after_takes headings.Drop words r e = of_copy (λ s. Drop s) (heading_text headings.Drop) (λ s. refl) (λ s h. (h, tt)) words r e
after_takes headings.Refused words r e = refused_takes words r e

pub record_takes : (words : List (List ℕ)) (r : Record) → record_of words ≡ Some r → Tells record_words IsRecord words r
unfolding record_of
record_takes [] r e = absurd cc
record_takes (first ∷ words) r e =
    let h = and_then_some (heading_of first) (λ h. record_after h words) r e in
    rw (heading_takes first h.0 h.1) (after_takes h.0 words r h.2)

copy_again : (make : SheetName → Record) (s : SheetName) → IsSheet s → option_map make (one_of sheet_of (sheet_text s ∷ [])) ≡ Some (make s)
copy_again make s h = ap (option_map make) (one_again sheet_spells s h)

pub record_again : (r : Record) → IsRecord r → record_of (record_words r) ≡ Some r
unfolding record_of record_after
record_again (Plan sheet place points acts) h = plan_again sheet place points acts h
record_again (Move sheet points) h = move_again sheet points h
record_again (Never sheet goal) ((s, g), p) = two_again sheet_spells goal_spells (λ s g. Never s g) sheet goal s g
record_again (Budget sheet goal bound) ((s, g, n), p) = three_again sheet_spells goal_spells number_spells (λ s g n. Budget s g n) sheet goal bound s g n
record_again (FullUp sheet) (s, p) = copy_again (λ s. FullUp s) sheet s
record_again (Release sheet act name start end) ((s, i, a, q, r), p) = five_again sheet_spells number_spells name_spells number_spells number_spells (λ s i a p q. Release s i a p q) sheet act name start end s i a q r
record_again (Done sheet place at) ((s, l, n), p) = three_again sheet_spells name_spells number_spells (λ s l n. Done s l n) sheet place at s l n
record_again (Lost sheet) (s, p) = copy_again (λ s. Lost s) sheet s
record_again (Recall sheet act) ((s, i), p) = two_again sheet_spells number_spells (λ s i. Recall s i) sheet act s i
record_again (Withdraw sheet) (s, p) = copy_again (λ s. Withdraw s) sheet s
record_again (Cut sheet) (s, p) = copy_again (λ s. Cut s) sheet s
record_again (Purge sheet) (s, p) = copy_again (λ s. Purge s) sheet s
record_again (Again sheet) (s, p) = copy_again (λ s. Again s) sheet s
record_again (Stuck sheet name) ((s, m), p) = two_again sheet_spells name_spells (λ s m. Stuck s m) sheet name s m
record_again (Broken job) (j, p) = ap (option_map (λ j. Broken j)) (one_again name_spells job j)
record_again (Drop sheet) (s, p) = copy_again (λ s. Drop s) sheet s
record_again (Refused cause) (c, p) = ap (option_map (λ c. Refused c)) (cause_again cause c)

pub record_visible : (r : Record) → IsRecord r → AllVisible (record_words r)
record_visible (Plan sheet place points acts) ((s, l, numbers, names), p) = (refl, (sheet_visible sheet s, (name_visible place l, turns_visible points acts numbers names)))
record_visible (Move sheet points) ((s, numbers), p) = (refl, (sheet_visible sheet s, points_visible points numbers))
record_visible (Never sheet goal) ((s, g), p) = (refl, (sheet_visible sheet s, (goal_visible goal g, tt)))
record_visible (Budget sheet goal bound) ((s, g, n), p) = (refl, (sheet_visible sheet s, (goal_visible goal g, (number_visible bound n, tt))))
record_visible (FullUp sheet) (s, p) = (refl, (sheet_visible sheet s, tt))
record_visible (Release sheet act name start end) ((s, i, a, q, r), p) = (refl, (sheet_visible sheet s, (number_visible act i, (name_visible name a, (number_visible start q, (number_visible end r, tt))))))
record_visible (Done sheet place at) ((s, l, n), p) = (refl, (sheet_visible sheet s, (name_visible place l, (number_visible at n, tt))))
record_visible (Lost sheet) (s, p) = (refl, (sheet_visible sheet s, tt))
record_visible (Recall sheet act) ((s, i), p) = (refl, (sheet_visible sheet s, (number_visible act i, tt)))
record_visible (Withdraw sheet) (s, p) = (refl, (sheet_visible sheet s, tt))
record_visible (Cut sheet) (s, p) = (refl, (sheet_visible sheet s, tt))
record_visible (Purge sheet) (s, p) = (refl, (sheet_visible sheet s, tt))
record_visible (Again sheet) (s, p) = (refl, (sheet_visible sheet s, tt))
record_visible (Stuck sheet name) ((s, m), p) = (refl, (sheet_visible sheet s, (name_visible name m, tt)))
record_visible (Broken job) (j, p) = (refl, (name_visible job j, tt))
record_visible (Drop sheet) (s, p) = (refl, (sheet_visible sheet s, tt))
record_visible (Refused cause) (c, p) = (refl, cause_visible cause c)
