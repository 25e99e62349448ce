-- Plans and moves: what is read is spelled so, and what is spelled so is read.
use Rattle.std.proofs.Common.{◌≡◌, ℕ, ◌+◌, ◌<◌, cond, ltb, Bool, true, false, List, [], ◌∷◌, length, map, Option, Some, None, refl, ap, subst, ◌∙◌, arith, decimal}
use Rattle.std.specs.Prelude.{option_and_then}
use Rattle.std.specs.List.{AllByRecursion}
use Rattle.std.proofs.lemmas.Bool.{ltb-true, lt-ltb}
use Rattle.std.proofs.lemmas.Option.{cond_some, same_Some}
use Rattle.std.proofs.lemmas.List.{length-map}
use Rattle.tp_words.specs.Numbers.{IsNumber, number_of}
use Rattle.tp_words.specs.Each.{each_read}
use Rattle.tp_words.specs.Fields.{name_of}
use Rattle.tp_words.proofs.Steps.{and_then_some}
use Rattle.tp_words.proofs.SpelledWords.{Tells, name_spells, number_spells}
use Rattle.tp_bounds.proofs.SheetFacts.{sheet_spells}
use Rattle.tp_words.proofs.Texts.{AllVisible, name_visible, number_visible}
use Rattle.tp_words.proofs.Lists.{list_takes, list_again}
use Rattle.tp_schedule.specs.declared.records.Record.{Record}
use Rattle.tp_schedule.specs.declared.records.Record.TheVariants.{Plan, Move}
use Rattle.tp_schedule.specs.declared.records.SheetName.{SheetName}
use Rattle.tp_words.specs.Fields.{IsName}
use Rattle.tp_bounds.specs.Sheets.{IsSheet, sheet_of, sheet_text}
use Rattle.tp_log.specs.declared.heading.Heading.TheVariants as headings
use Rattle.tp_log.specs.Headings.{heading_text}
use Rattle.tp_log.specs.Records.{turns_words, record_words}
use Rattle.tp_log.specs.Grammar.{IsRecord}
use Rattle.tp_log.specs.RecordReaders.{turns_of, plan_with, plan_of, move_with, move_of}

-- ---- points and actions in turn
record TurnsTake (words : List (List ℕ)) (t : List ℕ × List (List ℕ)) : Type 0 where
  text : words ≡ turns_words t.0 t.1
  more : length t.0 ≡ length t.1 + 1
  numbers : AllByRecursion IsNumber t.0
  names : AllByRecursion IsName t.1

same_two : (a b a' b' : List ℕ) (ws ws' : List (List ℕ)) → a ≡ a' → b ≡ b' → ws ≡ ws' → a ∷ b ∷ ws ≡ a' ∷ b' ∷ ws'
same_two a b a' b' ws ws' h i j = cc

one_more : (point act : List ℕ) (words : List (List ℕ)) (x : ℕ) (n : List ℕ) (o t : List ℕ × List (List ℕ)) → Some (x ∷ o.0, n ∷ o.1) ≡ Some t → (point ≡ decimal x) × IsNumber x → (act ≡ n) × IsName n → TurnsTake words o → TurnsTake (point ∷ act ∷ words) t
one_more point act words x n o t is p a h = subst (λ t. TurnsTake (point ∷ act ∷ words) t) (same_Some (x ∷ o.0, n ∷ o.1) t is) (record {
  text = same_two point act (decimal x) n words (turns_words o.0 o.1) p.0 a.0 h.text;
  more = omega (arith, h.more);
  numbers = (p.1, h.numbers);
  names = (a.1, h.names);
})

turns_take : (words : List (List ℕ)) (t : List ℕ × List (List ℕ)) → turns_of words ≡ Some t → TurnsTake words t
unfolding turns_of
turns_take [] t e = absurd cc
turns_take (point ∷ []) t e =
    let x = and_then_some (number_of point) (λ x. Some (x ∷ [], [])) t e in
    let p = number_spells.takes point x.0 x.1 in
    subst (λ t. TurnsTake (point ∷ []) t) (same_Some (x.0 ∷ [], []) t x.2) (record { text = ap (λ w. w ∷ []) p.0; more = refl; numbers = (p.1, tt); names = tt })
turns_take (point ∷ act ∷ words) t e =
    let x = and_then_some (number_of point) (λ x. option_and_then (λ n. option_and_then (λ others. Some (x ∷ others.0, n ∷ others.1)) (turns_of words)) (name_of act)) t e in
    let n = and_then_some (name_of act) (λ n. option_and_then (λ others. Some (x.0 ∷ others.0, n ∷ others.1)) (turns_of words)) t x.2 in
    let o = and_then_some (turns_of words) (λ others. Some (x.0 ∷ others.0, n.0 ∷ others.1)) t n.2 in
    one_more point act words x.0 n.0 o.0 t o.2 (number_spells.takes point x.0 x.1) (name_spells.takes act n.0 n.1) (turns_take words o.0 o.1)

turns_again : (points : List ℕ) (acts : List (List ℕ)) → length points ≡ length acts + 1 → AllByRecursion IsNumber points → AllByRecursion IsName acts → turns_of (turns_words points acts) ≡ Some (points, acts)
unfolding turns_of
turns_again [] acts more numbers names = absurd (omega arith)
turns_again (x ∷ []) [] more numbers names = rw (number_spells.again x numbers.0) refl
turns_again (x ∷ y ∷ points) [] more numbers names = absurd (omega arith)
turns_again (x ∷ points) (n ∷ acts) more numbers names =
    rw (number_spells.again x numbers.0, name_spells.again n names.0, turns_again points acts (omega arith) numbers.1 names.1) refl

pub turns_visible : (points : List ℕ) (acts : List (List ℕ)) → AllByRecursion IsNumber points → AllByRecursion IsName acts → AllVisible (turns_words points acts)
turns_visible [] acts numbers names = tt
turns_visible (x ∷ points) [] numbers names = (number_visible x numbers.0, tt)
turns_visible (x ∷ points) (n ∷ acts) numbers names = (number_visible x numbers.0, (name_visible n names.0, turns_visible points acts numbers.1 names.1))

-- ---- plans
plan_made : (a b : List ℕ) (turns : List (List ℕ)) (s : SheetName) (l : List ℕ) (t : List ℕ × List (List ℕ)) (r : Record) → cond (ltb 0 (length t.1)) (Some (Plan s l t.0 t.1)) None ≡ Some r → (a ≡ sheet_text s) × IsSheet s → (b ≡ l) × IsName l → TurnsTake turns t → Tells record_words IsRecord (heading_text headings.Plan ∷ a ∷ b ∷ turns) r
plan_made a b turns s l t r is sheet place h =
    let k = cond_some (ltb 0 (length t.1)) (Plan s l t.0 t.1) r is in
    subst (λ r. Tells record_words IsRecord (heading_text headings.Plan ∷ a ∷ b ∷ turns) r) k.1 (
      ap (λ ws. heading_text headings.Plan ∷ ws) (same_two a b (sheet_text s) l turns (turns_words t.0 t.1) sheet.0 place.0 h.text),
      ((sheet.1, place.1, h.numbers, h.names), (h.more, ltb-true 0 (length t.1) k.0)),
    )

pub plan_takes : (words : List (List ℕ)) (r : Record) → plan_of words ≡ Some r → Tells record_words IsRecord (heading_text headings.Plan ∷ words) r
unfolding plan_of plan_with
plan_takes [] r e = absurd cc
plan_takes (a ∷ []) r e = absurd cc
plan_takes (a ∷ b ∷ turns) r e =
    let s = and_then_some (sheet_of a) (λ s. option_and_then (λ l. option_and_then (λ t. cond (ltb 0 (length t.1)) (Some (Plan s l t.0 t.1)) None) (turns_of turns)) (name_of b)) r e in
    let l = and_then_some (name_of b) (λ l. option_and_then (λ t. cond (ltb 0 (length t.1)) (Some (Plan s.0 l t.0 t.1)) None) (turns_of turns)) r s.2 in
    let t = and_then_some (turns_of turns) (λ t. cond (ltb 0 (length t.1)) (Some (Plan s.0 l.0 t.0 t.1)) None) r l.2 in
    plan_made a b turns s.0 l.0 t.0 r t.2 (sheet_spells.takes a s.0 s.1) (name_spells.takes b l.0 l.1) (turns_take turns t.0 t.1)

pub plan_again : (sheet : SheetName) (place : List ℕ) (points : List ℕ) (acts : List (List ℕ)) → IsRecord (Plan sheet place points acts) → plan_of (sheet_text sheet ∷ place ∷ turns_words points acts) ≡ Some (Plan sheet place points acts)
unfolding plan_of plan_with
plan_again sheet place points acts ((s, l, numbers, names), (more, some)) =
    rw (sheet_spells.again sheet s, name_spells.again place l, turns_again points acts more numbers names, lt-ltb 0 (length acts) some) refl

-- ---- moves
move_made : (a : List ℕ) (words : List (List ℕ)) (s : SheetName) (points : List ℕ) (r : Record) → 1 < length words → Some (Move s points) ≡ Some r → (a ≡ sheet_text s) × IsSheet s → (words ≡ map decimal points) × AllByRecursion IsNumber points → Tells record_words IsRecord (heading_text headings.Move ∷ a ∷ words) r
move_made a words s points r two is sheet l =
    let many : length words ≡ length points = ap length l.0 ∙ length-map points decimal in
    subst (λ r. Tells record_words IsRecord (heading_text headings.Move ∷ a ∷ words) r) (same_Some (Move s points) r is)
    (same_after (heading_text headings.Move) a (sheet_text s) words (map decimal points) sheet.0 l.0, ((sheet.1, l.1), omega (arith, many, two)))
  where
    same_after : (h a a' : List ℕ) (ws ws' : List (List ℕ)) → a ≡ a' → ws ≡ ws' → h ∷ a ∷ ws ≡ h ∷ a' ∷ ws'
    same_after h a a' ws ws' i j = cc

pub move_takes : (words : List (List ℕ)) (r : Record) → move_of words ≡ Some r → Tells record_words IsRecord (heading_text headings.Move ∷ words) r
unfolding move_of move_with
move_takes [] r e = absurd cc
move_takes (a ∷ points) r e =
    let g = cond_some_of (ltb 1 (length points)) (option_and_then (λ s. option_and_then (λ ps. Some (Move s ps)) (each_read number_of points)) (sheet_of a)) r e in
    let s = and_then_some (sheet_of a) (λ s. option_and_then (λ ps. Some (Move s ps)) (each_read number_of points)) r g.1 in
    let p = and_then_some (each_read number_of points) (λ ps. Some (Move s.0 ps)) r s.2 in
    move_made a points s.0 p.0 r (ltb-true 1 (length points) g.0) p.2 (sheet_spells.takes a s.0 s.1) (list_takes number_spells points p.0 p.1)
  where
    cond_some_of : (b : Bool) (o : Option Record) (y : Record) → cond b o None ≡ Some y → (b ≡ true) × (o ≡ Some y)
    cond_some_of true o y e = (refl, e)
    cond_some_of false o y e = absurd cc

pub move_again : (sheet : SheetName) (points : List ℕ) → IsRecord (Move sheet points) → move_of (sheet_text sheet ∷ map decimal points) ≡ Some (Move sheet points)
unfolding move_of move_with
move_again sheet points ((s, numbers), two) =
    let many : length (map decimal points) ≡ length points = length-map points decimal in
    rw (many, lt-ltb 1 (length points) (omega arith), sheet_spells.again sheet s, list_again number_spells points numbers) refl

pub points_visible : (points : List ℕ) → AllByRecursion IsNumber points → AllVisible (map decimal points)
points_visible [] h = tt
points_visible (x ∷ points) h = (number_visible x h.0, points_visible points h.1)
