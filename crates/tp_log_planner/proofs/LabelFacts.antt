-- Labels tell copies apart where plans of different jobs have different names, and an item moves the plan of its label.
use Rattle.std.proofs.Common.{◌≡◌, ℕ, ◌&&◌, ◌==◌, Bool, true, false, not, List, [], ◌∷◌, length, refl, sym, ap, subst, Contains, Some, None, if◌then◌else◌, eqb-true, eq-eqb}
use Rattle.std.specs.Str.{bytes_eq}
use Rattle.std.proofs.lemmas.Option.{same_Some}
use Rattle.std.proofs.lemmas.Slice.Eq.{bytes_eq-Decides}
use Rattle.tp_log.specs.declared.item.Item.{Item}
use Rattle.tp_log.specs.declared.item.Item.TheVariants.{Event, Note, Tree}
use Rattle.tp_schedule.specs.Answers.{unmoved}
use Rattle.tp_schedule.specs.Plans.{AreNamed, is_before, is_same_copy, with_points}
use Rattle.tp_schedule.specs.declared.parts.Plan.{Plan}
use Rattle.tp_schedule.specs.declared.records.Record.{Record}
use Rattle.tp_schedule.specs.declared.records.Record.TheVariants.{Move}
use Rattle.tp_schedule.specs.declared.records.SheetName.{SheetName}
use Rattle.tp_schedule.proofs.CopyFacts.{before-not_same, same_copy-refl}
use Rattle.tp_event_rules.specs.AnswerRecords.{label_of_plan}
use Rattle.tp_log_planner.specs.ToldMoves.{is_same_label, moved_by, moved_points}

pub and-first : (a b : Bool) → (a && b) ≡ true → a ≡ true
and-first true b e = refl
and-first false b e = e

pub and-second : (a b : Bool) → (a && b) ≡ true → b ≡ true
and-second true b e = e
and-second false b e = absurd cc

pub is-label : (a b : SheetName) → is_same_label a b ≡ true → a ≡ b
is-label a b e =
    let rest = and-second (bytes_eq a.job b.job) ((a.number == b.number) && (a.copy == b.copy)) e in
    let job : a.job ≡ b.job = (bytes_eq-Decides a.job b.job).0 (and-first (bytes_eq a.job b.job) ((a.number == b.number) && (a.copy == b.copy)) e) in
    let number : a.number ≡ b.number = eqb-true a.number b.number (and-first (a.number == b.number) (a.copy == b.copy) rest) in
    let copy : a.copy ≡ b.copy = eqb-true a.copy b.copy (and-second (a.number == b.number) (a.copy == b.copy) rest) in
    λ i. record { job = job i; number = number i; copy = copy i }

pub label-is-same : (a : SheetName) → is_same_label a a ≡ true
label-is-same a =
    let job : bytes_eq a.job a.job ≡ true = (bytes_eq-Decides a.job a.job).1 refl in
    rw (job, eq-eqb a.number a.number refl, eq-eqb a.copy a.copy refl) refl

pub label-same : (p q : Plan) → unmoved q ≡ unmoved p → label_of_plan q ≡ label_of_plan p
label-same p q same = ap (λ x. label_of_plan x) same

-- a plan that is the same but for its points is the other with these
pub moved-is : (p q : Plan) (points : List ℕ) → unmoved q ≡ unmoved p → q.points ≡ points → q ≡ with_points points p
moved-is p q points same e = λ i. record {
  sheet = (same i).sheet;
  name = (same i).name;
  want = (same i).want;
  goal = (same i).goal;
  kind = (same i).kind;
  acts = (same i).acts;
  points = e i;
  released = (same i).released;
}

-- an earlier copy has another label
pub labels-differ : (plans : List Plan) (p q : Plan) → AreNamed plans → Contains plans p → Contains plans q → is_before p.sheet q.sheet ≡ true → label_of_plan p ≡ label_of_plan q → ⊥
labels-differ plans p q named in' in'' before same =
    let name : p.name ≡ q.name = ap (λ (l : SheetName). l.job) same in
    let number : p.sheet.number ≡ q.sheet.number = ap (λ (l : SheetName). l.number) same in
    let copy : p.sheet.copy ≡ q.sheet.copy = ap (λ (l : SheetName). l.copy) same in
    let job : p.sheet.job ≡ q.sheet.job = named p q in' in'' name in
    let sheet : q.sheet ≡ p.sheet = λ i. record { job = sym job i; number = sym number i; copy = sym copy i } in
    let not-same : is_same_copy p.sheet p.sheet ≡ false = subst (λ c. is_same_copy p.sheet c ≡ false) sheet (before-not_same p.sheet q.sheet before) in
    let same' : is_same_copy p.sheet p.sheet ≡ true = same_copy-refl p.sheet in
    absurd cc

-- ---- the plan is moved by the first item
pub record Moved (p : Plan) (items : List Item) (points : List ℕ) : Type 0 where
  pub later : List Item
  pub is : items ≡ Note (Move (label_of_plan p) points) ∷ later
  pub long : length points ≡ length p.points
  pub differ : bytes_eq p.points points ≡ false

by-move : (p : Plan) (sheet : SheetName) (ticks points : List ℕ) (later : List Item) (b c d : Bool) → is_same_label sheet (label_of_plan p) ≡ b → (length ticks == length p.points) ≡ c → bytes_eq p.points ticks ≡ d
    → (if b then (if c && not d then Some ticks else None) else None) ≡ Some points → Moved p (Note (Move sheet ticks) ∷ later) points
by-move p sheet ticks points later true true false e f g is =
    let same : ticks ≡ points = same_Some ticks points is in
    record {
      later = later;
      is = λ i. Note (Move (is-label sheet (label_of_plan p) e i) (same i)) ∷ later;
      long = subst (λ xs. length xs ≡ length p.points) same (eqb-true (length ticks) (length p.points) f);
      differ = subst (λ xs. bytes_eq p.points xs ≡ false) same g;
    }
by-move p sheet ticks points later true true true e f g is = absurd cc
by-move p sheet ticks points later true false d e f g is = absurd cc
by-move p sheet ticks points later false c d e f g is = absurd cc

pub moved-some : (p : Plan) (items : List Item) (points : List ℕ) → moved_points p items ≡ Some points → Moved p items points
moved-some p [] points e = absurd cc
moved-some p (Event event ∷ items) points e = absurd cc
moved-some p (Tree tree ∷ items) points e = absurd cc
moved-some p (Note record' ∷ items) points e = by-record record' e where
  by-record : (r : Record) → moved_by p (Note r) ≡ Some points → Moved p (Note r ∷ items) points
  by-record (Move sheet ticks) is = by-move p sheet ticks points items (is_same_label sheet (label_of_plan p)) (length ticks == length p.points) (bytes_eq p.points ticks) refl refl refl is
  by-record r is = absurd cc

pub moved-here : (p : Plan) (points : List ℕ) (later : List Item) → length points ≡ length p.points → bytes_eq p.points points ≡ false → moved_points p (Note (Move (label_of_plan p) points) ∷ later) ≡ Some points
moved-here p points later long differ = rw (label-is-same (label_of_plan p), eq-eqb (length points) (length p.points) long, differ) refl
