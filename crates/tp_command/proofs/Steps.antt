-- The library's walk over the words, word by word.
use Rattle.std.proofs.Common.{◌≡◌, ℕ, suc, Bool, true, false, ◌&&◌, eqb, List, [], ◌∷◌, length, codes, Option, Some, None, refl, sym, ap, subst, ◌∙◌, arith, slice_get}
use Rattle.std.specs.Str.{bytes_eq, chars, encode_utf8_all, IsUtf8}
use Rattle.std.proofs.lemmas.Str.{IsUtf8-drop, IsCharBoundary-after_ascii, chars_from_encodes}
use Rattle.clap.specs.Kinds.{Kinds, or_else}
use Rattle.clap.specs.Lexer.{long_of, short_of}
use Rattle.clap.specs.Walk.{Held, Row, after_step, long_or_other, used_by_id, Rule, Text, Waiting, Walk, idle, option, positional, settled_rows, walked}
use Rattle.clap.specs.Simple.{Shape, built}
use Rattle.clap.specs.Faults.{flag_word_fault, step_fault, settle_fault, turn_fault, flags_fault, bundle_step_fault}
use Rattle.clap.specs.declared.error.kind.ErrorKind.TheVariants as kind
use Rattle.tp_command.specs.Form.{is_option}
use Rattle.tp_command.specs.App.{printer, is_none}

abbrev pub top : Shape
top = (built printer).top

abbrev pub rules : List Rule
rules = top.rules

abbrev pub Pending : Type 0
Pending = Option (Text × List Text)

abbrev pub held : List Row → Pending → Held
held rows p = record { rows = rows; pending = p; skip = 0 }

abbrev pub at_walk : List Row → Pending → Waiting → Bool → Walk
at_walk rows p x b = record { held = held rows p; waiting = x; position = 1; is_trailing = b; stopped = None }

-- no option's value is awaited
abbrev pub IsIdle : Waiting → Type 0
IsIdle idle = Unit {0}
IsIdle (option id) = ⊥
IsIdle positional = Unit {0}

-- what is pending can be settled
abbrev pub Settles : List Row → Pending → Type 0
Settles rows p = settle_fault rules false (held rows p) ≡ []

-- ---- what a word looks like

pub record LooksPlain (w : Text) : Type 0 where
  pub ends : bytes_eq w (codes "--") ≡ false
  pub long : long_of w ≡ None
  pub short : short_of w ≡ None

pub looks_plain : (w : Text) → is_option w ≡ false → LooksPlain w
looks_plain [] h = record { ends = refl; long = refl; short = refl }
looks_plain (b ∷ []) h = go (eqb b 45) refl
  where
    go : (c : Bool) → eqb b 45 ≡ c → LooksPlain (b ∷ [])
    go true e = record { ends = rw e refl; long = rw e refl; short = rw e refl }
    go false e = record { ends = rw e refl; long = rw e refl; short = rw e refl }
looks_plain (b ∷ c ∷ w) h = go (eqb b 45) refl
  where
    go : (d : Bool) → eqb b 45 ≡ d → LooksPlain (b ∷ c ∷ w)
    go true e = absurd (let k : true ≡ false = rw e at h in cc)
    go false e = record { ends = rw e refl; long = rw e refl; short = rw e refl }

-- ---- one turn of the walk: what it finds wrong, and where the walk then stands

pub record Turns (w : Walk) (word : Text) (w' : Walk) : Type 0 where
  pub right : turn_fault top [] w word ≡ []
  pub next : walked rules [] w word ≡ w'

abbrev pub Fails : Walk → Text → Type 0
Fails w word = is_none (turn_fault top [] w word) ≡ false

and_false : (b : Bool) → (b && false) ≡ false
and_false true = refl
and_false false = refl

abbrev pub words_pending : Text → Pending
words_pending word = Some (codes "words", word ∷ [])

abbrev pub budget_pending : List Text → Pending
budget_pending words = Some (codes "budget", words)

-- a word that is no option, while options may come
pub plain_turns : (rows : List Row) (p : Pending) (x : Waiting) (word : Text) → IsIdle x → LooksPlain word → Settles rows p
    → Turns (at_walk rows p x false) word (at_walk (settled_rows rules p rows) (words_pending word) positional false)
unfolding walked
plain_turns rows p idle word i l h = record { right = rw (l.ends, l.long, l.short, and_false, h) refl; next = rw (l.ends, l.long, l.short, and_false) refl }
plain_turns rows p (option id) word i l h = absurd i
plain_turns rows p positional word i l h = record { right = rw (l.ends, l.long, l.short, and_false, h) refl; next = rw (l.ends, l.long, l.short, and_false) refl }

-- a word behind `--`
pub ended_turns : (rows : List Row) (p : Pending) (x : Waiting) (word : Text) → Settles rows p
    → Turns (at_walk rows p x true) word (at_walk (settled_rows rules p rows) (words_pending word) positional true)
unfolding walked
ended_turns rows p x word h = record { right = rw (and_false, h) refl; next = rw and_false refl }

-- the word after `--budget`
pub due_turns : (rows : List Row) (word : Text) → LooksPlain word
    → Turns (at_walk rows (budget_pending []) (option (codes "budget")) false) word (at_walk rows (budget_pending (word ∷ [])) idle false)
unfolding walked
due_turns rows word l = record { right = rw (l.ends, l.long, l.short) refl; next = rw (l.ends, l.long, l.short) refl }

-- `--`
pub end_turns : (rows : List Row) (p : Pending) (x : Waiting) → Turns (at_walk rows p x false) (codes "--") (at_walk rows p x true)
unfolding walked
end_turns rows p idle = record { right = refl; next = refl }
end_turns rows p (option id) = record { right = refl; next = refl }
end_turns rows p positional = record { right = refl; next = refl }

-- a word of two bytes or more that begins with `--`
abbrev pub long_word : ℕ → Text → Text
long_word b text = 45 ∷ 45 ∷ b ∷ text

abbrev pub flag_used : List Row → List Row
flag_used rows = used_by_id (slice_get rules 1) [] rows

abbrev pub budget_used : Text → List Row → List Row
budget_used n rows = used_by_id (slice_get rules 2) (n ∷ []) rows

-- a turn by the parts of a long option
abbrev fault_at : List Row → Pending → Waiting → Text → Option (Text × Option Text) → Kinds
fault_at rows p x word o = or_else (flag_word_fault rules false o word (held rows p)) (step_fault top 1 (long_or_other rules x word o (held rows p)).0 (long_or_other rules x word o (held rows p)).1)

abbrev walk_at : List Row → Pending → Waiting → Text → Option (Text × Option Text) → Walk
walk_at rows p x word o = after_step rules word (at_walk rows p x false) (long_or_other rules x word o (held rows p)).0 (long_or_other rules x word o (held rows p)).1

by_long : (P : Kinds → Type 0) (rows : List Row) (p : Pending) (x : Waiting) (b : ℕ) (text : Text) (o : Option (Text × Option Text)) → long_of (long_word b text) ≡ o
    → P (fault_at rows p x (long_word b text) o) → P (turn_fault top [] (at_walk rows p x false) (long_word b text))
by_long P rows p idle b text o cut h = subst (λ o. P (fault_at rows p idle (long_word b text) o)) (sym cut) h
by_long P rows p (option id) b text o cut h = subst (λ o. P (fault_at rows p (option id) (long_word b text) o)) (sym cut) h
by_long P rows p positional b text o cut h = subst (λ o. P (fault_at rows p positional (long_word b text) o)) (sym cut) h

next_long : (rows : List Row) (p : Pending) (x : Waiting) (b : ℕ) (text : Text) (o : Option (Text × Option Text)) → long_of (long_word b text) ≡ o
    → walked rules [] (at_walk rows p x false) (long_word b text) ≡ walk_at rows p x (long_word b text) o
unfolding walked
next_long rows p idle b text o cut = ap (walk_at rows p idle (long_word b text)) cut
next_long rows p (option id) b text o cut = ap (walk_at rows p (option id) (long_word b text)) cut
next_long rows p positional b text o cut = ap (walk_at rows p positional (long_word b text)) cut

abbrev IsNone : Kinds → Type 0
IsNone ks = ks ≡ []

abbrev IsSome' : Kinds → Type 0
IsSome' ks = is_none ks ≡ false

-- `--bounds`
pub bounds_turns : (rows : List Row) (p : Pending) (x : Waiting) (b : ℕ) (text name : Text) → Settles rows p → long_of (long_word b text) ≡ Some (name, None) → bytes_eq (codes "bounds") name ≡ true
    → Turns (at_walk rows p x false) (long_word b text) (at_walk (flag_used (settled_rows rules p rows)) None idle false)
bounds_turns rows p x b text name h cut is = record {
  right = by_long IsNone rows p x b text _ cut (rw (is, h) refl);
  next = next_long rows p x b text _ cut ∙ rw is refl;
}

-- `--budget`, whose N is the next word
pub budget_turns : (rows : List Row) (p : Pending) (x : Waiting) (b : ℕ) (text name : Text) → Settles rows p → long_of (long_word b text) ≡ Some (name, None) → bytes_eq (codes "bounds") name ≡ false
    → bytes_eq (codes "budget") name ≡ true → Turns (at_walk rows p x false) (long_word b text) (at_walk (settled_rows rules p rows) (budget_pending []) (option (codes "budget")) false)
budget_turns rows p x b text name h cut isnt is = record {
  right = by_long IsNone rows p x b text _ cut (rw (isnt, is, h) refl);
  next = next_long rows p x b text _ cut ∙ rw (isnt, is) refl;
}

-- `--budget=N`
pub value_turns : (rows : List Row) (p : Pending) (x : Waiting) (b : ℕ) (text name n : Text) → Settles rows p → long_of (long_word b text) ≡ Some (name, Some n) → bytes_eq (codes "bounds") name ≡ false
    → bytes_eq (codes "budget") name ≡ true → Turns (at_walk rows p x false) (long_word b text) (at_walk (budget_used n (settled_rows rules p rows)) None idle false)
value_turns rows p x b text name n h cut isnt is = record {
  right = by_long IsNone rows p x b text _ cut (rw (isnt, is, h) refl);
  next = next_long rows p x b text _ cut ∙ rw (isnt, is) refl;
}

-- ---- what fails

-- a long option that is unknown, or a flag with a value; whatever waits
pub unknown_fails : (rows : List Row) (p : Pending) (x : Waiting) (b : ℕ) (text name : Text) (value : Option Text) → long_of (long_word b text) ≡ Some (name, value)
    → bytes_eq (codes "bounds") name ≡ false → bytes_eq (codes "budget") name ≡ false → Fails (at_walk rows p x false) (long_word b text)
unknown_fails rows p x b text name value cut isnt nor = by_long IsSome' rows p x b text _ cut (rw (isnt, nor) refl)

pub valued_fails : (rows : List Row) (p : Pending) (x : Waiting) (b : ℕ) (text name n : Text) → long_of (long_word b text) ≡ Some (name, Some n)
    → bytes_eq (codes "bounds") name ≡ true → Fails (at_walk rows p x false) (long_word b text)
valued_fails rows p x b text name n cut is = by_long IsSome' rows p x b text _ cut (rw is refl)

-- an option where N is due
pub due_bounds_fails : (rows : List Row) (b : ℕ) (text name : Text) → long_of (long_word b text) ≡ Some (name, None) → bytes_eq (codes "bounds") name ≡ true
    → Fails (at_walk rows (budget_pending []) (option (codes "budget")) false) (long_word b text)
due_bounds_fails rows b text name cut is = by_long IsSome' rows (budget_pending []) (option (codes "budget")) b text _ cut (rw is refl)

pub due_budget_fails : (rows : List Row) (b : ℕ) (text name : Text) (value : Option Text) → long_of (long_word b text) ≡ Some (name, value) → bytes_eq (codes "bounds") name ≡ false
    → bytes_eq (codes "budget") name ≡ true → Fails (at_walk rows (budget_pending []) (option (codes "budget")) false) (long_word b text)
due_budget_fails rows b text name None cut isnt is = by_long IsSome' rows (budget_pending []) (option (codes "budget")) b text _ cut (rw (isnt, is) refl)
due_budget_fails rows b text name (Some n) cut isnt is = by_long IsSome' rows (budget_pending []) (option (codes "budget")) b text _ cut (rw (isnt, is) refl)

-- a word behind `--budget --`
pub doomed_fails : (rows : List Row) (x : Waiting) (word : Text) → Fails (at_walk rows (budget_pending []) x true) word
doomed_fails rows x word = refl

-- `-x`
first_char : (text : Text) (b : ℕ) → IsUtf8 (45 ∷ b ∷ text) → (c : ℕ) × (Some c ≡ slice_get (chars (b ∷ text)) 0)
first_char text b utf8 =
    let rest : IsUtf8 (b ∷ text) = IsUtf8-drop (45 ∷ b ∷ text) 1 utf8 (IsCharBoundary-after_ascii (45 ∷ b ∷ text) 0 utf8 (omega arith) (omega arith)) in
    go rest.0 rest.1.1 rest
  where
    go : (cs : List ℕ) → encode_utf8_all cs ≡ b ∷ text → IsUtf8 (b ∷ text) → (c : ℕ) × (Some c ≡ slice_get (chars (b ∷ text)) 0)
    go [] e rest = absurd (let k = ap length e in omega (arith, k))
    go (c ∷ cs) e rest = (c, ap (λ t. slice_get t 0) (chars_from_encodes (c ∷ cs) (b ∷ text) rest e))

short_flags : (k : ℕ) (flags : Text) (c : ℕ) (h : Held) → Some c ≡ slice_get (chars flags) 0 → flags_fault rules false (suc k) flags 0 h ≡ kind.UnknownArgument ∷ []
unfolding flags_fault
short_flags k flags c h first = ap (λ o. bundle_step_fault rules false o flags 0 h (flags_fault rules false k)) (sym first)

short_by : (rows : List Row) (p : Pending) (x : Waiting) (word flags : Text) → bytes_eq word (codes "--") ≡ false → long_of word ≡ None → short_of word ≡ Some flags
    → flags_fault rules false (length flags) flags 0 (held rows p) ≡ kind.UnknownArgument ∷ [] → Fails (at_walk rows p x false) word
short_by rows p idle word flags ends long short one = rw (ends, long, short, one) refl
short_by rows p (option id) word flags ends long short one = rw (ends, long, short, one) refl
short_by rows p positional word flags ends long short one = rw (ends, long, short, one) refl

pub short_fails : (rows : List Row) (p : Pending) (x : Waiting) (b : ℕ) (text : Text) → IsUtf8 (45 ∷ b ∷ text) → eqb b 45 ≡ false → Fails (at_walk rows p x false) (45 ∷ b ∷ text)
short_fails rows p x b text utf8 other =
    let first = first_char text b utf8 in
    short_by rows p x (45 ∷ b ∷ text) (b ∷ text) (rw other refl) (rw other refl) (rw other refl) (short_flags (length text) (b ∷ text) first.0 (held rows p) first.1)
