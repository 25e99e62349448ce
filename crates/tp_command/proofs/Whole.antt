-- The whole walk tells what the form says.
use Rattle.std.proofs.Common.{◌≡◌, ℕ, Bool, cond, true, false, ◌||◌, eqb, List, [], ◌∷◌, fold, codes, Option, Some, None, option_and_then, option_map, find, map, String, string_bytes, refl, sym, ap, ap₂, subst, ◌∙◌, inl, inr}
use Rattle.std.specs.Str.{bytes_eq, IsUtf8}
use Rattle.std.proofs.lemmas.Bool.{cases_Bool, eqb-true}
use Rattle.std.proofs.lemmas.Str.{IsUtf8-string_bytes}
use Rattle.clap.specs.Words.{fault_of, matches_of}
use Rattle.clap.specs.Kinds.{Kinds, or_else}
use Rattle.clap.specs.Lexer.{long_of}
use Rattle.clap.specs.Walk.{Held, Row, Rule, Text, Waiting, Walk, idle, option, positional, finished, settled, settled_rows, walked, with_default, nothing_held}
use Rattle.clap.specs.Simple.{built}
use Rattle.clap.specs.Faults.{settle_fault, turn_fault, walk_fault, defaults_fault, default_fault, check_fault}
use Rattle.clap.proofs.FaultLemmas.{leaf_fault}
use Rattle.tp_command.specs.Form.{Told, Stage, asked_by, form, told_by, nothing_told, named_step, step, is_option, with_place, with_budget}
use Rattle.tp_command.specs.Form.Stage.{free, due, ended}
use Rattle.tp_command.specs.App.{asked_in, printer, is_none, told_in, told_of, values_in, values_of, values_or_none}
use Rattle.tp_command.proofs.Steps.{Fails, IsIdle, Pending, Settles, Turns, at_walk, bounds_turns, budget_pending, budget_turns, budget_used, doomed_fails, due_bounds_fails, due_budget_fails, due_turns, end_turns, ended_turns, flag_used, long_word, looks_plain, plain_turns, rules, short_fails, top, unknown_fails, value_turns, valued_fails, words_pending}
use Rattle.tp_command.proofs.Rows.{told_budget, told_flag, told_place}

abbrev end_fault : Held → Kinds
end_fault h = or_else (settle_fault rules false h) (or_else (defaults_fault (settled rules h).rows rules) (check_fault top (finished rules h) false))

abbrev outcome_by : Kinds → Walk → List Text → Option Told
outcome_by ks w words = cond (is_none (or_else (or_else ks (walk_fault top [] w words)) (end_fault (fold (walked rules []) w words).held))) (Some (told_in (finished rules (fold (walked rules []) w words).held))) None

abbrev outcome : Walk → List Text → Option Told
outcome = outcome_by []

goes_on : (w w' : Walk) (word : Text) (words : List Text) → Turns w word w' → outcome w (word ∷ words) ≡ outcome w' words
unfolding walk_fault
goes_on w w' word words h = ap₂ (λ ks w'. outcome_by ks w' words) h.right h.next

none_after : (a b c : Kinds) (o : Option Told) → is_none a ≡ false → cond (is_none (or_else (or_else a b) c)) o None ≡ None
none_after [] b c o h = absurd cc
none_after (k ∷ ks) b c o h = refl

fails : (w : Walk) (word : Text) (words : List Text) → Fails w word → outcome w (word ∷ words) ≡ None
unfolding walk_fault
fails w word words h = none_after (turn_fault top [] w word) _ _ _ h

-- ---- the end

abbrev NoDefaults : List Rule → Type 0
NoDefaults [] = Unit {0}
NoDefaults (a ∷ more) = (a.defaults ≡ []) × NoDefaults more

or_true : (b : Bool) → (b || true) ≡ true
or_true true = refl
or_true false = refl

same_cond : {X : Type 0} (b : Bool) (x : X) → cond b x x ≡ x
same_cond true x = refl
same_cond false x = refl

no_default : (rows : List Row) (a : Rule) → a.defaults ≡ [] → default_fault rows a ≡ []
no_default rows a e = rw (e, or_true) refl

stays : (rows : List Row) (a : Rule) → a.defaults ≡ [] → with_default rows a ≡ rows
stays rows a e = rw (e, same_cond) refl

no_defaults : (rows : List Row) (more : List Rule) → NoDefaults more → defaults_fault rows more ≡ []
unfolding defaults_fault
no_defaults rows [] h = refl
no_defaults rows (a ∷ more) h = rw (no_default rows a h.0, stays rows a h.0) (no_defaults rows more h.1)

all_stay : (rows : List Row) (more : List Rule) → NoDefaults more → fold with_default rows more ≡ rows
all_stay rows [] h = refl
all_stay rows (a ∷ more) h = rw (stays rows a h.0) (all_stay rows more h.1)

ends : (rows : List Row) (p : Pending) (x : Waiting) (b : Bool) → Settles rows p → outcome (at_walk rows p x b) [] ≡ Some (told_in (settled_rows rules p rows))
unfolding walk_fault
ends rows p x b h = rw (h, no_defaults (settled_rows rules p rows) rules (refl, (refl, (refl, tt))), all_stay (settled_rows rules p rows) rules (refl, (refl, (refl, tt)))) refl

due_ends : (rows : List Row) (x : Waiting) (b : Bool) → outcome (at_walk rows (budget_pending []) x b) [] ≡ None
unfolding walk_fault
due_ends rows x b = refl

-- ---- all words

abbrev AllUtf8 : List Text → Type 0
AllUtf8 [] = Unit {0}
AllUtf8 (w ∷ words) = IsUtf8 w × AllUtf8 words

abbrev EndedClaim : List Text → Type 0
EndedClaim words = (rows : List Row) (p : Pending) (x : Waiting) → Settles rows p → outcome (at_walk rows p x true) words ≡ told_by ended (told_in (settled_rows rules p rows)) words

abbrev FreeClaim : List Text → Type 0
FreeClaim words = (rows : List Row) (p : Pending) (x : Waiting) → IsIdle x → Settles rows p
    → outcome (at_walk rows p x false) words ≡ told_by free (told_in (settled_rows rules p rows)) words

abbrev DueClaim : List Text → Type 0
DueClaim words = (rows : List Row) → outcome (at_walk rows (budget_pending []) (option (codes "budget")) false) words ≡ told_by due (told_in rows) words

-- behind `--`
ended_claim : (words : List Text) → EndedClaim words
ended_claim [] rows p x h = ends rows p x true h
ended_claim (w ∷ words) rows p x h =
    goes_on _ _ w words (ended_turns rows p x w h) ∙ ended_claim words (settled_rows rules p rows) (words_pending w) positional refl
    ∙ ap (λ t. told_by ended t words) (told_place w (settled_rows rules p rows))

-- behind `--budget --`
doomed : (words : List Text) (rows : List Row) (x : Waiting) → outcome (at_walk rows (budget_pending []) x true) words ≡ None
doomed [] rows x = due_ends rows x true
doomed (w ∷ words) rows x = fails _ w words (doomed_fails rows x w)

module _ (words : List Text) (f : FreeClaim words) (d : DueClaim words) where
  plain_free : (w : Text) (rows : List Row) (p : Pending) (x : Waiting) → is_option w ≡ false → IsIdle x → Settles rows p
      → outcome (at_walk rows p x false) (w ∷ words) ≡ told_by free (with_place w (told_in (settled_rows rules p rows))) words
  plain_free w rows p x plain i h =
      goes_on _ _ w words (plain_turns rows p x w i (looks_plain w plain) h) ∙ f (settled_rows rules p rows) (words_pending w) positional tt refl
      ∙ ap (λ t. told_by free t words) (told_place w (settled_rows rules p rows))

  plain_due : (w : Text) (rows : List Row) → is_option w ≡ false
      → outcome (at_walk rows (budget_pending []) (option (codes "budget")) false) (w ∷ words) ≡ told_by free (with_budget w (told_in rows)) words
  plain_due w rows plain =
      goes_on _ _ w words (due_turns rows w (looks_plain w plain)) ∙ f rows (budget_pending (w ∷ [])) idle tt refl
      ∙ ap (λ t. told_by free t words) (told_budget w rows)

  abbrev then_told : Option (Stage × Told) → Option Told
  then_told = option_and_then (λ p. told_by p.0 p.1 words)

  long_free : (b : ℕ) (text name : Text) (value : Option Text) (rows : List Row) (p : Pending) (x : Waiting) → long_of (long_word b text) ≡ Some (name, value) → IsIdle x → Settles rows p
      → outcome (at_walk rows p x false) (long_word b text ∷ words) ≡ then_told (named_step (told_in (settled_rows rules p rows)) name value)
  long_free b text name None rows p x cut i h =
      elim (cases_Bool (bytes_eq (codes "bounds") name)) [
        | inl is ↦ rw is (goes_on _ _ _ words (bounds_turns rows p x b text name h cut is) ∙ f (flag_used (settled_rows rules p rows)) None idle tt refl
            ∙ ap (λ t. told_by free t words) (told_flag (settled_rows rules p rows)))
        | inr isnt ↦ elim (cases_Bool (bytes_eq (codes "budget") name)) [
          | inl is ↦ rw (isnt, is) (goes_on _ _ _ words (budget_turns rows p x b text name h cut isnt is) ∙ d (settled_rows rules p rows))
          | inr nor ↦ rw (isnt, nor) (fails _ _ words (unknown_fails rows p x b text name None cut isnt nor))
        ]
      ]
  long_free b text name (Some n) rows p x cut i h =
      elim (cases_Bool (bytes_eq (codes "bounds") name)) [
        | inl is ↦ rw is (fails _ _ words (valued_fails rows p x b text name n cut is))
        | inr isnt ↦ elim (cases_Bool (bytes_eq (codes "budget") name)) [
          | inl is ↦ rw (isnt, is) (goes_on _ _ _ words (value_turns rows p x b text name n h cut isnt is) ∙ f (budget_used n (settled_rows rules p rows)) None idle tt refl
              ∙ ap (λ t. told_by free t words) (told_budget n (settled_rows rules p rows)))
          | inr nor ↦ rw (isnt, nor) (fails _ _ words (unknown_fails rows p x b text name (Some n) cut isnt nor))
        ]
      ]

  long_due : (b : ℕ) (text name : Text) (value : Option Text) (rows : List Row) → long_of (long_word b text) ≡ Some (name, value)
      → outcome (at_walk rows (budget_pending []) (option (codes "budget")) false) (long_word b text ∷ words) ≡ None
  long_due b text name value rows cut =
      elim (cases_Bool (bytes_eq (codes "bounds") name)) [
        | inl is ↦ flag value cut is
        | inr isnt ↦ elim (cases_Bool (bytes_eq (codes "budget") name)) [
          | inl is ↦ fails _ _ words (due_budget_fails rows b text name value cut isnt is)
          | inr nor ↦ fails _ _ words (unknown_fails rows (budget_pending []) (option (codes "budget")) b text name value cut isnt nor)
        ]
      ]
    where
      flag : (value : Option Text) → long_of (long_word b text) ≡ Some (name, value) → bytes_eq (codes "bounds") name ≡ true
          → outcome (at_walk rows (budget_pending []) (option (codes "budget")) false) (long_word b text ∷ words) ≡ None
      flag None cut is = fails _ _ words (due_bounds_fails rows b text name cut is)
      flag (Some n) cut is = fails _ _ words (valued_fails rows (budget_pending []) (option (codes "budget")) b text name n cut is)

  -- two hyphens
  double_free : (text : Text) (rows : List Row) (p : Pending) (x : Waiting) → IsIdle x → Settles rows p
      → outcome (at_walk rows p x false) ((45 ∷ 45 ∷ text) ∷ words) ≡ then_told (step free (told_in (settled_rows rules p rows)) (45 ∷ 45 ∷ text))
  double_free [] rows p x i h = goes_on _ _ _ words (end_turns rows p x) ∙ ended_claim words rows p x h
  double_free (b ∷ text) rows p x i h = long_free b text _ _ rows p x refl i h

  double_due : (text : Text) (rows : List Row) → outcome (at_walk rows (budget_pending []) (option (codes "budget")) false) ((45 ∷ 45 ∷ text) ∷ words) ≡ None
  double_due [] rows = goes_on _ _ _ words (end_turns rows (budget_pending []) (option (codes "budget"))) ∙ doomed words rows (option (codes "budget"))
  double_due (b ∷ text) rows = long_due b text _ _ rows refl

  -- one hyphen, and something more
  option_free : (b : ℕ) (text : Text) (rows : List Row) (p : Pending) (x : Waiting) → IsUtf8 (45 ∷ b ∷ text) → IsIdle x → Settles rows p
      → outcome (at_walk rows p x false) ((45 ∷ b ∷ text) ∷ words) ≡ then_told (step free (told_in (settled_rows rules p rows)) (45 ∷ b ∷ text))
  option_free b text rows p x utf8 i h =
      elim (cases_Bool (eqb b 45)) [
        | inl is ↦ subst (λ b. outcome (at_walk rows p x false) ((45 ∷ b ∷ text) ∷ words) ≡ then_told (step free (told_in (settled_rows rules p rows)) (45 ∷ b ∷ text)))
            (sym (eqb-true b 45 is)) (double_free text rows p x i h)
        | inr isnt ↦ fails _ _ words (short_fails rows p x b text utf8 isnt) ∙ rw isnt refl
      ]

  option_due : (b : ℕ) (text : Text) (rows : List Row) → IsUtf8 (45 ∷ b ∷ text) → outcome (at_walk rows (budget_pending []) (option (codes "budget")) false) ((45 ∷ b ∷ text) ∷ words) ≡ None
  option_due b text rows utf8 =
      elim (cases_Bool (eqb b 45)) [
        | inl is ↦ subst (λ b. outcome (at_walk rows (budget_pending []) (option (codes "budget")) false) ((45 ∷ b ∷ text) ∷ words) ≡ None) (sym (eqb-true b 45 is)) (double_due text rows)
        | inr isnt ↦ fails _ _ words (short_fails rows (budget_pending []) (option (codes "budget")) b text utf8 isnt)
      ]

  one_free : (w : Text) → IsUtf8 w → FreeClaim (w ∷ words)
  one_free [] utf8 rows p x i h = plain_free [] rows p x refl i h
  one_free (a ∷ []) utf8 rows p x i h = plain_free (a ∷ []) rows p x refl i h
  one_free (a ∷ b ∷ text) utf8 rows p x i h =
      elim (cases_Bool (eqb a 45)) [
        | inl is ↦ subst (λ a. IsUtf8 (a ∷ b ∷ text) → outcome (at_walk rows p x false) ((a ∷ b ∷ text) ∷ words) ≡ then_told (step free (told_in (settled_rows rules p rows)) (a ∷ b ∷ text)))
            (sym (eqb-true a 45 is)) (λ utf8. option_free b text rows p x utf8 i h) utf8
        | inr isnt ↦ plain_free (a ∷ b ∷ text) rows p x isnt i h ∙ rw isnt refl
      ]

  one_due : (w : Text) → IsUtf8 w → DueClaim (w ∷ words)
  one_due [] utf8 rows = plain_due [] rows refl
  one_due (a ∷ []) utf8 rows = plain_due (a ∷ []) rows refl
  one_due (a ∷ b ∷ text) utf8 rows =
      elim (cases_Bool (eqb a 45)) [
        | inl is ↦ subst (λ a. IsUtf8 (a ∷ b ∷ text) → outcome (at_walk rows (budget_pending []) (option (codes "budget")) false) ((a ∷ b ∷ text) ∷ words) ≡ None)
            (sym (eqb-true a 45 is)) (λ utf8. option_due b text rows utf8) utf8 ∙ rw is refl
        | inr isnt ↦ plain_due (a ∷ b ∷ text) rows isnt ∙ rw isnt refl
      ]

claims : (words : List Text) → AllUtf8 words → FreeClaim words × DueClaim words
claims [] u = (λ rows p x i h. ends rows p x false h, λ rows. due_ends rows (option (codes "budget")) false)
claims (w ∷ words) u =
    let (f, d) = claims words u.1 in
    (one_free words f d w u.0, one_due words f d w u.0)

-- the library tells of the words what the form says
pub same_told : (words : List Text) → AllUtf8 words → told_of words ≡ told_by free nothing_told words
same_told words u = by_outcome ∙ (claims words u).0 [] None idle tt refl
  where
    by_outcome : told_of words ≡ outcome (at_walk [] None idle false) words
    by_outcome = ap (λ ks. cond (is_none ks) (Some (told_in (matches_of printer words))) None) (leaf_fault (built printer) nothing_held words refl)

-- ---- and so do the rows

all_utf8 : {Z : Type 0} (words : List (String Z)) → AllUtf8 (map string_bytes words)
all_utf8 [] = tt
all_utf8 (w ∷ words) = (IsUtf8-string_bytes w, all_utf8 words)

same_values : (id : Text) (rows : List Row) → values_of id rows ≡ values_or_none (values_in id rows)
same_values id [] = refl
same_values id (r ∷ rows) = go (bytes_eq r.id id) (same_values id rows)
  where
    go : (b : Bool) → values_of id rows ≡ values_or_none (values_in id rows)
        → cond b r.values (values_of id rows) ≡ values_or_none (option_map (λ r. r.values) (cond b (Some r) (find (λ r. bytes_eq r.id id) rows)))
    go true e = refl
    go false e = e

same_asked : (rows : List Row) → asked_by (told_in rows) ≡ asked_in rows
same_asked rows = rw (same_values (codes "words") rows, same_values (codes "bounds") rows, same_values (codes "budget") rows) refl

pub form_taken : {Z : Type 0} (words : List (String Z)) → fault_of printer (map string_bytes words) ≡ [] → form (map string_bytes words) ≡ asked_in (matches_of printer (map string_bytes words))
form_taken words none =
    ap (option_and_then asked_by) (sym (same_told (map string_bytes words) (all_utf8 words)))
    ∙ ap (λ ks. option_and_then asked_by (cond (is_none ks) (Some (told_in (matches_of printer (map string_bytes words)))) None)) none
    ∙ same_asked (matches_of printer (map string_bytes words))

pub form_refused : {Z : Type 0} (words : List (String Z)) → ¬ (fault_of printer (map string_bytes words) ≡ []) → form (map string_bytes words) ≡ None
form_refused words some =
    ap (option_and_then asked_by) (sym (same_told (map string_bytes words) (all_utf8 words)))
    ∙ go (fault_of printer (map string_bytes words)) some
  where
    go : (ks : Kinds) → ¬ (ks ≡ []) → option_and_then asked_by (cond (is_none ks) (Some (told_in (matches_of printer (map string_bytes words)))) None) ≡ None
    go [] h = absurd (h refl)
    go (k ∷ ks) h = refl
