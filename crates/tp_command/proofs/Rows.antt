-- The values that the library keeps, after one more.
use Rattle.std.proofs.Common.{◌≡◌, Bool, cond, true, false, List, [], ◌∷◌, ◌++◌, codes, refl, subst, length-append, inl, inr}
use Rattle.std.specs.Str.{bytes_eq}
use Rattle.std.proofs.lemmas.Bool.{cases_Bool}
use Rattle.std.proofs.lemmas.Slice.Eq.{bytes_eq-Decides}
use Rattle.clap.specs.Walk.{Row, Text, with_values}
use Rattle.clap.specs.declared.builder.value_parser.Reading.{Reading}
use Rattle.clap.specs.declared.parser.matches.ValueSource.{ValueSource}
use Rattle.tp_command.specs.Form.{with_place, with_bounds, with_budget}
use Rattle.tp_command.specs.App.{told_in, values_of}
use Rattle.tp_command.proofs.Steps.{budget_used, flag_used, rules, words_pending}
use Rattle.clap.specs.Walk.{settled_rows}

same_text : (a b : Text) → bytes_eq a b ≡ true → a ≡ b
same_text a b e = (bytes_eq-Decides a b).0 e

-- the values of any id after some more of one
values_with : (id other : Text) (how : Reading) (s : ValueSource) (values : List Text) (rows : List Row)
    → values_of other (with_values id how s values rows) ≡ cond (bytes_eq id other) (values_of other rows ++ values) (values_of other rows)
values_with id other how s values [] = go (bytes_eq id other)
  where
    go : (b : Bool) → cond b values [] ≡ cond b ([] ++ values) []
    go true = refl
    go false = refl
values_with id other how s values (r ∷ rows) =
    elim (cases_Bool (bytes_eq r.id id)) [
      | inl e ↦ rw (e, same_text r.id id e) (go (bytes_eq id other))
      | inr e ↦ rw e (other_row e (values_with id other how s values rows))
    ]
  where
    go : (b : Bool) → cond b (r.values ++ values) (values_of other rows) ≡ cond b (cond b r.values (values_of other rows) ++ values) (cond b r.values (values_of other rows))
    go true = refl
    go false = refl

    other_row : bytes_eq r.id id ≡ false → values_of other (with_values id how s values rows) ≡ cond (bytes_eq id other) (values_of other rows ++ values) (values_of other rows)
        → cond (bytes_eq r.id other) r.values (values_of other (with_values id how s values rows))
        ≡ cond (bytes_eq id other) (cond (bytes_eq r.id other) r.values (values_of other rows) ++ values) (cond (bytes_eq r.id other) r.values (values_of other rows))
    other_row e ih = elim (cases_Bool (bytes_eq id other)) [
      | inl same ↦
          let apart : bytes_eq r.id other ≡ false = subst (λ t. bytes_eq r.id t ≡ false) (same_text id other same) e in
          rw (apart, ih, same) refl
      | inr differ ↦ rw (ih, differ) refl
    ]

pub told_place : (w : Text) (rows : List Row) → told_in (settled_rows rules (words_pending w) rows) ≡ with_place w (told_in rows)
told_place w rows = rw (values_with (codes "words") (codes "words") _ _ (w ∷ []) rows, values_with (codes "words") (codes "bounds") _ _ (w ∷ []) rows, values_with (codes "words") (codes "budget") _ _ (w ∷ []) rows) refl

pub told_budget : (n : Text) (rows : List Row) → told_in (budget_used n rows) ≡ with_budget n (told_in rows)
told_budget n rows = rw (values_with (codes "budget") (codes "words") _ _ (n ∷ []) rows, values_with (codes "budget") (codes "bounds") _ _ (n ∷ []) rows, values_with (codes "budget") (codes "budget") _ _ (n ∷ []) rows) refl

pub told_flag : (rows : List Row) → told_in (flag_used rows) ≡ with_bounds (told_in rows)
told_flag rows =
    rw (
      values_with (codes "bounds") (codes "words") _ _ (codes "set" ∷ []) rows,
      values_with (codes "bounds") (codes "bounds") _ _ (codes "set" ∷ []) rows,
      values_with (codes "bounds") (codes "budget") _ _ (codes "set" ∷ []) rows,
      length-append (values_of (codes "bounds") rows) (codes "set" ∷ []),
    ) refl
