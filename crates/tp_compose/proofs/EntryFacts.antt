-- Names as numbers, and the entries of a table of feeders.
use Rattle.std.proofs.Common.{◌≡◌, inl, inr, ℕ, suc, Bool, true, false, ◌||◌, ◌==◌, cond, List, [], ◌∷◌, map, refl, ap, sym, ◌∙◌, arith}
use Rattle.std.specs.Str.{bytes_eq}
use Rattle.std.proofs.lemmas.Bool.Decides.{nat_tests}
use Rattle.toml.specs.Data.{Data, string, integer, float, boolean, datetime, array, table, Members, no_members, member}
use Rattle.tp_machine.specs.declared.parts.Feeder.{Feeder}
use Rattle.tp_machine_text.specs.Words.{keys_of, data_of, text_of, is_name, is_among}
use Rattle.tp_machine_text.specs.TheMachine.{place_in, loc_of, feeders_of}
use Rattle.tp_compose.specs.Racks.{entries, location_by}
use Rattle.tp_compose.specs.Flat.{placed_feeders}
use Rattle.tp_compose.proofs.Lists.{In}
use Rattle.tp_compose.proofs.Puts.{same_bytes}

-- ---- one place of names, one name

same_name : (names : List (List ℕ)) (a b : List ℕ) → is_among names a ≡ true → is_among names b ≡ true → place_in names a ≡ place_in names b → a ≡ b
same_name [] a b in_a in_b same = cc
same_name (n ∷ names) a b in_a in_b same = cases (bytes_eq a n) (bytes_eq b n) refl refl in_a in_b same (same_name names a b) where
  cases : (s t : Bool) → bytes_eq a n ≡ s → bytes_eq b n ≡ t → (s || is_among names a) ≡ true → (t || is_among names b) ≡ true → cond s 0 (suc (place_in names a)) ≡ cond t 0 (suc (place_in names b))
      → (is_among names a ≡ true → is_among names b ≡ true → place_in names a ≡ place_in names b → a ≡ b) → a ≡ b
  cases true true e f in_a in_b same rest = same_bytes a n e ∙ sym (same_bytes b n f)
  cases true false e f in_a in_b same rest = absurd (omega arith)
  cases false true e f in_a in_b same rest = absurd (omega arith)
  cases false false e f in_a in_b same rest = rest in_a in_b (omega arith)

pub loc_name : (names : List (List ℕ)) (a b : List ℕ) → is_among names a ≡ true → is_among names b ≡ true → loc_of names a ≡ loc_of names b → a ≡ b
loc_name names a b in_a in_b same = same_name names a b in_a in_b (ap (λ l. l.0) same)

pub equal_test : (n : ℕ) → (n == n) ≡ true
equal_test n = grind (arith, nat_tests)

pub test_equal : (n k : ℕ) → (n == k) ≡ true → n ≡ k
test_equal n k test = grind (arith, nat_tests)

-- ---- keys and values

pub entry_key : (ms : Members) (k : List ℕ) (d : Data) → In (entries ms) (k, d) → In (keys_of ms) k
entry_key no_members k d within = elim within [ ]
entry_key (member l e ms) k d (inl same) = inl (λ i. (same i).0)
entry_key (member l e ms) k d (inr rest) = inr (entry_key ms k d rest)

pub entry_data : (ms : Members) (k : List ℕ) (d : Data) → In (entries ms) (k, d) → In (data_of ms) d
entry_data no_members k d within = elim within [ ]
entry_data (member l e ms) k d (inl same) = inl (λ i. (same i).1)
entry_data (member l e ms) k d (inr rest) = inr (entry_data ms k d rest)

pub name_text : (d : Data) → is_name d ≡ true → d ≡ string (text_of d)
name_text (string text) test = refl
name_text (integer z) test = cc
name_text (float x) test = cc
name_text (boolean b) test = cc
name_text (datetime t) test = cc
name_text (array ds) test = cc
name_text (table ms) test = cc

pub placed_keys : (own firsts ms : Members) → map (λ e. e.0) (placed_feeders own firsts ms) ≡ map (location_by own firsts) (keys_of ms)
placed_keys own firsts no_members = refl
placed_keys own firsts (member k d ms) = ap (λ t. location_by own firsts k ∷ t) (placed_keys own firsts ms)

-- a feeder of the machine is an entry of its table
pub record IsEntry (names : List (List ℕ)) (f : Feeder) (k : List ℕ) (d : Data) : Type 0 where
  pub loc : f.loc ≡ loc_of names k
  pub media : f.media ≡ text_of d

pub feeder_entry : (names : List (List ℕ)) (stocks ms : Members) (f : Feeder) → In (feeders_of names stocks ms) f → (e : List ℕ × Data) × In (entries ms) e × IsEntry names f e.0 e.1
feeder_entry names stocks no_members f within = elim within [ ]
feeder_entry names stocks (member k d ms) f (inl same) = ((k, d), inl refl, record { loc = sym (ap (λ x. x.loc) same); media = sym (ap (λ x. x.media) same) })
feeder_entry names stocks (member k d ms) f (inr rest) = let b = feeder_entry names stocks ms f rest in (b.0, inr b.1, b.2)

pub entry_feeder : (names : List (List ℕ)) (stocks ms : Members) (k : List ℕ) (d : Data) → In (entries ms) (k, d) → (f : Feeder) × In (feeders_of names stocks ms) f × IsEntry names f k d
entry_feeder names stocks no_members k d within = elim within [ ]
entry_feeder names stocks (member l e ms) k d (inl same) = (_, inl refl, record { loc = ap (loc_of names) (λ i. (same i).0); media = ap text_of (λ i. (same i).1) })
entry_feeder names stocks (member l e ms) k d (inr rest) = let b = entry_feeder names stocks ms k d rest in (b.0, inr b.1, b.2)
