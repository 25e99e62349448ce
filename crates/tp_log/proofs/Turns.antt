-- Points and actions in turn, read two words at a time.
use denote.Ref.{Bor}
use Rattle.std.proofs.Common.{◌≡◌, ℕ, zero, suc, ◌+◌, ◌<◌, ◌≤◌, List, [], ◌∷◌, ◌++◌, length, get_or, take, drop, Option, Some, None, refl, sym, ap, ◌∙◌, append_assoc, add-one, arith, decimal}
use Rattle.std.specs.Prelude.{option_and_then, option_map}
use Rattle.std.proofs.lemmas.List.{append-nil}
use Rattle.tp_words.specs.Numbers.{number_of}
use Rattle.tp_words.specs.Parts.{shown}
use Rattle.tp_words.specs.Fields.{name_of}
use Rattle.tp_log.specs.Records.{turns_words}
use Rattle.tp_log.specs.RecordReaders.{turns_of}

-- the turns behind what was read so far
abbrev pub behind : List ℕ → List (List ℕ) → Option (List ℕ × List (List ℕ)) → Option (List ℕ × List (List ℕ))
behind points acts turns = option_map (λ t. (points ++ t.0, acts ++ t.1)) turns

onward : (points : List ℕ) (acts : List (List ℕ)) (x : ℕ) (n : List ℕ) (others : Option (List ℕ × List (List ℕ))) → behind points acts (option_and_then (λ t. Some (x ∷ t.0, n ∷ t.1)) others) ≡ behind (points ++ x ∷ []) (acts ++ n ∷ []) others
onward points acts x n None = refl
onward points acts x n (Some t) = ap (λ ps. Some (ps, acts ++ n ∷ t.1)) (sym (append_assoc points (x ∷ []) t.0)) ∙ ap (λ ns. Some ((points ++ x ∷ []) ++ t.0, ns)) (sym (append_assoc acts (n ∷ []) t.1))

pub turn : (points : List ℕ) (acts : List (List ℕ)) (rest : List (Bor (List ℕ))) (d e : Bor (List ℕ)) (x : ℕ) (n : List ℕ) → 2 ≤ length rest → number_of (get_or rest 0 d).now ≡ Some x → name_of (get_or rest 1 e).now ≡ Some n → behind points acts (turns_of (shown rest)) ≡ behind (points ++ x ∷ []) (acts ++ n ∷ []) (turns_of (shown (drop 2 rest)))
unfolding turns_of
turn points acts [] d e x n long is_point is_act = absurd (omega arith)
turn points acts (a ∷ []) d e x n long is_point is_act = absurd (omega arith)
turn points acts (a ∷ b ∷ rest) d e x n long is_point is_act = rw (is_point, is_act) (onward points acts x n (turns_of (shown rest)))

pub no_point : (points : List ℕ) (acts : List (List ℕ)) (rest : List (Bor (List ℕ))) (d : Bor (List ℕ)) → 1 ≤ length rest → number_of (get_or rest 0 d).now ≡ None → behind points acts (turns_of (shown rest)) ≡ None
unfolding turns_of
no_point points acts [] d long is = absurd (omega arith)
no_point points acts (a ∷ []) d long is = rw is refl
no_point points acts (a ∷ b ∷ rest) d long is = rw is refl

pub no_act : (points : List ℕ) (acts : List (List ℕ)) (rest : List (Bor (List ℕ))) (d e : Bor (List ℕ)) (x : ℕ) → 2 ≤ length rest → number_of (get_or rest 0 d).now ≡ Some x → name_of (get_or rest 1 e).now ≡ None → behind points acts (turns_of (shown rest)) ≡ None
unfolding turns_of
no_act points acts [] d e x long is_point is = absurd (omega arith)
no_act points acts (a ∷ []) d e x long is_point is = absurd (omega arith)
no_act points acts (a ∷ b ∷ rest) d e x long is_point is = rw (is_point, is) refl

pub nothing : (points : List ℕ) (acts : List (List ℕ)) (rest : List (Bor (List ℕ))) → length rest ≡ 0 → behind points acts (turns_of (shown rest)) ≡ None
unfolding turns_of
nothing points acts [] none = refl
nothing points acts (a ∷ rest) none = absurd (omega arith)

pub last : (points : List ℕ) (acts : List (List ℕ)) (rest : List (Bor (List ℕ))) (d : Bor (List ℕ)) (x : ℕ) → length rest ≡ 1 → number_of (get_or rest 0 d).now ≡ Some x → behind points acts (turns_of (shown rest)) ≡ Some (points ++ x ∷ [], acts)
unfolding turns_of
last points acts [] d x one is = absurd (omega arith)
last points acts (a ∷ []) d x one is = rw is (ap (λ ns. Some (points ++ x ∷ [], ns)) (append-nil acts))
last points acts (a ∷ b ∷ rest) d x one is = absurd (omega arith)

pub start : (turns : Option (List ℕ × List (List ℕ))) → behind [] [] turns ≡ turns
start None = refl
start (Some t) = refl

-- ---- the printer's loop
step : (points : List ℕ) (acts : List (List ℕ)) (i : ℕ) (d : List ℕ) → length points ≡ length acts + 1 → i < length acts → turns_words (take (suc (suc i)) points) (take (suc i) acts) ≡ turns_words (take (suc i) points) (take i acts) ++ get_or acts i d ∷ decimal (get_or points (suc i) 0) ∷ []
step [] acts i d h lt = absurd (omega arith)
step (x ∷ points) [] i d h lt = absurd (omega arith)
step (x ∷ []) (n ∷ acts) i d h lt = absurd (omega arith)
step (x ∷ y ∷ points) (n ∷ acts) zero d h lt = refl
step (x ∷ y ∷ points) (n ∷ acts) (suc i) d h lt = ap (λ ws. decimal x ∷ n ∷ ws) (step (y ∷ points) acts i d (omega arith) (omega arith))

pub one_turn_more : (points : List ℕ) (acts : List (List ℕ)) (i : ℕ) (d : List ℕ) → length points ≡ length acts + 1 → i < length acts → turns_words (take (i + 1 + 1) points) (take (i + 1) acts) ≡ turns_words (take (i + 1) points) (take i acts) ++ get_or acts i d ∷ decimal (get_or points (i + 1) 0) ∷ []
one_turn_more points acts i d h lt = rw (add-one, add-one) (step points acts i d h lt)
