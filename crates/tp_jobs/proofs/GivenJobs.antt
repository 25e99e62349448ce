-- Jobs that are given at once: their names are put in one after another, and each is a new one.
use Rattle.std.proofs.Common.{◌≡◌, ◌≢◌, ℕ, ◌+◌, ◌<◌, ◌∙◌, cond, Bool, true, false, List, [], ◌∷◌, ◌++◌, length, get_or, take, AllPairs, refl, ap, sym, arith}
use Rattle.std.specs.List.{IsDistinct, list_any}
use Rattle.std.specs.Str.{bytes_eq}
use Rattle.std.proofs.lemmas.List.{get_or-take, get_or_default, length-take, map-append, take_more}
use Rattle.std.proofs.lemmas.List.Elements.{All-map, All-nil}
use Rattle.std.proofs.lemmas.List.Folds.{list_any_none}
use Rattle.std.proofs.lemmas.Slice.Eq.{bytes_eq-Decides}
use Rattle.tp_schedule.proofs.Pairs.{AllPairs-nil}
use Rattle.tp_jobs.specs.Backlogs.{IsOfJob, WaitsBefore, names_of}
use Rattle.tp_jobs.specs.LineInvariants.{Keeps}
use Rattle.tp_jobs.specs.declared.parts.Job.{Job}

abbrev Differ : Job → Job → Type 0
Differ i j = i.name ≢ j.name

unequal : (a b : List ℕ) → a ≢ b → bytes_eq a b ≡ false
unequal a b differ = go (bytes_eq a b) refl where
  go : (r : Bool) → bytes_eq a b ≡ r → r ≡ false
  go true e = absurd (differ ((bytes_eq-Decides a b).0 e))
  go false e = refl

-- no job before it has the name
fresh : (jobs : List Job) (i : ℕ) (d : Job) → i < length jobs → AllPairs Differ jobs → list_any (bytes_eq (get_or jobs i d).name) (names_of (take i jobs)) ≡ false
fresh jobs i d within apart =
    list_any_none (bytes_eq (get_or jobs i d).name) (names_of (take i jobs))
    (All-map (λ n. bytes_eq (get_or jobs i d).name n ≡ false) (λ (j : Job). j.name) (take i jobs)
    (λ k e below. earlier k e below))
  where
    earlier : (k : ℕ) (e : Job) → k < length (take i jobs) → bytes_eq (get_or jobs i d).name (get_or (take i jobs) k e).name ≡ false
    earlier k e below =
        let most = length-take i jobs in
        let low : k < i = omega (arith, below, most) in
        let is : get_or (take i jobs) k e ≡ get_or jobs k d = get_or-take i jobs k e low ∙ get_or_default jobs k e d (omega (arith, low, within)) in
        unequal (get_or jobs i d).name (get_or (take i jobs) k e).name (λ same. apart k i d low within (sym (same ∙ ap (λ (j : Job). j.name) is)))

-- the names with the next one
pub next-name : (jobs : List Job) (i : ℕ) (d : Job) (names : List (List ℕ)) → i < length jobs → AllPairs Differ jobs → names ≡ names_of (take i jobs)
    → cond (list_any (bytes_eq (get_or jobs i d).name) names) names (names ++ (get_or jobs i d).name ∷ []) ≡ names_of (take (i + 1) jobs)
next-name jobs i d names within apart is =
    let none : list_any (bytes_eq (get_or jobs i d).name) names ≡ false = rw is (fresh jobs i d within apart) in
    ap (λ b. cond b names (names ++ (get_or jobs i d).name ∷ [])) none
    ∙ ap (λ ns. ns ++ (get_or jobs i d).name ∷ []) is
    ∙ sym (ap names_of (take_more jobs i d within) ∙ map-append (λ (j : Job). j.name) (take i jobs) (get_or jobs i d ∷ []))

-- no job, and so no name and no copy
pub keeps-none : Keeps [] [] []
unfolding IsDistinct
keeps-none = record {
  of_names = refl;
  distinct = tt;
  in_order = AllPairs-nil WaitsBefore;
  of_jobs = All-nil (IsOfJob []);
  few_jobs = omega arith;
  few_waiting = omega arith;
}
