-- Jobs by their names and by their numbers.
use Rattle.std.proofs.Common.{◌≡◌, ◌≢◌, ℕ, suc, zero, ◌<◌, Bool, true, false, cond, ◌&&◌, ◌||◌, List, [], ◌∷◌, ◌++◌, map, length, refl, sym, ap, ◌∙◌, arith, AllPairs, subst, nat_lt, slice_get, get_or, Option, Some, None, option_map}
use Rattle.std.specs.Prelude.{◌==◌, unwrap_or}
use Rattle.std.specs.List.{position_or_len}
use Rattle.std.specs.Str.{bytes_eq}
use Rattle.std.proofs.lemmas.Bool.Decides.{nat_tests}
use Rattle.std.proofs.lemmas.List.Sums.{position_or_len_is}
use Rattle.std.proofs.lemmas.Option.{get_or_from_slice_get, slice_get_within}
use Rattle.std.proofs.lemmas.Slice.Eq.{bytes_eq-Decides}
use Rattle.tp_base.proofs.SliceFacts.{slice_get_left}
use Rattle.tp_machine.specs.declared.machine.Machine.{Machine}
use Rattle.tp_jobs.specs.declared.parts.Job.{Job}
use Rattle.tp_schedule.proofs.Pairs.{AllPairs-map_from}
use Rattle.tp_schedule.specs.declared.parts.SheetId.{SheetId}
use Rattle.tp_event_rules.specs.StateInvariants.{total_of, is_known}
use Rattle.tp_event_rules.proofs.ListFacts.{AllPairs-map_list}
use Rattle.tp_event_rules.specs.Labels.{job_name, job_name_in, label, location_name}
use Rattle.tp_event_rules.specs.Deliveries.{Arrival, arrival_of, is_earlier, sheet_ref}
use Rattle.tp_event_rules.proofs.AskedFacts.{bytes_eq-same}

-- a job as a log tells it
abbrev pub arrived : Machine → Job → ℕ → Arrival
arrived machine j total = record { name = j.name; tray = location_name machine j.tray; sheets = total }

-- the jobs as a log tells them, each with its total of sheets
abbrev pub told_jobs : Machine → List ℕ → List Job → List Arrival
told_jobs machine totals [] = []
told_jobs machine [] (j ∷ jobs) = arrived machine j 0 ∷ told_jobs machine [] jobs
told_jobs machine (n ∷ totals) (j ∷ jobs) = arrived machine j n ∷ told_jobs machine totals jobs

told-at : (machine : Machine) (totals : List ℕ) (jobs : List Job) (n : ℕ) (j : Job) → slice_get jobs n ≡ Some j → slice_get (told_jobs machine totals jobs) n ≡ Some (arrived machine j (total_of totals n))
told-at machine totals [] n j e = absurd (cc)
told-at machine [] (i ∷ jobs) zero j e = ap (option_map (λ k. arrived machine k 0)) e
told-at machine [] (i ∷ jobs) (suc n) j e = told-at machine [] jobs n j e
told-at machine (m ∷ totals) (i ∷ jobs) zero j e = ap (option_map (λ k. arrived machine k m)) e
told-at machine (m ∷ totals) (i ∷ jobs) (suc n) j e = told-at machine totals jobs n j e

-- one more
pub told-more : (machine : Machine) (totals : List ℕ) (jobs : List Job) (n : ℕ) (j : Job) → length totals ≡ length jobs → told_jobs machine (totals ++ n ∷ []) (jobs ++ j ∷ []) ≡ told_jobs machine totals jobs ++ arrived machine j n ∷ []
told-more machine [] [] n j e = refl
told-more machine [] (i ∷ jobs) n j e = absurd (omega arith)
told-more machine (m ∷ totals) [] n j e = absurd (omega arith)
told-more machine (m ∷ totals) (i ∷ jobs) n j e = ap (λ l. arrived machine i m ∷ l) (told-more machine totals jobs n j (omega arith))

-- their names
told-names : (machine : Machine) (totals : List ℕ) (jobs : List Job) → map (λ (a : Arrival). a.name) (told_jobs machine totals jobs) ≡ map (λ (j : Job). j.name) jobs
told-names machine totals [] = refl
told-names machine [] (j ∷ jobs) = ap (λ l. j.name ∷ l) (told-names machine [] jobs)
told-names machine (n ∷ totals) (j ∷ jobs) = ap (λ l. j.name ∷ l) (told-names machine totals jobs)

pub names-apart : (machine : Machine) (totals : List ℕ) (jobs : List Job) → AllPairs (λ (i j : Job). i.name ≢ j.name) jobs → AllPairs (λ (a b : Arrival). a.name ≢ b.name) (told_jobs machine totals jobs)
names-apart machine totals jobs apart =
    AllPairs-map_from (λ (a b : List ℕ). a ≢ b) (λ (a : Arrival). a.name) (told_jobs machine totals jobs)
    (subst (AllPairs (λ (a b : List ℕ). a ≢ b)) (sym (told-names machine totals jobs)) (AllPairs-map_list (λ (a b : List ℕ). a ≢ b) (λ (j : Job). j.name) jobs apart))

-- no two have one name
abbrev pub AreNamedApart : List Arrival → Type 0
AreNamedApart all = AllPairs (λ a b. a.name ≢ b.name) all

-- the jobs that came so far are the first of all that come
pub record AreFirst (machine : Machine) (totals : List ℕ) (jobs : List Job) (all : List Arrival) : Type 0 where
  pub more : List Arrival
  pub is : all ≡ told_jobs machine totals jobs ++ more

-- the place of a name is that of its job
pub arrival-at : (all : List Arrival) (i : ℕ) (a : Arrival) → AreNamedApart all → slice_get all i ≡ Some a → arrival_of all a.name ≡ i
arrival-at all i a apart at = go (position_or_len (λ b. bytes_eq a.name b.name) all) here where
  within : i < length all
  within = slice_get_within all i a at

  here : position_or_len (λ b. bytes_eq a.name b.name) all ≡ i
  here = position_or_len_is (λ b. bytes_eq a.name b.name) all i a (let w = within in omega arith)
      (λ k low. other k low (bytes_eq a.name (get_or all k a).name) refl)
      (λ w. subst (λ b. bytes_eq a.name b.name ≡ true) (sym (get_or_from_slice_get all i a a at)) (bytes_eq-same a.name)) where
        other : (k : ℕ) → k < i → (b : Bool) → bytes_eq a.name (get_or all k a).name ≡ b → b ≡ false
        other k low true e = absurd (apart k i a low within (sym ((bytes_eq-Decides a.name (get_or all k a).name).0 e) ∙ ap (λ (b : Arrival). b.name) (sym (get_or_from_slice_get all i a a at))))
        other k low false e = refl

  go : (n : ℕ) → n ≡ i → unwrap_or (cond (nat_lt n (length all)) (Some n) None) (length all) ≡ i
  go n e = let w : nat_lt n (length all) ≡ true = let v = within in grind (arith, nat_tests) in rw w e

module _ (machine : Machine) (totals : List ℕ) (jobs : List Job) (all : List Arrival) (first : AreFirst machine totals jobs all) (apart : AreNamedApart all) where
  -- the job of a number
  pub job-at : (n : ℕ) (j : Job) → slice_get jobs n ≡ Some j → slice_get all n ≡ Some (arrived machine j (total_of totals n))
  job-at n j at =
      let told = told-at machine totals jobs n j at in
      ap (λ l. slice_get l n) first.is ∙ slice_get_left (told_jobs machine totals jobs) first.more n (slice_get_within (told_jobs machine totals jobs) n (arrived machine j (total_of totals n)) told) ∙ told

  pub number-of : (n : ℕ) → n < length jobs → arrival_of all (job_name jobs n) ≡ n
  number-of n within = go (slice_get jobs n) refl where
    go : (o : Option Job) → slice_get jobs n ≡ o → arrival_of all (job_name_in o) ≡ n
    go None e = absurd (missing jobs n within e) where
      missing : (l : List Job) (n : ℕ) → n < length l → slice_get l n ≡ None → ⊥
      missing [] n within e = absurd (omega arith)
      missing (x ∷ l) zero within e = cc
      missing (x ∷ l) (suc n) within e = missing l n (omega arith) e
    go (Some j) e = arrival-at all n (arrived machine j (total_of totals n)) apart (job-at n j e)

  -- the order of sheets by names and by numbers
  pub earlier-is : (c d : SheetId) → is_known jobs c ≡ true → is_known jobs d ≡ true
      → is_earlier all (sheet_ref (label jobs c)) (sheet_ref (label jobs d)) ≡ (nat_lt c.job d.job || ((c.job == d.job) && nat_lt c.number d.number))
  earlier-is c d known known' =
      rw (number-of c.job (grind (arith, nat_tests)), number-of d.job (grind (arith, nat_tests))) refl
