-- The names of jobs, put in one after another.
use Rattle.std.proofs.Common.{◌≡◌, ℕ, ◌+◌, ◌<◌, ◌≤◌, cond, Bool, true, false, not, List, [], ◌∷◌, ◌++◌, length, get_or, take, refl, sym, ap, subst, ◌∙◌, arith}
use Rattle.std.specs.List.{IsDistinct, list_any}
use Rattle.std.specs.Str.{bytes_eq}
use Rattle.std.proofs.lemmas.List.{get_or-map, length-map, length-take, take_all}
use Rattle.std.proofs.lemmas.Map.Made.{AllPairs-from_IsDistinct}
use Rattle.std.proofs.lemmas.Slice.Eq.{bytes_eq-Decides}
use Rattle.tp_jobs.proofs.GivenJobs.{next-name}
use Rattle.tp_jobs.specs.Backlogs.{names_of}
use Rattle.tp_jobs.specs.declared.parts.Job.{Job}
use Rattle.tp_snapshot.specs.Jobs.{DoNamesDiffer}

-- what was not put in stood there
pub there-by : (there new : Bool) → new ≡ not there → new ≡ false → there ≡ true
there-by true new is none = refl
there-by false new is none = absurd cc

-- where it stands there already, two jobs have one name
pub name-twice : (jobs : List Job) (i : ℕ) (job : Job) (names : List (List ℕ)) → i < length jobs → job ≡ get_or jobs i job → list_any (bytes_eq job.name) names ≡ true → names ≡ names_of (take i jobs) → ¬ DoNamesDiffer jobs
name-twice jobs i job names within at there is apart =
    let put = next-name jobs i job names within apart is in
    let there' : list_any (bytes_eq (get_or jobs i job).name) names ≡ true = ap (λ (j : Job). list_any (bytes_eq j.name) names) (sym at) ∙ there in
    let same : names ≡ names_of (take (i + 1) jobs) = ap (λ b. cond b names (names ++ (get_or jobs i job).name ∷ [])) (sym there') ∙ put in
    let few : length names ≡ i = ap length is ∙ length-map (take i jobs) (λ (j : Job). j.name) ∙ length-take-at i in
    let more : length names ≡ i + 1 = ap length same ∙ length-map (take (i + 1) jobs) (λ (j : Job). j.name) ∙ length-take-at' (i + 1) in
    absurd (omega (arith, few, more))
  where
    length-take-at : (n : ℕ) → length (take i jobs) ≡ i
    length-take-at n = omega (arith, length-take i jobs)

    length-take-at' : (n : ℕ) → length (take (i + 1) jobs) ≡ i + 1
    length-take-at' n = omega (arith, length-take (i + 1) jobs)

pub names-apart : (jobs : List Job) (names : List (List ℕ)) → names ≡ names_of jobs → IsDistinct bytes_eq names → DoNamesDiffer jobs
names-apart jobs names is distinct i j d before within =
    let differ = AllPairs-from_IsDistinct bytes_eq-Decides (names_of jobs) (subst (IsDistinct bytes_eq) is distinct) i j d.name before (omega (arith, length-map jobs (λ (k : Job). k.name))) in
    λ same. differ (get_or-map (λ (k : Job). k.name) jobs i d d.name (omega arith) ∙ same ∙ sym (get_or-map (λ (k : Job). k.name) jobs j d d.name within))

pub names-all : (jobs : List Job) (i : ℕ) (names : List (List ℕ)) → length jobs ≤ i → names ≡ names_of (take i jobs) → names ≡ names_of jobs
names-all jobs i names le is = is ∙ ap names_of (take_all i jobs le)
