-- Where a part of a standing is not read, the value tells none.
use Rattle.std.proofs.Common.{◌≡◌, List, Option, Some, None, sym, ap, ◌∙◌}
use Rattle.std.proofs.lemmas.Option.{same_Some}
use Rattle.serde_json.specs.Data.{Data}
use Rattle.tp_machine.specs.declared.machine.Machine.{Machine}
use Rattle.tp_jobs.specs.Backlogs.{names_of}
use Rattle.tp_jobs.specs.declared.parts.Job.{Job}
use Rattle.tp_snapshot.specs.Jobs.{jobs_of}
use Rattle.tp_snapshot.specs.Told.{TellsNone}
use Rattle.tp_snapshot.specs.WaitingCopies.{waiting_of}

pub none-some : {X : Type 0} (o : Option X) (x : X) → o ≡ None → o ≡ Some x → ⊥
none-some o x none some = let apart : None ≡ Some x = sym none ∙ some in absurd cc

pub both : {X : Type 0} (o : Option X) (x y : X) → o ≡ Some x → o ≡ Some y → x ≡ y
both o x y one other = same_Some x y (sym one ∙ other)

pub no-waiting : (m : Machine) (d : Data) (jobs : List Job) → jobs_of m d ≡ Some jobs → waiting_of (names_of jobs) d ≡ None → TellsNone m d
no-waiting m d jobs is none t told =
    let j : t.jobs ≡ jobs = both (jobs_of m d) t.jobs jobs told.jobs is in
    none-some (waiting_of (names_of jobs) d) t.waiting none (sym (ap (λ (js : List Job). waiting_of (names_of js) d) j) ∙ told.waiting)
