-- Bytes tell one standing at most.
use Rattle.std.proofs.Common.{◌≡◌, ℕ, List, sym, ap, subst, ◌∙◌}
use Rattle.std.proofs.lemmas.Option.{same_Some}
use Rattle.serde_json.specs.Data.{Data}
use Rattle.tp_machine.specs.declared.machine.Machine.{Machine}
use Rattle.tp_jobs.specs.Backlogs.{names_of}
use Rattle.tp_jobs.specs.declared.parts.Job.{Job}
use Rattle.tp_jobs.specs.declared.standing.Standing.{Standing}
use Rattle.tp_snapshot.proofs.TellFacts.{both}
use Rattle.tp_snapshot.specs.Jobs.{jobs_of}
use Rattle.tp_snapshot.specs.Moments.{now_of, outs_of, stock_of}
use Rattle.tp_snapshot.specs.Plans.{plans_of}
use Rattle.tp_snapshot.specs.Told.{IsToldBy, Tells}
use Rattle.tp_snapshot.specs.WaitingCopies.{waiting_of}

pub one : (m : Machine) (d : Data) (t t' : Standing) → IsToldBy m d t → IsToldBy m d t' → t ≡ t'
one m d t t' a b =
    let now = both (now_of d) t.now t'.now a.now b.now in
    let outs = both (outs_of m d) t.outs t'.outs a.outs b.outs in
    let stock = both (stock_of m d) t.stock t'.stock a.stock b.stock in
    let jobs = both (jobs_of m d) t.jobs t'.jobs a.jobs b.jobs in
    let plans = both (plans_of m t'.now t'.jobs d) t.plans t'.plans (sym (ap (λ (n : ℕ). plans_of m n t.jobs d) now ∙ ap (λ (js : List Job). plans_of m t'.now js d) jobs) ∙ a.plans) b.plans in
    let waiting = both (waiting_of (names_of t'.jobs) d) t.waiting t'.waiting (sym (ap (λ (js : List Job). waiting_of (names_of js) d) jobs) ∙ a.waiting) b.waiting in
    (λ i. record { now = now i; outs = outs i; stock = stock i; jobs = jobs i; waiting = waiting i; plans = plans i })

pub one-told : (bytes : List ℕ) (m : Machine) (t t' : Standing) → Tells bytes m t → Tells bytes m t' → t ≡ t'
one-told bytes m t t' a b =
    let d : b.0 ≡ a.0 = same_Some b.0 a.0 (sym b.1.reads ∙ a.1.reads) in
    one m a.0 t t' a.2 (subst (λ (e : Data). IsToldBy m e t') d b.2)
