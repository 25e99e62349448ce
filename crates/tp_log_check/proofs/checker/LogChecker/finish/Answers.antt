use Rattle.std.proofs.Common.{◌≡◌, ◌≢◌, ◌+◌, ◌<◌, ◌^◌, List, [], length, sym, ◌∙◌, ap, subst}
use Rattle.std.specs.Prelude.{IfErr, IfOk}
use Rattle.std.proofs.lemmas.List.{append-nil}
use Rattle.tp_log_check.specs.LogCounts.{counts_of}
use Rattle.tp_log.specs.declared.log_line.LogLine.{LogLine}
use Rattle.tp_log_check.specs.Causes.{HasCause}
use Rattle.tp_log_check.specs.FlawLines.{LiesInLast}
use Rattle.tp_log_check.specs.Lawful.{IsLawfulLog}
use Rattle.tp_log_check.specs.declared.flaw.Flaw.TheVariants.{Memory as WantsMemory}
use Rattle.tp_log_check.specs.CheckerState.{HasRead, HasTaken, IsAcceptedLog}
use Rattle.tp_log_check.proofs.ReadSoFar.{read-log}
use Rattle.tp_log_check.proofs.checker.LogChecker.finish.Goals.{in-Ok, in-Err}
use Rattle.tp_log_check.proofs.checker.LogChecker.finish.Goals as goal

pub returns-clause-lawful : goal.returns-clause-lawful
returns-clause-lawful c = elim c.match-end_event.branch [
  | in-Ok w ↦ subst (λ r. IfOk r (λ counts. (told : List LogLine) → HasRead c.args.self.now told → IsAcceptedLog c.args.self.now.machine told counts)) (sym w.result-is) (λ told h.
      let there = h.taken in
      let takes = w.in-Ok.ensures.taken told in
      let next : HasTaken c.end_event.new.self told = search (takes, there) in
      let now_machine = ap (λ v. v.machine) c.self.view_is in
      let now_counts = ap (λ v. v.counts) c.self.view_is in
      let new_counts = ap (λ v. v.counts) c.self-2.view_is in
      let same_machine = c.end_event.ensures.machine in
      let same_counts = c.end_event.ensures.counts in
      let counted = h.counted in
      let machine : c.end_event.new.self.machine ≡ c.args.self.now.machine = cc in
      let all : c.self-2.inside.counts ≡ counts_of told = cc in
      subst (λ m. IsAcceptedLog m told c.self-2.inside.counts) machine (read-log c.end_event.new.self told c.self-2.inside.counts next w.in-Ok.ensures.ended all))
  | in-Err w ↦ subst (λ r. IfOk r (λ counts. (told : List LogLine) → HasRead c.args.self.now told → IsAcceptedLog c.args.self.now.machine told counts)) (sym w.result-is) tt
]

pub returns-clause-refused : goal.returns-clause-refused
returns-clause-refused c = elim c.match-end_event.branch [
  | in-Ok w ↦ subst (λ r. IfErr r (λ flaw. flaw ≢ WantsMemory → (told : List LogLine) → HasRead c.args.self.now told → IsLawfulLog c.args.self.now.machine told → ⊥)) (sym w.result-is) tt
  | in-Err w ↦ subst (λ r. IfErr r (λ flaw. flaw ≢ WantsMemory → (told : List LogLine) → HasRead c.args.self.now told → IsLawfulLog c.args.self.now.machine told → ⊥)) (sym w.result-is) (λ other told h lawful.
      let whole = subst (IsLawfulLog c.args.self.now.machine) (sym (append-nil told)) lawful in
      w.in-Err.ensures.refused other told [] h.taken tt whole)
]

pub returns-clause-lies : goal.returns-clause-lies
returns-clause-lies c = elim c.match-end_event.branch [
  | in-Ok w ↦ subst (λ r. IfErr r (λ flaw. flaw ≢ WantsMemory → (told : List LogLine) → HasRead c.args.self.now told → LiesInLast told flaw)) (sym w.result-is) tt
  | in-Err w ↦ subst (λ r. IfErr r (λ flaw. flaw ≢ WantsMemory → (told : List LogLine) → HasRead c.args.self.now told → LiesInLast told flaw)) (sym w.result-is) (λ other told h.
      let lines : c.self.inside.lines ≡ length told = ap (λ v. v.lines) c.self.view_is ∙ h.fed in
      w.in-Err.ensures.lies other told h.taken (subst (λ n. n + 1 < 2 ^ 64) lines c.self.invariant.1.numbered))
]

pub returns-clause-why : goal.returns-clause-why
returns-clause-why c = elim c.match-end_event.branch [
  | in-Ok w ↦ subst (λ r. IfErr r (λ flaw. flaw ≢ WantsMemory → (told : List LogLine) → HasRead c.args.self.now told → HasCause c.args.self.now flaw)) (sym w.result-is) tt
  | in-Err w ↦ subst (λ r. IfErr r (λ flaw. flaw ≢ WantsMemory → (told : List LogLine) → HasRead c.args.self.now told → HasCause c.args.self.now flaw)) (sym w.result-is) (λ other told h.
      let lines : c.self.inside.lines ≡ length told = ap (λ v. v.lines) c.self.view_is ∙ h.fed in
      w.in-Err.ensures.why other told h.taken (subst (λ n. n + 1 < 2 ^ 64) lines c.self.invariant.1.numbered))
]
