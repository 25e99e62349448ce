use Rattle.std.proofs.Common.{◌≡◌, ◌∙◌, ℕ, List, Some, sym, ap, codes}
use Rattle.serde_json.specs.Find.{as_str}
use Rattle.serde_json.specs.View.{view}
use Rattle.tp_snapshot.proofs.PassedFacts.{no-machine}
use Rattle.tp_snapshot.specs.Values.{field_of}
use Rattle.tp_snapshot.proofs.snapshot_reader.machine_in.Goals as goal

pub returns-in-Some-clause-none : goal.returns-in-Some-clause-none
returns-in-Some-clause-none c =
    let at : field_of (codes "machine") as_str (view c.args.value.now) ≡ Some c.as_bytes.result.now = sym (rw c.in-Some.is at c.text_at.ensures) ∙ ap (λ (t : List ℕ). Some t) (sym c.as_bytes.ensures.value) in
    no-machine (view c.args.value.now) c.as_bytes.result.now at c.machine_of.result c.machine_of.ensures.none
