-- A table has one machine, and a text is of one table.
use Rattle.std.proofs.Common.{◌≡◌, ℕ, List, Some, sym, subst, ◌∙◌}
use Rattle.toml.specs.Data.{Members}
use Rattle.tp_machine.specs.declared.machine.Machine.{Machine}
use Rattle.tp_machine.proofs.SameMachines.{same_machines}
use Rattle.tp_machine_text.specs.TheMachine.{IsMachineOf}
use Rattle.tp_machine_text.specs.Texts.{IsMachineText}

pub one_of_table : (t : Members) (m n : Machine) → IsMachineOf t m → IsMachineOf t n → m ≡ n
one_of_table t m n first second = same_machines m n (record {
  lead = first.lead ∙ sym second.lead;
  window = first.window ∙ sym second.window;
  budget = first.budget ∙ sym second.budget;
  locations = first.locations ∙ sym second.locations;
  modules = first.modules ∙ sym second.modules;
  trays = first.trays ∙ sym second.trays;
  purges = first.purges ∙ sym second.purges;
  feeders = first.feeders ∙ sym second.feeders;
  resources = first.resources ∙ sym second.resources;
  actions = first.actions ∙ sym second.actions;
})

same_table : (t u : Members) → Some t ≡ Some u → t ≡ u
same_table t u e = cc

pub one_of_text : (text : List ℕ) (m n : Machine) → IsMachineText text m → IsMachineText text n → m ≡ n
one_of_text text m n (t, toml, kept, is) (u, toml', kept', is') =
    let same = same_table u t (sym toml'.parses ∙ toml.parses) in
    one_of_table t m n is (subst (λ v. IsMachineOf v n) same is')
