-- Where a farm is in order, its list and texts are those that the shelf tells, and no cause of a refusal holds.
use Rattle.std.proofs.Common.{◌≡◌, ◌≢◌, ℕ, ◌<◌, ◌≤◌, List, slice_get, Option, Some, None, inl, inr, sym, subst, ◌∙◌}
use Rattle.std.specs.Prelude.{IsTrue}
use Rattle.tp_outside.specs.Outside.{Files}
use Rattle.tp_command.specs.Form.{Asked}
use Rattle.tp_machine_text.specs.Texts.{IsBrokenAt, IsNotToml}
use Rattle.tp_machine_text.specs.declared.machine_reader.MachineFault.TheVariants as fault
use Rattle.tp_machine_text.proofs.OneTable.{sound}
use Rattle.tp_farm.specs.Lists.{IsBadName, IsFileName, IsNoList, names_of}
use Rattle.tp_program.specs.FarmEnds.{AreNames, FarmedBy, IsFirstOther, IsListed, NoFarm, NoMachines}
use Rattle.tp_program.specs.FarmsInOrder.{IsFarmInOrder, IsOfMachine, NoFarmIsRefused}
use Rattle.tp_program.specs.InOrder.{is_refusal}
use Rattle.tp_program.specs.Texts.{IsLongText, IsShelved}
use Rattle.tp_program.specs.declared.farm_fault.FarmFault.TheVariants as farm
use Rattle.tp_program.specs.declared.status.Long.TheVariants as size
use Rattle.tp_program.specs.declared.status.Status.{Status}
use Rattle.tp_program.specs.declared.status.Status.TheVariants as status
use Rattle.tp_program.proofs.FarmEndFacts.{All-there}
use Rattle.tp_program.proofs.InOrderFacts.{has, named_something, not_long}
use Rattle.tp_stream.proofs.NextLines.{next-some}
use Rattle.tp_program.proofs.Sizes.{not_too_long, not_too_many}

same_names : (list : List ℕ) (names others : List (List ℕ)) → names_of list ≡ Some names → names_of list ≡ Some others → names ≡ others
same_names list names others e f = cc

-- of a name that is a machine's, none of these holds
module _ (files : Files) (name : List ℕ) (good : IsOfMachine files name) where
  has_machine : (P : List ℕ → Type 0) → IsShelved (Some files) name P → P good.text
  has_machine = has files name good.text good.there

  not_other_long : ¬ IsLongText (Some files) name
  not_other_long = not_long files name good.text good.there

  not_other_toml : ¬ IsShelved (Some files) name IsNotToml
  not_other_toml other = (sound good.text good.is_text.0 good.is_text.1 good.is_text.2).0 (has_machine IsNotToml other)

  not_other_rule : (n : ℕ) → ¬ IsShelved (Some files) name (IsBrokenAt n)
  not_other_rule n other = (sound good.text good.is_text.0 good.is_text.1 good.is_text.2).1 n (has_machine (IsBrokenAt n) other)

module _ (words : List (List ℕ)) (files : Files) (script : List ℕ) (asked : Asked) (good : IsFarmInOrder words files script asked) where
  has_list : (P : List ℕ → Type 0) → IsShelved (Some files) asked.arg P → P good.list
  has_list = has files asked.arg good.list good.there

  -- the names are those of the list
  listed : (P : List (List ℕ) → Type 0) → IsListed (Some files) asked.arg P → P good.names
  listed P l =
      let are = has_list (λ list. AreNames list l.names) l.list in
      subst P (same_names good.list l.names good.names are.listed good.are_names.listed) l.has

  no_other : (number : ℕ) (P : List ℕ → Type 0) → ((name : List ℕ) → IsOfMachine files name → ¬ P name) → ¬ IsFirstOther (Some files) good.names number P
  no_other number P never first = never first.name (All-there (IsOfMachine files) good.names first.place first.name first.there good.are_machines) first.other

  all_machines : (s : Status) → IsTrue (is_refusal s) → ¬ NoMachines (Some files) good.names s
  all_machines (status.TooLong size.MachineText) is (number, first) = no_other number (IsLongText (Some files)) (not_other_long files) first
  all_machines (status.Farm (farm.Machine number fault.NotToml)) is first = no_other number (λ name. IsShelved (Some files) name IsNotToml) (not_other_toml files) first
  all_machines (status.Farm (farm.Machine number (fault.Rule n))) is first =
      no_other number (λ name. IsShelved (Some files) name (IsBrokenAt n)) (λ name good. not_other_rule files name good n) first
  all_machines status.Memory is none = absurd cc
  all_machines status.Shelf is none = absurd cc
  all_machines s is none = none

  a_list : ¬ IsNoList good.list
  a_list none = (let e : Some good.names ≡ None = sym good.are_names.listed ∙ none in absurd cc)

  good_names : (number : ℕ) → ¬ IsBadName number good.list
  good_names number bad =
      let same = same_names good.list bad.names good.names bad.listed good.are_names.listed in
      let first = bad.bad.first in
      first.bad (All-there IsFileName good.names bad.bad.place first.name (subst (λ names. slice_get names bad.bad.place ≡ Some first.name) same first.there) good.are_names.good)

  found : (s : Status) → IsTrue (is_refusal s) → ¬ NoFarm (Some files) asked.arg s
  found (status.TooLong size.MachineText) is (inl long) = not_long files asked.arg good.list good.there long
  found (status.TooLong size.MachineText) is (inr other) =
      all_machines (status.TooLong size.MachineText) is (listed (λ names. NoMachines (Some files) names (status.TooLong size.MachineText)) other)
  found (status.Farm farm.Lines) is none = a_list (has_list IsNoList none)
  found (status.Farm (farm.Name number)) is none = good_names number (has_list (IsBadName number) none)
  found (status.Farm (farm.Machine number f)) is none =
      all_machines (status.Farm (farm.Machine number f)) is (listed (λ names. NoMachines (Some files) names (status.Farm (farm.Machine number f))) none)
  found status.Memory is none = absurd cc
  found status.Shelf is none = absurd cc
  found s is none = none

  answered : (s : Status) → IsTrue (is_refusal s) → (left taken taken' : Option (List ℕ)) → ¬ FarmedBy (Some files) asked (Some script) left taken taken' s
  answered (status.TooLong (size.Line n)) is left taken taken' farmed =
      let (read, (after, whole, rest_left), to) = farmed.has in
      not_too_long 4096 script read to.done to.rest after good.lines_fit whole to.parts to.whole to.stops.0
  answered (status.TooLong size.Lines) is left taken taken' farmed =
      let (read, (after, whole, rest_left), to) = farmed.has in
      not_too_many 1000000 script read to.done to.rest after good.few whole to.parts to.whole to.stops.0 (next-some 4096 (Some script) left to.rest to.stops.1)
  answered status.Done is left taken taken' farmed = absurd cc
  answered status.Memory is left taken taken' farmed = absurd cc
  answered status.Source is left taken taken' farmed = absurd cc
  answered status.Sink is left taken taken' farmed = absurd cc
  answered s is left taken taken' farmed = farmed.has

pub no_farm_is_refused : NoFarmIsRefused
no_farm_is_refused words files script asked good = record {
  no_usage = named_something words asked good.named;
  found = found words files script asked good;
  answered = answered words files script asked good;
}
