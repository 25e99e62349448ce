-- Where everything is in order, the text that is named is the one that the shelf tells, and no cause of a refusal holds.
use Rattle.std.proofs.Common.{◌≡◌, ◌≢◌, ℕ, ◌<◌, ◌≤◌, List, length, Option, Some, None, inl, inr, sym, subst, ◌∙◌, arith}
use Rattle.std.specs.Prelude.{IsSomeAnd, IsTrue}
use Rattle.tp_outside.specs.Outside.{Files, file_at}
use Rattle.tp_command.specs.Form.{Asked, form}
use Rattle.tp_compose.specs.Texts.{IsFlatBrokenAt, IsRackBrokenAt}
use Rattle.tp_compose.specs.declared.rack_machine.RackFault.TheVariants as rack
use Rattle.tp_machine.specs.declared.machine.Machine.{Machine}
use Rattle.tp_machine_text.specs.Texts.{IsBrokenAt, IsMachineText, IsNotToml, IsSound}
use Rattle.tp_machine_text.specs.declared.machine_reader.MachineFault.TheVariants as fault
use Rattle.tp_machine_text.proofs.OneTable.{sound}
use Rattle.tp_stream.specs.declared.stop.Stop.TheVariants as stop
use Rattle.tp_program.specs.ComposeEnds.{NoRack, WritesComposed}
use Rattle.tp_program.specs.InOrder.{IsRackInOrder, IsRunInOrder, IsThere, NoRackIsRefused, NoRunIsRefused, is_refusal}
use Rattle.tp_program.specs.Runs.{NoMachine, RanBy}
use Rattle.tp_program.specs.SaveEnds.{SavedBy}
use Rattle.tp_program.specs.Texts.{IsLongText, IsShelved, most_text}
use Rattle.tp_program.specs.declared.status.Long.TheVariants as size
use Rattle.tp_program.specs.declared.status.Status.{Status}
use Rattle.tp_program.specs.declared.status.Status.TheVariants as status
use Rattle.tp_stream.proofs.NextLines.{next-some}
use Rattle.tp_program.proofs.Sizes.{not_too_long, not_too_many}

not_longer : (n : ℕ) → n ≤ most_text → most_text < n → ⊥
not_longer n fits long = omega (arith, fits, long)

pub named_something : (words : List (List ℕ)) (asked : Asked) → form words ≡ Some asked → form words ≢ None
named_something words asked named none = (let some : Some asked ≡ None = sym named ∙ none in absurd cc)

-- the text of a name that is there
module _ (files : Files) (name text : List ℕ) (there : IsThere files name text) where
  same_text : (P : List ℕ → Type 0) (named : IsShelved (Some files) name P) → named.text ≡ text
  same_text P named =
      let known : file_at files name ≡ Some named.text = named.is_known in
      let here : file_at files name ≡ Some text = there.is_known in
      cc

  pub has : (P : List ℕ → Type 0) → IsShelved (Some files) name P → P text
  has P named = subst P (same_text P named) named.has

  pub not_long : ¬ IsLongText (Some files) name
  not_long long = not_longer (length text) there.fits (subst (λ found. IsSomeAnd found (λ text. most_text < length text)) there.is_known long)

-- the text of a machine
module _ (files : Files) (name text : List ℕ) (there : IsThere files name text) (machine : Machine) (is_text : IsMachineText text machine) where
  is_sound : IsSound text
  is_sound = sound text is_text.0 is_text.1 is_text.2

  pub found_machine : (s : Status) → IsTrue (is_refusal s) → ¬ NoMachine (Some files) name s
  found_machine (status.Machine fault.NotToml) is none = is_sound.0 (has files name text there IsNotToml none)
  found_machine (status.Machine (fault.Rule n)) is none = is_sound.1 n (has files name text there (IsBrokenAt n) none)
  found_machine (status.Machine fault.Memory) is none = none
  found_machine (status.TooLong size.MachineText) is none = not_long files name text there none
  found_machine status.Memory is none = absurd cc
  found_machine status.Shelf is none = absurd cc
  found_machine s is none = none

module _ (words : List (List ℕ)) (files : Files) (script : List ℕ) (asked : Asked) (good : IsRunInOrder words files script asked) where
  answered : (s : Status) → IsTrue (is_refusal s) → (left taken taken' : Option (List ℕ)) → ¬ RanBy (Some files) asked (Some script) left taken taken' s
  answered (status.TooLong (size.Line n)) is left taken taken' ran =
      let (read, (after, whole, rest_left), to, promises) = ran.did in
      not_too_long 4096 script read to.done to.rest after good.lines_fit whole to.parts to.whole to.stops.0
  answered (status.TooLong size.Lines) is left taken taken' ran =
      let (read, (after, whole, rest_left), to, promises) = ran.did in
      not_too_many 1000000 script read to.done to.rest after good.few whole to.parts to.whole to.stops.0 (next-some 4096 (Some script) left to.rest to.stops.1)
  answered status.Done is left taken taken' ran = absurd cc
  answered status.Memory is left taken taken' ran = absurd cc
  answered status.Source is left taken taken' ran = absurd cc
  answered status.Sink is left taken taken' ran = absurd cc
  answered s is left taken taken' ran = ran.did

  saved : (s : Status) → IsTrue (is_refusal s) → (left taken taken' : Option (List ℕ)) → ¬ SavedBy (Some files) asked (Some script) left taken taken' s
  saved (status.TooLong (size.Line n)) is left taken taken' ran = elim ran.did [
    | inl stops ↦
        (let (read, (after, whole, rest_left), to) = stops in
        not_too_long 4096 script read to.done to.rest after good.lines_fit whole to.parts to.whole to.stops.0)
    | inr none ↦ none
  ]
  saved (status.TooLong size.Lines) is left taken taken' ran = elim ran.did [
    | inl stops ↦
        (let (read, (after, whole, rest_left), to) = stops in
        not_too_many 1000000 script read to.done to.rest after good.few whole to.parts to.whole to.stops.0 (next-some 4096 (Some script) left to.rest to.stops.1))
    | inr none ↦ none
  ]
  saved status.Done is left taken taken' ran = absurd cc
  saved status.Memory is left taken taken' ran = absurd cc
  saved status.Source is left taken taken' ran = absurd cc
  saved status.Sink is left taken taken' ran = absurd cc
  saved s is left taken taken' ran = ran.did

pub no_run_is_refused : NoRunIsRefused
no_run_is_refused words files script asked good = record {
  no_usage = named_something words asked good.named;
  found = found_machine files asked.arg good.text good.there good.machine good.is_text;
  answered = answered words files script asked good;
  saved = saved words files script asked good;
}

module _ (words : List (List ℕ)) (files : Files) (asked : Asked) (good : IsRackInOrder words files asked) where
  has_rack : (P : List ℕ → Type 0) → IsShelved (Some files) asked.arg P → P good.text
  has_rack = has files asked.arg good.text good.there

  composed : (s : Status) → IsTrue (is_refusal s) → ¬ NoRack (Some files) asked.arg s
  composed (status.Rack rack.NotToml) is none = good.is_rack.0 (has_rack IsNotToml none)
  composed (status.Rack (rack.Rule n)) is none = good.is_rack.1 n (has_rack (IsRackBrokenAt n) none)
  composed (status.Rack (rack.Flat n)) is none = good.is_rack.2 n (has_rack (IsFlatBrokenAt n) none)
  composed (status.Rack rack.Memory) is none = none
  composed (status.TooLong size.MachineText) is none = not_long files asked.arg good.text good.there none
  composed status.Memory is none = absurd cc
  composed status.Shelf is none = absurd cc
  composed s is none = none

  written : (s : Status) → IsTrue (is_refusal s) → (taken taken' : Option (List ℕ)) → ¬ WritesComposed (Some files) asked.arg taken taken' s
  written status.Done is taken taken' wrote = absurd cc
  written status.Sink is taken taken' wrote = absurd cc
  written s is taken taken' wrote = wrote.has.1

pub no_rack_is_refused : NoRackIsRefused
no_rack_is_refused words files asked good = record {
  no_usage = named_something words asked good.named;
  found = composed words files asked good;
  written = written words files asked good;
}
