-- What holds of what a call answers holds of what is made of it.
use Rattle.std.proofs.Common.{◌≡◌, ◌∙◌, ℕ, List, inr, Option, Some, None, Result, Ok, Err, sym, subst, codes}
use Rattle.std.proofs.lemmas.Option.{same_Some}
use Rattle.std.specs.Result.{IfErr, IfOk}
use Rattle.serde_json.specs.Data.{Data}
use Rattle.serde_json.specs.Find.{as_str}
use Rattle.tp_base.specs.declared.errors.Memory.{Memory}
use Rattle.tp_machine.specs.declared.machine.Machine.{Machine}
use Rattle.tp_machine_text.specs.Broken.{first_broken}
use Rattle.tp_machine_text.specs.Texts.{IsBrokenAt, IsMachineText}
use Rattle.tp_session_standing.specs.Sound.{IsSound}
use Rattle.tp_snapshot.proofs.Soundness.{is-sound}
use Rattle.tp_snapshot.specs.declared.fault.SnapFault.{SnapFault}
use Rattle.tp_snapshot.specs.declared.fault.SnapFault.TheVariants as fault
use Rattle.tp_snapshot.specs.declared.snapshot_reader.Opened.{Opened}
use Rattle.tp_snapshot.specs.Rules.{Breaks, BreaksOf, HasKeys, HasMachine, KeepsRules}
use Rattle.tp_snapshot.specs.Values.{field_of}

ok-map : {X E : Type 0} (P Q : X → Type 0) (r : Result X E) → ((x : X) → P x → Q x) → IfOk r P → IfOk r Q
ok-map P Q (Ok x) f h = f x h
ok-map P Q (Err e) f h = tt

err-map : {X E : Type 0} (P Q : E → Type 0) (r : Result X E) → ((e : E) → P e → Q e) → IfErr r P → IfErr r Q
err-map P Q (Ok x) f h = tt
err-map P Q (Err e) f h = f e h

-- a text that breaks a rule is of no machine
pub no-text : (n : ℕ) (text : List ℕ) (machine : Machine) → IsBrokenAt n text → ¬ IsMachineText text machine
no-text n text machine (t, toml, broken) (u, toml', kept, is) =
    let same = same_Some u t (sym toml'.parses ∙ toml.parses) in
    let none = subst (λ v. first_broken v ≡ None) same kept in
    let apart : None ≡ Some n = sym none ∙ broken in
    absurd cc

-- where the text of the value is of no machine, the value has none
pub no-machine : (d : Data) (text : List ℕ) → field_of (codes "machine") as_str d ≡ Some text → (r : Result (Option Machine) Memory) → IfOk r (λ read. read ≡ None → (machine : Machine) → ¬ IsMachineText text machine) → IfOk r (λ read. read ≡ None → (machine : Machine) → ¬ HasMachine d machine)
no-machine d text at r all =
    ok-map (λ read. read ≡ None → (machine : Machine) → ¬ IsMachineText text machine) (λ read. read ≡ None → (machine : Machine) → ¬ HasMachine d machine) r
    (λ read never none machine has. never none machine (subst (λ (x : List ℕ). IsMachineText x machine) (same_Some has.text text (sym has.at ∙ at)) has.of_machine)) all

-- a rule that is the first to be broken with the machine is the first that the value breaks
pub breaks-rule : (d : Data) (m : Machine) → HasKeys d → HasMachine d m → (r : Result Opened SnapFault) → IfErr r (λ e. (n : ℕ) → e ≡ fault.Rule n → BreaksOf n m d) → IfErr r (λ e. (n : ℕ) → e ≡ fault.Rule n → Breaks n d)
breaks-rule d m keys has r all =
    err-map (λ (e : SnapFault). (n : ℕ) → e ≡ fault.Rule n → BreaksOf n m d) (λ (e : SnapFault). (n : ℕ) → e ≡ fault.Rule n → Breaks n d) r
    (λ e broken n is. inr (inr (record { keys = keys; machine = m; has = has; breaks = broken n is }))) all

-- what keeps the rules is sound
pub sound-read : (d : Data) (r : Result Opened SnapFault) → IfOk r (λ o. KeepsRules d o.machine o.standing) → IfOk r (λ o. IsSound o.machine o.standing)
sound-read d r all = ok-map (λ (o : Opened). KeepsRules d o.machine o.standing) (λ (o : Opened). IsSound o.machine o.standing) r (λ o keeps. is-sound o.machine d o.standing keeps.kept) all
