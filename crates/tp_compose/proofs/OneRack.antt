-- A text is of one rack at most.
use Rattle.std.proofs.Common.{◌≡◌, ℕ, List, Some, None, sym, ◌∙◌, subst}
use Rattle.toml.specs.Data.{Members}
use Rattle.tp_machine.specs.declared.machine.Machine.{Machine}
use Rattle.tp_machine_text.specs.Broken as machine_table
use Rattle.tp_machine_text.specs.TheMachine.{IsMachineOf}
use Rattle.tp_machine_text.specs.Texts.{IsToml}
use Rattle.tp_compose.specs.Broken.{first_broken}
use Rattle.tp_machine_text.specs.Order.{first_from}
use Rattle.tp_compose.specs.Racks.{own_names, first_ends}
use Rattle.tp_compose.specs.TypeRules.{type_rules}
use Rattle.tp_compose.specs.EndRules.{end_rules}
use Rattle.tp_compose.specs.Flat.{flat, flat_by}
use Rattle.tp_compose.specs.Texts.{flat_broken, IsMachineOfRack, IsSoundRack}

same_broken : (r u : Members) (n : ℕ) → Some r ≡ Some u → first_broken r ≡ None → first_broken u ≡ Some n → ⊥
same_broken r u n same none broken = let e : r ≡ u = cc in cc

same_flat : (r u : Members) (n : ℕ) → Some r ≡ Some u → flat_broken r ≡ None → flat_broken u ≡ Some n → ⊥
same_flat r u n same none broken =
    let e : r ≡ u = cc in
    let f : flat_broken r ≡ Some n = subst (λ x. flat_broken x ≡ Some n) (sym e) broken in
    cc (none, f)

pub sound_rack : (text : List ℕ) (r : Members) → IsToml text r → first_broken r ≡ None → flat_broken r ≡ None → IsSoundRack text
sound_rack text r toml none flat_none = (
  (λ no. no r toml),
  (λ n b. same_broken r b.0 n (sym toml.parses ∙ b.1.parses) none b.2),
  (λ n b. same_flat r b.0 n (sym toml.parses ∙ b.1.parses) flat_none b.3),
)

-- what is read of a table that is the flat one
pub rack_made : (r made : Members) (m : Machine) → first_broken r ≡ None → made ≡ flat r → IsMachineOf made m → machine_table.first_broken made ≡ None → IsMachineOfRack r m
unfolding flat_broken
rack_made r made m kept same is none = record { kept = kept; flat_kept = subst (λ t. machine_table.first_broken t ≡ None) same none; is_machine = subst (λ t. IsMachineOf t m) same is }

pub rack_refused : (r made : Members) (n : ℕ) → made ≡ flat r → machine_table.first_broken made ≡ Some n → flat_broken r ≡ Some n
unfolding flat_broken
rack_refused r made n same broken = subst (λ t. machine_table.first_broken t ≡ Some n) same broken

-- the rules of racks in two parts
pub told_late : (own firsts r : Members) (n : ℕ) → own ≡ own_names r → firsts ≡ first_ends r → first_from 1 (type_rules r) ≡ None → first_from 8 (end_rules own firsts r) ≡ Some n → first_broken r ≡ Some n
unfolding first_broken
told_late own firsts r n same_own same_firsts types told =
    rw types (subst (λ o. first_from 8 (end_rules o (first_ends r) r) ≡ Some n) same_own (subst (λ f. first_from 8 (end_rules own f r) ≡ Some n) same_firsts told))

pub flat_made : (own firsts r made : Members) → own ≡ own_names r → firsts ≡ first_ends r → first_from 1 (type_rules r) ≡ None → first_from 8 (end_rules own firsts r) ≡ None → made ≡ flat_by own firsts r → (first_broken r ≡ None) × (made ≡ flat r)
unfolding first_broken flat
flat_made own firsts r made same_own same_firsts types ends is = (
  rw types (subst (λ o. first_from 8 (end_rules o (first_ends r) r) ≡ None) same_own (subst (λ f. first_from 8 (end_rules own f r) ≡ None) same_firsts ends)),
  is ∙ (λ i. flat_by (same_own i) (same_firsts i) r),
)
