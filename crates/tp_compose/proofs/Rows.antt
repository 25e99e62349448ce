-- Each action of the machine of a rack is that of one pair.
use Rattle.std.proofs.Common.{◌≡◌, inl, inr, ℕ, List, [], ◌∷◌, map, Some, None, slice_get, refl, ap, sym, ◌∙◌, subst}
use Rattle.std.specs.Prelude.{codes, Contains}
use Rattle.toml.specs.Data.{Data, Members}
use Rattle.tp_machine.specs.ModuleUse.{action_at}
use Rattle.tp_machine.specs.declared.parts.ActId.{ActId}
use Rattle.tp_machine.specs.declared.parts.Action.{Action}
use Rattle.tp_machine.specs.declared.machine.Machine.{Machine}
use Rattle.tp_machine_text.specs.Words.{keys_of, elements_at, text_at}
use Rattle.tp_machine_text.specs.Keys as text
use Rattle.tp_machine_text.specs.Broken as machine_table
use Rattle.tp_machine_text.specs.Kept.{KeepsRules}
use Rattle.tp_machine_text.specs.TheMachine.{action_of}
use Rattle.tp_machine_text.proofs.Kept as table
use Rattle.tp_machine_text.proofs.KeptFacts.{names_parts}
use Rattle.tp_compose.specs.Racks.{types, parts, type_actions, typed_parts, hyphened, own_names, first_ends}
use Rattle.tp_compose.specs.Flat.{flat_action, part_actions, actions, flat}
use Rattle.tp_compose.specs.Texts.{flat_broken, IsMachineOfRack}
use Rattle.tp_compose.specs.Walks.{Pair, IsPair, IsPairOf}
use Rattle.tp_compose.proofs.Lists.{In, Apart, apart_of, in_any, any_in, in_contained, contained_in, in_map, in_map_back, in_flat_back, in_slice}
use Rattle.tp_compose.proofs.SpelledNames.{short_lacks, split}
use Rattle.tp_compose.proofs.KeptRack.{KeepsRackRules, kept}
use Rattle.tp_compose.proofs.EndFacts.{deeds, one_type, part_short}
use Rattle.tp_compose.proofs.FlatFacts.{modules_are, actions_are, action_name}

-- the part of a pair with its type, and the pair's action among the type's
pub record IsRow (r : Members) (x : Pair) : Type 0 where
  pub kind : Data
  pub part : In (typed_parts r) (x.0, kind)
  pub action : In (type_actions kind) x.1

row_of : (r : Members) (x : Pair) → IsPair r x → IsRow r x
row_of r x is =
    let (p, part, both) = in_any (λ p. (p.0 ≡ x.0) × Contains (type_actions p.1) x.1) (typed_parts r) is in
    record { kind = p.1; part = subst (λ n. In (typed_parts r) (n, p.1)) both.0 part; action = in_contained (type_actions p.1) x.1 both.1 }

pair_of_row : (r : Members) (x : Pair) → IsRow r x → IsPair r x
pair_of_row r x row = any_in (λ p. (p.0 ≡ x.0) × Contains (type_actions p.1) x.1) (typed_parts r) (x.0, row.kind) row.part (refl, contained_in (type_actions row.kind) x.1 row.action)

pub flat_none : (r : Members) → flat_broken r ≡ None → machine_table.first_broken (flat r) ≡ None
unfolding flat_broken
flat_none r none = none

one_named : (f : Data → List ℕ) (ds : List Data) (d e : Data) → Apart (map f ds) → In ds d → In ds e → f d ≡ f e → d ≡ e
one_named f [] d e apart in_d in_e same = elim in_d [ ]
one_named f (x ∷ xs) d e apart (inl a) (inl b) same = sym a ∙ b
one_named f (x ∷ xs) d e apart (inl a) (inr b) same = absurd (apart.0 (subst (λ t. In (map f xs) t) (sym same ∙ ap f (sym a)) (in_map f xs e b)))
one_named f (x ∷ xs) d e apart (inr a) (inl b) same = absurd (apart.0 (subst (λ t. In (map f xs) t) (same ∙ ap f (sym b)) (in_map f xs d a)))
one_named f (x ∷ xs) d e apart (inr a) (inr b) same = one_named f xs d e apart.1 a b same

module _ (r : Members) (m : Machine) (is : IsMachineOfRack r m) where
  abbrev pub rules : KeepsRackRules r
  rules = kept r is.kept

  abbrev pub flat_rules : KeepsRules (flat r)
  flat_rules = table.kept (flat r) (flat_none r is.flat_kept)

  abbrev pub action_by : Data → Action
  action_by d = action_of (text.locations (flat r)) (text.modules (flat r)) (text.resources (flat r)) d

  abbrev pub flat_by_pair : Pair → Data
  flat_by_pair x = flat_action (own_names r) (first_ends r) x.0 x.1

  actions_made : m.actions ≡ map action_by (actions (own_names r) (first_ends r) r)
  actions_made = is.is_machine.actions ∙ ap (map action_by) (actions_are r)

  parts_apart : Apart (keys_of (parts r))
  parts_apart = subst (λ t. Apart t) (modules_are r) (apart_of (text.modules (flat r)) (names_parts 64 (elements_at (codes "modules") (flat r)) flat_rules.modules).differ)

  -- pairs of one name are one pair
  one_pair : (x y : Pair) → IsRow r x → IsRow r y → hyphened x.0 (text_at (codes "name") x.1) ≡ hyphened y.0 (text_at (codes "name") y.1) → x ≡ y
  one_pair x y rx ry same =
      let sx = short_lacks 45 x.0 refl (part_short r rules x.0 rx.kind rx.part) in
      let sy = short_lacks 45 y.0 refl (part_short r rules y.0 ry.kind ry.part) in
      let (part, name) = split x.0 y.0 (text_at (codes "name") x.1) (text_at (codes "name") y.1) sx sy same in
      let kind = one_type (types r) (parts r) x.0 rx.kind ry.kind parts_apart rx.part (subst (λ n. In (typed_parts r) (n, ry.kind)) (sym part) ry.part) in
      let action = subst (λ t. In (type_actions t) y.1) (sym kind) ry.action in
      let differ = (deeds r rules x.0 rx.kind x.1 rx.part rx.action).differ in
      let deed = one_named (text_at (codes "name")) (type_actions rx.kind) x.1 y.1 (apart_of (map (text_at (codes "name")) (type_actions rx.kind)) differ) rx.action action name in
      λ i. (part i, deed i)

  -- the action of a number is that of a row
  pub record HasRow (a : Action) : Type 0 where
    pub pair : Pair
    pub row : IsRow r pair
    pub makes : action_by (flat_by_pair pair) ≡ a

  has_row : (n : ℕ) (a : Action) → slice_get m.actions n ≡ Some a → HasRow a
  has_row n a at =
      let within = in_slice (map action_by (actions (own_names r) (first_ends r) r)) n a (subst (λ t. slice_get t n ≡ Some a) actions_made at) in
      let (d, in_d, made) = in_map_back action_by (actions (own_names r) (first_ends r) r) a within in
      let (p, part, here) = in_flat_back (part_actions (own_names r) (first_ends r)) (typed_parts r) d in_d in
      let (deed, in_deed, flat_is) = in_map_back (flat_action (own_names r) (first_ends r) p.0) (type_actions p.1) d here in
      record { pair = (p.0, deed); row = record { kind = p.1; part = part; action = in_deed }; makes = ap action_by flat_is ∙ made }

  -- what a pair's action is
  pub record IsLike (act : ActId) (x : Pair) : Type 0 where
    pub row : IsRow r x
    pub at : action_at m act.0 ≡ Some (action_by (flat_by_pair x))

  pub like_of : (act : ActId) (x : Pair) → IsPairOf r m act x → IsLike act x
  like_of act x p =
      let h = has_row act.0 p.action p.is_action in
      let row = row_of r x p.is_pair in
      let name = sym (action_name (own_names r) (first_ends r) h.pair.0 h.pair.1 (text.locations (flat r)) (text.modules (flat r)) (text.resources (flat r))) ∙ ap (λ a. a.name) h.makes ∙ p.named in
      let same = one_pair h.pair x h.row row name in
      record { row = row; at = p.is_action ∙ ap Some (sym h.makes ∙ ap (λ y. action_by (flat_by_pair y)) same) }

  pub the_pair : (act : ActId) (a : Action) → action_at m act.0 ≡ Some a → (x : Pair) × IsPairOf r m act x × ((y : Pair) → IsPairOf r m act y → y ≡ x)
  the_pair act a at =
      let h = has_row act.0 a at in
      let name = sym (ap (λ b. b.name) h.makes) ∙ action_name (own_names r) (first_ends r) h.pair.0 h.pair.1 (text.locations (flat r)) (text.modules (flat r)) (text.resources (flat r)) in (
        h.pair,
        record { is_pair = pair_of_row r h.pair h.row; action = a; is_action = at; named = name },
        (λ y p.
            let both : p.action ≡ a = cc (p.is_action, at) in
            one_pair y h.pair (row_of r y p.is_pair) h.row (sym p.named ∙ ap (λ b. b.name) both ∙ name)),
      )
