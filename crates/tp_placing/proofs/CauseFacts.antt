-- The causes of a board's edges, and the hops that the edges are with them.
use Rattle.std.proofs.Common.{◌≡◌, ℕ, ◌+◌, ◌-◌, ◌<◌, ◌≤◌, ◌⊎◌, inl, inr, List, [], ◌∷◌, ◌++◌, length, map, refl, ap, sym, ◌∙◌, subst, arith, Option, Some, None, All, get_or}
use Rattle.std.specs.Prelude.{slice_get, slice_set, unwrap_or}
use Rattle.std.proofs.lemmas.Bool.{cases_lt}
use Rattle.std.proofs.lemmas.List.{length-append, length-set, map-append, get_or-set_same, get_or-set_other}
use Rattle.std.proofs.lemmas.List.Elements.{All-append, All-map}
use Rattle.std.proofs.lemmas.Option.{slice_get_past, slice_get_within, slice_get-get_or, same_Some}
use Rattle.tp_base.proofs.SliceFacts.{found}
use Rattle.tp_base.specs.Net.{Net}
use Rattle.tp_base.specs.declared.edges.Edge.{Edge}
use Rattle.tp_machine.specs.declared.machine.Machine.{Machine}
use Rattle.tp_schedule.specs.Spots.{Spot}
use Rattle.tp_schedule.specs.Spots.Spot.{own}
use Rattle.tp_schedule.specs.declared.parts.Ask.{Ask}
use Rattle.tp_schedule.specs.declared.parts.Plan.{Plan}
use Rattle.tp_choices.proofs.Lists.{All-map_from}
use Rattle.tp_constraints.specs.Hops.{Hop, IsHop}
use Rattle.tp_constraints.specs.Numbers.{table_of}
use Rattle.tp_constraints.specs.Suffixes.{Suffix}
use Rattle.tp_placing.specs.declared.causes.EdgeCause.{EdgeCause}
use Rattle.tp_placing.specs.declared.parts.Held.{Held}
use Rattle.tp_placing.specs.declared.parts.Step.{Step}
use Rattle.tp_placing.specs.Boards.{suffix_after}
use Rattle.tp_placing.specs.Causes.{ArePlain, IsNamedHop, IsSafe, step_tag, step_causes, cause_between, cause_after, cause_until, causes_around, hop_by, kind_of, numbered}
use Rattle.tp_placing.specs.LoadedBoard.{AreCaused, choices_of, table_with}
use Rattle.tp_placing.proofs.TableFacts.{length-table, table-left, table-own}

-- a point that a table has is that of its number
pub numbered-in : (plans : List Plan) (count i : ℕ) (s : Spot) → slice_get (table_with plans count) i ≡ Some s → numbered plans i ≡ s
numbered-in plans count i s at = elim (cases_lt i (length (table_of plans))) [
  | inl below ↦ (
      let f = found (table_of plans) i below in
      let same : f.0 ≡ s = same_Some f.0 s (sym (table-left plans count i f.0 f.1) ∙ at) in
      ap (λ o. unwrap_or o (own (i - length (table_of plans)))) f.1 ∙ same)
  | inr behind ↦ (
      let n = i - length (table_of plans) in
      let l = length-table plans count in
      let w = slice_get_within (table_with plans count) i s at in
      let e : i ≡ length (table_of plans) + n = omega arith in
      let there = table-own plans count n (omega arith) in
      let same : own n ≡ s = same_Some (own n) s (sym there ∙ ap (λ k. slice_get (table_with plans count) k) (sym e) ∙ at) in
      ap (λ o. unwrap_or o (own n)) (slice_get_past (table_of plans) i behind) ∙ same)
]

-- tags over which no step after so many writes
abbrev pub IsSafeTag : ℕ → ℕ → Type 0
IsSafeTag steps tag = (tag < step_tag steps) ⊎ (step_causes ≤ tag)

-- the causes of these tags stay
pub record Keeps (steps : ℕ) (causes causes' : List EdgeCause) : Type 0 where
  pub length_same : length causes' ≡ length causes
  pub get_same : (tag : ℕ) → IsSafeTag steps tag → slice_get causes' tag ≡ slice_get causes tag

pub keeps-all : (steps : ℕ) (causes : List EdgeCause) → Keeps steps causes causes
keeps-all steps causes = record { length_same = refl; get_same = λ tag safe. refl }

pub plain-kept : (steps : ℕ) (causes causes' : List EdgeCause) → Keeps steps causes causes' → ArePlain causes → ArePlain causes'
plain-kept steps causes causes' k p =
    let l = k.length_same in
    let s = p.slots in
    record {
      forward = k.get_same 0 (inl (omega arith)) ∙ p.forward;
      back = k.get_same 1 (inl (omega arith)) ∙ p.back;
      line = k.get_same 2 (inl (omega arith)) ∙ p.line;
      stop = k.get_same 3 (inl (omega arith)) ∙ p.stop;
      limit = k.get_same 4 (inl (omega arith)) ∙ p.limit;
      slots = omega arith;
    }

safe-later : (n k : ℕ) (e : Edge) → n ≤ k → IsSafe n e → IsSafe k e
safe-later n k e le (inl below) = inl (omega arith)
safe-later n k e le (inr behind) = inr behind

pub all-safe-later : (n k : ℕ) (es : List Edge) → n ≤ k → All (IsSafe n) es → All (IsSafe k) es
all-safe-later n k es le all = λ i d w. safe-later n k (get_or es i d) le (all i d w)

-- the hops stay with the causes
pub hops-kept : (machine : Machine) (plans : List Plan) (ask : Ask) (x : Suffix) (steps : ℕ) (causes causes' : List EdgeCause) (es : List Edge) → Keeps steps causes causes' → All (IsSafe steps) es
    → All (IsNamedHop machine plans ask x causes) es → All (IsNamedHop machine plans ask x causes') es
hops-kept machine plans ask x steps causes causes' es k safe hops i d w =
    let e = get_or es i d in
    let h = hops i d w in
    let l = k.length_same in
    let t = h.tag in
    record {
      tag = omega arith;
      is_hop = subst (λ c. IsHop machine plans ask x (record { kind = kind_of plans c; gap = (hop_by plans causes e).gap })) (sym (k.get_same e.tag (safe i d w))) h.is_hop;
    }

pub caused-kept : (machine : Machine) (plans : List Plan) (ask : Ask) (count : ℕ) (causes causes' : List EdgeCause) (steps : List Step) (n : Net) → Keeps count causes causes' → length steps ≤ count
    → AreCaused machine plans ask causes steps n → AreCaused machine plans ask causes' steps n
caused-kept machine plans ask count causes causes' steps n k le c = record {
  hops = hops-kept machine plans ask (choices_of (suffix_after steps)) count causes causes' n.edges k (all-safe-later (length steps) count n.edges le c.safe) c.hops;
  safe = c.safe;
}

-- edges that are these hops, with causes that are kept
pub record AreMade (steps : ℕ) (plans : List Plan) (causes : List EdgeCause) (es : List Edge) (hs : List Hop) : Type 0 where
  pub hops : map (hop_by plans causes) es ≡ hs
  pub tags : All (λ e. e.tag < length causes) es
  pub safe : All (IsSafe steps) es

-- the edges of a list, and those that a change adds, are hops of the changed list
pub hops-more : (machine : Machine) (plans : List Plan) (ask : Ask) (x y : Suffix) (steps : ℕ) (causes : List EdgeCause) (es new : List Edge) (hs : List Hop) → All (IsNamedHop machine plans ask x causes) es
    → AreMade steps plans causes new hs → ((os : List Hop) → All (IsHop machine plans ask x) os → All (IsHop machine plans ask y) (os ++ hs)) → All (IsNamedHop machine plans ask y causes) (es ++ new)
hops-more machine plans ask x y steps causes es new hs old made lift =
    let before : All (IsHop machine plans ask x) (map (hop_by plans causes) es) = All-map (IsHop machine plans ask x) (hop_by plans causes) es (λ i d w. (old i d w).is_hop) in
    let same : map (hop_by plans causes) es ++ hs ≡ map (hop_by plans causes) (es ++ new) = ap (λ q. map (hop_by plans causes) es ++ q) (sym made.hops) ∙ sym (map-append (hop_by plans causes) es new) in
    let after = All-map_from (IsHop machine plans ask y) (hop_by plans causes) (es ++ new) (subst (All (IsHop machine plans ask y)) same (lift (map (hop_by plans causes) es) before)) in
    let tags = All-append (λ e. e.tag < length causes) es new (λ i d w. (old i d w).tag) made.tags in
    λ i d w. record { tag = tags i d w; is_hop = after i d w }

-- the causes after one step more
pub caused-more : (machine : Machine) (plans : List Plan) (ask : Ask) (x y : Suffix) (causes : List EdgeCause) (steps : List Step) (s : Step) (n n' : Net) (new : List Edge) (hs : List Hop)
    → choices_of (suffix_after steps) ≡ x → choices_of (suffix_after (steps ++ s ∷ [])) ≡ y → n'.edges ≡ n.edges ++ new
    → AreCaused machine plans ask causes steps n → AreMade (length steps + 1) plans causes new hs → ((os : List Hop) → All (IsHop machine plans ask x) os → All (IsHop machine plans ask y) (os ++ hs))
    → AreCaused machine plans ask causes (steps ++ s ∷ []) n'
caused-more machine plans ask x y causes steps s n n' new hs before after edges c made lift =
    let l = length-append steps (s ∷ []) in
    let e : length (steps ++ s ∷ []) ≡ length steps + 1 = omega arith in
    let old = subst (λ z. All (IsNamedHop machine plans ask z causes) n.edges) before c.hops in
    let all = hops-more machine plans ask x y (length steps + 1) causes n.edges new hs old made lift in
    let safe = All-append (IsSafe (length steps + 1)) n.edges new (all-safe-later (length steps) (length steps + 1) n.edges (omega arith) c.safe) made.safe in
    record {
      hops = subst (λ z. All (IsNamedHop machine plans ask z causes) n'.edges) (sym after) (subst (All (IsNamedHop machine plans ask y causes)) (sym edges) all);
      safe = subst (λ k. All (IsSafe k) n'.edges) (sym e) (subst (All (IsSafe (length steps + 1))) (sym edges) safe);
    }

-- a cause that is written, and one that isn't
pub set-same : (causes : List EdgeCause) (tag : ℕ) (c : EdgeCause) → tag < length causes → slice_get (slice_set causes tag c) tag ≡ Some c
set-same causes tag c within =
    let l = length-set causes tag c in
    slice_get-get_or (slice_set causes tag c) tag c (omega arith) ∙ ap Some (get_or-set_same causes tag c c within)

pub set-other : (causes : List EdgeCause) (tag other : ℕ) (c : EdgeCause) → (other ≡ tag → ⊥) → slice_get (slice_set causes tag c) other ≡ slice_get causes other
set-other causes tag other c ne = elim (cases_lt other (length causes)) [
  | inl below ↦ (
      let l = length-set causes tag c in
      slice_get-get_or (slice_set causes tag c) other c (omega arith) ∙ ap Some (get_or-set_other causes tag other c c ne) ∙ sym (slice_get-get_or causes other c below))
  | inr behind ↦ (
      let l = length-set causes tag c in
      slice_get_past (slice_set causes tag c) other (omega arith) ∙ sym (slice_get_past causes other behind))
]

-- the causes of a hold's neighbours are written over none that stays
module _ (before behind : Option Held) (h : Held) (causes : List EdgeCause) (tag : ℕ) where
  length-after : (o : Option Held) (k : ℕ) (cs : List EdgeCause) → length (cause_after o h k cs) ≡ length cs
  length-after None k cs = refl
  length-after (Some x) k cs = length-set cs k (cause_between x h)

  length-until : (o : Option Held) (k : ℕ) (cs : List EdgeCause) → length (cause_until h o k cs) ≡ length cs
  length-until None k cs = refl
  length-until (Some y) k cs = length-set cs k (cause_between h y)

  pub length-around : length (causes_around before h behind tag causes) ≡ length causes
  length-around = length-until behind (tag + 1) (cause_after before h tag causes) ∙ length-after before tag causes

  other-after : (o : Option Held) (k other : ℕ) (cs : List EdgeCause) → (other ≡ k → ⊥) → slice_get (cause_after o h k cs) other ≡ slice_get cs other
  other-after None k other cs ne = refl
  other-after (Some x) k other cs ne = set-other cs k other (cause_between x h) ne

  other-until : (o : Option Held) (k other : ℕ) (cs : List EdgeCause) → (other ≡ k → ⊥) → slice_get (cause_until h o k cs) other ≡ slice_get cs other
  other-until None k other cs ne = refl
  other-until (Some y) k other cs ne = set-other cs k other (cause_between h y) ne

  pub other-around : (other : ℕ) → (other ≡ tag → ⊥) → (other ≡ tag + 1 → ⊥) → slice_get (causes_around before h behind tag causes) other ≡ slice_get causes other
  other-around other one two = other-until behind (tag + 1) other (cause_after before h tag causes) two ∙ other-after before tag other causes one

  pub before-around : (x : Held) → before ≡ Some x → tag < length causes → slice_get (causes_around before h behind tag causes) tag ≡ Some (cause_between x h)
  before-around x is within =
      other-until behind (tag + 1) tag (cause_after before h tag causes) (λ e. omega (arith, e)) ∙ ap (λ o. slice_get (cause_after o h tag causes) tag) is ∙ set-same causes tag (cause_between x h) within

  pub behind-around : (y : Held) → behind ≡ Some y → tag + 1 < length causes → slice_get (causes_around before h behind tag causes) (tag + 1) ≡ Some (cause_between h y)
  behind-around y is within =
      let l = length-after before tag causes in
      ap (λ o. slice_get (cause_until h o (tag + 1) (cause_after before h tag causes)) (tag + 1)) is ∙ set-same (cause_after before h tag causes) (tag + 1) (cause_between h y) (omega arith)

pub keeps-around : (before behind : Option Held) (h : Held) (causes : List EdgeCause) (steps : ℕ) → step_tag steps + 1 < step_causes → Keeps steps causes (causes_around before h behind (step_tag steps) causes)
keeps-around before behind h causes steps room = record {
  length_same = length-around before behind h causes (step_tag steps);
  get_same = λ other safe. other-around before behind h causes (step_tag steps) other (λ e. apart other safe 0 (omega arith) (omega (arith, e))) (apart other safe 1 (omega arith));
} where
  apart : (other : ℕ) → IsSafeTag steps other → (k : ℕ) → k ≤ 1 → other ≡ step_tag steps + k → ⊥
  apart other (inl below) k le e = omega (arith, below, e)
  apart other (inr behind') k le e = omega (arith, behind', e)
