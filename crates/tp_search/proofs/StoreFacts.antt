-- A store that grows: what was stored stays, in its place.
use Rattle.std.proofs.Common.{◌≡◌, ◌==◌, inl, inr, ℕ, ◌≤◌, Bool, true, false, if◌then◌else◌, List, [], ◌∷◌, ◌++◌, length, take, Contains, Option, Some, None, refl, sym, ap, subst, ◌∙◌, arith}
use Rattle.std.proofs.lemmas.Bool.{cases_lt}
use Rattle.std.proofs.lemmas.List.{append-nil, append_assoc, get_or_append_left, length-append, take-append-le}
use Rattle.std.proofs.lemmas.List.Elements.{Contains-append_left, Contains-push, Contains-push_cases}
use Rattle.tp_pool.specs.Entries.{Entry, IsParentOf, choices_before}
use Rattle.tp_pool.specs.declared.choice.Choice.{Choice as Stored}
use Rattle.tp_search.specs.Limits.{IsLimitKept}
use Rattle.tp_search.specs.declared.store.Limit.{Limit}
use Rattle.tp_search.specs.declared.store.Limit.TheVariants.{By, Sought, Unsought}
use Rattle.tp_search.specs.Stores.{StoreGrows, StoreValue, after_keep, entry_of, with_list}

-- the choices of a parent that was stored stay
pub choices-stay : (entries new : List Entry) (stored : ℕ) (parent : Option ℕ) → IsParentOf stored parent → stored ≤ length entries → choices_before (entries ++ new) parent ≡ choices_before entries parent
choices-stay entries new stored None known within = refl
choices-stay entries new stored (Some node) known within =
    ap (λ (e : Entry). e.choices) (get_or_append_left entries new (record { choices = []; bound = 0 }) node (omega arith))

pub limit-itself : (limit : Limit) → IsLimitKept limit limit
limit-itself Unsought = refl
limit-itself Sought = tt
limit-itself (By l) = refl

pub limit-trans : (a b c : Limit) → IsLimitKept a b → IsLimitKept b c → IsLimitKept a c
limit-trans Unsought b c first second = subst (λ l. IsLimitKept l c) first second
limit-trans Sought b c first second = tt
limit-trans (By l) b c first second = subst (λ m. IsLimitKept m c) first second

pub grows-itself : (s : StoreValue) → StoreGrows s s
grows-itself s = record {
  new = [];
  entries = sym (append-nil s.entries);
  capacity = refl;
  base = refl;
  width = refl;
  stay = λ node waits. waits;
  come = λ node from below. absurd (omega arith);
  only = λ node waits. inl waits;
  as_many = refl;
  limit = limit-itself s.limit;
}

pub as-long : (s s' : StoreValue) → StoreGrows s s' → length s.entries ≤ length s'.entries
as-long s s' grows = omega (arith, ap length grows.entries, length-append s.entries grows.new)

pub grows-trans : (a b c : StoreValue) → StoreGrows a b → StoreGrows b c → StoreGrows a c
grows-trans a b c first second =
    let longer = as-long a b first in
    let later = as-long b c second in
    record {
      new = first.new ++ second.new;
      entries = second.entries ∙ ap (λ es. es ++ second.new) first.entries ∙ append_assoc a.entries first.new second.new;
      capacity = second.capacity ∙ first.capacity;
      base = second.base ∙ first.base;
      width = second.width ∙ first.width;
      stay = λ node waits. second.stay node (first.stay node waits);
      come = λ node from below. elim (cases_lt node (length b.entries)) [
        | inl old ↦ second.stay node (first.come node from old)
        | inr new ↦ second.come node new below
      ];
      only = λ node waits. elim (second.only node waits) [
        | inl old ↦ elim (first.only node old) [
          | inl older ↦ inl older
          | inr between ↦ inr (between.0, omega arith)
        ]
        | inr new ↦ inr (omega arith, new.1)
      ];
      as_many = omega (arith, first.as_many, second.as_many);
      limit = limit-trans a.limit b.limit c.limit first.limit second.limit;
    }

grows-by_list : (parent : Option ℕ) (choice : Stored) (bound : ℕ) (complete : Bool) (s : StoreValue) → StoreGrows s (with_list parent choice bound complete s)
grows-by_list parent choice bound complete s =
    let one = length-append s.entries (entry_of s.entries parent choice bound ∷ []) in
    record {
      new = entry_of s.entries parent choice bound ∷ [];
      entries = refl;
      capacity = refl;
      base = refl;
      width = refl;
      stay = λ node waits. Contains-append_left s.waits (length s.entries ∷ []) node waits;
      come = λ node from below. subst (Contains (s.waits ++ length s.entries ∷ [])) (omega arith) (Contains-push s.waits (length s.entries));
      only = λ node waits. elim (Contains-push_cases s.waits (length s.entries) node waits) [
        | inl old ↦ inl old
        | inr same ↦ inr (omega arith, omega arith)
      ];
      as_many = omega (arith, length-append s.waits (length s.entries ∷ []));
      limit = limit-itself s.limit;
    }

-- a store that keeps a list grows
pub grows-by_keep : (parent : Option ℕ) (choice : Stored) (bound : ℕ) (complete : Bool) (s : StoreValue) → StoreGrows s (after_keep parent choice bound complete s)
grows-by_keep parent choice bound complete s = go (length s.entries == s.capacity) where
  go : (full : Bool) → StoreGrows s (if full then record s { full = true } else with_list parent choice bound complete s)
  go true = record {
    new = [];
    entries = sym (append-nil s.entries);
    capacity = refl;
    base = refl;
    width = refl;
    stay = λ node waits. waits;
    come = λ node from below. absurd (omega arith);
    only = λ node waits. inl waits;
    as_many = refl;
    limit = limit-itself s.limit;
  }
  go false = grows-by_list parent choice bound complete s

-- a store whose limit is kept or found grows
pub grows-by_limit : (s : StoreValue) (limit : Limit) → IsLimitKept s.limit limit → StoreGrows s (record s { limit = limit })
grows-by_limit s limit kept = record {
  new = [];
  entries = sym (append-nil s.entries);
  capacity = refl;
  base = refl;
  width = refl;
  stay = λ node waits. waits;
  come = λ node from below. absurd (omega arith);
  only = λ node waits. inl waits;
  as_many = refl;
  limit = kept;
}

pub choices-grow : (s s' : StoreValue) (stored : ℕ) (parent : Option ℕ) → StoreGrows s s' → IsParentOf stored parent → stored ≤ length s.entries → choices_before s'.entries parent ≡ choices_before s.entries parent
choices-grow s s' stored parent grows known within =
    ap (λ es. choices_before es parent) grows.entries ∙ choices-stay s.entries grows.new stored parent known within

-- the entries that were stored before stay
pub stored-grow : (s s' : StoreValue) (stored : ℕ) → StoreGrows s s' → stored ≤ length s.entries → take stored s'.entries ≡ take stored s.entries
stored-grow s s' stored grows within = ap (take stored) grows.entries ∙ take-append-le stored s.entries grows.new within
