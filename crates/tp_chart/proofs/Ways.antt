-- A way is changed by a write at its place.
use Rattle.std.proofs.Common.{◌≡◌, ℕ, ◌+◌, ◌<◌, ◌≤◌, Bool, true, false, cond, List, [], ◌∷◌, ◌++◌, map, set, get_or, length, position, remove, take, drop, Some, None, refl, ap, arith, sym, ◌∙◌, subst}
use Rattle.std.specs.Prelude.{not, nat_lt, Option, ◌&&◌, ◌||◌, ◌==◌, suc, if◌then◌else◌}
use Rattle.std.specs.Str.{bytes_eq}
use Rattle.std.specs.List.{position_or_len, prefix_len, list_any}
use Rattle.indexmap.specs.IndexSet.{insert_key}
use Rattle.std.proofs.lemmas.Bool.Decides.{nat_tests}
use Rattle.std.proofs.lemmas.List.{length-map, map-append, take-map, drop-map}
use Rattle.std.proofs.Math.Seq.{map-set_same}
use Rattle.std.proofs.Math.Numerals.{one-add}
use Rattle.tp_schedule.specs.declared.records.SheetName.{SheetName}
use Rattle.tp_chart.specs.Courses.{Way, is_same_copy, key_of}
use Rattle.tp_chart.specs.declared.copy_key.CopyKey.{CopyKey}
use Rattle.tp_chart.specs.Scenes.{changed, planned, without}

abbrev is_of : SheetName → Way → Bool
is_of copy w = is_same_copy w.sheet copy

set-changed : (copy : SheetName) (f : Way → Way) (ways : List Way) (d : Way) → set ways (position_or_len (is_of copy) ways) (f (get_or ways (position_or_len (is_of copy) ways) d)) ≡ changed copy f ways
set-changed copy f [] d = refl
set-changed copy f (w ∷ ways) d = go (is_same_copy w.sheet copy) refl (set-changed copy f ways d) where
  go : (b : Bool) → is_same_copy w.sheet copy ≡ b → set ways (position_or_len (is_of copy) ways) (f (get_or ways (position_or_len (is_of copy) ways) d)) ≡ changed copy f ways
      → set (w ∷ ways) (position_or_len (is_of copy) (w ∷ ways)) (f (get_or (w ∷ ways) (position_or_len (is_of copy) (w ∷ ways)) d)) ≡ changed copy f (w ∷ ways)
  go true e rest = rw e refl
  go false e rest = rw (e, one-add) (ap (λ ws. w ∷ ws) rest)

none-changed : (copy : SheetName) (f : Way → Way) (ways : List Way) → length ways ≤ position_or_len (is_of copy) ways → ways ≡ changed copy f ways
none-changed copy f [] none = refl
none-changed copy f (w ∷ ways) none = go (is_same_copy w.sheet copy) refl (none-changed copy f ways) none where
  go : (b : Bool) → is_same_copy w.sheet copy ≡ b → (length ways ≤ position_or_len (is_of copy) ways → ways ≡ changed copy f ways) → length (w ∷ ways) ≤ position_or_len (is_of copy) (w ∷ ways) → w ∷ ways ≡ changed copy f (w ∷ ways)
  go true e rest none' = absurd (let k = rw e at none' in omega (arith, k))
  go false e rest none' = let k = rw (e, one-add) at none' in rw e (ap (λ ws. w ∷ ws) (rest (omega (arith, k))))

-- where the copy has a way, a plan of it changes that way
planned-changed : (copy : SheetName) (f : Way → Way) (new : Way) (ways : List Way) → position_or_len (is_of copy) ways < length ways → planned copy f new ways ≡ changed copy f ways
planned-changed copy f new [] inside = absurd (omega (arith, inside))
planned-changed copy f new (w ∷ ways) inside = go (is_same_copy w.sheet copy) refl (planned-changed copy f new ways) inside where
  go : (b : Bool) → is_same_copy w.sheet copy ≡ b → (position_or_len (is_of copy) ways < length ways → planned copy f new ways ≡ changed copy f ways) → position_or_len (is_of copy) (w ∷ ways) < length (w ∷ ways) → planned copy f new (w ∷ ways) ≡ changed copy f (w ∷ ways)
  go true e rest inside' = rw e refl
  go false e rest inside' = let k = rw (e, one-add) at inside' in rw e (ap (λ ws. w ∷ ws) (rest (omega (arith, k))))

none-planned : (copy : SheetName) (f : Way → Way) (new : Way) (ways : List Way) → length ways ≤ position_or_len (is_of copy) ways → planned copy f new ways ≡ ways ++ new ∷ []
none-planned copy f new [] none = refl
none-planned copy f new (w ∷ ways) none = go (is_same_copy w.sheet copy) refl (none-planned copy f new ways) none where
  go : (b : Bool) → is_same_copy w.sheet copy ≡ b → (length ways ≤ position_or_len (is_of copy) ways → planned copy f new ways ≡ ways ++ new ∷ []) → length (w ∷ ways) ≤ position_or_len (is_of copy) (w ∷ ways) → planned copy f new (w ∷ ways) ≡ (w ∷ ways) ++ new ∷ []
  go true e rest none' = absurd (let k = rw e at none' in omega (arith, k))
  go false e rest none' = let k = rw (e, one-add) at none' in rw e (ap (λ ws. w ∷ ws) (rest (omega (arith, k))))

position-Some_is : {X : Type 0} (t : X → Bool) (xs : List X) (i : ℕ) → Some i ≡ position t xs → position_or_len t xs ≡ i
position-Some_is t xs i e = grind (arith, nat_tests)

position-inside : {X : Type 0} (t : X → Bool) (xs : List X) (i : ℕ) → Some i ≡ position t xs → position_or_len t xs < length xs
position-inside t xs i e = grind (arith, nat_tests)

position-None_is : {X : Type 0} (t : X → Bool) (xs : List X) → None ≡ position t xs → length xs ≤ position_or_len t xs
position-None_is t xs e = grind (arith, nat_tests)

pub changed-at : (copy : SheetName) (f : Way → Way) (ways : List Way) (i : ℕ) (w : Way) → Some i ≡ position (λ q. is_same_copy q.sheet copy) ways → w ≡ get_or ways i w → set ways i (f w) ≡ changed copy f ways
changed-at copy f ways i w at is =
    let place = position-Some_is (is_of copy) ways i at in
    ap (λ q. set ways i (f q)) is ∙ subst (λ k. set ways k (f (get_or ways k w)) ≡ changed copy f ways) place (set-changed copy f ways w)

pub changed-none : (copy : SheetName) (f : Way → Way) (ways : List Way) → None ≡ position (λ q. is_same_copy q.sheet copy) ways → ways ≡ changed copy f ways
changed-none copy f ways none = none-changed copy f ways (position-None_is (is_of copy) ways none)

pub planned-at : (copy : SheetName) (f : Way → Way) (new : Way) (ways : List Way) (i : ℕ) (w : Way) → Some i ≡ position (λ q. is_same_copy q.sheet copy) ways → w ≡ get_or ways i w → set ways i (f w) ≡ planned copy f new ways
planned-at copy f new ways i w at is = changed-at copy f ways i w at is ∙ sym (planned-changed copy f new ways (position-inside (is_of copy) ways i at))

pub planned-none : (copy : SheetName) (f : Way → Way) (new : Way) (ways : List Way) → None ≡ position (λ q. is_same_copy q.sheet copy) ways → ways ++ new ∷ [] ≡ planned copy f new ways
planned-none copy f new ways none = sym (none-planned copy f new ways (position-None_is (is_of copy) ways none))

-- a way that is planned as it was
same-planned : (copy : SheetName) (new : Way) (ways : List Way) → position_or_len (is_of copy) ways < length ways → ways ≡ planned copy (λ q. q) new ways
same-planned copy new [] inside = absurd (omega (arith, inside))
same-planned copy new (w ∷ ways) inside = go (is_same_copy w.sheet copy) refl (same-planned copy new ways) inside where
  go : (b : Bool) → is_same_copy w.sheet copy ≡ b → (position_or_len (is_of copy) ways < length ways → ways ≡ planned copy (λ q. q) new ways) → position_or_len (is_of copy) (w ∷ ways) < length (w ∷ ways) → w ∷ ways ≡ planned copy (λ q. q) new (w ∷ ways)
  go true e rest inside' = rw e refl
  go false e rest inside' = let k = rw (e, one-add) at inside' in rw e (ap (λ ws. w ∷ ws) (rest (omega (arith, k))))

pub planned-there : (copy : SheetName) (new : Way) (ways : List Way) {i : ℕ} → Some i ≡ position (λ q. is_same_copy q.sheet copy) ways → ways ≡ planned copy (λ q. q) new ways
planned-there copy new ways {i} at = same-planned copy new ways (position-inside (is_of copy) ways i at)

-- ---- keys

prefix_len-map : {X Y : Type 0} (f : X → Y) (p : Y → Bool) (xs : List X) → prefix_len p (map f xs) ≡ prefix_len (λ x. p (f x)) xs
prefix_len-map f p [] = refl
prefix_len-map f p (x ∷ xs) = ap (λ n. cond (p (f x)) (1 + n) 0) (prefix_len-map f p xs)

pub position-map : {X Y : Type 0} (f : X → Y) (p : Y → Bool) (xs : List X) → position p (map f xs) ≡ position (λ x. p (f x)) xs
position-map f p xs =
    ap (λ n. cond (nat_lt n (length (map f xs))) (Some n) None) (prefix_len-map f (λ y. not (p y)) xs)
    ∙ ap (λ l. cond (nat_lt (position_or_len (λ x. p (f x)) xs) l) (Some (position_or_len (λ x. p (f x)) xs)) None) (length-map xs f)

abbrev pub same_key : CopyKey → CopyKey → Bool
same_key a b = bytes_eq a.job b.job && ((a.number == b.number) && (a.copy == b.copy))

-- the key of a copy stands at the place of its way
pub key-place : (k : CopyKey) (copy : SheetName) (keys : List CopyKey) (ways : List Way) (at : Option ℕ)
    → k ≡ key_of copy → keys ≡ map (λ w. key_of w.sheet) ways → at ≡ position (same_key k) keys → at ≡ position (λ w. is_same_copy w.sheet copy) ways
key-place k copy keys ways at e same found =
    found ∙ ap (position (same_key k)) same ∙ position-map (λ (w : Way). key_of w.sheet) (same_key k) ways
    ∙ ap (λ (q : CopyKey). position (λ (w : Way). same_key q (key_of w.sheet)) ways) e

remove-without : (copy : SheetName) (ways : List Way) → position_or_len (is_of copy) ways < length ways → remove ways (position_or_len (is_of copy) ways) ≡ without copy ways
remove-without copy [] inside = absurd (omega (arith, inside))
remove-without copy (w ∷ ways) inside = go (is_same_copy w.sheet copy) refl (remove-without copy ways) inside where
  go : (b : Bool) → is_same_copy w.sheet copy ≡ b → (position_or_len (is_of copy) ways < length ways → remove ways (position_or_len (is_of copy) ways) ≡ without copy ways) → position_or_len (is_of copy) (w ∷ ways) < length (w ∷ ways)
      → remove (w ∷ ways) (position_or_len (is_of copy) (w ∷ ways)) ≡ without copy (w ∷ ways)
  go true e rest inside' = rw e refl
  go false e rest inside' = let k = rw (e, one-add) at inside' in rw (e, one-add) (ap (λ ws. w ∷ ws) (rest (omega (arith, k))))

none-without : (copy : SheetName) (ways : List Way) → length ways ≤ position_or_len (is_of copy) ways → ways ≡ without copy ways
none-without copy [] none = refl
none-without copy (w ∷ ways) none = go (is_same_copy w.sheet copy) refl (none-without copy ways) none where
  go : (b : Bool) → is_same_copy w.sheet copy ≡ b → (length ways ≤ position_or_len (is_of copy) ways → ways ≡ without copy ways) → length (w ∷ ways) ≤ position_or_len (is_of copy) (w ∷ ways) → w ∷ ways ≡ without copy (w ∷ ways)
  go true e rest none' = absurd (let k = rw e at none' in omega (arith, k))
  go false e rest none' = let k = rw (e, one-add) at none' in rw e (ap (λ ws. w ∷ ws) (rest (omega (arith, k))))

pub without-at : (copy : SheetName) (ways : List Way) (i : ℕ) → Some i ≡ position (λ q. is_same_copy q.sheet copy) ways → remove ways i ≡ without copy ways
without-at copy ways i at =
    subst (λ k. remove ways k ≡ without copy ways) (position-Some_is (is_of copy) ways i at) (remove-without copy ways (position-inside (is_of copy) ways i at))

pub without-none : (copy : SheetName) (ways : List Way) → None ≡ position (λ q. is_same_copy q.sheet copy) ways → ways ≡ without copy ways
without-none copy ways none = none-without copy ways (position-None_is (is_of copy) ways none)

pub place-inside : (copy : SheetName) (ways : List Way) (i : ℕ) → Some i ≡ position (λ q. is_same_copy q.sheet copy) ways → i < length ways
place-inside copy ways i at = subst (λ k. k < length ways) (position-Some_is (is_of copy) ways i at) (position-inside (is_of copy) ways i at)

abbrev way_key : Way → CopyKey
way_key w = key_of w.sheet

any-none : (copy : SheetName) (ways : List Way) → length ways ≤ position_or_len (is_of copy) ways → list_any (same_key (key_of copy)) (map way_key ways) ≡ false
any-none copy [] none = refl
any-none copy (w ∷ ways) none = go (is_same_copy w.sheet copy) refl (any-none copy ways) none where
  go : (b : Bool) → is_same_copy w.sheet copy ≡ b → (length ways ≤ position_or_len (is_of copy) ways → list_any (same_key (key_of copy)) (map way_key ways) ≡ false) → length (w ∷ ways) ≤ position_or_len (is_of copy) (w ∷ ways)
      → list_any (same_key (key_of copy)) (map way_key (w ∷ ways)) ≡ false
  go true e rest none' = absurd (let k = rw e at none' in omega (arith, k))
  go false e rest none' = let k = rw (e, one-add) at none' in ap (λ b. b || list_any (same_key (key_of copy)) (map way_key ways)) e ∙ rest (omega (arith, k))

-- a new copy's key goes last, as its way does
pub keys-pushed : (w : Way) (k : CopyKey) (keys keys' : List CopyKey) (ways ways' : List Way) → k ≡ key_of w.sheet → keys ≡ map (λ q. key_of q.sheet) ways → None ≡ position (λ q. is_same_copy q.sheet w.sheet) ways
    → keys' ≡ insert_key same_key keys k → ways' ≡ ways ++ w ∷ [] → keys' ≡ map (λ q. key_of q.sheet) ways'
keys-pushed w k keys keys' ways ways' is same none added pushed =
    let new : list_any (same_key (key_of w.sheet)) keys ≡ false = ap (list_any (same_key (key_of w.sheet))) same ∙ any-none w.sheet ways (position-None_is (is_of w.sheet) ways none) in
    added ∙ ap (insert_key same_key keys) is ∙ ap (λ b. if b then keys else keys ++ key_of w.sheet ∷ []) new ∙ ap (λ ks. ks ++ key_of w.sheet ∷ []) same
    ∙ sym (map-append way_key ways (w ∷ [])) ∙ ap (map way_key) (sym pushed)

-- a write that leaves the copy leaves the keys
pub keys-kept : (ways : List Way) (i : ℕ) (new old : Way) → new.sheet ≡ old.sheet → old ≡ get_or ways i old → map (λ q. key_of q.sheet) (set ways i new) ≡ map (λ q. key_of q.sheet) ways
keys-kept ways i new old same is = map-set_same way_key ways i new old (ap key_of same ∙ ap way_key is)

-- a key goes with its way
pub keys-removed : (keys keys' : List CopyKey) (ways ways' : List Way) (i : ℕ) → keys ≡ map (λ q. key_of q.sheet) ways → keys' ≡ remove keys i → ways' ≡ remove ways i → keys' ≡ map (λ q. key_of q.sheet) ways'
keys-removed keys keys' ways ways' i same gone left =
    gone ∙ ap (λ ks. remove ks i) same ∙ sym (map-append way_key (take i ways) (drop (suc i) ways) ∙ (λ j. sym (take-map way_key i ways) j ++ sym (drop-map way_key (suc i) ways) j)) ∙ ap (map way_key) (sym left)
