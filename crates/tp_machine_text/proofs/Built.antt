-- One step of building an array or a table of values.
use Rattle.std.proofs.Common.{◌≡◌, ℕ, zero, suc, ◌+◌, true, Ordering, Less, Equal, Greater, List, [], ◌∷◌, ◌++◌, map, take, length, get_or, ◌<◌, String, Global, Option, Some, None, slice_get, refl, ap, sym, arith}
use Rattle.std.specs.Prelude.{codes, pos}
use Rattle.std.specs.Ordering.{is_lt, nat_cmp}
use Rattle.std.specs.Cmp.Lexicographic.{slice_cmp, nat_list_cmp_total}
use Rattle.std.proofs.lemmas.Bool.{and_parts}
use Rattle.toml.specs.Data.{Data, string, integer, boolean, array, table, Members, no_members, member}
use Rattle.toml.specs.View.{view, items_of, members_view}
use Rattle.toml.specs.declared.value.Value.{Value}
use Rattle.tp_machine_text.proofs.AmountsBack.{amount_keys}
use Rattle.tp_machine_text.proofs.Seen.{map-map}
use Rattle.tp_machine.specs.Rules.{do_names_rise, feeder_names, is_below}
use Rattle.tp_machine.specs.declared.parts.Action.{Action}
use Rattle.tp_machine.specs.declared.parts.Feeder.{Feeder}
use Rattle.tp_machine.specs.declared.parts.HoldRule.{HoldRule}
use Rattle.tp_machine.specs.declared.parts.Resource.{Resource}
use Rattle.tp_machine.specs.declared.machine.Machine.{Machine}
use Rattle.tp_machine_text.specs.Printed.{put_member, put_amount, name_at, feeder_members, resource_members, amount_first, amount_members, gaps_of, gap_members, stocks_of, stock_members, resource_names, texts_data, loc_names, kind_words, point_data, hold_data, action_data, table_of}

pub map_last : {X Y : Type 0} (f : X → Y) (xs : List X) (y : X) → map f (xs ++ y ∷ []) ≡ map f xs ++ f y ∷ []
map_last f [] y = refl
map_last f (x ∷ xs) y = ap (λ t. f x ∷ t) (map_last f xs y)

take_named : {X : Type 0} (xs : List X) (n : ℕ) (x : X) → slice_get xs n ≡ Some x → take (n + 1) xs ≡ take n xs ++ x ∷ []
take_named [] n x at = cc
take_named (y ∷ ys) zero x at = let e : y ≡ x = cc in rw e
take_named (y ∷ ys) (suc n) x at = let e : suc n + 1 ≡ suc (n + 1) = omega arith in rw e (ap (λ t. y ∷ t) (take_named ys n x at))

pub more_names : (items next : List Value) (v : Value) (names : List (List ℕ)) (n : ℕ) (x : List ℕ) → map view items ≡ map string (take n names) → view v ≡ string x → slice_get names n ≡ Some x
    → next ≡ items ++ v ∷ [] → map view next ≡ map string (take (n + 1) names)
more_names items next v names n x before seen at grown =
    rw (grown, map_last view items v, before, seen, take_named names n x at, map_last string (take n names) x)

less : (o : Ordering) → is_lt o ≡ true → o ≡ Less
less Less test = refl
less Equal test = cc
less Greater test = cc

-- a feeder before those that stand
pub feeder_first : (names : List (List ℕ)) (f : Feeder) (fs : List Feeder) → do_names_rise (feeder_names names (f ∷ fs)) ≡ true
    → put_member (name_at names f.loc.0) (string f.media) (feeder_members names fs) ≡ feeder_members names (f ∷ fs)
feeder_first names f [] rise = refl
feeder_first names f (g ∷ gs) rise =
    let (below, rest) = and_parts (is_below (name_at names f.loc.0) (name_at names g.loc.0)) (do_names_rise (feeder_names names (g ∷ gs))) rise in
    rw (less (slice_cmp nat_cmp (name_at names f.loc.0) (name_at names g.loc.0)) below)

pub resource_first : (modules : List (List ℕ)) (r : Resource) (rs : List Resource) → do_names_rise (resource_names (r ∷ rs)) ≡ true
    → put_member r.name (string (name_at modules r.module.0)) (resource_members modules rs) ≡ resource_members modules (r ∷ rs)
resource_first modules r [] rise = refl
resource_first modules r (q ∷ qs) rise =
    let (below, rest) = and_parts (is_below r.name q.name) (do_names_rise (resource_names (q ∷ qs))) rise in
    rw (less (slice_cmp nat_cmp r.name q.name) below)

-- a number before those of later keys
rise_skip : (k l : List ℕ) (ks : List (List ℕ)) → do_names_rise (k ∷ l ∷ ks) ≡ true → do_names_rise (k ∷ ks) ≡ true
rise_skip k l [] rise = refl
rise_skip k l (c ∷ ks) rise =
    let (here, rest) = and_parts (is_below k l) (do_names_rise (l ∷ c ∷ ks)) rise in
    let (next, more) = and_parts (is_below l c) (do_names_rise (c ∷ ks)) rest in
    let far : is_below k c ≡ true = ap is_lt (nat_list_cmp_total.trans k l c (less (slice_cmp nat_cmp k l) here) (less (slice_cmp nat_cmp l c) next)) in
    rw (far, more)

amount_placed : (k : List ℕ) (d : Data) (amounts : List (List ℕ × Option ℕ)) → do_names_rise (k ∷ amount_keys amounts) ≡ true → put_member k d (amount_members amounts) ≡ member k d (amount_members amounts)
amount_placed k d [] rise = refl
amount_placed k d ((l, None) ∷ amounts) rise = amount_placed k d amounts (rise_skip k l (amount_keys amounts) rise)
amount_placed k d ((l, Some n) ∷ amounts) rise =
    let (below, rest) = and_parts (is_below k l) (do_names_rise (l ∷ amount_keys amounts)) rise in
    rw (less (slice_cmp nat_cmp k l) below)

pub gap_names : (rs : List Resource) → amount_keys (gaps_of rs) ≡ resource_names rs
gap_names rs = map-map (λ a. a.0) (λ r. (r.name, Some r.gap)) rs

pub stock_names : (names : List (List ℕ)) (fs : List Feeder) → amount_keys (stocks_of names fs) ≡ feeder_names names fs
stock_names names fs = map-map (λ a. a.0) (λ f. (name_at names f.loc.0, f.stock)) fs

pub gap_first : (r : Resource) (rs : List Resource) → do_names_rise (resource_names (r ∷ rs)) ≡ true → put_member r.name (integer (pos r.gap)) (gap_members rs) ≡ gap_members (r ∷ rs)
gap_first r rs rise = amount_placed r.name (integer (pos r.gap)) (gaps_of rs) (rw (gap_names rs) rise)

pub stock_first : (names : List (List ℕ)) (f : Feeder) (fs : List Feeder) → do_names_rise (feeder_names names (f ∷ fs)) ≡ true → put_amount (name_at names f.loc.0) f.stock (stock_members names fs) ≡ stock_members names (f ∷ fs)
stock_first names f fs rise = go f.stock where
  go : (o : Option ℕ) → put_amount (name_at names f.loc.0) o (stock_members names fs) ≡ amount_first (name_at names f.loc.0) o (stock_members names fs)
  go None = refl
  go (Some n) = amount_placed (name_at names f.loc.0) (integer (pos n)) (stocks_of names fs) (rw (stock_names names fs) rise)

pub name_there : (names : List (List ℕ)) (n : ℕ) (x : List ℕ) → slice_get names n ≡ Some x → name_at names n ≡ x
name_there names n x at = rw at

pub ruleset built = (map_last, feeder_first, resource_first, gap_first, stock_first, name_there)

-- ---- tables with a fixed set of keys

pub resource_there : (rs : List Resource) (n : ℕ) (r : Resource) → n < length rs → r ≡ get_or rs n r → name_at (resource_names rs) n ≡ r.name
resource_there [] n r within at = absurd (omega arith)
resource_there (q ∷ qs) zero r within at = ap (λ x. x.name) (sym at)
resource_there (q ∷ qs) (suc n) r within at = resource_there qs n r (omega arith) at

pub no_entries : (es : List (String Global × Value)) → es ≡ [] → members_view es ≡ no_members
no_entries es none = rw none

pub hold_built : (names : List (List ℕ)) (h : HoldRule) (name : List ℕ) (before after : Members) (begin end mode resource value : Data)
    → before ≡ no_members → begin ≡ point_data h.begin h.begin_off → end ≡ point_data h.end h.end_off → mode ≡ integer (pos h.mode) → resource ≡ string name → name_at names h.resource.0 ≡ name
    → after ≡ put_member (codes "resource") resource (put_member (codes "mode") mode (put_member (codes "end") end (put_member (codes "begin") begin before))) → value ≡ table after → value ≡ hold_data names h
unfolding hold_data
hold_built names h name before after begin end mode resource value none b e m r at made is = rw (is, made, r, m, e, b, none, at)

pub action_built : (ls ms rs : List (List ℕ)) (a : Action) (t0 t1 t2 t3 : Members) (holds value : Data) → t0 ≡ no_members
    → t1 ≡ put_member (codes "to") (string (name_at ls a.to.0)) (put_member (codes "from") (string (name_at ls a.from.0)) (put_member (codes "module") (string (name_at ms a.module.0)) (put_member (codes "name") (string a.name) t0)))
    → t2 ≡ put_member (codes "flip") (boolean a.flip) (put_member (codes "prints") (texts_data (kind_words a.mono a.colour)) (put_member (codes "most") (integer (pos a.most)) (put_member (codes "least") (integer (pos a.least)) t1)))
    → holds ≡ array (items_of (map (hold_data rs) a.holds)) → t3 ≡ put_member (codes "holds") holds t2 → value ≡ table t3 → value ≡ action_data ls ms rs a
unfolding action_data
action_built ls ms rs a t0 t1 t2 t3 holds value none way work held made is = rw (is, made, held, work, way, none)

pub machine_built : (m : Machine) (t0 t1 t2 t3 t4 : Members) → t0 ≡ no_members
    → t1 ≡ put_member (codes "budget") (integer (pos m.budget)) (put_member (codes "window") (integer (pos m.window)) (put_member (codes "lead") (integer (pos m.lead)) (put_member (codes "format") (integer (pos 2)) t0)))
    → t2 ≡ put_member (codes "purge") (texts_data (loc_names m.locations m.purges)) (put_member (codes "trays") (texts_data (loc_names m.locations m.trays)) (put_member (codes "modules") (texts_data m.modules) (put_member (codes "locations") (texts_data m.locations) t1)))
    → t3 ≡ put_member (codes "actions") (array (items_of (map (action_data m.locations m.modules (resource_names m.resources)) m.actions)))
    (put_member (codes "resources") (table (resource_members m.modules m.resources)) (put_member (codes "feeders") (table (feeder_members m.locations m.feeders)) t2))
    → t4 ≡ put_member (codes "stock") (table (stock_members m.locations m.feeders)) (put_member (codes "gaps") (table (gap_members m.resources)) t3)
    → t4 ≡ table_of m
unfolding table_of
machine_built m t0 t1 t2 t3 t4 none numbers locations parts amounts = rw (amounts, parts, locations, numbers, none)
