-- Where items part from records.
use Rattle.std.proofs.Common.{◌≡◌, ℕ, zero, suc, ◌+◌, ◌-◌, ◌<◌, ◌≤◌, ◌==◌, true, false, List, [], ◌∷◌, ◌++◌, length, take, drop, get_or, slice_get, Some, inl, inr, refl, sym, ap, subst, ◌∙◌, arith, append_assoc}
use Rattle.std.proofs.lemmas.Bool.Decides.{nat_tests}
use Rattle.std.proofs.Math.Seq.{drop-append_seam, take-append_seam}
use Rattle.std.proofs.lemmas.List.{append-nil, append_cancel_left, length-append, length-drop, length-take-le, take-append-drop}
use Rattle.tp_log.specs.GatheredItems.{is_tree}
use Rattle.tp_log.specs.declared.item.Item.{Item}
use Rattle.tp_log.specs.declared.item.Item.TheVariants.{Event, Note, Tree}
use Rattle.tp_run_laws.specs.Proved.{records_in}
use Rattle.tp_schedule.specs.declared.records.Record.{Record}
use Rattle.tp_log_planner.specs.ToldAnswers.{ToldValue, ahead, behind_asides}
use Rattle.tp_log_check.specs.EventEntry.{trees_in}
use Rattle.tp_log_check.specs.FirstDifference.{IsFirstTree, IsOffAt, IsOther, PartsAt, items_before}

-- ---- records and trees of items one after another
pub records-append : (xs ys : List Item) → records_in (xs ++ ys) ≡ records_in xs ++ records_in ys
records-append [] ys = refl
records-append (Event event ∷ xs) ys = records-append xs ys
records-append (Note told ∷ xs) ys = ap (λ rs. told ∷ rs) (records-append xs ys)
records-append (Tree tree ∷ xs) ys = records-append xs ys

pub trees-append : (xs ys : List Item) → trees_in (xs ++ ys) ≡ trees_in xs ++ trees_in ys
trees-append [] ys = refl
trees-append (Event event ∷ xs) ys = trees-append xs ys
trees-append (Note told ∷ xs) ys = trees-append xs ys
trees-append (Tree tree ∷ xs) ys = ap (λ ts. tree ∷ ts) (trees-append xs ys)

no-first : {X : Type 0} (xs ys : List X) → xs ++ ys ≡ [] → xs ≡ []
no-first [] ys e = refl
no-first (x ∷ xs) ys e = absurd cc

no-tree : (item : Item) → is_tree item ≡ false → trees_in (item ∷ []) ≡ []
no-tree (Event event) e = refl
no-tree (Note told) e = refl
no-tree (Tree tree) e = absurd cc

-- ---- items gone through, with the records that are due behind them
pub record GoneThrough (notes : List Record) (items rest : List Item) (due : List Record) : Type 0 where
  pub before : List Item
  pub parts : items ≡ before ++ rest
  pub so_far : notes ≡ records_in before ++ due

pub gone-none : (notes : List Record) (items : List Item) → GoneThrough notes items items notes
gone-none notes items = record { before = []; parts = refl; so_far = refl }

pub gone-next : (notes : List Record) (items : List Item) (item : Item) (rest : List Item) (due left : List Record) → GoneThrough notes items (item ∷ rest) due → due ≡ records_in (item ∷ []) ++ left
    → GoneThrough notes items rest left
gone-next notes items item rest due left g e = record {
  before = g.before ++ item ∷ [];
  parts = g.parts ∙ sym (append_assoc g.before (item ∷ []) rest);
  so_far = g.so_far ∙ ap (λ rs. records_in g.before ++ rs) e ∙ sym (append_assoc (records_in g.before) (records_in (item ∷ [])) left) ∙ ap (λ rs. rs ++ left) (sym (records-append g.before (item ∷ [])));
}

pub gone-parts : (notes : List Record) (items rest : List Item) (due : List Record) → GoneThrough notes items rest due → IsOther due rest → PartsAt notes items (length items - length rest)
gone-parts notes items rest due g other =
    let count : length items - length rest ≡ length g.before = let all = ap length g.parts ∙ length-append g.before rest in omega (arith, all) in
    subst (PartsAt notes items) (sym count) (record {
      within = let all = ap length g.parts ∙ length-append g.before rest in omega (arith, all);
      due = due;
      so_far = g.so_far ∙ ap (λ xs. records_in xs ++ due) (sym (ap (take (length g.before)) g.parts ∙ take-append_seam g.before rest));
      other = subst (IsOther due) (sym (ap (drop (length g.before)) g.parts ∙ drop-append_seam g.before rest)) other;
    })

pub gone-all : (notes : List Record) (items : List Item) → GoneThrough notes items [] [] → notes ≡ records_in items
gone-all notes items g = g.so_far ∙ append-nil (records_in g.before) ∙ ap records_in (sym (append-nil g.before) ∙ sym g.parts)

-- the first of a list
pub head-is : (xs : List Item) (x : Item) → 1 ≤ length xs → x ≡ get_or xs 0 x → xs ≡ x ∷ drop 1 xs
head-is [] x some is = absurd (omega (arith, some))
head-is (y ∷ xs) x some is = ap (λ z. z ∷ xs) (sym is)

pub none-is : (xs : List Item) → length xs < 1 → xs ≡ []
none-is [] few = refl
none-is (x ∷ xs) few = absurd (omega (arith, few))

pub parts-here : (notes : List Record) (items rest : List Item) (due : List Record) (item : Item) → GoneThrough notes items rest due → 1 ≤ length rest → item ≡ get_or rest 0 item
    → ((left : List Record) → due ≡ records_in (item ∷ []) ++ left → ⊥) → PartsAt notes items (length items - length rest)
parts-here notes items rest due item g some is none = gone-parts notes items rest due g (subst (IsOther due) (sym (head-is rest item some is)) none)

pub parts-end : (notes : List Record) (items rest : List Item) (due : List Record) → GoneThrough notes items rest due → length rest < 1 → (length due == 0) ≡ false → PartsAt notes items (length items)
parts-end notes items rest due g few some =
    let none : rest ≡ [] = none-is rest few in
    let count : length items - length rest ≡ length items = let n = ap length none in omega (arith, n) in
    subst (PartsAt notes items) count (gone-parts notes items rest due g (subst (IsOther due) (sym none) (λ e. (let no = ap (λ rs. length rs == 0) e in absurd cc))))

pub next-here : (notes : List Record) (items rest : List Item) (due left : List Record) (item : Item) → GoneThrough notes items rest due → 1 ≤ length rest → item ≡ get_or rest 0 item → due ≡ records_in (item ∷ []) ++ left
    → GoneThrough notes items (drop 1 rest) left
next-here notes items rest due left item g some is e = gone-next notes items item (drop 1 rest) due left (subst (λ xs. GoneThrough notes items xs due) (head-is rest item some is) g) e

pub all-here : (notes : List Record) (items rest : List Item) (due : List Record) → GoneThrough notes items rest due → length rest < 1 → (length due == 0) ≡ true → notes ≡ records_in items
all-here notes items rest due g few none = gone-all notes items (subst (λ xs. GoneThrough notes items xs []) (none-is rest few) (subst (GoneThrough notes items rest) (no-record due none) g)) where
  no-record : (rs : List Record) → (length rs == 0) ≡ true → rs ≡ []
  no-record [] e = refl
  no-record (r ∷ rs) e = absurd (grind (arith, nat_tests, e))

other-than : (due : List Record) (items : List Item) → IsOther due items → due ≡ records_in items → ⊥
other-than due [] other e = other e
other-than due (item ∷ items) other e = other (records_in items) (e ∙ records-append (item ∷ []) items)

pub parts-other : (notes : List Record) (items : List Item) (at : ℕ) → PartsAt notes items at → notes ≡ records_in items → ⊥
parts-other notes items at p e =
    let all : records_in items ≡ records_in (take at items) ++ records_in (drop at items) = ap records_in (sym (take-append-drop at items)) ∙ records-append (take at items) (drop at items) in
    other-than p.due (drop at items) p.other (append_cancel_left (records_in (take at items)) p.due (records_in (drop at items)) (sym p.so_far ∙ e ∙ all))

-- ---- items gone through for a tree
pub record LookedThrough (from : ℕ) (items rest : List Item) : Type 0 where
  pub before : List Item
  pub parts : drop from items ≡ before ++ rest
  pub none : trees_in before ≡ []

pub looked-none : (from : ℕ) (items rest : List Item) → rest ≡ drop from items → LookedThrough from items rest
looked-none from items rest e = record { before = []; parts = sym e; none = refl }

pub looked-next : (from : ℕ) (items : List Item) (item : Item) (rest : List Item) → LookedThrough from items (item ∷ rest) → is_tree item ≡ false → LookedThrough from items rest
looked-next from items item rest l e = record {
  before = l.before ++ item ∷ [];
  parts = l.parts ∙ sym (append_assoc l.before (item ∷ []) rest);
  none = trees-append l.before (item ∷ []) ∙ ap (λ ts. ts ++ trees_in (item ∷ [])) l.none ∙ no-tree item e;
}

pub looked-all : (from : ℕ) (items : List Item) → LookedThrough from items [] → trees_in (drop from items) ≡ []
looked-all from items l = ap trees_in (l.parts ∙ append-nil l.before) ∙ l.none

is-first : (from : ℕ) (items : List Item) (item : Item) (rest : List Item) (l : LookedThrough from items (item ∷ rest)) → from ≤ length items → items ≡ (take from items ++ l.before) ++ item ∷ rest
is-first from items item rest l fits = sym (take-append-drop from items) ∙ ap (λ xs. take from items ++ xs) l.parts ∙ sym (append_assoc (take from items) l.before (item ∷ rest))

pub looked-tree : (from : ℕ) (items : List Item) (item : Item) (rest : List Item) → from ≤ length items → LookedThrough from items (item ∷ rest) → is_tree item ≡ true → IsFirstTree from items (length items - length (item ∷ rest))
looked-tree from items item rest fits l e = go item l e where
  go : (x : Item) → (k : LookedThrough from items (x ∷ rest)) → is_tree x ≡ true → IsFirstTree from items (length items - length (x ∷ rest))
  go (Event event) k f = absurd cc
  go (Note told) k f = absurd cc
  go (Tree tree) k f =
      let xs = take from items ++ k.before in
      let parts : items ≡ xs ++ Tree tree ∷ rest = is-first from items (Tree tree) rest k fits in
      let first : length (take from items) ≡ from = length-take-le from items fits in
      let long : length xs ≡ from + length k.before = length-append (take from items) k.before ∙ ap (λ n. n + length k.before) first in
      let all : length items ≡ length xs + length (Tree tree ∷ rest) = ap length parts ∙ length-append xs (Tree tree ∷ rest) in
      let count : length items - length (Tree tree ∷ rest) ≡ length xs = omega (arith, all) in
      subst (IsFirstTree from items) (sym count) (record {
        further = omega (arith, long);
        tree = tree;
        is = ap (λ ys. slice_get ys (length xs)) parts ∙ at-seam xs (Tree tree) rest;
        first = ap (λ ys. trees_in (drop from ys)) (ap (take (length xs)) parts ∙ take-append_seam xs (Tree tree ∷ rest))
            ∙ ap (λ n. trees_in (drop n xs)) (sym first) ∙ ap trees_in (drop-append_seam (take from items) k.before) ∙ k.none;
      })
    where
      at-seam : (xs : List Item) (x : Item) (ys : List Item) → slice_get (xs ++ x ∷ ys) (length xs) ≡ Some x
      at-seam [] x ys = refl
      at-seam (y ∷ xs) x ys = at-seam xs x ys

pub looked-has : (from : ℕ) (items : List Item) (item : Item) (rest : List Item) → LookedThrough from items (item ∷ rest) → is_tree item ≡ true → trees_in (drop from items) ≡ [] → ⊥
looked-has from items item rest l e none = go item l e where
  go : (x : Item) → LookedThrough from items (x ∷ rest) → is_tree x ≡ true → ⊥
  go (Event event) k f = absurd cc
  go (Note told) k f = absurd cc
  go (Tree tree) k f =
      let all : trees_in k.before ++ trees_in (Tree tree ∷ rest) ≡ [] = sym (trees-append k.before (Tree tree ∷ rest)) ∙ ap trees_in (sym k.parts) ∙ none in
      let some : tree ∷ trees_in rest ≡ [] = ap (λ ts. ts ++ (tree ∷ trees_in rest)) (sym k.none) ∙ all in
      cc

pub tree-here : (from : ℕ) (items rest : List Item) (item : Item) → from ≤ length items → LookedThrough from items rest → 1 ≤ length rest → item ≡ get_or rest 0 item → is_tree item ≡ true
    → IsFirstTree from items (length items - length rest)
tree-here from items rest item fits l some is e =
    let whole = head-is rest item some is in
    subst (λ xs. IsFirstTree from items (length items - length xs)) (sym whole) (looked-tree from items item (drop 1 rest) fits (subst (LookedThrough from items) whole l) e)

pub has-here : (from : ℕ) (items rest : List Item) (item : Item) → LookedThrough from items rest → 1 ≤ length rest → item ≡ get_or rest 0 item → is_tree item ≡ true → trees_in (drop from items) ≡ [] → ⊥
has-here from items rest item l some is e none = looked-has from items item (drop 1 rest) (subst (LookedThrough from items) (head-is rest item some is) l) e none

pub pass-here : (from : ℕ) (items rest : List Item) (item : Item) → LookedThrough from items rest → 1 ≤ length rest → item ≡ get_or rest 0 item → is_tree item ≡ false → LookedThrough from items (drop 1 rest)
pass-here from items rest item l some is e = looked-next from items item (drop 1 rest) (subst (LookedThrough from items) (head-is rest item some is) l) e

pub end-here : (from : ℕ) (items rest : List Item) → LookedThrough from items rest → length rest < 1 → trees_in (drop from items) ≡ []
end-here from items rest l few = looked-all from items (subst (LookedThrough from items) (none-is rest few) l)

-- ---- the first of both

-- the trees from a place on among the first items are trees from there on
first-trees : (from k : ℕ) (items : List Item) → (rest : List Item) × (drop from items ≡ drop from (take k items) ++ rest)
first-trees zero k items = (drop k items, sym (take-append-drop k items))
first-trees (suc from) zero [] = ([], refl)
first-trees (suc from) (suc k) [] = ([], refl)
first-trees (suc from) zero (x ∷ items) = (drop from items, refl)
first-trees (suc from) (suc k) (x ∷ items) = first-trees from k items

none-first : (from k : ℕ) (items : List Item) → trees_in (drop from items) ≡ [] → trees_in (drop from (take k items)) ≡ []
none-first from k items none =
    let f = first-trees from k items in
    no-first (trees_in (drop from (take k items))) (trees_in f.0) (sym (trees-append (drop from (take k items)) f.0) ∙ ap trees_in (sym f.1) ∙ none)

shorter : (j k : ℕ) (items : List Item) → j ≤ k → take j (take k items) ≡ take j items
shorter zero k items le = refl
shorter (suc j) zero items le = absurd (omega (arith, le))
shorter (suc j) (suc k) [] le = refl
shorter (suc j) (suc k) (x ∷ items) le = ap (λ xs. x ∷ xs) (shorter j k items (omega (arith, le)))

module _ (notes : List Record) (items : List Item) (taken : ℕ) where
  pub only-parting : (at : ℕ) → PartsAt notes items at → trees_in (drop taken items) ≡ [] → IsOffAt notes items taken at
  only-parting at p none = inl (p, none-first taken at items none)

  pub only-tree : (at : ℕ) → IsFirstTree taken items at → notes ≡ records_in items → IsOffAt notes items taken at
  only-tree at t same = inr (t, (records_in (drop at items), same ∙ ap records_in (sym (take-append-drop at items)) ∙ records-append (take at items) (drop at items)))

  pub parting-first : (at tree : ℕ) → PartsAt notes items at → IsFirstTree taken items tree → at ≤ tree → IsOffAt notes items taken at
  parting-first at tree p t le = inl (p, ap (λ xs. trees_in (drop taken xs)) (sym (shorter at tree items le)) ∙ none-first taken at (take tree items) t.first)

  pub tree-first : (at tree : ℕ) → PartsAt notes items at → IsFirstTree taken items tree → tree ≤ at → IsOffAt notes items taken tree
  tree-first at tree p t le =
      let first = take tree (take at items) in
      let rest = drop tree (take at items) in
      let all : records_in (take at items) ≡ records_in (take tree items) ++ records_in rest =
      ap records_in (sym (take-append-drop tree (take at items))) ∙ records-append first rest ∙ ap (λ xs. records_in xs ++ records_in rest) (shorter tree at items le) in
      inr (t, (records_in rest ++ p.due, p.so_far ∙ ap (λ rs. rs ++ p.due) all ∙ append_assoc (records_in (take tree items)) (records_in rest) p.due))

-- the items before the first at which an answer is looked for
pub before-is : (p : ToldValue) (next : ℕ) → drop next p.items ≡ behind_asides (ahead p) → next ≤ length p.items → take next p.items ≡ items_before p
before-is p next e within = let l = ap length e in ap (λ n. take n p.items) (omega (arith, length-drop next p.items, l, within))
