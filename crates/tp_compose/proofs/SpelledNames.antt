-- How ENDs and names are spelled: short texts have neither a dot nor a hyphen.
use Rattle.std.proofs.Common.{◌≡◌, ℕ, Bool, true, false, not, ◌&&◌, ◌==◌, cond, List, [], ◌∷◌, ◌++◌, length, map, refl, ap, ◌∙◌, arith}
use Rattle.std.specs.List.{list_all}
use Rattle.std.specs.Prelude.{nat_le}
use Rattle.std.proofs.lemmas.Bool.{and_parts}
use Rattle.std.proofs.lemmas.Bool.Decides.{nat_tests}
use Rattle.tp_compose.specs.Racks.{dotted, hyphened}
use Rattle.tp_compose.specs.TypeRules.{is_short_byte, is_short_text}

abbrev pub lacks : ℕ → List ℕ → Bool
lacks n text = list_all (λ b. not (b == n)) text

byte_apart : (b n : ℕ) → is_short_byte n ≡ false → is_short_byte b ≡ true → (b == n) ≡ false
byte_apart b n long short = cases (b == n) refl where
  cases : (t : Bool) → (b == n) ≡ t → (b == n) ≡ false
  cases false e = e
  cases true e =
      let same : b ≡ n = grind (arith, nat_tests) in
      let both : is_short_byte b ≡ is_short_byte n = ap is_short_byte same in
      cc

bytes_lack : (n : ℕ) (text : List ℕ) → is_short_byte n ≡ false → list_all is_short_byte text ≡ true → lacks n text ≡ true
bytes_lack n [] long short = refl
bytes_lack n (b ∷ text) long short =
    let (here, rest) = and_parts (is_short_byte b) (list_all is_short_byte text) short in
    rw (byte_apart b n long here, bytes_lack n text long rest)

pub short_lacks : (n : ℕ) (text : List ℕ) → is_short_byte n ≡ false → is_short_text text ≡ true → lacks n text ≡ true
short_lacks n text long short = bytes_lack n text long (and_parts (nat_le 1 (length text) && nat_le (length text) 15) (list_all is_short_byte text) short).1

-- ---- an END's own name has a hyphen for the dot

unfoldable pub swapped : ℕ → ℕ
swapped b = cond (b == 46) 45 b

abbrev pub marked : List ℕ → List ℕ
marked text = map swapped text

marked_own : (text : List ℕ) → lacks 46 text ≡ true → marked text ≡ text
unfolding swapped
marked_own [] lack = refl
marked_own (b ∷ text) lack =
    let (here, rest) = and_parts (not (b == 46)) (lacks 46 text) lack in
    let apart : (b == 46) ≡ false = grind arith in
    rw (apart, marked_own text rest)

map_both : (xs ys : List ℕ) → marked (xs ++ ys) ≡ marked xs ++ marked ys
map_both [] ys = refl
map_both (x ∷ xs) ys = ap (λ t. swapped x ∷ t) (map_both xs ys)

pub marked_dotted : (p q : List ℕ) → lacks 46 p ≡ true → lacks 46 q ≡ true → marked (dotted p q) ≡ hyphened p q
unfolding swapped
marked_dotted p q no_p no_q = map_both p (46 ∷ q) ∙ rw (marked_own p no_p, marked_own q no_q)

byte_back : (b c : ℕ) → not (b == 45) ≡ true → not (c == 45) ≡ true → swapped b ≡ swapped c → b ≡ c
unfolding swapped
byte_back b c no_b no_c same = cases (b == 46) (c == 46) refl refl same where
  cases : (s t : Bool) → (b == 46) ≡ s → (c == 46) ≡ t → cond s 45 b ≡ cond t 45 c → b ≡ c
  cases true true e f g = grind (arith, nat_tests)
  cases true false e f g = let h : (c == 45) ≡ true = grind (arith, nat_tests) in cc
  cases false true e f g = let h : (b == 45) ≡ true = grind (arith, nat_tests) in cc
  cases false false e f g = g

pub marked_back : (xs ys : List ℕ) → lacks 45 xs ≡ true → lacks 45 ys ≡ true → marked xs ≡ marked ys → xs ≡ ys
marked_back [] [] no_x no_y same = refl
marked_back [] (y ∷ ys) no_x no_y same = cc
marked_back (x ∷ xs) [] no_x no_y same = cc
marked_back (x ∷ xs) (y ∷ ys) no_x no_y same =
    let (here_x, rest_x) = and_parts (not (x == 45)) (lacks 45 xs) no_x in
    let (here_y, rest_y) = and_parts (not (y == 45)) (lacks 45 ys) no_y in
    let head : swapped x ≡ swapped y = cc in
    let tail : marked xs ≡ marked ys = cc in
    let first : x ≡ y = byte_back x y here_x here_y head in
    let others : xs ≡ ys = marked_back xs ys rest_x rest_y tail in
    cc

pub lacks_dotted : (n : ℕ) (p q : List ℕ) → (46 == n) ≡ false → lacks n p ≡ true → lacks n q ≡ true → lacks n (dotted p q) ≡ true
lacks_dotted n [] q apart no_p no_q = rw (apart, no_q)
lacks_dotted n (b ∷ p) q apart no_p no_q =
    let (here, rest) = and_parts (not (b == n)) (lacks n p) no_p in
    rw (here, lacks_dotted n p q apart rest no_q)

-- ---- a name with one hyphen splits in one way

pub split : (p q a b : List ℕ) → lacks 45 p ≡ true → lacks 45 q ≡ true → hyphened p a ≡ hyphened q b → (p ≡ q) × (a ≡ b)
split [] [] a b no_p no_q same = (refl, cc)
split [] (c ∷ q) a b no_p no_q same =
    let e : 45 ≡ c = cc in
    let f : (c == 45) ≡ true = grind (arith, nat_tests) in
    cc
split (c ∷ p) [] a b no_p no_q same =
    let e : c ≡ 45 = cc in
    let f : (c == 45) ≡ true = grind (arith, nat_tests) in
    cc
split (c ∷ p) (d ∷ q) a b no_p no_q same =
    let head : c ≡ d = cc in
    let tail : hyphened p a ≡ hyphened q b = cc in
    let (first, second) = split p q a b (and_parts (not (c == 45)) (lacks 45 p) no_p).1 (and_parts (not (d == 45)) (lacks 45 q) no_q).1 tail in
    ((cc), second)
