-- The list that is taken to be opened next has the least bound of those that wait.
use Rattle.std.proofs.Common.{◌≡◌, inl, inr, ℕ, suc, ◌+◌, ◌<◌, ◌≤◌, List, [], ◌∷◌, ◌++◌, length, All, Contains, IfSome, get_or, remove, slice_get, take, drop, refl, sym, ap, subst, ◌∙◌, arith}
use Rattle.std.proofs.lemmas.Bool.{cases_lt}
use Rattle.std.proofs.lemmas.List.{drop_more, take-append-drop}
use Rattle.std.proofs.lemmas.Option.{slice_get_read}
use Rattle.std.proofs.lemmas.List.Elements.{All-append, All-drop, All-nil, All-take, All-weaker}
use Rattle.tp_pool.specs.Entries.{bound_of}
use Rattle.tp_search.specs.SearchProgress.{IsNext}
use Rattle.tp_search.specs.Stores.{HasSooner, IsTaken, StoreValue}
use Rattle.tp_search.specs.declared.goals.OpenGoal.{OpenGoal}
use Rattle.tp_search.specs.declared.next_list.Next.TheVariants.{Goal, Node}

-- a goal of least bound is next, where no stored list with a smaller one waits
pub goal-next : (goals : List OpenGoal) (s s' : StoreValue) (place : ℕ) (g : OpenGoal) (goals' : List OpenGoal) → place < length goals → g ≡ get_or goals place g → All (λ x. g.bound ≤ x.bound) goals
    → goals' ≡ remove goals place → s' ≡ s → ¬ HasSooner s g.bound → IsNext goals s goals' s' (Goal g)
goal-next goals s s' place g goals' within read least removed same none = record {
  out = (
    record {
      before = take place goals;
      after = drop (suc place) goals;
      there = split;
      rest = removed;
    },
    same,
  );
  goals_later = subst (All (λ x. g.bound ≤ x.bound)) (sym removed) (All-append (λ (x : OpenGoal). g.bound ≤ x.bound) (take place goals) (drop (suc place) goals) (All-take (λ (x : OpenGoal). g.bound ≤ x.bound) place goals least) (All-drop (λ (x : OpenGoal). g.bound ≤ x.bound) (suc place) goals least));
  waits_later = λ node waits. elim (cases_lt (bound_of s.entries node) g.bound) [
    | inl sooner ↦ absurd (none (node, subst (λ (t : StoreValue). Contains t.waits node) same waits, sooner))
    | inr later ↦ later
  ];
} where
  next : place + 1 ≡ suc place
  next = omega arith

  split : goals ≡ take place goals ++ g ∷ drop (suc place) goals
  split = sym (take-append-drop place goals) ∙ ap (λ xs. take place goals ++ xs) (drop_more goals place g within ∙ ap (λ n. get_or goals place g ∷ drop n goals) next ∙ ap (λ x. x ∷ drop (suc place) goals) (sym read))

-- a node of least bound is next, where each goal has a greater one than a stored list that waits
pub node-next : (goals : List OpenGoal) (s s' : StoreValue) (node limit : ℕ) → IsTaken s node s' → HasSooner s limit → All (λ x. limit ≤ x.bound) goals → IsNext goals s goals s' (Node node)
node-next goals s s' node limit taken (other, waits, sooner) least = record {
  out = (refl, taken);
  goals_later = All-weaker (λ (x : OpenGoal). limit ≤ x.bound) (λ (x : OpenGoal). bound_of s.entries node ≤ x.bound) (λ x later. (let low = taken.least other waits in omega arith)) goals least;
  waits_later = λ k waits'. taken.least k (taken.only k waits');
}

pub only-node-next : (goals : List OpenGoal) (s s' : StoreValue) (node : ℕ) → IsTaken s node s' → goals ≡ [] → IsNext goals s goals s' (Node node)
only-node-next goals s s' node taken none = record {
  out = (refl, taken);
  goals_later = subst (All (λ x. bound_of s.entries node ≤ x.bound)) (sym none) (All-nil (λ (x : OpenGoal). bound_of s.entries node ≤ x.bound));
  waits_later = λ k waits'. taken.least k (taken.only k waits');
}

-- the first goal as it is read from its place
pub first-least : (goals slice : List OpenGoal) (place : ℕ) (g : OpenGoal) → slice ≡ goals → place < length slice → g ≡ get_or goals place g → IfSome (slice_get slice place) (λ first. All (λ x. first.bound ≤ x.bound) slice)
    → (place < length goals) × All (λ x. g.bound ≤ x.bound) goals
first-least goals slice place g same within read first =
    (subst (λ xs. place < length xs) same within, subst (All (λ x. g.bound ≤ x.bound)) same (subst (λ o. IfSome o (λ h. All (λ x. h.bound ≤ x.bound) slice)) (slice_get_read slice (length slice) place g refl within (read ∙ ap (λ xs. get_or xs place g) (sym same))) first))
