-- The steps of opening a list: a child is looked at and stored.
use Rattle.std.proofs.Common.{◌≡◌, ◌==◌, ◌↔◌, ◌⊎◌, inl, inr, ℕ, Bool, true, false, IsTrue, if◌then◌else◌, List, [], ◌∷◌, ◌++◌, length, take, Option, Some, None, refl, sym, ap, subst, ◌∙◌, arith}
use Rattle.std.proofs.lemmas.Bool.{eqb-false, eqb-true}
use Rattle.std.proofs.lemmas.List.{append-nil, take-append-le}
use Rattle.std.proofs.lemmas.List.Elements.{All-weaker}
use Rattle.tp_machine.specs.ModuleUse.{action_at}
use Rattle.tp_machine.specs.declared.parts.ActId.{ActId}
use Rattle.tp_machine.specs.declared.machine.Machine.{Machine}
use Rattle.tp_pool.specs.Entries.{Entry, choices_before}
use Rattle.tp_pool.specs.declared.choice.Choice.{Choice as Stored}
use Rattle.tp_schedule.specs.Choices.{Choice, ChoiceList, IsBound, IsChild, IsComplete, IsOpen, going, stopping}
use Rattle.tp_schedule.specs.Holders.{holds_of_act}
use Rattle.tp_schedule.specs.declared.parts.Ask.{Ask}
use Rattle.tp_schedule.specs.declared.parts.Plan.{Plan}
use Rattle.tp_search.specs.Limits.{IsMetLimit, IsWithin, OpensWithin}
use Rattle.tp_search.specs.declared.store.Limit.{Limit}
use Rattle.tp_search.specs.OpenedLists.{IsAhead, IsAtProgress, IsFresh, IsLooked, IsOpenChild, IsOpening, Progress, parent_of}
use Rattle.tp_search.specs.OpenedLists.Progress.{nothing, through, up_to}
use Rattle.tp_search.specs.Stored.{child_by, choices_by, list_by}
use Rattle.tp_search.specs.Stores.{StoreValue, after_keep, better, entry_of, with_list}
use Rattle.tp_search.specs.declared.opening.Opening.{Opening}
use Rattle.tp_search.proofs.ChildFacts.{child-form, child-through, child_by-act, child_by-stop, open-as_many}
use Rattle.tp_search.proofs.OpeningParts.{IsStep, opening-full, opening-stored}
use Rattle.tp_search.proofs.ProgressFacts.{tried-itself, tried-none}
use Rattle.tp_search.proofs.StoreFacts.{choices-stay}

-- one open child more is looked at, and stored: it is not complete with the parent's bound
pub opening-step : (machine : Machine) (plans : List Plan) (ask : Ask) (o : Opening) (s : StoreValue) (before after : Progress) (c : Stored) (b : ℕ) (complete : Bool) (child : ChoiceList)
    → child_by machine o.goal (choices_by machine (choices_before s.entries o.parent)) c ≡ child → IsFresh machine ask o s → IsAtProgress machine plans ask o s before → c.goal ≡ o.goal
    → IsStep machine plans ask (parent_of machine s.entries o.goal o.parent) before after child → IsChild machine ask (parent_of machine s.entries o.goal o.parent) child → IsBound machine plans ask child b
    → (IsTrue complete ↔ IsComplete machine ask child) → (IsTrue complete → b ≡ o.bound → ⊥) → IsAtProgress machine plans ask o (after_keep o.parent c b complete s) after
opening-step machine plans ask o s before after c b complete child is fresh opening goal step is-child is-bound exactly answers = keep (length s.entries == s.capacity) refl where
  other : IsComplete machine ask child → b ≡ o.bound → ⊥
  other is-complete = answers (exactly.1 is-complete)

  grown : (new : List Entry) (best : Option ℕ) → IsOpening machine plans ask (parent_of machine s.entries o.goal o.parent) o.bound s.limit (choices_before s.entries o.parent) (take o.stored s.entries) after (s.entries ++ new) s.capacity s.full best
      → IsOpening machine plans ask (parent_of machine (s.entries ++ new) o.goal o.parent) o.bound s.limit (choices_before (s.entries ++ new) o.parent) (take o.stored (s.entries ++ new)) after (s.entries ++ new) s.capacity s.full best
  grown new best known =
      let same-base : take o.stored (s.entries ++ new) ≡ take o.stored s.entries = take-append-le o.stored s.entries new fresh.stored in
      let same-choices : choices_before (s.entries ++ new) o.parent ≡ choices_before s.entries o.parent = choices-stay s.entries new o.stored o.parent fresh.parent fresh.stored in
      subst (λ base. IsOpening machine plans ask (parent_of machine (s.entries ++ new) o.goal o.parent) o.bound s.limit (choices_before (s.entries ++ new) o.parent) base after (s.entries ++ new) s.capacity s.full best) (sym same-base)
      (subst (λ old. IsOpening machine plans ask (going o.goal (choices_by machine old)) o.bound s.limit old (take o.stored s.entries) after (s.entries ++ new) s.capacity s.full best) (sym same-choices) known)

  keep : (full : Bool) → (length s.entries == s.capacity) ≡ full → IsAtProgress machine plans ask o (if full then record s { full = true } else with_list o.parent c b complete s) after
  keep true all =
      opening-full machine plans ask (parent_of machine s.entries o.goal o.parent) o.bound s.limit (choices_before s.entries o.parent) (take o.stored s.entries) before after s.entries s.capacity s.full s.best child b opening step is-child is-bound
      other fresh.none_before (eqb-true (length s.entries) s.capacity all)
  keep false space =
      let as-child : list_by machine (c ∷ choices_before s.entries o.parent) ≡ child = ap (λ g. child_by machine g (choices_by machine (choices_before s.entries o.parent)) c) goal ∙ is in
      grown (entry_of s.entries o.parent c b ∷ []) (better s.entries complete b (length s.entries) s.best)
      (opening-stored machine plans ask (parent_of machine s.entries o.goal o.parent) o.bound s.limit (choices_before s.entries o.parent) (take o.stored s.entries) before after s.entries s.capacity s.full s.best child b opening step is-child is-bound
      other (eqb-false (length s.entries) s.capacity space) c as-child goal complete exactly)

-- a child with these places, as many as its action has holds, is the only one through them
step-child : (machine : Machine) (plans : List Plan) (ask : Ask) (p : ChoiceList) (act : ActId) (places : List ℕ) → length places ≡ length (holds_of_act (action_at machine act.0))
    → IsStep machine plans ask p (up_to act.0 places) (through act.0 places) (going p.goal (record { act = act; places = places } ∷ p.choices))
step-child machine plans ask p act places many = record {
  more = more;
  new = new;
  there = inr (inr (refl, ([], sym (append-nil places))));
  only = λ l child looked opens. child-through machine plans ask p l act places many child looked opens;
} where
  more : (l : ChoiceList) → IsLooked (up_to act.0 places) l → IsLooked (through act.0 places) l
  more l (inl is-stopped) = inl is-stopped
  more l (inr ahead) = inr (inl ahead)

  new : IsLooked (up_to act.0 places) (going p.goal (record { act = act; places = places } ∷ p.choices)) → ⊥
  new (inl is-stopped) = absurd (let e : false ≡ true = is-stopped in cc)
  new (inr (inl lower)) = omega arith
  new (inr (inr same)) = tried-itself places same.1

-- the stopped child is the only one that stands before the first action
step-stop : (machine : Machine) (plans : List Plan) (ask : Ask) (p : ChoiceList) → IsStep machine plans ask p nothing (up_to 0 []) (stopping p.goal p.choices)
step-stop machine plans ask p = record {
  more = λ l none. absurd none;
  new = λ none. none;
  there = inl refl;
  only = λ l child looked opens. inr (only l (child-form child) looked);
} where
  only : (l : ChoiceList) → ((c : Choice) × (l ≡ going p.goal (c ∷ p.choices))) ⊎ (l ≡ stopping p.goal p.choices) → IsLooked (up_to 0 []) l → l ≡ stopping p.goal p.choices
  only l (inr is) looked = is
  only l (inl (c, is)) (inl is-stopped) = absurd (let e : false ≡ true = sym (ap (λ (x : ChoiceList). x.stopped) is) ∙ is-stopped in cc)
  only l (inl (c, is)) (inr ahead) = absurd (none-ahead (subst (λ (x : ChoiceList). IsAhead 0 [] x.choices) is ahead)) where
    none-ahead : IsAhead 0 [] (c ∷ p.choices) → ⊥
    none-ahead (inl lower) = omega arith
    none-ahead (inr same) = tried-none c.places same.1

-- the child of an action with these places is looked at
pub opening-child : (machine : Machine) (plans : List Plan) (ask : Ask) (o : Opening) (s : StoreValue) (act : ActId) (places : List ℕ) (c : Stored) (b : ℕ) (complete : Bool)
    → IsFresh machine ask o s → IsAtProgress machine plans ask o s (up_to act.0 places) → c.act ≡ Some act → c.goal ≡ o.goal → take (length (holds_of_act (action_at machine act.0))) c.places ≡ places
    → IsChild machine ask (parent_of machine s.entries o.goal o.parent) (child_by machine o.goal (choices_by machine (choices_before s.entries o.parent)) c)
    → IsBound machine plans ask (child_by machine o.goal (choices_by machine (choices_before s.entries o.parent)) c) b
    → (IsTrue complete ↔ IsComplete machine ask (child_by machine o.goal (choices_by machine (choices_before s.entries o.parent)) c)) → (IsTrue complete → b ≡ o.bound → ⊥)
    → IsAtProgress machine plans ask o (after_keep o.parent c b complete s) (through act.0 places)
opening-child machine plans ask o s act places c b complete fresh opening has goal first is-child is-bound exactly answers =
    let parent = parent_of machine s.entries o.goal o.parent in
    let is = child_by-act machine o.goal parent.choices c act places has first in
    let bounded = subst (λ l. IsBound machine plans ask l b) is is-bound in
    let many = open-as_many machine plans ask o.goal (record { act = act; places = places }) parent.choices (b, bounded.opens) in
    opening-step machine plans ask o s (up_to act.0 places) (through act.0 places) c b complete (going o.goal (record { act = act; places = places } ∷ parent.choices)) is fresh opening goal
    (step-child machine plans ask parent act places many) (subst (IsChild machine ask parent) is is-child) bounded
    (subst (λ l. IsTrue complete ↔ IsComplete machine ask l) is exactly) answers

-- the stopped child is looked at
pub opening-stop : (machine : Machine) (plans : List Plan) (ask : Ask) (o : Opening) (s : StoreValue) (c : Stored) (b : ℕ) (complete : Bool)
    → IsFresh machine ask o s → IsAtProgress machine plans ask o s nothing → c.act ≡ None → c.goal ≡ o.goal
    → IsChild machine ask (parent_of machine s.entries o.goal o.parent) (child_by machine o.goal (choices_by machine (choices_before s.entries o.parent)) c)
    → IsBound machine plans ask (child_by machine o.goal (choices_by machine (choices_before s.entries o.parent)) c) b
    → (IsTrue complete ↔ IsComplete machine ask (child_by machine o.goal (choices_by machine (choices_before s.entries o.parent)) c)) → (IsTrue complete → b ≡ o.bound → ⊥)
    → IsAtProgress machine plans ask o (after_keep o.parent c b complete s) (up_to 0 [])
opening-stop machine plans ask o s c b complete fresh opening has goal is-child is-bound exactly answers =
    let parent = parent_of machine s.entries o.goal o.parent in
    let is = child_by-stop machine o.goal parent.choices c has in
    opening-step machine plans ask o s nothing (up_to 0 []) c b complete (stopping o.goal parent.choices) is fresh opening goal
    (step-stop machine plans ask parent) (subst (IsChild machine ask parent) is is-child) (subst (λ l. IsBound machine plans ask l b) is is-bound)
    (subst (λ l. IsTrue complete ↔ IsComplete machine ask l) is exactly) answers

-- the progress goes on over children that do not open to an end within the limit
pub opening-over : (machine : Machine) (plans : List Plan) (ask : Ask) (o : Opening) (s : StoreValue) (p q : Progress) → IsAtProgress machine plans ask o s p → ((list : ChoiceList) → IsLooked p list → IsLooked q list)
    → ((list : ChoiceList) → IsChild machine ask (parent_of machine s.entries o.goal o.parent) list → IsLooked q list → IsLooked p list ⊎ (OpensWithin machine plans ask s.limit list → ⊥)) → IsAtProgress machine plans ask o s q
opening-over machine plans ask o s p q opening more only = record {
  in_limit = opening.in_limit;
  met = opening.met;
  new = opening.new;
  grown = opening.grown;
  children = All-weaker _ _ on opening.new opening.children;
  apart = opening.apart;
  reached = λ list child looked opens. elim (only list child looked) [
    | inl earlier ↦ opening.reached list child earlier opens
    | inr closed ↦ absurd (closed opens)
  ];
  finished = λ list looked answers. elim (only list answers.is_child looked) [
    | inl earlier ↦ opening.finished list earlier answers
    | inr closed ↦ closed (record { end = o.bound; opens = answers.is_bound.opens; within = opening.in_limit })
  ];
  spent = opening.spent;
  has_best = opening.has_best;
} where
  on : (e : Entry) → IsOpenChild machine plans ask (parent_of machine s.entries o.goal o.parent) o.bound (choices_before s.entries o.parent) p e
      → IsOpenChild machine plans ask (parent_of machine s.entries o.goal o.parent) o.bound (choices_before s.entries o.parent) q e
  on e is = record { newest = is.newest; choices = is.choices; goal = is.goal; is_child = is.is_child; looked = more (list_by machine e.choices) is.looked; is_bound = is.is_bound }

-- the progress goes on over children that are not open
pub opening-on : (machine : Machine) (plans : List Plan) (ask : Ask) (o : Opening) (s : StoreValue) (p q : Progress) → IsAtProgress machine plans ask o s p → ((list : ChoiceList) → IsLooked p list → IsLooked q list)
    → ((list : ChoiceList) → IsChild machine ask (parent_of machine s.entries o.goal o.parent) list → IsLooked q list → IsLooked p list ⊎ (IsOpen machine plans ask list → ⊥)) → IsAtProgress machine plans ask o s q
opening-on machine plans ask o s p q opening more only =
    opening-over machine plans ask o s p q opening more (λ list child looked. elim (only list child looked) [
      | inl earlier ↦ inl earlier
      | inr closed ↦ inr (λ opens. closed (opens.end, opens.opens))
    ])

-- a limit that was found leaves what is known
pub opening-limited : (machine : Machine) (plans : List Plan) (ask : Ask) (o : Opening) (s : StoreValue) (p : Progress) (limit : Limit) → IsAtProgress machine plans ask o s p → ((end : ℕ) → IsWithin limit end → IsWithin s.limit end)
    → IsWithin limit o.bound → IsMetLimit machine plans ask limit → IsAtProgress machine plans ask o (record s { limit = limit }) p
opening-limited machine plans ask o s p limit opening less in-limit met = record {
  in_limit = in-limit;
  met = met;
  new = opening.new;
  grown = opening.grown;
  children = opening.children;
  apart = opening.apart;
  reached = λ list child looked opens. opening.reached list child looked (record { end = opens.end; opens = opens.opens; within = less opens.end opens.within });
  finished = opening.finished;
  spent = opening.spent;
  has_best = opening.has_best;
}
