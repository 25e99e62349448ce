-- The trees of a lawful run stand where they prove: behind each plan and its moves, and behind each none.
use Rattle.std.proofs.Common.{◌≡◌, ◌⊎◌, inl, inr, ℕ, Bool, true, false, List, [], ◌∷◌, ◌++◌, map, take, drop, filter, flat_map, refl, sym, ap, subst, ◌∙◌, All, Option, append_assoc}
use Rattle.std.proofs.lemmas.Grind.{flat_map-append}
use Rattle.std.proofs.lemmas.List.Elements.{All-head, All-tail, filter-append}
use Rattle.std.specs.Prelude.{IsTrue}
use Rattle.tp_bounds.specs.declared.tree.BoundTree.{BoundTree}
use Rattle.tp_machine.specs.declared.machine.Machine.{Machine}
use Rattle.tp_script.specs.declared.event.Event.{Event}
use Rattle.tp_schedule.specs.PlannerAnswers.{IsAnswer}
use Rattle.tp_schedule.specs.declared.parts.Reply.{Reply}
use Rattle.tp_schedule.specs.declared.parts.Reply.TheVariants.{Planned, Never, Spent}
use Rattle.tp_schedule.specs.declared.records.Record.{Record}
use Rattle.tp_schedule.specs.declared.records.Record.TheVariants.{Plan as TellsPlan, Never as TellsNever}
use Rattle.tp_schedule.specs.declared.records.SheetName.{SheetName}
use Rattle.tp_bounds.specs.Trees.{IsTree}
use Rattle.tp_bound_laws.proofs.ShortLines.{few-short}
use Rattle.tp_log.specs.Logs.{IsItem}
use Rattle.tp_log.specs.declared.item.Item.{Item}
use Rattle.tp_log.specs.declared.item.Item.TheVariants as item
use Rattle.tp_event_rules.specs.Logs.{Entry, IsLawful, Run}
use Rattle.tp_event_rules.specs.States.{SessionState, empty_state}
use Rattle.tp_headline.specs.Given.{Answers, Given, StandsBehind, is_answer, told_by, told_of_given}
use Rattle.tp_headline.proofs.GivenAnswers.{IsRightGiven, run-gives, turn-gives}
use Rattle.tp_run_laws.specs.Proved.{AreProved, IsProvedNone, IsProvedPlan, records_in}
use Rattle.tp_run_laws.specs.Runs.{begin_with_move, is_of_plan, items_in, items_with, spent_by, tree_claims, trees_behind}
use Rattle.tp_run_laws.proofs.ProvedAnswers.{ShownBy, no-plan, shown-more}
use Rattle.tp_run_laws.proofs.ProvedEntries.{due-plain, found, is_proved}

-- ---- parts of lists

-- a part of a joined list begins in the first or in the second one
splits : {A : Type 0} (xs ys before : List A) (z : A) (after : List A) → xs ++ ys ≡ before ++ z ∷ after
    → ((mid : List A) × (xs ≡ before ++ z ∷ mid) × (mid ++ ys ≡ after)) ⊎ ((more : List A) × (before ≡ xs ++ more) × (ys ≡ more ++ z ∷ after))
splits [] ys before z after e = inr (before, refl, e)
splits (x ∷ xs) ys [] z after e =
    let same : x ≡ z = cc in
    let rest : xs ++ ys ≡ after = cc in
    inl (xs, ap (λ y. y ∷ xs) same, rest)
splits (x ∷ xs) ys (b ∷ before) z after e =
    let same : x ≡ b = cc in
    let rest : xs ++ ys ≡ before ++ z ∷ after = cc in
    elim (splits xs ys before z after rest) [
      | inl h ↦ inl (h.0, (λ i. same i ∷ h.1 i), h.2)
      | inr h ↦ inr (h.0, (λ i. sym same i ∷ h.1 i), h.2)
    ]

records-append : (xs ys : List Item) → records_in (xs ++ ys) ≡ records_in xs ++ records_in ys
records-append [] ys = refl
records-append (item.Event event ∷ xs) ys = records-append xs ys
records-append (item.Note told ∷ xs) ys = ap (λ l. told ∷ l) (records-append xs ys)
records-append (item.Tree tree ∷ xs) ys = records-append xs ys

records-trees : (trees : List BoundTree) (items : List Item) → records_in (map (λ t. item.Tree t) trees ++ items) ≡ records_in items
records-trees [] items = refl
records-trees (t ∷ trees) items = records-trees trees items

-- the records of an entry's items are its own
records-with : (of_plan : Bool) (records : List Record) (trees : List BoundTree) → records_in (items_with of_plan records trees) ≡ records
records-with of_plan [] trees = refl
records-with of_plan (r ∷ records) trees =
    let n = trees_behind of_plan r records in
    ap (λ l. r ∷ l) (records-trees (take n trees) (items_with (is_of_plan of_plan r) records (drop n trees)) ∙ records-with (is_of_plan of_plan r) records (drop n trees))

all-behind : {A : Type 0} (P : A → Type 0) (xs ys : List A) → All P (xs ++ ys) → All P ys
all-behind P [] ys all = all
all-behind P (x ∷ xs) ys all = all-behind P xs ys (All-tail P x (xs ++ ys) all)

-- ---- the whole log

module _ (machine : Machine) (nodes : ℕ) where
  -- the answer that a record of the log tells, with its tree
  record FoundIn (s : SessionState) (log : List (Entry BoundTree)) (last : SessionState) (told : List Record) (r : Record) (behind : List Item) : Type 0 where
    first : List Given
    g : Given
    later : List Given
    answers : Answers (spent_by nodes) machine s log (first ++ g ∷ later) last
    right : IsRightGiven (spent_by nodes) machine g
    before : told ≡ flat_map (told_by machine) first
    tells : told_by machine g ≡ r ∷ []
    shown : ShownBy machine nodes g.plans g.ask g.reply g.after behind

  right-at : (first later : List Given) (g : Given) → All (IsRightGiven (spent_by nodes) machine) (first ++ g ∷ later) → IsRightGiven (spent_by nodes) machine g
  right-at [] later g all = All-head (IsRightGiven (spent_by nodes) machine) g later all
  right-at (x ∷ first) later g all = right-at first later g (All-tail (IsRightGiven (spent_by nodes) machine) x (first ++ g ∷ later) all)

  module _ (z : Record) (proved : is_proved z ≡ true) where
    found-in : (s : SessionState) (log : List (Entry BoundTree)) (last : SessionState) → Run tree_claims true (spent_by nodes) machine s log last
        → (before after : List Item) → items_in log ≡ before ++ item.Note z ∷ after → FoundIn s log last (filter is_answer (records_in before)) z after
    found-in s [] last run [] after e = absurd cc
    found-in s [] last run (x ∷ before) after e = absurd cc
    found-in s (entry ∷ log) last (mid, turn, run) [] after e =
        let all : item.Event entry.event ∷ (items_with false entry.records entry.trees ++ items_in log) ≡ item.Note z ∷ after = e in
        absurd cc
    found-in s (entry ∷ log) last (mid, turn, run) (x ∷ before) after e =
        let all : item.Event entry.event ∷ (items_with false entry.records entry.trees ++ items_in log) ≡ x ∷ (before ++ item.Note z ∷ after) = e in
        let same : item.Event entry.event ≡ x = cc in
        let rest : items_with false entry.records entry.trees ++ items_in log ≡ before ++ item.Note z ∷ after = cc in
        subst (λ y. FoundIn s (entry ∷ log) last (filter is_answer (records_in (y ∷ before))) z after) same
        (elim (splits (items_with false entry.records entry.trees) (items_in log) before (item.Note z) after rest) [
          | inl h ↦ here h.0 h.1 h.2
          | inr h ↦ there h.0 h.1 (found-in mid log last run h.0 after h.2)
        ])
      where
        -- in the first entry
        here : (part : List Item) → items_with false entry.records entry.trees ≡ before ++ item.Note z ∷ part → part ++ items_in log ≡ after
            → FoundIn s (entry ∷ log) last (filter is_answer (records_in before)) z after
        here part is more =
            let r = run-gives tree_claims true (spent_by nodes) machine mid log last run in
            let t = turn-gives tree_claims true (spent_by nodes) machine s entry mid r.given turn in
            let f = found machine nodes z proved part false entry.records entry.trees t.given (due-plain machine nodes (begin_with_move entry.records) entry.trees t.given t.takes) t.told.told before is in
            let all : t.given ++ r.given ≡ f.first ++ f.g ∷ (f.later ++ r.given) = ap (λ l. l ++ r.given) f.is ∙ append_assoc f.first (f.g ∷ f.later) r.given in
            record {
              first = f.first;
              g = f.g;
              later = f.later ++ r.given;
              answers = subst (λ l. Answers (spent_by nodes) machine s (entry ∷ log) l last) all (mid, (r.given, t.turn, r.answers));
              right = right-at f.first f.later f.g (subst (All (IsRightGiven (spent_by nodes) machine)) f.is t.told.right);
              before = f.before;
              tells = f.tells;
              shown = subst (ShownBy machine nodes f.g.plans f.g.ask f.g.reply f.g.after) more (shown-more machine nodes f.g.plans f.g.ask f.g.reply f.g.after part (items_in log) f.shown);
            }

        -- in a later one
        there : (more : List Item) → before ≡ items_with false entry.records entry.trees ++ more → FoundIn mid log last (filter is_answer (records_in more)) z after
            → FoundIn s (entry ∷ log) last (filter is_answer (records_in before)) z after
        there more is f =
            let t = turn-gives tree_claims true (spent_by nodes) machine s entry mid (f.first ++ f.g ∷ f.later) turn in
            let told : filter is_answer (records_in before) ≡ flat_map (told_by machine) (t.given ++ f.first) =
            ap (λ l. filter is_answer (records_in l)) is ∙ ap (filter is_answer) (records-append (items_with false entry.records entry.trees) more ∙ ap (λ l. l ++ records_in more) (records-with false entry.records entry.trees))
            ∙ filter-append is_answer entry.records (records_in more) ∙ (λ i. t.told.told i ++ f.before i) ∙ sym (flat_map-append (told_by machine) t.given f.first) in
            record {
              first = t.given ++ f.first;
              g = f.g;
              later = f.later;
              answers = subst (λ l. Answers (spent_by nodes) machine s (entry ∷ log) l last) (sym (append_assoc t.given f.first (f.g ∷ f.later))) (mid, (f.first ++ f.g ∷ f.later, t.turn, f.answers));
              right = f.right;
              before = told;
              tells = f.tells;
              shown = f.shown;
            }

  module _ (log : List (Entry BoundTree)) (last : SessionState) (run : Run tree_claims true (spent_by nodes) machine empty_state log last) (texts : All IsItem (items_in log)) where
    -- a tree behind a record of the log has a text
    has-text : (before after moved rest : List Item) (r : Record) (tree : BoundTree) → items_in log ≡ before ++ item.Note r ∷ after → after ≡ moved ++ item.Tree tree ∷ rest → IsTree tree
    has-text before after moved rest r tree e stands =
        All-head IsItem (item.Tree tree) rest (all-behind IsItem moved (item.Tree tree ∷ rest) (subst (All IsItem) stands (All-tail IsItem (item.Note r) after (all-behind IsItem before (item.Note r ∷ after) (subst (All IsItem) e texts)))))

    proved-plan : (before after : List Item) (copy : SheetName) (place points : List ℕ) (acts : List (List ℕ)) → items_in log ≡ before ++ item.Note (TellsPlan copy place points acts) ∷ after
        → IsProvedPlan machine nodes log last (records_in before) (TellsPlan copy place points acts) after
    proved-plan before after copy place points acts e = go f.g.reply (record { first = f.first; later = f.later; answers = f.answers; told = f.before }) f.right f.tells f.shown where
      f : FoundIn empty_state log last (filter is_answer (records_in before)) (TellsPlan copy place points acts) after
      f = found-in (TellsPlan copy place points acts) refl empty_state log last run before after e

      go : (reply : Reply) → StandsBehind (spent_by nodes) machine log last (records_in before) (record { plans = f.g.plans; ask = f.g.ask; reply = reply; after = f.g.after })
          → IsAnswer (spent_by nodes) machine f.g.plans f.g.ask reply f.g.after → told_of_given machine f.g.ask reply f.g.after ≡ TellsPlan copy place points acts ∷ [] → ShownBy machine nodes f.g.plans f.g.ask reply f.g.after after
          → IsProvedPlan machine nodes log last (records_in before) (TellsPlan copy place points acts) after
      go Planned stands right tells (p, planned, (tree, proves, b)) = record {
        answer = record { plans = f.g.plans; ask = f.g.ask; after = f.g.after; stands = stands; is = tells; earliest = right.0; least = right.1 };
        plan = p;
        planned = planned;
        moves = b.moves;
        moved = b.moved;
        tree = tree;
        rest = b.rest;
        stands = b.stands;
        proves = proves.0;
        short = few-short tree (has-text before after (map (λ m. item.Note m) b.moves) b.rest (TellsPlan copy place points acts) tree e b.stands) proves.1;
      }
      go Never stands right tells shown = absurd cc
      go (Spent bound) stands right tells shown = absurd cc

    proved-none : (before after : List Item) (copy : SheetName) (goal : Option (List ℕ)) → items_in log ≡ before ++ item.Note (TellsNever copy goal) ∷ after
        → IsProvedNone machine nodes log last (records_in before) (TellsNever copy goal) after
    proved-none before after copy goal e = go f.g.reply (record { first = f.first; later = f.later; answers = f.answers; told = f.before }) f.right f.tells f.shown where
      f : FoundIn empty_state log last (filter is_answer (records_in before)) (TellsNever copy goal) after
      f = found-in (TellsNever copy goal) refl empty_state log last run before after e

      go : (reply : Reply) → StandsBehind (spent_by nodes) machine log last (records_in before) (record { plans = f.g.plans; ask = f.g.ask; reply = reply; after = f.g.after })
          → IsAnswer (spent_by nodes) machine f.g.plans f.g.ask reply f.g.after → told_of_given machine f.g.ask reply f.g.after ≡ TellsNever copy goal ∷ [] → ShownBy machine nodes f.g.plans f.g.ask reply f.g.after after
          → IsProvedNone machine nodes log last (records_in before) (TellsNever copy goal) after
      go Planned stands right tells (p, planned, shown) = absurd (no-plan machine nodes f.g.ask f.g.after p (TellsNever copy goal) refl planned tells)
      go Never stands right tells (tree, proves, (rest, is)) = record {
        answer = record { plans = f.g.plans; ask = f.g.ask; after = f.g.after; stands = stands; is = cc; stays = right.0; none = right.1 };
        tree = tree;
        rest = rest;
        stands = is;
        proves = proves.0;
        short = few-short tree (has-text before after [] rest (TellsNever copy goal) tree e is) proves.1;
      }
      go (Spent bound) stands right tells shown = absurd cc

pub are-proved : (machine : Machine) (nodes : ℕ) (bounds : Bool) (events : List Event) (log : List (Entry BoundTree))
    (lawful : IsLawful tree_claims bounds (spent_by nodes) machine events log) → All IsItem (items_in log) → IsTrue bounds → AreProved machine nodes log lawful.last
are-proved machine nodes true events log lawful texts on = record {
  plans = proved-plan machine nodes log lawful.last lawful.run texts;
  nones = proved-none machine nodes log lawful.last lawful.run texts;
}
are-proved machine nodes false events log lawful texts on = absurd cc
