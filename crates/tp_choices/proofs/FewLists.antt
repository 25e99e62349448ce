-- How many open lists with choices there can be: where a search ends, no more than it stored; and no more on the whole schedule
-- than on its live part.
use Rattle.std.proofs.Common.{◌≡◌, ◌≢◌, inl, inr, ◌≤◌, Bool, List, [], ◌∷◌, length, map, refl, ap, subst, ◌∙◌, arith, AllPairs, Contains}
use Rattle.std.proofs.lemmas.List.{length-map}
use Rattle.std.proofs.lemmas.List.Elements.{All-contains}
use Rattle.tp_machine.specs.declared.machine.Machine.{Machine}
use Rattle.tp_schedule.specs.Choices.{ChoiceList, IsOpen}
use Rattle.tp_schedule.specs.declared.parts.Ask.{Ask}
use Rattle.tp_schedule.specs.declared.parts.Plan.{Plan}
use Rattle.tp_schedule.specs.declared.parts.SheetId.{SheetId}
use Rattle.tp_schedule.proofs.Membership.{Contains-cons_cases, Contains-here, Contains-later}
use Rattle.tp_schedule.proofs.Without.{length-without, stays-in, without}
use Rattle.tp_schedule.proofs.Pairs.{AllPairs-head, AllPairs-map_from, AllPairs-tail}
use Rattle.tp_choices.specs.LiveParts.{LiveHasFew, MayAskBeside, MayForget, forgotten_on, less, shift_choice, shifted}
use Rattle.tp_choices.specs.Searches.{EndedHasFew}
use Rattle.tp_choices.proofs.SearchAncestors.{search_reaches}
use Rattle.tp_choices.proofs.WholeLists.{whole_opens}

-- different elements that are all among others are no more than those
few-among : {X : Type 0} (xs ys : List X) → AllPairs (λ a b. a ≢ b) xs → ((x : X) → Contains xs x → Contains ys x) → length xs ≤ length ys
few-among [] ys differ among = omega arith
few-among {X} (x ∷ xs) ys differ among =
    let (n, within, at) = among x (Contains-here x xs) in
    let rest = few-among xs (without ys n) (AllPairs-tail (λ a b. a ≢ b) x xs differ)
    (λ y in'. elim (stays-in ys n x y within at (among y (Contains-later x xs y in'))) [
      | inl same ↦ absurd (All-contains (λ b. x ≢ b) xs y (AllPairs-head (λ a b. a ≢ b) x xs differ) in' same)
      | inr still ↦ still
    ]) in
    omega (arith, length-without ys n within, rest)

pub ended_has_few : EndedHasFew
ended_has_few machine plans ask opened stored searched known lists differ each = few-among lists stored differ (λ list in'. stored-one list (each list in')) where
  stored-one : (list : ChoiceList) → IsOpen machine plans ask list × (list.choices ≢ []) → Contains stored list
  stored-one list (is-open, some) = elim (search_reaches machine plans ask [] opened searched list is-open) [
    | inl met ↦ absurd (omega (arith, met.1.1))
    | inr done ↦ elim (known list done) [ inl there ↦ there | inr none ↦ absurd (some none) ]
  ]

module _ (machine : Machine) (plans : List Plan) (ask : Ask) (gone : SheetId → Bool) (f : MayForget machine ask.now plans gone) (b : MayAskBeside machine plans ask gone) where
  abbrev further : ChoiceList → ChoiceList
  further = shifted machine (forgotten_on machine plans gone)

  -- open lists of the whole schedule come from open lists of the live part
  record ComeFrom (lists : List ChoiceList) : Type 0 where
    small : List ChoiceList
    are : lists ≡ map further small
    each : (list : ChoiceList) → Contains small list → IsOpen machine (less gone plans) ask list × (list.choices ≢ [])

  come-from : (lists : List ChoiceList) → ((list : ChoiceList) → Contains lists list → IsOpen machine plans ask list × (list.choices ≢ [])) → ComeFrom lists
  come-from [] each = record { small = []; are = refl; each = λ list in'. absurd (omega (arith, in'.1)) }
  come-from (list ∷ lists) each =
      let rest = come-from lists (λ l in'. each l (Contains-later list lists l in')) in
      let (is-open, some) = each list (Contains-here list lists) in
      let (near, is, opens) = whole_opens machine plans ask gone list is-open.0 f b is-open.1 in
      record {
        small = near ∷ rest.small;
        are = λ i. is i ∷ rest.are i;
        each = λ l in'. elim (Contains-cons_cases near rest.small l in') [
          | inl same ↦ subst (λ x. IsOpen machine (less gone plans) ask x × (x.choices ≢ [])) same
              ((is-open.0, opens), λ none. some (ap (λ (x : ChoiceList). x.choices) is ∙ ap (map (shift_choice machine (forgotten_on machine plans gone))) none))
          | inr later ↦ rest.each l later
        ];
      }

pub live_has_few : LiveHasFew
live_has_few machine plans ask gone most f b few lists differ each =
    let from = come-from machine plans ask gone f b lists each in
    let up = shifted machine (forgotten_on machine plans gone) in
    let apart = AllPairs-map_from (λ x y. x ≢ y) up from.small (subst (AllPairs (λ x y. x ≢ y)) from.are differ) in
    let small = few from.small (λ i j d before within same. apart i j d before within (ap up same)) from.each in
    omega (arith, ap length from.are, length-map from.small up, small)
