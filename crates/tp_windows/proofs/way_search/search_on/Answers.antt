use Rattle.std.proofs.Common.{◌≡◌, ◌<◌, List, [], ◌∷◌, length, refl, ap, subst, arith, rules, ◌∙◌, All}
use Rattle.std.specs.Prelude.{IfNone, IfSome, ◌≤◌}
use Rattle.std.specs.List.Sorted.{IsPermutation}
use Rattle.tp_windows.proofs.FrontSteps.{all-keyed, first-rest, first-there, first-within, front-bounds, front-popped, later-keys, none-keyed, others-keyed}
use Rattle.tp_windows.specs.SoughtWays.{IsFrontFor}
use Rattle.tp_windows.specs.WaitingLabels.{IsKeyed}
use Rattle.tp_windows.specs.declared.front.Front.{Front}
use Rattle.tp_windows.specs.declared.waiting_heap.Waiting.{Waiting}
use Rattle.tp_windows.proofs.way_search.search_on.Goals as goal

pub returns-in_default-clause-way : goal.returns-in_default-clause-way
returns-in_default-clause-way c = λ before.
    let none : c.args.front.now.waiting.items ≡ [] = subst (λ o. IfNone o (c.args.front.now.waiting.items ≡ [])) c.in_default.is c.take.ensures.none in
    front-bounds c.args.sought c.args.front.now [] c.args.sought.limit (omega arith) (none-keyed (IsKeyed c.args.sought.rests.now.rests.items c.args.front.now.arrivals.items) [] refl) (none-keyed (λ (one : Waiting). c.args.sought.limit < one.key) [] refl)
    (subst (λ (xs : List Waiting). IsFrontFor c.args.sought xs c.args.front.now) none before)

pub index-from-requires : goal.index-from-requires
index-from-requires c =
    let moved = subst (λ o. IfSome o (λ one. IsPermutation c.args.front.now.waiting.items (one ∷ c.take.new.heap.items))) c.in-Some.is c.take.ensures.taken in
    let less : c.in-Some.first.number < length c.args.front.now.arrivals.items = first-within c.args.sought c.args.front.now c.take.new.heap.items c.in-Some.first moved c.requires.keyed in
    search rules

pub open-requires-clause-there : goal.open-requires-clause-there
open-requires-clause-there c =
    let moved = subst (λ o. IfSome o (λ one. IsPermutation c.args.front.now.waiting.items (one ∷ c.take.new.heap.items))) c.in-Some.is c.take.ensures.taken in
    first-there c.args.sought c.args.front.now c.take.new.heap.items c.in-Some.first moved c.requires.keyed c.index-from.result.now c.index-from.ensures

pub open-requires-clause-rest : goal.open-requires-clause-rest
open-requires-clause-rest c =
    let moved = subst (λ o. IfSome o (λ one. IsPermutation c.args.front.now.waiting.items (one ∷ c.take.new.heap.items))) c.in-Some.is c.take.ensures.taken in
    first-rest c.args.sought c.args.front.now c.take.new.heap.items c.in-Some.first moved c.requires.keyed c.index-from.result.now c.index-from.ensures

pub returns-in-Done-clause-keyed : goal.returns-in-Done-clause-keyed
returns-in-Done-clause-keyed c =
    let moved = subst (λ o. IfSome o (λ one. IsPermutation c.args.front.now.waiting.items (one ∷ c.take.new.heap.items))) c.in-Some.is c.take.ensures.taken in
    c.open.ensures.keyed (others-keyed c.args.sought c.args.front.now c.take.new.heap.items c.in-Some.first moved c.requires.keyed)

pub returns-in-Done-clause-front : goal.returns-in-Done-clause-front
returns-in-Done-clause-front c = λ none before.
    let moved = subst (λ o. IfSome o (λ one. IsPermutation c.args.front.now.waiting.items (one ∷ c.take.new.heap.items))) c.in-Some.is c.take.ensures.taken in
    let popped : Front = record c.args.front.now { waiting = c.take.new.heap } in
    c.open.ensures.done c.in-Done.is (front-popped c.args.sought c.args.front.now popped c.in-Some.first refl refl moved before)

pub returns-in-Full-clause-keyed : goal.returns-in-Full-clause-keyed
returns-in-Full-clause-keyed c =
    let moved = subst (λ o. IfSome o (λ one. IsPermutation c.args.front.now.waiting.items (one ∷ c.take.new.heap.items))) c.in-Some.is c.take.ensures.taken in
    c.open.ensures.keyed (others-keyed c.args.sought c.args.front.now c.take.new.heap.items c.in-Some.first moved c.requires.keyed)

pub returns-then-are_all_later-clause-keyed : goal.returns-then-are_all_later-clause-keyed
returns-then-are_all_later-clause-keyed c =
    let moved = subst (λ o. IfSome o (λ one. IsPermutation c.args.front.now.waiting.items (one ∷ c.take.new.heap.items))) c.in-Some.is c.take.ensures.taken in
    c.open.ensures.keyed (others-keyed c.args.sought c.args.front.now c.take.new.heap.items c.in-Some.first moved c.requires.keyed)

pub returns-then-are_all_later-clause-way : goal.returns-then-are_all_later-clause-way
returns-then-are_all_later-clause-way c = λ before bound less le.
    let moved = subst (λ o. IfSome o (λ one. IsPermutation c.args.front.now.waiting.items (one ∷ c.take.new.heap.items))) c.in-Some.is c.take.ensures.taken in
    let popped : Front = record c.args.front.now { waiting = c.take.new.heap } in
    let same : c.deref.result.now ≡ c.take.new.heap.items = c.deref.ensures.value ∙ ap (λ (f : Front). f.waiting.items) (c.open.ensures.goal c.in-Goal.is) in
    let late = subst (λ (xs : List Waiting). All (λ (one : Waiting). c.index-from.result.now.from ≤ one.key) (c.in-Some.first ∷ xs)) same (c.are_all_later.ensures c.if-are_all_later.true) in
    front-bounds c.args.sought popped (c.in-Some.first ∷ c.take.new.heap.items) bound le (all-keyed c.args.sought c.args.front.now c.take.new.heap.items c.in-Some.first moved c.requires.keyed)
    (later-keys (c.in-Some.first ∷ c.take.new.heap.items) bound c.index-from.result.now.from less late)
    (front-popped c.args.sought c.args.front.now popped c.in-Some.first refl refl moved before)

pub returns-else-are_all_later-clause-keyed : goal.returns-else-are_all_later-clause-keyed
returns-else-are_all_later-clause-keyed c =
    let moved = subst (λ o. IfSome o (λ one. IsPermutation c.args.front.now.waiting.items (one ∷ c.take.new.heap.items))) c.in-Some.is c.take.ensures.taken in
    c.open.ensures.keyed (others-keyed c.args.sought c.args.front.now c.take.new.heap.items c.in-Some.first moved c.requires.keyed)
