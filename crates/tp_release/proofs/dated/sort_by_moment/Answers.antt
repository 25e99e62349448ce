-- The sort is stable, so that it gives what is reported by moment.
use Rattle.std.proofs.Common.{rules}
use Rattle.std.proofs.lemmas.List.Sorted.{IsNonDecreasingBy-from_sort, answers_always}
use Rattle.tp_release.proofs.SortedTells.{by_moment-sorted}
use Rattle.tp_release.proofs.dated.sort_by_moment.Goals as goal

pub returns : goal.returns
returns c =
    let sorted = c.in_ok-sort_by_key.ensures.sorted (λ t. t.at) (answers_always _ _ _ (λ f a r q k. search rules)) in
    let stable = c.in_ok-sort_by_key.ensures.stable (λ t. t.at) (answers_always _ _ _ (λ f a r q k. search rules)) in
    by_moment-sorted c.args.told.now.items c.sort_by_key.new.self.items (IsNonDecreasingBy-from_sort (λ t. t.at) c.sort_by_key.new.self.items sorted) stable
