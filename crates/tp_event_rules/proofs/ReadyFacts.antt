-- How many plans and waiting copies a live state has at the most.
use Rattle.std.proofs.Common.{◌≡◌, ℕ, ◌≤◌, Bool, true, List, [], ◌∷◌, filter, length, refl, ap, arith, All}
use Rattle.std.proofs.lemmas.List.Elements.{All-head, All-tail}
use Rattle.std.proofs.lemmas.List.Sums.{length-filter}
use Rattle.tp_machine.specs.declared.machine.Machine.{Machine}
use Rattle.tp_schedule.specs.LivePlans.{is_live, live_count}
use Rattle.tp_event_rules.specs.Ready.{KeepsLive}
use Rattle.tp_event_rules.specs.States.{SessionState}

-- all are left where all pass
pub filter-whole : {X : Type 0} (t : X → Bool) (xs : List X) → All (λ x. t x ≡ true) xs → filter t xs ≡ xs
filter-whole t [] all = refl
filter-whole t (x ∷ xs) all = rw (All-head (λ x. t x ≡ true) x xs all) (ap (λ l. x ∷ l) (filter-whole t xs (All-tail (λ x. t x ≡ true) x xs all)))

-- all plans are live, so that there are few
pub few-plans : (machine : Machine) (copies : ℕ) (s : SessionState) → KeepsLive machine copies s → length s.plans ≤ 256
few-plans machine copies s keeps =
    let few : live_count machine s.now s.plans ≤ 256 = keeps.plans.few_live in
    let counted = length-filter (is_live machine s.now) s.plans in
    let whole = ap (λ l. length l) (filter-whole (is_live machine s.now) s.plans keeps.live) in
    omega arith
