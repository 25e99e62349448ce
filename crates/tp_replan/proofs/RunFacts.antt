-- What is reported of the actions of a plan, one after another: releases, and what is taken back.
use Rattle.std.proofs.Common.{◌≡◌, ℕ, ◌+◌, ◌<◌, ◌≤◌, Bool, true, false, cond, ◌&&◌, not, nat_le, List, [], ◌∷◌, ◌++◌, length, filter, map, take, Some, slice_get, refl, sym, ap, ◌∙◌, arith}
use Rattle.std.proofs.lemmas.Bool.Decides.{nat_tests}
use Rattle.std.proofs.lemmas.List.{append-nil, append_assoc, map-append}
use Rattle.std.proofs.lemmas.Option.{get_or_from_slice_get}
use Rattle.tp_jobs.specs.declared.parts.Job.{Job}
use Rattle.tp_machine.specs.declared.parts.ActId.{ActId}
use Rattle.tp_machine.specs.declared.machine.Machine.{Machine}
use Rattle.tp_schedule.specs.Holders.{Run, runs_of}
use Rattle.tp_schedule.specs.Plans.{IsFormed, point}
use Rattle.tp_schedule.specs.declared.parts.Plan.{Plan}
use Rattle.tp_schedule.specs.declared.records.Record.{Record}
use Rattle.tp_schedule.specs.declared.records.Record.TheVariants.{Release}
use Rattle.tp_schedule.specs.declared.records.SheetName.{SheetName}
use Rattle.tp_event_rules.specs.Clock.{record_of, release_of}
use Rattle.tp_event_rules.specs.Labels.{action_name, label}
use Rattle.tp_event_rules.specs.Moments.{is_recalled}
use Rattle.tp_event_rules.proofs.CutPlans.{length-runs_from}
use Rattle.tp_replan.proofs.DueRuns.{due-takes, due_below, run_at, runs_from-at}
use Rattle.tp_replan.proofs.FateFacts.{kept-more}
use Rattle.tp_replan.proofs.TakenCopies.{take-whole}

-- one more is noted, or is not
pub noted-next : {X Y : Type 0} (test : X → Bool) (g : X → Y) (xs : List X) (i : ℕ) (x : X) (old mid new : List Y) → slice_get xs i ≡ Some x → true ≡ test x
    → mid ≡ old ++ map g (filter test (take i xs)) → new ≡ mid ++ g x ∷ [] → new ≡ old ++ map g (filter test (take (i + 1) xs))
noted-next test g xs i x old mid new at passes before now =
    now ∙ (λ k. before k ++ map g (cond (passes k) (x ∷ []) [])) ∙ append_assoc old (map g (filter test (take i xs))) (map g (cond (test x) (x ∷ []) []))
    ∙ ap (λ ys. old ++ ys) (sym (kept-more test g xs i x at))

pub unnoted-next : {X Y : Type 0} (test : X → Bool) (g : X → Y) (xs : List X) (i : ℕ) (x : X) (old mid : List Y) → slice_get xs i ≡ Some x → false ≡ test x
    → mid ≡ old ++ map g (filter test (take i xs)) → mid ≡ old ++ map g (filter test (take (i + 1) xs))
unnoted-next test g xs i x old mid at fails before =
    before ∙ ap (λ ys. old ++ ys) (sym (append-nil (map g (filter test (take i xs)))) ∙ (λ k. map g (filter test (take i xs)) ++ map g (cond (fails k) (x ∷ []) []))
    ∙ sym (kept-more test g xs i x at))

-- the action at a place of the plan
pub run-at : (p : Plan) (i : ℕ) (act : ActId) → IsFormed p → slice_get p.acts i ≡ Some act → slice_get (runs_of p) i ≡ Some (run_at p i act)
run-at p i act formed is = runs_from-at p.sheet 1 p.acts p.points i act formed.one_more is

-- all actions of the plan
pub runs-whole : (p : Plan) (n : ℕ) → IsFormed p → n ≡ length p.acts → take n (runs_of p) ≡ runs_of p
runs-whole p n formed whole = take-whole (runs_of p) n (whole ∙ sym (length-runs_from p.sheet 1 p.acts p.points formed.one_more))

-- one more action is recalled where it is released and has not started
pub recalls-at : (now : ℕ) (p : Plan) (i : ℕ) (act : ActId) → i < p.released → now < point p i → true ≡ is_recalled now p (run_at p i act)
recalls-at now p i act released later =
    let within : nat_le (i + 1) p.released ≡ true = grind (arith, nat_tests) in
    let starts : nat_le (point p i) now ≡ false = grind (arith, nat_tests) in
    sym (λ k. within k && not (starts k))

pub keeps-at : (now : ℕ) (p : Plan) (i : ℕ) (act : ActId) → (i < p.released → point p i ≤ now) → false ≡ is_recalled now p (run_at p i act)
keeps-at now p i act either = go (nat_le (i + 1) p.released) (nat_le (point p i) now) refl refl where
  go : (a b : Bool) → nat_le (i + 1) p.released ≡ a → nat_le (point p i) now ≡ b → false ≡ (a && not b)
  go false b e e' = refl
  go true true e e' = refl
  go true false e e' =
      let released : i < p.released = grind (arith, nat_tests) in
      let started = either released in
      let is : nat_le (point p i) now ≡ true = grind (arith, nat_tests) in
      absurd cc

-- one more release is reported
pub release-told : (machine : Machine) (jobs : List Job) (last : ℕ) (p : Plan) (i : ℕ) (act : ActId) (sheet : SheetName) (name : List ℕ) (start end : ℕ) (old mid new : List Record)
    → IsFormed p → p.released ≤ i → slice_get p.acts i ≡ Some act → slice_get p.points i ≡ Some start → slice_get p.points (i + 1) ≡ Some end → start ≤ last
    → sheet ≡ label jobs p.sheet → name ≡ action_name machine act
    → mid ≡ old ++ map (λ run. record_of machine jobs (release_of machine run).tell) (due_below last p i)
    → new ≡ mid ++ Release sheet (i + 1) name start end ∷ []
    → new ≡ old ++ map (λ run. record_of machine jobs (release_of machine run).tell) (due_below last p (i + 1))
release-told machine jobs last p i act sheet name start end old mid new formed high acts starts ends early called named before now =
    let s : start ≡ point p i = sym (get_or_from_slice_get p.points i start 0 starts) in
    let e : end ≡ point p (i + 1) = sym (get_or_from_slice_get p.points (i + 1) end 0 ends) in
    let due = due_below last p i in
    let run = run_at p i act in
    let tells : Run → Record = λ r. record_of machine jobs (release_of machine r).tell in
    now ∙ (λ k. before k ++ Release (called k) (i + 1) (named k) (s k) (e k) ∷ [])
    ∙ append_assoc old (map tells due) (tells run ∷ [])
    ∙ ap (λ l. old ++ l) (sym (map-append tells due (run ∷ [])) ∙ ap (map tells) (sym (due-takes last p i act formed high acts (omega arith))))
