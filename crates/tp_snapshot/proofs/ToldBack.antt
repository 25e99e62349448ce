-- What is written for a sound standing is read back.
use Rattle.std.proofs.Common.{◌≡◌, ℕ, true, List, [], ◌∷◌, length, get_or, map, Option, Some, None, refl, sym, subst, codes}
use Rattle.std.specs.Str.{bytes_eq}
use Rattle.std.proofs.lemmas.Bool.{le-leb, ltb-true}
use Rattle.std.proofs.lemmas.List.Folds.{Any-from_list_any}
use Rattle.std.proofs.lemmas.Slice.Eq.{bytes_eq-Decides}
use Rattle.serde_json.specs.Data.{Data, array, string}
use Rattle.serde_json.specs.Find.{get}
use Rattle.serde_json.specs.View.{items_of}
use Rattle.tp_machine.proofs.MachineFacts.{is_machine}
use Rattle.tp_machine.specs.declared.machine.Machine.{Machine}
use Rattle.tp_machine.specs.declared.parts.Feeder.{Feeder}
use Rattle.tp_machine.specs.declared.parts.Sheet.{Sheet}
use Rattle.tp_machine.specs.declared.parts.State.{State}
use Rattle.tp_schedule.specs.Routes.{IsFreshStart}
use Rattle.tp_jobs.specs.Backlogs.{names_of}
use Rattle.tp_jobs.specs.JobRefusals.{has_media}
use Rattle.tp_jobs.specs.declared.standing.Standing.{Standing}
use Rattle.tp_words.specs.Fields.{IsName}
use Rattle.tp_session_standing.specs.Sound.{AreFree, IsFreeOf, IsSound}
use Rattle.tp_snapshot.proofs.ListsBack.{each-told, job-back, wait-back}
use Rattle.tp_snapshot.proofs.OutsBack.{outs-back}
use Rattle.tp_snapshot.proofs.PlansBack.{plan-back}
use Rattle.tp_snapshot.proofs.Seen.{values_of-items}
use Rattle.tp_snapshot.specs.Jobs.{job_of}
use Rattle.tp_snapshot.specs.Laws.{IsSpelled}
use Rattle.tp_snapshot.specs.Moments.{free_in, now_of, outs_of, stock_from, stock_of}
use Rattle.tp_snapshot.specs.Plans.{plan_of}
use Rattle.tp_snapshot.specs.Texts.{IsWritten}
use Rattle.tp_snapshot.specs.Told.{IsToldBy, Tells}
use Rattle.tp_snapshot.specs.WaitingCopies.{wait_of}
use Rattle.tp_snapshot.specs.Written.{job_data, out_names, plan_data, snapshot_data, stock_data, wait_data}

free-back : (stock free : Option ℕ) → IsFreeOf stock free → free_in stock (stock_data free) ≡ Some free
free-back None None fits = refl
free-back None (Some n) fits = absurd fits
free-back (Some s) None fits = absurd fits
free-back (Some s) (Some n) fits = rw (le-leb n 1000256 fits) refl

stock-back : (feeders : List Feeder) (stock : List (Option ℕ)) → AreFree feeders stock → stock_from feeders (map stock_data stock) ≡ Some stock
unfolding stock_from
stock-back [] [] fits = refl
stock-back [] (free ∷ stock) fits = absurd fits
stock-back (f ∷ feeders) [] fits = absurd fits
stock-back (f ∷ feeders) (free ∷ stock) fits = rw (free-back f.stock free fits.0, stock-back feeders stock fits.1) refl

-- a media that a feeder has is a name
fed : (machine : Machine) (media : List ℕ) → has_media machine media ≡ true → IsName media
fed machine media has =
    let any = Any-from_list_any (λ (f : Feeder). bytes_eq media f.media) machine.feeders has in
    let named : IsName any.1.media = subst (λ (f : Feeder). IsName f.media) any.3 ((is_machine machine).media_names any.0 any.1 any.2) in
    subst IsName (sym ((bytes_eq-Decides media any.1.media).0 any.4)) named

begun : (machine : Machine) (want : Sheet) (s : State) → IsFreshStart machine want s → IsName want.media
begun machine want s any =
    let named : IsName any.1.media = subst (λ (f : Feeder). IsName f.media) any.3 ((is_machine machine).media_names any.0 any.1 any.2) in
    subst IsName any.4.0 named

module _ (text : List ℕ) (machine : Machine) (t : Standing) (sound : IsSound machine t) (spelled : IsSpelled t) where
  abbrev d : Data
  d = snapshot_data text machine t

  now-back : now_of d ≡ Some t.now
  unfolding snapshot_data
  now-back = rw (le-leb t.now 1000000000 sound.now_at_most) refl

  outs-told : outs_of machine d ≡ Some t.outs
  unfolding snapshot_data
  outs-told = rw (values_of-items (map string (out_names t.outs 0 machine.modules))) (outs-back t.outs machine.modules (is_machine machine).modules.1 (is_machine machine).module_names.1 spelled.outs sound.outs)

  stock-told : stock_of machine d ≡ Some t.stock
  unfolding snapshot_data
  stock-told = rw (values_of-items (map stock_data t.stock)) (stock-back machine.feeders t.stock sound.stock)

  jobs-at : get (codes "jobs") d ≡ Some (array (items_of (map (job_data machine) t.jobs)))
  unfolding snapshot_data
  jobs-at = refl

  plans-at : get (codes "plans") d ≡ Some (array (items_of (map (plan_data machine) t.plans)))
  unfolding snapshot_data
  plans-at = refl

  waiting-at : get (codes "waiting") d ≡ Some (array (items_of (map (wait_data t.jobs) t.waiting)))
  unfolding snapshot_data
  waiting-at = refl

  pub told-back : IsToldBy machine d t
  told-back = record {
    now = now-back;
    outs = outs-told;
    stock = stock-told;
    jobs = each-told 1000000 (codes "jobs") (job_data machine) (job_of machine) t.jobs d jobs-at sound.few_jobs (λ k j low. job-back machine (get_or t.jobs k j) (spelled.names k j low) (sound.jobs.trays k j low));
    differ = sound.jobs.names;
    plans = each-told 256 (codes "plans") (plan_data machine) (plan_of machine t.now t.jobs) t.plans d plans-at sound.few_plans
        (λ k p low. (let kept = sound.plans k p low in let timed = sound.legal.timed k p low in
        plan-back machine t.now t.jobs (get_or t.plans k p) (ltb-true (get_or t.plans k p).sheet.job (length t.jobs) kept.numbered.known) sound.jobs.names spelled.names sound.jobs.trays kept.own (begun machine (get_or t.plans k p).want timed.start timed.starts) kept.numbered.sheets kept.numbered.copies kept.points timed kept.released));
    waiting = each-told 4352 (codes "waiting") (wait_data t.jobs) (wait_of (names_of t.jobs)) t.waiting d waiting-at sound.few_waiting
        (λ k w low. (let kept = sound.waiting k w low in
        wait-back t.jobs (get_or t.waiting k w) (ltb-true (get_or t.waiting k w).sheet.job (length t.jobs) kept.numbered.known) sound.jobs.names spelled.names (fed machine (get_or t.waiting k w).want.media kept.media) kept.numbered.sheets kept.numbered.copies));
  }

pub written-is-told : (bytes : List ℕ) (machine : Machine) (t : Standing) → IsSound machine t → IsSpelled t → IsWritten bytes machine t → Tells bytes machine t
written-is-told bytes machine t sound spelled written = (snapshot_data written.text machine t, written.json, told-back written.text machine t sound spelled)
