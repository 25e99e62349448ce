-- A turn whose notes are the records of the items, and which leaves no tree, accepts them.
use Rattle.std.proofs.Common.{inl, inr, refl, rules, ◌≡◌, ◌⊎◌, [], ◌++◌, Some, drop, sym, ap, subst, ◌∙◌}
use Rattle.tp_run_laws.specs.Proved.{records_in}
use Rattle.tp_log_planner.specs.ToldAnswers.{ahead}
use Rattle.tp_event_rules.specs.LiveStates.{seen}
use Rattle.tp_event_rules.specs.Ready.{last_copy}
use Rattle.tp_log_check.specs.EventEntry.{trees_in}
use Rattle.tp_log_planner.specs.declared.failure.Reason.TheVariants as reason
use Rattle.tp_log_planner.specs.declared.failure.WrongItem.{WrongItem}
use Rattle.tp_log_check.specs.Causes.{IsDueOrStops}
use Rattle.tp_log_check.specs.FirstDifference.{IsOffAt, PartsAt, items_before}
use Rattle.tp_log_check.proofs.FlawCauses.{found-some, some-from}
use Rattle.tp_log_check.proofs.Judged.{judged-done, judged-stopped}
use Rattle.tp_log_check.proofs.PlacedTurns.{judged-places}
use Rattle.tp_log_check.proofs.TakenTrees.{accepted-as, takes-trees}
use Rattle.tp_log_check.proofs.judgement.judge.Goals as goal

pub returns-in-Ok-clause-accepted : goal.returns-in-Ok-clause-accepted
returns-in-Ok-clause-accepted c none whole behind =
    let noted = c.in-Ok.ensures.turn in
    let right = c.judge_done.ensures.right.0 none in
    let told = c.args.told.now in
    let told' = c.take_event.new.planner in
    let same_items : told'.items ≡ told.items = c.in-Ok.ensures.lasts in
    let seen_items : c.items.result.now ≡ told.items = c.items.ensures ∙ same_items in
    let all : c.as_slice.result.now ≡ noted.0 = c.as_slice.ensures.value ∙ noted.1 ∙ ap (λ notes. notes ++ noted.0) c.new-notes.ensures.items in
    let records : noted.0 ≡ records_in told.items = sym all ∙ right.0 ∙ ap records_in seen_items in
    let rest : trees_in (ahead told') ≡ [] = (λ i. trees_in (drop (sym c.at.ensures.at i) (sym c.items.ensures i))) ∙ right.1 in
    accepted-as c.args.machine.now c.args.event.now whole (seen c.take_event.new.state) (trees_in (ahead told)) (trees_in told.items) (trees_in (ahead told')) noted.0 (records_in told.items)
    (ap (λ n. trees_in (drop n told.items)) c.requires.begins) records rest
    (c.told_turns_are_whole.ensures c.args.machine.now (λ p. trees_in (ahead p)) (takes-trees c.args.machine.now) c.args.event.now whole (seen c.args.state.now) (seen c.take_event.new.state) noted.0 told told' behind noted.2)

pub returns-in-Ok-clause-stocked : goal.returns-in-Ok-clause-stocked
returns-in-Ok-clause-stocked c none events keeps =
    let noted = c.in-Ok.ensures.turn in
    c.turns_keep_stock.ensures c.args.machine.now last_copy events c.args.event.now (seen c.args.state.now) c.args.told.now noted.0 (seen c.take_event.new.state) c.take_event.new.planner c.requires.can.kept noted.2 keeps

pub returns-in-Ok-clause-only : goal.returns-in-Ok-clause-only
returns-in-Ok-clause-only c =
    let machine = c.args.machine.now in
    let noted = c.in-Ok.ensures.turn in
    let told = c.args.told.now in
    let told' = c.take_event.new.planner in
    let same_items : told'.items ≡ told.items = c.in-Ok.ensures.lasts in
    let seen_items : c.items.result.now ≡ told.items = c.items.ensures ∙ same_items in
    let all : c.as_slice.result.now ≡ noted.0 = c.as_slice.ensures.value ∙ noted.1 ∙ ap (λ notes. notes ++ noted.0) c.new-notes.ensures.items in
    let left : trees_in (ahead told') ≡ trees_in (drop c.at.result c.items.result.now) = (λ i. trees_in (drop (sym c.at.ensures.at i) (sym c.items.ensures i))) in
    judged-done machine (c.lawful_turns_are_accepted.ensures machine) last_copy (seen c.args.state.now) c.requires.can c.args.event.now told c.requires.begins noted.0 (seen c.take_event.new.state) told' noted.2 c.judge_done.result (
      λ none. (let right = c.judge_done.ensures.right.0 none in (sym all ∙ right.0 ∙ ap records_in seen_items, left ∙ right.1)),
      λ both. c.judge_done.ensures.right.1 (all ∙ both.0 ∙ ap records_in (sym seen_items), sym left ∙ both.1),
    )

pub returns-in-Ok-clause-places : goal.returns-in-Ok-clause-places
returns-in-Ok-clause-places c none plain =
    let noted = c.in-Ok.ensures.turn in
    let right = c.judge_done.ensures.right.0 none in
    let told = c.args.told.now in
    let told' = c.take_event.new.planner in
    let same_items : told'.items ≡ told.items = c.in-Ok.ensures.lasts in
    let seen_items : c.items.result.now ≡ told.items = c.items.ensures ∙ same_items in
    let all : c.as_slice.result.now ≡ noted.0 = c.as_slice.ensures.value ∙ noted.1 ∙ ap (λ notes. notes ++ noted.0) c.new-notes.ensures.items in
    let records : noted.0 ≡ records_in told.items = sym all ∙ right.0 ∙ ap records_in seen_items in
    let rest : trees_in (ahead told') ≡ [] = (λ i. trees_in (drop (sym c.at.ensures.at i) (sym c.items.ensures i))) ∙ right.1 in
    judged-places c.args.machine.now last_copy (seen c.args.state.now) c.requires.can c.args.event.now told c.requires.begins noted.0 (seen c.take_event.new.state) told' noted.2 records rest same_items plain

pub returns-in-Err-Stopped-clause-only : goal.returns-in-Err-Stopped-clause-only
returns-in-Err-Stopped-clause-only c =
    let stops = c.in-Err-Stopped.ensures.stopped (search rules) in
    found-some _ _ c.judge_stopped.result (search rules) (λ stop. judged-stopped c.args.machine.now (c.lawful_turns_are_accepted.ensures c.args.machine.now) last_copy (seen c.args.state.now) c.requires.can c.args.event.now c.args.told.now c.requires.begins stops.0 c.take_event.new.planner stops.2)

pub returns-in-Ok-clause-why : goal.returns-in-Ok-clause-why
returns-in-Ok-clause-why c =
    let noted = c.in-Ok.ensures.turn in
    let told = c.args.told.now in
    let told' = c.take_event.new.planner in
    let same_items : told'.items ≡ told.items = c.in-Ok.ensures.lasts in
    let seen_items : c.items.result.now ≡ told.items = c.items.ensures ∙ same_items in
    let all : c.as_slice.result.now ≡ noted.0 = c.as_slice.ensures.value ∙ noted.1 ∙ ap (λ notes. notes ++ noted.0) c.new-notes.ensures.items in
    some-from (λ (stop : WrongItem). (stop.reason ≡ reason.Due) × IsOffAt c.as_slice.result.now c.items.result.now c.at.result stop.item)
    (IsDueOrStops c.args.machine.now (seen c.args.state.now) c.args.event.now told.items) c.judge_done.result (λ stop due. inl (
      due.0,
      inl (record {
        planner = told;
        items_are = refl;
        begins = c.requires.begins;
        notes = noted.0;
        after = seen c.take_event.new.state;
        last = told';
        turn = noted.2;
        off = subst (λ notes. IsOffAt notes told.items told'.at stop.item) all
            (subst (λ items. IsOffAt c.as_slice.result.now items told'.at stop.item) seen_items (subst (λ at. IsOffAt c.as_slice.result.now c.items.result.now at stop.item) c.at.ensures.at due.1));
      }),
    )) c.judge_done.ensures.due

pub returns-in-Err-Stopped-clause-why : goal.returns-in-Err-Stopped-clause-why
returns-in-Err-Stopped-clause-why c =
    let stops = c.in-Err-Stopped.ensures.stopped (search rules) in
    let told = c.args.told.now in
    let last = c.take_event.new.planner in
    let all : c.as_slice-in-Err-Stopped.result.now ≡ stops.0 = c.as_slice-in-Err-Stopped.ensures.value ∙ stops.1 ∙ ap (λ notes. notes ++ stops.0) c.new-notes.ensures.items in
    some-from (λ (stop : WrongItem). ((stop.reason ≡ reason.Due) × PartsAt c.as_slice-in-Err-Stopped.result.now (items_before last) stop.item)
    ⊎ ((last.stop ≡ Some stop) × (c.as_slice-in-Err-Stopped.result.now ≡ records_in (items_before last))))
    (IsDueOrStops c.args.machine.now (seen c.args.state.now) c.args.event.now told.items) c.judge_stopped.result (λ stop why. elim why [
      | inl due ↦ inl (
        due.0,
        inr (record {
          planner = told;
          items_are = refl;
          begins = c.requires.begins;
          notes = stops.0;
          last = last;
          stops = stops.2;
          off = subst (λ notes. PartsAt notes (items_before last) stop.item) all due.1;
        }),
      )
      | inr kept ↦ inr (record {
        planner = told;
        items_are = refl;
        begins = c.requires.begins;
        notes = stops.0;
        last = last;
        stops = stops.2;
        so_far = sym all ∙ kept.1;
        kept = kept.0;
      })
    ]) c.judge_stopped.ensures.why
