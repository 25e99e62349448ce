-- The engine's turn on the live part is one of right answers on every whole state behind it, and each of its records and trees has
-- a text.
use Rattle.std.proofs.Common.{◌≡◌, ◌++◌, All, Result, Ok, Err, refl, sym, ap, ◌∙◌, subst}
use Rattle.std.specs.Prelude.{OnOk}
use Rattle.tp_bounds.specs.Trees.{IsPrintable as HasLines}
use Rattle.tp_log.specs.Grammar.{HasFields, IsRecord}
use Rattle.tp_log.specs.Logs.{log_text}
use Rattle.tp_log.specs.Records.{IsPrintable}
use Rattle.tp_run_laws.specs.Runs.{entry_of, items_of}
use Rattle.tp_run_laws.specs.Wholes.{HasWholeTurn}
use Rattle.tp_event_rules.proofs.ListFacts.{All-both}
use Rattle.tp_event_rules.specs.LiveStates.{seen}
use Rattle.tp_event_rules.specs.Ready.{last_copy}
use Rattle.tp_session.proofs.session_turn.take_turn.Goals as goal

both-ok : {A E P Q R : Type 0} (r : Result A E) → OnOk r P → OnOk r Q → (P → Q → R) → OnOk r R
both-ok (Ok v) p q f = f p q
both-ok (Err e) p q f = tt

ok-of : {A E R : Type 0} (r : Result A E) → R → OnOk r R
ok-of (Ok v) x = x
ok-of (Err e) x = tt

-- the notes are the records of the turn, each of which has a line
pub tell-requires-clause-lines : goal.tell-requires-clause-lines
tell-requires-clause-lines g c =
    let noted = c.in-Ok.ensures.turn in
    let all = noted.1 ∙ ap (λ notes. notes ++ noted.0) c.new-notes.ensures.items in
    let lines = c.turns_have_lines.ensures.live c.args.machine.now c.args.event.now (seen c.args.state.now) c.args.engine.now noted.0 (seen c.take_event.new.state) c.take_event.new.planner noted.2 in
    let fields = subst (All HasFields) (c.as_slice.ensures.value ∙ all) c.records_law.ensures in
    subst (All IsRecord) (sym (c.as_slice-in-Ok.ensures.value ∙ all)) (All-both HasFields IsPrintable IsRecord (λ r f p. (f, p)) noted.0 fields lines)

-- each tree of the turn has lines
pub tell-requires-clause-printable : goal.tell-requires-clause-printable
tell-requires-clause-printable g c =
    let noted = c.in-Ok.ensures.turn in
    subst (All HasLines) (sym c.trees.ensures)
    (c.shown_trees_have_lines.ensures c.args.machine.now (λ e. e.bounds) (λ e. e.trees) (c.engines_answer_alone.ensures.shows c.args.machine.now) c.args.event.now (seen c.args.state.now) (seen c.take_event.new.state)
    noted.0 c.args.engine.now c.take_event.new.planner c.requires.no_trees noted.2)

pub returns-in-Ok-clause-told : goal.returns-in-Ok-clause-told
returns-in-Ok-clause-told g c =
    let machine = c.args.machine.now in
    let event = c.args.event.now in
    let s = seen c.args.state.now in
    let s' = seen c.take_event.new.state in
    let p = c.args.engine.now in
    let p' = c.take_event.new.planner in
    let noted = c.in-Ok.ensures.turn in
    let records = noted.0 in
    let notes = c.as_slice-in-Ok.result.now in
    let trees = c.trees.result.now in
    let same : notes ≡ records = c.as_slice-in-Ok.ensures.value ∙ noted.1 ∙ ap (λ notes. notes ++ records) c.new-notes.ensures.items in
    let same_trees : trees ≡ p'.trees = c.trees.ensures in
    both-ok c.tell.result c.tell.ensures.told c.tell.ensures.spelled (λ grown texts. (
      log_text (items_of (entry_of event notes trees)),
      record {
        records = notes;
        trees = trees;
        turn = record {
          on_whole = λ whole behind.
              subst (λ ts. HasWholeTurn machine p.work.nodes p.bounds event whole notes ts s') (sym same_trees)
              (subst (λ rs. HasWholeTurn machine p.work.nodes p.bounds event whole rs p'.trees s') (sym same)
              (c.live_turns_are_whole.ensures machine (λ e. e.work.nodes) (λ e. e.bounds) (λ e. e.trees) (c.engines_answer_alone.ensures.alone machine) (c.engines_answer_alone.ensures.settles machine)
              (c.engines_answer_alone.ensures.nodes machine) (c.engines_answer_alone.ensures.shows machine) event whole s s' records p p' behind c.requires.no_trees noted.2).0);
          has_text = texts;
        };
        is_text = refl;
      },
      grown,
    ))

pub returns-in-Ok-clause-stocked : goal.returns-in-Ok-clause-stocked
returns-in-Ok-clause-stocked g c =
    let noted = c.in-Ok.ensures.turn in
    ok-of c.tell.result (λ events keeps.
    c.turns_keep_stock.ensures c.args.machine.now last_copy events c.args.event.now (seen c.args.state.now) c.args.engine.now noted.0 (seen c.take_event.new.state) c.take_event.new.planner c.requires.can.kept noted.2 keeps)

pub returns-in-Ok-clause-sound : goal.returns-in-Ok-clause-sound
returns-in-Ok-clause-sound g c =
    let noted = c.in-Ok.ensures.turn in
    ok-of c.tell.result (λ keeps.
    c.turns_keep_sound.ensures c.args.machine.now last_copy c.args.event.now (seen c.args.state.now) c.args.engine.now noted.0 (seen c.take_event.new.state) c.take_event.new.planner c.requires.can.kept noted.2 keeps)
