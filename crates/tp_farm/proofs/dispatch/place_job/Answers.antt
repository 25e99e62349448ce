-- The job goes where the answers say, and its name is kept if it is accepted there.
use Rattle.std.proofs.Common.{◌≡◌, ◌+◌, sym, ap, ◌∙◌}
use Rattle.std.specs.Str.{bytes_eq}
use Rattle.indexmap.proofs.CallerLemmas.{insert_entry-new}
use Rattle.tp_farm.specs.MachineChoice.{is_accepted, place_for}
use Rattle.tp_farm.proofs.SentEvents.{kept-accepted, kept-refused}
use Rattle.tp_farm.proofs.dispatch.place_job.Goals as goal
use Rattle.tp_farm.proofs.dispatch.place_job.Goals.{then-is_accepted+in_ok-insert, else-is_accepted}

pub returns-clause-placed : goal.returns-clause-placed
returns-clause-placed g c =
    let place = c.choose-place.ensures.place ∙ ap place_for c.deref.ensures.value in
    let accepts : is_accepted c.in-Ok.answers.items c.choose-place.result ≡ c.is_accepted.result =
    ap (λ xs. is_accepted xs c.choose-place.result) (sym c.deref-2.ensures.value) ∙ sym c.is_accepted.ensures in
    record {
      answers = c.in-Ok.answers.items;
      probed = c.in-Ok.ensures.probed;
      chosen = ap (λ n. n + 1) place;
      kept = elim c.if-is_accepted.branch [
        | then-is_accepted+in_ok-insert w ↦
            kept-accepted c.args.homes.now.entries c.if-is_accepted.homes.entries c.args.name (c.choose-place.result + 1) c.choose-place.result c.in-Ok.answers.items place
            (accepts ∙ w.if-is_accepted.true)
            (ap (λ m. m.entries) w.homes-is ∙ w.in_ok-insert.ensures.entries ∙ insert_entry-new bytes_eq c.args.homes.now c.args.name (c.choose-place.result + 1) c.requires.new_name)
        | else-is_accepted w ↦
            kept-refused c.args.homes.now.entries c.if-is_accepted.homes.entries c.args.name (c.choose-place.result + 1) c.choose-place.result c.in-Ok.answers.items place
            (accepts ∙ w.if-is_accepted.false) (ap (λ m. m.entries) w.homes-is)
      ];
    }
