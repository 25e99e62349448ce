-- The farm of the list, or why there is none.
use Rattle.std.proofs.Common.{rules, ◌≡◌, ◌≤◌, Some, length, sym, ap, subst, ◌∙◌, arith}
use Rattle.std.specs.List.{All}
use Rattle.std.specs.Vec.{vec_len}
use Rattle.tp_command.specs.App.{seen}
use Rattle.tp_farm.specs.Lists.{IsFileName, names_of}
use Rattle.tp_words.specs.Parts.{shown}
use Rattle.tp_program.specs.FarmEnds.{NoMachines}
use Rattle.tp_program.proofs.FarmEndFacts.{amiss_list, as-many, farm-for, is-listed, no_farm}
use Rattle.tp_program.proofs.machines.find_farm.Goals as goal

pub new-requires-clause-few : goal.new-requires-clause-few
new-requires-clause-few g c =
    let many = as-many c.in-Ok-find_sessions.sessions.items (λ s. s.standing) (g.H.Shelf.known c.find_text.new.shelf) c.args.request.now.budget c.args.request.now.bounds c.deref-2.result.now
    c.in-Ok-read_list.names.items c.deref-2.ensures.value c.in-Ok-find_sessions.ensures.begin in
    let same : vec_len c.in-Ok-find_sessions.sessions ≡ length c.in-Ok-find_sessions.sessions.items = search rules in
    omega (arith, same, many, c.in-Ok-read_list.ensures.few)

pub returns-in-Ok-find_sessions-clause-found : goal.returns-in-Ok-find_sessions-clause-found
returns-in-Ok-find_sessions-clause-found g c =
    let names = shown c.deref-2.result.now in
    let listed : names_of c.deref.result.now ≡ Some names = c.in-Ok-read_list.ensures.names ∙ ap (λ n. Some (shown n)) (sym c.deref-2.ensures.value) in
    let good : All IsFileName names = subst (λ n. All IsFileName (shown n)) (sym c.deref-2.ensures.value) c.in-Ok-read_list.ensures.good in
    rw c.new.ensures
    (farm-for c.in-Ok-find_sessions.sessions.items (λ s. s.standing) (g.H.Shelf.known c.args.shelf.now) (g.H.Shelf.known c.find_text.new.shelf) (seen c.args.request.now) names
    (is-listed (g.H.Shelf.known c.args.shelf.now) c.args.request.now.arg.now c.in-Ok.list.items c.deref.result.now names c.deref.ensures.value c.in-Ok.ensures.known c.in-Ok.ensures.fits listed good)
    c.in-Ok.ensures.known_stays c.in-Ok-find_sessions.ensures.begin)

pub returns-clause-none : goal.returns-clause-none
returns-clause-none g c =
    let names = shown c.deref-2.result.now in
    let listed : names_of c.deref.result.now ≡ Some names = c.in-Ok-read_list.ensures.names ∙ ap (λ n. Some (shown n)) (sym c.deref-2.ensures.value) in
    let good : All IsFileName names = subst (λ n. All IsFileName (shown n)) (sym c.deref-2.ensures.value) c.in-Ok-read_list.ensures.good in
    no_farm (g.H.Shelf.known c.args.shelf.now) c.args.request.now.arg.now c.in-Ok.list.items c.deref.result.now names c.deref.ensures.value c.in-Ok.ensures.known c.in-Ok.ensures.fits listed good
    c.in-Err-find_sessions.status (subst (λ t. NoMachines t names c.in-Err-find_sessions.status) c.in-Ok.ensures.known_stays c.in-Err-find_sessions.ensures.none)

pub returns-clause-amiss : goal.returns-clause-amiss
returns-clause-amiss g c = λ is.
    let names = shown c.deref-2.result.now in
    let listed : names_of c.deref.result.now ≡ Some names = c.in-Ok-read_list.ensures.names ∙ ap (λ n. Some (shown n)) (sym c.deref-2.ensures.value) in
    let good : All IsFileName names = subst (λ n. All IsFileName (shown n)) (sym c.deref-2.ensures.value) c.in-Ok-read_list.ensures.good in
    amiss_list (g.H.Shelf.known c.args.shelf.now) (g.H.Shelf.known c.find_text.new.shelf) c.args.request.now.arg.now c.in-Ok.list.items c.deref.result.now names
    (g.H.Shelf.amiss c.args.shelf.now) (g.H.Shelf.amiss c.find_text.new.shelf) (g.H.Shelf.amiss c.find_sessions.new.shelf) c.deref.ensures.value c.in-Ok.ensures.known listed good c.in-Ok.ensures.known_stays
    c.in-Ok.ensures.not_amiss (c.in-Err-find_sessions.ensures.amiss is)
