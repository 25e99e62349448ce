-- The event of a line is sent where it goes, and answered there.
use Rattle.std.proofs.Common.{rules, ◌≡◌, length, map, sym, subst, ◌∙◌}
use Rattle.std.proofs.lemmas.List.{length-map}
use Rattle.std.proofs.lemmas.Result.{on_ok_weaker}
use Rattle.tp_farm.specs.Farms.{TellsFrom, farm_of}
use Rattle.tp_farm.proofs.Gathered.{line-sent}
use Rattle.tp_farm.proofs.SentEvents.{farm-after, farm-few, farm-probed, same-length}
use Rattle.tp_farm.proofs.farm.Farm.line.Goals as goal

pub send-requires-clause-few : goal.send-requires-clause-few
send-requires-clause-few g c =
    farm-few g.T.Teller.state g.T.Teller.text g.T.Teller.answered c.self.inside.tellers.items c.find_whom.new.tellers.items c.self.inside.lines c.self.invariant
    (rw (← c.self.view_is) at c.requires.few) c.find_whom.ensures.ready

pub invariant_of-self-in-Ok : goal.invariant_of-self-in-Ok
invariant_of-self-in-Ok g c =
    farm-after g.T.Teller.state g.T.Teller.text g.T.Teller.answered c.self.inside.tellers.items c.send.new.tellers.items c.self.inside.lines c.self.invariant
    (c.send.ensures.count ∙ same-length g.T.Teller.state g.T.Teller.text g.T.Teller.answered c.self.inside.tellers.items c.find_whom.new.tellers.items c.find_whom.ensures.states)
    (c.send.ensures.ready c.self.inside.lines (c.find_whom.ensures.ready c.self.inside.lines c.self.invariant.ready))

pub returns-in-Ok-clause-told : goal.returns-in-Ok-clause-told
returns-in-Ok-clause-told g c =
    let before = farm_of (map g.T.Teller.state c.self.inside.tellers.items) c.self.inside.homes.entries in
    let after = farm_of (map g.T.Teller.state c.send.new.tellers.items) c.find_whom.new.homes.entries in
    let len : c.len.result ≡ length c.self.inside.tellers.items = search rules in
    let many = len ∙ sym (length-map c.self.inside.tellers.items g.T.Teller.state) in
    rw (← c.self.view_is)
    (on_ok_weaker c.send.result
    (λ told. (
      told.0,
      line-sent g.T.Teller.tells g.T.Teller.probes before after c.len.result c.args.line.now c.in-Ok-Some.address c.in-Ok.whom told.0 many
          (sym c.in-Ok-Some.field-0-is ∙ c.in-Ok-Some.ensures.address)
          (record {
            goes = c.in-Ok.ensures.sent;
            told = subst (λ xs. TellsFrom g.T.Teller.tells c.in-Ok.whom c.in-Ok-Some.address.event 1 xs told.0 (map g.T.Teller.state c.send.new.tellers.items)) c.find_whom.ensures.states told.1;
          }),
      told.2,
    ))
    c.send.ensures.told)

pub invariant_of-self-in-Err-find_whom : goal.invariant_of-self-in-Err-find_whom
invariant_of-self-in-Err-find_whom g c =
    farm-probed g.T.Teller.state g.T.Teller.text g.T.Teller.answered c.self.inside.tellers.items c.find_whom.new.tellers.items c.self.inside.lines c.self.invariant
    c.find_whom.ensures.states c.find_whom.ensures.ready
