use Rattle.std.proofs.Common.{◌≡◌, ◌++◌, [], ◌∷◌, sym, subst, ◌∙◌, ap, OnOk}
use Rattle.tp_routes.specs.Numbers.{number_of}
use Rattle.tp_routes.specs.Tables.{sum_at}
use Rattle.tp_bound_make.specs.RoomRows.{named, row_by}
use Rattle.tp_bound_make.proofs.RoomTables.{number-back}
use Rattle.tp_bound_make.proofs.rows.put_row.Goals as goal

pub returns-in-Some : goal.returns-in-Some
returns-in-Some c =
    let machine = c.args.machine.now in
    let sums = c.args.rooms.now.sums in
    let state = c.state_at-state.ensures in
    let sum : c.room.result ≡ sum_at sums c.args.number = c.room.ensures ∙ ap (λ q. sum_at sums (number_of q)) state ∙ ap (sum_at sums) (number-back c.args.number) in
    subst (λ o. OnOk c.push.result (c.push.new.self ≡ c.args.rows.now ++ row_by machine c.args.number o)) (sym (sym sum ∙ c.in-Some.is))
    (subst (λ s. OnOk c.push.result (c.push.new.self ≡ c.args.rows.now ++ record { state = s; room = c.in-Some.room } ∷ [])) (c.named.ensures ∙ ap (named machine) state) c.push.ensures.ok)
