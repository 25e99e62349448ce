-- The lower sum leaves a table that is being filled.
use Rattle.std.proofs.Common.{◌≡◌, IsTrue, false, ◌<◌, length, sym, subst, ap, ◌∙◌}
use Rattle.tp_routes.specs.Numbers.{number_of}
use Rattle.tp_routes.specs.Tables.{sum_at}
use Rattle.tp_routes.specs.FilledRooms.{lowered, is_lower, Waits, IsQueue}
use Rattle.tp_routes.proofs.LowerFacts.{filling-lowered, Lowers-lowered, lowered-here, nearer-lowered}
use Rattle.tp_routes.proofs.RoomFacts.{number_within}
use Rattle.tp_routes.proofs.SpreadFacts.{spread-lowered, stays-lowered}
use Rattle.tp_routes.proofs.relaxation.offer.Goals as goal

pub returns-clause-filling : goal.returns-clause-filling
returns-clause-filling c =
    let are : c.lower.new.sums ≡ lowered c.args.sums.now (number_of c.args.state) c.args.sum = c.lower.ensures.sums ∙ ap (λ n. lowered c.args.sums.now n c.args.sum) c.number_of.ensures.number in
    let within : number_of c.args.state < length c.args.sums.now = subst (λ k. number_of c.args.state < k) (sym c.requires.filling.states) (number_within c.args.state (length c.args.machine.now.locations) c.requires.known) in
    let queue : IsQueue c.lower.new.waiting.items (length (lowered c.args.sums.now (number_of c.args.state) c.args.sum)) = subst (λ k. IsQueue c.lower.new.waiting.items (length k)) are c.lower.ensures.queue in
    rw are (filling-lowered c.args.machine.now c.args.ask.now c.args.sums.now c.args.waiting.now.items c.lower.new.waiting.items c.args.state c.args.sum c.requires.filling within c.requires.is_sum c.requires.small queue)

pub returns-clause-lowers : goal.returns-clause-lowers
returns-clause-lowers c =
    let are : c.lower.new.sums ≡ lowered c.args.sums.now (number_of c.args.state) c.args.sum = c.lower.ensures.sums ∙ ap (λ n. lowered c.args.sums.now n c.args.sum) c.number_of.ensures.number in
    let within : number_of c.args.state < length c.args.sums.now = subst (λ k. number_of c.args.state < k) (sym c.requires.filling.states) (number_within c.args.state (length c.args.machine.now.locations) c.requires.known) in
    rw are (Lowers-lowered c.args.sums.now (number_of c.args.state) c.args.sum within)

pub returns-clause-there : goal.returns-clause-there
returns-clause-there c =
    let are : c.lower.new.sums ≡ lowered c.args.sums.now (number_of c.args.state) c.args.sum = c.lower.ensures.sums ∙ ap (λ n. lowered c.args.sums.now n c.args.sum) c.number_of.ensures.number in
    let within : number_of c.args.state < length c.args.sums.now = subst (λ k. number_of c.args.state < k) (sym c.requires.filling.states) (number_within c.args.state (length c.args.machine.now.locations) c.requires.known) in
    rw are (lowered-here c.args.sums.now (number_of c.args.state) c.args.sum within)

pub returns-clause-spread : goal.returns-clause-spread
returns-clause-spread c busy count spread =
    let are : c.lower.new.sums ≡ lowered c.args.sums.now (number_of c.args.state) c.args.sum = c.lower.ensures.sums ∙ ap (λ n. lowered c.args.sums.now n c.args.sum) c.number_of.ensures.number in
    let within : number_of c.args.state < length c.args.sums.now = subst (λ k. number_of c.args.state < k) (sym c.requires.filling.states) (number_within c.args.state (length c.args.machine.now.locations) c.requires.known) in
    let waits = subst (λ n. IsTrue (is_lower c.args.sum (sum_at c.args.sums.now n)) → Waits c.lower.new.waiting.items n) c.number_of.ensures.number c.lower.ensures.waits in
    rw are (spread-lowered c.args.machine.now c.args.ask.now c.args.sums.now c.args.waiting.now.items c.lower.new.waiting.items (number_of c.args.state) c.args.sum busy count within c.lower.ensures.kept waits spread)

pub returns-clause-busy : goal.returns-clause-busy
returns-clause-busy c n v most is =
    let are : c.lower.new.sums ≡ lowered c.args.sums.now (number_of c.args.state) c.args.sum = c.lower.ensures.sums ∙ ap (λ n. lowered c.args.sums.now n c.args.sum) c.number_of.ensures.number in
    rw are (stays-lowered c.args.sums.now (number_of c.args.state) c.args.sum n v most is)

pub returns-clause-nearer : goal.returns-clause-nearer
returns-clause-nearer c =
    let are : c.lower.new.sums ≡ lowered c.args.sums.now (number_of c.args.state) c.args.sum = c.lower.ensures.sums ∙ ap (λ n. lowered c.args.sums.now n c.args.sum) c.number_of.ensures.number in
    let within : number_of c.args.state < length c.args.sums.now = subst (λ k. number_of c.args.state < k) (sym c.requires.filling.states) (number_within c.args.state (length c.args.machine.now.locations) c.requires.known) in
    let same = subst (λ n. is_lower c.args.sum (sum_at c.args.sums.now n) ≡ false → c.lower.new.waiting.items ≡ c.args.waiting.now.items) c.number_of.ensures.number c.lower.ensures.same in
    let fits = c.ranges.sum.fits in
    rw are (nearer-lowered c.args.sums.now c.args.waiting.now.items c.lower.new.waiting.items (number_of c.args.state) c.args.sum within fits c.lower.ensures.longer same)
