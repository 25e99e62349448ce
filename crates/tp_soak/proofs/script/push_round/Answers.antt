use Rattle.std.proofs.Common.{◌≡◌, ◌+◌, ◌<◌, ◌^◌, ◌++◌, ◌∷◌, [], List, refl, sym, subst, append_assoc, arith}
use Rattle.std.specs.List.{All}
use Rattle.std.proofs.lemmas.List.Elements.{All-append, All-from_recursion}
use Rattle.tp_script.specs.declared.event.Event.{Event}
use Rattle.tp_script.specs.declared.event.Event.TheVariants.{Clock}
use Rattle.tp_soak.specs.Scripts.{IsScripted}
use Rattle.tp_soak.proofs.script.push_round.Goals as goal

one_more : (events : List Event) (event : Event) → All IsScripted events → IsScripted event → All IsScripted (events ++ event ∷ [])
one_more events event all one = All-append IsScripted events (event ∷ []) all (All-from_recursion IsScripted (event ∷ []) (one, tt))

in_turn : (events between : List Event) (job clock : Event) → ((events ++ job ∷ []) ++ between) ++ clock ∷ [] ≡ events ++ job ∷ (between ++ clock ∷ [])
in_turn events between job clock = simp append_assoc

pub returns-clause-made : goal.returns-clause-made
returns-clause-made c =
    rw (
      c.in_ok-push-2.ensures.items,
      c.in_ok-push_outage.ensures.pushed,
      c.in_ok-push.ensures.items,
      in_turn _ _ _ _,
      c.in_ok-job.ensures.job,
      c.draw.ensures.drawn,
      c.draw.ensures.next,
      c.in_ok-job.ensures.state,
    ) refl

pub returns-clause-whole : goal.returns-clause-whole
returns-clause-whole c =
    let first : All IsScripted c.push.new.self.items = subst (All IsScripted) (sym c.in_ok-push.ensures.items) (one_more _ _ c.requires.whole c.in_ok-job.ensures.whole) in
    let below : c.args.clock.now + (1 + c.draw.result) < 2 ^ 32 = omega arith in
    subst (All IsScripted) (sym c.in_ok-push-2.ensures.items) (one_more _ (Clock (c.args.clock.now + (1 + c.draw.result))) (c.in_ok-push_outage.ensures.whole first) below)
