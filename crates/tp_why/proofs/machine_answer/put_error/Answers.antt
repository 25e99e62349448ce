use Rattle.std.proofs.Common.{◌≡◌, ◌++◌, OnOk, string_bytes, subst}
use Rattle.tp_why.specs.Answers.{place_text}
use Rattle.tp_why.proofs.machine_answer.put_error.Goals as goal

pub returns : goal.returns
returns c = subst (λ p. OnOk c.put_place.result (string_bytes c.put_place.new.out ≡ string_bytes c.args.out.now ++ place_text p c.args.cause.now)) c.place_after.ensures c.put_place.ensures
