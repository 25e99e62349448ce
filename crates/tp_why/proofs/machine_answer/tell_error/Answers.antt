use Rattle.std.proofs.Common.{string_bytes}
use Rattle.std.proofs.lemmas.Result.{IfOk-weaker}
use Rattle.tp_why.specs.Answers.{NamesPlace}
use Rattle.tp_why.proofs.machine_answer.tell_error.Goals as goal

pub returns : goal.returns
returns c = IfOk-weaker c.error_text.result _ (λ a. NamesPlace c.args.text.now (string_bytes a)) (λ a same. record {
  before = c.start_in-start.result;
  within = c.start_in-start.ensures;
  cause = c.message.result.now;
  answer_is = same;
}) c.error_text.ensures
