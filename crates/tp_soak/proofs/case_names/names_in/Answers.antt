use Rattle.std.proofs.Common.{◌≡◌, [], length, ap, ◌∙◌, arith}
use Rattle.std.proofs.lemmas.Grind.{common_steps}
use Rattle.std.proofs.lemmas.List.{length-map}
use Rattle.tp_machine_text.proofs.Fresh.{fresh, new_at_first}
use Rattle.tp_words.specs.Parts.{shown, words_in}
use Rattle.tp_soak.proofs.case_names.names_in.Goals as goal

pub names-init : goal.names-init
names-init c =
    let e : shown c.as_slice-rest.result.now ≡ words_in c.args.text.now = ap shown c.as_slice-rest.ensures.value ∙ c.in_ok-texts.ensures in
    let none : c.new-names.result ≡ [] = c.new-names.ensures in
    let lengths = simp length-map at (ap length e) in
    record {
      few = omega (arith, lengths, ap length none);
      named = rw e (grind arith);
      new = rw (none, e) (new_at_first (words_in c.args.text.now));
      differ = rw e (grind arith);
      whole = rw none e;
    }

pub names-preserved : goal.names-preserved
names-preserved c = record {
  few = grind (arith, common_steps);
  named = grind (arith, common_steps);
  new = grind (arith, common_steps, fresh);
  differ = grind (arith, common_steps);
  whole = grind (arith, common_steps);
}
