use Rattle.std.proofs.Common.{◌≡◌, ◌+◌, ◌∷◌, [], ◌++◌, List, ℕ, get_or, take, decimal, ap, ◌∙◌, append_assoc}
use Rattle.std.specs.List.{flat_map}
use Rattle.std.proofs.lemmas.List.{append-nil}
use Rattle.std.proofs.lemmas.List.Concat.{flat_map-append}
use Rattle.tp_log.specs.Records.{turns_words}
use Rattle.tp_log.proofs.Turns.{one_turn_more}
use Rattle.tp_log.proofs.plans.put_turns.Goals as goal

-- what was written before, a name, and a number
joined : (start front name number : List ℕ) → ((start ++ front) ++ 32 ∷ name) ++ 32 ∷ number ≡ start ++ (front ++ ((32 ∷ name) ++ ((32 ∷ number) ++ [])))
joined start front name number = simp (append_assoc, append-nil)

together : (start front name number out word mid all : List ℕ) → out ≡ start ++ front → word ≡ name → mid ≡ out ++ 32 ∷ word → all ≡ mid ++ 32 ∷ number → all ≡ start ++ (front ++ ((32 ∷ name) ++ ((32 ∷ number) ++ [])))
together start front name number out word mid all so_far is first second = second ∙ ap (λ m. m ++ 32 ∷ number) (first ∙ ap (λ w. out ++ 32 ∷ w) is ∙ ap (λ o. o ++ 32 ∷ name) so_far) ∙ joined start front name number

pub loop-i-preserved : goal.loop-i-preserved
loop-i-preserved c =
    let act = c.index-acts-i.result in
    let more = one_turn_more c.args.points.now c.args.acts.now c.loop-i.i act c.requires c.loop-i-test.true in
    let front = flat_map (λ (word : List ℕ). 32 ∷ word) (turns_words (take (c.loop-i.i + 1) c.args.points.now) (take c.loop-i.i c.args.acts.now)) in
    rw (more, flat_map-append)
    (together c.args.out.now.items front (get_or c.args.acts.now c.loop-i.i act) (decimal (get_or c.args.points.now (c.loop-i.i + 1) 0)) c.loop-i.out.items c.as_bytes.result.now c.put_word.new.out.items c.put_number_word-in-loop-i.new.out.items
    c.loop-i.invariant (c.as_bytes.ensures.value ∙ c.index-acts-i.is) c.in_ok-put_word.ensures c.in_ok-put_number_word-2.ensures)
