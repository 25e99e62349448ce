-- What the words ask for ends as its mode says.
use Rattle.std.proofs.Common.{inl, inr, refl}
use Rattle.std.specs.Prelude.{map, string_bytes}
use Rattle.tp_command.specs.App.{seen}
use Rattle.tp_command.specs.declared.request.Mode.TheVariants.{Run, Save, Resume, Check, Soak, Compose, Farm}
use Rattle.tp_program.proofs.AskedFacts.{amiss_asked, asks_nothing, check_ends, compose_ends, farm_ends, resume_ends, run_ends, save_ends, soak_ends, usage, used}
use Rattle.tp_program.proofs.CompleteFacts.{complete, complete-memory, complete-unformed}
use Rattle.tp_program.proofs.SeedFacts.{gives_seed}
use Rattle.tp_program.proofs.printer.printer_main.Goals as goal

pub returns-in-Ok-clause-usage : goal.returns-in-Ok-clause-usage
returns-in-Ok-clause-usage g c = usage (map string_bytes c.args.words.now) (seen c.in-Ok.request) c.in-Ok.ensures.ok g.S.Source.left g.K.Sink.taken _ _ _ _ _ _ c.answer.ensures.ends

pub returns-in-Ok-clause-used : goal.returns-in-Ok-clause-used
returns-in-Ok-clause-used g c = used (map string_bytes c.args.words.now) (seen c.in-Ok.request) c.in-Ok.ensures.ok g.S.Source.left g.K.Sink.taken _ _ _ _ _ _ c.answer.ensures.ends

pub returns-in-Ok-clause-run : goal.returns-in-Ok-clause-run
returns-in-Ok-clause-run g c = run_ends (map string_bytes c.args.words.now) (seen c.in-Ok.request) c.in-Ok.ensures.ok g.S.Source.left g.K.Sink.taken _ _ _ _ _ _ c.answer.ensures.ends

pub returns-in-Ok-clause-check : goal.returns-in-Ok-clause-check
returns-in-Ok-clause-check g c = check_ends (map string_bytes c.args.words.now) (seen c.in-Ok.request) c.in-Ok.ensures.ok g.S.Source.left g.K.Sink.taken _ _ _ _ _ _ c.answer.ensures.ends

pub returns-in-Ok-clause-save : goal.returns-in-Ok-clause-save
returns-in-Ok-clause-save g c = save_ends (map string_bytes c.args.words.now) (seen c.in-Ok.request) c.in-Ok.ensures.ok g.S.Source.left g.K.Sink.taken _ _ _ _ _ _ c.answer.ensures.ends

pub returns-in-Ok-clause-resume : goal.returns-in-Ok-clause-resume
returns-in-Ok-clause-resume g c = resume_ends (map string_bytes c.args.words.now) (seen c.in-Ok.request) c.in-Ok.ensures.ok g.S.Source.left g.K.Sink.taken _ _ _ _ _ _ c.answer.ensures.ends

pub returns-in-Ok-clause-compose : goal.returns-in-Ok-clause-compose
returns-in-Ok-clause-compose g c = compose_ends (map string_bytes c.args.words.now) (seen c.in-Ok.request) c.in-Ok.ensures.ok g.S.Source.left g.K.Sink.taken _ _ _ _ _ _ c.answer.ensures.ends

pub returns-in-Ok-clause-farm : goal.returns-in-Ok-clause-farm
returns-in-Ok-clause-farm g c = farm_ends (map string_bytes c.args.words.now) (seen c.in-Ok.request) c.in-Ok.ensures.ok g.S.Source.left g.K.Sink.taken _ _ _ _ _ _ c.answer.ensures.ends

pub answer-requires : goal.answer-requires
answer-requires g c = gives_seed (map string_bytes c.args.words.now) (seen c.in-Ok.request) c.in-Ok.ensures.ok

pub returns-in-Ok-clause-soak : goal.returns-in-Ok-clause-soak
returns-in-Ok-clause-soak g c = soak_ends (map string_bytes c.args.words.now) (seen c.in-Ok.request) c.in-Ok.ensures.ok g.S.Source.left g.K.Sink.taken _ _ _ _ _ _ c.answer.ensures.ends _ _ c.answer.ensures.unread

pub returns-in-Ok-clause-amiss : goal.returns-in-Ok-clause-amiss
returns-in-Ok-clause-amiss g c = λ is. amiss_asked (map string_bytes c.args.words.now) (seen c.in-Ok.request) c.in-Ok.ensures.ok _ _ (c.answer.ensures.amiss is)

pub returns-in-Err-Memory-clause-used : goal.returns-in-Err-Memory-clause-used
returns-in-Err-Memory-clause-used g c = λ none. inr (refl, refl, refl)

pub returns-in-Err-Memory-clause-run : goal.returns-in-Err-Memory-clause-run
returns-in-Err-Memory-clause-run g c = λ asked named is. inl (tt, refl, refl)

pub returns-in-Err-Memory-clause-check : goal.returns-in-Err-Memory-clause-check
returns-in-Err-Memory-clause-check g c = λ asked named is. inl (tt, refl, refl)

pub returns-in-Err-Memory-clause-save : goal.returns-in-Err-Memory-clause-save
returns-in-Err-Memory-clause-save g c = λ asked named is. inl (tt, refl, refl)

pub returns-in-Err-Memory-clause-resume : goal.returns-in-Err-Memory-clause-resume
returns-in-Err-Memory-clause-resume g c = λ asked named is. inl (tt, refl, refl)

pub returns-in-Err-Memory-clause-compose : goal.returns-in-Err-Memory-clause-compose
returns-in-Err-Memory-clause-compose g c = λ asked named is. (refl, inl (tt, refl))

pub returns-in-Err-Memory-clause-farm : goal.returns-in-Err-Memory-clause-farm
returns-in-Err-Memory-clause-farm g c = λ asked named is. inl (tt, refl, refl)

pub returns-in-Err-Memory-clause-soak : goal.returns-in-Err-Memory-clause-soak
returns-in-Err-Memory-clause-soak g c = λ asked named is. (refl, (refl, inl (refl, refl)))

pub returns-in-Err-Usage-clause-usage : goal.returns-in-Err-Usage-clause-usage
returns-in-Err-Usage-clause-usage g c = λ is. (c.in-Err-Usage.ensures.usage c.in-Err-Usage.field-0-is, refl, refl)

pub returns-in-Err-Usage-clause-run : goal.returns-in-Err-Usage-clause-run
returns-in-Err-Usage-clause-run g c = asks_nothing Run (map string_bytes c.args.words.now) _ (c.in-Err-Usage.ensures.usage c.in-Err-Usage.field-0-is)

pub returns-in-Err-Usage-clause-check : goal.returns-in-Err-Usage-clause-check
returns-in-Err-Usage-clause-check g c = asks_nothing Check (map string_bytes c.args.words.now) _ (c.in-Err-Usage.ensures.usage c.in-Err-Usage.field-0-is)

pub returns-in-Err-Usage-clause-save : goal.returns-in-Err-Usage-clause-save
returns-in-Err-Usage-clause-save g c = asks_nothing Save (map string_bytes c.args.words.now) _ (c.in-Err-Usage.ensures.usage c.in-Err-Usage.field-0-is)

pub returns-in-Err-Usage-clause-resume : goal.returns-in-Err-Usage-clause-resume
returns-in-Err-Usage-clause-resume g c = asks_nothing Resume (map string_bytes c.args.words.now) _ (c.in-Err-Usage.ensures.usage c.in-Err-Usage.field-0-is)

pub returns-in-Err-Usage-clause-compose : goal.returns-in-Err-Usage-clause-compose
returns-in-Err-Usage-clause-compose g c = asks_nothing Compose (map string_bytes c.args.words.now) _ (c.in-Err-Usage.ensures.usage c.in-Err-Usage.field-0-is)

pub returns-in-Err-Usage-clause-farm : goal.returns-in-Err-Usage-clause-farm
returns-in-Err-Usage-clause-farm g c = asks_nothing Farm (map string_bytes c.args.words.now) _ (c.in-Err-Usage.ensures.usage c.in-Err-Usage.field-0-is)

pub returns-in-Err-Usage-clause-soak : goal.returns-in-Err-Usage-clause-soak
returns-in-Err-Usage-clause-soak g c = asks_nothing Soak (map string_bytes c.args.words.now) _ (c.in-Err-Usage.ensures.usage c.in-Err-Usage.field-0-is)

pub returns-in-Ok-clause-complete : goal.returns-in-Ok-clause-complete
returns-in-Ok-clause-complete g c = λ shelf source sink.
    complete g.S.Source.left g.K.Sink.taken (map string_bytes c.args.words.now) (seen c.in-Ok.request) c.in-Ok.ensures.ok _ _ _ _ _ _ c.snapshots_are_read_back.ensures.verdict c.answer.ensures.ends
    (λ is. shelf (c.answer.ensures.shelf is)) (λ is. source (c.answer.ensures.source is)) (λ is. sink (c.answer.ensures.sink is))

pub returns-in-Err-Memory-clause-complete : goal.returns-in-Err-Memory-clause-complete
returns-in-Err-Memory-clause-complete g c = λ shelf source sink. complete-memory (map string_bytes c.args.words.now) _ _

pub returns-in-Err-Usage-clause-complete : goal.returns-in-Err-Usage-clause-complete
returns-in-Err-Usage-clause-complete g c = λ shelf source sink. complete-unformed (map string_bytes c.args.words.now) _ _ _ (c.in-Err-Usage.ensures.usage c.in-Err-Usage.field-0-is)
