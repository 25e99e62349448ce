-- The first words of records, and the words for the causes of a refusal.
use Rattle.std.specs.Prelude.{ℕ, List, [], ◌∷◌, Option, codes, find}
use Rattle.std.specs.Str.{bytes_eq}
use Rattle.tp_log.specs.declared.heading.Heading.{Heading}
use Rattle.tp_log.specs.declared.heading.Heading.TheVariants.{Plan, Move, Never, Budget, FullUp, Release, Done, Lost, Recall, Withdraw, Cut, Purge, Again, Stuck, Broken, Drop, Refused}
use Rattle.tp_log.specs.declared.cause_word.CauseWord.{CauseWord}
use Rattle.tp_log.specs.declared.cause_word.CauseWord.TheVariants.{Syntax, Tray, Media, Named, Waiting, Back, End, «Module», Out, NotOn, Feeder, Endless, Stock}

abbrev pub heading_text : Heading → List ℕ
heading_text Plan = codes "plan"
heading_text Move = codes "move"
heading_text Never = codes "none"
heading_text Budget = codes "budget"
heading_text FullUp = codes "full"
heading_text Release = codes "release"
heading_text Done = codes "done"
heading_text Lost = codes "lost"
heading_text Recall = codes "recall"
heading_text Withdraw = codes "withdraw"
heading_text Cut = codes "cut"
heading_text Purge = codes "purge"
heading_text Again = codes "again"
heading_text Stuck = codes "stuck"
heading_text Broken = codes "broken"
heading_text Drop = codes "drop"
heading_text Refused = codes "refused"

abbrev pub headings : List Heading
headings = Plan ∷ Move ∷ Never ∷ Budget ∷ FullUp ∷ Release ∷ Done ∷ Lost ∷ Recall ∷ Withdraw ∷ Cut ∷ Purge ∷ Again ∷ Stuck ∷ Broken ∷ Drop ∷ Refused ∷ []

-- the heading with this text
abbrev pub heading_of : List ℕ → Option Heading
heading_of word = find (λ heading. bytes_eq (heading_text heading) word) headings

abbrev pub reason_text : CauseWord → List ℕ
reason_text Syntax = codes "syntax"
reason_text Tray = codes "tray"
reason_text Media = codes "media"
reason_text Named = codes "named"
reason_text Waiting = codes "waiting"
reason_text Back = codes "back"
reason_text End = codes "end"
reason_text «Module» = codes "module"
reason_text Out = codes "out"
reason_text NotOn = codes "noton"
reason_text Feeder = codes "feeder"
reason_text Endless = codes "endless"
reason_text Stock = codes "stock"

abbrev pub reasons : List CauseWord
reasons = Syntax ∷ Tray ∷ Media ∷ Named ∷ Waiting ∷ Back ∷ End ∷ «Module» ∷ Out ∷ NotOn ∷ Feeder ∷ Endless ∷ Stock ∷ []

-- the reason with this text
abbrev pub reason_of : List ℕ → Option CauseWord
reason_of word = find (λ reason. bytes_eq (reason_text reason) word) reasons
