-- What a farm answers, parted into what each of its machines answered.
use Rattle.std.proofs.Common.{◌≡◌, ℕ, zero, suc, ◌+◌, ◌<◌, Bool, true, false, List, [], ◌∷◌, ◌++◌, length, slice_get, Option, Some, None, refl, sym, ap, subst, ◌∙◌, append_assoc, arith}
use Rattle.std.specs.Bool.{MatchBool}
use Rattle.std.specs.Option.{MatchOption}
use Rattle.tp_script.specs.declared.event.Event.{Event}
use Rattle.tp_stream.specs.Takes.{ends_whole}
use Rattle.tp_stream.specs.Tellers.{TellsAll}
use Rattle.tp_stream.specs.declared.probe.Probe.{Probe}
use Rattle.tp_farm.specs.Addresses.{line_address}
use Rattle.tp_farm.specs.Farms.{AnswersItsOwn, AnswersSent, FarmState, FarmsPart, SendsLine, SendsLines, Sent, TellsAt, TellsFrom, TellsWholeLines, is_for, sent_to}
use Rattle.tp_farm.specs.Numbered.{numbered, told_by}
use Rattle.tp_farm.specs.declared.address.Addressed.{Addressed}
use Rattle.tp_farm.specs.declared.whom.Whom.{Whom}
use Rattle.tp_farm.proofs.NumberedFacts.{told-other, told-own}

module _ {S : Type 0} (tells : S → Event → List ℕ → S → Type 0) (whole : (event : Event) (s s' : S) (text : List ℕ) → tells s event text s' → ends_whole text ≡ true) (whom : Whom) (event : Event) where
  -- what one machine told is nothing of another's
  at-other : (number other : ℕ) (s s' : S) (text rest : List ℕ) → TellsAt tells whom event other s text s' → (other ≡ number → ⊥) → told_by number (text ++ rest) ≡ told_by number rest
  at-other number other s s' text rest h apart = go (is_for whom other) h
    where
      go : (b : Bool) → MatchBool b ((told : List ℕ) × tells s event told s' × (text ≡ numbered other told)) ((text ≡ []) × (s' ≡ s)) → told_by number (text ++ rest) ≡ told_by number rest
      go true (told, step, is) = ap (λ t. told_by number (t ++ rest)) is ∙ told-other number other told rest (whole event s s' told step) apart
      go false (none, same) = ap (λ t. told_by number (t ++ rest)) none

  -- nor is what machines of greater numbers told
  from-later : (number other : ℕ) (machines machines' : List S) (text rest : List ℕ) → TellsFrom tells whom event other machines text machines' → number < other
      → told_by number (text ++ rest) ≡ told_by number rest
  from-later number other [] [] text rest h later = ap (λ t. told_by number (t ++ rest)) h
  from-later number other [] (s' ∷ machines') text rest h later = absurd h
  from-later number other (s ∷ machines) [] text rest h later = absurd h
  from-later number other (s ∷ machines) (s' ∷ machines') text rest (told, (more, one, others, same)) later =
      ap (λ t. told_by number (t ++ rest)) same ∙ ap (told_by number) (append_assoc told more rest)
      ∙ at-other number other s s' told (more ++ rest) one (λ e. omega (arith, e, later))
      ∙ from-later number (other + 1) machines machines' more rest others (omega (arith, later))

  -- what a machine told of the event, and where it stands then
  record Own (number : ℕ) (s : S) (text : List ℕ) (s' : S) : Type 0 where
    told : List ℕ
    step : MatchBool (is_for whom number) (tells s event told s') ((told ≡ []) × (s' ≡ s))
    found : (rest : List ℕ) → told_by number (text ++ rest) ≡ told ++ told_by number rest

  own-first : (number : ℕ) (s s' : S) (text more : List ℕ) (machines machines' : List S) → TellsAt tells whom event number s text s' → TellsFrom tells whom event (number + 1) machines more machines'
      → Own number s (text ++ more) s'
  own-first number s s' text more machines machines' h others = go (is_for whom number) refl h
    where
      later : (rest : List ℕ) → told_by number (more ++ rest) ≡ told_by number rest
      later rest = from-later number (number + 1) machines machines' more rest others (omega arith)

      go : (b : Bool) → is_for whom number ≡ b → MatchBool b ((told : List ℕ) × tells s event told s' × (text ≡ numbered number told)) ((text ≡ []) × (s' ≡ s)) → Own number s (text ++ more) s'
      go true e (told, step, is) = record {
        told = told;
        step = subst (λ b. MatchBool b (tells s event told s') ((told ≡ []) × (s' ≡ s))) (sym e) step;
        found = λ rest.
            ap (λ t. told_by number ((t ++ more) ++ rest)) is ∙ ap (told_by number) (append_assoc (numbered number told) more rest)
            ∙ told-own number told (more ++ rest) (whole event s s' told step) ∙ ap (λ t. told ++ t) (later rest);
      }
      go false e (none, same) = record {
        told = [];
        step = subst (λ b. MatchBool b (tells s event [] s') ((◌≡◌ {A = List ℕ} [] []) × (s' ≡ s))) (sym e) (refl, same);
        found = λ rest. ap (λ t. told_by number ((t ++ more) ++ rest)) none ∙ later rest;
      }

  record OwnAt (number : ℕ) (s : S) (text : List ℕ) (machines' : List S) (place : ℕ) : Type 0 where
    last : S
    there : slice_get machines' place ≡ Some last
    own : Own number s text last

  own-at : (first : ℕ) (machines machines' : List S) (text : List ℕ) → TellsFrom tells whom event first machines text machines' → (place : ℕ) (s : S) → slice_get machines place ≡ Some s
      → OwnAt (first + place) s text machines' place
  own-at first [] machines' text h place s is = absurd cc
  own-at first (m ∷ machines) [] text h place s is = absurd h
  own-at first (m ∷ machines) (m' ∷ machines') text (told, (more, one, others, same)) zero s is =
      let here : m ≡ s = same-some is in
      let own = own-first first m m' told more machines machines' one others in
      let number : first ≡ first + 0 = omega arith in
      record {
        last = m';
        there = refl;
        own = subst (λ n. Own n s text m') number (subst (λ x. Own first x text m') here (subst (λ t. Own first m t m') (sym same) own));
      }
    where
      same-some : {x y : S} → Some x ≡ Some y → x ≡ y
      same-some e = cc
  own-at first (m ∷ machines) (m' ∷ machines') text (told, (more, one, others, same)) (suc place) s is =
      let rest = own-at (first + 1) machines machines' more others place s is in
      let number : first + 1 + place ≡ first + suc place = omega arith in
      let own = rest.own in
      let pass : (after : List ℕ) → told_by (first + 1 + place) (text ++ after) ≡ told_by (first + 1 + place) (more ++ after) =
      λ after. ap (λ t. told_by (first + 1 + place) (t ++ after)) same ∙ ap (told_by (first + 1 + place)) (append_assoc told more after)
      ∙ at-other (first + 1 + place) first m m' told (more ++ after) one (λ e. omega (arith, e)) in
      record {
        last = rest.last;
        there = rest.there;
        own = subst (λ n. Own n s text rest.last) number (record { told = own.told; step = own.step; found = λ after. pass after ∙ own.found after });
      }

module _ {S : Type 0} (tells : S → Event → List ℕ → S → Type 0) (probes : S → Event → Probe → Type 0) (whole : TellsWholeLines tells probes) where
  -- a line that is answered leads a machine on
  record Leads (number : ℕ) (s : S) (first : List Sent) (text : List ℕ) (mid : FarmState S) (place : ℕ) : Type 0 where
    next : S
    there : slice_get mid.machines place ≡ Some next
    on : (others : List Sent) (rest : List ℕ) → AnswersItsOwn tells probes number next others rest → AnswersItsOwn tells probes number s (first ++ others) (text ++ rest)

  leads-passed : (number : ℕ) (s : S) (farm mid : FarmState S) (first : List Sent) (text : List ℕ) (place : ℕ) → slice_get farm.machines place ≡ Some s
      → first ≡ [] → text ≡ [] → mid ≡ farm → Leads number s first text mid place
  leads-passed number s farm mid first text place is none silent same = record {
    next = s;
    there = ap (λ (f : FarmState S). slice_get f.machines place) same ∙ is;
    on = λ others rest a. subst (λ f. AnswersItsOwn tells probes number s (f ++ others) (text ++ rest)) (sym none) (subst (λ t. AnswersItsOwn tells probes number s others (t ++ rest)) (sym silent) a);
  }

  leads-own : (number : ℕ) (s next : S) (event : Event) (whom : Whom) (text : List ℕ) (own : Own tells whole whom event number s text next) (others : List Sent) (rest : List ℕ)
      → AnswersItsOwn tells probes number next others rest → AnswersItsOwn tells probes number s (record { event = event; whom = whom } ∷ others) (text ++ rest)
  leads-own number s next event whom text own others rest a = go (is_for whom number) refl own.step
    where
      go : (b : Bool) → is_for whom number ≡ b → MatchBool b (tells s event own.told next) ((own.told ≡ []) × (next ≡ s))
          → AnswersItsOwn tells probes number s (record { event = event; whom = whom } ∷ others) (text ++ rest)
      go true e step =
          let events : sent_to number (record { event = event; whom = whom } ∷ others) ≡ event ∷ sent_to number others = rw e refl in
          record {
            last = a.last;
            told = subst (λ es. TellsAll tells s es (told_by number (text ++ rest)) a.last) (sym events) (own.told, (next, (told_by number rest, step, a.told, own.found rest)));
          }
      go false e (none, same) =
          let events : sent_to number (record { event = event; whom = whom } ∷ others) ≡ sent_to number others = rw e refl in
          let texts : told_by number (text ++ rest) ≡ told_by number rest = own.found rest ∙ ap (λ t. t ++ told_by number rest) none in
          record {
            last = a.last;
            told = subst (λ es. TellsAll tells s es (told_by number (text ++ rest)) a.last) (sym events)
                (subst (λ t. TellsAll tells s (sent_to number others) t a.last) (sym texts) (subst (λ x. TellsAll tells x (sent_to number others) (told_by number rest) a.last) same a.told));
          }

  leads : (farm mid : FarmState S) (line : List ℕ) (first : List Sent) (text : List ℕ) → SendsLine tells probes farm line first text mid → (place : ℕ) (s : S) → slice_get farm.machines place ≡ Some s
      → Leads (place + 1) s first text mid place
  leads farm mid line first text h place s is = go (line_address (length farm.machines) line) h
    where
      go : (o : Option Addressed) → MatchOption o ((first ≡ []) × (text ≡ []) × (mid ≡ farm)) (λ address. (whom : Whom) × (first ≡ record { event = address.event; whom = whom } ∷ []) × AnswersSent tells probes farm address whom text mid)
          → Leads (place + 1) s first text mid place
      go None (none, silent, same) = leads-passed (place + 1) s farm mid first text place is none silent same
      go (Some address) (whom, one, answers) =
          let at = own-at tells whole whom address.event 1 farm.machines mid.machines text answers.told place s is in
          let number : 1 + place ≡ place + 1 = omega arith in
          let own = subst (λ n. Own tells whole whom address.event n s text at.last) number at.own in
          record {
            next = at.last;
            there = at.there;
            on = λ others rest a. subst (λ f. AnswersItsOwn tells probes (place + 1) s (f ++ others) (text ++ rest)) (sym one) (leads-own (place + 1) s at.last address.event whom text own others rest a);
          }

  parts : (lines : List (List ℕ)) (farm farm' : FarmState S) (sent : List Sent) (text : List ℕ) → SendsLines tells probes farm lines sent text farm'
      → (place : ℕ) (s : S) → slice_get farm.machines place ≡ Some s → AnswersItsOwn tells probes (place + 1) s sent text
  parts [] farm farm' sent text (none, silent, same) place s is = record {
    last = s;
    told = subst (λ es. TellsAll tells s (sent_to (place + 1) es) (told_by (place + 1) text) s) (sym none) (subst (λ t. TellsAll tells s [] (told_by (place + 1) t) s) (sym silent) (refl, refl));
  }
  parts (line ∷ lines) farm farm' sent text (first, (others, (told, (rest, (mid, one, more, sents, texts))))) place s is =
      let lead = leads farm mid line first told one place s is in
      let next = parts lines mid farm' others rest more place lead.next lead.there in
      subst (λ es. AnswersItsOwn tells probes (place + 1) s es text) (sym sents) (subst (AnswersItsOwn tells probes (place + 1) s (first ++ others)) (sym texts) (lead.on others rest next))

pub farms_part : {S : Type 0} (tells : S → Event → List ℕ → S → Type 0) (probes : S → Event → Probe → Type 0) → FarmsPart tells probes
farms_part tells probes whole farm farm' lines sent text h place s is = parts tells probes whole lines farm farm' sent text h place s is
