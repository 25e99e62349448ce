-- Events are answered one after another.
use Rattle.std.proofs.Common.{◌≡◌, ℕ, ◌+◌, ◌<◌, ◌≤◌, List, [], ◌∷◌, ◌++◌, length, get_or, drop, refl, sym, ap, subst, ◌∙◌, append_assoc, add-one, drop-cons}
use Rattle.std.proofs.lemmas.List.{append-nil, drop_all}
use Rattle.tp_script.specs.declared.event.Event.{Event}
use Rattle.tp_session.specs.Sessions.{Standing, Tells}
use Rattle.tp_stream.specs.Tellers.{TellsAll}

-- however the rest of the events is answered, with what was reported so far all of them are
abbrev pub Leads : Standing → List Event → List ℕ → Standing → List Event → Type 0
Leads start events so_far s rest = (text : List ℕ) (s' : Standing) → TellsAll Tells s rest text s' → TellsAll Tells start events (so_far ++ text) s'

pub leads_first : (start : Standing) (events : List Event) (so_far : List ℕ) → so_far ≡ [] → Leads start events so_far start events
leads_first start events so_far none = λ text s' h. subst (λ t. TellsAll Tells start events (t ++ text) s') (sym none) h

pub leads_more : (start s mid : Standing) (events rest : List Event) (event : Event) (so_far told so_far' : List ℕ)
    → Leads start events so_far s (event ∷ rest) → Tells s event told mid → so_far' ≡ so_far ++ told → Leads start events so_far' mid rest
leads_more start s mid events rest event so_far told so_far' leads one grown = λ text s' h.
    subst (λ t. TellsAll Tells start events t s') (sym (append_assoc so_far told text) ∙ ap (λ t. t ++ text) (sym grown))
    (leads (told ++ text) s' (told, (mid, (text, one, h, refl))))

next_event : (events : List Event) (i : ℕ) (event : Event) → i < length events → drop i events ≡ get_or events i event ∷ drop (i + 1) events
next_event events i event inside = rw (add-one) (drop-cons events i event inside)

pub leads_at : (start s mid : Standing) (events : List Event) (i : ℕ) (event : Event) (so_far told so_far' : List ℕ) → i < length events → event ≡ get_or events i event
    → Leads start events so_far s (drop i events) → Tells s event told mid → so_far' ≡ so_far ++ told → Leads start events so_far' mid (drop (i + 1) events)
leads_at start s mid events i event so_far told so_far' inside is leads one grown =
    leads_more start s mid events (drop (i + 1) events) event so_far told so_far' (subst (Leads start events so_far s) (next_event events i event inside ∙ ap (λ e. e ∷ drop (i + 1) events) (sym is)) leads) one grown

pub leads_all : (start s : Standing) (events : List Event) (n : ℕ) (so_far : List ℕ) → length events ≤ n → Leads start events so_far s (drop n events) → TellsAll Tells start events so_far s
leads_all start s events n so_far past leads =
    let none = subst (Leads start events so_far s) (drop_all n events past) leads in
    subst (λ t. TellsAll Tells start events t s) (append-nil so_far) (none [] s (refl, refl))
