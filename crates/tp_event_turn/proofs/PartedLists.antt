-- A state less some copies: what befalls the others, and what is reported of it.
use Rattle.std.proofs.Common.{◌≡◌, Bool, true, false, cond, ◌||◌, not, List, [], ◌∷◌, ◌++◌, map, filter, flat_map, refl, sym, ap, ◌∙◌, Contains}
use Rattle.std.specs.List.{list_any}
use Rattle.std.proofs.lemmas.List.Elements.{filter-append}
use Rattle.tp_machine.specs.declared.machine.Machine.{Machine}
use Rattle.tp_stock.specs.Stock.{less_taken}
use Rattle.tp_choices.specs.LiveParts.{less}
use Rattle.tp_schedule.specs.Plans.{is_same_copy}
use Rattle.tp_schedule.specs.declared.parts.Plan.{Plan}
use Rattle.tp_schedule.specs.declared.parts.SheetId.{SheetId}
use Rattle.tp_schedule.proofs.CopyFacts.{same_copy-is}
use Rattle.tp_schedule.proofs.Membership.{Contains-here, Contains-later}
use Rattle.tp_event_rules.specs.Fates as fates
use Rattle.tp_event_rules.specs.Fates.{Fate, befall, is_loss, left_by, left_of, told_by, told_of, waits_for}
use Rattle.tp_event_rules.specs.Lines.{is_lost, put_all_waiting}
use Rattle.tp_event_rules.specs.States.{SessionState}

-- what passes a test may be reported otherwise, what fails it tells nothing
pub flat_map-part : {X Y : Type 0} (q : X → Bool) (f f' : X → List Y) (xs : List X) → ((x : X) → Contains xs x → q x ≡ false → f x ≡ []) → ((x : X) → Contains xs x → q x ≡ true → f' x ≡ f x)
    → flat_map f' (filter q xs) ≡ flat_map f xs
flat_map-part q f f' [] none same = refl
flat_map-part {X} {Y} q f f' (x ∷ xs) none same =
    go (q x) refl (flat_map-part q f f' xs (λ y in'. none y (Contains-later x xs y in')) (λ y in'. same y (Contains-later x xs y in'))) where
      go : (b : Bool) → q x ≡ b → flat_map f' (filter q xs) ≡ flat_map f xs → flat_map f' (cond b (x ∷ filter q xs) (filter q xs)) ≡ f x ++ flat_map f xs
      go true e rest = rw (same x (Contains-here x xs) e) (ap (λ ys. f x ++ ys) rest)
      go false e rest = rw (none x (Contains-here x xs) e) rest

-- the plans of these copies
abbrev pub gone_from : (SheetId → Bool) → List Plan → List Plan
gone_from g plans = filter (λ p. g p.sheet) plans

-- the state less copies that are past, of which these plans were in a first schedule
module _ (machine : Machine) (g : SheetId → Bool) (first : List Plan) where
  -- the state less these copies, and the refills less their sheets
  abbrev pub part : SessionState → SessionState
  part s = record s { plans = less g s.plans; lost = filter (λ c. not (g c)) s.lost; refills = less_taken machine (gone_from g first) s.refills }

  lost-any : (c : SheetId) → g c ≡ false → (cs : List SheetId) → list_any (is_same_copy c) (filter (λ d. not (g d)) cs) ≡ list_any (is_same_copy c) cs
  lost-any c stays [] = refl
  lost-any c stays (d ∷ cs) = go (g d) refl (is_same_copy c d) refl (lost-any c stays cs) where
    go : (b : Bool) → g d ≡ b → (e : Bool) → is_same_copy c d ≡ e → list_any (is_same_copy c) (filter (λ d. not (g d)) cs) ≡ list_any (is_same_copy c) cs
        → list_any (is_same_copy c) (cond (not b) (d ∷ filter (λ d. not (g d)) cs) (filter (λ d. not (g d)) cs)) ≡ (e || list_any (is_same_copy c) cs)
    go true f true h rest = absurd (let gone : g c ≡ true = ap g (same_copy-is c d h) ∙ f in cc)
    go true f false h rest = rest
    go false f e h rest = rw h (ap (λ b. e || b) rest)

  -- whether a copy is lost is seen in the part
  pub lost-same : (s : SessionState) (p : Plan) → g p.sheet ≡ false → is_lost (part s) p ≡ is_lost s p
  lost-same s p stays = lost-any p.sheet stays s.lost

  -- the fates in the part are those of the whole, where nothing befalls the copies that are left away
  pub record SameFates (s : SessionState) (fate' fate : Plan → Fate) : Type 0 where
    pub stays : (p : Plan) → Contains s.plans p → g p.sheet ≡ true → fate p ≡ fates.stays
    pub same : (p : Plan) → Contains s.plans p → g p.sheet ≡ false → fate' p ≡ fate p

  not-true' : (b : Bool) → not b ≡ true → b ≡ false
  not-true' true e = absurd (cc)
  not-true' false e = refl

  not-false' : (b : Bool) → not b ≡ false → b ≡ true
  not-false' true e = refl
  not-false' false e = absurd (cc)

  module _ (s : SessionState) (fate' fate : Plan → Fate) (f : SameFates s fate' fate) where
    -- what is reported of each plan, and what waits for it
    pub by-fates : {Y : Type 0} (h : Plan → Fate → List Y) → ((p : Plan) → h p fates.stays ≡ []) → flat_map (λ p. h p (fate' p)) (less g s.plans) ≡ flat_map (λ p. h p (fate p)) s.plans
    by-fates h none =
        flat_map-part (λ p. not (g p.sheet)) (λ p. h p (fate p)) (λ p. h p (fate' p)) s.plans (λ p in' e. ap (h p) (f.stays p in' (not-false' (g p.sheet) e)) ∙ none p)
        (λ p in' e. ap (h p) (f.same p in' (not-true' (g p.sheet) e)))

    pub told-part : told_by fate' (part s) ≡ told_by fate s
    told-part = by-fates (told_of s.jobs s.now) (λ p. refl)

    waits-part : put_all_waiting s.waiting (flat_map (λ p. waits_for p (fate' p)) (less g s.plans)) ≡ put_all_waiting s.waiting (flat_map (λ p. waits_for p (fate p)) s.plans)
    waits-part = ap (put_all_waiting s.waiting) (by-fates waits_for (λ p. refl))

    left-one : (p : Plan) → g p.sheet ≡ false → (d : Fate) → less g (left_of s.now p d) ≡ left_of s.now p d
    left-one p stays fates.stays = rw stays refl
    left-one p stays fates.lost = rw stays refl
    left-one p stays fates.withdrawn = refl
    left-one p stays fates.cut = rw stays refl
    left-one p stays fates.purged = rw stays refl
    left-one p stays fates.replaced = rw stays refl
    left-one p stays fates.dropped = refl

    left-some : (ps : List Plan) → ((p : Plan) → Contains ps p → Contains s.plans p) → left_by fate' s.now (less g ps) ≡ less g (left_by fate s.now ps)
    left-some [] of = refl
    left-some (p ∷ ps) of = go (g p.sheet) refl (left-some ps (λ q in'. of q (Contains-later p ps q in'))) where
      go : (b : Bool) → g p.sheet ≡ b → left_by fate' s.now (less g ps) ≡ less g (left_by fate s.now ps)
          → left_by fate' s.now (cond (not b) (p ∷ less g ps) (less g ps)) ≡ less g (left_of s.now p (fate p) ++ left_by fate s.now ps)
      go true e rest = rw (f.stays p (of p (Contains-here p ps)) e, e) rest
      go false e rest =
          ap (λ d. left_of s.now p d ++ left_by fate' s.now (less g ps)) (f.same p (of p (Contains-here p ps)) e) ∙ ap (λ l. left_of s.now p (fate p) ++ l) rest
          ∙ ap (λ l. l ++ less g (left_by fate s.now ps)) (sym (left-one p e (fate p))) ∙ sym (filter-append (λ q. not (g q.sheet)) (left_of s.now p (fate p)) (left_by fate s.now ps))

    abbrev is_lost_after : Plan → Bool
    is_lost_after p = is_lost s p || is_loss (fate p)

    lost-some : (ps : List Plan) → ((p : Plan) → Contains ps p → Contains s.plans p)
        → map (λ p. p.sheet) (filter (λ p. is_lost (part s) p || is_loss (fate' p)) (less g ps)) ≡ filter (λ c. not (g c)) (map (λ p. p.sheet) (filter is_lost_after ps))
    lost-some [] of = refl
    lost-some (p ∷ ps) of = go (g p.sheet) refl (is_lost_after p) refl (lost-some ps (λ q in'. of q (Contains-later p ps q in'))) where
      go : (b : Bool) → g p.sheet ≡ b → (c : Bool) → is_lost_after p ≡ c
          → map (λ p. p.sheet) (filter (λ p. is_lost (part s) p || is_loss (fate' p)) (less g ps)) ≡ filter (λ c. not (g c)) (map (λ p. p.sheet) (filter is_lost_after ps))
          → map (λ p. p.sheet) (filter (λ p. is_lost (part s) p || is_loss (fate' p)) (cond (not b) (p ∷ less g ps) (less g ps)))
          ≡ filter (λ c. not (g c)) (map (λ p. p.sheet) (cond c (p ∷ filter is_lost_after ps) (filter is_lost_after ps)))
      go true e true h rest = rw e rest
      go true e false h rest = rest
      go false e true h rest =
          let here : (is_lost (part s) p || is_loss (fate' p)) ≡ true = ap (λ l. l || is_loss (fate' p)) (lost-same s p e) ∙ ap (λ d. is_lost s p || is_loss d) (f.same p (of p (Contains-here p ps)) e) ∙ h in
          rw (here, e) (ap (λ l. p.sheet ∷ l) rest)
      go false e false h rest =
          let here : (is_lost (part s) p || is_loss (fate' p)) ≡ false = ap (λ l. l || is_loss (fate' p)) (lost-same s p e) ∙ ap (λ d. is_lost s p || is_loss d) (f.same p (of p (Contains-here p ps)) e) ∙ h in
          rw here rest

    pub befall-part : befall fate' (part s) ≡ part (befall fate s)
    befall-part =
        let plans = left-some s.plans (λ p in'. in') in
        let lost = lost-some s.plans (λ p in'. in') in
        λ i. record s { plans = plans i; lost = lost i; waiting = waits-part i; refills = less_taken machine (gone_from g first) s.refills }
