-- A live schedule joined with what is past: what is forgotten of it is what is past.
use Rattle.std.proofs.Common.{◌≡◌, ℕ, ◌<◌, ◌≤◌, Bool, true, false, not, List, length, refl, sym, ◌∙◌, Contains, subst}
use Rattle.std.proofs.lemmas.Bool.{not-true, not_from_false}
use Rattle.tp_machine.specs.declared.machine.Machine.{Machine}
use Rattle.tp_schedule.specs.Legality.{IsLegal}
use Rattle.tp_schedule.specs.LivePlans.{is_live}
use Rattle.tp_schedule.specs.Plans.{point}
use Rattle.tp_schedule.specs.declared.parts.Plan.{Plan}
use Rattle.tp_schedule.specs.declared.parts.SheetId.{SheetId}
use Rattle.tp_schedule.proofs.Membership.{Contains-filter, Contains-filter_from}
use Rattle.tp_choices.specs.LiveParts.{IsJoined, MayForget, less}

module _ (machine : Machine) (now : ℕ) (plans : List Plan) (gone : SheetId → Bool) (each : (p : Plan) → Contains plans p → gone p.sheet ≡ not (is_live machine now p)) where
  pub live-parts : (p : Plan) → Contains (less gone plans) p → is_live machine now p ≡ true
  live-parts p in' =
      let from = Contains-filter_from (λ q. not (gone q.sheet)) plans p in' in
      go (gone p.sheet) (is_live machine now p) (each p from.0) from.1 where
        go : (c d : Bool) → c ≡ not d → not c ≡ true → d ≡ true
        go c true e stays = refl
        go true false e stays = absurd (cc)
        go false false e stays = absurd (cc)

  module _ (live new : List Plan) (joined : IsJoined gone plans live new) (alive : (q : Plan) → Contains live q → is_live machine now q ≡ true) where
    -- a plan of the joined schedule is past, or of the live part
    past-was : (p : Plan) → Contains new p → gone p.sheet ≡ true → Contains plans p
    past-was p in' e = (Contains-filter_from (λ q. gone q.sheet) plans p (subst (λ ps. Contains ps p) joined.past_part (Contains-filter (λ q. gone q.sheet) new p in' e))).0

    live-is : (p : Plan) → Contains new p → gone p.sheet ≡ false → Contains live p
    live-is p in' e = subst (λ ps. Contains ps p) joined.live_part (Contains-filter (λ q. not (gone q.sheet)) new p in' (not_from_false (gone p.sheet) e))

    pub each-joined : (p : Plan) → Contains new p → gone p.sheet ≡ not (is_live machine now p)
    each-joined p in' = go (gone p.sheet) refl where
      go : (c : Bool) → gone p.sheet ≡ c → c ≡ not (is_live machine now p)
      go true e = sym e ∙ each p (past-was p in' e)
      go false e = let is = alive p (live-is p in' e) in rw is refl

    pub forgets-joined : MayForget machine now plans gone → ((q : Plan) → Contains live q → (i : ℕ) → q.released ≤ i → i < length q.acts → now < point q i)
        → IsLegal machine new → MayForget machine now new gone
    forgets-joined f ahead legal = record {
      legal = legal;
      past = λ p in' e. not-true (is_live machine now p) (sym (each-joined p in') ∙ e);
      ahead = λ p in'. ahead-of p in' (gone p.sheet) refl;
    } where
      ahead-of : (p : Plan) → Contains new p → (c : Bool) → gone p.sheet ≡ c → (i : ℕ) → p.released ≤ i → i < length p.acts → now < point p i
      ahead-of p in' true e = f.ahead p (past-was p in' e)
      ahead-of p in' false e = ahead p (live-is p in' e)
