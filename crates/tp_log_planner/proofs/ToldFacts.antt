-- What is taken from the first item that is no aside on is taken of the items to come.
use Rattle.std.proofs.Common.{◌≡◌, ℕ, zero, suc, ◌+◌, ◌≤◌, Bool, true, false, cond, List, [], ◌∷◌, drop, get_or, length, refl, sym, ap, subst, ◌∙◌, arith}
use Rattle.tp_log.specs.declared.item.Item.{Item}
use Rattle.tp_machine.specs.declared.machine.Machine.{Machine}
use Rattle.tp_schedule.specs.PlannerAnswers.Deed.{replied, settled}
use Rattle.tp_schedule.specs.PlannerAnswers.Due.{asking, settling}
use Rattle.tp_schedule.specs.declared.parts.Ask.{Ask}
use Rattle.tp_schedule.specs.declared.parts.Halt.{Halt}
use Rattle.tp_schedule.specs.declared.parts.Plan.{Plan}
use Rattle.tp_schedule.specs.declared.parts.Reply.{Reply}
use Rattle.std.specs.Bool.{MatchBool}
use Rattle.tp_schedule.specs.declared.parts.Halt.TheVariants.{Memory as NoMemory, Stopped}
use Rattle.tp_log_planner.specs.Failures.{Denies, is_stop}
use Rattle.tp_log_planner.specs.declared.failure.Failure.{Failure}
use Rattle.tp_log_planner.specs.declared.failure.Failure.TheVariants.{Memory as OfMemory, Stop as OfStop}
use Rattle.tp_log_planner.specs.TakenAnswers.{DoTellSettled, TakesAnswer, TakesSettled}
use Rattle.tp_log_planner.specs.Reasons.{IsReason}
use Rattle.tp_log_planner.proofs.ReasonFacts.{KeepsWhy}
use Rattle.tp_log_planner.specs.Stops.{StopsAt}
use Rattle.tp_log_planner.specs.ToldAnswers.{HasStopped, TakesOn, Tells, TellsDue, TellsSettled, ToldValue, ahead, behind_asides, is_aside}

pub behind-twice : (items : List Item) → behind_asides (behind_asides items) ≡ behind_asides items
behind-twice [] = refl
behind-twice (item ∷ items) = go (is_aside item) refl (behind-twice items) where
  stays : (b : Bool) → is_aside item ≡ b → b ≡ false → behind_asides (item ∷ items) ≡ item ∷ items
  stays b e f = pick (is_aside item) (e ∙ f) where
    pick : (c : Bool) → c ≡ false → cond c (behind_asides items) (item ∷ items) ≡ item ∷ items
    pick true g = absurd cc
    pick false g = refl

  go : (b : Bool) → is_aside item ≡ b → behind_asides (behind_asides items) ≡ behind_asides items → behind_asides (cond b (behind_asides items) (item ∷ items)) ≡ cond b (behind_asides items) (item ∷ items)
  go true e rest = rest
  go false e rest = stays false e refl

drop-none : {X : Type 0} (n : ℕ) → drop {A = X} n [] ≡ []
drop-none zero = refl
drop-none (suc n) = refl

drop-drop : {X : Type 0} (n m : ℕ) (xs : List X) → drop m (drop n xs) ≡ drop (n + m) xs
drop-drop zero m xs = ap (λ k. drop k xs) (none m) where
  none : (k : ℕ) → k ≡ 0 + k
  none k = omega arith
drop-drop (suc n) m [] = drop-none m ∙ sym (drop-none (suc n + m))
drop-drop (suc n) m (x ∷ xs) = drop-drop n m xs ∙ ap (λ k. drop k (x ∷ xs)) (one n m) where
  one : (i j : ℕ) → suc (i + j) ≡ suc i + j
  one i j = omega arith

module _ (machine : Machine) (plans : List Plan) (p : ToldValue) (next : ℕ) (is : drop next p.items ≡ behind_asides (ahead p)) (further : p.at ≤ next) where
  behind : behind_asides (drop next p.items) ≡ behind_asides (ahead p)
  behind = ap behind_asides is ∙ behind-twice (ahead p)

  pub first : behind_asides (drop next p.items) ≡ drop next p.items
  first = behind ∙ sym is

  here : (ask : Ask) (reply : Reply) (others : List Plan) (rest : List Item) → Tells machine plans ask (drop next p.items) reply others rest → Tells machine plans ask (ahead p) reply others rest
  here ask reply others rest t = record { shown = t.shown; told = sym behind ∙ t.told; said = t.said; shows = t.shows }

  there : (ask : Ask) (reply : Reply) (others : List Plan) (rest : List Item) → Tells machine plans ask (ahead p) reply others rest → Tells machine plans ask (drop next p.items) reply others rest
  there ask reply others rest t = record { shown = t.shown; told = behind ∙ t.told; said = t.said; shows = t.shows }

  settled-here : (now : ℕ) (others : List Plan) (rest : List Item) → TellsSettled machine plans now (drop next p.items) others rest → TellsSettled machine plans now (ahead p) others rest
  settled-here now others rest t = record { told = sym behind ∙ t.told; over = t.over; settles = t.settles }

  settled-there : (now : ℕ) (others : List Plan) (rest : List Item) → TellsSettled machine plans now (ahead p) others rest → TellsSettled machine plans now (drop next p.items) others rest
  settled-there now others rest t = record { told = behind ∙ t.told; over = t.over; settles = t.settles }

  pub takes-on : (ask : Ask) (reply : Reply) (plans' : List Plan) (taken : ℕ) (p' : ToldValue) → TakesAnswer machine plans ask (drop next p.items) reply plans' taken → p' ≡ record p { at = next + taken }
      → TakesOn p machine plans (replied ask reply) plans' p'
  takes-on ask reply plans' taken p' takes e = subst (λ q. TakesOn p machine plans (replied ask reply) plans' q) (sym e) (record {
    told = here ask reply plans' (drop (next + taken) p.items) (subst (Tells machine plans ask (drop next p.items) reply plans') left takes.told);
    only = λ named reply' others rest t. (let one = takes.only reply' others rest (there ask reply' others rest t) in (one.0, one.1, one.2 ∙ left));
    further = omega (arith, further);
    same = refl;
  }) where
    left : drop taken (drop next p.items) ≡ drop (next + taken) p.items
    left = drop-drop next taken p.items

  pub settles-on : (now : ℕ) (plans' : List Plan) (taken : ℕ) (p' : ToldValue) → TakesSettled machine plans now (drop next p.items) plans' taken → p' ≡ record p { at = next + taken }
      → TakesOn p machine plans (settled now) plans' p'
  settles-on now plans' taken p' takes e = subst (λ q. TakesOn p machine plans (settled now) plans' q) (sym e) (record {
    told = settled-here now plans' (drop (next + taken) p.items) (subst (TellsSettled machine plans now (drop next p.items) plans') left takes.told);
    only = λ named others rest t. (let one = takes.only named others rest (settled-there now others rest t) in (one.0, one.1 ∙ left));
    further = omega (arith, further);
    same = refl;
  }) where
    left : drop taken (drop next p.items) ≡ drop (next + taken) p.items
    left = drop-drop next taken p.items

  pub stops-asked : (ask : Ask) (halt : Halt) (p' : ToldValue) → (TellsDue machine plans (drop next p.items) (asking ask) → ⊥) → KeepsWhy (IsReason machine plans (drop next p.items) (asking ask)) p'.stop (length p.items) → HasStopped p halt p'
      → StopsAt p machine plans (asking ask) p'
  stops-asked ask halt p' denied why stopped = record {
    left = why.left;
    reason = why.reason;
    kept = why.kept;
    why = subst (λ items. IsReason machine plans items (asking ask) why.left why.reason) is why.why;
    denied = λ named due. denied (due.0, (due.1.0, (due.1.1.0, there ask due.0 due.1.0 due.1.1.0 due.1.1.1)));
    same = stopped.same;
  }

  pub stops-settled : (now : ℕ) (halt : Halt) (p' : ToldValue) → (DoTellSettled machine plans now (drop next p.items) → ⊥) → KeepsWhy (IsReason machine plans (drop next p.items) (settling now)) p'.stop (length p.items) → HasStopped p halt p'
      → StopsAt p machine plans (settling now) p'
  stops-settled now halt p' denied why stopped = record {
    left = why.left;
    reason = why.reason;
    kept = why.kept;
    why = subst (λ items. IsReason machine plans items (settling now) why.left why.reason) is why.why;
    denied = λ named due. denied (named, (due.0, (due.1.0, settled-there now due.0 due.1.0 due.1.1)));
    same = stopped.same;
  }

-- ---- a failure that halts
pub halted : (P : Type 0) (f : Failure) (p : ToldValue) (halt : Halt) (p' : ToldValue) → MatchBool (is_stop f) (HasStopped p halt p') ((halt ≡ NoMemory) × (p' ≡ p)) → halt ≡ Stopped → Denies P f
    → (P → ⊥) × HasStopped p halt p'
halted P OfMemory p halt p' match' is denied = let e = match'.0 in absurd cc
halted P (OfStop stop) p halt p' match' is denied = (denied, match')

-- ---- the first item
behind-short : (items : List Item) → length (behind_asides items) ≤ length items
behind-short [] = omega arith
behind-short (item ∷ items) = go (is_aside item) (behind-short items) where
  go : (b : Bool) → length (behind_asides items) ≤ length items → length (cond b (behind_asides items) (item ∷ items)) ≤ length (item ∷ items)
  go true le = omega (arith, le)
  go false le = omega arith

pub first-no-aside : (items : List Item) (item : Item) → 1 ≤ length items → item ≡ get_or items 0 item → behind_asides items ≡ items → is_aside item ≡ false
first-no-aside [] item some is same = absurd (omega (arith, some))
first-no-aside (x ∷ items) item some is same = ap is_aside is ∙ go (is_aside x) refl same where
  go : (b : Bool) → is_aside x ≡ b → cond b (behind_asides items) (x ∷ items) ≡ x ∷ items → is_aside x ≡ false
  go true e whole = let long = ap length whole in absurd (omega (arith, long, behind-short items))
  go false e whole = e
