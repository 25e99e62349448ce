-- Plans that are the same before and after are not told to move.
use Rattle.std.proofs.Common.{◌≡◌, Bool, true, false, cond, not, List, [], ◌∷◌, ◌++◌, map, refl, sym, ap, ◌∙◌}
use Rattle.tp_schedule.specs.Answers.{unmoved}
use Rattle.tp_schedule.specs.declared.parts.Plan.{Plan}
use Rattle.tp_schedule.specs.declared.parts.SheetId.{SheetId}
use Rattle.tp_choices.specs.LiveParts.{less, only}
use Rattle.tp_event_rules.specs.AnswerRecords.{moves, told_of_move}
use Rattle.tp_event_rules.proofs.AskedFacts.{bytes_eq-same}

none-told : (p : Plan) → told_of_move p p ≡ []
none-told p = let same = bytes_eq-same p.points in rw same refl

pub moves-less : (gone : SheetId → Bool) (ps qs : List Plan) → map unmoved qs ≡ map unmoved ps → only gone qs ≡ only gone ps → moves (less gone ps) (less gone qs) ≡ moves ps qs
moves-less gone [] [] e past = refl
moves-less gone [] (q ∷ qs) e past = absurd (cc)
moves-less gone (p ∷ ps) [] e past = absurd (cc)
moves-less gone (p ∷ ps) (q ∷ qs) e past =
    let one : unmoved q ≡ unmoved p = cc in
    let rest : map unmoved qs ≡ map unmoved ps = cc in
    let sheet : q.sheet ≡ p.sheet = ap (λ (r : Plan). r.sheet) one in
    go (gone p.sheet) (gone q.sheet) (ap gone sheet) past (moves-less gone ps qs rest) where
      go : (b c : Bool) → c ≡ b → cond c (q ∷ only gone qs) (only gone qs) ≡ cond b (p ∷ only gone ps) (only gone ps)
          → (only gone qs ≡ only gone ps → moves (less gone ps) (less gone qs) ≡ moves ps qs)
          → moves (cond (not b) (p ∷ less gone ps) (less gone ps)) (cond (not c) (q ∷ less gone qs) (less gone qs)) ≡ told_of_move p q ++ moves ps qs
      go true true e' past' rest' =
          let first : q ≡ p = cc in
          let later : only gone qs ≡ only gone ps = cc in
          rest' later ∙ sym (ap (λ ms. ms ++ moves ps qs) (ap (told_of_move p) first ∙ none-told p))
      go true false e' past' rest' = absurd (cc)
      go false true e' past' rest' = absurd (cc)
      go false false e' past' rest' = ap (λ ms. told_of_move p q ++ ms) (rest' past')
