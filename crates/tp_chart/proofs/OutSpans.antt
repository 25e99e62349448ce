-- The modules that are out, one by one.
use Rattle.std.proofs.Common.{◌≡◌, ℕ, suc, ◌<◌, ◌+◌, true, false, List, [], ◌∷◌, ◌++◌, length, drop, refl, ap, sym, ◌∙◌, arith, append_assoc}
use Rattle.std.proofs.lemmas.List.{drop_more}
use Rattle.tp_machine.specs.ModuleUse.{is_out}
use Rattle.tp_machine.specs.declared.parts.Outs.{Outs}
use Rattle.tp_chart.specs.Scenes.{begun}
use Rattle.tp_chart.specs.Starts.{out_spans}
use Rattle.tp_chart.specs.declared.out_span.OutKind.TheVariants as why
use Rattle.tp_chart.specs.declared.out_span.OutSpan.{OutSpan}

spans_out : (outs : Outs) (moment n : ℕ) (names : List (List ℕ)) → n < length names → is_out outs n ≡ true → out_spans outs moment n (drop n names) ≡ begun why.Saved n moment ∷ out_spans outs moment (n + 1) (drop (n + 1) names)
spans_out outs moment n names lt is = let e : suc n ≡ n + 1 = omega arith in rw (drop_more names n [] lt, is, e) refl

spans_in : (outs : Outs) (moment n : ℕ) (names : List (List ℕ)) → n < length names → is_out outs n ≡ false → out_spans outs moment n (drop n names) ≡ out_spans outs moment (n + 1) (drop (n + 1) names)
spans_in outs moment n names lt is = let e : suc n ≡ n + 1 = omega arith in rw (drop_more names n [] lt, is, e) refl

pub span_added : (outs : Outs) (moment n : ℕ) (names : List (List ℕ)) (vs vs' all : List OutSpan) → n < length names → is_out outs n ≡ true → vs' ≡ vs ++ begun why.Saved n moment ∷ []
    → vs ++ out_spans outs moment n (drop n names) ≡ all → vs' ++ out_spans outs moment (n + 1) (drop (n + 1) names) ≡ all
span_added outs moment n names vs vs' all lt is grown before =
    let rest = out_spans outs moment (n + 1) (drop (n + 1) names) in
    ap (λ (os : List OutSpan). os ++ rest) grown ∙ append_assoc vs (begun why.Saved n moment ∷ []) rest ∙ ap (λ (os : List OutSpan). vs ++ os) (sym (spans_out outs moment n names lt is)) ∙ before

pub span_left : (outs : Outs) (moment n : ℕ) (names : List (List ℕ)) (vs vs' all : List OutSpan) → n < length names → is_out outs n ≡ false → vs' ≡ vs
    → vs ++ out_spans outs moment n (drop n names) ≡ all → vs' ++ out_spans outs moment (n + 1) (drop (n + 1) names) ≡ all
span_left outs moment n names vs vs' all lt is same before =
    ap (λ (os : List OutSpan). os ++ out_spans outs moment (n + 1) (drop (n + 1) names)) same ∙ ap (λ (os : List OutSpan). vs ++ os) (sym (spans_in outs moment n names lt is)) ∙ before
