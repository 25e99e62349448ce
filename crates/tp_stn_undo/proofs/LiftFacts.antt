-- A lower bound rises.
use Rattle.std.proofs.Common.{◌≡◌, ◌≢◌, ℕ, ◌<◌, ◌≤◌, Bool, true, false, List, length, slice_index, get_or, set, Option, None, sym, refl, ap, ◌∙◌, subst, arith, inl, inr}
use Rattle.std.proofs.lemmas.Bool.{cases_eq, true≢false}
use Rattle.std.proofs.lemmas.Int.{ints}
use Rattle.std.proofs.lemmas.Option.{none-some}
use Rattle.std.proofs.lemmas.List.{length-set, map-set, get_or-set_same, get_or-set_other}
use Rattle.std.proofs.Math.Seq.{map-set_same}
use Rattle.tp_base.specs.declared.edges.Edge.{Edge}
use Rattle.tp_base.specs.Grows.{IsCause, IsSupported, cause_of}
use Rattle.tp_base.proofs.GrowsFacts.{Changes-set, still_kept}
use Rattle.tp_stn_undo.specs.declared.point_state.PointState.{PointState}
use Rattle.tp_stn_undo.specs.States.{lows_of, times_of, edges_of, causes_of, numbered}
use Rattle.tp_stn_undo.specs.Flags.{flag}
use Rattle.tp_stn_undo.specs.Propagation.{AreKept}
use Rattle.tp_stn_undo.specs.RaisedBounds.{Lifts}
use Rattle.tp_stn_undo.proofs.CauseFacts.{no_state}
use Rattle.tp_stn_undo.proofs.RaiseFacts.{times_len, lows_len, causes_len, time_at}

module _ (lows : List ℕ) (edges : List Edge) (p low : ℕ) (known : p < length lows) (more : slice_index lows p ≤ low) where
  n_is : length (set lows p low) ≡ length lows
  n_is = length-set lows p low

  -- the time is no less than the new one already
  pub supported_same : (t : ℕ → ℕ) (cause : ℕ → Option Edge) → low ≤ t p → IsSupported lows edges t cause → IsSupported (set lows p low) edges t cause
  supported_same t cause h s =
      let n = n_is in
      record {
        stamp = s.stamp;
        next = s.next;
        early = λ v k. s.early v (omega arith);
        root = λ v k none. (let r = s.root v (omega arith) none in elim (cases_eq v p) [
          | inl e ↦ (let a : get_or (set lows p low) p 0 ≡ low = get_or-set_same lows p low 0 known in let b = ap (slice_index (set lows p low)) e in let c = ap t e in let d = ap (slice_index lows) e in omega arith)
          | inr e ↦ r ∙ sym (get_or-set_other lows p v low 0 e)
        ]);
        caused = λ v e k some. rw n (s.caused v e (omega arith) some);
      }

  kept_cause : (times : List ℕ) (stamp : ℕ → ℕ) → p < length times → slice_index times p < low → (v : ℕ) (d : Edge) → v ≢ p → IsCause (length lows) edges (slice_index times) stamp v d → IsCause (length lows) edges (slice_index (set times p low)) stamp v d
  kept_cause times stamp within h v d ne c =
      let at : get_or (set times p low) p 0 ≡ low = get_or-set_same times p low 0 within in
      let tv : get_or (set times p low) v 0 ≡ get_or times v 0 = get_or-set_other times p v low 0 ne in
      let le = c.at_most in
      elim (cases_eq d.from.0 p) [
        | inl q ↦ (
            let a = ap (slice_index (set times p low)) q in
            let b = ap (slice_index times) q in
            record { in_list = c.in_list; to = c.to; from = c.from; at_most = omega (arith, ints); tie = λ x. absurd (omega (arith, ints)) })
        | inr q ↦ (
            let a : get_or (set times p low) d.from.0 0 ≡ get_or times d.from.0 0 = get_or-set_other times p d.from.0 low 0 q in
            record { in_list = c.in_list; to = c.to; from = c.from; at_most = omega (arith, ints); tie = λ x. c.tie (omega (arith, ints)) })
      ]

  -- the time rises with it, and has no cause then
  pub supported_more : (times : List ℕ) (causes : List (Option Edge)) → length times ≡ length lows → length causes ≡ length lows → slice_index times p < low
      → IsSupported lows edges (slice_index times) (cause_of causes) → IsSupported (set lows p low) edges (slice_index (set times p low)) (cause_of (set causes p None))
  supported_more times causes nt nc h s =
      let n = n_is in
      let at : get_or (set times p low) p 0 ≡ low = get_or-set_same times p low 0 (omega arith) in
      let none_at : get_or (set causes p None) p None ≡ None = get_or-set_same causes p None None (omega arith) in
      record {
        stamp = s.stamp;
        next = s.next;
        early = λ v k. s.early v (omega arith);
        root = λ v k none. elim (cases_eq v p) [
          | inl e ↦ (let a : get_or (set lows p low) p 0 ≡ low = get_or-set_same lows p low 0 known in ap (slice_index (set times p low)) e ∙ at ∙ sym a ∙ ap (slice_index (set lows p low)) (sym e))
          | inr e ↦ get_or-set_other times p v low 0 e ∙ s.root v (omega arith) (sym (get_or-set_other causes p v None None e) ∙ none) ∙ sym (get_or-set_other lows p v low 0 e)
        ];
        caused = λ v d k some. elim (cases_eq v p) [
          | inl e ↦ absurd (none-some d (sym none_at ∙ sym (ap (cause_of (set causes p None)) e) ∙ some))
          | inr e ↦ rw n (kept_cause times s.stamp (omega arith) h v d e (s.caused v d (omega arith) (sym (get_or-set_other causes p v None None e) ∙ some)))
        ];
      }

module _ (states : List PointState) (p low : ℕ) (known : p < length states) (more : slice_index (lows_of states) p ≤ low) (flags : List Bool) where
  old : PointState
  old = get_or states p no_state

  pub lifts_same : low ≤ (get_or states p no_state).time → Lifts states (set states p (record { low = low; time = (get_or states p no_state).time; cause = (get_or states p no_state).cause })) p low flags flags
  lifts_same h =
      let s : PointState = record { low = low; time = (get_or states p no_state).time; cause = (get_or states p no_state).cause } in
      let states' : List PointState = set states p s in
      let lows : lows_of states' ≡ set (lows_of states) p low = map-set (λ (s : PointState). s.low) states p s in
      let times : times_of states' ≡ times_of states = map-set_same (λ (s : PointState). s.time) states p s no_state refl in
      let at = time_at states p known in
      let nl = lows_len states in
      record {
        lows = lows;
        len = length-set states p s;
        supported = λ links sup.
            (let causes : causes_of (edges_of links) states' ≡ causes_of (edges_of links) states = map-set_same (λ (s : PointState). numbered (edges_of links) s.cause) states p s no_state refl in
            subst (λ (ls : List ℕ). IsSupported ls (edges_of links) (slice_index (times_of states')) (cause_of (causes_of (edges_of links) states'))) (sym lows)
            (subst (λ (ts : List ℕ). IsSupported (set (lows_of states) p low) (edges_of links) (slice_index ts) (cause_of (causes_of (edges_of links) states'))) (sym times)
            (subst (λ (cs : List (Option Edge)). IsSupported (set (lows_of states) p low) (edges_of links) (slice_index (times_of states)) (cause_of cs)) (sym causes)
            (supported_same (lows_of states) (edges_of links) p low (omega arith) more (slice_index (times_of states)) (cause_of (causes_of (edges_of links) states)) (omega arith) sup))));
        numbered = λ links n k d i. (
            let l = length-set states p s in
            elim (cases_eq k p) [
              | inl e ↦ (let a = ap (λ (s : PointState). s.cause) (get_or-set_same states p s d known) in let b = ap (λ (i : ℕ). (get_or states' i d).cause) e in let c = n p no_state known in omega arith)
              | inr e ↦ (let a = ap (λ (s : PointState). s.cause) (get_or-set_other states p k s d e) in let b = n k d (omega arith) in omega arith)
            ]);
        kept = λ edges k. subst (λ (ts : List ℕ). AreKept edges (slice_index ts) flags) (sym times) k;
        rises = λ i k. (let e = ap (λ (ts : List ℕ). slice_index ts i) times in omega arith);
        reaches = (let e = ap (λ (ts : List ℕ). slice_index ts p) times in omega arith);
        below = λ y b r i k. (let e = ap (λ (ts : List ℕ). slice_index ts i) times in let c = b i k in omega arith);
      }

  pub lifts_more : p < length flags → (get_or states p no_state).time < low → Lifts states (set states p (record { low = low; time = low; cause = 0 })) p low flags (set flags p true)
  lifts_more hf h =
      let s : PointState = record { low = low; time = low; cause = 0 } in
      let states' : List PointState = set states p s in
      let lows : lows_of states' ≡ set (lows_of states) p low = map-set (λ (s : PointState). s.low) states p s in
      let times : times_of states' ≡ set (times_of states) p low = map-set (λ (s : PointState). s.time) states p s in
      let at = time_at states p known in
      let nl = lows_len states in
      let nt = times_len states in
      let same : get_or (set (times_of states) p low) p 0 ≡ low = get_or-set_same (times_of states) p low 0 (omega arith) in
      record {
        lows = lows;
        len = length-set states p s;
        supported = λ links sup.
            (let causes : causes_of (edges_of links) states' ≡ set (causes_of (edges_of links) states) p None = map-set (λ (s : PointState). numbered (edges_of links) s.cause) states p s in
            let ncs = causes_len links states in
            subst (λ (ls : List ℕ). IsSupported ls (edges_of links) (slice_index (times_of states')) (cause_of (causes_of (edges_of links) states'))) (sym lows)
            (subst (λ (ts : List ℕ). IsSupported (set (lows_of states) p low) (edges_of links) (slice_index ts) (cause_of (causes_of (edges_of links) states'))) (sym times)
            (subst (λ (cs : List (Option Edge)). IsSupported (set (lows_of states) p low) (edges_of links) (slice_index (set (times_of states) p low)) (cause_of cs)) (sym causes)
            (supported_more (lows_of states) (edges_of links) p low (omega arith) more (times_of states) (causes_of (edges_of links) states) (omega arith) (omega arith) (omega arith) sup))));
        numbered = λ links n k d i. (
            let l = length-set states p s in
            elim (cases_eq k p) [
              | inl e ↦ (let a = ap (λ (s : PointState). s.cause) (get_or-set_same states p s d known) in let b = ap (λ (i : ℕ). (get_or states' i d).cause) e in omega arith)
              | inr e ↦ (let a = ap (λ (s : PointState). s.cause) (get_or-set_other states p k s d e) in let b = n k d (omega arith) in omega arith)
            ]);
        kept = λ edges k. subst (λ (ts : List ℕ). AreKept edges (slice_index ts) (set flags p true)) (sym times) (λ i e g f. elim (cases_eq e.from.0 p) [
          | inl q ↦ absurd (true≢false (sym (ap (flag (set flags p true)) q ∙ get_or-set_same flags p true false hf) ∙ f))
          | inr q ↦ still_kept (slice_index (times_of states)) (slice_index (set (times_of states) p low)) p low e (Changes-set (times_of states) p low 0 (omega arith)) (omega arith) q (k i e g (sym (get_or-set_other flags p e.from.0 true false q) ∙ f))
        ]);
        rises = λ i k. (let e = ap (λ (ts : List ℕ). slice_index ts i) times in elim (cases_eq i p) [
          | inl q ↦ (let a = ap (slice_index (set (times_of states) p low)) q in let b = ap (slice_index (times_of states)) q in omega arith)
          | inr q ↦ (let a = get_or-set_other (times_of states) p i low 0 q in omega arith)
        ]);
        reaches = (let e = ap (λ (ts : List ℕ). slice_index ts p) times in omega arith);
        below = λ y b r i k. (let e = ap (λ (ts : List ℕ). slice_index ts i) times in elim (cases_eq i p) [
          | inl q ↦ (let a = ap (slice_index (set (times_of states) p low)) q in let c = ap y q in omega arith)
          | inr q ↦ (let a = get_or-set_other (times_of states) p i low 0 q in let c = b i k in omega arith)
        ]);
      }
