-- A live plan more behind others that can be loaded: they can be loaded with it.
use Rattle.std.proofs.Common.{◌≡◌, ◌∙◌, ℕ, ◌+◌, ◌<◌, ◌≤◌, true, List, [], ◌∷◌, ◌++◌, length, filter, get_or, take, ap, refl, sym, subst, arith, inl, inr, AllPairs, Contains}
use Rattle.std.proofs.lemmas.List.{length-take-le}
use Rattle.std.proofs.lemmas.List.Elements.{Contains-append_cases}
use Rattle.tp_machine.specs.declared.machine.Machine.{Machine}
use Rattle.tp_schedule.proofs.Membership.{Contains-cons_cases, Contains-here, Contains-later}
use Rattle.tp_schedule.specs.Legality.{IsLegal}
use Rattle.tp_schedule.specs.LivePlans.{is_live}
use Rattle.tp_schedule.specs.Plans.{IsEarlier, point}
use Rattle.tp_schedule.specs.declared.parts.Plan.{Plan}
use Rattle.tp_constraints.specs.AddedPlan.{with_plan}
use Rattle.tp_base.specs.Net.{Net}
use Rattle.tp_base.specs.declared.edges.PointId.{PointId}
use Rattle.tp_placing.specs.AddedEdges.{IsBehind}
use Rattle.tp_placing.specs.Loaded.{CanLoad, IsLoaded}
use Rattle.tp_placing.specs.LoadedNet.{point_count}
use Rattle.tp_placing.specs.declared.causes.EdgeCause.{EdgeCause}
use Rattle.tp_placing.specs.declared.parts.Held.{Held}
use Rattle.tp_placing.proofs.FollowFacts.{one-more}
use Rattle.tp_placing.proofs.FollowedPlans.{passed-behind}
use Rattle.tp_placing.proofs.JoinFacts.{legal-joined}

module _ (machine : Machine) (now : ℕ) (plans : List Plan) (p : Plan) (can : CanLoad machine now plans) (live : CanLoad machine now (filter (is_live machine now) (with_plan plans p))) (alive : is_live machine now p ≡ true) (fresh : p.released ≡ 0) where
  here : Contains (filter (is_live machine now) (with_plan plans p)) p
  here = subst (λ ps. Contains ps p) (sym (passed-behind (is_live machine now) plans p alive)) (last-there (filter (is_live machine now) plans)) where
    last-there : (ps : List Plan) → Contains (ps ++ p ∷ []) p
    last-there [] = Contains-here p []
    last-there (q ∷ ps) = Contains-later q (ps ++ p ∷ []) p (last-there ps)

  ahead : (i : ℕ) → i < length p.acts → now + machine.lead < point p i
  ahead i within = live.loadable.floors p here refl i (omega (arith, fresh)) within

  pub fresh-loads : AllPairs IsEarlier (with_plan plans p) → length (with_plan plans p) ≤ 256 → CanLoad machine now (with_plan plans p)
  fresh-loads in_order few = record {
    now_at_most = can.now_at_most;
    loadable = record {
      legal = legal-joined machine now plans p (record { now_at_most = can.now_at_most; legal = can.loadable.legal; floors = can.loadable.floors; horizon = can.horizon }) in_order ahead
          (subst (IsLegal machine) (passed-behind (is_live machine now) plans p alive) live.loadable.legal);
      floors = λ q in' free i le within. elim (Contains-append_cases plans (p ∷ []) q in') [
        | inl there ↦ can.loadable.floors q there free i le within
        | inr last ↦ subst (λ (r : Plan). i < length r.acts → now + machine.lead < point r i) (is-last q last) (ahead i) within
      ];
    };
    horizon = λ q in' i le free. elim (Contains-append_cases plans (p ∷ []) q in') [
      | inl there ↦ can.horizon q there i le free
      | inr last ↦ live.horizon q (subst (Contains (filter (is_live machine now) (with_plan plans p))) (is-last q last) here) i le free
    ];
    few = few;
  } where
    is-last : (q : Plan) → Contains (p ∷ []) q → p ≡ q
    is-last q in' = elim (Contains-cons_cases p [] q in') [
      | inl same ↦ same
      | inr none ↦ absurd (let w = none.1 in omega arith)
    ]

get-last : {X : Type 0} (old : List X) (x d : X) → get_or (old ++ x ∷ []) (length old) d ≡ x
get-last [] x d = refl
get-last (o ∷ old) x d = get-last old x d

module _ (machine : Machine) (now count : ℕ) (plans : List Plan) (p : Plan) (more : length plans ≡ count + 1) (at : p ≡ get_or plans count p) where
  -- the last of the plans stands behind the others
  pub are-behind : plans ≡ with_plan (take count plans) p
  are-behind =
      let l = length-take-le count plans (omega arith) in
      let x = one-more (take count plans) plans (ap (λ n. take n plans) l) (omega arith) in
      let same : p ≡ x.0 = at ∙ (λ i. get_or (x.1 i) (sym l i) p) ∙ get-last (take count plans) x.0 p in
      x.1 ∙ ap (λ q. take count plans ++ q ∷ []) (sym same)

  module _ (can : CanLoad machine now (take count plans)) (live : CanLoad machine now (filter (is_live machine now) plans)) (alive : is_live machine now p ≡ true) (fresh : p.released ≡ 0)
      (in_order : AllPairs IsEarlier plans) (few : length plans ≤ 256) where
    pub all-load : CanLoad machine now (with_plan (take count plans) p)
    all-load = fresh-loads machine now (take count plans) p can (subst (λ ps. CanLoad machine now (filter (is_live machine now) ps)) are-behind live) alive fresh (subst (AllPairs IsEarlier) are-behind in_order) (subst (λ ps. length ps ≤ 256) are-behind few)

    pub last-behind : (n : Net) (timelines : List (List ℕ)) (held : List Held) (firsts : List PointId) (last : ℕ) (causes : List EdgeCause) → IsLoaded machine now (take count plans) n timelines held firsts causes → last ≡ point_count (take count plans)
        → IsBehind machine now plans n timelines held firsts last causes
    last-behind n timelines held firsts last causes loaded at-last = record { plans = take count plans; newest = p; are = are-behind; can = all-load; loadable = can.loadable; loaded = loaded; last_point = at-last }
