-- What holds between two changes holds after each.
use Rattle.std.proofs.Common.{zero, suc, ◌≡◌, ℕ, ◌+◌, ◌<◌, ◌≤◌, List, [], ◌∷◌, ◌++◌, length, slice_index, take, Option, None, sym, refl, ap, ◌∙◌, subst, arith, inl, inr, cond, Bool}
use Rattle.std.proofs.lemmas.Bool.{cases_eq, cases_lt, eq-eqb, ne_eqb}
use Rattle.std.proofs.lemmas.Int.{ints}
use Rattle.std.proofs.lemmas.Option.{none-some}
use Rattle.std.proofs.lemmas.List.{length-map, length-append, map-append, get_or_append_left, get_or_at, take_at}
use Rattle.std.proofs.lemmas.List.Elements.{All-push, All-append, Contains-append_left}
use Rattle.std.specs.List.{All}
use Rattle.tp_base.specs.declared.edges.Edge.{Edge}
use Rattle.tp_base.specs.Net.{Net, Keeps, IsLeast, IsSolution, with_edges}
use Rattle.tp_base.specs.Grows.{IsKnown, IsSupported, AreWithin, cause_of}
use Rattle.tp_base.specs.Kept.{net_of}
use Rattle.tp_base.proofs.SliceFacts.{map_same, slice_get_left, All-at}
use Rattle.tp_base.proofs.LeastFacts.{point_least}
use Rattle.tp_base.proofs.GrowsFacts.{stamped}
use Rattle.tp_stn_undo.specs.declared.point_state.PointState.{PointState}
use Rattle.tp_stn_undo.specs.declared.link.Link.{Link}
use Rattle.tp_stn_undo.specs.States.{Core, IsSound, lows_of, times_of, edges_of, causes_of, numbered}
use Rattle.tp_stn_undo.specs.Propagation.{AreNumbered, AreKept}
use Rattle.tp_stn_undo.proofs.RaiseFacts.{times_len, lows_len, causes_len}
use Rattle.tp_stn_undo.proofs.FollowFacts.{Supported}

pub links_len : (links : List Link) → length (edges_of links) ≡ length links
links_len links = length-map links (λ (l : Link). l.edge)

pub edges_more : (links more : List Link) → edges_of (links ++ more) ≡ edges_of links ++ edges_of more
edges_more links more = map-append (λ (l : Link). l.edge) links more

-- ---- more edges
numbered_more : (edges more : List Edge) (n : ℕ) → n ≤ length edges → numbered (edges ++ more) n ≡ numbered edges n
numbered_more edges more zero h = refl
numbered_more edges more (suc k) h = slice_get_left edges more k (omega arith)

causes_more : (links more : List Link) (states : List PointState) → AreNumbered links states → causes_of (edges_of (links ++ more)) states ≡ causes_of (edges_of links) states
causes_more links more states n =
    map_same (λ (s : PointState). numbered (edges_of (links ++ more)) s.cause) (λ (s : PointState). numbered (edges_of links) s.cause) states (λ k s g.
    let h = All-at (λ (s : PointState). s.cause ≤ length links) states k s n g in
    let len = links_len links in
    ap (λ (es : List Edge). numbered es s.cause) (edges_more links more) ∙ numbered_more (edges_of links) (edges_of more) s.cause (omega arith))

pub supported_more : (links more : List Link) (states : List PointState) → AreNumbered links states → Supported links states states → Supported (links ++ more) states states
supported_more links more states n s =
    subst (λ (cs : List (Option Edge)). IsSupported (lows_of states) (edges_of (links ++ more)) (slice_index (times_of states)) (cause_of cs)) (sym (causes_more links more states n))
    (subst (λ (es : List Edge). IsSupported (lows_of states) es (slice_index (times_of states)) (cause_of (causes_of (edges_of links) states))) (sym (edges_more links more))
    (record {
      stamp = s.stamp;
      next = s.next;
      early = s.early;
      root = s.root;
      caused = λ v e h some. (let c = s.caused v e h some in record { in_list = Contains-append_left (edges_of links) (edges_of more) e c.in_list; to = c.to; from = c.from; at_most = c.at_most; tie = c.tie });
    }))

pub numbered_longer : (links more : List Link) (states : List PointState) → AreNumbered links states → AreNumbered (links ++ more) states
numbered_longer links more states n k d h = let a = n k d h in let len = length-append links more in omega arith

pub known_more : (links more : List Link) (count : ℕ) → All (IsKnown count) (edges_of links) → All (IsKnown count) (edges_of more) → All (IsKnown count) (edges_of (links ++ more))
known_more links more count all k = subst (All (IsKnown count)) (sym (edges_more links more)) (All-append (IsKnown count) (edges_of links) (edges_of more) all k)

pub within_of : (c : Core) → IsSound c → AreWithin c.caps (times_of c.states)
within_of c s i h = s.least.solution.below_cap i (let a = times_len c.states in let b = lows_len c.states in omega arith)

pub kept_of : (edges : List Edge) (t : ℕ → ℕ) (flags : List Bool) → All (Keeps t) edges → AreKept edges t flags
kept_of edges t flags all k e g f = All-at (Keeps t) edges k e all g

pub kept_before : (links : List Link) (l : Link) (t : ℕ → ℕ) (flags : List Bool) → All (Keeps t) (edges_of links) → AreKept (take (length links) (edges_of (links ++ l ∷ []))) t flags
kept_before links l t flags all =
    subst (λ (es : List Edge). AreKept es t flags) (sym (ap (take (length links)) (edges_more links (l ∷ [])) ∙ take_at (edges_of links) (l.edge ∷ []) (length links) (links_len links))) (kept_of (edges_of links) t flags all)

-- a solution with more edges is one without them
pub solution_less : (net : Net) (more : List Edge) (y : ℕ → ℕ) → IsSolution (with_edges net more) y → IsSolution net y
solution_less net more y s = record {
  above_low = s.above_low;
  below_cap = s.below_cap;
  keeps = λ k d h. (
      let l = length-append net.edges more in
      subst (Keeps y) (get_or_append_left net.edges more d k h) (s.keeps k d (omega arith)));
}

-- ---- after a change
pub sound_risen : (caps : List ℕ) (links : List Link) (states states' : List PointState) (start : ℕ → ℕ) → length caps ≡ length states → length states' ≡ length states → All (IsKnown (length states)) (edges_of links) → AreNumbered links states'
    → Supported links states' states' → AreWithin caps (times_of states') → All (Keeps (slice_index (times_of states'))) (edges_of links)
    → ((i : ℕ) → i < length states → slice_index (lows_of states') i ≤ slice_index (times_of states') i)
    → ((y : ℕ → ℕ) → IsSolution (net_of (lows_of states') caps (edges_of links)) y → (i : ℕ) → i < length states → slice_index (times_of states') i ≤ y i)
    → IsSound (record { states = states'; caps = caps; links = links })
sound_risen caps links states states' start nc n known numbered sup within keeps above below =
    let nl = lows_len states' in
    let nt = times_len states' in
    record {
      caps = omega arith;
      known = rw n known;
      numbered = numbered;
      supported = sup;
      least = record {
        solution = record {
          above_low = λ i h. above i (omega arith);
          below_cap = λ i h. within i (omega arith);
          keeps = keeps;
        };
        least = λ y sol i h. below y sol i (omega arith);
      };
    }

-- ---- one more point
module _ (states : List PointState) (caps : List ℕ) (links : List Link) (low cap : ℕ) (s : IsSound (record { states = states; caps = caps; links = links })) (fits : low ≤ cap) where
  abbrev state : PointState
  state = record { low = low; time = low; cause = 0 }

  abbrev states' : List PointState
  states' = states ++ state ∷ []

  times_push : times_of states' ≡ times_of states ++ low ∷ []
  times_push = map-append (λ (s : PointState). s.time) states (state ∷ [])

  lows_push : lows_of states' ≡ lows_of states ++ low ∷ []
  lows_push = map-append (λ (s : PointState). s.low) states (state ∷ [])

  causes_push : causes_of (edges_of links) states' ≡ causes_of (edges_of links) states ++ None ∷ []
  causes_push = map-append (λ (s : PointState). numbered (edges_of links) s.cause) states (state ∷ [])

  supported_push : (lows times : List ℕ) (causes : List (Option Edge)) → length times ≡ length lows → length causes ≡ length lows → IsSupported lows (edges_of links) (slice_index times) (cause_of causes)
      → IsSupported (lows ++ low ∷ []) (edges_of links) (slice_index (times ++ low ∷ [])) (cause_of (causes ++ None ∷ []))
  supported_push lows times causes nt nc s =
      let l = length-append lows (low ∷ []) in
      record {
        stamp = stamped s.stamp (length lows) 0;
        next = s.next + 1;
        early = λ v h. elim (cases_eq v (length lows)) [
          | inl e ↦ (let a = ap (λ b. cond b 0 (s.stamp v)) (eq-eqb v (length lows) e) in omega arith)
          | inr e ↦ (let a = ap (λ b. cond b 0 (s.stamp v)) (ne_eqb v (length lows) e) in let b = s.early v (omega arith) in omega arith)
        ];
        root = λ v h none. elim (cases_lt v (length lows)) [
          | inl p ↦ get_or_append_left times (low ∷ []) 0 v (omega arith) ∙ s.root v p (sym (get_or_append_left causes (None ∷ []) None v (omega arith)) ∙ none) ∙ sym (get_or_append_left lows (low ∷ []) 0 v p)
          | inr p ↦ get_or_at times low [] 0 v (omega arith) ∙ sym (get_or_at lows low [] 0 v (omega arith))
        ];
        caused = λ v d h some. elim (cases_lt v (length lows)) [
          | inl p ↦ (
              let c = s.caused v d p (sym (get_or_append_left causes (None ∷ []) None v (omega arith)) ∙ some) in
              let f = c.from in
              let a = get_or_append_left times (low ∷ []) 0 v (omega arith) in
              let b = get_or_append_left times (low ∷ []) 0 d.from.0 (omega arith) in
              let le = c.at_most in
              let x = ap (λ b. cond b 0 (s.stamp v)) (ne_eqb v (length lows) (λ e. omega arith)) in
              let y = ap (λ b. cond b 0 (s.stamp d.from.0)) (ne_eqb d.from.0 (length lows) (λ e. omega arith)) in
              record { in_list = c.in_list; to = c.to; from = omega arith; at_most = omega (arith, ints); tie = λ e. (let t = c.tie (omega (arith, ints)) in omega arith) })
          | inr p ↦ absurd (none-some d (sym (get_or_at causes None [] None v (omega arith)) ∙ some))
        ];
      }

  pub least_pushed : IsLeast (net_of (lows_of states') (caps ++ cap ∷ []) (edges_of links)) (slice_index (times_of states'))
  least_pushed =
      let nl = lows_len states in
      let nt = times_len states in
      let nc = s.caps in
      subst (λ (ls : List ℕ). IsLeast (net_of ls (caps ++ cap ∷ []) (edges_of links)) (slice_index (times_of states'))) (sym lows_push)
      (subst (λ (ts : List ℕ). IsLeast (net_of (lows_of states ++ low ∷ []) (caps ++ cap ∷ []) (edges_of links)) (slice_index ts)) (sym times_push)
      (point_least (lows_of states) caps (times_of states) (edges_of links) low cap (omega arith) (omega arith) fits (rw nl s.known) s.least))

  pub sound_pushed : IsSound (record { states = states'; caps = caps ++ cap ∷ []; links = links })
  sound_pushed =
      let nl = lows_len states in
      let nt = times_len states in
      let ncs = causes_len links states in
      let nc = s.caps in
      let l = length-append states (state ∷ []) in
      let lc = length-append caps (cap ∷ []) in
      record {
        caps = omega arith;
        known = λ k d h. (let a = s.known k d h in let f = a.from in let t = a.to in record { from = omega arith; to = omega arith; least = a.least; most = a.most });
        numbered = All-push (λ (s : PointState). s.cause ≤ length links) states state s.numbered (omega arith);
        supported =
            subst (λ (ls : List ℕ). IsSupported ls (edges_of links) (slice_index (times_of states')) (cause_of (causes_of (edges_of links) states'))) (sym lows_push)
            (subst (λ (ts : List ℕ). IsSupported (lows_of states ++ low ∷ []) (edges_of links) (slice_index ts) (cause_of (causes_of (edges_of links) states'))) (sym times_push)
            (subst (λ (cs : List (Option Edge)). IsSupported (lows_of states ++ low ∷ []) (edges_of links) (slice_index (times_of states ++ low ∷ [])) (cause_of cs)) (sym causes_push)
            (supported_push (lows_of states) (times_of states) (causes_of (edges_of links) states) (omega arith) (omega arith) s.supported)));
        least = least_pushed;
      }
