-- A network that went back to its newest mark.
use Rattle.std.proofs.Common.{◌≡◌, ℕ, ◌+◌, ◌*◌, List, [], length, take, drop, Some, sym, ap, ◌∙◌, subst, arith, vec_capacity}
use Rattle.std.specs.List.{All, slice_get}
use Rattle.std.specs.Option.{option_map}
use Rattle.std.proofs.lemmas.List.{length-take-le}
use Rattle.std.proofs.lemmas.List.Elements.{All-take}
use Rattle.std.proofs.lemmas.Option.{slice_get-map}
use Rattle.tp_stn_undo.specs.declared.live_net.LiveNet.TheInside.{Inside}
use Rattle.tp_stn_undo.specs.declared.marks.LiveMark.{LiveMark}
use Rattle.tp_stn_undo.specs.Saved.{restored, relinked}
use Rattle.tp_stn_undo.specs.States.{Core, IsSound}
use Rattle.tp_stn_undo.specs.Marks.{core_at, IsAt, AreStacked}
use Rattle.tp_stn_undo.specs.Live.{core_in, past_in, IsLive}
use Rattle.tp_stn_undo.specs.Flags.{Waits as Waiting, AreIdle}
use Rattle.tp_stn_undo.specs.CauseTraces.{AreZeros}
use Rattle.tp_base.specs.declared.edges.Edge.{Edge}
use Rattle.std.specs.Prelude.{Vec}
use Rattle.std.specs.declared.alloc.Global.{Global}
use Rattle.tp_stn_undo.proofs.StackFacts.{stacked_undone}
use Rattle.tp_stn_undo.proofs.KeepFacts.{saved_undone, same_saved}
use Rattle.tp_stn_undo.proofs.PastFacts.{past_undone}
use Rattle.tp_stn_undo.proofs.LinkedFacts.{links_undone, same_links}
use Rattle.tp_stn_undo.proofs.UndoFacts.{Undone, undone, same_past}

-- the lists of a went back to the mark with the number, and are those of b
pub record WentBack (a b : Inside) (k : ℕ) : Type 0 where
  pub last : k + 1 ≡ length a.marks.items
  pub points_same : b.max_points ≡ a.max_points
  pub edges_same : b.max_edges ≡ a.max_edges
  pub marks_same : b.max_marks ≡ a.max_marks
  pub waiting_same : b.working.waiting ≡ a.working.waiting
  pub path_same : b.working.path ≡ a.working.path
  pub places_same : b.working.places ≡ a.working.places
  pub noted : b.working.changes.capacity ≡ a.working.changes.capacity
  pub most : b.working.changes.most ≡ a.working.changes.most
  pub unchanged : b.working.changes.entries ≡ []
  pub states : IsAt a.marks.items k (λ m. b.states.items ≡ restored (drop m.saved a.working.changes.older) (take m.points a.states.items))
  pub caps : IsAt a.marks.items k (λ m. b.caps.items ≡ take m.points a.caps.items)
  pub links : IsAt a.marks.items k (λ m. b.links.items ≡ take m.edges a.links.items)
  pub heads : IsAt a.marks.items k (λ m. b.heads.items ≡ relinked (drop m.edges a.links.items) (take m.points a.heads.items))
  pub saved : IsAt a.marks.items k (λ m. b.working.changes.older ≡ take m.saved a.working.changes.older)
  pub marks : b.marks.items ≡ take k a.marks.items
  pub states_capacity : vec_capacity b.states ≡ vec_capacity a.states
  pub caps_capacity : vec_capacity b.caps ≡ vec_capacity a.caps
  pub links_capacity : vec_capacity b.links ≡ vec_capacity a.links
  pub heads_capacity : vec_capacity b.heads ≡ vec_capacity a.heads
  pub marks_capacity : vec_capacity b.marks ≡ vec_capacity a.marks

same_stacked : (ms ms' : List LiveMark) (p p' e e' s s' r r' : ℕ) → ms' ≡ ms → p' ≡ p → e' ≡ e → s' ≡ s → r' ≡ r → AreStacked ms p e s r → AreStacked ms' p' e' s' r'
same_stacked ms ms' p p' e e' s s' r r' em ep ee es er st =
    subst (λ (x : List LiveMark). AreStacked x p' e' s' r') (sym em)
    (subst (λ (x : ℕ). AreStacked ms x e' s' r') (sym ep)
    (subst (λ (x : ℕ). AreStacked ms p x s' r') (sym ee)
    (subst (λ (x : ℕ). AreStacked ms p e x r') (sym es) (subst (λ (x : ℕ). AreStacked ms p e s x) (sym er) st))))

module _ (a b : Inside) (k : ℕ) (inv : IsLive a) (w : WentBack a b k) where
  gone : Undone a.marks.items a.working.changes.older a.states.items a.caps.items a.links.items k b.states.items b.caps.items b.links.items b.working.changes.older
  gone =
      let l = w.last in
      undone a.marks.items a.working.changes.older a.states.items a.caps.items a.links.items a.working.changes.capacity k _ _ _ _ (omega arith) w.states w.caps w.links w.saved inv.stacked inv.past

  pub back_past : past_in b ≡ take k (past_in a)
  back_past =
      let u = gone in
      let m = u.mark in
      same_past _ _ _ _ _ _ _ _ _ _ w.marks (w.saved m u.at) (w.states m u.at) (w.caps m u.at) (w.links m u.at)
      ∙ past_undone a.marks.items a.working.changes.older a.states.items a.caps.items a.links.items a.working.changes.capacity inv.stacked k m u.at

  pub back_content : slice_get (past_in a) k ≡ Some (core_in b)
  back_content =
      let u = gone in
      let f = core_at a.working.changes.older a.states.items a.caps.items a.links.items in
      slice_get-map f a.marks.items k ∙ ap (option_map f) u.at ∙ ap (λ (n : Core). Some n) (sym u.core)

  pub back_live : IsLive b
  back_live =
      let u = gone in
      let m = u.mark in
      let em = w.marks in
      let last = w.last in
      let nm = ap length em ∙ length-take-le k a.marks.items (omega arith) in
      let pp = w.points_same in
      let ep = w.edges_same in
      let mp = w.marks_same in
      let w2 = w.noted in
      let filled : length b.marks.items * b.working.changes.capacity ≡ k * a.working.changes.capacity = ap (λ i. i * b.working.changes.capacity) nm ∙ ap (λ i. k * i) w2 in
      let all : b.max_marks * b.working.changes.capacity ≡ a.max_marks * a.working.changes.capacity = ap (λ i. i * b.working.changes.capacity) mp ∙ ap (λ i. a.max_marks * i) w2 in
      let more : (b.max_marks + 1) * b.working.changes.capacity ≡ (a.max_marks + 1) * a.working.changes.capacity = ap (λ i. (i + 1) * b.working.changes.capacity) mp ∙ ap (λ i. (a.max_marks + 1) * i) w2 in
      let w1 = ap (λ (x : Waiting). length x.flags) w.waiting_same in
      let w3 = ap (λ (x : Vec Edge Global). vec_capacity x) w.path_same in
      let w4 = ap (λ (x : Vec ℕ Global). vec_capacity x) w.places_same in
      let v1 = inv.capacity.working.waits in
      let v2 = inv.capacity.working.noted in
      let v3 = inv.capacity.working.path in
      let v4 = inv.capacity.working.places in
      let in_capacity = inv.stacked.in_capacity k m u.at in
      let l1 = u.points_len in
      let l2 = u.edges_len in
      let l3 = u.saved_len in
      let q1 = u.points_in in
      let q2 = u.edges_in in
      let i1 = inv.points in
      let i2 = inv.edges in
      let i3 = inv.marks in
      let r = inv.capacity in
      let r1 = w.states_capacity in
      let r2 = w.caps_capacity in
      let r3 = w.links_capacity in
      let r4 = w.most in
      let r5 = w.marks_capacity in
      let r7 = w.heads_capacity in
      let s1 = r.states in
      let s2 = r.caps in
      let s3 = r.links in
      let s4 = r.saved in
      let s5 = r.marks in
      let s7 = r.heads in
      let s9 = r.narrow in
      record {
        points = omega arith;
        edges = omega arith;
        marks = omega arith;
        saved = omega arith;
        capacity = record {
          states = omega arith;
          caps = omega arith;
          links = omega arith;
          heads = omega arith;
          working = record { waits = omega arith; noted = omega arith; path = omega arith; places = omega arith };
          saved = omega arith;
          marks = omega arith;
          narrow = omega arith;
        };
        rest = record { idle = subst (λ (x : Waiting). AreIdle x.flags) (sym w.waiting_same) inv.rest.idle; none = ap (λ (x : Waiting). x.points) w.waiting_same ∙ inv.rest.none; unchanged = w.unchanged; zeros = subst (λ (x : Vec ℕ Global). AreZeros x.items) (sym w.places_same) inv.rest.zeros };
        stacked = same_stacked _ _ _ _ _ _ _ _ _ _ em l1 l2 l3 w2 (stacked_undone a.marks.items (length a.states.items) (length a.links.items) (length a.working.changes.older) a.working.changes.capacity k m u.at inv.stacked);
        kept = same_saved _ _ _ _ _ _ em (w.saved m u.at) l1 (saved_undone a.marks.items a.working.changes.older (length a.states.items) k m u.at inv.kept);
        linked = same_links _ _ _ _ _ _ (w.links m u.at) (w.heads m u.at) l1 (links_undone a.links.items a.heads.items (length a.states.items) m.edges m.points q2 q1 inv.linked);
        sound = u.sound;
        past = subst (All IsSound) (sym back_past) (All-take IsSound k _ inv.past);
      }
