-- A network after a change.
use Rattle.std.proofs.Common.{◌≡◌, ℕ, ◌+◌, ◌*◌, ◌<◌, ◌≤◌, List, [], ◌∷◌, ◌++◌, length, sym, refl, ap, ◌∙◌, subst, arith, vec_capacity}
use Rattle.std.proofs.lemmas.List.{length-append}
use Rattle.std.specs.List.{All}
use Rattle.tp_base.specs.declared.edges.Edge.{Edge}
use Rattle.tp_stn_undo.specs.declared.point_state.PointState.{PointState}
use Rattle.tp_stn_undo.specs.declared.link.Link.{Link}
use Rattle.tp_stn_undo.specs.declared.point_state.SavedState.{SavedState}
use Rattle.tp_stn_undo.specs.declared.live_net.LiveNet.TheInside.{Inside}
use Rattle.tp_stn_undo.specs.States.{IsSound}
use Rattle.tp_stn_undo.specs.Saved.{restored}
use Rattle.tp_stn_undo.specs.Flags.{AreKnown}
use Rattle.tp_stn_undo.specs.Marks.{past_of, AreLinks, AreSaved}
use Rattle.tp_stn_undo.specs.Stacks.{IsStack}
use Rattle.tp_stn_undo.specs.WorkingRoom.{AtRest}
use Rattle.tp_stn_undo.specs.Live.{past_in, IsLive}
use Rattle.tp_stn_undo.specs.AddedEdges.{Adds, new_state}
use Rattle.tp_stn_undo.proofs.StackFacts.{stacked_grown}
use Rattle.tp_stn_undo.proofs.KeepFacts.{saved_pointed}
use Rattle.tp_stn_undo.proofs.PastFacts.{past_edge, past_point}
use Rattle.tp_stn_undo.proofs.LinkedFacts.{links_pointed}
use Rattle.tp_stn_undo.proofs.SoundFacts.{sound_pushed}
use Rattle.tp_stn_undo.proofs.UndoFacts.{same_past}
use Rattle.tp_stn_undo.proofs.ChangeFacts.{stack_of}

-- b has the lists S, C, L and H, and the room and the marks of a
pub record IsChanged (a b : Inside) (S : List PointState) (C : List ℕ) (L : List Link) (H : List ℕ) : Type 0 where
  pub states : b.states.items ≡ S
  pub caps : b.caps.items ≡ C
  pub links : b.links.items ≡ L
  pub heads : b.heads.items ≡ H
  pub marks : b.marks.items ≡ a.marks.items
  pub points_same : b.max_points ≡ a.max_points
  pub edges_same : b.max_edges ≡ a.max_edges
  pub marks_same : b.max_marks ≡ a.max_marks
  pub states_capacity : vec_capacity b.states ≡ vec_capacity a.states
  pub caps_capacity : vec_capacity b.caps ≡ vec_capacity a.caps
  pub links_capacity : vec_capacity b.links ≡ vec_capacity a.links
  pub heads_capacity : vec_capacity b.heads ≡ vec_capacity a.heads
  pub marks_capacity : vec_capacity b.marks ≡ vec_capacity a.marks
  pub waits : length b.working.waiting.flags ≡ length a.working.waiting.flags
  pub noted : b.working.changes.capacity ≡ a.working.changes.capacity
  pub most : b.working.changes.most ≡ a.working.changes.most
  pub path : vec_capacity a.working.path ≤ vec_capacity b.working.path
  pub places : vec_capacity a.working.places ≤ vec_capacity b.working.places
  pub rest : AtRest b.working

-- the lists hold together, and what stands at the marks is what stood there
pub record HoldsTogether (a : Inside) (S : List PointState) (C : List ℕ) (L : List Link) (H : List ℕ) (V : List SavedState) : Type 0 where
  pub points : length S ≤ a.max_points
  pub edges : length L ≤ a.max_edges
  pub stack : IsStack a.marks.items V (length S) (length L) a.working.changes.capacity
  pub past : past_of a.marks.items V S C L ≡ past_in a
  pub linked : AreLinks L H (length S)
  pub sound : IsSound (record { states = S; caps = C; links = L })

module _ (a : Inside) (inv : IsLive a) where
  pub as_it_was : HoldsTogether a a.states.items a.caps.items a.links.items a.heads.items a.working.changes.older
  as_it_was = record { points = inv.points; edges = inv.edges; stack = stack_of a inv (length a.links.items) (omega arith); past = refl; linked = inv.linked; sound = inv.sound }

  pub point_pushed : (low cap : ℕ) → length a.states.items < a.max_points → low ≤ cap
      → HoldsTogether a (a.states.items ++ new_state low ∷ []) (a.caps.items ++ cap ∷ []) a.links.items (a.heads.items ++ 0 ∷ []) a.working.changes.older
  point_pushed low cap capacity fits =
      let states = a.states.items in
      let marks = a.marks.items in
      let s = new_state low in
      let n : length (states ++ s ∷ []) ≡ length states + 1 = length-append states (s ∷ []) in
      record {
        points = omega arith;
        edges = inv.edges;
        stack = record {
          stacked = stacked_grown marks _ _ _ _ _ _ _ (omega arith) (omega arith) (omega arith) inv.stacked;
          kept = subst (AreSaved marks a.working.changes.older) (sym n) (saved_pointed marks a.working.changes.older (length states) inv.kept);
          filled = inv.saved;
        };
        past = past_point marks a.working.changes.older states a.caps.items a.links.items a.working.changes.capacity inv.stacked s cap inv.sound.caps;
        linked = subst (AreLinks a.links.items (a.heads.items ++ 0 ∷ [])) (sym n) (links_pointed a.links.items a.heads.items (length states) inv.sound.known inv.linked);
        sound = sound_pushed states a.caps.items a.links.items low cap inv.sound fits;
      }

  module _ (b : Inside) (S : List PointState) (C : List ℕ) (L : List Link) (H : List ℕ) (c : IsChanged a b S C L H) (h : HoldsTogether a S C L H b.working.changes.older) where
    pub changed_past : past_in b ≡ past_in a
    changed_past = same_past _ _ _ _ _ _ _ _ _ _ c.marks refl c.states c.caps c.links ∙ h.past

    pub changed_live : IsLive b
    changed_live =
        let em = c.marks in
        let nm = ap length em in
        let ep = c.points_same in
        let ee = c.edges_same in
        let mp = c.marks_same in
        let ns = ap length c.states in
        let nl = ap length c.links in
        let s = h.stack in
        let filled = s.filled in
        let w2 = c.noted in
        let products : length b.marks.items * b.working.changes.capacity ≡ length a.marks.items * a.working.changes.capacity = ap (λ i. i * b.working.changes.capacity) nm ∙ ap (λ i. length a.marks.items * i) w2 in
        let more : (b.max_marks + 1) * b.working.changes.capacity ≡ (a.max_marks + 1) * a.working.changes.capacity = ap (λ i. (i + 1) * b.working.changes.capacity) mp ∙ ap (λ i. (a.max_marks + 1) * i) w2 in
        let h1 = h.points in
        let h2 = h.edges in
        let i3 = inv.marks in
        let r = inv.capacity in
        let r1 = c.states_capacity in
        let r2 = c.caps_capacity in
        let r3 = c.links_capacity in
        let r4 = c.most in
        let r5 = c.marks_capacity in
        let r7 = c.heads_capacity in
        let s1 = r.states in
        let s2 = r.caps in
        let s3 = r.links in
        let s4 = r.saved in
        let s5 = r.marks in
        let s7 = r.heads in
        let s9 = r.narrow in
        let w1 = c.waits in
        let w3 = c.path in
        let w4 = c.places in
        let v1 = r.working.waits in
        let v2 = r.working.noted in
        let v3 = r.working.path in
        let v4 = r.working.places in
        record {
          points = omega arith;
          edges = omega arith;
          marks = omega arith;
          saved = omega arith;
          capacity = record {
            states = omega arith;
            caps = omega arith;
            links = omega arith;
            heads = omega arith;
            working = record { waits = omega arith; noted = omega arith; path = omega arith; places = omega arith };
            saved = omega arith;
            marks = omega arith;
            narrow = omega arith;
          };
          rest = c.rest;
          stacked = rw (em, c.states, c.links, w2) s.stacked;
          kept = rw (em, c.states) s.kept;
          linked = rw (c.links, c.heads, c.states) h.linked;
          sound = rw (c.states, c.caps, c.links) h.sound;
          past = subst (All IsSound) (sym changed_past) inv.past;
        }

  -- edges were added after points S with upper bounds C, and what was noted is saved
  module _ (S S' : List PointState) (C : List ℕ) (L : List Link) (H : List ℕ) (edges : List Edge) (noted : List SavedState) (V : List SavedState) (h : HoldsTogether a S C a.links.items H a.working.changes.older)
      (added : Adds edges C a.links.items L S S' noted) (capacity : length L ≤ a.max_edges) (H' : List ℕ) (linked : AreLinks L H' (length S))
      (stack : (count edges : ℕ) → AreKnown count noted → IsStack a.marks.items a.working.changes.older count edges a.working.changes.capacity → IsStack a.marks.items V count edges a.working.changes.capacity)
      (past : (states : List PointState) (caps : List ℕ) (links : List Link) (edges : ℕ) → IsStack a.marks.items a.working.changes.older (length states) edges a.working.changes.capacity
      → past_of a.marks.items V states caps links ≡ past_of a.marks.items a.working.changes.older (restored noted states) caps links) where
    base : IsStack a.marks.items a.working.changes.older (length S') (length L) a.working.changes.capacity
    base =
        let s = h.stack in
        let n = added.len in
        let e = ap length added.linked.after in
        let m = length-append a.links.items added.linked.more in
        rw n (record { stacked = stacked_grown a.marks.items _ _ _ _ _ _ _ (omega arith) (omega arith) (omega arith) s.stacked; kept = s.kept; filled = s.filled })

    noted_known : AreKnown (length S') noted
    noted_known = rw added.len added.known

    pub added_holds : HoldsTogether a S' C L H' V
    added_holds =
        let n = added.len in
        let p = h.points in
        record {
          points = omega arith;
          edges = capacity;
          stack = stack (length S') (length L) noted_known base;
          past =
              past S' C L (length L) base
              ∙ ap (λ (ss : List PointState). past_of a.marks.items a.working.changes.older ss C L) added.back
              ∙ ap (past_of a.marks.items a.working.changes.older S C) added.linked.after
              ∙ past_edge a.marks.items a.working.changes.older S C a.links.items a.working.changes.capacity h.stack.stacked added.linked.more
              ∙ h.past;
          linked = rw n linked;
          sound = added.sound;
        }
