-- Lines of nodes: what is read is spelled so, and what is spelled so is read.
use Rattle.std.proofs.Common.{◌≡◌, inl, inr, ℕ, Bool, true, false, cond, ltb, List, [], ◌∷◌, ◌++◌, length, map, Option, Some, None, refl, sym, ap, subst, ◌∙◌, arith, decimal}
use Rattle.std.specs.Prelude.{codes, option_and_then}
use Rattle.std.specs.Str.{bytes_eq}
use Rattle.std.proofs.lemmas.Bool.{cases_Bool, ltb-true, lt-ltb}
use Rattle.std.proofs.lemmas.List.{length-map}
use Rattle.std.proofs.lemmas.Option.{same_Some}
use Rattle.std.proofs.lemmas.Slice.Eq.{bytes_eq-Decides}
use Rattle.tp_bounds.specs.declared.tree.Close.{Close}
use Rattle.tp_bounds.specs.declared.tree.Close.TheVariants.{Split, Dead, Chain, Loop}
use Rattle.tp_bounds.specs.declared.tree.Head.{Head}
use Rattle.tp_bounds.specs.declared.tree.Head.TheVariants.{Goal, Act, At, Stop}
use Rattle.tp_bounds.specs.declared.tree.Node.{Node}
use Rattle.tp_words.specs.Fields.{name_of}
use Rattle.tp_words.specs.Numbers.{IsNumber, number_of}
use Rattle.tp_words.proofs.Lists.{list_takes, list_again}
use Rattle.tp_words.proofs.SpelledWords.{Tells, name_spells, number_spells}
use Rattle.tp_words.proofs.Steps.{and_then_some}
use Rattle.tp_bounds.specs.Lines.{IsClose, IsHead, IsNode, act_node_of, at_node_of, bare_of, chain_of, close_of, close_words, closed_by, goal_node_of, head_words, hops_of, loop_of, loop_with, node_from, node_of, node_words}
use Rattle.tp_bounds.specs.Words.{hop_text, point_of, point_text, state_of}
use Rattle.tp_bounds.proofs.WordFacts.{hop_spells, point_spells, state_spells}

pub is_text : (word text : List ℕ) → bytes_eq word text ≡ true → word ≡ text
is_text word text h = (bytes_eq-Decides word text).0 h

pub same_two : (a b a' b' : List ℕ) (ws ws' : List (List ℕ)) → a ≡ a' → b ≡ b' → ws ≡ ws' → a ∷ b ∷ ws ≡ a' ∷ b' ∷ ws'
same_two a b a' b' ws ws' h i j = cc

-- ---- closes
bare_takes : (close : Close) (head : List ℕ) → close_words close ≡ head ∷ [] → IsClose close → (words : List (List ℕ)) (c : Close) → bare_of close words ≡ Some c → Tells close_words IsClose (head ∷ words) c
unfolding bare_of
bare_takes close head same is [] c e = subst (λ c. Tells close_words IsClose (head ∷ []) c) (same_Some close c e) (sym same, is)
bare_takes close head same is (w ∷ ws) c e = absurd cc

chain_takes : (words : List (List ℕ)) (c : Close) → chain_of words ≡ Some c → Tells close_words IsClose (codes "chain" ∷ words) c
unfolding chain_of
chain_takes [] c e = absurd cc
chain_takes (point ∷ words) c e =
    let p = and_then_some (point_of point) (λ first. option_and_then (λ hops. Some (Chain first hops)) (hops_of words)) c e in
    let h = and_then_some (hops_of words) (λ hops. Some (Chain p.0 hops)) c p.2 in
    let a = point_spells.takes point p.0 p.1 in
    let l = list_takes hop_spells words h.0 h.1 in
    subst (λ c. Tells close_words IsClose (codes "chain" ∷ point ∷ words) c) (same_Some (Chain p.0 h.0) c h.2)
    (same_two (codes "chain") point (codes "chain") (point_text p.0) words (map hop_text h.0) refl a.0 l.0, (a.1, l.1))

loop_takes : (words : List (List ℕ)) (c : Close) → loop_of words ≡ Some c → Tells close_words IsClose (codes "loop" ∷ words) c
unfolding loop_of loop_with
loop_takes [] c e = absurd cc
loop_takes (point ∷ words) c e =
    let g = cond_some_of (ltb 0 (length words)) (option_and_then (λ first. option_and_then (λ hops. Some (Loop first hops)) (hops_of words)) (point_of point)) c e in
    let p = and_then_some (point_of point) (λ first. option_and_then (λ hops. Some (Loop first hops)) (hops_of words)) c g.1 in
    let h = and_then_some (hops_of words) (λ hops. Some (Loop p.0 hops)) c p.2 in
    let a = point_spells.takes point p.0 p.1 in
    let l = list_takes hop_spells words h.0 h.1 in
    let many : length words ≡ length h.0 = ap length l.0 ∙ length-map h.0 hop_text in
    let some = ltb-true 0 (length words) g.0 in
    subst (λ c. Tells close_words IsClose (codes "loop" ∷ point ∷ words) c) (same_Some (Loop p.0 h.0) c h.2)
    (same_two (codes "loop") point (codes "loop") (point_text p.0) words (map hop_text h.0) refl a.0 l.0, (a.1, (l.1, omega (arith, many, some))))
  where
    cond_some_of : (b : Bool) (o : Option Close) (y : Close) → cond b o None ≡ Some y → (b ≡ true) × (o ≡ Some y)
    cond_some_of true o y e = (refl, e)
    cond_some_of false o y e = absurd cc

-- the first word is this text
pub led : {X : Type 0} (words_of : X → List (List ℕ)) (Is : X → Type 0) (word text : List ℕ) (words : List (List ℕ)) (x : X) → bytes_eq word text ≡ true → Tells words_of Is (text ∷ words) x → Tells words_of Is (word ∷ words) x
led words_of Is word text words x h t = subst (λ w. Tells words_of Is (w ∷ words) x) (sym (is_text word text h)) t

close_takes : (words : List (List ℕ)) (c : Close) → close_of words ≡ Some c → Tells close_words IsClose words c
unfolding close_of
close_takes [] c e = absurd cc
close_takes (word ∷ words) c e =
    elim (cases_Bool (bytes_eq word (codes "split"))) [
      | inl h ↦ (let k : bare_of Split words ≡ Some c = rw h at e in led close_words IsClose word (codes "split") words c h (bare_takes Split (codes "split") refl tt words c k))
      | inr h ↦
          let e1 : cond (bytes_eq word (codes "dead")) (bare_of Dead words) (cond (bytes_eq word (codes "chain")) (chain_of words) (cond (bytes_eq word (codes "loop")) (loop_of words) None)) ≡ Some c = rw h at e in
          elim (cases_Bool (bytes_eq word (codes "dead"))) [
            | inl i ↦ (let k : bare_of Dead words ≡ Some c = rw i at e1 in led close_words IsClose word (codes "dead") words c i (bare_takes Dead (codes "dead") refl tt words c k))
            | inr i ↦
                let e2 : cond (bytes_eq word (codes "chain")) (chain_of words) (cond (bytes_eq word (codes "loop")) (loop_of words) None) ≡ Some c = rw i at e1 in
                elim (cases_Bool (bytes_eq word (codes "chain"))) [
                  | inl j ↦ (let k : chain_of words ≡ Some c = rw j at e2 in led close_words IsClose word (codes "chain") words c j (chain_takes words c k))
                  | inr j ↦
                      let e3 : cond (bytes_eq word (codes "loop")) (loop_of words) None ≡ Some c = rw j at e2 in
                      elim (cases_Bool (bytes_eq word (codes "loop"))) [
                        | inl l ↦ (let k : loop_of words ≡ Some c = rw l at e3 in led close_words IsClose word (codes "loop") words c l (loop_takes words c k))
                        | inr l ↦ (let k : None ≡ Some c = rw l at e3 in absurd cc)
                      ]
                ]
          ]
    ]

close_again : (c : Close) → IsClose c → close_of (close_words c) ≡ Some c
unfolding close_of bare_of chain_of loop_of loop_with
close_again Split h = refl
close_again Dead h = refl
close_again (Chain first hops) h = rw (point_spells.again first h.0, list_again hop_spells hops h.1) refl
close_again (Loop first hops) h = rw (length-map hops hop_text, lt-ltb 0 (length hops) h.1.1, point_spells.again first h.0, list_again hop_spells hops h.1.0) refl

-- ---- nodes
record NodeTold (depth : ℕ) (words : List (List ℕ)) (n : Node) : Type 0 where
  deep : n.depth ≡ depth
  text : words ≡ head_words n.head ++ close_words n.close
  head : IsHead n.head
  close : IsClose n.close

closed_takes : (depth : ℕ) (head : Head) (front words : List (List ℕ)) (n : Node) → front ≡ head_words head → IsHead head → closed_by depth head words ≡ Some n → NodeTold depth (front ++ words) n
unfolding closed_by
closed_takes depth head front words n same is e =
    let c = and_then_some (close_of words) (λ close. Some (record { depth = depth; head = head; close = close })) n e in
    let k = close_takes words c.0 c.1 in
    subst (λ n. NodeTold depth (front ++ words) n) (same_Some (record { depth = depth; head = head; close = c.0 }) n c.2) (record {
      deep = refl;
      text = ap (λ f. f ++ words) same ∙ ap (λ ws. head_words head ++ ws) k.0;
      head = is;
      close = k.1;
    })

goal_takes : (depth : ℕ) (words : List (List ℕ)) (n : Node) → goal_node_of depth words ≡ Some n → NodeTold depth (codes "goal" ∷ words) n
unfolding goal_node_of
goal_takes depth [] n e = absurd cc
goal_takes depth (state ∷ words) n e =
    let s = and_then_some (state_of state) (λ s. closed_by depth (Goal s) words) n e in
    let k = state_spells.takes state s.0 s.1 in
    closed_takes depth (Goal s.0) (codes "goal" ∷ state ∷ []) words n (ap (λ w. codes "goal" ∷ w ∷ []) k.0) k.1.0 s.2

act_takes : (depth : ℕ) (words : List (List ℕ)) (n : Node) → act_node_of depth words ≡ Some n → NodeTold depth (codes "act" ∷ words) n
unfolding act_node_of
act_takes depth [] n e = absurd cc
act_takes depth (name ∷ words) n e =
    let a = and_then_some (name_of name) (λ a. closed_by depth (Act a) words) n e in
    let k = name_spells.takes name a.0 a.1 in
    closed_takes depth (Act a.0) (codes "act" ∷ name ∷ []) words n (ap (λ w. codes "act" ∷ w ∷ []) k.0) k.1 a.2

at_takes : (depth : ℕ) (words : List (List ℕ)) (n : Node) → at_node_of depth words ≡ Some n → NodeTold depth (codes "at" ∷ words) n
unfolding at_node_of
at_takes depth [] n e = absurd cc
at_takes depth (a ∷ []) n e = absurd cc
at_takes depth (a ∷ b ∷ []) n e = absurd cc
at_takes depth (a ∷ b ∷ c ∷ words) n e =
    let r = and_then_some (name_of a) (λ r. option_and_then (λ l. option_and_then (λ h. closed_by depth (At r l h) words) (number_of c)) (number_of b)) n e in
    let l = and_then_some (number_of b) (λ l. option_and_then (λ h. closed_by depth (At r.0 l h) words) (number_of c)) n r.2 in
    let h = and_then_some (number_of c) (λ h. closed_by depth (At r.0 l.0 h) words) n l.2 in
    let x = name_spells.takes a r.0 r.1 in
    let y = number_spells.takes b l.0 l.1 in
    let z = number_spells.takes c h.0 h.1 in
    closed_takes depth (At r.0 l.0 h.0) (codes "at" ∷ a ∷ b ∷ c ∷ []) words n (same_four (codes "at") a b c r.0 (decimal l.0) (decimal h.0) x.0 y.0 z.0) (x.1, (y.1, z.1)) h.2
  where
    same_four : (t a b c a' b' c' : List ℕ) → a ≡ a' → b ≡ b' → c ≡ c' → t ∷ a ∷ b ∷ c ∷ [] ≡ t ∷ a' ∷ b' ∷ c' ∷ []
    same_four t a b c a' b' c' h i j = cc

lead_node : (depth : ℕ) (word text : List ℕ) (words : List (List ℕ)) (n : Node) → bytes_eq word text ≡ true → NodeTold depth (text ∷ words) n → NodeTold depth (word ∷ words) n
lead_node depth word text words n h t = subst (λ w. NodeTold depth (w ∷ words) n) (sym (is_text word text h)) t

from_takes : (depth : ℕ) (words : List (List ℕ)) (n : Node) → node_from depth words ≡ Some n → NodeTold depth words n
unfolding node_from
from_takes depth [] n e = absurd cc
from_takes depth (word ∷ words) n e =
    elim (cases_Bool (bytes_eq word (codes "goal"))) [
      | inl h ↦ (let k : goal_node_of depth words ≡ Some n = rw h at e in lead_node depth word (codes "goal") words n h (goal_takes depth words n k))
      | inr h ↦
          let e1 : cond (bytes_eq word (codes "act")) (act_node_of depth words) (cond (bytes_eq word (codes "at")) (at_node_of depth words) (cond (bytes_eq word (codes "stop")) (closed_by depth Stop words) None)) ≡ Some n = rw h at e in
          elim (cases_Bool (bytes_eq word (codes "act"))) [
            | inl i ↦ (let k : act_node_of depth words ≡ Some n = rw i at e1 in lead_node depth word (codes "act") words n i (act_takes depth words n k))
            | inr i ↦
                let e2 : cond (bytes_eq word (codes "at")) (at_node_of depth words) (cond (bytes_eq word (codes "stop")) (closed_by depth Stop words) None) ≡ Some n = rw i at e1 in
                elim (cases_Bool (bytes_eq word (codes "at"))) [
                  | inl j ↦ (let k : at_node_of depth words ≡ Some n = rw j at e2 in lead_node depth word (codes "at") words n j (at_takes depth words n k))
                  | inr j ↦
                      let e3 : cond (bytes_eq word (codes "stop")) (closed_by depth Stop words) None ≡ Some n = rw j at e2 in
                      elim (cases_Bool (bytes_eq word (codes "stop"))) [
                        | inl l ↦ (let k : closed_by depth Stop words ≡ Some n = rw l at e3 in lead_node depth word (codes "stop") words n l (closed_takes depth Stop (codes "stop" ∷ []) words n refl tt k))
                        | inr l ↦ (let k : None ≡ Some n = rw l at e3 in absurd cc)
                      ]
                ]
          ]
    ]

pub node_takes : (words : List (List ℕ)) (n : Node) → node_of words ≡ Some n → Tells node_words IsNode (codes "b" ∷ words) n
unfolding node_of
node_takes [] n e = absurd cc
node_takes (depth ∷ words) n e =
    let d = and_then_some (number_of depth) (λ d. node_from d words) n e in
    let k = number_spells.takes depth d.0 d.1 in
    let t = from_takes d.0 words n d.2 in
    let deep : IsNumber n.depth = subst IsNumber (sym t.deep) k.1 in
    (same_two (codes "b") depth (codes "b") (decimal n.depth) words (head_words n.head ++ close_words n.close) refl (k.0 ∙ ap decimal (sym t.deep)) t.text, record { depth = deep; head = t.head; close = t.close })

from_again : (depth : ℕ) (head : Head) (close : Close) → IsHead head → IsClose close → node_from depth (head_words head ++ close_words close) ≡ Some (record { depth = depth; head = head; close = close })
unfolding node_from goal_node_of act_node_of at_node_of closed_by
from_again depth (Goal state) close h k = rw (state_spells.again state (h, tt), close_again close k) refl
from_again depth (Act name) close h k = rw (name_spells.again name h, close_again close k) refl
from_again depth (At resource lo hi) close h k = rw (name_spells.again resource h.0, number_spells.again lo h.1.0, number_spells.again hi h.1.1, close_again close k) refl
from_again depth Stop close h k = rw (close_again close k) refl

pub node_again : (n : Node) → IsNode n → node_of (decimal n.depth ∷ (head_words n.head ++ close_words n.close)) ≡ Some n
unfolding node_of
node_again n h = rw (number_spells.again n.depth h.depth) (from_again n.depth n.head n.close h.head h.close)
