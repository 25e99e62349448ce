-- The parts of a rack that keeps the rules, their ports and actions, and the ENDs.
use Rattle.std.proofs.Common.{◌≡◌, inl, inr, ℕ, true, not, ◌&&◌, is_some, List, ◌∷◌, length, map, Option, Some, None, refl, ap, sym, ◌∙◌, subst}
use Rattle.std.specs.Prelude.{codes, nat_le}
use Rattle.std.specs.List.{list_all}
use Rattle.std.specs.Ordering.{nat_cmp, match_ordering}
use Rattle.std.specs.Cmp.Lexicographic.{slice_cmp}
use Rattle.std.proofs.Common.{Ordering, Less, Equal, Greater}
use Rattle.std.proofs.lemmas.Bool.{and_parts}
use Rattle.toml.specs.Data.{Data, string, integer, float, boolean, datetime, array, table, Members, no_members, member, get_member, get}
use Rattle.tp_machine_text.specs.Words.{keys_of, data_of, elements_in, text_of, text_in, text_at, is_there, is_fit, is_array, is_table, is_one_of, is_count, are_different}
use Rattle.tp_compose.specs.Racks.{types, parts, ports, type_actions, typed, typed_parts, type_in, part_ends, ends, dotted, hyphened, own_names}
use Rattle.tp_compose.specs.TypeRules.{is_short, is_short_text, are_shorts, has_ports, has_deeds, is_deed}
use Rattle.tp_compose.specs.EndRules.{is_end_text, is_end}
use Rattle.tp_compose.proofs.Lists.{In, Apart, in_map, in_map_back, in_flat, in_flat_back, all_in, among_in}
use Rattle.tp_compose.proofs.Puts.{put_some, put_there}
use Rattle.tp_compose.proofs.SpelledNames.{lacks, marked, short_lacks, marked_dotted, lacks_dotted}
use Rattle.tp_compose.proofs.KeptRack.{KeepsRackRules}

-- ---- look-ups

pub get_in : (k : List ℕ) (ms : Members) (d : Data) → get_member k ms ≡ Some d → In (data_of ms) d
get_in k no_members d at = cc
get_in k (member l e ms) d at = by_order (slice_cmp nat_cmp k l) at (get_in k ms d) where
  by_order : (o : Ordering) → match_ordering o (get_member k ms) (Some e) (get_member k ms) ≡ Some d → (get_member k ms ≡ Some d → In (data_of ms) d) → In (e ∷ data_of ms) d
  by_order Less at rest = inr (rest at)
  by_order Equal at rest = inl (cc)
  by_order Greater at rest = inr (rest at)

short_text : (d : Data) → is_short d ≡ true → is_short_text (text_of d) ≡ true
short_text (string text) test = test
short_text (integer z) test = cc
short_text (float x) test = cc
short_text (boolean b) test = cc
short_text (datetime t) test = cc
short_text (array ds) test = cc
short_text (table ms) test = cc

there_one : (texts : List (List ℕ)) (o : Option Data) → is_there (is_one_of texts) o ≡ true → In texts (text_in o)
there_one texts None test = cc
there_one texts (Some (string text)) test = among_in texts text test
there_one texts (Some (integer z)) test = cc
there_one texts (Some (float x)) test = cc
there_one texts (Some (boolean b)) test = cc
there_one texts (Some (datetime t)) test = cc
there_one texts (Some (array ds)) test = cc
there_one texts (Some (table ms)) test = cc

-- ---- types

ports_short : (t : Data) (q : List ℕ) → has_ports t ≡ true → In (ports t) q → is_short_text q ≡ true
unfolding has_ports
ports_short t q test within =
    let ds = elements_in (get (codes "ports") t) in
    let first = (and_parts (are_shorts 1 256 ds && is_fit is_array (get (codes "resources") t)) (are_shorts 0 256 (elements_in (get (codes "resources") t))) test).0 in
    let shorts = (and_parts (are_shorts 1 256 ds) (is_fit is_array (get (codes "resources") t)) first).0 in
    let all = (and_parts (is_count 1 256 (length ds)) (list_all is_short ds) (and_parts (is_count 1 256 (length ds) && list_all is_short ds) (are_different (map text_of ds)) shorts).0).1 in
    let (d, in_d, is_d) = in_map_back text_of ds q within in
    subst (λ x. is_short_text x ≡ true) is_d (short_text d (all_in is_short ds d all in_d))

pub record Deeds (t : Data) : Type 0 where
  pub all : list_all (is_deed (ports t)) (type_actions t) ≡ true
  pub differ : are_different (map (text_at (codes "name")) (type_actions t)) ≡ true

deeds_of : (t : Data) → has_deeds t ≡ true → Deeds t
unfolding has_deeds
deeds_of t test =
    let few = is_there is_array (get (codes "actions") t) && nat_le (length (type_actions t)) 512 in
    let (front, differ) = and_parts (few && list_all (is_deed (ports t)) (type_actions t)) (are_different (map (text_at (codes "name")) (type_actions t))) test in
    record { all = (and_parts few (list_all (is_deed (ports t)) (type_actions t)) front).1; differ = differ }

pub record DeedEnds (ps : List (List ℕ)) (a : Data) : Type 0 where
  pub from : In ps (text_at (codes "from") a)
  pub to : In ps (text_at (codes "to") a)

pub deed_ends : (ps : List (List ℕ)) (a : Data) → is_deed ps a ≡ true → DeedEnds ps a
unfolding is_deed
deed_ends ps a test =
    let named = is_table a && not (is_some (get (codes "module") a)) && is_there is_short (get (codes "name") a) in
    let (front, to) = and_parts (named && is_there (is_one_of ps) (get (codes "from") a)) (is_there (is_one_of ps) (get (codes "to") a)) test in
    let from = (and_parts named (is_there (is_one_of ps) (get (codes "from") a)) front).1 in
    record { from = there_one ps (get (codes "from") a) from; to = there_one ps (get (codes "to") a) to }

-- ---- parts

typed_key : (ts ps : Members) (p : List ℕ) (t : Data) → In (typed ts ps) (p, t) → In (keys_of ps) p
typed_key ts no_members p t within = elim within [ ]
typed_key ts (member k d ps) p t (inl same) = inl (ap (λ x. x.0) same)
typed_key ts (member k d ps) p t (inr rest) = inr (typed_key ts ps p t rest)

typed_type : (ts ps : Members) (p : List ℕ) (t : Data) → In (typed ts ps) (p, t) → (k : List ℕ) × (type_in (get_member k ts) ≡ t)
typed_type ts no_members p t within = elim within [ ]
typed_type ts (member k d ps) p t (inl same) = (text_of d, ap (λ x. x.1) same)
typed_type ts (member k d ps) p t (inr rest) = typed_type ts ps p t rest

pub one_type : (ts ps : Members) (p : List ℕ) (t u : Data) → Apart (keys_of ps) → In (typed ts ps) (p, t) → In (typed ts ps) (p, u) → t ≡ u
one_type ts no_members p t u apart a b = elim a [ ]
one_type ts (member k d ps) p t u apart (inl a) (inl b) = sym (ap (λ x. x.1) a) ∙ ap (λ x. x.1) b
one_type ts (member k d ps) p t u apart (inl a) (inr b) = absurd (apart.0 (subst (λ x. In (keys_of ps) x) (sym (ap (λ x. x.0) a)) (typed_key ts ps p u b)))
one_type ts (member k d ps) p t u apart (inr a) (inl b) = absurd (apart.0 (subst (λ x. In (keys_of ps) x) (sym (ap (λ x. x.0) b)) (typed_key ts ps p t a)))
one_type ts (member k d ps) p t u apart (inr a) (inr b) = one_type ts ps p t u apart.1 a b

module _ (r : Members) (k : KeepsRackRules r) where
  pub part_short : (p : List ℕ) (t : Data) → In (typed_parts r) (p, t) → is_short_text p ≡ true
  part_short p t within =
      let front = (and_parts (is_count 1 64 (length (keys_of (parts r))) && list_all is_short_text (keys_of (parts r))) (list_all (is_one_of (keys_of (types r))) (data_of (parts r))) k.parts).0 in
      let shorts = (and_parts (is_count 1 64 (length (keys_of (parts r)))) (list_all is_short_text (keys_of (parts r))) front).1 in
      all_in is_short_text (keys_of (parts r)) p shorts (typed_key (types r) (parts r) p t within)

  -- a type that there is keeps the rules on types; what stands for one that is none has no ports and no actions
  port_short_at : (o : Option Data) (q : List ℕ) → ((t : Data) → o ≡ Some t → has_ports t ≡ true) → In (ports (type_in o)) q → is_short_text q ≡ true
  port_short_at None q keeps within = elim within [ ]
  port_short_at (Some t) q keeps within = ports_short t q (keeps t refl) within

  pub port_short : (p : List ℕ) (t : Data) (q : List ℕ) → In (typed_parts r) (p, t) → In (ports t) q → is_short_text q ≡ true
  port_short p t q within port =
      let (key, is) = typed_type (types r) (parts r) p t within in
      port_short_at (get_member key (types r)) q (λ u at. all_in has_ports (data_of (types r)) u k.ports (get_in key (types r) u at)) (subst (λ x. In (ports x) q) (sym is) port)

  deeds_at : (o : Option Data) (a : Data) → ((t : Data) → o ≡ Some t → has_deeds t ≡ true) → In (type_actions (type_in o)) a → Deeds (type_in o)
  deeds_at None a keeps within = elim within [ ]
  deeds_at (Some t) a keeps within = deeds_of t (keeps t refl)

  pub deeds : (p : List ℕ) (t a : Data) → In (typed_parts r) (p, t) → In (type_actions t) a → Deeds t
  deeds p t a within action =
      let (key, is) = typed_type (types r) (parts r) p t within in
      subst (λ x. Deeds x) is (deeds_at (get_member key (types r)) a (λ u at. all_in has_deeds (data_of (types r)) u k.deeds (get_in key (types r) u at)) (subst (λ x. In (type_actions x) a) (sym is) action))

  -- ---- ENDs

  -- an END has its own name, with a hyphen for the dot, and has no hyphen itself
  pub own_is : (e : List ℕ) (d : Data) → get_member e (own_names r) ≡ Some d → (d ≡ string (marked e)) × (lacks 45 e ≡ true)
  own_is e d at = elim (put_some e d (ends r) no_members at) [ inl within ↦ spelled within | inr none ↦ absurd (cc) ] where
    spelled_at : (p : List ℕ × Data) (q : List ℕ) → In (typed_parts r) p → In (ports p.1) q → dotted p.0 q ≡ e → string (hyphened p.0 q) ≡ d → (d ≡ string (marked e)) × (lacks 45 e ≡ true)
    spelled_at p q part port e_is d_is =
        let ps = part_short p.0 p.1 part in
        let qs = port_short p.0 p.1 q part port in (
          sym d_is ∙ ap string (sym (marked_dotted p.0 q (short_lacks 46 p.0 refl ps) (short_lacks 46 q refl qs))) ∙ ap (λ x. string (marked x)) e_is,
          subst (λ x. lacks 45 x ≡ true) e_is (lacks_dotted 45 p.0 q refl (short_lacks 45 p.0 refl ps) (short_lacks 45 q refl qs)),
        )

    spelled : In (ends r) (e, d) → (d ≡ string (marked e)) × (lacks 45 e ≡ true)
    spelled within =
        let (p, part, here) = in_flat_back part_ends (typed_parts r) (e, d) within in
        let (q, port, same) = in_map_back (λ x. (dotted p.0 x, string (hyphened p.0 x))) (ports p.1) (e, d) here in
        spelled_at p q part port (λ i. (same i).0) (λ i. (same i).1)

  -- a port of a part is an END
  pub port_end : (p : List ℕ) (t : Data) (q : List ℕ) → In (typed_parts r) (p, t) → In (ports t) q → (d : Data) × (get_member (dotted p q) (own_names r) ≡ Some d)
  port_end p t q part port =
      let pair : List ℕ × Data = (dotted p q, string (hyphened p q)) in
      put_there (dotted p q) (string (hyphened p q)) (ends r) no_members
      (in_flat part_ends (typed_parts r) (p, t) pair part (in_map (λ x. (dotted p x, string (hyphened p x))) (ports t) q port))

pub end_some : (own : Members) (text : List ℕ) → is_end_text own text ≡ true → (d : Data) × (get_member text own ≡ Some d)
end_some own text test = cases (get_member text own) test where
  cases : (o : Option Data) → is_some o ≡ true → (d : Data) × (o ≡ Some d)
  cases None test = cc
  cases (Some d) test = (d, refl)

pub end_text : (own : Members) (d : Data) → is_end own d ≡ true → is_end_text own (text_of d) ≡ true
end_text own (string text) test = test
end_text own (integer z) test = cc
end_text own (float x) test = cc
end_text own (boolean b) test = cc
end_text own (datetime t) test = cc
end_text own (array ds) test = cc
end_text own (table ms) test = cc
