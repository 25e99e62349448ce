-- A list of actions is a route to a tray exactly where its pairs are a walk of the rack.
use Rattle.std.proofs.Common.{◌≡◌, ◌≢◌, ◌⊎◌, inl, inr, ℕ, Bool, true, false, ◌&&◌, ◌==◌, cond, is_some, List, [], ◌∷◌, map, Option, Some, None, option_map, option_and_then, refl, ap, sym, ◌∙◌, subst}
use Rattle.std.specs.Prelude.{All, codes, Contains}
use Rattle.std.proofs.lemmas.List.Elements.{All-cons, All-nil}
use Rattle.std.specs.List.{list_all}
use Rattle.std.proofs.lemmas.Bool.{and_parts}
use Rattle.toml.specs.Data.{Data, string, Members, no_members, get_member, get}
use Rattle.tp_machine.specs.Steps.{step_of, after}
use Rattle.tp_machine.specs.declared.parts.ActId.{ActId}
use Rattle.tp_machine.specs.declared.parts.Action.{Action}
use Rattle.tp_machine.specs.declared.parts.Feeder.{Feeder}
use Rattle.tp_machine.specs.declared.parts.LocId.{LocId}
use Rattle.tp_machine.specs.declared.parts.Sheet.{Sheet}
use Rattle.tp_machine.specs.declared.parts.State.{State}
use Rattle.tp_machine.specs.declared.machine.Machine.{Machine}
use Rattle.tp_schedule.specs.Routes.{step_by, walk, fresh, finished, IsFreshStart}
use Rattle.tp_machine_text.specs.Words.{keys_of, data_of, elements_at, text_of, text_at, is_there, is_array, is_table, is_name, is_one_of, is_among}
use Rattle.tp_machine_text.specs.ActionRules.{has_ends}
use Rattle.tp_machine_text.specs.Keys as text
use Rattle.tp_machine_text.specs.TheMachine.{loc_of, feeders_of}
use Rattle.tp_machine_text.proofs.ActionFacts.{there_known}
use Rattle.tp_machine_text.proofs.KeptFacts.{trays_from, texts_known, feeders_known}
use Rattle.tp_compose.specs.TypeRules.{is_deed}
use Rattle.tp_compose.specs.Racks.{feeders, entries, ports, type_actions, typed_parts, own_names, first_ends, location_of, location_by, put_all}
use Rattle.tp_compose.specs.EndRules.{is_end, is_end_text, has_trays, has_purges, has_feeders}
use Rattle.tp_compose.specs.Flat.{flat, flat_action, part_actions, placed_feeders, end_locations}
use Rattle.tp_compose.specs.Texts.{IsMachineOfRack}
use Rattle.tp_compose.specs.Walks.{Pair, IsPair, IsOnePlace, anywhere, work_of, from_end, to_end, LeadsOn, IsWalk, ArePairsOf, IsNewRoute}
use Rattle.tp_compose.proofs.Lists.{In, Apart, apart_of, in_any, any_in, in_contained, contained_in, in_map, in_map_back, in_flat, all_in}
use Rattle.tp_compose.proofs.Puts.{in_all, in_all_back}
use Rattle.tp_compose.proofs.EndFacts.{deed_ends, deeds, port_end, end_text}
use Rattle.tp_compose.proofs.Places.{same_place, one_place}
use Rattle.tp_compose.proofs.FlatFacts.{trays_are, feeders_are, actions_are, from_is, action_from, action_to, to_is, same_mono, same_colour, same_flip, work_from, work_to}
use Rattle.tp_compose.proofs.MovedSteps.{put_at, lifted}
use Rattle.tp_compose.proofs.Rows.{rules, flat_rules, action_by, flat_by_pair, IsRow, IsLike, like_of}
use Rattle.tp_compose.proofs.EntryFacts.{IsEntry, entry_data, entry_feeder, entry_key, equal_test, feeder_entry, loc_name, name_text, placed_keys, test_equal}

-- ---- steps and locations

step_loc : (w : Action) (sheet : Sheet) (s next : State) → step_of w sheet s ≡ Some next → next.loc ≡ w.to
step_loc w sheet s next step = by_test _ step where
  by_test : (b : Bool) → cond b (Some (after w s)) None ≡ Some next → next.loc ≡ w.to
  by_test true step = let e : after w s ≡ next = cc in sym (ap (λ t. t.loc) e)
  by_test false step = cc

module _ (r : Members) (m : Machine) (is : IsMachineOfRack r m) where
  abbrev names : List (List ℕ)
  names = text.locations (flat r)

  abbrev own : Members
  own = own_names r

  -- the number of an END's location
  abbrev spot : List ℕ → LocId
  spot e = loc_of names (location_of r e)

  -- an END whose location the machine has
  record Stands (e : List ℕ) : Type 0 where
    pub end : is_end_text own e ≡ true
    pub known : is_among names (location_of r e) ≡ true

  one_spot : (e f : List ℕ) → Stands e → Stands f → spot e ≡ spot f → IsOnePlace r e f
  one_spot e f se sf same = one_place r (rules r m is) e f se.end sf.end (loc_name names (location_of r e) (location_of r f) se.known sf.known same)

  same_spot : (e f : List ℕ) → Stands e → Stands f → IsOnePlace r e f → spot e ≡ spot f
  same_spot e f se sf one = ap (loc_of names) (same_place r (rules r m is) e f se.end sf.end one)

  -- ---- the ENDs of a pair

  row_in : (x : Pair) → IsRow r x → In (text.actions (flat r)) (flat_by_pair r m is x)
  row_in x row =
      subst (λ t. In t (flat_by_pair r m is x)) (sym (actions_are r))
      (in_flat (part_actions own (first_ends r)) (typed_parts r) (x.0, row.kind) (flat_by_pair r m is x) row.part (in_map (flat_action own (first_ends r) x.0) (type_actions row.kind) x.1 row.action))

  row_ends : (x : Pair) → IsRow r x → Stands (from_end x) × Stands (to_end x)
  unfolding has_ends
  row_ends x row =
      let k = rules r m is in
      let ds = deeds r k x.0 row.kind x.1 row.part row.action in
      let ends = deed_ends (ports row.kind) x.1 (all_in (is_deed (ports row.kind)) (type_actions row.kind) x.1 ds.all row.action) in
      let fa = flat_by_pair r m is x in
      let both = all_in (has_ends names) (text.actions (flat r)) fa (flat_rules r m is).action_ends (row_in x row) in
      let (from, to) = and_parts (is_there (is_one_of names) (get (codes "from") fa)) (is_there (is_one_of names) (get (codes "to") fa)) both in
      let (fd, from_at) = port_end r k x.0 row.kind (text_at (codes "from") x.1) row.part ends.from in
      let (td, to_at) = port_end r k x.0 row.kind (text_at (codes "to") x.1) row.part ends.to in (
        record { end = ap is_some from_at; known = subst (λ t. is_among names t ≡ true) (from_is own (first_ends r) x.0 x.1) (there_known names (get (codes "from") fa) from) },
        record { end = ap is_some to_at; known = subst (λ t. is_among names t ≡ true) (to_is own (first_ends r) x.0 x.1) (there_known names (get (codes "to") fa) to) },
      )

  step_is : (act : ActId) (x : Pair) → IsLike r m is act x → (sheet : Sheet) (e : List ℕ) (s : State) → s.loc ≡ anywhere
      → step_by m sheet act (put_at (spot e) s) ≡ cond ((spot e).0 == (spot (from_end x)).0) (option_map (put_at (spot (to_end x))) (step_of (work_of x.1) sheet s)) None
  step_is act x like sheet e s at =
      let a = action_by r m is (flat_by_pair r m is x) in
      let ms = text.modules (flat r) in
      let rs = text.resources (flat r) in
      let from = action_from own (first_ends r) x.0 x.1 names ms rs in
      let to = action_to own (first_ends r) x.0 x.1 names ms rs in
      ap (option_and_then (λ b. step_of b sheet (put_at (spot e) s))) like.at
      ∙ lifted a (work_of x.1) sheet (spot e) s (same_mono own (first_ends r) x.0 x.1 names ms rs) (same_colour own (first_ends r) x.0 x.1 names ms rs) (same_flip own (first_ends r) x.0 x.1 names ms rs)
      (λ i. (at i).0 == (work_from x.1 i).0)
      ∙ (λ i. cond ((spot e).0 == (from i).0) (option_map (put_at (to i)) (step_of (work_of x.1) sheet s)) None)

  -- ---- trays

  tray_stands : (t : List ℕ) → In (text.texts_at (codes "trays") r) t → Stands t
  tray_stands t within =
      let k = rules r m is in
      let ds = elements_at (codes "trays") r in
      let (d, in_d, same) = in_map_back text_of ds t within in
      let trays = (and_parts (has_trays own r && has_purges own r) (has_feeders own r) k.ends).0 in
      let all = (and_parts (is_there is_array (get_member (codes "trays") r)) (list_all (is_end own) ds) (and_parts (has_trays own r) (has_purges own r) trays).0).1 in
      let known = texts_known names (elements_at (codes "trays") (flat r)) (trays_from (flat r) (flat_rules r m is)) in
      let placed = subst (λ ts. list_all (is_among names) ts ≡ true) (trays_are r) known in
      record {
        end = subst (λ x. is_end_text own x ≡ true) same (end_text own d (all_in (is_end own) ds d all in_d));
        known = all_in (is_among names) (end_locations own (first_ends r) (codes "trays") r) (location_of r t) placed (in_map (location_of r) (text.texts_at (codes "trays") r) t within);
      }

  trays_made : m.trays ≡ map (loc_of names) (map (location_of r) (text.texts_at (codes "trays") r))
  trays_made = is.is_machine.trays ∙ ap (map (loc_of names)) (trays_are r)

  tray_end : (tray : LocId) → Contains m.trays tray → (t : List ℕ) × In (text.texts_at (codes "trays") r) t × (spot t ≡ tray)
  tray_end tray within =
      let there = subst (λ ts. In ts tray) trays_made (in_contained m.trays tray within) in
      let (n, in_n, is_n) = in_map_back (loc_of names) (map (location_of r) (text.texts_at (codes "trays") r)) tray there in
      let (t, in_t, is_t) = in_map_back (location_of r) (text.texts_at (codes "trays") r) n in_n in
      (t, in_t, ap (loc_of names) is_t ∙ is_n)

  end_tray : (t : List ℕ) → In (text.texts_at (codes "trays") r) t → Contains m.trays (spot t)
  end_tray t within =
      contained_in m.trays (spot t) (subst (λ ts. In ts (spot t)) (sym trays_made) (in_map (loc_of names) (map (location_of r) (text.texts_at (codes "trays") r)) (location_of r t) (in_map (location_of r) (text.texts_at (codes "trays") r) t within)))

  -- ---- from step to step

  forward : (sheet : Sheet) (acts : List ActId) (xs : List Pair) → ArePairsOf r m acts xs → (e : List ℕ) (s : State) → Stands e → s.loc ≡ anywhere → (tray : LocId) → Contains m.trays tray
      → walk m sheet acts (put_at (spot e) s) ≡ Some (finished sheet tray) → LeadsOn r sheet xs e s
  forward sheet [] [] are e s stands at tray in_tray leads =
      let same : put_at (spot e) s ≡ finished sheet tray = cc in
      let (t, in_t, is_t) = tray_end tray in_tray in
      let one = one_spot e t stands (tray_stands t in_t) (ap (λ x. x.loc) same ∙ sym is_t) in (
        any_in (IsOnePlace r e) (text.texts_at (codes "trays") r) t in_t one,
        (λ i. record { loc = at i; up = (same i).up; front_done = (same i).front_done; back_done = (same i).back_done }),
      )
  forward sheet [] (x ∷ xs) are e s stands at tray in_tray leads = elim are [ ]
  forward sheet (act ∷ acts) [] are e s stands at tray in_tray leads = elim are [ ]
  forward sheet (act ∷ acts) (x ∷ xs) are e s stands at tray in_tray leads =
      let like = like_of r m is act x are.0 in
      let ends = row_ends x like.row in
      by_step ((spot e).0 == (spot (from_end x)).0) (step_of (work_of x.1) sheet s) refl refl ends
      (ap (option_and_then (walk m sheet acts)) (sym (step_is act x like sheet e s at)) ∙ leads)
      (λ next loc more. forward sheet acts xs are.1 (to_end x) next ends.1 loc tray in_tray more) where
        by_step : (b : Bool) (o : Option State) → ((spot e).0 == (spot (from_end x)).0) ≡ b → step_of (work_of x.1) sheet s ≡ o → Stands (from_end x) × Stands (to_end x)
            → option_and_then (walk m sheet acts) (cond b (option_map (put_at (spot (to_end x))) o) None) ≡ Some (finished sheet tray)
            → ((next : State) → next.loc ≡ anywhere → walk m sheet acts (put_at (spot (to_end x)) next) ≡ Some (finished sheet tray) → LeadsOn r sheet xs (to_end x) next)
            → LeadsOn r sheet (x ∷ xs) e s
        by_step true (Some next) here step ends leads rest =
            let same : spot e ≡ spot (from_end x) = ap (λ n. record { 0 = n }) (test_equal (spot e).0 (spot (from_end x)).0 here) in
            (next, one_spot e (from_end x) stands ends.0 same, step, rest next (step_loc (work_of x.1) sheet s next step ∙ work_to x.1) leads)
        by_step true None here step ends leads rest = cc
        by_step false o here step ends leads rest = cc

  backward : (sheet : Sheet) (acts : List ActId) (xs : List Pair) → ArePairsOf r m acts xs → (e : List ℕ) (s : State) → Stands e → s.loc ≡ anywhere → LeadsOn r sheet xs e s
      → (tray : LocId) × Contains m.trays tray × (walk m sheet acts (put_at (spot e) s) ≡ Some (finished sheet tray))
  backward sheet [] [] are e s stands at leads =
      let (t, in_t, one) = in_any (IsOnePlace r e) (text.texts_at (codes "trays") r) leads.0 in
      let same = same_spot e t stands (tray_stands t in_t) one in
      (spot t, end_tray t in_t, (λ i. Some (put_at (same i) (leads.1 i))))
  backward sheet [] (x ∷ xs) are e s stands at leads = elim are [ ]
  backward sheet (act ∷ acts) [] are e s stands at leads = elim are [ ]
  backward sheet (act ∷ acts) (x ∷ xs) are e s stands at (next, one, step, more) =
      let like = like_of r m is act x are.0 in
      let ends = row_ends x like.row in
      let (tray, in_tray, rest) = backward sheet acts xs are.1 (to_end x) next ends.1 (step_loc (work_of x.1) sheet s next step ∙ work_to x.1) more in
      let same = same_spot e (from_end x) stands ends.0 one in
      let here : ((spot e).0 == (spot (from_end x)).0) ≡ true = (λ i. (same i).0 == (spot (from_end x)).0) ∙ equal_test (spot (from_end x)).0 in (
        tray,
        in_tray,
        ap (option_and_then (walk m sheet acts)) (step_is act x like sheet e s at ∙ (λ i. cond (here i) (option_map (put_at (spot (to_end x))) (step i)) None)) ∙ rest,
      )

  -- ---- feeders

  feeders_made : m.feeders ≡ feeders_of names (text.stocks (flat r)) (put_all (placed_feeders own (first_ends r) (feeders r)) no_members)
  feeders_made = is.is_machine.feeders ∙ ap (feeders_of names (text.stocks (flat r))) (feeders_are r)

  feeder_stands : (e : List ℕ) (d : Data) → In (entries (feeders r)) (e, d) → In (entries (put_all (placed_feeders own (first_ends r) (feeders r)) no_members)) (location_of r e, d) → Stands e
  feeder_stands e d within there =
      let k = rules r m is in
      let fed = (and_parts (has_trays own r && has_purges own r) (has_feeders own r) k.ends).1 in
      let all = (and_parts (is_there is_table (get_member (codes "feeders") r)) (list_all (is_end_text own) (keys_of (feeders r))) fed).1 in
      let known = subst (λ ms. list_all (is_among names) (keys_of ms) ≡ true) (feeders_are r) (feeders_known (flat r) (flat_rules r m is)) in
      record {
        end = all_in (is_end_text own) (keys_of (feeders r)) e all (entry_key (feeders r) e d within);
        known = all_in (is_among names) _ (location_of r e) known (entry_key _ (location_of r e) d there);
      }

  abbrev fed : Members
  fed = put_all (placed_feeders own (first_ends r) (feeders r)) no_members

  -- the END of a feeder of the machine
  record IsFeederEnd (sheet : Sheet) (loc : LocId) : Type 0 where
    pub end : List ℕ
    pub feeds : In (entries (feeders r)) (end, string sheet.media)
    pub stands : Stands end
    pub there : spot end ≡ loc

  feeder_end : (sheet : Sheet) (f : Feeder) → In m.feeders f → f.media ≡ sheet.media → IsFeederEnd sheet f.loc
  feeder_end sheet f within media =
      let (e, in_e, entry) = feeder_entry names (text.stocks (flat r)) fed f (subst (λ fs. In fs f) feeders_made within) in
      from_entry e in_e entry (in_all_back (placed_feeders own (first_ends r) (feeders r)) no_members e in_e) where
        from_entry : (e : List ℕ × Data) → In (entries fed) e → IsEntry names f e.0 e.1 → In (placed_feeders own (first_ends r) (feeders r)) e ⊎ ⊥ → IsFeederEnd sheet f.loc
        from_entry e in_e entry (inr none) = elim none [ ]
        from_entry e in_e entry (inl put) =
            let (g, in_g, same) = in_map_back (λ g. (location_by own (first_ends r) g.0, g.1)) (entries (feeders r)) e put in
            let named = subst (λ ms. list_all is_name (data_of ms) ≡ true) (feeders_are r) (flat_rules r m is).media in
            let medium = name_text e.1 (all_in is_name (data_of fed) e.1 named (entry_data fed e.0 e.1 in_e)) ∙ ap string (sym entry.media ∙ media) in
            let value : g.1 ≡ string sheet.media = (λ i. (same i).1) ∙ medium in
            record {
              end = g.0;
              feeds = subst (λ d. In (entries (feeders r)) (g.0, d)) value in_g;
              stands = feeder_stands g.0 g.1 in_g (subst (λ x. In (entries fed) x) (sym same) in_e);
              there = ap (loc_of names) (λ i. (same i).0) ∙ sym entry.loc;
            }

  end_feeder : (sheet : Sheet) (e : List ℕ) → In (entries (feeders r)) (e, string sheet.media) → Stands e × IsFreshStart m sheet (fresh (spot e))
  end_feeder sheet e within =
      let es = placed_feeders own (first_ends r) (feeders r) in
      let put = in_map (λ g. (location_by own (first_ends r) g.0, g.1)) (entries (feeders r)) (e, string sheet.media) within in
      let apart = subst (λ t. Apart t) (sym (placed_keys own (first_ends r) (feeders r))) (apart_of (map (location_of r) (keys_of (feeders r))) (rules r m is).feeders) in
      let there = in_all es no_members (location_of r e, string sheet.media) apart put in
      let (f, in_f, entry) = entry_feeder names (text.stocks (flat r)) (put_all es no_members) (location_of r e) (string sheet.media) there in (
        feeder_stands e (string sheet.media) within there,
        any_in (λ f. (f.media ≡ sheet.media) × (fresh (spot e) ≡ fresh f.loc)) m.feeders f (subst (λ fs. In fs f) (sym feeders_made) in_f) (entry.media, ap fresh (sym entry.loc)),
      )

  -- ---- routes and walks

  some_pairs : (acts : List ActId) (xs : List Pair) → ArePairsOf r m acts xs → acts ≢ [] → xs ≢ []
  some_pairs [] [] are some = absurd (some refl)
  some_pairs [] (x ∷ xs) are some = elim are [ ]
  some_pairs (act ∷ acts) [] are some = elim are [ ]
  some_pairs (act ∷ acts) (x ∷ xs) are some = λ e. cc

  some_acts : (acts : List ActId) (xs : List Pair) → ArePairsOf r m acts xs → xs ≢ [] → acts ≢ []
  some_acts [] [] are some = absurd (some refl)
  some_acts [] (x ∷ xs) are some = elim are [ ]
  some_acts (act ∷ acts) [] are some = elim are [ ]
  some_acts (act ∷ acts) (x ∷ xs) are some = λ e. cc

  of_rack : (acts : List ActId) (xs : List Pair) → ArePairsOf r m acts xs → All (IsPair r) xs
  of_rack [] [] are = All-nil (IsPair r)
  of_rack [] (x ∷ xs) are = elim are [ ]
  of_rack (act ∷ acts) [] are = elim are [ ]
  of_rack (act ∷ acts) (x ∷ xs) (is, are) = All-cons (IsPair r) x xs is.is_pair (of_rack acts xs are)

  pub route_is_walk : (sheet : Sheet) (acts : List ActId) (xs : List Pair) → ArePairsOf r m acts xs → IsNewRoute m sheet acts → IsWalk r sheet xs
  route_is_walk sheet acts xs are route =
      let (f, in_f, fed) = in_any (λ f. (f.media ≡ sheet.media) × (route.start ≡ fresh f.loc)) m.feeders route.is_start in
      let e = feeder_end sheet f in_f fed.0 in
      let start : put_at (spot e.end) (fresh anywhere) ≡ route.start = ap fresh e.there ∙ sym fed.1 in
      record {
        some = some_pairs acts xs are route.some;
        pairs = of_rack acts xs are;
        feeder = e.end;
        feeds = contained_in (entries (feeders r)) (e.end, string sheet.media) e.feeds;
        leads = forward sheet acts xs are e.end (fresh anywhere) e.stands refl route.tray route.is_tray (ap (walk m sheet acts) start ∙ route.leads);
      }

  pub walk_is_route : (sheet : Sheet) (acts : List ActId) (xs : List Pair) → ArePairsOf r m acts xs → IsWalk r sheet xs → IsNewRoute m sheet acts
  walk_is_route sheet acts xs are w =
      let (stands, starts) = end_feeder sheet w.feeder (in_contained (entries (feeders r)) (w.feeder, string sheet.media) w.feeds) in
      let (tray, in_tray, leads) = backward sheet acts xs are w.feeder (fresh anywhere) stands refl w.leads in
      record { some = some_acts acts xs are w.some; start = fresh (spot w.feeder); is_start = starts; tray = tray; is_tray = in_tray; leads = leads }
