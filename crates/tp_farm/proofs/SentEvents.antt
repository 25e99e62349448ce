-- Tellers that were sent an event, or probed, one after another.
use Rattle.std.proofs.Common.{◌≡◌, ℕ, zero, suc, ◌+◌, ◌<◌, ◌≤◌, cond, true, false, List, [], ◌∷◌, ◌++◌, length, map, take, drop, get_or, set, Result, Ok, refl, sym, ap, subst, ◌∙◌, append_assoc, arith}
use Rattle.std.specs.Bool.{MatchBool}
use Rattle.std.specs.List.{All, AllZip}
use Rattle.std.proofs.lemmas.List.{append-nil, drop-drop, drop-set-lt, get_or-drop, length-map, length-set, length-take-le, map-append, set-get_or, take_all, take_more, take_more_set}
use Rattle.std.proofs.lemmas.List.Elements.{All-set, All-weaker}
use Rattle.tp_script.specs.declared.event.Event.{Event}
use Rattle.tp_farm.specs.MachineChoice.{is_accepted, place_for}
use Rattle.tp_farm.specs.Farms.{TellsAt, TellsFrom, is_for}
use Rattle.tp_farm.specs.Inside.{IsFarm, IsProbedAt, IsReady, IsToldAt}
use Rattle.tp_farm.specs.Numbered.{numbered}
use Rattle.tp_stream.specs.Tellers.{most_events}
use Rattle.tp_stream.specs.declared.probe.Probe.{Probe}
use Rattle.tp_farm.specs.declared.whom.Whom.{Whom}

-- ---- the lists of what holds of tellers

-- an item that is written over by one with the same f
map-put : {X Y : Type 0} (f : X → Y) (xs : List X) (i : ℕ) (y : X) → f y ≡ f (get_or xs i y) → map f (set xs i y) ≡ map f xs
map-put f [] i y same = refl
map-put f (z ∷ xs) zero y same = ap (λ a. a ∷ map f xs) same
map-put f (z ∷ xs) (suc i) y same = ap (λ ys. f z ∷ ys) (map-put f xs i y same)

pub AllZip-more : {A B : Type 0} (R : A → B → Type 0) (xs : List A) (ys : List B) (x : A) (y : B) → AllZip R xs ys → R x y → AllZip R (xs ++ x ∷ []) (ys ++ y ∷ [])
AllZip-more R [] [] x y h r = (r, tt)
AllZip-more R [] (b ∷ ys) x y h r = absurd h
AllZip-more R (a ∷ xs) [] x y h r = absurd h
AllZip-more R (a ∷ xs) (b ∷ ys) x y h r = (h.0, AllZip-more R xs ys x y h.1 r)

AllZip-length : {A B : Type 0} (R : A → B → Type 0) (xs : List A) (ys : List B) → AllZip R xs ys → length xs ≡ length ys
AllZip-length R [] [] h = refl
AllZip-length R [] (b ∷ ys) h = absurd h
AllZip-length R (a ∷ xs) [] h = absurd h
AllZip-length R (a ∷ xs) (b ∷ ys) h = ap suc (AllZip-length R xs ys h.1)

module _ {S : Type 0} (tells : S → Event → List ℕ → S → Type 0) (whom : Whom) (event : Event) where
  -- one machine more at the end
  pub TellsFrom-more : (number : ℕ) (xs : List S) (text : List ℕ) (ys : List S) (x y : S) (told : List ℕ)
      → TellsFrom tells whom event number xs text ys → TellsAt tells whom event (number + length xs) x told y
      → TellsFrom tells whom event number (xs ++ x ∷ []) (text ++ told) (ys ++ y ∷ [])
  TellsFrom-more number [] text [] x y told h r =
      let here = subst (λ n. TellsAt tells whom event n x told y) (let e : number + 0 ≡ number = omega arith in e) r in
      (told, ([], here, refl, ap (λ t. t ++ told) h ∙ sym (append-nil told)))
  TellsFrom-more number [] text (b ∷ ys) x y told h r = absurd h
  TellsFrom-more number (a ∷ xs) text [] x y told h r = absurd h
  TellsFrom-more number (a ∷ xs) text (b ∷ ys) x y told (first, (rest, one, others, same)) r =
      let there = subst (λ n. TellsAt tells whom event n x told y) (let e : number + suc (length xs) ≡ number + 1 + length xs = omega arith in e) r in
      (first, (rest ++ told, one, TellsFrom-more (number + 1) xs rest ys x y told others there, ap (λ t. t ++ told) same ∙ append_assoc first rest told))

get_or-mapped : {X Y : Type 0} (f : X → Y) (xs : List X) (i : ℕ) (d : X) → get_or (map f xs) i (f d) ≡ f (get_or xs i d)
get_or-mapped f [] i d = refl
get_or-mapped f (x ∷ xs) zero d = refl
get_or-mapped f (x ∷ xs) (suc i) d = get_or-mapped f xs i d

-- the place is one of the list
element : {X : Type 0} (xs : List X) (i : ℕ) → i < length xs → (y : X) × (get_or xs i y ≡ y)
element [] i inside = absurd (omega (arith, inside))
element (x ∷ xs) zero inside = (x, refl)
element (x ∷ xs) (suc i) inside = element xs i (omega (arith, inside))

pub at-place : {X : Type 0} (before now : List X) (i : ℕ) (y : X) → drop i now ≡ drop i before → get_or now i y ≡ get_or before i y
at-place before now i y same =
    let left : get_or (drop i now) 0 y ≡ get_or now (i + 0) y = get_or-drop i now 0 y in
    let right : get_or (drop i before) 0 y ≡ get_or before (i + 0) y = get_or-drop i before 0 y in
    let here : i + 0 ≡ i = omega arith in
    ap (λ n. get_or now n y) (sym here) ∙ sym left ∙ ap (λ xs. get_or xs 0 y) same ∙ right ∙ ap (λ n. get_or before n y) here

module _ {T S : Type 0} (state : T → S) (text : T → List ℕ) (answered : T → ℕ) where
  -- where a probe of all tellers stands
  pub record IsProbing (probes : S → Event → Probe → Type 0) (event : Event) (before : List T) (i : ℕ) (now : List T) (answers : List Probe) : Type 0 where
    pub probed : AllZip (λ s answer. probes s event answer) (map state (take i before)) answers
    pub states : map state now ≡ map state before
    pub count : length now ≡ length before
    pub ready : (most : ℕ) → All (IsReady text answered most) before → All (IsReady text answered most) now

  module _ (probes : S → Event → Probe → Type 0) (event : Event) where
    pub probing-none : (before : List T) → IsProbing probes event before 0 before []
    probing-none before = record { probed = tt; states = refl; count = refl; ready = λ most h. h }

    -- the tellers after one was probed
    pub probed-states : {E : Type 0} (now now' : List T) (i : ℕ) (r : Result Probe E) → i < length now → IsProbedAt state text answered probes event i now now' r → map state now' ≡ map state now
    probed-states now now' i r inside p =
        ap (map state) p.put ∙ map-put state now i p.teller p.state_stays

    pub probed-ready : {E : Type 0} (most : ℕ) (now now' : List T) (i : ℕ) (r : Result Probe E) → i < length now → IsProbedAt state text answered probes event i now now' r
        → All (IsReady text answered most) now → All (IsReady text answered most) now'
    probed-ready most now now' i r inside p ready =
        let old = ready i p.teller inside in
        subst (All (IsReady text answered most)) (sym p.put)
        (All-set (IsReady text answered most) now i p.teller (p.text_stays ∙ old.0, subst (λ n. n ≤ most) (sym p.count_stays) old.1) ready)

    pub probing-more : {E : Type 0} (before now now' : List T) (i : ℕ) (answers : List Probe) (answer : Probe) → i < length now → IsProbing probes event before i now answers
        → IsProbedAt {E = E} state text answered probes event i now now' (Ok answer) → IsProbing probes event before (i + 1) now' (answers ++ answer ∷ [])
    probing-more {E} before now now' i answers answer inside so p =
        let there : i < length before = omega (arith, inside, so.count) in
        let same : state (get_or now i p.teller) ≡ state (get_or before i p.teller) =
        sym (get_or-mapped state now i p.teller) ∙ ap (λ ss. get_or ss i (state p.teller)) so.states ∙ get_or-mapped state before i p.teller in
        let front : map state (take (i + 1) before) ≡ map state (take i before) ++ state (get_or before i p.teller) ∷ [] =
        ap (map state) (take_more before i p.teller there) ∙ map-append state (take i before) (get_or before i p.teller ∷ []) in
        record {
          probed = subst (λ ss. AllZip (λ s a. probes s event a) ss (answers ++ answer ∷ [])) (sym front)
              (AllZip-more (λ s a. probes s event a) (map state (take i before)) answers (state (get_or before i p.teller)) answer so.probed (subst (λ s. probes s event answer) same p.probed));
          states = probed-states {E = E} now now' i (Ok answer) inside p ∙ so.states;
          count = ap length p.put ∙ length-set now i p.teller ∙ so.count;
          ready = λ most h. probed-ready {E = E} most now now' i (Ok answer) inside p (so.ready most h);
        }

    pub probing-count : (before now : List T) (i : ℕ) (answers : List Probe) → length before ≤ i → IsProbing probes event before i now answers → length answers ≡ length before
    probing-count before now i answers past so =
        let count = AllZip-length (λ s a. probes s event a) (map state (take i before)) answers so.probed in
        sym count ∙ length-map (take i before) state ∙ ap length (take_all i before past)

  -- where the sending of an event to all tellers that it is for stands
  pub record IsSending (tells : S → Event → List ℕ → S → Type 0) (whom : Whom) (event : Event) (before : List T) (start : List ℕ) (i : ℕ) (now : List T) (out : List ℕ) : Type 0 where
    pub told : List ℕ
    pub sent : TellsFrom tells whom event 1 (map state (take i before)) told (map state (take i now))
    pub written : out ≡ start ++ told
    pub same : drop i now ≡ drop i before
    pub count : length now ≡ length before
    pub ready : (most : ℕ) → All (IsReady text answered most) before → All (IsReady text answered (most + 1)) now

  module _ (tells : S → Event → List ℕ → S → Type 0) (whom : Whom) (event : Event) where
    pub sending-none : (before : List T) (start : List ℕ) → IsSending tells whom event before start 0 before start
    sending-none before start = record {
      told = [];
      sent = refl;
      written = sym (append-nil start);
      same = refl;
      count = refl;
      ready = λ most h. All-weaker (IsReady text answered most) (IsReady text answered (most + 1)) (λ t r. (r.0, (let le = r.1 in omega (arith, le)))) before h;
    }

    -- a teller that it isn't for stays
    pub told-none : {E : Type 0} (now : List T) (out : List ℕ) (at : ℕ) → at < length now → is_for whom (at + 1) ≡ false → ((d : T) → text (get_or now at d) ≡ [])
        → IsToldAt {E = E} state text answered tells whom event at now now out out (Ok tt)
    told-none {E} now out at inside other clear =
        let here = element now at inside in
        record {
          teller = here.0;
          put = sym (ap (λ t. set now at t) (sym here.1) ∙ set-get_or now at here.0);
          clear = subst (λ t. text t ≡ []) here.1 (clear here.0);
          counted = subst (λ t. answered t ≤ answered (get_or now at here.0) + 1) here.1 (omega arith);
          told = (
            [],
            subst (λ b. MatchBool b ((told : List ℕ) × tells (state (get_or now at here.0)) event told (state here.0) × ([] ≡ numbered (at + 1) told)) ((◌≡◌ {A = List ℕ} [] []) × (state here.0 ≡ state (get_or now at here.0)))) (sym other)
                (refl, ap state (sym here.1)),
            sym (append-nil out),
          );
        }

    -- the tellers after the event was sent to one, also where memory ran out
    pub sent-ready : {E : Type 0} (before now now' : List T) (start out out' : List ℕ) (i : ℕ) (r : Result (Unit {0}) E) → i < length now → IsSending tells whom event before start i now out
        → IsToldAt state text answered tells whom event i now now' out out' r → (most : ℕ) → All (IsReady text answered most) before → All (IsReady text answered (most + 1)) now'
    sent-ready before now now' start out out' i r inside so p most h =
        let old = h i p.teller (let there : i < length before = omega (arith, inside, so.count) in there) in
        let here : answered (get_or now i p.teller) ≤ most = subst (λ t. answered t ≤ most) (sym (at-place before now i p.teller so.same)) old.1 in
        let le = p.counted in
        subst (All (IsReady text answered (most + 1))) (sym p.put)
        (All-set (IsReady text answered (most + 1)) now i p.teller (p.clear, omega (arith, le, here)) (so.ready most h))

    pub sending-more : {E : Type 0} (before now now' : List T) (start out out' : List ℕ) (i : ℕ) → i < length now → IsSending tells whom event before start i now out
        → IsToldAt {E = E} state text answered tells whom event i now now' out out' (Ok tt) → IsSending tells whom event before start (i + 1) now' out'
    sending-more {E} before now now' start out out' i inside so p =
        let there : i < length before = omega (arith, inside, so.count) in
        let y = p.teller in
        let old = at-place before now i y so.same in
        let front : map state (take (i + 1) before) ≡ map state (take i before) ++ state (get_or before i y) ∷ [] =
        ap (map state) (take_more before i y there) ∙ map-append state (take i before) (get_or before i y ∷ []) in
        let front' : map state (take (i + 1) now') ≡ map state (take i now) ++ state y ∷ [] =
        ap (λ xs. map state (take (i + 1) xs)) p.put ∙ ap (map state) (take_more_set now i y inside) ∙ map-append state (take i now) (y ∷ []) in
        let count : length (map state (take i before)) ≡ i = length-map (take i before) state ∙ length-take-le i before (omega (arith, there)) in
        let number : i + 1 ≡ 1 + length (map state (take i before)) = omega (arith, count) in
        let one = subst (λ n. TellsAt tells whom event n (state (get_or before i y)) p.told.0 (state y)) number
        (subst (λ t. TellsAt tells whom event (i + 1) (state t) p.told.0 (state y)) old p.told.1) in
        record {
          told = so.told ++ p.told.0;
          sent = subst (λ xs. TellsFrom tells whom event 1 xs (so.told ++ p.told.0) (map state (take (i + 1) now'))) (sym front)
              (subst (TellsFrom tells whom event 1 (map state (take i before) ++ state (get_or before i y) ∷ []) (so.told ++ p.told.0)) (sym front')
              (TellsFrom-more tells whom event 1 (map state (take i before)) so.told (map state (take i now)) (state (get_or before i y)) (state y) p.told.0 so.sent one));
          written = p.told.2 ∙ ap (λ t. t ++ p.told.0) so.written ∙ append_assoc start so.told p.told.0;
          same = ap (drop (i + 1)) p.put ∙ drop-set-lt (i + 1) now i y (omega arith) ∙ sym (drop-drop 1 i now) ∙ ap (drop 1) so.same ∙ drop-drop 1 i before;
          count = ap length p.put ∙ length-set now i y ∙ so.count;
          ready = sent-ready {E = E} before now now' start out out' i (Ok tt) inside so p;
        }

    -- all were sent the event that it is for
    pub sent-all : (before now : List T) (start out : List ℕ) (i : ℕ) → length before ≤ i → length now ≤ i → IsSending tells whom event before start i now out
        → (told : List ℕ) × TellsFrom tells whom event 1 (map state before) told (map state now) × (out ≡ start ++ told)
    sent-all before now start out i past past' so = (
      so.told,
      subst (λ xs. TellsFrom tells whom event 1 (map state before) so.told (map state xs)) (take_all i now past')
          (subst (λ xs. TellsFrom tells whom event 1 (map state xs) so.told (map state (take i now))) (take_all i before past) so.sent),
      so.written,
    )

-- ---- the names that are kept

pub kept-accepted : (homes homes' : List (List ℕ × ℕ)) (name : List ℕ) (number place : ℕ) (answers : List Probe) → place ≡ place_for answers → is_accepted answers place ≡ true
    → homes' ≡ homes ++ (name, number) ∷ [] → homes' ≡ cond (is_accepted answers (place_for answers)) (homes ++ (name, number) ∷ []) homes
kept-accepted homes homes' name number place answers at accepted is = is ∙ ap (λ b. cond b (homes ++ (name, number) ∷ []) homes) (sym accepted ∙ ap (is_accepted answers) at)

pub kept-refused : (homes homes' : List (List ℕ × ℕ)) (name : List ℕ) (number place : ℕ) (answers : List Probe) → place ≡ place_for answers → is_accepted answers place ≡ false
    → homes' ≡ homes → homes' ≡ cond (is_accepted answers (place_for answers)) (homes ++ (name, number) ∷ []) homes
kept-refused homes homes' name number place answers at refused is = is ∙ ap (λ b. cond b (homes ++ (name, number) ∷ []) homes) (sym refused ∙ ap (is_accepted answers) at)

-- ---- a farm after a line

module _ {T S : Type 0} (state : T → S) (text : T → List ℕ) (answered : T → ℕ) where
  -- what its tellers may be sent
  pub farm-few : (before mid : List T) (lines : ℕ) → IsFarm text answered before lines → lines < most_events → ((most : ℕ) → All (IsReady text answered most) before → All (IsReady text answered most) mid)
      → All (λ t. (text t ≡ []) × (answered t < most_events)) mid
  farm-few before mid lines farm few ready =
      All-weaker (IsReady text answered lines) (λ t. (text t ≡ []) × (answered t < most_events)) (λ t r. (r.0, (let le = r.1 in omega (arith, le, few)))) mid (ready lines farm.ready)

  pub farm-after : (before after : List T) (lines : ℕ) → IsFarm text answered before lines → length after ≡ length before → All (IsReady text answered (lines + 1)) after → IsFarm text answered after (lines + 1)
  farm-after before after lines farm count ready = record {
    some = omega (arith, farm.some, count);
    few = omega (arith, farm.few, count);
    ready = ready;
  }

  pub same-length : (before after : List T) → map state after ≡ map state before → length after ≡ length before
  same-length before after states = sym (length-map after state) ∙ ap length states ∙ length-map before state

  pub farm-probed : (before after : List T) (lines : ℕ) → IsFarm text answered before lines → map state after ≡ map state before
      → ((most : ℕ) → All (IsReady text answered most) before → All (IsReady text answered most) after) → IsFarm text answered after (lines + 1)
  farm-probed before after lines farm states ready =
      farm-after before after lines farm (same-length before after states)
      (All-weaker (IsReady text answered lines) (IsReady text answered (lines + 1)) (λ t r. (r.0, (let le = r.1 in omega (arith, le)))) after (ready lines farm.ready))
