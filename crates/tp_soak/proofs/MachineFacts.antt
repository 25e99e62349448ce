-- The machine of a case's engines keeps the rules of machines.
use Rattle.std.proofs.Common.{◌≡◌, ℕ, ◌+◌, ◌<◌, true, List, [], ◌∷◌, refl, arith}
use Rattle.std.specs.Fmt.{digits}
use Rattle.std.specs.Prelude.{IsTrue, nat_le, pos, ◌+ℤ◌, int_lt}
use Rattle.std.proofs.lemmas.Bool.Decides.{nat_tests}
use Rattle.tp_machine.specs.Rules.{are_named, are_counts, are_resources, are_amounts, do_actions_differ, are_ways, have_durations, have_few_holds, have_holds}
use Rattle.tp_soak.specs.Kept.{AreEngines}
use Rattle.tp_soak.specs.Machines.{actions, at, feeder, locations, modules, resources}
use Rattle.tp_soak.specs.declared.made_engine.MadeEngine.{MadeEngine}
use Rattle.tp_soak.proofs.EngineFacts.{holds_of}

abbrev pub Named : List MadeEngine → Type 0
Named engines = IsTrue (are_named locations (modules engines) (feeder ∷ []) (resources engines) (actions engines))

abbrev pub Counted : List MadeEngine → Type 0
Counted engines = IsTrue (are_counts locations (modules engines) (resources engines) (actions engines))

abbrev pub Resourced : List MadeEngine → Type 0
Resourced engines = IsTrue (are_resources (modules engines) (resources engines))

abbrev pub Amounts : List MadeEngine → Type 0
Amounts engines = IsTrue (are_amounts (feeder ∷ []) (resources engines) (actions engines))

abbrev pub Differ : List MadeEngine → Type 0
Differ engines = IsTrue (do_actions_differ (actions engines))

abbrev pub Ways : List MadeEngine → Type 0
Ways engines = IsTrue (are_ways locations (modules engines) (at 3 ∷ []) (at 4 ∷ []) (feeder ∷ []) (actions engines))

abbrev pub Last : List MadeEngine → Type 0
Last engines = IsTrue (have_durations (actions engines))

abbrev pub FewHolds : List MadeEngine → Type 0
FewHolds engines = IsTrue (have_few_holds (actions engines))

abbrev pub SoundHolds : List MadeEngine → Type 0
SoundHolds engines = IsTrue (have_holds (resources engines) (actions engines))

some : (a : ℕ) → nat_le 1 (4 + a) ≡ true
some a = grind (arith, nat_tests)

ranged : (a : ℕ) → nat_le (4 + a) (4 + a + 4) ≡ true
ranged a = grind (arith, nat_tests)

short : (a : ℕ) → a < 8 → nat_le (4 + a + 4) 4096 ≡ true
short a few = grind (arith, nat_tests)

lasts : (a : ℕ) → int_lt (pos 0) (pos (4 + a) +ℤ pos 0) ≡ true
lasts a = grind (arith, nat_tests)

pub named : (engines : List MadeEngine) → AreEngines engines → Named engines
unfolding are_named digits
named = holds_of Named (record { two = λ a b f g. refl; three = λ a b c f g h. refl; four = λ a b c d f g h i. refl })

pub counted : (engines : List MadeEngine) → AreEngines engines → Counted engines
counted = holds_of Counted (record { two = λ a b f g. refl; three = λ a b c f g h. refl; four = λ a b c d f g h i. refl })

pub resourced : (engines : List MadeEngine) → AreEngines engines → Resourced engines
unfolding digits
resourced = holds_of Resourced (record { two = λ a b f g. refl; three = λ a b c f g h. refl; four = λ a b c d f g h i. refl })

pub amounts : (engines : List MadeEngine) → AreEngines engines → Amounts engines
unfolding are_amounts
amounts = holds_of Amounts (record { two = λ a b f g. refl; three = λ a b c f g h. refl; four = λ a b c d f g h i. refl })

pub differ : (engines : List MadeEngine) → AreEngines engines → Differ engines
unfolding digits
differ = holds_of Differ (record { two = λ a b f g. refl; three = λ a b c f g h. refl; four = λ a b c d f g h i. refl })

pub ways : (engines : List MadeEngine) → AreEngines engines → Ways engines
ways = holds_of Ways (record { two = λ a b f g. refl; three = λ a b c f g h. refl; four = λ a b c d f g h i. refl })

pub few_holds : (engines : List MadeEngine) → AreEngines engines → FewHolds engines
unfolding have_few_holds
few_holds = holds_of FewHolds (record { two = λ a b f g. refl; three = λ a b c f g h. refl; four = λ a b c d f g h i. refl })

pub last : (engines : List MadeEngine) → AreEngines engines → Last engines
last = holds_of Last (record {
  two = λ a b f g. rw (some a, ranged a, short a f, some b, ranged b, short b g) refl;
  three = λ a b c f g h. rw (some a, ranged a, short a f, some b, ranged b, short b g, some c, ranged c, short c h) refl;
  four = λ a b c d f g h i. rw (some a, ranged a, short a f, some b, ranged b, short b g, some c, ranged c, short c h, some d, ranged d, short d i) refl;
})

pub sound_holds : (engines : List MadeEngine) → AreEngines engines → SoundHolds engines
sound_holds = holds_of SoundHolds (record {
  two = λ a b f g. rw (lasts a, lasts b) refl;
  three = λ a b c f g h. rw (lasts a, lasts b, lasts c) refl;
  four = λ a b c d f g h i. rw (lasts a, lasts b, lasts c, lasts d) refl;
})
