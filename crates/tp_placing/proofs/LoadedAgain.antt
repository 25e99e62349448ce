-- A board on which no goal is open is loaded, whatever is asked of it next.
use Rattle.std.proofs.Common.{◌≡◌, ◌∙◌, ℕ, ◌<◌, false, List, [], length, All, get_or, ap, sym, subst, arith}
use Rattle.std.proofs.lemmas.List.Elements.{All-contains}
use Rattle.tp_base.specs.Readings.{Reading}
use Rattle.tp_base.specs.Net.{Net}
use Rattle.tp_machine.specs.declared.machine.Machine.{Machine}
use Rattle.tp_schedule.specs.Spots.Spot.{own}
use Rattle.tp_schedule.specs.declared.parts.Ask.{Ask}
use Rattle.tp_schedule.specs.declared.parts.Plan.{Plan}
use Rattle.tp_constraints.proofs.Lists.{contains-get, get-there}
use Rattle.tp_constraints.specs.Gaps.{IsPoint}
use Rattle.tp_constraints.specs.Hops.{no_choices}
use Rattle.tp_constraints.specs.Nets.{IsLoadedNet}
use Rattle.tp_constraints.specs.Numbers.{spot_in, table_of}
use Rattle.tp_constraints.proofs.PlanHopFacts.{other_ask}
use Rattle.tp_placing.specs.Boards.{BoardValue}
use Rattle.tp_placing.specs.Causes.{IsNamedHop, hop_by, numbered}
use Rattle.tp_placing.specs.Loaded.{IsLoaded}
use Rattle.tp_placing.specs.LoadedBoard.{AreCaused, IsAt, StandsOn}
use Rattle.tp_placing.specs.declared.causes.EdgeCause.{EdgeCause}
use Rattle.tp_placing.proofs.LoadHops.{number-spot}

-- a point of a loaded network is no own one
no-own : (machine : Machine) (now : ℕ) (plans : List Plan) (n : Net) → IsLoadedNet machine now (λ _. false) plans (table_of plans) n → (i : ℕ) → i < length (table_of plans) → (k : ℕ) → numbered plans i ≡ own k → ⊥
no-own machine now plans n is i within k same =
    let s = get-there (table_of plans) i within in
    let point : IsPoint plans 0 s.0 = All-contains (IsPoint plans 0) (table_of plans) s.0 is.is_table.only (contains-get (table_of plans) i s.0 s.1) in
    let there : s.0 ≡ own k = sym (ap spot_in s.1) ∙ sym (number-spot plans i within) ∙ same in
    let none : k < 0 = subst (IsPoint plans 0) there point in
    absurd (omega (arith, none))

-- the edges are hops under any ask
hops-again : (machine : Machine) (now : ℕ) (plans : List Plan) (ask other : Ask) (causes : List EdgeCause) (n : Net) → IsLoadedNet machine now (λ _. false) plans (table_of plans) n
    → All (IsNamedHop machine plans ask no_choices causes) n.edges → All (IsNamedHop machine plans other no_choices causes) n.edges
hops-again machine now plans ask other causes n is hops k d within =
    let e = get_or n.edges k d in
    let ends = is.edges k d within in
    let one = hops k d within in
    record {
      tag = one.tag;
      is_hop = other_ask machine plans ask other (hop_by plans causes (get_or n.edges k d))
          (λ j same. no-own machine now plans n is (get_or n.edges k d).from.0 ends.0 j same)
          (λ j same. no-own machine now plans n is (get_or n.edges k d).to.0 ends.1 j same) one.is_hop;
    }

pub loaded-again : {N : Type 0} (reading : Reading N) (b : BoardValue N) (machine : Machine) (ask : Ask) → StandsOn reading b machine ask → b.steps ≡ []
    → IsLoaded machine ask.now b.plans (reading.net b.net) b.orders.orders b.held b.firsts b.causes
loaded-again reading b machine ask stands closed =
    let at = subst (λ s. IsAt machine b.plans ask s (reading.net b.net) b.orders.orders b.held) closed stands.now in
    let caused = subst (λ s. AreCaused machine b.plans ask b.causes s (reading.net b.net)) closed stands.caused in
    let edges = at.few_edges in
    let holds = at.few_holds in
    record {
      net = at.net;
      says = at.says;
      solved = at.solved;
      hops = λ other. hops-again machine ask.now b.plans ask other b.causes (reading.net b.net) at.net caused.hops;
      safe = caused.safe;
      plain = stands.plain;
      orders = at.orders;
      few_edges = omega arith;
      few_holds = omega arith;
      all_held = at.all_held;
      small = at.small;
      at_firsts = stands.firsts;
    }
