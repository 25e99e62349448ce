-- Bytes are a snapshot of one machine and one standing, or no JSON, or break one rule first.
use Rattle.std.proofs.Common.{◌≡◌, ◌⊎◌, ◌∙◌, ℕ, ◌-◌, ◌<◌, ◌≤◌, List, inl, inr, sym, subst, arith, lit≤}
use Rattle.std.proofs.lemmas.Option.{same_Some}
use Rattle.serde_json.specs.Data.{Data}
use Rattle.tp_machine.specs.declared.machine.Machine.{Machine}
use Rattle.tp_machine_text.proofs.OneMachine.{one_of_text}
use Rattle.tp_machine_text.specs.Texts.{IsMachineText}
use Rattle.tp_jobs.specs.declared.standing.Standing.{Standing}
use Rattle.tp_snapshot.proofs.OneTold.{one}
use Rattle.tp_snapshot.proofs.RuleFacts.{all-told}
use Rattle.tp_snapshot.specs.Laws.{HasOneVerdict}
use Rattle.tp_snapshot.specs.Rules.{Breaks, BreaksOf, HasMachine, IsSnapshot, KeepsRules, KeepsTo}
use Rattle.tp_snapshot.specs.Texts.{IsJson}

one-value : (bytes : List ℕ) (d e : Data) → IsJson bytes d → IsJson bytes e → e ≡ d
one-value bytes d e a b = same_Some e d (sym b.reads ∙ a.reads)

one-machine : (d : Data) (m n : Machine) → HasMachine d m → HasMachine d n → m ≡ n
one-machine d m n a b =
    let text : b.text ≡ a.text = same_Some b.text a.text (sym b.at ∙ a.at) in
    one_of_text a.text m n a.of_machine (subst (λ (t : List ℕ). IsMachineText t n) text b.of_machine)

pub one-read : (bytes : List ℕ) (m n : Machine) (t u : Standing) → IsSnapshot bytes m t → IsSnapshot bytes n u → (m ≡ n) × (t ≡ u)
one-read bytes m n t u (d, json, keeps) (e, json', keeps') =
    let value : e ≡ d = one-value bytes d e json json' in
    let same : KeepsRules d n u = subst (λ (v : Data). KeepsRules v n u) value keeps' in
    let machine : m ≡ n = one-machine d m n keeps.has same.has in
    let kept : KeepsTo 10 m d u = subst (λ (k : Machine). KeepsTo 10 k d u) (sym machine) same.kept in
    (machine, one m d t u (all-told m d 10 (lit≤ tt) t keeps.kept) (all-told m d 10 (lit≤ tt) u kept))

-- what is kept to a rule is kept to each rule before it
kept-less : (n k : ℕ) (m : Machine) (d : Data) (t : Standing) → n ≤ k → KeepsTo k m d t → KeepsTo n m d t
kept-less n k m d t le keeps = record {
  moment = λ from. keeps.moment (omega (arith, from, le));
  jobs = λ from. keeps.jobs (omega (arith, from, le));
  plans = λ from. keeps.plans (omega (arith, from, le));
  waiting = λ from. keeps.waiting (omega (arith, from, le));
  later = record {
    courses = λ from. keeps.later.courses (omega (arith, from, le));
    schedule = λ from. keeps.later.schedule (omega (arith, from, le));
    copies = λ from. keeps.later.copies (omega (arith, from, le));
    times = λ from. keeps.later.times (omega (arith, from, le));
  };
}

not-broken : (n : ℕ) (d : Data) (m : Machine) (t : Standing) → KeepsRules d m t → ¬ Breaks n d
not-broken n d m t keeps (inl keys) = keys.broken keeps.keys
not-broken n d m t keeps (inr (inl machine)) = machine.broken m keeps.has
not-broken n d m t keeps (inr (inr standing)) =
    let same : m ≡ standing.machine = one-machine d m standing.machine keeps.has standing.has in
    let kept : KeepsTo 10 standing.machine d t = subst (λ (k : Machine). KeepsTo 10 k d t) same keeps.kept in
    standing.breaks.broken t (kept-less n 10 standing.machine d t standing.breaks.to kept)

-- of two rules that are the first to be broken neither comes before the other
not-before : (n k : ℕ) (m : Machine) (d : Data) → BreaksOf n m d → BreaksOf k m d → ¬ (n < k)
not-before n k m d a b low =
    let (t, keeps) = b.before in
    a.broken t (kept-less n (k - 1) m d t (omega (arith, low)) keeps)

one-of : (n k : ℕ) (m : Machine) (d : Data) → BreaksOf n m d → BreaksOf k m d → n ≡ k
one-of n k m d a b = let below = not-before n k m d a b in let above = not-before k n m d b a in omega (arith, below, above)

one-broken : (n k : ℕ) (d : Data) → Breaks n d → Breaks k d → n ≡ k
one-broken n k d (inl a) (inl b) = a.first ∙ sym b.first
one-broken n k d (inl a) (inr (inl b)) = absurd (a.broken b.keys)
one-broken n k d (inl a) (inr (inr b)) = absurd (a.broken b.keys)
one-broken n k d (inr (inl a)) (inl b) = absurd (b.broken a.keys)
one-broken n k d (inr (inl a)) (inr (inl b)) = a.second ∙ sym b.second
one-broken n k d (inr (inl a)) (inr (inr b)) = absurd (a.broken b.machine b.has)
one-broken n k d (inr (inr a)) (inl b) = absurd (b.broken a.keys)
one-broken n k d (inr (inr a)) (inr (inl b)) = absurd (b.broken a.machine a.has)
one-broken n k d (inr (inr a)) (inr (inr b)) =
    let same : b.machine ≡ a.machine = one-machine d b.machine a.machine b.has a.has in
    one-of n k a.machine d a.breaks (subst (λ (m : Machine). BreaksOf k m d) same b.breaks)

pub one-verdict : (bytes : List ℕ) → HasOneVerdict bytes
one-verdict bytes = record {
  json = λ machine t is none. none is.0 is.1;
  kept = λ machine t n is broken. not-broken n is.0 machine t is.2 (subst (λ (v : Data). Breaks n v) (one-value bytes is.0 broken.0 is.1 broken.1) broken.2);
  text = λ n broken none. none broken.0 broken.1;
  first = λ n k a b. one-broken n k a.0 a.2 (subst (λ (v : Data). Breaks k v) (one-value bytes a.0 b.0 a.1 b.1) b.2);
}
