-- What is written for a sound standing keeps the ten rules.
use Rattle.std.proofs.Common.{◌≡◌, ℕ, true, List, Some, refl, codes}
use Rattle.serde_json.specs.Data.{Data}
use Rattle.serde_json.specs.Find.{as_str}
use Rattle.tp_machine.specs.declared.machine.Machine.{Machine}
use Rattle.tp_jobs.specs.declared.standing.Standing.{Standing}
use Rattle.tp_session_standing.specs.Sound.{IsSound}
use Rattle.tp_snapshot_rules.specs.Rules.{AreKeptTo, KeepsWaiting}
use Rattle.tp_snapshot.proofs.ToldBack.{told-back}
use Rattle.tp_snapshot.specs.Laws.{IsSpelled}
use Rattle.tp_snapshot.specs.Rules.{IsSnapshot, KeepsTo, has_keys}
use Rattle.tp_snapshot.specs.Texts.{IsWritten}
use Rattle.tp_snapshot.specs.Values.{field_of, whole_of}
use Rattle.tp_snapshot.specs.Written.{snapshot_data}

-- a sound standing keeps the rules that speak of it
module _ (machine : Machine) (t : Standing) (sound : IsSound machine t) where
  waits : KeepsWaiting machine t
  waits = record {
    in_order = sound.in_order;
    can_wait = λ k w low. (let kept = sound.waiting k w low in record { media = kept.media; unplanned = kept.unplanned; whole = kept.whole });
    few_open = sound.few_open;
  }

  later : AreKeptTo 10 machine t
  later = record {
    courses = λ _ k p low. record { timed = sound.legal.timed k p low; live = (sound.plans k p low).live };
    schedule = λ _. record {
      legal = sound.legal;
      horizon = sound.horizon;
      come = λ k p low. (let kept = sound.plans k p low in record { front = kept.front; purge = kept.purge; clear = kept.clear });
    };
    copies = λ _. record {
      one = sound.one;
      newest = sound.newest;
      line = λ k w low. (sound.waiting k w low).line;
      broken = λ k p low. (sound.plans k p low).broken;
    };
    times = λ _. sound.least;
  }

  module _ (text : List ℕ) (spelled : IsSpelled t) where
    abbrev d : Data
    d = snapshot_data text machine t

    keys : has_keys d ≡ true
    unfolding has_keys snapshot_data
    keys = refl

    format : field_of (codes "format") (whole_of 1) d ≡ Some 1
    unfolding snapshot_data
    format = refl

    text-at : field_of (codes "machine") as_str d ≡ Some text
    unfolding snapshot_data
    text-at = refl

    keeps : KeepsTo 10 machine d t
    keeps =
        let told = told-back text machine t sound spelled in
        record {
          moment = λ _. record { now = told.now; outs = told.outs; stock = told.stock };
          jobs = λ _. record { jobs = told.jobs; differ = told.differ };
          plans = λ _. record { plans = told.plans; in_order = sound.legal.in_order };
          waiting = λ _. record { waiting = told.waiting; keeps = waits };
          later = later;
        }

pub written-is-read : (bytes : List ℕ) (machine : Machine) (t : Standing) → IsSound machine t → IsSpelled t → IsWritten bytes machine t → IsSnapshot bytes machine t
written-is-read bytes machine t sound spelled written = (
  snapshot_data written.text machine t,
  written.json,
  record {
    keys = keys machine t sound written.text spelled;
    has = record { format = format machine t sound written.text spelled; text = written.text; at = text-at machine t sound written.text spelled; of_machine = written.of_machine };
    kept = keeps machine t sound written.text spelled;
  },
)
