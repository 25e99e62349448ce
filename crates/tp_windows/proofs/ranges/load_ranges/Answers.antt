use Rattle.std.proofs.Common.{ap, arith, length, subst, sym}
use Rattle.std.proofs.lemmas.List.{length_push}
use Rattle.std.specs.Prelude.{◌<◌, ◌≤◌, ◌++◌, ◌∷◌, []}
use Rattle.tp_windows.specs.Arrays.{IsBetween}
use Rattle.tp_windows.proofs.RangeFacts.{between_push}
use Rattle.tp_windows.proofs.ranges.load_ranges.Goals as goal

pub points-preserved : goal.points-preserved
points-preserved g c =
    let wide = c.points.invariant.wide in
    let lows = c.points.ranges.lows.items in
    let highs = c.points.ranges.highs.items in
    let n = c.points.point in
    let t = c.points-test.true in
    let all = c.requires.points in
    let less : n < length (g.N.Network.reading.net c.args.net.now).lows = omega (arith, t, all) in
    record {
      wide =
          let long-low = length_push lows c.earliest.result in
          let long-high = length_push highs c.cap.result in
          let low-is = ap length c.push_reserved.ensures.items in
          let high-is = ap length c.push_reserved-in-points.ensures.items in
          let old-low = wide.0 in
          let old-high = wide.1 in
          (omega (arith, long-low, low-is, old-low), omega (arith, long-high, high-is, old-high));
      between = λ y is.
          let above : c.earliest.result ≤ y n = subst (λ k. k ≤ y n) (sym c.earliest.ensures.2) (c.earliest.ensures.1.least y is n less) in
          let below : y n ≤ c.cap.result = subst (λ k. y n ≤ k) (sym c.cap.ensures) (is.below_cap n less) in
          let pushed = between_push y lows highs n c.earliest.result c.cap.result wide.0 wide.1 (c.points.invariant.between y is) above below in
          subst (λ a. IsBetween y a c.push_reserved-in-points.new.self.items) (sym c.push_reserved.ensures.items)
          (subst (λ b. IsBetween y (lows ++ c.earliest.result ∷ []) b) (sym c.push_reserved-in-points.ensures.items) pushed);
    }
