use Rattle.std.proofs.Common.{◌≡◌, ◌+◌, take, arith}
use Rattle.std.specs.Str.Parse.{digits_value}
use Rattle.tp_words.proofs.NumberFacts.{value-more, value_below, is_true}
use Rattle.tp_words.proofs.numbers.value.Goals as goal

pub overflow_mul-value : goal.overflow_mul-value
overflow_mul-value c =
    let b = value_below c.args.text.now c.loop-digit.digit-index (is_true c.requires.digits) c.requires.short in
    let i : c.loop-digit.value ≡ digits_value 10 (take c.loop-digit.digit-index c.args.text.now) = c.loop-digit.invariant in
    omega (arith, b, i)

pub overflow_add-value : goal.overflow_add-value
overflow_add-value c =
    let b = value_below c.args.text.now (c.loop-digit.digit-index + 1) (is_true c.requires.digits) c.requires.short in
    let m = value-more c.args.text.now c.loop-digit.digit-index (is_true c.requires.digits) c.loop-digit-test.true in
    let i : c.loop-digit.value ≡ digits_value 10 (take c.loop-digit.digit-index c.args.text.now) = c.loop-digit.invariant in
    omega (arith, b, m, i)

pub loop-digit-preserved : goal.loop-digit-preserved
loop-digit-preserved c =
    let m = value-more c.args.text.now c.loop-digit.digit-index (is_true c.requires.digits) c.loop-digit-test.true in
    let i : c.loop-digit.value ≡ digits_value 10 (take c.loop-digit.digit-index c.args.text.now) = c.loop-digit.invariant in
    omega (arith, m, i)
