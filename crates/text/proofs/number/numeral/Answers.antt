use Rattle.std.proofs.Common.{◌≡◌, ◌+◌, ◌*◌, ◌^◌, ◌<◌, get_or, drop, sym, subst, arith}
use Rattle.std.specs.Str.Parse.{digits_value_after, digits_value}
use Rattle.std.proofs.lemmas.Bool.{eqb-false}
use Rattle.text.proofs.Numerals.{not_digit, digit_range, rest_more, value_goes, value_room, value_small, number_whole, number_below}
use Rattle.text.proofs.number.numeral.Goals as goal

pub returns-then-not-is_ascii_digit : goal.returns-then-not-is_ascii_digit
returns-then-not-is_ascii_digit c = record {
  value = not_digit c.args.bytes.now c.loop-byte.byte-index c.loop-byte.value c.loop-byte-test.true
      c.loop-byte.invariant.0 c.loop-byte.invariant.1 c.args.most (sym c.if-not-is_ascii_digit.ensures.value);
  below = tt;
}

pub overflow_mul-value : goal.overflow_mul-value
overflow_mul-value c = omega (arith, value_small c.loop-byte.byte-index c.loop-byte.value c.loop-byte.invariant.2 (omega arith))

pub overflow_add-value : goal.overflow_add-value
overflow_add-value c =
    let r = digit_range (get_or c.args.bytes.now c.loop-byte.byte-index 0) (sym c.if-not-is_ascii_digit.ensures.value) in
    omega (arith, value_small c.loop-byte.byte-index c.loop-byte.value c.loop-byte.invariant.2 (omega arith))

pub loop-byte-preserved : goal.loop-byte-preserved
loop-byte-preserved c =
    let bs = c.args.bytes.now in
    let i = c.loop-byte.byte-index in
    let v = c.loop-byte.value in
    let e = sym c.if-not-is_ascii_digit.ensures.value in
    let f = sym c.from.ensures in (
      rest_more bs i v c.loop-byte-test.true c.loop-byte.invariant.0 c.loop-byte.invariant.1 e,
      subst (λ n. digits_value_after 10 (10 * v + n) (drop (i + 1) bs) ≡ digits_value 10 bs) f (value_goes bs i v c.loop-byte-test.true c.loop-byte.invariant.0 c.loop-byte.invariant.1 e),
      subst (λ n. 10 * v + n < 10 ^ (i + 1)) f (value_room i v (get_or bs i 0) c.loop-byte.invariant.2 (digit_range (get_or bs i 0) e).1),
    )

pub returns : goal.returns
returns c =
    let e =
    number_whole c.args.most c.args.bytes.now c.loop-byte.byte-index c.loop-byte.value (omega arith)
    (omega (arith, eqb-false _ _ (sym c.if-is_empty.ensures))) (omega arith) c.loop-byte.invariant.0 c.loop-byte.invariant.1 in
    record { value = e; below = number_below c.args.most c.args.bytes.now c.loop-byte.value e }
