use Rattle.std.proofs.Common.{sym, arith, get_or}
use Rattle.aterm_text.proofs.ScanLemmas.{digits-few, digits-more, value-more, digit-range}
use Rattle.aterm_text.proofs.reader.scan.few_digits.Goals as goal

pub overflow_mul-value : goal.overflow_mul-value
overflow_mul-value c =
    omega (
      arith,
      digits-few c.args.text.now c.loop-byte.byte-index c.loop-byte.value c.loop-byte.invariant.digits
          c.loop-byte-test.true c.if-text-gt-FEW.false c.loop-byte.invariant.value,
    )

pub overflow_add-value : goal.overflow_add-value
overflow_add-value c =
    let range =
    digit-range (get_or c.args.text.now c.loop-byte.byte-index 0) (sym c.if-not-is_ascii_digit.ensures.value) in
    omega (
      arith,
      digits-few c.args.text.now c.loop-byte.byte-index c.loop-byte.value c.loop-byte.invariant.digits
          c.loop-byte-test.true c.if-text-gt-FEW.false c.loop-byte.invariant.value,
      c.from.ensures,
      range.0,
      range.1,
    )

pub loop-byte-preserved : goal.loop-byte-preserved
loop-byte-preserved c =
    let range =
    digit-range (get_or c.args.text.now c.loop-byte.byte-index 0) (sym c.if-not-is_ascii_digit.ensures.value) in
    record {
      digits =
          digits-more c.args.text.now c.loop-byte.byte-index c.loop-byte-test.true c.loop-byte.invariant.digits range;
      value = value-more c.args.text.now c.loop-byte.byte-index c.loop-byte.value c.from.result c.loop-byte-test.true
          c.loop-byte.invariant.value range (omega (arith, c.from.ensures, range.0));
    }
