-- Whatever is printed in two decimal digits is below 100.
-- Assumes nothing.
use mathlib.Core.Path.{◌≡◌}
use mathlib.Core.Bool.{true}
use Prim.Native.Nat.{ℕ, ◌+◌, ◌-◌, ◌*◌, ◌/◌, ◌%◌, ◌≤◌, ◌<◌}
use native.Mathlib.Omega.{arith}
use lib.ListN.{get_or}
use borrow.Author.Tests.{le-leb}
use Rattle.pools.proofs.Bounds.{step-number-small, step-emptied-few, pools-small}
use Rattle.bench.specs.Hexadecimal.{is_decimal, is_digit, digit_value, all_digits, decimal}
use Rattle.bench.specs.Statements.{TwoDigits}

-- ---- digits

digit-below : (n : ℕ) → n < 10 → is_digit (48 + n) ≡ true
unfolding is_digit is_decimal
digit-below n h = rw (le-leb 48 (48 + n) (omega arith), le-leb (48 + n) 57 (omega arith))

decimal-digits : (n : ℕ) → n ≤ 99 → all_digits (decimal n) ≡ true
unfolding all_digits decimal
decimal-digits n h = rw (digit-below (n / 10) (omega arith), digit-below (n % 10) (omega arith))

value-below : (n : ℕ) → n < 10 → digit_value (48 + n) ≡ n
unfolding digit_value is_decimal
value-below n h =
    let e : 48 + n - 48 ≡ n = omega arith in
    rw (le-leb 48 (48 + n) (omega arith), le-leb (48 + n) 57 (omega arith)) e

decimal-value : (n : ℕ) → n ≤ 99 → 10 * digit_value (get_or (decimal n) 0 0) + digit_value (get_or (decimal n) 1 0) ≡ n
unfolding decimal
decimal-value n h =
    let e : 10 * (n / 10) + n % 10 ≡ n = omega arith in
    rw (value-below (n / 10) (omega arith), value-below (n % 10) (omega arith)) e

pub two_digits : TwoDigits
two_digits =
    record {
      numbers = step-number-small;
      emptied = step-emptied-few;
      pools = pools-small;
      digits = decimal-digits;
      value = decimal-value;
    }
