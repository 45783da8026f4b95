-- What reads decimal numbers, at most of 32 bits, reads each again from its decimal digits.
use Rattle.std.proofs.Common.{◌≡◌, ◌<◌, ◌≤◌, ◌^◌, ℕ, List, length, Option, Some, arith}
use Rattle.std.specs.Fmt.{decimal}
use Rattle.std.proofs.lemmas.Fmt.{length-decimal-le}
use Rattle.osal_line.specs.Values.{digits_of, number_below}
use Rattle.osal_print.proofs.Shown.{Shows}
use Rattle.osal_print.proofs.Digits.{digits_again, digits_read}
use Rattle.osal_print.proofs.Numbers.{number_read, decimal_again, decimal_shorter, decimal_word}

-- a number that is read is small, and is shown by its decimal digits
pub record ReadsDecimals (read : List ℕ → Option ℕ) (most : ℕ) : Type 0 where
  pub again : (n : ℕ) → n < most → read (decimal n) ≡ Some n
  pub below : (word : List ℕ) (n : ℕ) → read word ≡ Some n → n < most
  pub shown : (word : List ℕ) (n : ℕ) → read word ≡ Some n → Shows read n (decimal n) word

-- the numbers below a limit
pub numbers_read : (limit : ℕ) → 0 < limit → limit ≤ 2 ^ 32 → ReadsDecimals (number_below limit) limit
numbers_read limit room most = record {
  again = λ n fits. decimal_again limit n fits (omega arith);
  below = λ word n read. (number_read limit word n room read).fits;
  shown = λ word n read.
      let spelled = number_read limit word n room read in
      let fits = spelled.fits in
      record {
        again = decimal_again limit n fits (omega arith);
        fit = decimal_word n (omega arith);
        shorter = decimal_shorter limit (length word) n most spelled;
      };
}

-- the decimal numbers below a limit
pub decimals_read : (limit : ℕ) → 0 < limit → limit ≤ 2 ^ 32 → ReadsDecimals (digits_of 10 limit) limit
decimals_read limit room most = record {
  again = λ n fits. digits_again 10 limit (omega arith) (omega arith) n (omega arith) fits;
  below = λ word n read. (digits_read 10 limit (omega arith) (omega arith) word n room read).1;
  shown = λ word n read.
      let facts = digits_read 10 limit (omega arith) (omega arith) word n room read in
      let fits = facts.1 in
      record {
        again = digits_again 10 limit (omega arith) (omega arith) n (omega arith) fits;
        fit = decimal_word n (omega arith);
        shorter = length-decimal-le (length word) n facts.0 facts.2 (omega arith);
      };
}
