-- The digits of a number in a base are read as it, and no digits that are read as it are fewer.
use Rattle.std.proofs.Common.{◌≡◌, ◌<◌, ◌≤◌, ◌+◌, ◌*◌, ◌/◌, ◌%◌, ◌^◌, ◌&&◌, ℕ, zero, suc, Bool, true, false, cond, List, [], ◌∷◌, length, eqb, ltb, leb, Option, Some, None, refl, sym, ap, subst, ◌∙◌, arith, lt-ltb, le-leb, mod-lt, div-le_self, div-lt_iff_lt-mul, div-add-mod', pow-suc, add-zero, mul-le-mul_right, lt_of_le_of_lt}
use Rattle.std.proofs.Math.Nat.{pow-zero}
use Rattle.std.specs.Fmt.{digits, digits_onto, digit_glyph}
use Rattle.std.proofs.lemmas.Bool.{cond-true, cond-false, cond_both, and_from, and_parts, and_right, ltb-true, ltb-false, lt-leb, eqb-true, eqb-false}
use Rattle.std.proofs.lemmas.Option.{none-some, same_Some}
use Rattle.std.proofs.lemmas.Fmt.{digits_is_IsNumeral}
use Rattle.osal_line.specs.Values.{digit_value, with_digit, digits_after, digits_of, is_between}
use Rattle.osal_line.proofs.Digits.{digits_after-none, digits_of-some}

-- the digits of a number, one before the other
pub digits_by_steps : (base n : ℕ) → digits_onto 64 base false n [] ≡ digits base false n
unfolding digits
digits_by_steps base n = refl

-- a byte lies between two others
pub between : (low high byte : ℕ) → low ≤ byte → byte ≤ high → is_between low high byte ≡ true
between low high byte above below = and_from (leb low byte) (leb byte high) (le-leb low byte above) (le-leb byte high below)

decimal_glyph : (d : ℕ) → d < 10 → digit_value (48 + d) ≡ Some d
decimal_glyph d small =
    cond-true (is_between 48 57 (48 + d)) _ _ (between 48 57 (48 + d) (omega arith) (omega arith)) ∙ ap Some (omega arith)

letter_glyph : (d : ℕ) → 10 ≤ d → d < 16 → digit_value (87 + d) ≡ Some d
letter_glyph d large small =
    cond-false (is_between 48 57 (87 + d)) _ _ (and_right (leb 48 (87 + d)) (leb (87 + d) 57) (lt-leb (87 + d) 57 (omega arith)))
    ∙ cond-true (is_between 97 102 (87 + d)) _ _ (between 97 102 (87 + d) (omega arith) (omega arith))
    ∙ ap Some (omega arith)

-- the glyph of a digit is read as it
pub glyph_value : (d : ℕ) → d < 16 → digit_value (digit_glyph false d) ≡ Some d
glyph_value d small =
    cond_both (ltb d 10) (48 + d) (87 + d) (λ glyph. digit_value glyph ≡ Some d)
    (λ t. decimal_glyph d (ltb-true d 10 t))
    (λ t. letter_glyph d (ltb-false d 10 t) small)

module _ (base limit : ℕ) (low : 2 ≤ base) (high : base ≤ 16) where
  some : 0 < base
  some = omega arith

  one_digit : (m d n : ℕ) → d < base → m * base + d ≡ n → n < limit → with_digit base limit m (Some d) ≡ Some n
  one_digit m d n small is fits =
      cond-true (ltb d base && ltb (m * base + d) limit) _ _
      (and_from (ltb d base) (ltb (m * base + d) limit) (lt-ltb d base small) (lt-ltb (m * base + d) limit (subst (λ v. v < limit) (sym is) fits)))
      ∙ ap Some is

  spelled_again : (k n : ℕ) (acc : List ℕ) → n < base ^ k → n < limit → digits_after base limit (digits_onto k base false n acc) (Some 0) ≡ digits_after base limit acc (Some n)
  spelled_again zero n acc small fits = ap (λ (m : ℕ). digits_after base limit acc (Some m)) {x = 0} {y = n} (omega (arith, pow-zero base))
  spelled_again (suc k) n acc small fits =
      let digit : n % base < base = mod-lt n some in
      let value = glyph_value (n % base) (omega (arith, digit)) in
      let whole = div-add-mod' n base in
      let glyph : ℕ = digit_glyph false (n % base) in
      cond_both (eqb (n / base) 0) (glyph ∷ acc) (digits_onto k base false (n / base) (glyph ∷ acc)) (λ ds. digits_after base limit ds (Some 0) ≡ digits_after base limit acc (Some n))
      (λ t. ap (digits_after base limit acc) (ap (with_digit base limit 0) value ∙ one_digit 0 (n % base) n digit (ap (λ q. q * base + n % base) (sym (eqb-true (n / base) 0 t)) ∙ whole) fits))
      (λ t.
      spelled_again k (n / base) (glyph ∷ acc) ((div-lt_iff_lt-mul some).1 (subst (λ v. n < v) (pow-suc base k) small)) (lt_of_le_of_lt (div-le_self n base) fits)
      ∙ ap (digits_after base limit acc) (ap (with_digit base limit (n / base)) value ∙ one_digit (n / base) (n % base) n digit whole fits))

  -- the digits of a number are read as it
  pub digits_again : (n : ℕ) → n < base ^ 64 → n < limit → digits_of base limit (digits base false n) ≡ Some n
  digits_again n small fits =
      sym (digits_of-some base limit (digits base false n) (digits_is_IsNumeral base false low high n small).0.0)
      ∙ ap (λ ds. digits_after base limit ds (Some 0)) (sym (digits_by_steps base n))
      ∙ spelled_again 64 n [] small fits

  spelled_short : (j k n : ℕ) (acc : List ℕ) → n < base ^ suc j → length (digits_onto k base false n acc) ≤ suc j + length acc
  spelled_short j zero n acc small = omega arith
  spelled_short j (suc k) n acc small =
      let glyph : ℕ = digit_glyph false (n % base) in
      cond_both (eqb (n / base) 0) (glyph ∷ acc) (digits_onto k base false (n / base) (glyph ∷ acc)) (λ ds. length ds ≤ suc j + length acc)
      (λ t. omega arith)
      (λ t. more j ((div-lt_iff_lt-mul some).1 (subst (λ v. n < v) (pow-suc base j) small)) t (λ i h. spelled_short i k (n / base) (glyph ∷ acc) h))
    where
      more : (j : ℕ) → n / base < base ^ j → eqb (n / base) 0 ≡ false → ((i : ℕ) → n / base < base ^ suc i → length (digits_onto k base false (n / base) (digit_glyph false (n % base) ∷ acc)) ≤ suc i + suc (length acc)) → length (digits_onto k base false (n / base) (digit_glyph false (n % base) ∷ acc)) ≤ suc j + length acc
      more zero h t shorter = absurd (eqb-false (n / base) 0 t (omega (arith, h, pow-zero base)))
      more (suc i) h t shorter = omega (arith, shorter i h)

  -- a number below a power has no more digits
  pub digits_short : (j n : ℕ) → n < base ^ suc j → length (digits base false n) ≤ suc j
  digits_short j n small = omega (arith, spelled_short j 64 n [] small, ap length (digits_by_steps base n))

  -- a number that is read is below the limit, and below the power
  abbrev IsBelow : ℕ → ℕ → Type 0
  IsBelow k n = (n < limit) × (n < base ^ k)

  next_bound : (j m : ℕ) (cs : List ℕ) (o : Option ℕ) (n : ℕ) → m < base ^ j → ((v : ℕ) → v < limit → v < base ^ suc j → digits_after base limit cs (Some v) ≡ Some n → IsBelow (suc j + length cs) n) → digits_after base limit cs (with_digit base limit m o) ≡ Some n → IsBelow (suc j + length cs) n
  next_bound j m cs None n below rest read = absurd (none-some n (sym (digits_after-none base limit cs) ∙ read))
  next_bound j m cs (Some d) n below rest read = by (ltb d base && ltb (m * base + d) limit) refl read
    where
      by : (b : Bool) → (ltb d base && ltb (m * base + d) limit) ≡ b → digits_after base limit cs (cond b (Some (m * base + d)) None) ≡ Some n → IsBelow (suc j + length cs) n
      by false is read = absurd (none-some n (sym (digits_after-none base limit cs) ∙ read))
      by true is read =
          let parts = and_parts (ltb d base) (ltb (m * base + d) limit) is in
          let digit = ltb-true d base parts.0 in
          let up : suc m * base ≤ base ^ j * base = mul-le-mul_right base below in
          rest (m * base + d) (ltb-true (m * base + d) limit parts.1) (omega (arith, up, pow-suc base j, digit)) read

  read_bound : (j m : ℕ) (ds : List ℕ) (n : ℕ) → m < limit → m < base ^ j → digits_after base limit ds (Some m) ≡ Some n → IsBelow (j + length ds) n
  read_bound j m [] n fits below read =
      let same = same_Some m n read in
      (subst (λ v. v < limit) same fits, subst (λ v. v < base ^ (j + 0)) same (subst (λ e. m < base ^ e) (sym (add-zero j)) below))
  read_bound j m (c ∷ cs) n fits below read =
      let moved : suc j + length cs ≡ j + length (c ∷ cs) = omega arith in
      subst (λ k. IsBelow k n) moved (next_bound j m cs (digit_value c) n below (λ v l b e. read_bound (suc j) v cs n l b e) read)

  -- what some digits are read as
  pub digits_read : (ds : List ℕ) (n : ℕ) → 0 < limit → digits_of base limit ds ≡ Some n → (0 < length ds) × (n < limit) × (n < base ^ length ds)
  digits_read [] n room read = absurd (none-some n read)
  digits_read (c ∷ cs) n room read =
      let below = read_bound 0 0 (c ∷ cs) n room (omega (arith, pow-zero base)) read in
      let same : 0 + length (c ∷ cs) ≡ length (c ∷ cs) = omega arith in
      (omega arith, below.0, subst (λ k. n < base ^ k) same below.1)
