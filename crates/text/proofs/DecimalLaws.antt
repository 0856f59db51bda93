-- A number's five columns are read as that number, and five columns that are read as a number are that number's columns.
-- By the weight of the first column, so that every column is treated by one law. Assumes nothing.
use Prim.Native.Nat.{ℕ, zero, suc, ◌+◌, ◌-◌, ◌*◌, ◌/◌, ◌%◌, ◌^◌, ◌<◌, ◌≤◌}
use mathlib.Core.Path.{◌≡◌, refl, sym, ◌∙◌, ap, ap₂}
use mathlib.Core.Bool.{Bool, true, false, cond, not, ◌&&◌}
use mathlib.Core.List.{List, [], ◌∷◌}
use native.Mathlib.Nat.{pow-suc, one-le-pow, div-div-eq-div-mul, div-one, div-eq_of_lt, div-lt_iff_lt-mul, le-div_iff_mul-le}
use native.Mathlib.Omega.{arith}
use lib.ListN.{length}
use lib.Dec.{ltb, eqb}
use borrow.Author.Tests.{lt-ltb, le-ltb, le-leb, eqb-false, eq-eqb, ne_eqb, not-true}
use Rattle.law.proofs.Bool.{and_left, and_right, and_no_right, cond_false}
use Rattle.law.proofs.Bounded.{by_order, by_equal}
use Rattle.text.proofs.FieldLaws.{digit_range}
use Rattle.text.specs.Field.{is_digit, digits, columns}
use Rattle.text.specs.Decimal.{digit_column, decimal}
use Rattle.std.proofs.Common.{Option, Some, None}

-- The last k columns of n; the column before them has the weight 10 ^ k.
tail : ℕ → ℕ → List ℕ
tail n zero = []
tail n (suc k) = digit_column n (10 ^ k) ∷ tail n k

weight_pos : (k : ℕ) → 0 < 10 ^ k
weight_pos k = one-le-pow k 10 (omega arith)

weight_next : (n k : ℕ) → n / 10 ^ suc k ≡ n / 10 ^ k / 10
weight_next n k = rw pow-suc (sym (div-div-eq-div-mul n (10 ^ k) 10))

-- What stands in a column: a space above the number's digits, else a digit.
column_space : (n k : ℕ) → n < 10 ^ suc k → digit_column n (10 ^ suc k) ≡ 32
unfolding digit_column
column_space n k h =
    let more : 10 ^ suc k ≡ 1 → ⊥ = λ e. omega (arith, weight_pos k, pow-suc 10 k) in
    simp (lt-ltb n (10 ^ suc k) h, ne_eqb (10 ^ suc k) 1 more)

column_last : (n : ℕ) → digit_column n (10 ^ 0) ≡ 48 + n / 10 ^ 0 % 10
unfolding digit_column
column_last n = cond_false (ltb n 1 && false) 32 (48 + n / 1 % 10) (and_no_right (ltb n 1) false refl)

column_digit : (n k : ℕ) → 0 < n / 10 ^ k → digit_column n (10 ^ k) ≡ 48 + n / 10 ^ k % 10
unfolding digit_column
column_digit n k h =
    by_order n (10 ^ k)
    (λ l. absurd (omega (arith, div-eq_of_lt l)))
    (λ g. simp (le-ltb n (10 ^ k) g))

-- One column read, forward and back.
digit_is : (c : ℕ) → 48 ≤ c → c ≤ 57 → is_digit c ≡ true
digit_is c l g = simp (le-leb 48 c l, le-leb c 57 g)

no_number {ℓ} : {A : Type ℓ} (w : ℕ) → None ≡ Some w → A
no_number w e = let stop : ◌≡◌ {A = ℕ} 0 1 = cc in absurd (omega arith)

number_if : (b : Bool) (x : Option ℕ) (w : ℕ) → cond b x None ≡ Some w → (b ≡ true) × (x ≡ Some w)
number_if true x w e = (refl, e)
number_if false x w e = no_number w e

-- the column of weight 10 ^ k, read as the next digit, as a space, as the first digit
module _ (n k : ℕ) (cs : List ℕ) where
  digits_next : 0 < n / 10 ^ suc k → digits (n / 10 ^ suc k) (digit_column n (10 ^ k) ∷ cs) ≡ digits (n / 10 ^ k) cs
  unfolding digits
  digits_next h =
      let up = weight_next n k in
      let c : digit_column n (10 ^ k) ≡ 48 + n / 10 ^ k % 10 = column_digit n k (omega arith) in
      simp (c, digit_is (48 + n / 10 ^ k % 10) (omega arith) (omega arith), ne_eqb (n / 10 ^ suc k) 0 (λ e. omega arith))
      (ap (λ (v : ℕ). digits v cs) (omega arith))

  columns_space : n < 10 ^ suc k → columns (digit_column n (10 ^ suc k) ∷ cs) ≡ columns cs
  unfolding columns
  columns_space h = simp (column_space n k h)

  columns_first : n < 10 ^ suc k → digit_column n (10 ^ k) ≡ 48 + n / 10 ^ k % 10 → columns (digit_column n (10 ^ k) ∷ cs) ≡ digits (n / 10 ^ k) cs
  unfolding columns
  columns_first h c =
      let low : n / 10 ^ k < 10 = (div-lt_iff_lt-mul (weight_pos k)).1 (omega (arith, pow-suc 10 k)) in
      simp (c, ne_eqb (48 + n / 10 ^ k % 10) 32 (λ e. omega arith), digit_is (48 + n / 10 ^ k % 10) (omega arith) (omega arith))
      (ap (λ (v : ℕ). digits v cs) (omega arith))

-- A number's columns are read as the number: those behind its first digit, and all.
digits_tail : (k n : ℕ) → 0 < n / 10 ^ k → digits (n / 10 ^ k) (tail n k) ≡ Some n
unfolding tail digits
digits_tail zero n h = ap Some (div-one n)
digits_tail (suc k) n h = digits_next n k (tail n k) h ∙ digits_tail k n (omega (arith, weight_next n k))

columns_tail : (k n : ℕ) → n < 10 ^ suc k → columns (tail n (suc k)) ≡ Some n
unfolding tail digits
columns_tail zero n h = columns_first n 0 [] h (column_last n) ∙ ap Some (div-one n)
columns_tail (suc k) n h =
    by_order n (10 ^ suc k)
    (λ l. columns_space n k (tail n (suc k)) l ∙ columns_tail k n l)
    (λ g.
    let some : 0 < n / 10 ^ suc k = (le-div_iff_mul-le (weight_pos (suc k))).1 (omega arith) in
    columns_first n (suc k) (tail n (suc k)) h (column_digit n (suc k) some) ∙ digits_tail (suc k) n some)

pub columns_decimal : (n : ℕ) → n < 100000 → columns (decimal n) ≡ Some n
unfolding decimal tail
columns_decimal n h = columns_tail 4 n h

-- Columns read as a number w are its columns: v, the number read before them, is what w has above their weight.
digits_back : (k v w : ℕ) (cs : List ℕ) → length cs ≡ k → digits v cs ≡ Some w
    → (w / 10 ^ k ≡ v) × (cs ≡ tail w k) × (digit_column w (10 ^ k) ≡ 48 + w / 10 ^ k % 10)
unfolding digits tail
digits_back zero v w [] l e = (div-one w ∙ cc, refl, column_last w)
digits_back zero v w (c ∷ cs) l e = absurd (omega arith)
digits_back (suc k) v w [] l e = absurd (omega arith)
digits_back (suc k) v w (c ∷ cs) l e =
    let (test, later) = number_if (is_digit c && not (eqb v 0)) (digits (v * 10 + (c - 48)) cs) w e in
    let (low, high) = digit_range c (and_left (is_digit c) (not (eqb v 0)) test) in
    let some = eqb-false v 0 (not-true (eqb v 0) (and_right (is_digit c) (not (eqb v 0)) test)) in
    let (above, same, shown) = digits_back k (v * 10 + (c - 48)) w cs (omega arith) later in
    let up = weight_next w k in
    let here : w / 10 ^ suc k ≡ v = omega arith in
    let byte : c ≡ 48 + w / 10 ^ k % 10 = omega arith in
    (here, ap₂ ◌∷◌ (byte ∙ sym shown) same, column_digit w (suc k) (omega arith))

-- the same where a column that is no space stands first
first_back : (k w c : ℕ) (cs : List ℕ) → length cs ≡ k → (c ≡ 32 → ⊥) → columns (c ∷ cs) ≡ Some w
    → (w < 10 ^ suc k) × (c ∷ cs ≡ tail w (suc k))
unfolding columns tail
first_back k w c cs l other e =
    let (digit, later) = number_if (is_digit c) (digits (c - 48) cs) w (rw (ne_eqb c 32 other) at e) in
    let (low, high) = digit_range c digit in
    let (above, same, shown) = digits_back k (c - 48) w cs l later in
    let byte : c ≡ 48 + w / 10 ^ k % 10 = omega arith in
    let below : w / 10 ^ k < 10 = omega arith in
    let bound = (div-lt_iff_lt-mul (weight_pos k)).0 below in
    (omega (arith, pow-suc 10 k), ap₂ ◌∷◌ (byte ∙ sym shown) same)

columns_back : (k w : ℕ) (cs : List ℕ) → length cs ≡ suc k → columns cs ≡ Some w → (w < 10 ^ suc k) × (cs ≡ tail w (suc k))
unfolding columns tail
columns_back k w [] l e = absurd (omega arith)
columns_back zero w (c ∷ []) l e =
    by_equal c 32
    (λ q. no_number w (rw (eq-eqb c 32 q) at e))
    (λ other. first_back 0 w c [] refl other e)
columns_back zero w (c ∷ d ∷ cs) l e = absurd (omega arith)
columns_back (suc k) w (c ∷ cs) l e =
    by_equal c 32
    (λ q.
    let (bound, same) = columns_back k w cs (omega arith) (rw (eq-eqb c 32 q) at e) in
    (omega (arith, pow-suc 10 (suc k)), ap₂ ◌∷◌ (q ∙ sym (column_space w k bound)) same))
    (λ other. first_back (suc k) w c cs (omega arith) other e)

-- Five columns read as a number are its columns.
pub decimal_back : (w : ℕ) (cs : List ℕ) → length cs ≡ 5 → columns cs ≡ Some w → cs ≡ decimal w
unfolding decimal tail
decimal_back w cs l e = (columns_back 4 w cs l e).1
