-- Laws of `columns` and `digits`: the spaces skipped, the digits read one at a time, and how large the number is. Assumes nothing.
use Prim.Native.Nat.{ℕ, suc, ◌+◌, ◌-◌, ◌*◌, ◌^◌, ◌<◌, ◌≤◌}
use mathlib.Core.Path.{◌≡◌, refl, sym, ap, ◌∙◌}
use mathlib.Core.Bool.{true, false, cond, not, ◌&&◌}
use mathlib.Core.List.{List, [], ◌∷◌}
use native.Mathlib.Nat.{add-sub_cancel_left, mul_assoc, mul-pos, mul-le-mul_right, min-le_left, pow-suc, pow-succ', pow-le-pow_right, one-le-pow, lt_of_lt_of_le}
use native.Mathlib.Numerals.{add-one}
use native.Mathlib.Omega.{arith}
use borrow.Author.Tests.{leb-true}
use lib.Dec.{leb, eqb, lit<}
use lib.ListN.{length, get_or, take, drop, length-take, length-drop}
use Rattle.std.proofs.Common.{Option, Some, None, IfSome}
use Rattle.std.specs.List.{prefix_len}
use Rattle.std.proofs.lemmas.List.{at_drop_more, at_drop_all, nil_from_length, take_all}
use Rattle.law.proofs.Bool.{split, and_left, and_right, cond_true, cond_false}
use Rattle.text.specs.Field.{Text, is_digit, digits, columns, field, value}

one_more : (n : ℕ) → 1 + n ≡ suc n
one_more n = omega arith

-- Behind its spaces, a field has nothing, or a first column that is no space.
behind_blank : (cs : List ℕ) → drop (prefix_len (λ c. eqb c 32) cs) cs ≡ [] → columns cs ≡ None
unfolding columns
behind_blank [] e = refl
behind_blank (c ∷ cs) e =
    split (eqb c 32)
    (λ y. simp y (behind_blank cs (simp (y, one_more) at e)))
    (λ n. let some : c ∷ cs ≡ [] = simp n at e in cc)

behind_first :
    (cs : List ℕ) (c : ℕ) (more : List ℕ) → drop (prefix_len (λ c. eqb c 32) cs) cs ≡ c ∷ more
    → columns cs ≡ cond (is_digit c) (digits (c - 48) more) None
unfolding columns
behind_first [] c more e = cc
behind_first (d ∷ cs) c more e =
    split (eqb d 32)
    (λ y. simp y (behind_first cs c more (simp (y, one_more) at e)))
    (λ n. let same : d ∷ cs ≡ c ∷ more = simp n at e in simp n (cc))

-- the same as the code has them, the part of the text that is left behind k spaces
abbrev part : Text → ℕ → List ℕ
part t at = take (at + 5 - at) (drop at t)

field_part : (t : Text) (at : ℕ) → field t at ≡ columns (part t at)
unfolding field
field_part t at = rw (add-sub_cancel_left at 5)

module _ (t : Text) (at k : ℕ) (e : k ≡ prefix_len (λ c. eqb c 32) (part t at)) where
  behind : take (length (part t at) - k) (drop k (part t at)) ≡ drop (prefix_len (λ c. eqb c 32) (part t at)) (part t at)
  behind =
      take_all _ (drop k (part t at)) (omega (arith, length-drop k (part t at)))
      ∙ ap (λ (n : ℕ). drop n (part t at)) e

  pub field_blank : length (take (length (part t at) - k) (drop k (part t at))) ≡ 0 → field t at ≡ None
  field_blank none = field_part t at ∙ behind_blank (part t at) (sym behind ∙ nil_from_length _ none)

  module _ (c : ℕ) (more : List ℕ) (first : take (length (part t at) - k) (drop k (part t at)) ≡ c ∷ more) where
    field_first : field t at ≡ cond (is_digit c) (digits (c - 48) more) None
    field_first = field_part t at ∙ behind_first (part t at) c more (sym behind ∙ first)

    pub field_no_digit : is_digit c ≡ false → field t at ≡ None
    field_no_digit n = field_first ∙ cond_false (is_digit c) (digits (c - 48) more) None n

    pub field_digit : is_digit c ≡ true → field t at ≡ digits (c - 48) more
    field_digit y = field_first ∙ cond_true (is_digit c) (digits (c - 48) more) None y

-- A column more is read behind the number v, or none is left.
pub digits_more :
    (cs : List ℕ) (i v : ℕ) → i < length cs
    → digits v (drop i cs) ≡ cond (is_digit (get_or cs i 0) && not (eqb v 0)) (digits (v * 10 + (get_or cs i 0 - 48)) (drop (i + 1) cs)) None
unfolding digits
digits_more cs i v l = at_drop_more (digits v) cs i 0 l

pub digits_done : (cs : List ℕ) (i v : ℕ) → length cs ≤ i → digits v (drop i cs) ≡ Some v
unfolding digits
digits_done cs i v l = at_drop_all (digits v) cs i l

-- A number of m digits is below 10 ^ m, and of at most five below 100,000.
pub digit_more : (v d m : ℕ) → v < 10 ^ m → d ≤ 9 → v * 10 + d < 10 ^ (m + 1)
digit_more v d m h l = rw (add-one m, pow-suc 10 m) (omega arith)

pub digits_small : (v m : ℕ) → m ≤ 5 → v < 10 ^ m → v < 100000
digits_small v m l h = lt_of_lt_of_le h (pow-le-pow_right (lit< tt) l)

-- A digit's code is 48 to 57.
pub digit_range : (c : ℕ) → is_digit c ≡ true → (48 ≤ c) × (c ≤ 57)
digit_range c e = (leb-true 48 c (and_left (leb 48 c) (leb c 57) e), leb-true c 57 (and_right (leb 48 c) (leb c 57) e))

-- The number of a field of k columns is below 10 ^ k.
digits_below : (v : ℕ) (cs : List ℕ) → value (digits v cs) < (v + 1) * 10 ^ length cs
unfolding digits value
digits_below v [] = omega arith
digits_below v (c ∷ cs) =
    split (is_digit c && not (eqb v 0))
    (λ e.
    let range = digit_range c (and_left (is_digit c) (not (eqb v 0)) e) in
    let h : v * 10 + (c - 48) + 1 ≤ (v + 1) * 10 = omega arith in
    simp (e, pow-succ' 10 (length cs), ← (mul_assoc (v + 1) 10 (10 ^ length cs)))
    (lt_of_lt_of_le (digits_below (v * 10 + (c - 48)) cs) (mul-le-mul_right (10 ^ length cs) h)))
    (λ e. simp e (mul-pos (omega arith) (one-le-pow (suc (length cs)) 10 (lit< tt))))

columns_below : (cs : List ℕ) → value (columns cs) < 10 ^ length cs
unfolding columns value
columns_below [] = lit< tt
columns_below (c ∷ cs) =
    split (eqb c 32)
    (λ e. simp (e, pow-suc 10 (length cs)) (omega (arith, columns_below cs)))
    (λ e.
    split (is_digit c)
    (λ d.
    let range = digit_range c d in
    let h : c - 48 + 1 ≤ 10 = omega arith in
    simp (e, d, pow-succ' 10 (length cs))
    (lt_of_lt_of_le (digits_below (c - 48) cs) (mul-le-mul_right (10 ^ length cs) h)))
    (λ d. simp (e, d) (one-le-pow (suc (length cs)) 10 (lit< tt))))

pub field_below : (t : List ℕ) (at : ℕ) → value (field t at) ≤ 99999
unfolding field
field_below t at =
    let h : length (take 5 (drop at t)) ≤ 5 = simp (length-take) (min-le_left 5 (length (drop at t))) in
    let small = digits_small (value (columns (take 5 (drop at t)))) (length (take 5 (drop at t))) h (columns_below (take 5 (drop at t))) in
    omega arith

-- as the read number has it
short : (f r : Option ℕ) → r ≡ f → value f ≤ 99999 → IfSome r (λ n. n ≤ 99999)
unfolding value
short f None e h = tt
short f (Some n) e h = rw (← e) at h

pub field_short : (t : List ℕ) (at : ℕ) (r : Option ℕ) → r ≡ field t at → IfSome r (λ n. n ≤ 99999)
field_short t at r e = short (field t at) r e (field_below t at)
