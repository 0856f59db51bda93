-- When a line of n fields is read as its numbers, and what each answer says of the line. Assumes nothing.
use Prim.Native.Nat.{ℕ, zero, suc, ◌+◌, ◌*◌, ◌<◌, ◌≤◌}
use mathlib.Core.Path.{◌≡◌, refl, sym, ◌∙◌, ap, ap₂}
use mathlib.Core.Bool.{true, false}
use mathlib.Core.List.{List, [], ◌∷◌}
use native.Mathlib.Omega.{arith}
use borrow.Author.Tests.{eq-eqb, ne_eqb}
use lib.Dec.{eqb}
use lib.ListN.{length, get_or}
use Rattle.std.proofs.Common.{Some, None}
use Rattle.law.proofs.Bool.{cond_true, cond_false, cond_is_first, cond_is_second, and_no_right}
use Rattle.text.specs.Field.{Text, field, well_formed, value, number_at, formed}
use Rattle.text.specs.Fields.{numbers_at, line_numbers}
use Rattle.text.proofs.FieldLaws.{field_below}

module _ (t : Text) where
  -- The first i fields at this offset are read as the first i of these numbers.
  abbrev pub FieldsRead : ℕ → List ℕ → ℕ → Type 0
  FieldsRead at ns i = (k : ℕ) → k < i → field t (at + 5 * k) ≡ Some (get_or ns k 0)

  fields_next : (at n : ℕ) (ns : List ℕ) (i : ℕ) → FieldsRead at (n ∷ ns) (suc i) → FieldsRead (at + 5) ns i
  fields_next at n ns i r k l =
      let there : at + 5 * suc k ≡ at + 5 + 5 * k = omega arith in
      rw there at (r (suc k) (omega arith))

  fields_first : (at n : ℕ) (ns : List ℕ) (i : ℕ) → FieldsRead at (n ∷ ns) (suc i) → field t at ≡ Some n
  fields_first at n ns i r =
      let here : at + 5 * 0 ≡ at = omega arith in
      rw here at (r 0 (omega arith))

  -- Where all are, the line is well-formed if byte 10 stands behind them, and these are its numbers.
  formed_by_end : (n at : ℕ) (ns : List ℕ) → length ns ≡ n → FieldsRead at ns n → formed t at n ≡ eqb (get_or t (at + 5 * n) 0) 10
  unfolding formed well_formed
  formed_by_end zero at ns long r = let here : at + 5 * 0 ≡ at = omega arith in rw here
  formed_by_end (suc n) at [] long r = absurd (omega arith)
  formed_by_end (suc n) at (m ∷ ns) long r =
      let there : at + 5 + 5 * n ≡ at + 5 * suc n = omega arith in
      let later = formed_by_end n (at + 5) ns (omega arith) (fields_next at m ns n r) in
      simp (fields_first at m ns n r) (rw there at later)

  numbers_are : (n at : ℕ) (ns : List ℕ) → length ns ≡ n → FieldsRead at ns n → numbers_at t at n ≡ ns
  unfolding numbers_at number_at value
  numbers_are zero at [] long r = refl
  numbers_are zero at (m ∷ ns) long r = absurd (omega arith)
  numbers_are (suc n) at [] long r = absurd (omega arith)
  numbers_are (suc n) at (m ∷ ns) long r =
      ap₂ ◌∷◌ (ap value (fields_first at m ns n r)) (numbers_are n (at + 5) ns (omega arith) (fields_next at m ns n r))

  field_none : (n at i : ℕ) → i < n → field t (at + 5 * i) ≡ None → formed t at n ≡ false
  unfolding formed well_formed
  field_none zero at i l e = absurd (omega arith)
  field_none (suc n) at zero l e = let here : at + 5 * 0 ≡ at = omega arith in simp (rw here at e)
  field_none (suc n) at (suc i) l e =
      let there : at + 5 * suc i ≡ at + 5 + 5 * i = omega arith in
      and_no_right (well_formed (field t at)) (formed t (at + 5) n) (field_none n (at + 5) i (omega arith) (rw there at e))

  number_of : (n at i : ℕ) → i < n → get_or (numbers_at t at n) i 0 ≡ number_at t (at + 5 * i)
  unfolding numbers_at
  number_of zero at i l = absurd (omega arith)
  number_of (suc n) at zero l = let here : at + 5 * 0 ≡ at = omega arith in rw here
  number_of (suc n) at (suc i) l =
      let there : at + 5 + 5 * i ≡ at + 5 * suc i = omega arith in
      rw there at (number_of n (at + 5) i (omega arith))

  -- What `line_numbers` answers: by its fields and the byte behind them,
  module _ (at n : ℕ) where
    line_none : formed t at n ≡ false → line_numbers t at n ≡ None
    unfolding line_numbers
    line_none f = cond_false (formed t at n) (Some (numbers_at t at n)) None f

    pub line_no_field : (i : ℕ) → i < n → field t (at + 5 * i) ≡ None → line_numbers t at n ≡ None
    line_no_field i l e = line_none (field_none n at i l e)

    module _ (ns : List ℕ) (long : length ns ≡ n) (r : FieldsRead at ns n) where
      pub line_no_end : (get_or t (at + 5 * n) 0 ≡ 10 → ⊥) → line_numbers t at n ≡ None
      line_no_end other = line_none (formed_by_end n at ns long r ∙ ne_eqb (get_or t (at + 5 * n) 0) 10 other)

      pub line_read : get_or t (at + 5 * n) 0 ≡ 10 → line_numbers t at n ≡ Some ns
      unfolding line_numbers
      line_read end =
          cond_true (formed t at n) (Some (numbers_at t at n)) None (formed_by_end n at ns long r ∙ eq-eqb (get_or t (at + 5 * n) 0) 10 end)
          ∙ ap Some (numbers_are n at ns long r)

      -- each number has at most five digits
      pub line_short : (i : ℕ) → i < n → get_or ns i 0 ≤ 99999
      unfolding value
      line_short i l = rw (r i l) at (field_below t (at + 5 * i))

    -- and what each answer says of the line.
    pub line_malformed : line_numbers t at n ≡ None → formed t at n ≡ false
    unfolding line_numbers
    line_malformed e = cond_is_second (formed t at n) (Some (numbers_at t at n)) None None (λ same. cc) e

    module _ (ns : List ℕ) (e : line_numbers t at n ≡ Some ns) where
      line_is : (formed t at n ≡ true) × (numbers_at t at n ≡ ns)
      unfolding line_numbers
      line_is =
          let (f, same) = cond_is_first (formed t at n) (Some (numbers_at t at n)) None (Some ns) (λ same. cc) e in
          (f, cc)

      pub line_formed : formed t at n ≡ true
      line_formed = line_is.0

      pub line_number : (i : ℕ) → i < n → get_or ns i 0 ≡ number_at t (at + 5 * i)
      line_number i l = ap (λ (ms : List ℕ). get_or ms i 0) (sym line_is.1) ∙ number_of n at i l

      pub line_first : 0 < n → get_or ns 0 0 ≡ number_at t at
      line_first l = let here : at + 5 * 0 ≡ at = omega arith in rw here at (line_number 0 l)
