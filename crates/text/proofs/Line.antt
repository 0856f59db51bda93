-- A line of the text: its fields are read as certain numbers and byte 10 stands behind them, exactly where its bytes are those that
-- these numbers are written as. Assumes nothing.
use Prim.Native.Nat.{ℕ, zero, suc, ◌+◌, ◌*◌, ◌<◌, ◌≤◌}
use mathlib.Core.Path.{◌≡◌, refl, sym, ◌∙◌, ap, ap₂}
use mathlib.Core.Bool.{true, true≢false}
use mathlib.Core.List.{List, [], ◌∷◌, ◌++◌}
use native.Mathlib.Nat.{add-zero, mul-suc, mul-le-mul_left}
use native.Mathlib.Omega.{arith}
use lib.ListN.{length, take, drop, get_or, length-take, length-drop, take-append-drop}
use lib.Seq.{take-add, drop-drop, drop-cons, get_or-drop}
use borrow.Author.Tests.{eqb-true, eq-eqb}
use Rattle.law.proofs.Bool.{and_left, and_right}
use Rattle.law.proofs.Chunks.{chunks_length, chunk_at, chunks_flatten}
use Rattle.law.specs.Lists.{tab, flatten}
use Rattle.text.specs.Fields.{numbers_at}
use Rattle.text.specs.Field.{Text, columns, field, well_formed, value, number_at, formed}
use Rattle.text.specs.Decimal.{decimal, line, Short}
use Rattle.std.proofs.Common.{Option, Some, None}
use Rattle.text.proofs.DecimalLaws.{columns_decimal, decimal_back}

-- The fields at this offset are read as these numbers, and byte 10 stands behind them.
unfoldable pub HasNumbers : Text → ℕ → List ℕ → Type 0
HasNumbers t at [] = get_or t at 0 ≡ 10
HasNumbers t at (n ∷ ns) = (field t at ≡ Some n) × HasNumbers t (at + 5) ns

-- A well-formed field is read as its value.
number_is : (f : Option ℕ) → well_formed f ≡ true → f ≡ Some (value f)
unfolding well_formed value
number_is (Some v) e = refl
number_is None e = absurd (true≢false (sym e))

module _ (t : Text) where
  -- `formed` tests that the fields are read as the numbers they hold, and nothing else
  pub formed_reads : (n at : ℕ) → formed t at n ≡ true → HasNumbers t at (numbers_at t at n)
  unfolding formed HasNumbers numbers_at number_at
  formed_reads zero at e = eqb-true (get_or t at 0) 10 e
  formed_reads (suc n) at e = (
    number_is (field t at) (and_left (well_formed (field t at)) (formed t (at + 5) n) e),
    formed_reads n (at + 5) (and_right (well_formed (field t at)) (formed t (at + 5) n) e),
  )

  pub reads_formed : (ns : List ℕ) (at : ℕ) → HasNumbers t at ns → formed t at (length ns) ≡ true
  unfolding formed HasNumbers well_formed
  reads_formed [] at r = eq-eqb (get_or t at 0) 10 r
  reads_formed (n ∷ ns) at (e, r) = simp (e, reads_formed ns (at + 5) r)

  pub reads_numbers : (ns : List ℕ) (at : ℕ) → HasNumbers t at ns → numbers_at t at (length ns) ≡ ns
  unfolding HasNumbers numbers_at number_at value
  reads_numbers [] at r = refl
  reads_numbers (n ∷ ns) at (e, r) = ap₂ ◌∷◌ (ap value e) (reads_numbers ns (at + 5) r)

  -- the bytes of a line that is read so, and the line read from those bytes
  pub reads_line : (ns : List ℕ) (at : ℕ) → at + 5 * length ns < length t → HasNumbers t at ns → take (5 * length ns + 1) (drop at t) ≡ line ns
  unfolding HasNumbers line flatten field decimal
  reads_line [] at l r = let one : at < length t = omega arith in rw (drop-cons t at 0 one, r)
  reads_line (n ∷ ns) at l (e, r) =
      let next : 5 * suc (length ns) + 1 ≡ 5 + (5 * length ns + 1) = omega arith in
      let five : length (take 5 (drop at t)) ≡ 5 = simp (length-take, length-drop) (omega arith) in
      rw (next, take-add 5, drop-drop)
      (ap₂ ◌++◌ (decimal_back n (take 5 (drop at t)) five e) (reads_line ns (at + 5) (omega arith) r))

  pub line_reads : (ns : List ℕ) (at : ℕ) (rest : Text) → drop at t ≡ line ns ++ rest → Short ns → HasNumbers t at ns
  unfolding HasNumbers line flatten field decimal Short
  line_reads [] at rest e h = sym (get_or-drop at t 0 0 ∙ ap (λ (i : ℕ). get_or t i 0) (add-zero at)) ∙ ap (λ (l : Text). get_or l 0 0) e
  line_reads (n ∷ ns) at rest e (h, hs) = (
    ap (λ (l : Text). columns (take 5 l)) e ∙ columns_decimal n h,
    line_reads ns (at + 5) rest (sym (drop-drop 5 at t) ∙ ap (drop 5) e) hs,
  )

  pub bytes_reads : (ns : List ℕ) (at : ℕ) → take (5 * length ns + 1) (drop at t) ≡ line ns → Short ns → HasNumbers t at ns
  bytes_reads ns at e =
      line_reads ns at (drop (5 * length ns + 1) (drop at t))
      (sym (take-append-drop (5 * length ns + 1) (drop at t)) ∙ ap (λ (l : Text). l ++ drop (5 * length ns + 1) (drop at t)) e)

pub line_length_lem : (ns : List ℕ) → length (line ns) ≡ 5 * length ns + 1
unfolding line flatten decimal
line_length_lem [] = refl
line_length_lem (n ∷ ns) = omega (arith, line_length_lem ns)

-- A run of n lines, ns i the numbers of line i.
abbrev pub run : (ℕ → List ℕ) → ℕ → Text
run ns n = flatten (tab (λ i. line (ns i)) n)

-- where each line has m fields
module _ (m : ℕ) (ns : ℕ → List ℕ) (wide : (i : ℕ) → length (ns i) ≡ m) where
  line_width : (i : ℕ) → length (line (ns i)) ≡ 5 * m + 1
  line_width i = line_length_lem (ns i) ∙ ap (λ (k : ℕ). 5 * k + 1) (wide i)

  pub run_length : (n : ℕ) → length (run ns n) ≡ (5 * m + 1) * n
  run_length = chunks_length (5 * m + 1) (λ i. line (ns i)) line_width

  pub reads_run : (t : Text) (n a : ℕ) → a + (5 * m + 1) * n ≤ length t → ((i : ℕ) → i < n → HasNumbers t (a + (5 * m + 1) * i) (ns i))
      → take ((5 * m + 1) * n) (drop a t) ≡ run ns n
  reads_run t n a fits reads =
      chunks_flatten (5 * m + 1) (λ i. line (ns i)) t n a
      (λ i l.
      let room = mul-le-mul_left (5 * m + 1) l in
      rw (wide i) at (reads_line t (ns i) (a + (5 * m + 1) * i) (omega (arith, wide i, mul-suc (5 * m + 1) i)) (reads i l)))

  pub run_reads : (front rest : Text) (n a i : ℕ) → length front ≡ a → i < n → Short (ns i)
      → HasNumbers (front ++ (run ns n ++ rest)) (a + (5 * m + 1) * i) (ns i)
  run_reads front rest n a i e l =
      bytes_reads (front ++ (run ns n ++ rest)) (ns i) (a + (5 * m + 1) * i)
      (rw (wide i) (chunk_at (5 * m + 1) (λ i. line (ns i)) line_width n i a front rest e l))
