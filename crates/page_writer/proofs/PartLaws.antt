-- The parts of a page as they are written one behind the other, and the lines that they make. Assumes nothing.
use Prim.Native.Nat.{ℕ, suc, ◌+◌, ◌-◌, ◌*◌, ◌<◌, ◌≤◌}
use mathlib.Core.Path.{◌≡◌, refl, sym, ap, ap₂, ◌∙◌}
use mathlib.Core.List.{[], ◌∷◌, ◌++◌}
use native.Mathlib.Omega.{arith}
use borrow.Author.Tests.{eq-eqb}
use lib.ListN.{length, get_or, replicate, length-replicate}
use lib.Seq.{sets}
use borrow.Rule.Slice.PartMut.{put_mid}
use Rattle.std.proofs.Common.{append_assoc, take, drop}
use Rattle.std.proofs.lemmas.Slice.{put_mid-paste}
use Rattle.std.proofs.lemmas.List.Edits.{paste_all, sets-eq}
use lib.Seq.{get_or-take, get_or-drop}
use Rattle.law.specs.Lists.{tab, flatten}
use Rattle.law.proofs.Lists.{tab_first}
use Rattle.law.proofs.Pieces.{written_behind, Written, written_next, written_end}
use Rattle.text.specs.Field.{Text}
use Rattle.text.specs.Decimal.{digit_column, decimal}
use Rattle.job.specs.Job.{Job, size, subformula_count, owner}
use Rattle.job.specs.Written.{label, IsJob}
use Rattle.cells.specs.Table.{Table, table_length, index, cell}
use Rattle.cells.proofs.Formed.{formed_is, cell_low}
use Rattle.cells.proofs.Index.{index_lt}
use Rattle.image.specs.Denoted.{job_of}
use Rattle.image.specs.declared.image.Image.{Image}
use Rattle.image.proofs.ImageLaws.{image_job}
use Rattle.table.specs.Lent.{Ready}
use Rattle.page_text.specs.Page.{two_columns, heading, cell_mark, row_front, row_cells, columns_of, filled_line, page_line, page_lines, page}
use Rattle.page_text.proofs.PageLaws.{heading_length, row_length, line_long}

-- What is written to a part of the page.
pub part_written :
    (was now new : Text) (at k : ℕ)
    → now ≡ new
    → length new ≡ k
    → at + k ≤ length was
    → put_mid at k was now ≡ sets was at new
part_written was now new at k e long fits =
    put_mid-paste at k was now new k e refl (sym long)
    ∙ paste_all was at new k (sym long)
    ∙ sym (sets-eq new was at (omega (arith, long)) ∙ append_assoc (take at was) new (drop (at + length new) was) ∙ ap (λ (n : ℕ). take at was ++ (new ++ drop (at + n) was)) long)

-- The end of a line, behind so many columns.
pub end_written :
    (was out : Text) (start columns : ℕ)
    → columns ≤ 79
    → out ≡ sets was (start + columns) (replicate (79 - columns) 32)
    → sets out (start + 79) (10 ∷ []) ≡ sets was (start + columns) (replicate (79 - columns) 32 ++ (10 ∷ []))
end_written was out start columns few e =
    written_behind was out (sets out (start + 79) (10 ∷ [])) (replicate (79 - columns) 32) (10 ∷ []) (start + columns) (start + 79) e refl
    (omega (arith, length-replicate {A = ℕ} (79 - columns) 32))

-- A line from its columns and its end.
line_written :
    (was out later columns : Text) (start n : ℕ)
    → out ≡ sets was start columns
    → length columns ≡ n
    → later ≡ sets out (start + n) (replicate (79 - n) 32 ++ (10 ∷ []))
    → later ≡ sets was start (filled_line columns)
unfolding filled_line
line_written was out later columns start n e long end =
    written_behind was out later columns (replicate (79 - n) 32 ++ (10 ∷ [])) start (start + n) e end (ap (λ (k : ℕ). start + k) long)
    ∙ ap (λ (k : ℕ). sets was start (columns ++ (replicate (79 - k) 32 ++ (10 ∷ [])))) (sym long)

two_long : (k : ℕ) → length (two_columns k) ≡ 2
unfolding two_columns
two_long k = refl

pub numbers_turn :
    (was out later : Text) (at count k a b : ℕ)
    → Written 2 two_columns at was out count k
    → k < count
    → a ≡ digit_column k 10
    → b ≡ digit_column k 1
    → later ≡ sets out (at + 2 * k) (a ∷ b ∷ [])
    → Written 2 two_columns at was later count (k + 1)
unfolding two_columns
numbers_turn was out later at count k a b so_far l e f w =
    written_next 2 two_columns at was count out k so_far later (at + 2 * k) l (two_long k) refl
    (w ∙ ap₂ (λ (c d : ℕ). sets out (at + 2 * k) (c ∷ d ∷ [])) e f)

-- The heading: spaces, numbers, end.
pub heading_written :
    (was one two out : Text) (count : ℕ)
    → one ≡ sets was 0 (replicate 15 32)
    → two ≡ sets one 15 (flatten (tab two_columns count))
    → out ≡ sets two (0 + (15 + 2 * count)) (replicate (79 - (15 + 2 * count)) 32 ++ (10 ∷ []))
    → out ≡ sets was 0 (filled_line (heading count))
unfolding heading
heading_written was one two out count a b c =
    line_written was two out (heading count) 0 (15 + 2 * count)
    (written_behind was one two (replicate 15 32) (flatten (tab two_columns count)) 0 15 a b refl) (heading_length count) c

module _ (J : Job) (t : Table) (n s : ℕ) where
  -- The cells of a state, in the run of the table that they are.
  abbrev pub cell_of : ℕ → Text
  cell_of k = 32 ∷ cell_mark (cell J t n s k) ∷ []

  run_cell :
      (first k count : ℕ) → first ≡ index J n s 0 → k < count → get_or (take count (drop first t)) k 0 ≡ cell J t n s k
  unfolding cell index
  run_cell first k count e l =
      get_or-take count (drop first t) k 0 l ∙ get_or-drop first t k 0 ∙ ap (λ (i : ℕ). get_or t i 0) (omega (arith, e))

  -- So many of them are written.
  abbrev pub CellsSoFar : Text → Text → ℕ → ℕ → Type 0
  CellsSoFar was out count k = Written 2 cell_of (80 * s + 95) was out count k

  pub cells_turn :
      (first run : ℕ) (was out later : Text) (count k v : ℕ)
      → first ≡ index J n s 0
      → k < run
      → CellsSoFar was out count k
      → k < count
      → v ≡ cell_mark (get_or (take run (drop first t)) k 0)
      → later ≡ sets out (80 * s + 95 + 2 * k) (32 ∷ v ∷ [])
      → CellsSoFar was later count (k + 1)
  cells_turn first run was out later count k v e g so_far l f w =
      written_next 2 cell_of (80 * s + 95) was count out k so_far later (80 * s + 95 + 2 * k) l refl refl
      (w ∙ ap (λ (c : ℕ). sets out (80 * s + 95 + 2 * k) (32 ∷ c ∷ [])) (f ∙ ap cell_mark (run_cell first k run e g)))

  pub cells_over :
      (was out : Text) (k : ℕ)
      → CellsSoFar was out (subformula_count J) k
      → subformula_count J ≤ k
      → out ≡ sets was (80 * s + 95) (row_cells J t n s)
  unfolding row_cells
  cells_over was out k so_far l = written_end 2 cell_of (80 * s + 95) was (subformula_count J) out k so_far l

  -- The line of a state: three numbers, the cells, end.
  pub row_written :
      (was one two three four out : Text) (o l count : ℕ)
      → o ≡ owner J s
      → l ≡ label J s
      → count ≡ subformula_count J
      → one ≡ sets was (80 * s + 80) (decimal s)
      → two ≡ sets one (80 * s + 85) (decimal o)
      → three ≡ sets two (80 * s + 90) (decimal l)
      → four ≡ sets three (80 * s + 95) (row_cells J t n s)
      → out ≡ sets four (80 * s + 80 + (15 + 2 * count)) (replicate (79 - (15 + 2 * count)) 32 ++ (10 ∷ []))
      → out ≡ sets was (80 * s + 80) (page_line J t n (suc s))
  unfolding page_line columns_of row_front decimal
  row_written was one two three four out o l count o_is l_is count_is e f g h i =
      let a = 80 * s + 80 in
      let cells = row_cells J t n s in
      let two_is = written_behind one two three (decimal o) (decimal l) (80 * s + 85) (80 * s + 90) f g (omega arith) in
      let three_is = written_behind was one three (decimal s) (decimal o ++ decimal l) a (80 * s + 85) e two_is (omega arith) in
      let front_is : three ≡ sets was a (row_front J s) = three_is ∙ ap₂ (λ (p q : ℕ). sets was a (decimal s ++ (decimal p ++ decimal q))) o_is l_is in
      let four_is = written_behind was three four (row_front J s) cells a (80 * s + 95) front_is h (omega arith) in
      line_written was four out (row_front J s ++ cells) a (15 + 2 * count) four_is (row_length J t n s ∙ ap (λ (k : ℕ). 15 + 2 * k) (sym count_is)) i

-- A lent table: its cells are 0, 1 or 2, and those of a state lie in it.
module _ (m : Image) (t : Table) (ready : Ready m t) (n s : ℕ) (n_in : n < (job_of m).nodes) (s_in : s < size (job_of m)) where
  pub run_inside : (first count : ℕ) → first ≡ index (job_of m) n s 0 → count ≡ subformula_count (job_of m) → first + count ≤ length t
  unfolding index
  run_inside first count e all =
      let last = index_lt (job_of m) n s (subformula_count (job_of m) - 1) n_in s_in (omega (arith, (image_job m).subformulas)) in
      omega (arith, e, last, ready.lent.long)

  pub run_low : (first k count : ℕ) → first ≡ index (job_of m) n s 0 → k < count → get_or (take count (drop first t)) k 0 ≤ 2
  run_low first k count e l =
      rw (run_cell (job_of m) t n s first k count e l)
      (cell_low (job_of m) t (formed_is (job_of m) t (eq-eqb (length t) (table_length (job_of m)) ready.lent.long) ready.right) n s k)

-- The lines, one behind the other: behind the heading, line s + 1 is that of state s.
module _ (J : Job) (t : Table) (n : ℕ) where
  abbrev row_at : ℕ → Text
  row_at s = page_line J t n (suc s)

  abbrev pub RowsSoFar : Text → Text → ℕ → Type 0
  RowsSoFar was out s = Written 80 row_at 80 was out (size J) s

  pub rows_turn :
      IsJob J → (was out later : Text) (s : ℕ) → RowsSoFar was out s → s < size J → later ≡ sets out (80 * s + 80) (row_at s) → RowsSoFar was later (s + 1)
  rows_turn is was out later s so_far l w =
      written_next 80 row_at 80 was (size J) out s so_far later (80 * s + 80) l (line_long J t n is (suc s)) (omega arith) w

  pub page_written :
      IsJob J → (was first out : Text) (count s : ℕ)
      → count ≡ subformula_count J
      → first ≡ sets was 0 (filled_line (heading count))
      → RowsSoFar first out s
      → size J ≤ s
      → out ≡ sets was 0 (page J t n)
  unfolding page page_lines page_line columns_of flatten
  page_written is was first out count s e w so_far l =
      let top = page_line J t n 0 in
      let first_is : first ≡ sets was 0 top = w ∙ ap (λ (k : ℕ). sets was 0 (filled_line (heading k))) e in
      let rows = written_end 80 row_at 80 first (size J) out s so_far l in
      let more : suc (size J) ≡ size J + 1 = omega arith in
      let long = line_long J t n is 0 in
      written_behind was first out top (flatten (tab row_at (size J))) 0 80 first_is rows (omega arith)
      ∙ ap (λ ls. sets was 0 (flatten ls)) (sym (tab_first (page_line J t n) (size J)) ∙ ap (tab (page_line J t n)) more)
