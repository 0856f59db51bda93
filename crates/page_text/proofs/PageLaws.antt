-- The page by its lines and columns: each line has 79 columns and byte 10, where each cell's mark stands, and that equal pages are equal cells.
-- Assumes nothing.
use Prim.Native.Nat.{ℕ, zero, suc, ◌+◌, ◌-◌, ◌*◌, ◌/◌, ◌%◌, ◌<◌, ◌≤◌}
use mathlib.Core.Path.{◌≡◌, refl, sym, ap, ◌∙◌}
use mathlib.Core.Bool.{Bool, true, not, ◌&&◌}
use mathlib.Core.List.{[], ◌∷◌, ◌++◌, append_assoc, append-nil}
use native.Mathlib.Nat.{zero-add}
use native.Mathlib.Omega.{arith}
use lib.Dec.{leb, ltb, eqb}
use lib.ListN.{length, get_or, replicate, take, drop, length-append, length-replicate, get_or-replicate, get_or-append}
use lib.Seq.{get_or-append-add, take_at, take-take}
use borrow.Author.Tests.{ne_eqb, le-leb}
use Rattle.law.specs.Lists.{tab, flatten, every}
use Rattle.law.proofs.Bool.{split}
use Rattle.law.proofs.Bounded.{by_equal}
use Rattle.law.proofs.Lists.{tab_same, every_append}
use Rattle.law.proofs.Chunks.{chunks_length, chunk_at, chunk_element, every_chunk}
use Rattle.text.specs.Field.{Text}
use Rattle.text.specs.Decimal.{digit_column, decimal}
use Rattle.job.specs.Job.{Job, size, subformula_count}
use Rattle.job.specs.Written.{IsJob}
use Rattle.cells.specs.Table.{Table, cell, is_empty}
use Rattle.page_text.specs.Page.{two_columns, heading, cell_mark, row_front, row_cells, columns_of, filled_line, page_line, page_lines, page}

-- A mark tells the cell.
pub mark_empty : cell_mark 2 ≡ 46
unfolding cell_mark is_empty
mark_empty = refl

pub mark_filled : (c : ℕ) → (c ≡ 2 → ⊥) → cell_mark c ≡ 48 + c
unfolding cell_mark is_empty
mark_filled c some = simp (ne_eqb c 2 some)

pub mark_same : (c d : ℕ) → cell_mark c ≡ cell_mark d → c ≡ d
mark_same c d same =
    by_equal c 2
    (λ e.
    by_equal d 2 (λ f. e ∙ sym f)
    (λ f. absurd (let wrong : 46 ≡ 48 + d = sym mark_empty ∙ ap cell_mark (sym e) ∙ same ∙ mark_filled d f in omega arith)))
    (λ e.
    by_equal d 2
    (λ f. absurd (let wrong : 48 + c ≡ 46 = sym (mark_filled c e) ∙ same ∙ ap cell_mark f ∙ mark_empty in omega arith))
    (λ f. let sum : 48 + c ≡ 48 + d = sym (mark_filled c e) ∙ same ∙ mark_filled d f in omega arith))

-- The 79 columns of a line, with the spaces that fill it, and byte 10.
module _ (columns : Text) (few : length columns ≤ 79) where
  abbrev spaces : Text
  spaces = replicate (79 - length columns) 32

  spaces_length : length spaces ≡ 79 - length columns
  spaces_length = length-replicate (79 - length columns) 32

  pub filled_ends : filled_line columns ≡ (columns ++ spaces) ++ (10 ∷ [])
  unfolding filled_line
  filled_ends = sym (append_assoc columns spaces (10 ∷ []))

  pub filled_columns : length (columns ++ spaces) ≡ 79
  filled_columns = length-append columns spaces ∙ omega (arith, spaces_length)

  filled_length : length (filled_line columns) ≡ 80
  filled_length = ap length filled_ends ∙ length-append (columns ++ spaces) (10 ∷ []) ∙ omega (arith, filled_columns)

  -- behind the columns stand spaces
  filled_space : (j : ℕ) → length columns ≤ j → j < 79 → get_or (filled_line columns) j 0 ≡ 32
  unfolding filled_line
  filled_space j past inside =
      let i : ℕ = j - length columns in
      let place : j ≡ length columns + i = omega arith in
      ap (λ (k : ℕ). get_or (columns ++ (spaces ++ (10 ∷ []))) k 0) place
      ∙ get_or-append-add columns (spaces ++ (10 ∷ [])) i 0
      ∙ get_or-append spaces (10 ∷ []) 0 i (omega (arith, spaces_length))
      ∙ get_or-replicate (79 - length columns) i 32 0 (omega arith)

-- A line of 15 columns in front and two for each subformula: what stands in these.
module _ (front : Text) (long : length front ≡ 15) (pair : ℕ → Text) (wide : (k : ℕ) → length (pair k) ≡ 2) (count : ℕ) where
  abbrev whole : Text
  whole = front ++ flatten (tab pair count)

  whole_length : length whole ≡ 15 + 2 * count
  whole_length = length-append front (flatten (tab pair count)) ∙ omega (arith, long, chunks_length 2 pair wide count)

  pair_column : (k j : ℕ) → k < count → j < 2 → get_or (filled_line whole) (15 + (2 * k + j)) 0 ≡ get_or (pair k) j 0
  unfolding filled_line
  pair_column k j l h =
      let place : 15 + (2 * k + j) ≡ length front + (2 * k + j) = omega (arith, long) in
      get_or-append whole (replicate (79 - length whole) 32 ++ (10 ∷ [])) 0 (15 + (2 * k + j)) (omega (arith, whole_length))
      ∙ ap (λ (i : ℕ). get_or whole i 0) place
      ∙ get_or-append-add front (flatten (tab pair count)) (2 * k + j) 0
      ∙ chunk_element 2 pair wide count k j 0 l h

  front_columns : take 15 (filled_line whole) ≡ front
  unfolding filled_line
  front_columns =
      ap (take 15) (append_assoc front (flatten (tab pair count)) (replicate (79 - length whole) 32 ++ (10 ∷ [])))
      ∙ take_at front (flatten (tab pair count) ++ (replicate (79 - length whole) 32 ++ (10 ∷ []))) 15 long

pub heading_length : (count : ℕ) → length (heading count) ≡ 15 + 2 * count
unfolding heading two_columns
heading_length count = whole_length (replicate 15 32) refl two_columns (λ k. refl) count

pub row_length : (J : Job) (t : Table) (n s : ℕ) → length (row_front J s ++ row_cells J t n s) ≡ 15 + 2 * subformula_count J
unfolding row_front decimal row_cells
row_length J t n s = whole_length (row_front J s) refl (λ k. 32 ∷ cell_mark (cell J t n s k) ∷ []) (λ k. refl) (subformula_count J)

module _ (J : Job) (t : Table) (n : ℕ) where
  pub columns_length : (i : ℕ) → length (columns_of J t n i) ≡ 15 + 2 * subformula_count J
  unfolding columns_of
  columns_length zero = heading_length (subformula_count J)
  columns_length (suc s) = row_length J t n s

  module _ (is : IsJob J) where
    pub columns_few : (i : ℕ) → length (columns_of J t n i) ≤ 79
    columns_few i = let most = is.subformulas.below in omega (arith, columns_length i)

    pub line_long : (i : ℕ) → length (page_line J t n i) ≡ 80
    unfolding page_line
    line_long i = filled_length (columns_of J t n i) (columns_few i)

    pub page_length : length (page J t n) ≡ 80 * (size J + 1)
    unfolding page page_lines
    page_length = chunks_length 80 (page_line J t n) line_long (size J + 1)

    -- Line i of the page, and column j of it.
    pub page_line_lem : (i : ℕ) → i < size J + 1 → take 80 (drop (80 * i) (page J t n)) ≡ page_line J t n i
    unfolding page page_lines
    page_line_lem i l =
        let whole = flatten (tab (page_line J t n) (size J + 1)) in
        rw (append-nil whole, zero-add (80 * i)) at (chunk_at 80 (page_line J t n) line_long (size J + 1) i 0 [] [] refl l)

    page_column : (i j : ℕ) → i < size J + 1 → j < 80 → get_or (page J t n) (80 * i + j) 0 ≡ get_or (page_line J t n i) j 0
    unfolding page page_lines
    page_column i j l h = chunk_element 80 (page_line J t n) line_long (size J + 1) i j 0 l h

    -- Behind the columns of each line stand spaces.
    pub page_filled : (i j : ℕ) → i < size J + 1 → 15 + 2 * subformula_count J ≤ j → j < 79 → get_or (page J t n) (80 * i + j) 0 ≡ 32
    unfolding page_line
    page_filled i j l past inside =
        page_column i j l (omega arith) ∙ filled_space (columns_of J t n i) (columns_few i) j (omega (arith, columns_length i)) inside

    -- What stands in front in a line: 15 spaces, or the numbers of a state.
    line_front : (i : ℕ) (front : Text) → i < size J + 1 → take 15 (page_line J t n i) ≡ front → take 15 (drop (80 * i) (page J t n)) ≡ front
    line_front i front l e = sym (take-take 15 80 (drop (80 * i) (page J t n)) (omega arith)) ∙ ap (take 15) (page_line_lem i l) ∙ e

    pub page_spaces : take 15 (page J t n) ≡ replicate 15 32
    unfolding page_line columns_of heading two_columns
    page_spaces = line_front 0 (replicate 15 32) (omega arith) (front_columns (replicate 15 32) refl two_columns (λ k. refl) (subformula_count J))

    pub page_front : (s : ℕ) → s < size J → take 15 (drop (80 * (s + 1)) (page J t n)) ≡ row_front J s
    unfolding page_line columns_of row_front decimal row_cells
    page_front s l =
        let one : s + 1 ≡ suc s = omega arith in
        rw one
        (line_front (suc s) (row_front J s) (omega arith)
        (front_columns (row_front J s) refl (λ k. 32 ∷ cell_mark (cell J t n s k) ∷ []) (λ k. refl) (subformula_count J)))

    module _ (k : ℕ) (k_in : k < subformula_count J) where
      -- The number of a subformula in the heading.
      pub page_number : (j : ℕ) → j < 2 → get_or (page J t n) (15 + (2 * k + j)) 0 ≡ get_or (two_columns k) j 0
      unfolding page_line columns_of heading two_columns
      page_number j h =
          let most = is.subformulas.below in
          ap (λ (i : ℕ). get_or (page J t n) i 0) (sym (zero-add (15 + (2 * k + j))))
          ∙ page_column 0 (15 + (2 * k + j)) (omega arith) (omega arith)
          ∙ pair_column (replicate 15 32) refl two_columns (λ k. refl) (subformula_count J) k j k_in h

      -- A space and the mark of a state and a subformula.
      pub page_cell : (s j : ℕ) → s < size J → j < 2 → get_or (page J t n) (80 * (s + 1) + (15 + (2 * k + j))) 0 ≡ get_or (32 ∷ cell_mark (cell J t n s k) ∷ []) j 0
      unfolding page_line columns_of row_front decimal row_cells
      page_cell s j l h =
          let most = is.subformulas.below in
          let one : s + 1 ≡ suc s = omega arith in
          rw one
          (page_column (suc s) (15 + (2 * k + j)) (omega arith) (omega arith)
          ∙ pair_column (row_front J s) refl (λ k. 32 ∷ cell_mark (cell J t n s k) ∷ []) (λ k. refl) (subformula_count J) k j k_in h)

      pub page_mark : (s : ℕ) → s < size J → get_or (page J t n) (80 * (s + 1) + (16 + 2 * k)) 0 ≡ cell_mark (cell J t n s k)
      page_mark s l =
          let place : 80 * (s + 1) + (16 + 2 * k) ≡ 80 * (s + 1) + (15 + (2 * k + 1)) = omega arith in
          ap (λ (i : ℕ). get_or (page J t n) i 0) place ∙ page_cell s 1 l (omega arith)

-- Equal pages of one job are equal cells of that node, and equal cells equal pages.
module _ (J : Job) (is : IsJob J) (n : ℕ) (t u : Table) where
  pub pages_cells :
      page J t n ≡ page J u n → (s k : ℕ) → s < size J → k < subformula_count J → cell J t n s k ≡ cell J u n s k
  pages_cells same s k l m =
      mark_same (cell J t n s k) (cell J u n s k)
      (sym (page_mark J t n is k m s l) ∙ ap (λ (p : Text). get_or p (80 * (s + 1) + (16 + 2 * k)) 0) same ∙ page_mark J u n is k m s l)

  pub cells_pages :
      ((s k : ℕ) → s < size J → k < subformula_count J → cell J t n s k ≡ cell J u n s k) → page J t n ≡ page J u n
  unfolding page page_lines page_line columns_of row_cells
  cells_pages same = ap flatten (tab_same (page_line J t n) (page_line J u n) (size J + 1) [] line_same)
    where
      row_same : (s : ℕ) → s < size J → row_cells J t n s ≡ row_cells J u n s
      row_same s l =
          ap flatten
          (tab_same (λ k. 32 ∷ cell_mark (cell J t n s k) ∷ []) (λ k. 32 ∷ cell_mark (cell J u n s k) ∷ []) (subformula_count J) []
          (λ k m. ap (λ (c : ℕ). 32 ∷ cell_mark c ∷ []) (same s k l m)))

      line_same : (i : ℕ) → i < size J + 1 → page_line J t n i ≡ page_line J u n i
      line_same zero l = refl
      line_same (suc s) l = ap (λ (cells : Text). filled_line (row_front J s ++ cells)) (row_same s (omega arith))

-- No column is below 32, so byte 10 is the last of each line and stands nowhere else.
abbrev pub visible : ℕ → Bool
visible b = leb 32 b

digit_visible : (m p : ℕ) → visible (digit_column m p) ≡ true
unfolding digit_column
digit_visible m p =
    split (ltb m p && not (eqb p 1))
    (λ e. simp e)
    (λ e. simp e (le-leb 32 (48 + m / p % 10) (omega arith)))

mark_visible : (c : ℕ) → visible (cell_mark c) ≡ true
mark_visible c =
    by_equal c 2
    (λ e. ap (λ (d : ℕ). visible (cell_mark d)) e ∙ ap visible mark_empty)
    (λ e. ap visible (mark_filled c e) ∙ le-leb 32 (48 + c) (omega arith))

spaces_visible : (m : ℕ) → every visible (replicate m 32) ≡ true
unfolding every
spaces_visible zero = refl
spaces_visible (suc m) = spaces_visible m

decimal_visible : (m : ℕ) → every visible (decimal m) ≡ true
unfolding every decimal
decimal_visible m =
    simp (digit_visible m 10000, digit_visible m 1000, digit_visible m 100, digit_visible m 10, digit_visible m 1)

front_visible : (a b c : ℕ) → every visible (decimal a ++ (decimal b ++ decimal c)) ≡ true
front_visible a b c =
    every_append visible (decimal a) (decimal b ++ decimal c) (decimal_visible a)
    (every_append visible (decimal b) (decimal c) (decimal_visible b) (decimal_visible c))

columns_visible : (J : Job) (t : Table) (n i : ℕ) → every visible (columns_of J t n i) ≡ true
unfolding columns_of heading row_front row_cells two_columns every
columns_visible J t n zero =
    every_append visible (replicate 15 32) (flatten (tab two_columns (subformula_count J))) (spaces_visible 15)
    (every_chunk visible two_columns (λ k. simp (digit_visible k 10, digit_visible k 1)) (subformula_count J))
columns_visible J t n (suc s) =
    every_append visible (row_front J s) (row_cells J t n s) (front_visible s _ _)
    (every_chunk visible (λ k. 32 ∷ cell_mark (cell J t n s k) ∷ []) (λ k. simp (mark_visible (cell J t n s k))) (subformula_count J))

-- The columns of line i, with the spaces that fill it.
pub body_visible :
    (J : Job) (t : Table) (n i : ℕ) → every visible (columns_of J t n i ++ replicate (79 - length (columns_of J t n i)) 32) ≡ true
body_visible J t n i =
    every_append visible (columns_of J t n i) (replicate (79 - length (columns_of J t n i)) 32) (columns_visible J t n i)
    (spaces_visible (79 - length (columns_of J t n i)))
