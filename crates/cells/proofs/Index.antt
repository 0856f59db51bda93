-- Bytes of a table and cells are the same thing: each cell in range has one byte, and each byte of the table one cell. Assumes
-- nothing.
use Prim.Native.Nat.{ℕ, ◌+◌, ◌*◌, ◌/◌, ◌%◌, ◌<◌}
use mathlib.Core.Path.{◌≡◌, ◌∙◌, ap}
use native.Mathlib.Nat.{mod-lt, div-add-mod', mul-zero, zero-mul, div-lt_iff_lt-mul}
use native.Mathlib.Omega.{arith}
use lib.Arith.{digits_lt, digits_div, digits_mod}
use lib.ListN.{get_or}
use Rattle.law.proofs.Bounded.{by_order}
use Rattle.job.specs.Job.{Job, size, subformula_count}
use Rattle.cells.specs.Table.{Table, table_length, index, node_of, state_of, subformula_of, cell}

module _ (J : Job) where
  -- From a cell to its byte and back: the byte's number has the digits n, s, k.
  pub index_lt : (n s k : ℕ) → n < J.nodes → s < size J → k < subformula_count J → index J n s k < table_length J
  unfolding index table_length
  index_lt n s k a b c = digits_lt (digits_lt a b) c

  pub node_of_index : (n s k : ℕ) → s < size J → k < subformula_count J → node_of J (index J n s k) ≡ n
  unfolding index node_of
  node_of_index n s k b c = ap (λ (x : ℕ). x / size J) (digits_div (n * size J + s) c) ∙ digits_div n b

  pub state_of_index : (n s k : ℕ) → s < size J → k < subformula_count J → state_of J (index J n s k) ≡ s
  unfolding index state_of
  state_of_index n s k b c = ap (λ (x : ℕ). x % size J) (digits_div (n * size J + s) c) ∙ digits_mod n b

  pub subformula_of_index : (n s k : ℕ) → k < subformula_count J → subformula_of J (index J n s k) ≡ k
  unfolding index subformula_of
  subformula_of_index n s k c = digits_mod (n * size J + s) c

  -- From a byte to its cell and back.
  pub index_of : (i : ℕ) → index J (node_of J i) (state_of J i) (subformula_of J i) ≡ i
  unfolding index node_of state_of subformula_of
  index_of i =
      ap (λ (x : ℕ). x * subformula_count J + i % subformula_count J) (div-add-mod' (i / subformula_count J) (size J)) ∙ div-add-mod' i (subformula_count J)

  -- A table with a byte has a state and a subformula.
  pub size_positive : (i : ℕ) → i < table_length J → 0 < size J
  unfolding table_length
  size_positive i l =
      by_order 0 (size J) (λ h. h)
      (λ h.
      let none : size J ≡ 0 = omega arith in
      let stop : i < 0 = simp (none, mul-zero, zero-mul) at l in
      omega arith)

  pub subformulas_positive : (i : ℕ) → i < table_length J → 0 < subformula_count J
  unfolding table_length
  subformulas_positive i l =
      by_order 0 (subformula_count J) (λ h. h)
      (λ h.
      let none : subformula_count J ≡ 0 = omega arith in
      let stop : i < 0 = simp (none, mul-zero) at l in
      omega arith)

  pub node_of_lt : (i : ℕ) → i < table_length J → node_of J i < J.nodes
  unfolding node_of table_length
  node_of_lt i l =
      (div-lt_iff_lt-mul (size_positive i l)).1 ((div-lt_iff_lt-mul (subformulas_positive i l)).1 l)

  pub state_of_lt : (i : ℕ) → i < table_length J → state_of J i < size J
  unfolding state_of
  state_of_lt i l = mod-lt (i / subformula_count J) (size_positive i l)

  pub subformula_of_lt : (i : ℕ) → i < table_length J → subformula_of J i < subformula_count J
  unfolding subformula_of
  subformula_of_lt i l = mod-lt i (subformulas_positive i l)

  -- So tables of the job's length are equal where their cells are.
  pub cell_at : (t : Table) (i : ℕ) → cell J t (node_of J i) (state_of J i) (subformula_of J i) ≡ get_or t i 0
  unfolding cell
  cell_at t i = ap (λ (j : ℕ). get_or t j 0) (index_of i)
