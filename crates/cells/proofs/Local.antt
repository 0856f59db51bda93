-- A step of a node writes cells of that node alone, and what it writes depends on those cells alone; a column's writes only its own
-- subformula's. Assumes nothing.
use Prim.Native.Nat.{ℕ, zero, suc, ◌<◌, ◌≤◌}
use mathlib.Core.Path.{◌≡◌, refl, sym, ◌∙◌}
use mathlib.Core.Bool.{cond, ◌&&◌}
use mathlib.Core.List.{List}
use mathlib.Core.Logic.{⊎_elim}
use native.Mathlib.Nat.{le_refl}
use native.Mathlib.Omega.{arith}
use borrow.Author.Tests.{eqb-true, eq-eqb}
use lib.Dec.{eqb}
use lib.ListN.{get_or}
use Rattle.law.proofs.Bool.{split, cond_false, and_left, and_right}
use Rattle.law.proofs.Bounded.{by_equal}
use Rattle.job.specs.Job.{Job, size, subformula_count}
use Rattle.job.specs.Rule.{rule_at, InRange}
use Rattle.job.specs.Written.{edge_of, edge_count}
use Rattle.cells.specs.Fragment.{in_fragment}
use Rattle.cells.specs.Table.{Table, index, node_of, state_of, subformula_of, cell, is_empty}
use Rattle.cells.specs.Step.{column, step_column, step_up_to, step_table}
use Rattle.cells.proofs.Index.{node_of_index, subformula_of_index}
use Rattle.cells.proofs.Fill.{fill_left, fill_cell}
use Rattle.cells.proofs.Kept.{step_table_keeps}
use Rattle.cells.proofs.Columns.{Read, column_same}

-- What the step of node n has for column k of table t.
abbrev pub column_of : Job → ℕ → ℕ → Table → List ℕ
column_of J n k t = column J n (λ j s. cell J t n s j) k (rule_at J k)

-- The cells of a column, and the others.
module _ (J : Job) (n k : ℕ) (t : Table) where
  pub step_column_cell :
      (s : ℕ)
      → s < size J
      → k < subformula_count J
      → cell J (step_column J n k t) n s k
      ≡ cond (is_empty (cell J t n s k) && in_fragment J n s) (get_or (column_of J n k t) s 2) (cell J t n s k)
  unfolding step_column
  step_column_cell s b c = fill_cell J _ t n s k b c ∙ simp (eq-eqb n n refl, eq-eqb k k refl)

  step_column_left : (i : ℕ) → (node_of J i ≡ n → subformula_of J i ≡ k → ⊥) → get_or (step_column J n k t) i 0 ≡ get_or t i 0
  unfolding step_column
  step_column_left i apart =
      let a = eqb (node_of J i) n in
      let b = eqb (subformula_of J i) k in
      fill_left J _ t i
      (split (a && b)
      (λ e. absurd (apart (eqb-true (node_of J i) n (and_left a b e)) (eqb-true (subformula_of J i) k (and_right a b e))))
      (cond_false (a && b) (get_or (column_of J n k t) (state_of J i) 2) 2))

  pub step_column_other : (m s j : ℕ) → j < subformula_count J → (j ≡ k → ⊥) → cell J (step_column J n k t) m s j ≡ cell J t m s j
  unfolding cell
  step_column_other m s j c apart =
      step_column_left (index J m s j) (λ x y. apart (sym (subformula_of_index J m s j c) ∙ y))

  pub step_column_node :
      (m s j : ℕ) → s < size J → j < subformula_count J → (m ≡ n → ⊥) → cell J (step_column J n k t) m s j ≡ cell J t m s j
  unfolding cell
  step_column_node m s j b c apart =
      step_column_left (index J m s j) (λ x y. apart (sym (node_of_index J m s j b c) ∙ x))

-- Cells of other nodes are as they were.
pub step_table_node :
    (J : Job) (n : ℕ) (t : Table) (m s j : ℕ)
    → s < size J
    → j < subformula_count J
    → (m ≡ n → ⊥)
    → cell J (step_table J n t) m s j ≡ cell J t m s j
step_table_node J n t m s j b c apart =
    step_table_keeps J (λ u v. cell J v m s j ≡ cell J u m s j) (λ u. refl) (λ u v w p q. q ∙ p) n
    (λ k u l. step_column_node J n k u m s j b c apart) t

-- Two tables that agree on the cells of node n agree on them after its step.
abbrev pub Agree : Job → ℕ → Table → Table → Type 0
Agree J n t u = (s j : ℕ) → s < size J → j < subformula_count J → cell J t n s j ≡ cell J u n s j

module _
    (J : Job) (operands : (k : ℕ) → k < subformula_count J → InRange k (rule_at J k))
    (ends : (e : ℕ) → e < edge_count J → (edge_of J e).to < size J) (n : ℕ)
  where
    pub read_lt : (s : ℕ) → Read J s → s < size J
    read_lt s = ⊎_elim (λ l. l) (λ (e, l, q). rw (← q) (ends e l))

    column_agrees : (t u : Table) → Agree J n t u → (k : ℕ) → k < subformula_count J → column_of J n k t ≡ column_of J n k u
    column_agrees t u same k l =
        column_same J n k (λ j s. cell J t n s j) (λ j s. cell J u n s j)
        (λ j h s r. same s j (read_lt s r) (omega arith)) (λ s h. same s k h l) (rule_at J k) (operands k l)

    pub step_column_agrees : (t u : Table) → Agree J n t u → (k : ℕ) → k < subformula_count J → Agree J n (step_column J n k t) (step_column J n k u)
    step_column_agrees t u same k l s j b c =
        by_equal j k
        (λ e.
        rw e
        (step_column_cell J n k t s b l ∙ rw (column_agrees t u same k l, same s k b l) (sym (step_column_cell J n k u s b l))))
        (λ apart. step_column_other J n k t n s j c apart ∙ same s j b c ∙ sym (step_column_other J n k u n s j c apart))

    step_up_to_agrees : (t u : Table) → Agree J n t u → (k : ℕ) → k ≤ subformula_count J → Agree J n (step_up_to J n k t) (step_up_to J n k u)
    unfolding step_up_to
    step_up_to_agrees t u same zero l = same
    step_up_to_agrees t u same (suc k) l =
        step_column_agrees (step_up_to J n k t) (step_up_to J n k u) (step_up_to_agrees t u same k (omega arith)) k l

    pub step_table_agrees : (t u : Table) → Agree J n t u → Agree J n (step_table J n t) (step_table J n u)
    unfolding step_table
    step_table_agrees t u same = step_up_to_agrees t u same (subformula_count J) (le_refl (subformula_count J))
