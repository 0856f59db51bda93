-- Cells filled, counted: as many as the empty cells become fewer, none only where the table is the same, and of one table after
-- another the sum. Assumes nothing.
use Prim.Native.Nat.{ℕ, ◌+◌, ◌<◌}
use mathlib.Core.Path.{◌≡◌, refl, sym, ◌∙◌}
use mathlib.Core.Bool.{Bool, true, false, not, cond, ◌&&◌}
use native.Mathlib.Nat.{zero-add}
use native.Mathlib.Omega.{arith}
use borrow.Author.Tests.{not-false}
use lib.ListN.{length, get_or}
use lib.Seq.{ext_get_or}
use Rattle.law.specs.Bounded.{count}
use Rattle.law.proofs.Bool.{clash, and_intro, not_is_true}
use Rattle.law.proofs.Bounded.{by_order, by_equal}
use Rattle.law.proofs.Count.{count_sum, count_none}
use Rattle.job.specs.Job.{Job, size, subformula_count}
use Rattle.cells.specs.Table.{Table, table_length, index, cell, is_empty, inside, filled, empty_cells}
use Rattle.cells.proofs.Index.{index_lt}
use Rattle.cells.proofs.Fill.{empty_is, is_empty_lem, not_empty}
use Rattle.cells.proofs.Grown.{Grown, grown_empty}

-- At one cell: empty before (a), empty after (b), and of those to be counted (o).
cell_sum :
    (a b o : Bool)
    → (b ≡ true → a ≡ true)
    → (a ≡ true → o ≡ false → b ≡ true)
    → cond (a && not b) 1 0 + cond (b && o) 1 0 ≡ cond {A = ℕ} (a && o) 1 0
cell_sum true true o was stays = zero-add (cond o 1 0)
cell_sum true false true was stays = refl
cell_sum true false false was stays = clash false (stays refl refl) refl
cell_sum false true o was stays = clash false (was refl) refl
cell_sum false false o was stays = refl

-- cell i is empty in t and filled in u
abbrev fills : Table → Table → ℕ → Bool
fills t u i = is_empty (get_or t i 0) && not (is_empty (get_or u i 0))

-- What is filled is what is empty no more, and of two changes both.
module _ (J : Job) (t u : Table) (g : Grown J t u) where
  was_empty : (i : ℕ) → is_empty (get_or u i 0) ≡ true → is_empty (get_or t i 0) ≡ true
  was_empty i e = is_empty_lem (get_or t i 0) (grown_empty J t u g i (empty_is (get_or u i 0) e))

  pub filled_empties : filled t u + empty_cells J u ≡ empty_cells J t
  unfolding filled empty_cells
  filled_empties =
      rw g.long
      (count_sum (fills t u) (λ i. is_empty (get_or u i 0) && inside J i) (λ i. is_empty (get_or t i 0) && inside J i) (length t)
      (λ i l.
      cell_sum (is_empty (get_or t i 0)) (is_empty (get_or u i 0)) (inside J i) (was_empty i)
      (λ e o. is_empty_lem (get_or u i 0) (g.outside i o ∙ empty_is (get_or t i 0) e))))

  pub filled_sum : (v : Table) → Grown J u v → filled t v ≡ filled t u + filled u v
  unfolding filled
  filled_sum v h =
      rw g.long
      (sym (count_sum (fills t u) (fills u v) (fills t v) (length t)
      (λ i l.
      let c = get_or v i 0 in
      cell_sum (is_empty (get_or t i 0)) (is_empty (get_or u i 0)) (not (is_empty c)) (was_empty i)
      (λ e o. is_empty_lem (get_or u i 0) (grown_empty J u v h i (empty_is c (not-false (is_empty c) o)))))))

pub filled_same : (t : Table) → filled t t ≡ 0
unfolding filled
filled_same t =
    let p = fills t t in
    let twice : count p (length t) + count p (length t) ≡ count p (length t) =
    count_sum p p p (length t) (λ i l. let a = is_empty (get_or t i 0) in cell_sum a a (not a) (λ e. e) (λ e o. e)) in
    omega arith

-- An empty cell that is filled is counted.
pub filled_some : (t u : Table) (i : ℕ) → i < length t → get_or t i 0 ≡ 2 → (get_or u i 0 ≡ 2 → ⊥) → 0 < filled t u
unfolding filled
filled_some t u i l e f =
    let a = get_or t i 0 in
    let b = get_or u i 0 in
    by_order 0 (count (fills t u) (length t)) (λ h. h)
    (λ h.
    clash (fills t u i)
    (and_intro (is_empty a) (not (is_empty b)) (is_empty_lem a e) (not_is_true (is_empty b) (not_empty b f)))
    (count_none (fills t u) (length t) (omega arith) i l))

pub filled_cell :
    (J : Job) (t u : Table)
    → length t ≡ table_length J
    → (n s k : ℕ)
    → n < J.nodes
    → s < size J
    → k < subformula_count J
    → cell J t n s k ≡ 2
    → (cell J u n s k ≡ 2 → ⊥)
    → 0 < filled t u
unfolding cell
filled_cell J t u long n s k a b c =
    filled_some t u (index J n s k) (omega (arith, index_lt J n s k a b c))

-- None filled: the same table.
pub filled_none : (J : Job) (t u : Table) → Grown J t u → filled t u ≡ 0 → u ≡ t
filled_none J t u g none =
    ext_get_or 0 u t g.long
    (λ i h.
    by_equal (get_or t i 0) 2
    (λ e.
    by_equal (get_or u i 0) 2 (λ f. f ∙ sym e)
    (λ f. let stop = filled_some t u i (omega (arith, g.long)) e f in absurd (omega arith)))
    (g.kept i))
