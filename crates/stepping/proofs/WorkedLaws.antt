-- A node stepped column by column, idle columns left out: the marks stay right on the way. Assumes nothing.
use Prim.Native.Nat.{ℕ, ◌+◌, ◌*◌, ◌<◌, ◌≤◌}
use mathlib.Core.Path.{◌≡◌, refl, sym, ◌∙◌, ap}
use mathlib.Core.Bool.{false, not, ◌&&◌}
use native.Mathlib.Nat.{mul-le-mul}
use native.Mathlib.Numerals.{add-one}
use native.Mathlib.Omega.{arith}
use lib.ListN.{length, get_or}
use Rattle.law.proofs.Count.{count_le}
use Rattle.job.specs.Job.{Job, size, subformula_count}
use Rattle.job.specs.Written.{IsJob}
use Rattle.cells.specs.Table.{Table, table_length, is_empty, cell, filled}
use Rattle.cells.specs.Step.{step_column, step_up_to, step_table}
use Rattle.cells.specs.Rest.{column_flag, Rested, Tracked, SameColumn, TellsChanges, FlagsAre}
use Rattle.cells.proofs.Grown.{step_column_grown, step_up_to_grown}
use Rattle.cells.proofs.Counts.{filled_same, filled_sum}
use Rattle.cells.proofs.Local.{step_column_other}
use Rattle.cells.proofs.Rest.{rested_kept}
use Rattle.cells.proofs.Tracked.{marks_none, marks_after, mark_marks, step_tracked}
use Rattle.cells.proofs.Right.{right_is, is_right}
use Rattle.cells.proofs.Formed.{Formed, step_column_formed}
use Rattle.image.specs.Denoted.{job_of}
use Rattle.image.specs.declared.image.Image.{Image}
use Rattle.image.proofs.ImageLaws.{image_job}
use Rattle.pending.specs.declared.Pending.{Pending}
use Rattle.table.specs.Filling.{Leaves}
use Rattle.stepping.specs.Stale.{Resting, ColumnWorked, Worked}

-- No more cells are filled than a table has.
filled_few : (J : Job) → IsJob J → (t : Table) → length t ≡ table_length J → (u : Table) → filled t u ≤ 65536
unfolding table_length filled
filled_few J job t long u =
    let two : J.nodes * size J ≤ 8 * 256 = mul-le-mul job.nodes.below job.states.below in
    let three : J.nodes * size J * subformula_count J ≤ 2048 * 32 = mul-le-mul two job.subformulas.below in
    omega (arith, count_le (λ i. is_empty (get_or t i 0) && not (is_empty (get_or u i 0))) (length t))

-- One column more.
module _ (J : Job) (n : ℕ) (t : Table) where
  leaves_none : Leaves t (step_up_to J n 0 t) t 0
  unfolding step_up_to
  leaves_none = record { table_is = refl; told_is = sym (filled_same t) }

  leaves_more :
      (k : ℕ) → k < subformula_count J → {u v : Table} {count r : ℕ}
      → Leaves t (step_up_to J n k t) u count
      → Leaves u (step_column J n k u) v r
      → Leaves t (step_up_to J n (k + 1) t) v (count + r)
  unfolding step_up_to
  leaves_more k l {u} {v} {count} {r} so_far turn =
      let w = step_up_to J n k t in
      let next : step_up_to J n (k + 1) t ≡ step_column J n k w = ap (λ j. step_up_to J n j t) (add-one k) in
      let told : r ≡ filled w (step_column J n k w) = turn.told_is ∙ ap (λ x. filled x (step_column J n k x)) so_far.table_is in
      let sum = filled_sum J t w (step_up_to_grown J n 0 k t (omega arith) (omega arith)) (step_column J n k w) (step_column_grown J n k w) in
      rw next
      (record {
        table_is = turn.table_is ∙ ap (step_column J n k) so_far.table_is;
        told_is = let first = so_far.told_is in omega arith;
      })

-- The columns below k are stepped.
pub record WorkedUpTo (J : Job) (n k : ℕ) (t : Table) (p : Pending) (after : Table) (p' : Pending) (count : ℕ)
    : Type 0 where
  pub leaves : Leaves t (step_up_to J n k t) after count
  pub formed : Formed J after
  pub rows_kept : (m j : ℕ) → j < 32 → (m ≡ n → ⊥) → get_or p'.stale (column_flag m j) false ≡ get_or p.stale (column_flag m j) false
  pub rested : Rested J n p'.stale after
  pub news_marked : TellsChanges J n (λ j. j) p.news t p'.news after

module _ {m : Image} {t : Table} {n : ℕ} {p : Pending} (w : Resting m t n p) where
  abbrev J : Job
  J = job_of m

  job : IsJob J
  job = image_job m

  pub node_small : n < 8
  node_small = let node = w.node_in in let nodes = job.nodes.below in omega arith

  pub worked_none : WorkedUpTo J n 0 t p t p 0
  worked_none =
      record {
        leaves = leaves_none J n t;
        formed = record { long = w.ready.lent.long; right = right_is J t w.ready.right };
        rows_kept = λ m j l apart. refl;
        rested = w.rested;
        news_marked = marks_none J n (λ j. j) t p.news;
      }

  module _ {k : ℕ} {u : Table} {p' : Pending} {count : ℕ} (so_far : WorkedUpTo J n k t p u p' count) where
    pub column_next : Resting m u n p'
    column_next =
        record {
          ready =
              record {
                lent = record { long = so_far.formed.long };
                right = is_right J u so_far.formed.right;
              };
          node_in = w.node_in;
          rested = so_far.rested;
        }

    -- column k is worked
    module _ (l : k < subformula_count J) {v : Table} {p'' : Pending} {r : ℕ} (turn : ColumnWorked J n k u p' v p'' r) where
      others_same : (j : ℕ) → j < subformula_count J → (j ≡ k → ⊥) → SameColumn J n j u v
      others_same j h apart s b =
          ap (λ x. cell J x n s j) turn.leaves.table_is ∙ step_column_other J n k u n s j h apart

      pub worked_more : WorkedUpTo J n (k + 1) t p v p'' (count + r)
      worked_more =
          let few = job.subformulas.below in
          record {
            leaves = leaves_more J n t k l so_far.leaves turn.leaves;
            formed = rw turn.leaves.table_is (step_column_formed J u so_far.formed n k);
            rows_kept =
                λ m j h apart.
                turn.stale_marked.rest (column_flag m j) (λ e. apart (omega arith)) ∙ so_far.rows_kept m j h apart;
            rested =
                rested_kept J job n u v p'.stale p''.stale so_far.rested
                (mark_marks J n (column_flag n) u v (column_flag n k) p'.stale p''.stale turn.stale_marked
                (λ j h apart. others_same j h (λ e. apart (ap (column_flag n) e))));
            news_marked =
                marks_after J n (λ j. j) t u v p.news p'.news p''.news so_far.news_marked
                (mark_marks J n (λ j. j) u v k p'.news p''.news turn.news_marked others_same);
          }

      pub worked_few : (count ≤ 65536) × (r ≤ 65536)
      worked_few = (
        omega (arith, so_far.leaves.told_is, filled_few J job t w.ready.lent.long (step_up_to J n k t)),
        omega (arith, turn.leaves.told_is, filled_few J job u so_far.formed.long (step_column J n k u)),
      )

    pub worked_over :
        k ≡ subformula_count J → {p'' : Pending} → FlagsAre (column_flag n) false 32 p'.stale p''.stale → p''.news ≡ p'.news → Worked J n t p u p'' count
    unfolding step_table
    worked_over e clear same_news =
        record {
          leaves = rw e at so_far.leaves;
          row_clear = clear.written;
          rows_kept =
              λ m j l apart. clear.rest (column_flag m j) (λ i h same. apart (omega arith)) ∙ so_far.rows_kept m j l apart;
          news_marked = rw same_news so_far.news_marked;
        }

-- Right marks stay right.
pub worked_tracked :
    (J : Job) → IsJob J → (n : ℕ) (t : Table) (p : Pending) (u : Table) (p' : Pending) (count : ℕ)
    → Worked J n t p u p' count → Tracked J p.stale p.news t → Tracked J p'.stale p'.news u
worked_tracked J job n t p u p' count w tracked =
    let is = w.leaves.table_is in
    rw is
    (step_tracked J job t p.stale p.news tracked n p'.stale p'.news w.rows_kept (rw is at w.news_marked))
