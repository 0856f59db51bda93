-- Marks stay right: from one table to the next, through copying and closing. Assumes nothing.
use Prim.Native.Nat.{ℕ, ◌<◌}
use mathlib.Core.Path.{◌≡◌, refl, sym, ◌∙◌, ap}
use mathlib.Core.Bool.{Bool, true, false, ◌&&◌}
use mathlib.Core.List.{List}
use native.Mathlib.Omega.{arith}
use borrow.Author.Tests.{eq-eqb, ne_eqb}
use lib.ListN.{get_or, replicate, get_or-replicate}
use lib.Dec.{eqb}
use Rattle.law.proofs.Bool.{clash, cond_true, cond_false, and_intro}
use Rattle.law.proofs.Bounded.{by_equal}
use Rattle.job.specs.Job.{Job, size, subformula_count, owner}
use Rattle.job.specs.Rule.{rule_at, closed_value}
use Rattle.job.specs.Written.{IsJob}
use Rattle.job.proofs.RuleLaws.{closed_bound}
use Rattle.cells.specs.Fragment.{border}
use Rattle.cells.specs.Table.{Table, cell, owner_cell}
use Rattle.cells.specs.Step.{step_table}
use Rattle.cells.specs.Close.{is_temporal, copy_table, smallest_open, close_table}
use Rattle.cells.specs.Rest.{column_flag, Copied, Tracked, SameColumn, TellsChanges, FlagIs, Mark, FlagsAre}
use Rattle.cells.proofs.Fill.{fill_cell_new, fill_cell_left}
use Rattle.cells.proofs.Grown.{grown_cell_empty, copy_table_grown, close_table_grown}
use Rattle.cells.proofs.Local.{step_table_node}
use Rattle.cells.proofs.Rest.{rested_kept, stepped_rested, marked_rested}
use Rattle.cells.proofs.FragmentLaws.{border_inside, owner_no_border}

-- One mark.
module _ (t : Table) (i : ℕ) (before : List Bool) where
  pub mark_none : (u : Table) → u ≡ t → Mark t u i before before
  mark_none u same = record { rest = λ j apart. refl; here = λ e. (e, same) }

  pub mark_set : (u : Table) (after : List Bool) → FlagIs i true before after → Mark t u i before after
  mark_set u after flag =
      record { rest = flag.rest; here = λ e. clash (get_or after i false) flag.written e }

-- Marks of the columns of a node, one change after another.
module _ (J : Job) (n : ℕ) (at : ℕ → ℕ) where
  pub marks_none : (t : Table) (marks : List Bool) → TellsChanges J n at marks t marks t
  marks_none t marks k l e = (e, λ s b. refl)

  pub marks_after :
      (t u v : Table) (a b c : List Bool) → TellsChanges J n at a t b u → TellsChanges J n at b u c v → TellsChanges J n at a t c v
  marks_after t u v a b c first second k l e =
      let (later, same) = second k l e in
      let (before, kept) = first k l later in
      (before, λ s h. same s h ∙ kept s h)

  pub mark_marks :
      (t u : Table) (i : ℕ) (before after : List Bool)
      → Mark t u i before after
      → ((k : ℕ) → k < subformula_count J → (at k ≡ i → ⊥) → SameColumn J n k t u)
      → TellsChanges J n at before t after u
  mark_marks t u i before after mark others k l e =
      by_equal (at k) i
      (λ here.
      let (none, same) = mark.here (sym (ap (λ j. get_or after j false) here) ∙ e) in
      (ap (λ j. get_or before j false) here ∙ none, λ s h. ap (λ x. cell J x n s k) same))
      (λ apart. (sym (mark.rest (at k) apart) ∙ e, others k l apart))

-- What there is to copy.
module _ (J : Job) where
  pub copied_same : (t u : Table) (k : ℕ) → ((n : ℕ) → SameColumn J n k t u) → Copied J t k → Copied J u k
  unfolding owner_cell
  copied_same t u k same copied n s a b o m e =
      same (owner J s) s b ∙ copied n s a b o m (sym (same n s b) ∙ e)

module _ (J : Job) (job : IsJob J) (t : Table) where
  pub copy_table_owner : (s k : ℕ) → s < size J → k < subformula_count J → owner_cell J (copy_table J t) s k ≡ owner_cell J t s k
  unfolding copy_table owner_cell
  copy_table_owner s k b c = fill_cell_left J _ t (owner J s) s k b c (simp (owner_no_border J job s b))

  -- nothing after copying
  pub copy_table_copied : (k : ℕ) → k < subformula_count J → Copied J (copy_table J t) k
  unfolding copy_table
  copy_table_copied k l n s a b o m e =
      let own = owner_cell J t s k in
      let empty = grown_cell_empty J t (copy_table J t) (copy_table_grown J t) n s k e in
      copy_table_owner s k b l
      ∙ sym (fill_cell_new J _ t n s k b l empty (border_inside J n s o) ∙ cond_true (border J n s && is_temporal J k) own 2 (and_intro (border J n s) (is_temporal J k) o m))
      ∙ e

module _ (J : Job) (t : Table) where
  -- nothing of the subformula that was closed, and the others are as they were
  pub closed_copied : smallest_open J t < subformula_count J → Copied J (close_table J t) (smallest_open J t)
  unfolding close_table
  closed_copied l n s a b o m e =
      let k = smallest_open J t in
      let empty = grown_cell_empty J t (close_table J t) (close_table_grown J t) n s k e in
      let v = closed_value (rule_at J k) in
      let value : cell J (close_table J t) n s k ≡ v =
      fill_cell_new J _ t n s k b l empty (border_inside J n s o) ∙ cond_true (eqb k k) v 2 (eq-eqb k k refl) in
      absurd (omega (arith, closed_bound (rule_at J k)))

  pub close_table_other : (n k : ℕ) → k < subformula_count J → (k ≡ smallest_open J t → ⊥) → SameColumn J n k t (close_table J t)
  unfolding close_table
  close_table_other n k l apart s b =
      fill_cell_left J _ t n s k b l (cond_false (eqb k (smallest_open J t)) (closed_value (rule_at J (smallest_open J t))) 2 (ne_eqb k (smallest_open J t) apart))

-- Right marks stay right.
module _ (J : Job) (job : IsJob J) where
  -- in the beginning, with every mark set
  pub all_tracked : (t : Table) → Tracked J (replicate 256 true) (replicate 32 true) t
  all_tracked t =
      record {
        rested =
            λ n node.
            marked_rested J job n t (replicate 256 true)
            (λ k l. get_or-replicate {A = Bool} 256 (column_flag n k) true false (omega (arith, job.nodes.below, job.subformulas.below)));
        exchanged =
            λ k l none.
            clash (get_or {A = Bool} (replicate 32 true) k false)
            (get_or-replicate {A = Bool} 32 k true false (omega (arith, job.subformulas.below))) none;
      }

  module _ (t : Table) (stale news : List Bool) (tracked : Tracked J stale news t) where
    pub step_tracked :
        (n : ℕ) (stale' news' : List Bool)
        → ((m k : ℕ) → k < 32 → (m ≡ n → ⊥) → get_or stale' (column_flag m k) false ≡ get_or stale (column_flag m k) false)
        → TellsChanges J n (λ k. k) news t news' (step_table J n t)
        → Tracked J stale' news' (step_table J n t)
    step_tracked n stale' news' rows marks =
        record {
          rested =
              λ m node.
              by_equal m n
              (λ e. rw e (stepped_rested J job n t stale'))
              (λ apart.
              rested_kept J job m t (step_table J n t) stale stale' (tracked.rested m node)
              (λ k l none.
              (sym (rows m k (omega (arith, job.subformulas.below)) apart) ∙ none, λ s b. step_table_node J n t m s k b l apart)));
          exchanged =
              λ k l none.
              let (before, same) = marks k l none in
              copied_same J t (step_table J n t) k
              (λ m. by_equal m n (λ e. rw e same) (λ apart s b. step_table_node J n t m s k b l apart))
              (tracked.exchanged k l before);
        }

    pub copy_tracked :
        (stale' news' : List Bool)
        → ((n : ℕ) → TellsChanges J n (column_flag n) stale t stale' (copy_table J t))
        → Tracked J stale' news' (copy_table J t)
    copy_tracked stale' news' marks =
        record {
          rested = λ n node. rested_kept J job n t (copy_table J t) stale stale' (tracked.rested n node) (marks n);
          exchanged = λ k l none. copy_table_copied J job t k l;
        }

    pub close_tracked :
        (stale' : List Bool)
        → smallest_open J t < subformula_count J
        → FlagsAre (λ n. column_flag n (smallest_open J t)) true J.nodes stale stale'
        → Tracked J stale' news (close_table J t)
    close_tracked stale' some marked =
        let k = smallest_open J t in
        record {
          rested =
              λ n node.
              rested_kept J job n t (close_table J t) stale stale' (tracked.rested n node)
              (λ j l none.
              by_equal j k
              (λ e. clash (get_or stale' (column_flag n k) false) (marked.written n node) (rw e at none))
              (λ apart. (
                sym (marked.rest (column_flag n j) (λ m h e. apart (omega (arith, job.subformulas.below)))) ∙ none,
                close_table_other J t n j l apart,
              )));
          exchanged =
              λ j l none.
              by_equal j k
              (λ e. rw e (closed_copied J t some))
              (λ apart.
              copied_same J t (close_table J t) j (λ n. close_table_other J t n j l apart) (tracked.exchanged j l none));
        }
