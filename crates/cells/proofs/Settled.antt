-- What settled says of the cells of a table: an empty cell of a fragment is one for which its node's step has no value, and
-- an empty temporal cell at a border state is empty at its owner. And a table that steps and copying leave as it is is
-- settled. Assumes nothing.
use Prim.Native.Nat.{ℕ, ◌<◌}
use mathlib.Core.Path.{◌≡◌, refl, sym, ◌∙◌, ap}
use mathlib.Core.Bool.{Bool, true, false, not, cond, ◌&&◌}
use native.Mathlib.Omega.{arith}
use lib.ListN.{length, get_or}
use lib.Dec.{eqb}
use borrow.Author.Tests.{eqb-true, eq-eqb, not-true}
use Rattle.law.proofs.Bool.{split, clash, and_four, and_intro, and_left, and_right, cond_true, not_is_true}
use Rattle.law.proofs.Bounded.{all_intro, all_elim, by_equal}
use Rattle.job.specs.Job.{Job, size, subformula_count}
use Rattle.cells.specs.Fragment.{in_fragment, border}
use Rattle.cells.specs.Table.{Table, table_length, index, node_of, state_of, subformula_of, cell, owner_cell, is_empty, filled, inside}
use Rattle.cells.specs.Step.{step_table}
use Rattle.cells.specs.Close.{is_temporal, copy_table, steps_done, copies_done, settled}
use Rattle.cells.proofs.Index.{index_lt, node_of_index, state_of_index, subformula_of_index}
use Rattle.cells.proofs.Fill.{is_empty_lem, empty_is, not_empty, fill_new}
use Rattle.cells.proofs.Counts.{filled_same}
use Rattle.cells.proofs.Local.{column_of}
use Rattle.cells.proofs.Idle.{none_filled}
use Rattle.cells.proofs.FragmentLaws.{border_inside}

pub record Settled (J : Job) (t : Table) : Type 0 where
  -- the step of n has no value for an empty cell
  pub done :
      (n s k : ℕ)
      → n < J.nodes
      → s < size J
      → k < subformula_count J
      → in_fragment J n s ≡ true
      → cell J t n s k ≡ 2
      → get_or (column_of J n k t) s 2 ≡ 2
  pub copied :
      (n s k : ℕ)
      → n < J.nodes
      → s < size J
      → k < subformula_count J
      → border J n s ≡ true
      → is_temporal J k ≡ true
      → cell J t n s k ≡ 2
      → owner_cell J t s k ≡ 2

module _ (J : Job) (t : Table) where
  -- byte i is empty, its owner's cell is not, and it should be
  abbrev uncopied : ℕ → Bool
  uncopied i =
      is_empty (get_or t i 0) && border J (node_of J i) (state_of J i) && is_temporal J (subformula_of J i)
      && not (is_empty (owner_cell J t (state_of J i) (subformula_of J i)))

  pub settled_is : length t ≡ table_length J → settled J t ≡ true → Settled J t
  unfolding settled steps_done copies_done cell
  settled_is long h =
      let steps = all_elim (λ n. eqb (filled t (step_table J n t)) 0) J.nodes (and_left (steps_done J t) (copies_done J t) h) in
      let copies = all_elim (λ i. not (uncopied i)) (length t) (and_right (steps_done J t) (copies_done J t) h) in
      record {
        done =
            λ n s k a b c i e. none_filled J n t (eqb-true (filled t (step_table J n t)) 0 (steps n a)) k s c b e i;
        copied =
            λ n s k a b c o m e.
            let i = index J n s k in
            let own = owner_cell J t s k in
            by_equal own 2 (λ z. z)
            (λ f.
            let no : uncopied i ≡ false = not-true (uncopied i) (copies i (omega (arith, index_lt J n s k a b c))) in
            clash true refl (simp (
              node_of_index J n s k b c,
              state_of_index J n s k b c,
              subformula_of_index J n s k c,
              is_empty_lem (get_or t i 0) e,
              o,
              m,
              not_empty own f,
            ) at no));
      }

  pub idle_settled : ((n : ℕ) → n < J.nodes → step_table J n t ≡ t) → copy_table J t ≡ t → settled J t ≡ true
  unfolding settled steps_done copies_done copy_table inside
  idle_settled steps copies =
      and_intro (steps_done J t) (copies_done J t)
      (all_intro (λ n. eqb (filled t (step_table J n t)) 0) J.nodes
      (λ n l. rw (steps n l) (eq-eqb (filled t t) 0 (filled_same t))))
      (all_intro (λ i. not (uncopied i)) (length t) (λ i l. not_is_true (uncopied i) (copy_idle i)))
    where
      copy_idle : (i : ℕ) → uncopied i ≡ false
      copy_idle i =
          let n = node_of J i in
          let s = state_of J i in
          let k = subformula_of J i in
          let own = owner_cell J t s k in
          let a = is_empty (get_or t i 0) in
          let b = border J n s in
          let c = is_temporal J k in
          split (uncopied i)
          (λ h.
          let (e, o, m, f) = and_four a b c (not (is_empty own)) h in
          let empty = empty_is (get_or t i 0) e in
          let new : ℕ → ℕ → ℕ → ℕ = λ m s k. cond (border J m s && is_temporal J k) (owner_cell J t s k) 2 in
          let value : new n s k ≡ 2 =
          sym (fill_new J new t i empty (border_inside J n s o)) ∙ ap (λ (u : Table). get_or u i 0) copies ∙ empty in
          clash (is_empty own) (is_empty_lem own (sym (cond_true (b && c) own 2 (and_intro b c o m)) ∙ value))
          (not-true (is_empty own) f))
          (λ f. f)
