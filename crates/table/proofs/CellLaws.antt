-- One cell: its byte, and filling it. Assumes nothing.
use Prim.Native.Nat.{ℕ, zero, suc, ◌+◌, ◌*◌, ◌<◌}
use mathlib.Core.Path.{◌≡◌, refl, sym, ◌∙◌, ap}
use mathlib.Core.Bool.{Bool, true, false, cond, not, ◌&&◌}
use native.Mathlib.Omega.{arith}
use borrow.Author.Tests.{eqb-true, eq-eqb}
use lib.ListN.{length, get_or, set, length-set}
use lib.Seq.{ext_get_or, get_or-set_same, get_or-set_other}
use lib.Dec.{eqb}
use Rattle.law.specs.Bounded.{count}
use Rattle.law.proofs.Bool.{split, cond_false}
use Rattle.law.proofs.Bounded.{by_order, by_equal}
use Rattle.job.specs.Job.{Job, size, subformula_count, owner}
use Rattle.cells.specs.Fragment.{in_fragment}
use Rattle.cells.specs.Table.{Table, table_length, index, node_of, state_of, subformula_of, cell, owner_cell, is_empty, inside, fill, filled}
use Rattle.cells.specs.Close.{accept_table}
use Rattle.cells.proofs.Index.{index_of, index_lt, node_of_index, state_of_index, subformula_of_index}
use Rattle.cells.proofs.Fill.{is_empty_lem, not_empty, fill_length, fill_new, fill_left, fill_idle}
use Rattle.cells.proofs.Counts.{filled_same}
use Rattle.table.specs.Lent.{IsCell}
use Rattle.table.specs.Filling.{Leaves}
use Rattle.table.proofs.Parts.{both_two}
use Rattle.table.proofs.FillingLaws.{and_three}

-- A cell's byte, as its numbers give it.
pub byte_is :
    (J : Job) (n s k : ℕ) → IsCell J n s k → (states : ℕ) → states ≡ size J → (subformulas : ℕ) → subformulas ≡ subformula_count J
    → ((n * states + s) * subformulas + k ≡ index J n s k) × ((n * states + s) * subformulas + k < table_length J)
unfolding index
byte_is J n s k here states a subformulas b =
    let is : (n * states + s) * subformulas + k ≡ index J n s k = rw (a, b) in
    (is, rw is (index_lt J n s k here.node_in here.state_in here.subformula_in))

pub cell_is : (J : Job) (t : Table) (n s k i : ℕ) → i ≡ index J n s k → get_or t i 0 ≡ cell J t n s k
unfolding cell
cell_is J t n s k i is = rw is

pub owner_is : (J : Job) (t : Table) (n s k : ℕ) → n ≡ owner J s → cell J t n s k ≡ owner_cell J t s k
unfolding owner_cell
owner_is J t n s k is = rw is

-- A test that one number passes and no other.
module _ (p : ℕ → Bool) (i : ℕ) (yes : p i ≡ true) (other : (j : ℕ) → (j ≡ i → ⊥) → p j ≡ false) where
  count_before : (n : ℕ) → n < suc i → count p n ≡ 0
  unfolding count
  count_before zero l = refl
  count_before (suc n) l = simp (count_before n (omega arith), other n (λ e. omega arith))

  count_only : (n : ℕ) → i < n → count p n ≡ 1
  unfolding count
  count_only zero l = absurd (omega arith)
  count_only (suc n) l =
      by_order i n (λ h. simp (count_only n h, other n (λ e. omega arith)))
      (λ h.
      let e : n ≡ i = omega arith in
      let passes : p n ≡ true = rw e yes in
      simp (count_before n (omega arith), passes))

-- A cell that takes a value, at byte i.
module _ (J : Job) (t : Table) (n s k v : ℕ) where
  -- the value that accept has for a cell
  abbrev new : ℕ → ℕ → ℕ → ℕ
  new m u j = cond (eqb m n && eqb u s && eqb j k) v 2

  new_other : (j : ℕ) → (j ≡ index J n s k → ⊥) → new (node_of J j) (state_of J j) (subformula_of J j) ≡ 2
  new_other j away =
      let b = eqb (node_of J j) n && eqb (state_of J j) s && eqb (subformula_of J j) k in
      split b
      (λ h.
      let (a, b, c) = and_three (eqb (node_of J j) n) (eqb (state_of J j) s) (eqb (subformula_of J j) k) h in
      let m = eqb-true (node_of J j) n a in
      let u = eqb-true (state_of J j) s b in
      let l = eqb-true (subformula_of J j) k c in
      absurd (away (sym (index_of J j) ∙ rw (m, u, l))))
      (λ h. cond_false b v 2 h)

  left : accept_table J n s k v t ≡ t → Leaves t (accept_table J n s k v t) t 0
  left same = record { table_is = sym same; told_is = sym (filled_same t) ∙ ap (filled t) (sym same) }

  module _ (i : ℕ) (is : i ≡ index J n s k) where
    pub put_full : (get_or t i 0 ≡ 2 → ⊥) → Leaves t (accept_table J n s k v t) t 0
    unfolding accept_table
    put_full f =
        left
        (fill_idle J new t (λ j l e o. by_equal j (index J n s k) (λ q. absurd (f (rw (q ∙ sym is) at e))) (new_other j)))

    module _ (long : length t ≡ table_length J) (here : IsCell J n s k) (inner : in_fragment J n s ≡ true) where
      in_table : index J n s k < length t
      in_table = rw long (index_lt J n s k here.node_in here.state_in here.subformula_in)

      new_here : new (node_of J (index J n s k)) (state_of J (index J n s k)) (subformula_of J (index J n s k)) ≡ v
      new_here =
          let b = here.state_in in
          let c = here.subformula_in in
          rw (node_of_index J n s k b c, state_of_index J n s k b c, subformula_of_index J n s k c)
          (simp (eq-eqb n n refl, eq-eqb s s refl, eq-eqb k k refl))

      put_set : get_or t i 0 ≡ 2 → accept_table J n s k v t ≡ set t (index J n s k) v
      unfolding accept_table inside
      put_set e =
          let x = index J n s k in
          let b = here.state_in in
          let c = here.subformula_in in
          ext_get_or 0 (fill J new t) (set t x v) (fill_length J new t ∙ sym (length-set t x v))
          (λ j h.
          by_equal j x
          (λ q.
          rw q
          (fill_new J new t x (rw is at e) (rw (node_of_index J n s k b c, state_of_index J n s k b c) inner)
          ∙ new_here
          ∙ sym (get_or-set_same t x v 0 in_table)))
          (λ q. fill_left J new t j (new_other j q) ∙ sym (get_or-set_other t x j v 0 q)))

      filled_one : get_or t i 0 ≡ 2 → (v ≡ 2 → ⊥) → filled t (set t (index J n s k) v) ≡ 1
      unfolding filled
      filled_one e f =
          let x = index J n s k in
          count_only (λ j. is_empty (get_or t j 0) && not (is_empty (get_or (set t x v) j 0))) x
          (rw (get_or-set_same t x v 0 in_table) (simp (is_empty_lem (get_or t x 0) (rw is at e), not_empty v f)))
          (λ j q. rw (get_or-set_other t x j v 0 q) (both (is_empty (get_or t j 0))))
          (length t) in_table
        where
          both : (b : Bool) → (b && not b) ≡ false
          both true = refl
          both false = refl

      pub put_done : get_or t i 0 ≡ 2 → (v ≡ 2 → ⊥) → Leaves t (accept_table J n s k v t) (set t i v) 1
      put_done e f =
          record {
            table_is = ap (λ x. set t x v) is ∙ sym (put_set e);
            told_is = sym (filled_one e f) ∙ ap (filled t) (sym (put_set e));
          }

  pub put_two : v ≡ 2 → Leaves t (accept_table J n s k v t) t 0
  unfolding accept_table
  put_two e =
      left
      (fill_idle J new t (λ i l q o. rw e (both_two (eqb (node_of J i) n && eqb (state_of J i) s && eqb (subformula_of J i) k))))
