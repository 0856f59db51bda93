-- A column is filled cell by cell along the list of its node's fragment: the law of every loop that fills one. And the columns of one
-- subformula, node by node. Assumes nothing.
use Prim.Native.Nat.{ℕ, ◌+◌, ◌<◌, ◌≤◌}
use mathlib.Core.Path.{◌≡◌, refl, sym, ◌∙◌, ap}
use mathlib.Core.Bool.{Bool, true, false, cond, ◌&&◌, ◌||◌}
use native.Mathlib.Omega.{arith}
use borrow.Author.Tests.{eqb-true, eq-eqb, ne_eqb, lt-ltb, le-ltb}
use lib.ListN.{length}
use lib.Dec.{eqb, ltb}
use Rattle.law.proofs.Bool.{split, clash, contrapose, and_left, and_right, and_no_left, and_no_right}
use Rattle.law.proofs.Bounded.{by_order, by_equal}
use Rattle.job.specs.Job.{Job, size, subformula_count}
use Rattle.job.specs.Written.{IsJob}
use Rattle.cells.specs.Fragment.{in_fragment}
use Rattle.cells.specs.Table.{Table, table_length, cell}
use Rattle.cells.specs.Close.{accept_table}
use Rattle.cells.proofs.Fill.{fill_same_cells}
use Rattle.image.specs.Image.{fragment_size, rank, fragment_state}
use Rattle.image.proofs.Ranks.{rank_state, state_rank, rank_below}
use Rattle.table.specs.Lent.{IsCell}
use Rattle.table.specs.Filling.{Leaves, Cells, Values, part, of_column, up_to, of_subformula, up_to_node}
use Rattle.table.proofs.Parts.{Each, part_same, leaves_none, leaves_is, leaves_more, leaves_long, leaves_others}

pub ltb_zero : (u : ℕ) → ltb u 0 ≡ false
ltb_zero u = le-ltb u 0 (omega arith)

pub ltb_more : (u i : ℕ) → ltb u (i + 1) ≡ (ltb u i || eqb u i)
ltb_more u i =
    by_order u i
    (λ l. simp (lt-ltb u (i + 1) (omega arith), lt-ltb u i l))
    (λ l.
    by_equal u i
    (λ e. simp (lt-ltb u (i + 1) (omega arith), le-ltb u i l, eq-eqb u i e))
    (λ f. simp (le-ltb u (i + 1) (omega arith), le-ltb u i l, ne_eqb u i f)))

-- One cell.
unfoldable only : ℕ → ℕ → ℕ → Cells
only n s k m u j = eqb m n && eqb u s && eqb j k

pub and_three : (a b c : Bool) → (a && b && c) ≡ true → (a ≡ true) × (b ≡ true) × (c ≡ true)
and_three true true true e = (refl, refl, refl)
and_three true true false e = (refl, refl, e)
and_three true false c e = (refl, e, clash false e refl)
and_three false b c e = (e, clash false e refl, clash false e refl)

module _ (J : Job) (t : Table) (long : length t ≡ table_length J) (n s k : ℕ) (new : Values) where
  accept_part : accept_table J n s k (new n s k) t ≡ part J (only n s k) new t
  unfolding accept_table part only
  accept_part =
      fill_same_cells J _ _ t long
      (λ m u j a b c e o.
      split (only n s k m u j)
      (λ h.
      let (x, y, z) = and_three (eqb m n) (eqb u s) (eqb j k) h in
      simp h (rw (eqb-true m n x, eqb-true u s y, eqb-true j k z)))
      (λ h. simp h))

pub column_apart : (n k m s j : ℕ) → (m ≡ n → j ≡ k → ⊥) → of_column n k m s j ≡ false
unfolding of_column
column_apart n k m s j apart =
    split (eqb m n && eqb j k)
    (λ e.
    absurd (apart (eqb-true m n (and_left (eqb m n) (eqb j k) e)) (eqb-true j k (and_right (eqb m n) (eqb j k) e))))
    (λ f. f)

-- The cells passed at rank i.
module _ (J : Job) (n k : ℕ) where
  up_to_none : (m u j : ℕ) → up_to J n k 0 m u j ≡ false
  unfolding up_to
  up_to_none m u j = rw (ltb_zero (rank J n u)) (and_no_right (eqb m n && eqb j k) false refl)

  up_to_column : (i m u j : ℕ) → up_to J n k i m u j ≡ true → of_column n k m u j ≡ true
  unfolding up_to of_column
  up_to_column i m u j = and_left (eqb m n && eqb j k) (ltb (rank J n u) i)

  module _ (job : IsJob J) (i : ℕ) (l : i < fragment_size J n) where
    -- of the fragment's states one has rank i
    rank_is : (u : ℕ) → in_fragment J n u ≡ true → eqb (rank J n u) i ≡ eqb u (fragment_state J n i)
    rank_is u o =
        let s = fragment_state J n i in
        by_equal u s
        (λ e. eq-eqb (rank J n u) i (ap (rank J n) e ∙ rank_state J job n i l) ∙ sym (eq-eqb u s e))
        (λ f.
        ne_eqb (rank J n u) i (λ r. f (sym (state_rank J job n u o) ∙ ap (fragment_state J n) r)) ∙ sym (ne_eqb u s f))

    cases : (a b x y : Bool) → (a && b && (x || y)) ≡ ((a && b && x) || (a && y && b))
    cases true true true y = refl
    cases true true false true = refl
    cases true true false false = refl
    cases true false x true = refl
    cases true false x false = refl
    cases false b x y = refl

    up_to_more : Each J (λ m u j. up_to J n k (i + 1) m u j ≡ (up_to J n k i m u j || only n (fragment_state J n i) k m u j))
    unfolding up_to only
    up_to_more m u j h o =
        by_equal m n
        (λ e.
        rw (ltb_more (rank J n u) i, rank_is u (rw e at o)) (cases (eqb m n) (eqb j k) (ltb (rank J n u) i) (eqb u (fragment_state J n i))))
        (λ f. simp (ne_eqb m n f))

  up_to_all : IsJob J → (m u j : ℕ) → IsCell J m u j → in_fragment J m u ≡ true → up_to J n k (fragment_size J n) m u j ≡ of_column n k m u j
  unfolding up_to of_column
  up_to_all job m u j h o =
      by_equal m n
      (λ e.
      simp (lt-ltb (rank J n u) (fragment_size J n) (rank_below J job n u (rw e at o)))
      (yes (eqb m n && eqb j k)))
      (λ f. simp (ne_eqb m n f))
    where
      yes : (b : Bool) → (b && true) ≡ b
      yes true = refl
      yes false = refl

-- Filling column k of node n with new values.
module _ (J : Job) (t : Table) (long : length t ≡ table_length J) (new : Values) (n k : ℕ) where
  pub column_start : Leaves t (part J (up_to J n k 0) new t) t 0
  column_start = leaves_none J t long (up_to J n k 0) new (up_to_none J n k)

  module _ (job : IsJob J) (i : ℕ) (l : i < fragment_size J n) (s : ℕ) (is : s ≡ fragment_state J n i) (u : Table) (c : ℕ)
      (so : Leaves t (part J (up_to J n k i) new t) u c) where
    -- one cell more takes its value
    pub column_turn :
        (v : ℕ) (w : Table) (d : ℕ)
        → v ≡ new n s k
        → Leaves u (accept_table J n s k v u) w d
        → Leaves t (part J (up_to J n k (i + 1)) new t) w (c + d)
    column_turn v w d value put =
        let f = fragment_state J n i in
        let long_u = leaves_long J t (up_to J n k i) new u c so ∙ long in
        let one : accept_table J n s k v u ≡ part J (only n f k) new u =
        ap (λ x. accept_table J n s k x u) value ∙ accept_part J u long_u n s k new ∙ ap (λ x. part J (only n x k) new u) is in
        leaves_more J t long new (up_to J n k i) (only n f k) (up_to J n k (i + 1)) (up_to_more J n k job i l) u w c d so
        (leaves_is u (accept_table J n s k v u) (part J (only n f k) new u) w d one put)

  pub column_over : IsJob J → part J (up_to J n k (fragment_size J n)) new t ≡ part J (of_column n k) new t
  column_over job =
      part_same J t long (up_to J n k (fragment_size J n)) (of_column n k) new new
      (λ m u j h o. ap (λ b. cond b (new m u j) 2) (up_to_all J n k job m u j h o))

  -- Columns of other nodes and of other subformulas have their cells as before.
  module _ (u : Table) (c : ℕ) where
    pub column_others :
        (i : ℕ)
        → Leaves t (part J (up_to J n k i) new t) u c
        → (m s j : ℕ)
        → s < size J
        → j < subformula_count J
        → (m ≡ n → j ≡ k → ⊥)
        → cell J u m s j ≡ cell J t m s j
    column_others i so m s j b d apart =
        leaves_others J t (up_to J n k i) new u c so m s j b d
        (contrapose (up_to J n k i m s j) (of_column n k m s j) (up_to_column J n k i m s j) (column_apart n k m s j apart))

    -- and so has the state of rank i
    pub column_own :
        IsJob J
        → (i : ℕ)
        → i < fragment_size J n
        → Leaves t (part J (up_to J n k i) new t) u c
        → (s : ℕ)
        → s ≡ fragment_state J n i
        → s < size J
        → k < subformula_count J
        → cell J u n s k ≡ cell J t n s k
    unfolding up_to
    column_own job i l so s is b d =
        let at : rank J n s ≡ i = ap (rank J n) is ∙ rank_state J job n i l in
        leaves_others J t (up_to J n k i) new u c so n s k b d
        (and_no_right (eqb n n && eqb k k) (ltb (rank J n s) i) (le-ltb (rank J n s) i (omega arith)))

pub nodes_more : (k i m u j : ℕ) → up_to_node k (i + 1) m u j ≡ (up_to_node k i m u j || of_column i k m u j)
unfolding up_to_node of_column
nodes_more k i m u j = rw (ltb_more m i) (cases (ltb m i) (eqb m i) (eqb j k))
  where
    cases : (x y b : Bool) → ((x || y) && b) ≡ ((x && b) || (y && b))
    cases true y true = refl
    cases true true false = refl
    cases true false false = refl
    cases false y b = refl

-- Filling subformula k, node by node.
module _ (J : Job) (t : Table) (long : length t ≡ table_length J) (new : Values) (k : ℕ) where
  pub nodes_start : Leaves t (part J (up_to_node k 0) new t) t 0
  unfolding up_to_node
  nodes_start = leaves_none J t long (up_to_node k 0) new (λ m s j. and_no_left (ltb m 0) (eqb j k) (ltb_zero m))

  pub nodes_turn :
      (i : ℕ) (u w : Table) (c d : ℕ)
      → Leaves t (part J (up_to_node k i) new t) u c
      → Leaves u (part J (of_column i k) new u) w d
      → Leaves t (part J (up_to_node k (i + 1)) new t) w (c + d)
  nodes_turn i =
      leaves_more J t long new (up_to_node k i) (of_column i k) (up_to_node k (i + 1)) (λ m u j h o. nodes_more k i m u j)

  pub nodes_over : (i : ℕ) → J.nodes ≤ i → part J (up_to_node k i) new t ≡ part J (of_subformula k) new t
  unfolding up_to_node of_subformula
  nodes_over i l =
      part_same J t long (up_to_node k i) (of_subformula k) new new
      (λ m u j h o. simp (lt-ltb m i (omega (arith, h.node_in))))
