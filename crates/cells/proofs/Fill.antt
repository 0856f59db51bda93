-- Laws of `fill`, the one way a call changes a table: a filled cell stays, a cell outside the fragments stays, an empty cell inside
-- takes the new value. By byte for any job and any table; by cell for a state and a subformula of the job. Assumes nothing.
use Prim.Native.Nat.{ℕ, ◌<◌}
use mathlib.Core.Path.{◌≡◌, refl, sym, ◌∙◌, ap}
use mathlib.Core.Bool.{true, false, cond, ◌&&◌}
use native.Mathlib.Omega.{arith}
use borrow.Author.Tests.{eqb-true, eq-eqb, ne_eqb}
use lib.ListN.{length, get_or, get_or-eq_default}
use lib.Seq.{ext_get_or}
use Rattle.law.proofs.Bool.{split, cond_false, and_no_right}
use Rattle.law.proofs.Bounded.{by_order, by_equal}
use Rattle.law.proofs.Lists.{tab_length, tab_at}
use Rattle.job.specs.Job.{Job, size, subformula_count}
use Rattle.cells.specs.Fragment.{in_fragment}
use Rattle.cells.specs.Table.{Table, table_length, index, node_of, state_of, subformula_of, cell, is_empty, inside, fill_at, fill}
use Rattle.cells.proofs.Index.{node_of_index, state_of_index, subformula_of_index, node_of_lt, state_of_lt, subformula_of_lt, cell_at}

-- A cell's test as a fact, and back.
pub empty_is : (c : ℕ) → is_empty c ≡ true → c ≡ 2
unfolding is_empty
empty_is c = eqb-true c 2

pub is_empty_lem : (c : ℕ) → c ≡ 2 → is_empty c ≡ true
unfolding is_empty
is_empty_lem c = eq-eqb c 2

pub not_empty : (c : ℕ) → (c ≡ 2 → ⊥) → is_empty c ≡ false
unfolding is_empty
not_empty c = ne_eqb c 2

-- The byte that `fill` leaves, at every number: past the end of the table all bytes read 0, which is not empty.
module _ (J : Job) (new : ℕ → ℕ → ℕ → ℕ) (t : Table) where
  pub fill_length : length (fill J new t) ≡ length t
  unfolding fill
  fill_length = tab_length (fill_at J new t) (length t)

  fill_at_filled : (i : ℕ) → (get_or t i 0 ≡ 2 → ⊥) → fill_at J new t i ≡ get_or t i 0
  unfolding fill_at
  fill_at_filled i h = simp (not_empty (get_or t i 0) h)

  pub fill_at_lem : (i : ℕ) → get_or (fill J new t) i 0 ≡ fill_at J new t i
  unfolding fill
  fill_at_lem i =
      by_order i (length t) (tab_at (fill_at J new t) (length t) i 0)
      (λ past.
      let none : get_or t i 0 ≡ 0 = get_or-eq_default t 0 past in
      get_or-eq_default (fill J new t) 0 (omega (arith, fill_length))
      ∙ sym (fill_at_filled i (λ e. omega arith) ∙ none))

  pub fill_filled : (i : ℕ) → (get_or t i 0 ≡ 2 → ⊥) → get_or (fill J new t) i 0 ≡ get_or t i 0
  fill_filled i h = fill_at_lem i ∙ fill_at_filled i h

  pub fill_outside : (i : ℕ) → inside J i ≡ false → get_or (fill J new t) i 0 ≡ get_or t i 0
  fill_outside i o =
      by_equal (get_or t i 0) 2
      (λ e. fill_at_lem i ∙ unfold fill_at in simp (is_empty_lem (get_or t i 0) e, o))
      (fill_filled i)

  pub fill_new :
      (i : ℕ)
      → get_or t i 0 ≡ 2
      → inside J i ≡ true
      → get_or (fill J new t) i 0 ≡ new (node_of J i) (state_of J i) (subformula_of J i)
  unfolding fill_at
  fill_new i e o = fill_at_lem i ∙ simp (is_empty_lem (get_or t i 0) e, o)

  pub fill_left :
      (i : ℕ) → new (node_of J i) (state_of J i) (subformula_of J i) ≡ 2 → get_or (fill J new t) i 0 ≡ get_or t i 0
  fill_left i two =
      by_equal (get_or t i 0) 2
      (λ e. split (inside J i) (λ o. fill_new i e o ∙ two ∙ sym e) (fill_outside i))
      (fill_filled i)

  -- The same of cells.
  pub fill_cell :
      (n s k : ℕ)
      → s < size J
      → k < subformula_count J
      → cell J (fill J new t) n s k ≡ cond (is_empty (cell J t n s k) && in_fragment J n s) (new n s k) (cell J t n s k)
  unfolding cell fill_at inside
  fill_cell n s k b c =
      fill_at_lem (index J n s k) ∙ simp (node_of_index J n s k b c, state_of_index J n s k b c, subformula_of_index J n s k c)

  pub fill_cell_outside :
      (n s k : ℕ) → s < size J → k < subformula_count J → in_fragment J n s ≡ false → cell J (fill J new t) n s k ≡ cell J t n s k
  fill_cell_outside n s k b c o =
      fill_cell n s k b c
      ∙ cond_false (is_empty (cell J t n s k) && in_fragment J n s) (new n s k) (cell J t n s k)
      (and_no_right (is_empty (cell J t n s k)) (in_fragment J n s) o)

  pub fill_cell_new :
      (n s k : ℕ)
      → s < size J
      → k < subformula_count J
      → cell J t n s k ≡ 2
      → in_fragment J n s ≡ true
      → cell J (fill J new t) n s k ≡ new n s k
  fill_cell_new n s k b c e o = fill_cell n s k b c ∙ simp (is_empty_lem (cell J t n s k) e, o)

  pub fill_cell_left :
      (n s k : ℕ) → s < size J → k < subformula_count J → new n s k ≡ 2 → cell J (fill J new t) n s k ≡ cell J t n s k
  unfolding cell
  fill_cell_left n s k b c two =
      fill_left (index J n s k) (rw (node_of_index J n s k b c, state_of_index J n s k b c, subformula_of_index J n s k c) two)

-- What holds at each empty cell of a fragment.
abbrev pub AtEmpty : Job → Table → (ℕ → ℕ → ℕ → Type 0) → Type 0
AtEmpty J t P =
    (n s k : ℕ)
    → n < J.nodes
    → s < size J
    → k < subformula_count J
    → cell J t n s k ≡ 2
    → in_fragment J n s ≡ true
    → P n s k

-- Only the new values at empty cells of fragments matter.
module _ (J : Job) (new other : ℕ → ℕ → ℕ → ℕ) (t : Table) where
  pub fill_same :
      ((i : ℕ)
      → i < length t
      → get_or t i 0 ≡ 2
      → inside J i ≡ true
      → new (node_of J i) (state_of J i) (subformula_of J i) ≡ other (node_of J i) (state_of J i) (subformula_of J i))
      → fill J new t ≡ fill J other t
  fill_same same =
      ext_get_or 0 (fill J new t) (fill J other t) (fill_length J new t ∙ sym (fill_length J other t))
      (λ i h.
      by_equal (get_or t i 0) 2
      (λ e.
      split (inside J i)
      (λ o. fill_new J new t i e o ∙ same i (omega (arith, fill_length J new t)) e o ∙ sym (fill_new J other t i e o))
      (λ o. fill_outside J new t i o ∙ sym (fill_outside J other t i o)))
      (λ f. fill_filled J new t i f ∙ sym (fill_filled J other t i f)))

  pub fill_same_cells : length t ≡ table_length J → AtEmpty J t (λ n s k. new n s k ≡ other n s k) → fill J new t ≡ fill J other t
  unfolding inside
  fill_same_cells long same =
      fill_same
      (λ i h e o.
      let l : i < table_length J = omega arith in
      same (node_of J i) (state_of J i) (subformula_of J i) (node_of_lt J i l) (state_of_lt J i l) (subformula_of_lt J i l)
      (cell_at J t i ∙ e) o)

-- New values that are all 2 change nothing, and only they do.
pub fill_none : (J : Job) (t : Table) → fill J (λ n s k. 2) t ≡ t
fill_none J t = ext_get_or 0 (fill J two t) t (fill_length J two t) (λ i h. fill_left J two t i refl)
  where
    two : ℕ → ℕ → ℕ → ℕ
    two n s k = 2

module _ (J : Job) (new : ℕ → ℕ → ℕ → ℕ) (t : Table) where
  pub fill_idle :
      ((i : ℕ)
      → i < length t
      → get_or t i 0 ≡ 2
      → inside J i ≡ true
      → new (node_of J i) (state_of J i) (subformula_of J i) ≡ 2)
      → fill J new t ≡ t
  fill_idle idle = fill_same J new (λ n s k. 2) t idle ∙ fill_none J t

  pub fill_idle_cells : length t ≡ table_length J → AtEmpty J t (λ n s k. new n s k ≡ 2) → fill J new t ≡ t
  fill_idle_cells long idle = fill_same_cells J new (λ n s k. 2) t long idle ∙ fill_none J t

  pub idle_new :
      fill J new t ≡ t
      → (n s k : ℕ)
      → s < size J
      → k < subformula_count J
      → cell J t n s k ≡ 2
      → in_fragment J n s ≡ true
      → new n s k ≡ 2
  idle_new same n s k b c e o =
      sym (fill_cell_new J new t n s k b c e o) ∙ ap (λ (u : Table). cell J u n s k) same ∙ e
