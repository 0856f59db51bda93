-- Question 10, asked row by row. Assumes nothing.
use Prim.Native.Nat.{ℕ, ◌<◌}
use mathlib.Core.Path.{◌≡◌, sym, ◌∙◌, ap}
use mathlib.Core.Bool.{Bool, not, ◌&&◌, ◌||◌}
use native.Mathlib.Omega.{arith}
use lib.ListN.{length, get_or}
use lib.Dec.{leb, eqb}
use Rattle.law.specs.Bounded.{all}
use Rattle.law.proofs.Bool.{same_test, not_not}
use Rattle.law.proofs.Bounded.{all_intro, all_elim}
use Rattle.job.specs.Job.{Job, size, subformula_count}
use Rattle.cells.specs.Fragment.{in_fragment}
use Rattle.cells.specs.Table.{Table, table_length, index, node_of, state_of, subformula_of, cell, is_empty, inside, cells_right}
use Rattle.cells.proofs.Index.{node_of_index, state_of_index, index_lt, node_of_lt, state_of_lt, subformula_of_lt, cell_at}
use Rattle.image.specs.Image.{place_of}
use Rattle.image.specs.declared.place.Place.{Place}
use Rattle.image.specs.declared.place.Place.TheVariants.{Outside}
use Rattle.image.proofs.Places.{same_place, place_outside}
use Rattle.right_cells.specs.Right.{cell_right, row_right, node_right}

module _ (J : Job) (n s : ℕ) (p : Place) (is : p ≡ place_of J n s) (outside : Bool) (out : outside ≡ same_place p Outside) where
  inside_is : not outside ≡ in_fragment J n s
  inside_is = ap not (out ∙ place_outside J n s p is) ∙ not_not (in_fragment J n s)

  -- one cell, by the value that is read
  pub cell_asked :
      (t : Table) (k v : ℕ) (b : Bool)
      → v ≡ cell J t n s k
      → b ≡ (leb v 2 && (not outside || eqb v 2))
      → b ≡ cell_right J t n s k
  unfolding cell_right is_empty
  cell_asked t k v b read asked = rw (read, inside_is) at asked

-- All rows.
module _ (J : Job) (t : Table) (long : length t ≡ table_length J) where
  abbrev right : ℕ → Bool
  right i = leb (get_or t i 0) 2 && (inside J i || is_empty (get_or t i 0))

  by_byte : (i : ℕ) → cell_right J t (node_of J i) (state_of J i) (subformula_of J i) ≡ right i
  unfolding cell_right inside
  by_byte i = rw (cell_at J t i)

  by_cell : (n s k : ℕ) → s < size J → k < subformula_count J → right (index J n s k) ≡ cell_right J t n s k
  unfolding cell_right inside cell
  by_cell n s k b c = rw (node_of_index J n s k b c, state_of_index J n s k b c)

  pub nodes_right : all (node_right J t) J.nodes ≡ cells_right J t
  unfolding cells_right row_right node_right
  nodes_right =
      same_test (all (node_right J t) J.nodes) (cells_right J t)
      (λ yes.
      all_intro right (length t)
      (λ i h.
      let l : i < table_length J = omega arith in
      let n = node_of J i in
      let s = state_of J i in
      let node = all_elim (node_right J t) J.nodes yes n (node_of_lt J i l) in
      let row = all_elim (row_right J t n) (size J) node s (state_of_lt J i l) in
      sym (by_byte i) ∙ all_elim (cell_right J t n s) (subformula_count J) row (subformula_of J i) (subformula_of_lt J i l)))
      (λ yes.
      all_intro (node_right J t) J.nodes
      (λ n a.
      all_intro (row_right J t n) (size J)
      (λ s b.
      all_intro (cell_right J t n s) (subformula_count J)
      (λ k d.
      sym (by_cell n s k b d) ∙ all_elim right (length t) yes (index J n s k) (rw long (index_lt J n s k a b d))))))
