-- Finish on any table: its bound is never felt, so it is the rounds until one fills nothing. Each round but the last fills a cell, so
-- there are at most as many as empty cells, and one; every cell filled is counted; and on a table that passes questions 9 and 10 every
-- owner's cell is filled at the end. Assumes nothing.
use Prim.Native.Nat.{ℕ, zero, suc, ◌+◌, ◌<◌, ◌≤◌}
use mathlib.Core.Path.{◌≡◌, refl, sym, ◌∙◌, ap}
use native.Mathlib.Nat.{le_refl}
use native.Mathlib.Omega.{arith}
use borrow.Author.Tests.{eq-eqb, ne_eqb}
use lib.Dec.{eqb}
use Rattle.law.proofs.Bool.{cond_true, cond_false}
use Rattle.law.proofs.Bounded.{by_equal}
use Rattle.job.specs.Job.{Job}
use Rattle.job.specs.Written.{IsJob}
use Rattle.cells.specs.Table.{Table, filled, empty_cells}
use Rattle.cells.specs.Finish.{Finished, round, round_then, RoundsLeave, last, more, rounds_from, finish}
use Rattle.cells.proofs.Grown.{Grown, grown_after, round_grown}
use Rattle.cells.proofs.Counts.{filled_empties, filled_sum, filled_none}
use Rattle.cells.proofs.Formed.{Formed, round_formed}
use Rattle.cells.proofs.Rounds.{Complete, round_idle}

module _ (J : Job) where
  -- a round that fills something lowers the empty cells
  fewer : (t : Table) → (filled t (round J t) ≡ 0 → ⊥) → empty_cells J (round J t) < empty_cells J t
  fewer t some = omega (arith, filled_empties J t (round J t) (round_grown J t), some)

  last_from : (n : ℕ) (t : Table) → filled t (round J t) ≡ 0 → rounds_from J n t ≡ record { table = round J t; rounds = 1; cells = 0 }
  unfolding rounds_from
  last_from zero t none = ap (λ c. record { table = round J t; rounds = 1; cells = c }) none
  last_from (suc n) t none = cond_true (eqb (filled t (round J t)) 0) _ _ (eq-eqb (filled t (round J t)) 0 none)

  more_from :
      (n : ℕ) (t : Table)
      → (filled t (round J t) ≡ 0 → ⊥)
      → rounds_from J (suc n) t ≡ round_then (filled t (round J t)) (rounds_from J n (round J t))
  unfolding rounds_from
  more_from n t some = cond_false (eqb (filled t (round J t)) 0) _ _ (ne_eqb (filled t (round J t)) 0 some)

  -- any bound of no less than the empty cells is never felt
  from_leaves : (n : ℕ) (t : Table) → empty_cells J t ≤ n → RoundsLeave J t (rounds_from J n t)
  from_leaves zero t few =
      let none : filled t (round J t) ≡ 0 = omega (arith, filled_empties J t (round J t) (round_grown J t)) in
      last t _ none (last_from zero t none)
  from_leaves (suc n) t few =
      by_equal (filled t (round J t)) 0
      (λ none. last t _ none (last_from (suc n) t none))
      (λ some.
      let less = fewer t some in
      more t _ _ some (from_leaves n (round J t) (omega arith)) (more_from n t some))

  -- Finish is the rounds until one fills nothing.
  pub finish_leaves : (t : Table) → RoundsLeave J t (finish J t)
  unfolding finish
  finish_leaves t = from_leaves (empty_cells J t) t (le_refl (empty_cells J t))

  -- Such rounds are determined by the table.
  pub leaves_unique : (t : Table) (f g : Finished) → RoundsLeave J t f → RoundsLeave J t g → f ≡ g
  leaves_unique t f g (last _ _ none is) (last _ _ none' is') = is ∙ sym is'
  leaves_unique t f g (last _ _ none is) (more _ _ later some l is') = absurd (some none)
  leaves_unique t f g (more _ _ later some l is) (last _ _ none is') = absurd (some none)
  leaves_unique t f g (more _ _ later some l is) (more _ _ later' some' l' is') =
      is ∙ ap (round_then (filled t (round J t))) (leaves_unique (round J t) later later' l l') ∙ sym is'

  -- Each round but the last fills a cell.
  pub leaves_rounds : (t : Table) (f : Finished) → RoundsLeave J t f → f.rounds ≤ empty_cells J t + 1
  leaves_rounds t f (last _ _ none is) = rw is (omega arith)
  leaves_rounds t f (more _ _ later some l is) =
      let few = leaves_rounds (round J t) later l in
      let less = fewer t some in
      rw is (omega arith)

  pub leaves_grown : (t : Table) (f : Finished) → RoundsLeave J t f → Grown J t f.table
  leaves_grown t f (last _ _ none is) = rw is (round_grown J t)
  leaves_grown t f (more _ _ later some l is) =
      rw is (grown_after J t (round J t) later.table (round_grown J t) (leaves_grown (round J t) later l))

  pub leaves_cells : (t : Table) (f : Finished) → RoundsLeave J t f → f.cells ≡ filled t f.table
  leaves_cells t f (last _ _ none is) = rw is (sym none)
  leaves_cells t f (more _ _ later some l is) =
      let sum = filled_sum J t (round J t) (round_grown J t) later.table (leaves_grown (round J t) later l) in
      rw is (omega (arith, leaves_cells (round J t) later l))

  -- the last round leaves the table, and it is complete
  pub leaves_complete : IsJob J → (t : Table) (f : Finished) → RoundsLeave J t f → Formed J t → Complete J f.table
  leaves_complete job t f (last _ _ none is) formed =
      rw (is, filled_none J t (round J t) (round_grown J t) none) (round_idle J job t formed none)
  leaves_complete job t f (more _ _ later some l is) formed =
      rw is (leaves_complete job (round J t) later l (round_formed J t formed))

module _ (J : Job) (t : Table) where
  pub finish_rounds_lem : (finish J t).rounds ≤ empty_cells J t + 1
  finish_rounds_lem = leaves_rounds J t (finish J t) (finish_leaves J t)

  pub finish_cells : (finish J t).cells ≡ filled t (finish J t).table
  finish_cells = leaves_cells J t (finish J t) (finish_leaves J t)

  pub finish_complete : IsJob J → Formed J t → Complete J (finish J t).table
  finish_complete job = leaves_complete J job t (finish J t) (finish_leaves J t)

  -- Finish, one round at a time.
  pub finish_last : filled t (round J t) ≡ 0 → finish J t ≡ record { table = round J t; rounds = 1; cells = 0 }
  finish_last none = leaves_unique J t _ _ (finish_leaves J t) (last t _ none refl)

  pub finish_more :
      (filled t (round J t) ≡ 0 → ⊥) → finish J t ≡ round_then (filled t (round J t)) (finish J (round J t))
  finish_more some = leaves_unique J t _ _ (finish_leaves J t) (more t _ _ some (finish_leaves J (round J t)) refl)

  pub finish_some : 0 < (finish J t).rounds
  finish_some =
      by_equal (filled t (round J t)) 0
      (λ none. rw (finish_last none) (omega arith))
      (λ some. rw (finish_more some) (omega arith))
