-- Finish from its rounds: a loop of rounds ends where the definition does. Assumes nothing.
use Prim.Native.Nat.{ℕ, ◌+◌, ◌<◌, ◌≤◌}
use mathlib.Core.Path.{◌≡◌, refl, sym, ◌∙◌, ap, ap₂}
use mathlib.Core.Bool.{not, ◌&&◌}
use native.Mathlib.Omega.{arith}
use lib.ListN.{length, get_or}
use Rattle.law.proofs.Count.{count_le}
use Rattle.job.specs.Job.{Job}
use Rattle.cells.specs.Table.{Table, is_empty, inside, filled, empty_cells}
use Rattle.cells.specs.Finish.{round, round_then, finish}
use Rattle.cells.proofs.Formed.{Formed, round_formed}
use Rattle.cells.proofs.Finish.{finish_rounds_lem, finish_cells, finish_last, finish_more, finish_some}
use Rattle.table.specs.Filling.{Leaves}

-- Rounds on t, so many and with so many cells filled, came to u: what finish does to t is these and what it does to u.
pub record Came (J : Job) (t u : Table) (rounds cells : ℕ) : Type 0 where
  pub formed : Formed J u
  pub table_is : (finish J t).table ≡ (finish J u).table
  pub rounds_are : (finish J t).rounds ≡ rounds + (finish J u).rounds
  pub cells_are : (finish J t).cells ≡ cells + (finish J u).cells

pub came_first : (J : Job) (t : Table) → Formed J t → Came J t t 0 0
came_first J t formed =
    record { formed = formed; table_is = refl; rounds_are = omega arith; cells_are = omega arith }

module _ (J : Job) (t u : Table) (rounds cells : ℕ) (so_far : Came J t u rounds cells) where
  pub came_rounds : rounds < length t + 1
  unfolding empty_cells
  came_rounds =
      omega (
        arith,
        so_far.rounds_are,
        finish_some J u,
        finish_rounds_lem J t,
        count_le (λ i. is_empty (get_or t i 0) && inside J i) (length t),
      )

  pub came_cells : cells ≤ length t
  unfolding filled
  came_cells =
      let all = (finish J t).table in
      omega (
        arith,
        so_far.cells_are,
        finish_cells J t,
        count_le (λ i. is_empty (get_or t i 0) && not (is_empty (get_or all i 0))) (length t),
      )

  -- and a round
  module _ (w : Table) (c : ℕ) (left : Leaves u (round J u) w c) where
    pub came_formed : Formed J w
    came_formed = rw left.table_is (round_formed J u so_far.formed)

    pub came_more : (c ≡ 0 → ⊥) → Came J t w (rounds + 1) (cells + c)
    came_more some =
        let later : finish J u ≡ round_then c (finish J w) =
        finish_more J u (λ none. some (left.told_is ∙ none)) ∙ ap₂ round_then (sym left.told_is) (ap (finish J) (sym left.table_is)) in
        record {
          formed = came_formed;
          table_is = so_far.table_is ∙ ap (λ f. f.table) later;
          rounds_are = omega (arith, so_far.rounds_are, ap (λ f. f.rounds) later);
          cells_are = omega (arith, so_far.cells_are, ap (λ f. f.cells) later);
        }

    pub came_last : c ≡ 0 → (w ≡ (finish J t).table) × ((rounds + 1 ≡ (finish J t).rounds) × (cells ≡ (finish J t).cells))
    came_last none =
        let last = finish_last J u (sym left.told_is ∙ none) in (
          left.table_is ∙ sym (so_far.table_is ∙ ap (λ f. f.table) last),
          (omega (arith, so_far.rounds_are, ap (λ f. f.rounds) last), omega (arith, so_far.cells_are, ap (λ f. f.cells) last)),
        )
