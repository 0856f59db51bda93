-- Document 01, "Messages, closing, finishing": a round, and finish. Assumes nothing.
use Rattle.std.specs.Prelude.{ℕ, zero, suc, ◌+◌, ◌-◌, cond, ◌&&◌, ◌≡◌, eqb}
use Rattle.job.specs.Job.{Job, subformula_count}
use Rattle.cells.specs.Table.{Table, owner_cell, filled, empty_cells}
use Rattle.cells.specs.Step.{step_table}
use Rattle.cells.specs.Close.{copy_table, settled, some_open, close_table}

-- "steps of nodes 0 to N − 1"
unfoldable pub steps_up_to : Job → ℕ → Table → Table
steps_up_to J zero t = t
steps_up_to J (suc n) t = step_table J n (steps_up_to J n t)

-- The steps and the copying of a round.
unfoldable pub exchange : Job → Table → Table
exchange J t = copy_table J (steps_up_to J J.nodes t)

-- "what close would do, or nothing if close would refuse"
unfoldable pub closing : Job → Table → Table
closing J t = let u = close_table J t in cond (settled J t && some_open J t) u t

unfoldable pub round : Job → Table → Table
round J t =
    let u = exchange J t in
    let v = closing J u in
    cond (eqb (filled t u) 0) v u

-- A finished table, with the rounds done and the cells filled on the way.
pub record Finished : Type 0 where
  pub table : Table
  pub rounds : ℕ
  pub cells : ℕ

-- A round that fills c cells, and what the rounds behind it leave.
abbrev pub round_then : ℕ → Finished → Finished
round_then c later = record { table = later.table; rounds = suc later.rounds; cells = c + later.cells }

-- "Finish does rounds until one fills nothing", the last one counted: what they leave of t is f. However many they are.
pub data RoundsLeave (J : Job) : Table → Finished → Type 0 where
  last :
      (t : Table) (f : Finished)
      → filled t (round J t) ≡ 0
      → f ≡ record { table = round J t; rounds = 1; cells = 0 }
      → RoundsLeave J t f
  more :
      (t : Table) (f later : Finished)
      → (filled t (round J t) ≡ 0 → ⊥)
      → RoundsLeave J (round J t) later
      → f ≡ round_then (filled t (round J t)) later
      → RoundsLeave J t f

-- The same, computed: at most n + 1 rounds.
unfoldable pub rounds_from : Job → ℕ → Table → Finished
rounds_from J zero t = record { table = round J t; rounds = 1; cells = filled t (round J t) }
rounds_from J (suc n) t =
    let u = round J t in
    let c = filled t u in
    let later = rounds_from J n u in
    cond (eqb c 0)
    (record { table = u; rounds = 1; cells = 0 })
    (round_then c later)

-- No bound is felt: `finish_leaves` of `proofs/Finish.antt` shows that these are the rounds until one fills nothing.
unfoldable pub finish : Job → Table → Finished
finish J t = rounds_from J (empty_cells J t) t

-- "the owner's cell of state 0 and subformula K − 1"
unfoldable pub verdict : Job → Table → ℕ
verdict J t = owner_cell J t 0 (subformula_count J - 1)
