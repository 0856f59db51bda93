-- The search for the smallest open subformula, and closing it. Assumes nothing.
use Prim.Native.Nat.{ℕ, ◌<◌, ◌≤◌}
use mathlib.Core.Path.{◌≡◌, sym, ◌∙◌, ap}
use mathlib.Core.Bool.{Bool, true, false}
use mathlib.Core.List.{List}
use native.Mathlib.Omega.{arith}
use Rattle.law.proofs.Bounded.{any_intro, any_none, first_is, first_none}
use Rattle.job.specs.Job.{Job, size, subformula_count, subformula}
use Rattle.job.specs.Written.{IsJob}
use Rattle.job.specs.Rule.{rule_of, rule_at, closed_value}
use Rattle.job.specs.declared.rule.Rule.{Rule}
use Rattle.job.specs.declared.subformula.Subformula.{Subformula}
use Rattle.cells.specs.Table.{Table, owner_cell, is_empty}
use Rattle.cells.specs.Close.{open?, smallest_open, close_table}
use Rattle.cells.proofs.Fill.{is_empty_lem}
use Rattle.cells.specs.Rest.{column_flag, Tracked, FlagsAre}
use Rattle.cells.proofs.Tracked.{close_tracked}
use Rattle.table.specs.Filling.{Leaves, part, of_subformula}
use Rattle.table.proofs.Parts.{leaves_is}
use Rattle.closing.specs.Closed.{constant}

module _ (J : Job) (t : Table) where
  pub open_here : (s k : ℕ) → s < size J → owner_cell J t s k ≡ 2 → open? J t k ≡ true
  unfolding open?
  open_here s k l e = any_intro (λ s. is_empty (owner_cell J t s k)) (size J) s l (is_empty_lem (owner_cell J t s k) e)

  pub open_nowhere : (k : ℕ) → ((s : ℕ) → s < size J → is_empty (owner_cell J t s k) ≡ false) → open? J t k ≡ false
  unfolding open?
  open_nowhere k = any_none (λ s. is_empty (owner_cell J t s k)) (size J)

  pub smallest_open_is :
      (k : ℕ) → k < subformula_count J → ((j : ℕ) → j < k → open? J t j ≡ false) → open? J t k ≡ true → (k ≡ smallest_open J t) × (k ≤ subformula_count J)
  unfolding smallest_open
  smallest_open_is k l before here = (sym (first_is (open? J t) (subformula_count J) k l before here), omega arith)

  pub smallest_none : (k : ℕ) → k ≡ subformula_count J → ((j : ℕ) → j < k → open? J t j ≡ false) → (k ≡ smallest_open J t) × (k ≤ subformula_count J)
  unfolding smallest_open
  smallest_none k e before = (e ∙ sym (first_none (open? J t) (subformula_count J) (λ j l. before j (omega arith))), omega arith)

  -- What closing fills is its value in every cell of the subformula.
  pub all_closed :
      (k v : ℕ) (after : Table) (told : ℕ)
      → k ≡ smallest_open J t
      → v ≡ closed_value (rule_at J k)
      → Leaves t (part J (of_subformula k) (constant v) t) after told
      → Leaves t (close_table J t) after told
  unfolding close_table part of_subformula constant
  all_closed k v after told is value =
      leaves_is t (part J (of_subformula k) (constant v) t) (close_table J t) after told
      (ap (λ x. part J (of_subformula k) (constant x) t) value
      ∙ ap (λ j. part J (of_subformula j) (constant (closed_value (rule_at J j))) t) is)

-- The value, by the code's calls.
pub value_is :
    (J : Job) (k : ℕ) (f : Subformula) (r : Rule) (v : ℕ)
    → f ≡ subformula J.formula k
    → r ≡ rule_of f
    → v ≡ closed_value r
    → v ≡ closed_value (rule_at J k)
value_is J k f r v line rule value = value ∙ ap closed_value (rule ∙ ap rule_of line)

-- Right marks stay right when the closed columns are marked.
pub closed_tracked :
    (J : Job) (job : IsJob J) (t : Table) (stale news : List Bool)
    → Tracked J stale news t
    → (k : ℕ) (stale' : List Bool)
    → k ≡ smallest_open J t
    → k < subformula_count J
    → FlagsAre (λ n. column_flag n k) true J.nodes stale stale'
    → Tracked J stale' news (close_table J t)
closed_tracked J job t stale news tracked k stale' is l marked =
    close_tracked J job t stale news tracked stale' (rw is at l) (rw is at marked)
