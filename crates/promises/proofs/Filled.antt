-- A step fills exactly the cells that the rules fill: the table that it leaves, in the words of `specs/Demand2.antt`. Assumes nothing.
use Prim.Native.Nat.{ℕ, zero, suc, ◌<◌, ◌≤◌}
use mathlib.Core.Path.{◌≡◌, refl, sym, ◌∙◌, ap}
use mathlib.Core.List.{List, [], ◌∷◌}
use mathlib.Core.Bool.{true, false, cond, ◌&&◌}
use native.Mathlib.Nat.{le_refl}
use native.Mathlib.Omega.{arith}
use borrow.Author.Tests.{lt-ltb, le-ltb}
use lib.ListN.{get_or}
use lib.Dec.{ltb}
use Rattle.law.proofs.Bool.{split, cond_true, and_intro}
use Rattle.text.specs.Field.{Text}
use Rattle.job.specs.Job.{Job, decode, size, subformula_count}
use Rattle.job.specs.Rule.{rule_at, quantifier, IsSets}
use Rattle.job.specs.Answer.{accepted}
use Rattle.job.specs.Written.{IsJob}
use Rattle.job.proofs.Exact.{decode_is_job}
use Rattle.cells.specs.Fragment.{in_fragment, inner}
use Rattle.cells.specs.Table.{Table, index, cell, is_empty, inside, filled}
use Rattle.cells.specs.SetRule.{SetRule, set_rule, smallest, by_sets}
use Rattle.cells.specs.Step.{known, step_up_to, step_table}
use Rattle.cells.specs.Calls.{step, told, left}
use Rattle.cells.proofs.Index.{node_of_index, state_of_index}
use Rattle.cells.proofs.Fill.{is_empty_lem}
use Rattle.cells.proofs.Kept.{step_up_to_keeps}
use Rattle.cells.proofs.Columns.{column_same, sets_column}
use Rattle.cells.proofs.Formed.{Formed, cell_low}
use Rattle.cells.proofs.Local.{column_of, step_column_cell, step_column_other, step_table_node, read_lt}
use Rattle.cells.proofs.Sets.{smallest_is, largest_is}
use Rattle.cells.proofs.Repeat.{by_sets_filled, by_sets_border}
use Rattle.cells.proofs.Tells.{by_cell}
use Rattle.cells.proofs.Grown.{step_table_grown}
use Rattle.promises.specs.CallContracts.{Loan, Happens}
use Rattle.promises.specs.Demand2.{ruled, FilledByRules, SmallestAndLargest}
use Rattle.promises.proofs.Contracts.{happens_defined}
use Rattle.promises.proofs.Calls.{accepted_taken, taken_told, taken_left, taken_accepted}

module _ (J : Job) (job : IsJob J) (n : ℕ) (t : Table) where
  abbrev u : Table
  u = step_table J n t

  -- before the column of k is worked its cells are as they were
  before : (i k s : ℕ) → i ≤ k → k < subformula_count J → cell J (step_up_to J n i t) n s k ≡ cell J t n s k
  unfolding step_up_to
  before zero k s l under = refl
  before (suc i) k s l under =
      step_column_other J n i (step_up_to J n i t) n s k under (λ e. omega arith) ∙ before i k s (omega arith) under

  -- and behind it they are as the whole step leaves them
  behind : (k j s : ℕ) → j < k → k ≤ subformula_count J → cell J u n s j ≡ cell J (step_up_to J n k t) n s j
  unfolding step_table
  behind k j s l under =
      step_up_to_keeps J (λ v w. cell J w n s j ≡ cell J v n s j) (λ v. refl) (λ v w z p q. q ∙ p) n k
      (λ i v m h. step_column_other J n i v n s j (omega arith) (λ e. omega arith)) (subformula_count J) t under (le_refl (subformula_count J))

  -- so the rule of k has what it reads
  column_ruled : (k : ℕ) → k < subformula_count J → (s : ℕ) → get_or (column_of J n k (step_up_to J n k t)) s 2 ≡ ruled J n t u k s
  unfolding ruled
  column_ruled k under s =
      let lt = read_lt J job.operands (λ e l. (job.ends e l).1) n in
      ap (λ c. get_or c s 2)
      (column_same J n k (λ j r. cell J (step_up_to J n k t) n r j) (λ j r. cell J (cond (ltb j k) u t) n r j)
      (λ j h r at. rw (lt-ltb j k h) (sym (behind k j r h (omega arith))))
      (λ r h. rw (le-ltb k k (le_refl k)) (before k k r (le_refl k) under))
      (rule_at J k) (job.operands k under))

  cell_taken :
      (s k : ℕ)
      → s < size J
      → k < subformula_count J
      → in_fragment J n s ≡ true
      → cell J t n s k ≡ 2
      → cell J u n s k ≡ ruled J n t u k s
  unfolding step_up_to
  cell_taken s k l under inside empty =
      let w = step_up_to J n k t in
      let own : cell J w n s k ≡ 2 = before k k s (le_refl k) under ∙ empty in
      behind (suc k) k s (omega arith) (omega arith)
      ∙ step_column_cell J n k w s l under
      ∙ cond_true (is_empty (cell J w n s k) && in_fragment J n s) (get_or (column_of J n k w) s 2) (cell J w n s k)
      (and_intro (is_empty (cell J w n s k)) (in_fragment J n s) (is_empty_lem (cell J w n s k) own) inside)
      ∙ column_ruled k under s

  cell_outside : (s k : ℕ) → s < size J → k < subformula_count J → in_fragment J n s ≡ false → cell J u n s k ≡ cell J t n s k
  unfolding cell
  cell_outside s k l under out =
      (step_table_grown J n t).outside (index J n s k)
      (unfold inside in rw (node_of_index J n s k l under, state_of_index J n s k l under) out)

  step_filled : FilledByRules J n t (filled t u ∷ []) u
  step_filled =
      record {
        told = refl;
        long = (step_table_grown J n t).long;
        kept = (step_table_grown J n t).kept;
        other_node = step_table_node J n t;
        outside = cell_outside;
        taken = cell_taken;
      }

-- So does an accepted step, and it answers how many.
pub happens_filled :
    (l : Loan) (x : Text) (n : ℕ) (t u : Table) (own : List ℕ)
    → Happens l x (step n) t (accepted own) u
    → FilledByRules (decode x) n t own u
unfolding told left
happens_filled l x n t u own happens =
    let (told_is, left_is) = happens_defined l x (step n) t (accepted own) u happens in
    let taken = accepted_taken (step n) x t own (sym told_is) in
    let u_is : u ≡ step_table (decode x) n t = left_is ∙ taken_left (step n) x t taken in
    let same : accepted own ≡ accepted (filled t (step_table (decode x) n t) ∷ []) = told_is ∙ taken_told (step n) x t taken in
    let own_is : own ≡ filled t (step_table (decode x) n t) ∷ [] = cc in
    rw (own_is, u_is) (step_filled (decode x) (decode_is_job x (taken_accepted (step n) x t taken)) n t)

-- Of a rule that goes by sets the step leaves what the sets give at every state: a filled cell is in its set, and an empty one outside the
-- fragment in neither.
module _
    (J : Job) (n k : ℕ) (t u : Table) (own : List ℕ) (formed : Formed J t) (done : FilledByRules J n t own u)
    (sets : IsSets (rule_at J k)) (small : sets.growth.value ≤ 1) (under : k < subformula_count J) (s : ℕ) (l : s < size J)
  where
    abbrev at : ℕ → ℕ → ℕ
    at j r = cell J (cond (ltb j k) u t) n r j

    abbrev R : SetRule
    R = set_rule (quantifier sets.growth.all) (known at sets.growth.start) (known at sets.growth.grow) sets.growth.value

    own_cell : at k s ≡ cell J t n s k
    own_cell = rw (le-ltb k k (le_refl k)) refl

    by_its_sets : get_or (by_sets J n (at k) R) s 2 ≡ ruled J n t u k s
    unfolding ruled
    by_its_sets = sym (ap (λ c. get_or c s 2) (sets_column J n at k (rule_at J k) sets))

    filled_ruled : cell J t n s k ≤ 1 → cell J u n s k ≡ ruled J n t u k s
    unfolding cell
    filled_ruled low =
        done.kept (index J n s k) (λ e. omega arith) ∙ sym own_cell
        ∙ sym (by_sets_filled J n (at k) R small s l (rw own_cell low)) ∙ by_its_sets

    outside_ruled : cell J t n s k ≡ 2 → in_fragment J n s ≡ false → cell J u n s k ≡ ruled J n t u k s
    unfolding inner
    outside_ruled empty out =
        done.outside s k l under out ∙ empty ∙ sym (by_sets_border J n (at k) R small s l (simp out) (own_cell ∙ empty)) ∙ by_its_sets

    pub sets_ruled : cell J u n s k ≡ ruled J n t u k s
    sets_ruled =
        by_cell (cell J t n s k) (cell_low J t formed n s k)
        (λ e. filled_ruled (omega arith))
        (λ e. filled_ruled (omega arith))
        (λ e. split (in_fragment J n s) (λ inside. done.taken s k l under inside e) (outside_ruled e))

pub sets_are : (J : Job) (n : ℕ) (own : ℕ → ℕ) (R : SetRule) → SmallestAndLargest J n own R
sets_are J n own R = (smallest_is J n own R, largest_is J n own R (smallest J n own R))
