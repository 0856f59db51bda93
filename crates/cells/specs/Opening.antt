-- Document 02 (vi), "Several opening states": "Finish takes S further bytes, 1 for an opening state and 0 for another", and what it answers of a
-- table at the states that these mark. Assumes nothing.
use Rattle.std.specs.Prelude.{ℕ, zero, suc, ◌-◌, Bool, cond, not, ◌&&◌, ◌||◌, List, [], ◌∷◌, length, get_or, replicate, leb, eqb}
use Rattle.law.specs.Bounded.{first, all, any}
use Rattle.job.specs.Job.{Job, size, subformula_count}
use Rattle.cells.specs.Table.{Table, owner_cell}

-- s is marked as an opening state
unfoldable pub opens : List ℕ → ℕ → Bool
opens marks s = eqb (get_or marks s 0) 1

-- "S bytes of 0 or 1"
unfoldable pub are_marks : Job → List ℕ → Bool
are_marks J marks = eqb (length marks) (size J) && all (λ s. leb (get_or marks s 0) 1) (length marks)

-- some mark is 1
unfoldable pub some_opening : List ℕ → Bool
some_opening marks = any (opens marks) (length marks)

-- "the owner's cell of K − 1"
unfoldable pub whole_cell : Job → Table → ℕ → ℕ
whole_cell J t s = owner_cell J t s (subformula_count J - 1)

-- "yes exactly when the owner's cell of K − 1 is 1 at every opening state": 1 for yes, 0 for no
unfoldable pub yes : Job → List ℕ → Table → ℕ
yes J marks t = cond (all (λ s. not (opens marks s) || eqb (whole_cell J t s) 1) (size J)) 1 0

-- s is an opening state "where it is 0"
unfoldable pub says_no : Job → List ℕ → Table → ℕ → Bool
says_no J marks t s = opens marks s && eqb (whole_cell J t s) 0

-- "the lowest one where it is 0 (S if none)"
unfoldable pub lowest_no : Job → List ℕ → Table → ℕ
lowest_no J marks t = first (says_no J marks t) (size J)

-- "`verdict` passes state 0 alone": the marks of a job with so many states
unfoldable pub state0_alone : ℕ → List ℕ
state0_alone zero = []
state0_alone (suc n) = 1 ∷ replicate n 0
