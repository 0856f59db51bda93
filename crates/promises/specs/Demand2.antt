-- Demand 2: "Reading accepts exactly the job layout; a step fills exactly the cells that the rules fill; the verdict from a fresh table
-- is yes exactly when the formula is true at state 0 by CTL on the uncut structure, over walks." The words of it that
-- `demands/proofs/Demands.antt` uses. Assumes nothing.
use Rattle.std.specs.Prelude.{ℕ, ◌-◌, ◌<◌, ◌≤◌, ◌≡◌, true, false, cond, List, [], ◌∷◌, ◌↔◌, length, get_or, ltb}
use Rattle.law.specs.Fixpoint.{member}
use Rattle.text.specs.Field.{Text, number_at}
use Rattle.job.specs.Job.{Job, decode, size, subformula_count}
use Rattle.job.specs.Rule.{rule_at}
use Rattle.job.specs.Answer.{Answer, accepted, refused}
use Rattle.job.specs.Questions.{Accepted}
use Rattle.job.specs.Read.{read_answer}
use Rattle.text.specs.Decimal.{line}
use Rattle.job.specs.Written.{IsJob, written}
use Rattle.ctl.specs.Truth.{Holds}
use Rattle.cells.specs.Fragment.{in_fragment}
use Rattle.cells.specs.Table.{Table, cell, filled}
use Rattle.cells.specs.SetRule.{SetRule, smallest, largest}
use Rattle.cells.specs.Sets.{IsSmallest, IsLargest}
use Rattle.cells.specs.Step.{column}

-- The text is that of a job: "the job layout".
pub record JobText (x : Text) : Type 0 where
  pub job : Job
  pub is_job : IsJob job
  pub is_written : x ≡ written job

pub record Accepts (a : Answer) : Type 0 where
  pub own : List ℕ
  pub told : a ≡ accepted own

-- What the rule of subformula k gives at node n and state s, 2 where it gives nothing: "subformulas are taken from 0 upward", so it sees
-- the cells of smaller subformulas as they are after the step, table u, and its own as they were before, table t.
unfoldable pub ruled : Job → ℕ → Table → Table → ℕ → ℕ → ℕ
ruled J n t u k s =
    get_or (column J n (λ j r. cell J (cond (ltb j k) u t) n r j) k (rule_at J k)) s 2

-- "a step fills exactly the cells that the rules fill", and its own numbers are how many
pub record FilledByRules (J : Job) (n : ℕ) (t : Table) (own : List ℕ) (u : Table) : Type 0 where
  pub told : own ≡ filled t u ∷ []
  pub long : length u ≡ length t
  -- "a filled cell is never changed"
  pub kept : (i : ℕ) → (get_or t i 0 ≡ 2 → ⊥) → get_or u i 0 ≡ get_or t i 0
  pub other_node :
      (m s k : ℕ) → s < size J → k < subformula_count J → (m ≡ n → ⊥) → cell J u m s k ≡ cell J t m s k
  pub outside : (s k : ℕ) → s < size J → k < subformula_count J → in_fragment J n s ≡ false → cell J u n s k ≡ cell J t n s k
  -- "an empty cell, at each state of the fragment"
  pub taken :
      (s k : ℕ)
      → s < size J
      → k < subformula_count J
      → in_fragment J n s ≡ true
      → cell J t n s k ≡ 2
      → cell J u n s k ≡ ruled J n t u k s

-- The two sets of a rule are the smallest and the largest with document 01's properties.
abbrev pub SmallestAndLargest : Job → ℕ → (ℕ → ℕ) → SetRule → Type 0
SmallestAndLargest J n own R =
    let L = smallest J n own R in
    IsSmallest J n own R (member L) × IsLargest J n own R L (member (largest J n own R L))

-- Subformula k is true at state s of the uncut structure of the job of text x.
abbrev pub TrueAt : Text → ℕ → ℕ → Type 0
TrueAt x k s = Holds (decode x).structure (decode x).formula k s

-- c is that truth: 0 or 1, 1 exactly where it is true, 0 exactly where it is not.
pub record IsTruth (x : Text) (k s c : ℕ) : Type 0 where
  pub known : c ≤ 1
  pub one : (c ≡ 1) ↔ TrueAt x k s
  pub zero : (c ≡ 0) ↔ (TrueAt x k s → ⊥)

-- A printed line shows these five numbers: its bytes are theirs, and its fields read so.
abbrev pub as_fields : List ℕ → List ℕ
as_fields said = number_at said 0 ∷ number_at said 5 ∷ number_at said 10 ∷ number_at said 15 ∷ number_at said 20 ∷ []

pub record Shows (said numbers : List ℕ) : Type 0 where
  pub bytes : said ≡ line numbers
  pub reads : as_fields said ≡ numbers

-- What `verdict` prints of a text: number and line of the refusal, or 0, 0, the truth of the whole formula at state 0, the rounds and
-- the cells filled.
pub data Judged (x : Text) (said : List ℕ) : Type 0 where
  as_refused :
      (number at : ℕ) → read_answer x ≡ refused number at 4 → Shows said (number ∷ at ∷ 0 ∷ 0 ∷ 0 ∷ []) → Judged x said
  as_true :
      (verdict rounds cells : ℕ)
      → Accepted x
      → IsTruth x (subformula_count (decode x) - 1) 0 verdict
      → Shows said (0 ∷ 0 ∷ verdict ∷ rounds ∷ cells ∷ [])
      → Judged x said
