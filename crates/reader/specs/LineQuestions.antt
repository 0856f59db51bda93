-- Questions 5 to 8 from what is known behind the last line, where every line is well-formed. Assumes nothing.
use Rattle.std.specs.Prelude.{ℕ, ◌+◌, ◌≤◌, List, [], ◌∷◌, eqb}
use Rattle.job.specs.Question.{Question}
use Rattle.job.specs.declared.reading.Header.{Header}
use Rattle.edge_pass.specs.EdgePass.{question6, question7}
use Rattle.edge_pass.specs.declared.Kept.{Kept}

-- Questions 5 and 8 from how many of their lines are right before the first that is not, and 5 to 8 in order.
unfoldable pub question5 : Header → ℕ → Question
question5 h right = record { number = 5; line = 2 + right; test = eqb right h.states }

unfoldable pub question8 : Header → ℕ → Question
question8 h right = record { number = 8; line = 2 + h.states + h.edges + right; test = eqb right h.subformulas }

unfoldable pub lines_asked : Header → ℕ → Kept → ℕ → List Question
lines_asked h states k subformulas = question5 h states ∷ question6 k ∷ question7 k ∷ question8 h subformulas ∷ []

-- The numbers that lines are reported by are small.
pub record Askable (h : Header) (states : ℕ) (k : Kept) (subformulas : ℕ) : Type 0 where
  pub states_few : (h.states ≤ 256) × (states ≤ 256)
  pub edges_few : (h.edges ≤ 2048) × (k.order.right ≤ 2048)
  pub subformulas_few : subformulas ≤ 32
  pub kept_states : k.order.states ≤ 256
