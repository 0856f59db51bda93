-- What questions 1 to 3 leave to those who read the lines behind line 1. Assumes nothing.
use Rattle.std.specs.Prelude.{◌+◌, ◌*◌, ◌≤◌, ◌≡◌, true, length}
use Rattle.text.specs.Field.{Text}
use Rattle.job.specs.Layout.{states, edges, subformulas, nodes}
use Rattle.job.specs.Question.{all_yes}
use Rattle.job.specs.Questions.{head_questions}
use Rattle.job.specs.declared.reading.Header.{Header}

-- Questions 1 to 3 are answered yes, and h has the numbers of line 1.
pub record Fits (t : Text) (h : Header) : Type 0 where
  pub states_are : states t ≡ h.states
  pub edges_are : edges t ≡ h.edges
  pub subformulas_are : subformulas t ≡ h.subformulas
  pub nodes_are : nodes t ≡ h.nodes
  pub states_from : 1 ≤ h.states
  pub states_to : h.states ≤ 256
  pub edges_from : 1 ≤ h.edges
  pub edges_to : h.edges ≤ 2048
  pub subformulas_from : 1 ≤ h.subformulas
  pub subformulas_to : h.subformulas ≤ 32
  pub nodes_from : 1 ≤ h.nodes
  pub nodes_to : h.nodes ≤ 8
  pub sized : length t ≡ 21 + 11 * h.states + 11 * h.edges + 16 * h.subformulas
  pub head_yes : all_yes (head_questions t) ≡ true
