-- Request (iv), one walk over the edge lines: what is kept follows from what was kept and from one line, and questions 6 and 7, answered from it, are
-- document 01's, so that the reader may be asked by them. Assumes nothing.
use Prim.Native.Nat.{ℕ, suc, ◌≤◌}
use mathlib.Core.Path.{◌≡◌, refl, sym, ◌∙◌, ap}
use mathlib.Core.Bool.{false}
use mathlib.Core.List.{[], ◌∷◌, map}
use native.Mathlib.Omega.{arith}
use Rattle.law.specs.Bounded.{first, all}
use Rattle.law.proofs.Bool.{and_four}
use Rattle.law.proofs.Lists.{every_elim}
use Rattle.text.specs.Field.{Text, digits, columns, field, well_formed, value, number_at, formed}
use Rattle.job.specs.Layout.{states, edges, subformulas, nodes, length_of, state_at, edge_at, subformula_at, owner_field, label_field, source_field, target_field, fields_of, line_at}
use Rattle.job.specs.Answer.{Answer}
use Rattle.job.specs.Question.{all_yes, refusal, answered}
use Rattle.job.specs.Questions.{of_line_one, of_lines, first_line, ranges, text_length, line_fields, state_lines, edge_lines, edges_out, formula_lines, head_questions, line_questions, text_questions, within, in_ranges, formed_line, state_ok, less, Accepted}
use Rattle.job.specs.Read.{header, read_answer}
use Rattle.job.proofs.Asked.{within_between}
use Rattle.job.proofs.QuestionLaws.{all_answered_yes, refusal_before, refusal_behind}
use Rattle.layout.specs.Lines.{right_after}
use Rattle.cells.specs.Cases.{bytes, job_v, job6}
use Rattle.edge_pass.specs.EdgePass.{start, is_right, order_after, after, kept_after, kept_of, terminal_state, question6, question7}
use Rattle.edge_pass.proofs.EdgePassLaws.{kept_marks, answer_6, answer_7}
use Rattle.promises.specs.CallContracts.{Loan, Reads}
use Rattle.promises.specs.Demand1.{AnswersBy}
use Rattle.promises.specs.OneWalk.{first_five, LetThrough, walked_questions, bytes_kept, told, walked, lower_job, far_job, walks}
use Rattle.promises.proofs.Contracts.{reads_defined}
use Rattle.promises.proofs.Calls.{answers_by}

pub line_alone :
    (x y : Text) (e : ℕ) → kept_after x e ≡ kept_after y e → source_field x e ≡ source_field y e → target_field x e ≡ target_field y e
    → kept_after x (suc e) ≡ kept_after y (suc e)
unfolding kept_after
line_alone x y e kept source target = λ i. after (kept i) (source i) (target i)

pub kept_small : (x : Text) (e : ℕ) → bytes_kept (kept_after x e) ≤ 1024
unfolding bytes_kept
kept_small x e = omega (arith, kept_marks x e)

module _ (x : Text) where
  few_states : LetThrough x → states x ≤ 256
  unfolding first_five all_yes ranges of_line_one in_ranges
  few_states through =
      let passed = every_elim (λ q. q.test) (first_five x) (first_line x) (all_answered_yes (first_five x) through.none_fails) 1 (omega arith) in
      (within_between 1 256 (states x) (and_four (within 1 256 (states x)) (within 1 2048 (edges x)) (within 1 32 (subformulas x)) (within 1 8 (nodes x)) passed).0).below

  pub kept_6 : question6 (kept_of x) ≡ edge_lines x
  kept_6 = answer_6 x

  pub kept_7 : LetThrough x → question7 (kept_of x) ≡ edges_out x
  kept_7 through = answer_7 x (few_states through)

  walked_refusal : refusal (text_questions x) ≡ refusal (walked_questions x)
  unfolding text_questions head_questions line_questions walked_questions first_five
  walked_refusal =
      refusal_behind (first_five x) (edge_lines x ∷ edges_out x ∷ formula_lines x ∷ []) (question6 (kept_of x) ∷ question7 (kept_of x) ∷ formula_lines x ∷ [])
      (λ none. rw (kept_6, kept_7 (record { none_fails = none })))

  pub reads_walked : (l : Loan) (a : Answer) → Reads l x a → AnswersBy (walked_questions x) 4 (header x) a
  unfolding read_answer answered
  reads_walked l a reads = rw (reads_defined l x a reads, walked_refusal) (answers_by (walked_questions x) 4 (header x))

  pub accepted_let_through : Accepted x → LetThrough x
  unfolding Accepted text_questions head_questions line_questions first_five
  accepted_let_through is =
      record { none_fails = refusal_before (first_five x) (edge_lines x ∷ edges_out x ∷ formula_lines x ∷ []) is }

unfoldable pub by_hand : map walked walks ≡ walks
unfolding walked walks told job_v job6 lower_job far_job bytes kept_of kept_after start after order_after is_right right_after terminal_state question6 question7 less first digits columns field value number_at states edges state_at edge_at source_field target_field
by_hand = refl

pub lower_through : LetThrough (bytes lower_job)
unfolding first_five refusal first_line ranges text_length line_fields state_lines of_line_one of_lines in_ranges within all formed_line state_ok length_of fields_of line_at formed well_formed owner_field label_field subformula_at subformulas nodes by_hand
lower_through = record { none_fails = refl }

-- the questions of that text, from what is kept, by computation
lower_6 : (question6 (kept_of (bytes lower_job))).test ≡ false
unfolding by_hand
lower_6 = refl

lower_7 : (question7 (kept_of (bytes lower_job))).test ≡ false
unfolding by_hand
lower_7 = refl

pub lower_fails : ((edge_lines (bytes lower_job)).test ≡ false) × ((edges_out (bytes lower_job)).test ≡ false)
lower_fails = (
  sym (ap (λ q. q.test) (kept_6 (bytes lower_job))) ∙ lower_6,
  sym (ap (λ q. q.test) (kept_7 (bytes lower_job) lower_through)) ∙ lower_7,
)
