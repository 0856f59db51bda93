-- What the reader refuses with is small: a number and a line of at most four digits. Assumes nothing.
use Prim.Native.Nat.{ℕ, ◌+◌, ◌≤◌}
use mathlib.Core.Path.{◌≡◌, refl, sym, ◌∙◌}
use mathlib.Core.Bool.{Bool, true, not, ◌&&◌}
use mathlib.Core.Option as opt
use native.Mathlib.Omega.{arith}
use borrow.Author.Tests.{leb-true, le-leb}
use lib.Dec.{leb}
use Rattle.law.specs.Bounded.{first}
use Rattle.law.specs.Lists.{every}
use Rattle.law.proofs.Bool.{and_left, and_right}
use Rattle.law.proofs.Bounded.{first_le}
use Rattle.text.specs.Field.{Text}
use Rattle.job.specs.Layout.{states, edges, subformulas, nodes}
use Rattle.job.specs.Question.{Question, refusal}
use Rattle.job.specs.Questions.{of_line_one, of_lines, first_line, ranges, text_length, line_fields, state_lines, edge_lines, edges_out, formula_lines, head_questions, line_questions, text_questions, formed_line, state_ok, edge_ok, has_edge_out, formula_ok}
use Rattle.job.specs.Answer.{refused}
use Rattle.job.specs.Read.{header, head_answer, read_answer, read_told}
use Rattle.job.specs.Leaves.{Fits}
use Rattle.job.specs.declared.reading.Header.{Header}
use Rattle.job.proofs.QuestionLaws.{refused_not_accepted, by_refusal, refusal_has, refusal_first, answered_none, answered_some}
use Rattle.job.proofs.LayoutLaws.{head_fits}

unfoldable is_small : Question → Bool
is_small q = leb q.number 8 && leb q.line 2338

head_small : (t : Text) → every is_small (head_questions t) ≡ true
unfolding every is_small head_questions first_line ranges text_length of_line_one
head_small t = refl

-- behind line 1 there are few lines
text_small : (t : Text) (h : Header) → Fits t h → every is_small (text_questions t) ≡ true
unfolding every is_small text_questions head_questions line_questions first_line ranges text_length line_fields state_lines edge_lines edges_out formula_lines of_line_one of_lines
text_small t h fits =
    simp (
      line_small 2 (states t + edges t + subformulas t) (λ i. not (formed_line t i)) (omega arith),
      line_small 2 (states t) (λ s. not (state_ok t s)) (omega arith),
      line_small (2 + states t) (edges t) (λ e. not (edge_ok t e)) (omega arith),
      line_small 2 (states t) (λ s. not (has_edge_out t s)) (omega arith),
      line_small (2 + states t + edges t) (subformulas t) (λ k. not (formula_ok t k)) (omega arith),
    )
  where
    line_small : (l n : ℕ) (p : ℕ → Bool) → l + n ≤ 2338 → leb (l + first p n) 2338 ≡ true
    line_small l n p few = le-leb (l + first p n) 2338 (omega (arith, first_le p n))

small_first :
    (t : Text) (q : Question) → refusal (text_questions t) ≡ opt.some q → is_small q ≡ true
unfolding text_questions head_answer header read_told
small_first t q e =
    by_refusal (head_questions t)
    (λ none.
    let h : Header = record { states = states t; edges = edges t; subformulas = subformulas t; nodes = nodes t } in
    refusal_has is_small (text_questions t) q (text_small t h (head_fits t h (sym (answered_none (head_questions t) 4 (header t) none)))) e)
    (λ r some.
    let found : opt.some r ≡ opt.some q = sym (refusal_first (head_questions t) (line_questions t) r some) ∙ e in
    let same : r ≡ q = cc in
    rw (← same) (refusal_has is_small (head_questions t) r (head_small t) some))

pub refused_small : (t : Text) (number line others : ℕ) → refused number line others ≡ read_answer t → (number ≤ 8) × (line ≤ 2338)
unfolding read_answer is_small
refused_small t number line others told = by_refusal (text_questions t) never first_no
  where
    never : refusal (text_questions t) ≡ opt.none → (number ≤ 8) × (line ≤ 2338)
    never e = absurd (refused_not_accepted _ number line others (sym (told ∙ answered_none (text_questions t) 4 (header t) e)))

    first_no : (q : Question) → refusal (text_questions t) ≡ opt.some q → (number ≤ 8) × (line ≤ 2338)
    first_no q e =
        let same = told ∙ answered_some (text_questions t) 4 (header t) q e in
        let number_is : number ≡ q.number = cc in
        let line_is : line ≡ q.line = cc in
        let small = small_first t q e in (
          rw number_is (leb-true q.number 8 (and_left (leb q.number 8) (leb q.line 2338) small)),
          rw line_is (leb-true q.line 2338 (and_right (leb q.number 8) (leb q.line 2338) small)),
        )
