-- How the reader's answer comes about where the head accepts: question 4 is answered yes, or it is the first no, by the first line that
-- fails it; and what an accepted answer says of the text. Assumes nothing.
use Prim.Native.Nat.{ℕ, ◌+◌, ◌*◌, ◌<◌, ◌≤◌}
use mathlib.Core.Path.{◌≡◌, refl, sym, ◌∙◌, ap}
use mathlib.Core.Bool.{true, not}
use mathlib.Core.List.{List, [], ◌∷◌}
use mathlib.Core.Option as opt
use native.Mathlib.Nat.{mul-le-mul}
use native.Mathlib.Omega.{arith}
use borrow.Author.Tests.{ne_eqb, ltb-true}
use lib.ListN.{drop}
use lib.Dec.{ltb}
use Rattle.law.specs.Bounded.{first, all}
use Rattle.law.specs.Lists.{every}
use Rattle.law.proofs.Lists.{tab_length}
use Rattle.text.specs.Field.{Text}
use Rattle.job.specs.Layout.{states, subformulas, nodes, label_field, kind_field, left_field, right_field}
use Rattle.job.specs.Question.{Question, refusal, answered}
use Rattle.job.specs.Questions.{of_line_one, of_lines, first_line, ranges, text_length, line_fields, state_lines, edge_lines, edges_out, formula_lines, head_questions, line_questions, text_questions, formed_line, Accepted as Accepted-text}
use Rattle.job.specs.Formula.{parsed, formula}
use Rattle.job.specs.Job.{size, subformula_count, decode}
use Rattle.job.specs.Answer.{accepted, refused}
use Rattle.job.specs.Read.{header, head_answer, read_answer, read_told}
use Rattle.job.specs.Refused.{number_of, line_of_refusal}
use Rattle.job.specs.Leaves.{Fits}
use Rattle.job.specs.declared.reading.Header.{Header}
use Rattle.job.specs.declared.refusal.Refusal.{Refusal}
use Rattle.std.proofs.Common.{Ok, Err}
use Rattle.job.proofs.QuestionLaws.{ComesTo, first_refused, refused_not_accepted, by_refusal, refusal_has, answered_yes, answered_no, answered_none, answered_some, accepted_none, accepted_own, refusal_before, answered_behind}
use Rattle.job.proofs.Asked.{Passed, accepted_passed}
use Rattle.job.proofs.LayoutLaws.{head_fits}

-- A refusal by the head is the reader's.
pub read_head_refused : (t : Text) (number line : ℕ) → refused number line 4 ≡ head_answer t → refused number line 4 ≡ read_answer t
unfolding head_answer read_answer text_questions
read_head_refused t number line told =
    (first_refused (head_questions t) (line_questions t) 4 (header t) t t 4 (header t) number line 4 told).0

-- Where the head accepts, question 4 comes next: it is answered yes, and what is left are questions 5 to 8, or it is the first no.
module _ (t : Text) (h : Header) (fits : Fits t h) where
  abbrev count : ℕ
  count = h.states + h.edges + h.subformulas

  abbrev fourth : Question
  fourth = of_lines 4 (formed_line t) count 2

  behind_head : read_answer t ≡ answered (fourth ∷ drop 4 (text_questions t)) 4 (header t)
  unfolding read_answer text_questions head_questions line_questions line_fields
  behind_head =
      answered_behind (head_questions t) (line_questions t) 4 (header t) fits.head_yes
      ∙ rw (fits.states_are, fits.edges_are, fits.subformulas_are)

  pub fields_pass : all (formed_line t) count ≡ true → read_answer t ≡ answered (drop 4 (text_questions t)) 4 (header t)
  unfolding of_lines
  fields_pass passed = behind_head ∙ answered_yes fourth (drop 4 (text_questions t)) 4 (header t) passed

  pub fields_refuse : (b : ℕ) → b < count → first (λ i. not (formed_line t i)) count ≡ b → refused 4 (2 + b) 4 ≡ read_answer t
  unfolding of_lines all
  fields_refuse b l found =
      let fails = ne_eqb (first (λ i. not (formed_line t i)) count) count (λ e. omega arith) in
      rw (← found) (sym (behind_head ∙ answered_no fourth (drop 4 (text_questions t)) 4 (header t) fails))

-- What the reader's accepted answer says of the text.
module _ (t : Text) (h : Header) (told : read_told (Ok h) ≡ read_answer t) where
  abbrev own : List ℕ
  own = h.states ∷ h.edges ∷ h.subformulas ∷ h.nodes ∷ []

  pub text_accepted : Accepted-text t
  unfolding read_told read_answer Accepted-text
  text_accepted = accepted_none (text_questions t) 4 (header t) own told

  header_read : own ≡ header t
  unfolding read_told read_answer
  header_read = accepted_own (text_questions t) 4 (header t) own told

  pub read_passed : Passed t
  read_passed = accepted_passed t text_accepted

  pub read_fits : Fits t h
  unfolding read_told head_answer Accepted-text text_questions
  read_fits =
      head_fits t h
      (ap accepted header_read
      ∙ sym
      (answered_none (head_questions t) 4 (header t)
      (refusal_before (head_questions t) (line_questions t) text_accepted)))

-- A text that the reader refuses is refused so by every call that takes a job, and what was lent stays.
module _ {A : Type 0} (t : Text) (qs : List Question) (others : ℕ) (own : List ℕ) (before made : A) where
  pub text_refuses :
      (number line n : ℕ)
      → refused number line n ≡ read_answer t
      → ComesTo (text_questions t) qs others own before made (refused number line others) before
  unfolding read_answer
  text_refuses = first_refused (text_questions t) qs others own before made 4 (header t)

  -- so in the reader's own words
  pub reading_refuses :
      (why : Refusal)
      → read_told (Err why) ≡ read_answer t
      → ComesTo (text_questions t) qs others own before made (refused (number_of why) (line_of_refusal why) others) before
  unfolding read_told
  reading_refuses why read = text_refuses (number_of why) (line_of_refusal why) 4 read

-- A refusal has a number.
questions_numbered : (t : Text) → every (λ q. ltb 0 q.number) (text_questions t) ≡ true
unfolding every text_questions head_questions line_questions first_line ranges text_length line_fields state_lines edge_lines edges_out formula_lines of_line_one of_lines
questions_numbered t = refl

pub refusal_numbered : (t : Text) (number line n : ℕ) → refused number line n ≡ read_answer t → 0 < number
unfolding read_answer
refusal_numbered t number line n is = by_refusal (text_questions t) never some
  where
    never : refusal (text_questions t) ≡ opt.none → 0 < number
    never e = absurd (refused_not_accepted (header t) _ _ _ (sym (is ∙ answered_none (text_questions t) 4 (header t) e)))

    some : (q : Question) → refusal (text_questions t) ≡ opt.some q → 0 < number
    some q e =
        let same = is ∙ answered_some (text_questions t) 4 (header t) q e in
        let number_is : number ≡ q.number = cc in
        rw number_is (ltb-true 0 q.number (refusal_has (λ q. ltb 0 q.number) (text_questions t) q (questions_numbered t) e))

-- The table's length in a text's numbers, factor by factor.
pub product_small : (t : Text) (h : Header) → Fits t h → (h.nodes * h.states ≤ 2048) × (h.nodes * h.states * h.subformulas ≤ 65536)
product_small t h fits =
    let two : h.nodes * h.states ≤ 8 * 256 = mul-le-mul fits.nodes_to fits.states_to in
    (two, mul-le-mul two fits.subformulas_to)

-- The numbers of the job that a text describes are those of line 1, accepted or not.
pub decode_length : (t : Text) → ((decode t).nodes ≡ nodes t) × (size (decode t) ≡ states t) × (subformula_count (decode t) ≡ subformulas t)
unfolding size subformula_count decode
decode_length t = (
  refl,
  tab_length (label_field t) (states t),
  tab_length (λ k. formula (parsed k (kind_field t k) (left_field t k) (right_field t k))) (subformulas t),
)

-- The numbers of the job that an accepted text describes.
module _ (t : Text) (h : Header) (told : read_told (Ok h) ≡ read_answer t) where
  pub size_told : size (decode t) ≡ h.states
  size_told = (decode_length t).1 ∙ (read_fits t h told).states_are

  pub subformulas_told : subformula_count (decode t) ≡ h.subformulas
  subformulas_told = (decode_length t).2 ∙ (read_fits t h told).subformulas_are

  pub nodes_told : (decode t).nodes ≡ h.nodes
  nodes_told = (decode_length t).0 ∙ (read_fits t h told).nodes_are
