-- A call by its questions. A text that the reader refuses is refused so by every call, and the table stays; on a text that it accepts
-- a call comes to what the number of the first no to its own questions says. What a yes to question 12 says, and the node that look reads.
-- Assumes nothing.
use Prim.Native.Nat.{ℕ, ◌*◌, ◌<◌}
use mathlib.Core.Path.{◌≡◌, refl, sym, ap, ap₂, ◌∙◌}
use mathlib.Core.Bool.{true, ◌&&◌, ◌||◌}
use mathlib.Core.Logic.{⊎_elim}
use mathlib.Core.List.{List, []}
use mathlib.Core.Option.{Option-elim}
use native.Mathlib.Omega.{arith}
use borrow.Author.Tests.{eq-eqb, ne_eqb, eqb-true, ltb-true}
use lib.ListN.{length}
use lib.Dec.{ltb, eqb}
use Rattle.law.specs.Lists.{every}
use Rattle.law.proofs.Bool.{and_left, and_right, or_cases}
use Rattle.law.proofs.Bounded.{by_equal}
use Rattle.text.specs.Field.{Text}
use Rattle.job.specs.Job.{Job, size, subformula_count, decode}
use Rattle.job.specs.Answer.{Answer, accepted, refused}
use Rattle.job.specs.Question.{is_own, of_call, refusal, no_number}
use Rattle.job.specs.Questions.{text_questions, Accepted}
use Rattle.job.specs.Read.{read_answer, read_told}
use Rattle.job.specs.Refused.{number_of, line_of_refusal}
use Rattle.job.specs.Written.{IsJob}
use Rattle.job.specs.declared.reading.Header.{Header}
use Rattle.job.specs.declared.refusal.Refusal.{Refusal}
use Rattle.std.proofs.Common.{Ok, Err}
use Rattle.job.proofs.QuestionLaws.{no_number_yes, no_number_no, later_accepted, later_refused}
use Rattle.job.proofs.ReadLaws.{text_refuses, reading_refuses, size_told, subformulas_told, nodes_told}
use Rattle.cells.specs.Table.{Table, table_length, fresh_table}
use Rattle.cells.specs.Questions.{table_size, table_cells, node_below, node_or255, numbers_below, temporal_named, owner_filled, truth_value, state_at_border, cell_agrees, state_in_fragment, table_settled, some_owner_empty, page_fits}
use Rattle.cells.specs.Calls.{Call, fresh, step, offer, accept, look, close, finish, page, told, left, node_read, own_questions, questions, width, answer, after}

-- Questions 9 to 20 and 24 have a number and no line.
own_questions_lem : (c : Call) (J : Job) (t : Table) → every is_own (own_questions c J t) ≡ true
unfolding every is_own of_call own_questions table_size table_cells node_below node_or255 numbers_below temporal_named owner_filled truth_value state_at_border cell_agrees state_in_fragment table_settled some_owner_empty page_fits
own_questions_lem fresh J t = refl
own_questions_lem (step n) J t = refl
own_questions_lem (offer s k) J t = refl
own_questions_lem (accept n s k v) J t = refl
own_questions_lem (look n s k) J t = refl
own_questions_lem close J t = refl
own_questions_lem finish J t = refl
own_questions_lem (page n room) J t = refl

module _ (c : Call) (x : Text) (t : Table) where
  -- refused by the reader
  pub text_refused :
      (number line others : ℕ)
      → refused number line others ≡ read_answer x
      → (refused number line (width c) ≡ answer c x t) × (t ≡ after c x t)
  unfolding questions answer after
  text_refused = text_refuses x (own_questions c (decode x) t) (width c) (told c (decode x) t) t (left c (decode x) t)

  pub reading_refused :
      (why : Refusal)
      → read_told (Err why) ≡ read_answer x
      → (refused (number_of why) (line_of_refusal why) (width c) ≡ answer c x t) × (t ≡ after c x t)
  unfolding questions answer after
  reading_refused = reading_refuses x (own_questions c (decode x) t) (width c) (told c (decode x) t) t (left c (decode x) t)

  -- accepted by the reader, and r the number of the first no to the call's own questions
  module _ (is : Accepted x) (r : ℕ) (asked : r ≡ no_number (own_questions c (decode x) t)) where
    pub own_refused : (r ≡ 0 → ⊥) → (refused r 0 (width c) ≡ answer c x t) × (t ≡ after c x t)
    unfolding Accepted questions answer after
    own_refused =
        later_refused (text_questions x) (own_questions c (decode x) t) (width c) (told c (decode x) t) t (left c (decode x) t) is
        (own_questions_lem c (decode x) t) r asked

    pub own_accepted : r ≡ 0 → (accepted (told c (decode x) t) ≡ answer c x t) × (left c (decode x) t ≡ after c x t)
    unfolding Accepted questions answer after
    own_accepted =
        later_accepted (text_questions x) (own_questions c (decode x) t) (width c) (told c (decode x) t) t (left c (decode x) t) is
        (own_questions_lem c (decode x) t) r asked

-- On a text that the reader refuses no table matters.
pub any_table :
    (c : Call) (x : Text) (t u : Table)
    → ((own : List ℕ) → accepted own ≡ read_answer x → t ≡ u)
    → answer c x t ≡ answer c x u
any_table c x t u same = by_answer (read_answer x) refl
  where
    by_answer : (a : Answer) → read_answer x ≡ a → answer c x t ≡ answer c x u
    by_answer (accepted own) e = ap (answer c x) (same own (sym e))
    by_answer (refused number line others) e =
        sym (text_refused c x t number line others (sym e)).0 ∙ (text_refused c x u number line others (sym e)).0

-- Fresh asks one question of its own.
module _ (x : Text) (t : Table) (is : Accepted x) where
  pub fresh_refused :
      (length t ≡ table_length (decode x) → ⊥) → (refused 9 0 0 ≡ answer fresh x t) × (t ≡ after fresh x t)
  unfolding own_questions table_size of_call width
  fresh_refused other =
      own_refused fresh x t is 9
      (sym (no_number_no (table_size (decode x) t) [] (ne_eqb (length t) (table_length (decode x)) other)))
      (λ e. omega arith)

  pub fresh_accepted :
      length t ≡ table_length (decode x) → (accepted [] ≡ answer fresh x t) × (fresh_table t ≡ after fresh x t)
  unfolding told left own_questions table_size of_call no_number refusal Option-elim
  fresh_accepted same =
      own_accepted fresh x t is 0
      (sym (no_number_yes (table_size (decode x) t) [] (eq-eqb (length t) (table_length (decode x)) same)))
      refl

-- the table's length, in the numbers that the reader gives
pub length_read :
    (x : Text) (h : Header) → read_told (Ok h) ≡ read_answer x → table_length (decode x) ≡ h.nodes * h.states * h.subformulas
unfolding table_length
length_read x h told = ap₂ ◌*◌ (ap₂ ◌*◌ (nodes_told x h told) (size_told x h told)) (subformulas_told x h told)

-- Question 12, answered yes.
pub numbers_in : (J : Job) (s k : ℕ) → (ltb s (size J) && ltb k (subformula_count J)) ≡ true → (s < size J) × (k < subformula_count J)
numbers_in J s k e = (
  ltb-true s (size J) (and_left (ltb s (size J)) (ltb k (subformula_count J)) e),
  ltb-true k (subformula_count J) (and_right (ltb s (size J)) (ltb k (subformula_count J)) e),
)

-- Behind questions 11 and 12 look reads a node of the job.
pub read_below :
    (J : Job) → IsJob J → (n s : ℕ) → (ltb n J.nodes || eqb n 255) ≡ true → s < size J → node_read J n s < J.nodes
unfolding node_read
read_below J job n s named state =
    by_equal n 255
    (λ e. rw (eq-eqb n 255 e) (job.owners s state))
    (λ e.
    rw (ne_eqb n 255 e)
    (⊎_elim (ltb-true n J.nodes) (λ z. absurd (e (eqb-true n 255 z))) (or_cases (ltb n J.nodes) (eqb n 255) named)))
