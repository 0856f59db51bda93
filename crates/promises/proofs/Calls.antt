-- A call by its answer: a refused one leaves the table, and of an accepted one every question that it puts has a yes, as a fact
-- about its numbers and the table. Assumes nothing.
use Prim.Native.Nat.{ℕ, ◌<◌, ◌≤◌}
use mathlib.Core.Path.{◌≡◌, refl, sym, ◌∙◌}
use mathlib.Core.Bool.{true}
use mathlib.Core.List.{List, ◌∷◌}
use mathlib.Core.Option as opt
use native.Mathlib.Omega.{arith}
use lib.ListN.{length, get_or}
use borrow.Author.Tests.{ltb-true, leb-true, eqb-true}
use Rattle.law.specs.Lists.{every}
use Rattle.law.proofs.Lists.{every_elim}
use Rattle.text.specs.Field.{Text}
use Rattle.job.specs.Job.{decode, size, subformula_count}
use Rattle.job.specs.Answer.{Answer, accepted, refused}
use Rattle.job.specs.Question.{Question, of_call, all_yes, refusal, answered}
use Rattle.job.specs.Questions.{text_questions, Accepted}
use Rattle.job.proofs.QuestionLaws.{by_refusal, none_refused, all_answered_yes, answered_none, answered_some, accepted_none, afterwards_none, refusal_before, refusal_last, refusal_later}
use Rattle.job.proofs.QuestionLaws as question
use Rattle.cells.specs.Table.{Table, table_length}
use Rattle.cells.specs.Close as closing
use Rattle.cells.specs.Questions.{table_size, table_cells, node_below, numbers_below, truth_value, table_settled, some_owner_empty}
use Rattle.cells.specs.Calls.{Call, fresh, step, offer, accept, close, finish, page, own_questions, questions, width, told, left, answer, after}
use Rattle.promises.specs.CallContracts.{Loan, Happens}
use Rattle.promises.specs.Demand1.{AnswersBy, reads, refuses}
use Rattle.cells.proofs.CallLaws.{numbers_in}
use Rattle.cells.proofs.Formed.{Formed, formed_is, is_formed_lem}
use Rattle.promises.proofs.Contracts.{happens_defined}

-- "reads or refuses under the number of the first check that fails"
pub answers_by : (qs : List Question) (others : ℕ) (own : List ℕ) → AnswersBy qs others own (answered qs others own)
answers_by qs others own =
    by_refusal qs
    (λ e. reads e (answered_none qs others own e))
    (λ q e. refuses q e (answered_some qs others own q e))

-- A call is accepted where no question has a no.
abbrev pub Taken : Call → Text → Table → Type 0
Taken c x t = refusal (questions c x t) ≡ opt.none

module _ (c : Call) (x : Text) (t : Table) where
  pub refused_leaves : (number line others : ℕ) → answer c x t ≡ refused number line others → after c x t ≡ t
  unfolding answer after
  refused_leaves number line others e =
      question.refused_stays (questions c x t) t (left c (decode x) t) (width c) (told c (decode x) t) number line others (sym e)

  pub accepted_taken : (own : List ℕ) → answer c x t ≡ accepted own → Taken c x t
  unfolding answer
  accepted_taken own e = accepted_none (questions c x t) (width c) (told c (decode x) t) own (sym e)

  pub by_answer {ℓ} : {A : Type ℓ} → ((number line others : ℕ) → answer c x t ≡ refused number line others → A) → (Taken c x t → A) → A
  unfolding answer
  by_answer refused_case taken_case =
      by_refusal (questions c x t) taken_case
      (λ q e. refused_case _ _ _ (answered_some (questions c x t) (width c) (told c (decode x) t) q e))

  module _ (taken : Taken c x t) where
    pub taken_told : answer c x t ≡ accepted (told c (decode x) t)
    unfolding answer
    taken_told = answered_none (questions c x t) (width c) (told c (decode x) t) taken

    pub taken_left : after c x t ≡ left c (decode x) t
    unfolding after
    taken_left = afterwards_none (questions c x t) t (left c (decode x) t) taken

    pub taken_accepted : Accepted x
    unfolding questions Accepted
    taken_accepted = refusal_before (text_questions x) (own_questions c (decode x) t) taken

    -- the yes to the i-th of the call's own questions
    pub taken_asked :
        (i : ℕ)
        → i < length (own_questions c (decode x) t)
        → (get_or (own_questions c (decode x) t) i (table_size (decode x) t)).test ≡ true
    unfolding questions all_yes
    taken_asked =
        let own = own_questions c (decode x) t in
        every_elim (λ q. q.test) own (table_size (decode x) t) (all_answered_yes own (refusal_last (text_questions x) own taken))

module _ (x : Text) (t : Table) where
  pub fresh_asked : Taken fresh x t → length t ≡ table_length (decode x)
  unfolding own_questions table_size of_call
  fresh_asked taken = eqb-true (length t) (table_length (decode x)) (taken_asked fresh x t taken 0 (omega arith))

  pub step_asked : (n : ℕ) → Taken (step n) x t → n < (decode x).nodes
  unfolding own_questions node_below of_call
  step_asked n taken = ltb-true n (decode x).nodes (taken_asked (step n) x t taken 2 (omega arith))

  pub offer_asked : (s k : ℕ) → Taken (offer s k) x t → (s < size (decode x)) × (k < subformula_count (decode x))
  unfolding own_questions numbers_below of_call
  offer_asked s k taken = numbers_in (decode x) s k (taken_asked (offer s k) x t taken 2 (omega arith))

  pub accept_asked : (n s k v : ℕ) → Taken (accept n s k v) x t → v ≤ 1
  unfolding own_questions truth_value of_call
  accept_asked n s k v taken = leb-true v 1 (taken_asked (accept n s k v) x t taken 5 (omega arith))

  pub close_asked :
      Taken close x t → (closing.settled (decode x) t ≡ true) × (closing.smallest_open (decode x) t < subformula_count (decode x))
  unfolding own_questions table_settled some_owner_empty of_call closing.some_open
  close_asked taken = (
    taken_asked close x t taken 2 (omega arith),
    ltb-true (closing.smallest_open (decode x) t) (subformula_count (decode x)) (taken_asked close x t taken 3 (omega arith)),
  )

  -- every call but fresh puts 9 and 10 first
  asked_formed :
      (c : Call) (more : List Question)
      → own_questions c (decode x) t ≡ table_size (decode x) t ∷ table_cells (decode x) t ∷ more
      → Taken c x t
      → Formed (decode x) t
  unfolding table_size table_cells of_call
  asked_formed c more first taken =
      let asked = taken_asked c x t taken in
      formed_is (decode x) t (rw first at (asked 0 (rw first (omega arith)))) (rw first at (asked 1 (rw first (omega arith))))

  pub step_formed : (n : ℕ) → Taken (step n) x t → Formed (decode x) t
  unfolding own_questions
  step_formed n = asked_formed (step n) _ refl

  pub page_formed : (n room : ℕ) → Taken (page n room) x t → Formed (decode x) t
  unfolding own_questions
  page_formed n room = asked_formed (page n room) _ refl

  pub close_formed : Taken close x t → Formed (decode x) t
  unfolding own_questions
  close_formed = asked_formed close _ refl

  -- Finish puts no other question, so it is accepted on every table that passes 9 and 10.
  pub finish_taken : Accepted x → Formed (decode x) t → Taken finish x t
  unfolding Accepted questions own_questions table_size table_cells of_call all_yes every
  finish_taken is formed =
      let (size, cells) = is_formed_lem (decode x) t formed in
      let own = own_questions finish (decode x) t in
      refusal_later (text_questions x) own is ∙ none_refused own (simp (size, cells))

-- The same of a call that happened.
module _ (l : Loan) (x : Text) (c : Call) (t u : Table) where
  pub happens_first : (a : Answer) → Happens l x c t a u → AnswersBy (questions c x t) (width c) (told c (decode x) t) a
  unfolding answer
  happens_first a happens =
      rw (happens_defined l x c t a u happens).0 (answers_by (questions c x t) (width c) (told c (decode x) t))

  pub happens_stays : (number line others : ℕ) → Happens l x c t (refused number line others) u → u ≡ t
  happens_stays number line others happens =
      let (told_is, left_is) = happens_defined l x c t (refused number line others) u happens in
      left_is ∙ refused_leaves c x t number line others (sym told_is)
