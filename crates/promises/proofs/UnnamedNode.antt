-- Look with a number that is read as the owner of the state, which 255 is and the owner's own is: it puts 1 to 10 and 12, and gives the
-- owner's cell. Step and accept with 255. Assumes nothing.
use Prim.Native.Nat.{ℕ, ◌<◌}
use mathlib.Core.Path.{◌≡◌, refl, sym, ◌∙◌, ap}
use mathlib.Core.Bool.{true, false, not, ◌&&◌}
use mathlib.Core.List.{List, [], ◌∷◌, ◌++◌}
use mathlib.Core.Option as opt
use native.Mathlib.Omega.{arith}
use borrow.Author.Tests.{lt-ltb, le-ltb, eqb-false, not-true}
use lib.Dec.{ltb, eqb}
use Rattle.law.specs.Lists.{every}
use Rattle.law.proofs.Bool.{split, and_left, or_left, or_right}
use Rattle.text.specs.Field.{Text}
use Rattle.job.specs.Job.{Job, size, subformula_count, owner, decode}
use Rattle.job.specs.Answer.{Answer, accepted, refused}
use Rattle.job.specs.Question.{Question, of_call, all_yes, refusal, answered}
use Rattle.job.specs.Questions.{text_questions, Accepted, head_questions, line_questions, first_line, ranges, text_length, line_fields, state_lines, edge_lines, edges_out, formula_lines, of_line_one, of_lines}
use Rattle.job.proofs.Exact.{decode_is_job}
use Rattle.job.proofs.QuestionLaws.{some_not_none, by_refusal, refusal_yes, refusal_no, refusal_last, refusal_behind, refusal_has, all_answered_yes, answered_none, answered_some, accepted_own, refused_not_accepted}
use Rattle.cells.specs.Table.{Table, owner_cell}
use Rattle.cells.specs.Questions.{table_size, table_cells, node_below, node_or255, numbers_below, state_in_fragment}
use Rattle.cells.specs.Calls.{Call, step, accept, look, page, node_read, own_questions, questions, width, told, answer}
use Rattle.cells.proofs.CallLaws.{numbers_in}
use Rattle.cells.proofs.FragmentLaws.{owns_intro, owned_inside}
use Rattle.promises.specs.CallContracts.{Loan, Happens}
use Rattle.promises.specs.Demand1.{AnswersBy, refuses}
use Rattle.promises.specs.UnnamedNode.{unnamed_questions, unknown_node_questions}
use Rattle.promises.proofs.Contracts.{happens_defined}
use Rattle.promises.proofs.Calls.{answers_by}

-- Behind 1 to 10.
module _ (x : Text) (t : Table) where
  abbrev front : List Question
  front = table_size (decode x) t ∷ (table_cells (decode x) t ∷ [])

  behind_10 :
      (qs rs : List Question)
      → (Accepted x → refusal qs ≡ refusal rs)
      → refusal (text_questions x ++ (front ++ qs)) ≡ refusal (text_questions x ++ (front ++ rs))
  unfolding Accepted
  behind_10 qs rs same = refusal_behind (text_questions x) _ _ (λ is. refusal_behind front qs rs (λ _. same is))

-- Where n is read as the owner of s, and question 11 lets n by.
module _
    (x : Text) (t : Table) (n s k : ℕ)
    (named : Accepted x → (node_or255 (decode x) n).test ≡ true)
    (read : node_read (decode x) n s ≡ owner (decode x) s) where
  abbrev J : Job
  J = decode x

  -- the owner has the state in its fragment
  inside : refusal (numbers_below J s k ∷ []) ≡ opt.none → (state_in_fragment J (node_read J n s) s).test ≡ true
  unfolding state_in_fragment numbers_below of_call all_yes every
  inside none =
      let below = and_left (ltb s (size J) && ltb k (subformula_count J)) true (all_answered_yes (numbers_below J s k ∷ []) none) in
      rw read (owned_inside J (owner J s) s (owns_intro J (owner J s) s (numbers_in J s k below).0 refl))

  owner_asked : refusal (questions (look n s k) x t) ≡ refusal (unnamed_questions x t s k)
  unfolding questions own_questions unnamed_questions
  owner_asked =
      behind_10 x t _ _
      (λ is.
      refusal_yes (node_or255 J n) _ (named is)
      ∙ refusal_behind (numbers_below J s k ∷ []) (state_in_fragment J (node_read J n s) s ∷ []) []
      (λ none. refusal_yes (state_in_fragment J (node_read J n s) s) [] (inside none)))

  owner_answered : answer (look n s k) x t ≡ answered (unnamed_questions x t s k) 1 (owner_cell J t s k ∷ [])
  unfolding answer answered width told owner_cell
  owner_answered = rw (owner_asked, read)

module _ (x : Text) (t : Table) (s k : ℕ) where
  unnamed_answered : answer (look 255 s k) x t ≡ answered (unnamed_questions x t s k) 1 (owner_cell (decode x) t s k ∷ [])
  unfolding node_or255 node_read of_call
  unnamed_answered = owner_answered x t 255 s k (λ _. or_right (ltb 255 (decode x).nodes) true refl) refl

  named_answered :
      s < size (decode x)
      → answer (look (owner (decode x) s) s k) x t ≡ answered (unnamed_questions x t s k) 1 (owner_cell (decode x) t s k ∷ [])
  unfolding node_or255 node_read of_call
  named_answered state =
      let o = owner (decode x) s in
      owner_answered x t o s k
      (λ is. or_left (ltb o (decode x).nodes) (eqb o 255) (lt-ltb o (decode x).nodes ((decode_is_job x is).owners s state)))
      (split (eqb o 255) (λ e. simp e) (λ e. simp e))

  -- none of these is 18
  not_18 : (q : Question) → refusal (unnamed_questions x t s k) ≡ opt.some q → q.number ≡ 18 → ⊥
  unfolding unnamed_questions every text_questions head_questions line_questions first_line ranges text_length line_fields state_lines edge_lines edges_out formula_lines of_line_one of_lines table_size table_cells numbers_below of_call
  not_18 q first =
      eqb-false q.number 18 (not-true (eqb q.number 18) (refusal_has (λ q. not (eqb q.number 18)) (unnamed_questions x t s k) q refl first))

  module _ (l : Loan) (u : Table) where
    happens_answered : (a : Answer) → Happens l x (look 255 s k) t a u → a ≡ answered (unnamed_questions x t s k) 1 (owner_cell (decode x) t s k ∷ [])
    happens_answered a happens = (happens_defined l x (look 255 s k) t a u happens).0 ∙ unnamed_answered

    pub happens_unnamed :
        (a : Answer) → Happens l x (look 255 s k) t a u → AnswersBy (unnamed_questions x t s k) 1 (owner_cell (decode x) t s k ∷ []) a
    happens_unnamed a happens =
        rw (happens_answered a happens) (answers_by (unnamed_questions x t s k) 1 (owner_cell (decode x) t s k ∷ []))

    -- by the owner's own number
    pub happens_named :
        (m : Loan) (w : Table) (a b : Answer)
        → s < size (decode x)
        → Happens l x (look 255 s k) t a u
        → Happens m x (look (owner (decode x) s) s k) t b w
        → a ≡ b
    happens_named m w a b state unnamed named =
        happens_answered a unnamed
        ∙ sym ((happens_defined m x (look (owner (decode x) s) s k) t b w named).0 ∙ named_answered state)

    pub happens_owner : (own : List ℕ) → Happens l x (look 255 s k) t (accepted own) u → own ≡ owner_cell (decode x) t s k ∷ []
    happens_owner own happens =
        accepted_own (unnamed_questions x t s k) 1 (owner_cell (decode x) t s k ∷ []) own (happens_answered (accepted own) happens)

    pub happens_never_18 : (number line others : ℕ) → Happens l x (look 255 s k) t (refused number line others) u → number ≡ 18 → ⊥
    happens_never_18 number line others happens is_18 =
        let qs = unnamed_questions x t s k in
        let own = owner_cell (decode x) t s k ∷ [] in
        let is = happens_answered (refused number line others) happens in
        by_refusal qs
        (λ e. refused_not_accepted own number line others (sym (is ∙ answered_none qs 1 own e)))
        (λ q e.
        let same = is ∙ answered_some qs 1 own q e in
        let number_is : number ≡ q.number = cc in
        not_18 q e (sym number_is ∙ is_18))

-- Calls whose question 11 is about the node 255.
module _ (x : Text) (t : Table) where
  -- no job has so many nodes
  no_255 : Accepted x → node_below (decode x) 255 ≡ of_call 11 false
  unfolding node_below
  no_255 is = let most = (decode_is_job x is).nodes.below in ap (of_call 11) (le-ltb 255 (decode x).nodes (omega arith))

  node_asked :
      (qs : List Question)
      → refusal (text_questions x ++ (front x t ++ (node_below (decode x) 255 ∷ qs))) ≡ refusal (unknown_node_questions x t)
  unfolding unknown_node_questions of_call
  node_asked qs =
      behind_10 x t _ _ (λ is. rw (no_255 is) (refusal_no (of_call 11 false) qs refl ∙ sym (refusal_no (of_call 11 false) [] refl)))

  always_refused : refusal (unknown_node_questions x t) ≡ opt.none → ⊥
  unfolding unknown_node_questions of_call
  always_refused none =
      let node = of_call 11 false ∷ [] in
      let own = refusal_last (text_questions x) (front x t ++ node) none in
      some_not_none (of_call 11 false) (sym (refusal_no (of_call 11 false) [] refl) ∙ refusal_last (front x t) node own)

  module _ (l : Loan) (a : Answer) (u : Table) where
    node_refused :
        (c : Call) (others : ℕ)
        → width c ≡ others
        → refusal (questions c x t) ≡ refusal (unknown_node_questions x t)
        → Happens l x c t a u
        → AnswersBy (unknown_node_questions x t) others [] a
    unfolding answer
    node_refused c others wide same happens =
        by_refusal (unknown_node_questions x t) (λ none. absurd (always_refused none))
        (λ q e.
        refuses q e
        ((happens_defined l x c t a u happens).0
        ∙ answered_some (questions c x t) (width c) (told c (decode x) t) q (same ∙ e)
        ∙ ap (refused q.number q.line) wide))

    pub happens_step_255 : Happens l x (step 255) t a u → AnswersBy (unknown_node_questions x t) 1 [] a
    unfolding questions own_questions width
    happens_step_255 = node_refused (step 255) 1 refl (node_asked [])

    pub happens_accept_255 : (s k v : ℕ) → Happens l x (accept 255 s k v) t a u → AnswersBy (unknown_node_questions x t) 1 [] a
    unfolding questions own_questions width
    happens_accept_255 s k v = node_refused (accept 255 s k v) 1 refl (node_asked _)

    pub happens_page_255 : (room : ℕ) → Happens l x (page 255 room) t a u → AnswersBy (unknown_node_questions x t) 0 [] a
    unfolding questions own_questions width
    happens_page_255 room = node_refused (page 255 room) 0 refl (node_asked _)
