-- Questions 5 to 8, each the first that is answered no, or none. Assumes nothing.
use Prim.Native.Nat.{ℕ, ◌+◌}
use mathlib.Core.Path.{◌≡◌, refl, sym, ◌∙◌, ap}
use mathlib.Core.List.{List, [], ◌∷◌}
use mathlib.Core.Option.{Option-elim}
use borrow.Author.Tests.{eq-eqb, ne_eqb}
use Rattle.job.specs.Answer.{Answer, accepted, refused}
use Rattle.job.specs.Question.{Question, answered, refusal}
use Rattle.job.specs.Read.{header_numbers}
use Rattle.job.specs.declared.reading.Header.{Header}
use Rattle.job.proofs.QuestionLaws.{answered_yes, answered_no, answered_none}
use Rattle.edge_pass.specs.EdgePass.{terminal_state, question6, question7}
use Rattle.edge_pass.specs.declared.Kept.{Kept}
use Rattle.reader.specs.LineQuestions.{question5, question8, lines_asked}

module _ (h : Header) (s : ℕ) (k : Kept) (f : ℕ) where
  abbrev asked : List Question → Answer
  asked qs = answered qs 4 (header_numbers h)

  pub asked_5 : (s ≡ h.states → ⊥) → asked (lines_asked h s k f) ≡ refused 5 (2 + s) 4
  unfolding lines_asked question5
  asked_5 n = answered_no (question5 h s) _ 4 (header_numbers h) (ne_eqb s h.states n)

  module _ (five : s ≡ h.states) where
    behind_5 : asked (lines_asked h s k f) ≡ asked (question6 k ∷ question7 k ∷ question8 h f ∷ [])
    unfolding lines_asked question5
    behind_5 = answered_yes (question5 h s) _ 4 (header_numbers h) (eq-eqb s h.states five)

    pub asked_6 : (k.order.right ≡ k.order.lines → ⊥) → asked (lines_asked h s k f) ≡ refused 6 (2 + k.order.states + k.order.right) 4
    unfolding question6
    asked_6 n = behind_5 ∙ answered_no (question6 k) _ 4 (header_numbers h) (ne_eqb k.order.right k.order.lines n)

    module _ (six : k.order.right ≡ k.order.lines) (terminal : ℕ) (found : terminal ≡ terminal_state k.starts k.order.states) where
      behind_6 : asked (lines_asked h s k f) ≡ asked (question7 k ∷ question8 h f ∷ [])
      unfolding question6
      behind_6 = behind_5 ∙ answered_yes (question6 k) _ 4 (header_numbers h) (eq-eqb k.order.right k.order.lines six)

      pub asked_7 : (terminal ≡ k.order.states → ⊥) → asked (lines_asked h s k f) ≡ refused 7 (2 + terminal) 4
      unfolding question7
      asked_7 n =
          behind_6
          ∙ answered_no (question7 k) _ 4 (header_numbers h) (ne_eqb (terminal_state k.starts k.order.states) k.order.states (λ e. n (found ∙ e)))
          ∙ ap (λ b. refused 7 (2 + b) 4) (sym found)

      module _ (seven : terminal ≡ k.order.states) where
        behind_7 : asked (lines_asked h s k f) ≡ asked (question8 h f ∷ [])
        unfolding question7
        behind_7 = behind_6 ∙ answered_yes (question7 k) _ 4 (header_numbers h) (eq-eqb _ k.order.states (sym found ∙ seven))

        pub asked_8 : (f ≡ h.subformulas → ⊥) → asked (lines_asked h s k f) ≡ refused 8 (2 + h.states + h.edges + f) 4
        unfolding question8
        asked_8 n = behind_7 ∙ answered_no (question8 h f) _ 4 (header_numbers h) (ne_eqb f h.subformulas n)

        pub asked_none : f ≡ h.subformulas → asked (lines_asked h s k f) ≡ accepted (header_numbers h)
        unfolding refusal question8
        asked_none y = behind_7 ∙ answered_yes (question8 h f) _ 4 (header_numbers h) (eq-eqb f h.subformulas y) ∙ answered_none [] 4 (header_numbers h) refl
