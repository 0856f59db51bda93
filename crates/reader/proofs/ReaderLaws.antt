-- From the lines to the reader's answer: the first line that is malformed, or questions 5 to 8 from what is known behind the last line.
-- Assumes nothing.
use Prim.Native.Nat.{ℕ, ◌+◌, ◌-◌, ◌<◌, ◌≤◌}
use mathlib.Core.Path.{◌≡◌, refl, sym, ◌∙◌, ap, subst}
use mathlib.Core.Bool.{true, not}
use mathlib.Core.List.{[], ◌∷◌}
use native.Mathlib.Nat.{zero-add}
use native.Mathlib.Omega.{arith}
use lib.ListN.{drop}
use Rattle.law.specs.Bounded.{first, all}
use Rattle.law.proofs.Bool.{not_not, not_is_true, not_is_false}
use Rattle.law.proofs.Bounded.{by_order, first_before, first_passes, first_le, first_fails, all_intro}
use Rattle.text.specs.Field.{Text}
use Rattle.job.specs.Layout.{states, edge_at}
use Rattle.job.specs.Question.{answered}
use Rattle.job.specs.Questions.{of_lines, state_lines, formula_lines, head_questions, line_questions, text_questions, formed_line, state_ok, edge_ok, formula_ok}
use Rattle.job.specs.Answer.{refused}
use Rattle.job.specs.Read.{header, header_numbers, read_answer, read_told}
use Rattle.job.specs.Leaves.{Fits}
use Rattle.job.specs.declared.reading.Header.{Header}
use Rattle.job.specs.declared.refusal.Refusal.{Refusal}
use Rattle.job.specs.declared.refusal.Refusal.TheVariants.{MalformedLine}
use Rattle.std.proofs.Common.{Ok, Err}
use Rattle.job.proofs.Places.{two_formed, three_formed}
use Rattle.job.proofs.ReadLaws.{fields_pass, fields_refuse}
use Rattle.edge_pass.specs.EdgePass.{kept_after, kept_of, question6, question7}
use Rattle.edge_pass.specs.declared.Kept.{Kept}
use Rattle.edge_pass.proofs.EdgePassLaws.{kept_states, kept_right, answer_6, answer_7}
use Rattle.line_reader.specs.LinesRead.{Lines, formed_lines, Told, right_lines, lines_of_states, lines_of_edges, lines_of_subformulas}
use Rattle.reader.specs.LineQuestions.{Askable, question5, question8, lines_asked}

module _ (t : Text) (h : Header) (fits : Fits t h) where
  abbrev count : ℕ
  count = h.states + h.edges + h.subformulas

  -- The lines of one kind stand behind `before` others, all of them well-formed.
  pub record Placed {L K : Type 0} (lines : Lines L K) (before : ℕ) : Type 0 where
    pub stand : (i : ℕ) → i < lines.count → formed_line t (before + i) ≡ lines.is_formed i
    pub numbered : lines.number ≡ 2 + before
    pub inside : before + lines.count ≤ count
    pub formed : (i : ℕ) → i < before → formed_line t i ≡ true

  module _ {L K : Type 0} (lines : Lines L K) (before : ℕ) (placed : Placed lines before) where
    abbrev b : ℕ
    b = formed_lines lines

    up_to : (i : ℕ) → i < before + b → formed_line t i ≡ true
    up_to i l =
        by_order i before
        (placed.formed i)
        (λ g.
        let few : b ≤ lines.count = first_le (λ j. not (lines.is_formed j)) lines.count in
        let d = i - before in
        let at : before + d ≡ i = omega arith in
        subst (λ j. formed_line t j ≡ true) at
        (placed.stand d (omega arith)
        ∙ sym (not_not (lines.is_formed d))
        ∙ not_is_true (not (lines.is_formed d)) (first_before (λ j. not (lines.is_formed j)) lines.count d (omega arith))))

    -- Question 4, where one of them is not.
    pub refuses : (why : Refusal) → b < lines.count → why ≡ MalformedLine (lines.number + b) → read_told (Err why) ≡ read_answer t
    unfolding read_told
    refuses why few is =
        let fails = sym (not_not (lines.is_formed b)) ∙ not_is_false (not (lines.is_formed b)) (first_passes (λ j. not (lines.is_formed j)) lines.count few) in
        let line : lines.number + b ≡ 2 + (before + b) = omega (arith, placed.numbered) in
        ap (λ w. read_told (Err w)) is
        ∙ ap (λ n. refused 4 n 4) line
        ∙ fields_refuse t h fits (before + b) (omega (arith, placed.inside))
        (first_fails (formed_line t) count (before + b) (omega (arith, placed.inside)) up_to (placed.stand b few ∙ fails))

  -- The state lines come first, then the edge lines, then the subformula lines.
  pub states_placed : Placed (lines_of_states t h) 0
  states_placed =
      record {
        stand = λ s l. ap (formed_line t) (zero-add s) ∙ two_formed t s (omega (arith, fits.states_are));
        numbered = refl;
        inside = omega arith;
        formed = λ i l. absurd (omega arith);
      }

  module _ (all_states : formed_lines (lines_of_states t h) ≡ h.states) where
    pub edges_placed : Placed (lines_of_edges t h) h.states
    unfolding edge_at
    edges_placed =
        record {
          stand = λ e l. ap (λ n. formed_line t (n + e)) (sym fits.states_are) ∙ two_formed t (states t + e) (omega (arith, fits.edges_are));
          numbered = refl;
          inside = omega arith;
          formed = λ i l. up_to (lines_of_states t h) 0 states_placed i (omega (arith, all_states));
        }

    module _ (all_edges : formed_lines (lines_of_edges t h) ≡ h.edges) where
      pub formulas_placed : Placed (lines_of_subformulas t h) (h.states + h.edges)
      formulas_placed =
          record {
            stand = λ k l. (λ i. formed_line t (sym fits.states_are i + sym fits.edges_are i + k)) ∙ three_formed t k;
            numbered = refl;
            inside = omega arith;
            formed = λ i l. up_to (lines_of_edges t h) h.states edges_placed i (omega (arith, all_edges));
          }

      -- Questions 1 to 4 are answered yes where every line is well-formed.
      all_formed : formed_lines (lines_of_subformulas t h) ≡ h.subformulas → read_answer t ≡ answered (drop 4 (text_questions t)) 4 (header t)
      all_formed all_formulas =
          fields_pass t h fits
          (all_intro (formed_line t) count (λ i l. up_to (lines_of_subformulas t h) (h.states + h.edges) formulas_placed i (omega (arith, all_formulas))))

  -- Questions 5 to 8 of the text are those of what is known of its lines, well-formed or not.
  module _
      (s : ℕ) (k : Kept) (f : ℕ)
      (state : s ≡ right_lines (state_ok t) h.states)
      (edge : k ≡ kept_after t h.edges)
      (formula : f ≡ right_lines (formula_ok t) h.subformulas)
    where
      asked_5_is : question5 h s ≡ state_lines t
      unfolding question5 state_lines of_lines all
      asked_5_is = rw (state, fits.states_are)

      asked_8_is : question8 h f ≡ formula_lines t
      unfolding question8 formula_lines of_lines all
      asked_8_is = rw (formula, fits.states_are, fits.edges_are, fits.subformulas_are)

      kept_is : k ≡ kept_of t
      unfolding kept_of
      kept_is = edge ∙ ap (kept_after t) (sym fits.edges_are)

      asked_are : lines_asked h s k f ≡ drop 4 (text_questions t)
      unfolding lines_asked text_questions head_questions line_questions
      asked_are =
          let few : states t ≤ 256 = omega (arith, fits.states_are, fits.states_to) in
          λ i. asked_5_is i ∷ (ap question6 kept_is ∙ answer_6 t) i ∷ (ap question7 kept_is ∙ answer_7 t few) i ∷ asked_8_is i ∷ []

      header_is : header_numbers h ≡ header t
      unfolding header
      header_is = rw (fits.states_are, fits.edges_are, fits.subformulas_are, fits.nodes_are)

      answered_are : answered (lines_asked h s k f) 4 (header_numbers h) ≡ answered (drop 4 (text_questions t)) 4 (header t)
      answered_are = λ i. answered (asked_are i) 4 (header_is i)

  -- What is known after any number of them is small enough to be asked.
  pub askable :
      (s : ℕ) (k : Kept) (f n d m : ℕ)
      → n ≤ h.states
      → d ≤ h.edges
      → m ≤ h.subformulas
      → s ≡ right_lines (state_ok t) n
      → k ≡ kept_after t d
      → f ≡ right_lines (formula_ok t) m
      → Askable h s k f
  askable s k f n d m states_few edges_few formulas_few state edge formula =
      let right : k.order.right ≡ first (λ i. not (edge_ok t i)) d = ap (λ x. x.order.right) edge ∙ kept_right t d in
      let few : k.order.states ≡ states t = ap (λ x. x.order.states) edge ∙ kept_states t d in
      record {
        states_few = (fits.states_to, omega (arith, state, first_le (λ i. not (state_ok t i)) n, fits.states_to));
        edges_few = (fits.edges_to, omega (arith, first_le (λ i. not (edge_ok t i)) d, fits.edges_to));
        subformulas_few = omega (arith, formula, first_le (λ i. not (formula_ok t i)) m, fits.subformulas_to);
        kept_states = omega (arith, fits.states_are, fits.states_to);
      }

  -- Behind the last line, all of them well-formed.
  pub lines_answered :
      (s : ℕ) → Told (lines_of_states t h) (Ok s)
      → (k : Kept) → Told (lines_of_edges t h) (Ok k)
      → (f : ℕ) → Told (lines_of_subformulas t h) (Ok f)
      → answered (lines_asked h s k f) 4 (header_numbers h) ≡ read_answer t
  lines_answered s state k edge f formula =
      answered_are s k f state.1 edge.1 formula.1 ∙ sym (all_formed state.0 edge.0 formula.0)
