-- What a call may count on whose questions are all answered yes: r is the number of the first no, and it is 0. Assumes nothing.
use Prim.Native.Nat.{ℕ, ◌+◌, ◌*◌, ◌<◌, ◌≤◌}
use mathlib.Core.Path.{◌≡◌, refl, sym, ◌∙◌}
use mathlib.Core.Bool.{true, ◌||◌}
use mathlib.Core.List.{List, [], ◌∷◌}
use native.Mathlib.Omega.{arith}
use lib.Dec.{eqb, ltb}
use Rattle.law.proofs.Bounded.{by_equal}
use Rattle.job.specs.Job.{size, subformula_count}
use Rattle.job.specs.Question.{Question, no_number}
use Rattle.job.proofs.QuestionLaws.{no_number_first}
use Rattle.cells.specs.Fragment.{in_fragment, border}
use Rattle.cells.specs.Table.{Table}
use Rattle.cells.specs.Close.{smallest_open, some_open}
use Rattle.cells.specs.Questions.{table_size, table_cells, node_below}
use Rattle.cells.specs.Calls.{Call, own_questions, node_read}
use Rattle.cells.proofs.CallLaws.{read_below}
use Rattle.cells.proofs.FragmentLaws.{border_inside}
use Rattle.image.specs.Denoted.{job_of}
use Rattle.image.proofs.ImageLaws.{image_job}
use Rattle.image.specs.declared.image.Image.{Image}
use Rattle.table.specs.Lent.{Ready, IsCell}
use Rattle.questions.proofs.NoLaws.{table_ready, node_ready, offer_asked, accept_asked, look_asked, close_asked, page_asked}

module _ (m : Image) (t : Table) (r : ℕ) (none : r ≡ 0) where
  front_ready : (qs : List Question) → r ≡ no_number (table_size (job_of m) t ∷ (table_cells (job_of m) t ∷ qs)) → Ready m t
  unfolding own_questions
  front_ready qs asked =
      let front = table_size (job_of m) t ∷ (table_cells (job_of m) t ∷ []) in
      let fine : no_number front ≡ 0 =
      by_equal (no_number front) 0 (λ e. e) (λ some. absurd (some (sym (no_number_first front qs some) ∙ sym asked ∙ none))) in
      table_ready m t 0 (sym fine) refl

  pub step_fine : (n : ℕ) → r ≡ no_number (own_questions (Call.step n) (job_of m) t) → Ready m t × (n < (job_of m).nodes)
  step_fine n asked = node_ready m t n r asked none

  node_front :
      (n : ℕ) (qs : List Question)
      → r ≡ no_number (table_size (job_of m) t ∷ (table_cells (job_of m) t ∷ (node_below (job_of m) n ∷ qs)))
      → Ready m t × (n < (job_of m).nodes)
  unfolding own_questions
  node_front n qs asked =
      let front = own_questions (Call.step n) (job_of m) t in
      let fine : no_number front ≡ 0 =
      by_equal (no_number front) 0 (λ e. e) (λ some. absurd (some (sym (no_number_first front qs some) ∙ sym asked ∙ none))) in
      node_ready m t n 0 (sym fine) refl

  pub offer_fine :
      (s k : ℕ)
      → r ≡ no_number (own_questions (Call.offer s k) (job_of m) t)
      → Ready m t × ((s < size (job_of m)) × (k < subformula_count (job_of m)))
  unfolding own_questions
  offer_fine s k asked = (front_ready _ asked, (grind (arith, offer_asked), grind (arith, offer_asked)))

  pub accept_fine :
      (n s k v : ℕ)
      → r ≡ no_number (own_questions (Call.accept n s k v) (job_of m) t)
      → Ready m t × (IsCell (job_of m) n s k × (in_fragment (job_of m) n s ≡ true))
  unfolding own_questions
  accept_fine n s k v asked =
      let (ready, under) = node_front n _ asked in
      let at_border : border (job_of m) n s ≡ true = grind (arith, accept_asked) in
      (ready, (record { node_in = under; state_in = grind (arith, accept_asked); subformula_in = grind (arith, accept_asked) }, border_inside (job_of m) n s at_border))

  pub look_fine :
      (n s k : ℕ) → r ≡ no_number (own_questions (Call.look n s k) (job_of m) t) → Ready m t × IsCell (job_of m) (node_read (job_of m) n s) s k
  unfolding own_questions
  look_fine n s k asked =
      let node : (ltb n (job_of m).nodes || eqb n 255) ≡ true = grind (arith, look_asked) in
      let state : s < size (job_of m) = grind (arith, look_asked) in
      let read = read_below (job_of m) (image_job m) n s node state in
      (front_ready _ asked, record { node_in = read; state_in = state; subformula_in = grind (arith, look_asked) })

  pub close_fine :
      r ≡ no_number (own_questions Call.close (job_of m) t) → Ready m t × (smallest_open (job_of m) t < subformula_count (job_of m))
  unfolding own_questions some_open
  close_fine asked = (front_ready _ asked, grind (arith, close_asked))

  pub page_fine :
      (n room : ℕ)
      → r ≡ no_number (own_questions (Call.page n room) (job_of m) t)
      → Ready m t × ((n < (job_of m).nodes) × (80 * (size (job_of m) + 1) ≤ room))
  unfolding own_questions
  page_fine n room asked =
      let (ready, under) = node_front n _ asked in
      (ready, (under, grind (arith, page_asked)))
