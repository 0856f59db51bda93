-- Questions 25 and 26 from searches for a mark above 1 and for one above 0; and yes where a search for an opening state that says no finds none.
-- Assumes nothing.
use Prim.Native.Nat.{ℕ, zero, suc, ◌<◌, ◌≤◌}
use mathlib.Core.Path.{◌≡◌, refl, sym, ◌∙◌}
use mathlib.Core.Bool.{Bool, true, false, not}
use mathlib.Core.List.{List, [], ◌∷◌}
use mathlib.Core.Option.{Option-elim}
use Rattle.std.proofs.Common.{Option, Some, None, cond, is_none, unwrap_or, IfSome}
use native.Mathlib.Omega.{arith}
use borrow.Author.Tests.{eq-eqb, ne_eqb, ltb-true, ltb-false, le-leb, lt-leb}
use lib.ListN.{length, get_or}
use lib.Dec.{eqb, ltb, leb}
use Rattle.law.specs.Bounded.{first, all, any}
use Rattle.law.proofs.Bool.{split, and_no_left, not_is_true, not_is_false}
use Rattle.law.proofs.Bounded.{any_found, any_no, any_same, all_intro, all_fails}
use Rattle.job.specs.Job.{Job, size}
use Rattle.job.specs.Question.{Question, of_call, refusal, no_number}
use Rattle.job.proofs.QuestionLaws.{no_number_yes, no_number_no}
use Rattle.cells.specs.Table.{Table}
use Rattle.cells.specs.Opening.{opens, are_marks, some_opening, whole_cell, yes, lowest_no}
use Rattle.cells.specs.Questions.{marks_right, some_marked}
use Rattle.cells.proofs.OpeningLaws.{marks_long, marks_low, none_yes, found_no}

module _ (J : Job) (marks : List ℕ) where
  abbrev above : ℕ → ℕ → Bool
  above v s = ltb v (get_or marks s 0)

  abbrev low : ℕ → Bool
  low s = leb (get_or marks s 0) 1

  -- question 25: another length, a byte above 1, or neither
  pub other_length : (n : ℕ) → n ≡ size J → (length marks ≡ n → ⊥) → eqb (length marks) n ≡ are_marks J marks
  unfolding are_marks
  other_length n is other =
      let no = ne_eqb (length marks) n other in
      no ∙ sym (and_no_left (eqb (length marks) (size J)) (all low (length marks)) (rw is at no))

  low_above : all low (length marks) ≡ not (any (above 1) (length marks))
  low_above =
      split (any (above 1) (length marks))
      (λ some.
      let s = first (above 1) (length marks) in
      let (l, e) = any_found (above 1) (length marks) some in
      all_fails low (length marks) s l (lt-leb (get_or marks s 0) 1 (ltb-true 1 (get_or marks s 0) e))
      ∙ sym (not_is_false (any (above 1) (length marks)) some))
      (λ none.
      all_intro low (length marks) (λ s l. le-leb (get_or marks s 0) 1 (ltb-false 1 (get_or marks s 0) (any_no (above 1) (length marks) none s l)))
      ∙ sym (not_is_true (any (above 1) (length marks)) none))

  pub same_length : length marks ≡ size J → (b : Bool) → b ≡ any (above 1) (length marks) → not b ≡ are_marks J marks
  unfolding are_marks
  same_length long b is = simp (eq-eqb (length marks) (size J) long, low_above, is)

  abbrev asked : List Question
  asked = marks_right J marks ∷ some_marked marks ∷ []

  -- a no to 25
  pub no_marks : are_marks J marks ≡ false → 25 ≡ no_number asked
  unfolding marks_right of_call
  no_marks e = sym (no_number_no (marks_right J marks) (some_marked marks ∷ []) e)

  -- a yes: then a byte above 0 is a mark of 1
  module _ (are : are_marks J marks ≡ true) where
    opens_above : any (above 0) (length marks) ≡ (some_marked marks).test
    unfolding some_marked of_call some_opening opens
    opens_above = any_same (above 0) (opens marks) (length marks) (λ s l. by_mark (get_or marks s 0) (marks_low J marks are s (omega (arith, marks_long J marks are))))
      where
        by_mark : (b : ℕ) → b ≤ 1 → ltb 0 b ≡ eqb b 1
        by_mark zero h = refl
        by_mark (suc zero) h = refl
        by_mark (suc (suc b)) h = absurd (omega arith)

    behind_marks : no_number asked ≡ no_number (some_marked marks ∷ [])
    unfolding marks_right of_call
    behind_marks = no_number_yes (marks_right J marks) (some_marked marks ∷ []) are

    pub none_marked : any (above 0) (length marks) ≡ false → 26 ≡ no_number asked
    unfolding some_marked of_call
    none_marked e = sym (behind_marks ∙ no_number_no (some_marked marks) [] (sym opens_above ∙ e))

    pub some_marked_lem : any (above 0) (length marks) ≡ true → 0 ≡ no_number asked
    unfolding some_marked of_call no_number refusal Option-elim
    some_marked_lem e = sym (behind_marks ∙ no_number_yes (some_marked marks) [] (sym opens_above ∙ e))

-- The state that a search for one that says no finds, where every owner's cell of the whole formula is filled: none is yes.
module _ (J : Job) (marks : List ℕ) (t : Table) (filled : (s : ℕ) → s < size J → whole_cell J t s ≤ 1) where
  pub verdict_is :
      (r : Option ℕ)
      → IfSome r (λ s. s < size J)
      → unwrap_or r (size J) ≡ lowest_no J marks t
      → cond (is_none r) 1 0 ≡ yes J marks t
  verdict_is None within is = sym (none_yes J marks t filled (omega arith))
  verdict_is (Some s) within is = sym (found_no J marks t filled (omega arith))
