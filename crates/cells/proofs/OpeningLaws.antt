-- What question 25 asks; what finish answers at the opening states, in terms of marks and cells: yes is about all of them, the lowest is found by a search, and on a
-- table with every owner's cell filled each tells the other. The marks of state 0 alone. Assumes nothing.
use Prim.Native.Nat.{ℕ, zero, suc, ◌-◌, ◌<◌, ◌≤◌}
use mathlib.Core.Path.{◌≡◌, refl, sym, ◌∙◌, ap}
use mathlib.Core.Bool.{Bool, true, false, cond, not, ◌||◌}
use mathlib.Core.List.{List}
use mathlib.Core.Logic.{⊎_elim}
use native.Mathlib.Omega.{arith}
use borrow.Author.Tests.{eq-eqb, eqb-true, le-leb, leb-true}
use lib.ListN.{length, get_or, replicate, length-replicate}
use lib.Dec.{eqb, leb}
use Rattle.law.specs.Bounded.{all}
use Rattle.law.proofs.Bool.{split, clash, and_intro, and_left, and_right, or_left, or_right, or_cases, not_is_true, not_is_false, cond_true, cond_false}
use Rattle.law.proofs.Bounded.{first_le, first_before, by_equal, first_passes, any_intro, all_intro, all_elim}
use Rattle.job.specs.Job.{Job, size, subformula_count}
use Rattle.job.specs.Written.{IsJob}
use Rattle.cells.specs.Table.{Table}
use Rattle.cells.proofs.Determined.{Filled}
use Rattle.cells.proofs.Rounds.{Complete}
use Rattle.cells.specs.Opening.{opens, are_marks, some_opening, whole_cell, yes, says_no, lowest_no, state0_alone}

-- "S bytes of 0 or 1"
module _ (J : Job) (marks : List ℕ) where
  abbrev long : Bool
  long = eqb (length marks) (size J)

  abbrev low : ℕ → Bool
  low s = leb (get_or marks s 0) 1

  pub marks_long : are_marks J marks ≡ true → length marks ≡ size J
  unfolding are_marks
  marks_long are = eqb-true (length marks) (size J) (and_left long (all low (length marks)) are)

  pub marks_low : are_marks J marks ≡ true → (s : ℕ) → s < size J → get_or marks s 0 ≤ 1
  unfolding are_marks
  marks_low are s state =
      leb-true (get_or marks s 0) 1
      (all_elim low (length marks) (and_right long (all low (length marks)) are) s (omega (arith, marks_long are)))

  pub are_marks_lem : length marks ≡ size J → ((s : ℕ) → s < size J → get_or marks s 0 ≤ 1) → are_marks J marks ≡ true
  unfolding are_marks
  are_marks_lem is each =
      and_intro long (all low (length marks)) (eq-eqb (length marks) (size J) is)
      (all_intro low (length marks) (λ s l. le-leb (get_or marks s 0) 1 (each s (omega arith))))

module _ (J : Job) (marks : List ℕ) (t : Table) where
  -- a state that is not opening or whose cell is 1
  abbrev fine : ℕ → Bool
  fine s = not (opens marks s) || eqb (whole_cell J t s) 1

  pub yes_low : yes J marks t ≤ 1
  unfolding yes
  yes_low = by_test (all fine (size J))
    where
      by_test : (b : Bool) → cond b 1 0 ≤ 1
      by_test true = omega arith
      by_test false = omega arith

  pub yes_cells : yes J marks t ≡ 1 → (s : ℕ) → s < size J → get_or marks s 0 ≡ 1 → whole_cell J t s ≡ 1
  unfolding yes opens
  yes_cells is s state marked =
      let each : all fine (size J) ≡ true =
      split (all fine (size J)) (λ e. e)
      (λ e. absurd (let never : ◌≡◌ {A = ℕ} 0 1 = sym (cond_false (all fine (size J)) 1 0 e) ∙ is in omega arith)) in
      ⊎_elim
      (λ e. clash (not (opens marks s)) e (not_is_false (opens marks s) (eq-eqb (get_or marks s 0) 1 marked)))
      (eqb-true (whole_cell J t s) 1)
      (or_cases (not (opens marks s)) (eqb (whole_cell J t s) 1) (all_elim fine (size J) each s state))

  pub cells_yes : ((s : ℕ) → s < size J → get_or marks s 0 ≡ 1 → whole_cell J t s ≡ 1) → yes J marks t ≡ 1
  unfolding yes opens
  cells_yes each =
      cond_true (all fine (size J)) 1 0
      (all_intro fine (size J)
      (λ s state.
      split (opens marks s)
      (λ e.
      or_right (not (opens marks s)) (eqb (whole_cell J t s) 1)
      (eq-eqb (whole_cell J t s) 1 (each s state (eqb-true (get_or marks s 0) 1 e))))
      (λ e. or_left (not (opens marks s)) (eqb (whole_cell J t s) 1) (not_is_true (opens marks s) e))))

  pub lowest_le : lowest_no J marks t ≤ size J
  unfolding lowest_no
  lowest_le = first_le (says_no J marks t) (size J)

  pub lowest_found : lowest_no J marks t < size J → (get_or marks (lowest_no J marks t) 0 ≡ 1) × (whole_cell J t (lowest_no J marks t) ≡ 0)
  unfolding lowest_no says_no opens
  lowest_found under =
      let s = lowest_no J marks t in
      let here = first_passes (says_no J marks t) (size J) under in (
        eqb-true (get_or marks s 0) 1 (and_left (opens marks s) (eqb (whole_cell J t s) 0) here),
        eqb-true (whole_cell J t s) 0 (and_right (opens marks s) (eqb (whole_cell J t s) 0) here),
      )

  pub lowest_before : (s : ℕ) → s < lowest_no J marks t → get_or marks s 0 ≡ 1 → whole_cell J t s ≡ 0 → ⊥
  unfolding lowest_no says_no opens
  lowest_before s before marked false_here =
      clash (says_no J marks t s)
      (and_intro (opens marks s) (eqb (whole_cell J t s) 0) (eq-eqb (get_or marks s 0) 1 marked) (eq-eqb (whole_cell J t s) 0 false_here))
      (first_before (says_no J marks t) (size J) s before)

  -- every owner's cell of the whole formula is filled
  module _ (filled : (s : ℕ) → s < size J → whole_cell J t s ≤ 1) where
    pub none_yes : size J ≤ lowest_no J marks t → yes J marks t ≡ 1
    none_yes past =
        cells_yes
        (λ s state marked.
        let low = filled s state in
        let some : whole_cell J t s ≡ 0 → ⊥ = lowest_before s (omega arith) marked in
        omega arith)

    pub found_no : lowest_no J marks t < size J → yes J marks t ≡ 0
    found_no under =
        let (marked, false_here) = lowest_found under in
        let never : yes J marks t ≡ 1 → ⊥ = λ one. let here = yes_cells one (lowest_no J marks t) under marked in omega arith in
        omega (arith, yes_low)

-- State 0 alone: as many marks as there are states, and that of state 0 is the only 1.
alone_length : (n : ℕ) → length (state0_alone n) ≡ n
unfolding state0_alone
alone_length zero = refl
alone_length (suc n) = ap suc (length-replicate {A = ℕ} n 0)

zeros_at : (n s : ℕ) → get_or (replicate {A = ℕ} n 0) s 0 ≡ 0
zeros_at zero s = refl
zeros_at (suc n) zero = refl
zeros_at (suc n) (suc s) = zeros_at n s

pub alone_first : (n : ℕ) → 0 < n → get_or (state0_alone n) 0 0 ≡ 1
unfolding state0_alone
alone_first zero some = absurd (omega arith)
alone_first (suc n) some = refl

alone_behind : (n s : ℕ) → get_or (state0_alone n) (suc s) 0 ≡ 0
unfolding state0_alone
alone_behind zero s = refl
alone_behind (suc n) s = zeros_at n s

pub alone_only : (n s : ℕ) → get_or (state0_alone n) s 0 ≡ 1 → s ≡ 0
alone_only n zero marked = refl
alone_only n (suc s) marked = absurd (omega (arith, alone_behind n s, marked))

alone_low : (n s : ℕ) → s < n → get_or (state0_alone n) s 0 ≤ 1
alone_low n zero some = omega (arith, alone_first n some)
alone_low n (suc s) some = omega (arith, alone_behind n s)

pub alone_right : (J : Job) → 0 < size J → (are_marks J (state0_alone (size J)) ≡ true) × (some_opening (state0_alone (size J)) ≡ true)
unfolding some_opening opens
alone_right J some =
    let marks = state0_alone (size J) in
    let is = alone_length (size J) in (
      are_marks_lem J marks is (alone_low (size J)),
      any_intro (opens marks) (length marks) 0 (omega arith) (eq-eqb (get_or marks 0 0) 1 (alone_first (size J) some)),
    )

-- So what is answered is the cell of state 0, where that is filled.
pub alone_yes : (J : Job) (t : Table) → 0 < size J → whole_cell J t 0 ≤ 1 → yes J (state0_alone (size J)) t ≡ whole_cell J t 0
alone_yes J t some filled =
    let marks = state0_alone (size J) in
    let first = alone_first (size J) some in
    by_equal (whole_cell J t 0) 1
    (λ one. cells_yes J marks t (λ s l marked. rw (alone_only (size J) s marked) one) ∙ sym one)
    (λ other.
    let never : yes J marks t ≡ 1 → ⊥ = λ one. other (yes_cells J marks t one 0 some first) in
    omega (arith, yes_low J marks t))

-- On a complete table each state has a cell of the whole formula.
pub whole_filled : (J : Job) (t : Table) → IsJob J → (s : ℕ) → s < size J → Complete J t → Filled (whole_cell J t s)
unfolding whole_cell
whole_filled J t job s state complete =
    let some = job.subformulas.above in
    let whole : subformula_count J - 1 < subformula_count J = omega arith in
    complete s (subformula_count J - 1) state whole
