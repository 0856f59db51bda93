-- A line's fields and where it begins are the text's own, by how many lines have two fields; counting the lines that are right finds the first
-- that is not. Assumes nothing.
use Prim.Native.Nat.{ℕ, suc, ◌+◌, ◌-◌, ◌*◌}
use mathlib.Core.Path.{◌≡◌, sym, refl, ◌∙◌, ap, ap₂}
use mathlib.Core.Bool.{Bool, cond, not}
use native.Mathlib.Numerals.{add-one}
use native.Mathlib.Omega.{arith}
use borrow.Author.Tests.{eq-eqb, ne_eqb}
use lib.Dec.{leb}
use Rattle.law.specs.Bounded.{first}
use Rattle.law.proofs.Bool.{split, not_is_true, not_is_false, and_no_right}
use Rattle.law.proofs.Bounded.{by_order, first_le, first_found, first_next, first_passed}
use Rattle.text.specs.Field.{Text}
use Rattle.job.specs.Layout.{states, edges, state_at, subformula_at, fields_of, line_at}
use Rattle.job.specs.Read.{has_line, line_start, line_length, line_of, read_told, head_answer}
use Rattle.job.specs.Leaves.{Fits}
use Rattle.job.specs.declared.reading.Header.{Header}
use Rattle.job.specs.declared.refusal.Refusal.{Refusal}
use Rattle.job.proofs.LayoutLaws.{head_fits, line_refused, line_starts, line_has, line_none}
use Rattle.layout.specs.Lines.{fields_in, start_of, part_of, right_after}
use Rattle.layout.specs.declared.lines.Part.{Part}
use Rattle.std.specs.Result.{result_ok}
use Rattle.std.proofs.Common.{Result, Ok, Err, Some, None, true, false, unwrap_or, [], take, drop}

module _ (t : Text) (pairs l : ℕ) (same : states t + edges t ≡ pairs) where
  two : 1 + pairs ≡ 1 + states t + edges t
  two = omega arith

  pub fields_of_line : fields_in pairs l ≡ fields_of t l
  unfolding fields_in fields_of
  fields_of_line = ap (λ n. cond (leb l 1) 4 (cond (leb l n) 2 3)) two

  pub start_of_line : start_of pairs l ≡ line_at t l
  unfolding start_of line_at state_at subformula_at
  start_of_line =
      let last : 21 + 11 * pairs + 16 * (l - (2 + pairs)) ≡ subformula_at t (l - (2 + states t + edges t)) = omega arith in
      ap₂ (λ n x. cond (leb l 1) 0 (cond (leb l n) (21 + 11 * (l - 2)) x)) two last

-- The part of the text that is a line, where there is one and where there is none.
module _ (t : Text) (l : ℕ) where
  pub part_some : has_line t l ≡ true → (start fields : ℕ) → start ≡ line_at t l → fields ≡ fields_of t l
      → Some (record { start = start; size = 5 * fields }) ≡ part_of t l
  unfolding part_of
  part_some e start fields s f = rw (s, f, e) refl

  pub part_none : has_line t l ≡ false → None ≡ part_of t l
  unfolding part_of
  part_none e = sym (simp e)

  -- Line 1 is refused.
  pub part_refused : (r : Result Header Refusal) → None ≡ result_ok r → read_told r ≡ head_answer t → None ≡ part_of t l
  unfolding read_told
  part_refused (Ok h) none told = cc
  part_refused (Err why) none told = part_none (line_refused t l _ _ told)

  abbrev empty : Part
  empty = record { start = 0; size = 0 }

  -- The empty part at the text's front stands for a line that is not there.
  pub part_or_empty : (unwrap_or (part_of t l) empty).start ≡ line_start t l × (unwrap_or (part_of t l) empty).size ≡ line_length t l
  unfolding part_of
  part_or_empty =
      split (has_line t l)
      (λ e. rw e (sym (line_starts t l e), sym (line_has t l e)))
      (λ e. let none = line_none t l e in rw e (sym none.0, sym none.1))

  -- The bytes of the part are the line, and where there is none the line is empty.
  pub line_some : (p : Part) → part_of t l ≡ Some p → take p.size (drop p.start t) ≡ line_of t l
  unfolding line_of
  line_some p is =
      let both = part_or_empty in
      let here = rw is at both in
      ap₂ (λ n a. take n (drop a t)) here.1 here.0

  pub line_empty : part_of t l ≡ None → [] ≡ line_of t l
  unfolding line_of
  line_empty is =
      let both = part_or_empty in
      let here = rw is at both in
      ap₂ (λ n a. take n (drop a t)) here.1 here.0

-- The numbers of line 1, where it is accepted.
pub head_accepted : (t : Text) (h : Header) (r : Result Header Refusal) → Some h ≡ result_ok r → read_told r ≡ head_answer t → Fits t h
head_accepted t h (Ok g) some told =
    let same : g ≡ h = cc in
    rw same at (head_fits t g told)
head_accepted t h (Err why) some told = cc

module _ (ok : ℕ → Bool) (n : ℕ) where
  abbrev found : ℕ
  found = first (λ i. not (ok i)) n

  pub right_first : right_after found n (ok n) ≡ first (λ i. not (ok i)) (suc n)
  unfolding right_after
  right_first =
      by_order found n
      (λ l. simp (ne_eqb found n (λ e. omega arith)) (sym (first_found (λ i. not (ok i)) n l)))
      (λ l.
      let here : found ≡ n = omega (arith, first_le (λ i. not (ok i)) n) in
      split (ok n)
      (λ y. simp (eq-eqb found n here, y) (ap (λ i. i + 1) here ∙ add-one n ∙ sym (first_passed (λ i. not (ok i)) n l (not_is_false (ok n) y))))
      (λ f. simp (f, and_no_right) (here ∙ sym (first_next (λ i. not (ok i)) n l (not_is_true (ok n) f)))))
