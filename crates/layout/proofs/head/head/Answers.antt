-- `head`: each return is a case of `head_answer`.
use Prim.Native.Nat.{◌+◌, ◌*◌, ◌≤◌}
use mathlib.Core.Path.{◌≡◌, sym, ap, ◌∙◌}
use mathlib.Core.Bool.{true}
use lib.Dec.{lit<}
use lib.ListN.{length, get_or}
use Rattle.std.proofs.Common.{Some, None, List, ℕ}
use Rattle.std.specs.Result.{result_ok}
use Rattle.std.proofs.lemmas.Grind.{common_steps}
use native.Mathlib.Omega.{arith}
use Rattle.text.specs.Field.{Text, formed}
use Rattle.text.specs.Fields.{line_numbers}
use Rattle.text.proofs.FieldsLaws.{line_malformed, line_formed, line_number}
use Rattle.job.specs.Layout.{states, edges, subformulas, nodes, length_of}
use Rattle.job.specs.Questions.{in_ranges}
use Rattle.job.specs.Read.{read_told, header}
use Rattle.job.proofs.LayoutLaws.{head_short, head_malformed, head_out_of_range, head_wrong_length, head_passes}
use Rattle.layout.proofs.head.head.Goals as goal
use Rattle.layout.proofs.head.head.Goals.{After-are_in_ranges}

pub returns-then-text-lt21 : goal.returns-then-text-lt21
unfolding read_told
returns-then-text-lt21 c = sym (head_short _ c.if-text-lt21.true)

pub returns-in_err-states : goal.returns-in_err-states
unfolding read_told
returns-in_err-states c =
    let none : c.read_line.result ≡ None = c.ok_or.ensures.ok_part ∙ ap result_ok c.in_err-states.was in
    let told = head_malformed _ c.if-text-lt21.false (line_malformed _ 0 4 (sym c.read_line.ensures.is ∙ none)) in
    grind (arith, common_steps)

-- line 1, where the ranges are asked
module _ (c : After-are_in_ranges) where
  abbrev text_of : Text
  text_of = c.args.text.now

  abbrev numbers : List ℕ
  numbers = c.in_ok-states.field-0

  line_read : line_numbers text_of 0 4 ≡ Some numbers
  line_read = sym c.read_line.ensures.is ∙ c.ok_or.ensures.ok_part ∙ ap result_ok c.in_ok-states.was

  states_read : get_or numbers 0 0 ≡ states text_of
  unfolding states
  states_read = line_number text_of 0 4 numbers line_read 0 (lit< tt)

  edges_read : get_or numbers 1 0 ≡ edges text_of
  unfolding edges
  edges_read = line_number text_of 0 4 numbers line_read 1 (lit< tt)

  subformulas_read : get_or numbers 2 0 ≡ subformulas text_of
  unfolding subformulas
  subformulas_read = line_number text_of 0 4 numbers line_read 2 (lit< tt)

  nodes_read : get_or numbers 3 0 ≡ nodes text_of
  unfolding nodes
  nodes_read = line_number text_of 0 4 numbers line_read 3 (lit< tt)

  ranges_asked : in_ranges (states text_of) (edges text_of) (subformulas text_of) (nodes text_of) ≡ c.are_in_ranges.result
  ranges_asked = sym (c.are_in_ranges.ensures ∙ simp (states_read, edges_read, subformulas_read, nodes_read))

  length_asked :
      21 + 11 * get_or numbers 0 0 + 11 * get_or numbers 1 0 + 16 * get_or numbers 2 0 ≡ length_of text_of
  unfolding length_of
  length_asked = simp (states_read, edges_read, subformulas_read)

  long_enough : 21 ≤ length text_of
  long_enough = c.if-text-lt21.false

  here_formed : formed text_of 0 4 ≡ true
  here_formed = line_formed text_of 0 4 numbers line_read

pub returns-then-not-are_in_ranges : goal.returns-then-not-are_in_ranges
unfolding read_told
returns-then-not-are_in_ranges c =
    let here = (goal.at.returns-then-not-are_in_ranges c).After-are_in_ranges in
    sym (head_out_of_range _ (long_enough here) (here_formed here) (ranges_asked here ∙ c.if-not-are_in_ranges.true))

pub returns-then-text-states : goal.returns-then-text-states
unfolding read_told
returns-then-text-states c =
    let here = (goal.at.returns-then-text-states c).After-are_in_ranges in
    sym
    (head_wrong_length _ (long_enough here) (here_formed here) (ranges_asked here ∙ c.if-not-are_in_ranges.false)
    (λ e. c.if-text-states.true (e ∙ sym (length_asked here))))

pub returns : goal.returns
unfolding read_told header
returns c =
    let here = (goal.at.returns c).After-are_in_ranges in
    simp (states_read here, edges_read here, subformulas_read here, nodes_read here)
    (sym
    (head_passes _ (long_enough here) (here_formed here) (ranges_asked here ∙ c.if-not-are_in_ranges.false)
    (c.if-text-states.false ∙ length_asked here)))
