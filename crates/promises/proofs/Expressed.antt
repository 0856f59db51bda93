-- Each question that a call puts is a case of the error that its code answers with: that case has the question's number and line. Assumes nothing.
use Rattle.std.proofs.Common.{ℕ, ◌≡◌, ◌∙◌, refl, sym, subst, List, [], ◌∷◌, ◌++◌}
use mathlib.Core.Option as opt
use Rattle.text.specs.Field.{Text}
use Rattle.job.specs.Job.{Job, decode}
use Rattle.job.specs.Question.{Question, of_call, refusal}
use Rattle.job.specs.Questions.{of_line_one, of_lines, first_line, ranges, text_length, line_fields, state_lines, edge_lines, edges_out, formula_lines, head_questions, line_questions, text_questions}
use Rattle.job.specs.Refused.{number_of, line_of_refusal}
use Rattle.job.specs.declared.refusal.Refusal.{Refusal}
use Rattle.job.specs.declared.refusal.Refusal.TheVariants.{LineOne, Ranges, TextLength, MalformedLine, StateLine, EdgeLine, NoEdgeOut, SubformulaLine, TableLength, Cells, Node, StateOrSubformula, NotTemporal, OwnerEmpty, Value, NotBorder, OtherValue, OutsideFragment, NotSettled, NothingOpen, RuleBuffer, NoRule, TooManyLines, PageBuffer}
use Rattle.law.proofs.Bool.{split}
use Rattle.job.proofs.QuestionLaws.{some_not_none, refusal_yes, refusal_no}
use Rattle.cells.specs.Table.{Table}
use Rattle.cells.specs.Questions.{table_size, table_cells, node_below, node_or255, numbers_below, temporal_named, owner_filled, truth_value, state_at_border, cell_agrees, state_in_fragment, table_settled, some_owner_empty, page_fits}
use Rattle.cells.specs.Calls.{Call, fresh, step, offer, accept, look, close, finish, page, own_questions, questions}
use Rattle.rule_text.specs.RuleCall.{rule_questions}

abbrev pub Expressed : Question → Type 0
Expressed q = (why : Refusal) × (number_of why ≡ q.number) × (line_of_refusal why ≡ q.line)

-- Each question of a list is.
abbrev pub AllExpressed : List Question → Type 0
AllExpressed [] = Unit {0}
AllExpressed (q ∷ qs) = Expressed q × AllExpressed qs

both_expressed : (ps qs : List Question) → AllExpressed ps → AllExpressed qs → AllExpressed (ps ++ qs)
both_expressed [] qs a b = b
both_expressed (p ∷ ps) qs a b = (a.0, both_expressed ps qs a.1 b)

pub refusal_expressed : (qs : List Question) (q : Question) → AllExpressed qs → refusal qs ≡ opt.some q → Expressed q
unfolding refusal
refusal_expressed [] q all is = absurd (some_not_none q (sym is))
refusal_expressed (p ∷ ps) q all is =
    split p.test
    (λ yes. refusal_expressed ps q all.1 (sym (refusal_yes p ps yes) ∙ is))
    (λ no. let same : p ≡ q = cc (refusal_no p ps no) in subst Expressed same all.0)

pub text_expressed : (x : Text) → AllExpressed (text_questions x)
unfolding text_questions head_questions line_questions first_line ranges text_length line_fields state_lines edge_lines edges_out formula_lines of_line_one of_lines
text_expressed x =
    ((LineOne, refl, refl), ((Ranges, refl, refl), ((TextLength, refl, refl), ((MalformedLine _, refl, refl), ((StateLine _, refl, refl), ((EdgeLine _, refl, refl), ((NoEdgeOut _, refl, refl), ((SubformulaLine _, refl, refl), tt))))))))

own_expressed : (c : Call) (J : Job) (t : Table) → AllExpressed (own_questions c J t)
unfolding own_questions of_call table_size table_cells node_below node_or255 numbers_below temporal_named owner_filled truth_value state_at_border cell_agrees state_in_fragment table_settled some_owner_empty page_fits
own_expressed fresh J t =
    ((TableLength, refl, refl), tt)
own_expressed (step n) J t =
    ((TableLength, refl, refl), ((Cells, refl, refl), ((Node, refl, refl), tt)))
own_expressed (offer s k) J t =
    ((TableLength, refl, refl), ((Cells, refl, refl), ((StateOrSubformula, refl, refl), ((NotTemporal, refl, refl), ((OwnerEmpty, refl, refl), tt)))))
own_expressed (accept n s k v) J t =
    ((TableLength, refl, refl), ((Cells, refl, refl), ((Node, refl, refl), ((StateOrSubformula, refl, refl), ((NotTemporal, refl, refl), ((Value, refl, refl), ((NotBorder, refl, refl), ((OtherValue, refl, refl), tt))))))))
own_expressed (look n s k) J t =
    ((TableLength, refl, refl), ((Cells, refl, refl), ((Node, refl, refl), ((StateOrSubformula, refl, refl), ((OutsideFragment, refl, refl), tt)))))
own_expressed close J t =
    ((TableLength, refl, refl), ((Cells, refl, refl), ((NotSettled, refl, refl), ((NothingOpen, refl, refl), tt))))
own_expressed finish J t =
    ((TableLength, refl, refl), ((Cells, refl, refl), tt))
own_expressed (page n room) J t =
    ((TableLength, refl, refl), ((Cells, refl, refl), ((Node, refl, refl), ((PageBuffer, refl, refl), tt))))

pub call_expressed : (c : Call) (x : Text) (t : Table) → AllExpressed (questions c x t)
unfolding questions
call_expressed c x t = both_expressed (text_questions x) (own_questions c (decode x) t) (text_expressed x) (own_expressed c (decode x) t)

pub rule_expressed : (x buffer : List ℕ) → AllExpressed (rule_questions x buffer)
unfolding rule_questions of_call
rule_expressed x buffer =
    ((RuleBuffer, refl, refl), ((NoRule, refl, refl), ((TooManyLines, refl, refl), tt)))
