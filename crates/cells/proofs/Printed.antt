-- C1 to C10, the cases that tell what is ruled out, the one that looks without naming a node, those of rules that hold all along and the answers of
-- page follow from the definitions: both sides are computed. Assumes nothing.
use mathlib.Core.Path.{◌≡◌, refl}
use mathlib.Core.List.{map}
use mathlib.Core.Option.{Option-elim}
use Rattle.law.specs.Bounded.{first, all, any, count}
use Rattle.law.specs.Lists.{from, tab, flatten, every, some}
use Rattle.law.specs.Fixpoint.{member, pass, passes, least, greatest}
use Rattle.job.specs.Question.{of_call, all_yes, refusal, answered, afterwards}
use Rattle.job.specs.Questions.{of_line_one, of_lines, first_line, ranges, text_length, line_fields, state_lines, edge_lines, edges_out, formula_lines, head_questions, line_questions, text_questions, within, in_ranges, formed_line, state_ok, less, ascends, edge_ok, has_edge_out, formula_ok}
use Rattle.cells.specs.Questions.{table_size, table_cells, node_below, node_or255, numbers_below, temporal_named, owner_filled, truth_value, state_at_border, cell_agrees, state_in_fragment, table_settled, some_owner_empty, page_fits}
use Rattle.text.specs.Field.{digits, columns, field, well_formed, value, number_at, formed}
use Rattle.job.specs.Layout.{states, edges, subformulas, nodes, length_of, state_at, edge_at, subformula_at, owner_field, label_field, source_field, target_field, kind_field, left_field, right_field, lines, fields_of, line_at}
use Rattle.job.specs.Job.{owner as job_owner, atom, edge, dual, over, size, subformula_count, subformula, decode}
use Rattle.cells.specs.Calls.{left as calls_left, questions, node_read, own_questions, width, told, answer, after}
use Rattle.job.specs.Formula.{atomic, unary, binary, parsed, is_formula, formula}
use Rattle.job.specs.Answer.{numbers}
use Rattle.job.specs.Read.{read_answer, read_told, line_of}
use Rattle.cells.specs.Fragment.{owns, in_fragment, edge_out, border, inner}
use Rattle.cells.specs.Table.{table_length, index, node_of, state_of, subformula_of, cell, owner_cell, is_empty, inside, cells_right, fresh_table, fill_at, fill, filled, empty_cells}
use Rattle.cells.specs.SetRule.{joins, smallest, stays, largest, by_sets}
use Rattle.cells.specs.Step.{opposite, both, next, known, column, step_column, step_up_to, step_table}
use Rattle.cells.specs.Close.{is_temporal, accept_table, copy_table, steps_done, copies_done, settled, open?, smallest_open, some_open, close_table}
use Rattle.cells.specs.Finish.{steps_up_to, exchange, closing, round, rounds_from, finish, verdict as finish_verdict}
use Rattle.cells.specs.Cases.{verdict_calls, bytes, answers, table_after, job_v, job2, job3, job4, job6, job10, cases, zeros, computed_from, computed}
use Rattle.cells.specs.RuledOut.{ruled_out}
use Rattle.cells.specs.LookWithoutNode.{look_without_node}
use Rattle.cells.specs.AllAlong.{ring_job, implies_job, line_job, line_table, all_along, could_join_both}
use Rattle.cells.specs.PageAnswers.{page_answers}

unfoldable pub printed : map computed cases ≡ cases
unfolding first all any count from tab flatten every some member pass passes least greatest digits columns field well_formed value number_at formed states edges subformulas nodes length_of state_at edge_at subformula_at owner_field job_owner label_field source_field target_field kind_field left_field calls_left right_field lines fields_of line_at atomic unary binary parsed is_formula formula of_call all_yes refusal Option-elim answered afterwards of_line_one of_lines first_line ranges text_length line_fields state_lines edge_lines edges_out formula_lines head_questions line_questions text_questions within in_ranges formed_line state_ok less ascends edge_ok has_edge_out formula_ok numbers read_answer read_told line_of atom edge dual over size subformula_count subformula decode owns in_fragment edge_out border inner table_length index node_of state_of subformula_of cell owner_cell is_empty inside cells_right fresh_table fill_at fill filled empty_cells joins smallest stays largest by_sets opposite both next known column step_column step_up_to step_table is_temporal accept_table copy_table steps_done copies_done settled open? smallest_open some_open close_table steps_up_to exchange closing round rounds_from finish finish_verdict verdict_calls table_size table_cells node_below node_or255 numbers_below temporal_named owner_filled truth_value state_at_border cell_agrees state_in_fragment table_settled some_owner_empty page_fits node_read own_questions questions width told answer after bytes answers table_after job_v job2 job3 job4 job6 job10 cases zeros computed_from computed
printed = refl

-- by the same definitions
pub ruled_out_lem : map computed ruled_out ≡ ruled_out
unfolding printed ruled_out
ruled_out_lem = refl

pub look_without_node_lem : computed look_without_node ≡ look_without_node
unfolding printed look_without_node
look_without_node_lem = refl

pub all_along_lem : map computed all_along ≡ all_along
unfolding printed ring_job implies_job all_along
all_along_lem = refl

pub could_join_both_lem : computed_from line_table could_join_both ≡ could_join_both
unfolding printed line_job line_table could_join_both
could_join_both_lem = refl

pub page_answers_lem : computed page_answers ≡ page_answers
unfolding printed page_answers
page_answers_lem = refl
