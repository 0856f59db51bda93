-- `read_states`: the state lines passed so far are well-formed and laid.
use Rattle.std.proofs.Common.{◌≡◌, ◌*◌, ◌+◌, Some, None, refl, sym, ◌∙◌, get_or, arith}
use lib.Dec.{lit<}
use Rattle.text.specs.Fields.{line_numbers}
use Rattle.text.proofs.FieldsLaws.{line_malformed, line_formed, line_first, line_number}
use Rattle.job.specs.Layout.{state_at, owner_field, label_field}
use Rattle.job.specs.Questions.{state_ok}
use Rattle.line_reader.specs.LinesRead.{lines_of_states}
use Rattle.line_reader.proofs.LineLaws.{none_read, so_many, line_read, stopped, all_read, right_none, right_few, right_next}
use Rattle.line_reader.proofs.states.read_states.Goals as goal

pub loop-s-init : goal.loop-s-init
loop-s-init c = none_read (lines_of_states c.args.text.now c.args.h) 0 _ c.clear.ensures (right_none _)

pub returns-in_default : goal.returns-in_default
unfolding state_at
returns-in_default c =
    let t = c.args.text.now in
    let l = c.loop-s in
    let read : line_numbers t (21 + 11 * l.s) 2 ≡ None = sym c.read_line.ensures.is ∙ c.in_default.is in
    stopped (lines_of_states t c.args.h) l.s l.right l.states.items l.invariant _ (omega arith) (omega arith) (line_malformed t _ 2 read)

pub right_after-right-requires : goal.right_after-right-requires
right_after-right-requires c = omega (arith, right_few (state_ok c.args.text.now) c.loop-s.s c.loop-s.right c.loop-s.invariant.kept_is)

pub push-requires : goal.push-requires
push-requires c = omega (arith, so_many (lines_of_states c.args.text.now c.args.h) _ _ _ c.loop-s.invariant, c.requires.states_to)

pub loop-s-preserved : goal.loop-s-preserved
unfolding state_at owner_field label_field state_ok
loop-s-preserved c =
    let t = c.args.text.now in
    let l = c.loop-s in
    let ns = c.in-Some.numbers in
    let at = 21 + 11 * l.s in
    let read : line_numbers t at 2 ≡ Some ns = sym c.read_line.ensures.is ∙ c.in-Some.is in
    let owner : owner_field t l.s ≡ get_or ns 0 0 = sym (line_first t at 2 ns read (lit< tt)) in
    let label : label_field t l.s ≡ get_or ns 1 0 = sym (line_number t at 2 ns read 1 (lit< tt)) in
    let is_right : c.is_state.result ≡ state_ok t l.s = c.is_state.ensures ∙ rw (owner, label, c.requires.nodes_are) refl in
    line_read (lines_of_states t c.args.h) l.s l.right l.states.items l.invariant _ _ _ (line_formed t at 2 ns read)
    (right_next (state_ok t) l.s _ _ _ l.invariant.kept_is is_right c.right_after-right.ensures) c.push.ensures.items (rw (owner, label) refl)

pub returns : goal.returns
returns c =
    let l = c.loop-s in all_read (lines_of_states c.args.text.now c.args.h) l.s l.right l.states.items l.invariant (omega arith)
