-- `read_edges`: the edge lines passed so far are well-formed and laid, and what is kept is the pass's after so many lines.
use Rattle.std.proofs.Common.{◌≡◌, ◌*◌, ◌+◌, Some, None, refl, sym, ◌∙◌, ap, get_or, arith}
use native.Mathlib.Numerals.{add-one}
use lib.Dec.{lit<}
use Rattle.text.specs.Fields.{line_numbers}
use Rattle.text.proofs.FieldsLaws.{line_malformed, line_formed, line_first, line_number}
use Rattle.job.specs.Layout.{state_at, edge_at, source_field, target_field}
use Rattle.job.specs.Questions.{edge_ok}
use Rattle.edge_pass.specs.EdgePass.{start, after, kept_after}
use Rattle.edge_pass.proofs.EdgePassLaws.{kept_lines, kept_right}
use Rattle.line_reader.specs.LinesRead.{lines_of_edges}
use Rattle.line_reader.proofs.LineLaws.{none_read, so_many, line_read, stopped, all_read, right_few}
use Rattle.line_reader.proofs.edges.read_edges.Goals as goal

pub loop-e-init : goal.loop-e-init
unfolding kept_after
loop-e-init c =
    none_read (lines_of_edges c.args.text.now c.args.h) _ _ c.clear.ensures
    (c.start-kept.ensures ∙ ap start (sym c.requires.states_are))

pub returns-in_default : goal.returns-in_default
unfolding state_at edge_at
returns-in_default c =
    let t = c.args.text.now in
    let l = c.loop-e in
    let read : line_numbers t (21 + 11 * (c.args.h.states + l.e)) 2 ≡ None = sym c.read_line.ensures.is ∙ c.in_default.is in
    let here : line_numbers t (edge_at t l.e) 2 ≡ None = rw c.requires.states_are read in
    stopped (lines_of_edges t c.args.h) l.e l.kept l.edges.items l.invariant _ (omega arith) (omega arith) (line_malformed t _ 2 here)

pub after-requires : goal.after-requires
after-requires c =
    let t = c.args.text.now in
    let l = c.loop-e in
    let lines = ap (λ k. k.order.lines) l.invariant.kept_is ∙ kept_lines t l.e in
    let right = right_few (edge_ok t) l.e l.kept.order.right (ap (λ k. k.order.right) l.invariant.kept_is ∙ kept_right t l.e) in
    (omega arith, omega arith)

pub push-requires : goal.push-requires
push-requires c = omega (arith, so_many (lines_of_edges c.args.text.now c.args.h) _ _ _ c.loop-e.invariant, c.requires.edges_to)

pub loop-e-preserved : goal.loop-e-preserved
unfolding state_at edge_at source_field target_field kept_after
loop-e-preserved c =
    let t = c.args.text.now in
    let l = c.loop-e in
    let ns = c.in-Some.numbers in
    let at = edge_at t l.e in
    let read : line_numbers t (21 + 11 * (c.args.h.states + l.e)) 2 ≡ Some ns = sym c.read_line.ensures.is ∙ c.in-Some.is in
    let here : line_numbers t at 2 ≡ Some ns = rw c.requires.states_are read in
    let source : source_field t l.e ≡ get_or ns 0 0 = sym (line_first t at 2 ns here (lit< tt)) in
    let target : target_field t l.e ≡ get_or ns 1 0 = sym (line_number t at 2 ns here 1 (lit< tt)) in
    let kept : c.after.new.self ≡ kept_after t (l.e + 1) =
    c.after.ensures ∙ (λ i. after (l.invariant.kept_is i) (sym source i) (sym target i)) ∙ ap (kept_after t) (sym (add-one l.e)) in
    line_read (lines_of_edges t c.args.h) l.e l.kept l.edges.items l.invariant _ _ _ (line_formed t at 2 ns here) kept
    c.push.ensures.items (rw (source, target) refl)

pub returns : goal.returns
returns c =
    let l = c.loop-e in all_read (lines_of_edges c.args.text.now c.args.h) l.e l.kept l.edges.items l.invariant (omega arith)
