-- `read_lines`: the first line that is malformed, or what questions 5 to 8 come to behind the last line.
use Rattle.std.proofs.Common.{◌∙◌, ap, subst, arith}
use Rattle.std.proofs.lemmas.Result.{err_from_is_err_and}
use Rattle.law.specs.Lists.{tab}
use Rattle.job.specs.Read.{read_told}
use Rattle.job.specs.Leaves.{Fits}
use Rattle.job.proofs.LayoutLaws.{head_fits}
use Rattle.job.proofs.ReadLaws.{read_head_refused}
use Rattle.line_reader.specs.LinesRead.{Told, lines_of_states, lines_of_edges, lines_of_subformulas}
use Rattle.reader.proofs.ReaderLaws.{refuses, states_placed, edges_placed, formulas_placed, askable, lines_answered}
use Rattle.reader.proofs.JobLaws.{refused_read, job_read}
use Rattle.reader.proofs.read.read_lines.Goals as goal
use Rattle.reader.proofs.read.read_lines.Goals.{In_ok-h}

-- what the head says of line 1's numbers where it accepts
fits_here : (c : In_ok-h) → Fits c.args.text.now c.in_ok-h.h
unfolding read_told
fits_here c = head_fits c.args.text.now c.in_ok-h.h c.in_ok-h.ensures

pub returns-in_err-h : goal.returns-in_err-h
unfolding read_told
returns-in_err-h c =
    let p = err_from_is_err_and c.from_residual.result c.from_residual.ensures.1 in
    rw (p.1, p.2) (refused_read c.args.text.now _ _ (read_head_refused c.args.text.now _ _ c.in_err-h.ensures))

pub returns-in_err-states : goal.returns-in_err-states
returns-in_err-states c =
    let p = err_from_is_err_and c.from_residual-in_err-states.result c.from_residual-in_err-states.ensures.1 in
    let t = c.args.text.now in
    let h = c.in_ok-h.h in
    let fits = fits_here (goal.at.returns-in_err-states c).In_ok-h in
    let told = subst (Told (lines_of_states t h)) c.in_err-states.was c.read_states.ensures.told in
    rw p.1 (refused_read t _ _ (refuses t h fits (lines_of_states t h) _ (states_placed t h fits) _ told.0 (p.2 ∙ told.1)))

pub returns-in_err-kept : goal.returns-in_err-kept
returns-in_err-kept c =
    let p = err_from_is_err_and c.from_residual-in_err-kept.result c.from_residual-in_err-kept.ensures.1 in
    let t = c.args.text.now in
    let h = c.in_ok-h.h in
    let fits = fits_here (goal.at.returns-in_err-kept c).In_ok-h in
    let placed = edges_placed t h fits c.in_ok-states.ensures.told.0 in
    let told = subst (Told (lines_of_edges t h)) c.in_err-kept.was c.read_edges.ensures.told in
    rw p.1 (refused_read t _ _ (refuses t h fits (lines_of_edges t h) _ placed _ told.0 (p.2 ∙ told.1)))

pub returns-in_err-formulas : goal.returns-in_err-formulas
returns-in_err-formulas c =
    let p = err_from_is_err_and c.from_residual-in_err-formulas.result c.from_residual-in_err-formulas.ensures.1 in
    let t = c.args.text.now in
    let h = c.in_ok-h.h in
    let fits = fits_here (goal.at.returns-in_err-formulas c).In_ok-h in
    let placed = formulas_placed t h fits c.in_ok-states.ensures.told.0 c.in_ok-kept.ensures.told.0 in
    let told = subst (Told (lines_of_subformulas t h)) c.in_err-formulas.was c.read_formulas.ensures.told in
    rw p.1 (refused_read t _ _ (refuses t h fits (lines_of_subformulas t h) _ placed _ told.0 (p.2 ∙ told.1)))

pub ask_lines-requires : goal.ask_lines-requires
ask_lines-requires c =
    let h = c.in_ok-h.h in
    let fits = fits_here (goal.at.ask_lines-requires c).In_ok-h in
    askable c.args.text.now h fits _ _ _ h.states h.edges h.subformulas (omega arith) (omega arith) (omega arith) c.in_ok-states.ensures.told.1
    c.in_ok-kept.ensures.told.1 c.in_ok-formulas.ensures.told.1

pub returns : goal.returns
returns c =
    let t = c.args.text.now in
    let h = c.in_ok-h.h in
    let fits = fits_here (goal.at.returns c).In_ok-h in
    let state = c.in_ok-states.ensures in
    let edge = c.in_ok-kept.ensures in
    let formula = c.in_ok-formulas.ensures in
    job_read t h fits _ _ _ (state.laid ∙ ap (tab (lines_of_states t h).says) state.told.0) (edge.laid ∙ ap (tab (lines_of_edges t h).says) edge.told.0)
    (formula.laid ∙ ap (tab (lines_of_subformulas t h).says) formula.told.0) c.ask_lines.result
    (c.ask_lines.ensures ∙ lines_answered t h fits _ state.told _ edge.told _ formula.told)
