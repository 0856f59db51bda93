-- `run_start`: the first edge that the search finds begins the run.
use Rattle.std.proofs.Common.{◌≡◌, ◌∙◌, ◌<◌, ◌≤◌, arith, rules, tests}
use Rattle.std.proofs.lemmas.Iterator.{serves_from_Range, first_from_Range}
use Rattle.image.specs.Lines.{lines_job, edge_line}
use Rattle.image.specs.Image.{first_edge}
use Rattle.image.proofs.Runs.{first_few}
use Rattle.decoding.proofs.RunLaws.{all, run_found}
use Rattle.decoding.proofs.decode.run_start.Goals as goal

pub find-requires-clause-callable : goal.find-requires-clause-callable
find-requires-clause-callable c =
    let few = all c.args.lines.now c.requires.is_job _ c.as_slice-edges.ensures.value c.args.from c.args.s c.requires.from_bound in
    serves_from_Range (λ x q k. search (rules, tests)) (λ x above below. search (rules, tests))

pub returns : goal.returns
returns c =
    let m = c.args.lines.now in
    let s = c.args.s in
    let read = c.as_slice-edges.result.now in
    let first = first_from_Range _ _ _ c.find.result (λ e. s ≤ (edge_line read e).source) (λ e. (edge_line read e).source < s) c.find.ensures.ran
    (λ x q k. search (rules, tests)) (λ x q k. search (rules, tests)) in
    let found : c.unwrap_or.result ≡ first_edge (lines_job m).structure s =
    c.unwrap_or.ensures ∙ run_found m c.requires.is_job read c.as_slice-edges.ensures.value c.args.from s c.requires.from_bound c.find.result first in
    (found, omega (arith, first_few (lines_job m) c.requires.is_job s, c.requires.is_job.edges))
