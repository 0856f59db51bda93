-- `skip_spaces`: the spaces lie in the text.
use native.Mathlib.Omega.{arith}
use borrow.Author.Rules.{rules}
use Rattle.scanner.proofs.ScanLaws.{space_inside}
use Rattle.scanner.proofs.scan.skip_spaces.Goals as goal

pub slice_bounds-result-count : goal.slice_bounds-result-count
slice_bounds-result-count c = omega (arith, c.spaces.ensures, space_inside c.args.text.now)

pub slice_bounds-result-start : goal.slice_bounds-result-start
slice_bounds-result-start c =
    let inside = space_inside c.args.text.now in
    search (rules, c.spaces.ensures, inside)
