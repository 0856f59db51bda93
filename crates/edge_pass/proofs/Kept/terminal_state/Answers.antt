-- `terminal_state`: the place that is found is the first.
use Rattle.std.proofs.Common.{not, false, ◌∙◌, ap, unwrap_or, arith}
use Rattle.law.proofs.Positions.{position_first_of}
use Rattle.edge_pass.specs.EdgePass.{terminal_state}
use Rattle.edge_pass.proofs.Kept.terminal_state.Goals as goal

pub returns-clause-lowest : goal.returns-clause-lowest
unfolding terminal_state
returns-clause-lowest c =
    let a = c.args.self.now in
    ap (λ o. unwrap_or o a.order.states) c.first_unmarked.ensures ∙ position_first_of not a.starts false a.order.states (omega arith)
