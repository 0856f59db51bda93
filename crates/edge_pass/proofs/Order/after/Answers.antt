-- `Order::after`: field by field what is defined.
use Rattle.std.proofs.Common.{◌+◌, ◌∙◌, ap}
use Rattle.layout.specs.Lines.{right_after}
use Rattle.edge_pass.specs.EdgePass.{order_after}
use Rattle.edge_pass.proofs.Order.after.Goals as goal

pub returns : goal.returns
unfolding order_after
returns c =
    let a = c.args in
    ap (λ n. record { states = a.self.states; lines = a.self.lines + 1; right = n; source = a.source; target = a.target })
    (c.right_after.ensures ∙ ap (right_after a.self.right a.self.lines) c.is_right-ok.ensures)
