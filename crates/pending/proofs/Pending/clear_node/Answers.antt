-- `clear_node`: the node's flags, filled.
use Rattle.std.proofs.Common.{rules, ◌*◌, false}
use native.Mathlib.Omega.{arith}
use Rattle.pending.proofs.FillLaws.{flags_filled}
use Rattle.pending.proofs.Pending.clear_node.Goals as goal

pub returns-clause-stale : goal.returns-clause-stale
returns-clause-stale c =
    flags_filled (c.args.n * 32) 32 false c.args.self.now.stale (search rules) _ _ (omega arith) (search rules)
