-- `write_spaces`: a part of the page, filled.
use Rattle.std.proofs.Common.{replicate, ℕ, ◌+◌, ◌-◌, arith, rules}
use Rattle.std.proofs.lemmas.List.{length-replicate}
use Rattle.page_writer.proofs.PartLaws.{part_written}
use Rattle.page_writer.proofs.write_spaces.Goals as goal

pub returns : goal.returns
returns c =
    let a = c.args in
    part_written a.out.now c.fill.new.self (replicate a.count 32) a.at (a.at + a.count - a.at) (search rules)
    (omega (arith, length-replicate {A = ℕ} a.count 32)) (omega arith)
