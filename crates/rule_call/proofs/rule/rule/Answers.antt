-- `rule`: the questions in order, and the lines written.
use mathlib.Core.Path.{◌≡◌, refl, ap, ◌∙◌}
use borrow.Author.Rules.{rules}
use native.Mathlib.Omega.{arith}
use Rattle.std.proofs.Common.{Some, None, Err}
use Rattle.std.proofs.lemmas.Grind.{common_steps}
use Rattle.std.specs.Result.{result_ok}
use Rattle.job.specs.declared.refusal.Refusal.TheVariants.{RuleBuffer, NoRule, TooManyLines}
use Rattle.rule_text.specs.Tree.{Tree}
use Rattle.rule_text.proofs.RuleCallLaws.{rule_21, rule_22_long}
use Rattle.rule_call.specs.Ruled.{ruled_told, ReadsRule, KeepsTree}
use Rattle.rule_call.proofs.AnswerLaws.{refused_told, no_tree, too_many, lines_count, lines_short, accepted_told}
use Rattle.rule_call.proofs.rule.rule.Goals as goal
use Rattle.rule_call.proofs.rule.rule.Goals.{In_ok-lines}

pub returns-then-buffer-ne512 : goal.returns-then-buffer-ne512
returns-then-buffer-ne512 c =
    let both = refused_told _ _ RuleBuffer refl (rule_21 _ _ c.if-buffer-ne512.true) in
    record { told = both.0; left = both.1 }

pub returns-then-text-gt512 : goal.returns-then-text-gt512
returns-then-text-gt512 c =
    let both = refused_told _ _ NoRule refl (rule_22_long _ _ (search rules) (search rules)) in
    record { told = both.0; left = both.1 }

pub returns-in_err-lines-clause-told : goal.returns-in_err-lines-clause-told
returns-in_err-lines-clause-told c =
    let none : c.read_rule.result ≡ None = c.ok_or.ensures.ok_part ∙ ap result_ok c.in_err-lines.was in
    let same : c.from_residual.result ≡ Err NoRule = grind (arith, common_steps) in
    ap ruled_told same ∙ (no_tree _ _ (search rules) _ none c.read_rule.ensures).0

pub returns-in_err-lines-clause-left : goal.returns-in_err-lines-clause-left
returns-in_err-lines-clause-left c =
    let none : c.read_rule.result ≡ None = c.ok_or.ensures.ok_part ∙ ap result_ok c.in_err-lines.was in
    (no_tree _ _ (search rules) _ none c.read_rule.ensures).1

-- the tree whose lines were read
module _ (c : In_ok-lines) where
  keeps : (f : Tree) × KeepsTree c.args.text.now f c.in_ok-lines.lines
  unfolding ReadsRule
  keeps =
      let some : c.read_rule.result ≡ Some c.in_ok-lines.lines = c.ok_or.ensures.ok_part ∙ ap result_ok c.in_ok-lines.was in
      rw some at c.read_rule.ensures

pub returns-then-n-gt32 : goal.returns-then-n-gt32
returns-then-n-gt32 c =
    let both = refused_told _ _ TooManyLines refl (too_many _ _ _ (keeps (goal.at.returns-then-n-gt32 c).In_ok-lines).1 _ (search rules) (search rules) (search rules)) in
    record { told = both.0; left = both.1 }

pub write_lines-requires : goal.write_lines-requires
write_lines-requires c =
    let tree = (keeps (goal.at.write_lines-requires c).In_ok-lines).1 in
    let few = c.if-n-gt32.false in
    (lines_short _ _ _ tree _ c.as_slice.ensures (search rules), let n = lines_count _ _ _ tree _ c.as_slice.ensures (search rules) in search rules)

pub returns : goal.returns
returns c =
    let both =
    accepted_told _ _ _ (keeps (goal.at.returns c).In_ok-lines).1 _ c.as_slice.ensures (search rules) _ _ _ (search rules) (search rules) c.count-n.ensures.0
    c.write_lines.ensures in
    record { told = both.0; left = both.1 }
