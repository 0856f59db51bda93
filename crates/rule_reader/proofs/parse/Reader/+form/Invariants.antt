-- The measure is five times the bytes that are left, and a rank: at each call within the cycle bytes are used up, or the rank falls.
use Rattle.std.proofs.Common.{length, ℕ, ◌+◌, ◌*◌, List}
use Rattle.rule_reader.proofs.OperatorLaws as operator
use Rattle.rule_reader.proofs.parse.Reader.+form.Given as goal

abbrev measure : ℕ → List ℕ → ℕ
measure rank text = 5 * length text + rank

abbrev pub decreases-closed_form : goal.decreases-closed_form
decreases-closed_form l = measure 0 l.self.now.rest.now

abbrev pub decreases-expression : goal.decreases-expression
decreases-expression l = measure 2 l.self.now.rest.now

abbrev pub decreases-marked_form : goal.decreases-marked_form
decreases-marked_form l = measure 4 l.self.now.rest.now

abbrev pub decreases-parenthesized : goal.decreases-parenthesized
decreases-parenthesized l = measure 3 l.self.now.rest.now

abbrev pub decreases-prefix_form : goal.decreases-prefix_form
decreases-prefix_form l = measure 1 l.self.now.rest.now

abbrev pub decreases-until_form : goal.decreases-until_form
decreases-until_form l = measure 3 l.self.now.rest.now

-- The first operand, and the operators that are joined to it so far.
abbrev pub invariant-expression-loop-infix : goal.invariant-expression-loop-infix
invariant-expression-loop-infix l =
    operator.Joined l.fn.self.rest.now l.least l.initial.self.rest.now l.initial.self.lines l.initial.left l.self.rest.now l.self.lines l.left

abbrev pub decreases-expression-loop-infix : goal.decreases-expression-loop-infix
decreases-expression-loop-infix l = length l.self.rest.now
