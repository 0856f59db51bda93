-- Each function of the cycle reads what the parse of the tokens of the text has.
use borrow.Author.Rules.{rules}
use mathlib.Core.Logic.{⊎_elim}
use Rattle.rule_text.specs.Parse.{read_marked}
use Rattle.rule_text.specs.declared.token.Mark.TheVariants.{ForAllPaths, OnSomePath, LeftParenthesis}
use Rattle.rule_reader.proofs.ReadsLaws.{part_read}
use Rattle.rule_reader.proofs.FormLaws as form
use Rattle.rule_reader.proofs.FormLaws.{opens, opens_form}
use Rattle.rule_reader.proofs.BracketLaws as bracket
use Rattle.rule_reader.proofs.OperatorLaws as operator
use Rattle.rule_reader.proofs.parse.Reader.+form.Goals as goal

-- `closed_form`: by the first token.
pub closed_form-returns-in-Atom : goal.closed_form-returns-in-Atom
closed_form-returns-in-Atom t c = form.reads_atom _ _ _ c.first_token-first.ensures _ _ _ _ c.in-Atom.is c.keep.ensures

pub closed_form-returns-in-Mark : goal.closed_form-returns-in-Mark
closed_form-returns-in-Mark t c = form.reads_mark _ _ _ c.first_token-first.ensures _ _ _ _ _ c.in-Mark.is c.marked_form.ensures

pub closed_form-returns-in-Prefix : goal.closed_form-returns-in-Prefix
unfolding opens
closed_form-returns-in-Prefix t c =
    form.reads_closed_none _ _ _ c.first_token-first.ensures _ _ _
    (⊎_elim (λ (p, e). rw e) (⊎_elim (λ (o, e). rw e) (λ e. rw e)) c.in-Prefix.is)

-- `prefix_form`: by the first token too.
pub prefix_form-returns-in_default : goal.prefix_form-returns-in_default
prefix_form-returns-in_default t c =
    form.reads_closed _ _ _ c.first_token-first.ensures _ _ _ _ c.in_default.not-Prefix c.closed_form.ensures

pub prefix_form-returns-in_err-f : goal.prefix_form-returns-in_err-f
prefix_form-returns-in_err-f t c =
    rw c.from_residual.ensures (form.reads_no_operand _ _ _ c.first_token-first.ensures _ _ c.in-Prefix.is _ _ _ c.in_err-f.ensures)

pub prefix_form-returns : goal.prefix_form-returns
prefix_form-returns t c =
    form.reads_prefix _ _ _ c.first_token-first.ensures _ _ c.in-Prefix.is _ _ _ _ _ c.in_ok-f.ensures (rw c.prefix_line.ensures at c.keep.ensures)

-- `expression`: the first operand, then operator by operator.
pub expression-returns-in_err-left : goal.expression-returns-in_err-left
expression-returns-in_err-left t c = rw c.from_residual.ensures (operator.reads_no_first _ _ _ _ _ _ _ c.in_err-left.ensures)

pub expression-loop-infix-init : goal.expression-loop-infix-init
expression-loop-infix-init t c = operator.first_joined _ _ _ _ _ _ c.in_ok-left.ensures

pub expression-returns-in_err-b : goal.expression-returns-in_err-b
expression-returns-in_err-b t c =
    rw c.from_residual-in_err-b.ensures
    (operator.reads_right_missing _ _ _ _ _ _ c.in_ok-left.ensures _ _ _ c.loop-infix.invariant _ _ _ _ _ _ c.in-Some.ensures c.in_err-b.ensures _ _)

pub expression-loop-infix-smaller : goal.expression-loop-infix-smaller
expression-loop-infix-smaller t c =
    let next = c.in-Some.ensures.passes.left in
    let it = (part_read _ _ _ _ _ _ _ c.in_ok-b.ensures).left in
    search rules

pub expression-loop-infix-preserved : goal.expression-loop-infix-preserved
expression-loop-infix-preserved t c =
    operator.joined_next _ _ _ _ _ _ _ _ c.loop-infix.invariant _ _ _ c.in-Some.ensures _ _ _ _ _ _ _ c.keep_left-a.ensures c.in_ok-b.ensures
    c.keep_joined-left.ensures

pub expression-returns : goal.expression-returns
expression-returns t c = operator.reads_joined _ _ _ _ _ _ c.in_ok-left.ensures _ _ _ c.loop-infix.invariant c.in_default.ensures

-- `marked_form`: by the mark.
pub marked_form-returns-in-LeftParenthesis : goal.marked_form-returns-in-LeftParenthesis
unfolding read_marked
marked_form-returns-in-LeftParenthesis t c = form.reads_marked _ _ _ _ _ _ LeftParenthesis c.in-LeftParenthesis.is c.parenthesized.ensures

pub marked_form-returns-in-ForAllPaths : goal.marked_form-returns-in-ForAllPaths
unfolding read_marked
marked_form-returns-in-ForAllPaths t c = form.reads_marked _ _ _ _ _ _ ForAllPaths c.in-ForAllPaths.is c.until_form.ensures

pub marked_form-returns-in-OnSomePath : goal.marked_form-returns-in-OnSomePath
unfolding read_marked
marked_form-returns-in-OnSomePath t c = form.reads_marked _ _ _ _ _ _ OnSomePath c.in-OnSomePath.is c.until_form-in-OnSomePath.ensures

pub marked_form-returns-in-Until : goal.marked_form-returns-in-Until
unfolding opens_form
marked_form-returns-in-Until t c =
    form.reads_other_mark _ _ _ _ _
    (⊎_elim (λ e. rw e) (⊎_elim (λ e. rw e) (⊎_elim (λ e. rw e) (λ e. rw e))) c.in-Until.is)

-- `parenthesized`: the expression, then `)`.
pub parenthesized-returns-in_err-inner : goal.parenthesized-returns-in_err-inner
parenthesized-returns-in_err-inner t c = rw c.from_residual.ensures (bracket.reads_empty_parentheses _ _ _ _ _ _ c.in_err-inner.ensures)

pub parenthesized-returns-in_err-self : goal.parenthesized-returns-in_err-self
parenthesized-returns-in_err-self t c =
    rw c.from_residual-in_err-self.ensures (bracket.reads_unclosed _ _ _ _ _ c.in_ok-inner.ensures _ _ c.in_err-self.ensures)

pub parenthesized-returns : goal.parenthesized-returns
parenthesized-returns t c = bracket.reads_parenthesized _ _ _ _ _ c.in_ok-inner.ensures _ c.in_ok-self.ensures

-- `until_form`: mark by mark, and expression by expression.
pub until_form-returns-in_err-self : goal.until_form-returns-in_err-self
until_form-returns-in_err-self t c = rw c.from_residual.ensures (bracket.reads_no_opening _ c.args.all _ _ _ c.in_err-self.ensures)

pub until_form-returns-in_err-f : goal.until_form-returns-in_err-f
until_form-returns-in_err-f t c =
    rw c.from_residual-in_err-f.ensures (bracket.reads_no_left _ c.args.all _ _ c.in_ok-self.ensures _ _ _ _ c.in_err-f.ensures)

pub until_form-returns-in_err-self-2 : goal.until_form-returns-in_err-self-2
until_form-returns-in_err-self-2 t c =
    let left = bracket.left_read _ c.args.all _ _ c.in_ok-self.ensures _ _ _ c.in_ok-f.ensures in
    rw c.from_residual-in_err-self-2.ensures (bracket.reads_no_until _ _ _ _ _ _ left _ _ c.in_err-self-2.ensures)

pub until_form-expression-requires-2 : goal.until_form-expression-requires-2
until_form-expression-requires-2 t c =
    let opened = c.in_ok-self.ensures.left in
    let left = (part_read _ _ _ _ _ _ _ c.in_ok-f.ensures).left in
    let between = c.in_ok-self-2.ensures.left in
    search rules

pub until_form-returns-in_err-g : goal.until_form-returns-in_err-g
until_form-returns-in_err-g t c =
    let left = bracket.left_read _ c.args.all _ _ c.in_ok-self.ensures _ _ _ c.in_ok-f.ensures in
    rw c.from_residual-in_err-g.ensures (bracket.reads_no_right _ _ _ _ _ _ left _ c.in_ok-self-2.ensures _ _ _ _ c.in_err-g.ensures)

pub until_form-returns-in_err-self-3 : goal.until_form-returns-in_err-self-3
until_form-returns-in_err-self-3 t c =
    let left = bracket.left_read _ c.args.all _ _ c.in_ok-self.ensures _ _ _ c.in_ok-f.ensures in
    let both = bracket.both_read _ _ _ _ _ _ left _ c.in_ok-self-2.ensures _ _ _ c.in_ok-g.ensures in
    rw c.from_residual-in_err-self-3.ensures (bracket.reads_no_closing _ _ _ _ _ _ _ both _ _ c.in_err-self-3.ensures)

pub until_form-returns : goal.until_form-returns
until_form-returns t c =
    let left = bracket.left_read _ c.args.all _ _ c.in_ok-self.ensures _ _ _ c.in_ok-f.ensures in
    let both = bracket.both_read _ _ _ _ _ _ left _ c.in_ok-self-2.ensures _ _ _ c.in_ok-g.ensures in
    bracket.reads_until _ _ _ _ _ _ _ both _ _ _ c.in_ok-self-3.ensures (rw c.until_line.ensures at c.keep.ensures)
