-- `work_column`: left out, worked for nothing, or marked.
use mathlib.Core.Path.{◌≡◌, sym, ◌∙◌, ap, subst}
use Rattle.job.specs.Rule.{rule_of, rule_at, InRange}
use Rattle.cells.specs.Step.{step_column}
use Rattle.image.specs.Denoted.{job_of}
use Rattle.table.specs.Filling.{Leaves}
use Rattle.stepping.proofs.ColumnLaws.{stepped}
use Rattle.stepping.proofs.StaleLaws.{column_numbers, column_left, column_idle, column_marked}
use Rattle.stepping.proofs.stale.work_column.Goals as goal
use Rattle.stepping.proofs.stale.work_column.Goals.{After-rule_of-rule, After-step_column-filled}

-- the rule, as it was read
module _ (c : After-rule_of-rule) where
  rule_in : InRange c.args.k c.rule_of-rule.result
  rule_in = subst (InRange _) (sym c.rule_of-rule.ensures) c.subformula.ensures.1

  rule_is : c.rule_of-rule.result ≡ rule_at (job_of c.args.m.now) c.args.k
  rule_is = c.rule_of-rule.ensures ∙ ap rule_of c.subformula.ensures.0

pub returns-then-not-bears : goal.returns-then-not-bears
returns-then-not-bears c =
    let pre = c.requires in
    column_left pre.resting _ pre.k_bound _ (rule_is (goal.at.returns-then-not-bears c).After-rule_of-rule) (sym c.bears.ensures ∙ c.if-not-bears.true)

-- the column is stepped
stepped_here :
    (c : After-step_column-filled)
    → let a = c.args in
    Leaves a.table.now (step_column (job_of a.m.now) a.n a.k a.table.now) c.step_column-filled.new.table c.step_column-filled.result
stepped_here c =
    stepped _ _ _ _ _ _ c.step_column-filled.result (rule_is (goal.at.After-step_column-filled c).After-rule_of-rule) c.step_column-filled.ensures

pub returns-then-filled-eq0 : goal.returns-then-filled-eq0
returns-then-filled-eq0 c =
    let pre = c.requires in
    column_idle pre.resting _ pre.k_bound _ c.step_column-filled.result (stepped_here (goal.at.returns-then-filled-eq0 c).After-step_column-filled) c.if-filled-eq0.true

-- cells were filled: where the marks go
pub mark_stale-requires : goal.mark_stale-requires
mark_stale-requires c = column_numbers c.requires.resting _ c.requires.k_bound

pub tell_news-requires : goal.tell_news-requires
tell_news-requires c = (column_numbers c.requires.resting _ c.requires.k_bound).1

pub returns : goal.returns
returns c =
    let pre = c.requires in
    column_marked pre.resting _ pre.k_bound _ c.step_column-filled.result (stepped_here (goal.at.returns c).After-step_column-filled)
    c.mark_stale.ensures.stale c.mark_stale.ensures.news c.tell_news.ensures.stale c.tell_news.ensures.news
