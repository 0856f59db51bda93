-- `copy_subformula`: the nodes passed so far are copied.
use mathlib.Core.Path.{◌≡◌, refl, sym, ◌∙◌}
use Rattle.cells.specs.Close.{is_temporal}
use Rattle.image.specs.Denoted.{job_of}
use Rattle.image.proofs.ImageLaws.{image_job}
use Rattle.messages.proofs.NewsLaws.{temporal_is, copied_few, nodes_none, nodes_next, nodes_done, news_none, news_some, news_plain}
use borrow.Author.Rules.{rules}
use native.Mathlib.Omega.{arith}
use Rattle.messages.proofs.news.copy_subformula.Goals as goal
use Rattle.messages.proofs.news.copy_subformula.Goals.{After-is_temporal}

pub returns-then-not-take_news-clause-news_taken : goal.returns-then-not-take_news-clause-news_taken
returns-then-not-take_news-clause-news_taken c =
    let taken = c.take_news.ensures in
    news_none _ _ c.requires.lent.long _ _ _ refl (c.requires.copied (sym taken.told ∙ c.if-not-take_news.true)) taken.stale taken.news

-- where the rule is known
module _ (c : After-is_temporal) where
  temporal : c.is_temporal.result ≡ is_temporal (job_of c.args.m.now) c.args.k
  temporal =
      temporal_is (job_of c.args.m.now) c.args.k _ _ _ c.subformula.ensures.0
      c.rule_of.ensures c.is_temporal.ensures

pub returns-then-not-is_temporal-clause-news_taken : goal.returns-then-not-is_temporal-clause-news_taken
returns-then-not-is_temporal-clause-news_taken c =
    let plain = temporal (goal.at.returns-then-not-is_temporal-clause-news_taken c).After-is_temporal in
    news_plain _ _ c.requires.lent.long _ _ _ refl (sym plain ∙ c.if-not-is_temporal.true) c.take_news.ensures.stale c.take_news.ensures.news

pub loop-n-init : goal.loop-n-init
loop-n-init c =
    let taken = c.take_news.ensures in
    (omega arith, c.nodes-n-end.ensures.0, rw taken.stale (nodes_none _ (image_job c.args.m.now) _ c.requires.lent.long _ _), taken.news)

pub copy_column-filled-requires-clause-column : goal.copy_column-filled-requires-clause-column
copy_column-filled-requires-clause-column c =
    record { node_in = omega (arith, c.loop-n.invariant.1); subformula_in = c.requires.k_bound }

pub copy_column-filled-requires-clause-temporal : goal.copy_column-filled-requires-clause-temporal
copy_column-filled-requires-clause-temporal c =
    let here = temporal (goal.at.copy_column-filled-requires-clause-temporal c).After-is_temporal in
    sym here ∙ c.if-not-is_temporal.false

pub overflow_add-filled : goal.overflow_add-filled
overflow_add-filled c =
    let few = copied_few c.args.m.now c.args.table.now c.requires.lent _ c.args.pending.now.stale _ _ _ c.loop-n.invariant.2 in
    omega arith

pub loop-n-preserved : goal.loop-n-preserved
loop-n-preserved c =
    let l = c.loop-n in (
      search rules,
      l.invariant.1,
      nodes_next (job_of c.args.m.now) (image_job c.args.m.now) c.args.table.now c.requires.lent.long c.args.k c.args.pending.now.stale
          l.n l.table _ l.pending.stale _ l.filled _ l.invariant.2 c.copy_column-filled.ensures.part_copied,
      rw c.copy_column-filled.ensures.news l.invariant.3,
    )

pub returns : goal.returns
returns c =
    let l = c.loop-n in
    let done : l.n ≡ (job_of c.args.m.now).nodes = omega (arith, l.invariant.1) in record {
      news_taken = news_some _ _ c.requires.lent.long _ _ _ refl _ _
          (nodes_done (job_of c.args.m.now) (image_job c.args.m.now) _ c.requires.lent.long _ _ l.n _ _ _ done l.invariant.2)
          l.invariant.3;
      upper_bound = copied_few c.args.m.now c.args.table.now c.requires.lent _ c.args.pending.now.stale _ _ _ l.invariant.2;
    }
