-- `meets`: over the run of edges out of the state.
use Rattle.std.proofs.Common.{ℕ, Bool, refl, ◌∙◌, eqb, rules, tests}
use Rattle.std.proofs.lemmas.Iterator.{YieldsList-from_range}
use Rattle.std.proofs.lemmas.Iterator.Search.{all_from_yields_List, any_from_yields_List}
use Rattle.cells.specs.Table.{cell}
use Rattle.image.specs.Denoted.{job_of}
use Rattle.image.specs.Image.{edge_to}
use Rattle.image.proofs.ImageLaws.{image_job}
use Rattle.values.proofs.ValueLaws.{met_all, met_some}
use Rattle.values.proofs.value.meets.Goals as goal

pub returns-then-all : goal.returns-then-all
returns-then-all c =
    let J = job_of c.args.m.now in
    let meets : ℕ → Bool = λ u. eqb (cell J c.args.table.now c.args.n u c.args.a) c.args.v in
    all_from_yields_List (λ e. meets (edge_to J.structure e)) _ _ _ c.all.ensures.ran (YieldsList-from_range _ _ _ refl refl)
    (λ x b q k. search (rules, tests))
    ∙ met_all J (image_job c.args.m.now) c.args.s meets _ _ c.first_edge.ensures.0 c.first_edge-2.ensures.0 c.args.all c.if-all.true

pub returns-else-all : goal.returns-else-all
returns-else-all c =
    let J = job_of c.args.m.now in
    let meets : ℕ → Bool = λ u. eqb (cell J c.args.table.now c.args.n u c.args.a) c.args.v in
    any_from_yields_List (λ e. meets (edge_to J.structure e)) _ _ _ c.any.ensures.ran (YieldsList-from_range _ _ _ refl refl)
    (λ x b q k. search (rules, tests))
    ∙ met_some J (image_job c.args.m.now) c.args.s meets _ _ c.first_edge.ensures.0 c.first_edge-2.ensures.0 c.args.all c.if-all.false
