-- The lines of a rule put into a job make a job: its text is accepted, is decoded as that job, ends with the lines, and its last subformula
-- is true where the rule is. Assumes nothing.
use Prim.Native.Nat.{ℕ, ◌-◌, ◌<◌, ◌≤◌}
use mathlib.Core.Path.{◌≡◌, sym, ap}
use mathlib.Core.List.{List, ◌++◌, map, append_assoc}
use mathlib.Core.Logic.{◌↔◌}
use lib.ListN.{length, length-map, get_or-map}
use Rattle.law.specs.Lists.{tab, flatten}
use Rattle.law.proofs.Lists.{tab_list}
use Rattle.text.specs.Field.{Text}
use Rattle.text.specs.Decimal.{line}
use Rattle.job.specs.Formula.{fields}
use Rattle.job.specs.Job.{Job, size, subformula_count, owner, subformula, decode}
use Rattle.job.specs.Questions.{Accepted}
use Rattle.job.specs.Written.{label, edge_of, edge_count, written, IsJob}
use Rattle.job.specs.declared.subformula.Subformula.{Subformula}
use Rattle.job.specs.declared.subformula.Subformula.TheVariants.{Atom}
use Rattle.job.proofs.Exact.{written_accepted, decode_written}
use Rattle.ctl.specs.Truth.{Holds}
use Rattle.ctl.proofs.Total.{total_job}
use Rattle.rule_text.specs.Tree.{Tree, AtomsInRange, Satisfies}
use Rattle.rule_text.specs.Lines.{lines_of, lines_text}
use Rattle.rule_text.specs.RuleJob.{with_rule, front_lines}
use Rattle.rule_text.proofs.LinesLaws.{lines_operands, lines_root}
use Rattle.rule_text.proofs.RuleTruth.{rule_truth}

-- The lines by their numbers, one behind the other.
lines_tabulated : (ls : List Subformula) → flatten (tab (λ k. line (fields (subformula ls k))) (length ls)) ≡ lines_text ls
unfolding lines_text subformula
lines_tabulated ls =
    ap flatten
    (tab_list (λ k. line (fields (subformula ls k))) (length ls) (map bytes ls) (bytes (Atom 0)) (sym (length-map ls bytes))
    (λ k l. sym (get_or-map bytes ls k (Atom 0))))
  where
    bytes : Subformula → Text
    bytes f = line (fields f)

-- Every job's text is its front and its formula lines.
pub written_lines : (J : Job) → written J ≡ front_lines J (subformula_count J) ++ lines_text J.formula
unfolding written front_lines subformula_count
written_lines J = rw (lines_tabulated J.formula, append_assoc, append_assoc)

module _ (J : Job) (f : Tree) where
  pub rule_written : written (with_rule J f) ≡ front_lines J (length (lines_of f)) ++ lines_text (lines_of f)
  unfolding with_rule front_lines subformula_count size edge_count owner label edge_of
  rule_written = written_lines (with_rule J f)

  module _ (is : IsJob J) where
    pub rule_is_job : AtomsInRange f → length (lines_of f) ≤ 32 → IsJob (with_rule J f)
    unfolding with_rule subformula_count size edge_count owner label edge_of
    rule_is_job p h =
        record {
          states = is.states;
          edges = is.edges;
          subformulas = record { above = (lines_root f).0; below = h };
          nodes = is.nodes;
          owned = is.owned;
          owners = is.owners;
          labels = is.labels;
          ends = is.ends;
          ascending = is.ascending;
          edge_out = is.edge_out;
          operands = lines_operands f p;
        }

    pub rule_accepted : AtomsInRange f → length (lines_of f) ≤ 32 → Accepted (written (with_rule J f))
    rule_accepted p h = written_accepted (with_rule J f) (rule_is_job p h)

    pub rule_decoded : AtomsInRange f → length (lines_of f) ≤ 32 → decode (written (with_rule J f)) ≡ with_rule J f
    rule_decoded p h = decode_written (with_rule J f) (rule_is_job p h)

    pub rule_job_truth :
        (s : ℕ)
        → s < size J
        → Satisfies J.structure f s ↔ Holds (with_rule J f).structure (with_rule J f).formula (subformula_count (with_rule J f) - 1) s
    unfolding with_rule subformula_count size
    rule_job_truth = rule_truth J.structure (total_job J is) f
