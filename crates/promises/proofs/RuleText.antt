-- What the contract of rule promises is what request (i) promises. Assumes nothing.
use Prim.Native.Nat.{ℕ, ◌-◌, ◌*◌, ◌≤◌}
use mathlib.Core.Path.{◌≡◌, refl, sym, ap, subst, ◌∙◌}
use mathlib.Core.Bool.{true}
use mathlib.Core.List.{List, [], ◌∷◌, ◌++◌}
use mathlib.Core.Logic.{◌↔◌}
use lib.ListN.{length, take, drop}
use lib.Seq.{take-append_seam}
use lib.Dec.{ltb, eqb}
use borrow.Author.Tests.{eqb-true}
use Rattle.law.specs.Lists.{every}
use Rattle.law.proofs.Bool.{and_right}
use Rattle.text.specs.Field.{Text}
use Rattle.job.specs.Job.{Job, subformula_count, decode}
use Rattle.job.specs.Answer.{Answer, refused}
use Rattle.job.specs.Questions.{Accepted}
use Rattle.job.specs.Written.{IsJob, written}
use Rattle.job.specs.Question.{of_call, is_own}
use Rattle.job.proofs.QuestionLaws.{by_refusal, answered_none, answered_some, refusal_has}
use Rattle.ctl.specs.Truth.{Holds}
use Rattle.rule_text.specs.Tree.{Tree, Satisfies}
use Rattle.rule_text.specs.Grammar.{Means}
use Rattle.rule_text.specs.Lines.{lines_of, lines_text}
use Rattle.rule_text.specs.RuleCall.{rule_lines, rule_questions, rule_answer, rule_buffer, InLimits}
use Rattle.rule_text.specs.RuleJob.{with_rule, front_lines}
use Rattle.rule_text.proofs.Reading.{means_atoms}
use Rattle.rule_text.proofs.LinesLaws.{lines_operands, lines_distinct}
use Rattle.rule_text.proofs.RuleJob.{rule_written, rule_accepted, rule_decoded, rule_job_truth}
use Rattle.rule_text.proofs.RuleCallLaws.{lines_text_length, rule_accepted_when, rule_accepted_only, rule_refused_stays, rule_same}
use Rattle.rule_output.specs.RuleOutput.{buffer, typed}
use Rattle.rule_output.proofs.PrintedLaws.{accepted_output, refused_output}
use Rattle.promises.specs.CallContracts.{Loan, Rules, PrintsRule}
use Rattle.promises.specs.Demand1.{AnswersBy, reads, refuses}
use Rattle.promises.specs.Demand2.{Accepts}
use Rattle.promises.proofs.Contracts.{rules_defined, prints_rule_defined}
use Rattle.promises.specs.RuleText.{LinesWritten, LinesInOrder, job_with, InJob, RulePrinted, as_refused, as_lines}

module _ (l : Loan) (x : Text) (b : List ℕ) where
  module _ (a : Answer) (u : List ℕ) (happens : Rules l x b a u) where
    told : a ≡ rule_answer x b
    told = (rules_defined l x b a u happens).0

    left : u ≡ rule_buffer x b
    left = (rules_defined l x b a u happens).1

    pub rules_first : AnswersBy (rule_questions x b) 1 (length (rule_lines x) ∷ []) a
    unfolding rule_answer
    rules_first =
        let qs = rule_questions x b in
        let own = length (rule_lines x) ∷ [] in
        by_refusal qs
        (λ e. reads e (told ∙ answered_none qs 1 own e))
        (λ q e. refuses q e (told ∙ answered_some qs 1 own q e))

    pub rules_written : (is : InLimits x b) → LinesWritten is.tree b a u
    rules_written is =
        let (answer, after) = rule_accepted_when x b is.tree is.means is.buffer_size is.text_size is.few in
        record { told = told ∙ answer; left = left ∙ after }

    pub rules_exact : Accepts a ↔ InLimits x b
    rules_exact = (
      (λ is. rule_accepted_only x b is.own (sym told ∙ is.told)),
      (λ is. record { own = length (lines_of is.tree) ∷ []; told = (rules_written is).told }),
    )

  pub rules_stay : (number line others : ℕ) (u : List ℕ) → Rules l x b (refused number line others) u → u ≡ b
  rules_stay number line others u happens =
      let (told, left) = rules_defined l x b (refused number line others) u happens in
      left ∙ rule_refused_stays x b number line others (sym told)

pub means_in_order : (x : Text) (f : Tree) → Means x f → LinesInOrder f
means_in_order x f is = record { operands = lines_operands f (means_atoms x f is); differ = lines_distinct f }

-- The lines put into a job.
module _ (b : List ℕ) (a : Answer) (u : List ℕ) (x : Text) (f : Tree) (is : Means x f) (few : length (lines_of f) ≤ 32) (lines : LinesWritten f b a u) (J : Job) (job : IsJob J) where
  text_written : job_with J f u ≡ written (with_rule J f)
  text_written =
      let long = lines_text_length (lines_of f) in
      ap (λ part. front_lines J (length (lines_of f)) ++ part)
      (ap (take (16 * length (lines_of f))) lines.left
      ∙ subst (λ n. take n (lines_text (lines_of f) ++ drop (16 * length (lines_of f)) b) ≡ lines_text (lines_of f)) long (take-append_seam _ _))
      ∙ sym (rule_written J f)

  pub lines_in_job : InJob J f u
  lines_in_job =
      let atoms = means_atoms x f is in
      let e = sym text_written in
      let described = ap decode text_written ∙ rule_decoded J f job atoms few in
      record {
        accepted_text = subst Accepted e (rule_accepted J f job atoms few);
        described = described;
        truth = λ s l. subst (λ K. Satisfies J.structure f s ↔ Holds K.structure K.formula (subformula_count K - 1) s) (sym described) (rule_job_truth J f job s l);
      }

pub rules_in_job :
    (l : Loan) (x : Text) (b : List ℕ) (a : Answer) (u : List ℕ)
    → Rules l x b a u
    → (is : InLimits x b) (J : Job)
    → IsJob J
    → InJob J is.tree u
rules_in_job l x b a u happens is = lines_in_job b a u x is.tree is.means is.few (rules_written l x b a u happens is)

pub rules_agree :
    (x y : Text) (f : Tree)
    → Means x f
    → Means y f
    → length x ≤ 512
    → length y ≤ 512
    → (l m : Loan) (b : List ℕ) (a c : Answer) (u w : List ℕ)
    → Rules l x b a u
    → Rules m y b c w
    → (a ≡ c) × (u ≡ w)
rules_agree x y f is same short few l m b a c u w first second =
    let (told, left) = rule_same x y f is same short few b in
    let (here, after) = rules_defined l x b a u first in
    let (there, later) = rules_defined m y b c w second in
    (here ∙ told ∙ sym there, after ∙ left ∙ sym later)

-- What the program prints.
own_lines : (x : Text) (b : List ℕ) → every is_own (rule_questions x b) ≡ true
unfolding rule_questions every is_own of_call
own_lines x b = refl

pub prints_rule :
    (l : Loan) (x : Text) (said : List ℕ) → PrintsRule l x said → RulePrinted x said
unfolding rule_answer is_own
prints_rule l x said prints =
    let is = prints_rule_defined l x said prints in
    let qs = rule_questions (typed x) buffer in
    let own = length (rule_lines (typed x)) ∷ [] in
    by_refusal qs
    (λ e.
    let limits = rule_accepted_only (typed x) buffer own (answered_none qs 1 own e) in
    as_lines limits (is ∙ accepted_output x limits.tree limits.means limits.text_size limits.few))
    (λ q e.
    let zero = eqb-true q.line 0 (and_right (ltb 0 q.number) (eqb q.line 0) (refusal_has is_own qs q (own_lines (typed x) buffer) e)) in
    let told = answered_some qs 1 own q e ∙ ap (λ i. refused q.number i 1) zero in
    as_refused q.number told (is ∙ refused_output x q.number (told, rule_refused_stays (typed x) buffer q.number 0 1 told)))
