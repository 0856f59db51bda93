-- What is printed, from what the call answers and leaves in the bytes behind the first line. Assumes nothing.
use Prim.Native.Nat.{ℕ, ◌+◌, ◌*◌, ◌<◌, ◌≤◌}
use mathlib.Core.Path.{◌≡◌, refl, ap, ap₂, ◌∙◌}
use mathlib.Core.Bool.{Bool}
use mathlib.Core.List.{List, [], ◌∷◌, ◌++◌}
use mathlib.Core.Option as opt
use native.Mathlib.Omega.{arith}
use borrow.Author.Tests.{leb-true}
use lib.ListN.{length, take, drop, get_or}
use lib.Seq.{sets, sets-eq, length-sets, take-add, take_at, drop_at}
use lib.Dec.{leb}
use Rattle.law.specs.Lists.{every}
use Rattle.text.specs.Field.{Text}
use Rattle.text.specs.Decimal.{line, Short}
use Rattle.text.proofs.Line.{line_length_lem}
use Rattle.job.specs.Answer.{Answer, accepted}
use Rattle.job.specs.Question.{Question, of_call, refusal}
use Rattle.job.proofs.QuestionLaws.{by_refusal, answered_none, answered_some, refusal_has}
use Rattle.rule_text.specs.RuleCall.{rule_questions, rule_answer, rule_buffer}
use Rattle.rule_text.proofs.RuleCallLaws.{rule_accepted_only, rule_accepted_when}
use Rattle.rule_output.specs.RuleOutput.{buffer, typed, number_told, lines_told, rule_output}

-- The call's numbers are small.
module _ (x : Text) (b : List ℕ) where
  abbrev Small : Answer → Type 0
  Small a = (number_told a ≤ 23) × (lines_told a ≤ 32)

  is_small : Question → Bool
  is_small q = leb q.number 23

  accepted_small : (own : List ℕ) → rule_answer x b ≡ accepted own → Small (rule_answer x b)
  unfolding number_told lines_told
  accepted_small own e =
      let limits = rule_accepted_only x b own e in
      let few = limits.few in
      let told = rule_accepted_when x b limits.tree limits.means limits.buffer_size limits.text_size few in
      rw told.0 (omega arith, few)

  refused_small : (q : Question) → refusal (rule_questions x b) ≡ opt.some q → Small (rule_answer x b)
  unfolding rule_answer rule_questions every is_small of_call number_told lines_told
  refused_small q e =
      let few = leb-true q.number 23 (refusal_has is_small (rule_questions x b) q refl e) in
      rw (answered_some (rule_questions x b) _ _ q e) (few, omega arith)

  pub answer_small : Small (rule_answer x b)
  unfolding rule_answer
  answer_small =
      by_refusal (rule_questions x b) (λ none. accepted_small _ (answered_none (rule_questions x b) _ _ none)) refused_small

-- The first line written over the bytes, and what stands behind it.
first_behind :
    (first out : Text) (k : ℕ)
    → length first ≡ 11
    → 11 ≤ length out
    → take (11 + k) (sets out 0 first) ≡ first ++ take k (drop 11 out)
first_behind first out k long room =
    let over : sets out 0 first ≡ first ++ drop 11 out = rw long at (sets-eq first out 0 (omega arith)) in
    ap (take (11 + k)) over
    ∙ take-add 11 k (first ++ drop 11 out)
    ∙ ap₂ (λ r s. r ++ take k s) (take_at first (drop 11 out) 11 long) (drop_at first (drop 11 out) 11 long)

-- The call was made on the typed text, with the bytes behind the first line as its buffer, and these are the two numbers.
pub record Called (x out ns : Text) : Type 0 where
  pub numbers_are : ns ≡ number_told (rule_answer (typed x) buffer) ∷ lines_told (rule_answer (typed x) buffer) ∷ []
  pub left : drop 11 out ≡ rule_buffer (typed x) buffer
  pub long : length out ≡ 523

pub called :
    (x y out ns : Text) (told : Answer)
    → y ≡ typed x
    → told ≡ rule_answer y buffer
    → drop 11 out ≡ rule_buffer y buffer
    → ns ≡ number_told told ∷ lines_told told ∷ []
    → length out ≡ 523
    → Called x out ns
called x y out ns told is_typed answer left said long =
    record {
      numbers_are = said ∙ ap (λ a. number_told a ∷ lines_told a ∷ []) (answer ∙ ap (λ t. rule_answer t buffer) is_typed);
      left = left ∙ ap (λ t. rule_buffer t buffer) is_typed;
      long = long;
    }

module _ (x out ns : Text) (c : Called x out ns) where
  lines_are : get_or ns 1 0 ≡ lines_told (rule_answer (typed x) buffer)
  lines_are = ap (λ l. get_or l 1 0) c.numbers_are

  pub numbers_fit : Short ns × (0 + 5 * length ns < length out)
  unfolding Short
  numbers_fit =
      let small = answer_small (typed x) buffer in
      rw (c.numbers_are, c.long) ((omega arith, (omega arith, tt)), omega arith)

  pub lines_few : get_or ns 1 0 ≤ 32
  lines_few = rw lines_are (answer_small (typed x) buffer).1

  pub output_right :
      (after : Text)
      → after ≡ sets out 0 (line ns)
      → (take (11 + 16 * get_or ns 1 0) after ≡ rule_output x) × (11 + 16 * get_or ns 1 0 ≤ length after)
  unfolding rule_output
  output_right after written =
      let first : length (line ns) ≡ 11 = line_length_lem ns ∙ ap (λ l. 5 * length l + 1) c.numbers_are in
      let room : length after ≡ 523 = ap length written ∙ length-sets out 0 (line ns) ∙ c.long in
      let few = lines_few in (
        ap (take (11 + 16 * get_or ns 1 0)) written
            ∙ first_behind (line ns) out (16 * get_or ns 1 0) first (omega (arith, c.long))
            ∙ ap₂ (λ l r. l ++ r) (ap line c.numbers_are) (ap₂ (λ n b. take (16 * n) b) lines_are c.left),
        omega arith,
      )
