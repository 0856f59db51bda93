-- What the call that reads rule text comes to: question by question its answer and the lent buffer afterwards, that it accepts exactly the
-- texts that the grammar derives within the limits, and that texts of one tree come to the same. Assumes nothing.
use Prim.Native.Nat.{ℕ, ◌+◌, ◌*◌, ◌<◌, ◌≤◌}
use mathlib.Core.Path.{◌≡◌, refl, sym, ◌∙◌}
use mathlib.Core.Bool.{true, false, ◌&&◌}
use mathlib.Core.List.{List, [], ◌∷◌, ◌++◌}
use mathlib.Core.Option.{Option, Option-elim}
use mathlib.Core.Option as opt
use native.Mathlib.Omega.{arith}
use borrow.Author.Tests.{eqb-true, leb-true, eq-eqb, ne_eqb, le-leb, lt-leb}
use lib.ListN.{length, drop, length-append}
use lib.Seq.{sets, sets-eq}
use lib.Dec.{leb, eqb}
use Rattle.law.specs.Lists.{every, flatten}
use Rattle.law.proofs.Bool.{and_intro, and_left, and_right, and_no_left, and_no_right, clash}
use Rattle.text.specs.Field.{Text}
use Rattle.text.specs.Decimal.{line}
use Rattle.text.proofs.Line.{line_length_lem}
use Rattle.job.specs.Formula.{fields}
use Rattle.job.specs.Answer.{accepted, refused}
use Rattle.job.specs.Question.{of_call, all_yes, refusal}
use Rattle.job.specs.declared.subformula.Subformula.{Subformula}
use Rattle.job.proofs.Formula.{fields_length}
use Rattle.job.proofs.QuestionLaws.{answered_none, answered_some, accepted_none, afterwards_none, afterwards_some, refused_stays, all_answered_yes}
use Rattle.rule_text.specs.Tree.{Tree}
use Rattle.rule_text.specs.Grammar.{Means}
use Rattle.rule_text.specs.Lines.{lines_of, lines_text}
use Rattle.rule_text.specs.Parse.{reading}
use Rattle.rule_text.specs.RuleCall.{rule_lines, is_rule, rule_questions, rule_answer, rule_buffer, InLimits}
use Rattle.rule_text.proofs.Reading.{reading_means, means_reading}

-- A line has three fields: 16 bytes.
pub lines_text_length : (ls : List Subformula) → length (lines_text ls) ≡ 16 * length ls
unfolding lines_text flatten
lines_text_length [] = refl
lines_text_length (f ∷ ls) =
    omega (arith, length-append (line (fields f)) (lines_text ls), line_length_lem (fields f), fields_length f, lines_text_length ls)

-- A text that is read as a tree is a rule with that tree's lines.
module _ (x : Text) (f : Tree) (is : reading x ≡ opt.some f) where
  read_rule : length x ≤ 512 → (leb (length x) 512 && is_rule x) ≡ true
  unfolding is_rule Option-elim
  read_rule short = and_intro (leb (length x) 512) _ (le-leb (length x) 512 short) (rw is)

  read_lines : rule_lines x ≡ lines_of f
  unfolding rule_lines Option-elim
  read_lines = rw is

rule_read : (x : Text) → is_rule x ≡ true → (f : Tree) × (reading x ≡ opt.some f)
unfolding is_rule Option-elim
rule_read x is = by (reading x) refl
  where
    by : (r : Option Tree) → reading x ≡ r → (f : Tree) × (reading x ≡ opt.some f)
    by opt.none e = clash (is_rule x) is (rw e)
    by (opt.some f) e = (f, e)

module _ (x : Text) (buffer : List ℕ) where
  -- The call is refused with this number, and the buffer stays.
  abbrev pub RefusedWith : ℕ → Type 0
  RefusedWith number = (rule_answer x buffer ≡ refused number 0 1) × (rule_buffer x buffer ≡ buffer)

  refused_with : (number : ℕ) → refusal (rule_questions x buffer) ≡ opt.some (of_call number false) → RefusedWith number
  unfolding rule_answer rule_buffer of_call
  refused_with number e =
      (answered_some (rule_questions x buffer) _ _ _ e, afterwards_some (rule_questions x buffer) _ _ _ e)

  -- One question after the other.
  pub rule_21 : (length buffer ≡ 512 → ⊥) → RefusedWith 21
  unfolding rule_questions refusal of_call
  rule_21 n = refused_with 21 (simp (ne_eqb (length buffer) 512 n))

  module _ (size : length buffer ≡ 512) where
    no_rule : (leb (length x) 512 && is_rule x) ≡ false → RefusedWith 22
    unfolding rule_questions refusal of_call
    no_rule n = refused_with 22 (simp (eq-eqb (length buffer) 512 size, n))

    pub rule_22_long : 512 < length x → RefusedWith 22
    rule_22_long l = no_rule (and_no_left _ (is_rule x) (lt-leb (length x) 512 l))

    pub rule_22_grammar : reading x ≡ opt.none → RefusedWith 22
    unfolding is_rule Option-elim
    rule_22_grammar e = no_rule (and_no_right (leb (length x) 512) _ (rw e))

    module _ (short : length x ≤ 512) (f : Tree) (is : reading x ≡ opt.some f) where
      pub rule_23 : 32 < length (lines_of f) → RefusedWith 23
      unfolding rule_questions refusal of_call
      rule_23 l =
          refused_with 23
          (simp (eq-eqb (length buffer) 512 size, read_rule x f is short, read_lines x f is, lt-leb (length (lines_of f)) 32 l))

      pub rule_ok :
          length (lines_of f) ≤ 32
          → (rule_answer x buffer ≡ accepted (length (lines_of f) ∷ [])) × (rule_buffer x buffer ≡ sets buffer 0 (lines_text (lines_of f)))
      unfolding rule_answer rule_buffer rule_questions refusal of_call
      rule_ok l =
          let none : refusal (rule_questions x buffer) ≡ opt.none =
          simp (eq-eqb (length buffer) 512 size, read_rule x f is short, read_lines x f is, le-leb (length (lines_of f)) 32 l) in
          rw (← (read_lines x f is))
          (answered_none (rule_questions x buffer) _ _ none, afterwards_none (rule_questions x buffer) _ _ none)

  -- "Within the limits below, a text is accepted exactly when the grammar derives it"; "Bytes after the lines stay."
  pub rule_accepted_when :
      (f : Tree)
      → Means x f
      → length buffer ≡ 512
      → length x ≤ 512
      → length (lines_of f) ≤ 32
      → (rule_answer x buffer ≡ accepted (length (lines_of f) ∷ []))
      × (rule_buffer x buffer ≡ lines_text (lines_of f) ++ drop (16 * length (lines_of f)) buffer)
  rule_accepted_when f m size short few =
      let (answer, left) = rule_ok size short f (means_reading x f m) few in
      let long : 0 + length (lines_text (lines_of f)) ≡ 16 * length (lines_of f) = omega (arith, lines_text_length (lines_of f)) in
      (answer, left ∙ rw long at (sets-eq (lines_text (lines_of f)) buffer 0 (omega arith)))

  pub rule_accepted_only : (own : List ℕ) → rule_answer x buffer ≡ accepted own → InLimits x buffer
  unfolding rule_answer rule_questions all_yes every of_call
  rule_accepted_only own e =
      let all = all_answered_yes (rule_questions x buffer) (accepted_none (rule_questions x buffer) _ _ own (sym e)) in
      let rule = leb (length x) 512 && is_rule x in
      let lines = leb (length (rule_lines x)) 32 in
      let later = and_right (eqb (length buffer) 512) (rule && (lines && true)) all in
      let second = and_left rule (lines && true) later in
      let third = and_left lines true (and_right rule (lines && true) later) in
      let (f, is) = rule_read x (and_right (leb (length x) 512) (is_rule x) second) in
      record {
        tree = f;
        means = reading_means x f is;
        buffer_size = eqb-true (length buffer) 512 (and_left (eqb (length buffer) 512) (rule && (lines && true)) all);
        text_size = leb-true (length x) 512 (and_left (leb (length x) 512) (is_rule x) second);
        few = rw (read_lines x f is) at (leb-true (length (rule_lines x)) 32 third);
      }

  pub rule_refused_stays : (number line others : ℕ) → rule_answer x buffer ≡ refused number line others → rule_buffer x buffer ≡ buffer
  unfolding rule_answer rule_buffer
  rule_refused_stays number line others e = refused_stays (rule_questions x buffer) _ _ _ _ number line others (sym e)

-- Two texts of one tree.
pub rule_same :
    (x y : Text) (f : Tree)
    → Means x f
    → Means y f
    → length x ≤ 512
    → length y ≤ 512
    → (buffer : List ℕ)
    → (rule_answer x buffer ≡ rule_answer y buffer) × (rule_buffer x buffer ≡ rule_buffer y buffer)
unfolding rule_answer rule_buffer rule_questions
rule_same x y f m n short short' buffer =
    let is = means_reading x f m in
    let is' = means_reading y f n in
    rw (read_rule x f is short, read_rule y f is' short', read_lines x f is, read_lines y f is') (refl, refl)
