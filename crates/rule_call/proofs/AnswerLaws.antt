-- The answer and the buffer, question by question, by the lines that were read. Assumes nothing.
use Prim.Native.Nat.{ℕ, ◌<◌, ◌≤◌}
use mathlib.Core.Path.{◌≡◌, refl, sym, ap, ◌∙◌}
use mathlib.Core.List.{List, [], ◌∷◌, map}
use native.Mathlib.Omega.{arith}
use lib.ListN.{length, length-map}
use lib.Seq.{sets}
use lib.Dec.{leb}
use borrow.Author.Tests.{leb-true, leb-false}
use Rattle.std.proofs.Common.{Option, None, Ok, Err}
use Rattle.law.proofs.Bool.{split}
use Rattle.text.specs.Field.{Text}
use Rattle.job.specs.Answer.{accepted, refused}
use Rattle.job.specs.Refused.{number_of, line_of_refusal}
use Rattle.job.specs.declared.refusal.Refusal.{Refusal}
use Rattle.job.specs.declared.refusal.Refusal.TheVariants.{NoRule}
use Rattle.job.specs.Formula.{fields}
use Rattle.job.specs.declared.subformula.Subformula.{Subformula}
use Rattle.job.proofs.Formula.{fields_short}
use Rattle.rule_text.specs.Tree.{Tree}
use Rattle.rule_text.specs.Lines.{equal, lines_of, lines_text}
use Rattle.rule_text.specs.RuleCall.{rule_answer, rule_buffer}
use Rattle.rule_text.proofs.AddLaws.{equal_self, same_line}
use Rattle.rule_text.proofs.KeptLaws.{kept_lines, kept_many}
use Rattle.rule_text.proofs.LinesLaws.{lines_operands}
use Rattle.rule_text.proofs.Reading.{reading_means, means_atoms}
use Rattle.rule_text.proofs.RuleCallLaws.{RefusedWith, rule_22_grammar, rule_23, rule_ok}
use Rattle.rule_call.specs.Ruled.{ruled_told, ShortLines, KeepsTree, ReadsRule}

-- The call answers by this refusal and leaves the buffer.
pub refused_told :
    (x : Text) (buffer : List ℕ) (why : Refusal)
    → line_of_refusal why ≡ 0
    → RefusedWith x buffer (number_of why)
    → (ruled_told (Err why) ≡ rule_answer x buffer) × (buffer ≡ rule_buffer x buffer)
unfolding ruled_told
refused_told x buffer why none (told, left) = (ap (λ l. refused (number_of why) l 1) none ∙ sym told, sym left)

-- The text is no rule.
pub no_tree :
    (x : Text) (buffer : List ℕ)
    → length buffer ≡ 512
    → (r : Option (List (List ℕ)))
    → r ≡ None
    → ReadsRule x r
    → (ruled_told (Err NoRule) ≡ rule_answer x buffer) × (buffer ≡ rule_buffer x buffer)
unfolding ReadsRule
no_tree x buffer b r none reads = refused_told x buffer NoRule refl (rule_22_grammar x buffer b (rw none at reads))

-- Lines with the same numbers are the same.
same_fields : (f g : Subformula) → fields f ≡ fields g → f ≡ g
same_fields f g e = sym (same_line f g (ap (λ ns. equal ns (fields g)) e ∙ equal_self (fields g)))

same_lines : (ls ms : List Subformula) → map fields ls ≡ map fields ms → ls ≡ ms
same_lines [] [] e = cc
same_lines [] (g ∷ ms) e = cc
same_lines (f ∷ ls) [] e = cc
same_lines (f ∷ ls) (g ∷ ms) e =
    let first : fields f ≡ fields g = cc in
    let behind : map fields ls ≡ map fields ms = cc in
    let same = same_fields f g first in
    let later = same_lines ls ms behind in
    cc

-- The text has a tree, and its lines are kept.
module _ (x : Text) (f : Tree) (m : List (List ℕ)) (k : KeepsTree x f m) where
  -- all of them, or 33
  by_count :
      {A : Type 0}
      → (length (lines_of f) ≤ 32 → length m ≡ length (lines_of f) → A)
      → (32 < length (lines_of f) → length m ≡ 33 → A)
      → A
  by_count all more =
      split (leb (length (lines_of f)) 32)
      (λ t. let l = leb-true (length (lines_of f)) 32 t in all l (ap length (k.lines ∙ kept_lines f l) ∙ length-map (lines_of f) fields))
      (λ t. let l = leb-false (length (lines_of f)) 32 t in more l (ap length k.lines ∙ kept_many f l))

  many : 32 < length m → 32 < length (lines_of f)
  many h = by_count (λ l e. omega arith) (λ l e. l)

  few : length m ≤ 32 → length (lines_of f) ≤ 32
  few h = by_count (λ l e. l) (λ l e. omega arith)

  pub too_many : (buffer : List ℕ) → length buffer ≡ 512 → length x ≤ 512 → 32 < length m → RefusedWith x buffer 23
  too_many buffer b l h = rule_23 x buffer b l f k.read (many h)

  -- The lines themselves are lent.
  module _ (ls : List Subformula) (lent : map fields ls ≡ m) (h : length m ≤ 32) where
    lines_are : ls ≡ lines_of f
    lines_are = same_lines ls (lines_of f) (lent ∙ k.lines ∙ kept_lines f (few h))

    pub lines_count : length m ≡ length ls
    lines_count = ap length (sym lent) ∙ length-map ls fields

    pub lines_short : ShortLines ls
    lines_short =
        rw lines_are
        (λ i l.
        let room : length (lines_of f) ≤ 32 = few h in
        fields_short i _ (omega arith) (lines_operands f (means_atoms x f (reading_means x f k.read)) i l))

    pub accepted_told :
        (buffer after : List ℕ) (n : ℕ)
        → length buffer ≡ 512
        → length x ≤ 512
        → n ≡ length m
        → after ≡ sets buffer 0 (lines_text ls)
        → (ruled_told (Ok n) ≡ rule_answer x buffer) × (after ≡ rule_buffer x buffer)
    unfolding ruled_told
    accepted_told buffer after n b l e w =
        let (told, left) = rule_ok x buffer b l f k.read (few h) in
        (ap (λ i. accepted (i ∷ [])) (e ∙ lines_count ∙ ap length lines_are) ∙ sym told, w ∙ ap (λ (gs : List Subformula). sets buffer 0 (lines_text gs)) lines_are ∙ sym left)
