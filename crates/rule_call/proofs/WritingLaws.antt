-- The lines as they are written one behind the other. Assumes nothing.
use Prim.Native.Nat.{ℕ, ◌+◌, ◌*◌, ◌<◌, ◌≤◌}
use mathlib.Core.Path.{◌≡◌, sym, ap, ◌∙◌}
use mathlib.Core.List.{List, [], map}
use native.Mathlib.Omega.{arith}
use lib.ListN.{length, length-map, get_or-map}
use Rattle.std.proofs.lemmas.List.{get_or_default}
use Rattle.law.specs.Lists.{tab, flatten}
use Rattle.law.proofs.Lists.{tab_list}
use Rattle.text.specs.Field.{Text}
use Rattle.text.specs.Decimal.{line, Short}
use Rattle.text.proofs.Line.{line_length_lem}
use Rattle.job.specs.Formula.{fields}
use Rattle.job.specs.Job.{subformula}
use Rattle.job.specs.declared.subformula.Subformula.{Subformula}
use Rattle.job.specs.declared.subformula.Subformula.TheVariants.{Atom}
use Rattle.job.proofs.Formula.{fields_length}
use Rattle.rule_text.specs.Lines.{lines_text}
use Rattle.rule_call.specs.Ruled.{ShortLines}

module _ (ls : List Subformula) where
  abbrev pub line_at : ℕ → Text
  line_at k = line (fields (subformula ls k))

  pub line_long : (k : ℕ) → length (line_at k) ≡ 16
  line_long k = line_length_lem (fields (subformula ls k)) ∙ ap (λ n. 5 * n + 1) (fields_length (subformula ls k))

  -- All of them are the rule's lines as bytes.
  pub lines_all : (n : ℕ) → n ≡ length ls → flatten (tab line_at n) ≡ lines_text ls
  unfolding lines_text subformula
  lines_all n e =
      ap flatten
      (tab_list line_at n (map (λ f. line (fields f)) ls) []
      (e ∙ sym (length-map ls (λ f. line (fields f))))
      (λ i l. sym (get_or-map (λ f. line (fields f)) ls i (Atom 0)) ∙ get_or_default _ i _ _ l))

  pub line_fits :
      (out : Text) (k : ℕ) → k < length ls → ShortLines ls → 16 * length ls ≤ length out
      → Short (fields (subformula ls k)) × (16 * k + 5 * length (fields (subformula ls k)) < length out)
  line_fits out k l s h = (s k l, let three = fields_length (subformula ls k) in omega arith)
