-- What the call's result says in numbers, and what its leaves promise. Assumes nothing.
use Rattle.std.specs.Prelude.{ℕ, ◌<◌, ◌≡◌, List, [], ◌∷◌, length, Option, Some, None, Result}
use Rattle.std.proofs.Math.Option as opt
use Rattle.text.specs.Field.{Text}
use Rattle.text.specs.Decimal.{Short}
use Rattle.job.specs.Answer.{Answer}
use Rattle.job.specs.Refused.{told}
use Rattle.job.specs.Formula.{fields}
use Rattle.job.specs.Job.{subformula}
use Rattle.job.specs.declared.refusal.Refusal.{Refusal}
use Rattle.job.specs.declared.subformula.Subformula.{Subformula}
use Rattle.rule_text.specs.Tree.{Tree}
use Rattle.rule_text.specs.Lines.{rewritten}
use Rattle.rule_text.specs.Kept.{kept}
use Rattle.rule_text.specs.Parse.{reading}

unfoldable pub ruled_told : Result ℕ Refusal → Answer
ruled_told r = told (λ lines. lines ∷ []) 1 r

-- Each number of each line has at most five digits.
abbrev pub ShortLines : List Subformula → Type 0
ShortLines ls = (k : ℕ) → k < length ls → Short (fields (subformula ls k))

-- The text has the tree f, and its lines are kept.
pub record KeepsTree (x : Text) (f : Tree) (m : List (List ℕ)) : Type 0 where
  pub read : reading x ≡ opt.some f
  pub lines : m ≡ (kept (rewritten f) []).lines

-- The text was read as a rule, or is none.
unfoldable pub ReadsRule : Text → Option (List (List ℕ)) → Type 0
ReadsRule x (Some m) = (f : Tree) × KeepsTree x f m
ReadsRule x None = reading x ≡ opt.none
