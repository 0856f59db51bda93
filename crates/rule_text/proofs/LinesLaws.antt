-- The lines of a rule: operands are smaller numbers, no line is equal to an earlier one, and the last line is the whole rule's. Assumes nothing.
use Prim.Native.Nat.{ℕ, suc, ◌-◌, ◌<◌, ◌≤◌}
use mathlib.Core.Path.{◌≡◌}
use mathlib.Core.List.{[]}
use native.Mathlib.Nat.{not-suc-le-zero}
use native.Mathlib.Omega.{arith}
use lib.ListN.{length}
use Rattle.job.specs.Job.{subformula}
use Rattle.job.specs.Rule.{InRange}
use Rattle.job.specs.Written.{Operands}
use Rattle.job.specs.declared.subformula.Subformula.{Subformula}
use Rattle.job.specs.declared.subformula.Subformula.TheVariants.{Atom, Not, And, Ax, Ex, Au, Eu, Eg, Ag}
use Rattle.rule_text.specs.declared.token.Operator.{Operator}
use Rattle.rule_text.specs.declared.token.Operator.TheVariants as operator
use Rattle.rule_text.specs.Tree.{Tree, AtomsInRange}
use Rattle.rule_text.specs.Tree as tree
use Rattle.rule_text.specs.Lines.{Basic, atom, prefix, both, until, joining, rewritten, placed, lines_of}
use Rattle.rule_text.proofs.Says.{says, Ranged}
use Rattle.rule_text.proofs.PlacedLaws.{Yields, Atoms, EndsWith, ends_with_yields, ends_with_root, placed_ends_with}

-- The lines of a rule alone: none stand before them.
module _ (P : ℕ → Type 0) (c : Basic) (p : Atoms P c) where
  alone : EndsWith P c []
  alone = placed_ends_with P c [] p (λ k l. absurd (not-suc-le-zero l))

  alone_yields : Yields P c [] (placed c []).lines (placed c []).number
  alone_yields = ends_with_yields P c [] alone

  alone_root : length (placed c []).lines ≡ suc (placed c []).number
  alone_root = ends_with_root P c [] alone (λ k l. absurd (not-suc-le-zero l))

-- For what does not depend on the atoms: any will do.
abbrev AnyAtom : ℕ → Type 0
AnyAtom j = Unit {0}

any_atoms : (c : Basic) → Atoms AnyAtom c
unfolding Atoms
any_atoms (atom j) = tt
any_atoms (prefix p f) = any_atoms f
any_atoms (both f g) = (any_atoms f, any_atoms g)
any_atoms (until q f g) = (any_atoms f, any_atoms g)

-- What a rule's last line says is the rule.
pub placed_says : (c : Basic) → says (placed c []).lines (placed c []).number ≡ c
placed_says c = (alone_yields AnyAtom c (any_atoms c)).shown

module _ (f : Tree) where
  pub lines_distinct : (i j : ℕ) → i < j → j < length (lines_of f) → subformula (lines_of f) i ≡ subformula (lines_of f) j → ⊥
  unfolding lines_of
  lines_distinct =
      (alone_yields AnyAtom (rewritten f) (any_atoms (rewritten f))).continues.distinct (λ i j l b e. not-suc-le-zero b)

  lines_length : length (lines_of f) ≡ suc (placed (rewritten f) []).number
  unfolding lines_of
  lines_length = alone_root AnyAtom (rewritten f) (any_atoms (rewritten f))

  pub lines_root : (1 ≤ length (lines_of f)) × ((placed (rewritten f) []).number ≡ length (lines_of f) - 1)
  lines_root = omega (arith, lines_length)

-- The atoms of the rewritten rule are the rule's.
abbrev UpTo15 : ℕ → Type 0
UpTo15 j = j ≤ 15

joined_atoms : (o : Operator) (f g : Basic) → Atoms UpTo15 f → Atoms UpTo15 g → Atoms UpTo15 (joining o f g)
unfolding joining Atoms
joined_atoms operator.And f g p q = (p, q)
joined_atoms operator.Or f g p q = (p, q)
joined_atoms operator.Implies f g p q = (p, q)

rewritten_atoms : (f : Tree) → AtomsInRange f → Atoms UpTo15 (rewritten f)
unfolding rewritten Atoms AtomsInRange
rewritten_atoms (tree.atom j) p = p
rewritten_atoms (tree.prefix o f) p = rewritten_atoms f p
rewritten_atoms (tree.binary o f g) (p, q) = joined_atoms o (rewritten f) (rewritten g) (rewritten_atoms f p) (rewritten_atoms g q)
rewritten_atoms (tree.until o f g) (p, q) = (rewritten_atoms f p, rewritten_atoms g q)

ranged_operands : (k : ℕ) (f : Subformula) → Ranged UpTo15 k f → Operands k f
unfolding Ranged InRange
ranged_operands k (Atom j) o = o
ranged_operands k (Not a) o = o
ranged_operands k (And a b) o = o
ranged_operands k (Ax a) o = o
ranged_operands k (Ex a) o = o
ranged_operands k (Au a b) (o, p) = (p, o, omega arith)
ranged_operands k (Eu a b) (o, p) = (p, o, omega arith)
ranged_operands k (Eg a) o = (o, tt, omega arith)
ranged_operands k (Ag a) o = (o, tt, omega arith)

pub lines_operands : (f : Tree) → AtomsInRange f → (k : ℕ) → k < length (lines_of f) → Operands k (subformula (lines_of f) k)
unfolding lines_of
lines_operands f p k l =
    ranged_operands k _ ((alone_yields UpTo15 (rewritten f) (rewritten_atoms f p)).continues.ordered k l)
