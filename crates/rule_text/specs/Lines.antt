-- Document 02 (i): the lines that a rule becomes. "`f | g` becomes not(not f and not g), and `f => g` becomes not(f and not g). In the rule so
-- rewritten, all of a left operand's lines come first, then the right's, then the operator's own, and a line equal to an earlier one is
-- not written again." (iii): "kind 8, EG a, and kind 9, AG a". Assumes nothing.
use Rattle.std.specs.Prelude.{ℕ, suc, Bool, true, false, cond, ◌&&◌, List, [], ◌∷◌, ◌++◌, map, length, ltb, eqb}
use Rattle.law.specs.Lists.{flatten}
use Rattle.text.specs.Field.{Text}
use Rattle.text.specs.Decimal.{line}
use Rattle.job.specs.Job.{Quantifier, for_all, exists}
use Rattle.job.specs.Formula.{fields}
use Rattle.job.specs.declared.subformula.Subformula.{Subformula}
use Rattle.job.specs.declared.subformula.Subformula.TheVariants as kind
use Rattle.rule_text.specs.declared.token.Prefix.{Prefix}
use Rattle.rule_text.specs.declared.token.Prefix.TheVariants.{Not, Ax, Ex, Eg, Ag}
use Rattle.rule_text.specs.declared.token.Operator.{Operator}
use Rattle.rule_text.specs.declared.token.Operator.TheVariants.{And, Or, Implies}
use Rattle.rule_text.specs.Tree.{Tree}
use Rattle.rule_text.specs.Tree as tree

-- A rule in the kinds of a job's subformulas: and is its only binary operator.
pub data Basic : Type 0 where
  atom : ℕ → Basic
  prefix : Prefix → Basic → Basic
  both : Basic → Basic → Basic
  until : Quantifier → Basic → Basic → Basic

abbrev pub negation : Basic → Basic
negation f = prefix Not f

unfoldable pub joining : Operator → Basic → Basic → Basic
joining And f g = both f g
joining Or f g = negation (both (negation f) (negation g))
joining Implies f g = negation (both f (negation g))

unfoldable pub rewritten : Tree → Basic
rewritten (tree.atom j) = atom j
rewritten (tree.prefix p f) = prefix p (rewritten f)
rewritten (tree.binary o f g) = joining o (rewritten f) (rewritten g)
rewritten (tree.until q f g) = until q (rewritten f) (rewritten g)

-- The operator's own line, by the numbers of its operands' lines.
unfoldable pub prefix_line : Prefix → ℕ → Subformula
prefix_line Not a = kind.Not a
prefix_line Ax a = kind.Ax a
prefix_line Ex a = kind.Ex a
prefix_line Eg a = kind.Eg a
prefix_line Ag a = kind.Ag a

unfoldable pub until_line : Quantifier → ℕ → ℕ → Subformula
until_line for_all a b = kind.Au a b
until_line exists a b = kind.Eu a b

-- Two lines are equal: their numbers are.
unfoldable pub equal : List ℕ → List ℕ → Bool
equal [] [] = true
equal [] (n ∷ ns) = false
equal (m ∷ ms) [] = false
equal (m ∷ ms) (n ∷ ns) = eqb m n && equal ms ns

-- The number of the first line that is equal to f, how many lines there are if none is.
unfoldable pub place : Subformula → List Subformula → ℕ
place f [] = 0
place f (g ∷ gs) = cond (equal (fields f) (fields g)) 0 (suc (place f gs))

-- The lines after a rule is written behind earlier ones, and the number of its own line.
pub record Placed : Type 0 where
  pub lines : List Subformula
  pub number : ℕ

-- "a line equal to an earlier one is not written again"
unfoldable pub add : Subformula → List Subformula → Placed
add f ls = let n = place f ls in record { lines = cond (ltb n (length ls)) ls (ls ++ (f ∷ [])); number = n }

-- "all of a left operand's lines come first, then the right's, then the operator's own"
unfoldable pub placed : Basic → List Subformula → Placed
placed (atom j) ls = add (kind.Atom j) ls
placed (prefix p f) ls =
    let v = placed f ls in
    add (prefix_line p v.number) v.lines
placed (both f g) ls =
    let v = placed f ls in
    let w = placed g v.lines in
    add (kind.And v.number w.number) w.lines
placed (until q f g) ls =
    let v = placed f ls in
    let w = placed g v.lines in
    add (until_line q v.number w.number) w.lines

-- The lines of a rule, and as bytes: "kind, a, b".
unfoldable pub lines_of : Tree → List Subformula
lines_of f = (placed (rewritten f) []).lines

unfoldable pub lines_text : List Subformula → Text
lines_text ls = flatten (map (λ f. line (fields f)) ls)
