-- Document 02 (i): the grammar of rule text. "Prefix `!`, `AX`, `EX` bind tightest. Then come `&`, `|`, `=>`, weaker in this order; `&` and
-- `|` group to the left, `=>` to the right. `A[f U g]`, `E[f U g]` and `(f)` are closed forms." (iii): "`EG` and `AG` as prefixes like `AX`".
-- Assumes nothing.
use Rattle.std.specs.Prelude.{ℕ, suc, ◌≤◌, Bool, true, false, cond, List, [], ◌∷◌, ◌++◌}
use Rattle.text.specs.Field.{Text}
use Rattle.job.specs.Job.{Quantifier, for_all, exists}
use Rattle.rule_text.specs.declared.token.Prefix.{Prefix as PrefixOperator}
use Rattle.rule_text.specs.declared.token.Operator.{Operator as BinaryOperator}
use Rattle.rule_text.specs.declared.token.Operator.TheVariants.{And, Or, Implies}
use Rattle.rule_text.specs.declared.token.Token.{Token}
use Rattle.rule_text.specs.declared.token.Token.TheVariants.{Atom, Prefix, Operator}
use Rattle.rule_text.specs.Tree.{Tree, atom, prefix, binary, until}
use Rattle.rule_text.specs.Token.{Spelled, for_all_paths, on_some_path, until_mark, left_parenthesis, right_parenthesis, left_bracket, right_bracket}

-- How strongly a binary operator binds.
unfoldable pub strength : BinaryOperator → ℕ
strength And = 3
strength Or = 2
strength Implies = 1

-- The levels of the grammar, from a whole rule to what binds tightest.
abbrev pub whole_rule : ℕ
whole_rule = 1

abbrev pub tightest : ℕ
tightest = 4

unfoldable pub groups_left : BinaryOperator → Bool
groups_left And = true
groups_left Or = true
groups_left Implies = false

-- The level of its operands: its own on the side to which it groups, and a tighter one on the other.
unfoldable pub left_level : BinaryOperator → ℕ
left_level o = cond (groups_left o) (strength o) (suc (strength o))

unfoldable pub right_level : BinaryOperator → ℕ
right_level o = cond (groups_left o) (suc (strength o)) (strength o)

-- `A` and `E`
unfoldable pub path_mark : Quantifier → Token
path_mark for_all = for_all_paths
path_mark exists = on_some_path

-- Tokens derive a tree at a level.
pub data Derives : ℕ → List Token → Tree → Type 0 where
  an_atom : (j : ℕ) → j ≤ 15 → Derives tightest (Atom j ∷ []) (atom j)
  prefixed : (p : PrefixOperator) (ts : List Token) (f : Tree) → Derives tightest ts f → Derives tightest (Prefix p ∷ ts) (prefix p f)
  in_parentheses :
      (ts : List Token) (f : Tree)
      → Derives whole_rule ts f
      → Derives tightest (left_parenthesis ∷ (ts ++ (right_parenthesis ∷ []))) f
  in_brackets :
      (q : Quantifier) (ts us : List Token) (f g : Tree)
      → Derives whole_rule ts f
      → Derives whole_rule us g
      → Derives tightest (path_mark q ∷ left_bracket ∷ (ts ++ (until_mark ∷ (us ++ (right_bracket ∷ []))))) (until q f g)
  joins :
      (o : BinaryOperator) (ts us : List Token) (f g : Tree)
      → Derives (left_level o) ts f
      → Derives (right_level o) us g
      → Derives (strength o) (ts ++ (Operator o ∷ us)) (binary o f g)
  -- what binds tighter may stand where less is asked
  tighter : (l : ℕ) (ts : List Token) (f : Tree) → Derives (suc l) ts f → Derives l ts f

-- The text is derived by the grammar, with this tree.
pub record Means (x : Text) (f : Tree) : Type 0 where
  pub tokens : List Token
  pub spelled : Spelled x tokens
  pub derived : Derives whole_rule tokens f
