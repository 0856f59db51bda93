-- The tree of a list of tokens, computed as the code goes about it: by descent through expression, prefix and closed form, taking binary
-- operators by their strength. That this is what the grammar derives is a theorem; nothing that a reader must believe is here. Assumes nothing.
use Rattle.std.specs.Prelude.{ℕ, zero, suc, ◌+◌, ◌*◌, cond, List, [], ◌∷◌, length, leb}
use Rattle.std.proofs.Math.Option.{Option}
use Rattle.std.proofs.Math.Option as opt
use Rattle.text.specs.Field.{Text}
use Rattle.job.specs.Job.{Quantifier, for_all, exists}
use Rattle.rule_text.specs.declared.token.Operator.{Operator as BinaryOperator}
use Rattle.rule_text.specs.declared.token.Mark.{Mark as MarkKind}
use Rattle.rule_text.specs.declared.token.Mark.TheVariants.{ForAllPaths, OnSomePath, Until, LeftParenthesis, RightParenthesis, LeftBracket, RightBracket}
use Rattle.rule_text.specs.declared.token.Token.{Token}
use Rattle.rule_text.specs.declared.token.Token.TheVariants.{Atom, Prefix, Operator, Mark, Unknown}
use Rattle.rule_text.specs.Token.{same_mark}
use Rattle.rule_text.specs.Tree.{Tree, atom, prefix, binary, until}
use Rattle.rule_text.specs.Grammar.{strength, right_level, whole_rule}
use Rattle.rule_text.specs.Scan as scanned

-- What is read: an expression of operators at least so strong, the operators behind its first operand, a prefix form, a closed form, what
-- stands behind `(`, and behind `A` or `E`.
pub data Goal : Type 0 where
  expression : ℕ → Goal
  operators : ℕ → Tree → Goal
  prefix_form closed_form parenthesized : Goal
  until_form : Quantifier → Goal

-- A tree and the tokens behind it, or none.
pub data Parse : Type 0 where
  none : Parse
  found : Tree → List Token → Parse

unfoldable pub and_then : Parse → (Tree → List Token → Parse) → Parse
and_then none next = none
and_then (found f ts) next = next f ts

-- This mark stands first.
unfoldable pub behind : MarkKind → List Token → (List Token → Parse) → Parse
behind m [] next = none
behind m (Atom j ∷ ts) next = none
behind m (Prefix p ∷ ts) next = none
behind m (Operator o ∷ ts) next = none
behind m (Mark n ∷ ts) next = cond (same_mark n m) (next ts) none
behind m (Unknown ∷ ts) next = none

-- One step of the descent, where `read` reads what has fewer tokens or a lower rank.
module _ (read : Goal → List Token → Parse) where
  -- Behind the operand f stands an operator: it is taken if it is strong enough.
  unfoldable pub taking : ℕ → Tree → BinaryOperator → List Token → Parse
  taking least f o ts =
      cond (leb least (strength o))
      (and_then (read (expression (right_level o)) ts) (λ g us. read (operators least (binary o f g)) us))
      (found f (Operator o ∷ ts))

  unfoldable pub read_operators : ℕ → Tree → List Token → Parse
  read_operators least f [] = found f []
  read_operators least f (Atom j ∷ ts) = found f (Atom j ∷ ts)
  read_operators least f (Prefix p ∷ ts) = found f (Prefix p ∷ ts)
  read_operators least f (Operator o ∷ ts) = taking least f o ts
  read_operators least f (Mark m ∷ ts) = found f (Mark m ∷ ts)
  read_operators least f (Unknown ∷ ts) = found f (Unknown ∷ ts)

  unfoldable pub read_prefix : List Token → Parse
  read_prefix [] = none
  read_prefix (Atom j ∷ ts) = read closed_form (Atom j ∷ ts)
  read_prefix (Prefix p ∷ ts) = and_then (read prefix_form ts) (λ f us. found (prefix p f) us)
  read_prefix (Operator o ∷ ts) = read closed_form (Operator o ∷ ts)
  read_prefix (Mark m ∷ ts) = read closed_form (Mark m ∷ ts)
  read_prefix (Unknown ∷ ts) = read closed_form (Unknown ∷ ts)

  unfoldable pub read_marked : MarkKind → List Token → Parse
  read_marked LeftParenthesis ts = read parenthesized ts
  read_marked ForAllPaths ts = read (until_form for_all) ts
  read_marked OnSomePath ts = read (until_form exists) ts
  read_marked RightParenthesis ts = none
  read_marked LeftBracket ts = none
  read_marked RightBracket ts = none
  read_marked Until ts = none

  unfoldable pub read_closed : List Token → Parse
  read_closed [] = none
  read_closed (Atom j ∷ ts) = found (atom j) ts
  read_closed (Prefix p ∷ ts) = none
  read_closed (Operator o ∷ ts) = none
  read_closed (Mark m ∷ ts) = read_marked m ts
  read_closed (Unknown ∷ ts) = none

  unfoldable pub read_step : Goal → List Token → Parse
  read_step (expression least) ts = and_then (read prefix_form ts) (λ f us. read (operators least f) us)
  read_step (operators least f) ts = read_operators least f ts
  read_step prefix_form ts = read_prefix ts
  read_step closed_form ts = read_closed ts
  read_step parenthesized ts = and_then (read (expression whole_rule) ts) (λ f us. behind RightParenthesis us (λ vs. found f vs))
  read_step (until_form q) ts =
      behind LeftBracket ts (λ us.
      and_then (read (expression whole_rule) us) (λ f vs.
      behind Until vs (λ ws.
      and_then (read (expression whole_rule) ws) (λ g xs.
      behind RightBracket xs (λ ys. found (until q f g) ys)))))

-- At each call tokens are used up, or the rank falls.
unfoldable pub goal_rank : Goal → ℕ
goal_rank (expression least) = 2
goal_rank (operators least f) = 0
goal_rank prefix_form = 1
goal_rank closed_form = 0
goal_rank parenthesized = 3
goal_rank (until_form q) = 3

unfoldable pub depth : Goal → List Token → ℕ
depth goal ts = 4 * length ts + goal_rank goal

unfoldable pub read_within : ℕ → Goal → List Token → Parse
read_within zero goal ts = none
read_within (suc n) goal ts = read_step (read_within n) goal ts

unfoldable pub parse : Goal → List Token → Parse
parse goal ts = read_within (suc (depth goal ts)) goal ts

-- The tree of a whole text.
unfoldable pub whole : Parse → Option Tree
whole none = opt.none
whole (found f []) = opt.some f
whole (found f (t ∷ ts)) = opt.none

unfoldable pub reading : Text → Option Tree
reading x = whole (parse (expression whole_rule) (scanned.tokens x))
