-- What the grammar derives at a level is parsed there, whatever stands behind it that the level stops at. Assumes nothing.
use Prim.Native.Nat.{ℕ, suc, ◌≤◌}
use mathlib.Core.Path.{◌≡◌, ◌∙◌, ap}
use mathlib.Core.List.{List, [], ◌∷◌, ◌++◌, append_assoc}
use native.Mathlib.Omega.{arith}
use borrow.Author.Tests.{le-leb, lt-leb}
use Rattle.job.specs.Job.{Quantifier, for_all, exists}
use Rattle.rule_text.specs.declared.token.Prefix.{Prefix as PrefixOperator}
use Rattle.rule_text.specs.declared.token.Operator.{Operator as BinaryOperator}
use Rattle.rule_text.specs.declared.token.Mark.{Mark as MarkKind}
use Rattle.rule_text.specs.declared.token.Mark.TheVariants.{Until, RightParenthesis, RightBracket}
use Rattle.rule_text.specs.declared.token.Token.{Token}
use Rattle.rule_text.specs.declared.token.Token.TheVariants.{Atom, Prefix, Operator, Mark, Unknown}
use Rattle.rule_text.specs.Tree.{Tree, atom, prefix, binary, until}
use Rattle.rule_text.specs.Token.{mark_byte, same_mark, for_all_paths, on_some_path, until_mark, left_parenthesis, right_parenthesis, left_bracket, right_bracket}
use Rattle.rule_text.specs.Grammar.{strength, left_level, right_level, whole_rule, tightest, path_mark}
use Rattle.rule_text.specs.Grammar.{Derives, an_atom, prefixed, in_parentheses, in_brackets, joins, tighter}
use Rattle.rule_text.specs.Parse.{expression, operators, prefix_form, closed_form, parenthesized, until_form}
use Rattle.rule_text.specs.Parse.{found, and_then, behind, taking, read_operators, read_prefix, read_marked, read_closed, read_step, parse}
use Rattle.rule_text.proofs.Descent.{parse_step}
use Rattle.rule_text.proofs.Levels.{Stops, Ends, bounds, stops_ends, stops_later}

expression_parsed :
    (least : ℕ) (ts us : List Token) (f : Tree)
    → parse prefix_form ts ≡ found f us
    → parse (expression least) ts ≡ parse (operators least f) us
unfolding read_step and_then
expression_parsed least ts us f e = parse_step (expression least) ts ∙ ap (λ p. and_then p (λ g vs. parse (operators least g) vs)) e

-- No operator is taken.
pub operators_end : (least : ℕ) (f : Tree) (ts : List Token) → Ends least ts → parse (operators least f) ts ≡ found f ts
unfolding read_step read_operators taking
operators_end least f [] h = parse_step (operators least f) []
operators_end least f (Atom j ∷ ts) h = parse_step (operators least f) (Atom j ∷ ts)
operators_end least f (Prefix p ∷ ts) h = parse_step (operators least f) (Prefix p ∷ ts)
operators_end least f (Operator o ∷ ts) h = parse_step (operators least f) (Operator o ∷ ts) ∙ simp (lt-leb least (strength o) h)
operators_end least f (Mark c ∷ ts) h = parse_step (operators least f) (Mark c ∷ ts)
operators_end least f (Unknown ∷ ts) h = parse_step (operators least f) (Unknown ∷ ts)

-- The operator o is taken, with its right operand g.
operator_taken :
    (least : ℕ) (f g : Tree) (o : BinaryOperator) (ts us : List Token)
    → least ≤ strength o
    → parse (expression (right_level o)) ts ≡ found g us
    → parse (operators least f) (Operator o ∷ ts) ≡ parse (operators least (binary o f g)) us
unfolding read_step read_operators taking and_then
operator_taken least f g o ts us h e =
    parse_step (operators least f) (Operator o ∷ ts) ∙ simp (le-leb least (strength o) h, e)

prefix_parsed :
    (p : PrefixOperator) (ts us : List Token) (f : Tree)
    → parse prefix_form ts ≡ found f us
    → parse prefix_form (Prefix p ∷ ts) ≡ found (prefix p f) us
unfolding read_step read_prefix and_then
prefix_parsed p ts us f e = parse_step prefix_form (Prefix p ∷ ts) ∙ simp e

atom_parsed : (j : ℕ) (ts : List Token) → parse prefix_form (Atom j ∷ ts) ≡ found (atom j) ts
unfolding read_step read_prefix read_closed
atom_parsed j ts = parse_step prefix_form (Atom j ∷ ts) ∙ parse_step closed_form (Atom j ∷ ts)

parentheses_parsed :
    (ts us : List Token) (f : Tree)
    → parse (expression whole_rule) ts ≡ found f (right_parenthesis ∷ us)
    → parse prefix_form (left_parenthesis ∷ ts) ≡ found f us
unfolding read_step read_prefix read_closed read_marked and_then behind mark_byte same_mark
parentheses_parsed ts us f e =
    parse_step prefix_form (left_parenthesis ∷ ts)
    ∙ parse_step closed_form (left_parenthesis ∷ ts)
    ∙ parse_step parenthesized ts
    ∙ simp e

path_parsed : (q : Quantifier) (ts : List Token) → parse prefix_form (path_mark q ∷ ts) ≡ parse (until_form q) ts
unfolding read_step read_prefix read_closed read_marked path_mark
path_parsed for_all ts = parse_step prefix_form (for_all_paths ∷ ts) ∙ parse_step closed_form (for_all_paths ∷ ts)
path_parsed exists ts = parse_step prefix_form (on_some_path ∷ ts) ∙ parse_step closed_form (on_some_path ∷ ts)

brackets_parsed :
    (q : Quantifier) (ts us vs : List Token) (f g : Tree)
    → parse (expression whole_rule) ts ≡ found f (until_mark ∷ us)
    → parse (expression whole_rule) us ≡ found g (right_bracket ∷ vs)
    → parse prefix_form (path_mark q ∷ left_bracket ∷ ts) ≡ found (until q f g) vs
unfolding read_step and_then behind mark_byte same_mark
brackets_parsed q ts us vs f g e h =
    path_parsed q (left_bracket ∷ ts) ∙ parse_step (until_form q) (left_bracket ∷ ts) ∙ simp (e, h)

-- Tokens in front of others are parsed: as the first operand of an expression, and if they are tightest as a prefix form.
pub record Parsed (l : ℕ) (ts : List Token) (f : Tree) (rest : List Token) : Type 0 where
  pub operand : (least : ℕ) → least ≤ l → parse (expression least) (ts ++ rest) ≡ parse (operators least f) rest
  pub tight : tightest ≤ l → parse prefix_form (ts ++ rest) ≡ found f rest

tight_parsed : (ts : List Token) (f : Tree) (rest : List Token) → parse prefix_form (ts ++ rest) ≡ found f rest → Parsed tightest ts f rest
tight_parsed ts f rest e =
    record { operand = λ least h. expression_parsed least (ts ++ rest) rest f e; tight = λ h. e }

-- an expression up to a mark
marked_parsed :
    (ts : List Token) (f : Tree) (m : MarkKind) (rest : List Token)
    → Parsed whole_rule ts f (Mark m ∷ rest)
    → parse (expression whole_rule) (ts ++ (Mark m ∷ rest)) ≡ found f (Mark m ∷ rest)
marked_parsed ts f m rest h = h.operand whole_rule (omega arith) ∙ operators_end whole_rule f (Mark m ∷ rest) tt

operator_parsed :
    (o : BinaryOperator) (ts us : List Token) (f g : Tree) (rest : List Token)
    → Stops (strength o) rest
    → Parsed (left_level o) ts f (Operator o ∷ (us ++ rest))
    → Parsed (right_level o) us g rest
    → Parsed (strength o) (ts ++ (Operator o ∷ us)) (binary o f g) rest
operator_parsed o ts us f g rest s left right =
    let b = bounds o in
    record {
      operand = λ least h.
          rw (append_assoc ts (Operator o ∷ us) rest)
          (left.operand least (omega arith)
          ∙ operator_taken least f g o (us ++ rest) rest h
          (right.operand (right_level o) (omega arith) ∙ operators_end (right_level o) g rest (stops_ends o rest s)));
      tight = λ h. absurd (omega arith);
    }

pub derives_parsed : (l : ℕ) (ts : List Token) (f : Tree) → Derives l ts f → (rest : List Token) → Stops l rest → Parsed l ts f rest
derives_parsed l ts f (an_atom j h) rest s = tight_parsed (Atom j ∷ []) (atom j) rest (atom_parsed j rest)
derives_parsed l ts f (prefixed p us g d) rest s =
    tight_parsed (Prefix p ∷ us) (prefix p g) rest
    (prefix_parsed p (us ++ rest) rest g ((derives_parsed tightest us g d rest s).tight (omega arith)))
derives_parsed l ts f (in_parentheses us g d) rest s =
    tight_parsed _ f rest
    (rw (append_assoc us (right_parenthesis ∷ []) rest)
    (parentheses_parsed (us ++ (right_parenthesis ∷ rest)) rest f
    (marked_parsed us f RightParenthesis rest (derives_parsed whole_rule us f d (right_parenthesis ∷ rest) tt))))
derives_parsed l ts f (in_brackets q us vs g h d e) rest s =
    let after = vs ++ (right_bracket ∷ rest) in
    tight_parsed _ (until q g h) rest
    (rw (append_assoc us (until_mark ∷ (vs ++ (right_bracket ∷ []))) rest, append_assoc vs (right_bracket ∷ []) rest)
    (brackets_parsed q (us ++ (until_mark ∷ after)) after rest g h
    (marked_parsed us g Until after (derives_parsed whole_rule us g d (until_mark ∷ after) tt))
    (marked_parsed vs h RightBracket rest (derives_parsed whole_rule vs h e (right_bracket ∷ rest) tt))))
derives_parsed l ts f (joins o us vs g h d e) rest s =
    let b = bounds o in
    operator_parsed o us vs g h rest s
    (derives_parsed (left_level o) us g d (Operator o ∷ (vs ++ rest)) (omega arith))
    (derives_parsed (right_level o) vs h e rest (stops_later (strength o) (right_level o) rest (omega arith) s))
derives_parsed l ts f (tighter m us g d) rest s =
    let p = derives_parsed (suc m) us g d rest (stops_later m (suc m) rest (omega arith) s) in
    record { operand = λ least h. p.operand least (omega arith); tight = λ h. p.tight (omega arith) }
