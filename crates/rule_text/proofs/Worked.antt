-- Document 02 (i), and (iii) for EG and AG, worked out by hand: trees of texts, texts that are no rule, and the lines of rules. Each is
-- computed from the definitions. Assumes nothing.
use Prim.Native.Char.{code}
use Prim.Native.String.{String, [] as end, ◌∷◌ as ◌then◌}
use Prim.Native.Nat.{ℕ}
use mathlib.Core.Path.{◌≡◌, refl}
use mathlib.Core.List.{List, [], ◌∷◌}
use mathlib.Core.Option.{Option, some, none, Option-elim}
use lib.Dec.{lit≤}
use lib.ListN.{length}
use Rattle.law.specs.Lists.{flatten}
use Rattle.text.specs.Field.{Text}
use Rattle.text.specs.Decimal.{digit_column, decimal, line}
use Rattle.job.specs.Job.{for_all, exists}
use Rattle.job.specs.Formula.{fields}
use Rattle.job.specs.declared.subformula.Subformula.{Subformula}
use Rattle.job.specs.declared.subformula.Subformula.TheVariants as kind
use Rattle.rule_text.specs.declared.token.Prefix.TheVariants.{Not, Ax, Eg, Ag}
use Rattle.rule_text.specs.declared.token.Operator.TheVariants.{And, Or, Implies}
use Rattle.rule_text.specs.Tree.{Tree, atom, prefix, binary, until}
use Rattle.rule_text.specs.Token.{mark_byte, same_mark, letter_or_digit}
use Rattle.rule_text.specs.Grammar.{strength, groups_left, right_level}
use Rattle.rule_text.specs.Scan.{symbol, word1, word2, word3, lexed, first_lexeme, followed, scan, tokens}
use Rattle.rule_text.specs.Parse.{and_then, behind, taking, read_operators, read_prefix, read_marked, read_closed, read_step, goal_rank, depth, read_within, parse, whole, reading}
use Rattle.rule_text.specs.Lines.{joining, rewritten, prefix_line, until_line, equal, place, add, placed, lines_of, lines_text}
use Rattle.rule_text.specs.RuleCall.{rule_lines, InLimits}
use Rattle.rule_text.proofs.Reading.{reading_means}

-- The bytes of a quoted text of ASCII characters; its tree, and its lines. To unfold these is to unfold all that they compute with.
unfoldable pub quoted : String → Text
quoted end = []
quoted (c then cs) = code c ∷ quoted cs

unfoldable pub tree_of : String → Option Tree
unfolding quoted mark_byte same_mark letter_or_digit symbol word1 word2 word3 lexed first_lexeme followed scan tokens strength groups_left right_level and_then behind taking read_operators read_prefix read_marked read_closed read_step goal_rank depth read_within parse whole reading
tree_of s = reading (quoted s)

unfoldable pub lines_in : String → List Subformula
unfolding tree_of Option-elim joining rewritten fields prefix_line until_line equal place add placed lines_of rule_lines
lines_in s = rule_lines (quoted s)

abbrev example_tree : Tree
example_tree = binary Implies (prefix Ax (binary Or (atom 0) (prefix Not (atom 1)))) (until exists (atom 2) (atom 13))

example_read : tree_of "AX (p0 | !p1) => E[p2 U p13]" ≡ some example_tree
unfolding tree_of
example_read = refl

-- A rule within the limits of the call.
pub example_rule : Text
unfolding quoted
example_rule = quoted "AX (p0 | !p1) => E[p2 U p13]"

pub example_limits : (buffer : List ℕ) → length buffer ≡ 512 → InLimits example_rule buffer
unfolding example_rule tree_of lines_in
example_limits buffer e =
    record {
      tree = example_tree;
      means = reading_means example_rule example_tree refl;
      buffer_size = e;
      text_size = lit≤ tt;
      few = lit≤ tt;
    }

-- "Prefix `!`, `AX`, `EX` bind tightest. Then come `&`, `|`, `=>`, weaker in this order"
prefix_tightest : tree_of "!p0 & p1" ≡ some (binary And (prefix Not (atom 0)) (atom 1))
unfolding tree_of
prefix_tightest = refl

prefix_twice : tree_of "AX AX p0" ≡ some (prefix Ax (prefix Ax (atom 0)))
unfolding tree_of
prefix_twice = refl

and_tighter_right : tree_of "p0 | p1 & p2" ≡ some (binary Or (atom 0) (binary And (atom 1) (atom 2)))
unfolding tree_of
and_tighter_right = refl

and_tighter_left : tree_of "p0 & p1 | p2" ≡ some (binary Or (binary And (atom 0) (atom 1)) (atom 2))
unfolding tree_of
and_tighter_left = refl

or_tighter_right : tree_of "p0 => p1 | p2" ≡ some (binary Implies (atom 0) (binary Or (atom 1) (atom 2)))
unfolding tree_of
or_tighter_right = refl

or_tighter_left : tree_of "p0 | p1 => p2" ≡ some (binary Implies (binary Or (atom 0) (atom 1)) (atom 2))
unfolding tree_of
or_tighter_left = refl

-- (iii): "`EG` and `AG` as prefixes like `AX`"
throughout_tightest : tree_of "EG p0 & p1" ≡ some (binary And (prefix Eg (atom 0)) (atom 1))
unfolding tree_of
throughout_tightest = refl

throughout_twice : tree_of "AG EG p0" ≡ some (prefix Ag (prefix Eg (atom 0)))
unfolding tree_of
throughout_twice = refl

throughout_not : tree_of "EG !p0" ≡ some (prefix Eg (prefix Not (atom 0)))
unfolding tree_of
throughout_not = refl

-- "`&` and `|` group to the left, `=>` to the right."
and_groups_left : tree_of "p0 & p1 & p2" ≡ some (binary And (binary And (atom 0) (atom 1)) (atom 2))
unfolding tree_of
and_groups_left = refl

or_groups_left : tree_of "p0 | p1 | p2" ≡ some (binary Or (binary Or (atom 0) (atom 1)) (atom 2))
unfolding tree_of
or_groups_left = refl

implies_groups_right : tree_of "p0 => p1 => p2" ≡ some (binary Implies (atom 0) (binary Implies (atom 1) (atom 2)))
unfolding tree_of
implies_groups_right = refl

-- "spaces may stand before, between and after tokens and must stand between two of letters or digits"
spaces_anywhere : tree_of "  A [p0 U p1]&(p2 ) " ≡ some (binary And (until for_all (atom 0) (atom 1)) (atom 2))
unfolding tree_of
spaces_anywhere = refl

words_joined : tree_of "AXp0" ≡ none
unfolding tree_of
words_joined = refl

eg_joined : tree_of "EGp0" ≡ none
unfolding tree_of
eg_joined = refl

ag_joined : tree_of "AGp0" ≡ none
unfolding tree_of
ag_joined = refl

eg_apart : tree_of "E G p0" ≡ none
unfolding tree_of
eg_apart = refl

arrow_apart : tree_of "p0 = > p1" ≡ none
unfolding tree_of
arrow_apart = refl

-- "Atoms are `p0` to `p15`."
atom_above : tree_of "p16" ≡ none
unfolding tree_of
atom_above = refl

atom_zeros : tree_of "p00" ≡ none
unfolding tree_of
atom_zeros = refl

-- What the grammar has not.
operator_missing : tree_of "p0 p1" ≡ none
unfolding tree_of
operator_missing = refl

until_twice : tree_of "A[p0 U p1 U p2]" ≡ none
unfolding tree_of
until_twice = refl

prefix_unknown : tree_of "AF p0" ≡ none
unfolding tree_of
prefix_unknown = refl

parenthesis_unclosed : tree_of "(p0" ≡ none
unfolding tree_of
parenthesis_unclosed = refl

text_empty : tree_of "" ≡ none
unfolding tree_of
text_empty = refl

-- "`f | g` becomes not(not f and not g), and `f => g` becomes not(f and not g)."
or_lines : lines_in "p0 | p1" ≡ kind.Atom 0 ∷ kind.Not 0 ∷ kind.Atom 1 ∷ kind.Not 2 ∷ kind.And 1 3 ∷ kind.Not 4 ∷ []
unfolding lines_in
or_lines = refl

implies_lines : lines_in "p0 => p1" ≡ kind.Atom 0 ∷ kind.Atom 1 ∷ kind.Not 1 ∷ kind.And 0 2 ∷ kind.Not 3 ∷ []
unfolding lines_in
implies_lines = refl

not_not_lines : lines_in "!!p0" ≡ kind.Atom 0 ∷ kind.Not 0 ∷ kind.Not 1 ∷ []
unfolding lines_in
not_not_lines = refl

-- "all of a left operand's lines come first, then the right's, then the operator's own"
until_lines : lines_in "E[!p1 U AX p0]" ≡ kind.Atom 1 ∷ kind.Not 0 ∷ kind.Atom 0 ∷ kind.Ax 2 ∷ kind.Eu 1 3 ∷ []
unfolding lines_in
until_lines = refl

-- "a line equal to an earlier one is not written again"
same_lines : lines_in "p0 & p0" ≡ kind.Atom 0 ∷ kind.And 0 0 ∷ []
unfolding lines_in
same_lines = refl

same_text : lines_text (lines_in "p0 & p0") ≡ quoted "    1    0    0\n    3    0    0\n"
unfolding lines_in flatten digit_column decimal line lines_text
same_text = refl

-- (iii): "kind 8, EG a, and kind 9, AG a"
throughout_text :
    lines_text (lines_in "AG (p0 => EG p1)")
    ≡ quoted "    1    0    0\n    1    1    0\n    8    1    0\n    2    2    0\n    3    0    3\n    2    4    0\n    9    5    0\n"
unfolding lines_in flatten digit_column decimal line lines_text
throughout_text = refl
