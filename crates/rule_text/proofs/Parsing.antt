-- The tokens that parse as a whole rule are those that the grammar derives, with the same tree, and that tree is the only one. Assumes nothing.
use Prim.Native.Nat.{ℕ}
use mathlib.Core.Path.{◌≡◌, refl, sym, ◌∙◌, subst}
use mathlib.Core.Bool.{true}
use mathlib.Core.List.{List, [], ◌∷◌, ◌++◌, append-nil}
use native.Mathlib.Omega.{arith}
use borrow.Author.Tests.{le-leb}
use lib.Dec.{leb}
use Rattle.law.specs.Lists.{every}
use Rattle.law.proofs.Bool.{and_intro, and_left, and_right}
use Rattle.job.specs.Job.{Quantifier, for_all, exists}
use Rattle.rule_text.specs.declared.token.Token.{Token}
use Rattle.rule_text.specs.declared.token.Token.TheVariants.{Operator}
use Rattle.rule_text.specs.Tree.{Tree}
use Rattle.rule_text.specs.Token.{is_token, until_mark, right_parenthesis, right_bracket}
use Rattle.rule_text.specs.Grammar.{left_level, right_level, whole_rule, tightest, path_mark}
use Rattle.rule_text.specs.Grammar.{Derives, an_atom, prefixed, in_parentheses, in_brackets, joins, tighter}
use Rattle.rule_text.specs.Parse.{expression, found, parse}
use Rattle.rule_text.proofs.Complete.{derives_parsed, operators_end}
use Rattle.rule_text.proofs.Sound.{atom_in_range, parse_takes}

pub derives_parse : (ts : List Token) (f : Tree) → Derives whole_rule ts f → parse (expression whole_rule) ts ≡ found f []
derives_parse ts f d =
    rw (append-nil ts) at ((derives_parsed whole_rule ts f d [] tt).operand whole_rule (omega arith))
    ∙ operators_end whole_rule f [] tt

pub parse_derives :
    (ts : List Token) (f : Tree)
    → every atom_in_range ts ≡ true
    → parse (expression whole_rule) ts ≡ found f []
    → Derives whole_rule ts f
parse_derives ts f h e =
    let r = parse_takes ts [] f h e in
    subst (λ us. Derives whole_rule us f) (sym (r.cut ∙ append-nil r.taken)) r.derived

tokens_append : (ts us : List Token) → every is_token ts ≡ true → every is_token us ≡ true → every is_token (ts ++ us) ≡ true
unfolding every
tokens_append [] us h g = g
tokens_append (t ∷ ts) us h g =
    and_intro (is_token t) (every is_token (ts ++ us)) (and_left (is_token t) (every is_token ts) h)
    (tokens_append ts us (and_right (is_token t) (every is_token ts) h) g)

path_token : (q : Quantifier) → is_token (path_mark q) ≡ true
unfolding path_mark is_token
path_token for_all = refl
path_token exists = refl

pub derives_tokens : (l : ℕ) (ts : List Token) (f : Tree) → Derives l ts f → every is_token ts ≡ true
unfolding every is_token
derives_tokens l ts f (an_atom j h) = and_intro (leb j 15) true (le-leb j 15 h) refl
derives_tokens l ts f (prefixed p us g d) = derives_tokens tightest us g d
derives_tokens l ts f (in_parentheses us g d) = tokens_append us (right_parenthesis ∷ []) (derives_tokens whole_rule us g d) refl
derives_tokens l ts f (in_brackets q us vs g h d e) =
    let behind = vs ++ (right_bracket ∷ []) in
    and_intro (is_token (path_mark q)) (every is_token (us ++ (until_mark ∷ behind))) (path_token q)
    (tokens_append us (until_mark ∷ behind) (derives_tokens whole_rule us g d)
    (tokens_append vs (right_bracket ∷ []) (derives_tokens whole_rule vs h e) refl))
derives_tokens l ts f (joins o us vs g h d e) =
    tokens_append us (Operator o ∷ vs) (derives_tokens (left_level o) us g d) (derives_tokens (right_level o) vs h e)
derives_tokens l ts f (tighter m us g d) = derives_tokens _ us g d
