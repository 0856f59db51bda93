-- The tree that is computed of a text is the one that the grammar derives; a text has no other, and its atoms are p0 to p15. Assumes nothing.
use Prim.Native.Nat.{ℕ, zero, suc, ◌-◌}
use mathlib.Core.Path.{◌≡◌, refl}
use mathlib.Core.Bool.{true}
use mathlib.Core.List.{List, [], ◌∷◌}
use mathlib.Core.Logic.{⊎_elim}
use mathlib.Core.Option.{some}
use lib.Dec.{leb, eqb}
use Rattle.law.specs.Lists.{every}
use Rattle.law.proofs.Bool.{split, and_intro}
use Rattle.text.specs.Field.{Text}
use Rattle.rule_text.specs.declared.token.Token.{Token}
use Rattle.rule_text.specs.declared.token.Token.TheVariants.{Atom, Prefix, Operator, Mark, Unknown}
use Rattle.rule_text.specs.Tree.{Tree, AtomsInRange}
use Rattle.rule_text.specs.Token.{is_token}
use Rattle.rule_text.specs.Grammar.{left_level, right_level, whole_rule, tightest, Means}
use Rattle.rule_text.specs.Grammar.{Derives, an_atom, prefixed, in_parentheses, in_brackets, joins, tighter}
use Rattle.rule_text.specs.Scan.{first_lexeme, followed, scan, tokens}
use Rattle.rule_text.specs.Parse.{expression, Parse, none, found, parse, whole, reading}
use Rattle.rule_text.proofs.Lexemes.{lexeme_is_token}
use Rattle.rule_text.proofs.Scanning.{spelled_tokens, tokens_spelled}
use Rattle.rule_text.proofs.Sound.{atom_in_range}
use Rattle.rule_text.proofs.Parsing.{derives_parse, parse_derives, derives_tokens}

-- No atom of a text is above p15: at each place stands a token of the grammar, or what is none.
token_in_range : (t : Token) → is_token t ≡ true → atom_in_range t ≡ true
unfolding is_token atom_in_range
token_in_range (Atom j) e = e
token_in_range (Prefix p) e = refl
token_in_range (Operator o) e = refl
token_in_range (Mark m) e = refl
token_in_range Unknown e = refl

first_in_range : (x : Text) → atom_in_range (first_lexeme x).token ≡ true
unfolding atom_in_range
first_in_range x = ⊎_elim (λ u. rw u) (token_in_range (first_lexeme x).token) (lexeme_is_token x)

followed_in_range :
    (t : Token) (ts : List Token) → atom_in_range t ≡ true → every atom_in_range ts ≡ true → every atom_in_range (followed t ts) ≡ true
unfolding followed every atom_in_range
followed_in_range (Atom j) ts e h = and_intro (leb j 15) (every atom_in_range ts) e h
followed_in_range (Prefix p) ts e h = h
followed_in_range (Operator o) ts e h = h
followed_in_range (Mark m) ts e h = h
followed_in_range Unknown ts e h = refl

scan_in_range : (n : ℕ) (x : Text) → every atom_in_range (scan n x) ≡ true
unfolding scan every
scan_in_range n [] = refl
scan_in_range zero (c ∷ x) =
    let l = first_lexeme (c ∷ x) in
    split (eqb c 32)
    (λ e. simp e (scan_in_range zero x))
    (λ e. simp e (followed_in_range l.token (scan (l.width - 1) x) (first_in_range (c ∷ x)) (scan_in_range (l.width - 1) x)))
scan_in_range (suc n) (c ∷ x) = scan_in_range n x

tokens_in_range : (x : Text) → every atom_in_range (tokens x) ≡ true
unfolding tokens
tokens_in_range x = scan_in_range zero x

whole_found : (p : Parse) (f : Tree) → whole p ≡ some f → p ≡ found f []
unfolding whole
whole_found none f e = cc
whole_found (found g []) f e = cc
whole_found (found g (t ∷ ts)) f e = cc

pub reading_means : (x : Text) (f : Tree) → reading x ≡ some f → Means x f
unfolding reading
reading_means x f e =
    let d = parse_derives (tokens x) f (tokens_in_range x) (whole_found (parse (expression whole_rule) (tokens x)) f e) in
    record { tokens = tokens x; spelled = tokens_spelled x (derives_tokens whole_rule (tokens x) f d); derived = d }

pub means_reading : (x : Text) (f : Tree) → Means x f → reading x ≡ some f
unfolding reading whole
means_reading x f m = rw (spelled_tokens x m.tokens m.spelled, derives_parse m.tokens f m.derived)

pub means_one : (x : Text) (f g : Tree) → Means x f → Means x g → f ≡ g
means_one x f g m n = let p = means_reading x f m in let q = means_reading x g n in cc

derives_atoms : (l : ℕ) (ts : List Token) (f : Tree) → Derives l ts f → AtomsInRange f
unfolding AtomsInRange
derives_atoms l ts f (an_atom j h) = h
derives_atoms l ts f (prefixed p us g d) = derives_atoms tightest us g d
derives_atoms l ts f (in_parentheses us g d) = derives_atoms whole_rule us g d
derives_atoms l ts f (in_brackets q us vs g h d e) = (derives_atoms whole_rule us g d, derives_atoms whole_rule vs h e)
derives_atoms l ts f (joins o us vs g h d e) = (derives_atoms (left_level o) us g d, derives_atoms (right_level o) vs h e)
derives_atoms l ts f (tighter m us g d) = derives_atoms (suc m) us g d

pub means_atoms : (x : Text) (f : Tree) → Means x f → AtomsInRange f
means_atoms x f m = derives_atoms whole_rule m.tokens f m.derived
