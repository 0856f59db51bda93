-- What comes of reading a part of a rule from the start of a text, in terms of the parse of its tokens. Assumes nothing.
use Rattle.std.specs.Prelude.{ℕ, ◌≡◌, Bool, cond, List, Option, Some, None}
use Rattle.text.specs.Field.{Text}
use Rattle.rule_text.specs.Tree.{Tree}
use Rattle.rule_text.specs.Lines.{rewritten}
use Rattle.rule_text.specs.Kept.{kept}
use Rattle.rule_text.specs.Scan.{tokens}
use Rattle.rule_text.specs.Parse.{Parse, none, found}
use Rattle.rule_text.specs.declared.token.Prefix.{Prefix}
use Rattle.rule_text.specs.declared.token.Prefix.TheVariants.{Not, Ax, Ex, Eg, Ag}
use Rattle.rule_text.specs.declared.token.Token.{Token}
use Rattle.scanner.specs.Scanned.{Left}
use Rattle.rule_lines.specs.Held.{KeptAs}

-- The kinds of the operators' lines.
unfoldable pub prefix_kind : Prefix → ℕ
prefix_kind Not = 2
prefix_kind Ax = 4
prefix_kind Ex = 5
prefix_kind Eg = 8
prefix_kind Ag = 9

unfoldable pub until_kind : Bool → ℕ
until_kind all = cond all 6 7

-- The tree f was read, y with the tokens us is left of x behind at least n bytes, and its lines are kept behind the lines ls.
pub record ReadsTree (x : Text) (n : ℕ) (f : Tree) (us : List Token) (ls : List (List ℕ)) (line : ℕ) (y : Text) (after : List (List ℕ)) : Type 0 where
  pub rest : tokens y ≡ us
  pub left : Left n x y
  pub leaves : KeptAs (kept (rewritten f) ls) line after

-- What the reader answers, None or a line, is what the parse is. Where there is no parse, what is left does not matter.
unfoldable pub ReadsAs : Text → ℕ → Parse → List (List ℕ) → Option ℕ → Text → List (List ℕ) → Type 0
ReadsAs x n none ls None y after = Unit {0}
ReadsAs x n none ls (Some line) y after = ⊥
ReadsAs x n (found f us) ls None y after = ⊥
ReadsAs x n (found f us) ls (Some line) y after = ReadsTree x n f us ls line y after
