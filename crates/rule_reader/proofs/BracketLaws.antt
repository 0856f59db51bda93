-- Closed forms with brackets: what is parsed mark by mark, and expression by expression. Assumes nothing.
use Prim.Native.Nat.{ℕ}
use mathlib.Core.Path.{◌≡◌, refl, ◌∙◌}
use mathlib.Core.Bool.{Bool, true, false}
use mathlib.Core.List.{List, [], ◌∷◌}
use native.Mathlib.Omega.{arith}
use Rattle.std.proofs.Common.{Some, None}
use Rattle.law.proofs.Bool.{cond_false}
use Rattle.text.specs.Field.{Text}
use Rattle.job.specs.Rule.{quantifier}
use Rattle.job.specs.Formula.{fields}
use Rattle.rule_text.specs.Tree.{Tree, until}
use Rattle.rule_text.specs.Token.{same_mark}
use Rattle.rule_text.specs.Lines.{rewritten, until_line}
use Rattle.rule_text.specs.Kept.{keep, kept}
use Rattle.rule_text.specs.Scan.{tokens}
use Rattle.rule_text.specs.Grammar.{whole_rule}
use Rattle.rule_text.specs.Parse.{Parse, none, found, and_then, behind, parse, read_step, expression, parenthesized, until_form}
use Rattle.rule_text.specs.declared.token.Mark.{Mark as MarkKind}
use Rattle.rule_text.specs.declared.token.Mark.TheVariants.{Until, RightParenthesis, LeftBracket, RightBracket}
use Rattle.rule_text.specs.declared.token.Token.{Token}
use Rattle.rule_text.specs.declared.token.Token.TheVariants.{Atom, Prefix, Operator, Mark, Unknown}
use Rattle.rule_text.proofs.MarkLaws.{mark_itself}
use Rattle.rule_text.proofs.Descent.{parse_step}
use Rattle.scanner.specs.Scanned.{Left}
use Rattle.scanner.proofs.ScanLaws.{left_then}
use Rattle.rule_lines.specs.Held.{KeptAs}
use Rattle.rule_places.specs.Places.{starts_with_mark, Passes}
use Rattle.rule_reader.specs.Reads.{until_kind, ReadsAs}
use Rattle.rule_reader.proofs.ReadsLaws.{reads_none, reads_parsed, part_read, then_none, then_found}

-- A mark that is expected.
behind_other : (m : MarkKind) (ts : List Token) (next : List Token → Parse) → starts_with_mark m ts ≡ false → behind m ts next ≡ none
unfolding behind starts_with_mark
behind_other m [] next e = refl
behind_other m (Atom j ∷ ts) next e = refl
behind_other m (Prefix p ∷ ts) next e = refl
behind_other m (Operator o ∷ ts) next e = refl
behind_other m (Mark n ∷ ts) next e = cond_false (same_mark n m) (next ts) none e
behind_other m (Unknown ∷ ts) next e = refl

behind_same : (m : MarkKind) (ts us : List Token) (next : List Token → Parse) → ts ≡ Mark m ∷ us → behind m ts next ≡ next us
unfolding behind
behind_same m ts us next e = rw e (simp (mark_itself m))

-- The expression that a text starts with.
abbrev expression_of : Text → Parse
expression_of x = parse (expression whole_rule) (tokens x)

-- Behind `(`.
module _ (x : Text) (ls : List (List ℕ)) where
  abbrev closing : Tree → List Token → Parse
  closing f us = behind RightParenthesis us (λ vs. found f vs)

  abbrev bracketed : Parse
  bracketed = parse parenthesized (tokens x)

  parenthesized_step : bracketed ≡ and_then (expression_of x) closing
  unfolding read_step
  parenthesized_step = parse_step parenthesized (tokens x)

  pub reads_empty_parentheses :
      (y z : Text) (m after : List (List ℕ)) → ReadsAs x 1 (expression_of x) ls None y m → ReadsAs x 0 bracketed ls None z after
  reads_empty_parentheses y z m after inner = reads_none x 0 ls _ z after (parenthesized_step ∙ then_none x 1 ls _ y m closing inner)

  module _ (line : ℕ) (y : Text) (m : List (List ℕ)) (inner : ReadsAs x 1 (expression_of x) ls (Some line) y m) where
    pub reads_unclosed :
        (z : Text) (after : List (List ℕ)) → starts_with_mark RightParenthesis (tokens y) ≡ false → ReadsAs x 0 bracketed ls None z after
    reads_unclosed z after n =
        let it = part_read x 1 ls _ line y m inner in
        reads_none x 0 ls _ z after
        (parenthesized_step ∙ then_found x 1 ls _ line y m closing it ∙ behind_other RightParenthesis (tokens y) _ n)

    pub reads_parenthesized : (z : Text) → Passes y (Mark RightParenthesis) z → ReadsAs x 0 bracketed ls (Some line) z m
    reads_parenthesized z p =
        let it = part_read x 1 ls _ line y m inner in
        reads_parsed x 0 ls _ _ z m
        (record {
          tree = it.tree;
          parses =
              parenthesized_step
              ∙ then_found x 1 ls _ line y m closing it
              ∙ behind_same RightParenthesis (tokens y) (tokens z) _ p.first;
          left = left_then 0 1 1 x y z (omega arith) it.left p.left;
          leaves = it.leaves;
        })

-- Behind `A` or `E`: the numbers of the operator's line, and what is kept.
pub until_fields : (all : Bool) (a b : ℕ) → fields (until_line (quantifier all) a b) ≡ until_kind all ∷ a ∷ b ∷ []
unfolding fields until_line until_kind
until_fields true a b = refl
until_fields false a b = refl

until_leaves :
    (all : Bool) (f g : Tree) (ls m n : List (List ℕ)) (a b : ℕ)
    → KeptAs (kept (rewritten f) ls) a m
    → KeptAs (kept (rewritten g) m) b n
    → (k : ℕ) (after : List (List ℕ))
    → KeptAs (keep (fields (until_line (quantifier all) a b)) n) k after
    → KeptAs (kept (rewritten (until (quantifier all) f g)) ls) k after
unfolding kept rewritten
until_leaves all f g ls m n a b u w k after h = rw (w.lines, w.number, u.lines, u.number) at h

module _ (x : Text) (all : Bool) (ls : List (List ℕ)) where
  abbrev whole : Parse
  whole = parse (until_form (quantifier all)) (tokens x)

  abbrev closed : Tree → Tree → List Token → Parse
  closed f g us = behind RightBracket us (λ vs. found (until (quantifier all) f g) vs)

  abbrev second : Tree → List Token → Parse
  second f us = behind Until us (λ vs. and_then (parse (expression whole_rule) vs) (closed f))

  abbrev first : List Token → Parse
  first us = and_then (parse (expression whole_rule) us) second

  until_step : whole ≡ behind LeftBracket (tokens x) first
  unfolding read_step
  until_step = parse_step (until_form (quantifier all)) (tokens x)

  pub reads_no_opening : (z : Text) (after : List (List ℕ)) → starts_with_mark LeftBracket (tokens x) ≡ false → ReadsAs x 0 whole ls None z after
  reads_no_opening z after n = reads_none x 0 ls _ z after (until_step ∙ behind_other LeftBracket (tokens x) first n)

  -- The left operand was read.
  pub record LeftRead (a : ℕ) (y : Text) (m : List (List ℕ)) : Type 0 where
    pub tree : Tree
    pub parses : whole ≡ second tree (tokens y)
    pub left : Left 1 x y
    pub leaves : KeptAs (kept (rewritten tree) ls) a m

  module _ (s : Text) (opening : Passes x (Mark LeftBracket) s) (y : Text) (m : List (List ℕ)) where
    opened_step : whole ≡ first (tokens s)
    opened_step = until_step ∙ behind_same LeftBracket (tokens x) (tokens s) first opening.first

    pub reads_no_left : (z : Text) (after : List (List ℕ)) → ReadsAs s 1 (expression_of s) ls None y m → ReadsAs x 0 whole ls None z after
    reads_no_left z after left = reads_none x 0 ls _ z after (opened_step ∙ then_none s 1 ls _ y m second left)

    pub left_read : (a : ℕ) → ReadsAs s 1 (expression_of s) ls (Some a) y m → LeftRead a y m
    left_read a left =
        let it = part_read s 1 ls _ a y m left in
        record {
          tree = it.tree;
          parses = opened_step ∙ then_found s 1 ls _ a y m second it;
          left = left_then 1 1 1 x s y (omega arith) opening.left it.left;
          leaves = it.leaves;
        }

  -- The right operand was read too.
  pub record BothRead (a b : ℕ) (y : Text) (n : List (List ℕ)) : Type 0 where
    pub tree : Tree
    pub parses : whole ≡ behind RightBracket (tokens y) (λ vs. found tree vs)
    pub left : Left 1 x y
    pub leaves :
        (k : ℕ) (after : List (List ℕ))
        → KeptAs (keep (fields (until_line (quantifier all) a b)) n) k after
        → KeptAs (kept (rewritten tree) ls) k after

  module _ (a : ℕ) (y : Text) (m : List (List ℕ)) (before : LeftRead a y m) where
    pub reads_no_until : (z : Text) (after : List (List ℕ)) → starts_with_mark Until (tokens y) ≡ false → ReadsAs x 0 whole ls None z after
    reads_no_until z after n = reads_none x 0 ls _ z after (before.parses ∙ behind_other Until (tokens y) _ n)

    module _ (v : Text) (between : Passes y (Mark Until) v) (w : Text) (n : List (List ℕ)) where
      middle_step : whole ≡ and_then (expression_of v) (closed before.tree)
      middle_step = before.parses ∙ behind_same Until (tokens y) (tokens v) _ between.first

      pub reads_no_right : (z : Text) (after : List (List ℕ)) → ReadsAs v 1 (expression_of v) m None w n → ReadsAs x 0 whole ls None z after
      reads_no_right z after right = reads_none x 0 ls _ z after (middle_step ∙ then_none v 1 m _ w n (closed before.tree) right)

      pub both_read : (b : ℕ) → ReadsAs v 1 (expression_of v) m (Some b) w n → BothRead a b w n
      both_read b right =
          let it = part_read v 1 m _ b w n right in
          record {
            tree = until (quantifier all) before.tree it.tree;
            parses = middle_step ∙ then_found v 1 m _ b w n (closed before.tree) it;
            left = left_then 1 2 1 x v w (omega arith) (left_then 2 1 1 x y v (omega arith) before.left between.left) it.left;
            leaves = until_leaves all before.tree it.tree ls m n a b before.leaves it.leaves;
          }

  module _ (a b : ℕ) (y : Text) (n : List (List ℕ)) (both : BothRead a b y n) where
    pub reads_no_closing : (z : Text) (after : List (List ℕ)) → starts_with_mark RightBracket (tokens y) ≡ false → ReadsAs x 0 whole ls None z after
    reads_no_closing z after e = reads_none x 0 ls _ z after (both.parses ∙ behind_other RightBracket (tokens y) _ e)

    pub reads_until :
        (z : Text) (k : ℕ) (after : List (List ℕ))
        → Passes y (Mark RightBracket) z
        → KeptAs (keep (fields (until_line (quantifier all) a b)) n) k after
        → ReadsAs x 0 whole ls (Some k) z after
    reads_until z k after last keeps =
        reads_parsed x 0 ls _ _ z after
        (record {
          tree = both.tree;
          parses = both.parses ∙ behind_same RightBracket (tokens y) (tokens z) _ last.first;
          left = left_then 0 1 1 x y z (omega arith) both.left last.left;
          leaves = both.leaves k after keeps;
        })
