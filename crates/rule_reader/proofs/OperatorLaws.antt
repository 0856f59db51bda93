-- An expression: operands joined by operators that are strong enough, taken one after the other. Assumes nothing.
use Prim.Native.Nat.{ℕ, ◌≤◌}
use mathlib.Core.Path.{◌≡◌, refl, sym, ap, ◌∙◌}
use mathlib.Core.List.{List, ◌∷◌}
use native.Mathlib.Omega.{arith}
use lib.Dec.{leb}
use borrow.Author.Tests.{le-leb}
use Rattle.std.proofs.Common.{Some, None}
use Rattle.law.proofs.Bool.{cond_true}
use Rattle.text.specs.Field.{Text}
use Rattle.rule_text.specs.Tree.{Tree, binary}
use Rattle.rule_text.specs.Lines.{rewritten}
use Rattle.rule_text.specs.Kept.{kept}
use Rattle.rule_text.specs.Scan.{tokens}
use Rattle.rule_text.specs.Grammar.{strength, right_level}
use Rattle.rule_text.specs.Parse.{Parse, none, and_then, parse, read_step, read_operators, taking, expression, operators, prefix_form}
use Rattle.rule_text.specs.declared.token.Operator.{Operator as BinaryOperator}
use Rattle.rule_text.specs.declared.token.Token.{Token}
use Rattle.rule_text.specs.declared.token.Token.TheVariants.{Operator}
use Rattle.rule_text.proofs.Descent.{parse_step}
use Rattle.rule_text.proofs.Levels.{Ends}
use Rattle.rule_text.proofs.Complete.{operators_end}
use Rattle.scanner.specs.Scanned.{Left}
use Rattle.scanner.proofs.ScanLaws.{left_then}
use Rattle.rule_lines.specs.Held.{KeptAs}
use Rattle.rule_lines.specs.Joining.{left_kept, join_kept}
use Rattle.rule_lines.proofs.JoiningLaws.{joining_kept}
use Rattle.rule_places.specs.Places.{Infixes}
use Rattle.rule_reader.specs.Reads.{ReadsAs}
use Rattle.rule_reader.proofs.ReadsLaws.{reads_none, reads_parsed, part_read, then_none, then_found}

expression_step :
    (least : ℕ) (ts : List Token) → parse (expression least) ts ≡ and_then (parse prefix_form ts) (λ f us. parse (operators least f) us)
unfolding read_step
expression_step least ts = parse_step (expression least) ts

-- A strong operator stands first.
operator_step :
    (least : ℕ) (f : Tree) (o : BinaryOperator) (ts us : List Token)
    → ts ≡ Operator o ∷ us
    → least ≤ strength o
    → parse (operators least f) ts ≡ and_then (parse (expression (right_level o)) us) (λ g vs. parse (operators least (binary o f g)) vs)
unfolding read_step read_operators taking
operator_step least f o ts us e l =
    parse_step (operators least f) ts ∙ ap (read_operators parse least f) e ∙ cond_true (leb least (strength o)) _ _ (le-leb least (strength o) l)

-- The lines of a joined rule, kept step by step.
binary_leaves :
    (o : BinaryOperator) (f g : Tree) (ls : List (List ℕ)) (l a b n : ℕ) (m₀ m₁ m₂ m₃ : List (List ℕ))
    → KeptAs (kept (rewritten f) ls) l m₀
    → KeptAs (left_kept o l m₀) a m₁
    → KeptAs (kept (rewritten g) m₁) b m₂
    → KeptAs (join_kept o a b m₂) n m₃
    → KeptAs (kept (rewritten (binary o f g)) ls) n m₃
unfolding rewritten
binary_leaves o f g ls l a b n m₀ m₁ m₂ m₃ u v w h =
    rw (joining_kept o (rewritten f) (rewritten g) ls)
    (rw (w.lines, w.number, v.lines, v.number, u.lines, u.number) at h)

-- The left operand so far: whatever the first operand was, the operators behind it are those behind what `line` stands for now.
pub record Joined (x : Text) (least : ℕ) (y₀ : Text) (lines₀ : List (List ℕ)) (line₀ : ℕ) (y : Text) (lines : List (List ℕ)) (line : ℕ) : Type 0 where
  pub left : Left 1 x y
  pub reads :
      (f₀ : Tree) (ls : List (List ℕ))
      → KeptAs (kept (rewritten f₀) ls) line₀ lines₀
      → (f : Tree)
      × (parse (operators least f₀) (tokens y₀) ≡ parse (operators least f) (tokens y))
      × KeptAs (kept (rewritten f) ls) line lines

module _ (x : Text) (least : ℕ) (y₀ : Text) (lines₀ : List (List ℕ)) (line₀ : ℕ) where
  pub joined_start : Left 1 x y₀ → Joined x least y₀ lines₀ line₀ y₀ lines₀ line₀
  joined_start l = record { left = l; reads = λ f₀ ls k. (f₀, refl, k) }

  -- One operator more.
  module _ (y : Text) (lines : List (List ℕ)) (line : ℕ) (j : Joined x least y₀ lines₀ line₀ y lines line)
      (o : BinaryOperator) (right : ℕ) (z : Text) (follows : Infixes y least o right z)
      (m₁ : List (List ℕ)) (w : Text) (m₂ : List (List ℕ)) where
    abbrev more : Tree → Tree → List Token → Parse
    more f g us = parse (operators least (binary o f g)) us

    taken_step : (f : Tree) → parse (operators least f) (tokens y) ≡ and_then (parse (expression right) (tokens z)) (more f)
    taken_step f =
        operator_step least f o (tokens y) (tokens z) follows.passes.first follows.strong
        ∙ ap (λ l. and_then (parse (expression l) (tokens z)) (more f)) (sym follows.level)

    pub taken_none : (f : Tree) → ReadsAs z 1 (parse (expression right) (tokens z)) m₁ None w m₂ → parse (operators least f) (tokens y) ≡ none
    taken_none f is = taken_step f ∙ then_none z 1 m₁ _ w m₂ (more f) is

    pub joined_next :
        (a b n : ℕ) (m₃ : List (List ℕ))
        → KeptAs (left_kept o line lines) a m₁
        → ReadsAs z 1 (parse (expression right) (tokens z)) m₁ (Some b) w m₂
        → KeptAs (join_kept o a b m₂) n m₃
        → Joined x least y₀ lines₀ line₀ w m₃ n
    joined_next a b n m₃ opened is joins =
        let it = part_read z 1 m₁ _ b w m₂ is in
        record {
          left = left_then 1 2 1 x z w (omega arith) (left_then 2 1 1 x y z (omega arith) j.left follows.passes.left) it.left;
          reads = λ f₀ ls first.
              let (f, same, before) = j.reads f₀ ls first in (
                binary o f it.tree,
                same ∙ taken_step f ∙ then_found z 1 m₁ _ b w m₂ (more f) it,
                binary_leaves o f it.tree ls line a b n lines m₁ m₂ m₃ before opened it.leaves joins,
              );
        }

-- The expression as a whole: its first operand, and where no operator follows.
module _ (x : Text) (least : ℕ) (ls : List (List ℕ)) (y₀ : Text) (m : List (List ℕ)) where
  abbrev whole : Parse
  whole = parse (expression least) (tokens x)

  abbrev behind_first : Tree → List Token → Parse
  behind_first f us = parse (operators least f) us

  pub reads_no_first : (z : Text) (after : List (List ℕ)) → ReadsAs x 1 (parse prefix_form (tokens x)) ls None y₀ m → ReadsAs x 1 whole ls None z after
  reads_no_first z after first = reads_none x 1 ls _ z after (expression_step least (tokens x) ∙ then_none x 1 ls _ y₀ m behind_first first)

  module _ (line₀ : ℕ) (first : ReadsAs x 1 (parse prefix_form (tokens x)) ls (Some line₀) y₀ m) where
    pub first_joined : Joined x least y₀ m line₀ y₀ m line₀
    first_joined = joined_start x least y₀ m line₀ (part_read x 1 ls _ line₀ y₀ m first).left

    module _ (y : Text) (lines : List (List ℕ)) (line : ℕ) (j : Joined x least y₀ m line₀ y lines line) where
      so_far : (f : Tree) × (whole ≡ parse (operators least f) (tokens y)) × KeptAs (kept (rewritten f) ls) line lines
      so_far =
          let it = part_read x 1 ls _ line₀ y₀ m first in
          let (f, same, leaves) = j.reads it.tree ls it.leaves in
          (f, expression_step least (tokens x) ∙ then_found x 1 ls _ line₀ y₀ m behind_first it ∙ same, leaves)

      pub reads_joined : Ends least (tokens y) → ReadsAs x 1 whole ls (Some line) y lines
      reads_joined n =
          let (f, same, leaves) = so_far in
          reads_parsed x 1 ls _ line y lines
          (record {
            tree = f;
            parses = same ∙ operators_end least f (tokens y) n;
            left = j.left;
            leaves = leaves;
          })

      pub reads_right_missing :
          (o : BinaryOperator) (right : ℕ) (z : Text) (m₁ : List (List ℕ)) (w : Text) (m₂ : List (List ℕ))
          → Infixes y least o right z
          → ReadsAs z 1 (parse (expression right) (tokens z)) m₁ None w m₂
          → (end : Text) (after : List (List ℕ))
          → ReadsAs x 1 whole ls None end after
      reads_right_missing o right z m₁ w m₂ follows is end after =
          let (f, same, leaves) = so_far in
          reads_none x 1 ls _ end after (same ∙ taken_none x least y₀ m line₀ y lines line j o right z follows m₁ w m₂ f is)
