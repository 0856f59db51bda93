-- Reading a part of a rule, in general: what comes of it goes along with the parse. Assumes nothing.
use Prim.Native.Nat.{ℕ, ◌+◌, ◌≤◌}
use mathlib.Core.Path.{◌≡◌, refl, sym, ap, subst}
use mathlib.Core.List.{List}
use Rattle.std.proofs.Common.{Some, None}
use Rattle.std.specs.Prelude.{Option}
use Rattle.text.specs.Field.{Text}
use Rattle.rule_text.specs.Tree.{Tree}
use Rattle.rule_text.specs.Lines.{rewritten}
use Rattle.rule_text.specs.Kept.{kept}
use Rattle.rule_text.specs.Scan.{tokens}
use Rattle.rule_text.specs.Parse.{Parse, none, found, and_then}
use Rattle.rule_text.specs.declared.token.Token.{Token}
use Rattle.scanner.specs.Scanned.{Left}
use Rattle.scanner.proofs.ScanLaws.{left_then}
use Rattle.rule_lines.specs.Held.{KeptAs}
use Rattle.rule_reader.specs.Reads.{ReadsAs}

-- A part was read behind at least n bytes: the parse up to what is left, and the lines.
pub record PartRead (x : Text) (n : ℕ) (ls : List (List ℕ)) (p : Parse) (line : ℕ) (y : Text) (after : List (List ℕ)) : Type 0 where
  pub tree : Tree
  pub parses : p ≡ found tree (tokens y)
  pub left : Left n x y
  pub leaves : KeptAs (kept (rewritten tree) ls) line after

module _ (x : Text) (n : ℕ) (ls : List (List ℕ)) where
  pub reads_is : (p q : Parse) (r : Option ℕ) (y : Text) (after : List (List ℕ)) → p ≡ q → ReadsAs x n q ls r y after → ReadsAs x n p ls r y after
  reads_is p q r y after e = subst (λ i. ReadsAs x n i ls r y after) (sym e)

  pub reads_none : (p : Parse) (y : Text) (after : List (List ℕ)) → p ≡ none → ReadsAs x n p ls None y after
  unfolding ReadsAs
  reads_none p y after e = reads_is p none None y after e tt

  pub reads_parsed : (p : Parse) (line : ℕ) (y : Text) (after : List (List ℕ)) → PartRead x n ls p line y after → ReadsAs x n p ls (Some line) y after
  unfolding ReadsAs
  reads_parsed p line y after it =
      reads_is p (found it.tree (tokens y)) (Some line) y after it.parses (record { rest = refl; left = it.left; leaves = it.leaves })

  -- Nothing was read, so there is no parse.
  pub missing_parse : (p : Parse) (y : Text) (after : List (List ℕ)) → ReadsAs x n p ls None y after → p ≡ none
  unfolding ReadsAs
  missing_parse none y after h = refl
  missing_parse (found f us) y after h = absurd h

  pub part_read : (p : Parse) (line : ℕ) (y : Text) (after : List (List ℕ)) → ReadsAs x n p ls (Some line) y after → PartRead x n ls p line y after
  unfolding ReadsAs
  part_read none line y after h = absurd h
  part_read (found f us) line y after h =
      record { tree = f; parses = ap (found f) (sym h.rest); left = h.left; leaves = h.leaves }

  -- What goes on with the part.
  pub then_none :
      (p : Parse) (y : Text) (after : List (List ℕ)) (next : Tree → List Token → Parse)
      → ReadsAs x n p ls None y after
      → and_then p next ≡ none
  unfolding and_then
  then_none p y after next is = ap (λ i. and_then i next) (missing_parse p y after is)

  pub then_found :
      (p : Parse) (line : ℕ) (y : Text) (after : List (List ℕ)) (next : Tree → List Token → Parse) (it : PartRead x n ls p line y after)
      → and_then p next ≡ next it.tree (tokens y)
  unfolding and_then
  then_found p line y after next it = ap (λ i. and_then i next) it.parses

-- What was read of y was read of x, of which y is left.
pub reads_behind :
    (x y : Text) (k m n : ℕ) (p : Parse) (ls : List (List ℕ)) (r : Option ℕ) (z : Text) (after : List (List ℕ))
    → k ≤ m + n
    → Left m x y
    → ReadsAs y n p ls r z after
    → ReadsAs x k p ls r z after
unfolding ReadsAs
reads_behind x y k m n none ls None z after l b h = h
reads_behind x y k m n none ls (Some line) z after l b h = h
reads_behind x y k m n (found f us) ls None z after l b h = h
reads_behind x y k m n (found f us) ls (Some line) z after l b h =
    record { rest = h.rest; left = left_then k m n x y z l b h.left; leaves = h.leaves }
