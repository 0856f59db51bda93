-- The loops over the lines, turn by turn: none is read, one more is, one is malformed, all are read. Assumes nothing.
use Prim.Native.Nat.{ℕ, ◌+◌, ◌<◌, ◌≤◌}
use mathlib.Core.Path.{◌≡◌, refl, sym, ◌∙◌, ap}
use mathlib.Core.Bool.{Bool, true, false, not}
use mathlib.Core.List.{List, [], ◌∷◌, ◌++◌}
use native.Mathlib.Numerals.{add-one}
use native.Mathlib.Omega.{arith}
use borrow.Author.Count.{below_none, below_more}
use lib.ListN.{length}
use Rattle.std.proofs.Common.{Ok, Err}
use Rattle.law.specs.Bounded.{first}
use Rattle.law.specs.Lists.{tab, from}
use Rattle.law.proofs.Bounded.{first_fails, first_none_fails, first_le}
use Rattle.law.proofs.Lists.{tab_length, tab_more}
use Rattle.layout.specs.Lines.{right_after}
use Rattle.layout.proofs.LinesLaws.{right_first}
use Rattle.job.specs.declared.refusal.Refusal.TheVariants.{MalformedLine}
use Rattle.line_reader.specs.LinesRead.{Lines, formed_lines, LinesRead, right_lines}

module _ {L K : Type 0} (lines : Lines L K) where
  -- The first n lines are well-formed, what they say is laid, and this is kept after them.
  pub record SoFar (n : ℕ) (kept : K) (m : List L) : Type 0 where
    pub formed_all : (i : ℕ) → i < n → lines.is_formed i ≡ true
    pub kept_is : kept ≡ lines.kept_after n
    pub laid : m ≡ tab lines.says n

  pub none_read : (kept : K) (m : List L) → m ≡ [] → kept ≡ lines.kept_after 0 → SoFar 0 kept m
  unfolding tab from
  none_read kept m empty e = record { formed_all = below_none _; kept_is = e; laid = empty }

  module _ (n : ℕ) (kept : K) (m : List L) (so : SoFar n kept m) where
    pub so_many : length m ≡ n
    so_many = ap length so.laid ∙ tab_length lines.says n

    pub line_read :
        (next : K) (line : L) (after : List L)
        → lines.is_formed n ≡ true
        → next ≡ lines.kept_after (n + 1)
        → after ≡ m ++ line ∷ []
        → line ≡ lines.says n
        → SoFar (n + 1) next after
    line_read next line after f e pushed says =
        record {
          formed_all = below_more _ n so.formed_all f;
          kept_is = e;
          laid = pushed ∙ rw (add-one n, tab_more lines.says n, so.laid, says);
        }

    pub stopped :
        (line : ℕ) → line ≡ lines.number + n → n < lines.count → lines.is_formed n ≡ false
        → LinesRead lines m (Err (record { why = MalformedLine line; kept = kept }))
    stopped line is l f =
        let at : formed_lines lines ≡ n = first_fails lines.is_formed lines.count n l so.formed_all f in
        record {
          told = (omega (arith, at), ap MalformedLine (omega (arith, is, at)), so.kept_is ∙ ap lines.kept_after (sym at));
          laid = so.laid ∙ ap (tab lines.says) (sym at);
        }

    pub all_read : n ≡ lines.count → LinesRead lines m (Ok kept)
    all_read e =
        let at : formed_lines lines ≡ lines.count = first_none_fails lines.is_formed lines.count (λ i l. so.formed_all i (omega arith)) in
        record {
          told = (at, so.kept_is ∙ ap lines.kept_after e);
          laid = so.laid ∙ ap (tab lines.says) (e ∙ sym at);
        }

-- How many of the lines so far are right before the first that is not, with one line more.
pub right_none : (is_right : ℕ → Bool) → 0 ≡ right_lines is_right 0
unfolding first
right_none is_right = refl

module _ (is_right : ℕ → Bool) (n right : ℕ) where
  pub right_few : right ≡ right_lines is_right n → right ≤ n
  right_few e = omega (arith, e, first_le (λ i. not (is_right i)) n)

  pub right_next :
      (next : ℕ) (ok : Bool) → right ≡ right_lines is_right n → ok ≡ is_right n → next ≡ right_after right n ok → next ≡ right_lines is_right (n + 1)
  right_next next ok e o is = is ∙ rw (e, o) (right_first is_right n) ∙ ap (right_lines is_right) (sym (add-one n))
