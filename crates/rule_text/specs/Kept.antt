-- The lines as the code keeps them: the numbers of each, and none behind the 33rd, since more than 32 lines are refused. That these are the
-- rule's lines, or 33 where the rule has more than 32, is a theorem; nothing that a reader must believe is here. Assumes nothing.
use Rattle.std.specs.Prelude.{ℕ, suc, cond, ◌||◌, List, [], ◌∷◌, ◌++◌, length, ltb}
use Rattle.job.specs.Formula.{fields}
use Rattle.job.specs.declared.subformula.Subformula.TheVariants as kind
use Rattle.rule_text.specs.Lines.{Basic, atom, prefix, both, until, prefix_line, until_line, equal}

-- The number of the first line that is equal to l, how many lines there are if none is.
unfoldable pub find : List ℕ → List (List ℕ) → ℕ
find l [] = 0
find l (m ∷ ms) = cond (equal l m) 0 (suc (find l ms))

pub record Kept : Type 0 where
  pub lines : List (List ℕ)
  pub number : ℕ

unfoldable pub keep : List ℕ → List (List ℕ) → Kept
keep l ls =
    let n = find l ls in
    record { lines = cond (ltb n (length ls) || ltb 32 (length ls)) ls (ls ++ (l ∷ [])); number = n }

unfoldable pub kept : Basic → List (List ℕ) → Kept
kept (atom j) ls = keep (fields (kind.Atom j)) ls
kept (prefix p f) ls =
    let v = kept f ls in
    keep (fields (prefix_line p v.number)) v.lines
kept (both f g) ls =
    let v = kept f ls in
    let w = kept g v.lines in
    keep (fields (kind.And v.number w.number)) w.lines
kept (until q f g) ls =
    let v = kept f ls in
    let w = kept g v.lines in
    keep (fields (until_line q v.number w.number)) w.lines
