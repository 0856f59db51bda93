-- How a set of states spreads against the edges of one node: what every set rule of a cell comes to. Assumes nothing.
use Rattle.std.specs.Prelude.{ℕ, ◌≡◌, true, cond, ◌&&◌, ◌||◌, List, map, length, get_or, eqb}
use Rattle.law.specs.Fixpoint.{Rule, member, least}
use Rattle.job.specs.Job.{Job, Structure, Quantifier, over}
use Rattle.cells.specs.Fragment.{inner}
use Rattle.spread.specs.declared.mark.Mark.{Mark}
use Rattle.spread.specs.declared.mark.Mark.TheVariants.{Out, May, In}

-- A mark's number, and the numbers of marks.
abbrev pub mark_number : Mark → ℕ
mark_number Out = 0
mark_number May = 1
mark_number In = 2

abbrev pub numbers : List Mark → List ℕ
numbers marks = map mark_number marks

-- A mark is 2 for a state in the set, 1 for one that may join, anything else for one that stays out. A state that may join
-- does where that many of its successors are in the set.
unfoldable pub spread_rule : Structure → Quantifier → List ℕ → Rule
spread_rule M q marks X s = eqb (get_or marks s 0) 2 || (eqb (get_or marks s 0) 1 && over M q s X)

-- Only states that are not border in node n's fragment may join: then every edge that matters is the node's.
pub record Joinable (J : Job) (n : ℕ) (marks : List ℕ) : Type 0 where
  pub long : length marks ≡ 256
  pub inside : (s : ℕ) → get_or marks s 0 ≡ 1 → inner J n s ≡ true

-- The states of the least set have mark 2 then, and every other mark stays.
pub record Spread (M : Structure) (q : Quantifier) (marks after : List ℕ) : Type 0 where
  pub long : length after ≡ 256
  pub at_state : (s : ℕ) → get_or after s 0 ≡ cond (member (least (spread_rule M q marks) (length M.labels)) s) 2 (get_or marks s 0)
