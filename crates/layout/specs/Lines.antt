-- Where lines stand, and how far they are right. Assumes nothing.
use Rattle.std.specs.Prelude.{ℕ, ◌+◌, ◌-◌, ◌*◌, Bool, cond, ◌&&◌, leb, eqb, Option, Some, None}
use Rattle.text.specs.Field.{Text}
use Rattle.job.specs.Layout.{fields_of, line_at}
use Rattle.job.specs.Read.{has_line}
use Rattle.layout.specs.declared.lines.Part.{Part}

-- Line l of a text in which `pairs` lines behind line 1 have two fields, a state's or an edge's, and those behind them three: how many fields
-- it has, and where it begins.
unfoldable pub fields_in : ℕ → ℕ → ℕ
fields_in pairs l = cond (leb l 1) 4 (cond (leb l (1 + pairs)) 2 3)

unfoldable pub start_of : ℕ → ℕ → ℕ
start_of pairs l = cond (leb l 1) 0 (cond (leb l (1 + pairs)) (21 + 11 * (l - 2)) (21 + 11 * pairs + 16 * (l - (2 + pairs))))

-- The part of the text that is line l, if there is such a line.
unfoldable pub part_of : Text → ℕ → Option Part
part_of t l = cond (has_line t l) (Some (record { start = line_at t l; size = 5 * fields_of t l })) None

-- How many lines are right before the first that is not, where `right` of the first `lines` are and the next one is right or not.
unfoldable pub right_after : ℕ → ℕ → Bool → ℕ
right_after right lines ok = cond (eqb right lines && ok) (right + 1) right
