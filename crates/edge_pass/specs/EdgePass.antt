-- Document 02 (iv), "One walk over the edge lines": "However questions 6 and 7 are asked now, ask both in one pass, with the same number and line
-- for each text. What the pass keeps after an edge line, at most 1,024 bytes, follows from what it kept before and from that line alone; both
-- answers follow from what it keeps after the last." The types `Order` and `Kept` are those of `src/lib.rt`. Assumes nothing.
use Rattle.std.specs.Prelude.{ℕ, zero, suc, ◌+◌, Bool, true, false, not, ◌&&◌, ◌||◌, List, get_or, set, replicate, ltb, eqb}
use Rattle.law.specs.Bounded.{first}
use Rattle.text.specs.Field.{Text}
use Rattle.job.specs.Layout.{states, edges, source_field, target_field}
use Rattle.job.specs.Question.{Question}
use Rattle.job.specs.Questions.{less}
use Rattle.layout.specs.Lines.{right_after}
use Rattle.edge_pass.specs.declared.Order.{Order}
use Rattle.edge_pass.specs.declared.Kept.{Kept}

-- Before the first edge line: line 1 has told the number of states.
unfoldable pub start : ℕ → Kept
start S =
    record {
      order = record { states = S; lines = 0; right = 0; source = 0; target = 0 };
      starts = replicate 256 false;
    }

-- "Are both ends below S, and is the pair greater than the pair before?", of a line with the numbers a and b that comes next.
unfoldable pub is_right : Order → ℕ → ℕ → Bool
is_right o a b = ltb a o.states && ltb b o.states && (eqb o.lines 0 || less o.source o.target a b)

-- For question 6, what is kept after that line.
unfoldable pub order_after : Order → ℕ → ℕ → Order
order_after o a b =
    record {
      states = o.states;
      lines = o.lines + 1;
      right = right_after o.right o.lines (is_right o a b);
      source = a;
      target = b;
    }

-- All that is kept after it: the state that it starts from is marked, if it is one of 256 (past the end `set` changes nothing).
unfoldable pub after : Kept → ℕ → ℕ → Kept
after k a b = record { order = order_after k.order a b; starts = set k.starts a true }

-- What is kept after the first edge lines of a text, and after the last.
unfoldable pub kept_after : Text → ℕ → Kept
kept_after t zero = start (states t)
kept_after t (suc e) = after (kept_after t e) (source_field t e) (target_field t e)

unfoldable pub kept_of : Text → Kept
kept_of t = kept_after t (edges t)

-- The lowest of S states that is not marked, which no line starts from (a terminal state), and S where all are.
unfoldable pub terminal_state : List Bool → ℕ → ℕ
terminal_state starts S = first (λ s. not (get_or starts s false)) S

-- Both answers. Question 6 reports the first line that fails, question 7 the line of the lowest state that no line starts from.
unfoldable pub question6 : Kept → Question
question6 k = record { number = 6; line = 2 + k.order.states + k.order.right; test = eqb k.order.right k.order.lines }

unfoldable pub question7 : Kept → Question
question7 k =
    let terminal = terminal_state k.starts k.order.states in
    record { number = 7; line = 2 + terminal; test = eqb terminal k.order.states }
