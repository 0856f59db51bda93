-- Document 01, "Fragments and cells": "A node's fragment is the states that it owns and their successors, with the edges that
-- leave owned states (source document 003, definition 7). A border state is a state of a fragment with no edge out of it in
-- that fragment (definition 1 there)." Assumes nothing.
use Rattle.std.specs.Prelude.{ℕ, Bool, not, ◌&&◌, ◌||◌, ltb, eqb}
use Rattle.law.specs.Lists.{some}
use Rattle.job.specs.Job.{Job, size, owner}

-- Node n owns state s.
unfoldable pub owns : Job → ℕ → ℕ → Bool
owns J n s = ltb s (size J) && eqb (owner J s) n

-- State s is in the fragment of node n.
unfoldable pub in_fragment : Job → ℕ → ℕ → Bool
in_fragment J n s = owns J n s || some (λ e. owns J n e.from && eqb e.to s) J.structure.edges

-- The fragment of node n has an edge out of s.
unfoldable pub edge_out : Job → ℕ → ℕ → Bool
edge_out J n s = some (λ e. owns J n e.from && eqb e.from s) J.structure.edges

unfoldable pub border : Job → ℕ → ℕ → Bool
border J n s = in_fragment J n s && not (edge_out J n s)

-- A state of the fragment that is not border.
unfoldable pub inner : Job → ℕ → ℕ → Bool
inner J n s = in_fragment J n s && edge_out J n s
