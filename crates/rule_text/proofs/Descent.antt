-- The descent uses up tokens, and its fuel is enough: what is parsed is one step over what is parsed. Assumes nothing.
use Prim.Native.Nat.{ℕ, zero, suc, ◌+◌, ◌*◌, ◌≤◌, ◌<◌}
use mathlib.Core.Path.{◌≡◌, refl, ap, subst}
use mathlib.Core.Bool.{cond}
use mathlib.Core.List.{List, [], ◌∷◌}
use native.Mathlib.Nat.{not-suc-le-zero}
use native.Mathlib.Omega.{arith}
use lib.ListN.{length}
use lib.Dec.{leb}
use Rattle.job.specs.Job.{for_all, exists}
use Rattle.rule_text.specs.declared.token.Mark.{Mark as MarkKind}
use Rattle.rule_text.specs.declared.token.Mark.TheVariants.{ForAllPaths, OnSomePath, Until, LeftParenthesis, RightParenthesis, LeftBracket, RightBracket}
use Rattle.rule_text.specs.declared.token.Token.{Token}
use Rattle.rule_text.specs.declared.token.Token.TheVariants.{Atom, Prefix, Operator, Mark, Unknown}
use Rattle.rule_text.specs.Tree.{Tree, binary}
use Rattle.rule_text.specs.Grammar.{strength, right_level, whole_rule}
use Rattle.rule_text.specs.Parse.{Goal, expression, operators, prefix_form, closed_form, parenthesized, until_form}
use Rattle.rule_text.specs.Parse.{Parse, found, taking, read_operators, read_prefix, read_marked, read_closed, read_step}
use Rattle.rule_text.specs.Parse.{goal_rank, depth, read_within, parse}
use Rattle.rule_text.proofs.Gives.{Gives, gives_more, cond_gives, and_then_gives, behind_gives, and_then_same, behind_same}

-- How many tokens are used up at least.
abbrev pub used : Goal → ℕ
used (expression least) = 1
used (operators least f) = 0
used prefix_form = 1
used closed_form = 1
used parenthesized = 1
used (until_form q) = 1

-- k tokens are left fewer than n.
abbrev Leaves : ℕ → ℕ → Tree → List Token → Type 0
Leaves k n f us = length us + k ≤ n

-- A reader that uses up tokens.
abbrev Uses : (Goal → List Token → Parse) → Type 0
Uses read = (goal : Goal) (ts : List Token) → Gives (Leaves (used goal) (length ts)) (read goal ts)

-- So does a step over it.
module _ (read : Goal → List Token → Parse) (uses : Uses read) where
  found_shorter : (goal : Goal) (ts us : List Token) (f : Tree) → read goal ts ≡ found f us → length us + used goal ≤ length ts
  found_shorter goal ts us f e = subst (Gives (Leaves (used goal) (length ts))) e (uses goal ts)

  -- a further goal, at fewer tokens
  later_leaves : (k n : ℕ) (goal : Goal) (ts : List Token) → length ts + k ≤ n + used goal → Gives (Leaves k n) (read goal ts)
  later_leaves k n goal ts h =
      gives_more (Leaves (used goal) (length ts)) (Leaves k n) (read goal ts) (λ f us g. omega arith) (uses goal ts)

  operators_leave : (least : ℕ) (f : Tree) (ts : List Token) → Gives (Leaves 0 (length ts)) (read_operators read least f ts)
  unfolding read_operators taking
  operators_leave least f [] = omega arith
  operators_leave least f (Atom j ∷ ts) = omega arith
  operators_leave least f (Prefix p ∷ ts) = omega arith
  operators_leave least f (Operator o ∷ ts) =
      let n = suc (length ts) in
      cond_gives (Leaves 0 n) (leb least (strength o)) _ _
      (λ t.
      and_then_gives (Leaves 0 n) (read (expression (right_level o)) ts) _
      (λ g us e.
      let h = found_shorter (expression (right_level o)) ts us g e in
      later_leaves 0 n (operators least (binary o f g)) us (omega arith)))
      (λ t. omega arith)
  operators_leave least f (Mark m ∷ ts) = omega arith
  operators_leave least f (Unknown ∷ ts) = omega arith

  prefix_leaves : (ts : List Token) → Gives (Leaves 1 (length ts)) (read_prefix read ts)
  unfolding read_prefix
  prefix_leaves [] = tt
  prefix_leaves (Atom j ∷ ts) = uses closed_form (Atom j ∷ ts)
  prefix_leaves (Prefix p ∷ ts) =
      and_then_gives (Leaves 1 (suc (length ts))) (read prefix_form ts) _
      (λ f us e. let h = found_shorter prefix_form ts us f e in omega arith)
  prefix_leaves (Operator o ∷ ts) = uses closed_form (Operator o ∷ ts)
  prefix_leaves (Mark m ∷ ts) = uses closed_form (Mark m ∷ ts)
  prefix_leaves (Unknown ∷ ts) = uses closed_form (Unknown ∷ ts)

  marked_leaves : (m : MarkKind) (ts : List Token) → Gives (Leaves 1 (suc (length ts))) (read_marked read m ts)
  unfolding read_marked
  marked_leaves LeftParenthesis ts = later_leaves 1 (suc (length ts)) parenthesized ts (omega arith)
  marked_leaves ForAllPaths ts = later_leaves 1 (suc (length ts)) (until_form for_all) ts (omega arith)
  marked_leaves OnSomePath ts = later_leaves 1 (suc (length ts)) (until_form exists) ts (omega arith)
  marked_leaves RightParenthesis ts = tt
  marked_leaves LeftBracket ts = tt
  marked_leaves RightBracket ts = tt
  marked_leaves Until ts = tt

  closed_leaves : (ts : List Token) → Gives (Leaves 1 (length ts)) (read_closed read ts)
  unfolding read_closed
  closed_leaves [] = tt
  closed_leaves (Atom j ∷ ts) = omega arith
  closed_leaves (Prefix p ∷ ts) = tt
  closed_leaves (Operator o ∷ ts) = tt
  closed_leaves (Mark m ∷ ts) = marked_leaves m ts
  closed_leaves (Unknown ∷ ts) = tt

  step_uses : Uses (read_step read)
  unfolding read_step
  step_uses (expression least) ts =
      and_then_gives (Leaves 1 (length ts)) (read prefix_form ts) _
      (λ f us e. let h = found_shorter prefix_form ts us f e in later_leaves 1 (length ts) (operators least f) us (omega arith))
  step_uses (operators least f) ts = operators_leave least f ts
  step_uses prefix_form ts = prefix_leaves ts
  step_uses closed_form ts = closed_leaves ts
  step_uses parenthesized ts =
      and_then_gives (Leaves 1 (length ts)) (read (expression whole_rule) ts) _
      (λ f us e.
      let h = found_shorter (expression whole_rule) ts us f e in
      behind_gives (Leaves 1 (length ts)) RightParenthesis us _ (λ vs m. let g = ap length m in omega arith))
  step_uses (until_form q) ts =
      behind_gives (Leaves 1 (length ts)) LeftBracket ts _ (λ us left.
      and_then_gives (Leaves 1 (length ts)) (read (expression whole_rule) us) _ (λ f vs e.
      behind_gives (Leaves 1 (length ts)) Until vs _ (λ ws middle.
      and_then_gives (Leaves 1 (length ts)) (read (expression whole_rule) ws) _ (λ g xs d.
      behind_gives (Leaves 1 (length ts)) RightBracket xs _ (λ ys right.
      let h = found_shorter (expression whole_rule) us vs f e in
      let k = found_shorter (expression whole_rule) ws xs g d in
      omega (arith, ap length left, ap length middle, ap length right))))))

within_uses : (n : ℕ) → Uses (read_within n)
unfolding read_within
within_uses zero goal ts = tt
within_uses (suc n) goal ts = step_uses (read_within n) (within_uses n) goal ts

-- A step asks the reader only below its own depth.
module _
    (read other : Goal → List Token → Parse) (uses : Uses read) (d : ℕ)
    (same : (goal : Goal) (ts : List Token) → depth goal ts < d → read goal ts ≡ other goal ts) where
  operators_same :
      (least : ℕ) (f : Tree) (ts : List Token)
      → 4 * length ts ≤ d
      → read_operators read least f ts ≡ read_operators other least f ts
  unfolding read_operators taking depth goal_rank
  operators_same least f [] h = refl
  operators_same least f (Atom j ∷ ts) h = refl
  operators_same least f (Prefix p ∷ ts) h = refl
  operators_same least f (Operator o ∷ ts) h =
      ap (λ (p : Parse). cond (leb least (strength o)) p (found f (Operator o ∷ ts)))
      (and_then_same _ _ _ _ (same (expression (right_level o)) ts (omega arith))
      (λ g us e.
      let l = found_shorter read uses (expression (right_level o)) ts us g e in
      same (operators least (binary o f g)) us (omega arith)))
  operators_same least f (Mark m ∷ ts) h = refl
  operators_same least f (Unknown ∷ ts) h = refl

  prefix_same : (ts : List Token) → 4 * length ts < d → read_prefix read ts ≡ read_prefix other ts
  unfolding read_prefix depth goal_rank
  prefix_same [] h = refl
  prefix_same (Atom j ∷ ts) h = same closed_form (Atom j ∷ ts) (omega arith)
  prefix_same (Prefix p ∷ ts) h = and_then_same _ _ _ _ (same prefix_form ts (omega arith)) (λ f us e. refl)
  prefix_same (Operator o ∷ ts) h = same closed_form (Operator o ∷ ts) (omega arith)
  prefix_same (Mark m ∷ ts) h = same closed_form (Mark m ∷ ts) (omega arith)
  prefix_same (Unknown ∷ ts) h = same closed_form (Unknown ∷ ts) (omega arith)

  marked_same : (m : MarkKind) (ts : List Token) → 4 * suc (length ts) ≤ d → read_marked read m ts ≡ read_marked other m ts
  unfolding read_marked depth goal_rank
  marked_same LeftParenthesis ts h = same parenthesized ts (omega arith)
  marked_same ForAllPaths ts h = same (until_form for_all) ts (omega arith)
  marked_same OnSomePath ts h = same (until_form exists) ts (omega arith)
  marked_same RightParenthesis ts h = refl
  marked_same LeftBracket ts h = refl
  marked_same RightBracket ts h = refl
  marked_same Until ts h = refl

  closed_same : (ts : List Token) → 4 * length ts ≤ d → read_closed read ts ≡ read_closed other ts
  unfolding read_closed depth goal_rank
  closed_same [] h = refl
  closed_same (Atom j ∷ ts) h = refl
  closed_same (Prefix p ∷ ts) h = refl
  closed_same (Operator o ∷ ts) h = refl
  closed_same (Mark m ∷ ts) h = marked_same m ts (omega arith)
  closed_same (Unknown ∷ ts) h = refl

  step_same : (goal : Goal) (ts : List Token) → depth goal ts ≤ d → read_step read goal ts ≡ read_step other goal ts
  unfolding read_step depth goal_rank
  step_same (expression least) ts h =
      and_then_same _ _ _ _ (same prefix_form ts (omega arith))
      (λ f us e. let l = found_shorter read uses prefix_form ts us f e in same (operators least f) us (omega arith))
  step_same (operators least f) ts h = operators_same least f ts (omega arith)
  step_same prefix_form ts h = prefix_same ts (omega arith)
  step_same closed_form ts h = closed_same ts (omega arith)
  step_same parenthesized ts h = and_then_same _ _ _ _ (same (expression whole_rule) ts (omega arith)) (λ f us e. refl)
  step_same (until_form q) ts h =
      behind_same LeftBracket ts _ _ (λ us left.
      let h1 = ap length left in
      and_then_same _ _ _ _ (same (expression whole_rule) us (omega arith)) (λ f vs e.
      behind_same Until vs _ _ (λ ws middle.
      let h2 = ap length middle in
      let l = found_shorter read uses (expression whole_rule) us vs f e in
      and_then_same _ _ _ _ (same (expression whole_rule) ws (omega arith)) (λ g xs d. refl))))

-- Fuel above the depth is enough.
within_same :
    (m n : ℕ) (goal : Goal) (ts : List Token)
    → depth goal ts < m
    → depth goal ts < n
    → read_within m goal ts ≡ read_within n goal ts
unfolding read_within
within_same zero n goal ts h g = absurd (not-suc-le-zero h)
within_same (suc m) zero goal ts h g = absurd (not-suc-le-zero g)
within_same (suc m) (suc n) goal ts h g =
    step_same (read_within m) (read_within n) (within_uses m) (depth goal ts)
    (λ next us l. within_same m n next us (omega arith) (omega arith))
    goal ts (omega arith)

pub parse_step : (goal : Goal) (ts : List Token) → parse goal ts ≡ read_step parse goal ts
unfolding parse read_within
parse_step goal ts =
    let d = depth goal ts in
    step_same (read_within d) parse (within_uses d) d
    (λ next us l. within_same d (suc (depth next us)) next us l (omega arith))
    goal ts (omega arith)
