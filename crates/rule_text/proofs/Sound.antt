-- What is parsed is derived by the tokens that were taken, if no atom among them is above p15. Assumes nothing.
use Prim.Native.Nat.{ℕ, zero, suc, ◌≤◌}
use mathlib.Core.Path.{◌≡◌, refl, sym, ◌∙◌, ap, subst}
use mathlib.Core.Bool.{Bool, true}
use mathlib.Core.List.{List, [], ◌∷◌, ◌++◌, append-nil, append_assoc}
use native.Mathlib.Omega.{arith}
use borrow.Author.Tests.{leb-true, leb-false}
use lib.Dec.{leb}
use Rattle.law.specs.Lists.{every}
use Rattle.law.proofs.Bool.{and_left, and_right}
use Rattle.job.specs.Job.{for_all, exists}
use Rattle.rule_text.specs.declared.token.Operator.{Operator as BinaryOperator}
use Rattle.rule_text.specs.declared.token.Mark.{Mark as MarkKind}
use Rattle.rule_text.specs.declared.token.Mark.TheVariants.{ForAllPaths, OnSomePath, Until, LeftParenthesis, RightParenthesis, LeftBracket, RightBracket}
use Rattle.rule_text.specs.declared.token.Token.{Token}
use Rattle.rule_text.specs.declared.token.Token.TheVariants.{Atom, Prefix, Operator, Mark, Unknown}
use Rattle.rule_text.specs.Tree.{Tree, atom, prefix, binary, until}
use Rattle.rule_text.specs.Token.{until_mark, left_parenthesis, right_parenthesis, left_bracket, right_bracket}
use Rattle.rule_text.specs.Grammar.{strength, left_level, right_level, whole_rule, tightest, path_mark}
use Rattle.rule_text.specs.Grammar.{Derives, an_atom, prefixed, in_parentheses, in_brackets, joins}
use Rattle.rule_text.specs.Parse.{Goal, expression, operators, prefix_form, closed_form, parenthesized, until_form}
use Rattle.rule_text.specs.Parse.{Parse, found, taking, read_operators, read_prefix, read_marked, read_closed, read_step, depth, read_within, parse}
use Rattle.rule_text.proofs.Gives.{Gives, gives_more, cond_gives, and_then_gives, behind_gives}
use Rattle.rule_text.proofs.Levels.{Stops, Ends, bounds, ends_stops, stops_tightest, ends_tightest, derives_weaker}

-- A token that is no atom above p15: of the others nothing is asked, since the parse takes none that the grammar has not.
unfoldable pub atom_in_range : Token → Bool
atom_in_range (Atom j) = leb j 15
atom_in_range (Prefix p) = true
atom_in_range (Operator o) = true
atom_in_range (Mark m) = true
atom_in_range Unknown = true

abbrev InRange : List Token → Type 0
InRange ts = every atom_in_range ts ≡ true

rest_in_range : (ts first us : List Token) → ts ≡ first ++ us → InRange ts → InRange us
unfolding every
rest_in_range ts first us e h = go first (subst InRange e h)
  where
    go : (xs : List Token) → InRange (xs ++ us) → InRange us
    go [] g = g
    go (t ∷ xs) g = go xs (and_right (atom_in_range t) (every atom_in_range (xs ++ us)) g)

-- A list cut in two, and its second part cut again.
cut_again : (ts first us second vs : List Token) → ts ≡ first ++ us → us ≡ second ++ vs → ts ≡ (first ++ second) ++ vs
cut_again ts first us second vs e h = e ∙ ap (λ (xs : List Token). first ++ xs) h ∙ sym (append_assoc first second vs)

-- Of ts some tokens are taken and us are left; those before and those taken derive f.
pub record Takes (l : ℕ) (before ts : List Token) (f : Tree) (us : List Token) : Type 0 where
  pub taken : List Token
  pub cut : ts ≡ taken ++ us
  pub derived : Derives l (before ++ taken) f
  pub ends : Ends l us

takes_nothing : (l : ℕ) (before ts : List Token) (f : Tree) → Derives l before f → Ends l ts → Takes l before ts f ts
takes_nothing l before ts f d h = record { taken = []; cut = refl; derived = rw (append-nil before) d; ends = h }

reads_after :
    (l : ℕ) (before first ts us vs : List Token) (f : Tree)
    → ts ≡ first ++ us
    → Takes l (before ++ first) us f vs
    → Takes l before ts f vs
reads_after l before first ts us vs f e r =
    record {
      taken = first ++ r.taken;
      cut = cut_again ts first us r.taken vs e r.cut;
      derived = rw (append_assoc before first r.taken) at r.derived;
      ends = r.ends;
    }

reads_tight :
    (before first ts us : List Token) (f : Tree)
    → ts ≡ first ++ us
    → Derives tightest (before ++ first) f
    → Takes tightest before ts f us
reads_tight before first ts us f e d =
    reads_after tightest before first ts us us f e (takes_nothing tightest (before ++ first) us f d (ends_tightest us))

-- What a goal's tree and rest have to do with the tokens.
abbrev Sound : Goal → List Token → Tree → List Token → Type 0
Sound (expression least) ts f us = least ≤ tightest → Takes least [] ts f us
Sound (operators least g) ts f us =
    (l : ℕ) (before : List Token) → least ≤ l → Stops l ts → Derives l before g → Takes least before ts f us
Sound prefix_form ts f us = Takes tightest [] ts f us
Sound closed_form ts f us = Takes tightest [] ts f us
Sound parenthesized ts f us = Takes tightest (left_parenthesis ∷ []) ts f us
Sound (until_form q) ts f us = Takes tightest (path_mark q ∷ []) ts f us

untaken_sound : (least : ℕ) (f : Tree) (ts : List Token) → Ends least ts → Sound (operators least f) ts f ts
untaken_sound least f ts e l before m s d = takes_nothing least before ts f (derives_weaker l least before f m d) e

-- A reader whose every goal is sound.
abbrev Sounds : (Goal → List Token → Parse) → Type 0
Sounds read = (goal : Goal) (ts : List Token) → InRange ts → Gives (Sound goal ts) (read goal ts)

-- So is a step over it.
module _ (read : Goal → List Token → Parse) (sounds : Sounds read) where
  found_sound : (goal : Goal) (ts us : List Token) (f : Tree) → InRange ts → read goal ts ≡ found f us → Sound goal ts f us
  found_sound goal ts us f h e = subst (Gives (Sound goal ts)) e (sounds goal ts h)

  -- a further goal, at the rest
  later_sound :
      (goal later : Goal) (ts first us : List Token)
      → ts ≡ first ++ us
      → InRange ts
      → ((f : Tree) (vs : List Token) → Sound later us f vs → Sound goal ts f vs)
      → Gives (Sound goal ts) (read later us)
  later_sound goal later ts first us e h more =
      gives_more (Sound later us) (Sound goal ts) (read later us) more (sounds later us (rest_in_range ts first us e h))

  operator_sound :
      (least : ℕ) (f : Tree) (o : BinaryOperator) (ts : List Token)
      → InRange (Operator o ∷ ts)
      → Gives (Sound (operators least f) (Operator o ∷ ts)) (taking read least f o ts)
  unfolding taking
  operator_sound least f o ts h =
      let Taken = Sound (operators least f) (Operator o ∷ ts) in
      cond_gives Taken (leb least (strength o)) _ _
      (λ t.
      and_then_gives Taken (read (expression (right_level o)) ts) _
      (λ g us e.
      let right = rest_in_range (Operator o ∷ ts) (Operator o ∷ []) ts refl h in
      let r = found_sound (expression (right_level o)) ts us g right e (bounds o).right_most in
      let first = Operator o ∷ r.taken in
      let c = ap (λ (xs : List Token). Operator o ∷ xs) r.cut in
      later_sound (operators least f) (operators least (binary o f g)) (Operator o ∷ ts) first us c h
      (λ k vs sound l before m s d.
      reads_after least before first (Operator o ∷ ts) us vs k c
      (sound (strength o) (before ++ first) (leb-true least (strength o) t) (ends_stops o us r.ends)
      (joins o before r.taken f g (derives_weaker l (left_level o) before f s d) r.derived)))))
      (λ t. untaken_sound least f (Operator o ∷ ts) (leb-false least (strength o) t))

  operators_sound : (least : ℕ) (f : Tree) (ts : List Token) → InRange ts → Gives (Sound (operators least f) ts) (read_operators read least f ts)
  unfolding read_operators
  operators_sound least f [] h = untaken_sound least f [] tt
  operators_sound least f (Atom j ∷ ts) h = untaken_sound least f (Atom j ∷ ts) tt
  operators_sound least f (Prefix p ∷ ts) h = untaken_sound least f (Prefix p ∷ ts) tt
  operators_sound least f (Operator o ∷ ts) h = operator_sound least f o ts h
  operators_sound least f (Mark m ∷ ts) h = untaken_sound least f (Mark m ∷ ts) tt
  operators_sound least f (Unknown ∷ ts) h = untaken_sound least f (Unknown ∷ ts) tt

  prefix_sound : (ts : List Token) → InRange ts → Gives (Sound prefix_form ts) (read_prefix read ts)
  unfolding read_prefix
  prefix_sound [] h = tt
  prefix_sound (Atom j ∷ ts) h = sounds closed_form (Atom j ∷ ts) h
  prefix_sound (Prefix p ∷ ts) h =
      and_then_gives (Sound prefix_form (Prefix p ∷ ts)) (read prefix_form ts) _
      (λ f us e.
      let r = found_sound prefix_form ts us f (rest_in_range (Prefix p ∷ ts) (Prefix p ∷ []) ts refl h) e in
      reads_tight [] (Prefix p ∷ r.taken) (Prefix p ∷ ts) us (prefix p f) (ap (λ (xs : List Token). Prefix p ∷ xs) r.cut)
      (prefixed p r.taken f r.derived))
  prefix_sound (Operator o ∷ ts) h = sounds closed_form (Operator o ∷ ts) h
  prefix_sound (Mark m ∷ ts) h = sounds closed_form (Mark m ∷ ts) h
  prefix_sound (Unknown ∷ ts) h = sounds closed_form (Unknown ∷ ts) h

  -- a closed form that starts with the mark m
  behind_mark_sound :
      (goal : Goal) (m : MarkKind) (ts : List Token)
      → InRange (Mark m ∷ ts)
      → ((f : Tree) (us : List Token) → Sound goal ts f us → Takes tightest (Mark m ∷ []) ts f us)
      → Gives (Sound closed_form (Mark m ∷ ts)) (read goal ts)
  behind_mark_sound goal m ts h more =
      later_sound closed_form goal (Mark m ∷ ts) (Mark m ∷ []) ts refl h
      (λ f us r. reads_after tightest [] (Mark m ∷ []) (Mark m ∷ ts) ts us f refl (more f us r))

  marked_sound : (m : MarkKind) (ts : List Token) → InRange (Mark m ∷ ts) → Gives (Sound closed_form (Mark m ∷ ts)) (read_marked read m ts)
  unfolding read_marked path_mark
  marked_sound LeftParenthesis ts h = behind_mark_sound parenthesized LeftParenthesis ts h (λ f us r. r)
  marked_sound ForAllPaths ts h = behind_mark_sound (until_form for_all) ForAllPaths ts h (λ f us r. r)
  marked_sound OnSomePath ts h = behind_mark_sound (until_form exists) OnSomePath ts h (λ f us r. r)
  marked_sound RightParenthesis ts h = tt
  marked_sound LeftBracket ts h = tt
  marked_sound RightBracket ts h = tt
  marked_sound Until ts h = tt

  closed_sound : (ts : List Token) → InRange ts → Gives (Sound closed_form ts) (read_closed read ts)
  unfolding read_closed every atom_in_range
  closed_sound [] h = tt
  closed_sound (Atom j ∷ ts) h =
      reads_tight [] (Atom j ∷ []) (Atom j ∷ ts) ts (atom j) refl (an_atom j (leb-true j 15 (and_left (leb j 15) (every atom_in_range ts) h)))
  closed_sound (Prefix p ∷ ts) h = tt
  closed_sound (Operator o ∷ ts) h = tt
  closed_sound (Mark m ∷ ts) h = marked_sound m ts h
  closed_sound (Unknown ∷ ts) h = tt

  step_sound : Sounds (read_step read)
  unfolding read_step
  step_sound (expression least) ts h =
      and_then_gives (Sound (expression least) ts) (read prefix_form ts) _
      (λ f us e.
      let r = found_sound prefix_form ts us f h e in
      later_sound (expression least) (operators least f) ts r.taken us r.cut h
      (λ g vs sound m.
      reads_after least [] r.taken ts us vs g r.cut (sound tightest r.taken m (stops_tightest us) r.derived)))
  step_sound (operators least f) ts h = operators_sound least f ts h
  step_sound prefix_form ts h = prefix_sound ts h
  step_sound closed_form ts h = closed_sound ts h
  step_sound parenthesized ts h =
      and_then_gives (Sound parenthesized ts) (read (expression whole_rule) ts) _
      (λ f us e.
      behind_gives (Sound parenthesized ts) RightParenthesis us _ (λ vs m.
      let r = found_sound (expression whole_rule) ts us f h e (omega arith) in
      reads_tight (left_parenthesis ∷ []) (r.taken ++ (right_parenthesis ∷ [])) ts vs f
      (cut_again ts r.taken us (right_parenthesis ∷ []) vs r.cut m)
      (in_parentheses r.taken f r.derived)))
  step_sound (until_form q) ts h =
      let Closed = Sound (until_form q) ts in
      behind_gives Closed LeftBracket ts _ (λ us left.
      and_then_gives Closed (read (expression whole_rule) us) _ (λ f vs e.
      behind_gives Closed Until vs _ (λ ws middle.
      and_then_gives Closed (read (expression whole_rule) ws) _ (λ g xs d.
      behind_gives Closed RightBracket xs _ (λ ys right.
      let h1 = rest_in_range ts (left_bracket ∷ []) us left h in
      let r = found_sound (expression whole_rule) us vs f h1 e (omega arith) in
      let h2 = rest_in_range vs (until_mark ∷ []) ws middle (rest_in_range us r.taken vs r.cut h1) in
      let s = found_sound (expression whole_rule) ws xs g h2 d (omega arith) in
      let inner = cut_again ws s.taken xs (right_bracket ∷ []) ys s.cut right in
      let c = cut_again vs (until_mark ∷ []) ws (s.taken ++ (right_bracket ∷ [])) ys middle inner in
      reads_tight (path_mark q ∷ []) (left_bracket ∷ (r.taken ++ (until_mark ∷ (s.taken ++ (right_bracket ∷ []))))) ts ys (until q f g)
      (cut_again ts (left_bracket ∷ []) us (r.taken ++ (until_mark ∷ (s.taken ++ (right_bracket ∷ [])))) ys left
      (cut_again us r.taken vs (until_mark ∷ (s.taken ++ (right_bracket ∷ []))) ys r.cut c))
      (in_brackets q r.taken s.taken f g r.derived s.derived))))))

within_sound : (n : ℕ) → Sounds (read_within n)
unfolding read_within
within_sound zero goal ts h = tt
within_sound (suc n) goal ts h = step_sound (read_within n) (within_sound n) goal ts h

parse_sound : Sounds parse
unfolding parse
parse_sound goal ts h = within_sound (suc (depth goal ts)) goal ts h

pub parse_takes :
    (ts us : List Token) (f : Tree)
    → every atom_in_range ts ≡ true
    → parse (expression whole_rule) ts ≡ found f us
    → Takes whole_rule [] ts f us
parse_takes ts us f h e = found_sound parse parse_sound (expression whole_rule) ts us f h e (omega arith)
