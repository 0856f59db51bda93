-- Prefix forms and closed forms: the parse by the first token. Assumes nothing.
use Prim.Native.Nat.{ℕ}
use mathlib.Core.Path.{◌≡◌, refl, sym, ap, ◌∙◌}
use mathlib.Core.Bool.{Bool, true, false, true≢false}
use mathlib.Core.List.{List, [], ◌∷◌}
use native.Mathlib.Omega.{arith}
use Rattle.std.proofs.Common.{Some, None}
use Rattle.std.specs.Prelude.{Option}
use Rattle.text.specs.Field.{Text}
use Rattle.job.specs.Formula.{fields}
use Rattle.job.specs.declared.subformula.Subformula.TheVariants as kind
use Rattle.rule_text.specs.Tree.{Tree, atom, prefix}
use Rattle.rule_text.specs.Lines.{rewritten, prefix_line}
use Rattle.rule_text.specs.Kept.{keep, kept}
use Rattle.rule_text.specs.Scan.{tokens}
use Rattle.rule_text.specs.Parse.{Parse, none, found, and_then, parse, read_step, read_prefix, read_marked, read_closed, prefix_form, closed_form}
use Rattle.rule_text.specs.declared.token.Prefix.{Prefix as PrefixOperator}
use Rattle.rule_text.specs.declared.token.Prefix.TheVariants.{Not, Ax, Ex, Eg, Ag}
use Rattle.rule_text.specs.declared.token.Mark.{Mark as MarkKind}
use Rattle.rule_text.specs.declared.token.Mark.TheVariants.{ForAllPaths, OnSomePath, Until, LeftParenthesis, RightParenthesis, LeftBracket, RightBracket}
use Rattle.rule_text.specs.declared.token.Token.{Token}
use Rattle.rule_text.specs.declared.token.Token.TheVariants.{Atom, Prefix, Operator, Mark, Unknown}
use Rattle.rule_text.proofs.Descent.{parse_step}
use Rattle.scanner.specs.Scanned.{NoToken, ended, not_known, StartsWith, Scans}
use Rattle.scanner.proofs.ScanLaws.{left_then}
use Rattle.rule_lines.specs.Held.{KeptAs}
use Rattle.rule_places.specs.Places.{Passes}
use Rattle.rule_places.proofs.PlaceLaws.{known, scans_passes}
use Rattle.rule_reader.specs.Reads.{prefix_kind, ReadsAs}
use Rattle.rule_reader.proofs.ReadsLaws.{reads_is, reads_none, reads_parsed, part_read, then_none, then_found, reads_behind}

-- One step of the descent.
closed_step : (ts : List Token) → parse closed_form ts ≡ read_closed parse ts
unfolding read_step
closed_step ts = parse_step closed_form ts

prefix_step : (ts : List Token) → parse prefix_form ts ≡ read_prefix parse ts
unfolding read_step
prefix_step ts = parse_step prefix_form ts

-- A token that starts no closed form.
unfoldable pub opens : Token → Bool
opens (Atom j) = true
opens (Prefix p) = false
opens (Operator o) = false
opens (Mark m) = true
opens Unknown = false

no_token_closed : (ts : List Token) → NoToken ts → read_closed parse ts ≡ none
unfolding read_closed
no_token_closed ts ended = refl
no_token_closed ts (not_known us) = refl

closed_none : (t : Token) (ts us : List Token) → opens t ≡ false → StartsWith t ts us → parse closed_form ts ≡ none
unfolding opens StartsWith read_closed
closed_none (Atom j) ts us o s = absurd (true≢false o)
closed_none (Prefix p) ts us o s = closed_step ts ∙ ap (read_closed parse) s
closed_none (Operator p) ts us o s = closed_step ts ∙ ap (read_closed parse) s
closed_none (Mark m) ts us o s = absurd (true≢false o)
closed_none Unknown ts us o s = closed_step ts ∙ no_token_closed ts s

module _ (x : Text) (t : Token) (y : Text) (is : Scans x t y) (ls : List (List ℕ)) where
  pub reads_closed_none : (z : Text) (after : List (List ℕ)) → opens t ≡ false → ReadsAs x 1 (parse closed_form (tokens x)) ls None z after
  reads_closed_none z after o = reads_none x 1 ls _ z after (closed_none t _ _ o is.starts)

  pub reads_atom :
      (j r : ℕ) (after : List (List ℕ))
      → t ≡ Atom j
      → KeptAs (keep (fields (kind.Atom j)) ls) r after
      → ReadsAs x 1 (parse closed_form (tokens x)) ls (Some r) y after
  unfolding read_closed known kept rewritten
  reads_atom j r after e k =
      let passes = scans_passes x y t is (Atom j) e refl in
      reads_parsed x 1 ls _ _ y after
      (record {
        tree = atom j;
        parses = closed_step (tokens x) ∙ ap (read_closed parse) passes.first;
        left = passes.left;
        leaves = k;
      })

  pub reads_mark :
      (m : MarkKind) (r : Option ℕ) (z : Text) (after : List (List ℕ))
      → t ≡ Mark m
      → ReadsAs y 0 (parse closed_form (Mark m ∷ tokens y)) ls r z after
      → ReadsAs x 1 (parse closed_form (tokens x)) ls r z after
  unfolding known
  reads_mark m r z after e h =
      let passes = scans_passes x y t is (Mark m) e refl in
      reads_is x 1 ls _ _ r z after (ap (parse closed_form) passes.first)
      (reads_behind x y 1 1 0 _ ls r z after (omega arith) passes.left h)

-- A closed form by its first mark.
module _ (x : Text) (ls : List (List ℕ)) (m : MarkKind) (r : Option ℕ) (y : Text) (after : List (List ℕ)) where
  abbrev marked : Parse
  marked = parse closed_form (Mark m ∷ tokens x)

  mark_step : marked ≡ read_marked parse m (tokens x)
  unfolding read_closed
  mark_step = closed_step (Mark m ∷ tokens x)

  pub reads_marked : (k : MarkKind) → m ≡ k → ReadsAs x 0 (read_marked parse k (tokens x)) ls r y after → ReadsAs x 0 marked ls r y after
  reads_marked k e = reads_is x 0 ls _ _ r y after (mark_step ∙ ap (λ n. read_marked parse n (tokens x)) e)

-- A mark that starts no closed form.
unfoldable pub opens_form : MarkKind → Bool
opens_form ForAllPaths = true
opens_form OnSomePath = true
opens_form LeftParenthesis = true
opens_form RightParenthesis = false
opens_form LeftBracket = false
opens_form RightBracket = false
opens_form Until = false

other_mark : (m : MarkKind) (ts : List Token) → opens_form m ≡ false → read_marked parse m ts ≡ none
unfolding opens_form read_marked
other_mark ForAllPaths ts e = absurd (true≢false e)
other_mark OnSomePath ts e = absurd (true≢false e)
other_mark LeftParenthesis ts e = absurd (true≢false e)
other_mark RightParenthesis ts e = refl
other_mark LeftBracket ts e = refl
other_mark RightBracket ts e = refl
other_mark Until ts e = refl

pub reads_other_mark :
    (x : Text) (ls : List (List ℕ)) (m : MarkKind) (y : Text) (after : List (List ℕ))
    → opens_form m ≡ false
    → ReadsAs x 0 (parse closed_form (Mark m ∷ tokens x)) ls None y after
reads_other_mark x ls m y after e = reads_none x 0 ls _ y after (mark_step x ls m None y after ∙ other_mark m (tokens x) e)

-- The numbers of the operator's line.
pub prefix_fields : (p : PrefixOperator) (a : ℕ) → fields (prefix_line p a) ≡ prefix_kind p ∷ a ∷ 0 ∷ []
unfolding fields prefix_line prefix_kind
prefix_fields Not a = refl
prefix_fields Ax a = refl
prefix_fields Ex a = refl
prefix_fields Eg a = refl
prefix_fields Ag a = refl

prefix_leaves :
    (p : PrefixOperator) (f : Tree) (ls : List (List ℕ)) (line : ℕ) (m : List (List ℕ))
    → KeptAs (kept (rewritten f) ls) line m
    → (n : ℕ) (after : List (List ℕ))
    → KeptAs (keep (fields (prefix_line p line)) m) n after
    → KeptAs (kept (rewritten (prefix p f)) ls) n after
unfolding kept rewritten
prefix_leaves p f ls line m u n after h = rw (u.lines, u.number) at h

-- A prefix form: a prefix operator and its operand, or a closed form.
no_token_prefix : (ts : List Token) → NoToken ts → read_prefix parse ts ≡ parse closed_form ts
unfolding read_prefix read_closed
no_token_prefix ts ended = sym (closed_step [])
no_token_prefix ts (not_known us) = refl

prefix_closed :
    (t : Token) (ts us : List Token) → ((p : PrefixOperator) → t ≡ Prefix p → ⊥) → StartsWith t ts us → parse prefix_form ts ≡ parse closed_form ts
unfolding StartsWith read_prefix
prefix_closed (Atom j) ts us h s = prefix_step ts ∙ rw s
prefix_closed (Prefix p) ts us h s = absurd (h p refl)
prefix_closed (Operator o) ts us h s = prefix_step ts ∙ rw s
prefix_closed (Mark m) ts us h s = prefix_step ts ∙ rw s
prefix_closed Unknown ts us h s = prefix_step ts ∙ no_token_prefix ts s

module _ (x : Text) (t : Token) (y : Text) (is : Scans x t y) (ls : List (List ℕ)) where
  pub reads_closed :
      (r : Option ℕ) (z : Text) (after : List (List ℕ))
      → ((p : PrefixOperator) → t ≡ Prefix p → ⊥)
      → ReadsAs x 1 (parse closed_form (tokens x)) ls r z after
      → ReadsAs x 1 (parse prefix_form (tokens x)) ls r z after
  reads_closed r z after h = reads_is x 1 ls _ _ r z after (prefix_closed t _ _ h is.starts)

  module _ (p : PrefixOperator) (e : t ≡ Prefix p) where
    pub prefix_passes : Passes x (Prefix p) y
    unfolding known
    prefix_passes = scans_passes x y t is (Prefix p) e refl

    abbrev behind_operand : Tree → List Token → Parse
    behind_operand f us = found (prefix p f) us

    operator_step : parse prefix_form (tokens x) ≡ and_then (parse prefix_form (tokens y)) behind_operand
    unfolding read_prefix
    operator_step = prefix_step (tokens x) ∙ ap (read_prefix parse) prefix_passes.first

    module _ (z : Text) (m : List (List ℕ)) where
      pub reads_no_operand :
          (after : List (List ℕ))
          → ReadsAs y 1 (parse prefix_form (tokens y)) ls None z m
          → ReadsAs x 1 (parse prefix_form (tokens x)) ls None z after
      reads_no_operand after operand = reads_none x 1 ls _ z after (operator_step ∙ then_none y 1 ls _ z m behind_operand operand)

      pub reads_prefix :
          (line n : ℕ) (after : List (List ℕ))
          → ReadsAs y 1 (parse prefix_form (tokens y)) ls (Some line) z m
          → KeptAs (keep (fields (prefix_line p line)) m) n after
          → ReadsAs x 1 (parse prefix_form (tokens x)) ls (Some n) z after
      reads_prefix line n after operand l =
          let it = part_read y 1 ls _ line z m operand in
          reads_parsed x 1 ls _ _ z after
          (record {
            tree = prefix p it.tree;
            parses = operator_step ∙ then_found y 1 ls _ line z m behind_operand it;
            left = left_then 1 1 1 x y z (omega arith) prefix_passes.left it.left;
            leaves = prefix_leaves p it.tree ls line m it.leaves n after l;
          })
