-- A text is a rule if an expression is read from its start on and only spaces stand behind it. Assumes nothing.
use Prim.Native.Nat.{ℕ}
use mathlib.Core.Path.{◌≡◌, refl, sym, ap, ◌∙◌}
use mathlib.Core.Bool.{Bool, true, false}
use mathlib.Core.List.{List, [], ◌∷◌}
use mathlib.Core.Option as opt
use native.Mathlib.Omega.{arith}
use lib.ListN.{length, get_or}
use lib.Dec.{eqb}
use borrow.Author.Tests.{eqb-true, eqb-false}
use Rattle.std.proofs.Common.{Some, None}
use Rattle.text.specs.Field.{Text}
use Rattle.rule_text.specs.Tree.{Tree}
use Rattle.rule_text.specs.Lines.{rewritten}
use Rattle.rule_text.specs.Kept.{kept}
use Rattle.rule_text.specs.Grammar.{whole_rule}
use Rattle.rule_text.specs.Scan.{followed, tokens}
use Rattle.rule_text.specs.Parse.{Parse, found, parse, expression, whole, reading}
use Rattle.rule_text.specs.declared.token.Token.{Token}
use Rattle.rule_text.specs.declared.token.Token.TheVariants.{Atom, Prefix, Operator, Mark, Unknown}
use Rattle.rule_text.proofs.Scanning.{tokens_empty, tokens_first}
use Rattle.scanner.specs.Scanned.{Skips}
use Rattle.rule_reader.specs.Reads.{ReadsAs}
use Rattle.rule_reader.proofs.ReadsLaws.{missing_parse, PartRead, part_read}
use Rattle.rule_call.specs.Ruled.{ReadsRule}

-- Something stands behind the rule.
more_behind : (f : Tree) (t : Token) (ts : List Token) → whole (found f (followed t ts)) ≡ opt.none
unfolding whole followed
more_behind f (Atom j) ts = refl
more_behind f (Prefix p) ts = refl
more_behind f (Operator o) ts = refl
more_behind f (Mark m) ts = refl
more_behind f Unknown ts = refl

-- A reader starts at the text, and reads an expression.
module _ (x start : Text) (ls : List (List ℕ)) (begins : start ≡ x) where
  abbrev expression_at_start : Parse
  expression_at_start = parse (expression whole_rule) (tokens start)

  reading_is : reading x ≡ whole expression_at_start
  unfolding reading
  reading_is = ap (λ y. whole (parse (expression whole_rule) (tokens y))) (sym begins)

  pub rule_missing :
      (y : Text) (m : List (List ℕ)) → ReadsAs start 1 expression_at_start ls None y m → ReadsRule x None
  unfolding ReadsRule whole
  rule_missing y m reads = reading_is ∙ ap whole (missing_parse start 1 ls _ y m reads)

  module _ (line : ℕ) (y : Text) (m : List (List ℕ)) (reads : ReadsAs start 1 expression_at_start ls (Some line) y m)
      (z : Text) (skips : Skips y z) (empty : Bool) (e : empty ≡ eqb (length z) 0) where
    it : PartRead start 1 ls expression_at_start line y m
    it = part_read start 1 ls _ line y m reads

    read_behind : (ts : List Token) → tokens z ≡ ts → reading x ≡ whole (found it.tree ts)
    read_behind ts is = reading_is ∙ ap whole (it.parses ∙ ap (found it.tree) (sym skips.same ∙ is))

    -- the rule's lines, where there were none
    pub rule_ends : ls ≡ [] → empty ≡ true → ReadsRule x (Some m)
    unfolding ReadsRule whole
    rule_ends none_yet t =
        let l = eqb-true (length z) 0 (sym e ∙ t) in (
          it.tree,
          record {
            read = read_behind [] (no_tokens z l);
            lines = it.leaves.lines ∙ ap (λ ks. (kept (rewritten it.tree) ks).lines) none_yet;
          },
        )
      where
        no_tokens : (w : Text) → length w ≡ 0 → tokens w ≡ []
        no_tokens [] g = tokens_empty
        no_tokens (c ∷ w) g = absurd (omega arith)

    pub rule_goes_on : empty ≡ false → ReadsRule x None
    unfolding ReadsRule
    rule_goes_on t = behind z refl
      where
        behind : (w : Text) → z ≡ w → reading x ≡ opt.none
        behind [] g = absurd (eqb-false (length z) 0 (sym e ∙ t) (ap length g))
        behind (c ∷ w) g =
            read_behind _ (ap tokens g ∙ tokens_first c w (λ s. skips.stops (ap (λ v. get_or v 0 0) g ∙ s))) ∙ more_behind it.tree _ _
