-- `read_formulas`: the subformula lines passed so far are well-formed and laid.
use Rattle.std.proofs.Common.{◌≡◌, ◌*◌, ◌+◌, Option, Some, None, is_some, unwrap_or, refl, sym, ◌∙◌, ap, get_or, arith}
use lib.Dec.{lit<}
use Rattle.text.specs.Fields.{line_numbers}
use Rattle.text.proofs.FieldsLaws.{line_malformed, line_formed, line_first, line_number}
use Rattle.job.specs.Layout.{state_at, subformula_at, kind_field, left_field, right_field}
use Rattle.job.specs.Formula as spec
use Rattle.job.specs.Questions.{formula_ok}
use Rattle.job.specs.declared.subformula.Subformula.{Subformula}
use Rattle.job.specs.declared.subformula.Subformula.TheVariants.{Atom}
use Rattle.line_reader.specs.LinesRead.{lines_of_subformulas}
use Rattle.line_reader.proofs.LineLaws.{none_read, so_many, line_read, stopped, all_read, right_none, right_few, right_next}
use Rattle.line_reader.proofs.formula.read_formulas.Goals as goal

pub loop-k-init : goal.loop-k-init
loop-k-init c = none_read (lines_of_subformulas c.args.text.now c.args.h) 0 _ c.clear.ensures (right_none _)

pub returns-in_default : goal.returns-in_default
unfolding state_at subformula_at
returns-in_default c =
    let t = c.args.text.now in
    let h = c.args.h in
    let l = c.loop-k in
    let read : line_numbers t (21 + 11 * (h.states + h.edges) + 16 * l.k) 3 ≡ None = sym c.read_line.ensures.is ∙ c.in_default.is in
    let here : line_numbers t (subformula_at t l.k) 3 ≡ None = rw (c.requires.states_are, c.requires.edges_are) read in
    stopped (lines_of_subformulas t h) l.k l.right l.formula.items l.invariant _ (omega arith) (omega arith) (line_malformed t _ 3 here)

pub right_after-right-requires : goal.right_after-right-requires
right_after-right-requires c = omega (arith, right_few (formula_ok c.args.text.now) c.loop-k.k c.loop-k.right c.loop-k.invariant.kept_is)

parsed_some : (o : Option Subformula) → is_some o ≡ spec.is_formula o
unfolding spec.is_formula
parsed_some (Some f) = refl
parsed_some None = refl

parsed_or : (o : Option Subformula) → unwrap_or o (Atom 0) ≡ spec.formula o
unfolding spec.formula
parsed_or (Some f) = refl
parsed_or None = refl

pub push-requires : goal.push-requires
push-requires c = omega (arith, so_many (lines_of_subformulas c.args.text.now c.args.h) _ _ _ c.loop-k.invariant, c.requires.subformulas_to)

pub loop-k-preserved : goal.loop-k-preserved
unfolding state_at subformula_at kind_field left_field right_field formula_ok
loop-k-preserved c =
    let t = c.args.text.now in
    let h = c.args.h in
    let l = c.loop-k in
    let ns = c.in-Some.numbers in
    let at = subformula_at t l.k in
    let read : line_numbers t (21 + 11 * (h.states + h.edges) + 16 * l.k) 3 ≡ Some ns = sym c.read_line.ensures.is ∙ c.in-Some.is in
    let here : line_numbers t at 3 ≡ Some ns = rw (c.requires.states_are, c.requires.edges_are) read in
    let kind : kind_field t l.k ≡ get_or ns 0 0 = sym (line_first t at 3 ns here (lit< tt)) in
    let left : left_field t l.k ≡ get_or ns 1 0 = sym (line_number t at 3 ns here 1 (lit< tt)) in
    let right : right_field t l.k ≡ get_or ns 2 0 = sym (line_number t at 3 ns here 2 (lit< tt)) in
    let parsed : c.parse-parsed.result ≡ spec.parsed l.k (kind_field t l.k) (left_field t l.k) (right_field t l.k) =
    c.parse-parsed.ensures ∙ rw (kind, left, right) refl in
    let is_right = c.is_some.ensures ∙ ap is_some parsed ∙ parsed_some _ in
    line_read (lines_of_subformulas t h) l.k l.right l.formula.items l.invariant _ _ _ (line_formed t at 3 ns here)
    (right_next (formula_ok t) l.k _ _ _ l.invariant.kept_is is_right c.right_after-right.ensures) c.push.ensures.items
    (c.unwrap_or.ensures ∙ ap (λ (o : Option Subformula). unwrap_or o (Atom 0)) parsed ∙ parsed_or _)

pub returns : goal.returns
returns c =
    let l = c.loop-k in all_read (lines_of_subformulas c.args.text.now c.args.h) l.k l.right l.formula.items l.invariant (omega arith)
