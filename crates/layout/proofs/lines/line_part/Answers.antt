-- `line_part`: the part that `part_of` names.
use Rattle.std.proofs.Common.{◌≡◌, ◌+◌, ◌*◌, ◌<◌, length, sym, ◌∙◌, arith}
use Rattle.text.specs.Field.{Text}
use Rattle.job.specs.Layout.{fields_of, line_at}
use Rattle.job.specs.Leaves.{Fits}
use Rattle.job.specs.declared.reading.Header.{Header}
use Rattle.job.proofs.LayoutLaws.{line_zero, line_past, line_there, line_inside}
use Rattle.layout.proofs.LinesLaws.{head_accepted, part_refused, fields_of_line, start_of_line, part_some, part_none}
use Rattle.layout.proofs.lines.line_part.Goals as goal
use Rattle.layout.proofs.lines.line_part.Goals.{In_ok-h, After-fields_in, then-number-eq0-via-then-number-eq0, then-number-eq0-via-else-number-eq0+then-pairs-h}

-- the text and line 1's numbers where the head accepts, and what it says of them
module _ (c : In_ok-h) where
  abbrev text_of : Text
  text_of = c.args.text.now

  abbrev header_of : Header
  header_of = c.in_ok-h.h

  fits_here : Fits text_of header_of
  fits_here = head_accepted text_of header_of _ (sym c.in_ok-h.was ∙ c.ok.ensures.value) c.head.ensures

pub returns-in_err-h-clause-stands : goal.returns-in_err-h-clause-stands
returns-in_err-h-clause-stands c =
    c.from_residual.ensures ∙ part_refused _ _ _ (sym c.in_err-h.was ∙ c.ok.ensures.value) c.head.ensures

pub overflow_add-pairs : goal.overflow_add-pairs
overflow_add-pairs c = let f = fits_here (goal.at.overflow_add-pairs c).In_ok-h in omega arith

pub overflow_add-pairs-else-number-eq0 : goal.overflow_add-pairs-else-number-eq0
overflow_add-pairs-else-number-eq0 c = let f = fits_here (goal.at.overflow_add-pairs-else-number-eq0 c).In_ok-h in omega arith

pub overflow_add-pairs-else-number-eq0-2 : goal.overflow_add-pairs-else-number-eq0-2
overflow_add-pairs-else-number-eq0-2 c = let f = fits_here (goal.at.overflow_add-pairs-else-number-eq0-2 c).In_ok-h in omega arith

pub returns-then-number-eq0-clause-stands : goal.returns-then-number-eq0-clause-stands
returns-then-number-eq0-clause-stands c =
    let here = (goal.at.returns-then-number-eq0-clause-stands c).In_ok-h in
    part_none _ _
    (elim c.then-number-eq0.branch [
      | then-number-eq0-via-then-number-eq0 w ↦ line_zero (text_of here) (header_of here) (fits_here here) _ w.if-number-eq0.true
      | then-number-eq0-via-else-number-eq0+then-pairs-h w ↦ line_past (text_of here) (header_of here) (fits_here here) _ w.if-pairs-h.true
    ])

pub line_start-requires : goal.line_start-requires
line_start-requires c = let f = fits_here (goal.at.line_start-requires c).In_ok-h in (omega arith, omega arith)

pub fields_in-requires : goal.fields_in-requires
fields_in-requires c = let f = fits_here (goal.at.fields_in-requires c).In_ok-h in omega arith

-- the line's offset and number of fields, and that its bytes are in the text
module _ (c : After-fields_in) where
  abbrev in_ok : In_ok-h
  in_ok = (goal.at.After-fields_in c).In_ok-h

  start_is : c.line_start.result ≡ line_at (text_of in_ok) c.args.number
  start_is = let f = fits_here in_ok in c.line_start.ensures ∙ start_of_line (text_of in_ok) _ _ (omega arith)

  fields_are : c.fields_in.result ≡ fields_of (text_of in_ok) c.args.number
  fields_are = let f = fits_here in_ok in c.fields_in.ensures ∙ fields_of_line (text_of in_ok) _ _ (omega arith)

  inside : c.line_start.result + 5 * c.fields_in.result < length (text_of in_ok)
  inside =
      let f = fits_here in_ok in
      let s = start_is in
      let n = fields_are in
      let h = line_inside (text_of in_ok) (header_of in_ok) f c.args.number (omega arith) (omega arith) in
      omega arith

pub overflow_mul-result : goal.overflow_mul-result
overflow_mul-result c =
    let h = inside (goal.at.overflow_mul-result c).After-fields_in in
    let f = fits_here (goal.at.overflow_mul-result c).In_ok-h in
    omega arith

pub returns-clause-stands : goal.returns-clause-stands
returns-clause-stands c =
    let here = (goal.at.returns-clause-stands c).After-fields_in in
    let ok = (goal.at.returns-clause-stands c).In_ok-h in
    let f = fits_here ok in
    part_some _ _ (line_there (text_of ok) (header_of ok) f _ (omega arith) (omega arith)) _ _ (start_is here) (fields_are here)

pub returns-clause-inside : goal.returns-clause-inside
returns-clause-inside c = let h = inside (goal.at.returns-clause-inside c).After-fields_in in omega arith
