-- `ask_lines`: each return is the first of questions 5 to 8 that is answered no, or says that there is none.
use Rattle.std.proofs.Common.{ℕ, Option, unwrap_or, ◌≡◌, sym, ap, ◌∙◌, arith}
use Rattle.job.specs.Read.{read_told}
use Rattle.edge_pass.specs.EdgePass.{terminal_state}
use Rattle.reader.proofs.AskedLaws.{asked_5, asked_6, asked_7, asked_8, asked_none}
use Rattle.reader.proofs.read.ask_lines.Goals as goal
use Rattle.reader.proofs.read.ask_lines.Goals.{In_default}

pub returns-then-s-h : goal.returns-then-s-h
unfolding read_told
returns-then-s-h c = sym (asked_5 _ _ c.args.kept c.args.k c.if-s-h.true)

pub returns-then-order : goal.returns-then-order
unfolding read_told
returns-then-order c = sym (asked_6 _ _ _ c.args.k c.if-s-h.false c.if-order.true)

pub returns-in-Some : goal.returns-in-Some
unfolding read_told
returns-in-Some c =
    let found = sym c.terminal_state.ensures.lowest ∙ ap (λ (o : Option ℕ). unwrap_or o c.args.kept.order.states) c.in-Some.is in
    let below = rw c.in-Some.is at c.terminal_state.ensures.below in
    sym (asked_7 _ _ _ c.args.k c.if-s-h.false c.if-order.false _ (sym found) (λ e. omega arith))

-- where every state has an edge out
none_found : (c : In_default) → c.args.kept.order.states ≡ terminal_state c.args.kept.starts c.args.kept.order.states
none_found c = sym (sym c.terminal_state.ensures.lowest ∙ ap (λ (o : Option ℕ). unwrap_or o c.args.kept.order.states) c.in_default.is)

pub returns-then-k-h : goal.returns-then-k-h
unfolding read_told
returns-then-k-h c =
    let none = none_found (goal.at.returns-then-k-h c).In_default in
    sym (asked_8 _ _ _ _ c.if-s-h.false c.if-order.false _ none (λ i. c.args.kept.order.states) c.if-k-h.true)

pub returns : goal.returns
unfolding read_told
returns c =
    let none = none_found (goal.at.returns c).In_default in
    sym (asked_none _ _ _ _ c.if-s-h.false c.if-order.false _ none (λ i. c.args.kept.order.states) c.if-k-h.false)
