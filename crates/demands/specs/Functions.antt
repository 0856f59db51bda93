-- Demand 1: "Any bytes and any numbers: [..] every call ends." What is said of the functions themselves: what each asks for, and that it
-- meets its contract. Assumes nothing.
use contract.Lifetimes.{Lfts}
use borrow.Fn.Kinds.{Dens}
use Rattle.calls.proofs.read.read.Kinds.{ps as read_takes}
use Rattle.calls.proofs.read.read.Reads.{Asked as read_asks}
use Rattle.calls.proofs.read.read.Statement.{statement as read_meets}
use Rattle.calls.proofs.line.line.Kinds.{ps as line_takes}
use Rattle.calls.proofs.line.line.Reads.{Asked as line_asks}
use Rattle.calls.proofs.line.line.Statement.{statement as line_meets}
use Rattle.calls.proofs.fresh.fresh.Kinds.{ps as fresh_takes}
use Rattle.calls.proofs.fresh.fresh.Reads.{Asked as fresh_asks}
use Rattle.calls.proofs.fresh.fresh.Statement.{statement as fresh_meets}
use Rattle.calls.proofs.step.step.Kinds.{ps as step_takes}
use Rattle.calls.proofs.step.step.Reads.{Asked as step_asks}
use Rattle.calls.proofs.step.step.Statement.{statement as step_meets}
use Rattle.calls.proofs.offer.offer.Kinds.{ps as offer_takes}
use Rattle.calls.proofs.offer.offer.Reads.{Asked as offer_asks}
use Rattle.calls.proofs.offer.offer.Statement.{statement as offer_meets}
use Rattle.calls.proofs.accept.accept.Kinds.{ps as accept_takes}
use Rattle.calls.proofs.accept.accept.Reads.{Asked as accept_asks}
use Rattle.calls.proofs.accept.accept.Statement.{statement as accept_meets}
use Rattle.calls.proofs.look.look.Kinds.{ps as look_takes}
use Rattle.calls.proofs.look.look.Reads.{Asked as look_asks}
use Rattle.calls.proofs.look.look.Statement.{statement as look_meets}
use Rattle.calls.proofs.close.close.Kinds.{ps as close_takes}
use Rattle.calls.proofs.close.close.Reads.{Asked as close_asks}
use Rattle.calls.proofs.close.close.Statement.{statement as close_meets}
use Rattle.calls.proofs.finish.finish.Kinds.{ps as finish_takes}
use Rattle.calls.proofs.finish.finish.Reads.{Asked as finish_asks}
use Rattle.calls.proofs.finish.finish.Statement.{statement as finish_meets}
use Rattle.calls.proofs.page.page.Kinds.{ps as page_takes}
use Rattle.calls.proofs.page.page.Reads.{Asked as page_asks}
use Rattle.calls.proofs.page.page.Statement.{statement as page_meets}
use Rattle.verdict_line.proofs.verdict_line.Kinds.{ps as verdict_line_takes}
use Rattle.verdict_line.proofs.verdict_line.Reads.{Asked as verdict_line_asks}
use Rattle.verdict_line.proofs.verdict_line.Statement.{statement as verdict_line_meets}
use Rattle.rule_call.proofs.rule.rule.Kinds.{ps as rule_takes}
use Rattle.rule_call.proofs.rule.rule.Reads.{Asked as rule_asks}
use Rattle.rule_call.proofs.rule.rule.Statement.{statement as rule_meets}
use Rattle.rule_output.proofs.rule_output.Kinds.{ps as rule_output_takes}
use Rattle.rule_output.proofs.rule_output.Reads.{Asked as rule_output_asks}
use Rattle.rule_output.proofs.rule_output.Statement.{statement as rule_output_meets}
use Rattle.page_output.proofs.page_output.Kinds.{ps as page_output_takes}
use Rattle.page_output.proofs.page_output.Reads.{Asked as page_output_asks}
use Rattle.page_output.proofs.page_output.Statement.{statement as page_output_meets}

-- "Any bytes and any numbers": no contract asks anything of what is passed.
pub record AsksNothing : Type 0 where
  pub read : (κs : Lfts 1) (a : Dens κs read_takes) → read_asks κs a
  pub line : (κs : Lfts 1) (a : Dens κs line_takes) → line_asks κs a
  pub fresh : (κs : Lfts 2) (a : Dens κs fresh_takes) → fresh_asks κs a
  pub step : (κs : Lfts 2) (a : Dens κs step_takes) → step_asks κs a
  pub offer : (κs : Lfts 2) (a : Dens κs offer_takes) → offer_asks κs a
  pub accept : (κs : Lfts 2) (a : Dens κs accept_takes) → accept_asks κs a
  pub look : (κs : Lfts 2) (a : Dens κs look_takes) → look_asks κs a
  pub close : (κs : Lfts 2) (a : Dens κs close_takes) → close_asks κs a
  pub finish : (κs : Lfts 2) (a : Dens κs finish_takes) → finish_asks κs a
  pub page : (κs : Lfts 3) (a : Dens κs page_takes) → page_asks κs a
  pub verdict_line : (κs : Lfts 1) (a : Dens κs verdict_line_takes) → verdict_line_asks κs a
  pub rule : (κs : Lfts 2) (a : Dens κs rule_takes) → rule_asks κs a
  pub rule_output : (κs : Lfts 1) (a : Dens κs rule_output_takes) → rule_output_asks κs a
  pub page_output : (κs : Lfts 2) (a : Dens κs page_output_takes) → page_output_asks κs a

-- "every call ends": each function meets its contract, in every model of Rattle's logic. To meet a contract is, called with what it asks
-- for, to return, and to leave what it promises (total correctness).
pub record Proved (M : Type 1) : Type 2 where
  pub read : read_meets M
  pub line : line_meets M
  pub fresh : fresh_meets M
  pub step : step_meets M
  pub offer : offer_meets M
  pub accept : accept_meets M
  pub look : look_meets M
  pub close : close_meets M
  pub finish : finish_meets M
  pub page : page_meets M
  pub verdict_line : verdict_line_meets M
  pub rule : rule_meets M
  pub rule_output : rule_output_meets M
  pub page_output : page_output_meets M
