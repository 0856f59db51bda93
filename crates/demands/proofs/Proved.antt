-- What the toolchain proved of each function, gathered: none asks anything, and each meets its contract. Assumes nothing.
use Rattle.calls.proofs.read.read.Met.{met as read_met}
use Rattle.calls.proofs.line.line.Met.{met as line_met}
use Rattle.calls.proofs.fresh.fresh.Met.{met as fresh_met}
use Rattle.calls.proofs.step.step.Met.{met as step_met}
use Rattle.calls.proofs.offer.offer.Met.{met as offer_met}
use Rattle.calls.proofs.accept.accept.Met.{met as accept_met}
use Rattle.calls.proofs.look.look.Met.{met as look_met}
use Rattle.calls.proofs.close.close.Met.{met as close_met}
use Rattle.calls.proofs.finish.finish.Met.{met as finish_met}
use Rattle.calls.proofs.page.page.Met.{met as page_met}
use Rattle.verdict_line.proofs.verdict_line.Met.{met as verdict_line_met}
use Rattle.rule_call.proofs.rule.rule.Met.{met as rule_met}
use Rattle.rule_output.proofs.rule_output.Met.{met as rule_output_met}
use Rattle.page_output.proofs.page_output.Met.{met as page_output_met}
use Rattle.demands.specs.Functions.{AsksNothing, Proved}

pub asks_nothing : AsksNothing
asks_nothing =
    record {
      read = λ κs a. tt;
      line = λ κs a. tt;
      fresh = λ κs a. tt;
      step = λ κs a. tt;
      offer = λ κs a. tt;
      accept = λ κs a. tt;
      look = λ κs a. tt;
      close = λ κs a. tt;
      finish = λ κs a. tt;
      page = λ κs a. tt;
      verdict_line = λ κs a. tt;
      rule = λ κs a. tt;
      rule_output = λ κs a. tt;
      page_output = λ κs a. tt;
    }

pub proved : {M : Type 1} → Proved M
proved =
    record {
      read = read_met;
      line = line_met;
      fresh = fresh_met;
      step = step_met;
      offer = offer_met;
      accept = accept_met;
      look = look_met;
      close = close_met;
      finish = finish_met;
      page = page_met;
      verdict_line = verdict_line_met;
      rule = rule_met;
      rule_output = rule_output_met;
      page_output = page_output_met;
    }
