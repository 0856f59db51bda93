-- `round`: the exchange, and close where that fills nothing.
use Rattle.exchange.proofs.RunningLaws.{exchanged_running}
use Rattle.rounds.proofs.RunningLaws.{ran_round, exchange_settled, ran_closed}
use Rattle.rounds.proofs.round.round.Goals as goal

pub returns-then-exchanged-ne0 : goal.returns-then-exchanged-ne0
returns-then-exchanged-ne0 c =
    ran_round c.requires c.exchange-exchanged.ensures c.if-exchanged-ne0.true

pub close_open-requires : goal.close_open-requires
close_open-requires c =
    let done = c.exchange-exchanged.ensures in
    record { running = exchanged_running c.requires done; table_value = exchange_settled c.requires done c.if-exchanged-ne0.false }

pub returns : goal.returns
returns c =
    let done = c.exchange-exchanged.ensures in
    ran_closed c.requires done c.if-exchanged-ne0.false c.close_open.ensures
