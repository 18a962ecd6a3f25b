-- What shows the clauses of `answer_session` of `src/session.rt`.
use Rattle.tn_commands.proofs.EditLemmas.{stands_from}
use Rattle.tn_commands.proofs.session.answer_session.Goals as goal

pub states_from-states-requires-clause-stands : goal.states_from-states-requires-clause-stands
states_from-states-requires-clause-stands c =
    let begun = c.in_ok-session.ensures in
    stands_from c.args.market.now.firms c.args.market.now.trades c.in_ok-session.session begun.market c.requires.worths
    begun.equilibrium begun.prices
