-- What shows the clauses of `exchanges` of `src/exchange.rt`.
use Rattle.std.proofs.Common.{◌≡◌, ℕ, ap, ◌∙◌, arith, length}
use Rattle.std.specs.Prelude.{◌<ℤ◌}
use Rattle.std.proofs.lemmas.Int.{ints, to_z-of_z}
use Rattle.tn_base.specs.Firm.{net, up}
use Rattle.tn_base.specs.Table.{buys_of}
use Rattle.tn_exchange.specs.Rows.{firm_of_table}
use Rattle.tn_base.proofs.SetLemmas.{toggle_within}
use Rattle.tn_base.proofs.ExchangeLemmas.{up_within}
use Rattle.tn_exchange.proofs.TestLemmas.{exchanges_alone}
use Rattle.tn_exchange.proofs.exchange.exchanges.Goals as goal

pub swaps-requires-clause-positions_own : goal.swaps-requires-clause-positions_own
swaps-requires-clause-positions_own c =
    rw c.up.ensures (up_within c.args.buys c.args.y c.args.x (length c.args.table.now.sides) c.requires.y_own
    c.requires.x_own)

pub swaps-requires-clause-x_own : goal.swaps-requires-clause-x_own
swaps-requires-clause-x_own c =
    rw c.toggle-moved_x.ensures (toggle_within c.args.x c.args.i (length c.args.table.now.sides) c.requires.x_own
    c.requires.i_own)

pub swaps-requires-clause-y_own : goal.swaps-requires-clause-y_own
swaps-requires-clause-y_own c =
    rw c.toggle-moved_y.ensures (toggle_within c.args.y c.args.i (length c.args.table.now.sides) c.requires.y_own
    c.requires.i_own)

pub are_enough-requires-clause-x_own : goal.are_enough-requires-clause-x_own
are_enough-requires-clause-x_own c =
    rw c.toggle-moved_x.ensures (toggle_within c.args.x c.args.i (length c.args.table.now.sides) c.requires.x_own
    c.requires.i_own)

pub are_enough-requires-clause-y_own : goal.are_enough-requires-clause-y_own
are_enough-requires-clause-y_own c =
    rw c.toggle-moved_y.ensures (toggle_within c.args.y c.args.i (length c.args.table.now.sides) c.requires.y_own
    c.requires.i_own)

pub returns-then-net : goal.returns-then-net
returns-then-net c =
    let net_y : c.net.result ≡ net (buys_of c.args.table.now.sides) c.args.y =
    c.net.ensures ∙ ap (λ (b : ℕ). net b c.args.y) c.requires.bought in
    let net_x : c.net-else-swaps.result ≡ net (buys_of c.args.table.now.sides) c.args.x =
    c.net-else-swaps.ensures ∙ ap (λ (b : ℕ). net b c.args.x) c.requires.bought in
    let greater : net (buys_of c.args.table.now.sides) c.args.y <ℤ net (buys_of c.args.table.now.sides) c.args.x =
    omega (arith, ints, net_y, net_x) in
    let fits = c.ranges.total in
    let swaps = simp to_z-of_z at c.swaps.ensures in
    let moves = simp to_z-of_z at c.are_enough.ensures in
    exchanges_alone (firm_of_table c.args.table.now) c.up.result c.args.x c.args.y c.toggle-moved_x.result
    c.toggle-moved_y.result c.args.total c.args.i
    c.swaps.result c.are_enough.result (c.up.ensures ∙ ap (λ (b : ℕ). up b c.args.y c.args.x) c.requires.bought)
    c.toggle-moved_x.ensures c.toggle-moved_y.ensures swaps c.if-swaps.false greater moves
