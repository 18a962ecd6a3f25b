-- What shows the clauses of `read_claimed` of `src/network.rt`.
use Rattle.std.proofs.Common.{◌≡◌, map, length, true, false, arith}
use Rattle.std.proofs.lemmas.List.{length-map}
use Rattle.serde_json.specs.View.{items_view}
use Rattle.serde_json.specs.Events.{items_len}
use Rattle.tn_firm.specs.Firms.{firm_of}
use Rattle.tn_firm.specs.Raw.{raw_firm_of}
use Rattle.tn_read_shapes.proofs.ShapeLemmas.{items_len_is}
use Rattle.tn_read_firms.proofs.FirmLeads.{firms_are_counted}
use Rattle.tn_file.proofs.network.read_claimed.Goals as goal

pub read_market_claim-requires : goal.read_market_claim-requires
read_market_claim-requires c =
    let made = c.in_ok-made-in-Ok-OnMarket-default.made.items in
    let items = items_view c.args.firms.now in
    let count : length (map firm_of made) ≡ items_len items =
    (firms_are_counted true c.args.head.now c.requires.trades items).at (map firm_of made)
    c.in_ok-made-in-Ok-OnMarket-default.ensures.gives in
    record {
      few = λ f known. c.in_ok-made-in-Ok-OnMarket-default.ensures.few f (omega (
        arith,
        known,
        c.requires.count,
        count,
        items_len_is c.args.firms.now,
        length-map made firm_of,
      ));
    }

pub read_firm_claim-requires : goal.read_firm_claim-requires
read_firm_claim-requires c =
    let made = c.in_ok-made-in-Ok-OnFirms-default.made.items in
    let items = items_view c.args.firms.now in
    let count : length (map raw_firm_of made) ≡ items_len items =
    (firms_are_counted false c.args.head.now c.requires.trades items).at (map raw_firm_of made)
    c.in_ok-made-in-Ok-OnFirms-default.ensures.gives in
    record {
      few = λ f known. c.in_ok-made-in-Ok-OnFirms-default.ensures.few f (omega (
        arith,
        known,
        c.requires.count,
        count,
        items_len_is c.args.firms.now,
        length-map made raw_firm_of,
      ));
    }
