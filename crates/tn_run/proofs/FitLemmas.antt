-- What was read fits what is asked about it: its firms and trades are few, and its worths small enough for so many.
use Rattle.std.proofs.Common.{◌≡◌, ◌≤◌, length, map, sym, subst, arith}
use Rattle.std.proofs.lemmas.List.{length-map}
use Rattle.tn_model.specs.Limits.{most_firms, most_trades}
use Rattle.tn_market.specs.Traded.{Traded}
use Rattle.tn_firm.specs.declared.value.FirmValue.{FirmValue}
use Rattle.tn_firm.specs.Firms.{firm_of}
use Rattle.tn_firm.specs.Raw.{raw_firm_of}
use Rattle.tn_commands.specs.Limits.{AreWorthsAnswered}
use Rattle.tn_file.specs.declared.command.Command.{Command}
use Rattle.tn_file.specs.declared.document.Document.{Document}
use Rattle.tn_file.specs.declared.document.Content.{Content}
use Rattle.tn_file.specs.declared.document.Content.TheVariants.{Market, Raw}
use Rattle.tn_file.specs.declared.asked.Asked.{Asked}
use Rattle.tn_file.specs.declared.asked.RawAsked.{RawAsked}
use Rattle.tn_file.specs.declared.document.RawNet.{RawNet}
use Rattle.tn_file.specs.Laws.{IsDocument}
use Rattle.tn_file.specs.Refusal.{document_view}
use Rattle.tn_file.proofs.SizeLemmas.{few_firms, few_trades}

-- a market that commands answer
pub record IsAnswered (market : Traded FirmValue) : Type 0 where
  pub few_firms : length market.firms ≤ most_firms
  pub few_trades : length market.trades ≤ most_trades
  pub worths : AreWorthsAnswered (map firm_of market.firms) market.trades

pub market_fits : (command : Command) (doc : Document) → IsDocument command (document_view doc) → (market : Traded FirmValue)
    (asked : Asked) → doc.content ≡ Market market asked → IsAnswered market
market_fits command doc document market asked is =
    subst (λ (held : Content). IsDocument command (document_view (record { names = doc.names; content = held }))
    → IsAnswered market) (sym is) (λ there. record {
      few_firms = let few = few_firms command _ there in let count = length-map market.firms firm_of in
          omega (arith, few, count);
      few_trades = few_trades command _ there;
      worths = there.worths;
    }) document

-- and a network that was read raw
pub record IsTested (net : RawNet) : Type 0 where
  pub few_firms : length net.firms ≤ most_firms
  pub few_trades : length net.ends ≤ most_trades

pub raw_fits : (command : Command) (doc : Document) → IsDocument command (document_view doc) → (net : RawNet)
    (asked : RawAsked) → doc.content ≡ Raw net asked → IsTested net
raw_fits command doc document net asked is =
    subst (λ (held : Content). IsDocument command (document_view (record { names = doc.names; content = held }))
    → IsTested net) (sym is) (λ there. record {
      few_firms = let few = few_firms command _ there in let count = length-map net.firms raw_firm_of in
          omega (arith, few, count);
      few_trades = few_trades command _ there;
    }) document
