-- What holds of every document that is read, and of its market.
use Rattle.std.specs.Prelude.{◌≡◌, ℕ, ◌<◌, ℤ, List, length, slice_get, Some, Ok}
use Rattle.serde_json.specs.Data.{Data}
use Rattle.tn_counts.specs.Counts.{AreCounts, CountFirm, IsEquilibriumByCounts, count_surplus}
use Rattle.tn_counts.specs.Laminar.{firm_of, firms_of}
use Rattle.tn_counts.specs.declared.market.UnitMarket.{UnitMarket}
use Rattle.tn_counts.specs.declared.trade.UnitTrade.{UnitTrade}
use Rattle.tn_read_units.specs.Documents.{IsUnitDocument}
use Rattle.tn_read_units.specs.Firms.{UnitDocument, document_of}
use Rattle.tn_read_units.specs.Worths.{written_firms}

-- every document that is read is one of laminar firms
abbrev pub UnitDocumentsAreNetworks : Type 0
UnitDocumentsAreNetworks = (top : Data) (document : UnitDocument) → document_of top ≡ Ok document
    → IsUnitDocument document

-- the firms of a market have the worths that a document says of counts, and there are as many
pub record HasItsWorths (document : UnitDocument) (market : UnitMarket) : Type 0 where
  pub count : market.firms ≡ length (written_firms document)
  pub worths : (f : ℕ) (firm : CountFirm) → slice_get (written_firms document) f ≡ Some firm → (counts : ℕ → ℕ)
      → AreCounts document.head.trades counts → (firm_of market f).worth counts ≡ firm.worth counts

-- the firms of both have the same equilibria, and counts have the same surplus
pub record AreTheSame (market firms : List CountFirm) (trades : List UnitTrade) : Type 0 where
  pub count : length market ≡ length firms
  pub equilibria : (scale : ℤ) (counts : ℕ → ℕ) (prices : ℕ → ℤ)
      → IsEquilibriumByCounts market trades scale counts prices → IsEquilibriumByCounts firms trades scale counts prices
  pub back : (scale : ℤ) (counts : ℕ → ℕ) (prices : ℕ → ℤ)
      → IsEquilibriumByCounts firms trades scale counts prices → IsEquilibriumByCounts market trades scale counts prices
  pub surplus : (counts : ℕ → ℕ) → AreCounts trades counts → count_surplus market counts ≡ count_surplus firms counts

-- a market with its document's worths
abbrev pub MarketsSayTheirDocuments : Type 0
MarketsSayTheirDocuments = (document : UnitDocument) (market : UnitMarket) → HasItsWorths document market
    → AreTheSame (firms_of market) (written_firms document) document.head.trades
