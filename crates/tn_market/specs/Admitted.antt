-- The market that some trades admit: the same firms and worths, but only bundles within these trades are possible.
use Rattle.std.specs.Prelude.{ℕ, ◌+◌, List, [], ◌∷◌}
use Rattle.tn_base.specs.Firm.{Firm, among}
use Rattle.tn_model.specs.declared.ends.Ends.{Ends}
use Rattle.tn_model.specs.Network.{part}

-- the firms from number f on, each with those of its bundles that lie within the admitted trades
abbrev pub admitted_from : List Ends → ℕ → ℕ → List Firm → List Firm
admitted_from trades allowed f [] = []
admitted_from trades allowed f (firm ∷ firms) =
    among (part trades f firm.count allowed) firm ∷ admitted_from trades allowed (f + 1) firms

abbrev pub admitted : List Ends → ℕ → List Firm → List Firm
admitted trades allowed firms = admitted_from trades allowed 0 firms
