-- The firms of a residual market may be asked.
use Rattle.std.specs.Prelude.{unsigned_abs}
use Rattle.tn_market.specs.Lawful.{IsLawful}
use Rattle.tn_market.specs.LeviedLemmas.{levied_laws}
use Rattle.tn_market.specs.OutsideLemmas.{outside_laws}
use Rattle.tn_market.specs.Parties.{party_firm, party_limit}
use Rattle.tn_market.specs.declared.valuation.Valuation.{Ghosts}
use Rattle.tn_market.specs.declared.party.Party.{Party}
use Rattle.tn_market.specs.declared.party.Party.TheVariants.{Firm as Member, Outside}

-- either is a firm that may be asked
pub party_laws : {V M : Type 0} {market : Ghosts V M} → ((v : V) → IsLawful (market.limit v) (market.firm v))
    → (party : Party V M market)
    → IsLawful (party_limit market party) (party_firm market party)
party_laws {V} {M} {market} laws (Member v) =
    levied_laws v.scale v.tax v.taxed (unsigned_abs v.worth) (market.limit v.inner.now) (market.firm v.inner.now) v.levy
    v.worths (laws v.inner.now)
party_laws {V} {M} {market} laws (Outside out) = outside_laws out.price out.small
