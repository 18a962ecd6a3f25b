-- What shows the clauses of `Dealer::is_even` of `src/worth.rt`.
use Rattle.std.proofs.Common.{ℤ, ◌==◌, sym, ap, ◌∙◌}
use Rattle.std.proofs.lemmas.Bool.{false≢true}
use mir.Syntax.{w32}
use mir.Val.{of_z}
use Rattle.tn_dealer.specs.WorthLemmas.{own_pairs}
use Rattle.tn_dealer.proofs.CertificateLemmas.{shows_uneven}
use Rattle.tn_dealer.proofs.dealer.Dealer.is_even.Goals as goal

pub returns : goal.returns
returns c = λ differs.
    shows_uneven c.args.self.now.trades c.args.self.now.buys c.args.self.now.pairs.items
    (own_pairs c.args.self.now.trades c.args.self.now.buys c.args.self.now.pairs.items c.args.self.now.dealer.own)
    c.args.x (λ none. false≢true (sym differs ∙ ap (λ (z : ℤ). of_z w32 z == 0) (c.net.ensures ∙ none)))
