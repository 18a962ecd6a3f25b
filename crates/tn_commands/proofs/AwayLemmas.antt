-- A firm that is away trades nothing.
use Rattle.std.proofs.Common.{◌≡◌, ℕ, Bool, true, false, not, ◌==◌, ◌&&◌, List, inl, inr, sym, ap, ◌∙◌, refl, true≢false}
use Rattle.std.proofs.lemmas.Bool.{and_parts, cases_Bool, eqb-true, or_cases}
use Rattle.tn_base.specs.Sets.{has}
use Rattle.tn_base.proofs.SetLemmas.{has-zero, same_set}
use Rattle.tn_model.specs.declared.ends.Ends.{Ends}
use Rattle.tn_said.specs.declared.session.Edit.{Edit}
use Rattle.tn_model.specs.Network.{own, part, stands_at}
use Rattle.tn_model.proofs.NetworkLemmas.{member_of_part, own_stands}
use Rattle.tn_commands.specs.Session.{FirmsAwayHaveNothing, is_admitted_after, is_away_after, is_usable_after}

never : (b : Bool) → (b && false) ≡ false
never true = refl
never false = refl

never_both : (b other : Bool) → ((b && false) && other) ≡ false
never_both true other = refl
never_both false other = refl

-- a trade of a firm that is away can't be used
unusable : (edits : List Edit) (t : ℕ) (trade : Ends) (f k : ℕ) → stands_at trade f k ≡ true
    → is_away_after edits f ≡ true → is_usable_after edits t trade ≡ false
unusable edits t trade f k stands away =
    elim (or_cases (trade.seller == f && trade.at_seller == k) (trade.buyer == f && trade.at_buyer == k) stands) [
      | inl sells ↦
          let same : trade.seller ≡ f =
          eqb-true trade.seller f (and_parts (trade.seller == f) (trade.at_seller == k) sells).0 in
          ap (λ (b : Bool). (is_admitted_after edits t && not b) && not (is_away_after edits trade.buyer))
          (ap (is_away_after edits) same ∙ away)
          ∙ never_both (is_admitted_after edits t) (not (is_away_after edits trade.buyer))
      | inr buys ↦
          let same : trade.buyer ≡ f = eqb-true trade.buyer f
          (and_parts (trade.buyer == f) (trade.at_buyer == k) buys).0 in
          ap (λ (b : Bool). (is_admitted_after edits t && not (is_away_after edits trade.seller)) && not b)
          (ap (is_away_after edits) same ∙ away)
          ∙ never (is_admitted_after edits t && not (is_away_after edits trade.seller))
    ]

pub firms_away_have_nothing : FirmsAwayHaveNothing
firms_away_have_nothing firms trades edits state at network f firm is away =
    same_set _ _ (λ k. none k ∙ sym (has-zero k))
  where
    none : (k : ℕ) → has (part trades f firm.count at.is.set) k ≡ false
    none k = elim (cases_Bool (has (part trades f firm.count at.is.set) k)) [
      | inl member ↦
          let there = (member_of_part trades f firm.count at.is.set k).0 member in
          let stands = own_stands trades f k (network.whole f k firm is there.0) in
          let used = at.is.inside (own trades f k) there.1 in
          absurd (true≢false (sym used ∙ at.allowed_is (own trades f k) stands.trade stands.is
          ∙ unusable edits (own trades f k) stands.trade f k stands.stands away))
      | inr out ↦ out
    ]
