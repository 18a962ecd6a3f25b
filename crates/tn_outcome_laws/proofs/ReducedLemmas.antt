-- The reduced worth as a relation: a best bundle among those that have the unsigned trades and beside them signed ones.
use Rattle.std.proofs.Common.{◌≡◌, ℕ, Bool, true, false, not, ◌&&◌, ◌||◌, Option, Some, None, option_map, refl, sym, ap, ap₂, ◌∙◌, arith, inl, inr, ◌↔◌, List, ℤ}
use Rattle.std.proofs.lemmas.Int.{ints}
use Rattle.std.proofs.lemmas.Bool.{and_parts}
use Rattle.std.proofs.lemmas.Option.{same_Some}
use Rattle.tn_base.specs.Sets.{has, meet, minus}
use Rattle.tn_base.specs.Firm.{Firm, HasOwnBundles, plus_sum, payments}
use Rattle.tn_base.proofs.SetLemmas.{same_set, has-meet, has-minus, has-union, has-zero}
use Rattle.tn_base.proofs.ExchangeLemmas.{cases_worth}
use Rattle.tn_model.specs.declared.ends.Ends.{Ends}
use Rattle.tn_model.specs.declared.contract.Contract.{Contract}
use Rattle.tn_market.specs.Best.{IsBetween, GivesBest}
use Rattle.tn_market.specs.Equilibrium.{prices_at}
use Rattle.tn_market.specs.Signed.{signed_price, signed_bundle}
use Rattle.tn_market.specs.Reduced.{adding, reduced, IsReducedWorth}
use Rattle.tn_outcome_laws.proofs.AddingLemmas.{adding_one, adding_most}
use Rattle.tn_outcome_laws.proofs.SplitLemmas.{own_priced}

-- a bundle with given positions beside x is between x and them
between_from_part : (y given x : ℕ) → minus y given ≡ x → IsBetween x given y
between_from_part y given x part = (
  λ k there. (and_parts (has y k) (not (has given k)) (sym (has-minus y given k) ∙ ap (λ (z : ℕ). has z k) part
      ∙ there)).0,
  λ k there. has-union x given k ∙ by_case (has given k) (has x k) (λ away. sym (ap (λ (z : ℕ). has z k) part)
      ∙ has-minus y given k ∙ ap₂ (λ (a b : Bool). a && not b) there away),
)
  where
    by_case : (g h : Bool) → (g ≡ false → h ≡ true) → (h || g) ≡ true
    by_case true true f = refl
    by_case true false f = refl
    by_case false h f = ap (λ (b : Bool). b || false) (f refl)

-- and the other way, where x has none of them
part_from_between : (y given x : ℕ) → meet x given ≡ 0 → IsBetween x given y → minus y given ≡ x
part_from_between y given x apart between =
    same_set (minus y given) x (λ k. has-minus y given k ∙ by_case (has x k) (has y k) (has given k) (between.0 k)
    (λ there. sym (has-union x given k) ∙ between.1 k there) (sym (has-meet x given k) ∙ ap (λ (z : ℕ). has z k) apart
    ∙ has-zero k))
  where
    by_case : (x y g : Bool) → (x ≡ true → y ≡ true) → (y ≡ true → (x || g) ≡ true) → (x && g) ≡ false
        → (y && not g) ≡ x
    by_case true y true f h e = absurd (cc e)
    by_case true y false f h e = ap (λ (b : Bool). b && true) (f refl)
    by_case false true true f h e = refl
    by_case false true false f h e = absurd (let no = h refl in cc no)
    by_case false false g f h e = refl

pub adding_is_best : (given : ℕ) (firm : Firm) (x : ℕ) (worth : Option ℤ) → HasOwnBundles firm → meet x given ≡ 0
    → ((adding given firm).worth x ≡ worth) ↔ ((found : Option (ℕ × ℤ)) × GivesBest x given firm.worth found
    × (option_map (λ p. p.1) found ≡ worth))
adding_is_best given firm x worth own apart = (forth worth, λ given_best. back given_best.0 given_best.1 ∙ given_best.2)
  where
    forth : (worth : Option ℤ) → (adding given firm).worth x ≡ worth
        → (found : Option (ℕ × ℤ)) × GivesBest x given firm.worth found × (option_map (λ p. p.1) found ≡ worth)
    forth None is = (
      None,
      λ y between. elim (cases_worth (firm.worth y)) [
        | inr none ↦ none
        | inl some ↦
            absurd (let there =
            (adding_most given firm own x y some.0 (part_from_between y given x apart between) some.1).1 in
            cc (there, is))
      ],
      refl,
    )
    forth (Some a) is =
        let there = adding_one given firm x a is in (
          Some (there.0, a),
          record {
            is = there.2;
            between = between_from_part there.0 given x there.1;
            most = λ y other between y_is.
                let more = adding_most given firm own x y other (part_from_between y given x apart between) y_is in
                let same = same_Some more.0 a (sym more.1 ∙ is) in
                let low = more.2 in
                omega (arith, ints, same, low);
          },
          refl,
        )

    back : (found : Option (ℕ × ℤ)) → GivesBest x given firm.worth found
        → (adding given firm).worth x ≡ option_map (λ p. p.1) found
    back None none = elim (cases_worth ((adding given firm).worth x)) [
      | inr away ↦ away
      | inl some ↦ absurd (
          let there = adding_one given firm x some.0 some.1 in
          let no = none there.0 (between_from_part there.0 given x there.1) in
          let yes = there.2 in
          cc (no, yes))
    ]
    back (Some p) best =
        let more = adding_most given firm own x p.0 p.1 (part_from_between p.0 given x apart best.between) best.is in
        let there = adding_one given firm x more.0 more.1 in
        let high = best.most there.0 more.0 (between_from_part there.0 given x there.1) there.2 in
        let low = more.2 in
        let same : more.0 ≡ p.1 = omega (arith, ints, high, low) in
        more.1 ∙ ap (λ (z : ℤ). Some z) same

pub reduced_worths_are_greatest : (trades : List Ends) (over : ℤ) (contracts : List Contract) (f : ℕ) (firm : Firm)
    (x : ℕ) (worth : Option ℤ) → HasOwnBundles firm
    → meet x (signed_bundle trades contracts f firm) ≡ 0
    → ((reduced trades over contracts f firm).worth x ≡ worth) ↔ IsReducedWorth trades over contracts f firm x worth
reduced_worths_are_greatest trades over contracts f firm x worth own apart =
    adding_is_best (signed_bundle trades contracts f firm)
    (plus_sum over (payments firm.buys (prices_at trades (signed_price contracts) f)) firm) x worth
    (own_priced over (payments firm.buys (prices_at trades (signed_price contracts) f)) firm own) apart
