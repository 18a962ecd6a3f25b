-- What a firm would drop: choices from its contracts by bundles of signed trades.
use Rattle.std.proofs.Common.{◌≡◌, ℕ, ◌+◌, ◌^◌, ◌<◌, Bool, true, false, ◌&&◌, List, length, slice_get, Option, Some, None, option_map, refl, sym, ap, ◌∙◌, subst, arith, inl, inr, ℤ, ◌-ℤ◌}
use Rattle.std.proofs.lemmas.Int.{ints}
use Rattle.std.proofs.lemmas.Bool.{cases_Bool, cases_eq}
use Rattle.std.proofs.lemmas.Option.{same_Some}
use Rattle.tn_base.specs.Sets.{has}
use Rattle.tn_base.specs.Firm.{Firm}
use Rattle.tn_base.proofs.SetLemmas.{has_below, set_of_within, within_from}
use Rattle.tn_model.specs.declared.ends.Ends.{Ends}
use Rattle.tn_model.specs.declared.contract.Contract.{Contract}
use Rattle.tn_model.specs.Network.{own}
use Rattle.tn_market.specs.Best.{IsSubset, IsBestBetween}
use Rattle.tn_model.specs.Choices.{bundle_by, part_utility, own_part, IsPart, IsChoice}
use Rattle.tn_market.specs.Signed.{is_signed, signed, signed_bundle, contract_utility}
use Rattle.tn_outcome_laws.proofs.SignedLemmas.{has-signed_bundle}
use Rattle.tn_outcome_laws.proofs.RationalLemmas.{IsSigner, part_is_bundle, part_bundle, bundle_signed, is_in, in_is, wanted_part, wanted_is_part, own_is_part, own_bundle, between_signed, inside_signed, rational_from_bundles}
use Rattle.tn_judge.specs.declared.drops.Kept.{Kept}
use Rattle.tn_judge.specs.Drops.{TellsDrop, FindsDrop}
use Rattle.tn_judge.specs.Verdict.{AreKeptBefore}

-- a choice with a best bundle of signed trades
record IsChosen (trades : List Ends) (over : ℤ) (contracts : List Contract) (f : ℕ) (firm : Firm) (b : ℕ)
    (value : ℤ) : Type 0 where
  part : ℕ
  choice : IsChoice trades over f firm contracts part
  value_is : choice.value ≡ value
  bundle : bundle_by trades f firm.count contracts part ≡ b

choice_of : (firms : List Firm) (trades : List Ends) (over : ℤ) (contracts : List Contract) (f : ℕ) (firm : Firm)
    → IsSigner firms trades contracts f firm → (b : ℕ) (value : ℤ)
    → IsBestBetween 0 (signed_bundle trades contracts f firm) (contract_utility trades over contracts f firm) b value
    → IsChosen trades over contracts f firm b value
choice_of firms trades over contracts f firm signer b value best = record {
  part = wanted_part trades f contracts (is_in trades f firm.count b);
  choice = record {
    part = is_part;
    value = value;
    is = part_is_bundle firms trades over contracts f firm signer
        (wanted_part trades f contracts (is_in trades f firm.count b)) is_part
        ∙ ap (contract_utility trades over contracts f firm) bundle ∙ best.is;
    most = λ y other y_part y_is.
        best.most (bundle_by trades f firm.count contracts y) other
        (between_signed (bundle_by trades f firm.count contracts y) (signed_bundle trades contracts f firm)
        (bundle_signed firms trades contracts f firm signer y))
        (sym (part_is_bundle firms trades over contracts f firm signer y y_part) ∙ y_is);
  };
  value_is = refl;
  bundle = bundle;
}
  where
    inside : IsSubset b (signed_bundle trades contracts f firm)
    inside = inside_signed b (signed_bundle trades contracts f firm) best.between

    is_part : IsPart trades f contracts (wanted_part trades f contracts (is_in trades f firm.count b))
    is_part = wanted_is_part trades contracts signer.feasible f (is_in trades f firm.count b)

    within : b < 2 ^ firm.count
    within = within_from b firm.count (λ k above. elim (cases_Bool (has b k)) [
      | inr out ↦ out
      | inl there ↦
          let below = has_below (signed_bundle trades contracts f firm) firm.count k
          (set_of_within (λ j. has (signed (length trades) contracts) (own trades f j)) firm.count) (inside k there)
          in
          absurd (omega (arith, above, below))
    ])

    with_signed : (h s : Bool) → (h ≡ true → s ≡ true) → h ≡ (h && s)
    with_signed true s f = sym (f refl)
    with_signed false s f = refl

    bundle : bundle_by trades f firm.count contracts (wanted_part trades f contracts (is_in trades f firm.count b)) ≡ b
    bundle = part_bundle firms trades contracts f firm signer (is_in trades f firm.count b) b within (λ i below.
        with_signed (has b i) (is_signed contracts (own trades f i))
        (λ there. sym (has-signed_bundle firms trades signer.network contracts f i firm signer.is below)
        ∙ inside i there)
        ∙ ap (λ (h : Bool). h && is_signed contracts (own trades f i))
        (sym (in_is firms trades signer.network f firm signer.is b i below)))

-- the utility of all contracts is that of the signed bundle
own_value : (firms : List Firm) (trades : List Ends) (over : ℤ) (contracts : List Contract) (f : ℕ) (firm : Firm)
    → IsSigner firms trades contracts f firm
    → part_utility trades over f firm contracts (own_part trades f contracts)
    ≡ contract_utility trades over contracts f firm (signed_bundle trades contracts f firm)
own_value firms trades over contracts f firm signer =
    part_is_bundle firms trades over contracts f firm signer (own_part trades f contracts)
    (own_is_part trades contracts signer.feasible f)
    ∙ ap (contract_utility trades over contracts f firm) (own_bundle firms trades contracts f firm signer)

pub finds_drop : (firms : List Firm) (trades : List Ends) (over : ℤ) (contracts : List Contract) (f : ℕ) (firm : Firm)
    → IsSigner firms trades contracts f firm → (keeps : ℕ) (value : ℤ)
    → IsBestBetween 0 (signed_bundle trades contracts f firm) (contract_utility trades over contracts f firm) keeps
    value
    → (own_utility : Option ℤ)
    → own_utility ≡ contract_utility trades over contracts f firm (signed_bundle trades contracts f firm)
    → (result : Option Kept) → TellsDrop keeps value own_utility result → FindsDrop trades over contracts f firm result
finds_drop firms trades over contracts f firm signer keeps value best None own_is None tells = absurd tells
finds_drop firms trades over contracts f firm signer keeps value best None own_is (Some drop) tells =
    let chosen = choice_of firms trades over contracts f firm signer keeps value best in
    let none = own_value firms trades over contracts f firm signer ∙ sym own_is in
    record {
      fails = λ choice. (let some = choice.is in cc (some, none));
      kept = chosen.part;
      choice = chosen.choice;
      bundle = chosen.bundle ∙ sym tells.0;
      gains = tells.1 ∙ sym (ap (option_map (λ own. chosen.choice.value -ℤ own)) none);
    }
finds_drop firms trades over contracts f firm signer keeps value best (Some own) own_is None tells =
    rational_from_bundles firms trades over contracts f firm signer own (record {
      is = sym own_is;
      between = between_signed (signed_bundle trades contracts f firm) (signed_bundle trades contracts f firm)
          (λ k there. there);
      most = λ y other between y_is. (let step = best.most y other between y_is in omega (arith, ints, step, tells));
    })
finds_drop firms trades over contracts f firm signer keeps value best (Some own) own_is (Some drop) tells =
    let chosen = choice_of firms trades over contracts f firm signer keeps value best in
    let some = own_value firms trades over contracts f firm signer ∙ sym own_is in
    let less = tells.2 in
    record {
      fails = λ choice. (
          let same = same_Some _ _ (sym choice.is ∙ some) in
          let most = choice.most chosen.part chosen.choice.value chosen.choice.part chosen.choice.is in
          let high = chosen.value_is in
          absurd (omega (arith, ints, same, most, high, less)));
      kept = chosen.part;
      choice = chosen.choice;
      bundle = chosen.bundle ∙ sym tells.0;
      gains = tells.1 ∙ ap (λ (v : ℤ). Some (v -ℤ own)) (sym chosen.value_is)
          ∙ sym (ap (option_map (λ own. chosen.choice.value -ℤ own)) some);
    }

-- ---- firm by firm

pub one_kept : (firms : List Firm) (trades : List Ends) (over : ℤ) (contracts : List Contract) (f : ℕ)
    → AreKeptBefore firms trades over contracts f
    → ((firm : Firm) → slice_get firms f ≡ Some firm → FindsDrop trades over contracts f firm None)
    → AreKeptBefore firms trades over contracts (f + 1)
one_kept firms trades over contracts f before here g firm below is = elim (cases_eq g f) [
  | inl e ↦ subst (λ (h : ℕ). IsChoice trades over h firm contracts (own_part trades h contracts)) (sym e)
      (here firm (ap (slice_get firms) (sym e) ∙ is))
  | inr d ↦ before g firm (omega (arith, below, d)) is
]
