-- Which of a list's contracts a firm may leave: by greatest utilities with and without them.
use Rattle.std.proofs.Common.{◌≡◌, ◌≢◌, ℕ, ◌+◌, Bool, true, false, List, slice_get, Option, Some, None, option_map, refl, sym, ap, ◌∙◌, subst, arith, inl, inr, ℤ}
use Rattle.std.specs.Prelude.{unwrap_or}
use Rattle.std.proofs.lemmas.Int.{ints}
use Rattle.std.proofs.lemmas.Bool.{cases_Bool, true≢false}
use Rattle.std.proofs.lemmas.Option.{same_Some}
use Rattle.tn_base.specs.Sets.{has}
use Rattle.tn_base.specs.Firm.{Firm}
use Rattle.tn_model.specs.declared.contract.Contract.{Contract}
use Rattle.tn_model.specs.declared.ends.Ends.{Ends}
use Rattle.tn_model.specs.Choices.{IsChoice}
use Rattle.tn_cert.specs.Least.{earlier}
use Rattle.tn_cert.specs.Greatest.{LeavesOut, IsGreatest, MayLeave, DecidesLeave, DecidesOwn}
use Rattle.tn_cert.proofs.LeastLemmas.{FindsLeast, least_passes, least_fails}

-- ---- one contract

nothing_out : (x : ℕ) → LeavesOut None x
nothing_out x = λ k member same. cc same

-- with and without a contract the greatest utility is the same: a choice lacks it
leaves : (trades : List Ends) (scale : ℤ) (f : ℕ) (firm : Firm) (contracts : List Contract) (k : ℕ) (best : ℤ)
    → IsGreatest trades scale f firm contracts None best
    → IsGreatest trades scale f firm contracts (Some k) best → MayLeave trades scale f firm contracts k
leaves trades scale f firm contracts k best greatest without = record {
  choice = without.part;
  chosen = record {
    part = without.signs;
    value = best;
    is = without.is;
    most = λ y other y_part y_is. greatest.most y other y_part (nothing_out y) y_is;
  };
  without = elim (cases_Bool (has without.part k)) [
    | inr away ↦ away
    | inl there ↦ absurd (without.avoids k there refl)
  ];
}

-- it isn't: each choice has it
takes : (trades : List Ends) (scale : ℤ) (f : ℕ) (firm : Firm) (contracts : List Contract) (k : ℕ) (best other : ℤ)
    → IsGreatest trades scale f firm contracts None best
    → IsGreatest trades scale f firm contracts (Some k) other → best ≢ other → (x : ℕ)
    → IsChoice trades scale f firm contracts x → has x k ≡ true
takes trades scale f firm contracts k best other greatest without apart x choice = elim (cases_Bool (has x k)) [
  | inl there ↦ there
  | inr away ↦
      let lacks : LeavesOut (Some k) x =
      λ j member same. true≢false (sym member ∙ ap (has x) (sym (same_Some k j same)) ∙ away) in
      let high = without.most x choice.value choice.part lacks choice.is in
      let most = choice.most greatest.part best greatest.signs greatest.is in
      let low = greatest.most without.part other without.signs (nothing_out without.part) without.is in
      absurd (apart (omega (arith, ints, high, most, low)))
]

pub decides_leave : (trades : List Ends) (scale : ℤ) (f : ℕ) (firm : Firm) (contracts : List Contract) (k : ℕ)
    (best other : ℤ) (same : Bool) → IsGreatest trades scale f firm contracts None best
    → IsGreatest trades scale f firm contracts (Some k) other → (same ≡ true → best ≡ other)
    → (same ≡ false → best ≢ other) → DecidesLeave trades scale f firm contracts k same
decides_leave trades scale f firm contracts k best other true greatest without equal apart =
    leaves trades scale f firm contracts k best greatest
    (subst (IsGreatest trades scale f firm contracts (Some k)) (sym (equal refl)) without)
decides_leave trades scale f firm contracts k best other false greatest without equal apart =
    takes trades scale f firm contracts k best other greatest without (apart refl)

-- ---- contract by contract

abbrev pub trade_at : List Contract → ℕ → ℕ
trade_at contracts k = unwrap_or (option_map (λ (contract : Contract). contract.trade) (slice_get contracts k)) 0

pub trade_is : (contracts : List Contract) (k : ℕ) (contract : Contract) → slice_get contracts k ≡ Some contract
    → trade_at contracts k ≡ contract.trade
trade_is contracts k contract is =
    ap (λ (o : Option Contract). unwrap_or (option_map (λ (c : Contract). c.trade) o) 0) is

abbrev pub FindsLeaving : List Ends → ℤ → ℕ → Firm → List Contract → ℕ → Option ℕ → Type 0
FindsLeaving trades scale f firm contracts n found =
    FindsLeast n (trade_at contracts) (λ k. DecidesOwn trades scale f firm contracts k true)
    (λ k. DecidesOwn trades scale f firm contracts k false) found

pub leaving_more : (trades : List Ends) (scale : ℤ) (f : ℕ) (firm : Firm) (contracts : List Contract) (n : ℕ)
    (found : Option ℕ) (contract : Contract)
    → FindsLeaving trades scale f firm contracts n found → slice_get contracts n ≡ Some contract
    → DecidesOwn trades scale f firm contracts n true
    → FindsLeaving trades scale f firm contracts (n + 1) (Some (earlier found contract.trade))
leaving_more trades scale f firm contracts n found contract before is left =
    subst (λ (t : ℕ). FindsLeaving trades scale f firm contracts (n + 1) (Some (earlier found t)))
    (trade_is contracts n contract is)
    (least_fails n (trade_at contracts) (λ k. DecidesOwn trades scale f firm contracts k true)
    (λ k. DecidesOwn trades scale f firm contracts k false) found before left)

pub leaving_same : (trades : List Ends) (scale : ℤ) (f : ℕ) (firm : Firm) (contracts : List Contract) (n : ℕ)
    (found : Option ℕ)
    → FindsLeaving trades scale f firm contracts n found → DecidesOwn trades scale f firm contracts n false
    → FindsLeaving trades scale f firm contracts (n + 1) found
leaving_same trades scale f firm contracts n found before taken =
    least_passes n (trade_at contracts) (λ k. DecidesOwn trades scale f firm contracts k true)
    (λ k. DecidesOwn trades scale f firm contracts k false) found before taken
