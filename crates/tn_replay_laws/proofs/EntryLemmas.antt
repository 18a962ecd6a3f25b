-- Lists of prices and of contracts as an answer writes them are read back.
use Rattle.std.proofs.Common.{◌≡◌, ℕ, zero, suc, ◌+◌, ◌<◌, ◌≤◌, ◌^◌, ℤ, pos, Bool, true, false, ◌&&◌, List, [], ◌∷◌, ◌++◌, map, length, slice_get, Some, None, Ok, refl, sym, ap, ◌∙◌, arith, length-append}
use Rattle.std.specs.Prelude.{All, cond, nat_lt, replicate, slice_set}
use Rattle.std.proofs.lemmas.List.{append-nil, append_assoc}
use Rattle.std.proofs.lemmas.List.Elements.{All-head, All-tail}
use Rattle.serde_json.specs.View.{items_of}
use Rattle.tn_base.specs.Arcs.{IsAtMost}
use Rattle.tn_base.specs.Sets.{has, set_of, size, toggle}
use Rattle.tn_base.proofs.SetLemmas.{has-set_of, has-toggle_other, has-zero}
use Rattle.tn_model.specs.declared.contract.Contract.{Contract}
use Rattle.tn_said.specs.declared.place.PlaceStep.{PlaceStep}
use Rattle.tn_said.specs.declared.place.PlaceStep.TheVariants.{Index}
use Rattle.tn_names.specs.Names.{IsNameList}
use Rattle.tn_read_shapes.specs.Reading.{◌>>=◌, each}
use Rattle.tn_read_shapes.specs.Shapes.{two_at}
use Rattle.tn_read_references.specs.Entries.{Numbered, entry_of, one_entry}
use Rattle.tn_read_parts.specs.Lists.{first_without, named_prices, one_price, price_of, prices_of}
use Rattle.tn_read_claims.specs.Members.{Offered, no_offers, one_offer}
use Rattle.tn_answer.specs.AnswerText.{contract_data, price_data, prices_from}
use Rattle.tn_answer.specs.Rows.{each_from}
use Rattle.tn_replay_laws.proofs.ListLemmas.{new_trade_back}
use Rattle.tn_replay_laws.proofs.NameLemmas.{number_back}

-- the number at an index in place of the one there
slice_set_at : (before : List ℤ) (z : ℤ) (zs : List ℤ) (p : ℤ) (k : ℕ) → length before ≡ k
    → slice_set (before ++ z ∷ zs) k p ≡ (before ++ p ∷ []) ++ zs
slice_set_at [] z zs p zero e = refl
slice_set_at [] z zs p (suc k) e = absurd (omega (arith, e))
slice_set_at (b ∷ before) z zs p zero e = absurd (omega (arith, e))
slice_set_at (b ∷ before) z zs p (suc k) e = ap (λ l. b ∷ l) (slice_set_at before z zs p k (omega (arith, e)))

abbrev all_below : ℕ → ℕ
all_below n = set_of (λ _. true) n

has-all_below : (n k : ℕ) → has (all_below n) k ≡ nat_lt k n
has-all_below n k = has-set_of (λ _. true) n k ∙ both (nat_lt k n)
  where
    both : (b : Bool) → (b && true) ≡ b
    both true = refl
    both false = refl

module _ (names : List (List ℕ)) (are : IsNameList names) (place : List PlaceStep) (limit : ℕ) (short : limit
    < 2 ^ 63) where
  -- one entry
  entry_back : (named t : ℕ) (price : ℤ) → t < length names → has named t ≡ false → IsAtMost price limit
      → price_of names place limit named (price_data names t price) ≡ Ok (t, price)
  unfolding entry_of two_at
  entry_back named t price below new small =
      rw (
        new_trade_back names are place (place ++ Index (size named) ∷ Index 0 ∷ []) named t below new,
        number_back limit (place ++ Index (size named) ∷ Index 1 ∷ []) price short small,
      )

  one_price_back : (priced : Numbered) (t : ℕ) (price : ℤ) → t < length names → has priced.named t ≡ false
      → IsAtMost price limit
      → one_price names place limit priced (price_data names t price)
      ≡ Ok (record { named = toggle priced.named t; numbers = slice_set priced.numbers t price })
  unfolding one_entry
  one_price_back priced t price below new small =
      ap (λ r. r >>= λ next. Ok (record {
        named = toggle priced.named next.0;
        numbers =
            slice_set priced.numbers next.0 next.1;
      })) (entry_back priced.named t price below new small)

  -- the prices from trade k on
  priced_back : (k : ℕ) (before prices : List ℤ) → length before ≡ k → k + length prices ≤ length names
      → All (λ z. IsAtMost z limit) prices
      → each (one_price names place limit) (record {
        named = all_below k;
        numbers =
            before ++ replicate (length prices) (pos 0);
      }) (items_of (each_from (price_data names) k prices))
      ≡ Ok (record { named = all_below (k + length prices); numbers = before ++ prices })
  unfolding each set_of
  priced_back k before [] counted few small = let same : k ≡ k + 0 = omega arith in
      ap (λ n. Ok (record { named = all_below n; numbers = before ++ [] })) same
  priced_back k before (p ∷ prices) counted few small =
      let self : nat_lt k k ≡ false = grind arith in
      let now : Numbered = record { named = all_below k; numbers = before ++ pos 0 ∷ replicate (length prices) (pos 0) }
      in
      let next : suc k + length prices ≡ k + suc (length prices) = omega arith in
      let more : length (before ++ p ∷ []) ≡ suc k = length-append before (p ∷ []) ∙ omega (arith, counted) in
      ap (λ r. r >>= λ found. each (one_price names place limit) found
      (items_of (each_from (price_data names) (suc k) prices)))
      (one_price_back now k p (omega (arith, few)) (has-all_below k k ∙ self)
      (All-head (λ z. IsAtMost z limit) p prices small))
      ∙ ap (λ numbers. each (one_price names place limit) (record { named = toggle (all_below k) k; numbers = numbers })
      (items_of (each_from (price_data names) (suc k) prices)))
      (slice_set_at before (pos 0) (replicate (length prices) (pos 0)) p k counted)
      ∙ priced_back (suc k) (before ++ p ∷ []) prices more (omega (arith, few))
      (All-tail (λ z. IsAtMost z limit) p prices small)
      ∙ ap (λ n. Ok (record { named = all_below n; numbers = (before ++ p ∷ []) ++ prices })) next
      ∙ ap (λ numbers. Ok (record { named = all_below (k + suc (length prices)); numbers = numbers }))
      (append_assoc before (p ∷ []) prices)

  none_missing : (n t m : ℕ) → t + m ≤ n → first_without (all_below n) t m ≡ None
  none_missing n t zero few = refl
  none_missing n t (suc m) few =
      let less : nat_lt t n ≡ true = grind (arith, few) in
      ap (λ b. cond b (first_without (all_below n) (t + 1) m) (Some t)) (has-all_below n t ∙ less)
      ∙ none_missing n (t + 1) m (omega (arith, few))

  all_priced : (prices : List ℤ) → All (λ z. IsAtMost z limit) prices → length prices ≤ length names
      → each (one_price names place limit) (record { named = 0; numbers = replicate (length prices) (pos 0) })
      (items_of (each_from (price_data names) 0 prices))
      ≡ Ok (record { named = all_below (length prices); numbers = prices })
  unfolding set_of
  all_priced prices small few = priced_back 0 [] prices refl (omega (arith, few)) small
      ∙ ap (λ n. Ok (record { named = all_below n; numbers = prices })) (let same : 0 + length prices ≡ length prices =
      omega arith in same)

  pub prices_back : (prices : List ℤ) → length prices ≡ length names → All (λ z. IsAtMost z limit) prices
      → prices_of names place limit (items_of (prices_from names 0 prices)) ≡ Ok prices
  unfolding prices_of named_prices
  prices_back prices counted small =
      let whole : each (one_price names place limit) (record { named = 0; numbers = replicate (length names) (pos 0) })
      (items_of (each_from (price_data names) 0 prices))
      ≡ Ok (record { named = all_below (length names); numbers = prices }) =
      ap (λ n. each (one_price names place limit) (record { named = 0; numbers = replicate n (pos 0) })
      (items_of (each_from (price_data names) 0 prices))) (sym counted)
      ∙ all_priced prices small (omega (arith, counted))
      ∙ ap (λ n. Ok (record { named = all_below n; numbers = prices })) counted in
      rw (whole, none_missing (length names) 0 (length names) (omega arith))

  -- ---- contracts

  -- contracts on different trades, none of them in a set
  record AreNew (named : ℕ) (contracts : List Contract) : Type 0 where
    known : (k : ℕ) (contract : Contract) → slice_get contracts k ≡ Some contract → contract.trade < length names
    new : (k : ℕ) (contract : Contract) → slice_get contracts k ≡ Some contract → has named contract.trade ≡ false
    once : (j k : ℕ) (one other : Contract) → slice_get contracts j ≡ Some one → slice_get contracts k ≡ Some other
        → one.trade ≡ other.trade → j ≡ k
    small : All (λ contract. IsAtMost contract.price limit) contracts

  later : (named : ℕ) (contract : Contract) (contracts : List Contract) → AreNew named (contract ∷ contracts)
      → AreNew (toggle named contract.trade) contracts
  later named contract contracts new = record {
    known = λ k other at. new.known (suc k) other at;
    new = λ k other at.
        has-toggle_other named contract.trade other.trade (λ same. absurd
        (zero-suc k (new.once 0 (suc k) contract other refl at (sym same)))) ∙ new.new (suc k) other at;
    once = λ j k one other at_j at_k same. let e = new.once (suc j) (suc k) one other at_j at_k same in
        omega (arith, e);
    small = All-tail (λ (c : Contract). IsAtMost c.price limit) contract contracts new.small;
  }
    where
      zero-suc : (k : ℕ) → 0 ≡ suc k → ⊥
      zero-suc k e = absurd (omega (arith, e))

  one_offer_back : (offered : Offered) (contract : Contract) → contract.trade < length names
      → has offered.named contract.trade ≡ false → IsAtMost contract.price limit
      → one_offer names place limit offered (contract_data names contract)
      ≡ Ok (record { named = toggle offered.named contract.trade; contracts = offered.contracts ++ contract ∷ [] })
  unfolding one_offer
  one_offer_back offered contract below new small =
      ap (λ r. r >>= λ next. Ok (record {
        named = toggle offered.named next.0;
        contracts =
            offered.contracts ++ record { trade = next.0; price = next.1 } ∷ [];
      }))
      (entry_back offered.named contract.trade contract.price below new small)

  offers_back : (offered : Offered) (contracts : List Contract) → AreNew offered.named contracts
      → (named : ℕ)
      × (each (one_offer names place limit) offered (items_of (map (contract_data names) contracts))
      ≡ Ok (record { named = named; contracts = offered.contracts ++ contracts }))
  unfolding each
  offers_back offered [] new = (
    offered.named,
    ap (λ l. Ok (record { named = offered.named; contracts = l }))
        (sym (append-nil offered.contracts)),
  )
  offers_back offered (contract ∷ contracts) new =
      let next : Offered = record {
        named = toggle offered.named contract.trade;
        contracts =
            offered.contracts ++ contract ∷ [];
      } in
      let rest = offers_back next contracts (later offered.named contract contracts new) in (
        rest.0,
        ap (λ r. r >>= λ found. each (one_offer names place limit) found
            (items_of (map (contract_data names) contracts)))
            (one_offer_back offered contract (new.known 0 contract refl) (new.new 0 contract refl)
            (All-head (λ (c : Contract). IsAtMost c.price limit) contract contracts new.small))
            ∙ rest.1
            ∙ ap (λ l. Ok (record { named = rest.0; contracts = l }))
            (append_assoc offered.contracts (contract ∷ []) contracts),
      )

  pub contracts_back : (contracts : List Contract) → ((k : ℕ) (contract : Contract)
      → slice_get contracts k ≡ Some contract → contract.trade < length names)
      → ((j k : ℕ) (one other : Contract) → slice_get contracts j ≡ Some one → slice_get contracts k ≡ Some other
      → one.trade ≡ other.trade → j ≡ k) → All (λ contract. IsAtMost contract.price limit) contracts
      → (named : ℕ)
      × (each (one_offer names place limit) no_offers (items_of (map (contract_data names) contracts))
      ≡ Ok (record { named = named; contracts = contracts }))
  contracts_back contracts known once small =
      offers_back no_offers contracts (record {
        known = known;
        new = λ k contract at. has-zero contract.trade;
        once =
            once;
        small = small;
      })
