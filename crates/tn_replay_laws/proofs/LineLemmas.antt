-- What is written for an answer that may be a claim is read as its value.
use Rattle.std.proofs.Common.{◌≡◌, ℕ, suc, ◌<◌, ◌≤◌, ◌^◌, ℤ, pos, negsuc, true, List, [], ◌∷◌, ◌++◌, map, Option, Some, None, refl, sym, ap, ◌∙◌, arith, true≢false}
use Rattle.std.specs.Prelude.{All, IfSome, max, option_and_then, option_map}
use Rattle.std.proofs.lemmas.Int.{ints}
use Rattle.std.proofs.lemmas.List.{append-nil}
use Rattle.std.proofs.lemmas.List.Elements.{All-head, All-tail}
use Rattle.json.specs.Json.{if_last, value}
use Rattle.json.specs.Lex.{tokens}
use Rattle.json.specs.Tree.{HasNumbers, ItemsHaveNumbers, depth, items_depth, json_tokens}
use Rattle.json.proofs.Printed.Decimals.{IsNumber-decimal, IsNumber-signed_decimal}
use Rattle.json.proofs.Printed.Tokens.{tokens-print}
use Rattle.json.proofs.Printed.Trees.{ArePrintable-json_tokens, value-json_tokens}
use Rattle.serde_json.specs.Data.{Data, array, null, number, string}
use Rattle.serde_json.specs.Read.{max_depth, of_items, of_json, read}
use Rattle.serde_json.specs.View.{items_of}
use Rattle.serde_json.specs.Written.{compact_text, items_outline, outline}
use Rattle.serde_json.proofs.Numbers.{number_of-decimal, number_of-negative}
use Rattle.serde_json.proofs.Texts.{print-outline}
use Rattle.tn_base.specs.Arcs.{IsAtMost}
use Rattle.tn_model.specs.Limits.{most_number}
use Rattle.tn_model.specs.declared.contract.Contract.{Contract}
use Rattle.tn_said.specs.declared.said.Said.{Said}
use Rattle.tn_said.specs.declared.said.Said.TheVariants.{Accepted, Better, Blocks, Completes, Cycle, Drops, Equilibrium, ExchangeFails, Impossible, Solved, Supported}
use Rattle.tn_names.specs.Names.{NameLists}
use Rattle.tn_answer.specs.AnswerText.{answer_data, answer_line, contract_data, price_data, prices_from}
use Rattle.tn_answer.specs.declared.layout.Layout.TheVariants.{Object}
use Rattle.tn_answer.specs.Kept.{IsWithinClaims}
use Rattle.tn_answer.specs.Values.{bound_data, integer_data, name_data, option_data}
use Rattle.tn_replay_laws.specs.Lines.{LinesAreRead, is_claim}
use Rattle.tn_replay_laws.proofs.FitLemmas.{prices_within}

-- a value whose text is read as it, at most so deep
record IsReadable (deep : ℕ) (d : Data) : Type 0 where
  reads : of_json (outline d) ≡ Some d
  numbers : HasNumbers (outline d)
  shallow : depth (outline d) ≤ deep

abbrev AreReadable : ℕ → List Data → Type 0
AreReadable deep [] = Unit {0}
AreReadable deep (d ∷ ds) = IsReadable deep d × AreReadable deep ds

max_least : (a b n : ℕ) → a ≤ n → b ≤ n → max a b ≤ n
max_least a b n p q = grind (arith, p, q)

text_readable : (deep : ℕ) (s : List ℕ) → IsReadable deep (string s)
text_readable deep s = record { reads = refl; numbers = tt; shallow = omega arith }

null_readable : (deep : ℕ) → IsReadable deep null
null_readable deep = record { reads = refl; numbers = tt; shallow = omega arith }

number_readable : (deep : ℕ) (z : ℤ) → IsAtMost z most_number → IsReadable deep (integer_data z)
number_readable deep (pos n) small =
    let high = small.high in
    let below : n < 2 ^ 64 = omega (arith, ints, high) in
    record {
      reads = ap (option_map number) (number_of-decimal n below);
      numbers = IsNumber-decimal n below;
      shallow =
          omega arith;
    }
number_readable deep (negsuc n) small =
    let low = small.low in
    record {
      reads = ap (option_map number) (number_of-negative n (omega (arith, ints, low)));
      numbers =
          IsNumber-signed_decimal (negsuc n) (omega (arith, ints, low));
      shallow = omega arith;
    }

-- ---- lists

items_read : (deep : ℕ) (ds : List Data) → AreReadable deep ds
    → of_items (items_outline (items_of ds)) ≡ Some (items_of ds)
items_read deep [] are = refl
items_read deep (d ∷ ds) are = rw (are.0.reads, items_read deep ds are.1)

items_numbers : (deep : ℕ) (ds : List Data) → AreReadable deep ds → ItemsHaveNumbers (items_outline (items_of ds))
items_numbers deep [] are = tt
items_numbers deep (d ∷ ds) are = (are.0.numbers, items_numbers deep ds are.1)

items_shallow : (deep : ℕ) (ds : List Data) → AreReadable deep ds → items_depth (items_outline (items_of ds)) ≤ deep
items_shallow deep [] are = omega arith
items_shallow deep (d ∷ ds) are =
    max_least (depth (outline d)) (items_depth (items_outline (items_of ds))) deep are.0.shallow
    (items_shallow deep ds are.1)

list_readable : (deep : ℕ) (ds : List Data) → AreReadable deep ds → IsReadable (suc deep) (array (items_of ds))
list_readable deep ds are = record {
  reads = ap (option_map array) (items_read deep ds are);
  numbers = items_numbers deep ds are;
  shallow = let h = items_shallow deep ds are in omega (arith, h);
}

module _ (names : List (List ℕ)) where
  names_readable : (ks : List ℕ) → AreReadable 0 (map (name_data names) ks)
  names_readable [] = tt
  names_readable (k ∷ ks) = (text_readable 0 _, names_readable ks)

  option_readable : (deep : ℕ) (k : Option ℕ) → IsReadable deep (option_data names k)
  option_readable deep None = null_readable deep
  option_readable deep (Some k) = text_readable deep _

  nodes_readable : (nodes : List (Option ℕ)) → AreReadable 0 (map (option_data names) nodes)
  nodes_readable [] = tt
  nodes_readable (node ∷ nodes) = (option_readable 0 node, nodes_readable nodes)

  price_readable : (k : ℕ) (price : ℤ) → IsAtMost price most_number → IsReadable 1 (price_data names k price)
  price_readable k price small = list_readable 0 (name_data names k ∷ integer_data price ∷ []) (
    text_readable 0 _,
    (number_readable 0 price small, tt),
  )

  prices_readable : (k : ℕ) (prices : List ℤ) → All (λ z. IsAtMost z most_number) prices
      → AreReadable 1 (prices_from names k prices)
  prices_readable k [] small = tt
  prices_readable k (price ∷ prices) small = (
    price_readable k price (All-head (λ z. IsAtMost z most_number) price prices small),
    prices_readable (suc k) prices (All-tail (λ z. IsAtMost z most_number) price prices small),
  )

  contracts_readable : (contracts : List Contract) → All (λ contract. IsAtMost contract.price most_number) contracts
      → AreReadable 1 (map (contract_data names) contracts)
  contracts_readable [] small = tt
  contracts_readable (contract ∷ contracts) small = (
    price_readable contract.trade contract.price (All-head (λ (c : Contract). IsAtMost c.price most_number) contract
        contracts small),
    contracts_readable contracts (All-tail (λ (c : Contract). IsAtMost c.price most_number) contract contracts small),
  )

gain_readable : (gain : Option ℤ) → IfSome gain (λ z. IsAtMost z most_number) → IsReadable 0 (bound_data gain)
gain_readable None small = null_readable 0
gain_readable (Some z) small = number_readable 0 z small

-- ---- answers

module _ (names : NameLists) where
  answer_readable : (said : Said) → is_claim said ≡ true → IsWithinClaims said → IsReadable 4 (answer_data names said)
  answer_readable (Equilibrium surplus) claim within =
      let a = number_readable 0 surplus within in
      record { reads = rw a.reads; numbers = (tt, (a.numbers, tt)); shallow = let p = a.shallow in grind (arith, p) }
  answer_readable (Better firm bundle gain) claim within =
      let a = list_readable 0 (map (name_data names.trades) bundle) (names_readable names.trades bundle) in
      let b = number_readable 0 gain within in
      record {
        reads = rw (a.reads, b.reads);
        numbers = (tt, (a.numbers, (tt, (b.numbers, tt))));
        shallow = let p =
            a.shallow in let q = b.shallow in grind (arith, p, q);
      }
  answer_readable (Impossible firm) claim within = record {
    reads = refl;
    numbers = (tt, (tt, tt));
    shallow =
        omega arith;
  }
  answer_readable Accepted claim within = record { reads = refl; numbers = (tt, tt); shallow = omega arith }
  answer_readable (ExchangeFails firm x y at) claim within =
      let a = option_readable names.trades 0 at in
      let b = list_readable 0 (map (name_data names.trades) x) (names_readable names.trades x) in
      let c = list_readable 0 (map (name_data names.trades) y) (names_readable names.trades y) in
      record {
        reads = rw (a.reads, b.reads, c.reads);
        numbers =
            (tt, (a.numbers, (tt, (b.numbers, (c.numbers, tt)))));
        shallow = let p = a.shallow in let q = b.shallow in
            let r = c.shallow in grind (arith, p, q, r);
      }
  answer_readable (Supported on prices ends) claim within =
      let a = list_readable 1 (prices_from names.trades 0 prices)
      (prices_readable names.trades 0 prices (prices_within prices within)) in
      record { reads = rw a.reads; numbers = (tt, (a.numbers, tt)); shallow = let p = a.shallow in grind (arith, p) }
  answer_readable (Cycle nodes cost) claim within =
      let a = number_readable 0 cost within in
      let b = list_readable 0 (map (option_data names.trades) nodes) (nodes_readable names.trades nodes) in
      record {
        reads = rw (a.reads, b.reads);
        numbers = (tt, (a.numbers, (b.numbers, tt)));
        shallow = let p = a.shallow
            in let q = b.shallow in grind (arith, p, q);
      }
  answer_readable (Solved on prices surplus ends) claim within =
      let a = list_readable 0 (map (name_data names.trades) on) (names_readable names.trades on) in
      let b = list_readable 1 (prices_from names.trades 0 prices)
      (prices_readable names.trades 0 prices (prices_within prices within.0)) in
      let c = number_readable 0 surplus within.1 in
      record {
        reads = rw (a.reads, b.reads, c.reads);
        numbers =
            (tt, (a.numbers, (b.numbers, (c.numbers, tt))));
        shallow = let p = a.shallow in let q = b.shallow in let r =
            c.shallow in grind (arith, p, q, r);
      }
  answer_readable (Drops firm keeps gain over) claim within =
      let a = gain_readable gain within.0 in
      let b = list_readable 0 (map (name_data names.trades) keeps) (names_readable names.trades keeps) in
      let c = number_readable 0 over within.1 in
      record {
        reads = rw (a.reads, b.reads, c.reads);
        numbers =
            (tt, (tt, (a.numbers, (b.numbers, (c.numbers, tt)))));
        shallow = let p = a.shallow in let q = b.shallow in
            let r = c.shallow in grind (arith, p, q, r);
      }
  answer_readable (Completes prices over) claim within =
      let a = number_readable 0 over within.1 in
      let b = list_readable 1 (prices_from names.trades 0 prices) (prices_readable names.trades 0 prices within.0) in
      record {
        reads = rw (a.reads, b.reads);
        numbers = (tt, (a.numbers, (b.numbers, tt)));
        shallow = let p = a.shallow
            in let q = b.shallow in grind (arith, p, q);
      }
  answer_readable (Blocks contracts over) claim within =
      let a = list_readable 1 (map (contract_data names.trades) contracts)
      (contracts_readable names.trades contracts within.0) in
      let b = number_readable 0 over within.1 in
      record {
        reads = rw (a.reads, b.reads);
        numbers = (tt, (a.numbers, (b.numbers, tt)));
        shallow = let p = a.shallow
            in let q = b.shallow in grind (arith, p, q);
      }
  answer_readable said claim within = absurd (true≢false (sym claim))

text_read : (d : Data) → IsReadable 4 d → read (compact_text d) ≡ Some d
text_read d is =
    let shallow : depth (outline d) ≤ max_depth = let h = is.shallow in omega (arith, h) in
    let same : tokens (compact_text d) ≡ json_tokens (outline d) ++ [] =
    ap tokens (sym (print-outline d)) ∙ tokens-print (json_tokens (outline d))
    (ArePrintable-json_tokens (outline d) is.numbers) ∙ sym (append-nil (json_tokens (outline d))) in
    ap (λ ts. option_and_then of_json (option_and_then (λ p. if_last p.0 p.1) (value max_depth ts))) same
    ∙ ap (λ o. option_and_then of_json (option_and_then (λ p. if_last p.0 p.1) o))
    (value-json_tokens (outline d) max_depth [] shallow)
    ∙ is.reads

-- a claim is written as one line of JSON
claim_line : (names : NameLists) (said : Said) → is_claim said ≡ true
    → answer_line Object names said ≡ compact_text (answer_data names said) ++ 10 ∷ []
unfolding answer_line
claim_line names (Equilibrium surplus) claim = refl
claim_line names (Better firm bundle gain) claim = refl
claim_line names (Impossible firm) claim = refl
claim_line names Accepted claim = refl
claim_line names (ExchangeFails firm x y at) claim = refl
claim_line names (Supported on prices ends) claim = refl
claim_line names (Cycle nodes cost) claim = refl
claim_line names (Solved on prices surplus ends) claim = refl
claim_line names (Drops firm keeps gain over) claim = refl
claim_line names (Completes prices over) claim = refl
claim_line names (Blocks contracts over) claim = refl
claim_line names said claim = absurd (true≢false (sym claim))

pub lines_are_read : LinesAreRead
lines_are_read names said claim within = (
  claim_line names said claim,
  text_read (answer_data names said) (answer_readable names said claim within),
)
