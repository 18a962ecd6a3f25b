-- No contracts block an equilibrium: what the offers would give one firm more than the prices do, another would lose.
use Rattle.std.proofs.Common.{◌≡◌, ℕ, zero, suc, ◌^◌, ◌<◌, ◌≤◌, Bool, true, false, not, ◌==◌, ◌&&◌, ◌||◌, ltb, if◌then◌else◌, List, length, slice_get, Some, None, Option, option_map, refl, sym, ap, ap₂, ◌∙◌, subst, arith, inl, inr, ℤ, pos, ◌+ℤ◌, ◌-ℤ◌, neg_ℤ, ◌*ℤ◌, ◌≤ℤ◌}
use Rattle.std.specs.Prelude.{unwrap_or}
use Rattle.std.proofs.Math.IntN.{ℤ_ind, *ℤ_comm}
use Rattle.std.proofs.lemmas.Int.{ints, by_lt_z}
use Rattle.std.proofs.lemmas.Bool.{cases_Bool, cases_eq, cases_lt, and_parts, lt-ltb, le-ltb, ltb-true}
use Rattle.std.proofs.lemmas.Option.{same_Some, slice_get_cases, slice_get_within}
use Rattle.tn_base.specs.Sets.{has, set_of, sum_over}
use Rattle.tn_base.specs.Firm.{Firm, payments}
use Rattle.tn_base.proofs.ExchangeLemmas.{cases_worth}
use Rattle.tn_base.proofs.SetLemmas.{same_set, has-set_of, set_of_within}
use Rattle.tn_base.proofs.SumLemmas.{times-plus, sum_over-times, sum_over-same_terms}
use Rattle.tn_model.specs.declared.ends.Ends.{Ends}
use Rattle.tn_model.specs.declared.contract.Contract.{Contract}
use Rattle.tn_model.specs.Network.{own, part, stands_at, IsNetwork}
use Rattle.tn_market.specs.Equilibrium.{prices_at}
use Rattle.tn_model.specs.Choices.{is_end, is_of, paid_to, paid_by, is_traded, bundle_by, part_utility, IsPart, IsChoice}
use Rattle.tn_model.proofs.NetworkLemmas.{own_stands}
use Rattle.tn_network_laws.proofs.SumLemmas.{sum_to, sum_to-same, sum_to-zero}
use Rattle.tn_network_laws.proofs.WelfareLemmas.{sum_over-sum_to}
use Rattle.tn_network_laws.proofs.PoolLemmas.{IsPool}
use Rattle.tn_network_laws.proofs.PartLemmas.{at_place, at_place-is, at_place-none, gain_by, paid_for, traded_at, traded_by}

-- ---- products

-- a multiple of a negated number
pub times-neg : (a u : ℤ) → a *ℤ neg_ℤ u ≡ neg_ℤ (a *ℤ u)
times-neg a u =
    let sum = times-plus a u (neg_ℤ u) in
    let none : a *ℤ (u +ℤ neg_ℤ u) ≡ pos 0 = ap (λ (z : ℤ). a *ℤ z) (nothing u) ∙ omega (arith, ints) in
    omega (arith, ints, sum, none)
  where
    nothing : (z : ℤ) → z +ℤ neg_ℤ z ≡ pos 0
    nothing z = omega (arith, ints)

-- the order of factors doesn't matter
pub times-times : (a b c : ℤ) → (a *ℤ b) *ℤ c ≡ b *ℤ (a *ℤ c)
times-times a b c =
    ℤ_ind (λ m. (a *ℤ b) *ℤ m ≡ b *ℤ (a *ℤ m)) none (λ n h. more (pos n) (pos 1) h one)
    (λ n h. more (neg_ℤ (pos n)) (neg_ℤ (pos 1)) h minus) c
  where
    twice_none : (x y : ℤ) → y ≡ pos 0 → x *ℤ y ≡ pos 0
    twice_none x y e = ap (λ (z : ℤ). x *ℤ z) e ∙ omega (arith, ints)

    none : (a *ℤ b) *ℤ pos 0 ≡ b *ℤ (a *ℤ pos 0)
    none = twice_none (a *ℤ b) (pos 0) refl ∙ sym (twice_none b (a *ℤ pos 0) (twice_none a (pos 0) refl))

    by_one : (x : ℤ) → x *ℤ pos 1 ≡ x
    by_one x = omega (arith, ints)

    one : (a *ℤ b) *ℤ pos 1 ≡ b *ℤ (a *ℤ pos 1)
    one = by_one (a *ℤ b) ∙ *ℤ_comm a b ∙ ap (λ (z : ℤ). b *ℤ z) (sym (by_one a))

    minus : (a *ℤ b) *ℤ neg_ℤ (pos 1) ≡ b *ℤ (a *ℤ neg_ℤ (pos 1))
    minus = times-neg (a *ℤ b) (pos 1) ∙ ap neg_ℤ one ∙ sym (times-neg b (a *ℤ pos 1))
        ∙ ap (λ (z : ℤ). b *ℤ z) (sym (times-neg a (pos 1)))

    more : (m s : ℤ) → (a *ℤ b) *ℤ m ≡ b *ℤ (a *ℤ m) → (a *ℤ b) *ℤ s ≡ b *ℤ (a *ℤ s)
        → (a *ℤ b) *ℤ (m +ℤ s) ≡ b *ℤ (a *ℤ (m +ℤ s))
    more m s h k = times-plus (a *ℤ b) m s ∙ ap₂ (λ (y z : ℤ). y +ℤ z) h k
        ∙ sym (ap (λ (z : ℤ). b *ℤ z) (times-plus a m s) ∙ times-plus b (a *ℤ m) (a *ℤ s))

-- prices counted some times pay that many times
pub paid_for-times : (firm : Firm) (trades : List Ends) (f : ℕ) (e : ℤ) (prices : ℕ → ℤ) (x : ℕ)
    → paid_for firm trades f (λ t. e *ℤ prices t) x ≡ e *ℤ paid_for firm trades f prices x
paid_for-times firm trades f e prices x =
    sum_over-same_terms (payments firm.buys (prices_at trades (λ t. e *ℤ prices t) f))
    (λ k. e *ℤ payments firm.buys (prices_at trades prices f) k) x firm.count
    (λ k below member. by_side (has firm.buys k) (prices (own trades f k)))
    ∙ sum_over-times e (payments firm.buys (prices_at trades prices f)) firm.count x
  where
    by_side : (b : Bool) (z : ℤ) → (if b then neg_ℤ (e *ℤ z) else e *ℤ z) ≡ e *ℤ (if b then neg_ℤ z else z)
    by_side true z = sym (times-neg e z)
    by_side false z = refl

-- ---- some choice

-- among finitely many parts, of which one has a utility, one has the greatest
pub no_choice : (trades : List Ends) (scale : ℤ) (f : ℕ) (firm : Firm) (contracts : List Contract) (y : ℕ) (value : ℤ)
    → IsPart trades f contracts y
    → part_utility trades scale f firm contracts y ≡ Some value
    → ((x : ℕ) → IsChoice trades scale f firm contracts x → ⊥) → ⊥
no_choice trades scale f firm contracts y value y_part y_is none =
    below (2 ^ length contracts) (λ x v x_part x_is most. none x (record {
      part = x_part;
      value = v;
      is = x_is;
      most = λ z other z_part z_is. most z other z_part.within z_part z_is;
    }))
  where
    utility_of : ℕ → Option ℤ
    utility_of = part_utility trades scale f firm contracts

    below : (n : ℕ) → ((x : ℕ) (v : ℤ) → IsPart trades f contracts x
        → part_utility trades scale f firm contracts x ≡ Some v
        → ((z : ℕ) (other : ℤ) → z < n → IsPart trades f contracts z
        → part_utility trades scale f firm contracts z ≡ Some other → other ≤ℤ v) → ⊥) → ⊥
    below zero found = found y value y_part y_is (λ z other h z_part z_is. absurd (omega (arith, h)))
    below (suc n) found =
        below n (λ x v x_part x_is most. elim (cases_worth (part_utility trades scale f firm contracts n)) [
          | inr away ↦ found x v x_part x_is (λ z other h z_part z_is. elim (cases_eq z n) [
            | inl e ↦ absurd (let is = ap utility_here (sym e) ∙ z_is in cc (is, away))
            | inr d ↦ most z other (omega (arith, h, d)) z_part z_is
          ])
          | inl there ↦ by_lt_z {P = ⊥} v there.0
              (λ less.
              let not_part : IsPart trades f contracts n
              → ⊥ = λ n_part. found n there.0 n_part there.1 (λ z other h z_part z_is. elim (cases_eq z n) [
                | inl e ↦ same_le z n other there.0 e z_is there.1
                | inr d ↦ let step = most z other (omega (arith, h, d)) z_part z_is in omega (arith, ints, step, less)
              ]) in
              found x v x_part x_is (λ z other h z_part z_is. elim (cases_eq z n) [
                | inl e ↦ absurd (not_part (subst (IsPart trades f contracts) e z_part))
                | inr d ↦ most z other (omega (arith, h, d)) z_part z_is
              ]))
              (λ enough. found x v x_part x_is (λ z other h z_part z_is. elim (cases_eq z n) [
                | inl e ↦ let step = same_le z n other there.0 e z_is there.1 in omega (arith, ints, step, enough)
                | inr d ↦ most z other (omega (arith, h, d)) z_part z_is
              ]))
        ])
      where
        utility_here : ℕ → Option ℤ
        utility_here = part_utility trades scale f firm contracts

        same_le : (z m : ℕ) (other a : ℤ) → z ≡ m → part_utility trades scale f firm contracts z ≡ Some other
            → part_utility trades scale f firm contracts m ≡ Some a → other ≤ℤ a
        same_le z m other a e z_is m_is =
            let same : other ≡ a =
            same_Some other a (sym z_is ∙ ap (part_utility trades scale f firm contracts) e ∙ m_is) in
            omega (arith, ints, same)

-- ---- the signed contracts of a firm

-- whether a contract of the pool is a signed one of firm f
abbrev is_signed_of : List Ends → ℕ → List Contract → ℕ → ℕ → Bool
is_signed_of trades f pool early k = not (ltb k early)
    && unwrap_or (option_map (is_of trades f) (slice_get pool k)) false

pub signed_part : List Ends → ℕ → List Contract → ℕ → ℕ
signed_part trades f pool early = set_of (is_signed_of trades f pool early) (length pool)

-- a member of that part
pub record IsSignedOf (trades : List Ends) (f : ℕ) (pool : List Contract) (early k : ℕ) : Type 0 where
  pub inside : k < length pool
  pub late : early ≤ k
  pub of : (contract : Contract) → slice_get pool k ≡ Some contract → is_of trades f contract ≡ true

pub signed_member : (trades : List Ends) (f : ℕ) (pool : List Contract) (early k : ℕ)
    → has (signed_part trades f pool early) k ≡ true → IsSignedOf trades f pool early k
unfolding signed_part
signed_member trades f pool early k member =
    let parts = and_parts (ltb k (length pool)) (is_signed_of trades f pool early k)
    (sym (has-set_of (is_signed_of trades f pool early) (length pool) k) ∙ member) in
    let test = and_parts (not (ltb k early)) (unwrap_or (option_map (is_of trades f) (slice_get pool k)) false) parts.1
    in
    record {
      inside = ltb-true k (length pool) parts.0;
      late = elim (cases_lt k early) [
        | inl p ↦ absurd (let is = lt-ltb k early p in let yes_not = test.0 in
            cc (is, yes_not))
        | inr p ↦ p
      ];
      of = λ contract is. sym (ap (λ (o : Option Contract). unwrap_or (option_map (is_of trades f) o) false) is)
          ∙ test.1;
    }

signed_in : (trades : List Ends) (f : ℕ) (pool : List Contract) (early k : ℕ) (contract : Contract)
    → slice_get pool k ≡ Some contract → early ≤ k
    → is_of trades f contract ≡ true → has (signed_part trades f pool early) k ≡ true
unfolding signed_part
signed_in trades f pool early k contract is late of =
    has-set_of (is_signed_of trades f pool early) (length pool) k
    ∙ ap₂ (λ (a b : Bool). a && b) (lt-ltb k (length pool) (slice_get_within pool k contract is))
    (ap₂ (λ (a b : Bool). not a && b) (le-ltb k early late)
    (ap (λ (o : Option Contract). unwrap_or (option_map (is_of trades f) o) false) is ∙ of))

-- it is a part that the firm can sign
pub signed_is_part : (trades : List Ends) (on : ℕ) (prices : ℕ → ℤ) (offers pool : List Contract)
    → IsPool (length trades) on prices offers pool → (f : ℕ)
    → IsPart trades f pool (signed_part trades f pool (length offers))
unfolding signed_part
signed_is_part trades on prices offers pool is_pool f = record {
  within = set_of_within (is_signed_of trades f pool (length offers)) (length pool);
  own = λ k contract is member. (signed_member trades f pool (length offers) k member).of contract is;
  once = λ j k one other one_is other_is j_member k_member same.
      is_pool.once j k one other one_is other_is (signed_member trades f pool (length offers) j j_member).late
      (signed_member trades f pool (length offers) k k_member).late same;
}

-- a trade that stands at a position of the firm is one of it
pub own_is_of : (trades : List Ends) (f k : ℕ) (contract : Contract) → own trades f k < length trades
    → contract.trade ≡ own trades f k → is_of trades f contract ≡ true
own_is_of trades f k contract inside same =
    let found = own_stands trades f k inside in
    ap (λ (o : Option Ends). unwrap_or (option_map (is_end f) o) false) (ap (slice_get trades) same ∙ found.is)
    ∙ end found.trade found.stands
  where
    end : (trade : Ends) → stands_at trade f k ≡ true → is_end f trade ≡ true
    end trade stands =
        by_case (trade.seller == f) (trade.at_seller == k) (trade.buyer == f) (trade.at_buyer == k) stands
      where
        by_case : (a b c d : Bool) → (a && b || c && d) ≡ true → (a || c) ≡ true
        by_case true b c d e = refl
        by_case false b true d e = refl
        by_case false b false d e = absurd (cc e)

-- and gives the firm its bundle of the set
pub signed_bundle : (firms : List Firm) (trades : List Ends) → IsNetwork firms trades
    → (on : ℕ) (prices : ℕ → ℤ) (offers pool : List Contract)
    → IsPool (length trades) on prices offers pool → (f : ℕ) (firm : Firm) → slice_get firms f ≡ Some firm
    → bundle_by trades f firm.count pool (signed_part trades f pool (length offers)) ≡ part trades f firm.count on
signed_bundle firms trades network on prices offers pool is_pool f firm is = same_set _ _ (λ k.
    has-set_of (λ j. is_traded pool x (own trades f j) (length pool)) firm.count k ∙ by_place k
    ∙ sym (has-set_of (λ j. has on (own trades f j)) firm.count k))
  where
    x : ℕ
    x = signed_part trades f pool (length offers)

    agree : (k : ℕ) → k < firm.count → is_traded pool x (own trades f k) (length pool) ≡ has on (own trades f k)
    agree k below = elim (cases_Bool (has on (own trades f k))) [
      | inl there ↦
          let found = is_pool.found (own trades f k) (network.whole f k firm is below) there in
          traded_by pool x (own trades f k) (length pool) found.0 found.1
          (slice_get_within pool found.0 found.1 found.3)
          (signed_in trades f pool (length offers) found.0 found.1 found.3 found.2
          (own_is_of trades f k found.1 (network.whole f k firm is below) found.4)) found.3 found.4
          ∙ sym there
      | inr away ↦ elim (cases_Bool (is_traded pool x (own trades f k) (length pool))) [
        | inr untraded ↦ untraded ∙ sym away
        | inl traded ↦
            let at = traded_at pool x (own trades f k) (length pool) traded in
            let signed =
            is_pool.late at.place at.contract at.is (signed_member trades f pool (length offers) at.place
            at.member).late in
            absurd (let there = ap (has on) (sym at.trade) ∙ signed.there in cc (there, away))
      ]
    ]

    by_place : (k : ℕ) → (ltb k firm.count && is_traded pool x (own trades f k) (length pool))
        ≡ (ltb k firm.count && has on (own trades f k))
    by_place k = elim (cases_lt k firm.count) [
      | inl below ↦ ap (λ (b : Bool). ltb k firm.count && b) (agree k below)
      | inr above ↦ ap (λ (b : Bool). b && is_traded pool x (own trades f k) (length pool)) (le-ltb k firm.count above)
          ∙ sym (ap (λ (b : Bool). b && has on (own trades f k)) (le-ltb k firm.count above))
    ]

-- ---- gains

-- a signed contract gains nothing
pub late_gain : (trades : List Ends) (on : ℕ) (prices : ℕ → ℤ) (offers pool : List Contract)
    → IsPool (length trades) on prices offers pool → (f k : ℕ) → length offers ≤ k
    → at_place (gain_by trades f prices) pool k ≡ pos 0
late_gain trades on prices offers pool is_pool f k late = elim (slice_get_cases pool k).1 [
  | inr past ↦ at_place-none (gain_by trades f prices) pool k past.1
  | inl found ↦
      let signed = is_pool.late k found.0 found.2 late in
      let none : found.0.price -ℤ prices found.0.trade ≡ pos 0 = minus found.0.price (prices found.0.trade) signed.price
      in
      at_place-is (gain_by trades f prices) pool k found.0 found.2
      ∙ ap (λ (z : ℤ). paid_by trades f (record { trade = found.0.trade; price = z })) none
      ∙ by_case (slice_get trades found.0.trade)
]
  where
    minus : (a b : ℤ) → a ≡ b → a -ℤ b ≡ pos 0
    minus a b e = omega (arith, ints, e)

    by_case : (o : Option Ends) → unwrap_or (option_map (paid_to f (pos 0)) o) (pos 0) ≡ pos 0
    by_case None = refl
    by_case (Some trade) = by_end (trade.seller == f) (trade.buyer == f)
      where
        by_end : (a b : Bool) → (if a then pos 0 else (if b then neg_ℤ (pos 0) else pos 0)) ≡ pos 0
        by_end true b = refl
        by_end false true = refl
        by_end false false = refl

-- the gains over a part that leaves out what gains nothing are all gains
pub all_gains : (c : ℕ → ℤ) (n x : ℕ) → ((k : ℕ) → k < n → has x k ≡ false → c k ≡ pos 0) → sum_over c n x ≡ sum_to c n
all_gains c n x none = sum_over-sum_to c n x ∙ sum_to-same (λ k. if has x k then c k
    else pos 0) c n (λ k below. by_case (has x k) (c k) (none k below))
  where
    by_case : (b : Bool) (z : ℤ) → (b ≡ false → z ≡ pos 0) → (if b then z else pos 0) ≡ z
    by_case true z h = refl
    by_case false z h = sym (h refl)

pub no_gains : (c : ℕ → ℤ) (n x : ℕ) → ((k : ℕ) → k < n → has x k ≡ true → c k ≡ pos 0) → sum_over c n x ≡ pos 0
no_gains c n x none = sum_over-sum_to c n x ∙ sum_to-same (λ k. if has x k then c k
    else pos 0) (λ k. pos 0) n (λ k below. by_case (has x k) (c k) (none k below)) ∙ sum_to-zero n
  where
    by_case : (b : Bool) (z : ℤ) → (b ≡ true → z ≡ pos 0) → (if b then z else pos 0) ≡ pos 0
    by_case true z h = h refl
    by_case false z h = refl

-- what the offers give a firm more than the prices
abbrev pub gains : List Ends → (ℕ → ℤ) → List Contract → ℕ → ℤ
gains trades prices pool f = sum_to (at_place (gain_by trades f prices) pool) (length pool)
