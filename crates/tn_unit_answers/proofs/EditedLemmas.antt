-- What some edits say, and one more.
use Rattle.std.proofs.Common.{◌≡◌, ℕ, zero, suc, ◌<◌, ◌≤◌, Bool, false, if◌then◌else◌, List, [], ◌∷◌, ◌++◌, length, map, get_or, replicate, Option, Some, None, refl, sym, ap, ◌∙◌, subst, arith, inl, inr}
use Rattle.std.specs.Prelude.{unwrap_or}
use Rattle.std.specs.List.{range_with_len}
use Rattle.std.proofs.lemmas.Bool.{cases_eq, eq-eqb, ne_eqb}
use Rattle.std.proofs.lemmas.List.{length-replicate}
use Rattle.std.proofs.lemmas.List.FromFn.{fill_by_all, get_or-map-range_with_len, length-map-range_with_len}
use Rattle.std.proofs.lemmas.List.Sums.{fold-append}
use Rattle.tn_counts.specs.Counts.{trade_at}
use Rattle.tn_counts.specs.declared.trade.UnitTrade.{UnitTrade}
use Rattle.tn_read_unit_parts.specs.Edited.{IsKnownUnitEdit}
use Rattle.tn_read_units.specs.Firms.{UnitDocument}
use Rattle.tn_said.specs.declared.session.UnitEdit.{UnitEdit}
use Rattle.tn_said.specs.declared.session.UnitEdit.TheVariants.{Admit, AdmitAll, BarAll, Join, Leave}
use Rattle.tn_tree.specs.Lists.{count_in}
use Rattle.tn_unit_answers.specs.Session.{admitted_after, admitted_by, away_by, is_away_after, last_said, usable_after, usable_trade}
use Rattle.tn_unit_answers.specs.Standing.{IsMarketBetween, IsStanding, StandsAfter, away_in, usable_now}
use Rattle.tn_unit_answers.specs.declared.session.Standing.{Standing}

-- what one more edit says, or else what was said before it
pub said_last : {A : Type 0} (says : UnitEdit → Option A) (first : A) (edits : List UnitEdit) (edit : UnitEdit)
    → last_said says first (edits ++ edit ∷ []) ≡ unwrap_or (says edit) (last_said says first edits)
said_last says first edits edit = fold-append (λ before one. unwrap_or (says one) before) first edits (edit ∷ [])

-- no more units are admitted by an edit than there are
pub admits_within : (firms : ℕ) (trades : List UnitTrade) (t before : ℕ) (edit : UnitEdit)
    → IsKnownUnitEdit firms trades edit → before ≤ (trade_at trades t).units
    → unwrap_or (admitted_by t (trade_at trades t).units edit) before ≤ (trade_at trades t).units
admits_within firms trades t before (Admit s n) known within = elim (cases_eq t s) [
  | inl same ↦ subst (λ (b : Bool). unwrap_or (if b then Some n else None) before ≤ (trade_at trades t).units)
      (sym (eq-eqb t s same)) (subst (λ (k : ℕ). n ≤ (trade_at trades k).units) (sym same) known.1)
  | inr other ↦ subst (λ (b : Bool). unwrap_or (if b then Some n else None) before ≤ (trade_at trades t).units)
      (sym (ne_eqb t s other)) within
]
admits_within firms trades t before AdmitAll known within = omega arith
admits_within firms trades t before BarAll known within = omega arith
admits_within firms trades t before (Leave f) known within = within
admits_within firms trades t before (Join f) known within = within

-- a list that is made by number, read at a number
read : {A : Type 0} (f : ℕ → A) (list : List A) (n t : ℕ) (d : A) → list ≡ map f (range_with_len 0 n) → t < n
    → get_or list t d ≡ f t
read f list n t d made below =
    ap (λ (xs : List _). get_or xs t d) made ∙ get_or-map-range_with_len f 0 n t t d below (omega arith)

sized : {A : Type 0} (f : ℕ → A) (list : List A) (n : ℕ) → list ≡ map f (range_with_len 0 n) → length list ≡ n
sized f list n made = ap length made ∙ length-map-range_with_len f 0 n

-- what is kept after some edits, and one more, by what was kept before it
pub made_again : {A : Type 0} (says : ℕ → UnitEdit → Option A) (first : A) (edits : List UnitEdit) (edit : UnitEdit)
    (n : ℕ) (before after : List A)
    → before ≡ map (λ t. last_said (says t) first edits) (range_with_len 0 n)
    → after ≡ map (λ t. unwrap_or (says t edit) (get_or before t first)) (range_with_len 0 n)
    → after ≡ map (λ t. last_said (says t) first (edits ++ edit ∷ [])) (range_with_len 0 n)
made_again says first edits edit n before after was made =
    fill_by_all (λ t. last_said (says t) first (edits ++ edit ∷ [])) after n first
    (sized (λ t. unwrap_or (says t edit) (get_or before t first)) after n made)
    (λ t below.
    read (λ t. unwrap_or (says t edit) (get_or before t first)) after n t first made below
    ∙ ap (unwrap_or (says t edit)) (read (λ t. last_said (says t) first edits) before n t first was below)
    ∙ sym (said_last (says t) first edits edit))

-- nothing is said by no edits
pub made_first : {A : Type 0} (says : ℕ → UnitEdit → Option A) (first : A) (n : ℕ) (list : List A) → length list ≡ n
    → ((t : ℕ) → t < n → get_or list t first ≡ first)
    → list ≡ map (λ t. last_said (says t) first []) (range_with_len 0 n)
made_first says first n list count each = fill_by_all (λ t. last_said (says t) first []) list n first count each

module _ (doc : UnitDocument) where
  abbrev trades : List UnitTrade
  trades = doc.head.trades

  -- what is kept says which units are usable
  pub usable_is : (edits : List UnitEdit) (standing : Standing) → StandsAfter doc edits standing
      → ((t : ℕ) → t < length trades → (trade_at trades t).seller < length doc.head.names.firms)
      → ((t : ℕ) → t < length trades → (trade_at trades t).buyer < length doc.head.names.firms)
      → usable_now doc standing ≡ usable_after edits trades
  usable_is edits standing after sellers buyers =
      fill_by_all (λ t. usable_trade (admitted_after edits trades t) (is_away_after edits) (trade_at trades t))
      (usable_now doc standing) (length trades) none
      (length-map-range_with_len now 0 (length trades)) (λ t below.
      get_or-map-range_with_len now 0 (length trades) t t none below (omega arith)
      ∙ by t (read (admitted_after edits trades) standing.admitted.items (length trades) t 0 after.admitted below)
      (away_of (trade_at trades t).seller (sellers t below)) (away_of (trade_at trades t).buyer (buyers t below)))
    where
      none : UnitTrade
      none = record { seller = 0; buyer = 0; units = 0 }

      now : ℕ → UnitTrade
      now t = usable_trade (count_in standing.admitted.items t) (away_in standing.away.items) (trade_at trades t)

      away_of : (f : ℕ) → f < length doc.head.names.firms → away_in standing.away.items f ≡ is_away_after edits f
      away_of f below =
          read (is_away_after edits) standing.away.items (length doc.head.names.firms) f false after.away below

      by : (t : ℕ) → count_in standing.admitted.items t ≡ admitted_after edits trades t
          → away_in standing.away.items (trade_at trades t).seller ≡ is_away_after edits (trade_at trades t).seller
          → away_in standing.away.items (trade_at trades t).buyer ≡ is_away_after edits (trade_at trades t).buyer
          → now t ≡ usable_trade (admitted_after edits trades t) (is_away_after edits) (trade_at trades t)
      by t units sells buys = λ i. record {
        seller = (trade_at trades t).seller;
        buyer = (trade_at trades t).buyer;
        units = if sells i then 0 else if buys i then 0 else units i;
      }

  -- a session begins with nothing admitted, and nobody away
  pub begins : (standing : Standing) → standing.admitted.items ≡ replicate (length trades) 0
      → standing.away.items ≡ replicate (length doc.head.names.firms) false → StandsAfter doc [] standing
  begins standing admitted away = record {
    admitted = made_first (λ t. admitted_by t (trade_at trades t).units) 0 (length trades) standing.admitted.items
        (ap length admitted ∙ length-replicate (length trades) 0) (λ t below.
        ap (λ (xs : List ℕ). get_or xs t 0) admitted ∙ none_there (length trades) t 0);
    away = made_first away_by false (length doc.head.names.firms) standing.away.items
        (ap length away ∙ length-replicate (length doc.head.names.firms) false) (λ f below.
        ap (λ (xs : List Bool). get_or xs f false) away ∙ none_there (length doc.head.names.firms) f false);
  }
    where
      none_there : {A : Type 0} (n t : ℕ) (x : A) → get_or (replicate n x) t x ≡ x
      none_there zero t x = refl
      none_there (suc n) zero x = refl
      none_there (suc n) (suc t) x = none_there n t x

  module _ (standing after : Standing) where
    -- an edit is kept
    pub edit_stands : (edit : UnitEdit) → IsStanding doc standing
        → IsKnownUnitEdit (length doc.head.names.firms) trades edit → after.market ≡ standing.market
        → after.admitted.items ≡ map (λ t. unwrap_or (admitted_by t (trade_at trades t).units edit)
        (count_in standing.admitted.items t)) (range_with_len 0 (length trades))
        → after.away.items ≡ map (λ f. unwrap_or (away_by f edit) (away_in standing.away.items f))
        (range_with_len 0 (length standing.away.items))
        → IsStanding doc after
    edit_stands edit stands known market admitted away = record {
      market = subst (IsMarketBetween doc) (sym market) stands.market;
      counted = sized admits after.admitted.items (length trades) admitted;
      within = λ t below. subst (λ (n : ℕ). n ≤ (trade_at trades t).units)
          (sym (read admits after.admitted.items (length trades) t 0 admitted below))
          (admits_within (length doc.head.names.firms) trades t (count_in standing.admitted.items t) edit known
          (stands.within t below));
      listed = sized (λ f. unwrap_or (away_by f edit) (away_in standing.away.items f)) after.away.items
          (length standing.away.items) away ∙ stands.listed;
    }
      where
        admits : ℕ → ℕ
        admits t = unwrap_or (admitted_by t (trade_at trades t).units edit) (count_in standing.admitted.items t)

    pub edit_kept : (edits : List UnitEdit) (edit : UnitEdit) → IsStanding doc standing → StandsAfter doc edits standing
        → after.admitted.items ≡ map (λ t. unwrap_or (admitted_by t (trade_at trades t).units edit)
        (count_in standing.admitted.items t)) (range_with_len 0 (length trades))
        → after.away.items ≡ map (λ f. unwrap_or (away_by f edit) (away_in standing.away.items f))
        (range_with_len 0 (length standing.away.items))
        → StandsAfter doc (edits ++ edit ∷ []) after
    edit_kept edits edit stands before admitted away = record {
      admitted = made_again (λ t. admitted_by t (trade_at trades t).units) 0 edits edit (length trades)
          standing.admitted.items after.admitted.items before.admitted admitted;
      away = made_again away_by false edits edit (length doc.head.names.firms) standing.away.items after.away.items
          before.away (away ∙ ap (λ (n : ℕ). map (λ f. unwrap_or (away_by f edit) (away_in standing.away.items f))
          (range_with_len 0 n)) stands.listed);
    }
