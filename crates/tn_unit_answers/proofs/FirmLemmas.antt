-- What `firms` says by counts is so, and keeps the rules of answers.
use Rattle.std.proofs.Common.{◌≡◌, ℕ, zero, suc, ◌+◌, ◌^◌, ◌<◌, ◌≤◌, ◌⊎◌, Bool, true, false, cond, ◌==◌, if◌then◌else◌, List, [], ◌∷◌, ◌++◌, length, count_by, get_or, Option, Some, None, option_map, slice_get, unsigned_abs, refl, sym, ap, subst, ◌∙◌, arith, inl, inr, ℤ, pos, ◌-ℤ◌}
use Rattle.std.specs.Prelude.{All, IfSome}
use Rattle.std.proofs.lemmas.Bool.{cases_Bool, eqb-true, false≢true}
use Rattle.std.proofs.lemmas.Int.{ints}
use Rattle.std.proofs.lemmas.List.{length-append}
use Rattle.std.proofs.lemmas.List.Elements.{All-from_get_or}
use Rattle.std.proofs.lemmas.List.Sums.{count_by-le-length, sum_by-cons}
use Rattle.std.proofs.lemmas.Option.{none-some, same_Some, slice_get-get_or, slice_get_within}
use Rattle.tn_answer.specs.Apart.{IsNamedAnswer, IsNamedUnitHolding}
use Rattle.tn_answer.specs.Kept.{HasAscendingTrades, HasUnitBundles, IsWithinClaim, IsWithinUnitHolding}
use Rattle.tn_answer.specs.Rows.{is_nothing}
use Rattle.tn_counts.specs.Counts.{AreCounts, CountFirm, IsBestCount, IsEquilibriumByCounts}
use Rattle.tn_counts.specs.Widths.{most_unit_firms}
use Rattle.tn_counts.specs.declared.trade.UnitTrade.{UnitTrade}
use Rattle.tn_counts.proofs.PlaceLemmas.{item_at}
use Rattle.tn_counts.proofs.WelfareLemmas.{equilibria_efficient}
use Rattle.tn_read_units.specs.Documents.{IsUnitDocument}
use Rattle.tn_read_units.specs.Firms.{UnitDocument}
use Rattle.tn_read_units.specs.Worths.{written_firms}
use Rattle.tn_said.specs.declared.said.Fault.{Fault as FaultIs}
use Rattle.tn_said.specs.declared.said.Said.{Said}
use Rattle.tn_said.specs.declared.said.Said.TheVariants.{Fault, FirmsByCounts}
use Rattle.tn_said.specs.declared.units.UnitHolding.{UnitHolding}
use Rattle.tn_tree.specs.Held.{IsSmall, utility_at}
use Rattle.tn_tree.specs.Lists.{count_in, own_counts, price_in}
use Rattle.tn_tree.specs.declared.held.FirmCount.{FirmCount}
use Rattle.tn_unit_answers.specs.Firms.{TellsFirm, TellsFirms, TellsHoldingsByCounts, is_content}
use Rattle.tn_unit_answers.specs.Judged.{AreToldBy, IsJudged, IsToldBy}
use Rattle.tn_unit_answers.proofs.BundleLemmas.{bundle_same}
use Rattle.tn_unit_answers.proofs.CheckLemmas.{bundle_kept, bundle_named, bundle_short}
use Rattle.tn_unit_answers.proofs.JudgedLemmas.{content_best}
use Rattle.tn_unit_answers.proofs.SolutionLemmas.{ends_are, firms_count, surplus_within}

-- an item of a list with one more
last_or_before : {A : Type 0} (xs : List A) (x : A) (k : ℕ) (y : A) → slice_get (xs ++ x ∷ []) k ≡ Some y
    → ((k ≡ length xs) × (x ≡ y)) ⊎ (slice_get xs k ≡ Some y)
last_or_before [] x zero y at = inl (refl, same_Some x y at)
last_or_before [] x (suc k) y at = absurd (none-some y at)
last_or_before (first ∷ xs) x zero y at = inr at
last_or_before (first ∷ xs) x (suc k) y at = elim (last_or_before xs x k y at) [
  | inl last ↦ inl (ap suc last.0, last.1)
  | inr earlier ↦ inr earlier
]

-- what is said of one firm more
pub told_more : (trades : List UnitTrade) (counts sold bought : List ℕ) (firms : List FirmCount)
    (told longer : List UnitHolding) (f : ℕ) (said : FirmCount) (holding : UnitHolding) → length told ≡ f
    → AreToldBy trades counts sold bought firms told → slice_get firms f ≡ Some said
    → IsToldBy trades f counts sold bought said holding → longer ≡ told ++ holding ∷ []
    → (length longer ≡ f + 1) × AreToldBy trades counts sold bought firms longer
told_more trades counts sold bought firms told longer f said holding sized each at one made = (
  (let sum = length-append told (holding ∷ []) in let long = ap length made in omega (arith, sum, long, sized)),
  λ g other next other_at next_at.
      elim (last_or_before told holding g next (ap (λ (xs : List UnitHolding). slice_get xs g) (sym made) ∙ next_at)) [
        | inl last ↦
            let place : f ≡ g = sym (last.0 ∙ sized) in
            let same : said ≡ other = same_Some said other (sym at ∙ ap (slice_get firms) place ∙ other_at) in
            subst (λ (k : ℕ). IsToldBy trades k counts sold bought other next) place
            (subst (λ (s : FirmCount). IsToldBy trades f counts sold bought s next) same
            (subst (IsToldBy trades f counts sold bought said) last.1 one))
        | inr earlier ↦ each g other next other_at earlier
      ],
)

-- where all are counted, each passes
all_pass : (test : UnitHolding → Bool) (told : List UnitHolding) → count_by test told ≡ length told → (k : ℕ)
    (x : UnitHolding) → slice_get told k ≡ Some x → test x ≡ true
all_pass test [] all k x at = absurd (none-some x at)
all_pass test (first ∷ told) all k x at =
    let less = count_by-le-length test told in
    let sum = sum_by-cons (λ h. cond (test h) 1 0) first told in
    elim (cases_Bool (test first)) [
      | inl passes ↦
          let one : ◌≡◌ {A = ℕ} (cond (test first) 1 0) 1 = ap (λ (b : Bool). cond b 1 0) passes in
          first_or_rest k at passes (all_pass test told (omega (arith, all, sum, one)))
      | inr fails ↦
          let none : ◌≡◌ {A = ℕ} (cond (test first) 1 0) 0 = ap (λ (b : Bool). cond b 1 0) fails in
          absurd (omega (arith, all, sum, none, less))
    ]
  where
    first_or_rest : (j : ℕ) → slice_get (first ∷ told) j ≡ Some x → test first ≡ true
        → ((i : ℕ) (y : UnitHolding) → slice_get told i ≡ Some y → test y ≡ true) → test x ≡ true
    first_or_rest zero there passes rest = ap test (sym (same_Some first x there)) ∙ passes
    first_or_rest (suc i) there passes rest = rest i x there

-- a gain of nothing is 0
nothing_is : (gain : Option ℤ) → is_nothing gain ≡ true → gain ≡ Some (pos 0)
nothing_is None is = absurd (false≢true is)
nothing_is (Some z) is =
    let size : unsigned_abs z ≡ 0 = eqb-true (unsigned_abs z) 0 is in
    let none : z ≡ pos 0 = omega (arith, ints, size) in
    ap Some none

own_is : (trades : List UnitTrade) (counts : List ℕ) (f t : ℕ) → own_counts trades counts counts f t ≡ count_in counts t
own_is trades counts f t = by (f == (get_or trades t (record { seller = 0; buyer = 0; units = 0 })).seller)
  where
    by : (b : Bool) → (if b then count_in counts t else count_in counts t) ≡ count_in counts t
    by true = refl
    by false = refl

pub some_within : (o : Option ℤ) → IsSmall o → IfSome o IsWithinClaim
some_within None small = tt
some_within (Some z) small = surplus_within z (small z refl)

module _ (doc : UnitDocument) (counts : List ℕ) (prices : List ℤ) (firms : List FirmCount) (sold bought : List ℕ)
    (surplus : Option ℤ) (is : IsJudged doc counts prices firms sold bought surplus)
    (within : AreCounts doc.head.trades (count_in counts)) where
  tells_firm : (f : ℕ) (firm : CountFirm) (said : FirmCount) (holding : UnitHolding)
      → slice_get (written_firms doc) f ≡ Some firm → slice_get firms f ≡ Some said
      → IsToldBy doc.head.trades f counts sold bought said holding
      → TellsFirm doc.head.trades counts prices f firm holding
  tells_firm f firm said holding at there told =
      let trades = doc.head.trades in
      let held = is.each f firm said at there in
      record {
        has_is = told.has_is
            ∙ bundle_same trades f (own_counts trades counts counts f) (count_in counts)
            (λ t below ends. own_is trades counts f t);
        worth_is = told.worth_is ∙ held.worth_is;
        utility_is = told.utility_is ∙ held.utility_is;
        best_counts = own_counts trades sold bought f;
        best_is = told.best_is;
        best = subst (IsBestCount trades (utility_at trades prices f firm) (own_counts trades sold bought f))
            (sym told.best_utility_is) held.best_is;
        kept_own = λ own. told.best_is
            ∙ bundle_same trades f (own_counts trades sold bought f) (own_counts trades counts counts f)
            (λ t below ends.
            held.own (held.gain_is ∙ ap (option_map (λ utility. said.best -ℤ utility))
            (sym told.utility_is ∙ own ∙ ap Some told.best_utility_is)
            ∙ ap Some (none said.best)) t below ends
            ∙ sym (own_is trades counts f t))
            ∙ sym told.has_is;
        gain_is = told.gain_is ∙ held.gain_is
            ∙ ap (λ (z : ℤ). option_map (λ value. z -ℤ value) said.utility) (sym told.best_utility_is)
            ∙ ap (option_map (λ value. holding.best_utility -ℤ value)) (sym told.utility_is);
      }
    where
      none : (z : ℤ) → (z -ℤ z) ≡ pos 0
      none z = omega (arith, ints)

  said_of : (f : ℕ) → f < length (written_firms doc) → (said : FirmCount) × (slice_get firms f ≡ Some said)
  said_of f inside = let sized = is.one_each in item_at firms f (omega (arith, inside, sized))

  pub tells_all : (content : ℕ) (told : List UnitHolding) → IsUnitDocument doc → length told ≡ length firms
      → AreToldBy doc.head.trades counts sold bought firms told → content ≡ count_by is_content told
      → TellsFirms (written_firms doc) doc.head.trades counts prices content told surplus
  tells_all content told document sized each counted = record {
    one_each = sized ∙ is.one_each;
    each = λ f firm holding at there.
        let said = said_of f (slice_get_within (written_firms doc) f firm at) in
        tells_firm f firm said.0 holding at said.1 (each f said.0 holding said.1 there);
    counted = counted;
    surplus_is = is.surplus_is;
    implied = λ all.
        let equilibrium : IsEquilibriumByCounts (written_firms doc) doc.head.trades (pos 1) (count_in counts)
        (price_in prices) = λ f firm at.
        let inside = slice_get_within (written_firms doc) f firm at in
        let said = said_of f inside in
        let sized_all = is.one_each in
        let holding = item_at told f (omega (arith, inside, sized, sized_all)) in
        let passes = all_pass is_content told (sym counted ∙ all ∙ sym (sized ∙ is.one_each)) f holding.0 holding.1 in
        let gain = nothing_is holding.0.gain passes in (
          said.0.best,
          content_best doc counts prices firms sold bought surplus is within f firm said.0 at said.1
              (sym (each f said.0 holding.0 said.1 holding.1).gain_is ∙ gain),
        ) in (
          equilibrium,
          equilibria_efficient (written_firms doc) doc.head.trades (pos 1) (count_in counts) (price_in prices)
              (ends_are doc document) (omega (arith, ints)) equilibrium,
        );
  }

  -- and its numbers are within the limits of answers
  pub holdings_within : (told : List UnitHolding) → IsUnitDocument doc → length told ≡ length firms
      → AreToldBy doc.head.trades counts sold bought firms told → All IsWithinUnitHolding told
  holdings_within told document sized each =
      All-from_get_or IsWithinUnitHolding told d (λ f inside.
      let sized_all = is.one_each in
      let firm = item_at (written_firms doc) f (omega (arith, inside, sized, sized_all)) in
      let said = item_at firms f (omega (arith, inside, sized)) in
      let is_told = each f said.0 (get_or told f d) said.1 (slice_get-get_or told f d inside) in
      let held = is.each f firm.0 said.0 firm.1 said.1 in
      record {
        best = bundle_short doc document f (own_counts doc.head.trades sold bought f) (get_or told f d).best
            is_told.best_is held.best_is.within;
        best_utility = subst IsWithinClaim (sym is_told.best_utility_is) (surplus_within said.0.best held.small_best);
        gain = subst (λ (o : Option ℤ). IfSome o IsWithinClaim) (sym is_told.gain_is)
            (some_within said.0.gain held.small_gain);
        has = bundle_short doc document f (own_counts doc.head.trades counts counts f) (get_or told f d).has
            is_told.has_is (λ t below. subst (λ (n : ℕ). n ≤ (get_or doc.head.trades t
            (record { seller = 0; buyer = 0; units = 0 })).units) (sym (own_is doc.head.trades counts f t))
            (within t below));
        utility = subst (λ (o : Option ℤ). IfSome o IsWithinClaim) (sym is_told.utility_is)
            (some_within said.0.utility held.small_utility);
        worth = subst (λ (o : Option ℤ). IfSome o IsWithinClaim) (sym is_told.worth_is)
            (some_within said.0.worth held.small_worth);
      })
    where
      d : UnitHolding
      d = record { best = []; best_utility = pos 0; gain = None; has = []; utility = None; worth = None }

-- the count of some firms is a short number
pub content_short : (content : ℕ) (told : List UnitHolding) → content ≡ count_by is_content told
    → length told ≤ most_unit_firms → content < 2 ^ 32
content_short content told counted few =
    let less = count_by-le-length is_content told in omega (arith, counted, less, few)

-- ---- rules of answers

module _ (doc : UnitDocument) (counts : List ℕ) (prices : List ℤ) (content : ℕ) (told : List UnitHolding)
    (surplus : Option ℤ) (tells : TellsFirms (written_firms doc) doc.head.trades counts prices content told surplus) where
  of_each : (P : UnitHolding → Type 0) → ((f : ℕ) (firm : CountFirm) (holding : UnitHolding)
      → TellsFirm doc.head.trades counts prices f firm holding → P holding) → All P told
  of_each P each = All-from_get_or P told d (λ f inside.
      let sized = tells.one_each in
      let firm = item_at (written_firms doc) f (omega (arith, inside, sized)) in
      each f firm.0 (get_or told f d) (tells.each f firm.0 (get_or told f d) firm.1 (slice_get-get_or told f d inside)))
    where
      d : UnitHolding
      d = record { best = []; best_utility = pos 0; gain = None; has = []; utility = None; worth = None }

pub firms_named : (doc : UnitDocument) (counts : List ℕ) (prices : List ℤ) (said : Said) → IsUnitDocument doc
    → TellsHoldingsByCounts doc counts prices said → IsNamedAnswer doc.head.names said
firms_named doc counts prices (FirmsByCounts content told surplus) is answer = (
  answer.one_each ∙ firms_count doc.head.trades 0 doc.firms ∙ is.named,
  of_each doc counts prices content told surplus answer (IsNamedUnitHolding doc.head.names.trades)
      (λ f firm holding tells. record {
        best = bundle_named doc is f tells.best_counts holding.best tells.best_is;
        has = bundle_named doc is f (count_in counts) holding.has tells.has_is;
      }),
)
firms_named doc counts prices said is answer = absurd answer

pub firms_ascend : (doc : UnitDocument) (counts : List ℕ) (prices : List ℤ) (said : Said) → IsUnitDocument doc
    → TellsHoldingsByCounts doc counts prices said → HasAscendingTrades said
firms_ascend doc counts prices (FirmsByCounts content told surplus) is answer =
    of_each doc counts prices content told surplus answer HasUnitBundles (λ f firm holding tells. record {
      best = bundle_kept doc is f tells.best_counts holding.best tells.best_is;
      has = bundle_kept doc is f (count_in counts) holding.has tells.has_is;
    })
firms_ascend doc counts prices said is answer = absurd answer

pub firms_no_fault : (doc : UnitDocument) (counts : List ℕ) (prices : List ℤ) (fault : FaultIs)
    → TellsHoldingsByCounts doc counts prices (Fault fault) → ⊥
firms_no_fault doc counts prices fault answer = answer
