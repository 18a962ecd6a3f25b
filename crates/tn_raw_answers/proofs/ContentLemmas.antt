-- Where all firms are content, and which is the first that isn't.
use Rattle.std.proofs.Common.{◌≡◌, ℕ, zero, suc, ◌+◌, Bool, true, false, ℤ, ◌-ℤ◌, List, [], ◌∷◌, length, count_by, cond, slice_get, Option, Some, None, option_map, unsigned_abs, refl, sym, ap, ◌∙◌, arith, inl, inr}
use Rattle.std.proofs.lemmas.List.Sums.{count_by-le-length, sum_by-append}
use Rattle.std.proofs.lemmas.Int.{ints}
use Rattle.std.proofs.lemmas.Option.{none-some, same_Some, slice_get_within}
use Rattle.std.proofs.lemmas.Bool.{cases_Bool, eqb-true, eq-eqb, false≢true}
use Rattle.tn_base.specs.Firm.{Firm}
use Rattle.tn_model.specs.declared.ends.Ends.{Ends}
use Rattle.tn_said.specs.declared.holding.Holding.{Holding}
use Rattle.tn_said.specs.declared.said.Said.{Said}
use Rattle.tn_said.specs.declared.said.Said.TheVariants.{Equilibrium, Better, Impossible}
use Rattle.tn_price.proofs.JudgeLemmas.{some_item}
use Rattle.tn_market.specs.Equilibrium.{HasBest, IsEquilibrium}
use Rattle.tn_market.specs.Judged.{AreBestBefore}
use Rattle.tn_commands.specs.Check.{ChecksArrangement}
use Rattle.tn_answer.specs.Rows.{is_nothing}
use Rattle.tn_raw_answers.specs.Firms.{is_content, TellsFirm, TellsFirms}
use Rattle.tn_raw_answers.specs.Laws.{AllContentIsEquilibrium, CheckNamesTheFirst, IsFirstDiscontent, SaysTheSame}

-- ---- one firm

-- a gain of nothing is none of the utility
own_is_most : (gain : Option ℤ) (mine : Option ℤ) (most : ℤ) → gain ≡ option_map (λ value. most -ℤ value) mine
    → is_nothing gain ≡ true → mine ≡ Some most
own_is_most gain None most gain_is content = absurd (false≢true (sym (ap is_nothing gain_is) ∙ content))
own_is_most gain (Some value) most gain_is content =
    let zero_is : unsigned_abs (most -ℤ value) ≡ 0 = eqb-true _ 0 (sym (ap is_nothing gain_is) ∙ content) in
    ap (λ (z : ℤ). Some z) (let same : value ≡ most = omega (arith, ints, zero_is) in same)

most_is_own : (gain : Option ℤ) (mine : Option ℤ) (most : ℤ) → gain ≡ option_map (λ value. most -ℤ value) mine
    → mine ≡ Some most → is_nothing gain ≡ true
most_is_own gain mine most gain_is own_is =
    ap is_nothing (gain_is ∙ ap (option_map (λ value. most -ℤ value)) own_is)
    ∙ eq-eqb (unsigned_abs (most -ℤ most)) 0 (let zero_is : unsigned_abs (most -ℤ most) ≡ 0 = omega (arith, ints) in
    zero_is)

module _ (trades : List Ends) (scale : ℤ) (on : ℕ) (prices : ℕ
    → ℤ) (f : ℕ) (firm : Firm) (told : Holding) (tells : TellsFirm trades scale on prices f firm told) where
  content_best : is_content told ≡ true → HasBest trades scale on prices f firm
  content_best content =
      let as_great = own_is_most told.gain told.utility told.best_utility tells.gain_is content in
      (told.best_utility, record { is = sym tells.utility_is ∙ as_great; most = tells.best.most })

  best_content : HasBest trades scale on prices f firm → is_content told ≡ true
  best_content best =
      let above = tells.best.most _ best.0 best.1.is in
      let below = best.1.most tells.bundle told.best_utility tells.best.is in
      let same : best.0 ≡ told.best_utility = omega (arith, ints, above, below) in
      most_is_own told.gain told.utility told.best_utility tells.gain_is (tells.utility_is ∙ best.1.is
      ∙ ap (λ (z : ℤ). Some z) same)

-- ---- all firms

-- the count of one item, and with one item in front
pub count_one : (test : Holding → Bool) (x : Holding) → count_by test (x ∷ []) ≡ cond (test x) 1 0
count_one test x = by (test x)
  where
    by : (b : Bool) → 0 + cond b 1 0 ≡ cond b 1 0
    by true = refl
    by false = refl

count_first : (test : Holding → Bool) (x : Holding) (told : List Holding)
    → count_by test (x ∷ told) ≡ cond (test x) 1 0 + count_by test told
count_first test x told = sum_by-append (λ h. cond (test h) 1 0) (x ∷ []) told
    ∙ ap (λ (n : ℕ). n + count_by test told) (count_one test x)

module _ (test : Holding → Bool) where
  -- what stands in a list is its first item, or stands in the rest
  first_or_rest : (y x : Holding) (told : List Holding) (k : ℕ) → slice_get (y ∷ told) k ≡ Some x → test y ≡ true
      → ((j : ℕ) → slice_get told j ≡ Some x → test x ≡ true) → test x ≡ true
  first_or_rest y x told zero is passes rest = ap test (sym (same_Some y x is)) ∙ passes
  first_or_rest y x told (suc k) is passes rest = rest k is

  -- where all are counted, each passes
  all_pass : (told : List Holding) → count_by test told ≡ length told → (k : ℕ) (x : Holding)
      → slice_get told k ≡ Some x → test x ≡ true
  all_pass [] all k x is = absurd (none-some x is)
  all_pass (y ∷ told) all k x is =
      let less = count_by-le-length test told in
      elim (cases_Bool (test y)) [
        | inl passes ↦
            let one : count_by test (y ∷ told) ≡ 1 + count_by test told =
            count_first test y told ∙ ap (λ (b : Bool). cond b 1 0 + count_by test told) passes in
            let rest : count_by test told ≡ length told = omega (arith, one, all) in
            first_or_rest y x told k is passes (λ j there. all_pass told rest j x there)
        | inr fails ↦
            let none : count_by test (y ∷ told) ≡ 0 + count_by test told =
            count_first test y told ∙ ap (λ (b : Bool). cond b 1 0 + count_by test told) fails in
            absurd (omega (arith, none, all, less))
      ]

  -- and the other way round
  all_counted : (told : List Holding) → ((k : ℕ) (x : Holding) → slice_get told k ≡ Some x → test x ≡ true)
      → count_by test told ≡ length told
  all_counted [] pass = refl
  all_counted (y ∷ told) pass =
      let one : count_by test (y ∷ told) ≡ 1 + count_by test told =
      count_first test y told ∙ ap (λ (b : Bool). cond b 1 0 + count_by test told) (pass 0 y refl) in
      let rest = all_counted told (λ k x is. pass (suc k) x is) in
      omega (arith, one, rest)

module _ (firms : List Firm) (trades : List Ends) (scale : ℤ) (on : ℕ) (prices : ℕ
    → ℤ) (content : ℕ) (told : List Holding) (surplus : Option ℤ)
    (tells : TellsFirms firms trades scale on prices content told surplus) where
  -- what is said of a firm, and the firm of which something is said
  told_of : (f : ℕ) (firm : Firm) → slice_get firms f ≡ Some firm → (holding : Holding)
      × (slice_get told f ≡ Some holding)
  told_of f firm is = let inside = slice_get_within firms f firm is in let one_each = tells.one_each in
      some_item told f (omega (arith, inside, one_each))

  firm_of : (f : ℕ) (holding : Holding) → slice_get told f ≡ Some holding → (firm : Firm)
      × (slice_get firms f ≡ Some firm)
  firm_of f holding is = let inside = slice_get_within told f holding is in let one_each = tells.one_each in
      some_item firms f (omega (arith, inside, one_each))

  from_content : content ≡ length told → IsEquilibrium firms trades scale on prices
  from_content all f firm is =
      let holding = told_of f firm is in
      content_best trades scale on prices f firm holding.0 (tells.each f firm holding.0 is holding.1)
      (all_pass is_content told (sym tells.counted ∙ all) f holding.0 holding.1)

  to_content : IsEquilibrium firms trades scale on prices → content ≡ length told
  to_content equilibrium = tells.counted ∙ all_counted is_content told (λ f holding is.
      let firm = firm_of f holding is in
      best_content trades scale on prices f firm.0 holding (tells.each f firm.0 holding firm.1 is)
      (equilibrium f firm.0 firm.1))

  -- the first firm without a best bundle is the first that isn't content
  first_discontent : (f : ℕ) (firm : Firm) → AreBestBefore firms trades scale on prices f
      → slice_get firms f ≡ Some firm → (HasBest trades scale on prices f firm → ⊥)
      → IsFirstDiscontent told f
  first_discontent f firm before is unable =
      let holding = told_of f firm is in
      record {
        before = λ g other below other_is.
            let earlier = firm_of g other other_is in
            best_content trades scale on prices g earlier.0 other (tells.each g earlier.0 other earlier.1 other_is)
            (before g earlier.0 below earlier.1);
        holding = holding.0;
        is = holding.1;
        discontent = elim (cases_Bool (is_content holding.0)) [
          | inl content ↦
              absurd (unable (content_best trades scale on prices f firm holding.0
              (tells.each f firm holding.0 is holding.1) content))
          | inr none ↦ none
        ];
      }

  says_the_same : (said : Said) → ChecksArrangement firms trades scale on prices said → SaysTheSame content told said
  says_the_same (Equilibrium total) judges = to_content judges.0
  says_the_same (Better f bundle gain) judges =
      let at = judges.1 in
      first_discontent f at.firm at.before at.is (λ best.
      let own = same_Some _ _ (sym at.own_is ∙ best.1.is) in
      let more = best.1.most judges.0 at.best_value at.best.is in
      let gain_is = at.gain_is in
      let gains = at.gains in
      omega (arith, ints, own, more, gain_is, gains))
  says_the_same (Impossible f) judges =
      first_discontent f judges.firm judges.before judges.is (λ best. impossible _ _ best.0 judges.impossible best.1.is)
    where
      impossible : (g : ℤ → ℤ) (worth : Option ℤ) (value : ℤ) → worth ≡ None → option_map g worth ≡ Some value → ⊥
      impossible g worth value none is = none-some value (sym (ap (option_map g) none) ∙ is)
  says_the_same said judges = absurd judges

pub content_is_equilibrium : AllContentIsEquilibrium
content_is_equilibrium firms trades scale on prices content told surplus tells = (
  (λ all. from_content firms trades scale on prices content told surplus tells (all ∙ sym tells.one_each)),
  (λ equilibrium. to_content firms trades scale on prices content told surplus tells equilibrium ∙ tells.one_each),
)

pub check_names : CheckNamesTheFirst
check_names firms trades scale on prices content told surplus said tells judges =
    says_the_same firms trades scale on prices content told surplus tells said judges
