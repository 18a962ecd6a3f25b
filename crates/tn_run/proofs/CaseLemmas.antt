-- The cases that fail, and the words that ask for the program's own.
use Rattle.std.proofs.Common.{◌≡◌, ℕ, ◌+◌, ◌<◌, ◌≤◌, inl, inr, List, [], ◌∷◌, ◌++◌, length, sym, subst, ap, refl, arith, ◌∙◌}
use Rattle.std.specs.Prelude.{Bool, true, false, ◌==◌, ◌&&◌, Option, Some, IfSome, Result, Ok, Err, IfOk, option_map, slice_get, All, Contains, nat_le}
use Rattle.std.specs.Bool.{Decides}
use Rattle.std.specs.Str.{bytes_eq}
use Rattle.std.proofs.lemmas.Bool.{cases_lt, leb-true, true≢false}
use Rattle.std.proofs.lemmas.Bool.Decides.{Decides-eqb}
use Rattle.std.proofs.lemmas.List.Elements.{All-contains, All-cons, All-nil, All-push, All-weaker, Contains-append_cases, Contains-append_left, Contains-append_right}
use Rattle.std.proofs.lemmas.List.Kept.{AllPairs-from_increasing}
use Rattle.std.proofs.lemmas.List.Quantifiers.{all_pairs_push}
use Rattle.std.proofs.lemmas.List.Sums.{AllPass-from_list_all}
use Rattle.std.proofs.lemmas.Option.{same_Some}
use Rattle.std.proofs.lemmas.Slice.Eq.{bytes_eq-Decides}
use Rattle.tn_answer.specs.AnswerText.{answer_line}
use Rattle.tn_cases.specs.Book.{cases_of_the_book}
use Rattle.tn_cases.specs.Case.{CaseData, agrees_with}
use Rattle.tn_said.specs.declared.said.Said.{Said}
use Rattle.tn_names.specs.Names.{NameLists}
use Rattle.tn_run.specs.Answer.{document_limit}
use Rattle.tn_run.specs.Cases.{AreFailed, IsCaseAnswer, IsPassed}
use Rattle.tn_run.specs.Run.{status_of}
use Rattle.tn_run.specs.Status.{status_number}
use Rattle.tn_run.specs.Words.{case_command, case_layout}

-- a run of a case comes to what the case says, or to something else
pub passed_or_not : (case : CaseData) (names : NameLists) (said : Said) (status : ℕ) (text : List ℕ) (agrees : Bool)
    → IsCaseAnswer (case_command case.command) case.document names said → status ≡ status_number (status_of said)
    → text ≡ answer_line (case_layout case.command) names said
    → agrees ≡ agrees_with status text case → IsPassed agrees case
passed_or_not case names said status text agrees answer status_is text_is decided =
    by_tests agrees (status == case.status) (bytes_eq text case.text) (Decides-eqb status case.status)
    (bytes_eq-Decides text case.text) decided
  where
    by_tests : (agrees same_status same_text : Bool) → Decides same_status (status ≡ case.status)
        → Decides same_text (text ≡ case.text)
        → agrees ≡ (same_status && same_text) → IsPassed agrees case
    by_tests true true true tells_status tells_text both = record {
      names = names;
      said = said;
      answer = answer;
      status_is = sym (tells_status.0 refl) ∙ status_is;
      text_is = sym (tells_text.0 refl) ∙ text_is;
    }
    by_tests true true false tells_status tells_text both = absurd (true≢false both)
    by_tests true false same_text tells_status tells_text both = absurd (true≢false both)
    by_tests false same_status same_text tells_status tells_text both = record {
      status = status;
      text = text;
      allowed = record { names = names; said = said; answer = answer; status_is = status_is; text_is = text_is };
      differs = λ one other. true≢false (sym (both ∙ (λ i. tells_status.1 one i && tells_text.1 other i)));
    }

pub run_decides : {E : Type 0} (found : Option CaseData) (case : CaseData) (names : NameLists) (said : Said)
    (result : Result Bool E)
    → found ≡ Some case → IsCaseAnswer (case_command case.command) case.document names said
    → IfOk result (λ agrees. Some agrees
    ≡ option_map (agrees_with (status_number (status_of said)) (answer_line (case_layout case.command) names said)) found)
    → IfOk result (λ agrees. IfSome found (IsPassed agrees))
run_decides found case names said (Ok agrees) is answer decided =
    subst (λ (one : Option CaseData). IfSome one (IsPassed agrees)) (sym is)
    (passed_or_not case names said (status_number (status_of said)) (answer_line (case_layout case.command) names said) agrees answer
    refl refl
    (same_Some agrees (agrees_with (status_number (status_of said)) (answer_line (case_layout case.command) names said) case) (decided
    ∙ ap (option_map (agrees_with (status_number (status_of said)) (answer_line (case_layout case.command) names said))) is)))
run_decides found case names said (Err error) is answer decided = decided

module _ (count : ℕ) (cases : List CaseData) (failed : List ℕ) (are : AreFailed count cases failed) where
  -- the numbers of the cases before are those of one more too
  still_among : All (λ number. (1 ≤ number) × (number ≤ count + 1)) failed
  still_among = All-weaker (λ number. (1 ≤ number) × (number ≤ count)) (λ number. (1 ≤ number)
      × (number ≤ count + 1)) (λ number within. let most = within.1 in (within.0, omega (arith, most))) failed are.among

  -- one more case is the last one
  at_last : (passes : Bool) (k : ℕ) (case : CaseData) → k ≡ count → slice_get cases k ≡ Some case
      → IfSome (slice_get cases count) (IsPassed passes) → IsPassed passes case
  at_last passes k case same is last =
      subst (λ (found : Option CaseData). IfSome found (IsPassed passes)) (ap (slice_get cases) (sym same) ∙ is) last

  -- one more case, which passed
  pub one_more_passed : IfSome (slice_get cases count) (IsPassed true) → AreFailed (count + 1) cases failed
  one_more_passed last = record {
    ascending = are.ascending;
    among = still_among;
    passed = λ k case below is unlisted. elim (cases_lt k count) [
      | inl before ↦ are.passed k case before is unlisted
      | inr after ↦ at_last true k case (omega (arith, below, after)) is last
    ];
    failing = λ k case below is listed. elim (cases_lt k count) [
      | inl before ↦ are.failing k case before is listed
      | inr after ↦ let within = (All-contains (λ number. (1 ≤ number)
          × (number ≤ count)) failed (k + 1) are.among listed).1 in absurd (omega (arith, after, within))
    ];
  }

  -- a number after those before is the last one
  is_last : (k : ℕ) → Contains ((count + 1) ∷ []) (k + 1) → k ≡ count
  is_last k listed =
      let same = All-contains (λ number. number ≡ count + 1) ((count + 1) ∷ []) (k + 1)
      (All-cons (λ number. number ≡ count + 1) (count + 1) [] refl (All-nil _)) listed in omega (arith, same)

  -- one more case, which failed
  pub one_more_failed : IfSome (slice_get cases count) (IsPassed false)
      → AreFailed (count + 1) cases (failed ++ (count + 1) ∷ [])
  one_more_failed last = record {
    ascending = λ k inside.
        all_pairs_push (λ x y. x < y) failed (count + 1) (AllPairs-from_increasing failed are.ascending)
        (λ j d within. let most = (are.among j d within).1 in omega (arith, most)) k (k + 1) 0 (omega arith) inside;
    among = All-push (λ number. (1 ≤ number) × (number ≤ count + 1)) failed (count + 1) still_among (
      omega arith,
      omega arith,
    );
    passed = λ k case below is unlisted. elim (cases_lt k count) [
      | inl before ↦
          are.passed k case before is
          (λ listed. unlisted (Contains-append_left failed ((count + 1) ∷ []) (k + 1) listed))
      | inr after ↦
          let same : k ≡ count = omega (arith, below, after) in
          absurd (unlisted (subst (λ n. Contains (failed ++ (count + 1) ∷ []) (n + 1)) (sym same)
          (Contains-append_right failed ((count + 1) ∷ []) (count + 1) (0, omega arith, refl))))
    ];
    failing = λ k case below is listed. elim (cases_lt k count) [
      | inl before ↦ elim (Contains-append_cases failed ((count + 1) ∷ []) (k + 1) listed) [
        | inl earlier ↦ are.failing k case before is earlier
        | inr latest ↦ let same = is_last k latest in absurd (omega (arith, before, same))
      ]
      | inr after ↦ at_last false k case (omega (arith, below, after)) is last
    ];
  }

-- the documents of the book are within the limit
pub book_is_within : All (λ case. length case.document ≤ document_limit) cases_of_the_book
book_is_within =
    All-weaker (λ case. nat_le (length case.document) document_limit ≡ true) (λ case. length case.document
    ≤ document_limit)
    (λ case within. leb-true (length case.document) document_limit within) cases_of_the_book
    (AllPass-from_list_all (λ case. nat_le (length case.document) document_limit) cases_of_the_book refl)
