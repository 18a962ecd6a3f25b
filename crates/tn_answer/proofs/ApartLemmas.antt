-- Answers over the same names whose data are equal are written alike.
use Rattle.std.proofs.Common.{if◌then◌else◌, ◌==◌, ◌*◌, ◌≡◌, false, ℕ, ℤ, ◌+◌, List, [], ◌∷◌, get_or, Option, None, Some, is_some, true≢false, find, All, IfSome, codes, bytes_eq, refl, sym, ap, ◌∙◌, arith}
use Rattle.std.proofs.lemmas.List.Elements.{All-head, All-tail}
use Rattle.std.proofs.lemmas.Option.{same_Some}
use Rattle.std.specs.List.{AllZip}
use Rattle.serde_json.specs.Data.{Data, member, no_members}
use Rattle.serde_json.specs.Events.{items_len}
use Rattle.serde_json.specs.Find.{at, get}
use Rattle.tn_said.specs.declared.fault.FaultKind.{FaultKind}
use Rattle.tn_said.specs.declared.fault.FaultKind.TheVariants.{NotJson, TooLong, Shape, BadName, SameName, UnknownFirm, SelfTrade, UnknownTrade, Limit, AmountRange, NotOwnTrade, SameBundle, NoEmpty, NotLaminar, NotConcave, SameTrade, PriceMissing, BadOver, SamePair}
use Rattle.tn_said.specs.declared.fault.FaultKind.TheVariants.{ExchangeFails as FailsExchange}
use Rattle.tn_said.specs.Faults.{fault_number}
use Rattle.tn_said.specs.declared.place.PlaceStep.{PlaceStep}
use Rattle.tn_said.specs.declared.place.PlaceStep.TheVariants.{Key, Index, Trade}
use Rattle.tn_said.specs.declared.place.Word.{Word}
use Rattle.tn_said.specs.declared.place.Word.TheVariants.{Version, Firms, Trades, Arrangement, Outcome, Claim, Note, Edits, Name, Seller, Buyer, Kind, Rows, Amounts, Sets, From, Values, Costs, Gains, Keep, Pairs, On, Prices, Over, Contracts, Answer, Surplus as SurplusWord, Firm, Bundle, Gain, X, Y, At, Nodes, Cost, Keeps, Plan, Units, Bought, Sold}
use Rattle.tn_said.specs.declared.reason.Reason.{Reason}
use Rattle.tn_said.specs.declared.reason.Reason.TheVariants.{Impossible as ImpossibleIs, Better as BetterIs, Possible, Surplus as SurplusIs, Gain as GainIs, Exchange, Holds, Arc, Cost as CostIs, Contract as ContractIs, Over as OverIs, Price, Empty, Signed, Choice, Shares, Balance, Whole}
use Rattle.tn_said.specs.declared.said.Fault.{Fault}
use Rattle.tn_said.specs.declared.said.Shown.{Shown}
use Rattle.tn_model.specs.declared.ends.Ends.{Ends}
use Rattle.tn_said.specs.declared.holding.Holding.{Holding}
use Rattle.tn_said.specs.declared.units.TradeUnits.{TradeUnits}
use Rattle.tn_said.specs.declared.units.UnitStep.{UnitStep}
use Rattle.tn_said.specs.declared.units.UnitHolding.{UnitHolding}
use Rattle.tn_said.specs.declared.units.UnitRange.{UnitRange}
use Rattle.tn_model.specs.declared.contract.Contract.{Contract}
use Rattle.tn_model.specs.declared.range.Range.{Range}
use Rattle.tn_said.specs.declared.said.Page.{Page}
use Rattle.tn_said.specs.declared.said.Page.TheVariants.{Help, Version as VersionPage, About}
use Rattle.tn_said.specs.declared.said.Topic.TheVariants.{Check as CheckTopic, Firms as FirmsTopic, Test as TestTopic, Support as SupportTopic, Solve as SolveTopic, Range as RangeTopic, Session as SessionTopic, Judge as JudgeTopic, Replay as ReplayTopic, Drill as DrillTopic, Cases as CasesTopic}
use Rattle.tn_said.specs.declared.said.Said.{Said}
use Rattle.tn_said.specs.declared.said.Said.TheVariants.{Usage, ReadFault, NoMemory, Fault as FaultIs, Equilibrium, Better, BetterByCounts, Impossible, Accepted, ExchangeFails, Supported, SupportedByCounts, Cycle, CycleByCounts, Solved, SolvedByCounts, Drill, Ranges, RangesByCounts, Session, SessionByCounts, Drops, DropsByCounts, Completes, CompletesByCounts, Blocks, Valid, Invalid, Cases, Page as PageIs, Firms as FirmsIs, FirmsByCounts}
use Rattle.tn_names.specs.Names.{NameLists, IsNameList}
use Rattle.tn_said.specs.Words.{word_text}
use Rattle.tn_names.specs.Named.{IsNamed, IsNamedStep, IsNamedTriple}
use Rattle.tn_answer.specs.Pages.{lines_text, page_lines}
use Rattle.tn_answer.specs.AnswerText.{counts_data, prices_data, step_data, place_data, fault_data, answer_form, form_text, answer, answer_data}
use Rattle.tn_answer.specs.Values.{name_data, names_data, integer_data, numbers_data}
use Rattle.tn_answer.specs.ReasonText.{reason_members, IsNamedReason}
use Rattle.tn_answer.specs.Apart.{HasShortNumbers, IsNamedAnswer, IsSameByCounts, IsSameFault, IsSameObject, IsSameStep}
use Rattle.tn_answer.proofs.DataParts.{first_in, items_in, name_there, natural_in, nothing_goes, part, rest_in, same_bound, same_counts, same_integer, same_name, same_prices, shape, text_in}
use Rattle.tn_answer.proofs.DataTexts.{clash}
use Rattle.tn_answer.proofs.MembersApart.{bundle_alike, holdings_alike, ranges_alike, same_contracts, prices_alike, same_holdings, same_names, same_nodes, same_option, same_ranges, same_states, same_steps, same_unit_holdings, same_unit_ranges, same_unit_states, same_entries, states_alike, steps_alike}

-- ---- words

-- each kind at its number
kinds : List FaultKind
kinds = NotJson ∷ NotJson ∷ TooLong ∷ Shape ∷ BadName ∷ SameName ∷ UnknownFirm ∷ SelfTrade ∷ UnknownTrade ∷ Limit ∷
    AmountRange ∷ NotOwnTrade ∷ SameBundle ∷ NoEmpty ∷ NotLaminar ∷ NotConcave ∷ FailsExchange ∷ SameTrade ∷
    PriceMissing ∷ BadOver ∷ SamePair ∷ []

kind_back : (kind : FaultKind) → get_or kinds (fault_number kind) NotJson ≡ kind
unfolding kinds
kind_back NotJson = refl
kind_back kind = refl

same_kind : (first second : FaultKind) → fault_number first ≡ fault_number second → first ≡ second
same_kind first second e = sym (kind_back first) ∙ ap (λ n. get_or kinds n NotJson) e ∙ kind_back second

words : List Word
words = Version ∷ Firms ∷ Trades ∷ Arrangement ∷ Outcome ∷ Claim ∷ Note ∷ Edits ∷ Name ∷ Seller ∷ Buyer ∷ Kind ∷ Rows ∷
    Amounts ∷ Sets ∷ From ∷ Values ∷ Costs ∷ Gains ∷ Keep ∷ Pairs ∷ On ∷ Prices ∷ Over ∷ Contracts ∷ Answer ∷
    SurplusWord ∷ Firm ∷ Bundle ∷ Gain ∷ X ∷ Y ∷ At ∷ Nodes ∷ Cost ∷ Keeps ∷ Plan ∷ Units ∷
    Bought ∷ Sold ∷ []

abbrev word_of : List ℕ → Option Word
word_of text = find (λ word. bytes_eq text (word_text word)) words

word_back : (word : Word) → word_of (word_text word) ≡ Some word
unfolding words
word_back Version = refl
word_back word = refl

same_word : (first second : Word) → word_text first ≡ word_text second → first ≡ second
same_word first second e = same_Some first second (sym (word_back first) ∙ ap word_of e ∙ word_back second)

-- ---- names

module _ (names : List (List ℕ)) (kept : IsNameList names) where
  same_step : (first second : PlaceStep) → IsNamedStep names first → IsNamedStep names second
      → step_data names first ≡ step_data names second → IsSameStep names first second
  same_step (Key v) (Key w) h k e = ap Key (same_word v w (ap text_in e))
  same_step (Key v) (Index n) h k e = absurd (clash 3 2 refl (ap shape e))
  same_step (Key v) (Trade t) h k e = name_there names kept t k ∙ ap (λ d. Some (text_in d)) (sym e)
  same_step (Index m) (Key w) h k e = absurd (clash 2 3 refl (ap shape e))
  same_step (Index m) (Index n) h k e = ap Index (ap natural_in e)
  same_step (Index m) (Trade t) h k e = absurd (clash 2 3 refl (ap shape e))
  same_step (Trade t) (Key w) h k e = name_there names kept t h ∙ ap (λ d. Some (text_in d)) e
  same_step (Trade t) (Index n) h k e = absurd (clash 3 2 refl (ap shape e))
  same_step (Trade t) (Trade u) h k e = ap Trade (same_name names kept t u h k e)

  same_place : (first second : List PlaceStep) → All (IsNamedStep names) first → All (IsNamedStep names) second
      → place_data names first ≡ place_data names second → AllZip (IsSameStep names) first second
  same_place [] [] h k e = tt
  same_place [] (t ∷ ts) h k e = absurd (omega (arith, ap (λ d. items_len (items_in d)) e))
  same_place (s ∷ ss) [] h k e = absurd (omega (arith, ap (λ d. items_len (items_in d)) e))
  same_place (s ∷ ss) (t ∷ ts) h k e = (
    same_step s t (All-head (IsNamedStep names) s ss h) (All-head (IsNamedStep names) t ts k) (ap first_in e),
    same_place ss ts (All-tail (IsNamedStep names) s ss h) (All-tail (IsNamedStep names) t ts k) (ap rest_in e),
  )

  -- only beside a triple stands a trade or none
  shown_is_not : (first second : Fault) (shown : Shown)
      → fault_data names first None ≡ fault_data names second (Some shown) → ⊥
  shown_is_not first second shown e = true≢false (sym (ap (λ d. is_some (get (codes "at") d)) e))

  same_fault : (first second : Fault) (shown other : Option Shown) → first.shown ≡ shown → second.shown ≡ other
      → All (IsNamedStep names) first.place → All (IsNamedStep names) second.place → IfSome shown (IsNamedTriple names)
      → IfSome other (IsNamedTriple names)
      → fault_data names first shown ≡ fault_data names second other → IsSameFault names first second
  same_fault first second None None is_first is_second h k m n e = record {
    kind = same_kind first.kind second.kind (ap (λ d. natural_in (part (codes "fault") d)) e);
    place = same_place first.place second.place h k (ap (part (codes "place")) e);
    shown = is_first ∙ sym is_second;
  }
  same_fault first second None (Some other) is_first is_second h k m n e = absurd (shown_is_not first second other e)
  same_fault first second (Some shown) None is_first is_second h k m n e =
      absurd (shown_is_not second first shown (sym e))
  same_fault first second (Some shown) (Some other) is_first is_second h k m n e =
      let at = same_option names kept shown.at other.at m.at n.at (ap (part (codes "at")) e) in
      let x = same_names names kept shown.x other.x m.x n.x (ap (part (codes "x")) e) in
      let y = same_names names kept shown.y other.y m.y n.y (ap (part (codes "y")) e) in
      let triple : shown ≡ other = λ i. record { x = x i; y = y i; at = at i } in
      record {
        kind = same_kind first.kind second.kind (ap (λ d. natural_in (part (codes "fault") d)) e);
        place = same_place first.place second.place h k (ap (part (codes "place")) e);
        shown = is_first ∙ ap Some triple ∙ sym is_second;
      }

-- ---- pages

abbrev pub first_byte : List ℕ → ℕ
first_byte text = get_or text 0 0

-- each page begins with the program's name
pub page_begins : (page : Page) → first_byte (lines_text (page_lines page)) ≡ 109
page_begins Help = refl
page_begins VersionPage = refl
page_begins (About CheckTopic) = refl
page_begins (About FirmsTopic) = refl
page_begins (About TestTopic) = refl
page_begins (About SupportTopic) = refl
page_begins (About SolveTopic) = refl
page_begins (About RangeTopic) = refl
page_begins (About SessionTopic) = refl
page_begins (About JudgeTopic) = refl
page_begins (About ReplayTopic) = refl
page_begins (About DrillTopic) = refl
page_begins (About CasesTopic) = refl

-- the three bytes behind that name, as one number
abbrev key : List ℕ → ℕ
key text = (get_or text 7 0 * 256 + get_or text 8 0) * 256 + get_or text 9 0

-- the page that has them
abbrev page_at : ℕ → Page
page_at k =
    if k == key (codes "market finds") then Help
    else if k == key (codes "market check") then About CheckTopic
    else if k == key (codes "market firms") then About FirmsTopic
    else if k == key (codes "market test") then About TestTopic
    else if k == key (codes "market support") then About SupportTopic
    else if k == key (codes "market solve") then About SolveTopic
    else if k == key (codes "market range") then About RangeTopic
    else if k == key (codes "market session") then About SessionTopic
    else if k == key (codes "market judge") then About JudgeTopic
    else if k == key (codes "market replay") then About ReplayTopic
    else if k == key (codes "market drill") then About DrillTopic
    else if k == key (codes "market cases") then About CasesTopic
    else VersionPage

page_is_at : (page : Page) → page_at (key (lines_text (page_lines page))) ≡ page
page_is_at Help = refl
page_is_at VersionPage = refl
page_is_at (About CheckTopic) = refl
page_is_at (About FirmsTopic) = refl
page_is_at (About TestTopic) = refl
page_is_at (About SupportTopic) = refl
page_is_at (About SolveTopic) = refl
page_is_at (About RangeTopic) = refl
page_is_at (About SessionTopic) = refl
page_is_at (About JudgeTopic) = refl
page_is_at (About ReplayTopic) = refl
page_is_at (About DrillTopic) = refl
page_is_at (About CasesTopic) = refl

-- ---- answers

abbrev answer_text : Said → List ℕ
answer_text Usage = codes "usage"
answer_text ReadFault = codes "read_fault"
answer_text NoMemory = codes "no_memory"
answer_text (FaultIs fault) = codes "fault"
answer_text (Equilibrium surplus) = codes "equilibrium"
answer_text (Better firm bundle gain) = codes "better"
answer_text (BetterByCounts firm bundle gain) = codes "better"
answer_text (Impossible firm) = codes "impossible"
answer_text Accepted = codes "accepted"
answer_text (ExchangeFails firm x y at) = codes "exchange_fails"
answer_text (Supported on prices ends) = codes "prices"
answer_text (SupportedByCounts counts prices ends) = codes "prices"
answer_text (Cycle nodes cost) = codes "cycle"
answer_text (CycleByCounts nodes cost) = codes "cycle"
answer_text (Solved on prices surplus ends) = codes "solved"
answer_text (SolvedByCounts counts prices surplus ends) = codes "solved"
answer_text (Drill size start firms surplus) = codes "drill"
answer_text (Ranges on ranges ends) = codes "ranges"
answer_text (RangesByCounts counts ranges ends) = codes "ranges"
answer_text (Session edits) = codes "session"
answer_text (SessionByCounts edits) = codes "session"
answer_text (Drops firm keeps gain over) = codes "drops"
answer_text (DropsByCounts firm keeps gain over) = codes "drops"
answer_text (Completes prices over) = codes "completes"
answer_text (CompletesByCounts prices over) = codes "completes"
answer_text (Blocks contracts over) = codes "blocks"
answer_text Valid = codes "valid"
answer_text (Invalid reason) = codes "invalid"
answer_text (Cases count failed) = codes "cases"
answer_text (PageIs page) = []
answer_text (FirmsIs content firms surplus) = codes "firms"
answer_text (FirmsByCounts content firms surplus) = codes "firms"

-- the first three bytes tell these texts apart
abbrev mark : List ℕ → ℕ
mark text = 65536 * get_or text 0 0 + 256 * get_or text 1 0 + get_or text 2 0

fault_says : (names : List (List ℕ)) (fault : Fault) (shown : Option Shown)
    → text_in (part (codes "answer") (fault_data names fault shown)) ≡ codes "fault"
fault_says names fault None = refl
fault_says names fault (Some shown) = refl

answer_says : (names : NameLists) (said : Said) → text_in (part (codes "answer") (answer_data names said))
    ≡ answer_text said
answer_says names Usage = refl
answer_says names ReadFault = refl
answer_says names NoMemory = refl
answer_says names (FaultIs fault) = fault_says names.trades fault fault.shown
answer_says names (Equilibrium surplus) = refl
answer_says names (Better firm bundle gain) = refl
answer_says names (BetterByCounts firm bundle gain) = refl
answer_says names (Impossible firm) = refl
answer_says names Accepted = refl
answer_says names (ExchangeFails firm x y at) = refl
answer_says names (Supported on prices ends) = refl
answer_says names (SupportedByCounts counts prices ends) = refl
answer_says names (Cycle nodes cost) = refl
answer_says names (CycleByCounts nodes cost) = refl
answer_says names (Solved on prices surplus ends) = refl
answer_says names (SolvedByCounts counts prices surplus ends) = refl
answer_says names (Drill size start firms surplus) = refl
answer_says names (Ranges on ranges ends) = refl
answer_says names (RangesByCounts counts ranges ends) = refl
answer_says names (Session edits) = refl
answer_says names (SessionByCounts edits) = refl
answer_says names (Drops firm keeps gain over) = refl
answer_says names (DropsByCounts firm keeps gain over) = refl
answer_says names (Completes prices over) = refl
answer_says names (CompletesByCounts prices over) = refl
answer_says names (Blocks contracts over) = refl
answer_says names Valid = refl
answer_says names (Invalid reason) = refl
answer_says names (Cases count failed) = refl
answer_says names (PageIs page) = refl
answer_says names (FirmsIs content firms surplus) = refl
answer_says names (FirmsByCounts content firms surplus) = refl

same_numbers : (xs ys : List ℕ) → numbers_data xs ≡ numbers_data ys → xs ≡ ys
same_numbers [] [] e = refl
same_numbers [] (y ∷ ys) e = absurd (omega (arith, ap (λ d. items_len (items_in d)) e))
same_numbers (x ∷ xs) [] e = absurd (omega (arith, ap (λ d. items_len (items_in d)) e))
same_numbers (x ∷ xs) (y ∷ ys) e =
    let first = ap (λ d. natural_in (first_in d)) e in
    let rest = same_numbers xs ys (ap rest_in e) in
    λ i. first i ∷ rest i

abbrev invalid : NameLists → Reason → Data
invalid names reason = answer (codes "invalid") (reason_members names reason)

abbrev reason_text : Reason → List ℕ
reason_text (ImpossibleIs firm) = codes "impossible"
reason_text (BetterIs firm bundle) = codes "better"
reason_text (Possible firm) = codes "possible"
reason_text (SurplusIs surplus) = codes "surplus"
reason_text (GainIs firm gain) = codes "gain"
reason_text (Exchange firm x y at) = codes "exchange"
reason_text Holds = codes "holds"
reason_text (Arc index) = codes "arc"
reason_text (CostIs cost) = codes "cost"
reason_text (ContractIs trade) = codes "contract"
reason_text (OverIs over) = codes "over"
reason_text (Price trade) = codes "price"
reason_text Empty = codes "empty"
reason_text (Signed trade) = codes "signed"
reason_text (Choice firm trade) = codes "choice"
reason_text (Shares firm) = codes "shares"
reason_text (Balance trade) = codes "balance"
reason_text (Whole on surplus) = codes "whole"

reason_says : (names : NameLists) (reason : Reason)
    → text_in (part (codes "reason") (invalid names reason)) ≡ reason_text reason
reason_says names Holds = refl
reason_says names reason = refl

module _ (names : NameLists) (firms : IsNameList names.firms) (trades : IsNameList names.trades) where
  same_reason_mark : (first second : Reason) → invalid names first ≡ invalid names second
      → mark (reason_text first) ≡ mark (reason_text second)
  same_reason_mark first second e =
      ap mark (sym (reason_says names first) ∙ ap (λ d. text_in (part (codes "reason") d)) e ∙ reason_says names second)

  reason_differs : (first second : Reason) → (mark (reason_text first) == mark (reason_text second)) ≡ false
      → invalid names first ≡ invalid names second → ⊥
  reason_differs first second other e =
      clash (mark (reason_text first)) (mark (reason_text second)) other (same_reason_mark first second e)

  same_firm : (firm other : ℕ) → IsNamed names.firms firm → IsNamed names.firms other → (first second : Reason)
      → invalid names first ≡ invalid names second
      → part (codes "firm") (invalid names first) ≡ name_data names.firms firm
      → part (codes "firm") (invalid names second) ≡ name_data names.firms other → firm ≡ other
  same_firm firm other h k first second e is is' =
      same_name names.firms firms firm other h k (sym is ∙ ap (part (codes "firm")) e ∙ is')

  same_trade : (trade other : ℕ) → IsNamed names.trades trade → IsNamed names.trades other → (first second : Reason)
      → invalid names first ≡ invalid names second
      → part (codes "trade") (invalid names first) ≡ name_data names.trades trade
      → part (codes "trade") (invalid names second) ≡ name_data names.trades other → trade ≡ other
  same_trade trade other h k first second e is is' =
      same_name names.trades trades trade other h k (sym is ∙ ap (part (codes "trade")) e ∙ is')

  same_reason : (first second : Reason) → IsNamedReason names first → IsNamedReason names second
      → invalid names first ≡ invalid names second → first ≡ second
  same_reason (ImpossibleIs firm) (ImpossibleIs other) h k e =
      ap ImpossibleIs (same_firm firm other h k (ImpossibleIs firm) (ImpossibleIs other) e refl refl)
  same_reason (BetterIs firm bundle) (BetterIs other bundle') h k e =
      let firm_is = same_firm firm other h.0 k.0 (BetterIs firm bundle) (BetterIs other bundle') e refl refl in
      let bundle_is = same_names names.trades trades bundle bundle' h.1 k.1 (ap (part (codes "bundle")) e) in
      λ i. BetterIs (firm_is i) (bundle_is i)
  same_reason (Possible firm) (Possible other) h k e =
      ap Possible (same_firm firm other h k (Possible firm) (Possible other) e refl refl)
  same_reason (SurplusIs surplus) (SurplusIs other) h k e =
      ap SurplusIs (same_integer surplus other (ap (part (codes "surplus")) e))
  same_reason (GainIs firm gain) (GainIs other gain') h k e =
      let firm_is = same_firm firm other h k (GainIs firm gain) (GainIs other gain') e refl refl in
      let gain_is = same_bound gain gain' (ap (part (codes "gain")) e) in
      λ i. GainIs (firm_is i) (gain_is i)
  same_reason (Exchange firm x y at) (Exchange other x' y' at') h k e =
      let firm_is = same_firm firm other h.0 k.0 (Exchange firm x y at) (Exchange other x' y' at') e refl refl in
      let at_is = same_option names.trades trades at at' h.1.at k.1.at (ap (part (codes "at")) e) in
      let x_is = same_names names.trades trades x x' h.1.x k.1.x (ap (part (codes "x")) e) in
      let y_is = same_names names.trades trades y y' h.1.y k.1.y (ap (part (codes "y")) e) in
      λ i. Exchange (firm_is i) (x_is i) (y_is i) (at_is i)
  same_reason Holds Holds h k e = refl
  same_reason (Arc index) (Arc other) h k e = ap Arc (ap (λ d. natural_in (part (codes "index") d)) e)
  same_reason (CostIs cost) (CostIs other) h k e = ap CostIs (same_integer cost other (ap (part (codes "cost")) e))
  same_reason (ContractIs trade) (ContractIs other) h k e =
      ap ContractIs (same_trade trade other h k (ContractIs trade) (ContractIs other) e refl refl)
  same_reason (OverIs over) (OverIs other) h k e = ap OverIs (same_integer over other (ap (part (codes "over")) e))
  same_reason (Price trade) (Price other) h k e =
      ap Price (same_trade trade other h k (Price trade) (Price other) e refl refl)
  same_reason Empty Empty h k e = refl
  same_reason (Signed trade) (Signed other) h k e =
      ap Signed (same_trade trade other h k (Signed trade) (Signed other) e refl refl)
  same_reason (Choice firm trade) (Choice other trade') h k e =
      let firm_is = same_firm firm other h.0 k.0 (Choice firm trade) (Choice other trade') e refl refl in
      let trade_is = same_trade trade trade' h.1 k.1 (Choice firm trade) (Choice other trade') e refl refl in
      λ i. Choice (firm_is i) (trade_is i)
  same_reason (Shares firm) (Shares other) h k e =
      ap Shares (same_firm firm other h k (Shares firm) (Shares other) e refl refl)
  same_reason (Balance trade) (Balance other) h k e =
      ap Balance (same_trade trade other h k (Balance trade) (Balance other) e refl refl)
  same_reason (Whole on surplus) (Whole on' surplus') h k e =
      let on_is = same_names names.trades trades on on' h k (ap (part (codes "on")) e) in
      let surplus_is = same_integer surplus surplus' (ap (part (codes "surplus")) e) in
      λ i. Whole (on_is i) (surplus_is i)
  same_reason first second h k e =
      absurd (reason_differs first second refl e)

abbrev solved_data : NameLists → Data → List ℤ → ℤ → Data
solved_data names on prices surplus =
    answer (codes "solved") (member (codes "on") on (member (codes "prices") (prices_data names.trades prices)
    (member (codes "surplus") (integer_data surplus) no_members)))

module _ (names : NameLists) (firms : IsNameList names.firms) (trades : IsNameList names.trades) where
  same_mark : (first second : Said) → answer_data names first ≡ answer_data names second
      → mark (answer_text first) ≡ mark (answer_text second)
  same_mark first second e =
      ap mark (sym (answer_says names first) ∙ ap (λ d. text_in (part (codes "answer") d)) e ∙ answer_says names second)

  differs : (first second : Said) → (mark (answer_text first) == mark (answer_text second)) ≡ false
      → answer_data names first ≡ answer_data names second → ⊥
  differs first second other e =
      clash (mark (answer_text first)) (mark (answer_text second)) other (same_mark first second e)

  -- what stands behind the trades that are on, or the counts
  same_solved : (prices : List ℤ) (surplus : ℤ) (prices' : List ℤ) (surplus' : ℤ) (on on' : Data)
      → solved_data names on prices surplus ≡ solved_data names on' prices' surplus'
      → (prices ≡ prices') × (surplus ≡ surplus')
  same_solved prices surplus prices' surplus' on on' e = (
    same_prices names.trades 0 prices prices' (ap (part (codes "prices")) e),
    same_integer surplus surplus' (ap (part (codes "surplus")) e),
  )

  -- an answer by trades beside one by counts
  better_alike : (firm : ℕ) (bundle : List ℕ) (gain : ℤ) (other : ℕ) (bundle' : List TradeUnits) (gain' : ℤ)
      → IsNamedAnswer names (Better firm bundle gain) → IsNamedAnswer names (BetterByCounts other bundle' gain')
      → answer_data names (Better firm bundle gain) ≡ answer_data names (BetterByCounts other bundle' gain')
      → IsSameByCounts (Better firm bundle gain) (BetterByCounts other bundle' gain')
  better_alike firm bundle gain other bundle' gain' h k e = (
    same_name names.firms firms firm other h.0 k.0 (ap (part (codes "firm")) e),
    bundle_alike names.trades bundle bundle' h.1 k.1 (ap (part (codes "bundle")) e),
    same_integer gain gain' (ap (part (codes "gain")) e),
  )

  cycle_alike : (nodes : List (Option ℕ)) (cost : ℤ) (steps : List (Option UnitStep)) (cost' : ℤ)
      → IsNamedAnswer names (Cycle nodes cost) → IsNamedAnswer names (CycleByCounts steps cost')
      → answer_data names (Cycle nodes cost) ≡ answer_data names (CycleByCounts steps cost')
      → IsSameByCounts (Cycle nodes cost) (CycleByCounts steps cost')
  cycle_alike nodes cost steps cost' h k e = (
    steps_alike names.trades nodes steps h k (ap (part (codes "nodes")) e),
    same_integer cost cost' (ap (part (codes "cost")) e),
  )

  solved_alike : (on : List ℕ) (prices : List ℤ) (surplus : ℤ) (ends : List Ends) (counts : List ℕ) (prices' : List ℤ)
      (surplus' : ℤ) (ends' : List Ends)
      → answer_data names (Solved on prices surplus ends) ≡ answer_data names (SolvedByCounts counts prices' surplus' ends')
      → IsSameByCounts (Solved on prices surplus ends) (SolvedByCounts counts prices' surplus' ends')
  solved_alike on prices surplus ends counts prices' surplus' ends' e =
      let nothing = nothing_goes names.trades on 0 counts (ap (part (codes "on")) e) in
      let rest = same_solved prices surplus prices' surplus' (names_data names.trades on)
      (counts_data names.trades counts) e in
      (nothing.0, nothing.1, rest.0, rest.1)

  ranged_alike : (on : List ℕ) (ranges : List Range) (ends : List Ends) (counts : List ℕ) (ranges' : List UnitRange)
      (ends' : List Ends)
      → IsNamedAnswer names (Ranges on ranges ends) → IsNamedAnswer names (RangesByCounts counts ranges' ends')
      → answer_data names (Ranges on ranges ends) ≡ answer_data names (RangesByCounts counts ranges' ends')
      → IsSameByCounts (Ranges on ranges ends) (RangesByCounts counts ranges' ends')
  ranged_alike on ranges ends counts ranges' ends' h k e =
      let nothing = nothing_goes names.trades on 0 counts (ap (part (codes "on")) e) in
      (nothing.0, nothing.1, ranges_alike names.trades ranges ranges' h.2 k.2 (ap (part (codes "ranges")) e))

  firms_alike : (content : ℕ) (told : List Holding) (surplus : Option ℤ) (content' : ℕ) (told' : List UnitHolding)
      (surplus' : Option ℤ)
      → IsNamedAnswer names (FirmsIs content told surplus) → IsNamedAnswer names (FirmsByCounts content' told' surplus')
      → answer_data names (FirmsIs content told surplus) ≡ answer_data names (FirmsByCounts content' told' surplus')
      → IsSameByCounts (FirmsIs content told surplus) (FirmsByCounts content' told' surplus')
  firms_alike content told surplus content' told' surplus' h k e = (
    ap (λ d. natural_in (part (codes "content") d)) e,
    holdings_alike names trades told told' h.1 k.1 (ap (part (codes "firms")) e),
    same_bound surplus surplus' (ap (part (codes "surplus")) e),
  )

  drops_alike : (firm : ℕ) (keeps : List ℕ) (gain : Option ℤ) (over : ℤ) (other : ℕ) (keeps' : List TradeUnits)
      (gain' : Option ℤ) (over' : ℤ)
      → IsNamedAnswer names (Drops firm keeps gain over) → IsNamedAnswer names (DropsByCounts other keeps' gain' over')
      → answer_data names (Drops firm keeps gain over) ≡ answer_data names (DropsByCounts other keeps' gain' over')
      → IsSameByCounts (Drops firm keeps gain over) (DropsByCounts other keeps' gain' over')
  drops_alike firm keeps gain over other keeps' gain' over' h k e = (
    same_name names.firms firms firm other h.0 k.0 (ap (part (codes "firm")) e),
    bundle_alike names.trades keeps keeps' h.1 k.1 (ap (part (codes "keeps")) e),
    same_bound gain gain' (ap (part (codes "gain")) e),
    same_integer over over' (ap (part (codes "over")) e),
  )

  completes_alike : (prices : List ℤ) (over : ℤ) (contracts : List Contract) (over' : ℤ)
      → IsNamedAnswer names (Completes prices over) → IsNamedAnswer names (CompletesByCounts contracts over')
      → answer_data names (Completes prices over) ≡ answer_data names (CompletesByCounts contracts over')
      → IsSameByCounts (Completes prices over) (CompletesByCounts contracts over')
  completes_alike prices over contracts over' h k e = (
    prices_alike names.trades trades 0 prices contracts (omega (arith, h)) k (ap (part (codes "prices")) e),
    same_integer over over' (ap (part (codes "over")) e),
  )

  -- of pages the text is told, of others the data
  pub same_object : (first second : Said) → IsNamedAnswer names first → IsNamedAnswer names second → HasShortNumbers first
      → HasShortNumbers second
      → form_text (answer_form names first) ≡ form_text (answer_form names second)
      → answer_data names first ≡ answer_data names second → IsSameObject names first second
  same_object Usage Usage h k short short' line e = refl
  same_object ReadFault ReadFault h k short short' line e = refl
  same_object NoMemory NoMemory h k short short' line e = refl
  same_object (FaultIs first) (FaultIs second) h k short short' line e =
      same_fault names.trades trades first second first.shown second.shown refl refl h.0 k.0 h.1 k.1 e
  same_object (Equilibrium y) (Equilibrium z) h k short short' line e =
      ap Equilibrium (same_integer y z (ap (part (codes "surplus")) e))
  same_object (Better firm bundle gain) (Better other bundle' gain') h k short short' line e =
      let same_bundle = same_names names.trades trades bundle bundle' h.1 k.1 (ap (part (codes "bundle")) e) in
      let same_firm = same_name names.firms firms firm other h.0 k.0 (ap (part (codes "firm")) e) in
      let same_gain = same_integer gain gain' (ap (part (codes "gain")) e) in
      λ i. Better (same_firm i) (same_bundle i) (same_gain i)
  same_object (BetterByCounts firm bundle gain) (BetterByCounts other bundle' gain') h k short short' line e =
      let same_bundle = same_entries names.trades trades bundle bundle' h.1 k.1 (ap (part (codes "bundle")) e) in
      let same_firm = same_name names.firms firms firm other h.0 k.0 (ap (part (codes "firm")) e) in
      let same_gain = same_integer gain gain' (ap (part (codes "gain")) e) in
      λ i. BetterByCounts (same_firm i) (same_bundle i) (same_gain i)
  same_object (Impossible firm) (Impossible other) h k short short' line e =
      ap Impossible (same_name names.firms firms firm other h k (ap (part (codes "firm")) e))
  same_object Accepted Accepted h k short short' line e = refl
  same_object (ExchangeFails firm x y at) (ExchangeFails other x' y' at') h k short short' line e =
      let same_at = same_option names.trades trades at at' h.1.at k.1.at (ap (part (codes "at")) e) in
      let same_firm = same_name names.firms firms firm other h.0 k.0 (ap (part (codes "firm")) e) in
      let same_x = same_names names.trades trades x x' h.1.x k.1.x (ap (part (codes "x")) e) in
      let same_y = same_names names.trades trades y y' h.1.y k.1.y (ap (part (codes "y")) e) in
      λ i. ExchangeFails (same_firm i) (same_x i) (same_y i) (same_at i)
  same_object (Supported on prices ends) (Supported on' prices' ends') h k short short' line e =
      same_prices names.trades 0 prices prices' (ap (part (codes "prices")) e)
  same_object (SupportedByCounts counts prices ends) (SupportedByCounts counts' prices' ends') h k short short' line e =
      same_prices names.trades 0 prices prices' (ap (part (codes "prices")) e)
  same_object (Cycle nodes cost) (Cycle others cost') h k short short' line e =
      let same_cost = same_integer cost cost' (ap (part (codes "cost")) e) in
      let same_list = same_nodes names.trades trades nodes others h k (ap (part (codes "nodes")) e) in
      λ i. Cycle (same_list i) (same_cost i)
  same_object (CycleByCounts nodes cost) (CycleByCounts others cost') h k short short' line e =
      let same_cost = same_integer cost cost' (ap (part (codes "cost")) e) in
      let same_list = same_steps names.trades trades nodes others h k (ap (part (codes "nodes")) e) in
      λ i. CycleByCounts (same_list i) (same_cost i)
  same_object (Solved on prices surplus ends) (Solved on' prices' surplus' ends') h k short short' line e =
      let same_on = same_names names.trades trades on on' h.0 k.0 (ap (part (codes "on")) e) in
      let rest = same_solved prices surplus prices' surplus' (names_data names.trades on)
      (names_data names.trades on') e in
      (same_on, rest.0, rest.1)
  same_object (SolvedByCounts counts prices surplus ends) (SolvedByCounts counts' prices' surplus' ends') h k short short'
      line e =
      let same_list = same_counts names.trades trades 0 counts counts' (h.0 ∙ sym k.0) (omega (arith, h.0))
      (ap (part (codes "on")) e) in
      let rest = same_solved prices surplus prices' surplus' (counts_data names.trades counts)
      (counts_data names.trades counts') e in
      (same_list, rest.0, rest.1)
  same_object (Drill size start firms surplus) (Drill size' start' firms' surplus') h k short short' line e =
      let same_size = ap (λ d. natural_in (part (codes "size") d)) e in
      let same_start = ap (λ d. natural_in (part (codes "start") d)) e in
      let same_firms = ap (λ d. natural_in (part (codes "firms") d)) e in
      let same_surplus = same_integer surplus surplus' (ap (part (codes "surplus")) e) in
      λ i. Drill (same_size i) (same_start i) (same_firms i) (same_surplus i)
  same_object (Ranges on ranges ends) (Ranges others other_ranges other_ends) h k short short' line e =
      let same_on = same_names names.trades trades on others h.0 k.0 (ap (part (codes "on")) e) in
      let same_list = same_ranges names.trades trades ranges other_ranges h.2 k.2 (ap (part (codes "ranges")) e) in
      (same_on, same_list)
  same_object (RangesByCounts counts ranges ends) (RangesByCounts counts' ranges' ends') h k short short' line e =
      let same_on = same_counts names.trades trades 0 counts counts' (h.0 ∙ sym k.0) (omega (arith, h.0))
      (ap (part (codes "on")) e) in
      let same_list = same_unit_ranges names.trades trades ranges ranges' h.2 k.2 (ap (part (codes "ranges")) e) in
      (same_on, same_list)
  same_object (Session edits) (Session others) h k short short' line e =
      ap Session (same_states names.trades trades edits others h k (ap (part (codes "edits")) e))
  same_object (SessionByCounts edits) (SessionByCounts others) h k short short' line e =
      ap SessionByCounts (same_unit_states names.trades trades edits others h k (ap (part (codes "edits")) e))
  same_object (DropsByCounts firm keeps gain over) (DropsByCounts other keeps' gain' over') h k short short' line e =
      let same_firm = same_name names.firms firms firm other h.0 k.0 (ap (part (codes "firm")) e) in
      let same_keeps = same_entries names.trades trades keeps keeps' h.1 k.1 (ap (part (codes "keeps")) e) in
      let same_gain = same_bound gain gain' (ap (part (codes "gain")) e) in
      let same_over = same_integer over over' (ap (part (codes "over")) e) in
      λ i. DropsByCounts (same_firm i) (same_keeps i) (same_gain i) (same_over i)
  same_object (CompletesByCounts prices over) (CompletesByCounts prices' over') h k short short' line e =
      let same_list = same_contracts names.trades trades prices prices' h k (ap (part (codes "prices")) e) in
      let same_over = same_integer over over' (ap (part (codes "over")) e) in
      λ i. CompletesByCounts (same_list i) (same_over i)
  same_object (Drops firm keeps gain over) (Drops other keeps' gain' over') h k short short' line e =
      let same_firm = same_name names.firms firms firm other h.0 k.0 (ap (part (codes "firm")) e) in
      let same_keeps = same_names names.trades trades keeps keeps' h.1 k.1 (ap (part (codes "keeps")) e) in
      let same_gain = same_bound gain gain' (ap (part (codes "gain")) e) in
      let same_over = same_integer over over' (ap (part (codes "over")) e) in
      λ i. Drops (same_firm i) (same_keeps i) (same_gain i) (same_over i)
  same_object (Completes prices over) (Completes prices' over') h k short short' line e =
      let same_list = same_prices names.trades 0 prices prices' (ap (part (codes "prices")) e) in
      let same_over = same_integer over over' (ap (part (codes "over")) e) in
      λ i. Completes (same_list i) (same_over i)
  same_object (Blocks contracts over) (Blocks contracts' over') h k short short' line e =
      let same_list = same_contracts names.trades trades contracts contracts' h k (ap (part (codes "contracts")) e) in
      let same_over = same_integer over over' (ap (part (codes "over")) e) in
      λ i. Blocks (same_list i) (same_over i)
  same_object Valid Valid h k short short' line e = refl
  same_object (Invalid reason) (Invalid other) h k short short' line e =
      ap Invalid (same_reason names firms trades reason other h k e)
  same_object (Cases count failed) (Cases count' failed') h k short short' line e =
      let same_count = ap (λ d. natural_in (part (codes "count") d)) e in
      let same_failed = same_numbers failed failed' (ap (part (codes "failed")) e) in
      λ i. Cases (same_count i) (same_failed i)
  same_object (FirmsIs content holdings surplus) (FirmsIs content' holdings' surplus') h k short short' line e =
      let same_content = ap (λ d. natural_in (part (codes "content") d)) e in
      let same_list = same_holdings names trades holdings holdings' h.1 k.1 (ap (part (codes "firms")) e) in
      let same_surplus = same_bound surplus surplus' (ap (part (codes "surplus")) e) in
      λ i. FirmsIs (same_content i) (same_list i) (same_surplus i)
  same_object (FirmsByCounts content holdings surplus) (FirmsByCounts content' holdings' surplus') h k short short'
      line e =
      let same_content = ap (λ d. natural_in (part (codes "content") d)) e in
      let same_list = same_unit_holdings names trades holdings holdings' h.1 k.1 (ap (part (codes "firms")) e) in
      let same_surplus = same_bound surplus surplus' (ap (part (codes "surplus")) e) in
      λ i. FirmsByCounts (same_content i) (same_list i) (same_surplus i)
  same_object (PageIs page) (PageIs other) h k short short' line e =
      ap PageIs (sym (page_is_at page) ∙ ap (λ text. page_at (key text)) line ∙ page_is_at other)
  same_object (Better f x u) (BetterByCounts g y v) h k short short' line e = better_alike f x u g y v h k e
  same_object (BetterByCounts g y v) (Better f x u) h k short short' line e = better_alike f x u g y v k h (sym e)
  same_object (Supported on prices ends) (SupportedByCounts counts prices' ends') h k short short' line e =
      same_prices names.trades 0 prices prices' (ap (part (codes "prices")) e)
  same_object (SupportedByCounts counts prices ends) (Supported on prices' ends') h k short short' line e =
      same_prices names.trades 0 prices' prices (ap (part (codes "prices")) (sym e))
  same_object (Cycle x c) (CycleByCounts y d) h k short short' line e = cycle_alike x c y d h k e
  same_object (CycleByCounts y d) (Cycle x c) h k short short' line e = cycle_alike x c y d k h (sym e)
  same_object (Solved x p s e) (SolvedByCounts y q t d) h k short short' line same = solved_alike x p s e y q t d same
  same_object (SolvedByCounts y q t d) (Solved x p s e) h k short short' line same =
      solved_alike x p s e y q t d (sym same)
  same_object (Ranges x r e) (RangesByCounts y s d) h k short short' line same = ranged_alike x r e y s d h k same
  same_object (RangesByCounts y s d) (Ranges x r e) h k short short' line same =
      ranged_alike x r e y s d k h (sym same)
  same_object (FirmsIs m x s) (FirmsByCounts n y t) h k short short' line e = firms_alike m x s n y t h k e
  same_object (FirmsByCounts n y t) (FirmsIs m x s) h k short short' line e = firms_alike m x s n y t k h (sym e)
  same_object (Session x) (SessionByCounts y) h k short short' line e =
      states_alike names.trades trades x y h k (ap (part (codes "edits")) e)
  same_object (SessionByCounts y) (Session x) h k short short' line e =
      states_alike names.trades trades x y k h (ap (part (codes "edits")) (sym e))
  same_object (Drops f x u d) (DropsByCounts g y v o) h k short short' line e = drops_alike f x u d g y v o h k e
  same_object (DropsByCounts g y v o) (Drops f x u d) h k short short' line e = drops_alike f x u d g y v o k h (sym e)
  same_object (Completes x d) (CompletesByCounts y o) h k short short' line e = completes_alike x d y o h k e
  same_object (CompletesByCounts y o) (Completes x d) h k short short' line e = completes_alike x d y o k h (sym e)
  same_object first second h k short short' line e =
      absurd (differs first second refl e)
