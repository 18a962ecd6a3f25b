-- What `replay` says of the claim that a contract on the deal's trade blocks.
use Rattle.std.proofs.Common.{◌≡◌, ℕ, zero, suc, true, refl, sym, ap, ◌∙◌, arith, [], slice_get, length}
use Rattle.std.specs.Prelude.{pos, ◌*ℤ◌, Some}
use Rattle.std.proofs.lemmas.Bool.{false≢true}
use Rattle.std.proofs.lemmas.Option.{same_Some, none-some}
use Rattle.tn_base.specs.Sets.{has, sum_over, toggle, set_of}
use Rattle.tn_base.proofs.SetLemmas.{has-zero}
use Rattle.tn_exchange.specs.Rows.{worth_in}
use Rattle.tn_cert.specs.Reasons.{Refutes, IsFirstToLeave}
use Rattle.tn_commands.specs.Replay.{DecidesClaim}
use Rattle.tn_said.specs.Claim.{Claim, on_market}
use Rattle.tn_said.specs.declared.claim.MarketClaim.TheVariants.{Blocks as BlocksIs}
use Rattle.tn_model.specs.declared.contract.Contract.{Contract}
use Rattle.tn_model.specs.declared.contract.Outcome.{Outcome}
use Rattle.tn_said.specs.declared.reason.Reason.{Reason}
use Rattle.tn_said.specs.declared.reason.Reason.TheVariants.{Empty, Signed, Choice}
use Rattle.tn_said.specs.declared.said.Said.{Said}
use Rattle.tn_said.specs.declared.said.Said.TheVariants.{Valid, Invalid}
use Rattle.tn_model.specs.Choices.{IsChoice, together}
use Rattle.tn_case_laws.proofs.Decided.{all_below}
use Rattle.tn_case_laws.proofs.Deal.{asks_3, seller, deal_firms, deal_trades}
use Rattle.tn_case_laws.proofs.Judged.{at_9, choice_by, one_part}

abbrev pub unsigned : Outcome
unsigned = record { over = pos 1; contracts = [] }

abbrev pub blocks_claim : Claim
blocks_claim = on_market (BlocksIs unsigned at_9 (pos 3))

-- at the price 3 the seller may as well leave the contract
leaves : IsChoice deal_trades (pos 1 *ℤ pos 3) 0 (seller asks_3) (together (pos 3) at_9 (pos 1) []) 0
unfolding all_below has sum_over set_of worth_in toggle
leaves = choice_by deal_trades (pos 3) 0 (seller asks_3) at_9 0 (pos 0)
    (one_part deal_trades 0 (record { trade = 0; price = pos 9 }) refl 0 (omega arith)) refl refl

abbrev offer : Contract
offer = record { trade = 0; price = pos 9 }

pub is_left : DecidesClaim (deal_firms asks_3) deal_trades blocks_claim (Invalid (Choice 0 0))
is_left = (
  omega arith,
  λ k other e same. none-some same.contract same.is,
  record {
    before = λ g firm k other below is e own. absurd (omega (arith, below));
    firm = seller asks_3;
    is = refl;
    at = 0;
    offer = offer;
    offered = refl;
    trade = refl;
    own = refl;
    choice = 0;
    chosen = leaves;
    without = has-zero 0;
    earlier = λ k other e own below. absurd (omega (arith, below));
  },
)

taken : has 0 0 ≡ true → ⊥
taken e = false≢true (sym (has-zero 0) ∙ e)

trade_is : (k : ℕ) (other : Contract) → slice_get at_9 k ≡ Some other → other.trade ≡ 0
trade_is zero other e = ap (λ (c : Contract). c.trade) (sym (same_Some offer other e))
trade_is (suc k) other e = absurd (none-some other e)

first_left : (f t : ℕ) → IsFirstToLeave (deal_firms asks_3) deal_trades unsigned (pos 3) at_9 f t → (f ≡ 0) × (t ≡ 0)
first_left zero t first = (refl, sym first.trade ∙ trade_is first.at first.offer first.offered)
first_left (suc f) t first =
    absurd (taken (first.before 0 (seller asks_3) 0 offer (omega arith) refl refl refl 0 leaves))

only_reason : (reason : Reason) → Refutes (deal_firms asks_3) deal_trades blocks_claim reason → reason ≡ Choice 0 0
only_reason Empty none = let lengths = ap length none in absurd (omega (arith, lengths))
only_reason (Signed t) signed = absurd (none-some signed.same.contract signed.same.is)
only_reason (Choice f t) refuted = let known = first_left f t refuted.2 in let f_is = known.0 in let t_is = known.1 in
    λ i. Choice (f_is i) (t_is i)
only_reason reason refuted = absurd refuted

pub only_left : (said : Said) → DecidesClaim (deal_firms asks_3) deal_trades blocks_claim said
    → said ≡ Invalid (Choice 0 0)
only_left Valid valid = absurd (taken (valid.0.chosen 0 (seller asks_3) 0 refl leaves 0 offer refl refl))
only_left (Invalid reason) refuted = ap (λ r. Invalid r) (only_reason reason refuted)
only_left said decides = absurd decides
