-- What shows the clauses of `are_served_contracts` of `src/contracts.rt`.
use Rattle.std.proofs.Common.{ℕ, List, length, get_or, pos, refl, ap, arith}
use Rattle.std.proofs.lemmas.Option.{slice_get-get_or}
use Rattle.tn_tree.specs.Lists.{count_in}
use Rattle.tn_unit_judge.proofs.FreeLemmas.{left_first, left_within, served_last, served_more}
use Rattle.tn_unit_judge.proofs.contracts.are_served_contracts.Goals as goal
use Rattle.tn_unit_judge.proofs.contracts.are_served_contracts.Goals.{then-not-has_small_price-via-then-not-has_small_price, then-not-has_small_price-via-else-not-has_small_price+then-not-is_left}

pub loop-contract-init : goal.loop-contract-init
loop-contract-init c = record {
  left = left_first c.args.trades.now c.args.contracts.now c.in_ok-free.free.items c.in_ok-free.ensures;
  each = λ k contract before at. absurd (omega (arith, before));
}

pub returns-then-not-has_small_price-clause-no : goal.returns-then-not-has_small_price-clause-no
returns-then-not-has_small_price-clause-no c same served =
    let contract = get_or c.args.contracts.now c.loop-contract.contract-index
    (record { trade = 0; units = 0; price = pos 0 }) in
    let at = slice_get-get_or c.args.contracts.now c.loop-contract.contract-index
    (record { trade = 0; units = 0; price = pos 0 }) c.loop-contract-test.true in
    let known = served.together.known c.loop-contract.contract-index contract at in
    elim c.then-not-has_small_price.branch [
      | then-not-has_small_price-via-then-not-has_small_price w ↦
          c.has_small_price.ensures.no w.if-not-has_small_price.true (served.small c.loop-contract.contract-index contract at)
      | then-not-has_small_price-via-else-not-has_small_price+then-not-is_left w ↦
          let long = c.loop-contract.invariant.left.one_each in
          let read = ap length w.deref.ensures.value in
          let enough = left_within c.args.trades.now c.args.contracts.now c.loop-contract.contract-index
          c.loop-contract.free.items contract served.together.within refl c.loop-contract-test.true known
          c.loop-contract.invariant.left in
          let units = ap (λ (xs : List ℕ). count_in xs contract.trade) w.deref.ensures.value in
          w.is_left.ensures.no w.if-not-is_left.true (omega (arith, known, long, read)) (omega (arith, enough, units))
    ]

pub loop-contract-preserved : goal.loop-contract-preserved
loop-contract-preserved c =
    let contract = get_or c.args.contracts.now c.loop-contract.contract-index
    (record { trade = 0; units = 0; price = pos 0 }) in
    let read = ap length c.deref.ensures.value in
    let units = ap (λ (xs : List ℕ). count_in xs contract.trade) c.deref.ensures.value in
    let known = c.is_left.ensures.known c.if-not-is_left.false in
    let within = c.is_left.ensures.within c.if-not-is_left.false in
    served_more c.args.trades.now c.args.contracts.now c.loop-contract.contract-index c.loop-contract.free.items
    c.take_off.new.free.items contract refl c.loop-contract-test.true (omega (arith, known, read))
    (omega (arith, within, units)) (c.has_small_price.ensures.yes c.if-not-has_small_price.false) c.loop-contract.invariant
    c.take_off.ensures

pub returns-clause-yes : goal.returns-clause-yes
returns-clause-yes c same =
    served_last c.args.trades.now c.args.contracts.now c.loop-contract.contract-index c.loop-contract.free.items
    (let few = c.if-contracts-gt-MOST_CONTRACTS.false in omega (arith, few)) c.loop-contract-test.false
    c.loop-contract.invariant
