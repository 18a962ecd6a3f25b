-- What `support` and `solve` say of a document is a valid claim on it.
use Rattle.std.proofs.Common.{◌≡◌, ◌≢◌, ℕ, zero, suc, ◌+◌, ◌<◌, ◌≤◌, ℤ, pos, ◌+ℤ◌, Bool, true, false, ◌&&◌, ◌⊎◌, List, [], ◌∷◌, map, length, slice_get, Option, Some, None, Ok, inl, inr, refl, sym, ap, subst, ◌∙◌, arith}
use Rattle.std.specs.Prelude.{All, IfSome, cond, nat_le, nat_lt, option_and_then, option_map}
use Rattle.std.proofs.lemmas.Bool.{cases_eq, eq-eqb, ne_eqb}
use Rattle.std.proofs.lemmas.List.{length-map}
use Rattle.std.proofs.lemmas.List.Elements.{All-head}
use Rattle.std.proofs.lemmas.Option.{none-some, slice_get_within}
use Rattle.serde_json.specs.Data.{Data}
use Rattle.tn_base.specs.Arcs.{IsAtMost}
use Rattle.tn_model.specs.Limits.{most_number}
use Rattle.tn_base.specs.Firm.{Firm, IsBest}
use Rattle.tn_base.specs.Sets.{has, set_of, toggle}
use Rattle.tn_base.specs.Walks.{walk_cost}
use Rattle.tn_base.proofs.SetLemmas.{has-set_of}
use Rattle.tn_cert.specs.Claims.{GoesRound, node_of}
use Rattle.tn_cycle.proofs.WalkLemmas.{AreApart, apart_from_different, few_apart, walk_inside}
use Rattle.tn_said.specs.Claim.{on_market}
use Rattle.tn_said.specs.declared.claim.MarketClaim.TheVariants.{Cycle as CycleClaim, Impossible as ImpossibleClaim, Solved as SolvedClaim, Supported as SupportedClaim}
use Rattle.tn_model.specs.declared.ends.Ends.{Ends}
use Rattle.tn_said.specs.declared.said.Said.{Said}
use Rattle.tn_said.specs.declared.said.Said.TheVariants.{Cycle, Impossible, Solved, Supported}
use Rattle.tn_model.specs.Prices.{price_at}
use Rattle.tn_market.specs.Equilibrium.{IsEquilibrium, surplus_from, surplus_of, utility_at}
use Rattle.tn_market.specs.Graph.{arc_between, exchange_arc, loss_at, lowered, raised}
use Rattle.tn_model.specs.Network.{IsNetwork, own, part, trades_on}
use Rattle.tn_market.specs.Supported.{IsFirstUnable, IsNegativeCycle, said_node}
use Rattle.tn_network_laws.proofs.RoundLemmas.{cycle_avoids}
use Rattle.tn_price.proofs.CycleLemmas.{arcs_between, nodes_inside}
use Rattle.tn_answer.specs.AnswerText.{answer_data}
use Rattle.tn_replay_laws.specs.Fits.{FitsClaim}
use Rattle.tn_read_parts.specs.Arranged.{trades_on_of}
use Rattle.tn_commands.specs.Solve.{Solves}
use Rattle.tn_commands.specs.Support.{SupportsSet}
use Rattle.tn_file.specs.declared.command.Command.TheVariants.{Solve, Support}
use Rattle.tn_file.specs.Document.{DocumentData, on_alone}
use Rattle.tn_replay_laws.specs.Laws.{SolutionsReplay, SupportsReplay}
use Rattle.tn_replay_laws.specs.Replayed.{IsReplayed, with_claim}
use Rattle.tn_replay_laws.proofs.CheckedLemmas.{IsReadFrom, are_read, read_from, replayed, there}
use Rattle.tn_replay_laws.proofs.ClaimLemmas.{cycle_back, impossible_back, solved_back, supported_back}
use Rattle.tn_replay_laws.proofs.DocumentLemmas.{listed_in}
use Rattle.tn_read_head.proofs.ListingLeads.{listed_leads}
use Rattle.tn_replay_laws.proofs.ExtraLemmas.{on_read}
use Rattle.tn_replay_laws.proofs.Frame.{trades_on_other}

-- ---- cycles

-- no arc leads from a node to itself: a trade has two different firms
no_loop : (firms : List Firm) (trades : List Ends) → ((t : ℕ) (trade : Ends) → slice_get trades t ≡ Some trade
    → trade.seller ≢ trade.buyer) → (on u : ℕ) (cost : ℤ)
    → exchange_arc firms trades on u u ≡ Some cost → ⊥
unfolding exchange_arc
no_loop firms trades different on u cost e =
    by_node (slice_get trades u) refl (nat_le u (length trades) && nat_le u (length trades)) e
  where
    two : (trade : Ends) (is_on : Bool) → trade.seller ≢ trade.buyer
        → arc_between firms trades on (Some (raised trade is_on)) (Some (lowered trade is_on)) ≡ Some cost → ⊥
    two trade true apart e =
        none-some cost
        (ap (λ b. cond b (loss_at firms trades on trade.seller
        (λ x. toggle (toggle x trade.at_seller) trade.at_buyer)) None) (sym (ne_eqb trade.seller trade.buyer apart))
        ∙ e)
    two trade false apart e =
        none-some cost
        (ap (λ b. cond b (loss_at firms trades on trade.buyer
        (λ x. toggle (toggle x trade.at_buyer) trade.at_seller)) None)
        (sym (ne_eqb trade.buyer trade.seller (λ same. apart (sym same)))) ∙ e)

    by_node : (o : Option Ends) → slice_get trades u ≡ o → (b : Bool)
        → cond b (arc_between firms trades on (option_map (λ trade. raised trade (has on u)) o)
        (option_map (λ trade. lowered trade (has on u)) o)) None ≡ Some cost → ⊥
    by_node o at false e = none-some cost e
    by_node None at true e = none-some cost e
    by_node (Some trade) at true e = two trade (has on u) (different u trade at) e

-- nodes that are said are read as the nodes that they are
nodes_round : (n : ℕ) (nodes : List ℕ) → map (node_of n) (map (said_node n) nodes) ≡ nodes
nodes_round n [] = refl
nodes_round n (v ∷ nodes) = λ i. one (cases_eq v n) i ∷ nodes_round n nodes i
  where
    one : (v ≡ n) ⊎ (v ≢ n) → node_of n (said_node n v) ≡ v
    one (inl same) = ap (λ b. node_of n (cond b None (Some v))) (eq-eqb v n same) ∙ sym same
    one (inr other) = ap (λ b. node_of n (cond b None (Some v))) (ne_eqb v n other)

module _ (firms : List Firm) (trades : List Ends) (network : IsNetwork firms trades) (on : ℕ) (nodes : List (Option ℕ))
    (cost : ℤ) (cycle : IsNegativeCycle firms trades on nodes cost) where
  counted : length nodes ≡ suc (length cycle.rest)
  counted = ap length cycle.nodes_are ∙ length-map (cycle.first ∷ cycle.rest) (said_node (length trades))

  pub nodes_least : 2 ≤ length nodes
  nodes_least = let more = some cycle.rest cycle.cycle.walk in let count = counted in omega (arith, more, count)
    where
      some : (rest : List ℕ) → walk_cost (exchange_arc firms trades on) cycle.first rest cycle.first ≡ Some cost
          → 1 ≤ length rest
      some [] walk = absurd (no_loop firms trades network.apart on cycle.first cost walk)
      some (v ∷ rest) walk = omega arith

  first_inside : (cycle.first ≡ length trades) ⊎ All (λ v. (cycle.first ≤ v)
      × (v < length trades)) (cycle.first ∷ cycle.rest) → cycle.first < length trades + 1
  first_inside (inl last) = omega (arith, last)
  first_inside (inr all) = let here = (All-head (λ v. (cycle.first ≤ v)
      × (v < length trades)) cycle.first cycle.rest all).1 in omega (arith, here)

  pub nodes_most : length nodes ≤ length trades + 1
  unfolding AreApart
  nodes_most =
      let inside =
      walk_inside (length trades + 1) (exchange_arc firms trades on) (arcs_between firms trades on) cycle.first
      cycle.rest cycle.first cost cycle.cycle.walk in
      let few = few_apart (length trades + 1) cycle.first cycle.rest (first_inside cycle.begins) inside
      (cycle_avoids cycle.first cycle.rest cycle.cycle.different)
      (apart_from_different (cycle.first ∷ cycle.rest) cycle.cycle.different).1 in
      let count = counted in
      omega (arith, few, count)

  pub goes_round : GoesRound (exchange_arc firms trades on) (map (node_of (length trades)) nodes) cost
  goes_round =
      subst (λ vs. GoesRound (exchange_arc firms trades on) vs cost)
      (sym (ap (map (node_of (length trades))) cycle.nodes_are
      ∙ nodes_round (length trades) (cycle.first ∷ cycle.rest))) cycle.cycle.walk

-- ---- `support`

module _ (top : Data) (doc : DocumentData) (on : ℕ) (from : IsReadFrom Support top doc) (extra : doc.extra
    ≡ on_alone on) where
  on_there : (value : Data) → trades_on_of doc.names.trades (with_claim value top) ≡ Ok on
  on_there value = trades_on_other doc.names.trades value top
      ∙ on_read (listed_in from.parts.limits doc) top on (from.parts.extra ∙ ap Ok extra)

  unable_replays : (f : ℕ) → IsFirstUnable doc.firms doc.ends on f → IsReplayed top doc (Impossible f)
  unable_replays f is =
      let said = Impossible f in
      let value = answer_data doc.names said in
      replayed Support top doc from said (on_market (ImpossibleClaim on f)) refl
      (impossible_back (listed_in from.parts.limits doc) doc.firms (are_read Support top doc from) (with_claim value top) on
      f (slice_get_within doc.firms f is.firm is.is) (there Support top doc from said) (on_there value))
      (is.firm, is.is, is.impossible)

  supported_replays : (listed : List ℕ) (prices : List ℤ) (ends : List Ends)
      → SupportsSet doc.firms doc.ends on (Supported listed prices ends) → FitsClaim (Supported listed prices ends)
      → IsReplayed top doc (Supported listed prices ends)
  supported_replays listed prices ends supports within =
      let said = Supported listed prices ends in
      let value = answer_data doc.names said in
      replayed Support top doc from said (on_market (SupportedClaim on prices)) refl
      (supported_back (listed_in from.parts.limits doc) doc.firms (are_read Support top doc from) (with_claim value top) on
      prices (supports.0.one_each ∙ sym from.is.trades_named) within
      (there Support top doc from said) (on_there value))
      supports.0.equilibrium

  cycle_replays : (nodes : List (Option ℕ)) (cost : ℤ) → IsNegativeCycle doc.firms doc.ends on nodes cost
      → FitsClaim (Cycle nodes cost) → IsReplayed top doc (Cycle nodes cost)
  cycle_replays nodes cost cycle within =
      let said = Cycle nodes cost in
      let value = answer_data doc.names said in
      let known = subst (λ n. All (λ node. IfSome node (λ t. t < n)) nodes) (sym from.is.trades_named)
      (nodes_inside doc.firms doc.ends on nodes cost cycle) in
      let most = nodes_most doc.firms doc.ends from.is.network on nodes cost cycle in
      let few = ((listed_leads top).at (listed_in from.parts.limits doc, from.parts.items) from.parts.listed).trades.few
      in
      let enough = (are_read Support top doc from).limits.enough_nodes in
      replayed Support top doc from said (on_market (CycleClaim on nodes cost)) refl
      (cycle_back (listed_in from.parts.limits doc) doc.firms (are_read Support top doc from) (with_claim value top) on nodes
      cost known (nodes_least doc.firms doc.ends from.is.network on nodes cost cycle)
      (omega (arith, most, few, enough)) within (there Support top doc from said) (on_there value))
      (cycle.possible, goes_round doc.firms doc.ends from.is.network on nodes cost cycle, cycle.negative)

supported : (top : Data) (doc : DocumentData) (on : ℕ) (said : Said) → IsReadFrom Support top doc → doc.extra ≡ on_alone on
    → SupportsSet doc.firms doc.ends on said → FitsClaim said → IsReplayed top doc said
supported top doc on (Impossible f) from extra supports within = unable_replays top doc on from extra f supports.0
supported top doc on (Supported listed prices ends) from extra supports within =
    supported_replays top doc on from extra listed prices ends supports within
supported top doc on (Cycle nodes cost) from extra supports within =
    cycle_replays top doc on from extra nodes cost supports.0 within
supported top doc on said from extra supports within = absurd supports

pub supports_replay : SupportsReplay
supports_replay top doc on said read extra supports within =
    supported top doc on said (read_from Support top doc read) extra supports within

-- ---- `solve`

set_of-same : (p q : ℕ → Bool) (n : ℕ) → ((k : ℕ) → k < n → p k ≡ q k) → set_of p n ≡ set_of q n
unfolding set_of
set_of-same p q zero same = refl
set_of-same p q (suc n) same =
    let front = set_of-same p q n (λ k below. same k (omega (arith, below))) in
    let here = same n (omega arith) in
    λ i. cond (here i) (toggle (front i) n) (front i)

-- of a set only the members that are trades count
module _ (firms : List Firm) (trades : List Ends) (network : IsNetwork firms trades) (set : ℕ) where
  abbrev trades_in : ℕ
  trades_in = set_of (has set) (length trades)

  part-same : (f : ℕ) (firm : Firm) → slice_get firms f ≡ Some firm
      → part trades f firm.count set ≡ part trades f firm.count trades_in
  part-same f firm is =
      set_of-same (λ k. has set (own trades f k)) (λ k. has trades_in (own trades f k)) firm.count (λ k below.
      let less : nat_lt (own trades f k) (length trades) ≡ true = let inside = network.whole f k firm is below in
      grind (arith, inside) in
      sym (has-set_of (has set) (length trades) (own trades f k) ∙ ap (λ b. b && has set (own trades f k)) less))

  pub equilibrium-same : (scale : ℤ) (prices : ℕ → ℤ) → IsEquilibrium firms trades scale set prices
      → IsEquilibrium firms trades scale trades_in prices
  equilibrium-same scale prices equilibrium f firm is =
      let best = equilibrium f firm is in
      (best.0, subst (λ x. IsBest (utility_at trades scale prices f firm) x best.0) (part-same f firm is) best.1)

surplus_from-same : (trades : List Ends) (a b f : ℕ) (firms : List Firm)
    → ((g : ℕ) (firm : Firm) → slice_get firms g ≡ Some firm
    → part trades (f + g) firm.count a ≡ part trades (f + g) firm.count b)
    → surplus_from trades a f firms ≡ surplus_from trades b f firms
surplus_from-same trades a b f [] same = refl
surplus_from-same trades a b f (firm ∷ firms) same =
    let this : part trades f firm.count a ≡ part trades f firm.count b = let e : f + 0 ≡ f = omega arith in
    subst (λ g. part trades g firm.count a ≡ part trades g firm.count b) e (same 0 firm refl) in
    let rest = surplus_from-same trades a b (f + 1) firms (λ g other is.
    let e : f + suc g ≡ f + 1 + g = omega arith in
    subst (λ h. part trades h other.count a ≡ part trades h other.count b) e (same (suc g) other is)) in
    λ i. option_and_then (λ worth. option_map (λ rest. worth +ℤ rest) (rest i)) (firm.worth (this i))

pub surplus-same : (firms : List Firm) (trades : List Ends) → IsNetwork firms trades → (set : ℕ)
    → surplus_of firms trades set ≡ surplus_of firms trades (set_of (has set) (length trades))
surplus-same firms trades network set =
    surplus_from-same trades set (set_of (has set) (length trades)) 0 firms (λ g firm is.
    let e : g ≡ 0 + g = omega arith in
    subst (λ f. part trades f firm.count set ≡ part trades f firm.count (set_of (has set) (length trades))) e
    (part-same firms trades network set g firm is))

module _ (top : Data) (doc : DocumentData) (from : IsReadFrom Solve top doc) where
  set_replays : (set : ℕ) (prices : List ℤ) (surplus : ℤ) (ends : List Ends) → length prices ≡ length doc.ends
      → IsEquilibrium doc.firms doc.ends (pos 1) set (price_at prices)
      → surplus_of doc.firms doc.ends set ≡ Some surplus
      → All (λ z. IsAtMost z most_number) prices → IsAtMost surplus most_number
      → IsReplayed top doc (Solved (trades_on set (length doc.names.trades)) prices surplus ends)
  set_replays set prices surplus ends one_each equilibrium is small_prices small =
      let said = Solved (trades_on set (length doc.names.trades)) prices surplus ends in
      let value = answer_data doc.names said in
      replayed Solve top doc from said (on_market (SolvedClaim (record {
        on =
            set_of (has set) (length doc.names.trades);
        prices = prices;
      }) surplus)) refl
      (solved_back (listed_in from.parts.limits doc) doc.firms (are_read Solve top doc from) (with_claim value top) set
      prices surplus (one_each ∙ sym from.is.trades_named) small_prices small (there Solve top doc from said)) (
        subst (λ n. IsEquilibrium doc.firms doc.ends (pos 1) (set_of (has set) n) (price_at prices))
            (sym from.is.trades_named) (equilibrium-same doc.firms doc.ends from.is.network set (pos 1)
            (price_at prices) equilibrium),
        subst (λ n. surplus_of doc.firms doc.ends (set_of (has set) n) ≡ Some surplus) (sym from.is.trades_named)
            (sym (surplus-same doc.firms doc.ends from.is.network set) ∙ is),
      )

solved : (top : Data) (doc : DocumentData) (said : Said) → IsReadFrom Solve top doc → Solves doc.firms doc.ends said
    → FitsClaim said → IsReplayed top doc said
solved top doc (Solved on prices surplus ends) from is within =
    subst (λ l. IsReplayed top doc (Solved l prices surplus ends)) (ap (trades_on is.0.set) from.is.trades_named
    ∙ sym is.0.on_is)
    (set_replays top doc from is.0.set prices surplus ends is.0.one_each is.0.equilibrium is.0.surplus_is within.0
    within.1)
solved top doc said from is within = absurd is

pub solutions_replay : SolutionsReplay
solutions_replay top doc said read solves within = solved top doc said (read_from Solve top doc read) solves within
