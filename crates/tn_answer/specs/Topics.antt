-- The pages about commands: what each reads, an example, its answers, its words and its statuses.
use Rattle.std.specs.Prelude.{ℕ, List, [], ◌∷◌, codes}
use Rattle.tn_said.specs.declared.said.Topic.{Topic}
use Rattle.tn_said.specs.declared.said.Topic.TheVariants.{Check, Firms, Test, Support, Solve, Range, Session, Judge, Replay, Drill, Cases}

-- how each of these pages ends: what the other statuses mean
abbrev pub status_lines : List (List ℕ)
status_lines =
    []
    ∷ codes "Status 1: the document has a fault; 2: the words are no command; 3: reading failed;"
    ∷ codes "4: writing failed; 5: memory ran out."
    ∷ []

abbrev pub topic_lines : Topic → List (List ℕ)
topic_lines Check =
    codes "market check: Is the arrangement an equilibrium?"
    ∷ []
    ∷ codes "  Reads    a document with an arrangement: the trades that are on, and a price for each trade"
    ∷ codes "  Example  market check < examples/used-cars.json"
    ∷ codes "  Answers  equilibrium, with the surplus; or better, with the first firm that would rather have"
    ∷ codes "           another bundle, a best one, and what it gains; or impossible, with the first firm"
    ∷ codes "           that can't have its bundle"
    ∷ codes "  Words    --lines: each line is a document"
    ∷ codes "  Status   0 an equilibrium; 6 none"
    ∷ status_lines
topic_lines Firms =
    codes "market firms: What does each firm earn, and what would it rather have?"
    ∷ []
    ∷ codes "  Reads    a document with an arrangement; its tables may fail the exchange property"
    ∷ codes "  Example  market firms < examples/no-clearing-prices.json"
    ∷ codes "  Answers  firms: of each what it has, what that is worth to it, what it earns, a best bundle,"
    ∷ codes "           and what it would gain; and how many are content"
    ∷ codes "  Words    --csv: rows; --lines: each line is a document"
    ∷ codes "  Status   0 all firms are content; 6 one isn't"
    ∷ status_lines
topic_lines Test =
    codes "market test: Does every firm meet the exchange property?"
    ∷ []
    ∷ codes "  Reads    a document"
    ∷ codes "  Example  market test < examples/complements.json"
    ∷ codes "  Answers  accepted; or exchange_fails, with the first firm that doesn't, and where it fails"
    ∷ codes "  Words    --lines: each line is a document"
    ∷ codes "  Status   0 every firm does; 6 one doesn't"
    ∷ status_lines
topic_lines Support =
    codes "market support: Which prices make the arrangement's trades an equilibrium?"
    ∷ []
    ∷ codes "  Reads    a document with an arrangement, of which only the trades that are on count"
    ∷ codes "  Example  market support < examples/one-trade.json"
    ∷ codes "  Answers  prices, one for each trade; or cycle, which shows that there are none"
    ∷ codes "  Words    --csv: rows; --lines: each line is a document"
    ∷ codes "  Status   0 there are prices; 6 there are none"
    ∷ status_lines
topic_lines Solve =
    codes "market solve: Which trades and prices are an equilibrium?"
    ∷ []
    ∷ codes "  Reads    a document"
    ∷ codes "  Example  market solve < examples/used-cars.json"
    ∷ codes "  Answers  solved, with the trades that are on, a price for each trade, and the surplus"
    ∷ codes "  Words    --csv: rows; --csv=wide: rows with the sellers and the buyers;"
    ∷ codes "           --lines: each line is a document"
    ∷ codes "  Status   0 here is one: there always is"
    ∷ status_lines
topic_lines Range =
    codes "market range: How low and how high may each price be in an equilibrium?"
    ∷ []
    ∷ codes "  Reads    a document"
    ∷ codes "  Example  market range < examples/used-cars.json"
    ∷ codes "  Answers  ranges: of each trade the lowest and the highest price, null where there is no bound,"
    ∷ codes "           and the trades by which each bound comes about"
    ∷ codes "  Words    --csv: rows; --lines: each line is a document"
    ∷ codes "  Status   0 here they are: there always are some"
    ∷ status_lines
topic_lines Session =
    codes "market session: Which equilibria follow as trades and firms come and go?"
    ∷ []
    ∷ codes "  Reads    a document with edits: trades that are admitted or barred, firms that leave or join"
    ∷ codes "  Example  market session < examples/used-cars-edits.json"
    ∷ codes "  Answers  session: after each edit an equilibrium of the trades that can then be used"
    ∷ codes "  Words    --lines: each line is a document"
    ∷ codes "  Status   0 here they are: there always are some"
    ∷ status_lines
topic_lines Judge =
    codes "market judge: Would firms drop contracts of the outcome, or sign others?"
    ∷ []
    ∷ codes "  Reads    a document with an outcome: the contracts that are signed, and what their prices are"
    ∷ codes "           over"
    ∷ codes "  Example  market judge < examples/used-cars-signed.json"
    ∷ codes "  Answers  drops, with a firm that would rather keep only some of its contracts; or completes,"
    ∷ codes "           with prices at which the signed trades are an equilibrium; or blocks, with contracts"
    ∷ codes "           that their firms would rather sign"
    ∷ codes "  Words    --lines: each line is a document"
    ∷ codes "  Status   0 the outcome lasts; 6 it doesn't"
    ∷ status_lines
topic_lines Replay =
    codes "market replay: Is the claim valid, and if not, why?"
    ∷ []
    ∷ codes "  Reads    a document with a claim: an answer to it, whoever gave it"
    ∷ codes "  Example  market replay < examples/claim-valid.json"
    ∷ codes "  Answers  valid; or invalid, with the first condition that fails"
    ∷ codes "  Words    --lines: each line is a document"
    ∷ codes "  Status   0 the claim is valid; 6 it isn't"
    ∷ status_lines
topic_lines Drill =
    codes "market drill: How much can trade bring in a network that is drawn from two numbers?"
    ∷ []
    ∷ codes "  Reads    nothing"
    ∷ codes "  Example  market drill 64 7"
    ∷ codes "  Answers  drill, with the surplus of the network"
    ∷ codes "  Words    a size, from 1 to 64, and a start, from 0 to 2147483647"
    ∷ codes "  Status   0 here it is"
    ∷ status_lines
topic_lines Cases =
    codes "market cases: Does this copy pass the cases that it carries?"
    ∷ []
    ∷ codes "  Reads    nothing"
    ∷ codes "  Example  market cases"
    ∷ codes "  Answers  cases, with how many there are, and the numbers of those that fail"
    ∷ codes "  Words    none"
    ∷ codes "  Status   0 all pass; 6 one fails"
    ∷ status_lines
