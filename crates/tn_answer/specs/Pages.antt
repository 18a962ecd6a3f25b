-- The pages: what the program tells of itself.
use Rattle.std.specs.Prelude.{ℕ, List, [], ◌∷◌, ◌++◌, codes, flat_map}
use Rattle.tn_said.specs.declared.said.Page.{Page}
use Rattle.tn_said.specs.declared.said.Page.TheVariants.{Help, Version, About}
use Rattle.tn_answer.specs.Topics.{topic_lines}

-- each command with what it asks, and an example
abbrev pub help_lines : List (List ℕ)
help_lines =
    codes "market finds, checks and judges equilibria of trading networks."
    ∷ []
    ∷ codes "  check      Is the arrangement an equilibrium?"
    ∷ codes "             market check < examples/used-cars.json"
    ∷ codes "  firms      What does each firm earn, and what would it rather have?"
    ∷ codes "             market firms < examples/no-clearing-prices.json"
    ∷ codes "  test       Does every firm meet the exchange property?"
    ∷ codes "             market test < examples/complements.json"
    ∷ codes "  support    Which prices make the arrangement's trades an equilibrium?"
    ∷ codes "             market support < examples/one-trade.json"
    ∷ codes "  solve      Which trades and prices are an equilibrium? With --csv it writes rows."
    ∷ codes "             market solve --csv < examples/used-cars.json"
    ∷ codes "  range      How low and how high may each price be in an equilibrium?"
    ∷ codes "             market range < examples/used-cars.json"
    ∷ codes "  session    Which equilibria follow as trades and firms come and go?"
    ∷ codes "             market session < examples/used-cars-edits.json"
    ∷ codes "  judge      Would firms drop contracts of the outcome, or sign others?"
    ∷ codes "             market judge < examples/used-cars-signed.json"
    ∷ codes "  replay     Is the claim valid, and if not, why?"
    ∷ codes "             market replay < examples/claim-valid.json"
    ∷ codes "  drill      How much can trade bring in a network that is drawn from two numbers?"
    ∷ codes "             market drill 64 7"
    ∷ codes "  cases      Does this copy pass the cases that it carries?"
    ∷ codes "             market cases"
    ∷ codes "  help       What can be asked? With a command behind it: more of that one."
    ∷ codes "             market help solve"
    ∷ codes "  -h         The same."
    ∷ codes "             market -h"
    ∷ codes "  --help     The same."
    ∷ codes "             market --help"
    ∷ codes "  --version  Which program is this, and which kit proved it?"
    ∷ codes "             market --version"
    ∷ []
    ∷ codes "From check to replay a document is read from standard input; the others read nothing."
    ∷ codes "With --lines behind the command, as in market check --lines, each line is a document."
    ∷ codes "With --csv behind firms, support, solve or range the answer is rows, where it has some;"
    ∷ codes "in those of market solve --csv=wide stand the sellers and the buyers too."
    ∷ codes "The answer goes to standard output."
    ∷ []

-- the program's version, and the kit that proved it
abbrev pub version_lines : List (List ℕ)
version_lines = codes "market 2.1.0" ∷ codes "rattle-kit-13f logic dac8208d650f15bf" ∷ []

abbrev pub page_lines : Page → List (List ℕ)
page_lines Help = help_lines
page_lines Version = version_lines
page_lines (About topic) = topic_lines topic

-- lines as text, each with its line end
abbrev pub lines_text : List (List ℕ) → List ℕ
lines_text texts = flat_map (λ text. text ++ 10 ∷ []) texts
