-- How many of the firms so far gain nothing.
use Rattle.std.proofs.Common.{◌≡◌, count_by, take}
use Rattle.tn_unit_answers.specs.Firms.{is_content}
use Rattle.tn_unit_answers.proofs.firms.content_of.Given as goal

abbrev pub invariant-loop-told : goal.invariant-loop-told
invariant-loop-told l = l.content ≡ count_by is_content (take l.told-index l.holdings)
