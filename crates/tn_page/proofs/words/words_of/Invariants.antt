-- What the loops of `words_of` of `src/words.rt` keep.
use Rattle.std.proofs.Common.{◌≡◌, map}
use Rattle.std.specs.Prelude.{string_bytes}
use Rattle.tn_page.proofs.words.words_of.Given as goal

-- the words are those that were yielded
abbrev pub invariant-loop-word : goal.invariant-loop-word
invariant-loop-word l = map string_bytes l.words.items ≡ map (λ word. word.now) l.yielded
