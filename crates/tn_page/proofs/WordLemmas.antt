-- Words in bytes that are UTF-8, and in bytes that aren't.
use Rattle.std.proofs.Common.{◌≡◌, ℕ, Bool, true, false, cond, List, [], refl, ap}
use Rattle.std.specs.List.{slice_split}
use Rattle.std.specs.Str.{IsUtf8, is_utf8}
use Rattle.std.proofs.lemmas.Str.{IsUtf8-from_is_utf8, is_utf8-from_IsUtf8}
use Rattle.std.specs.Prelude.{◌==◌}
use Rattle.tn_page.specs.Words.{words_in}

none_where_false : (test : Bool) (words : List (List ℕ)) → (test ≡ true → ⊥) → cond test words [] ≡ []
none_where_false true words isnt = absurd (isnt refl)
none_where_false false words isnt = refl

pub no_words : (bytes : List ℕ) → (IsUtf8 bytes → ⊥) → words_in bytes ≡ []
no_words bytes isnt = none_where_false (is_utf8 bytes) _ (λ is. isnt (IsUtf8-from_is_utf8 bytes is))

pub split_words : (bytes : List ℕ) → IsUtf8 bytes → words_in bytes ≡ slice_split (λ byte. byte == 0) bytes
split_words bytes is = ap (λ test. cond test (slice_split (λ byte. byte == 0) bytes) []) (is_utf8-from_IsUtf8 bytes is)
