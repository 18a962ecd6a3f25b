-- Lines of a source's bytes, from the pieces that are read.
use Rattle.std.proofs.Common.{◌≡◌, ℕ, ◌+◌, ◌-◌, ◌<◌, ◌≤◌, ◌==◌, Bool, false, true, cond, not, List, [], ◌∷◌, ◌++◌, length, take, drop, get_or, None, Some, refl, sym, ap, subst, ◌∙◌, ◌⊎◌, inl, inr, arith, append_assoc, append-nil, length-append, length-take, take-append-drop}
use Rattle.std.specs.Prelude.{⊤, Option, ◌≢◌, nat_lt, position, slice_range}
use Rattle.std.specs.List.{before_first, after_first, position_or_len}
use Rattle.std.proofs.KnownBytes.{Consumes-trans}
use Rattle.std.proofs.lemmas.Bool.{eqb-true, eqb-false, cases_lt, lt-ltb}
use Rattle.std.proofs.lemmas.Option.{same_Some}
use Rattle.std.proofs.lemmas.List.Folds.{length-prefix_len}
use Rattle.std.proofs.lemmas.List.{get_or-take, drop-drop, drop-take, take_all}
use Rattle.std.proofs.lemmas.List.Elements.{All-append, All-from_get_or}
use Rattle.std.proofs.lemmas.List.Sums.{split_at_first, fails_before_first, passes_at_first}
use Rattle.std.specs.Io.KnownBytes.{Consumes, IsAtEnd, prepend_known}
use Rattle.tn_io.specs.Lines.{AreNextLines, IsNextLine, IsUnbroken, PassesOver, TakesLines, TakesPart, most_turns}

-- the first bytes of what is read ahead are let go
pub skip_range : (piece : List ℕ) (from to count : ℕ) → count ≤ length (slice_range piece from to)
    → slice_range piece (from + count) to ≡ drop count (slice_range piece from to)
skip_range piece from to count within =
    let fits : to - from ≡ count + (to - (from + count)) =
    omega (arith, within, length-take (to - from) (drop from piece)) in
    ap (take (to - (from + count))) (sym (drop-drop count from piece))
    ∙ sym (drop-take count (to - (from + count)) (drop from piece))
    ∙ ap (λ (n : ℕ). drop count (take n (drop from piece))) (sym fits)

-- where the first line feed stands, or none
pub feed-Some : (bytes : List ℕ) (n : ℕ) → position (λ byte. byte == 10) bytes ≡ Some n
    → n ≡ position_or_len (λ byte. byte == 10) bytes
feed-Some bytes n found = by_case (nat_lt (position_or_len (λ byte. byte == 10) bytes) (length bytes)) found
  where
    by_case : (b : Bool) → cond b (Some (position_or_len (λ byte. byte == 10) bytes)) None ≡ Some n
        → n ≡ position_or_len (λ byte. byte == 10) bytes
    by_case true e = sym (same_Some _ _ e)
    by_case false e = absurd (cc e)

pub feed-le-length : (bytes : List ℕ) → position_or_len (λ byte. byte == 10) bytes ≤ length bytes
feed-le-length bytes = let n : ℕ = position_or_len (λ byte. byte == 10) bytes in
    let same : length (take n bytes) ≡ n = length-prefix_len (λ byte. not (byte == 10)) bytes in
    omega (arith, same, length-take n bytes)

pub feed-None : (bytes : List ℕ) → position (λ byte. byte == 10) bytes ≡ None
    → length bytes ≡ position_or_len (λ byte. byte == 10) bytes
feed-None bytes none = by_case (cases_lt (position_or_len (λ byte. byte == 10) bytes) (length bytes))
  where
    by_case : (position_or_len (λ byte. byte == 10) bytes < length bytes)
        ⊎ (length bytes ≤ position_or_len (λ byte. byte == 10) bytes)
        → length bytes ≡ position_or_len (λ byte. byte == 10) bytes
    by_case (inl less) =
        absurd (cc (ap (λ (b : Bool). cond b (Some (position_or_len (λ byte. byte == 10) bytes)) None)
        (sym (lt-ltb _ _ less)) ∙ none))
    by_case (inr more) = omega (arith, more, feed-le-length bytes)

abbrev pub before_feed : List ℕ → ℕ
before_feed bytes = position_or_len (λ byte. byte == 10) bytes

-- no line feed stands before the first
pub part-unbroken : (bytes : List ℕ) → IsUnbroken (take (before_feed bytes) bytes)
part-unbroken bytes = All-from_get_or (λ (byte : ℕ). byte ≢ 10) (take (before_feed bytes) bytes) 0
    (λ i below. let within : i < before_feed bytes = omega (arith, length-take (before_feed bytes) bytes) in
    λ is. eqb-false (get_or bytes i 0) 10 (fails_before_first (λ byte. byte == 10) bytes i 0 within)
    (sym (get_or-take (before_feed bytes) bytes i 0 within) ∙ is))

-- the bytes read ahead up to a line feed, and that line feed, are taken
pub Consumes-ended : (left : Option (List ℕ)) (bytes : List ℕ) → before_feed bytes < length bytes
    → Consumes (prepend_known bytes left) (prepend_known (drop (before_feed bytes + 1) bytes) left)
    (take (before_feed bytes) bytes ++ 10 ∷ [])
Consumes-ended None bytes within = tt
Consumes-ended (Some xs) bytes within =
    ap (λ l. l ++ xs) (split_at_first (λ byte. byte == 10) bytes 0 within
    ∙ ap (λ (byte : ℕ). before_first (λ byte. byte == 10) bytes ++ byte ∷ after_first (λ byte. byte == 10) bytes)
    (eqb-true (get_or bytes (before_feed bytes) 0) 10 (passes_at_first (λ byte. byte == 10) bytes 0 within)))
    ∙ append_assoc (take (before_feed bytes) bytes) (10 ∷ drop (before_feed bytes + 1) bytes) xs
    ∙ sym (append_assoc (take (before_feed bytes) bytes) (10 ∷ []) (drop (before_feed bytes + 1) bytes ++ xs))

-- the first bytes read ahead are taken
pub Consumes-front : (left : Option (List ℕ)) (bytes : List ℕ) (n : ℕ)
    → Consumes (prepend_known bytes left) (prepend_known (drop n bytes) left) (take n bytes)
Consumes-front None bytes n = tt
Consumes-front (Some xs) bytes n = ap (λ l. l ++ xs) (sym (take-append-drop n bytes))
    ∙ append_assoc (take n bytes) (drop n bytes) xs

-- the rest of a line after its first bytes
pub Passes-after : (a b c : Option (List ℕ)) (front line : List ℕ) → IsUnbroken front → Consumes a b front
    → PassesOver b c line → PassesOver a c (front ++ line)
Passes-after a b c front line plain taken passes = (
  All-append (λ (byte : ℕ). byte ≢ 10) front line plain passes.0,
  elim passes.1 [
    | inl ended ↦
        inl (subst (Consumes a c) (sym (append_assoc front line (10 ∷ [])))
        (Consumes-trans a b c front (line ++ 10 ∷ []) taken ended))
    | inr stopped ↦ inr (
      Consumes-trans a b c front line taken stopped.0,
      elim stopped.1 [ inl end ↦ inl end | inr many ↦ inr (omega (arith, many, length-append front line)) ],
    )
  ],
)

-- a line that is passed over is taken, where it isn't empty or a line feed ends it
pub Passes-TakesLines : (a b : Option (List ℕ)) (line : List ℕ) → 0 < length line → PassesOver a b line
    → TakesLines a b (line ∷ [])
Passes-TakesLines None b line some passes = tt
Passes-TakesLines (Some all) None line some passes =
    elim passes.1 [ inl ended ↦ absurd ended | inr stopped ↦ absurd stopped.0 ]
Passes-TakesLines (Some all) (Some rest) line some passes = λ few. elim passes.1 [
  | inl ended ↦ (rest, (passes.0, inl (ended ∙ append_assoc line (10 ∷ []) rest)), refl)
  | inr stopped ↦ elim stopped.1 [
    | inl end ↦ (rest, (passes.0, inr (stopped.0 ∙ ap (λ l. line ++ l) end ∙ append-nil line, not_empty, end)), refl)
    | inr many ↦ absurd (omega (arith, few, many, ap length stopped.0, length-append line rest))
  ]
]
  where
    not_empty : line ≢ []
    not_empty = λ empty. absurd (omega (arith, some, ap length empty))

-- a line that a line feed ends is taken, empty or not
pub ended-TakesLines : (a b : Option (List ℕ)) (line : List ℕ) → IsUnbroken line → Consumes a b (line ++ 10 ∷ [])
    → TakesLines a b (line ∷ [])
ended-TakesLines None b line plain taken = tt
ended-TakesLines (Some all) None line plain taken = absurd taken
ended-TakesLines (Some all) (Some rest) line plain taken =
    λ few. (rest, (plain, inl (taken ∙ append_assoc line (10 ∷ []) rest)), refl)

-- a line is at least a byte or a line feed
next-shorter : (all line rest : List ℕ) → IsNextLine all line rest → length rest < length all
next-shorter all line rest next = elim next.1 [
  | inl ended ↦ omega (arith, ap length ended, length-append line (10 ∷ rest))
  | inr last ↦ longer line last.1 (ap length last.0) (ap length last.2)
]
  where
    longer : (line : List ℕ) → line ≢ [] → length all ≡ length line → length rest ≡ 0 → length rest < length all
    longer [] some same none = absurd (some refl)
    longer (byte ∷ bytes) some same none = omega (arith, same, none)

-- as many lines as these stand in bytes as many as these, and more
pub lines-shorter : (all : List ℕ) (lines : List (List ℕ)) (rest : List ℕ) → AreNextLines all lines rest
    → length lines + length rest ≤ length all
lines-shorter all [] rest are = omega (arith, ap length are)
lines-shorter all (line ∷ lines) rest are = omega (
  arith,
  next-shorter all line are.0 are.1,
  lines-shorter are.0 lines rest are.2,
)

lines-append : (all : List ℕ) (xs ys : List (List ℕ)) (middle rest : List ℕ) → AreNextLines all xs middle
    → AreNextLines middle ys rest → AreNextLines all (xs ++ ys) rest
lines-append all [] ys middle rest first second = subst (λ (l : List ℕ). AreNextLines l ys rest) (sym first) second
lines-append all (line ∷ lines) ys middle rest first second =
    (first.0, first.1, lines-append first.0 lines ys middle rest first.2 second)

-- lines after lines
pub TakesLines-trans : (a b c : Option (List ℕ)) (xs ys : List (List ℕ)) → TakesLines a b xs → TakesLines b c ys
    → TakesLines a c (xs ++ ys)
TakesLines-trans None b c xs ys p q = tt
TakesLines-trans (Some all) None c xs ys p q = absurd p
TakesLines-trans (Some all) (Some middle) None xs ys p q = absurd q
TakesLines-trans (Some all) (Some middle) (Some rest) xs ys p q = λ few.
    lines-append all xs ys middle rest (p few) (q (omega (arith, few, lines-shorter all xs middle (p few))))

-- bytes that were told are told still
abbrev pub GoesOnTelling : Option (List ℕ) → Option (List ℕ) → Type 0
GoesOnTelling None after = ⊤
GoesOnTelling (Some bytes) None = ⊥
GoesOnTelling (Some bytes) (Some more) = ⊤

-- whether a source tells its bytes doesn't hang on what is read ahead
pub still_known : (ahead : List ℕ) (left : Option (List ℕ)) → GoesOnTelling (prepend_known ahead left) left
still_known ahead None = tt
still_known ahead (Some bytes) = tt

pub told_end : (known : Option (List ℕ)) → GoesOnTelling known (Some [])
told_end None = tt
told_end (Some bytes) = tt

-- the lines are more than few bytes have, so it is the same what is left
pub TakesLines-most : (a b c : Option (List ℕ)) (lines : List (List ℕ)) → TakesLines a b lines
    → most_turns ≤ length lines → GoesOnTelling b c → TakesLines a c lines
TakesLines-most None b c lines p many tells = tt
TakesLines-most (Some all) None c lines p many tells = absurd p
TakesLines-most (Some all) (Some rest) None lines p many tells = absurd tells
TakesLines-most (Some all) (Some rest) (Some bytes) lines p many tells =
    λ few. absurd (omega (arith, few, many, lines-shorter all lines rest (p few)))

-- nothing is left
pub TakesLines-end : (a b : Option (List ℕ)) (lines : List (List ℕ)) → TakesLines a b lines → IsAtEnd b
    → TakesLines a (Some []) lines
TakesLines-end None b lines p end = tt
TakesLines-end (Some all) None lines p end = absurd p
TakesLines-end (Some all) (Some rest) lines p end =
    λ few. subst (λ (bytes : List ℕ). AreNextLines all lines bytes) end (p few)

-- nothing more is taken
pub TakesLines-kept : (a b c : Option (List ℕ)) (lines : List (List ℕ)) → TakesLines a b lines → Consumes b c []
    → TakesLines a c lines
TakesLines-kept None b c lines p kept = tt
TakesLines-kept (Some all) None c lines p kept = absurd p
TakesLines-kept (Some all) (Some rest) None lines p kept = absurd kept
TakesLines-kept (Some all) (Some rest) (Some bytes) lines p kept =
    λ few. subst (λ (left : List ℕ). AreNextLines all lines left) kept (p few)

-- ---- what a loop passes over

-- so many turns passed over at least as many bytes of a line, and no line feed
pub record Passed (old now : Option (List ℕ)) (turns : ℕ) : Type 0 where
  pub line : List ℕ
  pub plain : IsUnbroken line
  pub taken : Consumes old now line
  pub many : turns ≤ length line

-- a read that fills what is read ahead takes nothing
after_fill : (a b c : Option (List ℕ)) (turns : ℕ) → Passed a b turns → Consumes b c [] → Passed a c turns
after_fill a b c turns passed filled = record {
  line = passed.line;
  plain = passed.plain;
  taken = subst (Consumes a c) (append-nil passed.line) (Consumes-trans a b c passed.line [] passed.taken filled);
  many = passed.many;
}

-- all that is read ahead, where no line feed stands in it
pub more_passed : (a b left : Option (List ℕ)) (bytes : List ℕ) (turns : ℕ) → Passed a b turns
    → Consumes b (prepend_known bytes left) [] → 0 < length bytes
    → length bytes ≤ before_feed bytes → Passed a (prepend_known (drop (before_feed bytes) bytes) left) (turns + 1)
more_passed a b left bytes turns passed filled some none =
    let now : Passed a (prepend_known bytes left) turns = after_fill a b (prepend_known bytes left) turns passed filled
    in
    record {
      line = now.line ++ take (before_feed bytes) bytes;
      plain = All-append (λ (byte : ℕ). byte ≢ 10) now.line (take (before_feed bytes) bytes) now.plain
          (part-unbroken bytes);
      taken = Consumes-trans a (prepend_known bytes left) (prepend_known (drop (before_feed bytes) bytes) left) now.line
          (take (before_feed bytes) bytes) now.taken (Consumes-front left bytes (before_feed bytes));
      many = omega (
        arith,
        now.many,
        some,
        none,
        length-append now.line (take (before_feed bytes) bytes),
        length-take (before_feed bytes) bytes,
      );
    }

-- a line feed is reached
pub passed_ended : (a b left : Option (List ℕ)) (bytes : List ℕ) (turns : ℕ) → Passed a b turns
    → Consumes b (prepend_known bytes left) [] → before_feed bytes < length bytes
    → (line : List ℕ) × PassesOver a (prepend_known (drop (before_feed bytes + 1) bytes) left) line
passed_ended a b left bytes turns passed filled within =
    let now : Passed a (prepend_known bytes left) turns = after_fill a b (prepend_known bytes left) turns passed filled
    in (
      now.line ++ take (before_feed bytes) bytes,
      Passes-after a (prepend_known bytes left) (prepend_known (drop (before_feed bytes + 1) bytes) left) now.line
          (take (before_feed bytes) bytes) now.plain now.taken
          (part-unbroken bytes, inl (Consumes-ended left bytes within)),
    )

-- ---- a read that fails

prepend_nil : (known : Option (List ℕ)) → prepend_known [] known ≡ known
prepend_nil None = refl
prepend_nil (Some xs) = refl

-- bytes are taken, and then nothing is read ahead
pub taken_off : (a b left : Option (List ℕ)) (line ahead : List ℕ) → Consumes a b line
    → Consumes b (prepend_known ahead left) [] → ahead ≡ [] → Consumes a left line
taken_off a b left line ahead taken filled none =
    let all : Consumes a (prepend_known ahead left) line =
    subst (Consumes a (prepend_known ahead left)) (append-nil line)
    (Consumes-trans a b (prepend_known ahead left) line [] taken filled) in
    subst (λ (known : Option (List ℕ)). Consumes a known line)
    (ap (λ (bytes : List ℕ). prepend_known bytes left) none ∙ prepend_nil left) all

-- the part of a line that was taken before
pub failed_part : (a b left : Option (List ℕ)) (line ahead : List ℕ) → IsUnbroken line → Consumes a b line
    → Consumes b (prepend_known ahead left) [] → ahead ≡ [] → TakesPart a left
failed_part a b left line ahead plain taken filled none =
    (line, plain, taken_off a b left line ahead taken filled none)

-- ---- one more part of a line

-- the part that a line feed ends
pub line_ended : (a b left : Option (List ℕ)) (line bytes : List ℕ) → IsUnbroken line → Consumes a b line
    → Consumes b (prepend_known bytes left) [] → before_feed bytes < length bytes
    → TakesLines a (prepend_known (drop (before_feed bytes + 1) bytes) left)
    ((line ++ take (before_feed bytes) bytes) ∷ [])
line_ended a b left line bytes plain taken filled within =
    let passes =
    Passes-after a (prepend_known bytes left) (prepend_known (drop (before_feed bytes + 1) bytes) left) line
    (take (before_feed bytes) bytes) plain
    (subst (Consumes a (prepend_known bytes left)) (append-nil line)
    (Consumes-trans a b (prepend_known bytes left) line [] taken filled))
    (part-unbroken bytes, inl (Consumes-ended left bytes within)) in
    ended-TakesLines a (prepend_known (drop (before_feed bytes + 1) bytes) left) (line
    ++ take (before_feed bytes) bytes) passes.0
    (subst (Consumes a (prepend_known (drop (before_feed bytes + 1) bytes) left))
    (sym (append_assoc line (take (before_feed bytes) bytes) (10 ∷ [])))
    (Consumes-trans a b (prepend_known (drop (before_feed bytes + 1) bytes) left) line (take (before_feed bytes) bytes
    ++ 10 ∷ []) taken
    (Consumes-trans b (prepend_known bytes left) (prepend_known (drop (before_feed bytes + 1) bytes) left) []
    (take (before_feed bytes) bytes ++ 10 ∷ []) filled (Consumes-ended left bytes within))))

-- the part that none ends
pub part_taken : (a b left : Option (List ℕ)) (line bytes : List ℕ) → Consumes a b line
    → Consumes b (prepend_known bytes left) [] → length bytes ≤ before_feed bytes
    → Consumes a (prepend_known (drop (before_feed bytes + 1) bytes) left) (line ++ take (before_feed bytes) bytes)
part_taken a b left line bytes taken filled none =
    let whole : take (before_feed bytes + 1) bytes ≡ take (before_feed bytes) bytes =
    take_all (before_feed bytes + 1) bytes (omega (arith, none)) ∙ sym (take_all (before_feed bytes) bytes none) in
    let front = subst (Consumes (prepend_known bytes left) (prepend_known (drop (before_feed bytes + 1) bytes) left))
    whole (Consumes-front left bytes (before_feed bytes + 1)) in
    Consumes-trans a b (prepend_known (drop (before_feed bytes + 1) bytes) left) line (take (before_feed bytes) bytes)
    taken
    (Consumes-trans b (prepend_known bytes left) (prepend_known (drop (before_feed bytes + 1) bytes) left) []
    (take (before_feed bytes) bytes) filled front)

pub part_plain : (line bytes : List ℕ) → IsUnbroken line → IsUnbroken (line ++ take (before_feed bytes) bytes)
part_plain line bytes plain =
    All-append (λ (byte : ℕ). byte ≢ 10) line (take (before_feed bytes) bytes) plain (part-unbroken bytes)

-- the bytes of a line so far, and the part that didn't go there
front_taken : (a b left : Option (List ℕ)) (line bytes : List ℕ) → Consumes a b line
    → Consumes b (prepend_known bytes left) []
    → Consumes a (prepend_known (drop (before_feed bytes) bytes) left) (line ++ take (before_feed bytes) bytes)
front_taken a b left line bytes taken filled =
    Consumes-trans a b (prepend_known (drop (before_feed bytes) bytes) left) line (take (before_feed bytes) bytes) taken
    (Consumes-trans b (prepend_known bytes left) (prepend_known (drop (before_feed bytes) bytes) left) []
    (take (before_feed bytes) bytes) filled (Consumes-front left bytes (before_feed bytes)))

-- a line that is not given: its bytes so far, the part that didn't go there, and what was passed over
pub line_stopped : (a b c left : Option (List ℕ)) (line bytes : List ℕ) → IsUnbroken line → Consumes a b line
    → Consumes b (prepend_known bytes left) []
    → 0 < before_feed bytes → (passed : List ℕ)
    × PassesOver (prepend_known (drop (before_feed bytes) bytes) left) c passed
    → (whole : List ℕ) × (length line + before_feed bytes ≤ length whole) × TakesLines a c (whole ∷ [])
line_stopped a b c left line bytes plain taken filled some passed =
    let front = front_taken a b left line bytes taken filled in
    let whole : List ℕ = (line ++ take (before_feed bytes) bytes) ++ passed.0 in
    let long : length line + before_feed bytes ≤ length ((line ++ take (before_feed bytes) bytes) ++ passed.0) =
    omega (
      arith,
      length-append (line ++ take (before_feed bytes) bytes) passed.0,
      length-append line (take (before_feed bytes) bytes),
      length-take (before_feed bytes) bytes,
      feed-le-length bytes,
    ) in (
      whole,
      long,
      Passes-TakesLines a c ((line ++ take (before_feed bytes) bytes) ++ passed.0) (omega (arith, some, long))
          (Passes-after a (prepend_known (drop (before_feed bytes) bytes) left) c (line
          ++ take (before_feed bytes) bytes) passed.0 (part_plain line bytes plain) front passed.1),
    )

-- a line whose rest wasn't read: its bytes so far, the part that didn't go there, and what was passed over
pub part_stopped : (a b c left : Option (List ℕ)) (line bytes : List ℕ) → IsUnbroken line → Consumes a b line
    → Consumes b (prepend_known bytes left) [] → TakesPart (prepend_known (drop (before_feed bytes) bytes) left) c
    → TakesPart a c
part_stopped a b c left line bytes plain taken filled part =
    let front = front_taken a b left line bytes taken filled in (
      (line ++ take (before_feed bytes) bytes) ++ part.0,
      All-append (λ (byte : ℕ). byte ≢ 10) (line ++ take (before_feed bytes) bytes) part.0
          (part_plain line bytes plain) part.1,
      Consumes-trans a (prepend_known (drop (before_feed bytes) bytes) left) c (line ++ take (before_feed bytes) bytes)
          part.0 front part.2,
    )
