-- The firms that the test has looked at.
use Rattle.std.proofs.Common.{◌≡◌, ℕ, ◌<◌, ◌≤◌, List, length, get_or, map, sym, ap, ◌∙◌, arith}
use Rattle.std.specs.Prelude.{Some, slice_get}
use Rattle.std.proofs.lemmas.Option.{slice_get-get_or}
use Rattle.std.proofs.lemmas.List.{length-map}
use Rattle.tn_firm.specs.declared.raw.RawFirm.{RawFirm}
use Rattle.tn_firm.specs.Raw.{raw_firm_of}
use Rattle.tn_cert.specs.Reasons.{MeetBefore}

-- the item that a loop looks at
pub item_there : (firms : List RawFirm) (i f : ℕ) (raw : RawFirm) → f ≡ i → i < length firms → raw ≡ get_or firms i raw
    → slice_get firms f ≡ Some raw
item_there firms i f raw same within is = ap (slice_get firms) same ∙ slice_get-get_or firms i raw within
    ∙ ap (λ (x : RawFirm). Some x) (sym is)

-- the firms that were looked at are all of them
pub all_meet : (firms all : List RawFirm) (f i : ℕ) → firms ≡ all → f ≡ i → length firms ≤ i
    → MeetBefore (map raw_firm_of firms) f
    → MeetBefore (map raw_firm_of all) (length (map raw_firm_of all))
all_meet firms all f i same counted done meet g firm less at =
    let count : length (map raw_firm_of all) ≡ length all = length-map all raw_firm_of in
    let as_many : length firms ≡ length all = ap length same in
    meet g firm (omega (arith, less, count, as_many, counted, done))
    (ap (λ (xs : List RawFirm). slice_get (map raw_firm_of xs) g) same ∙ at)
