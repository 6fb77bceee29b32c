-- The text of a number token, as an unsigned whole number of 64 bits.
use Rattle.std.proofs.Common.{◌≡◌, ℕ, ℤ, List, Bool, true, false, Some, None, option_and_then, option_map, ◌==◌, if◌then◌else◌, slice_index, drop, refl, sym, ap, ◌∙◌}
use Rattle.std.specs.Prelude.{◌^◌, ◌&&◌, nat_lt, nat_le, Float}
use Rattle.std.specs.Float.{binary64, float_is_finite}
use Rattle.fast_float.specs.Text.{minus, scan, digits_of, nearest, with_sign}
use Rattle.serde_json.specs.Data.{unsigned, negative, float, number}
use Rattle.serde_json.specs.Read.{number_of, number_from, is_integer}
use Rattle.log_text.specs.Numbers.{whole_number}
use Rattle.log_text.specs.Streams.{whole_in, whole_of}

below_zero : (b f : Bool) (n : ℤ) (x : Float) → None ≡ option_and_then whole_number (option_map number (if b then Some (negative n) else (if f then Some (float x) else None)))
below_zero true f n x = refl
below_zero false true n x = refl
below_zero false false n x = refl

above_zero : (b f : Bool) (n : ℕ) (x : Float) → (if b then Some n else None) ≡ option_and_then whole_number (option_map number (if b then Some (unsigned n) else (if f then Some (float x) else None)))
above_zero true f n x = refl
above_zero false true n x = refl
above_zero false false n x = refl

pub minus_none : (text : List ℕ) → (slice_index text 0 == minus) ≡ true → None ≡ whole_in text
unfolding number_of
minus_none text first =
    let p = scan (drop 1 text) in
    below_zero (is_integer p && nat_lt 0 (digits_of p) && nat_le (digits_of p) (2 ^ 63)) (float_is_finite (nearest binary64 true p)) (with_sign true (digits_of p)) (nearest binary64 true p)
    ∙ ap (λ b. option_and_then whole_number (option_map number (if b then number_from true p else number_from false (scan text)))) (sym first)

pub whole_scanned : (text : List ℕ) → (slice_index text 0 == minus) ≡ false → whole_of (scan text) ≡ whole_in text
unfolding number_of
whole_scanned text first =
    let p = scan text in
    above_zero (is_integer p && nat_lt (digits_of p) (2 ^ 64)) (float_is_finite (nearest binary64 false p)) (digits_of p) (nearest binary64 false p)
    ∙ ap (λ b. option_and_then whole_number (option_map number (if b then number_from true (scan (drop 1 text)) else number_from false p))) (sym first)
