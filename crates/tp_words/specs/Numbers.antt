-- Numbers as decimal digits.
use Rattle.std.specs.Prelude.{ℕ, ◌^◌, ◌<◌, Bool, ◌&&◌, nat_le, nat_lt, ◌==◌, List, length, slice_index, Option, Some, None, option_and_then, if◌then◌else◌}
use Rattle.std.specs.List.{list_all}
use Rattle.std.specs.Char.{is_ascii_digit}
use Rattle.std.specs.Str.Parse.{digits_value}

-- a number that fits in 32 bits
abbrev pub IsNumber : ℕ → Type 0
IsNumber n = n < 2 ^ 32

-- 1 to `most` digits
abbrev pub is_digits : ℕ → List ℕ → Bool
is_digits most text = nat_le 1 (length text) && nat_le (length text) most && list_all is_ascii_digit text

-- the number that 1 to `most` digits write; zeros may stand in front
unfoldable pub digits_of : ℕ → List ℕ → Option ℕ
digits_of most text = if is_digits most text then Some (digits_value 10 text) else None

-- a zero stands in front of another digit
abbrev pub has_leading_zero : List ℕ → Bool
has_leading_zero text = nat_lt 1 (length text) && (slice_index text 0 == 48)

-- the number below 2 ^ 32 that digits without leading zeros write
unfoldable pub number_of : List ℕ → Option ℕ
number_of text = if has_leading_zero text then None else option_and_then (λ n. if nat_lt n (2 ^ 32) then Some n else None) (digits_of 10 text)
