-- Bytes as printable text.
use Rattle.std.specs.Prelude.{ℕ, ◌/◌, ◌%◌, cond, List, [], ◌∷◌, ◌==◌}
use Rattle.std.specs.Char.{digit_char}
use Rattle.std.specs.Int.{is_in_range}
use Rattle.std.specs.List.{flat_map}

-- a backslash, `x` and the byte's two hexadecimal digits
abbrev pub hex_escape : ℕ → List ℕ
hex_escape b = 92 ∷ 120 ∷ digit_char (b / 16) ∷ digit_char (b % 16) ∷ []

-- the backslash, byte 92, is written twice, and any other byte from 32 to 126 stands as it is
abbrev pub escape_byte : ℕ → List ℕ
escape_byte b = cond (b == 92) (92 ∷ 92 ∷ []) (cond (is_in_range 32 126 b) (b ∷ []) (hex_escape b))

-- the same of each byte in turn
abbrev pub escape : List ℕ → List ℕ
escape bytes = flat_map escape_byte bytes
