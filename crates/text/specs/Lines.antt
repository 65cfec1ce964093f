-- The lines that pond prints, in ASCII. Definitions only.
use Rattle.std.specs.Prelude.{ℕ, zero, suc, ◌+◌, ◌/◌, ◌%◌, cond, List, [], ◌∷◌, ◌++◌, ltb, length, take, drop, Float}
use Rattle.std.specs.Float.{binary64}
use Rattle.std.specs.Float.Ieee.{to_bits}
use Rattle.io.specs.Digits.{hex_digit_ascii, last_digits}
use Rattle.text.specs.declared.Line.{Line}
use Rattle.text.specs.declared.Line.TheVariants.{Step, Refused}

-- n in decimal with no zero in front, of at most k + 1 digits
unfoldable pub decimal_up_to : ℕ → ℕ → List ℕ
decimal_up_to zero n = hex_digit_ascii n ∷ []
decimal_up_to (suc k) n = cond (ltb n 10) (hex_digit_ascii n ∷ []) (decimal_up_to k (n / 10) ++ (hex_digit_ascii (n % 10) ∷ []))

-- a number of 64 bits has at most 20 digits
unfoldable pub decimal : ℕ → List ℕ
decimal n = decimal_up_to 19 n

-- the bits of a double as 16 hexadecimal digits
unfoldable pub hexadecimal : Float → List ℕ
hexadecimal x = last_digits 16 16 (to_bits binary64 x)

abbrev pub space : List ℕ
space = 32 ∷ []

abbrev pub newline : List ℕ
newline = 10 ∷ []

-- a buffer with text from `at` on; its other bytes stay
unfoldable pub with_text : List ℕ → ℕ → List ℕ → List ℕ
with_text out at text = take at out ++ text ++ drop (at + length text) out

-- step number, time and state
unfoldable pub step_line : ℕ → Float → Float → List ℕ
step_line k time state = decimal k ++ space ++ hexadecimal time ++ space ++ hexadecimal state ++ newline

-- `refused` and a space
abbrev pub refused_word : List ℕ
refused_word = 114 ∷ 101 ∷ 102 ∷ 117 ∷ 115 ∷ 101 ∷ 100 ∷ 32 ∷ []

-- and the number
unfoldable pub refused_line : ℕ → List ℕ
refused_line k = refused_word ++ decimal k ++ newline

-- what a line prints
abbrev pub text_of : Line → List ℕ
text_of (Step k time state) = step_line k time state
text_of (Refused k) = refused_line k
