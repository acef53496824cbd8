-- What document 01's program writes, as a function of the bytes on its standard input.
-- Document 01, "The growing table": "A program reads a term file of at most 65,536 bytes from standard input and writes the table, or the
-- line "refused N at R"; longer input, or a table over 65,536 bytes, gives "refused size".".
use Rattle.std.specs.Prelude.{cond, List, [], ◌∷◌, ◌++◌, ℕ, zero, suc, ◌+◌, ◌/◌, ◌%◌, eqb, ltb, length, take, replicate}
use Rattle.encode.specs.Encode.{Outcome, encode_of}

-- ── Numbers in decimal, without leading zeros
-- at most k digits
unfoldable pub digits : ℕ → ℕ → List ℕ
digits zero n = []
digits (suc k) n = cond (ltb n 10) [] (digits k (n / 10)) ++ ((48 + n % 10) ∷ [])

-- a number of 64 bits has at most 20
abbrev pub decimal : ℕ → List ℕ
decimal n = digits 20 n

-- ── Lines
-- "refused size" and the line's end
abbrev pub size_line : List ℕ
size_line = 114 ∷ 101 ∷ 102 ∷ 117 ∷ 115 ∷ 101 ∷ 100 ∷ 32 ∷ 115 ∷ 105 ∷ 122 ∷ 101 ∷ 10 ∷ []

-- "refused "
abbrev pub refused_word : List ℕ
refused_word = 114 ∷ 101 ∷ 102 ∷ 117 ∷ 115 ∷ 101 ∷ 100 ∷ 32 ∷ []

-- " at "
abbrev pub at_word : List ℕ
at_word = 32 ∷ 97 ∷ 116 ∷ 32 ∷ []

-- "refused N at R" and the line's end
unfoldable pub refused_line : ℕ → ℕ → List ℕ
refused_line number index = refused_word ++ (decimal number ++ (at_word ++ (decimal index ++ (10 ∷ []))))

-- 14 is a table over the output's 65,536 bytes
unfoldable pub line_of : ℕ → ℕ → List ℕ
line_of number index = cond (eqb number 14) size_line (refused_line number index)

-- ── The program
-- the table, or the line
unfoldable pub printed : Outcome → List ℕ
printed o = cond (eqb o.answer.number 0) (take o.answer.length o.output) (line_of o.answer.number o.answer.index)

unfoldable pub empty_output : List ℕ
empty_output = replicate 65536 0

unfoldable pub program_of : List ℕ → List ℕ
program_of input = cond (ltb 65536 (length input)) size_line (printed (encode_of input empty_output))
