-- A word as it is printed. Assumes nothing.
use Rattle.std.specs.Prelude.{ℕ, ◌/◌, ◌%◌, true, List, [], ◌∷◌}
use Rattle.std.specs.Fmt.{digit_glyph}

-- A tab, and the word's four hex digits, as capitals.
abbrev pub spelled : ℕ → List ℕ
spelled word =
    9
    ∷ digit_glyph true (word / 4096 % 16)
    ∷ digit_glyph true (word / 256 % 16)
    ∷ digit_glyph true (word / 16 % 16)
    ∷ digit_glyph true (word % 16)
    ∷ []
