-- What the program prints.
use Rattle.std.specs.Prelude.{◌≡◌, refl, List, [], ◌∷◌, ◌++◌, ℕ, ◌+◌, ◌*◌, eqb, take, replicate, set}
use Rattle.definition.specs.Lists.{choose}
use Rattle.definition.specs.Names.{bytes}
use Rattle.definition.specs.Answers.{absent}
use Rattle.definition.specs.declared.Drawing.{Drawing}
use Rattle.program_io.specs.Text.{decimal}

-- A word of a row: its number, or `-`.
unfoldable pub word : ℕ → List ℕ
unfolding decimal
word w = choose (eqb w absent) (bytes "-") (decimal w)

-- Three words, one space between two, on a line.
unfoldable pub line : ℕ → ℕ → ℕ → List ℕ
unfolding word bytes
line a b c = word a ++ (bytes " " ++ (word b ++ (bytes " " ++ (word c ++ bytes "\n"))))

-- A line for each row of three words. Words past the last whole row are left out.
unfoldable pub lines : List ℕ → List ℕ
unfolding line
lines [] = []
lines (a ∷ []) = []
lines (a ∷ b ∷ []) = []
lines (a ∷ b ∷ c ∷ ws) = line a b c ++ lines ws

-- A title and two numbers on a line.
unfoldable pub counts : List ℕ → ℕ → ℕ → List ℕ
unfolding decimal bytes
counts title a b = title ++ (decimal a ++ (bytes " " ++ (decimal b ++ bytes "\n")))

-- `refused` and the refusal's two numbers.
unfoldable pub refused : ℕ → ℕ → List ℕ
unfolding counts
refused number card = counts (bytes "refused ") number card

-- The drawn rows under their count.
unfoldable pub rows_shown : ℕ → List ℕ → List ℕ
unfolding lines decimal bytes
rows_shown count rows = bytes "rows " ++ (decimal count ++ (bytes "\n" ++ lines (take (3 * count) rows)))

-- The errors, those while reading documents first, under both counts.
unfoldable pub errors_shown : ℕ → ℕ → List ℕ → List ℕ
unfolding lines counts
errors_shown reading drawing errors = counts (bytes "errors ") reading drawing ++ lines (take (3 * (reading + drawing)) errors)

-- What a drawing prints: its refusal, or rows and errors.
unfoldable pub listing : Drawing → List ℕ → List ℕ → List ℕ
unfolding rows_shown errors_shown refused
listing d rows errors =
    let shown = rows_shown d.rows rows ++ errors_shown d.reading_errors d.drawing_errors errors in
    choose (eqb d.number 0) shown (refused d.number 0)

-- The bytes that are room enough for a drawing of so many words of rows and errors: 33 for each line of three words, and two lines of counts.
abbrev pub listing_capacity : ℕ → ℕ
listing_capacity words = 11 * words + 75

-- The name of a numbered file: its folder, a stem, the number and an ending.
unfoldable pub file_name : List ℕ → List ℕ → ℕ → List ℕ → List ℕ
unfolding decimal
file_name folder stem n ending = folder ++ (stem ++ (decimal n ++ ending))

-- P1 of 01, with `00`.
drawing_P1 : Drawing
drawing_P1 = record { number = 0; rows = 5; reading_errors = 1; drawing_errors = 0; tallies = record { counts = set (replicate 16 0) 11 1; total = 1 } }

P1 : listing drawing_P1 (4 ∷ absent ∷ absent ∷ 5 ∷ 0 ∷ absent ∷ 6 ∷ 1 ∷ absent ∷ 22 ∷ 2 ∷ absent ∷ 22 ∷ 5 ∷ 4 ∷ []) (12 ∷ 3 ∷ 2 ∷ [])
    ≡ bytes "rows 5\n4 - -\n5 0 -\n6 1 -\n22 2 -\n22 5 4\nerrors 1 0\n12 3 2\n"
unfolding listing drawing_P1
P1 = refl
