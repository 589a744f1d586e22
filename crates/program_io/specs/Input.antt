-- What is made of the bytes of files.
use Rattle.std.specs.Prelude.{◌≡◌, refl, List, [], ◌∷◌, ℕ, ◌+◌, ◌*◌, ◌/◌, ◌≤◌, vec_len}
use Rattle.program_io.specs.declared.input.documents.Document.{Document}

-- The bytes that a file of a document may have.
abbrev pub file_capacity : ℕ
file_capacity = 1048576

-- The text and the card words of a document that was read are all of two files that are not too large.
abbrev pub Lies : Document → Type 0
Lies d = (vec_len d.text ≤ file_capacity) × (vec_len d.cards ≤ file_capacity / 4)

-- Four bytes as a word, the lowest first, and the words of a file. Bytes past the last whole word are left out.
abbrev pub little_endian : ℕ → ℕ → ℕ → ℕ → ℕ
little_endian a b c d = a + 256 * b + 65536 * c + 16777216 * d

unfoldable pub words_of : List ℕ → List ℕ
words_of [] = []
words_of (a ∷ []) = []
words_of (a ∷ b ∷ []) = []
words_of (a ∷ b ∷ c ∷ []) = []
words_of (a ∷ b ∷ c ∷ d ∷ bs) = little_endian a b c d ∷ words_of bs

-- Three words of a card file.
three_words : words_of (6 ∷ 0 ∷ 0 ∷ 0 ∷ 0 ∷ 0 ∷ 0 ∷ 0 ∷ 19 ∷ 1 ∷ 0 ∷ 0 ∷ []) ≡ 6 ∷ 0 ∷ 275 ∷ []
unfolding words_of
three_words = refl
