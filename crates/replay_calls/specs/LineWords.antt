-- The words of a line, and the numbers that they write.
use Rattle.std.specs.Prelude.{◌≡◌, refl, List, [], ◌∷◌, ℕ, zero, suc, ◌+◌, ◌*◌, ◌-◌, ◌<◌, eqb, ltb, length, take, drop, get_or, Option, Some, None}
use Rattle.definition.specs.Lists.{choose}
use Rattle.definition.specs.Names.{bytes}
use Rattle.definition.specs.Answers.{absent}

-- How many bytes stand before the first of a value, or all where there is none.
unfoldable pub length_before : ℕ → List ℕ → ℕ
length_before stop [] = 0
length_before stop (b ∷ bs) =
    let longer = suc (length_before stop bs) in
    choose (eqb b stop) 0 longer

-- How long the first word is: it ends at a space.
abbrev pub word_length : List ℕ → ℕ
word_length l = length_before 32 l

-- What follows so many words, each with the space behind it.
unfoldable pub after_words : ℕ → List ℕ → List ℕ
unfolding length_before
after_words zero l = l
after_words (suc k) l = after_words k (drop (suc (word_length l)) l)

-- Word k, counted from 0; empty where there is none.
unfoldable pub word_of : ℕ → List ℕ → List ℕ
unfolding after_words
word_of k l = take (word_length (after_words k l)) (after_words k l)

unfoldable pub spaces : List ℕ → ℕ
spaces [] = 0
spaces (b ∷ bs) = choose (eqb b 32) 1 0 + spaces bs

-- A number goes on with these digits. It has at most 18 of them.
unfoldable pub digits_from : ℕ → List ℕ → Option ℕ
digits_from n [] = Some n
digits_from n (b ∷ bs) =
    let longer = digits_from (10 * n + (b - 48)) bs in
    choose (ltb b 48) None (choose (ltb 57 b) None (choose (ltb 100000000000000000 n) None longer))

-- Decimal digits, or `-`.
unfoldable pub number_of : List ℕ → Option ℕ
unfolding digits_from
number_of [] = None
number_of (b ∷ []) = choose (eqb b 45) (Some absent) (digits_from 0 (b ∷ []))
number_of (b ∷ c ∷ bs) = digits_from 0 (b ∷ c ∷ bs)

-- The words of a line from word `from` on are the first `count` of the numbers.
abbrev pub HasNumbers : List ℕ → ℕ → ℕ → List ℕ → Type 0
HasNumbers line from count numbers = (i : ℕ) → i < count → number_of (word_of (from + i) line) ≡ Some (get_or numbers i 0)

-- The words of a line begin with these numbers.
abbrev pub BeginsWith : List ℕ → List ℕ → Type 0
BeginsWith line numbers = (i : ℕ) → i < length numbers → number_of (word_of i line) ≡ Some (get_or numbers i 0)

-- Examples: an empty word between two spaces, numbers, and what is none.
second_word : word_of 2 (bytes "type_field  n 0 2 - -") ≡ bytes "n"
unfolding word_of bytes
second_word = refl

empty_word : word_of 1 (bytes "type_field  n 0 2 - -") ≡ []
unfolding word_of bytes
empty_word = refl

last_number : number_of (word_of 6 (bytes "type_field  n 0 2 - -")) ≡ Some absent
unfolding word_of number_of bytes
last_number = refl

a_number : number_of (bytes "65536") ≡ Some 65536
unfolding number_of bytes
a_number = refl

no_number : number_of (bytes "6x") ≡ None
unfolding number_of bytes
no_number = refl
