-- The words of bytes, four at a time.
use Rattle.std.proofs.Common.{◌≡◌, refl, sym, ap, List, [], ◌∷◌, ℕ, zero, suc, ◌+◌, ◌*◌, ◌/◌, ◌<◌, ◌≤◌, length, arith}
use Rattle.std.specs.Int.{from_le_bytes, w32}
use Rattle.std.specs.Prelude.{map}
use Rattle.std.specs.Simd.{first_chunks}
use Rattle.program_io.specs.Input.{little_endian, words_of}

short_words : (s : List ℕ) → length s < 4 → words_of s ≡ []
unfolding words_of
short_words [] h = refl
short_words (a ∷ []) h = refl
short_words (a ∷ b ∷ []) h = refl
short_words (a ∷ b ∷ c ∷ []) h = refl
short_words (a ∷ b ∷ c ∷ d ∷ s) h = absurd (omega arith)

one_word : (a b c d : ℕ) → from_le_bytes w32 (a ∷ b ∷ c ∷ d ∷ []) ≡ little_endian a b c d
one_word a b c d = omega arith

chunks_words : (k : ℕ) (s : List ℕ) → 4 * k ≤ length s → length s < 4 * k + 4 → words_of s ≡ map (from_le_bytes w32) (first_chunks 4 k s)
unfolding words_of
chunks_words zero s h l = short_words s (omega arith)
chunks_words (suc k) [] h l = absurd (omega arith)
chunks_words (suc k) (a ∷ []) h l = absurd (omega arith)
chunks_words (suc k) (a ∷ b ∷ []) h l = absurd (omega arith)
chunks_words (suc k) (a ∷ b ∷ c ∷ []) h l = absurd (omega arith)
chunks_words (suc k) (a ∷ b ∷ c ∷ d ∷ s) h l =
    rw (sym (one_word a b c d)) (ap (λ (t : List ℕ). from_le_bytes w32 (a ∷ b ∷ c ∷ d ∷ []) ∷ t) (chunks_words k s (omega arith) (omega arith)))

pub all_words : (s : List ℕ) → words_of s ≡ map (from_le_bytes w32) (first_chunks 4 (length s / 4) s)
all_words s = chunks_words (length s / 4) s (omega arith) (omega arith)
